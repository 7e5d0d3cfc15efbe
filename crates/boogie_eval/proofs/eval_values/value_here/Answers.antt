use Rattle.std.proofs.Common.{◌≡◌, refl, sym, ap, ◌∙◌, subst, Some, slice_get}
use Rattle.std.proofs.lemmas.Option.{slice_get_read}
use Rattle.std.specs.Cmp.{Equal-is}
use Rattle.sparse.specs.Map.{borrowed}
use Rattle.vb_value.specs.Key.{key_cmp}
use Rattle.vb_value.proofs.KeyLaws.{same_from_key_cmp}
use Rattle.boogie_eval.proofs.BorrowedLaws.{borrowed_here}
use Rattle.boogie_eval.proofs.eval_values.value_here.Goals as goal

pub returns-then-eq : goal.returns-then-eq
returns-then-eq c =
    let item = c.in_ok-entry.ensures.lookup in
    let entry = c.in_ok-entry.entry.now in
    let key = c.args.key.now in
    let there = borrowed_here c.deref.result.now c.args.at entry (slice_get_read c.deref.result.now _ c.args.at entry refl item.3.0 item.1) in
    let same = same_from_key_cmp entry.now.0 key ((Equal-is (key_cmp entry.now.0 key)).0 (sym c.eq.ensures ∙ c.if-eq.true)) in
    subst (λ xs. slice_get (borrowed xs) c.args.at ≡ Some entry.now) c.deref.ensures.value there ∙ ap (λ k. Some (k, entry.now.1)) same
