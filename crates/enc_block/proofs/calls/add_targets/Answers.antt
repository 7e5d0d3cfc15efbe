use Rattle.std.proofs.Common.{◌∙◌, ◌+◌, ◌++◌, ℕ, List, map, drop, get_or, sym, ap, append-nil}
use Rattle.lemmas.proofs.Lists.{next_number}
use Rattle.enc_expr.specs.Place.{number}
use Rattle.enc_expr.proofs.EmittedParts.{dropped_all}
use Rattle.enc_block.specs.View.{home_of}
use Rattle.enc_locals.proofs.NumberLaws.{item_more}
use Rattle.enc_block.proofs.calls.add_targets.Goals as goal

pub loop-target-preserved : goal.loop-target-preserved
loop-target-preserved c =
    let vars = (home_of c.args.home.now).vars in let i = c.loop-target.target-index in let targets = c.args.targets.now in
    item_more c.loop-target.locals.items (map (number vars) (drop (i + 1) targets)) c.in_ok-add.ensures (c.number.ensures ∙ ap (λ xs. number xs (get_or targets i 0)) c.deref.ensures.value)
    (ap (λ (xs : List ℕ). c.loop-target.locals.items ++ map (number vars) xs) (sym (next_number targets i c.loop-target-test.true)) ∙ c.loop-target.invariant)

pub returns : goal.returns
returns c =
    sym (append-nil c.loop-target.locals.items) ∙ ap (λ (xs : List ℕ). c.loop-target.locals.items ++ map (number (home_of c.args.home.now).vars) xs) (sym (dropped_all c.loop-target.target-index c.args.targets.now c.loop-target-test.false))
    ∙ c.loop-target.invariant
