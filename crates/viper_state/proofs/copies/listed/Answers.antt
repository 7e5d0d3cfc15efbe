use Rattle.std.proofs.Common.{◌≡◌, sym, subst, true}
use Rattle.std.specs.Map.{keys_of}
use Rattle.sparse.specs.Map.{borrowed}
use Rattle.viper_state.specs.Loose.{is_listed}
use Rattle.viper_state.proofs.LooseLaws.{take_past, listed_next}
use Rattle.viper_state.proofs.copies.listed.Goals as goal

pub loop-entry-preserved : goal.loop-entry-preserved
loop-entry-preserved g c = λ k h.
    subst (λ ks. is_listed g.K.Ord.cmp ks k ≡ true) (sym c.in_ok-push.ensures.items)
    (listed_next g.K.Ord.cmp g.met.K.Ord.total c.args.entries.now c.loop-entry.entry-index c.entry-item.result c.loop-entry.list.items c.in_ok-clone.field-0 c.loop-entry-test.true c.entry-item.is
    (c.requires c.entry-item.result.now.0 c.in_ok-clone.field-0 c.in_ok-clone.ensures.cases) c.loop-entry.invariant k h)

pub returns : goal.returns
returns g c = λ k h.
    c.loop-entry.invariant k (subst (λ es. is_listed g.K.Ord.cmp (keys_of (borrowed es)) k ≡ true) (sym (take_past c.args.entries.now _ c.loop-entry-test.false)) h)
