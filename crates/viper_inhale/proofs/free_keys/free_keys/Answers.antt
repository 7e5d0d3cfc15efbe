use Rattle.std.proofs.Common.{refl, sym, subst, Contains, ◌∙◌}
use Rattle.std.specs.Prelude.{filter}
use Rattle.std.specs.Map.{keys_of}
use Rattle.sparse.specs.Map.{borrowed}
use Rattle.viper_inhale.specs.Free.{is_free}
use Rattle.viper_inhale.proofs.FreeLaws.{key_pushed, key_skipped, filter_takes, filter_skips}
use Rattle.viper_inhale.proofs.free_keys.free_keys.Goals as goal
use Rattle.viper_inhale.proofs.free_keys.free_keys.Goals.{then-is_free+in_ok-push, else-is_free}

pub is_free-requires-clause-stands : goal.is_free-requires-clause-stands
is_free-requires-clause-stands g c = λ t.
    let k = c.entry-item.result.now.0 in
    c.in_ok-all.ensures.within k (subst (λ es. Contains (keys_of (borrowed es)) k) c.deref.ensures.value (c.sought-after.ensures t))

pub loop-entry-preserved : goal.loop-entry-preserved
loop-entry-preserved g c =
    let test = is_free g.K.Ord.cmp c.args.held.now in
    let entries = c.as_slice-entry-items.result.now in
    let i = c.loop-entry.entry-index in
    let e = c.entry-item.result in
    elim c.if-is_free.branch [
      | then-is_free+in_ok-push w ↦ rw w.list-is (key_pushed (filter test) entries i e _ c.loop-entry-test.true c.entry-item.is c.loop-entry.list.items w.push.new.self.items _
          (filter_takes test e.now.0 (sym c.is_free.ensures ∙ w.if-is_free.true)) w.in_ok-push.ensures.items refl c.loop-entry.invariant)
      | else-is_free w ↦ rw w.list-is (key_skipped (filter test) entries i e _ c.loop-entry-test.true c.entry-item.is c.loop-entry.list.items
          (filter_skips test e.now.0 (sym c.is_free.ensures ∙ w.if-is_free.false)) c.loop-entry.invariant)
    ]
