use Rattle.std.proofs.Common.{refl, sym, subst, ◌≡◌, true}
use Rattle.std.proofs.lemmas.Option.{slice_get_read, slice_get_past}
use Rattle.viper_state.specs.Loose.{is_listed, lists_of}
use Rattle.viper_state.proofs.LooseLaws.{kept_same, kept_by, noted_by, none_noted, listed_more, listed_last}
use Rattle.viper_state.proofs.places.note.Goals as goal

pub returns-in_err-copy-clause-kept : goal.returns-in_err-copy-clause-kept
returns-in_err-copy-clause-kept g c = kept_same g.K.Ord.cmp (lists_of c.args.lists.now.items)

pub returns-in_err-push-in-Some-clause-kept : goal.returns-in_err-push-in-Some-clause-kept
returns-in_err-push-in-Some-clause-kept g c =
    let item = c.in-Some.ensures.item in
    kept_by g.K.Ord.cmp c.args.lists.now.items c.args.number c.in-Some.list.now c.push.new.self (slice_get_read c.args.lists.now.items _ c.args.number c.in-Some.list.now refl item.3.0 item.1)
    (λ k h. subst (λ ks. is_listed g.K.Ord.cmp ks k ≡ true) (sym c.in_err-push-in-Some.ensures.items) h)

pub returns-in_ok-push-in-Some-clause-kept : goal.returns-in_ok-push-in-Some-clause-kept
returns-in_ok-push-in-Some-clause-kept g c =
    let item = c.in-Some.ensures.item in
    kept_by g.K.Ord.cmp c.args.lists.now.items c.args.number c.in-Some.list.now c.push.new.self (slice_get_read c.args.lists.now.items _ c.args.number c.in-Some.list.now refl item.3.0 item.1)
    (λ k h. subst (λ ks. is_listed g.K.Ord.cmp ks k ≡ true) (sym c.in_ok-push-in-Some.ensures.items) (listed_more g.K.Ord.cmp c.in-Some.list.now.items c.in_ok-copy.copy k h))

pub returns-in_ok-push-in-Some-clause-noted : goal.returns-in_ok-push-in-Some-clause-noted
returns-in_ok-push-in-Some-clause-noted g c =
    let item = c.in-Some.ensures.item in
    let k = c.args.key.now in
    noted_by g.K.Ord.cmp c.args.lists.now.items c.args.number c.in-Some.list.now c.push.new.self (slice_get_read c.args.lists.now.items _ c.args.number c.in-Some.list.now refl item.3.0 item.1) k
    (subst (λ ks. is_listed g.K.Ord.cmp ks k ≡ true) (sym c.in_ok-push-in-Some.ensures.items) (listed_last g.K.Ord.cmp c.in-Some.list.now.items c.in_ok-copy.copy k (c.requires k c.in_ok-copy.copy c.in_ok-copy.ensures.cases)))

pub returns-in-None-clause-kept : goal.returns-in-None-clause-kept
returns-in-None-clause-kept g c = kept_same g.K.Ord.cmp (lists_of c.args.lists.now.items)

pub returns-in-None-clause-noted : goal.returns-in-None-clause-noted
returns-in-None-clause-noted g c = none_noted g.K.Ord.cmp c.args.lists.now.items c.args.number c.args.key.now (slice_get_past c.args.lists.now.items c.args.number c.in-None.ensures.item.3)
