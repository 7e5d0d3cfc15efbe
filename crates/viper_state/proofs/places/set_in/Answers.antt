use Rattle.std.proofs.Common.{refl, ap, ◌∙◌, slice_set}
use Rattle.lemmas.proofs.Lists.{set_there}
use Rattle.viper_state.proofs.LooseLaws.{on_err}
use Rattle.std.proofs.lemmas.Option.{slice_get_read, slice_get_past}
use Rattle.viper_state.proofs.MapLaws.{one_changed, none_changed}
use Rattle.viper_state.proofs.places.set_in.Goals as goal

pub returns-in_ok-set-in-Some-clause-found : goal.returns-in_ok-set-in-Some-clause-found
returns-in_ok-set-in-Some-clause-found g c =
    let item = c.in-Some.ensures.item in
    rw (slice_get_read c.args.maps.now.items _ c.args.number c.in-Some.map.now refl item.3.0 item.1) refl

pub returns-in_ok-set-in-Some-clause-changed : goal.returns-in_ok-set-in-Some-clause-changed
returns-in_ok-set-in-Some-clause-changed g c =
    let item = c.in-Some.ensures.item in
    let there = slice_get_read c.args.maps.now.items _ c.args.number c.in-Some.map.now refl item.3.0 item.1 in
    one_changed g.met.K.Ord.total g.met.V.Eq.laws c.args.maps.now.items c.args.number c.in-Some.map.now c.set.new.self c.args.key c.args.value there
    c.in_ok-set-in-Some.ensures.changed

pub returns-in-None-clause-found : goal.returns-in-None-clause-found
returns-in-None-clause-found g c = rw (slice_get_past c.args.maps.now.items c.args.number c.in-None.ensures.item.3) refl

pub returns-in-None-clause-changed : goal.returns-in-None-clause-changed
returns-in-None-clause-changed g c =
    none_changed g.met.K.Ord.total g.met.V.Eq.laws c.args.maps.now.items c.args.number c.args.key c.args.value (slice_get_past c.args.maps.now.items c.args.number c.in-None.ensures.item.3)

pub returns-in_err-set-in-Some-clause-refused : goal.returns-in_err-set-in-Some-clause-refused
returns-in_err-set-in-Some-clause-refused g c =
    let item = c.in-Some.ensures.item in
    let maps = c.args.maps.now.items in
    let same = c.in_err-set-in-Some.ensures.refused in
    on_err c.from_residual.result (ap (slice_set maps c.args.number) same ∙ set_there maps c.args.number c.in-Some.map.now (slice_get_read maps _ c.args.number c.in-Some.map.now refl item.3.0 item.1))
