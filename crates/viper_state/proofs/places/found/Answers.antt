use Rattle.std.proofs.Common.{refl}
use Rattle.std.proofs.lemmas.Option.{slice_get_read, slice_get_past}
use Rattle.viper_state.proofs.places.found.Goals as goal

pub returns : goal.returns
returns g c =
    let item = c.in_ok-get.ensures.lookup in
    rw (slice_get_read c.args.maps.now _ c.args.number c.in_ok-get.field-0.now refl item.3.0 item.1, c.get-2.ensures.value) refl

pub returns-in_err-get : goal.returns-in_err-get
returns-in_err-get g c = rw (slice_get_past c.args.maps.now c.args.number c.in_err-get.ensures.lookup.3, c.from_residual.ensures) refl
