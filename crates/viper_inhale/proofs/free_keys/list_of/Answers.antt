use Rattle.std.proofs.Common.{refl, ap, ◌∙◌}
use Rattle.std.specs.Option.{option_map}
use Rattle.std.proofs.lemmas.Option.{slice_get-map, slice_get_read}
use Rattle.viper_inhale.proofs.free_keys.list_of.Goals as goal

pub returns-in-Some : goal.returns-in-Some
returns-in-Some g c =
    let item = c.in-Some.ensures.lookup in
    slice_get-map (λ v. v.items) c.args.lists.now c.args.number ∙ ap (option_map (λ v. v.items)) (slice_get_read c.args.lists.now _ c.args.number c.in-Some.list.now refl item.3.0 item.1)
