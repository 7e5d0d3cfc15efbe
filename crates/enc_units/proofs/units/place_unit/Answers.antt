-- The numbers of its locals, one after the other.
use Rattle.std.proofs.Common.{◌∙◌, ◌+◌, length, ap}
use Rattle.std.specs.List.{range_with_len}
use Rattle.viper_core.specs.View.{program_of}
use Rattle.enc_expr.specs.Place.{maps_of}
use Rattle.enc_units.proofs.EmittedUnits.{placed}
use Rattle.enc_units.proofs.units.place_unit.Goals as goal

pub returns : goal.returns
returns c =
    placed (program_of c.args.program.now) c.args.of c.in_ok-vars.vars.items c.in_ok-others.others.items c.add_all.new.items.items (maps_of c.in_ok-now.now) (maps_of c.in_ok-old.old) (maps_of c.in_ok-nothing.nothing)
    c.take.new.self.next c.present.new.self.next c.state.new.self.next c.nothing.new.self.next
    (c.in_ok-vars.ensures.0 ∙ ap (λ us. range_with_len 0 (length us)) c.front_types.ensures) (c.in_ok-vars.ensures.1 ∙ ap (λ us. 0 + length us) c.front_types.ensures)
    c.in_ok-now.ensures.0 c.in_ok-now.ensures.1 c.in_ok-old.ensures.0 c.in_ok-old.ensures.1 c.in_ok-nothing.ensures.0 c.in_ok-nothing.ensures.1
    (c.in_ok-others.ensures.0 ∙ ap (λ us. range_with_len c.nothing.new.self.next (length us)) c.other_types.ensures) c.in_ok-add_all.ensures
