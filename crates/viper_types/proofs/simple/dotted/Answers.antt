use Rattle.std.proofs.Common.{◌∙◌, ◌+◌, sym, ap, drop}
use Rattle.lemmas.proofs.Lists.{next_item}
use Rattle.viper_scope.specs.Answers.{world_of}
use Rattle.viper_types.specs.Answers.{place_of}
use Rattle.viper_types.proofs.PlaceLaws.{dotted_on, dotted_found, dotted_refused}
use Rattle.viper_scope.proofs.Judged.{at_error, refuses_along}
use Rattle.viper_types.proofs.simple.dotted.Goals as goal

pub returns-in_err-place : goal.returns-in_err-place
returns-in_err-place c =
    at_error place_of _ c.in_err-place.field-0.0 c.from_residual.result c.from_residual.ensures.1
    (dotted_refused (world_of c.args.world.now) _ c.args.first.now c.args.rest.now c.in_err-place.field-0.0 c.in_err-place.ensures)

pub returns-in_err-place-2 : goal.returns-in_err-place-2
returns-in_err-place-2 c =
    let w = world_of c.args.world.now in
    let left = next_item c.args.rest.now c.loop-field.field-index c.field-item.result c.loop-field-test.true c.field-item.is in
    at_error place_of _ c.in_err-place-2.field-0.0 c.from_residual-in_err-place-2.result c.from_residual-in_err-place-2.ensures.1
    (refuses_along c.in_err-place-2.field-0.0 (sym c.loop-field.invariant ∙ ap (dotted_on w (place_of c.loop-field.place) c.loop-field.at) left)
    (dotted_refused w _ c.field-item.result (drop (c.loop-field.field-index + 1) c.args.rest.now) c.in_err-place-2.field-0.0 c.in_err-place-2.ensures))

pub loop-field-preserved : goal.loop-field-preserved
loop-field-preserved c =
    let w = world_of c.args.world.now in
    let left = next_item c.args.rest.now c.loop-field.field-index c.field-item.result c.loop-field-test.true c.field-item.is in
    sym (dotted_found w _ c.field-item.result (drop (c.loop-field.field-index + 1) c.args.rest.now) _ c.in_ok-place-2.ensures) ∙
    sym (ap (dotted_on w (place_of c.loop-field.place) c.loop-field.at) left) ∙ c.loop-field.invariant
