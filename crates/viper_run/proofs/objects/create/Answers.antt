use Rattle.std.proofs.Common.{refl, get_or, [], ◌∷◌}
use Rattle.lemmas.proofs.Lists.{next_number}
use Rattle.viper_state.specs.View.{feed_of, state_of}
use Rattle.viper_meaning.specs.Statements as m
use Rattle.viper_inhale.proofs.DoesLaws.{passed}
use Rattle.viper_run.proofs.EachLaws.{each_goes, each_stops, each_end}
use Rattle.viper_run.proofs.ObjectLaws.{created_more}
use Rattle.viper_run.proofs.objects.create.Goals as goal

pub returns-in_err-create_field : goal.returns-in_err-create_field
returns-in_err-create_field c =
    let us = c.args.types.now in
    let r = c.args.reference in
    let xs = c.args.fields.now in
    let i = c.loop-field.field-index in
    passed _ _ c.from_residual.ensures.1 (each_stops (m.created us r) (λ x. m.created us r (x ∷ [])) (λ s. refl) (created_more us r) xs i (get_or xs i 0) (state_of c.loop-field.state) (next_number xs i c.loop-field-test.true)
    c.loop-field.invariant c.in_err-create_field.ensures)

pub loop-field-preserved : goal.loop-field-preserved
loop-field-preserved c =
    let us = c.args.types.now in
    let r = c.args.reference in
    let xs = c.args.fields.now in
    let i = c.loop-field.field-index in
    each_goes (m.created us r) (λ x. m.created us r (x ∷ [])) (λ s. refl) (created_more us r) xs i (m.created us r xs (state_of c.args.state.now)) (feed_of c.args.feed.now) (get_or xs i 0) (state_of c.loop-field.state)
    (next_number xs i c.loop-field-test.true) c.loop-field.invariant c.in_ok-create_field.ensures

pub returns : goal.returns
returns c =
    let us = c.args.types.now in
    let r = c.args.reference in
    let xs = c.args.fields.now in
    each_end (m.created us r) (λ x. m.created us r (x ∷ [])) (λ s. refl) (created_more us r) xs c.loop-field.field-index (state_of c.loop-field.state) _ c.loop-field-test.false c.loop-field.auto.field-index-end c.loop-field.invariant refl
