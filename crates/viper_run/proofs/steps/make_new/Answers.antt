use Rattle.std.proofs.Common.{refl, sym, ap, ◌∙◌}
use Rattle.viper_core.specs.declared.programs.Program.{Program}
use Rattle.viper_eval.specs.Steps.{assumed}
use Rattle.viper_state.specs.View.{state_of}
use Rattle.viper_meaning.specs.Statements as m
use Rattle.viper_inhale.proofs.DoesLaws.{passed, goes_at_once, same_run}
use Rattle.viper_inhale.proofs.FormLaws.{first_stops, both_go, calm_stops, calm_goes}
use Rattle.viper_run.specs.View.{activation_of, configuration_of}
use Rattle.viper_run.proofs.ChoiceLaws.{fresh_then}
use Rattle.viper_run.proofs.ObjectLaws.{goes_where, object_named, object_made, object_begun}
use Rattle.viper_run.proofs.steps.make_new.Goals as goal

pub returns-in_err-reference : goal.returns-in_err-reference
returns-in_err-reference c at =
    let us = (activation_of c.args.activation).program.layout.fields in
    let d = configuration_of c.args.configuration.now in
    passed _ _ c.from_residual.ensures.1 (first_stops _ (fresh_then (object_begun us c.args.variable c.args.fields.now d c.args.refs.now)) c.in_err-reference.ensures)

pub returns-in_err-assumed : goal.returns-in_err-assumed
returns-in_err-assumed c at =
    let us = (activation_of c.args.activation).program.layout.fields in
    let d = configuration_of c.args.configuration.now in
    let r = c.in_ok-reference.reference in
    passed _ _ c.from_residual-in_err-assumed.ensures.1 (both_go _ (fresh_then (object_begun us c.args.variable c.args.fields.now d c.args.refs.now)) c.in_ok-reference.ensures
    (calm_stops _ (goes_where (m.is_fresh r c.args.refs.now d) (object_made us c.args.variable c.args.fields.now d r)) _ (c.in_err-assumed.ensures ∙ ap assumed c.is_fresh.ensures)))

pub returns-in_err-create : goal.returns-in_err-create
returns-in_err-create c at =
    let us = (activation_of c.args.activation).program.layout.fields in
    let d = configuration_of c.args.configuration.now in
    let r = c.in_ok-reference.reference in
    let types = c.deref.ensures.value ∙ ap (λ (p : Program). p.layout.fields) c.program.view_is in
    passed _ _ c.from_residual-in_err-create.ensures.1 (both_go _ (fresh_then (object_begun us c.args.variable c.args.fields.now d c.args.refs.now)) c.in_ok-reference.ensures
    (calm_goes _ (goes_where (m.is_fresh r c.args.refs.now d) (object_made us c.args.variable c.args.fields.now d r)) (c.in_ok-assumed.ensures ∙ ap assumed c.is_fresh.ensures)
    (first_stops (object_named c.args.variable d r) refl (same_run (ap (λ ts. m.created ts r c.args.fields.now d.state) (sym types)) c.in_err-create.ensures))))

pub returns : goal.returns
returns c at =
    let us = (activation_of c.args.activation).program.layout.fields in
    let d = configuration_of c.args.configuration.now in
    let r = c.in_ok-reference.reference in
    let types = c.deref.ensures.value ∙ ap (λ (p : Program). p.layout.fields) c.program.view_is in
    both_go _ (fresh_then (object_begun us c.args.variable c.args.fields.now d c.args.refs.now)) c.in_ok-reference.ensures
    (calm_goes _ (goes_where (m.is_fresh r c.args.refs.now d) (object_made us c.args.variable c.args.fields.now d r)) (c.in_ok-assumed.ensures ∙ ap assumed c.is_fresh.ensures)
    (both_go (object_named c.args.variable d r) refl (same_run (ap (λ ts. m.created ts r c.args.fields.now d.state) (sym types)) c.in_ok-create.ensures)
    (goes_at_once _ _ (ap (λ st. record { store = st; state = state_of c.create.new.state }) c.set.ensures))))
