use Rattle.std.proofs.Common.{◌≡◌, sym, ap, ◌∙◌, Some, None, if◌then◌else◌}
use Rattle.vb_value.specs.Bound.{Bounded}
use Rattle.vb_value.specs.View.{content_of}
use Rattle.viper_core.specs.View.{assertion_of}
use Rattle.viper_state.specs.View.{state_of}
use Rattle.viper_meaning.specs.Contents.{content_in}
use Rattle.viper_fold.specs.Steps.{if_small}
use Rattle.viper_fold.proofs.ContentLaws.{value_is, never_stops}
use Rattle.viper_fold.proofs.calls.content_of.Goals as goal

pub returns-in-Ok : goal.returns-in-Ok
returns-in-Ok c = record {
  content = λ d has.
      let x = content_of c.in-Ok.content in
      let here = ap (content_in Bounded (assertion_of c.args.a.now) (state_of c.args.state.now)) c.of.ensures in
      let told : if_small x ≡ Some x = ap (λ b. if b then Some x else None) (sym c.is_small.ensures ∙ c.if-is_small.true) in
      sym told ∙ ap if_small (value_is d here has c.in-Ok.ensures.answers);
}

pub returns-in-Ok-2 : goal.returns-in-Ok-2
returns-in-Ok-2 c = record {
  content = λ d has.
      let x = content_of c.in-Ok.content in
      let here = ap (content_in Bounded (assertion_of c.args.a.now) (state_of c.args.state.now)) c.of.ensures in
      let told : if_small x ≡ None = ap (λ b. if b then Some x else None) (sym c.is_small.ensures ∙ c.if-is_small.false) in
      sym told ∙ ap if_small (value_is d here has c.in-Ok.ensures.answers);
}

pub unreachable-requires : goal.unreachable-requires
unreachable-requires c =
    let here = ap (content_in Bounded (assertion_of c.args.a.now) (state_of c.args.state.now)) c.of.ensures in
    never_stops c.requires.has_content.0 here c.requires.has_content.1 c.in-Err-Stops.field-0-is (rw c.in-Err-Stops.is at c.content_in.ensures.answers)
