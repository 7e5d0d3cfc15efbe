use Rattle.std.proofs.Common.{sym, subst, false, [], All, map}
use Rattle.std.proofs.lemmas.List.Elements.{All-nil, All-cons, All-map}
use Rattle.viper_state.specs.Event as tree
use Rattle.viper_state.specs.View.{choice_of, event_of}
use Rattle.viper_state.specs.Within.{IsWithinChoice, IsWithinEvent}
use Rattle.viper_tests.proofs.assertions.feed.Goals as goal

pub returns : goal.returns
returns c = record {
  left = All-map IsWithinChoice choice_of c.in_ok-choices.choices.items c.in_ok-choices.ensures;
  events = subst (λ es. All IsWithinEvent (map event_of es)) (sym c.in_ok-events.ensures.items)
      (All-cons IsWithinEvent (tree.Branch false) [] tt (All-nil IsWithinEvent));
}
