use Rattle.viper_state.proofs.ProperLaws.{memo_proper_by, state_proper_by, scene_proper_by, opening_proper_by, choice_proper_by, event_proper_by, feed_proper_by}
use Rattle.viper_state.proofs.laws.what_fits_is_proper.Goals as goal

pub returns-clause-states : goal.returns-clause-states
returns-clause-states c = λ b l s h w. state_proper_by b l s h w

pub returns-clause-scenes : goal.returns-clause-scenes
returns-clause-scenes c = λ b l us sc h w. scene_proper_by b l us sc h w

pub returns-clause-memos : goal.returns-clause-memos
returns-clause-memos c = memo_proper_by

pub returns-clause-openings : goal.returns-clause-openings
returns-clause-openings c = opening_proper_by

pub returns-clause-choices : goal.returns-clause-choices
returns-clause-choices c = choice_proper_by

pub returns-clause-events : goal.returns-clause-events
returns-clause-events c = event_proper_by

pub returns-clause-feeds : goal.returns-clause-feeds
returns-clause-feeds c = feed_proper_by
