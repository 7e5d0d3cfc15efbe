use Rattle.viper_state.proofs.ProperLaws.{within_memo, within_state, within_scene, within_opening, within_choice, within_event, within_feed}
use Rattle.viper_state.proofs.laws.what_is_proper_is_within.Goals as goal

pub returns-clause-states : goal.returns-clause-states
returns-clause-states c = within_state

pub returns-clause-scenes : goal.returns-clause-scenes
returns-clause-scenes c = within_scene

pub returns-clause-memos : goal.returns-clause-memos
returns-clause-memos c = within_memo

pub returns-clause-openings : goal.returns-clause-openings
returns-clause-openings c = within_opening

pub returns-clause-choices : goal.returns-clause-choices
returns-clause-choices c = within_choice

pub returns-clause-events : goal.returns-clause-events
returns-clause-events c = within_event

pub returns-clause-feeds : goal.returns-clause-feeds
returns-clause-feeds c = within_feed
