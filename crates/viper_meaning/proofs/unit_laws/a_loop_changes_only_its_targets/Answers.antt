use Rattle.viper_meaning.proofs.ChangeLaws.{not_among, loop_changes, block_changes, turn_changes}
use Rattle.viper_meaning.specs.Statements.{run_block}
use Rattle.viper_meaning.proofs.unit_laws.a_loop_changes_only_its_targets.Goals as goal

pub returns-clause-statement : goal.returns-clause-statement
returns-clause-statement c = λ b a at guard invariants body turn targets d x n. loop_changes b a x at guard invariants (λ e. run_block b a body e) turn targets d (not_among x targets n)

pub returns-clause-block : goal.returns-clause-block
returns-clause-block c = λ b m sc a xs d x h low e. block_changes b a x xs d h low e

pub returns-clause-turn : goal.returns-clause-turn
returns-clause-turn c = λ b m sc a body d x frame h seen n. turn_changes b a x body d frame h seen n
