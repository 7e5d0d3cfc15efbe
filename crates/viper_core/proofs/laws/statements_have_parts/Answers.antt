use Rattle.viper_core.proofs.StmtParts.{first_part, rest_part, condition_part, then_part, else_part, guard_part, invariants_parts, turn_part, turn_targets, declared_part, initial_part, assigned_part, written_parts, created_part, called_parts, inhaled_part, exhaled_part, asserted_part}
use Rattle.viper_core.proofs.laws.statements_have_parts.Goals as goal

pub returns-clause-first : goal.returns-clause-first
returns-clause-first _ m sc a rest = first_part

pub returns-clause-rest : goal.returns-clause-rest
returns-clause-rest _ m sc a rest = rest_part

pub returns-clause-branches : goal.returns-clause-branches
returns-clause-branches _ m sc at e a b h = (condition_part h, then_part h, else_part h)

pub returns-clause-turns : goal.returns-clause-turns
returns-clause-turns _ m sc at e is body turn targets h = (guard_part h, invariants_parts h, turn_part h, turn_targets h)

pub returns-clause-declared : goal.returns-clause-declared
returns-clause-declared _ m sc at x = declared_part

pub returns-clause-initial : goal.returns-clause-initial
returns-clause-initial _ m sc at x e = initial_part

pub returns-clause-assigned : goal.returns-clause-assigned
returns-clause-assigned _ m sc at x e = assigned_part

pub returns-clause-written : goal.returns-clause-written
returns-clause-written _ m sc at e f place d = written_parts

pub returns-clause-created : goal.returns-clause-created
returns-clause-created _ m sc at x fields refs = created_part

pub returns-clause-called : goal.returns-clause-called
returns-clause-called _ m sc at xs k es = called_parts

pub returns-clause-inhaled : goal.returns-clause-inhaled
returns-clause-inhaled _ m sc at a = inhaled_part

pub returns-clause-exhaled : goal.returns-clause-exhaled
returns-clause-exhaled _ m sc at a = exhaled_part

pub returns-clause-asserted : goal.returns-clause-asserted
returns-clause-asserted _ m sc at a = asserted_part
