use Rattle.boogie_meaning.proofs.TypeLaws.{base_of_sound, base_of_complete, Decides-is_typed}
use Rattle.boogie_meaning.proofs.ProgramLaws.{no_ill_typed, no_ill_typed_back, is_first, is_first_back}
use Rattle.boogie_meaning.proofs.laws.types_are_computed_exactly.Goals as goal

pub returns-clause-expressions : goal.returns-clause-expressions
returns-clause-expressions c ls o e u = (base_of_sound ls o e u, λ h. base_of_complete h)

pub returns-clause-statements : goal.returns-clause-statements
returns-clause-statements c = Decides-is_typed

pub returns-clause-programs : goal.returns-clause-programs
returns-clause-programs c program = (no_ill_typed program, no_ill_typed_back program)

pub returns-clause-first : goal.returns-clause-first
returns-clause-first c program number = (is_first program number, is_first_back program number)
