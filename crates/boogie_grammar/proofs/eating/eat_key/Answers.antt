use Rattle.std.proofs.Common.{sym}
use Rattle.boogie_grammar.proofs.EatLaws.{key_starts, no_base_no_key}
use Rattle.boogie_grammar.proofs.eating.eat_key.Goals as goal

pub returns-in_err-base-clause-eats : goal.returns-in_err-base-clause-eats
returns-in_err-base-clause-eats c = rw c.from_residual.ensures (no_base_no_key c.in_err-base.ensures.eats)

pub returns-then-is_key-clause-eats : goal.returns-then-is_key-clause-eats
returns-then-is_key-clause-eats c = key_starts c.in_ok-base.ensures.eats (sym c.if-is_key.ensures)
