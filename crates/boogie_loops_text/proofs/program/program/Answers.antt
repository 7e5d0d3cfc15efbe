use Rattle.std.proofs.Common.{sym, subst}
use Rattle.boogie_loops_grammar.specs.Spells.{SpellsWideProgram}
use Rattle.boogie_text.specs.Texts.{RefusesTokens}
use Rattle.boogie_loops_text.proofs.WideWhole.{spelled, refuses_there}
use Rattle.boogie_loops_text.proofs.program.program.Goals as goal

pub returns-in-Ok : goal.returns-in-Ok
returns-in-Ok c = spelled c.in-Ok.ensures

pub returns-in-Err : goal.returns-in-Err
returns-in-Err c = subst (λ f. RefusesTokens SpellsWideProgram c.args.tokens.now c.args.end f) (sym c.fault.ensures) (refuses_there c.args.tokens.now c.args.end c.in-Err.stop c.in-Err.ensures)
