use Rattle.std.proofs.Common.{subst}
use Rattle.boogie_text.proofs.TextLaws.{same_refusal}
use Rattle.boogie_loops.specs.View.{wprogram_of}
use Rattle.boogie_loops_text.specs.Answers.{IsWideRead}
use Rattle.boogie_loops_text.specs.Faults.{IsWideFault}
use Rattle.boogie_loops_text.specs.Whole.{ReadsProgram}
use Rattle.boogie_loops_text.proofs.WideReads.{reads_text, tokens_refused}
use Rattle.boogie_loops_text.proofs.reader.read_text.Goals as goal

pub returns-in_err-tokens : goal.returns-in_err-tokens
returns-in_err-tokens c =
    same_refusal (λ b. IsWideRead c.args.bytes.now (wprogram_of b)) (IsWideFault c.args.bytes.now) _ c.from_residual.result c.from_residual.ensures.1
    (tokens_refused c.args.bytes.now _ c.in_err-tokens.ensures)

pub returns : goal.returns
returns c =
    reads_text c.program.result c.in_ok-tokens.ensures c.place_after.ensures
    (subst (λ ts. ReadsProgram ts c.place_after.result c.program.result) c.deref.ensures.value c.program.ensures)
