use Rattle.boogie_loops.specs.View.{wprogram_of}
use Rattle.boogie_cut_text.proofs.WrittenLaws.{result_printable}
use Rattle.boogie_cut_text.proofs.printable.cut_with_text.Goals as goal

pub returns-clause-written : goal.returns-clause-written
returns-clause-written c = c.cut.ensures.written

pub returns-clause-printable : goal.returns-clause-printable
returns-clause-printable c = λ h. result_printable (wprogram_of c.args.program.now) c.cut.result c.cut.ensures.written h
