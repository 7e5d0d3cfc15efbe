use Rattle.boogie_grammar.specs.Printed.{procs_text}
use Rattle.boogie_tree.specs.Text.{prelude}
use Rattle.viper_core.specs.View.{program_of}
use Rattle.vb_outer.proofs.SinkLaws.{prefix_longer, prefix_after}
use Rattle.enc_units.specs.Translates.{program_code}
use Rattle.enc_units.proofs.ProgramLaws.{translates}
use Rattle.enc_stream.proofs.SentLaws.{any_err}
use Rattle.enc_stream.proofs.stream.encode_to.Goals as goal

pub returns-in_err-write_prelude-clause-front : goal.returns-in_err-write_prelude-clause-front
returns-in_err-write_prelude-clause-front g c =
    any_err c.from_residual.result
    (prefix_longer (g.S.Sink.written c.args.sink.now) (g.S.Sink.written c.write_prelude.new.sink) prelude (procs_text (program_code (program_of c.args.program.now)).procs) c.in_err-write_prelude.ensures.front)

pub returns-in_err-write_units-clause-front : goal.returns-in_err-write_units-clause-front
returns-in_err-write_units-clause-front g c =
    any_err c.from_residual-in_err-write_units.result
    (prefix_after (g.S.Sink.written c.args.sink.now) (g.S.Sink.written c.write_prelude.new.sink) (g.S.Sink.written c.write_units.new.sink) prelude (procs_text (program_code (program_of c.args.program.now)).procs)
    c.in_ok-write_prelude.ensures.ok c.in_err-write_units.ensures.front)

pub returns-clause-translates : goal.returns-clause-translates
returns-clause-translates g c = translates (program_of c.args.program.now) c.requires
