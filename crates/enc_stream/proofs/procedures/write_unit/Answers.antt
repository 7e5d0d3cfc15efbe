use Rattle.std.proofs.Common.{◌≡◌, OnOk, OnErr, ℕ, Some, length, slice_get, ap, sym, subst}
use Rattle.vb_outer.specs.Sink.{Appends, AppendsPrefix}
use Rattle.viper_core.specs.Formed.{IsFormed}
use Rattle.viper_core.specs.View.{program_of}
use Rattle.boogie_grammar.specs.Printed.{proc_text}
use Rattle.boogie_print.specs.Asserts.{asserts_in}
use Rattle.enc_stream.specs.Counts.{counts}
use Rattle.enc_units.specs.Units.{unit_procedure}
use Rattle.enc_units.specs.View.{coder_of}
use Rattle.enc_stream.proofs.SentLaws.{nothing_sent}
use Rattle.enc_units.proofs.UnitRowLaws.{same_unit, unit_writes}
use Rattle.enc_stream.proofs.procedures.write_unit.Goals as goal

pub write_over-requires : goal.write_over-requires
write_over-requires g c = record {
  formed = subst IsFormed (sym (ap program_of c.unit_writer-writer.ensures.program)) c.requires.formed;
  code = unit_writes (coder_of c.unit_writer-writer.result) (ap program_of c.unit_writer-writer.ensures.program) c.unit_writer-writer.ensures.unit c.unit_writer-writer.ensures.code;
  exists = same_unit (λ p x. (n : ℕ) × (slice_get p.units n ≡ Some x)) (sym (ap program_of c.unit_writer-writer.ensures.program)) (sym c.unit_writer-writer.ensures.unit) c.requires.exists;
}

pub returns-in_err-home-clause-front : goal.returns-in_err-home-clause-front
returns-in_err-home-clause-front g c = nothing_sent c.from_residual.result (g.S.Sink.written c.args.sink.now) _

pub returns : goal.returns
returns g c =
    let before = g.S.Sink.written c.args.sink.now in let now = g.S.Sink.written c.write_over.new.sink in
    let program = ap program_of c.unit_writer-writer.ensures.program in let unit = c.unit_writer-writer.ensures.unit in
    record {
      ok = same_unit (λ p x. OnOk c.write_over.result (Appends before now (proc_text (unit_procedure p x)))) program unit c.write_over.ensures.ok;
      counts = same_unit (λ p x. OnOk c.write_over.result (c.write_over.new.written ≡ counts c.args.written.now (length (proc_text (unit_procedure p x))) (asserts_in (unit_procedure p x).body))) program unit c.write_over.ensures.counts;
      front = same_unit (λ p x. OnErr c.write_over.result (AppendsPrefix before now (proc_text (unit_procedure p x)))) program unit c.write_over.ensures.front;
      failed = c.write_over.ensures.failed;
      later = c.write_over.ensures.later;
    }
