use Rattle.std.proofs.Common.{◌≡◌, ◌∙◌, ℕ, List, OnOk, OnErr, length, map, ap, subst}
use Rattle.vb_outer.specs.Sink.{Appends, AppendsPrefix}
use Rattle.viper_core.specs.View.{program_of}
use Rattle.boogie_grammar.specs.Printed.{proc_text}
use Rattle.boogie_print.specs.Asserts.{asserts_in}
use Rattle.enc_stream.specs.Counts.{counts}
use Rattle.enc_units.specs.Rows.{laid_text}
use Rattle.enc_units.specs.Steps.{fixed_locals}
use Rattle.enc_units.specs.Units.{unit_procedure}
use Rattle.enc_units.specs.View.{coder_of, step_of}
use Rattle.enc_stream.proofs.SentLaws.{nothing_sent}
use Rattle.enc_units.proofs.UnitRowLaws.{row_steps, row_asserts_are, laid_is}
use Rattle.enc_stream.proofs.WideNames.{row_more}
use Rattle.enc_stream.proofs.procedures.write_over.Goals as goal

pub write_laid-requires : goal.write_laid-requires
write_laid-requires g c =
    let p = program_of c.args.writer.program.now in let x = c.args.writer.unit in let code = coder_of c.args.writer in
    let row = map step_of c.deref.result.now in let is_row = ap (map step_of) c.deref.ensures.value ∙ c.in_ok-row.ensures in
    record {
      steps = row_steps p x c.requires.formed code c.requires.code row is_row;
      names = row_more p c.requires.formed c.requires.exists.0 x c.requires.exists.1 code c.requires.code row is_row;
    }

pub returns-in_err-row-clause-front : goal.returns-in_err-row-clause-front
returns-in_err-row-clause-front g c = nothing_sent c.from_residual.result (g.S.Sink.written c.args.sink.now) _

pub returns-in_err-name-clause-front : goal.returns-in_err-name-clause-front
returns-in_err-name-clause-front g c = nothing_sent c.from_residual-in_err-name.result (g.S.Sink.written c.args.sink.now) _

pub returns : goal.returns
returns g c =
    let p = program_of c.args.writer.program.now in let x = c.args.writer.unit in let code = coder_of c.args.writer in
    let before = g.S.Sink.written c.args.sink.now in let now = g.S.Sink.written c.write_laid.new.sink in
    let row = map step_of c.deref.result.now in let is_row = ap (map step_of) c.deref.ensures.value ∙ c.in_ok-row.ensures in
    let text : laid_text code c.in_ok-name.name (fixed_locals p x) row ≡ proc_text (unit_procedure p x) = laid_is p x c.requires.formed code c.requires.code row is_row c.in_ok-name.name c.in_ok-name.ensures in
    let asserts = row_asserts_are p x c.requires.formed code c.requires.code row is_row in
    record {
      ok = subst (λ (z : List ℕ). OnOk c.write_laid.result (Appends before now z)) text c.write_laid.ensures.ok;
      counts = subst (λ (z : List ℕ). OnOk c.write_laid.result (c.write_laid.new.written ≡ counts c.args.written.now (length z) (asserts_in (unit_procedure p x).body))) text
          (subst (λ (n : ℕ). OnOk c.write_laid.result (c.write_laid.new.written ≡ counts c.args.written.now (length (laid_text code c.in_ok-name.name (fixed_locals p x) row)) n)) asserts c.write_laid.ensures.counts);
      front = subst (λ (z : List ℕ). OnErr c.write_laid.result (AppendsPrefix before now z)) text c.write_laid.ensures.front;
      failed = c.write_laid.ensures.failed;
      later = c.write_laid.ensures.later;
    }
