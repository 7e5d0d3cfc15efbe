use Rattle.std.proofs.Common.{◌≡◌, ◌∙◌, OnOk, OnErr, ℕ, List, length, map, ap, subst}
use Rattle.vb_outer.specs.Sink.{Appends, AppendsPrefix}
use Rattle.viper_core.specs.View.{program_of}
use Rattle.boogie_print.specs.Names.{names_of}
use Rattle.boogie_tree.specs.Program.{Local}
use Rattle.boogie_tree.specs.Whole.{locals_of}
use Rattle.enc_stream.specs.Counts.{counts}
use Rattle.enc_units.specs.Rows.{row_asserts, named_text, laid_text}
use Rattle.enc_units.specs.Steps.{fixed_locals}
use Rattle.enc_units.specs.View.{coder_of, step_of}
use Rattle.enc_stream.proofs.HoldLaws.{wide_named, wide_text}
use Rattle.enc_stream.proofs.SentLaws.{nothing_sent}
use Rattle.enc_stream.proofs.procedures.write_laid.Goals as goal

pub write_named-requires : goal.write_named-requires
write_named-requires g c = c.requires.steps

pub returns-in_err-fixed-clause-front : goal.returns-in_err-fixed-clause-front
returns-in_err-fixed-clause-front g c = nothing_sent c.from_residual.result (g.S.Sink.written c.args.sink.now) _

pub returns-in_err-names-clause-front : goal.returns-in_err-names-clause-front
returns-in_err-names-clause-front g c = nothing_sent c.from_residual-in_err-names.result (g.S.Sink.written c.args.sink.now) _

pub returns : goal.returns
returns g c =
    let code = coder_of c.args.writer in let row = map step_of c.args.row.now in let name = c.args.name.now in let fixed = fixed_locals (program_of c.args.writer.program.now) c.args.writer.unit in
    let names = names_of c.in_ok-names.names in let locals = locals_of c.deref-2.result.now in let many = c.plenty.result in
    let are : locals ≡ fixed = ap (λ xs. locals_of xs) c.deref-2.ensures.value ∙ c.in_ok-fixed.ensures in
    let named = c.in_ok-names.ensures ∙ wide_named fixed c.deref.result.now many (ap (λ xs. locals_of xs) c.deref.ensures.value ∙ c.in_ok-fixed.ensures) in
    let text : named_text code names name locals row ≡ laid_text code name fixed row = wide_text code row name fixed locals names many are named (c.requires.names many c.plenty.ensures) in
    let asserts = ap (λ (fs : List Local). row_asserts code row (length fs)) are in
    let before = g.S.Sink.written c.args.sink.now in let now = g.S.Sink.written c.write_named.new.sink in
    record {
      ok = subst (λ (x : List ℕ). OnOk c.write_named.result (Appends before now x)) text c.write_named.ensures.ok;
      counts = subst (λ (x : List ℕ). OnOk c.write_named.result (c.write_named.new.written ≡ counts c.args.written.now (length x) (row_asserts code row (length fixed)))) text
          (subst (λ (n : ℕ). OnOk c.write_named.result (c.write_named.new.written ≡ counts c.args.written.now (length (named_text code names name locals row)) n)) asserts c.write_named.ensures.counts);
      front = subst (λ (x : List ℕ). OnErr c.write_named.result (AppendsPrefix before now x)) text c.write_named.ensures.front;
      failed = c.write_named.ensures.failed;
      later = c.write_named.ensures.later;
    }
