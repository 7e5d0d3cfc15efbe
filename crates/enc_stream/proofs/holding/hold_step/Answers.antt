use Rattle.std.proofs.Common.{◌∙◌, ◌++◌, List, ℕ, length, ap}
use Rattle.boogie_grammar.specs.Printed.{stmts_text}
use Rattle.boogie_print.specs.Asserts.{asserts_in}
use Rattle.boogie_print.specs.Names.{names_of}
use Rattle.boogie_print.specs.Pieces.{pieces_text}
use Rattle.boogie_tree.specs.Whole.{locals_of, stmts_of}
use Rattle.enc_expr.specs.Emits.{emit_of}
use Rattle.enc_stream.specs.Counts.{counts}
use Rattle.enc_units.specs.Rows.{bracket_pieces}
use Rattle.enc_units.specs.View.{bracket_of, coder_of, step_of}
use Rattle.enc_stream.proofs.HeadLaws.{same_many}
use Rattle.enc_stream.proofs.HoldLaws.{lines_behind, step_added}
use Rattle.enc_stream.proofs.holding.hold_step.Goals as goal

pub returns : goal.returns
returns c =
    let old = c.args.out.now.locals.items in let new = c.code.new.out.locals.items in let names = names_of c.args.printer.names.now in let bracket = bracket_of c.in_ok-bracket.bracket in
    step_added (coder_of c.args.printer.writer) names (step_of c.args.step.now) (record { locals = locals_of old; stmts = stmts_of c.clear.new.self.items }) (emit_of c.code.new.out) bracket (length (locals_of c.lighten.new.locals.items))
    c.args.lines.now.items c.put_locals.new.out.items c.args.text.now.items c.put_bracket.new.out.items c.args.written.now c.with_code.result
    c.in_ok-bracket.ensures (ap stmts_of c.clear.ensures.items) (same_many c.lighten.new.locals.items new c.lighten.ensures)
    (lines_behind old new (length c.as_slice-before.result.now) c.deref.result.now c.args.lines.now.items c.put_locals.new.out.items (ap length c.as_slice-before.ensures.value) c.deref.ensures.value c.in_ok-put_locals.ensures)
    (c.in_ok-put_bracket.ensures ∙ ap (λ (z : List ℕ). z ++ pieces_text names (bracket_pieces bracket)) (c.in_ok-put_code.ensures ∙ ap (λ xs. c.args.text.now.items ++ stmts_text names (stmts_of xs)) c.deref-2.ensures.value))
    (c.with_code.ensures ∙ ap (λ xs. counts c.args.written.now 0 (asserts_in (stmts_of xs))) c.deref-3.ensures.value)
