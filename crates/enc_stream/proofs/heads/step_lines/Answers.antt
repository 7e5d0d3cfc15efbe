use Rattle.enc_expr.specs.Emits.{emit_of}
use Rattle.boogie_tree.specs.Whole.{locals_of}
use Rattle.std.proofs.Common.{length, ap}
use Rattle.enc_units.specs.View.{bracket_of, coder_of, step_of}
use Rattle.enc_stream.proofs.HeadLaws.{lines_made, same_many, step_listed}
use Rattle.enc_stream.proofs.heads.step_lines.Goals as goal

pub returns : goal.returns
returns c =
    let old = c.args.out.now.locals.items in let new = c.code.new.out.locals.items in
    step_listed (coder_of c.args.writer) (step_of c.args.step.now) (emit_of c.args.out.now) (emit_of c.code.new.out) (bracket_of c.in_ok-code.field-0) (length (locals_of c.lighten.new.locals.items)) c.put_locals.new.out.items
    c.in_ok-code.ensures (same_many c.lighten.new.locals.items new c.lighten.ensures)
    (lines_made old new (length c.as_slice-before.result.now) c.deref.result.now c.clear-2.new.self.items c.put_locals.new.out.items (ap length c.as_slice-before.ensures.value) c.deref.ensures.value c.clear-2.ensures.items c.in_ok-put_locals.ensures)
