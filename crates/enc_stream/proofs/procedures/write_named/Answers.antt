use Rattle.std.proofs.Common.{◌∙◌, ℕ, List, length, map, drop, ap, subst}
use Rattle.vb_outer.specs.Sink.{Appends, AppendsPrefix}
use Rattle.vb_outer.proofs.SinkLaws.{prefix_all}
use Rattle.boogie_print.specs.Names.{names_of}
use Rattle.boogie_tree.specs.Whole.{locals_of}
use Rattle.boogie_print.specs.Pieces.{head_text, end_text}
use Rattle.enc_stream.specs.Counts.{counts}
use Rattle.enc_units.specs.Rows.{row_text, row_asserts, laid_locals}
use Rattle.enc_units.specs.View.{coder_of, step_of}
use Rattle.enc_stream.proofs.HoldLaws.{three_counted}
use Rattle.enc_stream.proofs.SentLaws.{any_err, head_front, row_front, end_front, all_three}
use Rattle.enc_stream.proofs.procedures.write_named.Goals as goal

pub returns-in_err-held-clause-front : goal.returns-in_err-held-clause-front
returns-in_err-held-clause-front g c =
    let code = coder_of c.args.printer.writer in let names = names_of c.args.printer.names.now in let fixed = locals_of c.args.fixed.now in let steps = map step_of c.args.row.now in
    let head = head_text c.args.name.now (laid_locals code fixed steps) in let row = row_text code names steps (length fixed) in
    let before = g.S.Sink.written c.args.sink.now in let one = g.S.Sink.written c.write_head.new.sink in
    any_err c.from_residual.result (head_front before one one one head row end_text c.in_err-held.ensures.front)

pub returns-in_err-write_steps-clause-front : goal.returns-in_err-write_steps-clause-front
returns-in_err-write_steps-clause-front g c =
    let code = coder_of c.args.printer.writer in let names = names_of c.args.printer.names.now in let fixed = locals_of c.args.fixed.now in let steps = map step_of c.args.row.now in
    let head = head_text c.args.name.now (laid_locals code fixed steps) in let row = row_text code names steps (length fixed) in
    let before = g.S.Sink.written c.args.sink.now in let one = g.S.Sink.written c.write_head.new.sink in
    let two = g.S.Sink.written c.write_steps.new.sink in
    any_err c.from_residual-in_err-write_steps.result (row_front before one two two head row end_text c.in_ok-held.ensures.ok (subst (λ (x : List ℕ). AppendsPrefix one two x) c.in_ok-held.ensures.held.text_is c.in_err-write_steps.ensures.front))

pub returns-in_err-end-clause-front : goal.returns-in_err-end-clause-front
returns-in_err-end-clause-front g c =
    let code = coder_of c.args.printer.writer in let names = names_of c.args.printer.names.now in let fixed = locals_of c.args.fixed.now in let steps = map step_of c.args.row.now in
    let head = head_text c.args.name.now (laid_locals code fixed steps) in let row = row_text code names steps (length fixed) in
    let before = g.S.Sink.written c.args.sink.now in let one = g.S.Sink.written c.write_head.new.sink in
    let two = g.S.Sink.written c.write_steps.new.sink in
    any_err c.from_residual-in_err-end.result (row_front before one two two head row end_text c.in_ok-held.ensures.ok (prefix_all one two row (subst (λ (x : List ℕ). Appends one two x) c.in_ok-held.ensures.held.text_is c.in_ok-write_steps.ensures.ok)))

pub returns-in_err-write_text-clause-front : goal.returns-in_err-write_text-clause-front
returns-in_err-write_text-clause-front g c =
    let code = coder_of c.args.printer.writer in let names = names_of c.args.printer.names.now in let fixed = locals_of c.args.fixed.now in let steps = map step_of c.args.row.now in
    let head = head_text c.args.name.now (laid_locals code fixed steps) in let row = row_text code names steps (length fixed) in
    let before = g.S.Sink.written c.args.sink.now in let one = g.S.Sink.written c.write_head.new.sink in
    let two = g.S.Sink.written c.write_steps.new.sink in
    let three = g.S.Sink.written c.write_text.new.sink in
    any_err c.from_residual-in_err-write_text.result (end_front before one two three head row end_text c.in_ok-held.ensures.ok (subst (λ (x : List ℕ). Appends one two x) c.in_ok-held.ensures.held.text_is c.in_ok-write_steps.ensures.ok)
    (subst (λ (x : List ℕ). AppendsPrefix two three x) (c.deref.ensures.value ∙ c.in_ok-end.ensures) c.in_err-write_text.ensures.front))

pub returns-clause-ok : goal.returns-clause-ok
returns-clause-ok g c =
    let code = coder_of c.args.printer.writer in let names = names_of c.args.printer.names.now in let fixed = locals_of c.args.fixed.now in let steps = map step_of c.args.row.now in
    let head = head_text c.args.name.now (laid_locals code fixed steps) in let row = row_text code names steps (length fixed) in
    let before = g.S.Sink.written c.args.sink.now in let one = g.S.Sink.written c.write_head.new.sink in
    let two = g.S.Sink.written c.write_steps.new.sink in
    let three = g.S.Sink.written c.write_text.new.sink in
    all_three before one two three head row end_text c.in_ok-held.ensures.ok (subst (λ (x : List ℕ). Appends one two x) c.in_ok-held.ensures.held.text_is c.in_ok-write_steps.ensures.ok)
    (subst (λ (x : List ℕ). Appends two three x) (c.deref.ensures.value ∙ c.in_ok-end.ensures) c.in_ok-write_text.ensures.ok)

pub returns-clause-counts : goal.returns-clause-counts
returns-clause-counts g c =
    let code = coder_of c.args.printer.writer in let names = names_of c.args.printer.names.now in let fixed = locals_of c.args.fixed.now in let steps = map step_of c.args.row.now in
    let head = head_text c.args.name.now (laid_locals code fixed steps) in let row = row_text code names steps (length fixed) in
    let held = c.in_ok-held.ensures.held in let left = row_asserts code (map step_of (drop c.in_ok-held.held.steps c.args.row.now)) c.in_ok-held.held.locals in
    three_counted head row end_text held.asserts left (row_asserts code steps (length fixed)) c.args.written.now c.write_head.new.written c.write_steps.new.written c.write_text.new.written
    held.counted
    (c.in_ok-write_steps.ensures.counts ∙ ap (λ (x : List ℕ). counts c.write_head.new.written (length x) left) held.text_is)
    (c.in_ok-write_text.ensures.counts ∙ ap (λ (x : List ℕ). counts c.write_steps.new.written (length x) 0) (c.deref.ensures.value ∙ c.in_ok-end.ensures))
    held.asserts_are
