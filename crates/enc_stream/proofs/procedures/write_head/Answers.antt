use Rattle.std.proofs.Common.{◌≡◌, ◌∙◌, ◌++◌, ℕ, List, [], length, map, drop, ap, sym, subst, arith}
use Rattle.std.proofs.lemmas.List.{length-map}
use Rattle.vb_outer.specs.Sink.{Appends, AppendsPrefix}
use Rattle.vb_outer.proofs.SinkLaws.{appends_both, prefix_all, prefix_longer, prefix_after}
use Rattle.boogie_print.specs.Names.{names_of}
use Rattle.boogie_print.specs.Pieces.{head_text}
use Rattle.boogie_tree.specs.Whole.{local_of, locals_of}
use Rattle.enc_stream.specs.Counts.{counts}
use Rattle.enc_units.specs.Rows.{row_asserts, row_lines, row_text, laid_locals}
use Rattle.enc_units.specs.View.{coder_of, step_of}
use Rattle.enc_stream.proofs.HoldLaws.{head_held, rest_same, rest_steps, three_counted}
use Rattle.enc_stream.proofs.SentLaws.{any_err, nothing_sent}
use Rattle.enc_stream.proofs.procedures.write_head.Goals as goal

pub write_lines-requires : goal.write_lines-requires
write_lines-requires g c = rest_steps c.args.row.now c.in_ok-held.held.steps c.requires

pub returns-in_err-lines-clause-front : goal.returns-in_err-lines-clause-front
returns-in_err-lines-clause-front g c = nothing_sent c.from_residual.result (g.S.Sink.written c.args.sink.now) _

pub returns-in_err-held-clause-front : goal.returns-in_err-held-clause-front
returns-in_err-held-clause-front g c = nothing_sent c.from_residual-in_err-held.result (g.S.Sink.written c.args.sink.now) _

pub returns-in_err-write_text-clause-front : goal.returns-in_err-write_text-clause-front
returns-in_err-write_text-clause-front g c =
    let code = coder_of c.args.printer.writer in let steps = map step_of c.args.row.now in let name = c.args.name.now in let fixed = c.args.fixed.now in
    let held = c.in_ok-held.held in let rest = map step_of (drop held.steps c.args.row.now) in let head = head_text name (laid_locals code (locals_of fixed) steps) in
    let lines = c.hold.new.lines.items in let more = row_lines code rest held.locals in
    let whole : lines ++ more ≡ head = head_held code steps rest held.locals name fixed c.in_ok-lines.lines.items lines c.in_ok-lines.ensures c.in_ok-held.ensures.holds.lines_are in
    let before = g.S.Sink.written c.args.sink.now in let one = g.S.Sink.written c.write_text.new.sink in
    any_err c.from_residual-in_err-write_text.result (subst (λ (x : List ℕ). AppendsPrefix before one x) whole
    (prefix_longer before one lines more (subst (λ (x : List ℕ). AppendsPrefix before one x) c.deref.ensures.value c.in_err-write_text.ensures.front)))

pub returns-in_err-out-clause-front : goal.returns-in_err-out-clause-front
returns-in_err-out-clause-front g c =
    let code = coder_of c.args.printer.writer in let steps = map step_of c.args.row.now in let name = c.args.name.now in let fixed = c.args.fixed.now in
    let held = c.in_ok-held.held in let rest = map step_of (drop held.steps c.args.row.now) in let head = head_text name (laid_locals code (locals_of fixed) steps) in
    let lines = c.hold.new.lines.items in let more = row_lines code rest held.locals in
    let whole : lines ++ more ≡ head = head_held code steps rest held.locals name fixed c.in_ok-lines.lines.items lines c.in_ok-lines.ensures c.in_ok-held.ensures.holds.lines_are in
    let before = g.S.Sink.written c.args.sink.now in let one = g.S.Sink.written c.write_text.new.sink in
    any_err c.from_residual-in_err-out.result (subst (λ (x : List ℕ). AppendsPrefix before one x) whole
    (prefix_longer before one lines more (prefix_all before one lines (subst (λ (x : List ℕ). Appends before one x) c.deref.ensures.value c.in_ok-write_text.ensures.ok))))

pub returns-in_err-write_lines-clause-front : goal.returns-in_err-write_lines-clause-front
returns-in_err-write_lines-clause-front g c =
    let code = coder_of c.args.printer.writer in let steps = map step_of c.args.row.now in let name = c.args.name.now in let fixed = c.args.fixed.now in
    let held = c.in_ok-held.held in let rest = map step_of (drop held.steps c.args.row.now) in let head = head_text name (laid_locals code (locals_of fixed) steps) in
    let lines = c.hold.new.lines.items in let more = row_lines code rest held.locals in
    let whole : lines ++ more ≡ head = head_held code steps rest held.locals name fixed c.in_ok-lines.lines.items lines c.in_ok-lines.ensures c.in_ok-held.ensures.holds.lines_are in
    let before = g.S.Sink.written c.args.sink.now in let one = g.S.Sink.written c.write_text.new.sink in
    let two = g.S.Sink.written c.write_lines.new.sink in let same = rest_same (row_lines code) c.args.row.now held.steps (length (locals_of c.in_ok-out.out.locals.items)) held.locals c.in_ok-out.ensures in
    any_err c.from_residual-in_err-write_lines.result (subst (λ (x : List ℕ). AppendsPrefix before two x) whole
    (prefix_after before one two lines more (subst (λ (x : List ℕ). Appends before one x) c.deref.ensures.value c.in_ok-write_text.ensures.ok)
    (subst (λ (x : List ℕ). AppendsPrefix one two x) same c.in_err-write_lines.ensures.front)))

pub returns-clause-ok : goal.returns-clause-ok
returns-clause-ok g c =
    let code = coder_of c.args.printer.writer in let steps = map step_of c.args.row.now in let name = c.args.name.now in let fixed = c.args.fixed.now in
    let held = c.in_ok-held.held in let rest = map step_of (drop held.steps c.args.row.now) in let head = head_text name (laid_locals code (locals_of fixed) steps) in
    let lines = c.hold.new.lines.items in let more = row_lines code rest held.locals in
    let whole : lines ++ more ≡ head = head_held code steps rest held.locals name fixed c.in_ok-lines.lines.items lines c.in_ok-lines.ensures c.in_ok-held.ensures.holds.lines_are in
    let before = g.S.Sink.written c.args.sink.now in let one = g.S.Sink.written c.write_text.new.sink in
    let two = g.S.Sink.written c.write_lines.new.sink in let same = rest_same (row_lines code) c.args.row.now held.steps (length (locals_of c.in_ok-out.out.locals.items)) held.locals c.in_ok-out.ensures in
    subst (λ (x : List ℕ). Appends before two x) whole
    (appends_both before one two lines more (subst (λ (x : List ℕ). Appends before one x) c.deref.ensures.value c.in_ok-write_text.ensures.ok)
    (subst (λ (x : List ℕ). Appends one two x) same c.in_ok-write_lines.ensures.ok))

pub returns-clause-held : goal.returns-clause-held
returns-clause-held g c =
    let code = coder_of c.args.printer.writer in let steps = map step_of c.args.row.now in let name = c.args.name.now in let fixed = c.args.fixed.now in
    let held = c.in_ok-held.held in let rest = map step_of (drop held.steps c.args.row.now) in let head = head_text name (laid_locals code (locals_of fixed) steps) in
    let lines = c.hold.new.lines.items in let more = row_lines code rest held.locals in
    let whole : lines ++ more ≡ head = head_held code steps rest held.locals name fixed c.in_ok-lines.lines.items lines c.in_ok-lines.ensures c.in_ok-held.ensures.holds.lines_are in
    let names = names_of c.args.printer.names.now in let holds = c.in_ok-held.ensures.holds in let first = sym (length-map fixed local_of) in
    let same = rest_same (row_lines code) c.args.row.now held.steps (length (locals_of c.in_ok-out.out.locals.items)) held.locals c.in_ok-out.ensures in
    record {
      asserts = holds.asserts;
      text_is = holds.text_is ∙ ap (λ (k : ℕ). row_text code names steps k) first;
      asserts_are = holds.asserts_are ∙ ap (λ (k : ℕ). row_asserts code steps k) first;
      counted =
          three_counted [] lines more holds.asserts 0 holds.asserts c.args.written.now c.hold.new.written c.write_text.new.written c.write_lines.new.written holds.counted
          (c.in_ok-write_text.ensures.counts ∙ ap (λ (x : List ℕ). counts c.hold.new.written (length x) 0) c.deref.ensures.value)
          (c.in_ok-write_lines.ensures.counts ∙ ap (λ (x : List ℕ). counts c.write_text.new.written (length x) 0) same) (omega arith)
          ∙ ap (λ (x : List ℕ). counts c.args.written.now (length x) holds.asserts) whole;
    }
