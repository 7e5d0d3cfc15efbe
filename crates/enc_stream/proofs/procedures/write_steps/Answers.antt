use Rattle.std.proofs.Common.{◌≡◌, ◌∙◌, ◌-◌, OnOk, OnErr, ℕ, List, length, map, take, drop, ap, subst}
use Rattle.vb_outer.specs.Sink.{Appends, AppendsPrefix}
use Rattle.vb_outer.proofs.SinkLaws.{prefix_all, prefix_longer}
use Rattle.boogie_print.specs.Names.{names_of}
use Rattle.boogie_tree.specs.Whole.{locals_of}
use Rattle.enc_stream.specs.Counts.{counts}
use Rattle.enc_units.specs.Rows.{row_asserts, row_text}
use Rattle.enc_units.specs.View.{coder_of, step_of}
use Rattle.enc_stream.proofs.HoldLaws.{more_counted, more_front, more_sent, rest_same, rest_steps}
use Rattle.enc_stream.proofs.SentLaws.{any_err}
use Rattle.enc_stream.proofs.procedures.write_steps.Goals as goal

pub write_row-requires : goal.write_row-requires
write_row-requires g c = rest_steps c.args.row.now c.args.held.now.steps c.requires.steps

pub returns-in_err-write_text-clause-front : goal.returns-in_err-write_text-clause-front
returns-in_err-write_text-clause-front g c =
    let before = g.S.Sink.written c.args.sink.now in let one = g.S.Sink.written c.write_text.new.sink in
    any_err c.from_residual.result (prefix_longer before one c.args.held.now.text.items _ (subst (λ (x : List ℕ). AppendsPrefix before one x) c.deref.ensures.value c.in_err-write_text.ensures.front))

pub returns-in_err-out-clause-front : goal.returns-in_err-out-clause-front
returns-in_err-out-clause-front g c =
    let before = g.S.Sink.written c.args.sink.now in let one = g.S.Sink.written c.write_text.new.sink in let text = c.args.held.now.text.items in
    any_err c.from_residual-in_err-out.result (prefix_longer before one text _ (prefix_all before one text (subst (λ (x : List ℕ). Appends before one x) c.deref.ensures.value c.in_ok-write_text.ensures.ok)))

pub returns-clause-ok : goal.returns-clause-ok
returns-clause-ok g c =
    let code = coder_of c.args.printer.writer in let held = c.args.held.now in let text = held.text.items in let rest = map step_of (drop held.steps c.args.row.now) in
    let many = length (locals_of c.in_ok-out.out.locals.items) in let more = row_text code (names_of c.args.printer.names.now) rest held.locals in
    let same = rest_same (row_text code (names_of c.args.printer.names.now)) c.args.row.now held.steps many held.locals c.in_ok-out.ensures in
    let before = g.S.Sink.written c.args.sink.now in let one = g.S.Sink.written c.write_text.new.sink in let two = g.S.Sink.written c.write_row.new.sink in
    let sent = subst (λ (x : List ℕ). Appends before one x) c.deref.ensures.value c.in_ok-write_text.ensures.ok in
    more_sent before one two text more sent c.write_row.result (subst (λ (x : List ℕ). OnOk c.write_row.result (Appends one two x)) same c.write_row.ensures.ok)

pub returns-clause-front : goal.returns-clause-front
returns-clause-front g c =
    let code = coder_of c.args.printer.writer in let held = c.args.held.now in let text = held.text.items in let rest = map step_of (drop held.steps c.args.row.now) in
    let many = length (locals_of c.in_ok-out.out.locals.items) in let more = row_text code (names_of c.args.printer.names.now) rest held.locals in
    let same = rest_same (row_text code (names_of c.args.printer.names.now)) c.args.row.now held.steps many held.locals c.in_ok-out.ensures in
    let before = g.S.Sink.written c.args.sink.now in let one = g.S.Sink.written c.write_text.new.sink in let two = g.S.Sink.written c.write_row.new.sink in
    let sent = subst (λ (x : List ℕ). Appends before one x) c.deref.ensures.value c.in_ok-write_text.ensures.ok in
    more_front before one two text more sent c.write_row.result (subst (λ (x : List ℕ). OnErr c.write_row.result (AppendsPrefix one two x)) same c.write_row.ensures.front)

pub returns-clause-counts : goal.returns-clause-counts
returns-clause-counts g c =
    let code = coder_of c.args.printer.writer in let held = c.args.held.now in let text = held.text.items in let rest = map step_of (drop held.steps c.args.row.now) in
    let many = length (locals_of c.in_ok-out.out.locals.items) in let more = row_text code (names_of c.args.printer.names.now) rest held.locals in
    let same = rest_same (row_text code (names_of c.args.printer.names.now)) c.args.row.now held.steps many held.locals c.in_ok-out.ensures in
    let now = c.write_text.new.written in let later = c.write_row.new.written in let asserts = rest_same (row_asserts code) c.args.row.now held.steps many held.locals c.in_ok-out.ensures in
    more_counted c.write_row.result text more (row_asserts code rest held.locals) c.args.written.now now later
    (c.in_ok-write_text.ensures.counts ∙ ap (λ (x : List ℕ). counts c.args.written.now (length x) 0) c.deref.ensures.value)
    (subst (λ (n : ℕ). OnOk c.write_row.result (later ≡ counts now (length more) n)) asserts
    (subst (λ (x : List ℕ). OnOk c.write_row.result (later ≡ counts now (length x) (row_asserts code (map step_of (take (length c.args.row.now - held.steps) (drop held.steps c.args.row.now))) many))) same c.write_row.ensures.counts))
