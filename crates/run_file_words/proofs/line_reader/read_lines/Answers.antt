use Rattle.std.proofs.Common.{◌≡◌, ◌∙◌, length, sym, ap, arith, refl, subst, Some}
use Rattle.run_file_words.specs.Machine.{FileKind, machine_of, headless}
use Rattle.run_file_words.specs.Text.{lines_of, lines_left}
use Rattle.run_file_words.proofs.ReadLaws.{turn, all_taken, lines_few, some_line}
use Rattle.run_file_words.proofs.StepLaws.{step_more, stops_here, read_whole}
use Rattle.run_file_words.proofs.line_reader.read_lines.Goals as goal

pub overflow_add-line : goal.overflow_add-line
overflow_add-line g c =
    let lines = lines_of c.args.bytes.now in
    let here = sym c.loop-rest.invariant.left ∙ (ap lines_left c.in-Some.is ∙ c.next_line.ensures) in
    let t = turn lines c.loop-rest.line _ _ here in
    omega (arith, t.within, lines_few c.args.bytes.now, c.requires.few)

pub invariant_of-result : goal.invariant_of-result
invariant_of-result g c =
    let lines = lines_of c.args.bytes.now in
    let here = sym c.loop-rest.invariant.left ∙ (ap lines_left c.in-Some.is ∙ c.next_line.ensures) in
    let t = turn lines c.loop-rest.line _ _ here in
    record { line_in_range = (omega arith, omega (arith, t.within, lines_few c.args.bytes.now, c.requires.few)); col_in_range = (omega arith, omega arith) }

pub returns-then-not-branch : goal.returns-then-not-branch
returns-then-not-branch g c =
    let lines = lines_of c.args.bytes.now in
    let here = sym c.loop-rest.invariant.left ∙ (ap lines_left c.in-Some.is ∙ c.next_line.ensures) in
    let none = rw (c.if-not-branch.true, c.loop-rest.invariant.same) at c.in_ok-read_line.ensures.steps in
    stops_here (machine_of (g.R.LineReader.kind c.args.reader)) lines c.loop-rest.line _ _ (g.R.LineReader.state c.loop-rest.reader) _ here c.loop-rest.invariant.so_far none refl refl

pub loop-rest-preserved : goal.loop-rest-preserved
loop-rest-preserved g c =
    let lines = lines_of c.args.bytes.now in
    let m = machine_of (g.R.LineReader.kind c.args.reader) in
    let here = sym c.loop-rest.invariant.left ∙ (ap lines_left c.in-Some.is ∙ c.next_line.ensures) in
    let t = turn lines c.loop-rest.line _ _ here in
    let some = rw (c.if-not-branch.false, c.loop-rest.invariant.same) at c.in_ok-read_line.ensures.steps in
    record {
      left = t.left;
      within = omega (arith, t.within);
      same = c.in_ok-read_line.ensures.same ∙ c.loop-rest.invariant.same;
      so_far = step_more m.step m.begun lines c.loop-rest.line _ (g.R.LineReader.state c.loop-rest.reader) t.taken c.loop-rest.invariant.so_far ∙ some;
    }

pub invariant_of-result-else-is_headed : goal.invariant_of-result-else-is_headed
invariant_of-result-else-is_headed g c =
    let lines = lines_of c.args.bytes.now in
    let all : c.loop-rest.line ≡ length lines = all_taken lines c.loop-rest.line (sym (ap lines_left c.in_default.is) ∙ c.loop-rest.invariant.left) c.loop-rest.invariant.within in
    record { line_in_range = (omega (arith, all, some_line c.args.bytes.now), omega (arith, all, lines_few c.args.bytes.now, c.requires.few)); col_in_range = (omega arith, omega arith) }

pub returns-else-is_headed : goal.returns-else-is_headed
returns-else-is_headed g c =
    let lines = lines_of c.args.bytes.now in
    let all : c.loop-rest.line ≡ length lines = all_taken lines c.loop-rest.line (sym (ap lines_left c.in_default.is) ∙ c.loop-rest.invariant.left) c.loop-rest.invariant.within in
    let st = g.R.LineReader.state c.loop-rest.reader in
    let m = machine_of (g.R.LineReader.kind c.args.reader) in
    let unread = ap (λ (k : FileKind _ _ _). k.is_headed st) (sym c.loop-rest.invariant.same) ∙ (sym c.is_headed.ensures ∙ c.if-is_headed.false) in
    headless st (read_whole m lines c.loop-rest.line st all c.loop-rest.invariant.so_far) unread all refl

pub returns-in_ok-finish : goal.returns-in_ok-finish
returns-in_ok-finish g c =
    let lines = lines_of c.args.bytes.now in
    let all : c.loop-rest.line ≡ length lines = all_taken lines c.loop-rest.line (sym (ap lines_left c.in_default.is) ∙ c.loop-rest.invariant.left) c.loop-rest.invariant.within in
    let st = g.R.LineReader.state c.loop-rest.reader in
    let m = machine_of (g.R.LineReader.kind c.args.reader) in
    record {
      last = st;
      read = read_whole m lines c.loop-rest.line st all c.loop-rest.invariant.so_far;
      headed = ap (λ (k : FileKind _ _ _). k.is_headed st) (sym c.loop-rest.invariant.same) ∙ (sym c.is_headed.ensures ∙ c.if-is_headed.true);
      run = ap (λ (k : FileKind _ _ _). k.run st) (sym c.loop-rest.invariant.same) ∙ sym c.in_ok-finish.ensures;
    }
