use Rattle.std.proofs.Common.{◌≡◌, ◌∙◌, ◌∷◌, length, sym, ap, arith, refl}
use Rattle.run_file_words.specs.Text.{lines_of, lines_left}
use Rattle.run_file_words.proofs.ReadLaws.{turn, all_taken, lines_few, some_line}
use Rattle.run_file_boogie.proofs.BoogieNameLaws.{skipped_more, all_skipped}
use Rattle.run_file_boogie.proofs.boogie_names.first_said.Goals as goal

pub overflow_add-line : goal.overflow_add-line
overflow_add-line c =
    let here = sym c.loop-rest.invariant.left ∙ (ap lines_left c.in-Some.is ∙ c.next_line.ensures) in
    let t = turn (lines_of c.args.bytes.now) c.loop-rest.line _ _ here in
    omega (arith, t.within, lines_few c.args.bytes.now, c.requires)

pub returns-then-not-is_skipped : goal.returns-then-not-is_skipped
returns-then-not-is_skipped c =
    let lines = lines_of c.args.bytes.now in
    let here = sym c.loop-rest.invariant.left ∙ (ap lines_left c.in-Some.is ∙ c.next_line.ensures) in
    let t = turn lines c.loop-rest.line _ _ here in (
      omega arith,
      (
        omega (arith, t.within, lines_few c.args.bytes.now, c.requires),
        (
          c.loop-rest.line,
          (
            refl,
            record {
              within = t.within;
              skipped = c.loop-rest.invariant.so_far;
              here = here ∙ ap (λ ls. c.next_line.result.0.now ∷ ls) t.left;
              said = sym c.is_skipped.ensures ∙ c.if-not-is_skipped.true;
            },
          ),
        ),
      ),
    )

pub loop-rest-preserved : goal.loop-rest-preserved
loop-rest-preserved c =
    let lines = lines_of c.args.bytes.now in
    let here = sym c.loop-rest.invariant.left ∙ (ap lines_left c.in-Some.is ∙ c.next_line.ensures) in
    let t = turn lines c.loop-rest.line _ _ here in
    record {
      left = t.left;
      within = omega (arith, t.within);
      so_far = skipped_more c.loop-rest.line lines c.next_line.result.0.now t.taken c.loop-rest.invariant.so_far (sym c.is_skipped.ensures ∙ c.if-not-is_skipped.false);
    }

pub returns : goal.returns
returns c =
    let lines = lines_of c.args.bytes.now in
    let all : c.loop-rest.line ≡ length lines = all_taken lines c.loop-rest.line (sym (ap lines_left c.in_default.is) ∙ c.loop-rest.invariant.left) c.loop-rest.invariant.within in
    (omega (arith, all, some_line c.args.bytes.now), (omega (arith, all, lines_few c.args.bytes.now, c.requires), (all_skipped c.loop-rest.line lines all c.loop-rest.invariant.so_far, all)))
