use Rattle.std.proofs.Common.{arith, map, refl}
use Rattle.lemmas.proofs.Lists.{named_more, all_named}
use Rattle.boogie_tree.specs.Whole.{choice_of}
use Rattle.moves.specs.Printable.{IsNamedMove}
use Rattle.run_file_boogie.specs.BoogiePrinted.{choice_text, choices_text}
use Rattle.run_file_words.proofs.NamedLists.{written_more}
use Rattle.run_file_boogie.proofs.boogie_printer.put_choices.Goals as goal

pub loop-choice-preserved : goal.loop-choice-preserved
loop-choice-preserved c =
    let xs = c.args.choices.now in
    let i = c.loop-choice.choice-index in
    let x = c.choice-item.result in (
      written_more (λ ys. choices_text (map choice_of ys)) (λ y. choice_text (choice_of y)) xs i x c.loop-choice.out.items _ _ (λ y ys. refl) c.loop-choice-test.true c.choice-item.is c.loop-choice.invariant.0 c.in_ok-put_choice.ensures.text,
      named_more IsNamedMove choice_of xs i x c.loop-choice-test.true c.choice-item.is c.loop-choice.invariant.1 c.in_ok-put_choice.ensures.named,
    )

pub returns-clause-named : goal.returns-clause-named
returns-clause-named c = all_named IsNamedMove choice_of c.args.choices.now c.loop-choice.choice-index (omega (arith, c.loop-choice-test.false)) c.loop-choice.invariant.1
