-- Each text is read as a program with loops, calls and contracts, or is refused.
use Rattle.std.proofs.Common.{ℕ, ◌-◌, ◌<◌, ◌^◌, ◌⊎◌, inl, inr, List, length}
use Rattle.boogie_grammar.specs.declared.faults.BoogieFault.{BoogieFault}
use Rattle.boogie_grammar.specs.declared.tokens.PlacedLexeme.{PlacedLexeme}
use Rattle.boogie_text.proofs.TextAnswers.{HoldsOrNot, SomeText, some_text}
use Rattle.boogie_loops.specs.Wide.{WProgram}
use Rattle.boogie_loops_grammar.specs.Spells.{SpellsWideProgram, GoesWrong}
use Rattle.boogie_loops_text.specs.Answers.{IsWideRead}
use Rattle.boogie_loops_text.specs.Faults.{IsWideFault}
use Rattle.boogie_loops_text.proofs.WideAnswered.{some_answer}
use Rattle.boogie_loops_text.proofs.WideReads.{is_read}

abbrev pub Answer : List ℕ → Type 0
Answer bytes = ((program : WProgram) × IsWideRead bytes program) ⊎ ((f : BoogieFault) × IsWideFault bytes f)

program_or_not : (ts : List PlacedLexeme) → SpellsWideProgram ts ⊎ GoesWrong ts → HoldsOrNot SpellsWideProgram ts
program_or_not ts (inl program) = inl program
program_or_not ts (inr wrong) = inr (wrong.none, (wrong.at, wrong.place))

pub some_text_answer : (bytes : List ℕ) → length bytes < 2 ^ 32 - 1 → Answer bytes
some_text_answer bytes most = by_case (some_text SpellsWideProgram (λ ts. program_or_not ts (some_answer ts)) bytes most) where
  by_case : SomeText SpellsWideProgram bytes → Answer bytes
  by_case (inl (ts, has, (program, h))) = inl (program, is_read has h)
  by_case (inr (f, h)) = inr (f, h)
