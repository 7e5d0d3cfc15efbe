-- What `read_wide` answers, from what its parts answer; and that no other answer is right.
use Rattle.std.proofs.Common.{List, ℕ, Result, MatchResult}
use Rattle.vb_base.specs.declared.places.Pos.{Pos}
use Rattle.vb_base.specs.Place.{IsPlaceAfter}
use Rattle.boogie_grammar.specs.declared.faults.BoogieFault.{BoogieFault}
use Rattle.boogie_grammar.specs.declared.tokens.PlacedLexeme.{PlacedLexeme}
use Rattle.boogie_print.proofs.AlikeLaws.{row_of}
use Rattle.boogie_text.specs.Answers.{UnlessMemory, GivesFault}
use Rattle.boogie_text.specs.PublicTokens.{IsTokenFault}
use Rattle.boogie_text.specs.Texts.{HasTokens, no_tokens}
use Rattle.boogie_text.proofs.TextLaws as text
use Rattle.boogie_loops.specs.View.{wprogram_of}
use Rattle.boogie_loops.specs.Wide as p
use Rattle.boogie_loops.specs.declared.wide.WProgram.{WProgram}
use Rattle.boogie_loops_grammar.specs.Spells.{Spells, WideSpells, SpellsWideProgram}
use Rattle.boogie_loops_text.specs.Answers.{IsWideRead, GivesProgram}
use Rattle.boogie_loops_text.specs.Faults.{IsWideFault}
use Rattle.boogie_loops_text.specs.Whole.{ReadsProgram}
use Rattle.boogie_loops_text.proofs.WideFaults.{one_fault, not_refused, too_deep_only}
use Rattle.boogie_loops_text.proofs.WideParsed.{one_program}

pub is_read : {bytes : List ℕ} {ts : List PlacedLexeme} {b : p.WProgram} → HasTokens bytes ts → Spells ts b → IsWideRead bytes b
is_read {ts = ts} has spells = record {
  spelled = record { rest = has.rest; tokens = ts; text = has.text; cut = row_of has.cut; spells = spells };
  shallow = has.shallow;
}

pub tokens_refused : (bytes : List ℕ) (f : BoogieFault) → UnlessMemory (IsTokenFault bytes) f → UnlessMemory (IsWideFault bytes) f
tokens_refused bytes f h = text.refusal_as (IsTokenFault bytes) (IsWideFault bytes) f (λ g fault. no_tokens fault) h

abbrev pub ReadsText : List ℕ → Result WProgram BoogieFault → Type 0
ReadsText bytes res = MatchResult res (λ b. IsWideRead bytes (wprogram_of b)) (UnlessMemory (IsWideFault bytes))

pub reads_text : {bytes : List ℕ} {ts : List PlacedLexeme} {end : Pos} (res : Result WProgram BoogieFault) → HasTokens bytes ts → IsPlaceAfter bytes end → ReadsProgram ts end res → ReadsText bytes res
reads_text {bytes = bytes} res has last h =
    text.reads_text (λ us b. Spells us (wprogram_of b)) SpellsWideProgram (λ b. IsWideRead bytes (wprogram_of b)) (IsWideFault bytes) has last (λ b spells. is_read has spells) (λ f fails. fails) res h

-- there is no other answer

pub gives_program : (bytes : List ℕ) (b : p.WProgram) (res : Result WProgram BoogieFault) → ReadsText bytes res → WideSpells bytes b → GivesProgram b res
gives_program bytes b res read h =
    text.gives wprogram_of (λ x. IsWideRead bytes (wprogram_of x)) (IsWideFault bytes) b res read (λ x is. one_program bytes (wprogram_of x) b is.spelled h)
    (λ f fails. let d = too_deep_only bytes f b h fails in (d.0, d.1))

pub gives_fault : (bytes : List ℕ) (f : BoogieFault) (res : Result WProgram BoogieFault) → ReadsText bytes res → IsWideFault bytes f → GivesFault f res
gives_fault bytes f res read h =
    text.gives_fault (λ x. IsWideRead bytes (wprogram_of x)) (IsWideFault bytes) f res read (λ x is. not_refused bytes f (wprogram_of x) is.spelled is.shallow h)
    (λ g fails. one_fault bytes g f fails h)
