-- What `read` answers, from what its parts answer; and that no other answer is right.
use Rattle.std.proofs.Common.{List, ℕ, Result, MatchResult}
use Rattle.vb_base.specs.declared.places.Pos.{Pos}
use Rattle.vb_base.specs.Place.{IsPlaceAfter}
use Rattle.boogie_tree.specs.Program as p
use Rattle.boogie_tree.specs.Whole.{program_of}
use Rattle.boogie_tree.specs.declared.programs.BProgram.{BProgram}
use Rattle.boogie_grammar.specs.declared.faults.BoogieFault.{BoogieFault}
use Rattle.boogie_grammar.specs.declared.tokens.PlacedLexeme.{PlacedLexeme}
use Rattle.boogie_grammar.specs.Faults.{IsFault}
use Rattle.boogie_grammar.specs.Spells.{Spells, BSpells, IsProgram}
use Rattle.boogie_print.specs.Read.{IsRead}
use Rattle.boogie_print.proofs.AlikeLaws.{row_of}
use Rattle.boogie_print.proofs.Parsed.{one_program}
use Rattle.boogie_text.specs.Answers.{UnlessMemory, GivesProgram, GivesFault}
use Rattle.boogie_text.specs.PublicTokens.{IsTokenFault}
use Rattle.boogie_text.specs.Texts.{HasTokens}
use Rattle.boogie_text.specs.Whole.{ReadsProgram}
use Rattle.boogie_text.proofs.FaultLaws.{one_fault, not_refused, too_deep_only, token_fault, is_fault}
use Rattle.boogie_text.proofs.TextLaws as text

pub is_read : {bytes : List ℕ} {ts : List PlacedLexeme} {b : p.BProgram} → HasTokens bytes ts → Spells ts b → IsRead bytes b
is_read {ts = ts} has spells = record {
  spelled = record { rest = has.rest; tokens = ts; text = has.text; cut = row_of has.cut; spells = spells };
  shallow = has.shallow;
}

pub tokens_refused : (bytes : List ℕ) (f : BoogieFault) → UnlessMemory (IsTokenFault bytes) f → UnlessMemory (IsFault bytes) f
tokens_refused bytes f h = text.refusal_as (IsTokenFault bytes) (IsFault bytes) f (token_fault bytes) h

abbrev pub ReadsText : List ℕ → Result BProgram BoogieFault → Type 0
ReadsText bytes res = MatchResult res (λ b. IsRead bytes (program_of b)) (UnlessMemory (IsFault bytes))

pub reads_text : {bytes : List ℕ} {ts : List PlacedLexeme} {end : Pos} (res : Result BProgram BoogieFault) → HasTokens bytes ts → IsPlaceAfter bytes end → ReadsProgram ts end res → ReadsText bytes res
reads_text {bytes = bytes} res has last h =
    text.reads_text (λ us b. Spells us (program_of b)) IsProgram (λ b. IsRead bytes (program_of b)) (IsFault bytes) has last (λ b spells. is_read has spells) (is_fault bytes) res h

-- there is no other answer

pub gives_program : (bytes : List ℕ) (b : p.BProgram) (res : Result BProgram BoogieFault) → ReadsText bytes res → BSpells bytes b → GivesProgram b res
gives_program bytes b res read h =
    text.gives program_of (λ x. IsRead bytes (program_of x)) (IsFault bytes) b res read (λ x is. one_program bytes (program_of x) b is.spelled h)
    (λ f fails. let d = too_deep_only bytes f b h fails in (d.0, d.1))

pub gives_fault : (bytes : List ℕ) (f : BoogieFault) (res : Result BProgram BoogieFault) → ReadsText bytes res → IsFault bytes f → GivesFault f res
gives_fault bytes f res read h =
    text.gives_fault (λ x. IsRead bytes (program_of x)) (IsFault bytes) f res read (λ x is. not_refused bytes f (program_of x) is.spelled is.shallow h)
    (λ g fails. one_fault bytes g f fails h)
