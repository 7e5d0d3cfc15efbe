-- The cut as a loop goes through it, and that a text has at most one.
use Rattle.std.proofs.Common.{◌≡◌, ◌∙◌, ℕ, ◌+◌, ◌<◌, ◌≤◌, refl, ap, sym, subst, arith, List, [], ◌∷◌, ◌++◌, length, take, drop, suc, zero, Option, Some, None}
use Rattle.std.proofs.lemmas.List.{append_assoc, take-append-drop, append-nil, length-append}
use Rattle.vb_base.specs.declared.places.Pos.{Pos}
use Rattle.vb_base.specs.Place.{IsPlaceAfter, line_after, col_after}
use Rattle.vb_base.proofs.Place.{same_pos}
use Rattle.vb_base.proofs.PlaceLaws.{line_after-le, col_after-le}
use Rattle.viper_syntax.specs.declared.tokens.LexFault.{LexFault}
use Rattle.viper_syntax.specs.declared.tokens.LexFault.TheVariants as f
use Rattle.viper_syntax.specs.declared.tokens.Tok.{Tok}
use Rattle.viper_syntax.specs.declared.tokens.Token.{Token}
use Rattle.viper_syntax.specs.Piece.{Piece, Skipped, Taken, IsLongest}
use Rattle.viper_syntax.specs.Cut.{IsSound, tokens_at, IsCut, end, piece, IsFaultHere, Meets, here, later}
use Rattle.viper_syntax.specs.Step.{piece_of, UnlessMemory}
use Rattle.viper_syntax.proofs.PieceLaws.{piece_not_empty}

-- the cut of a text has come to this rest, at this place, with these tokens
pub record IsReached (bytes rest : List ℕ) (line col : ℕ) (ts : List Token) : Type 0 where
  pub before : List ℕ
  pub splits : before ++ rest ≡ bytes
  pub line_is : line ≡ line_after before
  pub col_is : col ≡ col_after before
  pub cut : (us : List Token) → IsCut before rest us → IsCut [] bytes (ts ++ us)
  pub meets : (fault : LexFault) → Meets before rest fault → Meets [] bytes fault

pub reached_start : (bytes : List ℕ) → IsReached bytes bytes 1 1 []
reached_start bytes = record {
  before = [];
  splits = refl;
  line_is = refl;
  col_is = refl;
  cut = λ us h. h;
  meets = λ fault h. h;
}

-- one piece more. Its tokens stand at the place `at`, from which the place moves on to `next`
reached_more : {bytes rest : List ℕ} {line col : ℕ} {ts : List Token} (n : ℕ) (p : Piece) (at next : Pos) →
    IsReached bytes rest line col ts → at.line ≡ line → at.col ≡ col → IsLongest rest n p → IsSound p →
    ((before : List ℕ) → IsPlaceAfter before at → IsPlaceAfter (before ++ take n rest) next) →
    IsReached bytes (drop n rest) next.line next.col (ts ++ tokens_at at p)
reached_more {bytes = bytes} {rest = rest} {ts = ts} n p at next r line_at col_at longest sound moves =
    let place : IsPlaceAfter r.before at = record { line = line_at ∙ r.line_is; col = col_at ∙ r.col_is } in
    let place' = moves r.before place in
    record {
      before = r.before ++ take n rest;
      splits = append_assoc r.before (take n rest) (drop n rest) ∙ ap (λ us. r.before ++ us) (take-append-drop n rest) ∙ r.splits;
      line_is = place'.line;
      col_is = place'.col;
      cut = λ us h. subst (λ vs. IsCut [] bytes vs) (sym (append_assoc ts (tokens_at at p) us)) (r.cut _ (piece longest sound place h));
      meets = λ fault h. r.meets fault (later longest sound h);
    }

pub reached_taken : {bytes rest front back : List ℕ} {line col n : ℕ} {ts us : List Token} {o : Option Tok} {t : Tok} (at start next : Pos) →
    IsReached bytes rest line col ts → o ≡ Some t → IsLongest rest n (piece_of o) × IsSound (piece_of o) →
    at.line ≡ line → at.col ≡ col → start.line ≡ line → start.col ≡ col →
    ((before : List ℕ) → IsPlaceAfter before start → IsPlaceAfter (before ++ front) next) →
    front ≡ take n rest → back ≡ drop n rest → us ≡ ts ++ record { tok = t; pos = at } ∷ [] →
    IsReached bytes back next.line next.col us
reached_taken {rest = rest} {front = front} {n = n} {t = t} at start next r is h line_at col_at line_start col_start moves front_is back_is us_is =
    let h' = subst (λ x. IsLongest rest n (piece_of x) × IsSound (piece_of x)) is h in
    let same : start ≡ at = same_pos start at (line_start ∙ sym line_at) (col_start ∙ sym col_at) in
    let moves' = subst (λ p. (before : List ℕ) → IsPlaceAfter before p → IsPlaceAfter (before ++ take n rest) next) same (subst (λ us. (before : List ℕ) → IsPlaceAfter before start → IsPlaceAfter (before ++ us) next) front_is moves) in
    rw (us_is, back_is) (reached_more n (Taken t) at next r line_at col_at h'.0 h'.1 moves')

pub reached_skipped : {bytes rest front back : List ℕ} {line col n : ℕ} {ts us : List Token} {o : Option Tok} (start next : Pos) →
    IsReached bytes rest line col ts → o ≡ None → IsLongest rest n (piece_of o) × IsSound (piece_of o) →
    start.line ≡ line → start.col ≡ col →
    ((before : List ℕ) → IsPlaceAfter before start → IsPlaceAfter (before ++ front) next) →
    front ≡ take n rest → back ≡ drop n rest → us ≡ ts →
    IsReached bytes back next.line next.col us
reached_skipped {rest = rest} {n = n} {ts = ts} start next r is h line_start col_start moves front_is back_is us_is =
    let h' = subst (λ x. IsLongest rest n (piece_of x) × IsSound (piece_of x)) is h in
    let moves' = subst (λ us. (before : List ℕ) → IsPlaceAfter before start → IsPlaceAfter (before ++ us) next) front_is moves in
    rw (us_is, back_is, ← append-nil ts) (reached_more n Skipped start next r line_start col_start h'.0 h'.1 moves')

pub reached_end : {bytes : List ℕ} {line col : ℕ} {ts : List Token} → IsReached bytes [] line col ts → IsCut [] bytes ts
reached_end {bytes = bytes} {ts = ts} r = subst (λ us. IsCut [] bytes us) (append-nil ts) (r.cut [] end)

pub reached_fault : {bytes rest : List ℕ} {line col : ℕ} {ts : List Token} (at : Pos) (fault : LexFault) →
    IsReached bytes rest line col ts → at.line ≡ line → at.col ≡ col → IsFaultHere rest at fault → Meets [] bytes fault
reached_fault at fault r line_at col_at h = r.meets fault (here record { line = line_at ∙ r.line_is; col = col_at ∙ r.col_is } h)

pub reached_line : {bytes rest : List ℕ} {line col : ℕ} {ts : List Token} → IsReached bytes rest line col ts → (1 ≤ line) × (line + length rest ≤ length bytes + 1)
reached_line {rest = rest} r =
    (omega (arith, r.line_is), omega (arith, r.line_is, line_after-le r.before, ap length r.splits, length-append r.before rest))

pub reached_col : {bytes rest : List ℕ} {line col : ℕ} {ts : List Token} → IsReached bytes rest line col ts → (1 ≤ col) × (col + length rest ≤ length bytes + 1)
reached_col {rest = rest} r =
    (omega (arith, r.col_is), omega (arith, r.col_is, col_after-le r.before, ap length r.splits, length-append r.before rest))

pub longest_some : {bs : List ℕ} {n : ℕ} {p : Piece} → IsLongest bs n p → 0 < n
longest_some {n = zero} {p = p} h = absurd (piece_not_empty p h.piece)
longest_some {n = suc n} h = omega arith

pub unless_map : (P Q : LexFault → Type 0) → ((fault : LexFault) → P fault → Q fault) → (fault : LexFault) → UnlessMemory P fault → UnlessMemory Q fault
unless_map P Q to (f.BadByte at) h = to _ h
unless_map P Q to (f.OpenComment at) h = to _ h
unless_map P Q to (f.BigLiteral at) h = to _ h
unless_map P Q to (f.Braces at) h = to _ h
unless_map P Q to (f.LongGroup at) h = to _ h
unless_map P Q to (f.Unsupported at) h = to _ h
unless_map P Q to f.Memory h = h

pub reached_step_fault : {bytes rest : List ℕ} {line col : ℕ} {ts : List Token} (at : Pos) (fault : LexFault) →
    IsReached bytes rest line col ts → at.line ≡ line → at.col ≡ col →
    UnlessMemory (IsFaultHere rest at) fault → UnlessMemory (Meets [] bytes) fault
reached_step_fault {bytes = bytes} {rest = rest} at fault r line_at col_at h =
    unless_map (IsFaultHere rest at) (Meets [] bytes) (λ e g. reached_fault at e r line_at col_at g) fault h
