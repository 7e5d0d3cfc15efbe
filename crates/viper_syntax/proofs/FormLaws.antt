-- What the tokens of a text are like: names are names, numbers are within MAX, places go on as in the text.
use Rattle.std.proofs.Common.{◌≡◌, ◌≢◌, ℕ, pos, ◌+◌, ◌<◌, ◌≤◌, true, false, not, cond, refl, ap, sym, subst, arith, List, [], ◌∷◌, ◌++◌, length, take, drop, suc, zero, Some}
use Rattle.std.specs.Prelude.{◌≤ℤ◌, slice_get}
use Rattle.std.proofs.lemmas.List.{append_assoc, append-nil, length-append, length-take-le, length-drop, take_at}
use Rattle.std.proofs.lemmas.Bool.{and_from}
use Rattle.std.proofs.lemmas.Int.{ints}
use Rattle.std.proofs.lemmas.Option.{same_Some}
use Rattle.vb_base.specs.declared.places.Pos.{Pos}
use Rattle.vb_base.specs.Names.{is_name}
use Rattle.vb_base.specs.Place.{IsPlaceAfter, IsBefore}
use Rattle.vb_base.proofs.PlaceLaws.{suffix_len_push, place_before}
use Rattle.viper_syntax.specs.declared.tokens.Word.{Word}
use Rattle.viper_syntax.specs.declared.tokens.Tok.{Tok}
use Rattle.viper_syntax.specs.declared.tokens.Tok.TheVariants as k
use Rattle.viper_syntax.specs.declared.tokens.Token.{Token}
use Rattle.viper_syntax.specs.Spelling.{word_text, decimal}
use Rattle.viper_syntax.specs.Piece.{Piece, IsToken, word, name, number, sign, Skipped, Unclosed, Taken, IsPiece, comment, token}
use Rattle.viper_syntax.specs.Cut.{MAX, IsSmall, tokens_at, IsCut, end, piece}
use Rattle.viper_syntax.specs.Limit.{StaysWithin, KeepsLimits, IsUndivided, in_group, is_divider, refused, is_refused}
use Rattle.viper_syntax.specs.Lexed.{IsLexed, IsProper, IsWellFormed}
use Rattle.viper_syntax.proofs.LimitLaws.{refused_more}
use Rattle.viper_syntax.proofs.CutLaws.{longest_some}
use Rattle.viper_syntax.proofs.WordLaws.{no_word}

false_true : false ≡ true → ⊥
false_true e = cc

-- what a token of the cut is, with no regard to refused words
abbrev IsCutTok : Tok → Type 0
IsCutTok (k.Name x) = (is_name x ≡ true) × ((w : Word) → x ≢ word_text w)
IsCutTok (k.Number n) = (pos 0 ≤ℤ n) × (n ≤ℤ MAX)
IsCutTok (k.Word w) = Unit {0}
IsCutTok (k.Sign s) = Unit {0}

not_negative : (n : ℕ) → pos 0 ≤ℤ pos n
not_negative n = omega (arith, ints)

cut_tok : (bs : List ℕ) (t : Tok) → IsToken bs t → IsSmall t → IsCutTok t
cut_tok bs t (word w e) small = tt
cut_tok bs t (name form no_word) small = (form, no_word)
cut_tok bs t (number h) small = (not_negative (decimal bs), small)
cut_tok bs t (sign s e) small = tt

token_of_piece : (bs : List ℕ) (t : Tok) → IsPiece bs (Taken t) → IsSmall t → IsCutTok t
token_of_piece bs t (comment h) small = elim h [ ]
token_of_piece bs t (token h) small = cut_tok bs t h small

cut_toks : (before rest : List ℕ) (ts : List Token) → IsCut before rest ts → (i : ℕ) (t : Token) → slice_get ts i ≡ Some t → IsCutTok t.tok
cut_toks before rest ts end i t h = cc
cut_toks before rest ts (piece {n = n} {p = Skipped} {ts = us} l s pl c) i t h = cut_toks (before ++ take n rest) (drop n rest) us c i t h
cut_toks before rest ts (piece {n = n} {p = Unclosed} {ts = us} l s pl c) i t h = absurd s
cut_toks before rest ts (piece {n = n} {p = Taken u} {ts = us} l s pl c) zero t h =
    subst (λ x. IsCutTok x.tok) (same_Some _ _ h) (token_of_piece (take n rest) u l.piece s)
cut_toks before rest ts (piece {n = n} {p = Taken u} {ts = us} l s pl c) (suc i) t h = cut_toks (before ++ take n rest) (drop n rest) us c i t h

-- where no word is refused, no token is one
none_refused : (ts : List Token) (i : ℕ) (t : Token) → StaysWithin refused 0 ts → slice_get ts i ≡ Some t → is_refused t.tok ≡ true → ⊥
none_refused ts i t h here is =
    let more = refused_more ts i t here in
    let one = ap {B = ℕ} (λ b. cond b 1 0) is in
    omega (arith, more, one, h (i + 1))

proper : (t : Tok) → IsCutTok t → (is_refused t ≡ true → ⊥) → IsProper t
proper (k.Name x) h none =
    and_from _ _ h.0 (ap not (no_word x h.1 none))
proper (k.Number n) h none = h
proper (k.Word w) h none = tt
proper (k.Sign s) h none = tt

-- places

-- each token stands at a place of the text
cut_place : (before rest : List ℕ) (ts : List Token) → IsCut before rest ts → (i : ℕ) (t : Token) → slice_get ts i ≡ Some t →
    (us : List ℕ) × IsPlaceAfter (before ++ us) t.pos
cut_place before rest ts end i t h = cc
cut_place before rest ts (piece {n = n} {p = Skipped} {ts = us} l s pl c) i t h =
    let later = cut_place (before ++ take n rest) (drop n rest) us c i t h in
    (take n rest ++ later.0, subst (λ vs. IsPlaceAfter vs t.pos) (append_assoc before (take n rest) later.0) later.1)
cut_place before rest ts (piece {n = n} {p = Unclosed} {ts = us} l s pl c) i t h = absurd s
cut_place before rest ts (piece {n = n} {p = Taken u} {at = at} {ts = us} l s pl c) zero t h =
    ([], subst (λ x. IsPlaceAfter (before ++ []) x.pos) (same_Some _ _ h) (subst (λ vs. IsPlaceAfter vs at) (sym (append-nil before)) pl))
cut_place before rest ts (piece {n = n} {p = Taken u} {ts = us} l s pl c) (suc i) t h =
    let later = cut_place (before ++ take n rest) (drop n rest) us c i t h in
    (take n rest ++ later.0, subst (λ vs. IsPlaceAfter vs t.pos) (append_assoc before (take n rest) later.0) later.1)

cut_order : (before rest : List ℕ) (ts : List Token) → IsCut before rest ts → (i j : ℕ) (t u : Token) → i < j →
    slice_get ts i ≡ Some t → slice_get ts j ≡ Some u → IsBefore t.pos u.pos
cut_order before rest ts end i j t u lt h g = cc
cut_order before rest ts (piece {n = n} {p = Skipped} {ts = us} l s pl c) i j t u lt h g = cut_order (before ++ take n rest) (drop n rest) us c i j t u lt h g
cut_order before rest ts (piece {n = n} {p = Unclosed} {ts = us} l s pl c) i j t u lt h g = absurd s
cut_order before rest ts (piece {n = n} {p = Taken x} {ts = us} l s pl c) i zero t u lt h g = absurd (omega arith)
cut_order before rest ts (piece {n = n} {p = Taken x} {at = at} {ts = us} l s pl c) zero (suc j) t u lt h g =
    let later = cut_place (before ++ take n rest) (drop n rest) us c j u g in
    let long = longest_some l in
    let some : 0 < length (take n rest ++ later.0) = omega (arith, long, length-take-le n rest l.within, length-append (take n rest) later.0) in
    let there = subst (λ vs. IsPlaceAfter vs u.pos) (append_assoc before (take n rest) later.0) later.1 in
    subst (λ y. IsBefore y.pos u.pos) (same_Some _ _ h) (place_before before (take n rest ++ later.0) at u.pos some pl there)
cut_order before rest ts (piece {n = n} {p = Taken x} {ts = us} l s pl c) (suc i) (suc j) t u lt h g =
    cut_order (before ++ take n rest) (drop n rest) us c i j t u (omega arith) h g

at_most_one : (at : Pos) (p : Piece) → length (tokens_at at p) ≤ 1
at_most_one at Skipped = omega arith
at_most_one at Unclosed = omega arith
at_most_one at (Taken t) = omega arith

-- no more tokens than bytes
cut_short : (before rest : List ℕ) (ts : List Token) → IsCut before rest ts → length ts ≤ length rest
cut_short before rest ts end = omega arith
cut_short before rest _ (piece {n = n} {p = p} {at = at} {ts = us} l s pl c) =
    let some = longest_some l in
    let fewer = cut_short (before ++ take n rest) (drop n rest) us c in
    omega (arith, some, fewer, length-append (tokens_at at p) us, at_most_one at p, length-drop n rest, l.within)

pub well_formed : (bytes : List ℕ) (ts : List Token) → length bytes ≤ 1048576 → IsLexed bytes ts → IsWellFormed ts
well_formed bytes ts most h = record {
  few = omega (arith, most, cut_short [] bytes ts h.cut);
  proper = λ i t here. proper t.tok (cut_toks [] bytes ts h.cut i t here) (none_refused ts i t h.limits.supported here);
  limits = h.limits;
  in_order = cut_order [] bytes ts h.cut;
}

-- groups

-- a row of tokens without a divider makes the group before it longer by as much
row_in_group : (front row : List Token) → IsUndivided row → in_group (front ++ row) ≡ in_group front + length row
row_in_group front [] h = rw (append-nil front) (omega arith)
row_in_group front (t ∷ row) h =
    let rest = row_in_group (front ++ t ∷ []) row (λ i u e. h (suc i) u e) in
    let one = suffix_len_push (λ u. not (is_divider u.tok)) front t in
    let one' = rw (h 0 t refl) at one in
    let split = ap in_group (append_assoc front (t ∷ []) row) in
    omega (arith, rest, one', split)

pub short_row : (front row back : List Token) → KeepsLimits (front ++ row ++ back) → IsUndivided row → length row ≤ 1024
short_row front row back h undivided =
    let within = h.groups (length (front ++ row)) in
    let front_is : take (length (front ++ row)) (front ++ row ++ back) ≡ front ++ row = take_at (front ++ row) back (length (front ++ row)) refl in
    omega (arith, ap in_group front_is, within, row_in_group front row undivided)
