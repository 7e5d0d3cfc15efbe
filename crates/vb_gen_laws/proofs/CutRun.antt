-- The cut of a text by computation, without places. It knows no comments and no large numbers.
use Rattle.std.proofs.Common.{◌≡◌, ◌∙◌, refl, sym, ap, subst, ℕ, zero, suc, ◌≤◌, Bool, true, false, cond, not, arith, List, [], ◌∷◌, ◌++◌, length, take, drop, Option, Some, None, pos}
use Rattle.std.specs.Prelude.{find, nat_lt}
use Rattle.std.specs.Char.{is_ascii_digit}
use Rattle.std.specs.List.{list_all, prefix_len}
use Rattle.std.specs.Str.{bytes_eq}
use Rattle.std.proofs.lemmas.Bool.Decides.{nat_tests}
use Rattle.std.proofs.lemmas.Int.{ints}
use Rattle.std.proofs.lemmas.List.{append_assoc, length-append, length-take, take-append-drop}
use Rattle.std.proofs.lemmas.List.Sums.{prefix_len-le-length}
use Rattle.std.proofs.lemmas.Option.{same_Some}
use Rattle.std.proofs.lemmas.Slice.Eq.{bytes_eq-Decides}
use Rattle.viper_syntax.proofs.LongestLaws.{blank_longest}
use Rattle.lemmas.proofs.Options.{none_some}
use Rattle.lemmas.proofs.Tests.{false_from_not as off}
use Rattle.vb_base.specs.declared.places.Pos.{Pos}
use Rattle.vb_base.specs.Limits.{max_viper_bytes}
use Rattle.vb_base.specs.Place.{IsPlaceAfter}
use Rattle.vb_base.specs.Names.{is_name, is_name_start, is_name_byte}
use Rattle.vb_base.proofs.PlaceLaws.{some_place_after}
use Rattle.viper_syntax.specs.declared.tokens.Sign.{Sign}
use Rattle.viper_syntax.specs.declared.tokens.Tok.{Tok}
use Rattle.viper_syntax.specs.declared.tokens.Tok.TheVariants as k
use Rattle.viper_syntax.specs.declared.tokens.Word.{Word}
use Rattle.viper_syntax.specs.declared.tokens.Word.TheVariants as w
use Rattle.viper_syntax.specs.Spelling.{word_text, sign_text, is_blank, decimal}
use Rattle.viper_syntax.specs.Piece.{IsDigits, IsToken, word, name, number, sign, Skipped, Taken, token, IsLongest}
use Rattle.viper_syntax.specs.Longest.{signs}
use Rattle.viper_syntax.specs.Step.{piece_of}
use Rattle.viper_syntax.specs.Cut.{IsSmall, IsSound, IsCut, end, piece}
use Rattle.vb_gen_laws.proofs.Fronts.{goes_on, longest_of_piece}
use Rattle.vb_gen_laws.proofs.Trees.{placed}

-- a text is cut into these tokens, wherever they stand
pub data Lexes : List ℕ → List Tok → Type 0 where
  done : Lexes [] []
  skip : {bs : List ℕ} {n : ℕ} {ts : List Tok} → IsLongest bs n Skipped → Lexes (drop n bs) ts → Lexes bs ts
  next : {bs : List ℕ} {n : ℕ} {t : Tok} {ts : List Tok} → IsLongest bs n (Taken t) → IsSmall t → Lexes (drop n bs) ts → Lexes bs (t ∷ ts)

-- ---- places

abbrev first_at : Pos → (ℕ → Pos) → ℕ → Pos
first_at at p zero = at
first_at at p (suc i) = p i

-- behind these bytes the text is as long as it was
moved : (before rest : List ℕ) (n : ℕ) → length (before ++ rest) ≤ max_viper_bytes → length ((before ++ take n rest) ++ drop n rest) ≤ max_viper_bytes
moved before rest n few = rw (append_assoc, take-append-drop) few

few_before : (before rest : List ℕ) → length (before ++ rest) ≤ max_viper_bytes → (at : Pos) × IsPlaceAfter before at
few_before before rest few = some_place_after before (omega (arith, simp length-append at few))

pub placed_cut : (before rest : List ℕ) (ts : List Tok) → length (before ++ rest) ≤ max_viper_bytes → Lexes rest ts → (p : ℕ → Pos) × IsCut before rest (placed p ts)
placed_cut before _ _ few done = (λ i. (few_before before [] few).0, end)
placed_cut before rest ts few (skip {n = n} longest h) =
    let r = placed_cut (before ++ take n rest) (drop n rest) ts (moved before rest n few) h in
    (r.0, piece longest tt (few_before before rest few).1 r.1)
placed_cut before rest _ few (next {n = n} {ts = ts} longest small h) =
    let at = few_before before rest few in
    let r = placed_cut (before ++ take n rest) (drop n rest) ts (moved before rest n few) h in
    (first_at at.0 r.0, piece longest small at.1 r.1)

-- ---- one piece

abbrev words : List Word
words =
    w.Field ∷ w.Predicate ∷ w.Method ∷ w.Returns ∷ w.Requires ∷ w.Ensures ∷ w.Invariant ∷ w.Var ∷ w.New ∷ w.If ∷
    w.Elseif ∷ w.Else ∷ w.While ∷ w.Inhale ∷ w.Exhale ∷ w.Assert ∷ w.Assume ∷ w.Fold ∷ w.Unfold ∷ w.Unfolding ∷ w.In ∷
    w.Acc ∷ w.Old ∷ w.Null ∷ w.True ∷ w.False ∷ w.Write ∷ w.None ∷ w.Wildcard ∷ w.Int ∷ w.Bool ∷ w.Ref ∷ w.Perm ∷ []

abbrev word_of : List ℕ → Option Word
word_of bs = find (λ u. bytes_eq bs (word_text u)) words

abbrev sign_of : List ℕ → Option Sign
sign_of bs = find (λ o. bytes_eq (take (length (sign_text o)) bs) (sign_text o)) signs

-- the number of bytes of the first piece, and its token, if it has one
abbrev Step : Type 0
Step = Option (ℕ × Option Tok)

abbrev only_if : {X : Type 0} → Bool → Option X → Option X
only_if true x = x
only_if false x = None

abbrev ended : List ℕ → ℕ → Tok → Step
ended bs n t = only_if (not (goes_on (take (suc n) bs))) (Some (n, Some t))

abbrev named : List ℕ → ℕ → Option Word → Step
named bs n None = only_if (is_name (take n bs)) (ended bs n (k.Name (take n bs)))
named bs n (Some v) = ended bs n (k.Word v)

abbrev are_digits : List ℕ → Bool
are_digits [] = false
are_digits (b ∷ bs) = list_all is_ascii_digit (b ∷ bs)

abbrev numbered : List ℕ → ℕ → ℕ → Step
numbered bs n value = only_if (are_digits (take n bs)) (only_if (nat_lt value 1000000) (ended bs n (k.Number (pos value))))

abbrev signed : List ℕ → Option Sign → Step
signed bs None = None
signed bs (Some o) = ended bs (length (sign_text o)) (k.Sign o)

abbrev first_piece : Bool → Bool → Bool → List ℕ → Step
first_piece true letter digit bs = Some (1, None)
first_piece false true digit bs = named bs (prefix_len is_name_byte bs) (word_of (take (prefix_len is_name_byte bs) bs))
first_piece false false true bs = numbered bs (prefix_len is_ascii_digit bs) (decimal (take (prefix_len is_ascii_digit bs) bs))
first_piece false false false bs = signed bs (sign_of bs)

abbrev step : List ℕ → Step
step [] = None
step (b ∷ bs) = first_piece (is_blank b) (is_name_start b) (is_ascii_digit b) (b ∷ bs)

-- ---- is right

abbrev IsFirst : List ℕ → ℕ × Option Tok → Type 0
IsFirst bs r = IsLongest bs r.0 (piece_of r.1) × IsSound (piece_of r.1)

passed : {X : Type 0} (b : Bool) (o : Option X) (x : X) → only_if b o ≡ Some x → (b ≡ true) × (o ≡ Some x)
passed true o x h = (refl, h)
passed false o x h = cc

ended_first : (bs : List ℕ) (n : ℕ) (t : Tok) (r : ℕ × Option Tok) → n ≤ length bs → IsToken (take n bs) t → IsSmall t → ended bs n t ≡ Some r → IsFirst bs r
ended_first bs n t r within is small h =
    let e = passed (not (goes_on (take (suc n) bs))) (Some (n, Some t)) r h in
    subst (λ x. IsFirst bs x) (same_Some (n, Some t) r e.1) (longest_of_piece bs n (Taken t) within (token is) (off _ e.0), small)

found_passes : {X : Type 0} (p : X → Bool) (xs : List X) (x : X) → find p xs ≡ Some x → p x ≡ true
found_passes p [] x h = cc
found_passes p (y ∷ ys) x h = by_case (p y) refl h (found_passes p ys x) where
  by_case : (b : Bool) → p y ≡ b → cond b (Some y) (find p ys) ≡ Some x → (find p ys ≡ Some x → p x ≡ true) → p x ≡ true
  by_case true e g rest = subst (λ z. p z ≡ true) (same_Some y x g) e
  by_case false e g rest = rest g

word_found : (v : Word) → word_of (word_text v) ≡ Some v
word_found w.Field = refl
word_found _ = refl

no_word : (bs : List ℕ) → word_of bs ≡ None → (v : Word) → bs ≡ word_text v → ⊥
no_word bs none v e = none_some (sym none ∙ ap word_of e ∙ word_found v)

named_first : (bs : List ℕ) (n : ℕ) (o : Option Word) (r : ℕ × Option Tok) → n ≤ length bs → word_of (take n bs) ≡ o → named bs n o ≡ Some r → IsFirst bs r
named_first bs n None r within none h =
    let e = passed (is_name (take n bs)) (ended bs n (k.Name (take n bs))) r h in
    ended_first bs n (k.Name (take n bs)) r within (name e.0 (no_word (take n bs) none)) tt e.1
named_first bs n (Some v) r within found h =
    let is = (bytes_eq-Decides (take n bs) (word_text v)).0 (found_passes (λ u. bytes_eq (take n bs) (word_text u)) words v found) in
    ended_first bs n (k.Word v) r within (word v is) tt h

small_number : (n : ℕ) → nat_lt n 1000000 ≡ true → IsSmall (k.Number (pos n))
small_number n h = grind (arith, nat_tests, ints)

from_digits : (us : List ℕ) → are_digits us ≡ true → IsDigits us
from_digits [] h = cc
from_digits (b ∷ us) h = h

numbered_first : (bs : List ℕ) (n : ℕ) (r : ℕ × Option Tok) → n ≤ length bs → numbered bs n (decimal (take n bs)) ≡ Some r → IsFirst bs r
numbered_first bs n r within h =
    let value = decimal (take n bs) in
    let d = passed (are_digits (take n bs)) (only_if (nat_lt value 1000000) (ended bs n (k.Number (pos value)))) r h in
    let e = passed (nat_lt value 1000000) (ended bs n (k.Number (pos value))) r d.1 in
    ended_first bs n (k.Number (pos value)) r within (number (from_digits (take n bs) d.0)) (small_number value e.0) e.1

signed_first : (bs : List ℕ) (o : Option Sign) (r : ℕ × Option Tok) → sign_of bs ≡ o → signed bs o ≡ Some r → IsFirst bs r
signed_first bs None r none h = cc
signed_first bs (Some o) r found h =
    let n = length (sign_text o) in
    let is = (bytes_eq-Decides (take n bs) (sign_text o)).0 (found_passes (λ v. bytes_eq (take (length (sign_text v)) bs) (sign_text v)) signs o found) in
    ended_first bs n (k.Sign o) r (omega (arith, ap length is, length-take n bs)) (sign o is) tt h

piece_first : (b : ℕ) (bs : List ℕ) (blank letter digit : Bool) (r : ℕ × Option Tok) → is_blank b ≡ blank → first_piece blank letter digit (b ∷ bs) ≡ Some r → IsFirst (b ∷ bs) r
piece_first b bs true letter digit r e h = subst (λ x. IsFirst (b ∷ bs) x) (same_Some (1, None) r h) (blank_longest (b ∷ bs) e, tt)
piece_first b bs false true digit r e h = named_first (b ∷ bs) _ _ r (prefix_len-le-length is_name_byte (b ∷ bs)) refl h
piece_first b bs false false true r e h = numbered_first (b ∷ bs) _ r (prefix_len-le-length is_ascii_digit (b ∷ bs)) h
piece_first b bs false false false r e h = signed_first (b ∷ bs) _ r refl h

step_first : (bs : List ℕ) (r : ℕ × Option Tok) → step bs ≡ Some r → IsFirst bs r
step_first [] r h = cc
step_first (b ∷ bs) r h = piece_first b bs (is_blank b) (is_name_start b) (is_ascii_digit b) r refl h

-- ---- so many pieces

-- the tokens, and the rest of the text
abbrev Cuts : Type 0
Cuts = Option (List Tok × List ℕ)

abbrev with_token : Option Tok → Cuts → Cuts
with_token t None = None
with_token None (Some r) = Some r
with_token (Some t) (Some r) = Some (t ∷ r.0, r.1)

abbrev pub lex : ℕ → List ℕ → Cuts
lex zero bs = Some ([], bs)
lex (suc m) bs = elim (step bs) [ None ↦ None | Some r ↦ with_token r.1 (lex m (drop r.0 bs)) ]

join : (bs : List ℕ) (n : ℕ) (o : Option Tok) (c : Cuts) (rest : List ℕ) (ts us : List Tok) → IsFirst bs (n, o) → with_token o c ≡ Some (ts, rest) →
    ((vs : List Tok) → c ≡ Some (vs, rest) → Lexes (drop n bs) (vs ++ us)) → Lexes bs (ts ++ us)
join bs n o None rest ts us first h go = cc
join bs n None (Some (vs, _)) rest ts us first h go = skip first.0 (go ts h)
join bs n (Some t) (Some (vs, zs)) rest ts us first h go =
    let e = same_Some (t ∷ vs, zs) (ts, rest) h in
    subst (λ l. Lexes bs (l ++ us)) (ap (λ p. p.0) e) (next first.0 first.1 (go vs (ap (λ z. Some (vs, z)) (ap (λ p. p.1) e))))

one_more : (m : ℕ) (bs rest : List ℕ) (ts us : List Tok) (o : Step) → step bs ≡ o → ◌≡◌ {A = Cuts} (elim o [ None ↦ None | Some r ↦ with_token r.1 (lex m (drop r.0 bs)) ]) (Some (ts, rest)) →
    ((n : ℕ) (vs : List Tok) → lex m (drop n bs) ≡ Some (vs, rest) → Lexes (drop n bs) (vs ++ us)) → Lexes bs (ts ++ us)
one_more m bs rest ts us None none h go = cc
one_more m bs rest ts us (Some r) found h go = join bs r.0 r.1 (lex m (drop r.0 bs)) rest ts us (step_first bs r found) h (go r.0)

pub lex_sound : (m : ℕ) (bs rest : List ℕ) (ts us : List Tok) → lex m bs ≡ Some (ts, rest) → Lexes rest us → Lexes bs (ts ++ us)
lex_sound zero bs rest ts us h l =
    let e = same_Some ([], bs) (ts, rest) h in
    subst (λ p. Lexes bs (p ++ us)) (ap (λ p. p.0) e) (subst (λ x. Lexes x us) (sym (ap (λ p. p.1) e)) l)
lex_sound (suc m) bs rest ts us h l = one_more m bs rest ts us (step bs) refl h (λ n vs e. lex_sound m (drop n bs) rest vs us e l)
