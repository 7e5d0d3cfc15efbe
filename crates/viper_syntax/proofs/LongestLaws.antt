-- The longest piece with which bytes begin, by their first bytes.
use Rattle.std.proofs.Common.{◌≡◌, ◌∙◌, ◌≢◌, ℕ, ◌+◌, ◌-◌, ◌*◌, ◌<◌, ◌≤◌, Bool, true, false, cond, not, refl, ap, sym, subst, arith, inl, inr, List, [], ◌∷◌, ◌++◌, length, take, drop, get_or, Some, None, suc, zero, pos}
use Rattle.std.specs.Prelude.{slice_get, IsTrue, ◌⊎◌, ◌==◌, ◌&&◌, find, nat_eq, nat_le}
use Rattle.std.specs.Char.{is_ascii_digit}
use Rattle.std.specs.List.{list_all, prefix_len, starts_with}
use Rattle.std.specs.Str.{bytes_eq}
use Rattle.std.proofs.lemmas.Bool.{cases_lt, and_from, and_parts}
use Rattle.std.proofs.lemmas.Bool.Decides.{nat_tests}
use Rattle.std.proofs.lemmas.List.{drop_more, length-take, length-take-le, take_all, append_assoc, length-append}
use Rattle.std.proofs.lemmas.List.Sums.{prefix_len-le-length}
use Rattle.std.proofs.lemmas.Option.{same_Some, slice_get_within}
use Rattle.std.proofs.lemmas.Slice.Eq.{bytes_eq-Decides}
use Rattle.lemmas.proofs.Tests.{left_true}
use Rattle.lemmas.proofs.Numbers.{one_more}
use Rattle.lemmas.proofs.Lists.{take_there, take_through}
use Rattle.vb_base.specs.Names.{is_name, is_name_start, is_name_byte}
use Rattle.viper_syntax.specs.declared.tokens.Sign.{Sign}
use Rattle.viper_syntax.specs.declared.tokens.Tok.{Tok}
use Rattle.viper_syntax.specs.declared.tokens.Tok.TheVariants as k
use Rattle.viper_syntax.specs.Spelling.{sign_text, is_blank, decimal, decimal_from}
use Rattle.viper_syntax.specs.Piece.{IsDigits, IsToken, number, sign, Piece, Skipped, Unclosed, Taken, line, closed, unclosed, IsPiece, blank, comment, token, HasNoClose, ClosesAt, IsLongest, BeginsNoPiece}
use Rattle.viper_syntax.specs.Longest.{signs, longest_sign}
use Rattle.viper_syntax.specs.Step.{BeginsWith, IsSignOnly, IsFirstClose}
use Rattle.viper_syntax.proofs.PieceLaws.{Other, class, Kind, kind_of, piece_not_empty, blank_class, start_class, digit_class, slash_sign, sign_found}

pub false_true : false ≡ true → ⊥
false_true e = cc

-- fronts that pass a test

right_true : (p q : Bool) → (p && q) ≡ true → q ≡ true
right_true true q h = h
right_true false q h = cc

-- a front that passes is no longer than the longest
front_passes : (p : ℕ → Bool) (m : ℕ) (bs : List ℕ) → m ≤ length bs → list_all p (take m bs) ≡ true → m ≤ prefix_len p bs
front_passes p zero bs le h = omega arith
front_passes p (suc m) [] le h = absurd (omega arith)
front_passes p (suc m) (b ∷ bs) le h =
    rw (left_true (p b) _ h) (omega (arith, front_passes p m bs (omega arith) (right_true (p b) _ h)))

pub longest_front_passes : (p : ℕ → Bool) (bs : List ℕ) → list_all p (take (prefix_len p bs) bs) ≡ true
longest_front_passes p [] = refl
longest_front_passes p (b ∷ bs) = by_case (p b) refl (longest_front_passes p bs) where
  by_case : (t : Bool) → p b ≡ t → list_all p (take (prefix_len p bs) bs) ≡ true → list_all p (take (cond t (1 + prefix_len p bs) 0) (b ∷ bs)) ≡ true
  by_case true h rest = rw (one_more (prefix_len p bs), h) rest
  by_case false h rest = refl

-- blanks

pub blank_longest : (bs : List ℕ) → BeginsWith is_blank bs → IsLongest bs 1 Skipped
blank_longest [] h = absurd h
blank_longest (b ∷ bs) h = record { within = omega arith; piece = blank b refl h; longest = longest } where
  longest : (m : ℕ) (q : Piece) → m ≤ length (b ∷ bs) → IsPiece (take m (b ∷ bs)) q → m ≤ 1
  longest zero q le piece = omega arith
  longest (suc m) q le piece =
      let kind = subst (λ c. Kind c (b ∷ take m bs) q) (blank_class b h) (kind_of b (take m bs) q piece) in
      omega (arith, kind.0, length-take-le m bs (omega arith))

-- names and words

start_is_byte : (b : ℕ) → is_name_start b ≡ true → is_name_byte b ≡ true
start_is_byte b h = rw h refl

pub name_form_of_front : (bs : List ℕ) → BeginsWith is_name_start bs → is_name (take (prefix_len is_name_byte bs) bs) ≡ true
name_form_of_front [] h = absurd h
name_form_of_front (b ∷ bs) h = rw (start_is_byte b h, one_more (prefix_len is_name_byte bs)) (and_from _ _ h (longest_front_passes is_name_byte bs))

pub name_longest : (bs : List ℕ) (t : Tok) → BeginsWith is_name_start bs → IsToken (take (prefix_len is_name_byte bs) bs) t →
    IsLongest bs (prefix_len is_name_byte bs) (Taken t)
name_longest [] t h is = absurd h
name_longest (b ∷ bs) t h is =
    record { within = prefix_len-le-length is_name_byte (b ∷ bs); piece = token is; longest = longest } where
      form_passes : (us : List ℕ) → is_name (b ∷ us) ≡ true → list_all is_name_byte (b ∷ us) ≡ true
      form_passes us form = let parts = and_parts (is_name_start b) (list_all is_name_byte us) form in and_from _ _ (start_is_byte b parts.0) parts.1

      longest : (m : ℕ) (q : Piece) → m ≤ length (b ∷ bs) → IsPiece (take m (b ∷ bs)) q → m ≤ prefix_len is_name_byte (b ∷ bs)
      longest zero q le piece = absurd (piece_not_empty q piece)
      longest (suc m) q le piece =
          let kind = subst (λ c. Kind c (b ∷ take m bs) q) (start_class b h) (kind_of b (take m bs) q piece) in
          front_passes is_name_byte (suc m) (b ∷ bs) le (form_passes (take m bs) kind.0)

-- numbers

digits_from : (us : List ℕ) → list_all is_ascii_digit us ≡ true → 0 < length us → IsDigits us
digits_from [] h long = absurd (omega arith)
digits_from (b ∷ us) h long = h

pub number_longest : (bs : List ℕ) → BeginsWith is_ascii_digit bs →
    IsLongest bs (prefix_len is_ascii_digit bs) (Taken (k.Number (pos (decimal (take (prefix_len is_ascii_digit bs) bs)))))
number_longest [] h = absurd h
number_longest (b ∷ bs) h =
    record { within = within; piece = token (number (digits_from _ (longest_front_passes is_ascii_digit (b ∷ bs)) long)); longest = longest } where
      within : prefix_len is_ascii_digit (b ∷ bs) ≤ length (b ∷ bs)
      within = prefix_len-le-length is_ascii_digit (b ∷ bs)

      some : prefix_len is_ascii_digit (b ∷ bs) ≡ 1 + prefix_len is_ascii_digit bs
      some = rw h refl

      long : 0 < length (take (prefix_len is_ascii_digit (b ∷ bs)) (b ∷ bs))
      long = omega (arith, some, length-take-le (prefix_len is_ascii_digit (b ∷ bs)) (b ∷ bs) within)

      longest : (m : ℕ) (q : Piece) → m ≤ length (b ∷ bs) → IsPiece (take m (b ∷ bs)) q → m ≤ prefix_len is_ascii_digit (b ∷ bs)
      longest zero q le piece = absurd (piece_not_empty q piece)
      longest (suc m) q le piece =
          let kind = subst (λ c. Kind c (b ∷ take m bs) q) (digit_class b h) (kind_of b (take m bs) q piece) in
          front_passes is_ascii_digit (suc m) (b ∷ bs) le kind.0

-- elements of fronts

slice_get_in_take : {X : Type 0} (n : ℕ) (xs : List X) (i : ℕ) (x : X) → i < n → slice_get xs i ≡ Some x → slice_get (take n xs) i ≡ Some x
slice_get_in_take zero xs i x lt h = absurd (omega arith)
slice_get_in_take (suc n) [] i x lt h = cc
slice_get_in_take (suc n) (y ∷ ys) zero x lt h = h
slice_get_in_take (suc n) (y ∷ ys) (suc i) x lt h = slice_get_in_take n ys i x (omega arith) h

slice_get_front : {X : Type 0} (xs ys : List X) (i : ℕ) (x : X) → i < length xs → slice_get (xs ++ ys) i ≡ Some x → slice_get xs i ≡ Some x
slice_get_front [] ys i x lt h = absurd (omega arith)
slice_get_front (y ∷ xs) ys zero x lt h = h
slice_get_front (y ∷ xs) ys (suc i) x lt h = slice_get_front xs ys i x (omega arith) h

-- comments

-- where a sign begins with `/`, the front is one byte long
short_sign : (m : ℕ) (bs : List ℕ) (v : Sign) → m ≤ length bs → 47 ∷ take m bs ≡ sign_text v → m ≡ 0
short_sign m bs v le e = let empty = slash_sign v (take m bs) e in omega (arith, ap length empty, length-take-le m bs le)

second_byte : {b c : ℕ} {us vs : List ℕ} → b ∷ us ≡ 47 ∷ c ∷ vs → slice_get us 0 ≡ Some c
second_byte e = ap (λ us. slice_get (drop 1 us) 0) e

not_both : (us : List ℕ) → slice_get us 0 ≡ Some 47 → slice_get us 0 ≡ Some 42 → ⊥
not_both us h g = false_true (sym (ap (nat_eq 47) (same_Some 47 42 (sym h ∙ g))))

pub line_longest : (bs : List ℕ) →
    IsLongest (47 ∷ 47 ∷ bs) (prefix_len (λ b. not (b == 10)) (47 ∷ 47 ∷ bs)) Skipped
line_longest bs = subst (λ n. IsLongest (47 ∷ 47 ∷ bs) n Skipped) (two_more (prefix_len (λ b. not (b == 10)) bs))
    record {
      within = omega (arith, prefix_len-le-length (λ b. not (b == 10)) bs);
      piece = comment (line (take (prefix_len (λ b. not (b == 10)) bs) bs) refl (longest_front_passes (λ b. not (b == 10)) bs));
      longest = longest;
    } where
      two_more : (n : ℕ) → suc (suc n) ≡ 1 + (1 + n)
      two_more n = omega arith

      by_kind : (m : ℕ) (q : Piece) → m ≤ length (47 ∷ bs) → Kind Other (47 ∷ take m (47 ∷ bs)) q → suc m ≤ suc (suc (prefix_len (λ b. not (b == 10)) bs))
      by_kind m q le (inl (line text e h)) =
          let all = subst (λ us. list_all (λ b. not (b == 10)) us ≡ true) (sym e) h in
          omega (arith, front_passes (λ b. not (b == 10)) (suc m) (47 ∷ 47 ∷ bs) (omega arith) all)
      by_kind zero q le (inl (closed text e h)) = omega arith
      by_kind (suc m) q le (inl (closed text e h)) = absurd (not_both (47 ∷ take m bs) refl (second_byte e))
      by_kind zero q le (inl (unclosed text e h)) = omega arith
      by_kind (suc m) q le (inl (unclosed text e h)) = absurd (not_both (47 ∷ take m bs) refl (second_byte e))
      by_kind m q le (inr (v, e, is)) = omega (arith, short_sign m (47 ∷ bs) v le e)

      longest : (m : ℕ) (q : Piece) → m ≤ length (47 ∷ 47 ∷ bs) → IsPiece (take m (47 ∷ 47 ∷ bs)) q → m ≤ suc (suc (prefix_len (λ b. not (b == 10)) bs))
      longest zero q le piece = omega arith
      longest (suc m) q le piece = by_kind m q (omega arith) (kind_of 47 (take m (47 ∷ bs)) q piece)

pub unclosed_longest : (bs : List ℕ) → HasNoClose bs → IsLongest (47 ∷ 42 ∷ bs) (length (47 ∷ 42 ∷ bs)) Unclosed
unclosed_longest bs h = record {
  within = omega arith;
  piece = comment (unclosed bs (take_all (length (47 ∷ 42 ∷ bs)) (47 ∷ 42 ∷ bs) (omega arith)) h);
  longest = λ m q le piece. le;
}

-- the bytes through a close
through_close : (bs : List ℕ) (i : ℕ) → ClosesAt bs i → take (i + 2) bs ≡ take i bs ++ 42 ∷ 47 ∷ []
through_close bs i h =
    let two : i + 2 ≡ i + 1 + 1 = omega arith in
    rw two (take_through bs (i + 1) 47 h.1 ∙ ap (λ us. us ++ 47 ∷ []) (take_through bs i 42 h.0) ∙ append_assoc (take i bs) (42 ∷ []) (47 ∷ []))

before_close : (bs : List ℕ) (i : ℕ) → IsFirstClose bs i → HasNoClose (take i bs ++ 42 ∷ [])
before_close bs i h j at =
    let front = rw (← take_through bs i 42 h.0.0) at at in
    let inside = slice_get_within (take (i + 1) bs) (j + 1) 47 front.1 in
    h.1 j (omega (arith, inside, length-take (i + 1) bs)) (take_there (i + 1) bs j 42 front.0, take_there (i + 1) bs (j + 1) 47 front.1)

-- bytes that go past a close have it
has_close : (bs us : List ℕ) (m i : ℕ) → ClosesAt bs i → i + 2 ≤ m → take m bs ≡ us → ClosesAt us i
has_close bs us m i h le e =
    rw (← e) (slice_get_in_take m bs i 42 (omega arith) h.0, slice_get_in_take m bs (i + 1) 47 (omega arith) h.1)

pub closed_longest : (bs : List ℕ) (i : ℕ) → IsFirstClose bs i → IsLongest (47 ∷ 42 ∷ bs) (suc (suc (i + 2))) Skipped
closed_longest bs i h = record {
  within = omega (arith, slice_get_within bs (i + 1) 47 h.0.1);
  piece = comment (closed (take i bs) (ap (λ us. 47 ∷ 42 ∷ us) (through_close bs i h.0)) (before_close bs i h));
  longest = longest;
} where
  past : (m : ℕ) (text : List ℕ) → m ≤ length bs → take m bs ≡ text ++ 42 ∷ 47 ∷ [] → HasNoClose (text ++ 42 ∷ []) → i + 2 < m → ⊥
  past m text le e none lt =
      let found = has_close bs (text ++ 42 ∷ 47 ∷ []) m i h.0 (omega arith) e in
      let split : text ++ 42 ∷ 47 ∷ [] ≡ (text ++ 42 ∷ []) ++ 47 ∷ [] = sym (append_assoc text (42 ∷ []) (47 ∷ [])) in
      let found' = rw split at found in
      let long : length (text ++ 42 ∷ []) + 1 ≡ m = omega (arith, ap length e, length-take-le m bs le, length-append text (42 ∷ 47 ∷ []), length-append text (42 ∷ [])) in
      none i (
        slice_get_front (text ++ 42 ∷ []) (47 ∷ []) i 42 (omega arith) found'.0,
        slice_get_front (text ++ 42 ∷ []) (47 ∷ []) (i + 1) 47 (omega arith) found'.1,
      )

  at_most : (m : ℕ) → (i + 2 < m → ⊥) → m ≤ i + 2
  at_most m none = by_case (cases_lt (i + 2) m) where
    by_case : (i + 2 < m) ⊎ (m ≤ i + 2) → m ≤ i + 2
    by_case (inl lt) = absurd (none lt)
    by_case (inr le) = le

  by_kind : (m : ℕ) (q : Piece) → m ≤ length bs → Kind Other (47 ∷ 42 ∷ take m bs) q → m ≤ i + 2
  by_kind m q le (inl (line text e h')) = absurd (not_both (42 ∷ take m bs) (second_byte e) refl)
  by_kind m q le (inl (closed text e none)) = at_most m (past m text le (ap (λ us. drop 2 us) e) none)
  by_kind m q le (inl (unclosed text e none)) = at_most m (λ lt. none i (has_close bs text m i h.0 (omega arith) (ap (λ us. drop 2 us) e)))
  by_kind m q le (inr (v, e, is)) = let short = slash_sign v (42 ∷ take m bs) e in absurd (omega (arith, ap length short))

  longest : (m : ℕ) (q : Piece) → m ≤ length (47 ∷ 42 ∷ bs) → IsPiece (take m (47 ∷ 42 ∷ bs)) q → m ≤ suc (suc (i + 2))
  longest zero q le piece = omega arith
  longest (suc zero) q le piece = omega arith
  longest (suc (suc m)) q le piece = omega (arith, by_kind m q (omega arith) (kind_of 47 (42 ∷ take m bs) q piece))

-- signs

descends : List Sign → Bool
descends [] = true
descends (v ∷ vs) = list_all (λ u. nat_le (length (sign_text u)) (length (sign_text v))) vs && descends vs

signs_descend : descends signs ≡ true
unfolding descends
signs_descend = refl

all_found : (r q : Sign → Bool) (vs : List Sign) (u : Sign) → list_all r vs ≡ true → find q vs ≡ Some u → r u ≡ true
all_found r q [] u h f = cc
all_found r q (v ∷ vs) u h f = by_case (q v) f (all_found r q vs u (right_true (r v) _ h)) where
  by_case : (t : Bool) → cond t (Some v) (find q vs) ≡ Some u → (find q vs ≡ Some u → r u ≡ true) → r u ≡ true
  by_case true e rest = subst (λ x. r x ≡ true) (sign_same e) (left_true (r v) _ h) where
    sign_same : {a b : Sign} → Some a ≡ Some b → a ≡ b
    sign_same e = cc
  by_case false e rest = rest e

-- of the signs that a list gives, longer ones first, the first is the longest
first_is_longest : (p q : Sign → Bool) (vs : List Sign) (v u : Sign) → descends vs ≡ true → find p vs ≡ Some v →
    find q vs ≡ Some u → p u ≡ true → length (sign_text u) ≤ length (sign_text v)
unfolding descends
first_is_longest p q [] v u h f g is = cc
first_is_longest p q (w ∷ ws) v u h f g is =
    by_case (p w) refl f (λ f' g'. first_is_longest p q ws v u (right_true (list_all (λ x. nat_le (length (sign_text x)) (length (sign_text w))) ws) _ h) f' g' is) where
      same : {a b : Sign} → Some a ≡ Some b → a ≡ b
      same e = cc

      le_from : (m n : ℕ) → nat_le m n ≡ true → m ≤ n
      le_from m n h = grind (arith, nat_tests)

      not_both_ways : (t : Bool) → p w ≡ t → false ≡ t → p w ≡ true → ⊥
      not_both_ways t e f g = false_true (f ∙ sym e ∙ g)

      at_head : (t : Bool) → q w ≡ t → w ≡ v → cond t (Some w) (find q ws) ≡ Some u → length (sign_text u) ≤ length (sign_text v)
      at_head true eq e g' = subst (λ x. length (sign_text x) ≤ length (sign_text v)) (same g') (subst (λ x. length (sign_text w) ≤ length (sign_text x)) e (omega arith))
      at_head false eq e g' =
          subst (λ x. length (sign_text u) ≤ length (sign_text x)) e
          (le_from _ _ (all_found (λ x. nat_le (length (sign_text x)) (length (sign_text w))) q ws u (left_true (list_all (λ x. nat_le (length (sign_text x)) (length (sign_text w))) ws) _ h) g'))

      later : (t : Bool) → q w ≡ t → p w ≡ false → cond t (Some w) (find q ws) ≡ Some u → (find q ws ≡ Some u → length (sign_text u) ≤ length (sign_text v)) → length (sign_text u) ≤ length (sign_text v)
      later true eq none g' rest = absurd (false_true (sym none ∙ ap p (same g') ∙ is))
      later false eq none g' rest = rest g'

      by_case : (t : Bool) → p w ≡ t → cond t (Some w) (find p ws) ≡ Some v → (find p ws ≡ Some v → find q ws ≡ Some u → length (sign_text u) ≤ length (sign_text v)) → length (sign_text u) ≤ length (sign_text v)
      by_case true e f' rest = at_head (q w) refl (same f') g
      by_case false e f' rest = later (q w) refl e g (rest f')

none_passes : (p q : Sign → Bool) (vs : List Sign) (u : Sign) → find p vs ≡ None → find q vs ≡ Some u → p u ≡ true → ⊥
none_passes p q [] u f g is = cc
none_passes p q (w ∷ ws) u f g is = by_case (p w) refl f (λ f' g'. none_passes p q ws u f' g' is) where
  same : {a b : Sign} → Some a ≡ Some b → a ≡ b
  same e = cc

  later : (t : Bool) → q w ≡ t → p w ≡ false → cond t (Some w) (find q ws) ≡ Some u → (find q ws ≡ Some u → ⊥) → ⊥
  later true eq none g' rest = false_true (sym none ∙ ap p (same g') ∙ is)
  later false eq none g' rest = rest g'

  by_case : (t : Bool) → p w ≡ t → cond t (Some w) (find p ws) ≡ None → (find p ws ≡ None → find q ws ≡ Some u → ⊥) → ⊥
  by_case true e f' rest = cc
  by_case false e f' rest = later (q w) refl e g (rest f')

find_passes : (p : Sign → Bool) (vs : List Sign) (v : Sign) → find p vs ≡ Some v → p v ≡ true
find_passes p [] v f = cc
find_passes p (w ∷ ws) v f = by_case (p w) refl f (find_passes p ws v) where
  same : {a b : Sign} → Some a ≡ Some b → a ≡ b
  same e = cc

  by_case : (t : Bool) → p w ≡ t → cond t (Some w) (find p ws) ≡ Some v → (find p ws ≡ Some v → p v ≡ true) → p v ≡ true
  by_case true e f' rest = subst (λ x. p x ≡ true) (same f') e
  by_case false e f' rest = rest f'

starts_from_front : (bs : List ℕ) (m : ℕ) (v : Sign) → m ≤ length bs → take m bs ≡ sign_text v → starts_with nat_eq bs (sign_text v) ≡ true
starts_from_front bs m v le e =
    let long : length (sign_text v) ≡ m = sym (ap length e) ∙ length-take-le m bs le in
    (bytes_eq-Decides (sign_text v) (take (length (sign_text v)) bs)).1 (sym e ∙ ap (λ n. take n bs) (sym long))

front_from_starts : (bs : List ℕ) (v : Sign) → starts_with nat_eq bs (sign_text v) ≡ true → take (length (sign_text v)) bs ≡ sign_text v
front_from_starts bs v h = sym ((bytes_eq-Decides (sign_text v) (take (length (sign_text v)) bs)).0 h)

-- what a piece is where only a sign can begin
only_sign : (b : ℕ) (bs : List ℕ) (m : ℕ) (q : Piece) → IsSignOnly (b ∷ bs) → IsPiece (b ∷ take m bs) q →
    (v : Sign) × (b ∷ take m bs ≡ sign_text v)
only_sign b bs m q h piece = by_kind q (subst (λ c. Kind c (b ∷ take m bs) q) other (kind_of b (take m bs) q piece)) where
  other : class b ≡ Other
  other = rw (h.0, h.1, h.2) refl

  no_second : (c : ℕ) → ((slice_get bs 0 ≡ Some c) → ⊥) → (us : List ℕ) → b ∷ take m bs ≡ 47 ∷ c ∷ us → ⊥
  no_second c not_there us e = not_there (take_there m bs 0 c (ap (λ vs. slice_get (drop 1 vs) 0) e))

  first : {c : ℕ} {us : List ℕ} → b ∷ take m bs ≡ c ∷ us → b ≡ c
  first e = cc

  by_kind : (p : Piece) → Kind Other (b ∷ take m bs) p → (v : Sign) × (b ∷ take m bs ≡ sign_text v)
  by_kind p (inl (line text e none)) = absurd (no_second 47 (h.3 (first e)).0 text e)
  by_kind p (inl (closed text e none)) = absurd (no_second 42 (h.3 (first e)).1 _ e)
  by_kind p (inl (unclosed text e none)) = absurd (no_second 42 (h.3 (first e)).1 text e)
  by_kind p (inr (v, e, is)) = (v, e)

pub sign_longest : (bs : List ℕ) (v : Sign) → IsSignOnly bs → longest_sign bs ≡ Some v → IsLongest bs (length (sign_text v)) (Taken (k.Sign v))
sign_longest [] v h f = absurd h
sign_longest (b ∷ bs) v h f = record { within = within; piece = token (sign v front); longest = longest } where
  front : take (length (sign_text v)) (b ∷ bs) ≡ sign_text v
  front = front_from_starts (b ∷ bs) v (find_passes (λ u. starts_with nat_eq (b ∷ bs) (sign_text u)) signs v f)

  within : length (sign_text v) ≤ length (b ∷ bs)
  within = omega (arith, ap length front, length-take (length (sign_text v)) (b ∷ bs))

  longest : (m : ℕ) (q : Piece) → m ≤ length (b ∷ bs) → IsPiece (take m (b ∷ bs)) q → m ≤ length (sign_text v)
  longest zero q le piece = omega arith
  longest (suc m) q le piece =
      let one = only_sign b bs m q h piece in
      let most = first_is_longest (λ u. starts_with nat_eq (b ∷ bs) (sign_text u)) (λ u. bytes_eq (sign_text one.0) (sign_text u)) signs v one.0 signs_descend f (sign_found one.0) (starts_from_front (b ∷ bs) (suc m) one.0 le one.1) in
      omega (arith, most, ap length one.1, length-take-le m bs (omega arith))

pub no_piece : (bs : List ℕ) → IsSignOnly bs → longest_sign bs ≡ None → BeginsNoPiece bs
no_piece [] h f m q le piece = h
no_piece (b ∷ bs) h f zero q le piece = piece_not_empty q piece
no_piece (b ∷ bs) h f (suc m) q le piece =
    let one = only_sign b bs m q h piece in
    none_passes (λ u. starts_with nat_eq (b ∷ bs) (sign_text u)) (λ u. bytes_eq (sign_text one.0) (sign_text u)) signs one.0 f (sign_found one.0) (starts_from_front (b ∷ bs) (suc m) one.0 le one.1)

-- comments in a text that is not taken apart

two_first : (bs : List ℕ) (c : ℕ) → 2 ≤ length bs → get_or bs 0 0 ≡ 47 → get_or bs 1 0 ≡ c → 47 ∷ c ∷ drop 2 bs ≡ bs
two_first [] c le e f = absurd (omega arith)
two_first (a ∷ []) c le e f = absurd (omega arith)
two_first (a ∷ b ∷ bs) c le e f = rw (e, f) refl

two_long : (bs : List ℕ) (c : ℕ) → 0 < c → get_or bs 1 0 ≡ c → 2 ≤ length bs
two_long [] c lt e = absurd (omega arith)
two_long (a ∷ []) c lt e = absurd (omega arith)
two_long (a ∷ b ∷ bs) c lt e = omega arith

pub line_at : (bs : List ℕ) → get_or bs 0 0 ≡ 47 → get_or bs 1 0 ≡ 47 → IsLongest bs (prefix_len (λ b. not (b == 10)) bs) Skipped
line_at bs e f = subst (λ us. IsLongest us (prefix_len (λ b. not (b == 10)) us) Skipped) (two_first bs 47 (two_long bs 47 (omega arith) f) e f) (line_longest (drop 2 bs))

pub closed_at : (bs : List ℕ) (i : ℕ) → get_or bs 0 0 ≡ 47 → get_or bs 1 0 ≡ 42 → IsFirstClose (drop 2 bs) i → IsLongest bs (i + 4) Skipped
closed_at bs i e f h =
    let long : suc (suc (i + 2)) ≡ i + 4 = omega arith in
    subst (λ us. IsLongest us (i + 4) Skipped) (two_first bs 42 (two_long bs 42 (omega arith) f) e f) (rw long at (closed_longest (drop 2 bs) i h))

pub unclosed_at : (bs : List ℕ) → get_or bs 0 0 ≡ 47 → get_or bs 1 0 ≡ 42 → HasNoClose (drop 2 bs) → IsLongest bs (length bs) Unclosed
unclosed_at bs e f h = subst (λ us. IsLongest us (length us) Unclosed) (two_first bs 42 (two_long bs 42 (omega arith) f) e f) (unclosed_longest (drop 2 bs) h)

-- what tests of the first bytes say

pub begins_from_first : (p : ℕ → Bool) (bs : List ℕ) → 0 < length bs → p (get_or bs 0 0) ≡ true → BeginsWith p bs
begins_from_first p [] long h = absurd (omega arith)
begins_from_first p (b ∷ bs) long h = h

pub sign_from_first : (bs : List ℕ) → 0 < length bs → is_blank (get_or bs 0 0) ≡ false → is_name_start (get_or bs 0 0) ≡ false →
    is_ascii_digit (get_or bs 0 0) ≡ false → (get_or bs 0 0 ≡ 47 → (get_or bs 1 0 ≢ 47) × (get_or bs 1 0 ≢ 42)) → IsSignOnly bs
sign_from_first [] long no_blank no_start no_digit slash = absurd (omega arith)
sign_from_first (b ∷ bs) long no_blank no_start no_digit slash =
    (no_blank, no_start, no_digit, λ e. (λ f. (slash e).0 (second bs 47 f), λ f. (slash e).1 (second bs 42 f))) where
      second : (bs : List ℕ) (c : ℕ) → slice_get bs 0 ≡ Some c → get_or bs 0 0 ≡ c
      second [] c e = cc
      second (a ∷ bs) c e = same_Some _ _ e

-- the search for `*/`

pub star_at : (bs : List ℕ) (i c : ℕ) → i < length bs → (nat_eq (get_or bs i 0) c ≡ true → slice_get bs i ≡ Some c) × (slice_get bs i ≡ Some c → nat_eq (get_or bs i 0) c ≡ true)
star_at [] i c lt = absurd (omega arith)
star_at (b ∷ bs) zero c lt = (λ h. ap (λ x. Some x) (eq_from b c h), λ e. rw (same_Some _ _ e) (eq_to c)) where
  eq_from : (m n : ℕ) → nat_eq m n ≡ true → m ≡ n
  eq_from m n h = grind (arith, nat_tests)

  eq_to : (n : ℕ) → nat_eq n n ≡ true
  eq_to n = grind (arith, nat_tests)
star_at (b ∷ bs) (suc i) c lt = star_at bs i c (omega arith)

pub close_within : (bs : List ℕ) (i : ℕ) → ClosesAt bs i → i + 1 < length bs
close_within bs i h = slice_get_within bs (i + 1) 47 h.1

-- digits

decimal_grows : (n : ℕ) (ds : List ℕ) → n ≤ decimal_from n ds
decimal_grows n [] = omega arith
decimal_grows n (d ∷ ds) = omega (arith, decimal_grows (n * 10 + (d - 48)) ds)

pub decimal_step : (n i : ℕ) (ds : List ℕ) → i < length ds → n * 10 + (get_or ds i 0 - 48) ≤ decimal_from n (drop i ds)
decimal_step n i ds lt = rw (drop_more ds i 0 lt) (decimal_grows (n * 10 + (get_or ds i 0 - 48)) (drop (i + 1) ds))

get_from_slice_get : (bs : List ℕ) (i c : ℕ) → slice_get bs i ≡ Some c → get_or bs i 0 ≡ c
get_from_slice_get [] i c e = cc
get_from_slice_get (b ∷ bs) zero c e = same_Some _ _ e
get_from_slice_get (b ∷ bs) (suc i) c e = get_from_slice_get bs i c e

-- where the byte at i does not end a `*/`, none begins before it
pub no_close_more : (bs : List ℕ) (i : ℕ) (star : Bool) →
    ((n : ℕ) → n + 1 ≡ i → (IsTrue star → slice_get bs n ≡ Some 42) × (slice_get bs n ≡ Some 42 → IsTrue star)) →
    ((j : ℕ) → j + 1 < i → ClosesAt bs j → ⊥) → (IsTrue star → get_or bs i 0 ≢ 47) →
    (j : ℕ) → j + 1 < i + 1 → ClosesAt bs j → ⊥
no_close_more bs i star is none slash j lt closes = by_case (cases_lt (j + 1) i) where
  by_case : (j + 1 < i) ⊎ (i ≤ j + 1) → ⊥
  by_case (inl before) = none j before closes
  by_case (inr after) = let e : j + 1 ≡ i = omega arith in slash ((is j e).1 closes.0) (subst (λ n. get_or bs n 0 ≡ 47) e (get_from_slice_get bs (j + 1) 47 closes.1))
