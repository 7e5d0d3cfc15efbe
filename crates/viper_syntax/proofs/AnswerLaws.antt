-- Every text is a list of tokens or has a first fault.
use Rattle.std.proofs.Common.{◌≡◌, ◌≢◌, ℕ, ◌+◌, ◌<◌, ◌≤◌, ◌^◌, Bool, true, false, refl, arith, inl, inr, List, [], ◌∷◌, ◌++◌, length, take, drop, get_or, Option, Some, None, suc, zero, pos, add-one}
use Rattle.std.specs.Prelude.{slice_get, ◌⊎◌, ◌≤ℤ◌, ◌<ℤ◌, ◌==◌, not, MatchOption, find}
use Rattle.std.specs.Char.{is_ascii_digit}
use Rattle.std.specs.List.{prefix_len}
use Rattle.std.specs.Str.{bytes_eq}
use Rattle.std.proofs.lemmas.Bool.{cases_lt}
use Rattle.std.proofs.lemmas.Int.{ints}
use Rattle.std.proofs.lemmas.List.{length-append, length-drop, length-take-le}
use Rattle.lemmas.proofs.Numbers.{same_or_not}
use Rattle.vb_base.specs.declared.places.Pos.{Pos}
use Rattle.vb_base.specs.Names.{is_name, is_name_start, is_name_byte}
use Rattle.vb_base.specs.Place.{IsPlaceAfter}
use Rattle.vb_base.proofs.PlaceLaws.{some_place_after}
use Rattle.viper_syntax.specs.declared.tokens.LexFault.{LexFault}
use Rattle.viper_syntax.specs.declared.tokens.LexFault.TheVariants as f
use Rattle.viper_syntax.specs.declared.tokens.Sign.{Sign}
use Rattle.viper_syntax.specs.declared.tokens.Tok.{Tok}
use Rattle.viper_syntax.specs.declared.tokens.Tok.TheVariants as k
use Rattle.viper_syntax.specs.declared.tokens.Token.{Token}
use Rattle.viper_syntax.specs.declared.tokens.Word.{Word}
use Rattle.viper_syntax.specs.Spelling.{word_text, sign_text, is_blank, decimal}
use Rattle.viper_syntax.specs.Piece.{IsToken, word, name, Piece, Skipped, Taken, ClosesAt, HasNoClose, IsLongest}
use Rattle.viper_syntax.specs.Longest.{longest_sign}
use Rattle.viper_syntax.specs.Step.{IsSignOnly, IsFirstClose}
use Rattle.viper_syntax.specs.Cut.{MAX, IsSmall, IsSound, tokens_at, IsCut, end, piece, IsFaultHere, bad_byte, open_comment, big_literal, Meets, here, later}
use Rattle.viper_syntax.specs.Limit.{StaysWithin, IsFirstAbove, KeepsLimits, BreaksLimit, deep_brace, long_group, refused_word, unclosed, in_group, refused}
use Rattle.viper_syntax.specs.Lexed.{IsLexed, HasFault, in_cut, in_limits}
use Rattle.viper_syntax.proofs.LimitLaws.{stays_from_fronts, one_more_front}
use Rattle.viper_syntax.specs.First.{words}
use Rattle.viper_syntax.proofs.WordLaws.{word_looked_up}
use Rattle.viper_syntax.proofs.LongestLaws.{blank_longest, name_longest, name_form_of_front, number_longest, line_at, closed_at, unclosed_at, sign_longest, no_piece, sign_from_first}
use Rattle.viper_syntax.proofs.CutLaws.{longest_some}

-- the first `*/` of a text, if any

closes_later : (b : ℕ) (bs : List ℕ) (i : ℕ) → ClosesAt bs i → ClosesAt (b ∷ bs) (suc i)
closes_later b bs i h = (h.0, rw (add-one (suc i)) (rw (add-one i) at h.1))

closed_later : (b : ℕ) (bs : List ℕ) (i : ℕ) → ClosesAt (b ∷ bs) (suc i) → ClosesAt bs i
closed_later b bs i h = (h.0, rw (add-one i) (rw (add-one (suc i)) at h.1))

closes_first : (b : ℕ) (bs : List ℕ) → ClosesAt (b ∷ bs) 0 ⊎ (ClosesAt (b ∷ bs) 0 → ⊥)
closes_first b [] = inr (λ h. cc)
closes_first b (c ∷ bs) = by_case (same_or_not b 42) (same_or_not c 47) where
  some_same : {m n : ℕ} → Some m ≡ Some n → m ≡ n
  some_same e = cc

  by_case : (b ≡ 42) ⊎ (b ≢ 42) → (c ≡ 47) ⊎ (c ≢ 47) → ClosesAt (b ∷ c ∷ bs) 0 ⊎ (ClosesAt (b ∷ c ∷ bs) 0 → ⊥)
  by_case (inl e) (inl g) = inl (cc, cc)
  by_case (inr h) g = inr (λ at. h (some_same at.0))
  by_case (inl e) (inr h) = inr (λ at. h (some_same at.1))

none_later : (b : ℕ) (bs : List ℕ) → (ClosesAt (b ∷ bs) 0 → ⊥) → HasNoClose bs → HasNoClose (b ∷ bs)
none_later b bs first rest zero at = first at
none_later b bs first rest (suc j) at = rest j (closed_later b bs j at)

first_later : (b : ℕ) (bs : List ℕ) (i : ℕ) → (ClosesAt (b ∷ bs) 0 → ⊥) → ((j : ℕ) → j < i → ClosesAt bs j → ⊥) →
    (j : ℕ) → j < suc i → ClosesAt (b ∷ bs) j → ⊥
first_later b bs i first rest zero lt at = first at
first_later b bs i first rest (suc j) lt at = rest j (omega arith) (closed_later b bs j at)

first_close : (bs : List ℕ) → ((i : ℕ) × IsFirstClose bs i) ⊎ HasNoClose bs
first_close [] = inr (λ i at. absurd (nothing at.0)) where
  nothing : {b : ℕ} → None ≡ Some b → ⊥
  nothing e = cc
first_close (b ∷ bs) = by_case (closes_first b bs) (first_close bs) where
  by_case : ClosesAt (b ∷ bs) 0 ⊎ (ClosesAt (b ∷ bs) 0 → ⊥) → ((i : ℕ) × IsFirstClose bs i) ⊎ HasNoClose bs →
      ((i : ℕ) × IsFirstClose (b ∷ bs) i) ⊎ HasNoClose (b ∷ bs)
  by_case (inl at) rest = inl (0, (at, λ j lt. absurd (omega arith)))
  by_case (inr first) (inl (i, h)) = inl (suc i, (closes_later b bs i h.0, first_later b bs i first h.1))
  by_case (inr first) (inr none) = inr (none_later b bs first none)

-- one step of the cut: a piece that it goes past, or a fault

abbrev Goes : List ℕ → Type 0
Goes rest = (n : ℕ) × (p : Piece) × IsLongest rest n p × IsSound p

abbrev Stops : List ℕ → Pos → Type 0
Stops rest at = (fault : LexFault) × IsFaultHere rest at fault

name_token : (x : List ℕ) → is_name x ≡ true → (t : Tok) × IsToken x t × IsSmall t
name_token x form = by_case (find (λ u. bytes_eq x (word_text u)) words) (word_looked_up x (find (λ u. bytes_eq x (word_text u)) words) refl) where
  by_case : (o : Option Word) → MatchOption o ((w : Word) → x ≢ word_text w) (λ w. x ≡ word_text w) → (t : Tok) × IsToken x t × IsSmall t
  by_case (Some w) e = (k.Word w, word w e, tt)
  by_case None h = (k.Name x, name form h, tt)

name_step : (b : ℕ) (bs : List ℕ) → is_name_start b ≡ true → Goes (b ∷ bs)
name_step b bs h =
    let t = name_token (take (prefix_len is_name_byte (b ∷ bs)) (b ∷ bs)) (name_form_of_front (b ∷ bs) h) in
    (prefix_len is_name_byte (b ∷ bs), Taken t.0, name_longest (b ∷ bs) t.0 h t.1, t.2)

within : (n : ℕ) → n < 2 ^ 127 → pos n ≤ℤ MAX
within n h = omega (arith, ints)

above : (n : ℕ) → 2 ^ 127 ≤ n → MAX <ℤ pos n
above n h = omega (arith, ints)

number_step : (b : ℕ) (bs : List ℕ) (at : Pos) → is_ascii_digit b ≡ true → Goes (b ∷ bs) ⊎ Stops (b ∷ bs) at
number_step b bs at h = by_case (cases_lt value (2 ^ 127)) where
  value : ℕ
  value = decimal (take (prefix_len is_ascii_digit (b ∷ bs)) (b ∷ bs))

  by_case : (value < 2 ^ 127) ⊎ (2 ^ 127 ≤ value) → Goes (b ∷ bs) ⊎ Stops (b ∷ bs) at
  by_case (inl lt) = inl (prefix_len is_ascii_digit (b ∷ bs), Taken (k.Number (pos value)), number_longest (b ∷ bs) h, within value lt)
  by_case (inr le) = inr (f.BigLiteral at, big_literal (number_longest (b ∷ bs) h) (above value le))

comment_step : (bs : List ℕ) (at : Pos) → get_or bs 0 0 ≡ 47 → get_or bs 1 0 ≡ 42 → Goes bs ⊎ Stops bs at
comment_step bs at slash star = by_case (first_close (drop 2 bs)) where
  by_case : ((i : ℕ) × IsFirstClose (drop 2 bs) i) ⊎ HasNoClose (drop 2 bs) → Goes bs ⊎ Stops bs at
  by_case (inl (i, h)) = inl (i + 4, Skipped, closed_at bs i slash star h, tt)
  by_case (inr none) = inr (f.OpenComment at, open_comment (unclosed_at bs slash star none))

sign_step : (b : ℕ) (bs : List ℕ) (at : Pos) → IsSignOnly (b ∷ bs) → Goes (b ∷ bs) ⊎ Stops (b ∷ bs) at
sign_step b bs at only = by_case (longest_sign (b ∷ bs)) refl where
  some : b ∷ bs ≢ []
  some e = cc

  by_case : (o : Option Sign) → longest_sign (b ∷ bs) ≡ o → Goes (b ∷ bs) ⊎ Stops (b ∷ bs) at
  by_case (Some v) e = inl (length (sign_text v), Taken (k.Sign v), sign_longest (b ∷ bs) v only e, tt)
  by_case None e = inr (f.BadByte at, bad_byte some (no_piece (b ∷ bs) only e))

step : (b : ℕ) (bs : List ℕ) (at : Pos) → Goes (b ∷ bs) ⊎ Stops (b ∷ bs) at
step b bs at = by_blank (is_blank b) refl where
  sign_here : is_blank b ≡ false → is_name_start b ≡ false → is_ascii_digit b ≡ false → (b ≡ 47 → (get_or bs 0 0 ≢ 47) × (get_or bs 0 0 ≢ 42)) → Goes (b ∷ bs) ⊎ Stops (b ∷ bs) at
  sign_here blank start digit slash = sign_step b bs at (sign_from_first (b ∷ bs) (omega arith) blank start digit slash)

  by_second : is_blank b ≡ false → is_name_start b ≡ false → is_ascii_digit b ≡ false → b ≡ 47 →
      (get_or bs 0 0 ≡ 47) ⊎ (get_or bs 0 0 ≢ 47) → (get_or bs 0 0 ≡ 42) ⊎ (get_or bs 0 0 ≢ 42) → Goes (b ∷ bs) ⊎ Stops (b ∷ bs) at
  by_second blank start digit slash (inl second) star = inl (prefix_len (λ c. not (c == 10)) (b ∷ bs), Skipped, line_at (b ∷ bs) slash second, tt)
  by_second blank start digit slash (inr other) (inl star) = comment_step (b ∷ bs) at slash star
  by_second blank start digit slash (inr other) (inr none) = sign_here blank start digit (λ e. (other, none))

  by_slash : is_blank b ≡ false → is_name_start b ≡ false → is_ascii_digit b ≡ false → (b ≡ 47) ⊎ (b ≢ 47) → Goes (b ∷ bs) ⊎ Stops (b ∷ bs) at
  by_slash blank start digit (inl slash) = by_second blank start digit slash (same_or_not (get_or bs 0 0) 47) (same_or_not (get_or bs 0 0) 42)
  by_slash blank start digit (inr other) = sign_here blank start digit (λ e. absurd (other e))

  by_digit : is_blank b ≡ false → is_name_start b ≡ false → (t : Bool) → is_ascii_digit b ≡ t → Goes (b ∷ bs) ⊎ Stops (b ∷ bs) at
  by_digit blank start true e = number_step b bs at e
  by_digit blank start false e = by_slash blank start e (same_or_not b 47)

  by_start : is_blank b ≡ false → (t : Bool) → is_name_start b ≡ t → Goes (b ∷ bs) ⊎ Stops (b ∷ bs) at
  by_start blank true e = inl (name_step b bs e)
  by_start blank false e = by_digit blank e (is_ascii_digit b) refl

  by_blank : (t : Bool) → is_blank b ≡ t → Goes (b ∷ bs) ⊎ Stops (b ∷ bs) at
  by_blank true e = inl (1, Skipped, blank_longest (b ∷ bs) e, tt)
  by_blank false e = by_start e (is_name_start b) refl

-- the whole cut

abbrev Cuts : List ℕ → List ℕ → Type 0
Cuts before rest = ((ts : List Token) × IsCut before rest ts) ⊎ ((fault : LexFault) × Meets before rest fault)

goes_on : (before rest : List ℕ) (at : Pos) (n : ℕ) (p : Piece) → IsPlaceAfter before at → IsLongest rest n p → IsSound p → Cuts (before ++ take n rest) (drop n rest) → Cuts before rest
goes_on before rest at n p place longest sound (inl (ts, c)) = inl (tokens_at at p ++ ts, piece longest sound place c)
goes_on before rest at n p place longest sound (inr (fault, m)) = inr (fault, later longest sound m)

cut_or_fault : (most : ℕ) (before rest : List ℕ) → length rest ≤ most → length before + length rest ≤ 1048576 → Cuts before rest
cut_or_fault most before [] short few = inl ([], end)
cut_or_fault zero before (b ∷ bs) short few = absurd (omega arith)
cut_or_fault (suc most) before (b ∷ bs) short few =
    next (some_place_after before (omega (arith, few)))
    (λ n some le. cut_or_fault most (before ++ take n (b ∷ bs)) (drop n (b ∷ bs))
    (omega (arith, some, le, length-drop n (b ∷ bs)))
    (omega (arith, le, few, length-append before (take n (b ∷ bs)), length-take-le n (b ∷ bs) le, length-drop n (b ∷ bs)))) where
      by_step : (at : Pos) → IsPlaceAfter before at → ((n : ℕ) → 0 < n → n ≤ length (b ∷ bs) → Cuts (before ++ take n (b ∷ bs)) (drop n (b ∷ bs))) →
          Goes (b ∷ bs) ⊎ Stops (b ∷ bs) at → Cuts before (b ∷ bs)
      by_step at place rest (inl (n, p, longest, sound)) = goes_on before (b ∷ bs) at n p place longest sound (rest n (longest_some longest) longest.within)
      by_step at place rest (inr (fault, h)) = inr (fault, here place h)

      next : ((at : Pos) × IsPlaceAfter before at) → ((n : ℕ) → 0 < n → n ≤ length (b ∷ bs) → Cuts (before ++ take n (b ∷ bs)) (drop n (b ∷ bs))) → Cuts before (b ∷ bs)
      next at rest = by_step at.0 at.1 rest (step b bs at.0)

-- the limits

token_at : (ts : List Token) (i : ℕ) → i < length ts → (t : Token) × (slice_get ts i ≡ Some t)
token_at [] i lt = absurd (omega arith)
token_at (t ∷ ts) zero lt = (t, refl)
token_at (t ∷ ts) (suc i) lt = token_at ts i (omega arith)

module _ (count : List Token → ℕ) (limit : ℕ) (ts : List Token) where
  scan : (k i : ℕ) → i + k ≡ length ts → ((n : ℕ) → n ≤ i → count (take n ts) ≤ limit) → StaysWithin count limit ts ⊎ ((at : Pos) × IsFirstAbove count limit ts at)
  scan zero i e fronts = inl (stays_from_fronts count limit ts (λ n le. fronts n (omega arith)))
  scan (suc k) i e fronts =
      by_case (token_at ts i (omega arith)) (cases_lt limit (count (take (i + 1) ts))) (λ le. scan k (i + 1) (omega arith) (one_more_front count limit ts i fronts le)) where
        by_case : ((t : Token) × (slice_get ts i ≡ Some t)) → (limit < count (take (i + 1) ts)) ⊎ (count (take (i + 1) ts) ≤ limit) →
            (count (take (i + 1) ts) ≤ limit → StaysWithin count limit ts ⊎ ((at : Pos) × IsFirstAbove count limit ts at)) →
            StaysWithin count limit ts ⊎ ((at : Pos) × IsFirstAbove count limit ts at)
        by_case t (inl above) next = inr (t.0.pos, record { index = i; token = t.0; here = t.1; place = refl; above = above; before = fronts })
        by_case t (inr within) next = next within

  within_or_above : count [] ≤ limit → StaysWithin count limit ts ⊎ ((at : Pos) × IsFirstAbove count limit ts at)
  within_or_above none = scan (length ts) 0 (omega arith) first where
    first : (n : ℕ) → n ≤ 0 → count (take n ts) ≤ limit
    first zero le = none
    first (suc n) le = absurd (omega arith)

kept_or_broken : (ts : List Token) → KeepsLimits ts ⊎ ((fault : LexFault) × BreaksLimit ts fault)
kept_or_broken ts =
    by_case (within_or_above unclosed 128 ts (omega arith)) (within_or_above in_group 1024 ts (omega arith)) (within_or_above refused 0 ts (omega arith)) where
      by_case : StaysWithin unclosed 128 ts ⊎ ((at : Pos) × IsFirstAbove unclosed 128 ts at) →
          StaysWithin in_group 1024 ts ⊎ ((at : Pos) × IsFirstAbove in_group 1024 ts at) →
          StaysWithin refused 0 ts ⊎ ((at : Pos) × IsFirstAbove refused 0 ts at) → KeepsLimits ts ⊎ ((fault : LexFault) × BreaksLimit ts fault)
      by_case (inr (at, h)) groups words = inr (f.Braces at, deep_brace h)
      by_case (inl braces) (inr (at, h)) words = inr (f.LongGroup at, long_group braces h)
      by_case (inl braces) (inl groups) (inr (at, h)) = inr (f.Unsupported at, refused_word braces groups h)
      by_case (inl braces) (inl groups) (inl words) = inl record { braces = braces; groups = groups; supported = words }

pub some_answer : (bytes : List ℕ) → length bytes ≤ 1048576 → ((ts : List Token) × IsLexed bytes ts) ⊎ ((fault : LexFault) × HasFault bytes fault)
some_answer bytes most = of_cut (cut_or_fault (length bytes) [] bytes (omega arith) (omega (arith, most))) where
  of_limits : (ts : List Token) → IsCut [] bytes ts → KeepsLimits ts ⊎ ((fault : LexFault) × BreaksLimit ts fault) →
      ((us : List Token) × IsLexed bytes us) ⊎ ((fault : LexFault) × HasFault bytes fault)
  of_limits ts c (inl kept) = inl (ts, record { cut = c; limits = kept })
  of_limits ts c (inr (fault, h)) = inr (fault, in_limits c h)

  of_cut : Cuts [] bytes → ((us : List Token) × IsLexed bytes us) ⊎ ((fault : LexFault) × HasFault bytes fault)
  of_cut (inl (ts, c)) = of_limits ts c (kept_or_broken ts)
  of_cut (inr (fault, m)) = inr (fault, in_cut m)
