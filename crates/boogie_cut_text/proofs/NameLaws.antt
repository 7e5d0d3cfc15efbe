-- The names of further locals are names and not reserved, are none of those that are taken, and no two of them are the same.
use Rattle.std.proofs.Common.{◌≡◌, ◌≢◌, ◌∙◌, refl, sym, ap, subst, arith, ℕ, zero, suc, ◌+◌, ◌*◌, ◌^◌, ◌<◌, ◌≤◌, Bool, true, false, ◌||◌, List, [], ◌∷◌, ◌++◌, length, filter, All, slice_index_or, if◌then◌else◌}
use Rattle.std.specs.Bool.{⊤}
use Rattle.std.specs.Char.{is_ascii_digit}
use Rattle.std.specs.Fmt.{decimal}
use Rattle.std.specs.List.{list_all, list_any}
use Rattle.std.specs.Str.{bytes_eq}
use Rattle.std.specs.Str.Parse.{digits_value}
use Rattle.std.proofs.lemmas.Slice.Eq.{bytes_eq-Decides}
use Rattle.std.proofs.lemmas.Fmt.{decimal_is_IsNumeral_wide}
use Rattle.std.proofs.lemmas.Bool.{or_left, or_right, or_from, both_ways, and_parts, and_from, or_parts}
use Rattle.std.proofs.lemmas.List.Elements.{All-nil, All-cons, All-head, All-tail, All-append}
use Rattle.std.proofs.lemmas.Nat.{mul-le}
use Rattle.std.proofs.lemmas.List.Kept.{AllPairs-cons}
use Rattle.lemmas.proofs.Bytes.{same_bytes}
use Rattle.lemmas.proofs.Lists.{same_rest}
use Rattle.vb_base.proofs.Numbers.{digits, all_digits}
use Rattle.vb_base.specs.Names.{is_name_start, is_name_byte, NamesDiffer}
use Rattle.boogie_tree.specs.Program.{BType, Local}
use Rattle.boogie_tree.specs.Values.{AreKeys}
use Rattle.boogie_meaning.specs.Programs.{HaveKeys}
use Rattle.boogie_grammar.specs.Grammar.{local_names}
use Rattle.boogie_grammar.specs.Words.{reserved}
use Rattle.boogie_print.specs.Printable.{IsFreeName, FitsLocal}
use Rattle.boogie_print.proofs.NumberedNames as fresh
use Rattle.boogie_cut.specs.Fresh.{numbered, is_among, free_number, fresh_locals, is_a}

-- ---- numbered names

one_number : (m n : ℕ) → m < 10 ^ 64 → n < 10 ^ 64 → numbered m ≡ numbered n → m ≡ n
one_number m n small less e =
    let tails : decimal m ≡ decimal n = same_rest e in
    sym (decimal_is_IsNumeral_wide m small).1 ∙ (ap (digits_value 10) tails ∙ (decimal_is_IsNumeral_wide n less).1)

decimal_digits : (n : ℕ) → n < 10 ^ 64 → list_all is_ascii_digit (decimal n) ≡ true
decimal_digits n small = all_digits (decimal n) ∙ digits.from (decimal n) (decimal_is_IsNumeral_wide n small).0.1

digits_in_name : (ds : List ℕ) → list_all is_ascii_digit ds ≡ true → list_all is_name_byte ds ≡ true
digits_in_name [] h = refl
digits_in_name (d ∷ ds) h =
    let parts = and_parts (is_ascii_digit d) (list_all is_ascii_digit ds) h in
    and_from _ _ (or_left _ _ (or_right (is_name_start d) (is_ascii_digit d) parts.0)) (digits_in_name ds parts.1)

-- a digit stands second
abbrev has_digit : List ℕ → Bool
has_digit x = is_ascii_digit (slice_index_or x 1 0)

numbered_has_digit : (ds : List ℕ) → 0 < length ds → list_all is_ascii_digit ds ≡ true → has_digit (97 ∷ ds) ≡ true
numbered_has_digit [] some h = absurd (omega (arith, some))
numbered_has_digit (d ∷ ds) some h = (and_parts (is_ascii_digit d) (list_all is_ascii_digit ds) h).0

differs_from : (x w : List ℕ) (b : Bool) → bytes_eq x w ≡ b → has_digit x ≡ true → has_digit w ≡ false → b ≡ false
differs_from x w true e h k = absurd (let same = same_bytes x w e in both_ways (has_digit w) k (sym (ap has_digit same) ∙ h))
differs_from x w false e h k = refl

none_of : (x : List ℕ) (words : List (List ℕ)) → has_digit x ≡ true → list_any has_digit words ≡ false → is_among x words ≡ false
none_of x [] h k = refl
none_of x (w ∷ words) h k =
    let parts = or_parts (has_digit w) (list_any has_digit words) k in
    or_from _ _ (differs_from x w (bytes_eq x w) refl h parts.0) (none_of x words h parts.1)

numbered_free : (n : ℕ) → n < 10 ^ 64 → IsFreeName (numbered n)
numbered_free n small =
    let numeral = decimal_is_IsNumeral_wide n small in
    let ds = decimal_digits n small in
    record {
      form = digits_in_name (decimal n) ds;
      free = none_of (numbered n) reserved (numbered_has_digit (decimal n) numeral.0.0 ds) refl;
    }

-- ---- the search, and the names that begin otherwise

free_is_new : (n : ℕ) (all : List (List ℕ)) → n + length all < 10 ^ 64 → is_among (numbered (free_number (length all) n all)) all ≡ false
free_is_new n all small = fresh.free_is_new numbered free_number (λ i a. refl) (λ k i a. refl) (10 ^ 64) one_number n all small

free_within : (k n : ℕ) (all : List (List ℕ)) → (n ≤ free_number k n all) × (free_number k n all ≤ n + k)
free_within k n all = fresh.free_within numbered free_number (λ i a. refl) (λ j i a. refl) k n all

avoided : (n : ℕ) (others : List (List ℕ)) → is_among (numbered n) (filter is_a others) ≡ false → is_among (numbered n) others ≡ false
avoided n others h = fresh.avoided is_a (numbered n) refl others h

pub fewer : (others : List (List ℕ)) → length (filter is_a others) ≤ length others
fewer others = fresh.fewer is_a others

-- ---- fresh locals

-- so many locals from the number n on, each past at most so many names, have numbers of at most 64 digits
abbrev IsSmall : ℕ → ℕ → ℕ → Type 0
IsSmall n many taken = n + many * (taken + 1) < 10 ^ 64

more_times : (m k : ℕ) → suc m * k ≡ k + m * k
more_times m k = grind arith

small_first : (n many taken : ℕ) → IsSmall n (suc many) taken → n + taken < 10 ^ 64
small_first n many taken h = let e = more_times many (taken + 1) in omega (arith, h, e)

small_rest : (n many taken k : ℕ) → IsSmall n (suc many) taken → k ≤ n + taken → IsSmall (k + 1) many taken
small_rest n many taken k h le = let e = more_times many (taken + 1) in omega (arith, h, e, le)

module _ (taken : List (List ℕ)) where
  abbrev next : ℕ → ℕ
  next n = free_number (length taken) n taken

  pub fresh_fit : (n : ℕ) (us : List BType) → IsSmall n (length us) (length taken) → HaveKeys us → All FitsLocal (fresh_locals taken n us)
  fresh_fit n [] small h = All-nil FitsLocal
  fresh_fit n (u ∷ us) small h =
      let within = (free_within (length taken) n taken).1 in
      let first = small_first n (length us) (length taken) small in
      All-cons FitsLocal (record { name = numbered (next n); ty = u }) (fresh_locals taken (next n + 1) us)
      (record { name = numbered_free (next n) (omega (arith, within, first)); keys = All-head (λ (w : BType). AreKeys w.keys) u us h })
      (fresh_fit (next n + 1) us (small_rest n (length us) (length taken) (next n) small within) (All-tail (λ (w : BType). AreKeys w.keys) u us h))

  later_differ : (m n : ℕ) (us : List BType) → m < n → IsSmall n (length us) (length taken) → All (λ y. numbered m ≢ y) (local_names (fresh_locals taken n us))
  later_differ m n [] below small = All-nil (λ y. numbered m ≢ y)
  later_differ m n (u ∷ us) below small =
      let h = free_within (length taken) n taken in
      let first = small_first n (length us) (length taken) small in
      All-cons (λ y. numbered m ≢ y) (numbered (next n)) (local_names (fresh_locals taken (next n + 1) us))
      (λ e. let same = one_number m (next n) (omega (arith, below, first)) (omega (arith, h.1, first)) e in let ge = h.0 in omega (arith, ge, below, same))
      (let ge = h.0 in later_differ m (next n + 1) us (omega (arith, below, ge)) (small_rest n (length us) (length taken) (next n) small h.1))

  fresh_differ : (n : ℕ) (us : List BType) → IsSmall n (length us) (length taken) → NamesDiffer (local_names (fresh_locals taken n us))
  fresh_differ n [] small = λ i j d below within. absurd (omega (arith, within))
  fresh_differ n (u ∷ us) small =
      let h = free_within (length taken) n taken in
      let rest = small_rest n (length us) (length taken) (next n) small h.1 in
      AllPairs-cons (λ a b. a ≢ b) (numbered (next n)) (local_names (fresh_locals taken (next n + 1) us))
      (later_differ (next n) (next n + 1) us (omega arith) rest) (fresh_differ (next n + 1) us rest)

  -- ---- behind names of which those that begin with an `a` are taken

  other_at : (x : List ℕ) (names : List (List ℕ)) (n : ℕ) → is_among (numbered n) (x ∷ names) ≡ false → x ≢ numbered n
  other_at x names n h e =
      let parts = or_parts (bytes_eq (numbered n) x) (is_among (numbered n) names) h in
      both_ways (bytes_eq (numbered n) x) parts.0 ((bytes_eq-Decides (numbered n) x).1 (sym e))

  rest_other : (x : List ℕ) (names : List (List ℕ)) (n : ℕ) → is_among (numbered n) (x ∷ names) ≡ false → is_among (numbered n) names ≡ false
  rest_other x names n h = (or_parts (bytes_eq (numbered n) x) (is_among (numbered n) names) h).1

  -- each fresh name is none of these
  abbrev AreOther : List (List ℕ) → ℕ → List BType → Type 0
  AreOther names n [] = ⊤
  AreOther names n (u ∷ us) = (is_among (numbered (next n)) names ≡ false) × AreOther names (next n + 1) us

  others_at : (x : List ℕ) (names : List (List ℕ)) (n : ℕ) (us : List BType) → AreOther (x ∷ names) n us → All (λ y. x ≢ y) (local_names (fresh_locals taken n us))
  others_at x names n [] h = All-nil (λ y. x ≢ y)
  others_at x names n (u ∷ us) h = All-cons (λ y. x ≢ y) (numbered (next n)) (local_names (fresh_locals taken (next n + 1) us)) (other_at x names (next n) h.0) (others_at x names (next n + 1) us h.1)

  fewer_others : (x : List ℕ) (names : List (List ℕ)) (n : ℕ) (us : List BType) → AreOther (x ∷ names) n us → AreOther names n us
  fewer_others x names n [] h = tt
  fewer_others x names n (u ∷ us) h = (rest_other x names (next n) h.0, fewer_others x names (next n + 1) us h.1)

  behind_differ : (names : List (List ℕ)) (n : ℕ) (us : List BType) → IsSmall n (length us) (length taken) → NamesDiffer names → AreOther names n us →
      NamesDiffer (names ++ local_names (fresh_locals taken n us))
  behind_differ [] n us small h other = fresh_differ n us small
  behind_differ (x ∷ names) n us small h other =
      AllPairs-cons (λ a b. a ≢ b) x (names ++ local_names (fresh_locals taken n us))
      (All-append (λ y. x ≢ y) names (local_names (fresh_locals taken n us)) (λ k d within. h 0 (suc k) d (omega arith) (omega (arith, within))) (others_at x names n us other))
      (behind_differ names n us small (λ i j d below within. h (suc i) (suc j) d (omega (arith, below)) (omega (arith, within))) (fewer_others x names n us other))

  are_other : (names : List (List ℕ)) → filter is_a names ≡ taken → (n : ℕ) (us : List BType) → IsSmall n (length us) (length taken) → AreOther names n us
  are_other names e n [] small = tt
  are_other names e n (u ∷ us) small =
      let h = free_within (length taken) n taken in
      let new = free_is_new n taken (small_first n (length us) (length taken) small) in
      (avoided (next n) names (ap (is_among (numbered (next n))) e ∙ new), are_other names e (next n + 1) us (small_rest n (length us) (length taken) (next n) small h.1))

names_append : (ls ms : List Local) → local_names (ls ++ ms) ≡ local_names ls ++ local_names ms
names_append [] ms = refl
names_append (l ∷ ls) ms = ap (λ (xs : List (List ℕ)). l.name ∷ xs) (names_append ls ms)

-- the names of locals and of those that stand behind them differ
pub all_differ : (ls : List Local) (us : List BType) → IsSmall 0 (length us) (length (filter is_a (local_names ls))) → NamesDiffer (local_names ls) →
    NamesDiffer (local_names (ls ++ fresh_locals (filter is_a (local_names ls)) 0 us))
all_differ ls us small h =
    let taken = filter is_a (local_names ls) in
    subst NamesDiffer (sym (names_append ls (fresh_locals taken 0 us)))
    (behind_differ taken (local_names ls) 0 us small h (are_other taken (local_names ls) refl 0 us small))

-- fewer than 2^64 locals, and fewer than 2^64 further ones, have numbers of at most 64 digits
pub small_numbers : (many taken : ℕ) → many < 2 ^ 64 → taken < 2 ^ 64 → IsSmall 0 many taken
small_numbers many taken h k = let m = mul-le many (taken + 1) (2 ^ 64) (2 ^ 64) (omega (arith, h)) (omega (arith, k)) in omega (arith, m)
