-- The names that are taken.
use Rattle.std.proofs.Common.{◌≡◌, ◌∙◌, ◌≤◌, ◌<◌, ◌+◌, ◌-◌, ◌||◌, ℕ, zero, suc, Bool as Truth, true, false, cond, List, [], ◌∷◌, ◌++◌, map, drop, get_or, length, if◌then◌else◌, refl, sym, ap, subst, arith, append_assoc, append-nil}
use Rattle.std.proofs.lemmas.Slice.Eq.{bytes_eq-Decides}
use Rattle.std.specs.List.{filter, list_any}
use Rattle.std.specs.Str.{bytes_eq}
use Rattle.lemmas.proofs.Lists.{next_item, none_left}
use Rattle.lemmas.proofs.Tests.{or_false, cond_or}
use Rattle.boogie_tree.specs.Program as p
use Rattle.boogie_tree.specs.Whole.{locals_of, type_of}
use Rattle.boogie_tree.specs.declared.programs.BType.{BType}
use Rattle.boogie_tree.specs.declared.programs.Local.{Local}
use Rattle.boogie_cut.specs.Fresh.{numbered, is_among, free_number, fresh_locals, is_a}
use Rattle.boogie_cut.specs.View.{AreNoted, IsNoted, a_names}

-- ---- names that are taken

bytes_sym : (x y : List ℕ) → bytes_eq x y ≡ bytes_eq y x
bytes_sym x y = by (bytes_eq x y) (bytes_eq y x) refl refl
  where
    by : (a b : Truth) → bytes_eq x y ≡ a → bytes_eq y x ≡ b → bytes_eq x y ≡ bytes_eq y x
    by true b e f = e ∙ sym ((bytes_eq-Decides y x).1 (sym ((bytes_eq-Decides x y).0 e)))
    by false true e f = (bytes_eq-Decides x y).1 (sym ((bytes_eq-Decides y x).0 f)) ∙ sym f
    by false false e f = e ∙ sym f

or_swap : (a b c : Truth) → ((a || b) || c) ≡ (b || (a || c))
or_swap true true c = refl
or_swap true false c = refl
or_swap false b c = refl

pub noted : (name key : List ℕ) (old new : List (List ℕ)) → is_a name ≡ true → key ≡ name → ((other : List ℕ) → list_any (bytes_eq other) new ≡ cond (bytes_eq key other) true (list_any (bytes_eq other) old)) → IsNoted name old new 1
noted name key old new is same inserted = record {
  are = λ other.
      inserted other ∙ cond_or (bytes_eq key other) (list_any (bytes_eq other) old) ∙ ap (λ k. bytes_eq k other || list_any (bytes_eq other) old) same
      ∙ ap (λ b. b || list_any (bytes_eq other) old) (bytes_sym name other)
      ∙ sym (ap (λ b. if b then bytes_eq other name || list_any (bytes_eq other) old else list_any (bytes_eq other) old) is);
  count = sym (ap (λ b. if b then 1 else 0) is);
}

-- the names so far are noted, and those that are left are not yet
pub record NotedSoFar (keys : List (List ℕ)) (many : ℕ) (rest all : List (List ℕ)) : Type 0 where
  pub are : (name : List ℕ) → (list_any (bytes_eq name) keys || is_among name rest) ≡ is_among name all
  pub count : many + length rest ≡ length all

-- the first of those that are left
noted_first : (name : List ℕ) (rest all old new : List (List ℕ)) (many n : ℕ) (b : Truth) → is_a name ≡ b → NotedSoFar old many (cond b (name ∷ rest) rest) all → IsNoted name old new n → NotedSoFar new (many + n) rest all
noted_first name rest all old new many n true is so_far h =
    let one : n ≡ 1 = h.count ∙ ap (λ b. if b then 1 else 0) is in
    let long = so_far.count in
    record {
      are = λ other.
          ap (λ b. b || is_among other rest) (h.are other ∙ ap (λ b. if b then bytes_eq other name || list_any (bytes_eq other) old else list_any (bytes_eq other) old) is)
          ∙ or_swap (bytes_eq other name) (list_any (bytes_eq other) old) (is_among other rest) ∙ so_far.are other;
      count = omega (arith, one, long);
    }
noted_first name rest all old new many n false is so_far h =
    let none : n ≡ 0 = h.count ∙ ap (λ b. if b then 1 else 0) is in
    let long = so_far.count in
    record {
      are = λ other.
          ap (λ b. b || is_among other rest) (h.are other ∙ ap (λ b. if b then bytes_eq other name || list_any (bytes_eq other) old else list_any (bytes_eq other) old) is)
          ∙ so_far.are other;
      count = omega (arith, none, long);
    }

pub noted_next : (ls : List Local) (i : ℕ) (l : Local) (all old new : List (List ℕ)) (many n next : ℕ) → i < length ls → l ≡ get_or ls i l → next ≡ many + n → NotedSoFar old many (a_names (drop i ls)) all →
    IsNoted l.name old new n → NotedSoFar new next (a_names (drop (i + 1) ls)) all
noted_next ls i l all old new many n next lt is sum so_far h =
    subst (λ k. NotedSoFar new k (a_names (drop (i + 1) ls)) all) (sym sum)
    (noted_first l.name (a_names (drop (i + 1) ls)) all old new many n (is_a l.name) refl (subst (λ xs. NotedSoFar old many (a_names xs) all) (next_item ls i l lt is) so_far) h)

pub all_noted : (ls : List Local) (i many : ℕ) (keys all : List (List ℕ)) → length ls ≤ i → NotedSoFar keys many (a_names (drop i ls)) all → AreNoted keys many all
all_noted ls i many keys all end h =
    let none = none_left ls i end in
    let g = subst (λ xs. NotedSoFar keys many (a_names xs) all) none h in
    let long = g.count in
    record { are = λ name. sym (or_false (list_any (bytes_eq name) keys)) ∙ g.are name; count = omega (arith, long) }

-- ---- the first free number

pub number_taken : (k number : ℕ) (taken : List (List ℕ)) → is_among (numbered number) taken ≡ true → free_number (suc k) number taken ≡ free_number k (number + 1) taken
number_taken k number taken h = ap (λ b. if b then free_number k (number + 1) taken else number) h

pub number_free : (k number : ℕ) (taken : List (List ℕ)) → is_among (numbered number) taken ≡ false → free_number k number taken ≡ number
number_free zero number taken h = refl
number_free (suc k) number taken h = ap (λ b. if b then free_number k (number + 1) taken else number) h

pub taken_next : (k left number next value : ℕ) (taken : List (List ℕ)) → k < left → is_among (numbered number) taken ≡ true → next ≡ number + 1 → free_number (left - k) number taken ≡ value →
    free_number (left - (k + 1)) next taken ≡ value
taken_next k left number next value taken lt h is so_far =
    let one : left - k ≡ suc (left - (k + 1)) = omega (arith, lt) in
    ap (λ n. free_number (left - (k + 1)) n taken) is ∙ sym (number_taken (left - (k + 1)) number taken h) ∙ ap (λ n. free_number n number taken) (sym one) ∙ so_far

pub taken_end : (k left number value : ℕ) (taken : List (List ℕ)) → left ≤ k → free_number (left - k) number taken ≡ value → number ≡ value
taken_end k left number value taken end so_far =
    let none : left - k ≡ 0 = omega (arith, end) in
    sym (ap (λ n. free_number n number taken) none) ∙ so_far

-- ---- further locals

pub fresh_next : (own taken : List (List ℕ)) (n next : ℕ) (u : p.BType) (us : List p.BType) (old new all : List p.Local) → own ≡ taken → next ≡ free_number (length own) n own + 1 →
    new ≡ old ++ record { name = numbered (free_number (length own) n own); ty = u } ∷ [] → old ++ fresh_locals taken n (u ∷ us) ≡ all → new ++ fresh_locals taken next us ≡ all
fresh_next own taken n next u us old new all same is made so_far =
    let k = free_number (length taken) n taken in
    let number = is ∙ ap (λ xs. free_number (length xs) n xs + 1) same in
    let local = made ∙ ap (λ xs. old ++ record { name = numbered (free_number (length xs) n xs); ty = u } ∷ []) same in
    (λ i. local i ++ fresh_locals taken (number i) us) ∙ append_assoc old (record { name = numbered k; ty = u } ∷ []) (fresh_locals taken (k + 1) us) ∙ so_far

pub fresh_end : (taken : List (List ℕ)) (n : ℕ) (us : List p.BType) (old all : List p.Local) → us ≡ [] → old ++ fresh_locals taken n us ≡ all → old ≡ all
fresh_end taken n us old all none so_far = sym (append-nil old) ∙ ap (λ vs. old ++ fresh_locals taken n vs) (sym none) ∙ so_far

pub no_types : (us : List BType) → length us ≡ 0 → map type_of us ≡ []
no_types [] h = refl
no_types (u ∷ us) h = absurd (omega (arith, h))

pub names_are : (ls : List Local) → filter is_a (map (λ (l : p.Local). l.name) (locals_of ls)) ≡ a_names ls
names_are ls = ap (filter is_a) (by ls)
  where
    by : (ls : List Local) → map (λ (l : p.Local). l.name) (locals_of ls) ≡ map (λ (l : Local). l.name) ls
    by [] = refl
    by (l ∷ ls) = ap (λ xs. l.name ∷ xs) (by ls)
