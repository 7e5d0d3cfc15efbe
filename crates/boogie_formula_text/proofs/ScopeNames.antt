-- The names of variables and definitions, as the grammar and the printer ask for them.
use Rattle.std.proofs.Common.{◌≡◌, ◌∙◌, refl, sym, ap, subst, arith, ℕ, zero, suc, ◌+◌, ◌-◌, ◌^◌, ◌<◌, ◌≤◌, ◌⊎◌, inl, inr, append-nil, true, false, List, [], ◌∷◌, ◌++◌, Some, codes}
use Rattle.std.specs.Char.{is_ascii_digit}
use Rattle.std.specs.Fmt.{decimal}
use Rattle.std.specs.List.{list_all}
use Rattle.std.specs.Option.{option_map}
use Rattle.std.specs.Str.{bytes_eq}
use Rattle.std.proofs.lemmas.Bool.{or_from, and_parts, cond-true, cond-false, both_ways, cases_lt}
use Rattle.std.proofs.lemmas.Fmt.{decimal_injective, decimal_is_IsNumeral_wide}
use Rattle.lemmas.proofs.Bytes.{same_itself as equal}
use Rattle.lemmas.proofs.Lists.{same_rest}
use Rattle.vb_base.proofs.Numbers.{digits, all_digits}
use Rattle.vb_base.specs.Names.{is_name}
use Rattle.boogie_grammar.specs.Printed.{bound_name, name_at}
use Rattle.boogie_grammar.specs.Tests.{number_of}
use Rattle.boogie_grammar.specs.Words.{is_among, is_reserved}
use Rattle.boogie_grammar.proofs.WrittenRows.{bound_form}
use Rattle.boogie_print.proofs.ExprShown.{Ready}
use Rattle.boogie_print.proofs.VarLaws.{IsVar, unequal}
use Rattle.boogie_formula_text.specs.Names.{variable_name, definition_name, numbered, names_in_scope}
use Rattle.boogie_formula_text.specs.Printed.{scope_naming}
use Rattle.boogie_formula_text.specs.Spells.{IsDefinition}

-- ---- names by their numbers

pub name_in : (name : ℕ → List ℕ) (n k i : ℕ) (more : List (List ℕ)) → i < n → name_at (numbered name k n ++ more) i ≡ name (i + k)
name_in name zero k i more lt = absurd (omega (arith, lt))
name_in name (suc n) k zero more lt = ap name (omega arith)
name_in name (suc n) k (suc i) more lt = name_in name n (k + 1) i more (omega (arith, lt)) ∙ ap name (omega arith)

pub name_behind : (name : ℕ → List ℕ) (n k i : ℕ) (more : List (List ℕ)) → name_at (numbered name k n ++ more) (n + i) ≡ name_at more i
name_behind name zero k i more = ap (name_at more) (omega arith)
name_behind name (suc n) k i more =
    ap (name_at (numbered name k (suc n) ++ more)) (let e : suc n + i ≡ suc (n + i) = omega arith in e) ∙ name_behind name n (k + 1) i more

pub name_past : (name : ℕ → List ℕ) (n k i : ℕ) → n ≤ i → name_at (numbered name k n) i ≡ []
name_past name zero k i le = refl
name_past name (suc n) k zero le = absurd (omega (arith, le))
name_past name (suc n) k (suc i) le = name_past name n (k + 1) i (omega (arith, le))

pub first_name : (n k i : ℕ) → i < n → name_at (names_in_scope n k) i ≡ variable_name (i + 1)
first_name n k i lt = name_in variable_name n 1 i (numbered definition_name 1 k) lt

pub second_name : (n k i : ℕ) → n ≤ i → i - n < k → name_at (names_in_scope n k) i ≡ definition_name (i - n + 1)
second_name n k i le lt =
    let more = numbered definition_name 1 k in
    ap (name_at (names_in_scope n k)) (let e : i ≡ n + (i - n) = omega (arith, le) in e) ∙ name_behind variable_name n 1 (i - n) more ∙
    ap (λ l. name_at l (i - n)) (sym (append-nil more)) ∙ name_in definition_name k 1 (i - n) [] lt

pub no_name : (n k i : ℕ) → n ≤ i → k ≤ i - n → name_at (names_in_scope n k) i ≡ []
no_name n k i le past =
    let more = numbered definition_name 1 k in
    ap (name_at (names_in_scope n k)) (let e : i ≡ n + (i - n) = omega (arith, le) in e) ∙ name_behind variable_name n 1 (i - n) more ∙ name_past definition_name k 1 (i - n) past

-- ---- they differ, and none is reserved

pub digits_only : (n : ℕ) → n < 10 ^ 64 → list_all is_ascii_digit (decimal n) ≡ true
digits_only n small = all_digits (decimal n) ∙ digits.from (decimal n) (decimal_is_IsNumeral_wide n small).0.1

no_letter : (b : ℕ) (ds bs : List ℕ) → list_all is_ascii_digit ds ≡ true → is_ascii_digit b ≡ false → ds ≡ b ∷ bs → ⊥
no_letter b ds bs all miss e =
    let whole : list_all is_ascii_digit (b ∷ bs) ≡ true = subst (λ x. list_all is_ascii_digit x ≡ true) e all in
    both_ways (is_ascii_digit b) miss (and_parts (is_ascii_digit b) (list_all is_ascii_digit bs) whole).0

variable_free : (k : ℕ) → k < 2 ^ 64 → is_reserved (variable_name k) ≡ false
variable_free k lt =
    or_from _ _ (unequal (variable_name k) (codes "var") (λ e. no_letter 97 (decimal k) (codes "r") (digits_only k (omega (arith, lt))) refl (same_rest e))) refl

definition_free : (k : ℕ) → k < 2 ^ 64 → is_reserved (definition_name k) ≡ false
definition_free k lt =
    or_from _ _ (unequal (definition_name k) (codes "div") (λ e. no_letter 105 (decimal k) (codes "v") (digits_only k (omega (arith, lt))) refl (same_rest e))) refl

-- a way to name that names each number in a way of its own
record Names (name : ℕ → List ℕ) : Type 0 where
  differ : (j k : ℕ) → j < 2 ^ 64 → k < 2 ^ 64 → name j ≡ name k → j ≡ k

variables : Names variable_name
variables = record { differ = λ j k lt le e. decimal_injective j k lt le (same_rest e) }

definitions : Names definition_name
definitions = record { differ = λ j k lt le e. decimal_injective j k lt le (same_rest e) }

number_in : (name : ℕ → List ℕ) → Names name → (n k i : ℕ) (more : List (List ℕ)) → i < n → k + n < 2 ^ 64 →
    number_of (name (i + k)) (numbered name k n ++ more) ≡ Some i
number_in name h zero k i more lt small = absurd (omega (arith, lt))
number_in name h (suc n) k zero more lt small =
    ap (λ j. number_of (name j) (numbered name k (suc n) ++ more)) (let e : 0 + k ≡ k = omega arith in e) ∙
    cond-true (bytes_eq (name k) (name k)) (Some 0) (option_map suc (number_of (name k) (numbered name (k + 1) n ++ more))) (equal (name k))
number_in name h (suc n) k (suc i) more lt small =
    let other : bytes_eq (name (suc i + k)) (name k) ≡ false =
    unequal (name (suc i + k)) (name k) (λ e. let same = h.differ (suc i + k) k (omega (arith, lt, small)) (omega (arith, small)) e in omega (arith, same)) in
    cond-false (bytes_eq (name (suc i + k)) (name k)) (Some 0) (option_map suc (number_of (name (suc i + k)) (numbered name (k + 1) n ++ more))) other ∙
    ap (option_map suc) (ap (λ j. number_of (name j) (numbered name (k + 1) n ++ more)) (omega arith) ∙ number_in name h n (k + 1) i more (omega (arith, lt)) (omega (arith, small)))

number_behind : (x : List ℕ) (name : ℕ → List ℕ) → ((k : ℕ) → bytes_eq x (name k) ≡ false) → (n k i : ℕ) (more : List (List ℕ)) → number_of x more ≡ Some i →
    number_of x (numbered name k n ++ more) ≡ Some (n + i)
number_behind x name other zero k i more h = h ∙ ap Some (omega arith)
number_behind x name other (suc n) k i more h =
    cond-false (bytes_eq x (name k)) (Some 0) (option_map suc (number_of x (numbered name (k + 1) n ++ more))) (other k) ∙
    ap (option_map suc) (number_behind x name other n (k + 1) i more h) ∙ ap Some (let e : suc (n + i) ≡ suc n + i = omega arith in e)

abbrev Var : List (List ℕ) → ℕ → List ℕ → Type 0
Var names i x = (is_name x ≡ true) × (is_reserved x ≡ false) × (number_of x names ≡ Some i)

is_var : (names : List (List ℕ)) (i : ℕ) (x : List ℕ) → name_at names i ≡ x → Var names i x → IsVar names i
is_var names i x e h =
    let all : Var names i (name_at names i) = subst (Var names i) (sym e) h in
    record { form = all.0; free = all.1; there = all.2 }

first_at : (n k i : ℕ) → i < n → n < 2 ^ 63 → IsVar (names_in_scope n k) i
first_at n k i lt small =
    let more = numbered definition_name 1 k in
    is_var (names_in_scope n k) i (variable_name (i + 1)) (name_in variable_name n 1 i more lt)
    (bound_form (i + 1) (omega (arith, lt, small)), variable_free (i + 1) (omega (arith, lt, small)), number_in variable_name variables n 1 i more lt (omega (arith, small)))

second_at : (n k i : ℕ) → i < k → k < 2 ^ 63 → IsVar (names_in_scope n k) (n + i)
second_at n k i lt small =
    let more = numbered definition_name 1 k in
    let at : name_at more i ≡ definition_name (i + 1) = ap (λ l. name_at l i) (sym (append-nil more)) ∙ name_in definition_name k 1 i [] lt in
    let number : number_of (definition_name (i + 1)) more ≡ Some i =
    ap (number_of (definition_name (i + 1))) (sym (append-nil more)) ∙ number_in definition_name definitions k 1 i [] lt (omega (arith, small)) in
    is_var (names_in_scope n k) (n + i) (definition_name (i + 1)) (name_behind variable_name n 1 i more ∙ at) (
      bound_form (i + 1) (omega (arith, lt, small)),
      definition_free (i + 1) (omega (arith, lt, small)),
      number_behind (definition_name (i + 1)) variable_name (λ j. refl) n 1 i more number,
    )

-- the name of a definition, as a word
pub definition_spelled : (n k i : ℕ) → k < 2 ^ 63 → n ≤ i → i < n + k → IsDefinition n k (name_at (names_in_scope n k) i) i
definition_spelled n k i some le lt =
    let more = numbered definition_name 1 k in
    let j = i - n in
    let there : j < k = omega (arith, le, lt) in
    let word : name_at (names_in_scope n k) i ≡ definition_name (j + 1) = second_name n k i le there in
    let number : number_of (definition_name (j + 1)) more ≡ Some j =
    ap (number_of (definition_name (j + 1))) (sym (append-nil more)) ∙ number_in definition_name definitions k 1 j [] there (omega (arith, some)) in
    record {
      form = ap is_name word ∙ bound_form (j + 1) (omega (arith, there, some));
      place = j;
      is_there = ap (λ x. number_of x more) word ∙ number;
      is = omega (arith, le);
    }

either_at : (n k i : ℕ) → n < 2 ^ 63 → k < 2 ^ 63 → i < n + k → (i < n) ⊎ (n ≤ i) → IsVar (names_in_scope n k) i
either_at n k i few some lt (inl h) = first_at n k i h few
either_at n k i few some lt (inr h) =
    subst (IsVar (names_in_scope n k)) (omega (arith, h)) (second_at n k (i - n) (omega (arith, h, lt)) some)

-- ---- a bound variable has none of these names

not_among_numbered : (x : List ℕ) (name : ℕ → List ℕ) → ((k : ℕ) → bytes_eq x (name k) ≡ false) → (n k : ℕ) (more : List (List ℕ)) → is_among x more ≡ false →
    is_among x (numbered name k n ++ more) ≡ false
not_among_numbered x name other zero k more h = h
not_among_numbered x name other (suc n) k more h = or_from _ _ (other k) (not_among_numbered x name other n (k + 1) more h)

not_among : (m n k : ℕ) → is_among (bound_name m) (names_in_scope n k) ≡ false
not_among m n k =
    let none : is_among (bound_name m) (numbered definition_name 1 k) ≡ false =
    subst (λ l. is_among (bound_name m) l ≡ false) (append-nil (numbered definition_name 1 k)) (not_among_numbered (bound_name m) definition_name (λ j. refl) k 1 [] refl) in
    not_among_numbered (bound_name m) variable_name (λ j. refl) n 1 (numbered definition_name 1 k) none

pub ready : (n k : ℕ) → n < 2 ^ 63 → k < 2 ^ 63 → Ready (scope_naming n k) (n + k)
ready n k few some = record {
  named = λ i lt. either_at n k i few some lt (cases_lt i n);
  avoids = λ m h. not_among m n k;
  short = omega arith;
}
