-- No bytes spell two formulas, or the conditions of two procedures, or two of one.
use Rattle.std.proofs.Common.{◌≡◌, ◌∙◌, refl, sym, ap, subst, arith, ℕ, ◌+◌, Bool, true, false, Some, List, [], ◌∷◌, ◌++◌, codes, append_assoc}
use Rattle.std.specs.List.{list_all}
use Rattle.std.proofs.lemmas.Bool.{and_parts, both_ways}
use Rattle.lemmas.proofs.Lists.{same_head as heads, same_tail as tails, same_behind}
use Rattle.grammar.specs.Spells.{Derives}
use Rattle.grammar.proofs.Reading.{one_reading}
use Rattle.vb_base.specs.Labels.{text_of}
use Rattle.vb_base.specs.Names.{is_name_byte}
use Rattle.vb_base.specs.declared.labels.Label.{Label}
use Rattle.vb_base.proofs.Fronts.{one_label}
use Rattle.boogie_tree.specs.Program.{BType}
use Rattle.boogie_grammar.specs.Cut.{IsRow}
use Rattle.boogie_grammar.specs.Grammar.{TypeOf, rule, rules}
use Rattle.boogie_grammar.specs.Pieces.{is_in_line}
use Rattle.boogie_grammar.specs.Tests.{a_type}
use Rattle.boogie_grammar.specs.declared.tokens.PlacedLexeme.{PlacedLexeme}
use Rattle.boogie_grammar.proofs.Elements.{laws}
use Rattle.boogie_print.proofs.AlikeLaws.{Alike, one_row, derives_alike}
use Rattle.boogie_print.proofs.Complete.{complete}
use Rattle.boogie_formula.specs.Formula.{FExpr, Formula, Conditions}
use Rattle.boogie_formula.specs.declared.formulas.Fail.{Fail}
use Rattle.boogie_grammar.specs.Tests.{number_of}
use Rattle.boogie_formula_text.specs.Names.{variable_name, definition_name, numbered}
use Rattle.boogie_formula_text.specs.Spells.{SpellsScalar, SpellsValue, scalar, Line, SpellsLets, end, define, SpellsVars, lets, variable, SpellsGoal, goal, SpellsFormula, IsDefinition, SpellsFails, done, fail, SpellsConditions}
use Rattle.boogie_formula_text.proofs.Clean.{Clean, both, name_bytes, name_clean, label_clean}
use Rattle.boogie_formula_text.proofs.ValueReading.{one_definition, value_alike}

-- ---- bytes up to the first that ends them

stops : (p : ℕ → Bool) (b y : ℕ) (ys : List ℕ) → p b ≡ false → list_all p (y ∷ ys) ≡ true → b ≡ y → ⊥
stops p b y ys miss all e = both_ways (p y) (subst (λ z. p z ≡ false) e miss) (and_parts (p y) (list_all p ys) all).0

pub split_at : (p : ℕ → Bool) (b : ℕ) → p b ≡ false → (xs ys : List ℕ) {us vs : List ℕ} → list_all p xs ≡ true → list_all p ys ≡ true → xs ++ b ∷ us ≡ ys ++ b ∷ vs → (xs ≡ ys) × (us ≡ vs)
split_at p b miss [] [] h k e = (refl, tails e)
split_at p b miss [] (y ∷ ys) h k e = absurd (stops p b y ys miss k (heads e))
split_at p b miss (x ∷ xs) [] h k e = absurd (stops p b x xs miss h (sym (heads e)))
split_at p b miss (x ∷ xs) (y ∷ ys) h k e =
    let more = split_at p b miss xs ys (and_parts (p x) (list_all p xs) h).1 (and_parts (p y) (list_all p ys) k).1 (tails e) in
    (ap (λ z. z ∷ xs) (heads e) ∙ ap (λ l. y ∷ l) more.0, more.1)

one_line : (line other : List ℕ) {us vs : List ℕ} → Clean line → Clean other → line ++ 10 ∷ us ≡ other ++ 10 ∷ vs → (line ≡ other) × (us ≡ vs)
one_line line other h k e = split_at is_in_line 10 refl line other h k e

-- ---- what a line spells

line_alike : {X : Type 0} {Says : List PlacedLexeme → X → Type 0} {bytes other : List ℕ} {x y : X} → bytes ≡ other → (h : Line Says bytes x) (k : Line Says other y) → Alike k.tokens h.tokens
line_alike {other = other} e h k = one_row (subst (λ l. IsRow l k.tokens) (sym e) k.cut) h.cut

value_line : {names : List (List ℕ)} {bytes other : List ℕ} {d e : FExpr} → bytes ≡ other → Line (SpellsValue names) bytes d → Line (SpellsValue names) other e → d ≡ e
value_line {names = names} {d = d} {e = e} same h k = one_definition names h.tokens d e h.says (value_alike k.says (line_alike same h k))

scalar_line : {names : List (List ℕ)} {bytes : List ℕ} {e : FExpr} → Line (SpellsScalar names) bytes e → Line (SpellsValue names) bytes e
scalar_line h = record { tokens = h.tokens; in_line = h.in_line; cut = h.cut; says = scalar h.says }

abbrev SpellsType : List PlacedLexeme → BType → Type 0
SpellsType ts u = Derives rules a_type (rule TypeOf) ts u

type_line : {bytes other : List ℕ} {u w : BType} → bytes ≡ other → Line SpellsType bytes u → Line SpellsType other w → u ≡ w
type_line same h k = (one_reading rules laws (complete TypeOf h.says) (complete TypeOf (derives_alike k.says (line_alike same h k)))).0

-- ---- all lines

let_line : (k : ℕ) (line rest : List ℕ) → codes "let " ++ definition_name (k + 1) ++ codes " := " ++ line ++ 10 ∷ rest ≡ (codes "let " ++ definition_name (k + 1) ++ codes " := ") ++ (line ++ 10 ∷ rest)
let_line k line rest = append_assoc (codes "let " ++ definition_name (k + 1) ++ codes " := ") line (10 ∷ rest)

var_line : (n : ℕ) (line rest : List ℕ) → codes "var " ++ variable_name (n + 1) ++ codes ": " ++ line ++ 10 ∷ rest ≡ (codes "var " ++ variable_name (n + 1) ++ codes ": ") ++ (line ++ 10 ∷ rest)
var_line n line rest = append_assoc (codes "var " ++ variable_name (n + 1) ++ codes ": ") line (10 ∷ rest)

other_byte : {x y : ℕ} {xs ys : List ℕ} → x ∷ xs ≡ y ∷ ys → (x ≡ y → ⊥) → ⊥
other_byte e differ = differ (heads e)

-- what stands at the end is one thing at most, and is told from the lines before it
record OneEnd {X : Type 0} (SpellsEnd : ℕ → ℕ → List ℕ → X → Type 0) : Type 0 where
  one : (n k : ℕ) {bytes other : List ℕ} {x y : X} → SpellsEnd n k bytes x → SpellsEnd n k other y → bytes ≡ other → x ≡ y
  no_let : (n k : ℕ) {bytes xs : List ℕ} {x : X} → SpellsEnd n k bytes x → bytes ≡ 108 ∷ xs → ⊥
  no_var : (n k : ℕ) {bytes xs : List ℕ} {x : X} → SpellsEnd n k bytes x → bytes ≡ 118 ∷ xs → ⊥

module _ {X : Type 0} (SpellsEnd : ℕ → ℕ → List ℕ → X → Type 0) (ends : OneEnd SpellsEnd) where
  one_lets : (n : ℕ) {k : ℕ} {bytes other : List ℕ} {ds es : List FExpr} {x y : X} → SpellsLets SpellsEnd n k bytes ds x → SpellsLets SpellsEnd n k other es y → bytes ≡ other → (ds ≡ es) × (x ≡ y)
  one_lets n (end {k = k} a) (end b) e = (refl, ends.one n k a b e)
  one_lets n (end {k = k} a) (define b more) e = absurd (ends.no_let n k a e)
  one_lets n (define a more) (end {k = k} b) e = absurd (ends.no_let n k b (sym e))
  one_lets n (define {k = k} {line = line} {rest = rest} {e = d} {es = ds} a more) (define {line = other} {rest = after} {e = e'} {es = es} b others) e =
      let at = same_behind (codes "let " ++ definition_name (k + 1) ++ codes " := ") (sym (let_line k line rest) ∙ e ∙ let_line k other after) in
      let same = one_line line other a.in_line b.in_line at in
      let next = one_lets n more others same.1 in
      (ap (λ x. x ∷ ds) (value_line same.0 a b) ∙ ap (λ l. e' ∷ l) next.0, next.1)

  -- what is no variable's line
  no_variable : (n : ℕ) {k : ℕ} {bytes xs : List ℕ} {es : List FExpr} {x : X} → SpellsLets SpellsEnd n k bytes es x → bytes ≡ 118 ∷ xs → ⊥
  no_variable n (end {k = k} a) e = ends.no_var n k a e
  no_variable n (define a more) e = other_byte e (λ h. omega (arith, h))

  one_vars : {n : ℕ} {bytes other : List ℕ} {us ws : List BType} {ds es : List FExpr} {x y : X} → SpellsVars SpellsEnd n bytes us ds x → SpellsVars SpellsEnd n other ws es y → bytes ≡ other →
      (us ≡ ws) × (ds ≡ es) × (x ≡ y)
  one_vars {n = n} (lets a) (lets b) e = let same = one_lets n a b e in (refl, same.0, same.1)
  one_vars {n = n} (lets a) (variable b more) e = absurd (no_variable n a e)
  one_vars {n = n} (variable a more) (lets b) e = absurd (no_variable n b (sym e))
  one_vars (variable {n = n} {line = line} {rest = rest} {u = u} {us = us} a more) (variable {line = other} {rest = after} {u = w} {us = ws} b others) e =
      let at = same_behind (codes "var " ++ variable_name (n + 1) ++ codes ": ") (sym (var_line n line rest) ∙ e ∙ var_line n other after) in
      let same = one_line line other a.in_line b.in_line at in
      let next = one_vars more others same.1 in
      (ap (λ x. x ∷ us) (type_line same.0 a b) ∙ ap (λ l. w ∷ l) next.0, next.1, next.2)

-- ---- a goal

one_goal : (n k : ℕ) {bytes other : List ℕ} {g h : FExpr} → SpellsGoal n k bytes g → SpellsGoal n k other h → bytes ≡ other → g ≡ h
one_goal n k (goal {line = line} a) (goal {line = other} b) e =
    let same = one_line line other a.in_line b.in_line (same_behind (codes "goal ") e) in
    value_line same.0 (scalar_line a) (scalar_line b)

goal_no_let : (n k : ℕ) {bytes xs : List ℕ} {g : FExpr} → SpellsGoal n k bytes g → bytes ≡ 108 ∷ xs → ⊥
goal_no_let n k (goal a) e = other_byte e (λ h. omega (arith, h))

goal_no_var : (n k : ℕ) {bytes xs : List ℕ} {g : FExpr} → SpellsGoal n k bytes g → bytes ≡ 118 ∷ xs → ⊥
goal_no_var n k (goal a) e = other_byte e (λ h. omega (arith, h))

goal_ends : OneEnd SpellsGoal
goal_ends = record { one = one_goal; no_let = goal_no_let; no_var = goal_no_var }

-- ---- assertions

empty_full : {x : ℕ} {xs : List ℕ} → [] ≡ x ∷ xs → ⊥
empty_full h = cc

all_behind : (p : ℕ → Bool) (xs ys : List ℕ) → list_all p (xs ++ ys) ≡ true → list_all p ys ≡ true
all_behind p [] ys h = h
all_behind p (x ∷ xs) ys h = all_behind p xs ys (and_parts (p x) (list_all p (xs ++ ys)) h).1

inside : (p : ℕ → Bool) (b : ℕ) → p b ≡ false → (xs ys us : List ℕ) → list_all p us ≡ true → us ≡ xs ++ b ∷ ys → ⊥
inside p b miss xs ys us all e =
    let h = all_behind p xs (b ∷ ys) (subst (λ l. list_all p l ≡ true) e all) in
    both_ways (p b) miss (and_parts (p b) (list_all p ys) h).0

-- bytes behind the last that ends those before it
split_last : (p : ℕ → Bool) (b : ℕ) → p b ≡ false → (xs ys : List ℕ) {us vs : List ℕ} → list_all p us ≡ true → list_all p vs ≡ true → xs ++ b ∷ us ≡ ys ++ b ∷ vs → (xs ≡ ys) × (us ≡ vs)
split_last p b miss [] [] h k e = (refl, tails e)
split_last p b miss [] (y ∷ ys) {us} {vs} h k e = absurd (inside p b miss ys vs us h (tails e))
split_last p b miss (x ∷ xs) [] {us} {vs} h k e = absurd (inside p b miss xs us vs k (sym (tails e)))
split_last p b miss (x ∷ xs) (y ∷ ys) h k e =
    let more = split_last p b miss xs ys h k (tails e) in
    (ap (λ z. z ∷ xs) (heads e) ∙ ap (λ l. y ∷ l) more.0, more.1)

same_place : {i j : ℕ} → Some i ≡ Some j → i ≡ j
same_place h = cc

one_number : (n k : ℕ) {word other : List ℕ} {i j : ℕ} → IsDefinition n k word i → IsDefinition n k other j → word ≡ other → i ≡ j
one_number n k h g e =
    let places = same_place (sym h.is_there ∙ ap (λ x. number_of x (numbered definition_name 1 k)) e ∙ g.is_there) in
    h.is ∙ ap (λ z. n + z) places ∙ sym g.is

fail_line : (l : Label) (word rest : List ℕ) → codes "fails " ++ text_of l ++ codes " " ++ word ++ 10 ∷ rest ≡ codes "fails " ++ ((text_of l ++ 32 ∷ word) ++ 10 ∷ rest)
fail_line l word rest =
    append_assoc (codes "fails " ++ text_of l ++ codes " ") word (10 ∷ rest) ∙ append_assoc (codes "fails " ++ text_of l) (codes " ") (word ++ 10 ∷ rest)
    ∙ append_assoc (codes "fails ") (text_of l) (32 ∷ (word ++ 10 ∷ rest)) ∙ ap (λ z. codes "fails " ++ z) (sym (append_assoc (text_of l) (32 ∷ word) (10 ∷ rest)))

fail_clean : (l : Label) (word : List ℕ) → Clean word → Clean (text_of l ++ 32 ∷ word)
fail_clean l word h = both (text_of l) (32 ∷ word) (label_clean l) h

fail_is : (a b : Fail) → a.label ≡ b.label → a.name ≡ b.name → a ≡ b
fail_is a b h g = λ t. record { label = h t; name = g t }

one_fails : (n k : ℕ) {bytes other : List ℕ} {fs gs : List Fail} → SpellsFails n k bytes fs → SpellsFails n k other gs → bytes ≡ other → fs ≡ gs
one_fails n k done done e = refl
one_fails n k done (fail h more) e = absurd (empty_full e)
one_fails n k (fail h more) done e = absurd (empty_full (sym e))
one_fails n k (fail {word = word} {rest = rest} {a = a} {fs = fs} h more) (fail {word = other} {rest = after} {a = b} {fs = gs} g others) e =
    let at = same_behind (codes "fails ") (sym (fail_line a.label word rest) ∙ e ∙ fail_line b.label other after) in
    let same = one_line (text_of a.label ++ 32 ∷ word) (text_of b.label ++ 32 ∷ other) (fail_clean a.label word (name_clean word h.form)) (fail_clean b.label other (name_clean other g.form)) at in
    let parts = split_last is_name_byte 32 refl (text_of a.label) (text_of b.label) (name_bytes word h.form) (name_bytes other g.form) same.0 in
    let first = fail_is a b (one_label (record { text = refl }) (record { text = parts.0 })) (one_number n k h g parts.1) in
    ap (λ z. z ∷ fs) first ∙ ap (λ l. b ∷ l) (one_fails n k more others same.1)

fails_no_let : (n k : ℕ) {bytes xs : List ℕ} {fs : List Fail} → SpellsFails n k bytes fs → bytes ≡ 108 ∷ xs → ⊥
fails_no_let n k done e = empty_full e
fails_no_let n k (fail h more) e = other_byte e (λ h. omega (arith, h))

fails_no_var : (n k : ℕ) {bytes xs : List ℕ} {fs : List Fail} → SpellsFails n k bytes fs → bytes ≡ 118 ∷ xs → ⊥
fails_no_var n k done e = empty_full e
fails_no_var n k (fail h more) e = other_byte e (λ h. omega (arith, h))

fails_ends : OneEnd SpellsFails
fails_ends = record { one = one_fails; no_let = fails_no_let; no_var = fails_no_var }

-- ---- the first line

title : (name line rest : List ℕ) → codes "vc " ++ name ++ codes " " ++ line ++ 10 ∷ rest ≡ codes "vc " ++ (name ++ 32 ∷ (line ++ 10 ∷ rest))
title name line rest = append_assoc (codes "vc " ++ name ++ codes " ") line (10 ∷ rest) ∙ append_assoc (codes "vc " ++ name) (codes " ") (line ++ 10 ∷ rest)

formula_is : (f g : Formula) → f.vars ≡ g.vars → f.lets ≡ g.lets → f.goal ≡ g.goal → f ≡ g
formula_is f g h i j = λ t. record { vars = h t; lets = i t; goal = j t }

pub one_formula : (bytes : List ℕ) (n m : List ℕ) (k l : Label) (f g : Formula) → SpellsFormula bytes n k f → SpellsFormula bytes m l g → (n ≡ m) × (k ≡ l) × (f ≡ g)
one_formula bytes n m k l f g h i =
    let all = same_behind (codes "vc ") (sym (title n (text_of k) h.rest) ∙ sym h.text ∙ i.text ∙ title m (text_of l) i.rest) in
    let names = split_at is_name_byte 32 refl n m (name_bytes n h.free.form) (name_bytes m i.free.form) all in
    let labels = one_line (text_of k) (text_of l) (label_clean k) (label_clean l) names.1 in
    let same = one_vars SpellsGoal goal_ends h.lines i.lines labels.1 in
    (names.0, one_label (record { text = refl }) (record { text = labels.0 }), formula_is f g same.0 same.1 same.2)

conditions_are : (x y : Conditions) → x.vars ≡ y.vars → x.lets ≡ y.lets → x.fails ≡ y.fails → x ≡ y
conditions_are x y h i j = λ t. record { vars = h t; lets = i t; fails = j t }

pub one_conditions : (bytes : List ℕ) (n m : List ℕ) (x y : Conditions) → SpellsConditions bytes n x → SpellsConditions bytes m y → (n ≡ m) × (x ≡ y)
one_conditions bytes n m x y h i =
    let front : (name rest : List ℕ) → codes "conditions " ++ name ++ 10 ∷ rest ≡ codes "conditions " ++ (name ++ 10 ∷ rest) = λ name rest. append_assoc (codes "conditions ") name (10 ∷ rest) in
    let all = same_behind (codes "conditions ") (sym (front n h.rest) ∙ sym h.text ∙ i.text ∙ front m i.rest) in
    let names = one_line n m (name_clean n h.free.form) (name_clean m i.free.form) all in
    let same = one_vars SpellsFails fails_ends h.lines i.lines names.1 in
    (names.0, conditions_are x y same.0 same.1 same.2)
