-- The text that is printed of a run spells that run.
use Rattle.std.proofs.Common.{◌≡◌, ◌∙◌, ◌+◌, ℕ, Bool, true, false, not, cond, List, [], ◌∷◌, ◌++◌, append_assoc, length, length-append, map, All, Option, Some, None, IsTrue, IfSome, slice_get, slice_set, refl, sym, ap, subst, arith}
use Rattle.std.specs.Prelude.{fold, codes}
use Rattle.std.proofs.lemmas.Bool.{and_parts}
use Rattle.std.proofs.lemmas.List.{length-map, length-take}
use Rattle.std.proofs.lemmas.List.Elements.{All-nil, All-cons, All-head, All-tail}
use Rattle.std.proofs.lemmas.List.Sums.{fold-append}
use Rattle.lemmas.proofs.Lists.{all_left, all_right}
use Rattle.vb_base.specs.Names.{is_name, is_viper_name, is_word}
use Rattle.vb_value.specs.Equality.{Decides-value_eq}
use Rattle.vb_value.specs.Value.{default_of, type_of, value_eq}
use Rattle.vb_value.specs.declared.values.Ty.{Ty}
use Rattle.vb_value.specs.declared.values.Value.{Value}
use Rattle.viper_core.specs.Formed.{IsFormed, IsMethod, IsPredicate, global_names}
use Rattle.viper_core.specs.Program.{Program, Predicate, Method}
use Rattle.viper_core.specs.declared.programs.Unit.{Unit}
use Rattle.viper_core.specs.declared.programs.Unit.TheVariants as unit
use Rattle.viper_state.specs.Choice.{Choice, Branch, Took, Amount, Fresh, Filled}
use Rattle.viper_state.specs.Fits.{FitsStore, FitsMemo, FitsChoice}
use Rattle.viper_state.specs.Run.{Opening}
use Rattle.viper_state.specs.State.{Memo}
use Rattle.viper_state.specs.Within.{IsWithinMemo, IsWithinChoice}
use Rattle.viper_state.proofs.Paired.{All-found}
use Rattle.run_file.specs.Lines as l
use Rattle.run_file.specs.Lines.{UnitScope, scope_of, method_variables, predicate_variables, unit_variables, ViperLine, Var, Chosen, Opened, IsLine}
use Rattle.run_file.specs.Printable.{IsNamedMemo, IsNamedChoice, IsPrintable}
use Rattle.run_file.specs.Printed.{memo_text, choice_text, choices_text, run_text}
use Rattle.run_file_words.specs.Printed.{truth_text, value_text, fraction_text, reference_text}
use Rattle.run_file.specs.Run.{ViperRun, opening_with, empty_opening, scope_memo, AreChoices, none, one, filled, header, SpellsViperRun}
use Rattle.run_file_words.proofs.PrintedWords.{pick_word, value_keyword, run_word, name_word, IsWord, word_text, text_then, blank_behind, Tells, tells_then, line_told}
use Rattle.run_file_words.proofs.PrintedValues.{value_is_spelled, value_word, truth_spelled, reference_spelled, fraction_spelled}
use Rattle.run_file_words.proofs.PrintedMaps.{set_middle}
use Rattle.run_file.proofs.PrintedMemos.{memo_lines, var_lines, opening_lines, places_alone, settings_alone, memo_filled, places_open}
use Rattle.run_file.proofs.PrintedOnce.{memo_once, opening_once}
use Rattle.run_file.proofs.PrintedLines.{variables_said, heaps_said, contents_said}
use Rattle.run_file_words.proofs.SaidLines.{Says, says_nothing, says_then, line_said, all_told, HasNames, numbered}

-- ---- the names of a formed program are words

viper_word : (name : List ℕ) → IsTrue (is_viper_name name) → IsWord name
viper_word name is = name_word name (and_parts (is_name name) (not (is_word name)) is).0

viper_words : (names : List (List ℕ)) → All (λ x. IsTrue (is_viper_name x)) names → All IsWord names
viper_words [] h = All-nil IsWord
viper_words (x ∷ xs) h = All-cons IsWord x xs (viper_word x (All-head (λ x. IsTrue (is_viper_name x)) x xs h)) (viper_words xs (All-tail (λ x. IsTrue (is_viper_name x)) x xs h))

method_names : (p : Program) (o : Option Method) (n : ℕ) → slice_get p.methods n ≡ o → All (IsMethod p) p.methods → HasNames (method_variables o)
method_names p None n is h = record { as_many = omega arith; words = All-nil IsWord }
method_names p (Some m) n is h =
    let formed = subst (λ o. IfSome o (IsMethod p)) is (All-found (IsMethod p) p.methods n h) in
    record { as_many = omega (arith, formed.as_many, length-take (m.params + m.returns) m.vars); words = viper_words m.names formed.names.names }

predicate_names_are : (p : Program) (o : Option Predicate) (n : ℕ) → slice_get p.predicates n ≡ o → All (IsPredicate p) p.predicates → HasNames (predicate_variables o)
predicate_names_are p None n is h = record { as_many = omega arith; words = All-nil IsWord }
predicate_names_are p (Some d) n is h =
    let formed = subst (λ o. IfSome o (IsPredicate p)) is (All-found (IsPredicate p) p.predicates n h) in
    record { as_many = omega (arith, formed.as_many); words = viper_words d.names formed.names.names }

unit_names : (p : Program) (o : Option Unit) → IsFormed p → HasNames (unit_variables p o)
unit_names p None h = record { as_many = omega arith; words = All-nil IsWord }
unit_names p (Some (unit.Method n)) h = method_names p (slice_get p.methods n) n refl h.typed.methods
unit_names p (Some (unit.Predicate n)) h = predicate_names_are p (slice_get p.predicates n) n refl h.typed.predicates

record ScopeNames (s : UnitScope) : Type 0 where
  variables : HasNames s.variables
  fields : HasNames s.fields
  predicates : HasNames s.predicates

scope_names : (p : Program) (n : ℕ) → IsFormed p → ScopeNames (scope_of p n)
scope_names p n h =
    let predicates = map (λ (d : Predicate). d.name) p.predicates in
    let methods = map (λ (m : Method). m.name) p.methods in
    let words = viper_words (global_names p) h.typed.names.names in
    let two = all_left IsWord (p.fields ++ predicates) methods words in
    record {
      variables = unit_names p (slice_get p.units n) h;
      fields = record { as_many = omega (arith, h.typed.layout.fields); words = all_left IsWord p.fields predicates two };
      predicates = record {
        as_many = omega (arith, ap length h.typed.layout.keys, length-map p.predicates (λ (d : Predicate). d.params), length-map p.predicates (λ (d : Predicate). d.name));
        words = all_right IsWord p.fields predicates two;
      };
    }

-- ---- heaps and contents, and choices

memo_said : (p : Program) (n : ℕ) (m : Memo) → ScopeNames (scope_of p n) → FitsMemo p.layout m → IsWithinMemo m → IsNamedMemo m → Says (IsLine (scope_of p n)) (memo_text p m) (memo_lines m)
memo_said p n m names fits within named =
    says_then (heaps_said (scope_of p n) m.heap names.fields fits.heap within.heap named.heap)
    (contents_said (scope_of p n) m.content names.predicates fits.content within.content named.content)

abbrev choice_lines : Choice → List ViperLine
choice_lines (Branch b) = Chosen (Branch b) ∷ []
choice_lines (Took w) = Chosen (Took w) ∷ []
choice_lines (Amount q) = Chosen (Amount q) ∷ []
choice_lines (Fresh r) = Chosen (Fresh r) ∷ []
choice_lines (Filled m) = Opened ∷ memo_lines m

abbrev choices_lines : List Choice → List ViperLine
choices_lines [] = []
choices_lines (c ∷ cs) = choice_lines c ++ choices_lines cs

amount_word : IsWord (codes "amount")
amount_word = record { some = omega arith; bytes = refl }

fresh_word : IsWord (codes "fresh")
fresh_word = record { some = omega arith; bytes = refl }

state_word : IsWord (codes "state")
state_word = record { some = omega arith; bytes = refl }

choice_said : (p : Program) (n : ℕ) (c : Choice) → ScopeNames (scope_of p n) → FitsChoice p.layout c → IsWithinChoice c → IsNamedChoice c → Says (IsLine (scope_of p n)) (choice_text p c) (choice_lines c)
choice_said p n (Branch b) names fits within named =
    let spelled = truth_spelled b in
    line_said (IsLine (scope_of p n)) (codes "pick " ++ truth_text b) (codes "pick") (truth_text b ∷ []) (Chosen (Branch b))
    (text_then (blank_behind (word_text pick_word)) (word_text (value_word spelled))) refl (l.pick spelled)
choice_said p n (Took w) names fits within named =
    let spelled = value_is_spelled w fits within named in
    line_said (IsLine (scope_of p n)) (codes "value " ++ value_text w) (codes "value") (value_text w ∷ []) (Chosen (Took w))
    (text_then (blank_behind (word_text value_keyword)) (word_text (value_word spelled))) refl (l.value spelled)
choice_said p n (Amount q) names fits within named =
    let spelled = fraction_spelled q fits within in
    line_said (IsLine (scope_of p n)) (codes "amount " ++ fraction_text q) (codes "amount") (fraction_text q ∷ []) (Chosen (Amount q))
    (text_then (blank_behind (word_text amount_word)) (word_text (value_word spelled))) refl (l.amount spelled)
choice_said p n (Fresh r) names fits within named =
    let spelled = reference_spelled r named in
    line_said (IsLine (scope_of p n)) (codes "fresh " ++ reference_text r) (codes "fresh") (reference_text r ∷ []) (Chosen (Fresh r))
    (text_then (blank_behind (word_text fresh_word)) (word_text (value_word spelled))) refl (l.fresh spelled)
choice_said p n (Filled m) names fits within named =
    says_then (line_said (IsLine (scope_of p n)) (codes "state") (codes "state") [] Opened (word_text state_word) refl l.state) (memo_said p n m names fits within named)

choices_said : (p : Program) (n : ℕ) (cs : List Choice) → ScopeNames (scope_of p n) → All (FitsChoice p.layout) cs → All IsWithinChoice cs → All IsNamedChoice cs →
    Says (IsLine (scope_of p n)) (choices_text p cs) (choices_lines cs)
choices_said p n [] names fits within named = says_nothing (IsLine (scope_of p n))
choices_said p n (c ∷ cs) names fits within named =
    says_then (choice_said p n c names (All-head (FitsChoice p.layout) c cs fits) (All-head IsWithinChoice c cs within) (All-head IsNamedChoice c cs named))
    (choices_said p n cs names (All-tail (FitsChoice p.layout) c cs fits) (All-tail IsWithinChoice c cs within) (All-tail IsNamedChoice c cs named))

are_choices : (p : Program) (n : ℕ) (cs : List Choice) → All (FitsChoice p.layout) cs → AreChoices (scope_of p n) (choices_lines cs) cs
are_choices p n [] fits = none
are_choices p n (Branch b ∷ cs) fits = one (are_choices p n cs (All-tail (FitsChoice p.layout) (Branch b) cs fits))
are_choices p n (Took w ∷ cs) fits = one (are_choices p n cs (All-tail (FitsChoice p.layout) (Took w) cs fits))
are_choices p n (Amount q ∷ cs) fits = one (are_choices p n cs (All-tail (FitsChoice p.layout) (Amount q) cs fits))
are_choices p n (Fresh r ∷ cs) fits = one (are_choices p n cs (All-tail (FitsChoice p.layout) (Fresh r) cs fits))
are_choices p n (Filled m ∷ cs) fits =
    let memo = All-head (FitsChoice p.layout) (Filled m) cs fits in
    subst (λ x. AreChoices (scope_of p n) (Opened ∷ memo_lines m ++ choices_lines cs) (Filled x ∷ cs)) (memo_filled p.layout m memo)
    (filled (memo_lines m) (places_alone m) (memo_once p.layout m memo) (are_choices p n cs (All-tail (FitsChoice p.layout) (Filled m) cs fits)))

-- ---- the opening

module _ (m : Memo) where
  var_set : (n : ℕ) (u : Ty) (w : Value) (before after : List Value) (b : Bool) → n ≡ length before → type_of w ≡ u → value_eq w (default_of (type_of w)) ≡ b →
      fold opening_with (record { store = before ++ default_of u ∷ after; memo = m }) (cond b [] (Var n w ∷ [])) ≡ record { store = before ++ w ∷ after; memo = m }
  var_set n u w before after true at typed is =
      let same : default_of u ≡ w = sym ((Decides-value_eq w (default_of (type_of w))).0 is ∙ ap default_of typed) in
      ap (λ x. record { store = before ++ x ∷ after; memo = m }) same
  var_set n u w before after false at typed is =
      ap (λ x. record { store = x; memo = m }) (ap (λ k. slice_set (before ++ default_of u ∷ after) k w) at ∙ set_middle before (default_of u) w after)

  vars_set : (us : List Ty) (ws before : List Value) (n : ℕ) → n ≡ length before → FitsStore us ws →
      fold opening_with (record { store = before ++ map default_of us; memo = m }) (numbered var_lines n ws) ≡ record { store = before ++ ws; memo = m }
  vars_set [] [] before n at fits = refl
  vars_set [] (w ∷ ws) before n at fits = absurd fits
  vars_set (u ∷ us) [] before n at fits = absurd fits
  vars_set (u ∷ us) (w ∷ ws) before n at fits =
      let longer : n + 1 ≡ length (before ++ w ∷ []) = omega (arith, at, length-append before (w ∷ [])) in
      fold-append opening_with (record { store = before ++ default_of u ∷ map default_of us; memo = m }) (var_lines n w) (numbered var_lines (n + 1) ws) ∙
      (ap (λ o. fold opening_with o (numbered var_lines (n + 1) ws))
      (var_set n u w before (map default_of us) (value_eq w (default_of (type_of w))) at fits.0.typed refl ∙ ap (λ x. record { store = x; memo = m }) (sym (append_assoc before (w ∷ []) (map default_of us)))) ∙
      (vars_set us ws (before ++ w ∷ []) (n + 1) longer fits.1 ∙ ap (λ x. record { store = x; memo = m }) (append_assoc before (w ∷ []) ws)))

opening_set : (p : Program) (n : ℕ) (o : Opening) → FitsStore (scope_of p n).variables.types o.store → FitsMemo p.layout o.memo →
    fold opening_with (empty_opening (scope_of p n)) (opening_lines o) ≡ o
opening_set p n o store memo =
    let s = scope_of p n in
    fold-append opening_with (empty_opening s) (numbered var_lines 0 o.store) (memo_lines o.memo) ∙
    (ap (λ x. fold opening_with x (memo_lines o.memo)) (vars_set (scope_memo s) s.variables.types o.store [] 0 refl store) ∙
    (places_open (memo_lines o.memo) (record { store = o.store; memo = scope_memo s }) (places_alone o.memo) ∙ ap (λ m. record { store = o.store; memo = m }) (memo_filled p.layout o.memo memo)))

-- ---- the whole text

viper_text : IsWord (codes "viper")
viper_text = record { some = omega arith; bytes = refl }

header_told : Tells (codes "viper run\n") (header ∷ [])
header_told = line_told (codes "viper run") (codes "viper") (codes "run" ∷ []) (text_then (blank_behind (word_text viper_text)) (word_text run_word)) refl

pub run_spelled : (p : Program) (n : ℕ) (run : ViperRun) → IsFormed p → IsPrintable p n run → SpellsViperRun (run_text p n run) p n run
run_spelled p n run formed h =
    let s = scope_of p n in
    let names = scope_names p n formed in
    let store = variables_said s run.opening.store names.variables h.opening_fits.store h.opening_within.store h.store_named in
    let memo = memo_said p n run.opening.memo names h.opening_fits.memo h.opening_within.memo h.memo_named in
    let choices = choices_said p n run.choices names h.choices_fit h.choices_within h.choices_named in
    let settings = says_then store memo in
    let all = says_then settings choices in
    record {
      words = all.words;
      said = opening_lines run.opening ++ choices_lines run.choices;
      headed = all_told (tells_then header_told all.told);
      meant = all.are;
      means = record {
        settings = opening_lines run.opening;
        rest = choices_lines run.choices;
        whole = refl;
        only = settings_alone run.opening;
        once = opening_once p.layout run.opening h.opening_fits.memo;
        opening = sym (opening_set p n run.opening h.opening_fits.store h.opening_fits.memo);
        choices = are_choices p n run.choices h.choices_fit;
      };
    }
