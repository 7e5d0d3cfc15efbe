-- What is written for a formula spells it, and so does what is written for conditions.
use Rattle.std.proofs.Common.{◌≡◌, ◌∙◌, sym, subst, arith, ℕ, ◌+◌, ◌^◌, ◌<◌, ◌≤◌, All, List, [], ◌∷◌, ◌++◌, length, codes, append_assoc}
use Rattle.std.proofs.lemmas.List.Elements.{All-head, All-tail, All-weaker}
use Rattle.grammar.specs.Spells.{Derives}
use Rattle.vb_base.specs.Labels.{text_of}
use Rattle.vb_base.specs.declared.labels.Label.{Label}
use Rattle.boogie_tree.specs.Program.{BType}
use Rattle.boogie_tree.specs.Values.{AreKeys}
use Rattle.boogie_grammar.specs.Grammar.{TypeOf, rule, rules}
use Rattle.boogie_grammar.specs.Printed.{name_at, type_text}
use Rattle.boogie_grammar.specs.Tests.{a_type}
use Rattle.boogie_meaning.specs.Programs.{HaveKeys}
use Rattle.boogie_print.specs.Printable.{IsFreeName}
use Rattle.boogie_print.proofs.ProgramShown.{type_shown}
use Rattle.boogie_print.proofs.VarLaws.{head_of, tail_of}
use Rattle.boogie_formula.specs.Formula.{FExpr, Formula, Conditions}
use Rattle.boogie_formula.specs.Printable.{FitsScalar, FitLets, NamesDefinition, IsPrintableConditions, IsPrintableFormula}
use Rattle.boogie_formula.specs.declared.formulas.Fail.{Fail}
use Rattle.boogie_formula_text.specs.Names.{variable_name, definition_name, names_in_scope}
use Rattle.boogie_formula_text.specs.Printed.{scope_naming, fexpr_text, variables_text, definitions_text, goal_text, formula_text, fails_text, conditions_text}
use Rattle.boogie_formula_text.specs.Short.{ShortFExpr, ShortLets, AreShortConditions, IsShortFormula}
use Rattle.boogie_formula_text.specs.Spells.{SpellsLets, end, define, SpellsVars, lets, variable, SpellsGoal, goal, SpellsFormula, SpellsFails, done, fail, SpellsConditions}
use Rattle.boogie_formula_text.proofs.Clean.{type_clean}
use Rattle.boogie_formula_text.proofs.ScopeNames.{definition_spelled}
use Rattle.boogie_formula_text.proofs.ValueShown.{Shown, line_of, scalar_shown, value_shown}

-- what stands in front of a line's end, and what is behind it
line_end : (line rest behind : List ℕ) → (line ++ codes "\n" ++ rest) ++ behind ≡ line ++ 10 ∷ (rest ++ behind)
line_end line rest behind = append_assoc (line ++ codes "\n") rest behind ∙ append_assoc line (codes "\n") (rest ++ behind)

module _ {X : Type 0} (SpellsEnd : ℕ → ℕ → List ℕ → X → Type 0) where
  lets_spelled : (n : ℕ) → n < 2 ^ 63 → (k m : ℕ) → m < 2 ^ 63 → (es : List FExpr) {bytes : List ℕ} {x : X} → k + length es ≡ m → FitLets (n + k) es → ShortLets es → SpellsEnd n m bytes x →
      SpellsLets SpellsEnd n k (definitions_text n k es ++ bytes) es x
  lets_spelled n few k m some [] {bytes} {x} e fit short h = let same : m ≡ k = omega (arith, e) in end (subst (λ j. SpellsEnd n j bytes x) same h)
  lets_spelled n few k m some (d ∷ es) {bytes} {x} e fit short h =
      let front = codes "let " ++ definition_name (k + 1) ++ codes " := " ++ fexpr_text (scope_naming n k) d in
      let fits : FitLets (n + (k + 1)) es = subst (λ j. FitLets j es) (let a : n + k + 1 ≡ n + (k + 1) = omega arith in a) fit.1 in
      let more = lets_spelled n few (k + 1) m some es (omega (arith, e)) fits short.1 h in
      subst (λ l. SpellsLets SpellsEnd n k l (d ∷ es) x) (sym (line_end front (definitions_text n (k + 1) es) bytes))
      (define (line_of (value_shown n k (few, omega (arith, e, some)) d fit.0 short.0)) more)

type_line : (u : BType) → AreKeys u.keys → Shown (λ ts w. Derives rules a_type (rule TypeOf) ts w) (type_text u) u
type_line u keys =
    let shown = type_shown u.keys u.base keys in
    record { tokens = shown.tokens; spelled = shown.spelled; row = shown.row; clean = type_clean u }

module _ {X : Type 0} (SpellsEnd : ℕ → ℕ → List ℕ → X → Type 0) where
  vars_spelled : (n m : ℕ) (us : List BType) {bytes : List ℕ} {es : List FExpr} {x : X} → n + length us ≡ m → HaveKeys us → SpellsLets SpellsEnd m 0 bytes es x →
      SpellsVars SpellsEnd n (variables_text n us ++ bytes) us es x
  vars_spelled n m [] {bytes = bytes} {es = es} {x = x} e keys h = let same : m ≡ n = omega (arith, e) in lets (subst (λ j. SpellsLets SpellsEnd j 0 bytes es x) same h)
  vars_spelled n m (u ∷ us) {bytes = bytes} {es = es} {x = x} e keys h =
      let front = codes "var " ++ variable_name (n + 1) ++ codes ": " ++ type_text u in
      let more = vars_spelled (n + 1) m us (omega (arith, e)) (tail_of (λ (w : BType). AreKeys w.keys) u us keys) h in
      subst (λ l. SpellsVars SpellsEnd n l (u ∷ us) es x) (sym (line_end front (variables_text (n + 1) us) bytes))
      (variable (line_of (type_line u (head_of (λ (w : BType). AreKeys w.keys) u us keys))) more)

-- a number of a definition
record Within (n k : ℕ) (a : Fail) : Type 0 where
  behind : n ≤ a.name
  there : a.name < n + k

whole : (first us vs ws : List ℕ) → first ++ codes "\n" ++ us ++ vs ++ ws ≡ first ++ 10 ∷ (us ++ (vs ++ ws))
whole first us vs ws = append_assoc (first ++ codes "\n" ++ us) vs ws ∙ line_end first us (vs ++ ws)

goal_spelled : (n k : ℕ) → n < 2 ^ 63 → k < 2 ^ 63 → (g : FExpr) → FitsScalar (n + k) g → ShortFExpr g → SpellsGoal n k (goal_text n k g) g
goal_spelled n k few some g h s = goal (line_of (scalar_shown n k (few, some) g h s))

pub formula_spelled : (name : List ℕ) (label : Label) (f : Formula) → IsFreeName name → IsPrintableFormula f → IsShortFormula f → SpellsFormula (formula_text name label f) name label f
formula_spelled name label f free h short =
    let n = length f.vars in
    let m = length f.lets in
    let fits : FitLets (n + 0) f.lets = subst (λ j. FitLets j f.lets) (let a : n ≡ n + 0 = omega arith in a) h.lets in
    let all = lets_spelled SpellsGoal n short.vars 0 m short.lets f.lets (omega arith) fits short.values (goal_spelled n m short.vars short.lets f.goal h.goal short.goal) in
    record {
      rest = variables_text 0 f.vars ++ (definitions_text n 0 f.lets ++ goal_text n m f.goal);
      text = whole (codes "vc " ++ name ++ codes " " ++ text_of label) (variables_text 0 f.vars) (definitions_text n 0 f.lets) (goal_text n m f.goal);
      free = free;
      lines = vars_spelled SpellsGoal 0 n f.vars (omega arith) h.keys all;
    }

fails_spelled : (n k : ℕ) → k < 2 ^ 63 → (fs : List Fail) → All (Within n k) fs → SpellsFails n k (fails_text n k fs) fs
fails_spelled n k some [] h = done
fails_spelled n k some (a ∷ fs) h =
    let w = All-head (Within n k) a fs h in
    let word = name_at (names_in_scope n k) a.name in
    let front = codes "fails " ++ text_of a.label ++ codes " " ++ word in
    subst (λ l. SpellsFails n k l (a ∷ fs)) (sym (append_assoc front (codes "\n") (fails_text n k fs)))
    (fail (definition_spelled n k a.name some w.behind w.there) (fails_spelled n k some fs (All-tail (Within n k) a fs h)))

pub conditions_spelled : (name : List ℕ) (x : Conditions) → IsFreeName name → IsPrintableConditions x → AreShortConditions x → SpellsConditions (conditions_text name x) name x
conditions_spelled name x free h short =
    let n = length x.vars in
    let m = length x.lets in
    let fits : FitLets (n + 0) x.lets = subst (λ j. FitLets j x.lets) (let a : n ≡ n + 0 = omega arith in a) h.lets in
    let there = All-weaker (NamesDefinition x) (Within n m) (λ a g. record { behind = g.behind; there = g.there }) x.fails h.fails in
    let all = lets_spelled SpellsFails n short.vars 0 m short.lets x.lets (omega arith) fits short.values (fails_spelled n m short.lets x.fails there) in
    record {
      rest = variables_text 0 x.vars ++ (definitions_text n 0 x.lets ++ fails_text n m x.fails);
      text = whole (codes "conditions " ++ name) (variables_text 0 x.vars) (definitions_text n 0 x.lets) (fails_text n m x.fails);
      free = free;
      lines = vars_spelled SpellsFails 0 n x.vars (omega arith) h.keys all;
    }
