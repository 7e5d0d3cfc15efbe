-- What is spelled can be printed, a formula as well as conditions.
use Rattle.std.proofs.Common.{◌≡◌, ◌∙◌, refl, ap, subst, arith, ℕ, zero, suc, ◌+◌, ◌<◌, ◌≤◌, Bool, true, false, if◌then◌else◌, All, List, [], ◌∷◌, ◌++◌, Some, length, length-append}
use Rattle.std.specs.Option.{option_map}
use Rattle.std.proofs.lemmas.List.Elements.{All-nil, All-cons, All-weaker}
use Rattle.vb_base.specs.declared.labels.Label.{Label}
use Rattle.boogie_tree.specs.Expr as t
use Rattle.boogie_tree.specs.Program.{BType}
use Rattle.boogie_tree.specs.Values.{AreKeys}
use Rattle.boogie_grammar.specs.Grammar as g
use Rattle.boogie_grammar.specs.Grammar.{TypeOf}
use Rattle.boogie_grammar.specs.Tests.{number_of}
use Rattle.boogie_grammar.specs.declared.tokens.PlacedLexeme.{PlacedLexeme}
use Rattle.boogie_meaning.specs.Programs.{HaveKeys}
use Rattle.boogie_print.specs.Printable.{IsFreeName}
use Rattle.boogie_print.proofs.SpelledLaws.{AllProper, Gives, front_proper, back_proper, row_proper, variable_within, all_keep, keeps, number_within}
use Rattle.boogie_formula.specs.Formula.{FExpr, FExprs, none, more, Formula, Conditions}
use Rattle.boogie_formula.specs.declared.formulas.Fail.{Fail}
use Rattle.boogie_formula.specs.Printable as fits
use Rattle.boogie_formula.specs.Printable.{FitsScalar, FitKeys, FitsValue, FitLets, NamesDefinition, IsPrintableConditions, IsPrintableFormula}
use Rattle.boogie_formula.specs.Value.{plain, plain_all, two}
use Rattle.boogie_formula_text.specs.Names.{variable_name, definition_name, numbered, names_in_scope}
use Rattle.boogie_formula_text.specs.Spells as s
use Rattle.boogie_formula_text.specs.Spells.{SpellsScalar, SpellsKeys, SpellsValue, SpellsLets, SpellsVars, SpellsGoal, SpellsFormula, SpellsFails, SpellsConditions}
use Rattle.boogie_formula_text.proofs.PlainLaws.{map_parts}

scalar_fits : {names : List (List ℕ)} {ts : List PlacedLexeme} {e : FExpr} → SpellsScalar names ts e → AllProper ts → FitsScalar (length names) e
scalar_fits {names = names} h proper =
    let x = g.outside names in
    record { tree = h.tree; is = h.is; fits = keeps (Gives (g.Expr x)) h.derived (all_keep (g.Expr x) tt) proper }

some_trees : {b : t.BExpr} {bs : t.BExprs} → t.more b bs ≡ t.none → ⊥
some_trees e = cc

both_plain : (a : FExpr) (es : FExprs) {b : t.BExpr} {bs : t.BExprs} → plain a ≡ Some b → plain_all es ≡ Some bs → plain_all (more a es) ≡ Some (t.more b bs)
both_plain a es {b = b} h i = ap (λ o. two t.more o (plain_all es)) h ∙ ap (λ o. two t.more (Some b) o) i

keys_fit : {names : List (List ℕ)} {ts : List PlacedLexeme} {es : FExprs} → SpellsKeys names ts es → AllProper ts → FitKeys (length names) es
keys_fit (s.last {e = a} h) proper =
    let one = scalar_fits h proper in
    record { trees = t.more one.tree t.none; is = both_plain a none one.is refl; some = some_trees; fits = (one.fits, tt) }
keys_fit (s.before {ts = ts} {us = us} comma {e = a} {es = es} h c rest) proper =
    let one = scalar_fits h (front_proper ts (comma ∷ us) proper) in
    let others = keys_fit rest (back_proper ts (comma ∷ us) proper).1 in
    record { trees = t.more one.tree others.trees; is = both_plain a es one.is others.is; some = some_trees; fits = (one.fits, others.fits) }

value_fits : {names : List (List ℕ)} {ts : List PlacedLexeme} {e : FExpr} → SpellsValue names ts e → AllProper ts → FitsValue (length names) e
value_fits (s.scalar h) proper = fits.scalar (scalar_fits h proper)
value_fits (s.update {ts = ts} {us = us} name opening assign closing is o keys a h c) proper =
    let rest = back_proper ts (assign ∷ (us ++ closing ∷ [])) proper.1.1 in
    fits.update (variable_within is) (keys_fit keys (front_proper ts (assign ∷ (us ++ closing ∷ [])) proper.1.1)) (scalar_fits h (front_proper us (closing ∷ []) rest.1))
value_fits (s.choice {ts = ts} {us = us} {vs = vs} opening word_if word_then word_else closing o i h k first j second c) proper =
    let then_tokens = word_then ∷ (us ++ word_else ∷ (vs ++ closing ∷ [])) in
    let else_tokens = word_else ∷ (vs ++ closing ∷ []) in
    let after = back_proper ts then_tokens proper.1.1 in
    let rest = back_proper us else_tokens after.1 in
    fits.choice (scalar_fits h (front_proper ts then_tokens proper.1.1)) (value_fits first (front_proper us else_tokens after.1))
    (value_fits second (front_proper vs (closing ∷ []) rest.1))

-- ---- lines

so_many : (name : ℕ → List ℕ) (k n : ℕ) → length (numbered name k n) ≡ n
so_many name k zero = refl
so_many name k (suc n) = ap suc (so_many name (k + 1) n)

in_scope : (n k : ℕ) → length (names_in_scope n k) ≡ n + k
in_scope n k =
    let first = so_many variable_name 1 n in
    let second = so_many definition_name 1 k in
    length-append (numbered variable_name 1 n) (numbered definition_name 1 k) ∙ omega (arith, first, second)

module _ {X : Type 0} (SpellsEnd : ℕ → ℕ → List ℕ → X → Type 0) where
  -- what stands at the end, behind n variables and k definitions
  record AtEnd (n k : ℕ) (x : X) : Type 0 where
    bytes : List ℕ
    spelled : SpellsEnd n k bytes x

  lets_fit : (n : ℕ) {k : ℕ} {bytes : List ℕ} {es : List FExpr} {x : X} → SpellsLets SpellsEnd n k bytes es x → FitLets (n + k) es × AtEnd n (k + length es) x
  lets_fit n (s.end {k = k} {bytes = bytes} {x = x} h) =
      let same : k ≡ k + 0 = omega arith in
      (tt, record { bytes = bytes; spelled = subst (λ j. SpellsEnd n j bytes x) same h })
  lets_fit n (s.define {k = k} {e = d} {x = x} {es = es} h rest) =
      let others = lets_fit n rest in (
        (subst (λ j. FitsValue j d) (in_scope n k) (value_fits h.says (row_proper h.cut)), subst (λ j. FitLets j es) (let a : n + (k + 1) ≡ n + k + 1 = omega arith in a) others.0),
        subst (λ j. AtEnd n j x) (let a : k + 1 + length es ≡ k + suc (length es) = omega arith in a) others.1,
      )

  vars_fit : {n : ℕ} {bytes : List ℕ} {us : List BType} {es : List FExpr} {x : X} → SpellsVars SpellsEnd n bytes us es x →
      HaveKeys us × FitLets (n + length us) es × AtEnd (n + length us) (length es) x
  vars_fit (s.lets {n = n} {es = es} {x = x} h) =
      let all = lets_fit n h in
      let none : n ≡ n + 0 = omega arith in
      let first : 0 + length es ≡ length es = omega arith in
      (All-nil (λ (u : BType). AreKeys u.keys), all.0, subst (λ j. AtEnd j (length es) x) none (subst (λ j. AtEnd n j x) first all.1))
  vars_fit (s.variable {n = n} {u = u} {us = us} {es = es} {x = x} h rest) =
      let others = vars_fit rest in
      let same : n + 1 + length us ≡ n + suc (length us) = omega arith in
      let keys : AreKeys u.keys = keeps (Gives TypeOf) h.says (all_keep TypeOf tt) (row_proper h.cut) in (
        All-cons (λ (w : BType). AreKeys w.keys) u us keys others.0,
        subst (λ j. FitLets j es) same others.1,
        subst (λ j. AtEnd j (length es) x) same others.2,
      )

goal_fits : (n k : ℕ) {bytes : List ℕ} {e : FExpr} → SpellsGoal n k bytes e → FitsScalar (n + k) e
goal_fits n k (s.goal {e = e} h) = subst (λ j. FitsScalar j e) (in_scope n k) (scalar_fits h.says (row_proper h.cut))

pub spelled_printable : (bytes name : List ℕ) (label : Label) (f : Formula) → SpellsFormula bytes name label f → IsFreeName name × IsPrintableFormula f
spelled_printable bytes name label f h =
    let all = vars_fit SpellsGoal h.lines in
    let zero_more : (n : ℕ) → 0 + n ≡ n = λ n. omega arith in (
      h.free,
      record {
        keys = all.0;
        lets = subst (λ j. FitLets j f.lets) (zero_more (length f.vars)) all.1;
        goal = subst (λ j. FitsScalar (j + length f.lets) f.goal) (zero_more (length f.vars)) (goal_fits (0 + length f.vars) (length f.lets) all.2.spelled);
      },
    )

-- ---- assertions

within_first : (x : List ℕ) (ys : List (List ℕ)) (i : ℕ) (b : Bool) → (if b then Some zero else option_map suc (number_of x ys)) ≡ Some i →
    ((j : ℕ) → number_of x ys ≡ Some j → j < length ys) → i < suc (length ys)
within_first x ys i true h f = let e : zero ≡ i = cc in omega (arith, e)
within_first x ys i false h f =
    let p = map_parts suc (number_of x ys) h in
    let lt = f p.0 p.1 in
    let e : suc p.0 ≡ i = p.2 in
    omega (arith, lt, e)

record Within (n m : ℕ) (a : Fail) : Type 0 where
  behind : n ≤ a.name
  there : a.name < m

fails_fit : (n k : ℕ) {bytes : List ℕ} {fs : List Fail} → SpellsFails n k bytes fs → All (Within n (n + k)) fs
fails_fit n k s.done = All-nil (Within n (n + k))
fails_fit n k (s.fail {word = word} {a = a} {fs = fs} h rest) =
    let lt = number_within word (numbered definition_name 1 k) h.place h.is_there in
    let long = so_many definition_name 1 k in
    let is = h.is in
    All-cons (Within n (n + k)) a fs (record { behind = omega (arith, is); there = omega (arith, is, lt, long) }) (fails_fit n k rest)

pub conditions_printable : (bytes name : List ℕ) (x : Conditions) → SpellsConditions bytes name x → IsFreeName name × IsPrintableConditions x
conditions_printable bytes name x h =
    let all = vars_fit SpellsFails h.lines in
    let n = length x.vars in
    let k = length x.lets in
    let none : 0 + n ≡ n = omega arith in
    let ends = subst (λ j. AtEnd SpellsFails j k x.fails) none all.2 in (
      h.free,
      record {
        keys = all.0;
        lets = subst (λ j. FitLets j x.lets) none all.1;
        fails = All-weaker (Within n (n + k)) (NamesDefinition x) (λ a g. record { behind = g.behind; there = g.there }) x.fails (fails_fit n k ends.spelled);
      },
    )
