-- The code's steps over a whole procedure, and what its conditions and its formula say, over plain variables.
use Rattle.std.proofs.Common.{◌≡◌, ◌∙◌, ◌≤◌, ◌<◌, ◌+◌, ℕ, zero, suc, Some, List, [], ◌∷◌, ◌++◌, map, slice_get, length, get_or, refl, sym, ap, subst, arith, length-append}
use Rattle.lemmas.proofs.Lists.{item_at}
use Rattle.lemmas.proofs.Options.{some_same}
use Rattle.vb_base.specs.declared.labels.Label.{Label}
use Rattle.boogie_tree.specs.Fits.{FitStmts}
use Rattle.boogie_tree.specs.Program as p
use Rattle.boogie_tree.specs.Whole.{proc_of, stmts_of}
use Rattle.boogie_tree.specs.declared.programs.Local.{Local}
use Rattle.boogie_tree.specs.declared.programs.Proc.{Proc}
use Rattle.boogie_tree.specs.declared.stmts.BStmt as stmt
use Rattle.boogie_meaning.specs.Programs.{IsTypedProc}
use Rattle.boogie_formula.specs.Choices.{own_types, slots, variables_of}
use Rattle.boogie_formula.specs.Follows.{AreExact, ConditionsFollow, Follows, IsExact}
use Rattle.boogie_formula.specs.Formula.{Conditions, Formula}
use Rattle.boogie_formula.specs.Printable.{IsPrintableConditions, IsPrintableFormula}
use Rattle.boogie_formula.specs.Types.{IsTypedConditions, IsTypedFormula}
use Rattle.boogie_wp.specs.Build.{ConditionsBuilder, finished, conditions_for, formula_for, started, built}
use Rattle.boogie_wp.specs.View.{types_in}
use Rattle.boogie_wp.proofs.FormulaLaws.{conditions_follow, conditions_typed, follows, formula_typed}
use Rattle.boogie_wp.proofs.PlacedLaws.{are_exact, exact}
use Rattle.boogie_wp.proofs.PrintLaws.{conditions_printable, printable}
use Rattle.boogie_wp.proofs.TotalLaws.{slots_own}

-- ---- steps

pub room_there : (d : Proc) → IsTypedProc (proc_of d) → (vars : List p.BType) → vars ≡ variables_of (proc_of d) → (n next : ℕ) (locals : List Local) (body : List stmt.BStmt) → length vars ≡ n →
    locals ≡ d.locals.items → body ≡ d.body.items → next ≡ length (types_in locals) → next + slots (stmts_of body) ≤ n
room_there d typed vars is n next locals body long locals_is body_is next_is =
    let ls = types_in d.locals.items in
    let xs = stmts_of d.body.items in
    let a : next ≡ length ls = next_is ∙ ap (λ z. length (types_in z)) locals_is in
    let b : slots (stmts_of body) ≡ length (own_types ls xs) = ap (λ z. slots (stmts_of z)) body_is ∙ sym (slots_own typed.body) in
    let c : n ≡ length (ls ++ own_types ls xs) = sym long ∙ ap length is in
    let e = length-append ls (own_types ls xs) in
    omega (arith, a, b, c, e)

pub conditions_are : (d : Proc) (vars : List p.BType) (n : ℕ) (locals : List Local) (body : List stmt.BStmt) (b0 b1 : ConditionsBuilder) → vars ≡ variables_of (proc_of d) → length vars ≡ n →
    locals ≡ d.locals.items → body ≡ d.body.items → b0 ≡ started vars (types_in locals) → b1 ≡ built n (stmts_of body) b0 → finished vars b1 ≡ conditions_for (proc_of d)
conditions_are d vars n locals body b0 b1 is long locals_is body_is start made =
    ap (finished vars) (made ∙ ap (λ z. built n (stmts_of body) z) start)
    ∙ (λ i. finished vars (built ((sym long) i) (stmts_of (body_is i)) (started vars (types_in (locals_is i)))))
    ∙ ap (λ v. finished v (built (length v) (stmts_of d.body.items) (started v (types_in d.locals.items)))) is

-- ---- the procedure of a number

proc_found : (ds : List Proc) (i : ℕ) (d : Proc) → slice_get ds i ≡ Some d → slice_get (map proc_of ds) i ≡ Some (proc_of d)
proc_found [] i d h = absurd (cc)
proc_found (x ∷ ds) zero d h = ap (λ z. Some (proc_of z)) (some_same h)
proc_found (x ∷ ds) (suc i) d h = proc_found ds i d h

length_procs : (ds : List Proc) → length (map proc_of ds) ≡ length ds
length_procs [] = refl
length_procs (d ∷ ds) = ap suc (length_procs ds)

proc_there : (ds : List Proc) (i : ℕ) (d : Proc) → i < length (map proc_of ds) → d ≡ get_or ds i d → slice_get (map proc_of ds) i ≡ Some (proc_of d)
proc_there ds i d lt is = let long = length_procs ds in proc_found ds i d (item_at ds i d (omega (arith, lt, long)) is)

-- it is well-typed where the program is
pub typed_there : (ds : List Proc) (i : ℕ) (d : Proc) → ((j : ℕ) (e : p.Proc) → slice_get (map proc_of ds) j ≡ Some e → IsTypedProc e) → i < length (map proc_of ds) →
    d ≡ get_or ds i d → (slice_get (map proc_of ds) i ≡ Some (proc_of d)) × IsTypedProc (proc_of d)
typed_there ds i d typed within is = let there = proc_there ds i d within is in (there, typed i (proc_of d) there)

-- ---- what its conditions say

module _ (ds : List Proc) (i : ℕ) (d : Proc) (there : slice_get (map proc_of ds) i ≡ Some (proc_of d)) (typed : IsTypedProc (proc_of d)) (x : Conditions)
    (is : x ≡ conditions_for (proc_of d)) where
  this_proc : (e : p.Proc) → slice_get (map proc_of ds) i ≡ Some e → proc_of d ≡ e
  this_proc e h = some_same (sym there ∙ h)

  pub they_are_built : (e : p.Proc) → slice_get (map proc_of ds) i ≡ Some e → x ≡ conditions_for e
  they_are_built e h = subst (λ y. x ≡ conditions_for y) (this_proc e h) is

  pub they_follow : (e : p.Proc) → slice_get (map proc_of ds) i ≡ Some e → ConditionsFollow e x
  they_follow e h = subst (λ y. ConditionsFollow y x) (this_proc e h) (subst (ConditionsFollow (proc_of d)) (sym is) (conditions_follow (proc_of d) typed))

  pub they_are_exact : (e : p.Proc) → slice_get (map proc_of ds) i ≡ Some e → AreExact e x
  they_are_exact e h = subst (λ y. AreExact y x) (this_proc e h) (subst (AreExact (proc_of d)) (sym is) (are_exact (proc_of d) typed))

  pub they_are_typed : IsTypedConditions x
  they_are_typed = subst IsTypedConditions (sym is) (conditions_typed (proc_of d) typed)

  pub they_are_printable : (e : p.Proc) → slice_get (map proc_of ds) i ≡ Some e → FitStmts (length e.locals) e.body → IsPrintableConditions x
  they_are_printable e h fits =
      subst IsPrintableConditions (sym is) (conditions_printable (proc_of d) typed (subst (λ (y : p.Proc). FitStmts (length y.locals) y.body) (sym (this_proc e h)) fits))

-- ---- what its formula says

module _ (ds : List Proc) (i : ℕ) (d : Proc) (there : slice_get (map proc_of ds) i ≡ Some (proc_of d)) (typed : IsTypedProc (proc_of d)) (label : Label) (f : Formula)
    (is : f ≡ formula_for (proc_of d) label) where
  same_proc : (e : p.Proc) → slice_get (map proc_of ds) i ≡ Some e → proc_of d ≡ e
  same_proc e h = some_same (sym there ∙ h)

  pub it_is_built : (e : p.Proc) → slice_get (map proc_of ds) i ≡ Some e → f ≡ formula_for e label
  it_is_built e h = subst (λ x. f ≡ formula_for x label) (same_proc e h) is

  pub it_follows : (e : p.Proc) → slice_get (map proc_of ds) i ≡ Some e → Follows e label f
  it_follows e h = subst (λ x. Follows x label f) (same_proc e h) (subst (Follows (proc_of d) label) (sym is) (follows (proc_of d) label typed))

  pub it_is_exact : (e : p.Proc) → slice_get (map proc_of ds) i ≡ Some e → IsExact e label f
  it_is_exact e h = subst (λ x. IsExact x label f) (same_proc e h) (subst (IsExact (proc_of d) label) (sym is) (exact (proc_of d) label typed))

  pub it_is_typed : IsTypedFormula f
  it_is_typed = subst IsTypedFormula (sym is) (formula_typed (proc_of d) label typed)

  pub it_is_printable : (e : p.Proc) → slice_get (map proc_of ds) i ≡ Some e → FitStmts (length e.locals) e.body → IsPrintableFormula f
  it_is_printable e h fits =
      subst IsPrintableFormula (sym is) (printable (proc_of d) label typed (subst (λ (x : p.Proc). FitStmts (length x.locals) x.body) (sym (same_proc e h)) fits))
