-- The variables that formals are: they are numbered in order, from the first on.
use Rattle.std.proofs.Common.{◌≡◌, ◌≢◌, ◌∙◌, ◌||◌, ℕ, zero, suc, ◌+◌, ◌≤◌, Bool, true, false, not, List, [], ◌∷◌, ◌++◌, Contains, length, map, sym, ap, subst, arith, append_assoc, append-nil}
use Rattle.std.specs.List.{AllByRecursion, range_with_len}
use Rattle.std.proofs.lemmas.List.{length_push}
use Rattle.lemmas.proofs.Lists.{get_middle}
use Rattle.vb_value.specs.Value.{same_type}
use Rattle.vb_value.specs.declared.values.Ty.{Ty}
use Rattle.vb_value.specs.declared.values.Ty.TheVariants as ty
use Rattle.viper_core.specs.Formed.{below}
use Rattle.viper_core.specs.Typing as g
use Rattle.viper_syntax.specs.declared.stmts.Formal.{Formal}
use Rattle.viper_scope.specs.Context.{Context, allows_old, allows_permission_forms}
use Rattle.viper_scope.specs.Types.{declared_type}
use Rattle.viper_types.specs.Frame.{MethodVariables}
use Rattle.viper_types.specs.Program.{AreFormals, no_formals, one_formal}
use Rattle.viper_types.proofs.TermTypes.{Describes, Resolves}
use Rattle.viper_types.proofs.Rising.{Rising}
use Rattle.viper_types.proofs.Scopes.{Extends, AreVariables, numbers, numbers_push, variables_stay, variables_push, found}
use Rattle.viper_types.proofs.StmtTypes.{type_is}

-- ---- numbers in order

pub range_push : (a n m : ℕ) → m ≡ a + n → range_with_len a n ++ m ∷ [] ≡ range_with_len a (suc n)
range_push a zero m is = let first : m ≡ a = omega (arith, is) in ap (λ k. k ∷ []) first
range_push a (suc n) m is = ap (λ ks. a ∷ ks) (range_push (a + 1) n m (omega (arith, is)))

rising_range : (a n m : ℕ) → m ≡ a + n → Rising a m (range_with_len a n)
rising_range a zero m is = omega (arith, is)
rising_range a (suc n) m is = (omega arith, rising_range (a + 1) n m (omega (arith, is)))

pub rising_below : (n : ℕ) → Rising 0 n (below n)
rising_below n = rising_range 0 n n (omega arith)

-- ---- formals

pub formals_vars : {allows_perm is_parameter : Bool} {fr gr : MethodVariables} {fs : List Formal} → AreFormals allows_perm is_parameter fr fs gr →
    gr.vars ≡ fr.vars ++ map declared_type fs
formals_vars (no_formals {fr = fr}) = sym (append-nil fr.vars)
formals_vars (one_formal {fr = fr} {f = f} {fs = fs} {u = u} new is allowed more) =
    formals_vars more ∙ append_assoc fr.vars (u ∷ []) (map declared_type fs) ∙ ap (λ w. fr.vars ++ w ∷ map declared_type fs) (sym (type_is f u is))

pub formals_numbers : {allows_perm is_parameter : Bool} {fr gr : MethodVariables} {fs : List Formal} → AreFormals allows_perm is_parameter fr fs gr →
    numbers fr.scope ≡ below (length fr.vars) →
    numbers gr.scope ≡ below (length gr.vars)
formals_numbers no_formals h = h
formals_numbers {is_parameter = is_parameter} (one_formal {fr = fr} {f = f} {u = u} new is allowed more) h =
    let n = length fr.vars in
    let count : suc n ≡ length (fr.vars ++ u ∷ []) = omega (arith, length_push fr.vars u) in
    formals_numbers more
    (numbers_push fr.scope (f.name.name, record { number = n; ty = u; is_parameter = is_parameter }) ∙ ap (λ ns. ns ++ n ∷ []) h ∙
    range_push 0 n n (omega arith) ∙ ap below count)

pub formals_are_variables : {allows_perm is_parameter : Bool} {fr gr : MethodVariables} {fs : List Formal} (params : ℕ) →
    AreFormals allows_perm is_parameter fr fs gr → (is_parameter ≡ false → params ≤ length fr.vars) → AreVariables params fr.vars fr.scope →
    AreVariables params gr.vars gr.scope
formals_are_variables params no_formals le h = h
formals_are_variables {is_parameter = is_parameter} params (one_formal {fr = fr} {f = f} {u = u} new is allowed more) le h =
    formals_are_variables params more (λ i. omega (arith, le i, length_push fr.vars u))
    (variables_push params (fr.vars ++ u ∷ []) fr.scope (f.name.name, record { number = length fr.vars; ty = u; is_parameter = is_parameter })
    (variables_stay params fr.vars (u ∷ []) fr.scope h) (record { typed = get_middle fr.vars u []; no_parameter = le }))

not_perm : (u : Ty) → (false || not (same_type u ty.Perm)) ≡ true → u ≢ ty.Perm
not_perm ty.Int h = λ is. absurd (cc)
not_perm ty.Bool h = λ is. absurd (cc)
not_perm ty.Ref h = λ is. absurd (cc)
not_perm ty.Perm h = absurd (cc)

pub formals_no_perm : {is_parameter : Bool} {fr gr : MethodVariables} {fs : List Formal} → AreFormals false is_parameter fr fs gr →
    AllByRecursion (λ u. u ≢ ty.Perm) (map declared_type fs)
formals_no_perm no_formals = tt
formals_no_perm (one_formal {f = f} {u = u} new is allowed more) =
    (subst (λ w. w ≢ ty.Perm) (sym (type_is f u is)) (not_perm u allowed), formals_no_perm more)

-- ---- contexts

pub names_resolve : (params : ℕ) (k : Context) (fr : MethodVariables) (c : g.Context) → Describes k.world k.bodies c.program → AreVariables params fr.vars fr.scope →
    numbers fr.scope ≡ c.visible → Extends fr.vars c.vars → (allows_old k.part ≡ true → g.allows_old c.site ≡ true) →
    (allows_permission_forms k.part ≡ true → g.is_outside_predicates c.site ≡ true) →
    Resolves k fr.scope c
names_resolve params k fr c z h visible more old forms = record {
  declarations = z;
  variable = λ x v i.
      let is = found params fr.vars fr.scope x v h i in (subst (λ ns. Contains ns v.number) visible is.0, more.at v.number v.ty is.1.typed);
  old = old;
  forms = forms;
}

pub extends_itself : (us vs : List Ty) → us ≡ vs → Extends us vs
extends_itself us vs is = subst (λ ws. Extends us ws) is (record { at = λ n u i. i })
