-- The variables that names stand for, as the numbers of the core's scopes.
use Rattle.std.proofs.Common.{◌≡◌, ◌∙◌, ◌⊎◌, inl, inr, ◌==◌, ℕ, ◌≤◌, Bool, true, false, cond, Option, Some, List, [], ◌∷◌, ◌++◌, Contains, length, slice_get, refl, sym, ap, subst, arith, append-nil, length-append}
use Rattle.std.specs.Cmp.Lexicographic.{pointwise}
use Rattle.std.proofs.lemmas.List.{length_push}
use Rattle.std.proofs.lemmas.List.Elements.{Contains-append_right}
use Rattle.std.proofs.lemmas.Option.{same_Some}
use Rattle.lemmas.proofs.Lists.{there_left, get_middle}
use Rattle.vb_value.specs.declared.values.Ty.{Ty}
use Rattle.viper_core.specs.Scope as cs
use Rattle.viper_core.specs.Typing as g
use Rattle.viper_syntax.specs.Stmt as s
use Rattle.viper_scope.specs.declared.context.Variable.{Variable}
use Rattle.viper_scope.specs.Context.{Context, find}
use Rattle.viper_scope.specs.Scope.{VariableScope}
use Rattle.viper_types.specs.Frame.{MethodVariables, declared, with_variable, with_hidden, frame_after}
use Rattle.viper_types.proofs.TermTypes.{Describes, Resolves}
use Rattle.viper_types.proofs.Rising.{Rising, rising_push, rising_wider}

-- ---- places in lists

-- the first list goes on as the second
pub record Extends (some all : List Ty) : Type 0 where
  pub at : (n : ℕ) (u : Ty) → slice_get some n ≡ Some u → slice_get all n ≡ Some u

pub extends_less : (some more all : List Ty) → Extends (some ++ more) all → Extends some all
extends_less some more all h = record { at = λ n u i. h.at n u (there_left some more n u i) }

-- ---- scopes

abbrev pub numbers : VariableScope → List ℕ
numbers [] = []
numbers (x ∷ xs) = x.1.number ∷ numbers xs

-- the scope of the core
abbrev pub core_scope : MethodVariables → cs.Scope
core_scope fr = record { visible = numbers fr.scope; fresh = length fr.vars }

-- a variable has its type, and one that is no parameter may be assigned
pub record IsVariable (params : ℕ) (vars : List Ty) (v : Variable) : Type 0 where
  pub typed : slice_get vars v.number ≡ Some v.ty
  pub no_parameter : v.is_parameter ≡ false → params ≤ v.number

abbrev pub AreVariables : ℕ → List Ty → VariableScope → Type 0
AreVariables params vars [] = Unit {0}
AreVariables params vars (x ∷ xs) = IsVariable params vars x.1 × AreVariables params vars xs

pub record IsSound (params : ℕ) (fr : MethodVariables) : Type 0 where
  pub variables : AreVariables params fr.vars fr.scope
  pub rising : Rising 0 (length fr.vars) (numbers fr.scope)
  pub params_first : params ≤ length fr.vars

pub variables_stay : (params : ℕ) (vars more : List Ty) (sc : VariableScope) → AreVariables params vars sc → AreVariables params (vars ++ more) sc
variables_stay params vars more [] h = tt
variables_stay params vars more (x ∷ xs) h =
    (record { typed = there_left vars more x.1.number x.1.ty h.0.typed; no_parameter = h.0.no_parameter }, variables_stay params vars more xs h.1)

pub variables_push : (params : ℕ) (vars : List Ty) (sc : VariableScope) (x : List ℕ × Variable) → AreVariables params vars sc → IsVariable params vars x.1 →
    AreVariables params vars (sc ++ x ∷ [])
variables_push params vars [] x h i = (i, tt)
variables_push params vars (y ∷ ys) x h i = (h.0, variables_push params vars ys x h.1 i)

pub numbers_push : (sc : VariableScope) (x : List ℕ × Variable) → numbers (sc ++ x ∷ []) ≡ numbers sc ++ x.1.number ∷ []
numbers_push [] x = refl
numbers_push (y ∷ ys) x = ap (λ ns. y.1.number ∷ ns) (numbers_push ys x)

pub same_scope : {ns ms : List ℕ} {n m : ℕ} → ns ≡ ms → n ≡ m → ◌≡◌ {A = cs.Scope} (record { visible = ns; fresh = n }) (record { visible = ms; fresh = m })
same_scope {ns} {ms} {n} {m} h i =
    ap (λ ks. let sc : cs.Scope = record { visible = ks; fresh = n } in sc) h ∙ ap (λ k. let sc : cs.Scope = record { visible = ms; fresh = k } in sc) i

-- ---- one more variable

pub sound_variable : (params : ℕ) (fr : MethodVariables) (x : List ℕ) (u : Ty) (is_parameter : Bool) → IsSound params fr →
    IsSound params (with_variable fr x u is_parameter)
sound_variable params fr x u is_parameter h = record {
  variables =
      variables_push params (fr.vars ++ u ∷ []) fr.scope (x, record { number = length fr.vars; ty = u; is_parameter = is_parameter })
      (variables_stay params fr.vars (u ∷ []) fr.scope h.variables) (record { typed = get_middle fr.vars u []; no_parameter = λ i. h.params_first });
  rising =
      rw (length_push fr.vars u, numbers_push fr.scope (x, record { number = length fr.vars; ty = u; is_parameter = is_parameter }))
      (rising_push 0 (length fr.vars) (numbers fr.scope) h.rising);
  params_first = omega (arith, length_push fr.vars u, h.params_first);
}

pub declared_scope : (fr : MethodVariables) (x : List ℕ) (u : Ty) (is_parameter : Bool) →
    core_scope (with_variable fr x u is_parameter) ≡ cs.declared (core_scope fr)
declared_scope fr x u is_parameter = same_scope (numbers_push fr.scope (x, record { number = length fr.vars; ty = u; is_parameter = is_parameter })) (length_push fr.vars u)

-- ---- hidden variables

pub sound_hidden : (params : ℕ) (fr : MethodVariables) (us : List Ty) → IsSound params fr → IsSound params (with_hidden fr us)
sound_hidden params fr us h =
    let le : length fr.vars ≤ length (fr.vars ++ us) = omega (arith, length-append fr.vars us) in
    record {
      variables = variables_stay params fr.vars us fr.scope h.variables;
      rising = rising_wider 0 (length fr.vars) (length (fr.vars ++ us)) (numbers fr.scope) le h.rising;
      params_first = omega (arith, le, h.params_first);
    }

pub hidden_scope : (fr : MethodVariables) (us : List Ty) (inner : cs.Scope) → inner.fresh ≡ length (fr.vars ++ us) →
    cs.after_block (core_scope fr) inner ≡ core_scope (with_hidden fr us)
hidden_scope fr us inner h = same_scope refl h

-- ---- what names stand for

first_or_later : {X : Type 0} (b : Bool) (x z : X) (o : Option X) → cond b (Some x) o ≡ Some z → (x ≡ z) ⊎ (o ≡ Some z)
first_or_later true x z o h = inl (same_Some _ _ h)
first_or_later false x z o h = inr h

contains_first : (n : ℕ) (ns : List ℕ) → Contains (n ∷ ns) n
contains_first n ns = (0, omega arith, refl)

pub found : (params : ℕ) (vars : List Ty) (sc : VariableScope) (x : List ℕ) (v : Variable) → AreVariables params vars sc → find sc x ≡ Some v →
    Contains (numbers sc) v.number × IsVariable params vars v
found params vars [] x v h i = absurd (cc)
found params vars (y ∷ ys) x v h i =
    elim (first_or_later (pointwise ◌==◌ x y.0) y.1 v (find ys x) i) [
      | inl is ↦ subst (λ (w : Variable). Contains (numbers (y ∷ ys)) w.number × IsVariable params vars w) is (contains_first y.1.number (numbers ys), h.0)
      | inr later ↦ let rest = found params vars ys x v h.1 later in (Contains-append_right (y.1.number ∷ []) (numbers ys) v.number rest.0, rest.1)
    ]

-- names in the body of a method
pub resolves : (k : Context) (m : g.MethodContext) (fr : MethodVariables) → Describes k.world k.bodies m.program → IsSound m.params fr → Extends fr.vars m.vars →
    Resolves k fr.scope (g.inside m (core_scope fr))
resolves k m fr z h more = record {
  declarations = z;
  variable = λ x v i. let is = found m.params fr.vars fr.scope x v h.variables i in (is.0, more.at v.number v.ty is.1.typed);
  old = λ i. refl;
  forms = λ i. refl;
}

-- ---- after a statement

pub vars_after : (fr : MethodVariables) (a : s.SStmt) → (frame_after fr a).vars ≡ fr.vars ++ declared a
vars_after fr (s.Var at f rhs) = refl
vars_after fr (s.Assign xs rhs) = sym (append-nil fr.vars)
vars_after fr (s.CallTo xs call) = sym (append-nil fr.vars)
vars_after fr (s.Call call) = sym (append-nil fr.vars)
vars_after fr (s.Check w at a) = sym (append-nil fr.vars)
vars_after fr (s.Fold f) = sym (append-nil fr.vars)
vars_after fr (s.Unfold f) = sym (append-nil fr.vars)
vars_after fr (s.If arms other) = refl
vars_after fr (s.While at a is b) = refl

pub sound_after : (params : ℕ) (fr : MethodVariables) (a : s.SStmt) → IsSound params fr → IsSound params (frame_after fr a)
sound_after params fr (s.Var at f rhs) h = sound_variable params fr _ _ _ h
sound_after params fr (s.Assign xs rhs) h = h
sound_after params fr (s.CallTo xs call) h = h
sound_after params fr (s.Call call) h = h
sound_after params fr (s.Check w at a) h = h
sound_after params fr (s.Fold f) h = h
sound_after params fr (s.Unfold f) h = h
sound_after params fr (s.If arms other) h = sound_hidden params fr _ h
sound_after params fr (s.While at a is b) h = sound_hidden params fr _ h
