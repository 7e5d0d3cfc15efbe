-- The parts of a statement over numbered variables: its targets, a call, a creation, a place, the instance of a fold.
use Rattle.std.proofs.Common.{◌≡◌, ◌≢◌, ◌∙◌, ◌==◌, ℕ, ◌+◌, ◌<◌, true, false, Some, List, [], ◌∷◌, ◌++◌, All, AllPairs, Contains, length, slice_get, get_or, refl, sym, ap, subst, arith}
use Rattle.std.specs.List.{filter, range_with_len}
use Rattle.std.proofs.lemmas.Bool.{ne_eqb, eq-eqb}
use Rattle.std.proofs.lemmas.List.Elements.{All-cons, All-nil, All-contains}
use Rattle.std.proofs.lemmas.List.FromFn.{length-range_with_len, get_or-range_with_len}
use Rattle.std.proofs.lemmas.Option.{slice_get_within}
use Rattle.viper_types.proofs.BodyLaws.{some_body}
use Rattle.lemmas.proofs.Lists.{all_left, all_right}
use Rattle.vb_value.specs.Value.{same_type}
use Rattle.vb_value.specs.declared.values.Ty.{Ty}
use Rattle.vb_value.specs.declared.values.Ty.TheVariants as ty
use Rattle.viper_core.specs.Program as p
use Rattle.viper_core.specs.Scope as cs
use Rattle.viper_core.specs.Stmt as c
use Rattle.viper_core.specs.Typing as g
use Rattle.viper_core.specs.Typing.{HasType, HaveTypes}
use Rattle.viper_syntax.specs.Term as t
use Rattle.viper_syntax.specs.Stmt as s
use Rattle.viper_syntax.specs.declared.stmts.Named.{Named}
use Rattle.viper_scope.specs.Context.{World, Context, field_at}
use Rattle.viper_syntax.specs.Good.{HasLiterals, amount_terms}
use Rattle.viper_scope.specs.Scope.{VariableScope, ref_variables}
use Rattle.viper_types.specs.Typing.{Located}
use Rattle.viper_types.specs.Frame.{MethodVariables}
use Rattle.viper_types.specs.Stepping.{AssignedVariable, numbers_in}
use Rattle.viper_types.specs.Stepped as r
use Rattle.viper_types.proofs.TermTypes.{Describes, Resolves, has_type, have_types, permission_has_type}
use Rattle.viper_types.proofs.GoodLists.{have_literals, amount_has_literals}
use Rattle.viper_types.proofs.Differ.{differ_none, one_differs}
use Rattle.viper_types.proofs.Rising.{Rising, rising_bounds}
use Rattle.viper_types.proofs.Scopes.{Extends, numbers, core_scope, AreVariables, IsSound, found, resolves}

-- a frame over names, within a method of the program
pub record Stands (k : Context) (m : g.MethodContext) (fr : MethodVariables) : Type 0 where
  pub declarations : Describes k.world k.bodies m.program
  pub sound : IsSound m.params fr
  pub extends : Extends fr.vars m.vars

pub names_in : {k : Context} {m : g.MethodContext} {fr : MethodVariables} → Stands k m fr → Resolves k fr.scope (g.inside m (core_scope fr))
names_in {k} {m} {fr} z = resolves k m fr z.declarations z.sound z.extends

-- ---- targets

pub target_is : {k : Context} {m : g.MethodContext} {fr : MethodVariables} {x : Named} {v : AssignedVariable} → Stands k m fr → r.IsTarget fr.scope x v →
    g.IsTarget m (core_scope fr) v.number v.ty
target_is {m = m} {fr = fr} {x = x} z (r.target {v = v} i free) =
    let is = found m.params fr.vars fr.scope x.name v z.sound.variables i in
    record { visible = is.0; no_parameter = is.1.no_parameter free; typed = z.extends.at v.number v.ty is.1.typed }

abbrev pub types_in : List AssignedVariable → List Ty
types_in [] = []
types_in (v ∷ vs) = v.ty ∷ types_in vs

pub takes : {vs : List AssignedVariable} {us : List Ty} → r.TakeReturns vs us → types_in vs ≡ us
takes r.no_returns = refl
takes (r.one_return {v = v} h) = ap (λ us. v.ty ∷ us) (takes h)

pub record Takes (m : g.MethodContext) (sc : cs.Scope) (vs : List AssignedVariable) : Type 0 where
  pub targets : g.AreTargets m sc (numbers_in vs) (types_in vs)
  pub differ : AllPairs (λ x y. x ≢ y) (numbers_in vs)

targets_are : {k : Context} {m : g.MethodContext} {fr : MethodVariables} {xs : List Named} {vs : List AssignedVariable} → Stands k m fr → r.AreTargets fr.scope xs vs →
    g.AreTargets m (core_scope fr) (numbers_in vs) (types_in vs)
targets_are z r.no_more = g.nothing
targets_are z (r.one_more h hs) = g.also (target_is z h) (targets_are z hs)

pub take_targets : {k : Context} {m : g.MethodContext} {fr : MethodVariables} {xs : List Named} {vs : List AssignedVariable} → Stands k m fr → r.AreTargets fr.scope xs vs →
    AllPairs (λ x y. x ≢ y) (numbers_in vs) →
    Takes m (core_scope fr) vs
take_targets z h d = record { targets = targets_are z h; differ = d }

pub no_targets : {m : g.MethodContext} {sc : cs.Scope} → Takes m sc []
no_targets = record { targets = g.nothing; differ = differ_none }

pub one_target : {m : g.MethodContext} {sc : cs.Scope} (v : AssignedVariable) → g.IsTarget m sc v.number v.ty → Takes m sc (v ∷ [])
one_target v i = record { targets = g.also i g.nothing; differ = one_differs v.number }

pub received : {m : g.MethodContext} {sc : cs.Scope} {vs : List AssignedVariable} → Takes m sc vs → g.Receive m sc (numbers_in vs) (types_in vs)
received h = g.assigned h.targets h.differ

-- ---- the scope after targets

rising_all : (low high : ℕ) (xs : List ℕ) → Rising low high xs → All (λ x. x < high) xs
rising_all low high [] h = All-nil (λ x. x < high)
rising_all low high (x ∷ xs) h =
    All-cons (λ y. y < high) x xs (omega (arith, rising_bounds (x + 1) high xs h.1)) (rising_all (x + 1) high xs h.1)

pub visible_below : (params : ℕ) (fr : MethodVariables) (x : ℕ) → IsSound params fr → Contains (numbers fr.scope) x → x < length fr.vars
visible_below params fr x h seen =
    All-contains (λ y. y < length fr.vars) (numbers fr.scope) x (rising_all 0 (length fr.vars) (numbers fr.scope) h.rising) seen

pub stays : (params : ℕ) (fr : MethodVariables) (x : ℕ) → IsSound params fr → Contains (numbers fr.scope) x → cs.after_target (core_scope fr) x ≡ core_scope fr
stays params fr x h seen =
    let other : (x == length fr.vars) ≡ false = ne_eqb x (length fr.vars) (λ is. omega (arith, is, visible_below params fr x h seen)) in
    rw other refl

pub all_stay : {m : g.MethodContext} (params : ℕ) (fr : MethodVariables) {xs : List ℕ} {us : List Ty} → IsSound params fr → g.AreTargets m (core_scope fr) xs us →
    cs.after_targets (core_scope fr) xs ≡ core_scope fr
all_stay params fr h g.nothing = refl
all_stay params fr h (g.also {x = x} {xs = xs} i rest) =
    ap (λ sc. cs.after_targets sc xs) (stays params fr x h i.visible) ∙ all_stay params fr h rest

pub declares : (sc : cs.Scope) (x : ℕ) → x ≡ sc.fresh → cs.after_target sc x ≡ cs.declared sc
declares sc x is = let same : (x == sc.fresh) ≡ true = eq-eqb x sc.fresh is in rw same refl

-- ---- calls

pub call_is : {k : Context} {m : g.MethodContext} {fr : MethodVariables} {at : _} {vs : List AssignedVariable} {call : s.SCall} {x : c.Stmt} → Stands k m fr →
    r.IsCall k fr.scope at vs call x → All HasLiterals call.args → g.Receive m (core_scope fr) (numbers_in vs) (types_in vs) →
    g.IsStmt m (core_scope fr) x
call_is {m = m} {fr = fr} {vs = vs} {call = call} z (r.call_of {n = n} {m = types} {es = es} i args into) l taken =
    let callee = z.declarations.method call.name.name n types i in
    g.calls callee.method callee.there
    (subst (λ us. HaveTypes (g.inside m (core_scope fr)) es us) (sym callee.params) (have_types (names_in z) args (have_literals call.args l)))
    (subst (λ us. g.Receive m (core_scope fr) (numbers_in vs) us) (takes into ∙ sym callee.returns) taken)

pub call_scope : {k : Context} {sc : VariableScope} {at : _} {vs : List AssignedVariable} {call : s.SCall} {x : c.Stmt} (outer : cs.Scope) → r.IsCall k sc at vs call x →
    cs.scope_after outer x ≡ cs.after_targets outer (numbers_in vs)
call_scope outer (r.call_of i args into) = refl

-- ---- creations

numbered_field : (w : World) (bodies : _) (q : p.Program) (f : List ℕ) (n : ℕ) (u : Ty) → Describes w bodies q → field_at w f ≡ Some (n, u) → n < length q.fields
numbered_field w bodies q f n u z i = omega (arith, slice_get_within q.layout.fields n u (z.field f n u i), z.layout_fields)

fields_exist : (k : Context) {q : p.Program} {fs : List Named} {ns : List ℕ} → Describes k.world k.bodies q → r.AreFields k.world fs ns →
    All (λ x. x < length q.fields) ns
fields_exist k {q = q} z r.no_fields = All-nil (λ x. x < length q.fields)
fields_exist k {q = q} z (r.one_field {f = f} {n = n} {u = u} {ns = ns} i h) =
    All-cons (λ x. x < length q.fields) n ns (numbered_field k.world k.bodies q f.name n u z i) (fields_exist k z h)

all_fields : (q : p.Program) (n : ℕ) → n ≡ length q.fields → g.AreFields q (range_with_len 0 n)
all_fields q n is = record {
  exist = λ i d lt.
      let lt' : i < n = omega (arith, lt, length-range_with_len 0 n) in
      let at : get_or (range_with_len 0 n) i d ≡ 0 + i = get_or-range_with_len 0 n i d lt' in
      omega (arith, at, lt', is);
  differ = λ i j d lt lt' same.
      let le : j < n = omega (arith, lt', length-range_with_len 0 n) in
      let one : get_or (range_with_len 0 n) i d ≡ 0 + i = get_or-range_with_len 0 n i d (omega (arith, lt, le)) in
      let two : get_or (range_with_len 0 n) j d ≡ 0 + j = get_or-range_with_len 0 n j d le in
      omega (arith, lt, one, two, same);
}

chosen : (k : Context) {q : p.Program} {new : s.SNew} {ns : List ℕ} → Describes k.world k.bodies q → r.ChoosesFields k.world new ns → g.AreFields q ns
chosen k {q = q} z (r.every i) = all_fields q (length k.world.fields) z.world_fields
chosen k z (r.named i h d) = record { exist = fields_exist k z h; differ = d }

is_ref_type : (u : Ty) → cs.is_ref (Some u) ≡ same_type u ty.Ref
is_ref_type ty.Int = refl
is_ref_type ty.Bool = refl
is_ref_type ty.Ref = refl
is_ref_type ty.Perm = refl

same_refs : (params : ℕ) (vars all : List Ty) (sc : VariableScope) → AreVariables params vars sc → Extends vars all →
    ref_variables sc ≡ filter (λ x. cs.is_ref (slice_get all x)) (numbers sc)
same_refs params vars all [] h more = refl
same_refs params vars all (x ∷ xs) h more =
    let test : cs.is_ref (slice_get all x.1.number) ≡ same_type x.1.ty ty.Ref = ap cs.is_ref (more.at x.1.number x.1.ty h.0.typed) ∙ is_ref_type x.1.ty in
    rw (test, same_refs params vars all xs h.1 more) refl

pub new_is : {k : Context} {m : g.MethodContext} {fr : MethodVariables} {at : _} {n : ℕ} {new : s.SNew} {x : c.Stmt} → Stands k m fr →
    r.IsNew k.world fr.scope at n new x → g.Receive m (core_scope fr) (n ∷ []) (ty.Ref ∷ []) →
    g.IsStmt m (core_scope fr) x
new_is {k} {m} {fr} z (r.new_of h) taken =
    g.creates taken (chosen k z.declarations h) (same_refs m.params fr.vars m.vars fr.scope z.sound.variables z.extends)

pub new_scope : {w : World} {sc : VariableScope} {at : _} {n : ℕ} {new : s.SNew} {x : c.Stmt} (outer : cs.Scope) → r.IsNew w sc at n new x →
    cs.scope_after outer x ≡ cs.after_target outer n
new_scope outer (r.new_of h) = refl

-- ---- places

pub record IsPlaceOf (c : g.Context) (l : Located) : Type 0 where
  pub receiver : HasType c l.receiver ty.Ref
  pub field : slice_get c.program.layout.fields l.field ≡ Some l.ty

pub place_is : {k : Context} {sc : VariableScope} {c : g.Context} {a : t.Term} {f : Named} {fs : List Named} {l : Located} → Resolves k sc c → r.IsPlace k sc a f fs l →
    HasLiterals a →
    IsPlaceOf c l
place_is z (r.of_field {f = f} {n = n} {u = u} h i) l = record { receiver = has_type z h l; field = z.declarations.field f.name n u i }
place_is z (r.of_further h) l = place_is z h l

-- ---- instances

pub fold_is : {k : Context} {sc : VariableScope} {ctx : g.Context} {f : s.SFold} {x : c.FoldStmt} → Resolves k sc ctx → r.IsFold k sc f x →
    All HasLiterals (f.call.args ++ amount_terms f.amount) →
    g.IsFold ctx x
fold_is {ctx = ctx} {f = f} z (r.fold_of {n = n} {p = s} {es = es} i has_body args m) l =
    let d = z.declarations.predicate f.call.name.name n s i in
    let body = some_body d.predicate.body (sym d.has_body ∙ has_body) in
    record {
      predicate = d.predicate;
      body = body.0;
      exists = d.there;
      has_body = body.1;
      args =
          subst (λ us. HaveTypes ctx es us) (sym d.params)
          (have_types z args (have_literals f.call.args (all_left HasLiterals f.call.args (amount_terms f.amount) l)));
      amount = permission_has_type z m (amount_has_literals f.amount (all_right HasLiterals f.call.args (amount_terms f.amount) l));
    }
