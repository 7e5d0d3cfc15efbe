-- A term that is an expression of a type is so also over resolved names.
use Rattle.std.proofs.Common.{◌≡◌, ℕ, List, true, Option, Some, Contains, length, slice_get, is_some, inl, inr, refl, sym, subst}
use Rattle.std.proofs.lemmas.Option.{same_Some}
use Rattle.vb_value.specs.declared.values.Ty.{Ty}
use Rattle.vb_value.specs.declared.values.Ty.TheVariants as ty
use Rattle.viper_core.specs.Expr as e
use Rattle.viper_core.specs.Program as p
use Rattle.viper_core.specs.Typing as g
use Rattle.viper_core.specs.Typing.{HasType, HaveTypes, IsAssertion, params_of, returns_of}
use Rattle.viper_syntax.specs.Term as t
use Rattle.viper_syntax.specs.declared.tokens.Word.{Word}
use Rattle.viper_syntax.specs.declared.tokens.Word.TheVariants as word
use Rattle.viper_scope.specs.declared.context.Variable.{Variable}
use Rattle.viper_scope.specs.Context.{World, Context, Signature, MethodSignature, find, field_at, predicate_at, method_at, allows_old, allows_permission_forms}
use Rattle.viper_types.specs.Operators.{literal}
use Rattle.viper_syntax.specs.Good.{HasLiterals, AmountHasLiterals, HaveLiterals}
use Rattle.viper_scope.specs.Scope.{VariableScope}
use Rattle.viper_types.specs.Typed as r
use Rattle.viper_types.specs.Typed.{Typed, TypedAll, Permission, IsAmount, IsInstance, Asserts}

-- the program has a predicate of this signature at this number
pub record HasPredicate (q : p.Program) (n : ℕ) (s : Signature) : Type 0 where
  pub predicate : p.Predicate
  pub there : slice_get q.predicates n ≡ Some predicate
  pub params : predicate.params ≡ s.params
  pub has_body : s.has_body ≡ is_some predicate.body

-- and a method of this one
pub record HasMethod (q : p.Program) (n : ℕ) (s : MethodSignature) : Type 0 where
  pub method : p.Method
  pub there : slice_get q.methods n ≡ Some method
  pub params : params_of method ≡ s.params
  pub returns : returns_of method ≡ s.returns

-- what names stand for is what the program has
pub record Describes (w : World) (bodies : List (Option e.Assertion)) (q : p.Program) : Type 0 where
  pub field : (x : List ℕ) (n : ℕ) (u : Ty) → field_at w x ≡ Some (n, u) → slice_get q.layout.fields n ≡ Some u
  pub predicate : (x : List ℕ) (n : ℕ) (s : Signature) → predicate_at w x ≡ Some (n, s) → HasPredicate q n s
  pub method : (x : List ℕ) (n : ℕ) (s : MethodSignature) → method_at w x ≡ Some (n, s) → HasMethod q n s
  pub body :
      (n : ℕ) (b : e.Assertion) (d : p.Predicate) → slice_get bodies n ≡ Some (Some b) → slice_get q.predicates n ≡ Some d → d.body ≡ Some b
  pub world_fields : length w.fields ≡ length q.fields
  pub layout_fields : length q.layout.fields ≡ length q.fields

-- a context over names, and the same over numbers
pub record Resolves (k : Context) (sc : VariableScope) (c : g.Context) : Type 0 where
  pub declarations : Describes k.world k.bodies c.program
  pub variable : (x : List ℕ) (v : Variable) → find sc x ≡ Some v → Contains c.visible v.number × (slice_get c.vars v.number ≡ Some v.ty)
  pub old : allows_old k.part ≡ true → g.allows_old c.site ≡ true
  pub forms : allows_permission_forms k.part ≡ true → g.is_outside_predicates c.site ≡ true

literal_typed : (c : g.Context) (w : Word) (x : e.Expr × Ty) → literal w ≡ Some x → HasType c x.0 x.1
literal_typed c word.True x h = subst (λ z. HasType c z.0 z.1) (same_Some _ _ h) g.truth
literal_typed c word.False x h = subst (λ z. HasType c z.0 z.1) (same_Some _ _ h) g.truth
literal_typed c word.Null x h = subst (λ z. HasType c z.0 z.1) (same_Some _ _ h) g.null
literal_typed c word.Write x h = subst (λ z. HasType c z.0 z.1) (same_Some _ _ h) (g.part (inr refl))
literal_typed c word.None x h = subst (λ z. HasType c z.0 z.1) (same_Some _ _ h) (g.part (inl refl))
literal_typed c _ x h = absurd (cc)

mutual
  pub has_type : {k : Context} {sc : VariableScope} {c : g.Context} {a : t.Term} {x : e.Expr} {u : Ty} → Resolves k sc c → Typed k sc a x u →
      HasLiterals a →
      HasType c x u
  has_type z (r.name {x = x} {v = v} i) l = let seen = z.variable x v i in g.variable seen.0 seen.1
  has_type z r.number l = g.literal l
  has_type {c = c} z (r.constant {w = w} {a = a} {u = u} i) l = literal_typed c w (a, u) i
  has_type z (r.negative h i) l = g.negative (has_type z h l) i
  has_type z (r.negation h) l = g.negation (has_type z h l)
  has_type z (r.binary h h' i is) l = g.binary (has_type z h l.0) (has_type z h' l.1) is
  has_type z (r.choice h h' h2) l = g.choice (has_type z h l.0) (has_type z h' l.1) (has_type z h2 l.2)
  has_type z (r.field {f = f} {n = n} {u = u} h i) l = g.field (has_type z h l) (z.declarations.field f n u i)
  has_type z (r.old i h) l = g.old (z.old i) (has_type z h l)
  has_type {c = c} z (r.unfolding_in {p = x} {n = n} {s = s} {es = es} {body = body} allowed i has_body args m there inner) l =
      let d = z.declarations.predicate x n s i in
      g.unfolded (z.forms allowed) (g.opens d.predicate d.there (z.declarations.body n body d.predicate there d.there)
      (subst (λ us. HaveTypes c es us) (sym d.params) (have_types z args l.0)) (permission_has_type z m l.1) (has_type z inner l.2))

  pub have_types : {k : Context} {sc : VariableScope} {c : g.Context} {args : t.Terms} {es : e.Exprs} {us : List Ty} → Resolves k sc c →
      TypedAll k sc args es us → HaveLiterals args →
      HaveTypes c es us
  have_types z r.nothing l = g.nothing
  have_types z (r.also h hs) l = g.also (has_type z h l.0) (have_types z hs l.1)

  pub permission_has_type : {k : Context} {sc : VariableScope} {c : g.Context} {m : t.Amount} {x : e.Expr} → Resolves k sc c → Permission k sc m x →
      AmountHasLiterals m →
      HasType c x ty.Perm
  permission_has_type z r.full l = g.part (inr refl)
  permission_has_type z (r.part h) l = has_type z h l

amount_typed : {k : Context} {sc : VariableScope} {c : g.Context} {m : t.Amount} {x : e.Amt} → Resolves k sc c → IsAmount k sc m x →
    AmountHasLiterals m →
    g.IsAmount c x
amount_typed z (r.fixed h) l = g.amount (permission_has_type z h l)
amount_typed z (r.wildcard i) l = g.wildcard (z.forms i)

instance_typed : {k : Context} {sc : VariableScope} {c : g.Context} {x : List ℕ} {args : t.Terms} {m : t.Amount} {at : _} {y : e.Assertion} →
    Resolves k sc c → IsInstance k sc x args m at y → HaveLiterals args → AmountHasLiterals m →
    IsAssertion c y
instance_typed {c = c} z (r.of_predicate {p = x} {n = n} {s = s} {es = es} i args m) l l' =
    let d = z.declarations.predicate x n s i in
    g.instance d.predicate d.there (subst (λ us. HaveTypes c es us) (sym d.params) (have_types z args l)) (amount_typed z m l')

pub is_assertion : {k : Context} {sc : VariableScope} {c : g.Context} {a : t.Term} {x : e.Assertion} → Resolves k sc c → Asserts k sc a x →
    HasLiterals a →
    IsAssertion c x
is_assertion z (r.fact i h) l = g.fact (has_type z h l)
is_assertion z (r.and h h') l = g.both (is_assertion z h l.0) (is_assertion z h' l.1)
is_assertion z (r.implies h h') l = g.implied (has_type z h l.0) (is_assertion z h' l.1)
is_assertion z (r.choice h h' h2) l = g.chosen (has_type z h l.0) (is_assertion z h' l.1) (is_assertion z h2 l.2)
is_assertion z (r.access {f = f} {n = n} {u = u} h i m) l = g.access (has_type z h l.0) (z.declarations.field f n u i) (amount_typed z m l.1)
is_assertion z (r.instance h) l = instance_typed z h l tt
is_assertion z (r.access_to_instance h) l = instance_typed z h l.0 l.1
