-- What a term is, its typing finds: expressions.
use Rattle.std.proofs.Common.{◌≡◌, ℕ, true, false, Some, None, List, [], ◌∷◌, refl, ap}
use Rattle.vb_base.specs.declared.places.Pos.{Pos}
use Rattle.vb_value.specs.declared.values.Ty.{Ty}
use Rattle.vb_value.specs.declared.values.Ty.TheVariants as ty
use Rattle.viper_core.specs.Expr as e
use Rattle.viper_syntax.specs.Term as t
use Rattle.viper_syntax.specs.declared.tokens.Word.{Word}
use Rattle.viper_syntax.specs.declared.tokens.Word.TheVariants as word
use Rattle.viper_scope.specs.Outcome.{Found}
use Rattle.viper_scope.specs.Context.{Context, field_at}
use Rattle.viper_types.specs.Operators.{literal, is_wildcard_word}
use Rattle.viper_scope.specs.Scope.{VariableScope}
use Rattle.viper_scope.specs.Arguments.{Typing, as_many, misfit, exprs_in}
use Rattle.viper_types.specs.Typing.{typing, typing_all, permission, expected, place, arguments}
use Rattle.viper_types.specs.Typed.{Typed, name, number, constant, negative, negation, binary, choice, field, old, unfolding_in, TypedAll, nothing, also, Permission, full, part}
use Rattle.viper_types.proofs.Tells.{type_is_same, one_found}

pub literal_is_expression : (w : Word) (x : Typing) → literal w ≡ Some x → is_wildcard_word w ≡ false
literal_is_expression word.Wildcard x h = absurd (cc)
literal_is_expression _ x h = refl

-- expressions with the types of their parameters
abbrev pub typings : e.Exprs → List Ty → List Typing
typings e.none us = []
typings (e.more x es) [] = []
typings (e.more x es) (u ∷ us) = (x, u) ∷ typings es us

pub typings_are_as_many : {c : Context} {sc : VariableScope} {args : t.Terms} {es : e.Exprs} {us : List Ty} → TypedAll c sc args es us →
    as_many (typings es us) us ≡ true
typings_are_as_many nothing = refl
typings_are_as_many (also h g) = typings_are_as_many g

pub typings_fit : {c : Context} {sc : VariableScope} {args : t.Terms} {es : e.Exprs} {us : List Ty} → TypedAll c sc args es us →
    misfit args (typings es us) us ≡ None
typings_fit nothing = refl
typings_fit (also {u = u} h g) = rw (type_is_same u) (typings_fit g)

pub exprs_in_typings : {c : Context} {sc : VariableScope} {args : t.Terms} {es : e.Exprs} {us : List Ty} → TypedAll c sc args es us →
    exprs_in (typings es us) ≡ es
exprs_in_typings nothing = refl
exprs_in_typings (also h g) = rw (exprs_in_typings g) refl

mutual
  pub typing_finds : {c : Context} {sc : VariableScope} {a : t.Term} {x : e.Expr} {u : Ty} → Typed c sc a x u → typing c sc a ≡ Found (x, u)
  typing_finds (name i) = rw i refl
  typing_finds number = refl
  typing_finds (constant {w = w} {a = a} {u = u} i) = rw (literal_is_expression w (a, u) i, i) refl
  typing_finds (negative h i) = rw (typing_finds h, i) refl
  typing_finds (negation h) = rw (typing_finds h) refl
  typing_finds (binary h g i k) = rw (typing_finds h, typing_finds g, i, k) refl
  typing_finds (choice {u = u} h g k) = rw (typing_finds h, typing_finds g, typing_finds k, type_is_same u) refl
  typing_finds (field h i) = rw (typing_finds h, i) refl
  typing_finds (old i h) = rw (i, typing_finds h) refl
  typing_finds (unfolding_in {p = p} {args = args} i k l h g j f) =
      rw (i, k, l, typing_all_finds h, typings_are_as_many h, typings_fit h, exprs_in_typings h, permission_finds g, typing_finds f, j) refl

  pub typing_all_finds : {c : Context} {sc : VariableScope} {args : t.Terms} {es : e.Exprs} {us : List Ty} → TypedAll c sc args es us →
      typing_all c sc args ≡ Found (typings es us)
  typing_all_finds nothing = refl
  typing_all_finds (also h g) = rw (typing_finds h, typing_all_finds g) refl

  pub permission_finds : {c : Context} {sc : VariableScope} {m : t.Amount} {x : e.Expr} → Permission c sc m x → permission c sc m ≡ Found x
  permission_finds full = refl
  permission_finds (part h) = rw (typing_finds h) refl

pub expected_finds : {c : Context} {sc : VariableScope} {a : t.Term} {x : e.Expr} {u : Ty} → Typed c sc a x u → expected c sc u a ≡ Found x
expected_finds {u = u} h = rw (typing_finds h, type_is_same u) refl

pub place_finds : {c : Context} {sc : VariableScope} {a : t.Term} {x : e.Expr} {n : ℕ} {u : Ty} (f : List ℕ) (at : Pos) → Typed c sc a x ty.Ref →
    field_at c.world f ≡ Some (n, u) →
    place c sc a f at ≡ Found (record { receiver = x; field = n; ty = u })
place_finds f at h i = rw (typing_finds h, i) refl

pub arguments_finds : {c : Context} {sc : VariableScope} {args : t.Terms} {es : e.Exprs} {us : List Ty} (at : Pos) → TypedAll c sc args es us →
    arguments c sc args us at ≡ Found es
arguments_finds at h = rw (typing_all_finds h, typings_are_as_many h, typings_fit h, exprs_in_typings h) refl

-- an expression has one type, and a term is one expression
pub one_typing : {c : Context} {sc : VariableScope} {a : t.Term} {x y : e.Expr} {u v : Ty} → Typed c sc a x u → Typed c sc a y v → (x ≡ y) × (u ≡ v)
one_typing h g = let same = one_found (typing_finds h) (typing_finds g) in (ap (λ z. z.0) same, ap (λ z. z.1) same)
