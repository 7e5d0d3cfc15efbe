-- What a term is typed in: the declarations of its file, the part of a unit that it stands in, and the variables that it sees.
use Rattle.std.specs.Prelude.{ℕ, ◌==◌, Bool, true, false, Option, Some, None, List, slice_get}
use Rattle.std.proofs.Common.{lit≤, lit<}
use Rattle.std.specs.Map.{lookup}
use Rattle.std.specs.Cmp.Lexicographic.{pointwise}
use Rattle.vb_base.specs.declared.places.Pos.{Pos}
use Rattle.vb_value.specs.declared.values.Ty.{Ty}
use Rattle.viper_core.specs.Expr.{Assertion, Fact, Bool as Truth}
use Rattle.viper_scope.specs.declared.context.UnitPart.{UnitPart}
use Rattle.viper_scope.specs.declared.context.UnitPart.TheVariants.{Body, Precondition, Elsewhere}
use Rattle.viper_scope.specs.declared.context.Role.{Role}
use Rattle.viper_scope.specs.declared.context.Role.TheVariants as role

-- a predicate's parameters, and whether it has a body
pub record Signature : Type 0 where
  pub params : List Ty
  pub has_body : Bool

-- a method's parameters and returns
pub record MethodSignature : Type 0 where
  pub params : List Ty
  pub returns : List Ty

-- the declarations of a file: what each name of the shared space stands for, and each kind in the order of its numbers
pub record World : Type 0 where
  pub roles : List (List ℕ × Role)
  pub fields : List Ty
  pub predicates : List Signature
  pub methods : List MethodSignature

-- the declarations, the typed bodies of the predicates, and the part of a unit
pub record Context : Type 0 where
  pub world : World
  pub bodies : List (Option Assertion)
  pub part : UnitPart

-- what a name stands for in a table: the first entry of the name
abbrev pub find : {X : Type 0} → List (List ℕ × X) → List ℕ → Option X
find entries x = lookup (pointwise ◌==◌ x) entries

abbrev pub numbered : {X : Type 0} → ℕ → Option X → Option (ℕ × X)
numbered n None = None
numbered n (Some x) = Some (n, x)

abbrev pub field_in : List Ty → Option Role → Option (ℕ × Ty)
field_in types None = None
field_in types (Some (role.Field n)) = numbered n (slice_get types n)
field_in types (Some (role.Predicate n)) = None
field_in types (Some (role.Method n)) = None

abbrev pub predicate_in : List Signature → Option Role → Option (ℕ × Signature)
predicate_in signatures None = None
predicate_in signatures (Some (role.Field n)) = None
predicate_in signatures (Some (role.Predicate n)) = numbered n (slice_get signatures n)
predicate_in signatures (Some (role.Method n)) = None

abbrev pub method_in : List MethodSignature → Option Role → Option (ℕ × MethodSignature)
method_in signatures None = None
method_in signatures (Some (role.Field n)) = None
method_in signatures (Some (role.Predicate n)) = None
method_in signatures (Some (role.Method n)) = numbered n (slice_get signatures n)

-- the field, predicate or method of a name, with its number
abbrev pub field_at : World → List ℕ → Option (ℕ × Ty)
field_at w x = field_in w.fields (find w.roles x)

abbrev pub predicate_at : World → List ℕ → Option (ℕ × Signature)
predicate_at w x = predicate_in w.predicates (find w.roles x)

abbrev pub method_at : World → List ℕ → Option (ℕ × MethodSignature)
method_at w x = method_in w.methods (find w.roles x)

-- `old` stands anywhere but in a predicate's body and a `requires` clause
abbrev pub allows_old : UnitPart → Bool
allows_old Body = false
allows_old Precondition = false
allows_old Elsewhere = true

abbrev pub is_precondition : UnitPart → Bool
is_precondition Body = false
is_precondition Precondition = true
is_precondition Elsewhere = false

-- `wildcard` and `unfolding` stand anywhere but in a predicate's body
abbrev pub allows_permission_forms : UnitPart → Bool
allows_permission_forms Body = false
allows_permission_forms Precondition = true
allows_permission_forms Elsewhere = true

-- the first place of a text: the place of what no text spells
abbrev pub nowhere : Pos
nowhere = record { line = 1; col = 1; line_in_range = (lit≤ tt, lit< tt); col_in_range = (lit≤ tt, lit< tt) }

-- the body of a predicate, and `true` in place of one that breaks a rule
abbrev pub body_or_true : Option (Option Assertion) → Assertion
body_or_true (Some (Some body)) = body
body_or_true (Some None) = Fact (Truth true) nowhere
body_or_true None = Fact (Truth true) nowhere

abbrev pub body_at : List (Option Assertion) → ℕ → Assertion
body_at bodies n = body_or_true (slice_get bodies n)
