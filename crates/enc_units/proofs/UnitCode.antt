-- A unit of a formed program is a method, or a predicate with a body, and its code is that of this method or body.
use Rattle.std.specs.Bool.{⊤}
use Rattle.std.proofs.Common.{◌≡◌, ◌+◌, ℕ, [], ◌++◌, Some, None, slice_get, sym, subst, append-nil}
use Rattle.std.proofs.lemmas.List.{take-append-drop}
use Rattle.viper_core.specs.Expr as e
use Rattle.viper_core.specs.Formed.{IsFormed, IsMethod, IsPredicate}
use Rattle.viper_core.specs.Program.{Program, Predicate, Method}
use Rattle.viper_core.specs.declared.programs.Unit.{Unit}
use Rattle.viper_core.specs.declared.programs.Unit.TheVariants as unit
use Rattle.viper_core.proofs.FormedLaws.{method_of_typed, predicate_of_typed}
use Rattle.viper_core.proofs.UnitLaws.{unit_method, unit_predicate}
use Rattle.enc_expr.specs.Code.{Emitting}
use Rattle.enc_expr.specs.Front.{types_of, types_of_method, types_of_predicate}
use Rattle.enc_expr.specs.Locals.{types_of_others, others_of_method}
use Rattle.enc_expr.specs.Pieces.{one_real}
use Rattle.enc_assert.specs.Encoding.{produce_code}
use Rattle.enc_block.specs.Encoding.{with_body, with_method, method_code}
use Rattle.enc_block.specs.Home.{place}
use Rattle.enc_units.specs.Units.{home_of, kinds_with, with_predicate, running_code}

module _ (p : Program) where
  pub data IsUnit : Unit → Type 0 where
    is_method : (k : ℕ) (m : Method) → slice_get p.methods k ≡ Some m → IsMethod p m → IsUnit (unit.Method k)
    is_predicate : (k : ℕ) (d : Predicate) (body : e.Assertion) → slice_get p.predicates k ≡ Some d → d.body ≡ Some body → IsPredicate p d → IsUnit (unit.Predicate k)

  pub unit_is : IsFormed p → (n : ℕ) (u : Unit) → slice_get p.units n ≡ Some u → IsUnit u
  unit_is formed n (unit.Method k) there = let m = unit_method p formed.typed.units n k there in is_method k m.0 m.1 (method_of_typed p formed.typed k m.0 m.1)
  unit_is formed n (unit.Predicate k) there =
      let d = unit_predicate p formed.typed.units n k there in is_predicate k d.predicate d.body d.exists d.has_body (predicate_of_typed p formed.typed k d.predicate d.exists)

  -- ---- the types of its variables

  pub method_vars : (k : ℕ) (m : Method) → slice_get p.methods k ≡ Some m → types_of p (unit.Method k) ++ types_of_others p (unit.Method k) ≡ m.vars
  method_vars k m exists = subst (λ q. types_of_method q ++ others_of_method q ≡ m.vars) (sym exists) (take-append-drop (m.params + m.returns) m.vars)

  pub predicate_vars : (k : ℕ) (d : Predicate) → slice_get p.predicates k ≡ Some d → types_of p (unit.Predicate k) ++ types_of_others p (unit.Predicate k) ≡ d.params
  predicate_vars k d exists = subst (λ q. types_of_predicate q ++ [] ≡ d.params) (sym exists) (append-nil d.params)

  -- ---- what holds of its code

  pub of_method : (P : Emitting ⊤ → Type 0) (k : ℕ) (m : Method) → slice_get p.methods k ≡ Some m → P (method_code p (kinds_with p m.vars) (home_of p (unit.Method k)) m) → P (running_code p (unit.Method k))
  of_method P k m exists h = subst (λ q. P (with_method q (λ m. method_code p (kinds_with p m.vars) (home_of p (unit.Method k)) m))) (sym exists) h

  pub of_predicate : (P : Emitting ⊤ → Type 0) (k : ℕ) (d : Predicate) (body : e.Assertion) → slice_get p.predicates k ≡ Some d → d.body ≡ Some body →
      P (produce_code (kinds_with p d.params) (place (home_of p (unit.Predicate k)) d.at) None one_real body) → P (running_code p (unit.Predicate k))
  of_predicate P k d body exists has h =
      subst (λ q. P (with_predicate q (λ d. with_body d.body (λ body. produce_code (kinds_with p d.params) (place (home_of p (unit.Predicate k)) d.at) None one_real body)))) (sym exists)
      (subst (λ q. P (with_body q (λ body. produce_code (kinds_with p d.params) (place (home_of p (unit.Predicate k)) d.at) None one_real body))) (sym has) h)
