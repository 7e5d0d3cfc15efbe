-- What holds of each literal that a program may have holds of the literals of all that is typed. So they are proper, and
-- within the bound.
use Rattle.std.proofs.Common.{ℤ, pos, inl, inr, List, IsTrue, refl, sym, subst, arith}
use Rattle.vb_value.specs.Bound.{Bound, Unbounded, Bounded, IfBounded, IsWithin}
use Rattle.vb_value.specs.Fraction.{Fraction, IsWithinFraction, IsProperFraction}
use Rattle.vb_value.specs.declared.values.Ty.{Ty}
use Rattle.vb_value.proofs.FractionLaws.{IsReduced-whole}
use Rattle.viper_core.specs.Expr as t
use Rattle.viper_core.specs.Formed.{predicate_context, IsTypedProgram}
use Rattle.viper_core.specs.Literals.{AllLiterals, AllOpenedLiterals, AllExprsLiterals, AllAmountLiterals, AllAssertionLiterals}
use Rattle.viper_core.specs.Typing.{IsLiteral, IsLiteralPart, is_outside_predicates, Context, HasType, variable, literal, truth, null, part, negative, negation, binary, choice, field, old, unfolded, Opens, opens, HaveTypes, nothing, also, IsAmount, amount, wildcard, IsAssertion, fact, access, instance, both, implied, chosen}
use Rattle.viper_core.proofs.BodyLaws.{OfBodies, of_no_bodies}
use Rattle.viper_core.proofs.FormedLaws.{predicate_body_of_typed}

-- what holds of each literal that a program may have
pub record HoldsOfLiterals (I : ℤ → Type 0) (F : Fraction → Type 0) : Type 0 where
  pub numbers : (n : ℤ) → IsLiteral n → I n
  pub permissions : (q : Fraction) → IsLiteralPart q → F q

mutual
  in_expr : {c : Context} {e : t.Expr} {u : Ty} (I : ℤ → Type 0) (F : Fraction → Type 0) → HoldsOfLiterals I F → OfBodies c (AllAssertionLiterals I F) → HasType c e u → AllLiterals I F e
  in_expr I F z w (variable h i) = tt
  in_expr I F z w (literal {n = n} h) = z.numbers n h
  in_expr I F z w truth = tt
  in_expr I F z w null = tt
  in_expr I F z w (part {q = q} h) = z.permissions q h
  in_expr I F z w (negative h i) = in_expr I F z w h
  in_expr I F z w (negation h) = in_expr I F z w h
  in_expr I F z w (binary h i is) = (in_expr I F z w h, in_expr I F z w i)
  in_expr I F z w (choice h i j) = (in_expr I F z w h, in_expr I F z w i, in_expr I F z w j)
  in_expr I F z w (field h is) = in_expr I F z w h
  in_expr I F z w (old a h) = in_expr I F z w h
  in_expr I F z w (unfolded a h) = in_opened I F z w a h

  in_opened : {c : Context} {o : t.Opened} {u : Ty} (I : ℤ → Type 0) (F : Fraction → Type 0) → HoldsOfLiterals I F → OfBodies c (AllAssertionLiterals I F) → IsTrue (is_outside_predicates c.site) → Opens c o u → AllOpenedLiterals I F o
  in_opened I F z w a (opens {p = p} {body = body} d exists has_body args m inner) =
      (in_exprs I F z w args, in_expr I F z w m, w a p d body exists has_body, in_expr I F z w inner)

  in_exprs : {c : Context} {es : t.Exprs} {us : List Ty} (I : ℤ → Type 0) (F : Fraction → Type 0) → HoldsOfLiterals I F → OfBodies c (AllAssertionLiterals I F) → HaveTypes c es us → AllExprsLiterals I F es
  in_exprs I F z w nothing = tt
  in_exprs I F z w (also h i) = (in_expr I F z w h, in_exprs I F z w i)

in_amount : {c : Context} {m : t.Amt} (I : ℤ → Type 0) (F : Fraction → Type 0) → HoldsOfLiterals I F → OfBodies c (AllAssertionLiterals I F) → IsAmount c m → AllAmountLiterals I F m
in_amount I F z w (amount h) = in_expr I F z w h
in_amount I F z w (wildcard a) = tt

in_assertion : {c : Context} {a : t.Assertion} (I : ℤ → Type 0) (F : Fraction → Type 0) → HoldsOfLiterals I F → OfBodies c (AllAssertionLiterals I F) → IsAssertion c a → AllAssertionLiterals I F a
in_assertion I F z w (fact h) = in_expr I F z w h
in_assertion I F z w (access h is m) = (in_expr I F z w h, in_amount I F z w m)
in_assertion I F z w (instance d is args m) = (in_exprs I F z w args, in_amount I F z w m)
in_assertion I F z w (both h i) = (in_assertion I F z w h, in_assertion I F z w i)
in_assertion I F z w (implied h i) = (in_expr I F z w h, in_assertion I F z w i)
in_assertion I F z w (chosen h i j) = (in_expr I F z w h, in_assertion I F z w i, in_assertion I F z w j)

-- ---- in a typed program

in_bodies : (I : ℤ → Type 0) (F : Fraction → Type 0) → HoldsOfLiterals I F → (c : Context) → IsTypedProgram c.program → OfBodies c (AllAssertionLiterals I F)
in_bodies I F z c h site k d a exists has_body =
    in_assertion I F z (of_no_bodies (predicate_context c.program d) (AllAssertionLiterals I F) refl) (predicate_body_of_typed c.program h k d a exists has_body)

pub typed_literals : (I : ℤ → Type 0) (F : Fraction → Type 0) → HoldsOfLiterals I F → (c : Context) → IsTypedProgram c.program → {e : t.Expr} {u : Ty} → HasType c e u → AllLiterals I F e
typed_literals I F z c h i = in_expr I F z (in_bodies I F z c h) i

pub exprs_literals : (I : ℤ → Type 0) (F : Fraction → Type 0) → HoldsOfLiterals I F → (c : Context) → IsTypedProgram c.program → {es : t.Exprs} {us : List Ty} → HaveTypes c es us → AllExprsLiterals I F es
exprs_literals I F z c h i = in_exprs I F z (in_bodies I F z c h) i

pub amount_literals : (I : ℤ → Type 0) (F : Fraction → Type 0) → HoldsOfLiterals I F → (c : Context) → IsTypedProgram c.program → {m : t.Amt} → IsAmount c m → AllAmountLiterals I F m
amount_literals I F z c h i = in_amount I F z (in_bodies I F z c h) i

pub assertion_literals : (I : ℤ → Type 0) (F : Fraction → Type 0) → HoldsOfLiterals I F → (c : Context) → IsTypedProgram c.program → {a : t.Assertion} → IsAssertion c a → AllAssertionLiterals I F a
assertion_literals I F z c h i = in_assertion I F z (in_bodies I F z c h) i

-- ---- they are proper, and within the bound

pub if_bounded : {P : Type 0} (b : Bound) → P → IfBounded b P
if_bounded Unbounded h = tt
if_bounded Bounded h = h

part_within : (q : Fraction) → IsLiteralPart q → IsWithinFraction q
part_within q (inl is) = subst IsWithinFraction (sym is) (record { num = omega arith; den = omega arith })
part_within q (inr is) = subst IsWithinFraction (sym is) (record { num = omega arith; den = omega arith })

part_proper : (b : Bound) (q : Fraction) → IsLiteralPart q → IsProperFraction b q
part_proper b q (inl is) = subst (IsProperFraction b) (sym is) (record { reduced = IsReduced-whole (pos 0); within = if_bounded b (part_within _ (inl refl)) })
part_proper b q (inr is) = subst (IsProperFraction b) (sym is) (record { reduced = IsReduced-whole (pos 1); within = if_bounded b (part_within _ (inr refl)) })

pub literals_proper : (b : Bound) → HoldsOfLiterals (λ n. IfBounded b (IsWithin n)) (IsProperFraction b)
literals_proper b = record { numbers = λ n h. if_bounded b h.1; permissions = part_proper b }

pub literals_within : HoldsOfLiterals IsWithin IsWithinFraction
literals_within = record { numbers = λ n h. h.1; permissions = part_within }
