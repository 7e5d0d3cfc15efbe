-- What is typed where only the first variables are visible is typed among these alone.
use Rattle.std.proofs.Common.{◌≡◌, ◌∙◌, ◌<◌, ◌+◌, ℕ, zero, suc, List, [], ◌∷◌, Some, All, slice_get, take, refl, arith}
use Rattle.std.proofs.lemmas.List.{length-take}
use Rattle.vb_value.specs.declared.values.Ty.{Ty}
use Rattle.viper_core.specs.Expr as t
use Rattle.viper_core.specs.Formed.{precondition_context, postcondition_context, IsFormed}
use Rattle.viper_core.specs.Part.{IsContext, IsPartAssertion, SeesBelow, cut, Allows}
use Rattle.viper_core.specs.Program.{Program, Method}
use Rattle.viper_core.specs.Typing.{Context, HasType, Opens, HaveTypes, IsAmount, IsAssertion}
use Rattle.viper_core.proofs.PartLaws.{preconditions_parts, postconditions_parts}
use Rattle.viper_core.proofs.UnitLaws.{below-lt}
use Rattle.viper_core.proofs.WiderLaws.{typed_among, opened_among, all_typed_among, amount_among, assertion_among}

slice_get-take : {X : Type 0} (n : ℕ) (xs : List X) (i : ℕ) → i < n → slice_get (take n xs) i ≡ slice_get xs i
slice_get-take zero xs i h = absurd (omega (arith, h))
slice_get-take (suc n) [] i h = refl
slice_get-take (suc n) (x ∷ xs) zero h = refl
slice_get-take (suc n) (x ∷ xs) (suc i) h = slice_get-take n xs i (omega (arith, h))

pub cut_allows : {c : Context} (n : ℕ) → SeesBelow c n → Allows c (take n c.vars) c.visible c.site
cut_allows {c} n w = record { sees = λ x u h is. (h, slice_get-take n c.vars x (w x h) ∙ is); old = λ h. h; outside = λ h. h }

pub typed_cut : {c : Context} {e : t.Expr} {u : Ty} (n : ℕ) → SeesBelow c n → HasType c e u → HasType (cut c n) e u
typed_cut n w = typed_among (cut_allows n w)

pub opened_cut : {c : Context} {o : t.Opened} {u : Ty} (n : ℕ) → SeesBelow c n → Opens c o u → Opens (cut c n) o u
opened_cut n w = opened_among (cut_allows n w)

pub all_typed_cut : {c : Context} {es : t.Exprs} {us : List Ty} (n : ℕ) → SeesBelow c n → HaveTypes c es us → HaveTypes (cut c n) es us
all_typed_cut n w = all_typed_among (cut_allows n w)

pub amount_cut : {c : Context} {m : t.Amt} (n : ℕ) → SeesBelow c n → IsAmount c m → IsAmount (cut c n) m
amount_cut n w = amount_among (cut_allows n w)

pub assertion_cut : {c : Context} {a : t.Assertion} (n : ℕ) → SeesBelow c n → IsAssertion c a → IsAssertion (cut c n) a
assertion_cut n w = assertion_among (cut_allows n w)

-- ---- parts

pub context_cut : {c : Context} (n : ℕ) → SeesBelow c n → IsContext c → IsContext (cut c n)
context_cut {c} n w h = record {
  program = h.program;
  visible = λ x seen. omega (arith, w x seen, h.visible x seen, length-take n c.vars);
  few = omega (arith, h.few, length-take n c.vars);
}

pub assertion_part_cut : {c : Context} {a : t.Assertion} (n : ℕ) → SeesBelow c n → IsPartAssertion c a → IsPartAssertion (cut c n) a
assertion_part_cut n w h = record { context = context_cut n w h.context; typed = assertion_cut n w h.typed; nested = h.nested }

-- before a call the store has the parameters
pub preconditions_cut : (p : Program) → IsFormed p → (k : ℕ) (m : Method) → slice_get p.methods k ≡ Some m →
    All (IsPartAssertion (cut (precondition_context p m) m.params)) m.preconditions
preconditions_cut p h k m exists i d within =
    assertion_part_cut m.params (below-lt m.params) (preconditions_parts p h k m exists i d within)

-- and after it the returns too
pub postconditions_cut : (p : Program) → IsFormed p → (k : ℕ) (m : Method) → slice_get p.methods k ≡ Some m →
    All (IsPartAssertion (cut (postcondition_context p m) (m.params + m.returns))) m.postconditions
postconditions_cut p h k m exists i d within =
    assertion_part_cut (m.params + m.returns) (below-lt (m.params + m.returns)) (postconditions_parts p h k m exists i d within)
