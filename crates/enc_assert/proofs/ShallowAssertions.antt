-- How many brackets the code of producing and consuming an assertion has open at once: at most one more than the assertion,
-- and so at most 1,025.
use Rattle.std.specs.Bool.{⊤}
use Rattle.std.proofs.Common.{◌≡◌, ◌+◌, ◌≤◌, max, ℕ, Some, sym, subst, arith}
use Rattle.vb_base.specs.Limits.{max_term_depth}
use Rattle.vb_value.specs.declared.values.Ty.TheVariants as ty
use Rattle.viper_core.specs.Depth.{depth, depths, amt_depth, assertion_depth}
use Rattle.viper_core.specs.Expr as e
use Rattle.viper_core.specs.Formed.{IsFormed}
use Rattle.viper_core.specs.Typing as y
use Rattle.viper_core.specs.Typing.{Context, IsAssertion}
use Rattle.boogie_tree.specs.Expr as t
use Rattle.boogie_tree.specs.Nested.{expr_depth}
use Rattle.enc_expr.specs.Place.{Maps, Place}
use Rattle.enc_expr.specs.Kinds.{kinds_in}
use Rattle.enc_expr.specs.Code.{Emitting, Guard}
use Rattle.enc_expr.specs.Shallow.{IsShallow}
use Rattle.enc_expr.proofs.PropertyPieces.{Any, IsCode, then_has, puts_has, guards_has}
use Rattle.enc_expr.proofs.PropertyForms.{choose_has}
use Rattle.enc_expr.proofs.ShallowCode.{brackets, plainly, code_low, codes_low, amount_low}
use Rattle.enc_assert.specs.Encoding.{produce_code, consume_code}
use Rattle.enc_assert.proofs.WalkLaws.{Blocks, walk, produce_blocks, consume_blocks, produce_walks, consume_walks}
use Rattle.enc_assert.proofs.PropertyAssertions.{BlocksHave, produce_blocks_have, consume_blocks_have, field_has, instance_has, amount_walk_has}

module _ (top : ℕ) where
  module _ (enough : 1 + max_term_depth ≤ top) (c : Context) (p : Place) (w : Blocks) (formed : IsFormed c.program) (blocks : BlocksHave brackets w) where
    walk_low : (g : Guard) (a : e.Assertion) → IsAssertion c a → 1 + assertion_depth a ≤ top → IsCode brackets top Any (walk (kinds_in c) p w g a)
    walk_low g (e.Fact a at) (y.fact i) few = then_has brackets top (code_low top enough c p g a ty.Bool formed i few) (λ x k. puts_has brackets top (depth a) g (w.fact at x.expr) (blocks.fact (depth a) at x.expr k.some (plainly x k)) few)
    walk_low g (e.Acc a f m at) (y.access {u = u} i there j) few = let d = max 1 (max (depth a) (amt_depth m)) in
        then_has brackets top (code_low top enough c p g a ty.Ref formed i (omega (arith, few))) (λ x k. then_has brackets top (amount_low top enough c p g m d formed j (omega arith) (omega (arith, few, enough))) (λ z n.
        then_has brackets top (field_has brackets top d f x (let b = plainly x k in omega (arith, b))) (λ o r. amount_walk_has brackets top w d g at m z o blocks (omega (arith, enough)) (omega (arith, few, enough)) n r)))
    walk_low g (e.Inst q args m at) (y.instance v there i j) few = let d = max 1 (max (depths args) (amt_depth m)) in
        then_has brackets top (codes_low top enough c p g args v.params d formed i (omega arith) (omega (arith, few))) (λ xs k. then_has brackets top (amount_low top enough c p g m d formed j (omega arith) (omega (arith, few, enough))) (λ z n.
        then_has brackets top (instance_has brackets top d q xs k) (λ o r. amount_walk_has brackets top w d g at m z o blocks (omega (arith, enough)) (omega (arith, few, enough)) n r)))
    walk_low g (e.And a d) (y.both i j) few = then_has brackets top (walk_low g a i (omega (arith, few))) (λ u any. walk_low g d j (omega (arith, few)))
    walk_low g (e.Implies a d) (y.implied i j) few = then_has brackets top (code_low top enough c p g a ty.Bool formed i (omega (arith, few))) (λ x k.
        then_has brackets top (guards_has brackets top (depth a) g x.expr (plainly x k) (omega (arith, few))) (λ m any. walk_low (Some m) d j (omega (arith, few))))
    walk_low g (e.ChooseAssertion a d f) (y.chosen i j k) few = then_has brackets top (code_low top enough c p g a ty.Bool formed i (omega (arith, few))) (λ x n.
        choose_has brackets top {P = Any} {Q = Any} g x.expr (λ m. walk (kinds_in c) p w m d) (λ m. walk (kinds_in c) p w m f) (λ m u v. tt) (depth a) (omega (arith, few)) (omega (arith, enough)) (plainly x n)
        (λ m. walk_low m d j (omega (arith, few))) (λ m. walk_low m f k (omega (arith, few))) (λ m u v q r. tt))

walk_shallow : (c : Context) (p : Place) (w : Blocks) (g : Guard) (a : e.Assertion) (n : ℕ) → IsFormed c.program → IsAssertion c a → BlocksHave brackets w → IsShallow (assertion_depth a) (walk (kinds_in c) p w g a n)
walk_shallow c p w g a n formed typed blocks = record { stmts = (walk_low (1 + max max_term_depth (assertion_depth a)) (omega arith) c p w formed blocks g a typed (omega arith)).stmts n }

-- ---- what is promised

pub produce_shallow : (c : Context) (p : Place) (g : Guard) (scale : t.BExpr) (a : e.Assertion) (n : ℕ) → IsFormed c.program → IsAssertion c a → expr_depth scale ≡ 0 →
    IsShallow (assertion_depth a) (produce_code (kinds_in c) p g scale a n)
produce_shallow c p g scale a n formed typed atom = subst (λ (m : Emitting ⊤). IsShallow (assertion_depth a) (m n)) (sym (produce_walks (kinds_in c) p scale g a))
    (walk_shallow c p (produce_blocks p scale) g a n formed typed (produce_blocks_have brackets p scale (omega (arith, atom))))

pub consume_shallow : (c : Context) (p : Place) (left : Maps) (g : Guard) (scale : t.BExpr) (a : e.Assertion) (n : ℕ) → IsFormed c.program → IsAssertion c a → expr_depth scale ≡ 0 →
    IsShallow (assertion_depth a) (consume_code (kinds_in c) p left g scale a n)
consume_shallow c p left g scale a n formed typed atom = subst (λ (m : Emitting ⊤). IsShallow (assertion_depth a) (m n)) (sym (consume_walks (kinds_in c) p scale left g a))
    (walk_shallow c p (consume_blocks p left scale) g a n formed typed (consume_blocks_have brackets p left scale (omega (arith, atom))))
