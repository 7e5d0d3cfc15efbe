-- Producing and consuming walk through an assertion alike: they differ in the blocks that they write.
use Rattle.std.specs.Bool.{⊤}
use Rattle.std.proofs.Common.{◌≡◌, ℕ, Some, refl}
use Rattle.vb_base.specs.declared.labels.Kind.TheVariants as kind
use Rattle.vb_base.specs.declared.places.Pos.{Pos}
use Rattle.viper_core.specs.Expr as e
use Rattle.boogie_tree.specs.Expr as t
use Rattle.boogie_tree.specs.Stmt as s
use Rattle.boogie_tree.specs.declared.exprs.BBase.TheVariants as base
use Rattle.boogie_tree.specs.Values.{plain_type}
use Rattle.enc_expr.specs.Place.{Maps, Place}
use Rattle.enc_expr.specs.Kinds.{Kinds}
use Rattle.enc_expr.specs.Code.{Emitting, join, then_emit, declares, Guard, puts, guards}
use Rattle.enc_expr.specs.Pieces.{Operand, atomic, one, label}
use Rattle.enc_expr.specs.Operators.{choose_code}
use Rattle.enc_expr.specs.Encoding.{code, codes, amount_code}
use Rattle.enc_assert.specs.Target.{AccessTarget, Aimed}
use Rattle.enc_assert.specs.Encoding.{field_target, instance_target, gives_code, gives_some, produce_code, takes_code, takes_some, consume_code}

pub record Blocks : Type 0 where
  -- for the value of a fact
  pub fact : Pos → t.BExpr → s.BStmts
  -- for an amount that is written
  pub written : Pos → AccessTarget → t.BExpr → s.BStmts
  -- for an amount that is chosen
  pub chosen : Pos → AccessTarget → ℕ → s.BStmts

abbrev pub amount_walk : Blocks → Guard → Pos → e.Amt → Operand → Aimed → Emitting ⊤
amount_walk w g at (e.Is a) y x = then_emit (atomic y) (λ q. puts g (join x.sets (join q.sets (w.written at x.target q.expr))))
amount_walk w g at e.Wildcard y x = then_emit (declares (plain_type base.Real)) (λ i. puts g (join x.sets (w.chosen at x.target i)))

abbrev pub walk : Kinds → Place → Blocks → Guard → e.Assertion → Emitting ⊤
walk k p w g (e.Fact a at) = then_emit (code k p g a) (λ x. puts g (w.fact at x.expr))
walk k p w g (e.Acc a f m at) = then_emit (code k p g a) (λ x. then_emit (amount_code k p g m) (λ y. then_emit (field_target f x) (amount_walk w g at m y)))
walk k p w g (e.Inst q args m at) = then_emit (codes k p g args) (λ xs. then_emit (amount_code k p g m) (λ y. then_emit (instance_target q xs) (amount_walk w g at m y)))
walk k p w g (e.And a b) = then_emit (walk k p w g a) (λ u. walk k p w g b)
walk k p w g (e.Implies c a) = then_emit (code k p g c) (λ x. then_emit (guards g x.expr) (λ h. walk k p w (Some h) a))
walk k p w g (e.ChooseAssertion c a b) = then_emit (code k p g c) (λ x. choose_code g x.expr (λ h. walk k p w h a) (λ h. walk k p w h b) (λ h u v. tt))

abbrev pub produce_blocks : Place → t.BExpr → Blocks
produce_blocks p scale = record { fact = λ at x. one (s.Assume x); written = gives_code p scale; chosen = λ at. gives_some p scale }

abbrev pub consume_blocks : Place → Maps → t.BExpr → Blocks
consume_blocks p left scale = record { fact = λ at x. one (s.Assert (label p at kind.Fact) x); written = takes_code p left scale; chosen = takes_some p left }

module _ (k : Kinds) (p : Place) (scale : t.BExpr) where
  pub produce_walks : (g : Guard) (a : e.Assertion) → produce_code k p g scale a ≡ walk k p (produce_blocks p scale) g a
  produce_walks g (e.Fact a at) = refl
  produce_walks g (e.Acc a f (e.Is m) at) = refl
  produce_walks g (e.Acc a f e.Wildcard at) = refl
  produce_walks g (e.Inst q args (e.Is m) at) = refl
  produce_walks g (e.Inst q args e.Wildcard at) = refl
  produce_walks g (e.And a b) = λ i. then_emit (produce_walks g a i) (λ u. produce_walks g b i)
  produce_walks g (e.Implies c a) = λ i. then_emit (code k p g c) (λ x. then_emit (guards g x.expr) (λ h. produce_walks (Some h) a i))
  produce_walks g (e.ChooseAssertion c a b) = λ i. then_emit (code k p g c) (λ x. choose_code g x.expr (λ h. produce_walks h a i) (λ h. produce_walks h b i) (λ h u v. tt))

  pub consume_walks : (left : Maps) (g : Guard) (a : e.Assertion) → consume_code k p left g scale a ≡ walk k p (consume_blocks p left scale) g a
  consume_walks left g (e.Fact a at) = refl
  consume_walks left g (e.Acc a f (e.Is m) at) = refl
  consume_walks left g (e.Acc a f e.Wildcard at) = refl
  consume_walks left g (e.Inst q args (e.Is m) at) = refl
  consume_walks left g (e.Inst q args e.Wildcard at) = refl
  consume_walks left g (e.And a b) = λ i. then_emit (consume_walks left g a i) (λ u. consume_walks left g b i)
  consume_walks left g (e.Implies c a) = λ i. then_emit (code k p g c) (λ x. then_emit (guards g x.expr) (λ h. consume_walks left (Some h) a i))
  consume_walks left g (e.ChooseAssertion c a b) = λ i. then_emit (code k p g c) (λ x. choose_code g x.expr (λ h. consume_walks left h a i) (λ h. consume_walks left h b i) (λ h u v. tt))
