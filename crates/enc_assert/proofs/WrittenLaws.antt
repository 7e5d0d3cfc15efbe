-- The code of assertions declares what it says, and rests where its guard is false.
use Rattle.std.specs.Bool.{⊤}
use Rattle.std.proofs.Common.{◌≡◌, ℕ, Some, ◌⊎◌, inl, refl}
use Rattle.vb_base.specs.declared.places.Pos.{Pos}
use Rattle.viper_core.specs.Expr as e
use Rattle.vb_base.specs.declared.labels.Kind.TheVariants as kind
use Rattle.boogie_tree.specs.Expr as t
use Rattle.boogie_tree.specs.Stmt as s
use Rattle.enc_expr.specs.Place.{Place, Maps}
use Rattle.enc_expr.specs.Kinds.{Kinds}
use Rattle.enc_expr.specs.Code.{join, Guard}
use Rattle.enc_expr.specs.Pieces.{Operand, one, label}
use Rattle.enc_expr.proofs.Simulated.{IsCounted, Sleeps}
use Rattle.enc_expr.proofs.CodeLaws.{IsWritten, given, both, local, put, guarded, atomic_written, located_written, choose_written, code_written, codes_written, amount_written, written_counted, IsUnder, some, written_sleeps}
use Rattle.enc_assert.specs.Target.{Field, Instance, Aimed}
use Rattle.enc_assert.specs.Encoding.{field_target, instance_target, gives_code, gives_some, produce_amount, produce_code, takes_code, takes_some, consume_amount, consume_code}

module _ {O : Guard → Type 0} where
  field_written : (f : ℕ) (x : Operand) → IsWritten O _ (field_target f x)
  field_written f x = both (atomic_written x) (λ r. given (record { target = Field f r.expr; sets = r.sets }))

  instance_written : (q : ℕ) (xs : _) → IsWritten O _ (instance_target q xs)
  instance_written q xs = both (located_written xs) (λ l. given (record { target = Instance q l.locals; sets = l.sets }))

  given_written : (p : Place) (g : Guard) (scale : t.BExpr) (at : Pos) (m : e.Amt) (y : Operand) (x : Aimed) → O g → IsWritten O _ (produce_amount p g scale at m y x)
  given_written p g scale at (e.Is a) y x own = both (atomic_written y) (λ q. put g (join x.sets (join q.sets (gives_code p scale at x.target q.expr))) own)
  given_written p g scale at e.Wildcard y x own = both (local _) (λ w. put g (join x.sets (gives_some p scale x.target w)) own)

  taken_written : (p : Place) (left : Maps) (g : Guard) (scale : t.BExpr) (at : Pos) (m : e.Amt) (y : Operand) (x : Aimed) → O g → IsWritten O _ (consume_amount p left g scale at m y x)
  taken_written p left g scale at (e.Is a) y x own = both (atomic_written y) (λ q. put g (join x.sets (join q.sets (takes_code p left scale at x.target q.expr))) own)
  taken_written p left g scale at e.Wildcard y x own = both (local _) (λ w. put g (join x.sets (takes_some p left at x.target w)) own)

produce_written : (O : Guard → Type 0) (k : Kinds) (p : Place) (g : Guard) (scale : t.BExpr) (a : e.Assertion) → O g → IsWritten O _ (produce_code k p g scale a)
produce_written O k p g scale (e.Fact a at) own = both (code_written O k p g a own) (λ x. put g (one (s.Assume x.expr)) own)
produce_written O k p g scale (e.Acc a f m at) own =
    both (code_written O k p g a own) (λ x. both (amount_written O k p g m own) (λ q. both (field_written f x) (λ y. given_written p g scale at m q y own)))
produce_written O k p g scale (e.Inst q args m at) own =
    both (codes_written O k p g args own) (λ xs. both (amount_written O k p g m own) (λ z. both (instance_written q xs) (λ y. given_written p g scale at m z y own)))
produce_written O k p g scale (e.And a b) own = both (produce_written O k p g scale a own) (λ u. produce_written O k p g scale b own)
produce_written O k p g scale (e.Implies c a) own = both (code_written O k p g c own) (λ x. guarded g x.expr own (λ i. produce_written (λ h. (h ≡ Some i) ⊎ O h) k p (Some i) scale a (inl refl)))
produce_written O k p g scale (e.ChooseAssertion c a b) own =
    both (code_written O k p g c own) (λ x. choose_written g x.expr _ _ (λ h u v. tt) own (λ N h under. produce_written N k p h scale a under) (λ N h under. produce_written N k p h scale b under))

consume_written : (O : Guard → Type 0) (k : Kinds) (p : Place) (left : Maps) (g : Guard) (scale : t.BExpr) (a : e.Assertion) → O g → IsWritten O _ (consume_code k p left g scale a)
consume_written O k p left g scale (e.Fact a at) own = both (code_written O k p g a own) (λ x. put g (one (s.Assert (label p at kind.Fact) x.expr)) own)
consume_written O k p left g scale (e.Acc a f m at) own =
    both (code_written O k p g a own) (λ x. both (amount_written O k p g m own) (λ q. both (field_written f x) (λ y. taken_written p left g scale at m q y own)))
consume_written O k p left g scale (e.Inst q args m at) own =
    both (codes_written O k p g args own) (λ xs. both (amount_written O k p g m own) (λ z. both (instance_written q xs) (λ y. taken_written p left g scale at m z y own)))
consume_written O k p left g scale (e.And a b) own = both (consume_written O k p left g scale a own) (λ u. consume_written O k p left g scale b own)
consume_written O k p left g scale (e.Implies c a) own =
    both (code_written O k p g c own) (λ x. guarded g x.expr own (λ i. consume_written (λ h. (h ≡ Some i) ⊎ O h) k p left (Some i) scale a (inl refl)))
consume_written O k p left g scale (e.ChooseAssertion c a b) own =
    both (code_written O k p g c own) (λ x. choose_written g x.expr _ _ (λ h u v. tt) own (λ N h under. consume_written N k p left h scale a under) (λ N h under. consume_written N k p left h scale b under))

pub produce_counted : (k : Kinds) (p : Place) (g : Guard) (scale : t.BExpr) (a : e.Assertion) → IsCounted (produce_code k p g scale a)
produce_counted k p g scale a = written_counted (produce_written (λ g. ⊤) k p g scale a tt)

pub consume_counted : (k : Kinds) (p : Place) (left : Maps) (g : Guard) (scale : t.BExpr) (a : e.Assertion) → IsCounted (consume_code k p left g scale a)
consume_counted k p left g scale a = written_counted (consume_written (λ g. ⊤) k p left g scale a tt)

module _ {O : ℕ → Type 0} where
  pub produce_sleeps : (k : Kinds) (p : Place) (h : ℕ) (scale : t.BExpr) (a : e.Assertion) → O h → Sleeps O (produce_code k p (Some h) scale a)
  produce_sleeps k p h scale a o = written_sleeps (produce_written (IsUnder O) k p (Some h) scale a (some o)) O (λ g under. under)

  pub consume_sleeps : (k : Kinds) (p : Place) (left : Maps) (h : ℕ) (scale : t.BExpr) (a : e.Assertion) → O h → Sleeps O (consume_code k p left (Some h) scale a)
  consume_sleeps k p left h scale a o = written_sleeps (consume_written (IsUnder O) k p left (Some h) scale a (some o)) O (λ g under. under)
