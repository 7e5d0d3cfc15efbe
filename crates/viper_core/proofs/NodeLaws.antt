-- What a node of the program is as plain data, given what its parts were borrowed as.
use Rattle.std.proofs.Common.{◌≡◌, sym, ap, ◌∙◌, arith, ℕ, suc, ◌+◌, ◌<◌, ◌≤◌, length, drop, get_or, List, [], ◌∷◌, Vec}
use Rattle.std.proofs.Math.Numerals.{add-one}
use Rattle.std.proofs.Math.Seq.{drop-cons, drop-length}
use Rattle.std.specs.declared.boxed.Box.{Box}
use Rattle.std.specs.declared.alloc.Global.{Global}
use Rattle.vb_base.specs.declared.places.Pos.{Pos}
use Rattle.viper_core.specs.Expr as t
use Rattle.viper_core.specs.View.{expr_of, exprs_of, amt_of, assertion_of, opened_of}
use Rattle.viper_core.specs.declared.exprs.Expr as expr
use Rattle.viper_core.specs.declared.exprs.Op.{Op}
use Rattle.viper_core.specs.declared.exprs.Opened.{Opened}
use Rattle.viper_core.specs.declared.exprs.Amt.{Amt}
use Rattle.viper_core.specs.declared.exprs.Assertion as assertion
use Rattle.viper_core.proofs.ViewLaws.{expr_of-Unfolding, assertion_of-Inst}

module _ {e : expr.Expr} where
  pub neg_is : {a : expr.Expr} {x : Box expr.Expr Global} → e ≡ expr.Neg x → a ≡ x.value → expr_of e ≡ t.Neg (expr_of a)
  neg_is is part = ap expr_of is ∙ ap (λ a. t.Neg (expr_of a)) (sym part)

  pub not_is : {a : expr.Expr} {x : Box expr.Expr Global} → e ≡ expr.Not x → a ≡ x.value → expr_of e ≡ t.Not (expr_of a)
  not_is is part = ap expr_of is ∙ ap (λ a. t.Not (expr_of a)) (sym part)

  pub bin_is : {a b : expr.Expr} {o : Op} {x y : Box expr.Expr Global} {at : Pos} → e ≡ expr.Bin o x y at → a ≡ x.value → b ≡ y.value → expr_of e ≡ t.Bin o (expr_of a) (expr_of b) at
  bin_is {o = o} {at = at} is left right = ap expr_of is ∙ (λ i. t.Bin o (expr_of (sym left i)) (expr_of (sym right i)) at)

  pub choose_is : {a b c : expr.Expr} {x y z : Box expr.Expr Global} → e ≡ expr.Choose x y z → a ≡ x.value → b ≡ y.value → c ≡ z.value → expr_of e ≡ t.Choose (expr_of a) (expr_of b) (expr_of c)
  choose_is is first second third = ap expr_of is ∙ (λ i. t.Choose (expr_of (sym first i)) (expr_of (sym second i)) (expr_of (sym third i)))

  pub field_is : {a : expr.Expr} {x : Box expr.Expr Global} {field : ℕ} {at : Pos} → e ≡ expr.Field x field at → a ≡ x.value → expr_of e ≡ t.Field (expr_of a) field at
  field_is {field = field} {at = at} is part = ap expr_of is ∙ ap (λ a. t.Field (expr_of a) field at) (sym part)

  pub unfolding_is : {o : Opened} {x : Box Opened Global} → e ≡ expr.Unfolding x → o ≡ x.value → expr_of e ≡ t.Unfolding (opened_of o)
  unfolding_is {x = x} is part = ap expr_of is ∙ expr_of-Unfolding x ∙ ap (λ o. t.Unfolding (opened_of o)) (sym part)

pub opened_is : (o : Opened) {es : List expr.Expr} → es ≡ o.args.items → opened_of o ≡ t.opened o.predicate (exprs_of es) (expr_of o.amount) (assertion_of o.body) (expr_of o.inner) o.place
opened_is o same = ap (λ es. t.opened o.predicate (exprs_of es) (expr_of o.amount) (assertion_of o.body) (expr_of o.inner) o.place) (sym same)

module _ {a : assertion.Assertion} where
  pub inst_is : {p : ℕ} {es : List expr.Expr} (v : Vec expr.Expr Global) {m : Amt} {at : Pos} → a ≡ assertion.Inst p v m at → es ≡ v.items → assertion_of a ≡ t.Inst p (exprs_of es) (amt_of m) at
  inst_is {p = p} v {m = m} {at = at} is same = ap assertion_of is ∙ assertion_of-Inst p v m at ∙ ap (λ es. t.Inst p (exprs_of es) (amt_of m) at) (sym same)

  pub and_is : {b c : assertion.Assertion} {x y : Box assertion.Assertion Global} → a ≡ assertion.And x y → b ≡ x.value → c ≡ y.value → assertion_of a ≡ t.And (assertion_of b) (assertion_of c)
  and_is is left right = ap assertion_of is ∙ (λ i. t.And (assertion_of (sym left i)) (assertion_of (sym right i)))

  pub implies_is : {b : assertion.Assertion} {e : expr.Expr} {x : Box assertion.Assertion Global} → a ≡ assertion.Implies e x → b ≡ x.value → assertion_of a ≡ t.Implies (expr_of e) (assertion_of b)
  implies_is {e = e} is part = ap assertion_of is ∙ ap (λ b. t.Implies (expr_of e) (assertion_of b)) (sym part)

  pub choice_is : {b c : assertion.Assertion} {e : expr.Expr} {x y : Box assertion.Assertion Global} → a ≡ assertion.Choose e x y → b ≡ x.value → c ≡ y.value →
      assertion_of a ≡ t.ChooseAssertion (expr_of e) (assertion_of b) (assertion_of c)
  choice_is {e = e} is left right = ap assertion_of is ∙ (λ i. t.ChooseAssertion (expr_of e) (assertion_of (sym left i)) (assertion_of (sym right i)))

-- ---- the arguments that are left

pub next_argument : (es : List expr.Expr) (i : ℕ) (e : expr.Expr) → i < length es → e ≡ get_or es i e → drop i es ≡ e ∷ drop (i + 1) es
next_argument es i e lt is = rw add-one (drop-cons es i e lt ∙ ap (λ x. x ∷ drop (suc i) es) (sym is))

pub no_argument : (es : List expr.Expr) (i : ℕ) → length es ≤ i → i ≤ length es → drop i es ≡ []
no_argument es i above below = let end : i ≡ length es = omega arith in rw end (drop-length es)
