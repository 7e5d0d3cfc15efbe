-- The literals of the code of an expression or body: they can be spelled where its own can, whatever is asked of the variables that
-- a `forall` binds.
use Rattle.std.proofs.Common.{◌+◌, ℕ, Bool, true, false, List, ◌∷◌, refl, arith, if◌then◌else◌}
use Rattle.std.specs.Prelude.{pos}
use Rattle.vb_base.specs.Limits.{max_term_depth}
use Rattle.vb_value.specs.declared.values.Ty.{Ty}
use Rattle.vb_value.specs.declared.values.Ty.TheVariants as ty
use Rattle.viper_core.specs.declared.exprs.Op.{Op}
use Rattle.viper_core.specs.declared.exprs.Op.TheVariants as o
use Rattle.viper_core.specs.Expr as e
use Rattle.viper_core.specs.Literals.{AllOpenedLiterals, AllExprsLiterals, AllAmountLiterals}
use Rattle.viper_meaning.specs.Operators.{class_of}
use Rattle.boogie_tree.specs.Expr as t
use Rattle.boogie_tree.specs.Stmt as s
use Rattle.boogie_tree.specs.Stmt.{BStmts}
use Rattle.boogie_tree.specs.declared.exprs.BBase.{BBase}
use Rattle.boogie_tree.specs.declared.exprs.BBase.TheVariants as base
use Rattle.boogie_tree.specs.Values.{plain_type, same_base}
use Rattle.boogie_tree.specs.Literals.{IsLiteral, ExprHas, IndexHas, StmtHas, BlockHas}
use Rattle.enc_expr.specs.Place.{Place, with_now, with_vars}
use Rattle.enc_expr.specs.Kinds.{Kinds, body_kinds}
use Rattle.enc_expr.specs.Code.{Emitting, join, Guard, puts}
use Rattle.enc_expr.specs.Pieces.{Operand, one, real}
use Rattle.enc_expr.specs.Operators.{plain_operand, as_real, operand_of, product_operand, quotient_operand, chosen_operand}
use Rattle.enc_expr.specs.Encoding.{leaf, is_unit, code, unfolding_code, codes, amount_code, body_code}
use Rattle.enc_expr.specs.Literals.{ViperLiteralsFit, AssertionLiteralsFit}
use Rattle.enc_expr.proofs.Property.{Property}
use Rattle.enc_expr.proofs.PropertyPieces.{Any, AreAll, IsCode, gives_has, then_has, declares_has, atomic_has, located_has}
use Rattle.enc_expr.proofs.PropertyForms.{in_class_has, choose_has, read_has, acc_has, instance_has, opening_has, fact_has, unit_has, pair_has}

abbrev ExprsFit : e.Exprs → Type 0
ExprsFit = AllExprsLiterals IsLiteral (λ q. IsLiteral q.num)

abbrev AmountFits : e.Amt → Type 0
AmountFits = AllAmountLiterals IsLiteral (λ q. IsLiteral q.num)

abbrev OpenedFits : e.Opened → Type 0
OpenedFits = AllOpenedLiterals IsLiteral (λ q. IsLiteral q.num)

-- ---- 0 and 1

pub zero_fits : IsLiteral (pos 0)
zero_fits = record { natural = 0; is = refl; within = omega arith }

pub one_fits : IsLiteral (pos 1)
one_fits = record { natural = 1; is = refl; within = omega arith }

-- for brackets the literals of a tree don't matter, and so as many may be open as are asked for
abbrev pub top : ℕ
top = 1 + max_term_depth

module _ (B : List BBase → Type 0) where
  -- ---- trees

  pub leaf_fits : (u : Ty) (x : t.BExpr) → ExprHas IsLiteral B x → ExprHas IsLiteral B (leaf u x)
  leaf_fits ty.Int x h = h
  leaf_fits ty.Bool x h = h
  leaf_fits ty.Ref x h = h
  leaf_fits ty.Perm x h = h

  pub join_fits : (xs ys : BStmts) → BlockHas IsLiteral B xs → BlockHas IsLiteral B ys → BlockHas IsLiteral B (join xs ys)
  join_fits s.skip ys h i = i
  join_fits (s.first x xs) ys h i = (h.0, join_fits xs ys h.1 i)

  -- the literals of a tree fit
  abbrev pub literals : Property
  literals = record {
    expr = λ d x. ExprHas IsLiteral B x;
    exprs = λ d es. IndexHas IsLiteral B es;
    stmt = λ d x. StmtHas IsLiteral B x;
    block = λ d xs. BlockHas IsLiteral B xs;
    keys = B;
    more_in = λ h few. h;
    more_in_block = λ h few. h;
    atom = λ is h. h;
    var = λ i. tt;
    zero = zero_fits;
    zero_real = zero_fits;
    one_real = one_fits;
    truth = λ q. tt;
    null = tt;
    unit = tt;
    not = λ h. h;
    binary = λ h i. (h, i);
    at = λ h. h;
    content = λ {d} {x} u h. leaf_fits u x h;
    pair = λ h i. (h, i);
    quantified = λ h i. (h, i);
    at_bound = λ i. tt;
    none = tt;
    more = λ h i. (h, i);
    assign = λ h. h;
    put = λ h i. (h, i);
    havoc = λ i. tt;
    assume = λ h. h;
    assert = λ h. h;
    branch = λ h i j. (h, i, j);
    either = λ i j. (i, j);
    skip = tt;
    first = λ h i. (h, i);
    joined = λ xs ys h i. join_fits xs ys h i;
  }

  abbrev pub ExprFits : t.BExpr → Type 0
  ExprFits = ExprHas IsLiteral B

  abbrev pub OperandFits : Operand → Type 0
  OperandFits x = ExprFits x.expr

  -- code whose literals fit
  abbrev pub EmittingFits : {X : Type 0} (P : X → Type 0) (m : Emitting X) → Type 0
  EmittingFits P m = IsCode literals top P m

  -- ---- operators

  pub real_fits : (x : t.BExpr) → ExprFits x → ExprFits (real x)
  real_fits (t.Int n) h = h
  real_fits x h = h

  as_real_fits : (x : Operand) → OperandFits x → OperandFits (as_real x)
  as_real_fits x h = by_type (same_base x.base base.Int)
    where
      by_type : (q : Bool) → OperandFits (if q then record { expr = real x.expr; base = base.Real } else x)
      by_type true = real_fits x.expr h
      by_type false = h

  product_fits : (x y : Operand) → OperandFits x → OperandFits y → OperandFits (product_operand x y)
  product_fits x y h i = by_type (same_base x.base y.base)
    where
      by_type : (q : Bool) → OperandFits (if q then plain_operand o.Mul x y else plain_operand o.Mul (as_real x) (as_real y))
      by_type true = (h, i)
      by_type false = (as_real_fits x h, as_real_fits y i)

  pub operand_fits : (f : Op) (x y : Operand) → OperandFits x → OperandFits y → OperandFits (operand_of f x y)
  operand_fits o.Mul x y h i = product_fits x y h i
  operand_fits f x y h i = (h, i)

  pub quotient_fits : (f : Op) (x : Operand) (d : t.BExpr) → OperandFits x → ExprFits d → OperandFits (quotient_operand f x d)
  quotient_fits o.Divide x d h i = (as_real_fits x h, real_fits d i)
  quotient_fits f x d h i = (h, i)

  -- ---- the code

  mutual
    pub code_fits : (k : Kinds) (p : Place) (g : Guard) (a : e.Expr) → ViperLiteralsFit a → EmittingFits OperandFits (code k p g a)
    code_fits k p g (e.Var x) l = gives_has literals top tt
    code_fits k p g (e.Int n) l = gives_has literals top l
    code_fits k p g (e.Bool q) l = gives_has literals top tt
    code_fits k p g e.Null l = gives_has literals top tt
    code_fits k p g (e.Part q) l = gives_has literals top l
    code_fits k p g (e.Neg a) l = then_has literals top (code_fits k p g a l) (λ x i. gives_has literals top {x = record { expr = t.Neg x.expr; base = x.base }} i)
    code_fits k p g (e.Not a) l = then_has literals top (code_fits k p g a l) (λ x i. gives_has literals top {x = record { expr = t.Not x.expr; base = base.Bool }} i)
    code_fits k p g (e.Bin f a d at) l = in_class_has literals top (class_of f) p g f at (code k p g a) (λ h. code k p h d) 0 refl (omega arith) (code_fits k p g a l.0) (λ h. code_fits k p h d l.1) (λ x i. i) (λ x i. i)
        (λ is i y j. (tt, j)) (λ is x y c i j k. quotient_fits f x c i k) (λ is x y i j. operand_fits f x y i j)
    code_fits k p g (e.Choose a d f) l = then_has literals top (code_fits k p g a l.0) (λ x i. choose_has literals top g x.expr (λ h. code k p h d) (λ h. code k p h f) chosen_operand 0 (omega arith) (omega arith) i
        (λ h. code_fits k p h d l.1) (λ h. code_fits k p h f l.2) (λ h v w q r. (tt, q, r)))
    code_fits k p g (e.Field a f at) l = then_has literals top (code_fits k p g a l) (λ x i. read_has literals top k p g f at x 0 (omega arith) (omega arith) i (λ r j. (j, tt)))
    code_fits k p g (e.Old a) l = code_fits k (with_now p.old p) g a l
    code_fits k p g (e.Unfolding o) l = unfolding_fits k p g o l

    unfolding_fits : (k : Kinds) (p : Place) (g : Guard) (o : e.Opened) → OpenedFits o → EmittingFits OperandFits (unfolding_code k p g o)
    unfolding_fits k p g (e.opened q args amount body inner at) fit = then_has literals top (codes_fit k p g args fit.0) (λ xs i. then_has literals top (code_fits k p g amount fit.1) (λ m j.
        then_has literals top (located_has literals top 0 xs i) (λ l h. then_has literals top (atomic_has literals top 0 m j) (λ a c.
        opening_has literals top k.layout p g q at l a _ 0 (omega arith) (omega arith) h c.sets c.expr (λ own from.
        then_has literals top (body_fits (body_kinds k q) (with_now own (with_vars l.locals p)) g a.expr body from fit.2 c.expr) (λ u any. code_fits k (with_now own p) g inner fit.3))))))

    pub codes_fit : (k : Kinds) (p : Place) (g : Guard) (xs : e.Exprs) → ExprsFit xs → EmittingFits (AreAll literals 0) (codes k p g xs)
    codes_fit k p g e.none l = gives_has literals top tt
    codes_fit k p g (e.more a rest) l = then_has literals top (code_fits k p g a l.0) (λ x i. then_has literals top (codes_fit k p g rest l.1) (λ xs j. gives_has literals top {x = x ∷ xs} (i, j)))

    pub amount_fits : (k : Kinds) (p : Place) (g : Guard) (m : e.Amt) → AmountFits m → EmittingFits OperandFits (amount_code k p g m)
    amount_fits k p g (e.Is a) l = code_fits k p g a l
    amount_fits k p g e.Wildcard l = gives_has literals top zero_fits

    pub body_fits : (k : Kinds) (p : Place) (g : Guard) (scale : t.BExpr) (a : e.Assertion) (from : ℕ) → AssertionLiteralsFit a → ExprFits scale → EmittingFits Any (body_code k p g scale a from)
    body_fits k p g scale (e.Fact a at) from l scaled = then_has literals top (code_fits k p g a l) (λ x i. fact_has literals top g x.expr from 0 (omega arith) (omega arith) i)
    body_fits k p g scale (e.Acc a f m at) from l scaled =
        then_has literals top (code_fits k p g a l.0) (λ x i. then_has literals top (amount_fits k p g m l.1) (λ q j. acc_has literals top k p g scale f at from x q 0 (omega arith) (omega arith) scaled i j))
    body_fits k p g scale (e.Inst q args m at) from l scaled =
        then_has literals top (codes_fit k p g args l.0) (λ xs i. then_has literals top (amount_fits k p g m l.1) (λ x j. instance_has literals top p g scale q at from xs x 0 (omega arith) (omega arith) scaled i j))
    body_fits k p g scale (e.And a d) from l scaled = then_has literals top (declares_has literals top (plain_type base.Snap)) (λ m any. then_has literals top (declares_has literals top (plain_type base.Snap)) (λ r any.
        then_has literals top (pair_has literals top g from m r (omega arith)) (λ u any. then_has literals top (body_fits k p g scale a m l.0 scaled) (λ u any. body_fits k p g scale d r l.1 scaled))))
    body_fits k p g scale (e.Implies a d) from l scaled = then_has literals top (code_fits k p g a l.0) (λ x i.
        choose_has literals top {P = Any} {Q = Any} g x.expr (λ h. body_code k p h scale d from) (λ h. puts h (one (s.Assume (is_unit from)))) (λ h v w. tt) 0 (omega arith) (omega arith) i
        (λ h. body_fits k p h scale d from l.1 scaled) (λ h. unit_has literals top h from (omega arith)) (λ h v w q r. tt))
    body_fits k p g scale (e.ChooseAssertion a d f) from l scaled = then_has literals top (code_fits k p g a l.0) (λ x i.
        choose_has literals top {P = Any} {Q = Any} g x.expr (λ h. body_code k p h scale d from) (λ h. body_code k p h scale f from) (λ h v w. tt) 0 (omega arith) (omega arith) i
        (λ h. body_fits k p h scale d from l.1 scaled) (λ h. body_fits k p h scale f from l.2 scaled) (λ h v w q r. tt))
