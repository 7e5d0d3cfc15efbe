-- The code of folding and unfolding can be spelled.
use Rattle.std.proofs.Common.{Bool as Truth, true, false, List, None, length, if◌then◌else◌, arith}
use Rattle.vb_value.specs.declared.values.Ty.TheVariants as ty
use Rattle.viper_core.specs.declared.exprs.Op.{Op}
use Rattle.viper_core.specs.Expr as e
use Rattle.viper_core.specs.Formed.{IsFormed, predicate_context}
use Rattle.viper_core.specs.Literals.{AllExprsLiterals, AllAmountLiterals}
use Rattle.viper_core.specs.Stmt.{FoldStmt}
use Rattle.viper_core.specs.Typing.{Context, IsFold}
use Rattle.viper_core.proofs.FormedLaws.{predicate_body_of_typed}
use Rattle.viper_meaning.specs.Operators.{Class, Lazy, Division, Plain, class_of}
use Rattle.boogie_tree.specs.Expr as t
use Rattle.boogie_tree.specs.Literals.{IsLiteral, IndexHas, AreBound}
use Rattle.boogie_tree.specs.Program.{BType}
use Rattle.boogie_tree.specs.declared.exprs.BBase.{BBase}
use Rattle.boogie_tree.specs.declared.exprs.BOp.TheVariants as op
use Rattle.enc_expr.specs.Fits.{FitsPiece}
use Rattle.enc_expr.specs.Literals.{ViperLiteralsFit, AssertionLiteralsFit}
use Rattle.enc_expr.specs.Place.{Place, number, with_now, with_vars}
use Rattle.enc_expr.specs.Kinds.{Kinds, kinds_in, type_at, body_kinds}
use Rattle.enc_expr.specs.Pieces.{Operand, at_one, zero_real, is_one}
use Rattle.enc_expr.specs.Encoding.{leaf}
use Rattle.enc_expr.specs.Plain.{plain_by, plain, plain_more, plain_index, plain_amount, contained_by, content_expr}
use Rattle.enc_expr.specs.Typed.{HasPlaceTypes}
use Rattle.enc_expr.proofs.PropertyPieces.{Any}
use Rattle.enc_expr.proofs.LiteralCode.{top, literals, zero_fits, leaf_fits, ExprFits, OperandFits, EmittingFits, operand_fits, quotient_fits, code_fits, codes_fit, body_fits}
use Rattle.enc_expr.proofs.PrintedCode.{literals_hold, body_literals, expression_literals, block_fits}
use Rattle.viper_core.proofs.LiteralLaws.{exprs_literals}
use Rattle.enc_assert.proofs.LiteralAssertions.{consume_fits}
use Rattle.enc_fold.specs.Encoding.{fold_code, unfold_code}
use Rattle.enc_fold.specs.Spelled.{FoldLiteralsFit}
use Rattle.enc_fold.proofs.PropertyFold.{fold_has, unfold_has}
use Rattle.enc_fold.proofs.TypedFold.{fold_typed, unfold_typed}

module _ (B : List BBase → Type 0) where
  -- ---- values without checks

  class_fits : (q : Class) (f : Op) (x z : Operand) → OperandFits B x → OperandFits B z → OperandFits B (plain_by q f x z)
  class_fits Lazy f x z h i = (h, i)
  class_fits Division f x z h i = quotient_fits B f x z.expr h i
  class_fits Plain f x z h i = operand_fits B f x z h i

  mutual
    plain_fits : (k : Kinds) (p : Place) (a : e.Expr) → ViperLiteralsFit a → OperandFits B (plain k p a)
    plain_fits k p (e.Var x) h = tt
    plain_fits k p (e.Int n) h = h
    plain_fits k p (e.Bool b) h = tt
    plain_fits k p e.Null h = tt
    plain_fits k p (e.Part q) h = h
    plain_fits k p (e.Neg a) h = plain_fits k p a h
    plain_fits k p (e.Not a) h = plain_fits k p a h
    plain_fits k p (e.Bin f a b at) h = class_fits (class_of f) f (plain k p a) (plain k p b) (plain_fits k p a h.0) (plain_fits k p b h.1)
    plain_fits k p (e.Choose a b c) h = (plain_fits k p a h.0, plain_fits k p b h.1, plain_fits k p c h.2)
    plain_fits k p (e.Field a f at) h = (plain_fits k p a h, tt)
    plain_fits k p (e.Old a) h = plain_fits k (with_now p.old p) a h
    plain_fits k p (e.Unfolding (e.opened q args amount body inner at)) h = plain_fits k p inner h.3

  more_fit : (k : Kinds) (p : Place) (xs : e.Exprs) → AllExprsLiterals IsLiteral (λ q. IsLiteral q.num) xs → IndexHas IsLiteral B (plain_more k p xs)
  more_fit k p e.none h = tt
  more_fit k p (e.more a rest) h = (plain_fits k p a h.0, more_fit k p rest h.1)

  index_of_fits : (k : Kinds) (p : Place) (xs : e.Exprs) → AllExprsLiterals IsLiteral (λ q. IsLiteral q.num) xs → IndexHas IsLiteral B (plain_index k p xs)
  index_of_fits k p e.none h = (zero_fits, tt)
  index_of_fits k p (e.more a rest) h = more_fit k p (e.more a rest) h

  amount_of_fits : (k : Kinds) (p : Place) (m : e.Amt) → AllAmountLiterals IsLiteral (λ q. IsLiteral q.num) m → ExprFits B (plain_amount k p m)
  amount_of_fits k p (e.Is a) h = plain_fits k p a h
  amount_of_fits k p e.Wildcard h = zero_fits

  contained_fits : (x z : t.BExpr) → ExprFits B x → ExprFits B z → ExprFits B (contained_by x z)
  contained_fits x z h i = by_literal (is_one x)
    where
      by_literal : (one : Truth) → ExprFits B (if one then z else t.If (t.Bin op.Gt x zero_real) z t.Unit)
      by_literal true = i
      by_literal false = ((h, zero_fits), i, tt)

  content_fits : (k : Kinds) (p : Place) (a : e.Assertion) → AssertionLiteralsFit a → ExprFits B (content_expr k p a)
  content_fits k p (e.Fact a at) h = tt
  content_fits k p (e.Acc a f m at) h =
      let x = at_one (number p.now.heap f) (plain k p a).expr in
      contained_fits (plain_amount k p m) (leaf (type_at k.layout.fields f) x) (amount_of_fits k p m h.1) (leaf_fits B (type_at k.layout.fields f) x (plain_fits k p a h.0, tt))
  content_fits k p (e.Inst q args m at) h = contained_fits (plain_amount k p m) (t.At (number p.now.content q) (plain_index k p args)) (amount_of_fits k p m h.1) (index_of_fits k p args h.0)
  content_fits k p (e.And a b) h = (content_fits k p a h.0, content_fits k p b h.1)
  content_fits k p (e.Implies a b) h = (plain_fits k p a h.0, content_fits k p b h.1, tt)
  content_fits k p (e.ChooseAssertion a b c) h = (plain_fits k p a h.0, content_fits k p b h.1, content_fits k p c h.2)

  -- ---- folding and unfolding

  module _ (k : Kinds) (p : Place) (f : FoldStmt) (body : e.Assertion) (h : FoldLiteralsFit f) (i : AssertionLiteralsFit body) where
    pub fold_code_fits : EmittingFits B Any (fold_code k p f body)
    fold_code_fits = fold_has (literals B) top k p f body 0 (omega arith) (omega arith) (codes_fit B k p None f.args h.args) (code_fits B k p None f.amount h.amount)
        (λ start is q j. consume_fits B (body_kinds k f.predicate) (with_vars is (with_now start p)) p.now None q body i j) (λ start is. content_fits (body_kinds k f.predicate) (with_vars is (with_now start p)) body i)

    pub unfold_code_fits : EmittingFits B Any (unfold_code k p f body)
    unfold_code_fits = unfold_has (literals B) top k p f body 0 (omega arith) (omega arith) (codes_fit B k p None f.args h.args) (code_fits B k p None f.amount h.amount)
        (λ is q from j. body_fits B (body_kinds k f.predicate) (with_vars is p) None q body from i j)

-- ---- what is promised

module _ (c : Context) (p : Place) (f : FoldStmt) (formed : IsFormed c.program) (typed : IsFold c f) where
  statement_fits : FoldLiteralsFit f
  statement_fits = record {
    args = exprs_literals IsLiteral (λ q. IsLiteral q.num) literals_hold c formed.typed typed.args;
    amount = expression_literals c f.amount ty.Perm formed typed.amount;
  }

  the_body_fits : AssertionLiteralsFit typed.body
  the_body_fits = body_literals (predicate_context c.program typed.predicate) typed.body formed
      (predicate_body_of_typed c.program formed.typed f.predicate typed.predicate typed.body typed.exists typed.has_body)

  pub fold_fits : (B : List BBase → Type 0) → EmittingFits B Any (fold_code (kinds_in c) p f typed.body)
  fold_fits B = fold_code_fits B (kinds_in c) p f typed.body statement_fits the_body_fits

  pub unfold_fits : (B : List BBase → Type 0) → EmittingFits B Any (unfold_code (kinds_in c) p f typed.body)
  unfold_fits B = unfold_code_fits B (kinds_in c) p f typed.body statement_fits the_body_fits

module _ (c : Context) (p : Place) (f : FoldStmt) (ts : List BType) (formed : IsFormed c.program) (typed : IsFold c f) (h : HasPlaceTypes c p ts) where
  pub fold_printed : FitsPiece (length ts) (fold_code (kinds_in c) p f typed.body (length ts))
  fold_printed =
      let m = fold_code (kinds_in c) p f typed.body (length ts) in
      block_fits ts m.locals m.stmts (fold_typed c p f ts formed typed h).stmts ((fold_fits c p f formed typed AreBound).stmts (length ts))

  pub unfold_printed : FitsPiece (length ts) (unfold_code (kinds_in c) p f typed.body (length ts))
  unfold_printed =
      let m = unfold_code (kinds_in c) p f typed.body (length ts) in
      block_fits ts m.locals m.stmts (unfold_typed c p f ts formed typed h).stmts ((unfold_fits c p f formed typed AreBound).stmts (length ts))
