-- The code of a typed expression or body of a formed program can be spelled.
use Rattle.std.proofs.Common.{◌≡◌, ◌+◌, ◌++◌, ℕ, ℤ, pos, false, List, Some, None, inl, inr, slice_get, length, length-append, refl, sym, subst, arith}
use Rattle.vb_value.specs.Fraction.{Fraction}
use Rattle.vb_value.specs.declared.values.Ty.{Ty}
use Rattle.viper_core.specs.Expr as e
use Rattle.viper_core.specs.Formed.{IsFormed}
use Rattle.viper_core.specs.Typing as y
use Rattle.viper_core.specs.Typing.{Context, IsAssertion, IsLiteralPart}
use Rattle.viper_core.proofs.LiteralLaws.{HoldsOfLiterals, typed_literals, assertion_literals}
use Rattle.boogie_tree.specs.Expr as t
use Rattle.boogie_tree.specs.Stmt.{BStmts}
use Rattle.boogie_tree.specs.Program.{BType}
use Rattle.boogie_tree.specs.declared.exprs.BBase.{BBase}
use Rattle.boogie_tree.specs.declared.exprs.BBase.TheVariants as base
use Rattle.boogie_tree.specs.Values.{plain_type}
use Rattle.boogie_meaning.specs.Types as b
use Rattle.boogie_tree.specs.Literals.{IsLiteral, AreBound, LiteralsFit, BlockLiteralsFit}
use Rattle.boogie_tree.specs.Fits.{FitsExpr, FitStmts}
use Rattle.enc_expr.specs.Place.{Place}
use Rattle.moves.specs.Scalars.{base_for}
use Rattle.enc_expr.specs.Kinds.{kinds_in}
use Rattle.enc_expr.specs.Code.{Guard}
use Rattle.enc_expr.specs.Encoding.{code, body_code}
use Rattle.enc_expr.specs.Typed.{HasPlaceTypes, HasGuardType}
use Rattle.enc_expr.proofs.TypedCode.{expression_typed, filling_typed}
use Rattle.enc_expr.specs.Literals.{ViperLiteralsFit, AssertionLiteralsFit}
use Rattle.enc_expr.specs.Fits.{FitsPiece, FitsCode}
use Rattle.boogie_meaning.proofs.FitsLaws.{expression_fits, statements_fit}
use Rattle.enc_expr.proofs.LiteralCode.{zero_fits, one_fits, code_fits, body_fits}

-- ---- the literals of a formed program

number_fits : (n : ℤ) → y.IsLiteral n → IsLiteral n
number_fits (pos n) h = record { natural = n; is = refl; within = let a = h.1 in omega (arith, a) }
number_fits n h = absurd (let a = h.0 in omega (arith, a))

part_fits : (q : Fraction) → IsLiteralPart q → IsLiteral q.num
part_fits q (inl is) = subst (λ (r : Fraction). IsLiteral r.num) (sym is) zero_fits
part_fits q (inr is) = subst (λ (r : Fraction). IsLiteral r.num) (sym is) one_fits

pub literals_hold : HoldsOfLiterals IsLiteral (λ q. IsLiteral q.num)
literals_hold = record { numbers = number_fits; permissions = part_fits }

pub expression_literals : (c : Context) (a : e.Expr) (u : Ty) → IsFormed c.program → y.HasType c a u → ViperLiteralsFit a
expression_literals c a u formed typed = typed_literals IsLiteral (λ q. IsLiteral q.num) literals_hold c formed.typed typed

pub body_literals : (c : Context) (a : e.Assertion) → IsFormed c.program → IsAssertion c a → AssertionLiteralsFit a
body_literals c a formed typed = assertion_literals IsLiteral (λ q. IsLiteral q.num) literals_hold c formed.typed typed

-- ---- what is promised

module _ (ts us : List BType) where
  pub block_fits : (xs : BStmts) → b.IsTyped (ts ++ us) xs → BlockLiteralsFit xs → FitStmts (length ts + length us) xs
  block_fits xs h l = subst (λ (n : ℕ). FitStmts n xs) (length-append ts us) (statements_fit (ts ++ us) xs h l)

  value_fits : (x : t.BExpr) (u : BBase) → b.HasType (ts ++ us) None x u → LiteralsFit x → FitsExpr (length ts + length us) false x
  value_fits x u h l = subst (λ (n : ℕ). FitsExpr n false x) (length-append ts us) (expression_fits (ts ++ us) x u h l)

pub expression_printed : (c : Context) (p : Place) (g : Guard) (a : e.Expr) (u : Ty) (ts : List BType) → IsFormed c.program → y.HasType c a u → HasPlaceTypes c p ts → HasGuardType g ts →
    FitsCode (length ts) (code (kinds_in c) p g a (length ts))
expression_printed c p g a u ts formed typed h guard =
    let m = code (kinds_in c) p g a (length ts) in
    let k = expression_typed c p g a u ts formed typed h guard in
    let l = code_fits AreBound (kinds_in c) p g a (expression_literals c a u formed typed) in
    record { stmts = block_fits ts m.locals m.stmts k.piece.stmts (l.stmts (length ts)); value = value_fits ts m.locals m.value.expr (base_for u) k.value.typed (l.value (length ts)) }

pub body_printed : (c : Context) (p : Place) (g : Guard) (scale : t.BExpr) (a : e.Assertion) (from : ℕ) (ts : List BType) → IsFormed c.program → IsAssertion c a → HasPlaceTypes c p ts → HasGuardType g ts →
    b.HasType ts None scale base.Real → LiteralsFit scale → slice_get ts from ≡ Some (plain_type base.Snap) → FitsPiece (length ts) (body_code (kinds_in c) p g scale a from (length ts))
body_printed c p g scale a from ts formed typed h guard typed_scale literals content =
    let m = body_code (kinds_in c) p g scale a from (length ts) in
    let k = filling_typed c p g scale a from ts formed typed h guard typed_scale content in
    block_fits ts m.locals m.stmts k.stmts ((body_fits AreBound (kinds_in c) p g scale a from (body_literals c a formed typed) literals).stmts (length ts))
