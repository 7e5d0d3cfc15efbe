-- What the calls write can be spelled.
use Rattle.std.proofs.Common.{List, None, length, arith}
use Rattle.viper_core.specs.Expr as e
use Rattle.viper_core.specs.Formed.{IsFormed}
use Rattle.viper_core.specs.Typing.{Context, IsAssertion}
use Rattle.boogie_tree.specs.Expr as t
use Rattle.boogie_tree.specs.Literals.{AreBound, LiteralsFit}
use Rattle.boogie_tree.specs.Program.{BType}
use Rattle.boogie_tree.specs.declared.exprs.BBase.TheVariants as base
use Rattle.boogie_meaning.specs.Types.{HasType}
use Rattle.enc_expr.specs.Fits.{FitsPiece}
use Rattle.enc_expr.specs.Literals.{AssertionLiteralsFit}
use Rattle.enc_expr.specs.Place.{Maps, Place}
use Rattle.enc_expr.specs.ReadOff.{kinds_at, HasNumbers}
use Rattle.enc_expr.specs.Typed.{HasPlaceTypes}
use Rattle.enc_expr.proofs.Property.{Property}
use Rattle.enc_expr.proofs.PropertyPieces.{Any, then_has}
use Rattle.enc_expr.proofs.LiteralCode.{top, literals, EmittingFits}
use Rattle.enc_expr.proofs.PrintedCode.{body_literals, block_fits}
use Rattle.enc_assert.specs.Calls.{produce_call, consume_call, forget_call}
use Rattle.enc_assert.specs.Encoding.{produce_code, consume_code}
use Rattle.enc_assert.specs.Typed.{HasHeldTypes}
use Rattle.enc_assert.proofs.LiteralAssertions.{produce_fits, consume_fits, forget_fits, keys_bound}
use Rattle.enc_assert.proofs.PropertyAssertions.{scale_has}
use Rattle.enc_assert.proofs.TypedCalls.{produce_call_typed, consume_call_typed, forget_call_typed}

abbrev K : Property
K = literals AreBound

produce_call_fits : (us : List BType) (p : Place) (x : t.BExpr) (a : e.Assertion) → AssertionLiteralsFit a → LiteralsFit x → EmittingFits AreBound Any (produce_call us p x a)
produce_call_fits us p x a l h = then_has K top {go = λ q. produce_code (kinds_at p us) p None q a} (scale_has K top 0 x (omega arith) h) (λ q k. produce_fits AreBound (kinds_at p us) p None q a l k)

consume_call_fits : (us : List BType) (p : Place) (left : Maps) (x : t.BExpr) (a : e.Assertion) → AssertionLiteralsFit a → LiteralsFit x → EmittingFits AreBound Any (consume_call us p left x a)
consume_call_fits us p left x a l h = then_has K top {go = λ q. consume_code (kinds_at p us) p left None q a} (scale_has K top 0 x (omega arith) h) (λ q k. consume_fits AreBound (kinds_at p us) p left None q a l k)

module _ (c : Context) (p : Place) (us : List BType) (formed : IsFormed c.program) (x : t.BExpr) (a : e.Assertion) (typed : IsAssertion c a) (h : HasPlaceTypes c p us) (many : HasNumbers c p)
    (scales : HasType us None x base.Real) (literals : LiteralsFit x) where
  pub produce_call_printed : FitsPiece (length us) (produce_call us p x a (length us))
  produce_call_printed =
      let m = produce_call us p x a (length us) in
      block_fits us m.locals m.stmts (produce_call_typed c p us formed x a typed h many scales).stmts ((produce_call_fits us p x a (body_literals c a formed typed) literals).stmts (length us))

  pub consume_call_printed : (left : Maps) → HasHeldTypes c.program.layout left us → FitsPiece (length us) (consume_call us p left x a (length us))
  consume_call_printed left held =
      let m = consume_call us p left x a (length us) in
      block_fits us m.locals m.stmts (consume_call_typed c p us formed x a typed h many scales left held).stmts
      ((consume_call_fits us p left x a (body_literals c a formed typed) literals).stmts (length us))

pub forget_call_printed : (c : Context) (p : Place) (us : List BType) → IsFormed c.program → HasPlaceTypes c p us → HasNumbers c p → FitsPiece (length us) (forget_call us p (length us))
forget_call_printed c p us formed h many =
    let m = forget_call us p (length us) in block_fits us m.locals m.stmts (forget_call_typed c p us formed h many).stmts ((forget_fits AreBound (kinds_at p us).layout p.now (keys_bound (kinds_at p us).layout.keys)).stmts (length us))
