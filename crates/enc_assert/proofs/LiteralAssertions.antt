-- The literals of the code of assertions and of forgetting: they can be spelled where those of the assertion can. Variables that a
-- `forall` binds are the keys of maps, of which as much is true as is asked. So the code can be spelled.
use Rattle.std.specs.Bool.{⊤}
use Rattle.std.proofs.Common.{◌≢◌, List, [], ◌∷◌, Some, None, length, sym, subst, arith}
use Rattle.vb_value.specs.Layout.{Layout}
use Rattle.vb_value.specs.declared.values.Ty.{Ty}
use Rattle.viper_core.specs.Expr as e
use Rattle.viper_core.specs.Formed.{IsFormed}
use Rattle.viper_core.specs.Program.{Program}
use Rattle.viper_core.specs.Typing.{Context, IsAssertion}
use Rattle.boogie_tree.specs.Expr as t
use Rattle.boogie_tree.specs.Program.{BType}
use Rattle.boogie_tree.specs.Literals.{AreBound, LiteralsFit}
use Rattle.boogie_tree.specs.declared.exprs.BBase.{BBase}
use Rattle.boogie_tree.specs.declared.exprs.BBase.TheVariants as base
use Rattle.boogie_meaning.specs.Types as b
use Rattle.moves.specs.Maps.{index_types}
use Rattle.enc_expr.specs.Place.{Maps, Place}
use Rattle.enc_expr.specs.Kinds.{Kinds, kinds_in}
use Rattle.enc_expr.specs.Code.{Emitting, Guard}
use Rattle.enc_expr.specs.Fits.{FitsPiece}
use Rattle.enc_expr.specs.Literals.{AssertionLiteralsFit}
use Rattle.enc_expr.specs.Typed.{HasStateTypes, HasPlaceTypes, HasGuardType}
use Rattle.enc_expr.proofs.Property.{Property}
use Rattle.enc_expr.proofs.PropertyPieces.{Any, higher, then_has, puts_has, guards_has}
use Rattle.enc_expr.proofs.PropertyForms.{choose_has}
use Rattle.enc_expr.proofs.LiteralCode.{top, literals, ExprFits, EmittingFits, code_fits, codes_fit, amount_fits}
use Rattle.enc_expr.proofs.PrintedCode.{body_literals, block_fits}
use Rattle.enc_assert.specs.Encoding.{produce_code, consume_code, forget_code}
use Rattle.enc_assert.specs.Typed.{HasHeldTypes}
use Rattle.enc_assert.proofs.WalkLaws.{Blocks, walk, produce_blocks, consume_blocks, produce_walks, consume_walks}
use Rattle.enc_assert.proofs.PropertyAssertions.{BlocksHave, KeysHave, produce_blocks_have, consume_blocks_have, field_has, instance_has, amount_walk_has, forget_has}
use Rattle.enc_assert.proofs.TypedAssertions.{produce_typed, consume_typed}
use Rattle.enc_assert.proofs.ForgetCode.{forget_typed}

-- an instance without arguments has one index
pub some_type : (us : List Ty) → index_types us ≢ []
some_type [] e = absurd cc
some_type (u ∷ us) e = absurd cc

module _ (B : List BBase → Type 0) where
  abbrev K : Property
  K = literals B

  -- ---- the code

  module _ (k : Kinds) (p : Place) (w : Blocks) (blocks : BlocksHave K w) where
    walk_fits : (g : Guard) (a : e.Assertion) → AssertionLiteralsFit a → EmittingFits B Any (walk k p w g a)
    walk_fits g (e.Fact a at) l = then_has K top (code_fits B k p g a l) (λ x i. puts_has K top 1 g (w.fact at x.expr) (blocks.fact 1 at x.expr (omega arith) i) (omega arith))
    walk_fits g (e.Acc a f m at) l = then_has K top (code_fits B k p g a l.0) (λ x i. then_has K top (amount_fits B k p g m l.1) (λ y j. then_has K top (field_has K top 0 f x i) (λ z h.
        amount_walk_has K top w 0 g at m y z blocks (omega arith) (omega arith) j h)))
    walk_fits g (e.Inst q args m at) l = then_has K top (codes_fit B k p g args l.0) (λ xs i. then_has K top (amount_fits B k p g m l.1) (λ y j. then_has K top (instance_has K top 0 q xs i) (λ z h.
        amount_walk_has K top w 0 g at m y z blocks (omega arith) (omega arith) j h)))
    walk_fits g (e.And a d) l = then_has K top (walk_fits g a l.0) (λ u any. walk_fits g d l.1)
    walk_fits g (e.Implies a d) l = then_has K top (code_fits B k p g a l.0) (λ x i. then_has K top (guards_has K top 0 g x.expr i (omega arith)) (λ m any. walk_fits (Some m) d l.1))
    walk_fits g (e.ChooseAssertion a d f) l = then_has K top (code_fits B k p g a l.0) (λ x i.
        choose_has K top {P = Any} {Q = Any} g x.expr (λ m. walk k p w m d) (λ m. walk k p w m f) (λ m u v. tt) 0 (omega arith) (omega arith) i (λ m. walk_fits m d l.1) (λ m. walk_fits m f l.2) (λ m u v q r. tt))

  -- ---- what is promised

  pub produce_fits : (k : Kinds) (p : Place) (g : Guard) (scale : t.BExpr) (a : e.Assertion) → AssertionLiteralsFit a → ExprFits B scale → EmittingFits B Any (produce_code k p g scale a)
  produce_fits k p g scale a l h = subst (λ (m : Emitting ⊤). EmittingFits B Any m) (sym (produce_walks k p scale g a)) (walk_fits k p (produce_blocks p scale) (produce_blocks_have K p scale h) g a l)

  pub consume_fits : (k : Kinds) (p : Place) (left : Maps) (g : Guard) (scale : t.BExpr) (a : e.Assertion) → AssertionLiteralsFit a → ExprFits B scale → EmittingFits B Any (consume_code k p left g scale a)
  consume_fits k p left g scale a l h = subst (λ (m : Emitting ⊤). EmittingFits B Any m) (sym (consume_walks k p scale left g a)) (walk_fits k p (consume_blocks p left scale) (consume_blocks_have K p left scale h) g a l)

  pub forget_fits : (layout : Layout) (m : Maps) → KeysHave K layout.keys → EmittingFits B Any (forget_code layout m)
  forget_fits layout m fit = higher K (omega arith) (forget_has K layout m fit)

-- the keys of each map are some
pub keys_bound : (keys : List (List Ty)) → KeysHave (literals AreBound) keys
keys_bound keys = record { heap = λ e. absurd cc; contents = λ q us there. some_type us }

-- ---- and of printing

pub produce_printed : (c : Context) (p : Place) (g : Guard) (scale : t.BExpr) (a : e.Assertion) (ts : List BType) → IsFormed c.program → IsAssertion c a → HasPlaceTypes c p ts → HasGuardType g ts →
    b.HasType ts None scale base.Real → LiteralsFit scale → FitsPiece (length ts) (produce_code (kinds_in c) p g scale a (length ts))
produce_printed c p g scale a ts formed typed h guard scales literals =
    let m = produce_code (kinds_in c) p g scale a (length ts) in
    block_fits ts m.locals m.stmts (produce_typed c p g scale a ts formed typed h guard scales).stmts ((produce_fits AreBound (kinds_in c) p g scale a (body_literals c a formed typed) literals).stmts (length ts))

pub consume_printed : (c : Context) (p : Place) (left : Maps) (g : Guard) (scale : t.BExpr) (a : e.Assertion) (ts : List BType) → IsFormed c.program → IsAssertion c a → HasPlaceTypes c p ts →
    HasHeldTypes c.program.layout left ts → HasGuardType g ts → b.HasType ts None scale base.Real → LiteralsFit scale → FitsPiece (length ts) (consume_code (kinds_in c) p left g scale a (length ts))
consume_printed c p left g scale a ts formed typed h held guard scales literals =
    let m = consume_code (kinds_in c) p left g scale a (length ts) in
    block_fits ts m.locals m.stmts (consume_typed c p left g scale a ts formed typed h held guard scales).stmts ((consume_fits AreBound (kinds_in c) p left g scale a (body_literals c a formed typed) literals).stmts (length ts))

pub forget_printed : (p : Program) (m : Maps) (ts : List BType) → IsFormed p → HasStateTypes p.layout m ts → FitsPiece (length ts) (forget_code p.layout m (length ts))
forget_printed p m ts formed h =
    let code = forget_code p.layout m (length ts) in
    block_fits ts code.locals code.stmts (forget_typed p m ts formed h).stmts ((forget_fits AreBound p.layout m (keys_bound p.layout.keys)).stmts (length ts))
