-- What the calls write is well-typed behind the locals so far.
use Rattle.std.specs.Bool.{⊤}
use Rattle.std.proofs.Common.{◌≡◌, ◌∙◌, List, ◌++◌, None, length, sym, subst}
use Rattle.viper_core.specs.Expr as e
use Rattle.viper_core.specs.Formed.{IsFormed}
use Rattle.viper_core.specs.Typing.{Context, IsAssertion}
use Rattle.boogie_tree.specs.Expr as t
use Rattle.boogie_tree.specs.Program.{BType}
use Rattle.boogie_tree.specs.declared.exprs.BBase.TheVariants as base
use Rattle.boogie_meaning.specs.Types.{HasType}
use Rattle.enc_expr.specs.Code.{Emitting, gives, then_emit}
use Rattle.enc_expr.specs.Kinds.{kinds_in}
use Rattle.enc_expr.specs.Pieces.{Operand}
use Rattle.enc_expr.specs.Place.{Maps, Place}
use Rattle.enc_expr.specs.ReadOff.{kinds_at, HasNumbers}
use Rattle.enc_expr.specs.Typed.{HasPlaceTypes, IsTypedPiece}
use Rattle.enc_expr.proofs.KeyedCode.{IsKeyed, states_keyed, gives_keyed, then_keyed, puts_keyed, atomic_keyed}
use Rattle.enc_expr.proofs.TypedCode.{more_place_types}
use Rattle.enc_expr.proofs.TypedMore.{type_with_more}
use Rattle.enc_expr.proofs.TypedPieces.{IsTypedCode, Any, gives_typed, then_typed, puts_typed, atomic_typed}
use Rattle.enc_assert.specs.Calls.{scale_code, produce_call, consume_call, forget_call}
use Rattle.enc_assert.specs.Encoding.{produce_code, consume_code}
use Rattle.enc_assert.specs.Typed.{HasHeldTypes}
use Rattle.enc_assert.proofs.CallLaws.{produce_read, consume_read, forget_read}
use Rattle.enc_assert.proofs.ForgetCode.{forget_typed}
use Rattle.enc_assert.proofs.TypedAssertions.{produce_blocks_typed, consume_blocks_typed, walk_typed, walk_keyed, more_held_types, held_types, piece_typed}
use Rattle.enc_assert.proofs.WalkLaws.{Blocks, walk, produce_blocks, consume_blocks, produce_walks, consume_walks}

abbrev scale_operand : t.BExpr → Operand
scale_operand x = record { expr = x; base = base.Real }

scale_typed : (ts : List BType) (x : t.BExpr) → HasType ts None x base.Real → IsTypedCode ts (λ (q : t.BExpr). HasType ts None q base.Real) (scale_code x)
scale_typed ts x h = then_typed ts (atomic_typed ts (scale_operand x) h) (λ a k. then_typed ts {go = λ u. gives a.expr} (puts_typed ts None a.sets tt k.sets) (λ u any. gives_typed ts k.typed))

scale_keyed : (x : t.BExpr) → IsKeyed (scale_code x)
scale_keyed x = then_keyed (atomic_keyed (scale_operand x)) (λ a. then_keyed {go = λ u. gives a.expr} (puts_keyed None a.sets) (λ u. gives_keyed a.expr))

module _ (c : Context) (p : Place) (us : List BType) (formed : IsFormed c.program) (x : t.BExpr) (a : e.Assertion) (typed : IsAssertion c a) (h : HasPlaceTypes c p us) (many : HasNumbers c p)
    (scales : HasType us None x base.Real) where
  -- a walk behind its scale
  behind_typed : (w : t.BExpr → Blocks) (go : t.BExpr → Emitting ⊤) → ((q : t.BExpr) → go q ≡ walk (kinds_in c) p (w q) None a) →
      ((ws : List BType) (q : t.BExpr) → HasType (us ++ ws) None q base.Real → IsTypedCode (us ++ ws) Any (walk (kinds_in c) p (w q) None a)) → IsTypedPiece us (then_emit (scale_code x) go (length us))
  behind_typed w go same blocks = let m = then_emit (scale_code x) go in let ws = (m (length us)).locals in
      piece_typed us m (then_keyed (scale_keyed x) (λ q. subst IsKeyed (sym (same q)) (walk_keyed (kinds_in c) p (w q) None a (states_keyed c.program formed.typed))))
      (then_typed (us ++ ws) (scale_typed (us ++ ws) x (type_with_more us ws scales)) (λ q k. subst (IsTypedCode (us ++ ws) Any) (sym (same q)) (blocks ws q k)))

  pub produce_call_typed : IsTypedPiece us (produce_call us p x a (length us))
  produce_call_typed = behind_typed (λ q. produce_blocks p q) (λ q. produce_code (kinds_at p us) p None q a)
      (λ q. produce_read c p us h many None q a formed typed ∙ produce_walks (kinds_in c) p q None a)
      (λ ws q k. walk_typed (us ++ ws) c p (produce_blocks p q) formed (more_place_types us ws c p h)
      (produce_blocks_typed (us ++ ws) c.program.layout p q (more_held_types us ws c.program.layout p.now (held_types us c.program.layout p.now h.now)) k) None a typed tt)

  pub consume_call_typed : (left : Maps) → HasHeldTypes c.program.layout left us → IsTypedPiece us (consume_call us p left x a (length us))
  consume_call_typed left held = behind_typed (λ q. consume_blocks p left q) (λ q. consume_code (kinds_at p us) p left None q a)
      (λ q. consume_read c p us h many left None q a formed typed ∙ consume_walks (kinds_in c) p q left None a)
      (λ ws q k. walk_typed (us ++ ws) c p (consume_blocks p left q) formed (more_place_types us ws c p h)
      (consume_blocks_typed (us ++ ws) c.program.layout p left q (more_held_types us ws c.program.layout left held) k) None a typed tt)

pub forget_call_typed : (c : Context) (p : Place) (us : List BType) → IsFormed c.program → HasPlaceTypes c p us → HasNumbers c p → IsTypedPiece us (forget_call us p (length us))
forget_call_typed c p us formed h many = subst (λ (m : Emitting ⊤). IsTypedPiece us (m (length us))) (sym (forget_read c p us h many)) (forget_typed c.program p.now us formed h.now)
