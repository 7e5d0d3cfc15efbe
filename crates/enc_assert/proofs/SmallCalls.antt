-- What the calls write is not longer than the assertion and the scale are large.
use Rattle.std.specs.Bool.{⊤}
use Rattle.std.proofs.Common.{◌∙◌, ◌+◌, ◌*◌, ◌≤◌, ℕ, List, None, sym, subst, length-append, arith}
use Rattle.viper_core.specs.Expr as e
use Rattle.viper_core.specs.Formed.{IsFormed}
use Rattle.viper_core.specs.Size.{assertion_size}
use Rattle.viper_core.specs.Typing.{Context, IsAssertion}
use Rattle.viper_core.specs.Weight.{base_of}
use Rattle.boogie_tree.specs.Expr as t
use Rattle.boogie_tree.specs.Program.{BType}
use Rattle.boogie_tree.specs.declared.exprs.BBase.TheVariants as base
use Rattle.enc_expr.specs.Code.{Emitting, gives, then_emit}
use Rattle.enc_expr.specs.Kinds.{kinds_in}
use Rattle.enc_expr.specs.Nodes.{expr_nodes, written}
use Rattle.enc_expr.specs.Place.{Maps, Place}
use Rattle.enc_expr.specs.ReadOff.{kinds_at, HasNumbers}
use Rattle.enc_expr.specs.Typed.{HasPlaceTypes}
use Rattle.enc_expr.proofs.SmallPieces.{IsSmall, nothing, weigh_atom, join_nodes, gives_small, then_small, puts_small, atomic_small}
use Rattle.enc_assert.specs.Calls.{scale_code, produce_call, consume_call}
use Rattle.enc_assert.specs.Encoding.{produce_code, consume_code}
use Rattle.enc_assert.proofs.CallLaws.{produce_read, consume_read}
use Rattle.enc_assert.proofs.SmallAssertions.{walk_linear, produce_blocks_small, consume_blocks_small}
use Rattle.enc_assert.proofs.WalkLaws.{produce_blocks, consume_blocks, produce_walks, consume_walks}

abbrev IsNode : t.BExpr → Type 0
IsNode q = expr_nodes q ≤ 1

scale_small : (x : t.BExpr) → IsSmall (4 + expr_nodes x) IsNode nothing (scale_code x)
scale_small x = then_small 2 (omega arith) (atomic_small (record { expr = x; base = base.Real }))
    (λ a one. then_small {go = λ u. gives a.expr} 0 (omega arith) (puts_small (2 + weigh_atom a) None a.sets (omega arith)) (λ u any. gives_small one (omega arith)))

-- what goes on with a scale, which is an atom
behind_small : (k n : ℕ) (x : t.BExpr) (go : t.BExpr → Emitting ⊤) → ((q : t.BExpr) (m : ℕ) → expr_nodes q ≤ 1 → written (go q m) ≤ k) → written (then_emit (scale_code x) go n) ≤ k + expr_nodes x + 4
behind_small k n x go small = let m = scale_code x n in let o = go m.value m.next in
    let first = (scale_small x).within n in let rest = small m.value m.next ((scale_small x).value n) in
    let nodes = join_nodes m.stmts o.stmts in let locals = length-append m.locals o.locals in omega (arith, first, rest, nodes, locals)

module _ (c : Context) (p : Place) (us : List BType) (n : ℕ) (formed : IsFormed c.program) (x : t.BExpr) (a : e.Assertion) (typed : IsAssertion c a) (h : HasPlaceTypes c p us) (many : HasNumbers c p) where
  abbrev most : ℕ
  most = 64 * assertion_size (base_of c.program) a

  pub produce_call_linear : written (produce_call us p x a n) ≤ most + expr_nodes x + 4
  produce_call_linear = behind_small most n x (λ q. produce_code (kinds_at p us) p None q a) (λ q m one.
      subst (λ (o : Emitting ⊤). written (o m) ≤ most) (sym (produce_read c p us h many None q a formed typed ∙ produce_walks (kinds_in c) p q None a))
      (walk_linear c p (produce_blocks p q) None a m formed (produce_blocks_small p q one)))

  pub consume_call_linear : (left : Maps) → written (consume_call us p left x a n) ≤ most + expr_nodes x + 4
  consume_call_linear left = behind_small most n x (λ q. consume_code (kinds_at p us) p left None q a) (λ q m one.
      subst (λ (o : Emitting ⊤). written (o m) ≤ most) (sym (consume_read c p us h many left None q a formed typed ∙ consume_walks (kinds_in c) p q left None a))
      (walk_linear c p (consume_blocks p left q) None a m formed (consume_blocks_small p left q one)))
