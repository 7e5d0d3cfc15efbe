-- What the calls write has few brackets open at once.
use Rattle.std.specs.Bool.{⊤}
use Rattle.std.proofs.Common.{◌≡◌, ◌+◌, ◌≤◌, max, ℕ, List, None, sym, subst, arith}
use Rattle.vb_base.specs.Limits.{max_term_depth}
use Rattle.viper_core.specs.Depth.{assertion_depth}
use Rattle.viper_core.specs.Expr as e
use Rattle.viper_core.specs.Formed.{IsFormed}
use Rattle.viper_core.specs.Typing.{Context, IsAssertion}
use Rattle.boogie_tree.specs.Expr as t
use Rattle.boogie_tree.specs.Nested.{expr_depth, stmts_depth}
use Rattle.boogie_tree.specs.Program.{BType}
use Rattle.enc_expr.specs.Code.{Emitting, then_emit}
use Rattle.enc_expr.specs.Place.{Maps, Place}
use Rattle.enc_expr.specs.ReadOff.{kinds_at, HasNumbers}
use Rattle.enc_expr.specs.Shallow.{IsShallow}
use Rattle.enc_expr.specs.Typed.{HasPlaceTypes}
use Rattle.enc_expr.proofs.ShallowCode.{brackets, join_low}
use Rattle.enc_assert.specs.Calls.{scale_code, produce_call, consume_call}
use Rattle.enc_assert.specs.Encoding.{produce_code, consume_code}
use Rattle.enc_assert.proofs.CallLaws.{produce_read, consume_read}
use Rattle.enc_assert.proofs.PropertyAssertions.{scale_has}
use Rattle.enc_assert.proofs.ShallowAssertions.{produce_shallow, consume_shallow}

-- what goes on with a scale, which is an atom
behind_shallow : (d n : ℕ) (x : t.BExpr) (go : t.BExpr → Emitting ⊤) → ((q : t.BExpr) (m : ℕ) → expr_depth q ≡ 0 → stmts_depth (go q m).stmts ≤ 1 + max max_term_depth d) → IsShallow (max d (expr_depth x)) (then_emit (scale_code x) go n)
behind_shallow d n x go low = let top = 1 + max max_term_depth (max d (expr_depth x)) in let m = scale_code x n in
    let first = scale_has brackets top (expr_depth x) x (omega arith) (omega arith) in let flat = first.value n in
    let rest = low m.value m.next (omega (arith, flat)) in
    record { stmts = join_low top m.stmts (go m.value m.next).stmts (first.stmts n) (omega (arith, rest)) }

module _ (c : Context) (p : Place) (us : List BType) (n : ℕ) (formed : IsFormed c.program) (x : t.BExpr) (a : e.Assertion) (typed : IsAssertion c a) (h : HasPlaceTypes c p us) (many : HasNumbers c p) where
  pub produce_call_shallow : IsShallow (max (assertion_depth a) (expr_depth x)) (produce_call us p x a n)
  produce_call_shallow = behind_shallow (assertion_depth a) n x (λ q. produce_code (kinds_at p us) p None q a) (λ q m flat.
      subst (λ (o : Emitting ⊤). stmts_depth (o m).stmts ≤ 1 + max max_term_depth (assertion_depth a)) (sym (produce_read c p us h many None q a formed typed)) (produce_shallow c p None q a m formed typed flat).stmts)

  pub consume_call_shallow : (left : Maps) → IsShallow (max (assertion_depth a) (expr_depth x)) (consume_call us p left x a n)
  consume_call_shallow left = behind_shallow (assertion_depth a) n x (λ q. consume_code (kinds_at p us) p left None q a) (λ q m flat.
      subst (λ (o : Emitting ⊤). stmts_depth (o m).stmts ≤ 1 + max max_term_depth (assertion_depth a)) (sym (consume_read c p us h many left None q a formed typed)) (consume_shallow c p left None q a m formed typed flat).stmts)
