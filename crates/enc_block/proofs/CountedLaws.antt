-- The code of each statement counts its locals.
use Rattle.std.specs.Bool.{⊤}
use Rattle.std.proofs.Common.{ℕ, List, [], ◌∷◌, Option, Some, None, slice_get}
use Rattle.vb_base.specs.declared.places.Pos.{Pos}
use Rattle.viper_core.specs.Expr as e
use Rattle.viper_core.specs.Program.{Method}
use Rattle.viper_core.specs.Stmt as v
use Rattle.viper_meaning.specs.Contents.{body_of}
use Rattle.viper_meaning.specs.Statements.{Activation}
use Rattle.boogie_tree.specs.Expr as t
use Rattle.boogie_tree.specs.Stmt as s
use Rattle.enc_expr.specs.Place.{number}
use Rattle.enc_expr.specs.Code.{Emitting, join, then_emit, puts}
use Rattle.enc_expr.specs.Pieces.{Operand, Atom, atomic, one, one_real}
use Rattle.enc_expr.specs.Encoding.{code}
use Rattle.enc_expr.proofs.CodeLaws.{gives_counted, then_counted, puts_counted, code_counted, atomic_counted}
use Rattle.enc_expr.proofs.Simulated.{IsCounted}
use Rattle.enc_assert.proofs.WrittenLaws.{produce_counted}
use Rattle.enc_fold.specs.Encoding.{fold_code, unfold_code}
use Rattle.enc_fold.proofs.CountedLaws.{fold_counted, unfold_counted}
use Rattle.enc_block.specs.Encoding.{produce_all_code, exhale_code, assert_code, branching, stop, havoc_code, any_state_code, write_checks, write_code, call_code, guard_code, turn_code, after_code, loop_code, assign_code, with_body, with_method, stmt_code, block_code}
use Rattle.enc_block.specs.Home.{Home, place, kinds_of}
use Rattle.enc_block.proofs.AnyStateLaws.{any_state_counted}
use Rattle.enc_block.proofs.CallLaws.{call_counted}
use Rattle.enc_block.proofs.ClauseLaws.{produced_counted}
use Rattle.enc_block.proofs.LoopLaws.{branching_counted, stop_counted, guard_counted}
use Rattle.enc_block.proofs.NewLaws.{new_counted}
use Rattle.enc_block.proofs.StateLaws.{exhale_counted, assert_counted}
use Rattle.enc_block.proofs.TargetLaws.{havoc_counted}

with_body_counted : (o : Option e.Assertion) (go : e.Assertion → Emitting ⊤) → ((a : e.Assertion) → IsCounted (go a)) → IsCounted (with_body o go)
with_body_counted None go h = gives_counted tt
with_body_counted (Some a) go h = h a

with_method_counted : (o : Option Method) (go : Method → Emitting ⊤) → ((m : Method) → IsCounted (go m)) → IsCounted (with_method o go)
with_method_counted None go h = gives_counted tt
with_method_counted (Some m) go h = h m

module _ (k : Activation) (h : Home) where
  assign_counted : (at : Pos) (x : ℕ) (a : e.Expr) → IsCounted (assign_code (kinds_of k) h at x a)
  assign_counted at x a =
      then_counted (code (kinds_of k) (place h at) None a) (λ y. puts None (one (s.Assign (number h.vars x) y.expr))) (code_counted (kinds_of k) (place h at) None a)
      (λ y. puts_counted None (one (s.Assign (number h.vars x) y.expr)))

  write_counted : (at name : Pos) (a c : e.Expr) (f : ℕ) → IsCounted (write_code (kinds_of k) (place h at) a f name c)
  write_counted at name a c f =
      let p = place h at in let one_code = code (kinds_of k) p None a in let two_code = code (kinds_of k) p None c in
      let written : Operand → Atom → s.BStmts = λ y r. join r.sets (join (write_checks p f name r.expr) (one (s.Put (number p.now.heap f) (t.more r.expr t.none) y.expr))) in
      let last : Operand → Atom → Emitting ⊤ = λ y r. puts None (written y r) in
      let second : Operand → Operand → Emitting ⊤ = λ x y. then_emit (atomic x) (last y) in
      then_counted one_code (λ x. then_emit two_code (second x)) (code_counted (kinds_of k) p None a) (λ x.
      then_counted two_code (second x) (code_counted (kinds_of k) p None c) (λ y.
      then_counted (atomic x) (last y) (atomic_counted x) (λ r. puts_counted None (written y r))))

  loop_is_counted : (at : Pos) (guard : e.Expr) (invariants : List e.Assertion) (body : Emitting ⊤) (turn : Pos) (targets : List ℕ) → IsCounted body → IsCounted (loop_code (kinds_of k) h at guard invariants body turn targets)
  loop_is_counted at guard invariants body turn targets counted =
      let kinds = kinds_of k in let invariant : Emitting ⊤ = produce_all_code kinds (place h at) invariants in
      let ends : Emitting ⊤ = assert_code kinds h turn invariants in let begins : Emitting ⊤ = any_state_code k.program.layout h in
      let enters : Emitting ⊤ = guard_code kinds h at guard (λ x. x) in let leaves : Emitting ⊤ = guard_code kinds h at guard t.Not in
      let closing : Emitting ⊤ = then_emit ends (λ u. stop) in let round : Emitting ⊤ = then_emit body (λ u. closing) in
      let entered : Emitting ⊤ = then_emit enters (λ u. round) in let allowed : Emitting ⊤ = then_emit invariant (λ u. entered) in
      let one_turn : Emitting ⊤ = turn_code kinds h at guard invariants body turn in let behind : Emitting ⊤ = after_code kinds h at guard invariants in
      let both = branching s.Either one_turn behind in
      let turn_is : IsCounted one_turn =
      then_counted begins (λ u. allowed) (any_state_counted k.program.layout h) (λ u.
      then_counted invariant (λ u. entered) (produced_counted kinds (place h at) invariants) (λ u.
      then_counted enters (λ u. round) (guard_counted k h at guard (λ x. x)) (λ u.
      then_counted body (λ u. closing) counted (λ u. then_counted ends (λ u. stop) (assert_counted k h turn invariants) (λ u. stop_counted))))) in
      let after_is : IsCounted behind = then_counted invariant (λ u. leaves) (produced_counted kinds (place h at) invariants) (λ u. guard_counted k h at guard t.Not) in
      then_counted (exhale_code kinds h at invariants) (λ u. then_emit (puts None (havoc_code h targets)) (λ u. both)) (exhale_counted k h at invariants) (λ u.
      then_counted (puts None (havoc_code h targets)) (λ u. both) (havoc_counted h targets) (λ u. branching_counted s.Either one_turn behind turn_is after_is))

  mutual
    pub stmt_counted : (x : v.Stmt) → IsCounted (stmt_code k.program (kinds_of k) h x)
    stmt_counted (v.Var at x None) = puts_counted None (one (s.Havoc (number h.vars x)))
    stmt_counted (v.Var at x (Some a)) = assign_counted at x a
    stmt_counted (v.Assign at x a) = assign_counted at x a
    stmt_counted (v.Write at a f name d) = write_counted at name a d f
    stmt_counted (v.New at x fields refs) = new_counted k h x fields refs
    stmt_counted (v.Call at targets m args) = with_method_counted (slice_get k.program.methods m) (λ callee. call_code (kinds_of k) h at targets callee args) (λ callee. call_counted k h at targets callee args)
    stmt_counted (v.Inhale at a) = produce_counted (kinds_of k) (place h at) None one_real a
    stmt_counted (v.Exhale at a) = exhale_counted k h at (a ∷ [])
    stmt_counted (v.Assert at a) = assert_counted k h at (a ∷ [])
    stmt_counted (v.Fold f) = with_body_counted (body_of k.program f.predicate) (fold_code (kinds_of k) (place h f.at) f) (fold_counted (kinds_of k) (place h f.at) f)
    stmt_counted (v.Unfold f) = with_body_counted (body_of k.program f.predicate) (unfold_code (kinds_of k) (place h f.at) f) (unfold_counted (kinds_of k) (place h f.at) f)
    stmt_counted (v.If at c first second) =
        let m = block_code k.program (kinds_of k) h first in let o = block_code k.program (kinds_of k) h second in
        then_counted (code (kinds_of k) (place h at) None c) (λ x. branching (s.If x.expr) m o) (code_counted (kinds_of k) (place h at) None c)
        (λ x. branching_counted (s.If x.expr) m o (block_counted first) (block_counted second))
    stmt_counted (v.While (v.loop at guard invariants body turn targets)) = loop_is_counted at guard invariants (block_code k.program (kinds_of k) h body) turn targets (block_counted body)

    pub block_counted : (xs : v.Stmts) → IsCounted (block_code k.program (kinds_of k) h xs)
    block_counted v.skip = gives_counted tt
    block_counted (v.next a rest) =
        then_counted (stmt_code k.program (kinds_of k) h a) (λ u. block_code k.program (kinds_of k) h rest) (stmt_counted a) (λ u. block_counted rest)
