-- Loops and methods are put together of their parts.
use Rattle.std.specs.Bool.{⊤}
use Rattle.std.proofs.Common.{◌≡◌, ◌∙◌, ℕ, List, None, sym, ap, append_assoc}
use Rattle.vb_base.specs.declared.places.Pos.{Pos}
use Rattle.viper_core.specs.Expr as e
use Rattle.viper_core.specs.Program.{Program, Method}
use Rattle.boogie_tree.specs.Stmt as s
use Rattle.enc_expr.specs.Kinds.{Kinds}
use Rattle.enc_expr.specs.Code.{Code, Emitting, then_emit, puts}
use Rattle.enc_expr.proofs.RunLaws.{join_assoc}
use Rattle.enc_block.specs.Home.{Home, place}
use Rattle.enc_block.specs.Encoding.{produce_all_code, exhale_code, branching, havoc_code, any_state_code, guard_code, turn_code, after_code, loop_code, keep_old, either_code, method_code}
use Rattle.enc_block.specs.Parts.{head_code, turn_head, turn_end, start_code}

-- two pieces that write the same from each number
pub then_assoc : {X Y Z : Type 0} (m : Emitting X) (f : X → Emitting Y) (g : Y → Emitting Z) → then_emit (then_emit m f) g ≡ then_emit m (λ x. then_emit (f x) g)
then_assoc {X = X} {Y = Y} {Z = Z} m f g = λ i n. joined n i
  where
    joined : (n : ℕ) → then_emit (then_emit m f) g n ≡ then_emit m (λ x. then_emit (f x) g) n
    joined n =
        let a : Code X = m n in let c : Code Y = f a.value a.next in let d : Code Z = g c.value c.next in
        λ i. record { locals = append_assoc a.locals c.locals d.locals i; next = d.next; stmts = join_assoc a.stmts c.stmts d.stmts i; value = d.value }

-- a turn: its head, the body, and its end
pub turn_is : (k : Kinds) (h : Home) (at : Pos) (guard : e.Expr) (invariants : List e.Assertion) (body : Emitting ⊤) (turn : Pos) →
    turn_code k h at guard invariants body turn ≡ then_emit (turn_head k h at guard invariants) (λ u. then_emit body (λ u. turn_end k h turn invariants))
turn_is k h at guard invariants body turn =
    let rest : Emitting ⊤ = then_emit body (λ u. turn_end k h turn invariants) in
    let given : Emitting ⊤ = produce_all_code k (place h at) invariants in
    sym (then_assoc (any_state_code k.layout h) (λ u. then_emit given (λ u. guard_code k h at guard (λ x. x))) (λ u. rest)
    ∙ ap (λ (m : Emitting ⊤). then_emit (any_state_code k.layout h) (λ u. m)) (then_assoc given (λ u. guard_code k h at guard (λ x. x)) (λ u. rest)))

-- a loop: its head, and then the turn or what comes behind it
pub loop_is : (k : Kinds) (h : Home) (at : Pos) (guard : e.Expr) (invariants : List e.Assertion) (body : Emitting ⊤) (turn : Pos) (targets : List ℕ) →
    loop_code k h at guard invariants body turn targets ≡
    then_emit (head_code k h at invariants targets) (λ u. branching s.Either (then_emit (turn_head k h at guard invariants) (λ u. then_emit body (λ u. turn_end k h turn invariants))) (after_code k h at guard invariants))
loop_is k h at guard invariants body turn targets =
    let both : Emitting ⊤ → Emitting ⊤ = λ m. branching s.Either m (after_code k h at guard invariants) in
    sym (then_assoc (exhale_code k h at invariants) (λ u. puts None (havoc_code h targets)) (λ u. both (turn_code k h at guard invariants body turn)))
    ∙ ap (λ (m : Emitting ⊤). then_emit (head_code k h at invariants targets) (λ u. both m)) (turn_is k h at guard invariants body turn)

-- a method: its start, and then its body and its check
pub method_is : (p : Program) (k : Kinds) (h : Home) (m : Method) → method_code p k h m ≡ then_emit (start_code k h m) (λ u. either_code p k h m m.body)
method_is p k h m = sym (then_assoc (produce_all_code k (place h m.at) m.preconditions) (λ u. puts None (keep_old h)) (λ u. either_code p k h m m.body))
