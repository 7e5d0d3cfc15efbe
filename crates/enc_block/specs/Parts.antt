-- The parts of loops and methods that stand around their blocks, each by itself, as they are written one after the other.
use Rattle.std.specs.Prelude.{⊤, ℕ, List, None}
use Rattle.vb_base.specs.declared.places.Pos.{Pos}
use Rattle.viper_core.specs.Expr as e
use Rattle.viper_core.specs.Program.{Method}
use Rattle.enc_expr.specs.Kinds.{Kinds}
use Rattle.enc_expr.specs.Code.{Emitting, then_emit, puts}
use Rattle.enc_block.specs.Home.{Home, place}
use Rattle.enc_block.specs.Encoding.{produce_all_code, exhale_code, assert_code, stop, havoc_code, any_state_code, guard_code, keep_old}

-- before a loop its invariants are exhaled, and its targets take any values
abbrev pub head_code : Kinds → Home → Pos → List e.Assertion → List ℕ → Emitting ⊤
head_code k h at invariants targets = then_emit (exhale_code k h at invariants) (λ u. puts None (havoc_code h targets))

-- an arbitrary turn, before the body
abbrev pub turn_head : Kinds → Home → Pos → e.Expr → List e.Assertion → Emitting ⊤
turn_head k h at guard invariants =
    then_emit (any_state_code k.layout h) (λ u. then_emit (produce_all_code k (place h at) invariants) (λ u. guard_code k h at guard (λ x. x)))

-- and behind it
abbrev pub turn_end : Kinds → Home → Pos → List e.Assertion → Emitting ⊤
turn_end k h turn invariants = then_emit (assert_code k h turn invariants) (λ u. stop)

-- a method, before its body: the state that the precondition makes is the old one too
abbrev pub start_code : Kinds → Home → Method → Emitting ⊤
start_code k h m = then_emit (produce_all_code k (place h m.at) m.preconditions) (λ u. puts None (keep_old h))
