-- Room for new locals.
use Rattle.std.proofs.Common.{subst, ◌≡◌, ◌+◌, ◌≤◌, ℕ, List, [], ◌∷◌, ◌++◌, length, None, arith}
use Rattle.std.proofs.lemmas.Option.{slice_get_within}
use Rattle.boogie_tree.specs.Program.{BType}
use Rattle.enc_expr.specs.Coupling.{AreLocals, IsReady, Env}
use Rattle.enc_expr.proofs.FrameLaws.{locals_first, locals_rest}
use Rattle.enc_block.specs.Home.{HasRoom}

locals_end : (ts : List BType) (n : ℕ) (us : List BType) → n ≤ length ts → AreLocals ts n us → n + length us ≤ length ts
locals_end ts n [] low h = omega (arith, low)
locals_end ts n (u ∷ us) low h = omega (arith, locals_end ts (n + 1) us (omega (arith, slice_get_within ts n u h.0)) h.1)

pub room_end : {ts : List BType} {n : ℕ} {us : List BType} → HasRoom ts n us → n + length us ≤ length ts
room_end {ts} {n} {us} h = locals_end ts n us h.low h.locals

pub room_first : {ts : List BType} {n : ℕ} (us ws : List BType) → HasRoom ts n (us ++ ws) → HasRoom ts n us
room_first {ts} {n} us ws h = record { low = h.low; locals = locals_first ts n us ws h.locals }

pub room_rest : {ts : List BType} {n m : ℕ} (us ws : List BType) → n + length us ≡ m → HasRoom ts n (us ++ ws) → HasRoom ts m ws
room_rest {ts} {n} us ws e h = record {
  low = subst (λ i. i ≤ length ts) e (room_end (room_first us ws h));
  locals = subst (λ i. AreLocals ts i ws) e (locals_rest ts n us ws h.locals);
}

-- where there is room, a piece of code without a guard may run
pub ready : {ts : List BType} {n : ℕ} {us : List BType} {E : Env} → length E ≡ length ts → HasRoom ts n us → IsReady ts None n us E
ready full h = record { awake = tt; full = full; locals = h.locals }
