-- What a call adds, by what its parts add.
use Rattle.std.specs.Bool.{⊤}
use Rattle.std.proofs.Common.{◌≡◌, None, length, subst}
use Rattle.boogie_tree.specs.Expr as t
use Rattle.boogie_tree.specs.declared.exprs.BBase.TheVariants as base
use Rattle.enc_expr.specs.Code.{Emitting, gives, then_emit, puts}
use Rattle.enc_expr.specs.Emits.{Emit, Emits}
use Rattle.enc_expr.specs.Pieces.{Atom, atomic}
use Rattle.enc_expr.proofs.EmitLaws.{gives_emits, then_emits}
use Rattle.enc_assert.specs.Calls.{scale_code}

pub scale_emits : (x y : t.BExpr) (old mid new : Emit) (a : Atom) → y ≡ x → Emits (atomic (record { expr = y; base = base.Real }) (length old.locals)) old mid a → Emits (puts None a.sets (length mid.locals)) mid new tt →
    Emits (scale_code x (length old.locals)) old new a.expr
scale_emits x y old mid new a same h k =
    then_emits (atomic (record { expr = x; base = base.Real })) (λ a. then_emit (puts None a.sets) (λ u. gives a.expr)) old mid new a a.expr
    (subst (λ (z : t.BExpr). Emits (atomic (record { expr = z; base = base.Real }) (length old.locals)) old mid a) same h)
    (then_emits (puts None a.sets) (λ u. gives a.expr) mid new new tt a.expr k (gives_emits a.expr new))

pub call_emits : (x : t.BExpr) (go : t.BExpr → Emitting ⊤) (old mid new : Emit) (q : t.BExpr) → Emits (scale_code x (length old.locals)) old mid q → Emits (go q (length mid.locals)) mid new tt →
    Emits (then_emit (scale_code x) go (length old.locals)) old new tt
call_emits x go old mid new q h k = then_emits (scale_code x) go old mid new q tt h k
