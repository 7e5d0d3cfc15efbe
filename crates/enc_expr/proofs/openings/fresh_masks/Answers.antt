use Rattle.std.proofs.Common.{ℕ, ◌+◌, List, ◌++◌, map, drop, subst}
use Rattle.enc_expr.specs.Emits.{Emit, emit_of, Declares}
use Rattle.moves.specs.Maps.{mask_type}
use Rattle.enc_expr.proofs.EmittedParts.{declare_step, declare_end, declared_as, next_of}
use Rattle.enc_expr.proofs.openings.fresh_masks.Goals as goal

pub loop-preserved : goal.loop-preserved
loop-preserved c =
    declare_step mask_type (next_of c.args.fields.now c.loop.index c.loop-test.true).item (drop (c.loop.index + 1) c.args.fields.now) c.args.fields.now (emit_of c.args.out.now) (emit_of c.loop.out) (emit_of c.fresh.new.self) c.loop.masks.items c.push.new.self.items c.in_ok-fresh.field-0
    c.in_ok-push.ensures.items (declared_as c.in_ok-mask.ensures c.in_ok-fresh.ensures)
    (subst (λ zs. (new : Emit) (more : List ℕ) → Declares (map mask_type zs) (emit_of c.loop.out) new more → Declares (map mask_type c.args.fields.now) (emit_of c.args.out.now) new (c.loop.masks.items ++ more))
    (next_of c.args.fields.now c.loop.index c.loop-test.true).split c.loop.invariant)

pub returns : goal.returns
returns c = declare_end mask_type c.loop.index c.args.fields.now (emit_of c.args.out.now) (emit_of c.loop.out) c.loop.masks.items c.loop-test.false c.loop.invariant
