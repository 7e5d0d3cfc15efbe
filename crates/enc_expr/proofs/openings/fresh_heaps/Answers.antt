use Rattle.std.proofs.Common.{◌∙◌, ℕ, ◌+◌, List, ◌++◌, map, drop, ap, subst}
use Rattle.enc_expr.specs.Emits.{Emit, emit_of, Declares}
use Rattle.moves.specs.Maps.{heap_type}
use Rattle.enc_expr.proofs.EmittedParts.{declare_step, declare_end, declared_as, next_of, next_is}
use Rattle.enc_expr.proofs.openings.fresh_heaps.Goals as goal

pub loop-ty-preserved : goal.loop-ty-preserved
loop-ty-preserved c =
    let next = next_of c.args.fields.now c.loop-ty.ty-index c.loop-ty-test.true in
    declare_step heap_type next.item (drop (c.loop-ty.ty-index + 1) c.args.fields.now) c.args.fields.now (emit_of c.args.out.now) (emit_of c.loop-ty.out) (emit_of c.fresh.new.self) c.loop-ty.heaps.items c.push.new.self.items c.in_ok-fresh.field-0
    c.in_ok-push.ensures.items (declared_as (c.in_ok-heap.ensures ∙ ap heap_type (next_is c.args.fields.now c.loop-ty.ty-index c.loop-ty-test.true _)) c.in_ok-fresh.ensures)
    (subst (λ zs. (new : Emit) (more : List ℕ) → Declares (map heap_type zs) (emit_of c.loop-ty.out) new more → Declares (map heap_type c.args.fields.now) (emit_of c.args.out.now) new (c.loop-ty.heaps.items ++ more))
    next.split c.loop-ty.invariant)

pub returns : goal.returns
returns c = declare_end heap_type c.loop-ty.ty-index c.args.fields.now (emit_of c.args.out.now) (emit_of c.loop-ty.out) c.loop-ty.heaps.items c.loop-ty-test.false c.loop-ty.invariant
