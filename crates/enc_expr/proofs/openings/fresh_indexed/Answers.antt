use Rattle.std.proofs.Common.{◌∙◌, ℕ, ◌+◌, List, ◌++◌, map, drop, Vec, ap, subst}
use Rattle.std.specs.declared.alloc.Global.{Global}
use Rattle.lemmas.proofs.Lists.{next_item}
use Rattle.vb_value.specs.declared.values.Ty.{Ty}
use Rattle.boogie_tree.specs.Program.{BType}
use Rattle.boogie_tree.specs.declared.exprs.BBase.{BBase}
use Rattle.enc_expr.specs.Emits.{Emit, emit_of, Declares}
use Rattle.moves.specs.Maps.{index_types, indexed_type}
use Rattle.enc_expr.proofs.EmittedParts.{declare_step, declare_end, declared_as}
use Rattle.enc_expr.proofs.openings.fresh_indexed.Goals as goal

abbrev map_type : BBase → Vec Ty Global → BType
map_type u us = indexed_type u us.items

pub loop-params-preserved : goal.loop-params-preserved
loop-params-preserved c =
    declare_step (map_type c.args.base) c.params-item.result (drop (c.loop-params.params-index + 1) c.args.keys.now) c.args.keys.now (emit_of c.args.out.now) (emit_of c.loop-params.out) (emit_of c.fresh.new.self) c.loop-params.maps.items c.push.new.self.items
    c.in_ok-fresh.field-0 c.in_ok-push.ensures.items (declared_as (c.in_ok-map.ensures ∙ ap (λ us. record { keys = index_types us; base = c.args.base }) c.deref.ensures.value) c.in_ok-fresh.ensures)
    (subst (λ zs. (new : Emit) (more : List ℕ) → Declares (map (map_type c.args.base) zs) (emit_of c.loop-params.out) new more → Declares (map (map_type c.args.base) c.args.keys.now) (emit_of c.args.out.now) new (c.loop-params.maps.items ++ more))
    (next_item c.args.keys.now c.loop-params.params-index c.params-item.result c.loop-params-test.true c.params-item.is) c.loop-params.invariant)

pub returns : goal.returns
returns c =
    declare_end (map_type c.args.base) c.loop-params.params-index c.args.keys.now (emit_of c.args.out.now) (emit_of c.loop-params.out) c.loop-params.maps.items c.loop-params-test.false c.loop-params.invariant
