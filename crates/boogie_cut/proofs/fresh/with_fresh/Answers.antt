use Rattle.std.proofs.Common.{◌∙◌, ◌++◌, ap, sym}
use Rattle.boogie_tree.specs.Whole.{locals_of, type_of}
use Rattle.boogie_cut.specs.Fresh.{fresh_locals}
use Rattle.boogie_cut.specs.View.{a_names, types_of_all}
use Rattle.boogie_cut.proofs.PlaceLaws.{fresh_next, fresh_end, no_types}
use Rattle.boogie_cut.proofs.fresh.with_fresh.Goals as goal

pub loop-ty-preserved : goal.loop-ty-preserved
loop-ty-preserved c =
    let own = a_names c.args.own.now in
    let old = locals_of c.loop-ty.locals.items in
    fresh_next (a_names c.in_ok-taken.taken.locals.now) own c.loop-ty.next c.in_ok-next.next (type_of c.in-Some.ty) (types_of_all c.next.new.self.rest.items) old (locals_of c.add_fresh.new.locals.items) _
    (ap a_names c.in_ok-taken.ensures) c.in_ok-next.ensures.next c.in_ok-next.ensures.local
    (ap (λ us. old ++ fresh_locals own c.loop-ty.next (types_of_all us)) (sym c.in-Some.ensures.steps.0) ∙ c.loop-ty.invariant)

pub returns : goal.returns
returns c =
    fresh_end (a_names c.args.own.now) c.loop-ty.next (types_of_all c.loop-ty.ty-iterator.rest.items) (locals_of c.loop-ty.locals.items) _
    (no_types c.loop-ty.ty-iterator.rest.items (sym c.loop-ty.ty-iterator.rest.ok.0 ∙ c.in-None.ensures.steps.0)) c.loop-ty.invariant
