use Rattle.std.proofs.Common.{ap, slice_get, ◌∙◌}
use Rattle.viper_state.proofs.MapLaws.{maps_changed, made, fraction_test, exact_masks}
use Rattle.viper_state.specs.View.{state_of}
use Rattle.vb_value.specs.Value.{fraction_eq}
use Rattle.viper_state.specs.Loose.{lists_of}
use Rattle.viper_state.proofs.LooseLaws.{keys_changed, loose_kept, loose_by_permission}
use Rattle.viper_state.proofs.states.State.set_mask.Goals as goal

pub returns-clause-changed : goal.returns-clause-changed
returns-clause-changed c =
    made c.set_in.result c.set_in.ensures.changed (λ h. ap (λ maps. record { heap = (state_of c.args.self.now).heap; content = (state_of c.args.self.now).content; mask = maps; amount = (state_of c.args.self.now).amount }) (maps_changed fraction_test exact_masks c.args.self.now.mask.items _ c.args.field c.args.reference c.args.permission h))

pub invariant_of-self : goal.invariant_of-self
invariant_of-self c =
    let self = c.args.self.now in
    let exact = exact_masks in
    let known = self.knows_loose in
    record { knows_loose = (loose_kept exact.total exact.keys self.heap.items self.mask.items (lists_of self.known.references.items) (lists_of c.note_permission.new.lists.items) known.0 c.note_permission.ensures.kept, known.1); knows_greatest = self.knows_greatest }

pub invariant_of-self-2 : goal.invariant_of-self-2
invariant_of-self-2 c =
    let self = c.args.self.now in
    let exact = exact_masks in
    let known = self.knows_loose in
    let kept = c.note_permission.ensures.kept in
    let changed = keys_changed exact.total exact.keys fraction_eq c.set_in.result self.mask.items c.set_in.new.maps.items c.args.field c.args.reference c.args.permission c.set_in.ensures.changed c.set_in.ensures.refused in
    record { knows_loose = (loose_by_permission exact.total exact.keys self.heap.items self.mask.items c.set_in.new.maps.items (lists_of self.known.references.items) (lists_of c.note_permission.new.lists.items) c.args.field c.args.reference c.args.permission known.0 kept (λ held at free. c.in_ok-note_permission.ensures.noted held (ap (λ ms. slice_get ms c.args.field) c.deref.ensures.value ∙ at) free) changed, known.1); knows_greatest = self.knows_greatest }
