use Rattle.std.proofs.Common.{ap, slice_get, ◌∙◌}
use Rattle.viper_state.proofs.MapLaws.{exact_masks, maps_changed, made, value_test, exact_values}
use Rattle.viper_state.specs.View.{state_of}
use Rattle.vb_value.specs.contracts.values.ValuePartialEq.TheImpl as values
use Rattle.viper_state.specs.Loose.{lists_of}
use Rattle.viper_state.proofs.LooseLaws.{keys_changed, loose_kept, loose_by_value}
use Rattle.viper_state.proofs.GreatestLaws.{within_more, within_set}
use Rattle.viper_state.proofs.states.State.set_value.Goals as goal

pub returns-clause-changed : goal.returns-clause-changed
returns-clause-changed c =
    made c.set_in.result c.set_in.ensures.changed (λ h. ap (λ maps. record { heap = maps; content = (state_of c.args.self.now).content; mask = (state_of c.args.self.now).mask; amount = (state_of c.args.self.now).amount }) (maps_changed value_test exact_values c.args.self.now.heap.items _ c.args.field c.args.reference c.args.value h))

pub invariant_of-self : goal.invariant_of-self
invariant_of-self c =
    let self = c.args.self.now in
    let exact = exact_masks in
    let known = self.knows_loose in
    record { knows_loose = (loose_kept exact.total exact.keys self.heap.items self.mask.items (lists_of self.known.references.items) (lists_of c.note_value.new.lists.items) known.0 c.note_value.ensures.kept, known.1); knows_greatest = self.knows_greatest }

pub invariant_of-self-2 : goal.invariant_of-self-2
invariant_of-self-2 c =
    let self = c.args.self.now in
    let exact = exact_masks in
    let known = self.knows_loose in
    let kept = c.note_value.ensures.kept in
    let changed = keys_changed exact.total exact.keys values.ghosts.eq c.set_in.result self.heap.items c.set_in.new.maps.items c.args.field c.args.reference c.args.value c.set_in.ensures.changed c.set_in.ensures.refused in
    record { knows_loose = (loose_by_value exact.total exact.keys values.ghosts.eq self.heap.items c.set_in.new.maps.items self.mask.items (lists_of self.known.references.items) (lists_of c.note_value.new.lists.items) c.args.field c.args.reference c.args.value known.0 kept (λ held at free. c.in_ok-note_value.ensures.noted held (ap (λ ms. slice_get ms c.args.field) c.deref.ensures.value ∙ at) free) changed, known.1); knows_greatest = within_set c.set_in.result c.raise.new.greatest self.heap.items c.set_in.new.maps.items c.args.field c.args.reference c.args.value (within_more self.known.greatest c.raise.new.greatest c.raise.ensures.least self.heap.items self.knows_greatest) c.raise.ensures.within c.set_in.ensures.changed c.set_in.ensures.refused }
