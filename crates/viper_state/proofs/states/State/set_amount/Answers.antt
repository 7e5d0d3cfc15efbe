use Rattle.std.proofs.Common.{ap, slice_get, ◌∙◌}
use Rattle.viper_state.proofs.MapLaws.{maps_changed, made, fraction_test, exact_amounts, amounts_cloned}
use Rattle.viper_state.specs.View.{state_of}
use Rattle.std.proofs.lemmas.Cmp.{tied_itself}
use Rattle.vb_value.specs.Key.{key_cmp}
use Rattle.vb_value.specs.Value.{fraction_eq}
use Rattle.viper_state.specs.Loose.{lists_of}
use Rattle.viper_state.proofs.LooseLaws.{keys_changed, loose_kept, loose_by_permission}
use Rattle.viper_state.proofs.states.State.set_amount.Goals as goal

pub set_in-requires : goal.set_in-requires
set_in-requires c = amounts_cloned (λ k q h. h) (λ v w h. h)

pub returns-clause-changed : goal.returns-clause-changed
returns-clause-changed c =
    made c.set_in.result c.set_in.ensures.changed (λ h. ap (λ maps. record { heap = (state_of c.args.self.now).heap; content = (state_of c.args.self.now).content; mask = (state_of c.args.self.now).mask; amount = maps }) (maps_changed fraction_test exact_amounts c.args.self.now.amount.items _ c.args.predicate c.args.key c.args.amount h))

pub invariant_of-self : goal.invariant_of-self
invariant_of-self c =
    let self = c.args.self.now in
    let exact = exact_amounts in
    let known = self.knows_loose in
    record { knows_loose = (known.0, loose_kept exact.total exact.keys self.content.items self.amount.items (lists_of self.known.keys.items) (lists_of c.note_permission.new.lists.items) known.1 c.note_permission.ensures.kept); knows_greatest = self.knows_greatest }

pub invariant_of-self-2 : goal.invariant_of-self-2
invariant_of-self-2 c =
    let self = c.args.self.now in
    let exact = exact_amounts in
    let known = self.knows_loose in
    let kept = c.note_permission.ensures.kept in
    let changed = keys_changed exact.total exact.keys fraction_eq c.set_in.result self.amount.items c.set_in.new.maps.items c.args.predicate c.args.key c.args.amount c.set_in.ensures.changed c.set_in.ensures.refused in
    record { knows_loose = (known.0, loose_by_permission exact.total exact.keys self.content.items self.amount.items c.set_in.new.maps.items (lists_of self.known.keys.items) (lists_of c.note_permission.new.lists.items) c.args.predicate c.args.key c.args.amount known.1 kept (λ held at free. c.in_ok-note_permission.ensures.noted held (ap (λ ms. slice_get ms c.args.predicate) c.deref.ensures.value ∙ at) free) changed); knows_greatest = self.knows_greatest }

pub note_permission-requires : goal.note_permission-requires
note_permission-requires c = λ k q e. ap (key_cmp k) e ∙ tied_itself exact_amounts.total k
