use Rattle.std.proofs.Common.{ap, slice_get, ◌∙◌}
use Rattle.viper_state.proofs.MapLaws.{contents_read, exact_amounts, all_contents_changed, contents_cloned, made}
use Rattle.viper_state.specs.View.{state_of}
use Rattle.std.proofs.lemmas.Cmp.{tied_itself}
use Rattle.vb_value.specs.Key.{key_cmp}
use Rattle.std.specs.Option.{option_map}
use Rattle.vb_value.specs.View.{content_of}
use Rattle.viper_state.specs.State.{found_at}
use Rattle.std.specs.Ordering.{on}
use Rattle.vb_value.specs.Content.{same_content}
use Rattle.viper_state.specs.Loose.{lists_of}
use Rattle.viper_state.proofs.LooseLaws.{found_as, found_alike, keys_changed, loose_kept, loose_by_value}
use Rattle.viper_state.proofs.states.State.set_content.Goals as goal

pub set_in-requires : goal.set_in-requires
set_in-requires c = contents_cloned (λ k q h. h) (λ v w h. h)

pub returns-clause-changed : goal.returns-clause-changed
returns-clause-changed c =
    made c.set_in.result c.set_in.ensures.changed (λ h. ap (λ maps. record { heap = (state_of c.args.self.now).heap; content = maps; mask = (state_of c.args.self.now).mask; amount = (state_of c.args.self.now).amount }) (all_contents_changed c.args.self.now.content.items _ c.args.predicate c.args.key c.args.content h))

pub invariant_of-self : goal.invariant_of-self
invariant_of-self c =
    let self = c.args.self.now in
    let exact = exact_amounts in
    let known = self.knows_loose in
    record { knows_loose = (known.0, loose_kept exact.total exact.keys self.content.items self.amount.items (lists_of self.known.keys.items) (lists_of c.note_value.new.lists.items) known.1 c.note_value.ensures.kept); knows_greatest = self.knows_greatest }

pub invariant_of-self-2 : goal.invariant_of-self-2
invariant_of-self-2 c =
    let self = c.args.self.now in
    let exact = exact_amounts in
    let known = self.knows_loose in
    let kept = c.note_value.ensures.kept in
    let changed = keys_changed exact.total exact.keys (on content_of same_content) c.set_in.result self.content.items c.set_in.new.maps.items c.args.predicate c.args.key c.args.content c.set_in.ensures.changed c.set_in.ensures.refused in
    record { knows_loose = (known.0, loose_by_value exact.total exact.keys (on content_of same_content) self.content.items c.set_in.new.maps.items self.amount.items (lists_of self.known.keys.items) (lists_of c.note_value.new.lists.items) c.args.predicate c.args.key c.args.content known.1 kept (λ held at free. c.in_ok-note_value.ensures.noted held (ap (λ ms. slice_get ms c.args.predicate) c.deref.ensures.value ∙ at) free) changed); knows_greatest = self.knows_greatest }

pub note_value-requires : goal.note_value-requires
note_value-requires c = λ k q e. ap (key_cmp k) e ∙ tied_itself exact_amounts.total k

pub returns-clause-found : goal.returns-clause-found
returns-clause-found c =
    let maps = c.args.self.now.content.items in
    found_as c.set_in.result c.set_in.ensures.found
    (found_alike content_of (found_at key_cmp maps c.args.predicate c.args.key) ∙ ap (option_map (λ _. tt {0})) (contents_read maps c.args.predicate c.args.key))
