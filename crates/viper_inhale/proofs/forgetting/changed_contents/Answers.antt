use Rattle.std.proofs.Common.{ap, sym, subst, ◌∙◌}
use Rattle.std.specs.Prelude.{filter}
use Rattle.sparse.specs.Map.{borrowed}
use Rattle.vb_value.specs.Content.{same_content}
use Rattle.vb_value.specs.Key.{key_cmp}
use Rattle.vb_value.proofs.KeyLaws.{same_from_key_cmp}
use Rattle.viper_meaning.specs.Forgotten.{kept_at}
use Rattle.viper_state.specs.View.{contents_of}
use Rattle.viper_state.proofs.MapLaws.{contents_cloned, exact_contents, exact_amounts, contents_reduced}
use Rattle.viper_inhale.specs.Free.{is_free, AreFree}
use Rattle.viper_inhale.proofs.FreeLaws.{kept_by_change, contents_keys, contents_copy}
use Rattle.viper_inhale.proofs.forgetting.changed_contents.Goals as goal

pub copy-requires : goal.copy-requires
copy-requires c = contents_cloned (λ k q h. h) (λ v w h. h)

pub loose_keys-requires-clause-exact : goal.loose_keys-requires-clause-exact
loose_keys-requires-clause-exact c = same_from_key_cmp

pub free_keys-requires : goal.free_keys-requires
free_keys-requires c = same_from_key_cmp

pub returns-clause-kept : goal.returns-clause-kept
returns-clause-kept c =
    let own = c.args.own.now in
    let new = c.args.new.now in
    let held = c.args.held.now in
    let free = filter (is_free key_cmp held) in
    let ks = borrowed c.in_ok-free.free.items in
    let new_keys = ap borrowed c.deref-2.ensures.value ∙ c.in_ok-free_keys.ensures.free ∙ ap free (sym (contents_keys new)) in
    let first = c.in_ok-take_contents.ensures.taken ∙ (λ i. kept_at key_cmp same_content (contents_copy own c.in_ok-kept.kept c.in_ok-kept.ensures.same i) (contents_of new) (ap borrowed c.deref.ensures.value i)) in
    let are_free = subst (λ all. AreFree key_cmp all held ks) (sym (contents_keys own)) c.in_ok-free.ensures.free in
    c.in_ok-take_contents-2.ensures.taken ∙ (λ i. kept_at key_cmp same_content (first i) (contents_of new) (new_keys i))
    ∙ kept_by_change exact_contents exact_amounts (contents_of new) (contents_of own) held ks (contents_reduced new c.in_ok-free_keys.ensures.map_reduced) (contents_reduced own c.copy.ensures.reduced)
    c.in_ok-free_keys.ensures.held_reduced c.requires.same are_free
