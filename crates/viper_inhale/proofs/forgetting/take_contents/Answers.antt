use Rattle.std.proofs.Common.{sym, ap, ◌≡◌, ◌∙◌, ◌+◌, drop}
use Rattle.sparse.specs.Map.{borrowed, get, set}
use Rattle.sparse.proofs.MeaningLaws.{get-meaning_of, IsMeaning-on}
use Rattle.vb_value.specs.Content.{same_content}
use Rattle.vb_value.specs.Key.{key_cmp}
use Rattle.vb_value.specs.View.{content_of}
use Rattle.viper_state.specs.View.{contents_of}
use Rattle.viper_state.proofs.MapLaws.{contents_set, contents_cloned}
use Rattle.viper_meaning.specs.Forgotten.{kept_at}
use Rattle.viper_inhale.proofs.ForgettingLaws.{kept_next}
use Rattle.viper_inhale.proofs.FreeLaws.{borrowed_item}
use Rattle.viper_inhale.proofs.forgetting.take_contents.Goals as goal

pub set-requires : goal.set-requires
set-requires c = contents_cloned (λ k q h. h) (λ v w h. h)

pub loop-key-preserved : goal.loop-key-preserved
loop-key-preserved c =
    let ks = borrowed c.args.instances.now in
    let i = c.loop-key.key-index in
    let k = c.key-item.result.now in
    let other = contents_of c.args.other.now in
    let content : content_of c.in_ok-content.content ≡ get key_cmp other k =
    c.in_ok-content.ensures ∙ ap content_of c.get.ensures.value ∙ sym (get-meaning_of (IsMeaning-on (λ k. k) content_of key_cmp same_content) c.args.other.now k) in
    let changed : contents_of c.set.new.self ≡ set key_cmp same_content (contents_of c.loop-key.contents) k (get key_cmp other k) =
    contents_set c.loop-key.contents c.set.new.self c.in_ok-clone.field-0 c.in_ok-content.content c.in_ok-set.ensures.changed
    ∙ (λ j. set key_cmp same_content (contents_of c.loop-key.contents) (c.in_ok-clone.ensures.cases j) (content j)) in
    ap (λ m. kept_at key_cmp same_content m other (drop (i + 1) ks)) changed
    ∙ kept_next key_cmp same_content (contents_of c.loop-key.contents) other ks i k (borrowed_item c.args.instances.now i c.key-item.result c.loop-key-test.true c.key-item.is) ∙ c.loop-key.invariant
