use Rattle.std.proofs.Common.{◌++◌, ◌∙◌, map, ap}
use Rattle.vb_value.specs.Layout.{Layout}
use Rattle.boogie_tree.specs.Whole.{type_of}
use Rattle.moves.specs.Maps.{heap_type, mask_type, amount_type, content_type}
use Rattle.enc_locals.proofs.NamesLaws.{two_added}
use Rattle.enc_locals.proofs.local_types.add_state.Goals as goal

pub returns : goal.returns
returns c =
    let layout = c.args.layout.now in let out = map type_of c.args.out.now.items in
    let heaps = map heap_type layout.fields in let masks = map mask_type layout.fields in let amounts = map amount_type layout.keys in let contents = map content_type layout.keys in
    let one = map type_of c.add_heaps.new.out.items in let two = map type_of c.add_masks.new.out.items in let three = map type_of c.add_indexed.new.out.items in
    two_added out three (map type_of c.add_indexed-2.new.out.items) (heaps ++ masks ++ amounts) contents
    (two_added out two three (heaps ++ masks) amounts
    (two_added out one two heaps masks
    (c.in_ok-add_heaps.ensures ∙ ap (λ us. out ++ map heap_type us) (c.deref.ensures.value ∙ ap (λ (l : Layout). l.fields) c.layout.view_is))
    (c.in_ok-add_masks.ensures ∙ ap (λ us. one ++ map mask_type us) (c.deref-2.ensures.value ∙ ap (λ (l : Layout). l.fields) c.layout.view_is)))
    (c.in_ok-add_indexed.ensures ∙ ap (λ ks. two ++ map amount_type (map (λ us. us.items) ks)) c.deref-3.ensures.value ∙ ap (λ (l : Layout). two ++ map amount_type l.keys) c.layout.view_is))
    (c.in_ok-add_indexed-2.ensures ∙ ap (λ ks. three ++ map content_type (map (λ us. us.items) ks)) c.deref-4.ensures.value ∙ ap (λ (l : Layout). three ++ map content_type l.keys) c.layout.view_is)
