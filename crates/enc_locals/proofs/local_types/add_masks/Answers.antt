use Rattle.std.proofs.Common.{◌++◌, ◌∙◌, [], ◌∷◌, map, ap, refl, arith}
use Rattle.std.proofs.lemmas.List.{map-append}
use Rattle.vb_value.specs.declared.values.Ty.TheVariants as ty
use Rattle.boogie_tree.specs.Whole.{type_of}
use Rattle.moves.specs.Maps.{mask_type}
use Rattle.enc_locals.proofs.NamesLaws.{more_alike}
use Rattle.enc_locals.proofs.local_types.add_masks.Goals as goal

pub loop-ty-preserved : goal.loop-ty-preserved
loop-ty-preserved c =
    more_alike mask_type (mask_type ty.Perm) (map type_of c.loop-ty.out.items) (map type_of c.add.new.items.items) _ c.args.fields.now c.loop-ty._ty-index (λ u. refl) (omega (arith, c.loop-ty-test.true, c.loop-ty.auto._ty-index-end)) c.loop-ty.invariant
    (ap (map type_of) c.in_ok-add.ensures ∙ map-append type_of c.loop-ty.out.items (c.in_ok-heap_of.field-0 ∷ []) ∙ ap (λ u. map type_of c.loop-ty.out.items ++ u ∷ []) c.in_ok-heap_of.ensures)
