use Rattle.std.proofs.Common.{◌≡◌, ◌<◌, length, drop, map, ◌∷◌, ◌+◌, true, refl, arith, sym, ap, ◌∙◌, Some}
use Rattle.std.proofs.lemmas.List.{drop_more}
use Rattle.std.proofs.lemmas.Option.{slice_get_read}
use Rattle.std.specs.Str.{bytes_eq}
use Rattle.std.specs.List.{slice_get}
use Rattle.vb_outer.specs.MemShelf.{file_named}
use Rattle.vb_outer.specs.Place.{held}
use Rattle.vb_outer.proofs.mem_shelf.find_file.Goals as goal

pub returns-then-eq : goal.returns-then-eq
returns-then-eq c =
    let files = c.args.files.now in
    let i = c.loop-index.index in
    let file = c.index-files-index.result in
    let name = c.args.name.now in
    let inside : i < length files = omega arith in
    let at : drop i files ≡ file ∷ drop (i + 1) files = drop_more files i file inside ∙ ap (λ f. f ∷ drop (i + 1) files) (sym c.index-files-index.is) in
    let found : slice_get files i ≡ Some file = slice_get_read files _ i file refl inside c.index-files-index.is in
    let named : bytes_eq file.name.items name ≡ true = ap (λ n. bytes_eq n name) (sym c.as_slice.ensures.value) ∙ sym c.eq.ensures ∙ c.if-eq.true in
    (inside, rw found (c.loop-index.invariant ∙ ap (λ fs. file_named (map held fs) name) at ∙ rw named refl))
