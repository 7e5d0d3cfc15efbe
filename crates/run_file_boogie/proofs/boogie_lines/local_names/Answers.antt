use Rattle.std.proofs.Common.{◌∙◌, ap, sym, List, ℕ, ◌<◌, ◌≡◌, length, get_or, []}
use Rattle.std.proofs.lemmas.List.{get_or-map, length-map}
use Rattle.boogie_tree.specs.Program as p
use Rattle.boogie_tree.specs.Whole.{local_of, locals_of}
use Rattle.boogie_tree.specs.declared.programs.Local.{Local}
use Rattle.run_file_boogie.specs.BoogieLines.{known}
use Rattle.run_file_words.proofs.NameTables.{one_more_name}
use Rattle.run_file_boogie.proofs.boogie_lines.local_names.Goals as goal

named_at : (ls : List Local) (i : ℕ) (l : Local) → i < length ls → l ≡ get_or ls i l → (local_of l).name ≡ get_or (known (locals_of ls)).names i []
named_at ls i l within is =
    let long : i < length (locals_of ls) = simp length-map within in
    ap (λ x. (local_of x).name) is ∙ sym (get_or-map (λ (x : p.Local). x.name) (locals_of ls) i (local_of l) [] long ∙ ap (λ (x : p.Local). x.name) (get_or-map local_of ls i l (local_of l) within))

pub loop-local-preserved : goal.loop-local-preserved
loop-local-preserved c =
    let names = (known (locals_of c.args.locals.now)).names in
    let is : c.local-item.result ≡ get_or c.args.locals.now c.loop-local.local-index c.local-item.result = c.local-item.is in
    let within : c.loop-local.local-index < length names = simp length-map c.loop-local-test.true in
    c.in_ok-add.ensures.ok ∙ one_more_name names c.loop-local.known c.loop-local.local-index c.in_ok-copy.field-0 c.requires within c.loop-local.invariant
    (c.in_ok-copy.ensures ∙ named_at c.args.locals.now c.loop-local.local-index c.local-item.result c.loop-local-test.true is)
