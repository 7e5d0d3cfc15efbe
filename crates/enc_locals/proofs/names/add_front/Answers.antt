use Rattle.std.proofs.Common.{◌++◌, ap, map, ◌∙◌}
use Rattle.std.proofs.lemmas.Simd.{map-map}
use Rattle.viper_core.specs.Program.{Predicate}
use Rattle.viper_core.specs.View.{predicate_of, program_of}
use Rattle.enc_expr.specs.Front.{variable_name, heap_name, content_name, names_of}
use Rattle.enc_locals.proofs.NamesLaws.{two_added}
use Rattle.enc_locals.proofs.names.add_front.Goals as goal

pub returns : goal.returns
returns c =
    let p = program_of c.args.program.now in let out = c.args.out.now.items in
    let vars = map variable_name (names_of p c.args.of) in let heaps = map heap_name p.fields in
    two_added out c.add_each-2.new.out.items c.add_predicates.new.out.items (vars ++ heaps) (map (λ (d : Predicate). content_name d.name) p.predicates)
    (two_added out c.add_each.new.out.items c.add_each-2.new.out.items vars heaps
    (c.in_ok-add_each.ensures ∙ ap (λ xs. out ++ map variable_name xs) c.variables.ensures)
    (c.in_ok-add_each-2.ensures ∙ ap (λ xs. c.add_each.new.out.items ++ map heap_name xs) c.deref.ensures.value))
    (c.in_ok-add_predicates.ensures ∙ ap (λ ds. c.add_each-2.new.out.items ++ map content_name (map (λ d. d.name) (map predicate_of ds))) c.deref-2.ensures.value
    ∙ ap (λ xs. c.add_each-2.new.out.items ++ xs) (map-map content_name (λ (d : Predicate). d.name) p.predicates))
