use Rattle.std.proofs.Common.{◌++◌, ap, map, ◌∙◌}
use Rattle.viper_core.specs.View.{predicate_of, program_of}
use Rattle.enc_expr.specs.Locals.{old_heap_name, old_mask_name, old_amount_name, old_content_name, predicate_names}
use Rattle.enc_locals.proofs.NamesLaws.{two_added}
use Rattle.enc_locals.proofs.names.add_old.Goals as goal

pub returns : goal.returns
returns c =
    let p = program_of c.args.program.now in let out = c.args.out.now.items in
    let heaps = map old_heap_name p.fields in let masks = map old_mask_name p.fields in
    let amounts = map old_amount_name (predicate_names p) in let contents = map old_content_name (predicate_names p) in
    two_added out c.add_predicates.new.out.items c.add_predicates-2.new.out.items (heaps ++ masks ++ amounts) contents
    (two_added out c.add_each-2.new.out.items c.add_predicates.new.out.items (heaps ++ masks) amounts
    (two_added out c.add_each.new.out.items c.add_each-2.new.out.items heaps masks
    (c.in_ok-add_each.ensures ∙ ap (λ xs. out ++ map old_heap_name xs) c.deref.ensures.value)
    (c.in_ok-add_each-2.ensures ∙ ap (λ xs. c.add_each.new.out.items ++ map old_mask_name xs) c.deref-2.ensures.value))
    (c.in_ok-add_predicates.ensures ∙ ap (λ ds. c.add_each-2.new.out.items ++ map old_amount_name (map (λ d. d.name) (map predicate_of ds))) c.deref-3.ensures.value))
    (c.in_ok-add_predicates-2.ensures ∙ ap (λ ds. c.add_predicates.new.out.items ++ map old_content_name (map (λ d. d.name) (map predicate_of ds))) c.deref-4.ensures.value)
