use Rattle.std.proofs.Common.{◌∙◌, ◌++◌, ◌∷◌, [], sym, ap, take}
use Rattle.boogie_text.proofs.KnownLaws.{names_of, next_is_new, one_more}
use Rattle.boogie_text.proofs.single_expr.add_names.Goals as goal

pub add-requires : goal.add-requires
add-requires c =
    rw (c.in_ok-copy.ensures, c.loop-local.invariant)
    (next_is_new c.args.locals.now c.loop-local.local-index c.local-item.result c.requires.differ c.loop-local-test.true c.local-item.is)

pub loop-local-preserved : goal.loop-local-preserved
loop-local-preserved c =
    let i = c.loop-local.local-index in
    c.in_ok-add.ensures ∙ ap (λ l. l ++ (c.in_ok-copy.field-0 ∷ [])) c.loop-local.invariant ∙
    ap (λ x. take i (names_of c.args.locals.now) ++ (x ∷ [])) c.in_ok-copy.ensures ∙
    sym (one_more c.args.locals.now i c.local-item.result c.loop-local-test.true c.local-item.is)
