use Rattle.std.proofs.Common.{◌∙◌, ◌++◌, [], ◌∷◌, slice_set, ap}
use Rattle.lemmas.proofs.Lists.{item_at}
use Rattle.boogie_wp.specs.Changes.{changed}
use Rattle.boogie_wp.proofs.ChangeLaws.{kept_before}
use Rattle.boogie_wp.proofs.names.exchange.Goals as goal

pub returns-in_ok-push-clause-back : goal.returns-in_ok-push-clause-back
returns-in_ok-push-clause-back c =
    let versions = c.args.versions.now.items in
    let local = c.args.change.local in
    let found = c.in-Some.ensures.item in
    let named = slice_set versions local c.replace-name.new.dest in
    let name = c.replace-name.ensures.value in
    ap (λ xs. changed xs named) c.in_ok-push.ensures.items
    ∙ (λ i. changed (c.args.back.now.items ++ record { local = local; name = name i } ∷ []) named)
    ∙ kept_before c.args.back.now.items versions local c.replace-name.new.dest c.in-Some.version.now (item_at versions local c.in-Some.version.now found.3.0 found.1)
