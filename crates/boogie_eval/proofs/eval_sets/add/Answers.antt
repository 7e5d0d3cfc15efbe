use Rattle.std.proofs.Common.{ap, ◌∙◌, ◌∷◌}
use Rattle.std.proofs.lemmas.Result.{on_ok_weaker}
use Rattle.sparse.specs.Map.{keys}
use Rattle.boogie_meaning.specs.Decided.{is_listed}
use Rattle.boogie_eval.proofs.SetLaws.{clones, added}
use Rattle.boogie_eval.proofs.eval_sets.add.Goals as goal

pub set-requires : goal.set-requires
set-requires c = clones (λ k q h. h) (λ v w h. h)

pub returns-clause-added : goal.returns-clause-added
returns-clause-added c =
    on_ok_weaker c.set.result
    (λ same k.
    added c.args.set.now c.set.new.self c.in_ok-clone.field-0 c.requires same c.set.ensures.reduced_before c.set.ensures.reduced k
    ∙ ap (λ x. is_listed (x ∷ keys c.args.set.now) k) c.in_ok-clone.ensures.cases) c.set.ensures.changed
