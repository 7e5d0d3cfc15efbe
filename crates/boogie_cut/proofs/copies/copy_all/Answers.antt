use Rattle.std.proofs.Common.{◌∙◌}
use Rattle.std.proofs.lemmas.Result.{IfOk-weaker}
use Rattle.boogie_tree.specs.Whole.{exprs_of}
use Rattle.boogie_cut.proofs.TermLaws.{renamed_own_in}
use Rattle.boogie_cut.proofs.copies.copy_all.Goals as goal

pub returns : goal.returns
returns c = IfOk-weaker c.renumbered_all.result _ _ (λ x same. same ∙ renamed_own_in (exprs_of c.args.es.now)) c.renumbered_all.ensures
