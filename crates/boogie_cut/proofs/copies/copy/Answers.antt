use Rattle.std.proofs.Common.{◌∙◌}
use Rattle.std.proofs.lemmas.Result.{IfOk-weaker}
use Rattle.boogie_tree.specs.Whole.{expr_of}
use Rattle.boogie_cut.proofs.TermLaws.{renamed_own}
use Rattle.boogie_cut.proofs.copies.copy.Goals as goal

pub returns : goal.returns
returns c = IfOk-weaker c.copy_by.result _ _ (λ x same. same ∙ renamed_own (expr_of c.args.e.now)) c.copy_by.ensures
