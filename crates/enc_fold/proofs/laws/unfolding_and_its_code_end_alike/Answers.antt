use Rattle.boogie_meaning.specs.Run.{brun}
use Rattle.viper_meaning.specs.Contents.{unfold_instance}
use Rattle.enc_expr.specs.Kinds.{kinds_in}
use Rattle.enc_expr.proofs.BoundaryLaws.{both_ways}
use Rattle.enc_fold.specs.Encoding.{unfold_code}
use Rattle.enc_fold.proofs.UnfoldLaws.{unfold_alike}
use Rattle.enc_fold.proofs.laws.unfolding_and_its_code_end_alike.Goals as goal

pub returns : goal.returns
returns call ts b c p s sc n E f typed formed coupled own ready =
    both_ways b (unfold_instance b c.program f s sc) (λ cs. brun ts b (unfold_code (kinds_in c) p f typed.body n).stmts E cs) (λ cs. unfold_alike ts b c formed p own s sc f typed n E cs coupled ready)
