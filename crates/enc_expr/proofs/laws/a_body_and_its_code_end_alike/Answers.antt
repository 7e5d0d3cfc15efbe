use Rattle.enc_expr.proofs.EncodingLaws.{body_both_ways}
use Rattle.enc_expr.proofs.laws.a_body_and_its_code_end_alike.Goals as goal

pub returns : goal.returns
returns call ts b c p g s sc n E scale k a d from formed coupled typed inside own fits source scaled ready =
    body_both_ways ts b c p g s sc n E formed coupled scale k a d from typed inside own fits source scaled ready
