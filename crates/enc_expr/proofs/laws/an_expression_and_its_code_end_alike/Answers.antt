use Rattle.enc_expr.proofs.EncodingLaws.{code_both_ways}
use Rattle.enc_expr.proofs.laws.an_expression_and_its_code_end_alike.Goals as goal

pub returns : goal.returns
returns call ts b c p g s sc n E a u formed coupled typed ready = code_both_ways ts b c p g s sc n E formed coupled a u typed ready
