use Rattle.enc_expr.proofs.ContentLaws.{content_value}
use Rattle.enc_expr.proofs.PlainLaws.{plain_value}
use Rattle.enc_expr.proofs.laws.what_is_not_checked_has_the_value.Goals as goal

pub returns-clause-expression : goal.returns-clause-expression
returns-clause-expression call b c p s sc n E a u formed coupled inside closed typed = plain_value b c formed coupled inside closed a u typed

pub returns-clause-content : goal.returns-clause-content
returns-clause-content call b c p s sc n E a formed coupled inside closed typed = content_value b c formed coupled inside closed a typed
