use Rattle.std.proofs.Common.{None}
use Rattle.std.proofs.lemmas.Result.{on_ok_weaker}
use Rattle.enc_expr.proofs.EmittedForms.{put_as}
use Rattle.enc_block.proofs.states.havoc.Goals as goal

pub returns : goal.returns
returns c = on_ok_weaker c.put.result (λ h. put_as None c.in_ok-block.ensures h) c.put.ensures
