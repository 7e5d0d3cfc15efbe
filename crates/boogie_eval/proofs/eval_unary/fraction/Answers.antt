use Rattle.std.proofs.Common.{refl}
use Rattle.vb_value.proofs.BoundLaws.{read_back}
use Rattle.vb_value.proofs.FractionLaws.{IsReduced-whole}
use Rattle.vb_value.specs.Fraction.{whole}
use Rattle.vb_value.proofs.NumberLaws.{made_is}
use Rattle.boogie_eval.proofs.eval_unary.fraction.Goals as goal

pub returns : goal.returns
returns c = made_is (whole c.args.number) _ _ _ _ (IsReduced-whole c.args.number) (read_back c.args.number c.requires) refl c.make.ensures c.unwrap.ensures
