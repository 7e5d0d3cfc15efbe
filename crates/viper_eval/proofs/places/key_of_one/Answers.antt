use Rattle.std.proofs.Common.{ap, ◌∙◌, Err}
use Rattle.std.proofs.lemmas.Result.{err_from_is_err_and}
use Rattle.viper_meaning.specs.Ends.{is}
use Rattle.viper_eval.specs.Answers.{ended}
use Rattle.viper_eval.proofs.PlaceLaws.{one_goes, one_stops}
use Rattle.viper_eval.proofs.places.key_of_one.Goals as goal

pub returns-in_err-key_part : goal.returns-in_err-key_part
returns-in_err-key_part c =
    let given = err_from_is_err_and _ c.from_residual.ensures.1 in
    ap ended (given.1 ∙ ap Err given.2) ∙ one_stops c.args.value _ c.in_err-key_part.ensures

pub returns : goal.returns
returns c = ap is c.of_one.ensures ∙ one_goes c.args.value _ c.in_ok-key_part.ensures
