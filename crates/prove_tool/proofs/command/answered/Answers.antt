use Rattle.std.proofs.Common.{◌≡◌, ◌∙◌, List, ℕ, None, Some, map, refl, sym, ap}
use Rattle.std.specs.Option.{option_map}
use Rattle.std.specs.String.{string_bytes}
use Rattle.prove_tool.specs.Call.{usage}
use Rattle.prove_tool.specs.Parts.{command_of}
use Rattle.prove_tool.proofs.StreamLaws.{carries_answers}
use Rattle.prove_tool.proofs.command.answered.Goals as goal

pub returns-in-Some-clause-answers : goal.returns-in-Some-clause-answers
returns-in-Some-clause-answers g c =
    carries_answers (map string_bytes c.args.words.now) _ _ _ (command_of c.in-Some.command) (sym c.command_of.ensures ∙ ap (option_map command_of) c.in-Some.is) _ _ _ _ c.carried_out.result
    c.carried_out.ensures.carries_out

pub returns-in-None-clause-answers : goal.returns-in-None-clause-answers
returns-in-None-clause-answers g c = (usage (sym c.command_of.ensures ∙ ap (option_map command_of) c.in-None.is), refl)
