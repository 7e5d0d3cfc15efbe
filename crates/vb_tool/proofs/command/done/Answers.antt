use Rattle.std.proofs.Common.{◌≡◌, ◌∙◌, List, ℕ, Option, Some, None, Err, map, refl, sym, ap, subst}
use Rattle.std.proofs.lemmas.Result.{err_from_is_err_and}
use Rattle.std.specs.Option.{MatchOption}
use Rattle.std.specs.String.{string_bytes}
use Rattle.tool_common.specs.Ends.{Stops}
use Rattle.tool_common.proofs.FileLaws.{error_is}
use Rattle.vb_tool.specs.declared.words.Command.{Command}
use Rattle.vb_tool.specs.Call.{IsCause, usage}
use Rattle.vb_tool.specs.Command.{Asks, IsNoCommand}
use Rattle.vb_tool.specs.Parts.{command_of}
use Rattle.vb_tool.specs.Status.{kind_of}
use Rattle.vb_tool.proofs.CallLaws.{has_done, trouble_stops}
use Rattle.vb_tool.proofs.command.done.Goals as goal

abbrev Found : List (List ℕ) → Option Command → Type 0
Found words found = MatchOption found (IsNoCommand words) (λ d. Asks words (command_of d))

none_found : (words : List (List ℕ)) {found : Option Command} → found ≡ None → Found words found → IsNoCommand words
none_found words is h = subst (Found words) is h

one_found : (words : List (List ℕ)) {found : Option Command} {d : Command} → found ≡ Some d → Found words found → Asks words (command_of d)
one_found words is h = subst (Found words) is h

pub returns-in-Ok-None-clause-stops : goal.returns-in-Ok-None-clause-stops
returns-in-Ok-None-clause-stops g c s is_s =
    subst (Stops kind_of (IsCause (map string_bytes c.args.words.now) _ _ _)) (error_is refl is_s)
    (usage (none_found (map string_bytes c.args.words.now) c.in-Ok-None.field-0-is c.in-Ok-None.ensures))

pub returns-in-Err-clause-stops : goal.returns-in-Err-clause-stops
returns-in-Err-clause-stops g c s is_s = subst (Stops kind_of (IsCause (map string_bytes c.args.words.now) _ _ _)) (error_is refl is_s) tt

pub returns-in_err-work-clause-stops : goal.returns-in_err-work-clause-stops
returns-in_err-work-clause-stops g c s is_s =
    let p = err_from_is_err_and c.from_residual.result c.from_residual.ensures.1 in
    trouble_stops _ _ _ _ (one_found (map string_bytes c.args.words.now) c.in-Ok-Some.field-0-is c.in-Ok-Some.ensures) c.in_err-work.field-0.0 s (sym p.2 ∙ error_is p.1 is_s)
    (λ is. c.in_err-work.ensures.names (ap (λ e. Err e) is)) (λ is. c.in_err-work.ensures.read (ap (λ e. Err e) is)) (λ r is. c.in_err-work.ensures.refused r (ap (λ e. Err e) is))

pub returns-clause-done : goal.returns-clause-done
returns-clause-done g c =
    has_done (one_found (map string_bytes c.args.words.now) c.in-Ok-Some.field-0-is c.in-Ok-Some.ensures) c.in_ok-work.ensures.work c.in_ok-work.ensures.promises
