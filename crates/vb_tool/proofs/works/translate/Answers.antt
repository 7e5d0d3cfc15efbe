use Rattle.std.proofs.Common.{◌≤◌, [], length, refl, sym, subst}
use Rattle.vb_base.specs.Limits.{max_viper_bytes}
use Rattle.vb_tool.specs.Accepted as accepted
use Rattle.vb_tool.specs.Call as call
use Rattle.vb_tool.specs.Command.{Translate}
use Rattle.vb_tool.proofs.WorkLaws.{seen_whole, first_unread, translation_works, translation_refused}
use Rattle.vb_tool.proofs.works.translate.Goals as goal

pub returns-in_err-source : goal.returns-in_err-source
returns-in_err-source g c =
    first_unread (Translate c.args.file.now) c.in_err-source.ensures.same c.args.file.now [] c.in_err-source.field-0.0 refl tt c.from_residual.ensures.1
    c.in_err-source.ensures.long c.in_err-source.ensures.failed (λ bytes is above. call.translates bytes is (accepted.size above))

pub returns-in_err-program : goal.returns-in_err-program
returns-in_err-program g c =
    let small : length c.deref.result.now ≤ max_viper_bytes = subst (λ b. length b ≤ max_viper_bytes) (sym c.deref.ensures.value) c.in_ok-source.ensures.within in
    translation_refused c.in_ok-source.ensures.same c.args.file.now c.deref.result.now c.in_err-program.field-0.0 (seen_whole c.args.file.now refl c.deref.ensures.value c.in_ok-source.ensures.whole) small
    c.from_residual-in_err-program.ensures.1 c.in_err-program.ensures.refused c.in_err-program.ensures.read

pub returns : goal.returns
returns g c =
    translation_works c.in_ok-source.ensures.same c.args.file.now c.deref.result.now c.in_ok-program.program (seen_whole c.args.file.now refl c.deref.ensures.value c.in_ok-source.ensures.whole)
    c.in_ok-program.ensures.accepted c.in_ok-program.ensures.formed
