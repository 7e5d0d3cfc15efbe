use Rattle.std.proofs.Common.{◌∙◌, refl, ap}
use Rattle.std.proofs.lemmas.Result.{on_ok_weaker}
use Rattle.enc_stmt.proofs.BuildLaws.{is_turned}
use Rattle.enc_stmt.proofs.building.turn_branch.Goals as goal

pub returns : goal.returns
returns c =
    on_ok_weaker c.add.result (λ h. is_turned c.args.branches.now.items c.pop.new.self.items c.add.new.items.items c.in-Some.branch
    (record { condition = c.in-Some.branch.condition; before = c.in-Some.branch.before; first = c.replace-first.result }) c.args.block.now.items c.replace-first.new.dest.items
    c.in-Some.ensures.items h refl refl (ap (λ v. v.items) c.replace-first.ensures.value) (ap (λ v. v.items) c.replace-first.ensures.after ∙ c.new.ensures.items)) c.add.ensures
