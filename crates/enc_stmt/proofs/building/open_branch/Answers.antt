use Rattle.std.proofs.Common.{◌∙◌, ap}
use Rattle.std.proofs.lemmas.Result.{on_ok_weaker}
use Rattle.enc_stmt.proofs.BuildLaws.{is_opened}
use Rattle.enc_stmt.proofs.building.open_branch.Goals as goal

pub returns : goal.returns
returns c =
    on_ok_weaker c.add.result (λ h. is_opened c.args.branches.now.items c.add.new.items.items (record { condition = c.args.condition; before = c.replace-before.result; first = c.new-first.result })
    c.args.block.now.items c.replace-before.new.dest.items h (ap (λ v. v.items) c.replace-before.ensures.value) c.new-first.ensures.items
    (ap (λ v. v.items) c.replace-before.ensures.after ∙ c.new.ensures.items)) c.add.ensures
