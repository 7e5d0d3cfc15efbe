use Rattle.std.proofs.Common.{◌∙◌, ◌++◌, ◌∷◌, [], ap}
use Rattle.std.proofs.lemmas.Result.{on_ok_weaker}
use Rattle.boogie_tree.specs.Whole.{stmts_of}
use Rattle.enc_stmt.specs.Built.{if_code, condition_of}
use Rattle.enc_stmt.proofs.BuildLaws.{is_closed}
use Rattle.enc_stmt.proofs.building.close_branch.Goals as goal

pub returns : goal.returns
returns c =
    let branch = c.in-Some.branch in
    on_ok_weaker c.add.result (λ h. is_closed c.args.branches.now.items c.pop.new.self.items branch c.args.block.now.items c.add.new.items.items c.if_statement.result c.in-Some.ensures.items
    (c.if_statement.ensures ∙ ap (λ v. if_code (condition_of branch.condition) (stmts_of branch.first.items) (stmts_of v.items)) c.replace-second.ensures.value)
    (h ∙ ap (λ v. v.items ++ c.if_statement.result ∷ []) c.replace-second.ensures.after)) c.add.ensures
