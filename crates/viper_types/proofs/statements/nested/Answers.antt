use Rattle.std.proofs.Common.{◌∙◌, ap, Some}
use Rattle.viper_core.specs.View.{stmts_of}
use Rattle.viper_types.specs.Answers.{block_stmts_of}
use Rattle.viper_types.proofs.Nesting.{last_taken, next_taken}
use Rattle.viper_types.proofs.statements.nested.Goals as goal

pub loop-branch-init : goal.loop-branch-init
loop-branch-init c =
    last_taken c.args.branches.items c.pop.new.self.items c.in-Some.last (block_stmts_of c.args.other) _ c.in-Some.ensures.items c.if_statement-stmt.ensures

pub loop-branch-preserved : goal.loop-branch-preserved
loop-branch-preserved c =
    c.loop-branch.invariant ∙
    ap Some (next_taken c.loop-branch.branches.items c.pop-in-loop-branch.new.self.items c.in-Some-pop.branch c.in_ok-vec.field-0.items _ _ c.in-Some-pop.ensures.items (ap stmts_of c.in_ok-vec.ensures.items) c.if_statement-stmt-in-Some-pop.ensures)
