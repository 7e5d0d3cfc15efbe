-- The statements or arms that are left follow those so far; what a block declares is hidden after it.
use Rattle.std.proofs.Common.{◌≡◌, ◌+◌, ◌++◌, ◌≤◌, length, take, drop}
use Rattle.vb_base.specs.Limits.{max_block_depth}
use Rattle.viper_syntax.specs.View.{arms_of, stmts_of}
use Rattle.viper_scope.specs.Answers.{context_of}
use Rattle.viper_types.specs.Answers.{branches_of, frame_of, stmt_list_of}
use Rattle.viper_types.specs.Frame.{declared_in, declared_in_arms}
use Rattle.viper_scope.specs.Outcome.{prefixed}
use Rattle.viper_types.specs.Stepping as s
use Rattle.viper_types.proofs.statements.+statements.Given as goal

abbrev pub invariant-branches-loop-i : goal.invariant-branches-loop-i
invariant-branches-loop-i l = record {
  shallow : l.depth + l.i ≤ max_block_depth + 1;
  vars : l.frame.vars.items ++ declared_in_arms (arms_of (drop l.i l.arms)) ≡ l.initial.frame.vars.items ++ declared_in_arms (arms_of l.arms);
  scope : l.frame.scope ≡ l.initial.frame.scope;
  rest : prefixed (branches_of l.typed) (s.branches l.context.lists (context_of l.context) (l.depth + l.i) (frame_of l.frame) (arms_of (drop l.i l.arms))) ≡
      s.branches l.context.lists (context_of l.context) l.depth (frame_of l.initial.frame) (arms_of l.arms);
}

abbrev pub invariant-stepping_all-loop-stmt : goal.invariant-stepping_all-loop-stmt
invariant-stepping_all-loop-stmt l = record {
  vars : l.frame.vars.items ++ declared_in (stmts_of (drop l.stmt-index l.stmts)) ≡ l.initial.frame.vars.items ++ declared_in (stmts_of l.stmts);
  visible : take (length l.initial.frame.scope) l.frame.scope ≡ l.initial.frame.scope;
  rest : prefixed (stmt_list_of l.typed) (s.stepping_all l.context.lists (context_of l.context) l.depth (frame_of l.frame) (stmts_of (drop l.stmt-index l.stmts))) ≡
      s.stepping_all l.context.lists (context_of l.context) l.depth (frame_of l.initial.frame) (stmts_of l.stmts);
}
