-- The variants that hold blocks, and the loops over statements and arms.
use Rattle.std.proofs.Common.{◌≡◌, ◌∙◌, ap, refl, sym, arith, ℕ, ◌+◌, Bor, Option, Some, None, List, [], ◌∷◌, length, drop, map}
use Rattle.std.specs.Option.{option_map, option_copied}
use Rattle.std.proofs.Math.Seq.{take-length}
use Rattle.std.proofs.lemmas.List.{map-append}
use Rattle.viper_core.specs.Stmt as plain
use Rattle.viper_core.specs.View as core
use Rattle.viper_core.proofs.ViewLaws.{stmts_of-map}
use Rattle.viper_syntax.specs.Stmt as s
use Rattle.viper_syntax.specs.View.{arm_of, arms_of, else_of, block_of, rhs_of, stmt_of, stmts_of, term_of}
use Rattle.viper_syntax.specs.declared.stmts.SRhs.{SRhs}
use Rattle.viper_syntax.proofs.ViewLaws.{stmt_of-If, stmt_of-While}
use Rattle.viper_scope.specs.declared.rules.Rule.TheVariants as rule
use Rattle.viper_scope.specs.Answers.{context_of}
use Rattle.viper_types.specs.Answers.{frame_of, branch_of, branches_of, lent_rhs_of, loop_terms_of, stmt_list_of}
use Rattle.viper_scope.specs.Context.{nowhere}
use Rattle.viper_types.specs.Frame.{frame_after, declared_in_arms, declared_in_else, with_hidden}
use Rattle.viper_scope.specs.Outcome.{Found, known, prefixed, then_typed}
use Rattle.viper_scope.specs.Target.{listed, gathered, targets}
use Rattle.viper_types.specs.Stepping.{branch, branches, declaring, fresh, nested, stepping, stepping_all}
use Rattle.viper_types.proofs.SameTargets.{listed_targets}
use Rattle.viper_scope.proofs.Judged.{at_error, refuses_along, answers_along, failed}
use Rattle.viper_types.proofs.StmtLaws.{on_ok, on_ok_too, arm_count-length, hidden_twice, if_arms_refused, if_arms, loop_typed, block_typed}
use Rattle.viper_types.proofs.BlockLaws.{next_vars, next_visible, next_stmt, no_stmt, all_vars, next_arm_vars, next_arm, no_arm, all_hidden}
use Rattle.viper_types.proofs.Steps.{prefixed_nothing, one_done, one_refused, all_done}
use Rattle.viper_types.proofs.statements.+statements.Goals as goal

-- the right side of a declaration, behind a reference
lent_rhs : (o : Option (Bor SRhs)) (r : Option SRhs) → option_copied o ≡ r → lent_rhs_of o ≡ option_map rhs_of r
lent_rhs None r is = ap (option_map rhs_of) is
lent_rhs (Some a) r is = ap (option_map rhs_of) is

pub stepping-returns-in-Var-clause-answers : goal.stepping-returns-in-Var-clause-answers
stepping-returns-in-Var-clause-answers t c =
    let lists = c.args.context.now.lists in
    let k = context_of c.args.context.now in
    let fr = frame_of c.args.frame.now in
    answers_along core.stmt_of c.variable.result
    (ap (λ a. stepping lists k c.args.depth fr (stmt_of a)) c.in-Var.is ∙
    ap (λ r. then_typed (fresh fr c.in-Var.formal) (λ v. declaring lists k fr c.in-Var.at v r)) (sym (lent_rhs c.as_ref.result c.in-Var.rhs c.as_ref.ensures.value)))
    c.variable.ensures.answers

pub blocking-returns-clause-answers : goal.blocking-returns-clause-answers
blocking-returns-clause-answers t c =
    let k = context_of c.args.context.now in
    let fr = frame_of c.args.frame.now in
    block_typed c.args.context.now.lists k c.args.depth fr c.args.block.now.at (stmts_of c.args.block.now.stmts.items) _ c.if-depth-gt-MAX_BLOCK_DEPTH.false
    (ap (λ ss. stepping_all c.args.context.now.lists k c.args.depth fr (stmts_of ss)) (sym c.deref.ensures.value) ∙ c.in_ok-stmts.ensures.answers) ∙
    ap Found (sym (stmts_of-map c.in_ok-stmts.stmts.items))

pub iteration-returns-clause-answers : goal.iteration-returns-clause-answers
iteration-returns-clause-answers t c =
    let lists = c.args.context.now.lists in
    let before = length c.args.frame.now.vars.items in
    let body = core.stmts_of c.in_ok-stmts.stmts.items in
    let turns = λ (ss : plain.Stmts) (vs : List ℕ). plain.While (plain.loop c.args.at (core.expr_of c.args.terms.0) (core.assertions_of c.args.terms.1.items) ss c.args.body.now.at vs) in
    let assigned = sym (listed_targets lists (context_of c.args.context.now) (c.args.depth + 1) (frame_of c.args.frame.now) (block_of c.args.body.now) body c.in_ok-stmts.ensures.answers) ∙
    ap (λ n. listed lists (gathered n body)) (sym c.in_ok-below.ensures) ∙
    ap (λ ss. listed lists (gathered c.in_ok-below.below (core.stmts_of ss))) (sym c.deref.ensures.value) ∙ sym c.in_ok-targets.ensures in
    ap (λ j. then_typed j (λ ss. Found (turns ss (listed lists (targets before ss))))) c.in_ok-stmts.ensures.answers ∙
    ap (λ vs. Found (turns body vs)) assigned ∙ ap Found (sym c.loop_statement.ensures)

pub stepping-returns-in_err-branches-in-If-clause-answers : goal.stepping-returns-in_err-branches-in-If-clause-answers
stepping-returns-in_err-branches-in-If-clause-answers t c =
    let k = context_of c.args.context.now in
    let fr = frame_of c.args.frame.now in
    let other = else_of c.in-If.other in
    let is = ap stmt_of c.in-If.is ∙ stmt_of-If c.in-If.arms c.in-If.other ∙ ap (λ arms. s.If (arms_of arms) other) (sym c.deref-in-If.ensures.value) in
    at_error core.stmt_of _ c.in_err-branches-in-If.field-0.0 c.from_residual-in_err-branches-in-If.result c.from_residual-in_err-branches-in-If.ensures.1
    (refuses_along c.in_err-branches-in-If.field-0.0 (ap (stepping c.args.context.now.lists k c.args.depth fr) is)
    (if_arms_refused c.args.context.now.lists k c.args.depth fr (arms_of c.deref-in-If.result.now) other c.in_err-branches-in-If.field-0.0 c.in_err-branches-in-If.ensures.answers))

pub stepping-returns-in_err-other-in-If-clause-answers : goal.stepping-returns-in_err-other-in-If-clause-answers
stepping-returns-in_err-other-in-If-clause-answers t c =
    let k = context_of c.args.context.now in
    let fr = frame_of c.args.frame.now in
    let other = else_of c.in-If.other in
    let is = ap stmt_of c.in-If.is ∙ stmt_of-If c.in-If.arms c.in-If.other ∙ ap (λ arms. s.If (arms_of arms) other) (sym c.deref-in-If.ensures.value) in
    let many = c.len.ensures ∙ sym c.deref-in-If.ensures.len ∙ sym (arm_count-length c.deref-in-If.result.now) in
    at_error core.stmt_of _ c.in_err-other-in-If.field-0.0 c.from_residual-in_err-other-in-If.result c.from_residual-in_err-other-in-If.ensures.1
    (refuses_along c.in_err-other-in-If.field-0.0
    (ap (stepping c.args.context.now.lists k c.args.depth fr) is ∙
    if_arms c.args.context.now.lists k c.args.depth fr (arms_of c.deref-in-If.result.now) other (branches_of c.in_ok-branches-in-If.branches) c.len.result (frame_of c.branches.new.frame)
    c.in_ok-branches-in-If.ensures.answers many c.in_ok-branches-in-If.ensures.after)
    (failed c.in_err-other-in-If.field-0.0 _ _ c.in_err-other-in-If.ensures.answers))

pub stepping-returns-in_ok-other-in-If-clause-after : goal.stepping-returns-in_ok-other-in-If-clause-after
stepping-returns-in_ok-other-in-If-clause-after t c =
    let fr = frame_of c.args.frame.now in
    let arms = arms_of c.deref-in-If.result.now in
    let other = else_of c.in-If.other in
    let is = ap stmt_of c.in-If.is ∙ stmt_of-If c.in-If.arms c.in-If.other ∙ ap (λ items. s.If (arms_of items) other) (sym c.deref-in-If.ensures.value) in
    on_ok c.nested.result
    (c.in_ok-other-in-If.ensures.after ∙ ap (λ gr. with_hidden gr (declared_in_else other)) c.in_ok-branches-in-If.ensures.after ∙
    hidden_twice fr (declared_in_arms arms) (declared_in_else other) ∙ sym (ap (frame_after fr) is))

pub stepping-returns-in_ok-other-in-If-clause-answers : goal.stepping-returns-in_ok-other-in-If-clause-answers
stepping-returns-in_ok-other-in-If-clause-answers t c =
    let k = context_of c.args.context.now in
    let fr = frame_of c.args.frame.now in
    let other = else_of c.in-If.other in
    let is = ap stmt_of c.in-If.is ∙ stmt_of-If c.in-If.arms c.in-If.other ∙ ap (λ arms. s.If (arms_of arms) other) (sym c.deref-in-If.ensures.value) in
    let many = c.len.ensures ∙ sym c.deref-in-If.ensures.len ∙ sym (arm_count-length c.deref-in-If.result.now) in
    answers_along core.stmt_of c.nested.result
    (ap (stepping c.args.context.now.lists k c.args.depth fr) is ∙
    if_arms c.args.context.now.lists k c.args.depth fr (arms_of c.deref-in-If.result.now) other (branches_of c.in_ok-branches-in-If.branches) c.len.result (frame_of c.branches.new.frame)
    c.in_ok-branches-in-If.ensures.answers many c.in_ok-branches-in-If.ensures.after ∙
    ap (λ j. then_typed j (λ ss. known (nested (branches_of c.in_ok-branches-in-If.branches) ss) nowhere rule.WrongType Found)) c.in_ok-other-in-If.ensures.answers)
    c.nested.ensures

pub stepping-returns-in_ok-terms-in-While-clause-after : goal.stepping-returns-in_ok-terms-in-While-clause-after
stepping-returns-in_ok-terms-in-While-clause-after t c =
    let is = ap stmt_of c.in-While.is ∙ stmt_of-While c.in-While.at c.in-While.guard c.in-While.invariants c.in-While.body in
    on_ok_too c.iteration.result (λ h. h ∙ sym (ap (frame_after (frame_of c.args.frame.now)) is)) c.iteration.ensures.after

pub stepping-returns-in_ok-terms-in-While-clause-answers : goal.stepping-returns-in_ok-terms-in-While-clause-answers
stepping-returns-in_ok-terms-in-While-clause-answers t c =
    let k = context_of c.args.context.now in
    let fr = frame_of c.args.frame.now in
    let guard = term_of c.in-While.guard in
    let is = ap stmt_of c.in-While.is ∙ stmt_of-While c.in-While.at c.in-While.guard c.in-While.invariants c.in-While.body ∙
    ap (λ ts. s.While c.in-While.at guard (map term_of ts) (block_of c.in-While.body)) (sym c.deref-in-While.ensures.value) in
    answers_along core.stmt_of c.iteration.result
    (ap (stepping c.args.context.now.lists k c.args.depth fr) is ∙
    loop_typed c.args.context.now.lists k c.args.depth fr c.in-While.at guard (map term_of c.deref-in-While.result.now) (block_of c.in-While.body) (loop_terms_of c.in_ok-terms-in-While.terms) c.in_ok-terms-in-While.ensures)
    c.iteration.ensures.answers

-- ---- the statements of a block

pub stepping_all-loop-stmt-init : goal.stepping_all-loop-stmt-init
stepping_all-loop-stmt-init t c =
    let all = stepping_all c.args.context.now.lists (context_of c.args.context.now) c.args.depth (frame_of c.args.frame.now) (stmts_of c.args.stmts.now) in
    record {
      vars = refl;
      visible = take-length c.args.frame.now.scope;
      rest = ap (λ done. prefixed (map core.stmt_of done) all) c.in_ok-typed.ensures.items ∙ prefixed_nothing all;
    }

pub stepping_all-loop-stmt-preserved : goal.stepping_all-loop-stmt-preserved
stepping_all-loop-stmt-preserved t c =
    let lists = c.args.context.now.lists in
    let k = context_of c.args.context.now in
    let fr = frame_of c.loop-stmt.frame in
    let gr = frame_of c.stepping.new.frame in
    let items = c.args.stmts.now in
    let i = c.loop-stmt.stmt-index in
    let item = c.stmt-item.result in
    let done = c.loop-stmt.typed.items in
    let rest = stepping_all lists k c.args.depth gr (stmts_of (drop (i + 1) items)) in
    record {
      vars = next_vars fr gr items i item _ c.loop-stmt-test.true c.stmt-item.is c.in_ok-next.ensures.after c.loop-stmt.invariant.vars;
      visible = next_visible fr gr item c.args.frame.now.scope c.in_ok-next.ensures.after c.loop-stmt.invariant.visible;
      rest = ap (λ typed. prefixed typed rest) (ap (map core.stmt_of) c.in_ok-push.ensures.items ∙ map-append core.stmt_of done (c.in_ok-next.next ∷ [])) ∙
          one_done (map core.stmt_of done) (core.stmt_of c.in_ok-next.next) (stepping lists k c.args.depth fr (stmt_of item)) _ rest _
          (next_stmt lists k c.args.depth fr gr items i item c.loop-stmt-test.true c.stmt-item.is c.in_ok-next.ensures.after) c.in_ok-next.ensures.answers c.loop-stmt.invariant.rest;
    }

pub stepping_all-returns-in_err-next-clause-answers : goal.stepping_all-returns-in_err-next-clause-answers
stepping_all-returns-in_err-next-clause-answers t c =
    let lists = c.args.context.now.lists in
    let k = context_of c.args.context.now in
    let fr = frame_of c.loop-stmt.frame in
    let item = c.stmt-item.result in
    at_error stmt_list_of _ _ _ c.from_residual-in_err-next.ensures.1
    (one_refused (stmt_list_of c.loop-stmt.typed) (stepping lists k c.args.depth fr (stmt_of item)) _ _ _ c.in_err-next.field-0.0
    (next_stmt lists k c.args.depth fr _ c.args.stmts.now c.loop-stmt.stmt-index item c.loop-stmt-test.true c.stmt-item.is refl) c.in_err-next.ensures.answers c.loop-stmt.invariant.rest)

pub stepping_all-returns-clause-vars : goal.stepping_all-returns-clause-vars
stepping_all-returns-clause-vars t c = all_vars (frame_of c.loop-stmt.frame) c.args.stmts.now c.loop-stmt.stmt-index _ c.loop-stmt-test.false c.loop-stmt.invariant.vars

pub stepping_all-returns-clause-answers : goal.stepping_all-returns-clause-answers
stepping_all-returns-clause-answers t c =
    all_done (stmt_list_of c.loop-stmt.typed) _ _
    (no_stmt c.args.context.now.lists (context_of c.args.context.now) c.args.depth (frame_of c.loop-stmt.frame) c.args.stmts.now c.loop-stmt.stmt-index c.loop-stmt-test.false) c.loop-stmt.invariant.rest

-- ---- the arms of an `if`

pub branches-loop-i-init : goal.branches-loop-i-init
branches-loop-i-init t c =
    let from = λ (d : ℕ). branches c.args.context.now.lists (context_of c.args.context.now) d (frame_of c.args.frame.now) (arms_of c.args.arms.now) in
    let first : c.args.depth + 0 ≡ c.args.depth = omega arith in
    record {
      shallow = omega (arith, c.requires);
      vars = refl;
      scope = refl;
      rest = ap (λ done. prefixed (map branch_of done) (from (c.args.depth + 0))) c.in_ok-typed.ensures.items ∙ prefixed_nothing (from (c.args.depth + 0)) ∙ ap from first;
    }

pub branches-loop-i-preserved : goal.branches-loop-i-preserved
branches-loop-i-preserved t c =
    let lists = c.args.context.now.lists in
    let k = context_of c.args.context.now in
    let fr = frame_of c.loop-i.frame in
    let gr = frame_of c.branch-alloc.new.frame in
    let items = c.args.arms.now in
    let i = c.loop-i.i in
    let item = c.index-arms-i.result in
    let done = c.loop-i.typed.items in
    let rest = branches lists k (c.args.depth + (i + 1)) gr (arms_of (drop (i + 1) items)) in
    record {
      shallow = omega (arith, c.in_ok-next.ensures.shallow);
      vars = next_arm_vars fr gr items i item _ c.loop-i-test.true c.index-arms-i.is c.in_ok-next.ensures.after c.loop-i.invariant.vars;
      scope = ap (λ hr. hr.scope) c.in_ok-next.ensures.after ∙ c.loop-i.invariant.scope;
      rest = ap (λ typed. prefixed typed rest) (ap (map branch_of) c.in_ok-push.ensures.items ∙ map-append branch_of done (c.in_ok-next.next ∷ [])) ∙
          one_done (map branch_of done) (branch_of c.in_ok-next.next) (branch lists k (c.args.depth + i) fr (arm_of item)) _ rest _
          (next_arm lists k c.args.depth fr gr items i item c.loop-i-test.true c.index-arms-i.is c.in_ok-next.ensures.after) c.in_ok-next.ensures.answers c.loop-i.invariant.rest;
    }

pub branches-returns-in_err-next-clause-answers : goal.branches-returns-in_err-next-clause-answers
branches-returns-in_err-next-clause-answers t c =
    let lists = c.args.context.now.lists in
    let k = context_of c.args.context.now in
    let fr = frame_of c.loop-i.frame in
    let item = c.index-arms-i.result in
    at_error branches_of _ _ _ c.from_residual-in_err-next.ensures.1
    (one_refused (branches_of c.loop-i.typed) (branch lists k (c.args.depth + c.loop-i.i) fr (arm_of item)) _ _ _ c.in_err-next.field-0.0
    (next_arm lists k c.args.depth fr _ c.args.arms.now c.loop-i.i item c.loop-i-test.true c.index-arms-i.is refl) c.in_err-next.ensures.answers c.loop-i.invariant.rest)

pub branches-returns-clause-after : goal.branches-returns-clause-after
branches-returns-clause-after t c =
    all_hidden (frame_of c.loop-i.frame) (frame_of c.args.frame.now) c.args.arms.now c.loop-i.i c.loop-i-test.false c.loop-i.invariant.vars c.loop-i.invariant.scope

pub branches-returns-clause-answers : goal.branches-returns-clause-answers
branches-returns-clause-answers t c =
    all_done (branches_of c.loop-i.typed) _ _
    (no_arm c.args.context.now.lists (context_of c.args.context.now) (c.args.depth + c.loop-i.i) (frame_of c.loop-i.frame) c.args.arms.now c.loop-i.i c.loop-i-test.false) c.loop-i.invariant.rest
