use Rattle.std.proofs.Common.{◌≡◌, ◌∙◌, ◌∷◌, ◌++◌, [], sym, subst, true}
use Rattle.boogie_tree.specs.Whole.{stmt_of}
use Rattle.boogie_meaning.specs.Types.{is_typed_stmt}
use Rattle.boogie_types.specs.Typed.{types_in}
use Rattle.boogie_text.specs.Tail.{BeginsStatement}
use Rattle.tool_procedure.proofs.BegunLaws.{gone_none, gone_one, stmt_typed}
use Rattle.tool_procedure.proofs.bodies.passed.Goals as goal

pub loop-after-init : goal.loop-after-init
loop-after-init c = ([], gone_none _ _)

pub loop-after-preserved : goal.loop-after-preserved
loop-after-preserved c =
    let a = stmt_of c.in-Statement.stmt in
    let begins : BeginsStatement c.args.begun.now.names c.loop-after.rest.now a c.in-Statement.after.now = rw c.in-Statement.is at c.in_ok-after.ensures in
    let typed : is_typed_stmt (types_in c.args.begun.now.proc.locals.items) a ≡ true =
    subst (λ ls. is_typed_stmt (types_in ls) a ≡ true) c.as_slice-locals.ensures.value (sym c.is_typed_stmt.ensures ∙ c.if-is_typed_stmt.true) in
    (c.loop-after.invariant.0 ++ a ∷ [], gone_one a c.requires c.loop-after.invariant.1 begins (stmt_typed c.args.begun.now.proc.locals.items a typed))
