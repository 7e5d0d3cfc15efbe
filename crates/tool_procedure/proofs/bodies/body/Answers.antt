use Rattle.std.proofs.Common.{◌≡◌, ◌∙◌, ◌∷◌, [], sym, ap, subst, map, true}
use Rattle.std.proofs.lemmas.List.{map-append}
use Rattle.boogie_tree.specs.Whole.{locals_of, stmt_of}
use Rattle.boogie_meaning.specs.Types.{is_typed_stmt}
use Rattle.boogie_types.specs.Typed.{types_in}
use Rattle.boogie_text.specs.Tail.{BeginsStatement}
use Rattle.tool_procedure.proofs.BegunLaws.{IsGone, gone_none, gone_one, stmt_typed}
use Rattle.tool_procedure.proofs.bodies.body.Goals as goal

pub loop-after-init : goal.loop-after-init
loop-after-init c =
    let ls = locals_of c.args.begun.now.proc.locals.items in
    let text = c.args.begun.now.rest.now in
    subst (λ xs. IsGone ls text text (map stmt_of xs)) (sym c.new-stmts.ensures.items) (gone_none ls text)

pub loop-after-preserved : goal.loop-after-preserved
loop-after-preserved c =
    let a = stmt_of c.in-Statement.stmt in
    let begins : BeginsStatement c.args.begun.now.names c.loop-after.rest.now a c.in-Statement.after.now = rw c.in-Statement.is at c.in_ok-after.ensures in
    let typed : is_typed_stmt (types_in c.args.begun.now.proc.locals.items) a ≡ true =
    subst (λ ls. is_typed_stmt (types_in ls) a ≡ true) c.as_slice-locals.ensures.value (sym c.is_typed_stmt.ensures ∙ c.if-is_typed_stmt.true) in
    let one = gone_one a c.requires c.loop-after.invariant begins (stmt_typed c.args.begun.now.proc.locals.items a typed) in
    let same = ap (map stmt_of) c.in_ok-stmts-in-Statement.ensures ∙ map-append stmt_of c.loop-after.stmts.items (c.in-Statement.stmt ∷ []) in
    subst (IsGone (locals_of c.args.begun.now.proc.locals.items) c.args.begun.now.rest.now c.in-Statement.after.now) (sym same) one
