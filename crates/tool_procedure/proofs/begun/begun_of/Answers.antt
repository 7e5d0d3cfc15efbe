use Rattle.std.proofs.Common.{◌≡◌, ◌∙◌, ◌∷◌, ◌++◌, [], sym, ap, subst, true}
use Rattle.boogie_tree.specs.Whole.{local_of, proc_of, stmts_of}
use Rattle.boogie_meaning.specs.Programs.{have_keys}
use Rattle.boogie_types.specs.Typed.{types_in}
use Rattle.boogie_text.specs.Tail.{BeginsLocal}
use Rattle.tool_procedure.proofs.BegunLaws.{begun_one, begun_all, keys_typed, locals_with}
use Rattle.tool_procedure.proofs.begun.begun_of.Goals as goal

pub loop-locals-preserved : goal.loop-locals-preserved
loop-locals-preserved c =
    let begins : BeginsLocal c.loop-locals.names c.loop-locals.rest.now (local_of c.in-Some.local) c.in-Some.after.now = rw c.in-Some.is at c.in_ok-local.ensures in
    begun_one (local_of c.in-Some.local) c.loop-locals.invariant begins (locals_with c.loop-locals.locals.items c.in-Some.local c.in_ok-locals.ensures)
    (c.in_ok-add.ensures ∙ ap (λ x. c.loop-locals.names ++ (x ∷ [])) c.in_ok-copy.ensures)

pub returns : goal.returns
returns c =
    let keys : have_keys (types_in c.loop-locals.locals.items) ≡ true = subst (λ ls. have_keys (types_in ls) ≡ true) c.deref.ensures.value (sym c.have_keys.ensures ∙ c.if-not-have_keys.false) in
    begun_all (proc_of (record { name = c.args.name; locals = c.loop-locals.locals; body = c.new.result })) c.loop-locals.invariant (keys_typed c.loop-locals.locals.items keys) (ap stmts_of c.new.ensures.items)
