use Rattle.std.proofs.Common.{◌≡◌, ◌∙◌, ◌++◌, OnOk, length, sym, subst}
use Rattle.boogie_grammar.specs.Naming.{temporary_names}
use Rattle.boogie_print.proofs.PrintLaws.{name_there}
use Rattle.boogie_print.proofs.put_exprs.put_name.Goals as goal

pub returns-in-Some : goal.returns-in-Some
returns-in-Some c =
    let look = c.in-Some.ensures.lookup in
    let more = temporary_names (length c.args.names.now.locals.now) c.args.names.now.temporaries in
    subst (λ x. OnOk c.put.result (c.put.new.out.items ≡ c.args.out.now.items ++ x)) (c.bytes.ensures ∙ sym (name_there c.args.names.now.locals.now more c.args.i c.in-Some.local.now look.3.0 look.1)) c.put.ensures
