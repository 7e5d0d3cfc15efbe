use Rattle.std.proofs.Common.{◌≡◌, ◌∙◌, ◌++◌, OnOk, List, ℕ, sym, ap, subst, append-nil, arith}
use Rattle.boogie_print.proofs.PrintLaws.{name_behind, name_past}
use Rattle.boogie_print.proofs.put_exprs.put_temporary.Goals as goal

pub returns-then-i-names : goal.returns-then-i-names
returns-then-i-names c =
    subst (λ (x : List ℕ). OnOk c.put_numbered.result (c.put_numbered.new.out.items ≡ c.args.out.now.items ++ x))
    (sym (name_behind c.args.names.now.locals.now c.args.names.now.temporaries c.args.i c.requires c.if-i-names.true)) c.put_numbered.ensures

pub returns : goal.returns
returns c =
    sym (ap (λ (x : List ℕ). c.args.out.now.items ++ x) (name_past c.args.names.now.locals.now c.args.names.now.temporaries c.args.i c.requires (omega (arith, c.if-i-names.false))) ∙ append-nil c.args.out.now.items)
