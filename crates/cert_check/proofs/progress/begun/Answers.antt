use Rattle.std.proofs.Common.{sym, subst}
use Rattle.std.proofs.lemmas.List.Elements.{All-nil}
use Rattle.std.specs.declared.alloc.Global.{Global}
use Rattle.std.specs.declared.vec.Vec.{Vec}
use Rattle.boogie_formula.specs.View.{conditions_of}
use Rattle.cert_terms.specs.Lawful.{terms_of, types_of}
use Rattle.cert_terms.specs.declared.terms.ClauseLiteral.{ClauseLiteral}
use Rattle.cert_check.specs.Shown.{IsShown, AreShown}
use Rattle.cert_check.proofs.progress.begun.Goals as goal

pub returns : goal.returns
returns c =
    let x = conditions_of c.args.conditions.now in
    let terms = terms_of c.args.scope.table.now in
    let types = types_of c.args.scope.table.now in
    record {
      clauses = subst (AreShown x terms types) (sym c.new.ensures.items) (All-nil (λ (v : Vec ClauseLiteral Global). IsShown x terms types v.items));
      aliases = c.in_ok-aliases.ensures terms types;
    }
