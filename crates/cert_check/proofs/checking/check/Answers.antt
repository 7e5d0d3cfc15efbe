use Rattle.std.proofs.Common.{All, subst}
use Rattle.boogie_formula.specs.View.{conditions_of}
use Rattle.cert_terms.specs.Lawful.{terms_of, types_of}
use Rattle.cert_check.specs.Ends.{IsDenied}
use Rattle.cert_check.proofs.TheoremLaws.{denied_refuted, never_fails}
use Rattle.cert_check.proofs.checking.check.Goals as goal

pub returns-in-Ok : goal.returns-in-Ok
returns-in-Ok c =
    let x = conditions_of c.args.conditions.now in
    let table = c.in_ok-table.table in
    let shown = c.in_ok-shown.shown in
    let denied = subst (All (IsDenied shown.clauses.items shown.aliases.items)) c.deref.ensures.value c.in-Ok.ensures in
    record {
      shown = λ accepted. never_fails x (terms_of table) (types_of table) c.requires c.in_ok-table.ensures table.is_table
          (denied_refuted x (terms_of table) (types_of table) shown c.in_ok-shown.ensures denied);
    }
