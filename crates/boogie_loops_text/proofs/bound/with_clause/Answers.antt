use Rattle.std.proofs.Common.{◌∙◌, refl, sym, ap}
use Rattle.boogie_loops.specs.View.{clause_of}
use Rattle.grammar.proofs.Pushed.{pushed_more}
use Rattle.boogie_loops_text.specs.ClauseView.{contract_of, adding}
use Rattle.boogie_loops_text.proofs.ClauseLaws.{contract_is}
use Rattle.boogie_loops_text.proofs.bound.with_clause.Goals as goal

pub returns-in_ok-pushed-in-Requires : goal.returns-in_ok-pushed-in-Requires
returns-in_ok-pushed-in-Requires c = λ bound names. contract_is (pushed_more clause_of _ c.in_ok-pushed-in-Requires.ensures refl) refl refl ∙ ap (λ k. adding k (contract_of bound c.args.all) (clause_of c.args.clause) names) (sym c.in-Requires.is)

pub returns-in_ok-pushed-in-Ensures : goal.returns-in_ok-pushed-in-Ensures
returns-in_ok-pushed-in-Ensures c = λ bound names. contract_is refl (pushed_more clause_of _ c.in_ok-pushed-in-Ensures.ensures refl) refl ∙ ap (λ k. adding k (contract_of bound c.args.all) (clause_of c.args.clause) names) (sym c.in-Ensures.is)
