use Rattle.std.proofs.Common.{map}
use Rattle.boogie_text.specs.PublicTokens.{token_of}
use Rattle.boogie_text.specs.ReadExpr.{Finds}
use Rattle.boogie_text.specs.ReadSteps.{found_of}
use Rattle.boogie_text.proofs.BexprLaws.{at_scope}
use Rattle.boogie_text.proofs.KnownLaws.{taken_differ, behind_differ}
use Rattle.boogie_text.proofs.single_expr.found_before.Goals as goal

pub add_names-requires-clause-differ : goal.add_names-requires-clause-differ
add_names-requires-clause-differ c = taken_differ c.args.known c.args.locals.now c.requires.differ

pub add_names-requires-2-clause-differ : goal.add_names-requires-2-clause-differ
add_names-requires-2-clause-differ c = behind_differ c.args.known c.args.locals.now c.requires.differ

pub returns : goal.returns
returns c =
    at_scope (λ x r. Finds x (map token_of c.args.tokens.now) (found_of r.0) r.1) c.found.result c.args.locals.now c.args.known _ _
    c.in_ok-add_names.ensures c.in_ok-add_names-2.ensures c.found.ensures
