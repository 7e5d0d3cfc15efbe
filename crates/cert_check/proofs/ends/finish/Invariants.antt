use Rattle.std.proofs.Common.{All, take}
use Rattle.cert_check.specs.Ends.{IsDenied}
use Rattle.cert_check.proofs.ends.finish.Given as goal

abbrev pub invariant-loop-assertion : goal.invariant-loop-assertion
invariant-loop-assertion l = All (λ a. IsDenied l.shown.clauses.items l.shown.aliases.items a) (take l.assertion-index l.fails)
