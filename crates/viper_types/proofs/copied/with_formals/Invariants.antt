-- The formals that are left follow those so far.
use Rattle.std.proofs.Common.{◌≡◌, drop}
use Rattle.viper_types.specs.Copied.{with_formals}
use Rattle.viper_types.proofs.copied.with_formals.Given as goal

abbrev pub invariant-loop-formal : goal.invariant-loop-formal
invariant-loop-formal l = with_formals l.refs (drop l.formal-index l.formals) ≡ with_formals l.fn.refs l.formals
