-- The types that are left, and what is left of the number, tell it.
use Rattle.std.proofs.Common.{◌≡◌, drop}
use Rattle.boogie_eval.specs.Searched.{outnumbers}
use Rattle.boogie_eval.proofs.eval_keys.outnumbers.Given as goal

abbrev pub invariant-loop-base : goal.invariant-loop-base
invariant-loop-base l = record { so_far : outnumbers l.bases l.count ≡ outnumbers (drop l.base-index l.bases) l.left }
