-- The types that are left tell as much as all.
use Rattle.std.proofs.Common.{◌≡◌, drop}
use Rattle.std.specs.List.{list_all}
use Rattle.boogie_eval.specs.Searched.{is_bool}
use Rattle.boogie_eval.proofs.eval_keys.are_bools.Given as goal

abbrev pub invariant-loop-base : goal.invariant-loop-base
invariant-loop-base l = list_all is_bool l.bases ≡ list_all is_bool (drop l.base-index l.bases)
