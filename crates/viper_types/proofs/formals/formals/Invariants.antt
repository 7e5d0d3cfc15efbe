-- The formals that are left follow those so far.
use Rattle.std.proofs.Common.{◌≡◌, drop}
use Rattle.viper_types.specs.Answers.{frame_of}
use Rattle.viper_types.specs.Declaring.{formals}
use Rattle.viper_types.proofs.formals.formals.Given as goal

abbrev pub invariant-loop-next : goal.invariant-loop-next
invariant-loop-next l =
    formals l.allows_perm l.is_parameter (frame_of l.frame) (drop l.next-index l.formals) ≡ formals l.allows_perm l.is_parameter (frame_of l.initial.frame) l.formals
