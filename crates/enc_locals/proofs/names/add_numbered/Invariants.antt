use Rattle.std.proofs.Common.{◌≡◌, ◌++◌, drop}
use Rattle.enc_expr.specs.Locals.{names_from}
use Rattle.enc_locals.proofs.names.add_numbered.Given as goal

abbrev pub invariant-loop-ty : goal.invariant-loop-ty
invariant-loop-ty l = l.out.items ++ names_from l.numbers.next (drop l._ty-index l.types) ≡ l.initial.out.items ++ names_from l.first l.types
