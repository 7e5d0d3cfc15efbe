use Rattle.std.proofs.Common.{◌≡◌, ◌++◌, drop, map}
use Rattle.enc_locals.proofs.names.add_each.Given as goal

abbrev pub invariant-loop-name : goal.invariant-loop-name
invariant-loop-name l = l.out.items ++ map (λ x. l.front ++ x) (drop l.name-index l.names) ≡ l.initial.out.items ++ map (λ x. l.front ++ x) l.names
