use Rattle.std.proofs.Common.{◌≡◌, length}
use Rattle.enc_stream.proofs.light.light_locals.Given as goal

abbrev pub invariant-loop : goal.invariant-loop
invariant-loop l = length l.locals.items ≡ l.counter
