-- The numbers so far, and the next one.
use Rattle.std.proofs.Common.{◌≡◌, ◌+◌}
use Rattle.std.specs.List.{range_with_len}
use Rattle.enc_locals.proofs.numbers.Numbers.take.Given as goal

abbrev pub invariant-loop : goal.invariant-loop
invariant-loop l = (l.numbers.items ≡ range_with_len l.fn.self.next l.counter) × (l.self.next ≡ l.fn.self.next + l.counter)
