use Rattle.std.proofs.Common.{All, map, take}
use Rattle.enc_locals.proofs.NamedMaps.{IsNamedPair, pair_of}
use Rattle.enc_locals.proofs.named.named_map.Given as goal

abbrev pub invariant-loop-i : goal.invariant-loop-i
invariant-loop-i l = All IsNamedPair (map pair_of (take l.i l.map.entries))
