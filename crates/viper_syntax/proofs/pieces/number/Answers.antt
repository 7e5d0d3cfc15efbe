use Rattle.std.proofs.Common.{◌≡◌, ℕ, pos, ◌≤◌, ◌<◌, ◌^◌, arith}
use Rattle.std.specs.Prelude.{◌≤ℤ◌, ◌<ℤ◌}
use Rattle.std.specs.Int.{w128}
use Rattle.std.proofs.lemmas.Int.{to_z-of_z, ints}
use mir.Val.{to_z, of_z}
use Rattle.viper_syntax.specs.Cut.{MAX, big_literal}
use Rattle.viper_syntax.proofs.LongestLaws.{number_longest, longest_front_passes}
use Rattle.viper_syntax.proofs.pieces.number.Goals as goal

small : (n : ℕ) → n < 2 ^ 127 → pos n ≤ℤ MAX
small n h = omega (arith, ints)

big : (n : ℕ) → 2 ^ 127 ≤ n → MAX <ℤ pos n
big n h = omega (arith, ints)

same_value : (n : ℕ) → n < 2 ^ 127 → to_z w128 (of_z w128 (pos n)) ≡ pos n
same_value n h = to_z-of_z w128 (pos n) (search (arith, ints))

pub decimal-requires : goal.decimal-requires
decimal-requires c = rw c.digits_len-len.ensures (longest_front_passes _ c.args.text.now)

pub returns-in-Some : goal.returns-in-Some
returns-in-Some c =
    let value = c.in-Some.ensures in
    rw (c.new.ensures, value.0, same_value _ value.1) (rw c.digits_len-len.ensures (number_longest c.args.text.now c.requires), small _ value.1)

pub returns-in-None : goal.returns-in-None
returns-in-None c = big_literal (number_longest c.args.text.now c.requires) (big _ (rw (← c.digits_len-len.ensures) c.in-None.ensures))
