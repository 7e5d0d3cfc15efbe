-- The worked examples, by computation.
use Rattle.std.proofs.Common.{◌≡◌, refl, pos, []}
use Rattle.vb_base.specs.declared.labels.Kind.TheVariants as kind
use Rattle.vb_value.specs.Bound.{Bound, Bounded, Unbounded}
use Rattle.vb_value.specs.Fraction.{reduced}
use Rattle.vb_value.specs.Gcd.{gcd}
use Rattle.viper_meaning.specs.Run.{Goes, Fails, ran, on}
use Rattle.viper_exec_meaning.specs.Execution.{Still, Spent, execution}
use Rattle.viper_exec_meaning.specs.Worked.{adding, at_4_23, at_5_1, beginning_at, holding}

pub calls_twice : (b : Bound) → on (execution b (adding (pos 1)) 1 (beginning_at (pos 4)) 2) [] ≡ ran [] (Goes (Still 0 (holding (pos 6)))) []
unfolding reduced gcd
calls_twice Unbounded = refl
calls_twice Bounded = refl

pub calls_once : (b : Bound) → on (execution b (adding (pos 1)) 1 (beginning_at (pos 4)) 1) [] ≡ ran [] (Goes Spent) []
unfolding reduced gcd
calls_once Unbounded = refl
calls_once Bounded = refl

pub adds_too_much : (b : Bound) → on (execution b (adding (pos 2)) 1 (beginning_at (pos 4)) 2) [] ≡ ran [] (Fails (record { at = at_5_1; part = at_4_23; kind = kind.Fact })) []
unfolding reduced gcd
adds_too_much Unbounded = refl
adds_too_much Bounded = refl
