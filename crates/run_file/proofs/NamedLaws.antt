-- What lines of Viper name is told apart by its order.
use Rattle.std.proofs.Common.{◌≡◌, ◌≢◌, List, [], AllPairs, ap}
use Rattle.std.specs.Ordering.{nat_cmp}
use Rattle.std.specs.declared.cmp.Ordering.TheVariants.{Equal}
use Rattle.std.proofs.lemmas.Map.Lookups.{exact_unsigned}
use Rattle.lemmas.proofs.Orders.{both_equal}
use Rattle.vb_value.specs.Key.{key_cmp}
use Rattle.vb_value.proofs.KeyLaws.{same_from_key_cmp, key_cmp_self}
use Rattle.run_file.specs.NamedOrder.{named_cmp}
use Rattle.run_file.specs.declared.lines.LineTarget.{LineTarget}
use Rattle.run_file.specs.declared.lines.LineTarget.TheVariants.{Variable, Place, Instance}
use Rattle.run_file_words.proofs.OnceLaws as once
use Rattle.run_file_words.proofs.OnceLaws.{nat_self}

-- ---- the order tells names apart

same_from_named : (x y : LineTarget) → named_cmp x y ≡ Equal → x ≡ y
same_from_named (Variable n) (Variable m) e = ap Variable (exact_unsigned n m e)
same_from_named (Place f r) (Place g q) e =
    let both = both_equal (nat_cmp f g) (nat_cmp r q) e in
    let a = exact_unsigned f g both.0 in let b = exact_unsigned r q both.1 in λ i. Place (a i) (b i)
same_from_named (Instance f r) (Instance g q) e =
    let both = both_equal (nat_cmp f g) (key_cmp r q) e in
    let a = exact_unsigned f g both.0 in let b = same_from_key_cmp r q both.1 in λ i. Instance (a i) (b i)
same_from_named _ _ e = absurd cc

named_self : (x : LineTarget) → named_cmp x x ≡ Equal
named_self (Variable n) = nat_self n
named_self (Place f r) = rw (nat_self f) (nat_self r)
named_self (Instance q k) = rw (nat_self q) (key_cmp_self k)

-- ---- names that are new one after the other

abbrev pub FreshOnce : List LineTarget → List LineTarget → Type 0
FreshOnce set ns = once.FreshOnce named_cmp set ns

pub once_is_fresh : (ns : List LineTarget) → AllPairs (λ a b. a ≢ b) ns → FreshOnce [] ns
once_is_fresh ns differ = once.once_is_fresh named_cmp same_from_named named_self ns differ

pub fresh_differs : (set ns : List LineTarget) → FreshOnce set ns → AllPairs (λ a b. a ≢ b) ns
fresh_differs set ns h = once.fresh_differs named_cmp same_from_named named_self set ns h
