-- No value of a heap is a greater reference than the number that is known.
use Rattle.std.proofs.Common.{◌≡◌, ℕ, ◌+◌, ◌<◌, ◌≤◌, arith, Bor, length, take, get_or, List, [], ◌∷◌, Result, Ok, Err, OnOk, OnErr, All, sym, subst}
use Rattle.std.specs.List.{AllZip}
use Rattle.std.specs.Map.{values_of}
use Rattle.std.specs.Ordering.{nat_cmp}
use Rattle.std.proofs.lemmas.List.Elements.{All-nil, All-cons, All-head, All-tail, All-more, All-weaker}
use Rattle.sparse.specs.Map.{Map, borrowed, values, IsSame}
use Rattle.vb_value.specs.Value.{value_eq}
use Rattle.vb_value.specs.declared.values.Value.{Value}
use Rattle.vb_value.specs.contracts.values.ValuePartialEq.TheImpl as values_test
use Rattle.viper_state.specs.Greatest.{IsAtMost, AreWithin}
use Rattle.viper_state.specs.State.{changed_at}
use Rattle.viper_state.specs.Within.{HasValues}
use Rattle.viper_state.proofs.EachLaws.{set_has_values}
use Rattle.viper_state.proofs.MapLaws.{maps_changed, value_test, exact_values}
use Rattle.viper_state.proofs.Paired.{All-changed}

-- ---- a greater number

module _ (g h : ℕ) (more : g ≤ h) where
  pub value_more : (v : Value) → IsAtMost g v → IsAtMost h v
  value_more v a = omega (arith, more, a)

  pub all_more : (vs : List Value) → All (IsAtMost g) vs → All (IsAtMost h) vs
  all_more vs = All-weaker (IsAtMost g) (IsAtMost h) value_more vs

  pub map_more : (m : Map ℕ Value) → HasValues (IsAtMost g) m → HasValues (IsAtMost h) m
  map_more m a = record { default = value_more m.default a.default; others = all_more (values m) a.others }

  pub within_more : (heaps : List (Map ℕ Value)) → AreWithin g heaps → AreWithin h heaps
  within_more heaps = All-weaker (HasValues (IsAtMost g)) (HasValues (IsAtMost h)) map_more heaps

-- ---- a value is set, if there is memory

pub within_set : {X E : Type 0} (r : Result X E) (g : ℕ) (maps after : List (Map ℕ Value)) (n k : ℕ) (v : Value) → AreWithin g maps → IsAtMost g v →
    OnOk r (AllZip (IsSame nat_cmp values_test.ghosts.eq) (changed_at nat_cmp values_test.ghosts.eq maps n k v) after) → OnErr r (after ≡ maps) → AreWithin g after
within_set (Err e) g maps after n k v all most h f = subst (AreWithin g) (sym f) all
within_set (Ok x) g maps after n k v all most h f =
    subst (AreWithin g) (sym (maps_changed value_test exact_values maps after n k v h))
    (All-changed nat_cmp value_eq (HasValues (IsAtMost g)) maps n k v all (λ m i. set_has_values nat_cmp value_eq m k v i most))

-- ---- entries and heaps are gone through

-- the value of an entry is no greater reference
abbrev pub HasAtMost : ℕ → Bor (ℕ × Value) → Type 0
HasAtMost g e = IsAtMost g e.now.1

pub values_at_most : (g : ℕ) (es : List (Bor (ℕ × Value))) → All (HasAtMost g) es → All (IsAtMost g) (values_of (borrowed es))
values_at_most g [] h = All-nil (IsAtMost g)
values_at_most g (e ∷ es) h = All-cons (IsAtMost g) e.now.1 (values_of (borrowed es)) (All-head (HasAtMost g) e es h) (values_at_most g es (All-tail (HasAtMost g) e es h))

module _ (g h : ℕ) (more : g ≤ h) where
  pub one_more_entry : (es : List (Bor (ℕ × Value))) (i : ℕ) (e : Bor (ℕ × Value)) → i < length es → e ≡ get_or es i e → All (HasAtMost g) (take i es) → IsAtMost h e.now.1 → All (HasAtMost h) (take (i + 1) es)
  one_more_entry es i e lt is so_far has =
      All-more (HasAtMost h) es i e lt (All-weaker (HasAtMost g) (HasAtMost h) (λ x a. value_more g h more x.now.1 a) (take i es) so_far) (subst (HasAtMost h) is has)

  pub one_more_heap : (maps : List (Map ℕ Value)) (i : ℕ) (m : Map ℕ Value) → i < length maps → m ≡ get_or maps i m → AreWithin g (take i maps) → HasValues (IsAtMost h) m → AreWithin h (take (i + 1) maps)
  one_more_heap maps i m lt is so_far has = All-more (HasValues (IsAtMost h)) maps i m lt (within_more g h more (take i maps) so_far) (subst (HasValues (IsAtMost h)) is has)

  -- the default is looked at behind the entries
  pub default_too : (m : Map ℕ Value) (d : Value) (es : List (Bor (ℕ × Value))) → borrowed es ≡ m.entries → d ≡ m.default → All (IsAtMost g) (values_of (borrowed es)) → IsAtMost h d → HasValues (IsAtMost h) m
  default_too m d es are is all most = record {
    default = subst (IsAtMost h) is most;
    others = subst (λ ps. All (IsAtMost h) (values_of ps)) are (all_more g h more (values_of (borrowed es)) all);
  }
