-- The value of an expression (Viper tutorial, "Expressions and assertions", "Permissions", "Predicates"), and how the body of
-- a predicate is opened: it is produced from what the instance contains. Total heaps with masks: Parthasarathy and others,
-- PLDI 2024.
use Rattle.std.specs.Prelude.{ℕ, Bool, List, [], ◌∷◌, slice_get, if◌then◌else◌}
use Rattle.vb_value.specs.Bound.{Bound}
use Rattle.vb_value.specs.Content.{Content}
use Rattle.vb_value.specs.Fraction.{Fraction}
use Rattle.vb_value.specs.declared.values.Value.{Value}
use Rattle.vb_value.specs.declared.values.Value.TheVariants as v
use Rattle.viper_core.specs.Expr as t
use Rattle.viper_state.specs.State.{Key, State, content_at}
use Rattle.viper_state.specs.Run.{Scene, with_variables}
use Rattle.viper_meaning.specs.Ends.{Evaluated, is, blocks, then_with, found}
use Rattle.viper_meaning.specs.Operators.{truth_of, perm_of, ref_of, binary, negative, negation}
use Rattle.viper_meaning.specs.Places.{read_field, key_of, taken, unit_of, pair_of, fill_place, fill_instance}

-- what is evaluated, as one of a type

abbrev pub as_truth : Evaluated Value → Evaluated Bool
as_truth e = then_with e truth_of

abbrev pub as_perm : Evaluated Value → Evaluated Fraction
as_perm e = then_with e perm_of

abbrev pub as_ref : Evaluated Value → Evaluated ℕ
as_ref e = then_with e ref_of

abbrev pub as_key : Evaluated (List Value) → Evaluated Key
as_key e = then_with e (λ vs. found (key_of vs))

abbrev mutual
  -- the value of an expression in a state. Only `old` reads another state, and nothing changes the state.
  pub value : Bound → t.Expr → State → Scene → Evaluated Value
  value b (t.Var x) s sc = found (slice_get sc.store x)
  value b (t.Int n) s sc = is (v.Int n)
  value b (t.Bool a) s sc = is (v.Bool a)
  value b t.Null s sc = is (v.Ref 0)
  value b (t.Part q) s sc = is (v.Perm q)
  value b (t.Neg a) s sc = then_with (value b a s sc) negative
  value b (t.Not a) s sc = then_with (value b a s sc) negation
  value b (t.Bin o x y at) s sc = binary b sc o (value b x s sc) (value b y s sc) at
  value b (t.Choose a x y) s sc = then_with (as_truth (value b a s sc)) (λ holds. if holds then value b x s sc else value b y s sc)
  value b (t.Field a field at) s sc = then_with (as_ref (value b a s sc)) (read_field sc s field at)
  value b (t.Old a) s sc = value b a sc.old sc
  value b (t.Unfolding o) s sc = unfolded b o s sc

  -- The value of the inner expression in a copy of the state in which the instance is unfolded. The variables of the body are
  -- the arguments.
  pub unfolded : Bound → t.Opened → State → Scene → Evaluated Value
  unfolded b (t.opened p args amount body inner at) s sc =
      then_with (values b args s sc) (λ vs. then_with (as_perm (value b amount s sc)) (λ q. then_with (found (key_of vs)) (λ key.
      then_with (taken b sc s p key q at) (λ less. then_with (found (content_at s p key)) (λ c.
      then_with (opened b body c less (with_variables vs sc) q) (λ copy. value b inner copy sc))))))

  -- the values of arguments, from left to right
  pub values : Bound → t.Exprs → State → Scene → Evaluated (List Value)
  values b t.none s sc = is []
  values b (t.more a rest) s sc = then_with (value b a s sc) (λ v. then_with (values b rest s sc) (λ vs. is (v ∷ vs)))

  -- the amount of an accessibility predicate. The body of a predicate has no `wildcard`.
  pub amount_of : Bound → t.Amt → State → Scene → Evaluated Fraction
  amount_of b (t.Is a) s sc = as_perm (value b a s sc)
  amount_of b t.Wildcard s sc = blocks

  -- The state after an assertion was produced from a content, its amounts times a scale. Each expression is read in the state
  -- that the earlier parts have made.
  pub opened : Bound → t.Assertion → Content → State → Scene → Fraction → Evaluated State
  opened b (t.Fact a at) c s sc k = then_with (as_truth (value b a s sc)) (λ holds. if holds then then_with (unit_of c) (λ u. is s) else blocks)
  opened b (t.Acc a field m at) c s sc k =
      then_with (as_ref (value b a s sc)) (λ r. then_with (amount_of b m s sc) (λ q. fill_place b sc k field r q c at s))
  opened b (t.Inst p args m at) c s sc k =
      then_with (as_key (values b args s sc)) (λ key. then_with (amount_of b m s sc) (λ q. fill_instance b sc k p key q c at s))
  opened b (t.And x y) c s sc k = then_with (pair_of c) (λ parts. then_with (opened b x parts.0 s sc k) (λ t. opened b y parts.1 t sc k))
  opened b (t.Implies a x) c s sc k =
      then_with (as_truth (value b a s sc)) (λ holds. if holds then opened b x c s sc k else then_with (unit_of c) (λ u. is s))
  opened b (t.ChooseAssertion a x y) c s sc k =
      then_with (as_truth (value b a s sc)) (λ holds. if holds then opened b x c s sc k else opened b y c s sc k)

-- expressions and arguments read as ones of a type

abbrev pub truth_in : Bound → t.Expr → State → Scene → Evaluated Bool
truth_in b e s sc = as_truth (value b e s sc)

abbrev pub perm_in : Bound → t.Expr → State → Scene → Evaluated Fraction
perm_in b e s sc = as_perm (value b e s sc)

abbrev pub ref_in : Bound → t.Expr → State → Scene → Evaluated ℕ
ref_in b e s sc = as_ref (value b e s sc)

abbrev pub key_in : Bound → t.Exprs → State → Scene → Evaluated Key
key_in b args s sc = as_key (values b args s sc)
