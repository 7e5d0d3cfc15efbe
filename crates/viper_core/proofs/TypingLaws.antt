-- Laws of the types of expressions.
use Rattle.std.proofs.Common.{◌≡◌, ◌∙◌, Some, refl, ap}
use Rattle.lemmas.proofs.Options.{one_item}
use Rattle.vb_value.specs.declared.values.Ty.{Ty}
use Rattle.viper_core.specs.Expr as t
use Rattle.viper_core.specs.Typing.{Context, value_type, HasType, Opens, variable, literal, truth, null, part, negative, negation, binary, choice, field, old, unfolded, opens}

some_same : {X : Type 0} (x y : X) → Some x ≡ Some y → x ≡ y
some_same x y is = cc

-- an expression has at most one type
mutual
  pub one_type : {c : Context} {e : t.Expr} {u v : Ty} → HasType c e u → HasType c e v → u ≡ v
  one_type (variable h i) (variable k j) = one_item i j
  one_type (literal h) (literal k) = refl
  one_type truth truth = refl
  one_type null null = refl
  one_type (part h) (part k) = refl
  one_type (negative h i) (negative k j) = one_type h k
  one_type (negation h) (negation k) = refl
  one_type (binary {o = o} {right = right} h i is) (binary {left = left'} k j is') =
      one_item is (ap (λ l. value_type o l right) (one_type h k) ∙ ap (value_type o left') (one_type i j) ∙ is')
  one_type (choice h i j) (choice h' i' j') = one_type i i'
  one_type (field h i) (field k j) = one_item i j
  one_type (old a h) (old b k) = one_type h k
  one_type (unfolded a h) (unfolded b k) = one_opened h k

  one_opened : {c : Context} {o : t.Opened} {u v : Ty} → Opens c o u → Opens c o v → u ≡ v
  one_opened (opens d i b args m h) (opens d' i' b' args' m' k) = one_type h k
