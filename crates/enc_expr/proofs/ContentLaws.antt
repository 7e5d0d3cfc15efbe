-- What an assertion contains is the value of an expression without checks, where it is small enough for the bound.
use Rattle.std.proofs.Common.{◌≡◌, ℕ, pos, List, Bool as Truth, true, false, Option, Some, IfSome, slice_get, if◌then◌else◌, refl, sym, ap, subst, ◌∙◌, arith}
use Rattle.std.specs.Option.{option_map}
use Rattle.std.proofs.lemmas.Bool.Decides.{Decides-int_eq}
use Rattle.std.proofs.lemmas.Option.{get_or_from_slice_get}
use Rattle.std.proofs.lemmas.Bool.Decides.{nat_tests}
use Rattle.boogie_meaning.proofs.PatternLaws.{is_inj}
use Rattle.vb_base.specs.declared.places.Pos.{Pos}
use Rattle.vb_value.specs.Bound.{Bound, Bounded, Unbounded, IfBounded}
use Rattle.vb_value.specs.Content as content
use Rattle.vb_value.specs.Content.{Content, Leaf, Pair}
use Rattle.vb_value.specs.Fraction.{Fraction, is_positive, whole, IsProperFraction}
use Rattle.vb_value.specs.Value.{type_of}
use Rattle.vb_value.specs.declared.values.Ty.{Ty}
use Rattle.vb_value.specs.declared.values.Ty.TheVariants as ty
use Rattle.vb_value.specs.declared.values.Value.{Value}
use Rattle.vb_value.specs.declared.values.Value.TheVariants as v
use Rattle.viper_core.specs.Expr as e
use Rattle.viper_core.specs.Formed.{IsFormed}
use Rattle.viper_core.specs.Typing as y
use Rattle.viper_core.specs.Typing.{Context, HasType, IsAmount, IsAssertion, allows_old, is_outside_predicates}
use Rattle.viper_state.specs.Run.{Scene}
use Rattle.viper_state.specs.State.{Key, State}
use Rattle.viper_state.proofs.FitsLaws.{value_found, content_found}
use Rattle.viper_meaning.specs.Contents.{contained_at, content_by, content_in, is_small}
use Rattle.viper_meaning.specs.Ends.{Evaluated, is, found}
use Rattle.viper_meaning.specs.Kept.{Keeps, IsAny}
use Rattle.viper_meaning.specs.Resource.{Resource, Place as At, Instance}
use Rattle.viper_meaning.specs.Value.{value, amount_of}
use Rattle.viper_meaning.proofs.KeptLaws.{is_kept, then_kept, found_kept}
use Rattle.viper_meaning.proofs.TypedLaws.{keys_at}
use Rattle.boogie_tree.specs.Expr as t
use Rattle.boogie_tree.specs.Value as w
use Rattle.boogie_tree.specs.declared.exprs.BOp.TheVariants as op
use Rattle.boogie_meaning.specs.Ends as end
use Rattle.boogie_meaning.specs.Operators as m
use Rattle.boogie_meaning.specs.Quantified.{bvalue}
use Rattle.moves.specs.Scalars.{scalar}
use Rattle.enc_expr.specs.Place.{Place, number}
use Rattle.enc_expr.specs.Kinds.{kinds_in, type_at}
use Rattle.enc_expr.specs.Pieces.{at_one, zero_real, is_one}
use Rattle.enc_expr.specs.Encoding.{leaf}
use Rattle.enc_expr.specs.Plain.{plain, plain_index, plain_amount, contained_by, content_expr}
use Rattle.enc_expr.specs.Coupling.{Env, IsCoupled, heap_kind, content_kind}
use Rattle.enc_expr.proofs.AmountLaws.{positive_test}
use Rattle.enc_expr.proofs.OperatorLaws as operator
use Rattle.enc_expr.proofs.Simulation.{both_laws, any_law, proper_amount}
use Rattle.enc_expr.proofs.CheckLaws.{found_value, place_index}
use Rattle.enc_expr.specs.Worth.{IsContent}
use Rattle.enc_expr.proofs.PlainLaws.{truth_plain, ref_plain, perm_plain, IsPlainKey, plain_value, plain_key}

-- ---- by an amount

real_same : (p q : Fraction) → w.Real p ≡ w.Real q → p ≡ q
real_same p q h = cc

-- the literal 1 is positive
one_positive : (b : Bound) (x : t.BExpr) (q : Fraction) (E : Env) → is_one x ≡ true → bvalue b x E ≡ end.Is (w.Real q) → is_positive q ≡ true
one_positive b (t.Real z) q E one here = ap is_positive (sym (real_same _ _ (is_inj here)) ∙ ap whole ((Decides-int_eq z (pos 1)).0 one))
one_positive b x q E one here = absurd cc

-- the value of a place as its content
leaf_is : (b : Bound) (u : Ty) (x : t.BExpr) (z : Value) (E : Env) → type_of z ≡ u → bvalue b x E ≡ end.Is (scalar z) → bvalue b (leaf u x) E ≡ end.Is (w.Snap (Leaf z))
leaf_is b u x z E typed here = subst (λ u. bvalue b (leaf u x) E ≡ end.Is (w.Snap (Leaf z))) typed (by_value z here)
  where
    by_value : (z : Value) → bvalue b x E ≡ end.Is (scalar z) → bvalue b (leaf (type_of z) x) E ≡ end.Is (w.Snap (Leaf z))
    by_value (v.Int n) here = ap (λ g. end.then_with g m.leaf_int) here
    by_value (v.Bool q) here = ap (λ g. end.then_with g m.leaf_bool) here
    by_value (v.Ref r) here = ap (λ g. end.then_with g m.leaf_ref) here
    by_value (v.Perm q) here = ap (λ g. end.then_with g m.leaf_perm) here

-- ---- within the bound

first_small : (b : Bound) (c d : Content) → IfBounded b (is_small (Pair c d) ≡ true) → IfBounded b (is_small c ≡ true)
first_small Unbounded c d h = tt
first_small Bounded c d h = grind (arith, nat_tests, h)

second_small : (b : Bound) (c d : Content) → IfBounded b (is_small (Pair c d) ≡ true) → IfBounded b (is_small d ≡ true)
second_small Unbounded c d h = tt
second_small Bounded c d h = grind (arith, nat_tests, h)

pair_is : (b : Bound) (x z : t.BExpr) (c d : Content) (E : Env) → bvalue b x E ≡ end.Is (w.Snap c) → bvalue b z E ≡ end.Is (w.Snap d) → IfBounded b (is_small (Pair c d) ≡ true) →
    bvalue b (t.Pair x z) E ≡ end.Is (w.Snap (Pair c d))
pair_is b x z c d E left right small = (λ j. end.then_with (left j) (λ p. end.then_with (right j) (λ q. m.pair_of b p q))) ∙ fits b small
  where
    fits : (b : Bound) → IfBounded b (is_small (Pair c d) ≡ true) → end.fitting b (is_small (Pair c d)) (w.Snap (Pair c d)) ≡ end.Is (w.Snap (Pair c d))
    fits Unbounded small = refl
    fits Bounded small = ap (λ z. end.fitting Bounded z (w.Snap (Pair c d))) small

module _ (b : Bound) (E : Env) where
  chosen_value : (q : Truth) (x y z : t.BExpr) → bvalue b x E ≡ end.Is (w.Bool q) → bvalue b (t.If x y z) E ≡ (if q then bvalue b y E else bvalue b z E)
  chosen_value q x y z h = λ j. end.then_with (m.as_truth (h j)) (λ p. if p then bvalue b y E else bvalue b z E)

  chosen_content : (x y z : t.BExpr) (q : Truth) (d f : Evaluated Content) → bvalue b x E ≡ end.Is (w.Bool q) → Keeps IsAny (IsContent b E y) d → Keeps IsAny (IsContent b E z) f → Keeps IsAny (IsContent b E (t.If x y z)) (if q then d else f)
  chosen_content x y z true d f here h i = any_law (λ k g small. chosen_value true x y z here ∙ g small) h
  chosen_content x y z false d f here h i = any_law (λ k g small. chosen_value false x y z here ∙ g small) i

  -- what is held by no positive amount contains nothing
  contained_content : (x y : t.BExpr) (q : Fraction) (o : Option Content) (d : Content) → bvalue b x E ≡ end.Is (w.Real q) → IsProperFraction b q → o ≡ Some d → bvalue b y E ≡ end.Is (w.Snap d) →
      Keeps IsAny (IsContent b E (contained_by x y)) (if is_positive q then found o else is content.Unit)
  contained_content x y q o d here proper there value = by_literal (is_one x) refl
    where
      is_it : (z : t.BExpr) → bvalue b z E ≡ end.Is (w.Snap d) → Keeps IsAny (IsContent b E z) (found o)
      is_it z same = found_kept o (subst (λ o. IfSome o (IsContent b E z)) (sym there) (λ small. same))

      positive : bvalue b (t.Bin op.Gt x zero_real) E ≡ end.Is (w.Bool (is_positive q))
      positive = operator.plain_value b op.Gt x zero_real _ _ E refl here refl ∙ positive_test b q proper

      by_sign : (r : Truth) → is_positive q ≡ r → Keeps IsAny (IsContent b E (t.If (t.Bin op.Gt x zero_real) y t.Unit)) (if r then found o else is content.Unit)
      by_sign true same = is_it (t.If (t.Bin op.Gt x zero_real) y t.Unit) (chosen_value true (t.Bin op.Gt x zero_real) y t.Unit (positive ∙ ap (λ r. end.Is (w.Bool r)) same) ∙ value)
      by_sign false same = is_kept (λ small. chosen_value false (t.Bin op.Gt x zero_real) y t.Unit (positive ∙ ap (λ r. end.Is (w.Bool r)) same))

      by_literal : (one : Truth) → is_one x ≡ one → Keeps IsAny (IsContent b E (if one then y else t.If (t.Bin op.Gt x zero_real) y t.Unit)) (if is_positive q then found o else is content.Unit)
      by_literal true one = subst (λ r. Keeps IsAny (IsContent b E y) (if r then found o else is content.Unit)) (sym (one_positive b x q E one here)) (is_it y value)
      by_literal false one = by_sign (is_positive q) refl

module _ (b : Bound) (c : Context) (formed : IsFormed c.program) {n : ℕ} {p : Place} {s : State} {sc : Scene} {E : Env} (coupled : IsCoupled b c n p s sc E) (inside : allows_old c.site ≡ false) (closed : is_outside_predicates c.site ≡ false) where
  amount_plain : (a : e.Expr) → HasType c a ty.Perm → Keeps IsAny (λ q. (bvalue b (plain (kinds_in c) p a).expr E ≡ end.Is (w.Real q)) × IsProperFraction b q) (amount_of b (e.Is a) s sc)
  amount_plain a typed = both_laws (perm_plain b E (plain (kinds_in c) p a) (value b a s sc) (plain_value b c formed coupled inside closed a ty.Perm typed)) (proper_amount b c formed coupled typed)

  -- of a place or an instance whose content is known
  by_amount : (m : e.Amt) (x : t.BExpr) (r : Resource) (d : Content) → IsAmount c m → contained_at s r ≡ Some d → bvalue b x E ≡ end.Is (w.Snap d) →
      Keeps IsAny (IsContent b E (contained_by (plain_amount (kinds_in c) p m) x)) (content_by b m s sc r)
  by_amount (e.Is a) x r d (y.amount typed) there value = then_kept (amount_plain a typed) (λ q h. contained_content b E (plain (kinds_in c) p a).expr x q (contained_at s r) d h.0 h.1 there value)
  by_amount e.Wildcard x r d (y.wildcard outside) there value = absurd cc

  content_of_place : (a : e.Expr) (f : ℕ) (m : e.Amt) (u : Ty) → HasType c a ty.Ref → slice_get c.program.layout.fields f ≡ Some u → IsAmount c m → (r : ℕ) → bvalue b (plain (kinds_in c) p a).expr E ≡ end.Is (w.Ref r) →
      Keeps IsAny (IsContent b E (contained_by (plain_amount (kinds_in c) p m) (leaf (type_at c.program.layout.fields f) (at_one (number p.now.heap f) (plain (kinds_in c) p a).expr)))) (content_by b m s sc (At f r))
  content_of_place a f m u i there j r here =
      let x = (plain (kinds_in c) p a).expr in
      let z = value_found coupled.sound.fits f r u there in
      let value : bvalue b (at_one (number p.now.heap f) x) E ≡ end.Is (scalar z.0) =
      found_value (heap_kind u) b n (number p.now.heap f) s.heap f E r (t.more x t.none) z.0 (coupled.now.heap f u there) tt (place_index b x r E here) z.1.0 in
      by_amount m (leaf (type_at c.program.layout.fields f) (at_one (number p.now.heap f) x)) (At f r) (Leaf z.0) j (ap (option_map Leaf) z.1.0)
      (leaf_is b (type_at c.program.layout.fields f) (at_one (number p.now.heap f) x) z.0 E (z.1.1.typed ∙ sym (get_or_from_slice_get c.program.layout.fields f u ty.Int there)) value)

  place_is : (a : e.Expr) (f : ℕ) (m : e.Amt) (at : Pos) (u : Ty) → HasType c a ty.Ref → slice_get c.program.layout.fields f ≡ Some u → IsAmount c m → (x : Resource) →
      (r : ℕ) × ((x ≡ At f r) × (bvalue b (plain (kinds_in c) p a).expr E ≡ end.Is (w.Ref r))) → Keeps IsAny (IsContent b E (content_expr (kinds_in c) p (e.Acc a f m at))) (content_by b m s sc x)
  place_is a f m at u i there j x h =
      subst (λ x. Keeps IsAny (IsContent b E (content_expr (kinds_in c) p (e.Acc a f m at))) (content_by b m s sc x)) (sym h.1.0) (content_of_place a f m u i there j h.0 h.1.1)

  instance_is : (q : ℕ) (args : e.Exprs) (m : e.Amt) (at : Pos) (us : List Ty) → slice_get c.program.layout.keys q ≡ Some us → IsAmount c m → (x : Resource) →
      (key : Key) × ((x ≡ Instance q key) × IsPlainKey b c formed coupled inside closed us args key) → Keeps IsAny (IsContent b E (content_expr (kinds_in c) p (e.Inst q args m at))) (content_by b m s sc x)
  instance_is q args m at us keys j x h =
      let known = content_found coupled.sound.fits q h.0 us keys in
      let value : bvalue b (t.At (number p.now.content q) (plain_index (kinds_in c) p args)) E ≡ end.Is (w.Snap known.0) =
      found_value (content_kind us) b n (number p.now.content q) s.content q E h.0 (plain_index (kinds_in c) p args) known.0 (coupled.now.content q us keys) h.1.1.fits h.1.1.here known.1.0 in
      subst (λ x. Keeps IsAny (IsContent b E (content_expr (kinds_in c) p (e.Inst q args m at))) (content_by b m s sc x)) (sym h.1.0)
      (by_amount m (t.At (number p.now.content q) (plain_index (kinds_in c) p args)) (Instance q h.0) known.0 j known.1.0 value)

  pub content_value : (a : e.Assertion) → IsAssertion c a → Keeps IsAny (IsContent b E (content_expr (kinds_in c) p a)) (content_in b a s sc)
  content_value (e.Fact a at) (y.fact i) = is_kept (λ small. refl)
  content_value (e.Acc a f m at) (y.access {u = u} i there j) =
      then_kept (then_kept (ref_plain b E (plain (kinds_in c) p a) (value b a s sc) (plain_value b c formed coupled inside closed a ty.Ref i)) (λ r here. is_kept (r, (refl, here)))) (λ x h. place_is a f m at u i there j x h)
  content_value (e.Inst q args m at) (y.instance d there i j) =
      then_kept (then_kept (plain_key b c formed coupled inside closed args d.params i) (λ key here. is_kept (key, (refl, here)))) (λ x h. instance_is q args m at d.params (keys_at c formed q d there) j x h)
  content_value (e.And a d) (y.both i j) =
      then_kept (content_value a i) (λ x h. then_kept (content_value d j) (λ z g. is_kept (λ small.
      pair_is b (content_expr (kinds_in c) p a) (content_expr (kinds_in c) p d) x z E (h (first_small b x z small)) (g (second_small b x z small)) small)))
  content_value (e.Implies a d) (y.implied i j) =
      then_kept (truth_plain b E (plain (kinds_in c) p a) (value b a s sc) (plain_value b c formed coupled inside closed a ty.Bool i)) (λ q here.
      chosen_content b E (plain (kinds_in c) p a).expr (content_expr (kinds_in c) p d) t.Unit q (content_in b d s sc) (is content.Unit) here (content_value d j) (is_kept (λ small. refl)))
  content_value (e.ChooseAssertion a d f) (y.chosen i j k) =
      then_kept (truth_plain b E (plain (kinds_in c) p a) (value b a s sc) (plain_value b c formed coupled inside closed a ty.Bool i)) (λ q here.
      chosen_content b E (plain (kinds_in c) p a).expr (content_expr (kinds_in c) p d) (content_expr (kinds_in c) p f) q (content_in b d s sc) (content_in b f s sc) here (content_value d j) (content_value f k))
