-- Where an expression has a value, the one without checks has it too.
use Rattle.std.proofs.Common.{◌≡◌, ℕ, ◌==◌, ℤ, pos, Bool as Truth, true, false, List, [], ◌∷◌, Option, Some, None, IfSome, slice_get, if◌then◌else◌, refl, sym, ap, subst, ◌∙◌}
use Rattle.std.specs.Ordering.{int_eq}
use Rattle.std.proofs.lemmas.Bool.{true≢false}
use Rattle.std.proofs.lemmas.Bool.Decides.{Decides-int_eq}
use Rattle.std.proofs.lemmas.Option.{get_or_from_slice_get, same_Some}
use Rattle.vb_base.specs.declared.labels.Kind.TheVariants as kind
use Rattle.vb_base.specs.declared.places.Pos.{Pos}
use Rattle.vb_value.specs.Bound.{Bound}
use Rattle.vb_value.specs.Fraction.{is_none}
use Rattle.vb_value.specs.Value.{type_of, IsProperValue}
use Rattle.vb_value.specs.declared.keys.KeyPart.{KeyPart}
use Rattle.vb_value.specs.declared.values.Ty.{Ty}
use Rattle.vb_value.specs.declared.values.Ty.TheVariants as ty
use Rattle.vb_value.specs.declared.values.Value.{Value}
use Rattle.vb_value.specs.declared.values.Value.TheVariants as v
use Rattle.viper_core.specs.declared.exprs.Op.{Op}
use Rattle.viper_core.specs.declared.exprs.Op.TheVariants as o
use Rattle.viper_core.specs.Expr as e
use Rattle.viper_core.specs.Formed.{IsFormed}
use Rattle.viper_core.specs.Typing as y
use Rattle.viper_core.specs.Typing.{Context, HasType, HaveTypes, value_type, is_number, allows_old, is_outside_predicates}
use Rattle.viper_state.specs.Event.{Event}
use Rattle.viper_state.specs.Fits.{FitsKey, part_type}
use Rattle.viper_state.specs.Run.{Scene}
use Rattle.viper_state.specs.State.{Key, State, value_at, mask_at}
use Rattle.viper_state.proofs.FitsLaws.{value_found}
use Rattle.viper_meaning.specs.Ends.{Evaluated, then_with}
use Rattle.viper_meaning.specs.Kept as kept
use Rattle.viper_meaning.specs.Kept.{Keeps, IsAny}
use Rattle.viper_meaning.specs.Operators as meaning
use Rattle.viper_meaning.specs.Operators.{Class, Lazy, Division, Plain, class_of, truth_of, ref_of, perm_of, settled, settled_or, in_class}
use Rattle.viper_meaning.specs.Places.{key_of, key_part, read_field}
use Rattle.viper_meaning.specs.Value.{as_truth, as_ref, as_perm, value, values, key_in}
use Rattle.viper_meaning.proofs.ClosedLaws.{any_found}
use Rattle.viper_meaning.proofs.SignLaws.{any_events}
use Rattle.viper_meaning.proofs.KeptLaws.{is_kept, fails_kept, then_kept, found_kept, unless_kept}
use Rattle.boogie_tree.specs.Expr as t
use Rattle.boogie_tree.specs.Value as w
use Rattle.boogie_tree.specs.declared.exprs.BBase.TheVariants as base
use Rattle.boogie_meaning.specs.Ends as end
use Rattle.boogie_meaning.specs.Operators as m
use Rattle.boogie_meaning.specs.Quantified.{bvalue, bkey}
use Rattle.moves.specs.Maps.{instance_key}
use Rattle.moves.specs.Scalars.{scalar, base_for}
use Rattle.enc_expr.specs.Place.{Place, number}
use Rattle.enc_expr.specs.Kinds.{kinds_in, type_at}
use Rattle.enc_expr.specs.Pieces.{Operand, at_one}
use Rattle.enc_expr.specs.Operators.{op_of}
use Rattle.enc_expr.specs.Plain.{plain_by, plain, plain_more, plain_index}
use Rattle.enc_expr.specs.Coupling.{Env, IsCoupled, heap_kind}
use Rattle.enc_expr.specs.Alike.{variable}
use Rattle.enc_expr.proofs.Simulated.{Computes, value as computed, over, Has}
use Rattle.enc_expr.proofs.RunLaws.{atom_value}
use Rattle.enc_expr.proofs.BaseLaws.{lazy_types, divisor_type, operand_base, quotient_base}
use Rattle.enc_expr.proofs.MapLaws.{front_of, part_there}
use Rattle.enc_expr.specs.Worth.{IsPlain}
use Rattle.enc_expr.proofs.OperatorLaws.{plain_computes, division_computes, negative_computes, negation_computes}
use Rattle.enc_expr.proofs.CheckLaws.{int_is, division_fails, found_value, place_index}
use Rattle.enc_expr.proofs.Simulation.{both_laws, any_law, part_is_whole, proper_value}

-- ---- types

class_base : (q : Class) (f : Op) (x z : Operand) (l r u : Ty) → class_of f ≡ q → value_type f l r ≡ Some u → x.base ≡ base_for l → z.base ≡ base_for r → (plain_by q f x z).base ≡ base_for u
class_base Lazy f x z l r u class typed h i = ap base_for (sym (lazy_types f l r u class typed).2)
class_base Division f x z l r u class typed h i = quotient_base f x z.expr l r u class typed
class_base Plain f x z l r u class typed h i = operand_base f x z l r u class typed h i

-- an operand says the type of its expression
pub plain_base : (c : Context) (p : Place) (a : e.Expr) (u : Ty) → allows_old c.site ≡ false → is_outside_predicates c.site ≡ false → HasType c a u → (plain (kinds_in c) p a).base ≡ base_for u
plain_base c p (e.Var x) u inside closed (y.variable visible there) = ap base_for (get_or_from_slice_get c.vars x u ty.Int there)
plain_base c p (e.Int z) _ inside closed (y.literal l) = refl
plain_base c p (e.Bool q) _ inside closed y.truth = refl
plain_base c p e.Null _ inside closed y.null = refl
plain_base c p (e.Part q) _ inside closed (y.part l) = refl
plain_base c p (e.Neg a) u inside closed (y.negative i counts) = plain_base c p a u inside closed i
plain_base c p (e.Not a) _ inside closed (y.negation i) = refl
plain_base c p (e.Bin f a d at) u inside closed (y.binary {left = l} {right = r} i j typed) =
    class_base (class_of f) f (plain (kinds_in c) p a) (plain (kinds_in c) p d) l r u refl typed (plain_base c p a l inside closed i) (plain_base c p d r inside closed j)
plain_base c p (e.Choose a d f) u inside closed (y.choice i j k) = plain_base c p d u inside closed j
plain_base c p (e.Field a f at) u inside closed (y.field i there) = ap base_for (get_or_from_slice_get c.program.layout.fields f u ty.Int there)
plain_base c p (e.Old a) u inside closed (y.old allowed i) = absurd cc
plain_base c p (e.Unfolding q) u inside closed (y.unfolded outside i) = absurd cc

-- ---- values

computes_kept : {b : Bound} {u : Ty} {x : Operand} {K : Env → Type 0} {a : Evaluated Value} {E : Env} → Computes b u x K a → K E → Keeps IsAny (IsPlain b u x E) a
computes_kept {E = E} (computed typed based h) k = is_kept (record { typed = typed; here = h E k })
computes_kept (over bounded) k = kept.over (any_events [])

module _ (b : Bound) (E : Env) where
  abbrev HasPlain : Ty → Operand → Evaluated Value → Type 0
  HasPlain u x a = Keeps IsAny (IsPlain b u x E) a

  -- ---- values of a type

  truth_goes : {Y : Type 0} {P : Y → Type 0} (x : Operand) (z : Value) (k : Truth → Evaluated Y) → IsPlain b ty.Bool x E z → ((q : Truth) → bvalue b x.expr E ≡ end.Is (w.Bool q) → Keeps IsAny P (k q)) → Keeps IsAny P (then_with (truth_of z) k)
  truth_goes x (v.Bool q) k h go = then_kept (is_kept h.here) (λ r same. go r same)
  truth_goes x z k h go = let typed = h.typed in absurd cc

  pub truth_plain : (x : Operand) (a : Evaluated Value) → HasPlain ty.Bool x a → Keeps IsAny (λ q. bvalue b x.expr E ≡ end.Is (w.Bool q)) (as_truth a)
  truth_plain x a h = then_kept h (λ z g. by_value z g)
    where
      by_value : (z : Value) → IsPlain b ty.Bool x E z → Keeps IsAny (λ q. bvalue b x.expr E ≡ end.Is (w.Bool q)) (truth_of z)
      by_value (v.Bool q) g = is_kept g.here
      by_value z g = let typed = g.typed in absurd cc

  pub ref_plain : (x : Operand) (a : Evaluated Value) → HasPlain ty.Ref x a → Keeps IsAny (λ r. bvalue b x.expr E ≡ end.Is (w.Ref r)) (as_ref a)
  ref_plain x a h = then_kept h (λ z g. by_value z g)
    where
      by_value : (z : Value) → IsPlain b ty.Ref x E z → Keeps IsAny (λ r. bvalue b x.expr E ≡ end.Is (w.Ref r)) (ref_of z)
      by_value (v.Ref r) g = is_kept g.here
      by_value z g = let typed = g.typed in absurd cc

  pub perm_plain : (x : Operand) (a : Evaluated Value) → HasPlain ty.Perm x a → Keeps IsAny (λ q. bvalue b x.expr E ≡ end.Is (w.Real q)) (as_perm a)
  perm_plain x a h = then_kept h (λ z g. by_value z g)
    where
      by_value : (z : Value) → IsPlain b ty.Perm x E z → Keeps IsAny (λ q. bvalue b x.expr E ≡ end.Is (w.Real q)) (perm_of z)
      by_value (v.Perm q) g = is_kept g.here
      by_value z g = let typed = g.typed in absurd cc

  -- ---- operators

  -- the value of the right side is handed on
  handed_on : (f : Op) (q : Truth) (z : Value) → class_of f ≡ Lazy → settled f q ≡ None → type_of z ≡ ty.Bool → m.binary b (op_of f) (end.Is (w.Bool q)) (end.Is (scalar z)) ≡ end.Is (scalar z)
  handed_on o.And true (v.Bool r) lazy left typed = refl
  handed_on o.Or false (v.Bool r) lazy left typed = refl
  handed_on o.Implies true (v.Bool r) lazy left typed = refl
  handed_on f q z lazy left typed = absurd cc

  lazy_value : (f : Op) (q : Truth) (x z : Operand) (d : Evaluated Value) → class_of f ≡ Lazy → bvalue b x.expr E ≡ end.Is (w.Bool q) → HasPlain ty.Bool z d →
      HasPlain ty.Bool (record { expr = t.Bin (op_of f) x.expr z.expr; base = base.Bool }) (settled_or (settled f q) d)
  lazy_value o.And true x z d lazy here h = any_law (λ u i. record { typed = i.typed; here = (λ j. m.binary b (op_of o.And) (here j) (i.here j)) ∙ handed_on o.And true u refl refl i.typed }) h
  lazy_value o.And false x z d lazy here h = is_kept (record { typed = refl; here = λ j. m.binary b (op_of o.And) (here j) (bvalue b z.expr E) })
  lazy_value o.Or true x z d lazy here h = is_kept (record { typed = refl; here = λ j. m.binary b (op_of o.Or) (here j) (bvalue b z.expr E) })
  lazy_value o.Or false x z d lazy here h = any_law (λ u i. record { typed = i.typed; here = (λ j. m.binary b (op_of o.Or) (here j) (i.here j)) ∙ handed_on o.Or false u refl refl i.typed }) h
  lazy_value o.Implies true x z d lazy here h = any_law (λ u i. record { typed = i.typed; here = (λ j. m.binary b (op_of o.Implies) (here j) (i.here j)) ∙ handed_on o.Implies true u refl refl i.typed }) h
  lazy_value o.Implies false x z d lazy here h = is_kept (record { typed = refl; here = λ j. m.binary b (op_of o.Implies) (here j) (bvalue b z.expr E) })
  lazy_value f q x z d lazy here h = absurd cc

  divided_value : (sc : Scene) (f : Op) (at : Pos) (x z : Operand) (i : Value) (d : ℤ) (u : Ty) → class_of f ≡ Division → value_type f (type_of i) ty.Int ≡ Some u → x.base ≡ base_for (type_of i) → z.base ≡ base_for ty.Int →
      IsProperValue b i → Has b x.expr i E → Has b z.expr (v.Int d) E → HasPlain u (plain_by Division f x z) (meaning.divided b sc f i (v.Int d) at)
  divided_value sc f at x z i d u class typed based based2 proper left right = by_test (int_eq d (pos 0)) refl
    where
      by_test : (q : Truth) → int_eq d (pos 0) ≡ q → HasPlain u (plain_by Division f x z) (meaning.divided b sc f i (v.Int d) at)
      by_test true zero = subst (HasPlain u (plain_by Division f x z)) (sym (ap (λ d. meaning.divided b sc f i (v.Int d) at) ((Decides-int_eq d (pos 0)).0 zero) ∙ division_fails b sc f i at u class typed)) (fails_kept sc at kind.Div)
      by_test false some = computes_kept (division_computes b sc f x z i d at u class typed based based2 proper (λ zero. true≢false (sym ((Decides-int_eq d (pos 0)).1 zero) ∙ some))) (record { left = left; right = right })

  class_value : {V : Event → Type 0} (q : Class) (sc : Scene) (f : Op) (at : Pos) (x z : Operand) (a d : Evaluated Value) (l r u : Ty) → class_of f ≡ q → value_type f l r ≡ Some u → x.base ≡ base_for l → z.base ≡ base_for r →
      HasPlain l x a → Keeps V (IsProperValue b) a → HasPlain r z d → HasPlain u (plain_by q f x z) (in_class q b sc f a d at)
  class_value Lazy sc f at x z a d l r u class typed based based2 h proper i =
      let types = lazy_types f l r u class typed in
      subst (λ u. HasPlain u (plain_by Lazy f x z) (in_class Lazy b sc f a d at)) (sym types.2)
      (then_kept (subst (λ l. HasPlain l x a) types.0 h) (λ k g. truth_goes x k (λ q. settled_or (settled f q) d) g (λ q here. lazy_value f q x z d class here (subst (λ r. HasPlain r z d) types.1 i))))
  class_value Division sc f at x z a d l r u class typed based based2 h proper i =
      let int = divisor_type f l r u class typed in
      then_kept (both_laws h proper) (λ k g. then_kept (subst (λ r. HasPlain r z d) int i) (λ j s.
      let whole = int_is j s.typed in
      subst (λ j. HasPlain u (plain_by Division f x z) (meaning.divided b sc f k j at)) (sym whole.1)
      (divided_value sc f at x z k whole.0 u class (ap (λ r. value_type f (type_of k) r) (sym int) ∙ ap (λ l. value_type f l r) g.0.typed ∙ typed) (based ∙ ap base_for (sym g.0.typed)) (based2 ∙ ap base_for int) g.1
      (record { value = g.0.here }) (record { value = s.here ∙ ap (λ j. end.Is (scalar j)) whole.1 }))))
  class_value Plain sc f at x z a d l r u class typed based based2 h proper i =
      then_kept h (λ k g. then_kept i (λ j s.
      computes_kept (plain_computes b f x z k j at u class (ap (λ l. value_type f l (type_of j)) g.typed ∙ ap (λ r. value_type f l r) s.typed ∙ typed) (based ∙ ap base_for (sym g.typed)) (based2 ∙ ap base_for (sym s.typed)))
      (record { left = record { value = g.here }; right = record { value = s.here } })))

  -- ---- choices

  chosen_value : (q : Truth) (x y z : t.BExpr) → bvalue b x E ≡ end.Is (w.Bool q) → bvalue b (t.If x y z) E ≡ (if q then bvalue b y E else bvalue b z E)
  chosen_value q x y z h = λ j. end.then_with (m.as_truth (h j)) (λ p. if p then bvalue b y E else bvalue b z E)

  pub choice_plain : {u : Ty} (x y z : Operand) (q : Truth) (d f : Evaluated Value) → bvalue b x.expr E ≡ end.Is (w.Bool q) → HasPlain u y d → HasPlain u z f →
      HasPlain u (record { expr = t.If x.expr y.expr z.expr; base = y.base }) (if q then d else f)
  choice_plain x y z true d f here h i = any_law (λ k g. record { typed = g.typed; here = chosen_value true x.expr y.expr z.expr here ∙ g.here }) h
  choice_plain x y z false d f here h i = any_law (λ k g. record { typed = g.typed; here = chosen_value false x.expr y.expr z.expr here ∙ g.here }) i

-- ---- arguments

-- what arguments make as an index
pub record ArePlain (b : Bound) (us : List Ty) (es : t.BExprs) (E : Env) (vs : List Value) : Type 0 where
  pub fits : (key : Key) → Some key ≡ key_of vs → FitsKey us key
  pub here : (key : Key) → Some key ≡ key_of vs → bkey b es E ≡ end.Is key

part_typed : (z : Value) (x : KeyPart) → key_part z ≡ Some x → part_type x ≡ type_of z
part_typed (v.Int n) x h = ap part_type (sym (same_Some _ _ h))
part_typed (v.Bool q) x h = ap part_type (sym (same_Some _ _ h))
part_typed (v.Ref r) x h = ap part_type (sym (same_Some _ _ h))
part_typed (v.Perm q) x h = absurd cc

module _ (b : Bound) (E : Env) where
  none_plain : ArePlain b [] t.none E []
  none_plain = record {
    fits = λ key h. subst (FitsKey []) (sym (same_Some _ _ h)) tt;
    here = λ key h. ap (λ (k : Key). end.Is k) (sym (same_Some _ _ h));
  }

  more_plain : (u : Ty) (us : List Ty) (x : Operand) (es : t.BExprs) (z : Value) (vs : List Value) → IsPlain b u x E z → ArePlain b us es E vs → ArePlain b (u ∷ us) (t.more x.expr es) E (z ∷ vs)
  more_plain u us x es z vs h i = record {
    fits = λ key same.
        let f = front_of (key_part z) (key_of vs) key same in
        subst (FitsKey (u ∷ us)) (sym f.whole) (part_typed z f.first_part f.first_is ∙ h.typed, i.fits f.others (sym f.others_are));
    here = λ key same.
        let f = front_of (key_part z) (key_of vs) key same in
        ap (λ g. end.then_with g (λ q. end.then_with (m.part_of q) (λ p. end.then_with (bkey b es E) (λ k. end.Is (p ∷ k))))) h.here
        ∙ ap (λ g. end.then_with g (λ p. end.then_with (bkey b es E) (λ k. end.Is (p ∷ k)))) (part_there z f.first_part f.first_is)
        ∙ ap (λ g. end.then_with g (λ k. end.Is (f.first_part ∷ k))) (i.here f.others (sym f.others_are))
        ∙ ap (λ (k : Key). end.Is k) (sym f.whole);
  }

-- ---- expressions

module _ (b : Bound) (c : Context) (formed : IsFormed c.program) {n : ℕ} {p : Place} {s : State} {sc : Scene} {E : Env} (coupled : IsCoupled b c n p s sc E) (inside : allows_old c.site ≡ false) (closed : is_outside_predicates c.site ≡ false) where
  read_plain : (f : ℕ) (at : Pos) (u : Ty) (x : Operand) (r : ℕ) → slice_get c.program.layout.fields f ≡ Some u → bvalue b x.expr E ≡ end.Is (w.Ref r) →
      Keeps IsAny (IsPlain b u (record { expr = at_one (number p.now.heap f) x.expr; base = base_for (type_at c.program.layout.fields f) }) E) (read_field sc s f at r)
  read_plain f at u x r there here =
      let z = value_found coupled.sound.fits f r u there in
      let x_at : Operand = record { expr = at_one (number p.now.heap f) x.expr; base = base_for (type_at c.program.layout.fields f) } in
      let it : IsPlain b u x_at E z.0 = record {
        typed = z.1.1.typed;
        here = found_value (heap_kind u) b n (number p.now.heap f) s.heap f E r (t.more x.expr t.none) z.0 (coupled.now.heap f u there) tt (place_index b x.expr r E here) z.1.0;
      } in
      unless_kept (r == 0) (fails_kept sc at kind.Null) (then_kept (found_kept (mask_at s f r) (any_found (mask_at s f r))) (λ held any.
      unless_kept (is_none held) (fails_kept sc at kind.Perm) (found_kept (value_at s f r) (subst (λ o. IfSome o (IsPlain b u x_at E)) (sym z.1.0) it))))

  pub plain_value : (a : e.Expr) (u : Ty) → HasType c a u → Keeps IsAny (IsPlain b u (plain (kinds_in c) p a) E) (value b a s sc)
  plain_value (e.Var x) u (y.variable visible there) =
      let has = coupled.vars x u visible there in
      let it : IsPlain b u (plain (kinds_in c) p (e.Var x)) E has.v = record { typed = has.typed; here = atom_value b n E (t.Var (number p.vars x)) (scalar has.v) (variable has.below has.here) } in
      found_kept (slice_get sc.store x) (subst (λ o. IfSome o (IsPlain b u (plain (kinds_in c) p (e.Var x)) E)) (sym has.there) it)
  plain_value (e.Int z) _ (y.literal l) = is_kept (record { typed = refl; here = refl })
  plain_value (e.Bool q) _ y.truth = is_kept (record { typed = refl; here = refl })
  plain_value e.Null _ y.null = is_kept (record { typed = refl; here = refl })
  plain_value (e.Part q) _ (y.part l) = is_kept (record { typed = refl; here = part_is_whole q l })
  plain_value (e.Neg a) u (y.negative i counts) =
      then_kept (plain_value a u i) (λ z h. computes_kept (negative_computes b (plain (kinds_in c) p a) z u (ap is_number h.typed ∙ counts) h.typed (plain_base c p a u inside closed i)) (record { value = h.here }))
  plain_value (e.Not a) _ (y.negation i) = then_kept (plain_value a ty.Bool i) (λ z h. computes_kept (negation_computes b (plain (kinds_in c) p a) z h.typed) (record { value = h.here }))
  plain_value (e.Bin f a d at) u (y.binary {left = l} {right = r} i j typed) =
      class_value b E (class_of f) sc f at (plain (kinds_in c) p a) (plain (kinds_in c) p d) (value b a s sc) (value b d s sc) l r u refl typed (plain_base c p a l inside closed i) (plain_base c p d r inside closed j)
      (plain_value a l i) (proper_value b c formed coupled i) (plain_value d r j)
  plain_value (e.Choose a d f) u (y.choice i j k) =
      then_kept (truth_plain b E (plain (kinds_in c) p a) (value b a s sc) (plain_value a ty.Bool i)) (λ q here.
      choice_plain b E (plain (kinds_in c) p a) (plain (kinds_in c) p d) (plain (kinds_in c) p f) q (value b d s sc) (value b f s sc) here (plain_value d u j) (plain_value f u k))
  plain_value (e.Field a f at) u (y.field i there) =
      then_kept (ref_plain b E (plain (kinds_in c) p a) (value b a s sc) (plain_value a ty.Ref i)) (λ r here. read_plain f at u (plain (kinds_in c) p a) r there here)
  plain_value (e.Old a) u (y.old allowed i) = absurd cc
  plain_value (e.Unfolding q) u (y.unfolded outside i) = absurd cc

  plain_values : (xs : e.Exprs) (us : List Ty) → HaveTypes c xs us → Keeps IsAny (ArePlain b us (plain_more (kinds_in c) p xs) E) (values b xs s sc)
  plain_values e.none _ y.nothing = is_kept (none_plain b E)
  plain_values (e.more a rest) _ (y.also {u = u} {us = us} i j) =
      then_kept (plain_value a u i) (λ z h. then_kept (plain_values rest us j) (λ zs g. is_kept (more_plain b E u us (plain (kinds_in c) p a) (plain_more (kinds_in c) p rest) z zs h g)))

  -- the index of an instance with these arguments
  pub record IsPlainKey (us : List Ty) (xs : e.Exprs) (key : Key) : Type 0 where
    pub fits : FitsKey us key
    pub here : bkey b (plain_index (kinds_in c) p xs) E ≡ end.Is (instance_key key)

  pub plain_key : (xs : e.Exprs) (us : List Ty) → HaveTypes c xs us → Keeps IsAny (IsPlainKey us xs) (key_in b xs s sc)
  plain_key xs us typed = then_kept (plain_values xs us typed) (λ vs h. found_kept (key_of vs) (by_key vs h (key_of vs) refl))
    where
      index : (xs : e.Exprs) (us : List Ty) (key : Key) → HaveTypes c xs us → FitsKey us key → bkey b (plain_more (kinds_in c) p xs) E ≡ end.Is key → bkey b (plain_index (kinds_in c) p xs) E ≡ end.Is (instance_key key)
      index e.none _ [] y.nothing fits here = refl
      index e.none _ (x ∷ key) y.nothing fits here = elim fits [ ]
      index (e.more a rest) _ [] (y.also i j) fits here = elim fits [ ]
      index (e.more a rest) _ (x ∷ key) (y.also i j) fits here = here

      by_key : (vs : List Value) → ArePlain b us (plain_more (kinds_in c) p xs) E vs → (o : Option Key) → o ≡ key_of vs → IfSome o (IsPlainKey us xs)
      by_key vs h (Some key) same = record { fits = h.fits key same; here = index xs us key typed (h.fits key same) (h.here key same) }
      by_key vs h None same = tt
