-- An expression of a program means as one of a formula what it means in the program, where the names of its variables have their
-- values.
use Rattle.std.proofs.Common.{◌≡◌, ℕ, Bool as Truth, true, false, Option, Some, None, List, ◌∷◌, slice_get, if◌then◌else◌, refl, ap, ◌∙◌}
use Rattle.std.specs.Option.{option_map}
use Rattle.sparse.specs.Map.{Map}
use Rattle.vb_value.specs.Bound.{Unbounded}
use Rattle.boogie_tree.specs.Expr as t
use Rattle.boogie_tree.specs.Program.{BType}
use Rattle.boogie_tree.specs.Value.{Key, BScalar, BValue, One, Many, Bool}
use Rattle.boogie_tree.specs.Values.{plain_type, map_type, IsEnvironment, FitsScalar, FitsKey, IsMapOf, IsOfType, one}
use Rattle.boogie_tree.specs.declared.exprs.BBase.{BBase}
use Rattle.boogie_tree.specs.declared.exprs.BBase.TheVariants as base
use Rattle.boogie_meaning.specs.Ends.{End, Is, Over, Wrong, then_with, found, value as has}
use Rattle.boogie_meaning.specs.Operators.{as_truth}
use Rattle.boogie_meaning.specs.Value.{scalar_in, the_map}
use Rattle.boogie_meaning.specs.Quantified.{bvalue, bkey, one_of, side}
use Rattle.boogie_meaning.specs.Renamed.{renamed, renamed_in}
use Rattle.boogie_meaning.specs.Types.{HasType, var, int, real, bool, null, unit, neg, not_, binary, choose, forall_, to_real, s_int, s_bool, s_ref, s_perm, pair, at, at_bound, HaveTypes, none, more, SideHasType, whole as whole_variable, value as expression, then_some, base_of, bases_of, is_base}
use Rattle.boogie_meaning.proofs.RenamedLaws.{bvalue_same, bkey_same, variables, variables_in}
use Rattle.boogie_meaning.proofs.TypeLaws.{base_of_complete, bases_of_complete, same_type_itself}
use Rattle.boogie_meaning.proofs.ValueLaws.{found_typed}
use Rattle.boogie_meaning.proofs.TypedLaws.{bvalue_keeps, bkey_keeps, side_keeps, the_map_keeps, as_truth_value}
use Rattle.boogie_meaning.proofs.BoundLaws.{is_value, goes_not_over, bvalue_bounded, bkey_bounded, side_bounded, the_map_bounded}
use Rattle.boogie_formula.specs.Value.{plain, plain_all, two, three, fvalue, fkey, whole}
use Rattle.boogie_formula.specs.Types.{fbase, fbases, one_type, whole_type}
use Rattle.boogie_wp.specs.Lifted.{lifted, lifted_all}

-- ---- the expression that it is

module _ (g : ℕ → ℕ) where
  mutual
    pub plain_lifted : (e : t.BExpr) → plain (lifted g e) ≡ Some (renamed g e)
    plain_lifted (t.Var i) = refl
    plain_lifted (t.Int n) = refl
    plain_lifted (t.Real n) = refl
    plain_lifted (t.Bool p) = refl
    plain_lifted t.Null = refl
    plain_lifted t.Unit = refl
    plain_lifted (t.Neg a) = ap (option_map t.Neg) (plain_lifted a)
    plain_lifted (t.Not a) = ap (option_map t.Not) (plain_lifted a)
    plain_lifted (t.Bin o x y) = let p = plain_lifted x in let q = plain_lifted y in λ i. two (t.Bin o) (p i) (q i)
    plain_lifted (t.If c x y) = let o = plain_lifted c in let p = plain_lifted x in let q = plain_lifted y in λ i. three t.If (o i) (p i) (q i)
    plain_lifted (t.Forall us a) = ap (option_map (t.Forall us)) (plain_lifted a)
    plain_lifted (t.ToReal a) = ap (option_map t.ToReal) (plain_lifted a)
    plain_lifted (t.SInt a) = ap (option_map t.SInt) (plain_lifted a)
    plain_lifted (t.SBool a) = ap (option_map t.SBool) (plain_lifted a)
    plain_lifted (t.SRef a) = ap (option_map t.SRef) (plain_lifted a)
    plain_lifted (t.SPerm a) = ap (option_map t.SPerm) (plain_lifted a)
    plain_lifted (t.Pair x y) = let p = plain_lifted x in let q = plain_lifted y in λ i. two t.Pair (p i) (q i)
    plain_lifted (t.At m es) = ap (option_map (t.At (g m))) (plain_lifted_all es)
    plain_lifted (t.AtBound m) = refl

    pub plain_lifted_all : (es : t.BExprs) → plain_all (lifted_all g es) ≡ Some (renamed_in g es)
    plain_lifted_all t.none = refl
    plain_lifted_all (t.more a es) = let p = plain_lifted a in let q = plain_lifted_all es in λ i. two t.more (p i) (q i)

-- ---- types under other numbers

module _ (ls ks : List BType) (g : ℕ → ℕ) (h : (i : ℕ) (u : BType) → slice_get ls i ≡ Some u → slice_get ks (g i) ≡ Some u) where
  mutual
    pub renamed_typed : {o : Option (List BBase)} {e : t.BExpr} {u : BBase} → HasType ls o e u → HasType ks o (renamed g e) u
    renamed_typed (var {i = i} {u = u} l) = var (h i (plain_type u) l)
    renamed_typed int = int
    renamed_typed real = real
    renamed_typed bool = bool
    renamed_typed null = null
    renamed_typed unit = unit
    renamed_typed (neg n a) = neg n (renamed_typed a)
    renamed_typed (not_ a) = not_ (renamed_typed a)
    renamed_typed (binary e a b) = binary e (renamed_typed a) (renamed_typed b)
    renamed_typed (choose c a b) = choose (renamed_typed c) (renamed_typed a) (renamed_typed b)
    renamed_typed (forall_ k a) = forall_ k (renamed_typed a)
    renamed_typed (to_real a) = to_real (renamed_typed a)
    renamed_typed (s_int a) = s_int (renamed_typed a)
    renamed_typed (s_bool a) = s_bool (renamed_typed a)
    renamed_typed (s_ref a) = s_ref (renamed_typed a)
    renamed_typed (s_perm a) = s_perm (renamed_typed a)
    renamed_typed (pair a b) = pair (renamed_typed a) (renamed_typed b)
    renamed_typed (at {m = m} {u = u} {us = us} {w = w} l es) = at (h m (map_type u us w) l) (renamed_typed_in es)
    renamed_typed (at_bound {m = m} {u = u} {us = us} {w = w} l) = at_bound (h m (map_type u us w) l)

    pub renamed_typed_in : {o : Option (List BBase)} {es : t.BExprs} {us : List BBase} → HaveTypes ls o es us → HaveTypes ks o (renamed_in g es) us
    renamed_typed_in none = none
    renamed_typed_in (more k a es) = more k (renamed_typed a) (renamed_typed_in es)

-- ---- without a bound a typed expression has a value

module _ (ls : List BType) (env : List BValue) (h : IsEnvironment ls env) where
  pub value_there : (e : t.BExpr) (u : BBase) → HasType ls None e u → (v : BScalar) × (bvalue Unbounded e env ≡ Is v) × FitsScalar u v
  value_there e u w = is_value (bvalue_keeps Unbounded ls env h e u w) (goes_not_over (bvalue_bounded e env))

  pub key_there : (es : t.BExprs) (us : List BBase) → HaveTypes ls None es us → (k : Key) × (bkey Unbounded es env ≡ Is k) × FitsKey us k
  key_there es us w = is_value (bkey_keeps Unbounded ls env h es us w) (goes_not_over (bkey_bounded es env))

  pub truth_there : (e : t.BExpr) → HasType ls None e base.Bool → (p : Truth) × (bvalue Unbounded e env ≡ Is (Bool p))
  truth_there e w = let v = value_there e base.Bool w in let a = as_truth_value v.0 v.2 in (a.0, v.1 ∙ ap Is a.1)

  pub side_is : (e : t.BExpr) (u : BType) → SideHasType ls e u → (v : BValue) × (side Unbounded e env ≡ Is v) × IsOfType v u
  side_is e u w = is_value (side_keeps Unbounded ls env h e u w) (goes_not_over (side_bounded e env))

  pub map_there : (i : ℕ) (u : BBase) (us : List BBase) (w : BBase) → slice_get ls i ≡ Some (map_type u us w) → (m : Map Key BScalar) × (the_map env i ≡ Is m) × IsMapOf (u ∷ us) w m
  map_there i u us w l = is_value (the_map_keeps ls env h i u us w l) (goes_not_over (the_map_bounded env i))

-- ---- the value and the type that it has in a formula

scalar_there : (o : Option BValue) (v : BScalar) → then_with (found o) scalar_in ≡ Is v → o ≡ Some (One v)
scalar_there (Some (One w)) v h = let e : w ≡ v = cc in ap (λ x. Some (One x)) e
scalar_there (Some (Many m)) v h = absurd (cc)
scalar_there None v h = absurd (cc)

chosen_there : (e : End Truth) (a b : End BScalar) (v : BScalar) → then_with e (λ p. if p then a else b) ≡ Is v →
    (p : Truth) × (e ≡ Is p) × ((if p then a else b) ≡ Is v)
chosen_there (Is p) a b v h = (p, refl, h)
chosen_there Over a b v h = absurd (cc)
chosen_there Wrong a b v h = absurd (cc)

choose_whole : (p : Truth) (a b : End BScalar) (x y : End BValue) (v : BScalar) → (a ≡ Is v → x ≡ Is (One v)) → (b ≡ Is v → y ≡ Is (One v)) →
    (if p then a else b) ≡ Is v → (if p then x else y) ≡ Is (One v)
choose_whole true a b x y v f g h = f h
choose_whole false a b x y v f g h = g h

pub one_type_itself : (u : BType) → one_type u u ≡ Some u
one_type_itself u = rw (same_type_itself u) refl

module _ (ls ks : List BType) (env all : List BValue) (g : ℕ → ℕ) (types : (i : ℕ) (u : BType) → slice_get ls i ≡ Some u → slice_get ks (g i) ≡ Some u)
    (same : (i : ℕ) (u : BType) → slice_get ls i ≡ Some u → slice_get all (g i) ≡ slice_get env i) where
  pub renamed_value : (e : t.BExpr) (u : BBase) → HasType ls None e u → bvalue Unbounded (renamed g e) all ≡ bvalue Unbounded e env
  renamed_value e u h = bvalue_same Unbounded g env all e (variables ls (λ i. slice_get all (g i) ≡ slice_get env i) same h)

  pub lifted_value : (e : t.BExpr) (u : BBase) → HasType ls None e u → fvalue (lifted g e) all ≡ bvalue Unbounded e env
  lifted_value e u h =
      ap (λ o. then_with (found o) (λ a. bvalue Unbounded a all)) (plain_lifted g e) ∙ renamed_value e u h

  pub lifted_key : (es : t.BExprs) (us : List BBase) → HaveTypes ls None es us → fkey (lifted_all g es) all ≡ bkey Unbounded es env
  lifted_key es us h =
      ap (λ o. then_with (found o) (λ a. bkey Unbounded a all)) (plain_lifted_all g es)
      ∙ bkey_same Unbounded g env all es (variables_in ls (λ i. slice_get all (g i) ≡ slice_get env i) same h)

  pub lifted_type : (e : t.BExpr) (u : BBase) → HasType ls None e u → fbase ks (lifted g e) ≡ Some u
  lifted_type e u h = ap (λ o. then_some o (base_of ks None)) (plain_lifted g e) ∙ base_of_complete (renamed_typed ls ks g types h)

  pub lifted_types : (es : t.BExprs) (us : List BBase) → HaveTypes ls None es us → fbases ks (lifted_all g es) ≡ Some us
  lifted_types es us h = ap (λ o. then_some o (bases_of ks None)) (plain_lifted_all g es) ∙ bases_of_complete (renamed_typed_in ls ks g types h)

  pub lifted_whole : (e : t.BExpr) (u : BBase) → HasType ls None e u → (v : BScalar) → bvalue Unbounded e env ≡ Is v → whole (lifted g e) all ≡ Is (One v)
  lifted_whole (t.Var i) u (var l) v is = ap found (same i (plain_type u) l ∙ scalar_there (slice_get env i) v is)
  lifted_whole (t.If c x y) u (choose hc hx hy) v is =
      let p = chosen_there (as_truth (bvalue Unbounded c env)) (bvalue Unbounded x env) (bvalue Unbounded y env) v is in
      ap (λ e. then_with e (λ p. if p then whole (lifted g x) all else whole (lifted g y) all)) (ap as_truth (lifted_value c base.Bool hc) ∙ p.1)
      ∙ choose_whole p.0 (bvalue Unbounded x env) (bvalue Unbounded y env) (whole (lifted g x) all) (whole (lifted g y) all) v
      (lifted_whole x u hx v) (lifted_whole y u hy v) p.2
  lifted_whole e u h v is = ap one_of (lifted_value e u h ∙ is)

  pub lifted_whole_type : (e : t.BExpr) (u : BBase) → HasType ls None e u → whole_type ks (lifted g e) ≡ Some (plain_type u)
  lifted_whole_type (t.Var i) u (var l) = types i (plain_type u) l
  lifted_whole_type (t.If c x y) u (choose hc hx hy) =
      let o = lifted_type c base.Bool hc in
      let p = lifted_whole_type x u hx in
      let q = lifted_whole_type y u hy in
      (λ i. if is_base (o i) base.Bool then then_some (p i) (λ u. then_some (q i) (one_type u)) else None) ∙ one_type_itself (plain_type u)
  lifted_whole_type e u h = ap (λ o. then_some o (λ w. Some (plain_type w))) (lifted_type e u h)

  -- the right side of an assignment
  pub record SideThere (e : t.BExpr) (u : BType) : Type 0 where
    pub value : BValue
    pub is : side Unbounded e env ≡ Is value
    pub fits : IsOfType value u
    pub lifts : whole (lifted g e) all ≡ Is value
    pub typed : whole_type ks (lifted g e) ≡ Some u

  pub side_there : IsEnvironment ls env → (e : t.BExpr) (u : BType) → SideHasType ls e u → SideThere e u
  side_there h (t.Var i) u (whole_variable l) =
      let v = found_typed ls env i u h l in
      record { value = v.0; is = ap found v.1; fits = v.2; lifts = ap found (same i u l ∙ v.1); typed = types i u l }
  side_there h (t.Var i) _ (expression {u = u} (var l)) =
      let v = found_typed ls env i (plain_type u) h l in
      record { value = v.0; is = ap found v.1; fits = v.2; lifts = ap found (same i (plain_type u) l ∙ v.1); typed = types i (plain_type u) l }
  side_there h e _ (expression {u = u} w) =
      let v = value_there ls env h e u w in
      record { value = One v.0; is = ap one_of v.1; fits = one v.2; lifts = lifted_whole e u w v.0 v.1; typed = lifted_whole_type e u w }
