-- The truth tables of operators.
use Rattle.std.proofs.Common.{◌≡◌, ◌⊎◌, inl, inr, ℕ, Bool as Truth, true, false, not, Some, List, [], ◌∷◌, Vec, slice_get, refl, sym, ap, subst, ◌∙◌}
use Rattle.std.specs.Bool.{beq}
use Rattle.std.specs.declared.alloc.Global.{Global}
use Rattle.boogie_meaning.proofs.PatternLaws.{is_inj}
use Rattle.sparse.specs.Map.{Map, get}
use Rattle.vb_value.specs.Bound.{Unbounded}
use Rattle.vb_value.specs.Key.{key_cmp}
use Rattle.boogie_tree.specs.Program.{BType}
use Rattle.boogie_tree.specs.Value.{Key, BScalar, BValue, Int, Bool, Ref, Real, Snap}
use Rattle.boogie_tree.specs.Values.{IsEnvironment}
use Rattle.boogie_tree.specs.declared.exprs.BOp.TheVariants as op
use Rattle.boogie_meaning.specs.Ends.{End, Is, Over, Wrong, then_with}
use Rattle.boogie_meaning.specs.Operators.{as_truth, binary, negation}
use Rattle.boogie_meaning.specs.Value.{the_map}
use Rattle.boogie_formula.specs.Formula as f
use Rattle.boogie_formula.specs.Value.{fvalue}
use Rattle.cert_terms.specs.Terms.{IsModel, IsTruth, IsTrueIn, HoldsIn, IsLaw}
use Rattle.cert_terms.specs.Literals.{turned}
use Rattle.cert_terms.specs.declared.terms.ClauseLiteral.{ClauseLiteral}
use Rattle.cert_terms.specs.declared.terms.CertificateTerm.{CertificateTerm}
use Rattle.cert_terms.specs.declared.terms.CertificateTerm.TheVariants as term
use Rattle.cert_terms.proofs.LiteralLaws.{truth_value, holds_first}
use Rattle.cert_terms.proofs.MeaningLaws.{chosen, map_at, bool_value, bin_value, if_value, if_map}
use Rattle.cert_rules.specs.Reasons.{yes, value_of, IsEquation, IsNamed, IsPlace}
use Rattle.cert_rules.specs.Gates.{HasTruth, IsAnd, both, neither, IsEqual, equal, IsIf, yes as if_yes, no as if_no}
use Rattle.cert_rules.proofs.ClauseLaws.{holds_second, holds_third}
use Rattle.cert_rules.proofs.EquationLaws.{Compared, compared, same, other}
use Rattle.cert_rules.proofs.PlaceLaws.{IsAt, at_there}

-- ---- signs

unsigned : (e : End BScalar) → then_with e negation ≡ Is (Bool false) → e ≡ Is (Bool true)
unsigned (Is (Bool true)) h = refl
unsigned (Is (Bool false)) h = absurd (cc)
unsigned (Is (Int n)) h = absurd (cc)
unsigned (Is (Ref n)) h = absurd (cc)
unsigned (Is (Real n)) h = absurd (cc)
unsigned (Is (Snap n)) h = absurd (cc)
unsigned Over h = absurd (cc)
unsigned Wrong h = absurd (cc)

turned_by : (values : List BValue) (n : ℕ) (s : Truth) → HasTruth values (record { name = n; negated = s }) false → HasTruth values (record { name = n; negated = not s }) true
turned_by values n true h = unsigned (fvalue (f.Var n) values) h
turned_by values n false h = let e : fvalue (f.Var n) values ≡ Is (Bool false) = h in ap (λ x. then_with x negation) e

-- the negation of what is false is true
pub turned_false : (values : List BValue) (l : ClauseLiteral) → HasTruth values l false → IsTrueIn values (turned l)
turned_false values l h = turned_by values l.name l.negated h

-- ---- clauses

module _ {values : List BValue} {n a b : ClauseLiteral} where
  pub and0 : IsAnd values n a b → HoldsIn values (n ∷ turned a ∷ turned b ∷ [])
  and0 (both {p = true} h g k) = holds_first values n _ h
  and0 (both {p = false} h g k) = holds_third (turned_false values b k)
  and0 (neither h g) = holds_second (turned_false values a g)

  pub and1 : IsAnd values n a b → HoldsIn values (turned n ∷ a ∷ [])
  and1 (both h g k) = holds_second g
  and1 (neither h g) = holds_first values (turned n) _ (turned_false values n h)

  pub and2 : IsAnd values n a b → HoldsIn values (turned n ∷ b ∷ [])
  and2 (both {p = true} h g k) = holds_second k
  and2 (both {p = false} h g k) = holds_first values (turned n) _ (turned_false values n h)
  and2 (neither h g) = holds_first values (turned n) _ (turned_false values n h)

  pub equal0 : IsEqual values n a b → HoldsIn values (n ∷ a ∷ b ∷ [])
  equal0 (equal {p = true} h g k) = holds_second g
  equal0 (equal {p = false} {q = true} h g k) = holds_third k
  equal0 (equal {p = false} {q = false} h g k) = holds_first values n _ h

  pub equal1 : IsEqual values n a b → HoldsIn values (n ∷ turned a ∷ turned b ∷ [])
  equal1 (equal {p = true} {q = true} h g k) = holds_first values n _ h
  equal1 (equal {p = true} {q = false} h g k) = holds_third (turned_false values b k)
  equal1 (equal {p = false} h g k) = holds_second (turned_false values a g)

  pub equal2 : IsEqual values n a b → HoldsIn values (turned n ∷ turned a ∷ b ∷ [])
  equal2 (equal {p = true} {q = true} h g k) = holds_third k
  equal2 (equal {p = true} {q = false} h g k) = holds_first values (turned n) _ (turned_false values n h)
  equal2 (equal {p = false} h g k) = holds_second (turned_false values a g)

  pub equal3 : IsEqual values n a b → HoldsIn values (turned n ∷ a ∷ turned b ∷ [])
  equal3 (equal {p = true} h g k) = holds_second g
  equal3 (equal {p = false} {q = true} h g k) = holds_first values (turned n) _ (turned_false values n h)
  equal3 (equal {p = false} {q = false} h g k) = holds_third (turned_false values b k)

  module _ {c : ClauseLiteral} where
    pub if0 : IsIf values n c a b → HoldsIn values (turned n ∷ turned c ∷ a ∷ [])
    if0 (if_yes {p = true} h g k) = holds_third k
    if0 (if_yes {p = false} h g k) = holds_first values (turned n) _ (turned_false values n h)
    if0 (if_no h g k) = holds_second (turned_false values c g)

    pub if1 : IsIf values n c a b → HoldsIn values (turned n ∷ c ∷ b ∷ [])
    if1 (if_yes h g k) = holds_second g
    if1 (if_no {p = true} h g k) = holds_third k
    if1 (if_no {p = false} h g k) = holds_first values (turned n) _ (turned_false values n h)

    pub if2 : IsIf values n c a b → HoldsIn values (n ∷ turned c ∷ turned a ∷ [])
    if2 (if_yes {p = true} h g k) = holds_first values n _ h
    if2 (if_yes {p = false} h g k) = holds_third (turned_false values a k)
    if2 (if_no h g k) = holds_second (turned_false values c g)

    pub if3 : IsIf values n c a b → HoldsIn values (n ∷ c ∷ turned b ∷ [])
    if3 (if_yes h g k) = holds_second g
    if3 (if_no {p = true} h g k) = holds_first values n _ h
    if3 (if_no {p = false} h g k) = holds_third (turned_false values b k)

-- ---- terms

truth_back : (e : End BScalar) (p : Truth) → then_with (as_truth e) (λ q. Is (Bool q)) ≡ Is (Bool p) → e ≡ Is (Bool p)
truth_back (Is (Bool q)) p h = h
truth_back (Is (Int n)) p h = absurd (cc)
truth_back (Is (Ref n)) p h = absurd (cc)
truth_back (Is (Real n)) p h = absurd (cc)
truth_back (Is (Snap n)) p h = absurd (cc)
truth_back Over p h = absurd (cc)
truth_back Wrong p h = absurd (cc)

-- an `and` that has a value
and_parts : (l r : End BScalar) (p : Truth) → binary Unbounded op.And l r ≡ Is (Bool p) → ((l ≡ Is (Bool true)) × (r ≡ Is (Bool p))) ⊎ ((l ≡ Is (Bool false)) × (p ≡ false))
and_parts (Is (Bool true)) r p h = inl (refl, truth_back r p h)
and_parts (Is (Bool false)) r p h = let e : false ≡ p = cc in inr (refl, sym e)
and_parts (Is (Int n)) r p h = absurd (cc)
and_parts (Is (Ref n)) r p h = absurd (cc)
and_parts (Is (Real n)) r p h = absurd (cc)
and_parts (Is (Snap n)) r p h = absurd (cc)
and_parts Over r p h = absurd (cc)
and_parts Wrong r p h = absurd (cc)

-- a choice that has a value
chosen_parts : {X : Type 0} (c : End BScalar) (l r : End X) (x : X) → chosen c l r ≡ Is x → ((c ≡ Is (Bool true)) × (l ≡ Is x)) ⊎ ((c ≡ Is (Bool false)) × (r ≡ Is x))
chosen_parts (Is (Bool true)) l r x h = inl (refl, h)
chosen_parts (Is (Bool false)) l r x h = inr (refl, h)
chosen_parts (Is (Int n)) l r x h = absurd (cc)
chosen_parts (Is (Ref n)) l r x h = absurd (cc)
chosen_parts (Is (Real n)) l r x h = absurd (cc)
chosen_parts (Is (Snap n)) l r x h = absurd (cc)
chosen_parts Over l r x h = absurd (cc)
chosen_parts Wrong l r x h = absurd (cc)

beq_itself : (p : Truth) → beq p p ≡ true
beq_itself true = refl
beq_itself false = refl

beq_apart : (p q : Truth) → (p ≡ q → ⊥) → beq p q ≡ false
beq_apart true true n = absurd (n refl)
beq_apart true false n = refl
beq_apart false true n = refl
beq_apart false false n = absurd (n refl)

truth_is : {p q : Truth} → Bool p ≡ Bool q → p ≡ q
truth_is h = cc

module _ (terms : List CertificateTerm) (types : List BType) (values : List BValue) (typed : IsEnvironment types values) (model : IsModel terms values) (n : ℕ) where
  pub true_holds : slice_get terms n ≡ Some (term.Bool true) → HoldsIn values (yes n ∷ [])
  true_holds h = holds_first values (yes n) [] (bool_value terms values model n true h)

  pub and_holds : (a b : ClauseLiteral) → slice_get terms n ≡ Some (term.Bin op.And a b) → IsTruth types (yes n) → IsAnd values (yes n) a b
  and_holds a b h t =
      let p = truth_value values types typed (yes n) t in
      by p.0 p.1.value (and_parts (value_of values a) (value_of values b) p.0 (sym (bin_value terms values model n op.And a b h) ∙ p.1.value))
    where
      by : (p : Truth) → HasTruth values (yes n) p → ((value_of values a ≡ Is (Bool true)) × (value_of values b ≡ Is (Bool p))) ⊎ ((value_of values a ≡ Is (Bool false)) × (p ≡ false)) → IsAnd values (yes n) a b
      by p g (inl k) = both g k.0 k.1
      by p g (inr k) = neither (g ∙ ap (λ x. Is (Bool x)) k.1) k.0

  pub if_holds : (c a b : ClauseLiteral) → slice_get terms n ≡ Some (term.If c a b) → IsTruth types (yes n) → IsIf values (yes n) c a b
  if_holds c a b h t =
      let p = truth_value values types typed (yes n) t in
      by p.0 p.1.value (chosen_parts (value_of values c) (value_of values a) (value_of values b) (Bool p.0) (sym (if_value terms values model n c a b h) ∙ p.1.value))
    where
      by : (p : Truth) → HasTruth values (yes n) p → ((value_of values c ≡ Is (Bool true)) × (value_of values a ≡ Is (Bool p))) ⊎ ((value_of values c ≡ Is (Bool false)) × (value_of values b ≡ Is (Bool p))) → IsIf values (yes n) c a b
      by p g (inl k) = if_yes g k.0 k.1
      by p g (inr k) = if_no g k.0 k.1

  pub equal_holds : (a b : ClauseLiteral) → IsEquation terms types n a b → IsTruth types a → IsTruth types b → IsEqual values (yes n) a b
  equal_holds a b e t u =
      let p = truth_value values types typed a t in
      let q = truth_value values types typed b u in
      by p.0 q.0 p.1.value q.1.value (compared terms types values typed model n a b e)
    where
      by : (p q : Truth) → HasTruth values a p → HasTruth values b q → Compared values n a b → IsEqual values (yes n) a b
      by p q h g (same {v = v} l r y) =
          let s : p ≡ q = truth_is (is_inj (sym h ∙ l ∙ sym r ∙ g)) in
          equal (y ∙ ap (λ x. Is (Bool x)) (sym (ap (λ x. beq p x) (sym s) ∙ beq_itself p))) h g
      by p q h g (other {v = v} {w = w} l r d y z) =
          equal (y ∙ ap (λ x. Is (Bool x)) (sym (beq_apart p q (λ s. d (is_inj (sym l ∙ h ∙ ap (λ x. Is (Bool x)) s ∙ sym g ∙ r)))))) h g

-- ---- choices

module _ (values : List BValue) (e : ℕ) (l x c : ClauseLiteral) where
  -- a choice is one of its two values
  pub case_left : Compared values e l x → ((v : BScalar) → value_of values l ≡ Is v → (value_of values x ≡ Is v) ⊎ (value_of values c ≡ Is (Bool false))) → HoldsIn values (turned c ∷ yes e ∷ [])
  case_left (same p q y) h = holds_second y
  case_left (other {v = v} p q d y z) h = by (h v p)
    where
      by : (value_of values x ≡ Is v) ⊎ (value_of values c ≡ Is (Bool false)) → HoldsIn values (turned c ∷ yes e ∷ [])
      by (inl k) = absurd (d (is_inj (sym k ∙ q)))
      by (inr k) = holds_first values (turned c) _ (turned_false values c k)

  pub case_right : Compared values e l x → ((v : BScalar) → value_of values l ≡ Is v → (value_of values x ≡ Is v) ⊎ (value_of values c ≡ Is (Bool true))) → HoldsIn values (c ∷ yes e ∷ [])
  case_right (same p q y) h = holds_second y
  case_right (other {v = v} p q d y z) h = by (h v p)
    where
      by : (value_of values x ≡ Is v) ⊎ (value_of values c ≡ Is (Bool true)) → HoldsIn values (c ∷ yes e ∷ [])
      by (inl k) = absurd (d (is_inj (sym k ∙ q)))
      by (inr k) = holds_first values c _ k

module _ (terms : List CertificateTerm) (types : List BType) (values : List BValue) (typed : IsEnvironment types values) (model : IsModel terms values) where
  choice : (l c a b : ClauseLiteral) → IsNamed terms l (term.If c a b) → (v : BScalar) → value_of values l ≡ Is v →
      ((value_of values c ≡ Is (Bool true)) × (value_of values a ≡ Is v)) ⊎ ((value_of values c ≡ Is (Bool false)) × (value_of values b ≡ Is v))
  choice l c a b h v g =
      chosen_parts (value_of values c) (value_of values a) (value_of values b) v (sym (if_value terms values model l.name c a b h.is_there) ∙ sym (ap (value_of values) h.is_name) ∙ g)

  -- the case of a choice between values
  pub value_case0 : (e : ℕ) (l c a b : ClauseLiteral) → IsEquation terms types e l a → IsNamed terms l (term.If c a b) → HoldsIn values (turned c ∷ yes e ∷ [])
  value_case0 e l c a b q h = case_left values e l a c (compared terms types values typed model e l a q) (λ v g. by (choice l c a b h v g))
    where
      by : {v : BScalar} → ((value_of values c ≡ Is (Bool true)) × (value_of values a ≡ Is v)) ⊎ ((value_of values c ≡ Is (Bool false)) × (value_of values b ≡ Is v)) →
          (value_of values a ≡ Is v) ⊎ (value_of values c ≡ Is (Bool false))
      by (inl k) = inl k.1
      by (inr k) = inr k.0

  pub value_case1 : (e : ℕ) (l c a b : ClauseLiteral) → IsEquation terms types e l b → IsNamed terms l (term.If c a b) → HoldsIn values (c ∷ yes e ∷ [])
  value_case1 e l c a b q h = case_right values e l b c (compared terms types values typed model e l b q) (λ v g. by (choice l c a b h v g))
    where
      by : {v : BScalar} → ((value_of values c ≡ Is (Bool true)) × (value_of values a ≡ Is v)) ⊎ ((value_of values c ≡ Is (Bool false)) × (value_of values b ≡ Is v)) →
          (value_of values b ≡ Is v) ⊎ (value_of values c ≡ Is (Bool true))
      by (inl k) = inr k.0
      by (inr k) = inl k.1

  map_choice : (i : ℕ) (c a b : ClauseLiteral) → slice_get terms i ≡ Some (term.If c a b) → (x : Map Key BScalar) → the_map values i ≡ Is x →
      ((value_of values c ≡ Is (Bool true)) × (map_at a values ≡ Is x)) ⊎ ((value_of values c ≡ Is (Bool false)) × (map_at b values ≡ Is x))
  map_choice i c a b h x g = chosen_parts (value_of values c) (map_at a values) (map_at b values) x (sym (if_map terms values model i c a b h) ∙ g)

  -- two places with one key of one map have one value
  one_place : (m : ℕ) (ks : List ClauseLiteral) (l r : ClauseLiteral) (i : ℕ) (v : BScalar) (p : IsAt values i ks v) → IsPlace terms r m ks → the_map values m ≡ Is p.map → (w : BScalar) → value_of values r ≡ Is w → w ≡ v
  one_place m ks l r i v p q h w g =
      let o = at_there terms values model r m ks w q g in
      let a : o.map ≡ p.map = is_inj (sym o.map_is ∙ h) in
      let b : o.key ≡ p.key = is_inj (sym o.key_is ∙ p.key_is) in
      sym o.value_is ∙ ap (λ x. get key_cmp x o.key) a ∙ ap (get key_cmp p.map) b ∙ p.value_is

  there_or : (e : ℕ) (l r c : ClauseLiteral) (m : ℕ) (ks : List ClauseLiteral) (i : ℕ) (s : Truth) → IsEquation terms types e l r → IsPlace terms l i ks → IsPlace terms r m ks →
      ((x : Map Key BScalar) → the_map values i ≡ Is x → (the_map values m ≡ Is x) ⊎ (value_of values c ≡ Is (Bool s))) →
      (v : BScalar) → value_of values l ≡ Is v → (value_of values r ≡ Is v) ⊎ (value_of values c ≡ Is (Bool s))
  there_or e l r c m ks i s q p o h v g =
      let a = at_there terms values model l i ks v p g in
      by a (h a.map a.map_is) (right_value (compared terms types values typed model e l r q))
    where
      right_value : Compared values e l r → (w : BScalar) × (value_of values r ≡ Is w)
      right_value (same {v = w} x y z) = (w, y)
      right_value (other {w = w} x y d z t) = (w, y)

      by : (a : IsAt values i ks v) → (the_map values m ≡ Is a.map) ⊎ (value_of values c ≡ Is (Bool s)) → (w : BScalar) × (value_of values r ≡ Is w) → (value_of values r ≡ Is v) ⊎ (value_of values c ≡ Is (Bool s))
      by a (inl k) w = inl (w.1 ∙ ap Is (one_place m ks l r i v a o k w.0 w.1))
      by a (inr k) w = inr k

  -- the case of a place of a choice between maps
  pub map_case0 : (e i m : ℕ) (l r c b : ClauseLiteral) (ks : List ClauseLiteral) → IsEquation terms types e l r → IsPlace terms l i ks → IsPlace terms r m ks → slice_get terms i ≡ Some (term.If c (yes m) b) →
      HoldsIn values (turned c ∷ yes e ∷ [])
  map_case0 e i m l r c b ks q p o h =
      case_left values e l r c (compared terms types values typed model e l r q) (there_or e l r c m ks i false q p o (λ x g. by (map_choice i c (yes m) b h x g)))
    where
      by : {x : Map Key BScalar} → ((value_of values c ≡ Is (Bool true)) × (map_at (yes m) values ≡ Is x)) ⊎ ((value_of values c ≡ Is (Bool false)) × (map_at b values ≡ Is x)) →
          (the_map values m ≡ Is x) ⊎ (value_of values c ≡ Is (Bool false))
      by (inl k) = inl k.1
      by (inr k) = inr k.0

  pub map_case1 : (e i m : ℕ) (l r c a : ClauseLiteral) (ks : List ClauseLiteral) → IsEquation terms types e l r → IsPlace terms l i ks → IsPlace terms r m ks → slice_get terms i ≡ Some (term.If c a (yes m)) →
      HoldsIn values (c ∷ yes e ∷ [])
  map_case1 e i m l r c a ks q p o h =
      case_right values e l r c (compared terms types values typed model e l r q) (there_or e l r c m ks i true q p o (λ x g. by (map_choice i c a (yes m) h x g)))
    where
      by : {x : Map Key BScalar} → ((value_of values c ≡ Is (Bool true)) × (map_at a values ≡ Is x)) ⊎ ((value_of values c ≡ Is (Bool false)) × (map_at (yes m) values ≡ Is x)) →
          (the_map values m ≡ Is x) ⊎ (value_of values c ≡ Is (Bool true))
      by (inl k) = inr k.0
      by (inr k) = inl k.1

-- ---- reasons

module _ (terms : List CertificateTerm) (types : List BType) where
  pub true_law : (n : ℕ) → slice_get terms n ≡ Some (term.Bool true) → IsLaw terms types (yes n ∷ [])
  true_law n h values typed model = true_holds terms types values typed model n h

  pub and_law : (n : ℕ) (l a b : ClauseLiteral) → l ≡ yes n → slice_get terms n ≡ Some (term.Bin op.And a b) → IsTruth types (yes n) → (v : Vec ClauseLiteral Global) →
      ((values : List BValue) → IsAnd values l a b → HoldsIn values v.items) → IsLaw terms types v.items
  and_law n l a b e h t v f values typed model = f values (subst (λ x. IsAnd values x a b) (sym e) (and_holds terms types values typed model n a b h t))

  pub equal_law : (n : ℕ) (l a b : ClauseLiteral) → l ≡ yes n → slice_get terms n ≡ Some (term.Bin op.Eq a b) → IsTruth types (yes n) → IsTruth types a → IsTruth types b → (v : Vec ClauseLiteral Global) →
      ((values : List BValue) → IsEqual values l a b → HoldsIn values v.items) → IsLaw terms types v.items
  equal_law n l a b e h t u w v f values typed model =
      f values (subst (λ x. IsEqual values x a b) (sym e) (equal_holds terms types values typed model n a b (record { is_there = h; is_truth = t }) u w))

  pub if_law : (n : ℕ) (l c a b : ClauseLiteral) → l ≡ yes n → slice_get terms n ≡ Some (term.If c a b) → IsTruth types (yes n) → (v : Vec ClauseLiteral Global) →
      ((values : List BValue) → IsIf values l c a b → HoldsIn values v.items) → IsLaw terms types v.items
  if_law n l c a b e h t v f values typed model = f values (subst (λ x. IsIf values x c a b) (sym e) (if_holds terms types values typed model n c a b h t))

  -- the clause of the side that the condition chooses
  abbrev pub IsChosen : ℕ → ClauseLiteral → ClauseLiteral → ClauseLiteral → ClauseLiteral → List ClauseLiteral → Type 0
  IsChosen e x c a b ls = ((x ≡ a) × (ls ≡ turned c ∷ yes e ∷ [])) ⊎ ((x ≡ b) × (ls ≡ c ∷ yes e ∷ []))

  pub value_case_law : (e : ℕ) (l x c a b : ClauseLiteral) → IsEquation terms types e l x → IsNamed terms l (term.If c a b) → (v : Vec ClauseLiteral Global) → IsChosen e x c a b v.items → IsLaw terms types v.items
  value_case_law e l x c a b q h v (inl k) values typed model =
      subst (HoldsIn values) (sym k.1) (value_case0 terms types values typed model e l c a b (subst (IsEquation terms types e l) k.0 q) h)
  value_case_law e l x c a b q h v (inr k) values typed model =
      subst (HoldsIn values) (sym k.1) (value_case1 terms types values typed model e l c a b (subst (IsEquation terms types e l) k.0 q) h)

  pub place_case_law : (e i m : ℕ) (l r x c a b : ClauseLiteral) (ks ls : List ClauseLiteral) → IsEquation terms types e l r → IsPlace terms l i ks → IsPlace terms r m ls → ks ≡ ls →
      slice_get terms i ≡ Some (term.If c a b) → x ≡ yes m → (v : Vec ClauseLiteral Global) → IsChosen e x c a b v.items → IsLaw terms types v.items
  place_case_law e i m l r x c a b ks ls q p o s h y v (inl k) values typed model =
      subst (HoldsIn values) (sym k.1)
      (map_case0 terms types values typed model e i m l r c b ks q p (subst (IsPlace terms r m) (sym s) o) (h ∙ ap (λ z. Some (term.If c z b)) (sym k.0 ∙ y)))
  place_case_law e i m l r x c a b ks ls q p o s h y v (inr k) values typed model =
      subst (HoldsIn values) (sym k.1)
      (map_case1 terms types values typed model e i m l r c a ks q p (subst (IsPlace terms r m) (sym s) o) (h ∙ ap (λ z. Some (term.If c a z)) (sym k.0 ∙ y)))
