-- What follows from equations.
use Rattle.std.proofs.Common.{◌≡◌, ◌⊎◌, inl, inr, ℕ, ◌+◌, ◌<◌, ◌≤◌, Some, List, [], ◌∷◌, ◌++◌, take, length, get_or, slice_get, add-one, arith, refl, sym, ap, subst, ◌∙◌}
use Rattle.std.proofs.Math.Seq.{take-suc}
use Rattle.std.proofs.lemmas.List.{take_all}
use Rattle.std.specs.Option.{option_map}
use Rattle.std.proofs.lemmas.Option.{slice_get-map}
use Rattle.boogie_meaning.proofs.PatternLaws.{is_inj}
use Rattle.sparse.specs.Map.{get}
use Rattle.vb_value.specs.Key.{key_cmp}
use Rattle.boogie_tree.specs.Program.{BType}
use Rattle.boogie_tree.specs.Value.{Key, BScalar, BValue}
use Rattle.boogie_meaning.specs.Ends.{Is}
use Rattle.cert_terms.specs.Terms.{IsTrueIn, HoldsIn, IsLaw}
use Rattle.cert_terms.specs.declared.terms.ClauseLiteral.{ClauseLiteral}
use Rattle.cert_terms.specs.declared.terms.CertificateTerm.{CertificateTerm}
use Rattle.cert_rules.specs.Reasons.{yes, no, value_of, values_of, IsEquation, IsPlace, IsChange, IsLawUnless, IsAmong, along, turned}
use Rattle.cert_rules.specs.Heads.{applied, key_of, IsMade}
use Rattle.cert_rules.specs.declared.heads.TermHead.{TermHead}
use Rattle.cert_rules.proofs.ClauseLaws.{holds_longer, holds_last, holds_second}
use Rattle.cert_rules.proofs.EquationLaws.{Compared, compared, same, other}
use Rattle.cert_rules.proofs.HeadLaws.{made_value}
use Rattle.cert_rules.proofs.PlaceLaws.{at_there, put_there, put_hit, put_miss, keys_same}
use Rattle.cert_terms.proofs.LiteralLaws.{holds_first}

-- an equation of these two, either way round
abbrev pub IsBetween : ClauseLiteral → ClauseLiteral → ClauseLiteral → ClauseLiteral → Type 0
IsBetween l r a b = ((l ≡ a) × (r ≡ b)) ⊎ ((l ≡ b) × (r ≡ a))

module _ (values : List BValue) where
  -- an equation holds, or its sides have two values
  pub one_value : (n : ℕ) (l r : ClauseLiteral) → Compared values n l r → (value_of values l ≡ value_of values r) ⊎ IsTrueIn values (no n)
  one_value n l r (same p q y) = inl (p ∙ sym q)
  one_value n l r (other p q d y z) = inr z

  pub between_value : (n : ℕ) (l r a b : ClauseLiteral) → Compared values n l r → IsBetween l r a b → (value_of values a ≡ value_of values b) ⊎ IsTrueIn values (no n)
  between_value n l r a b c h = by (one_value n l r c) h
    where
      by : (value_of values l ≡ value_of values r) ⊎ IsTrueIn values (no n) → IsBetween l r a b → (value_of values a ≡ value_of values b) ⊎ IsTrueIn values (no n)
      by (inr x) k = inr x
      by (inl x) (inl k) = inl (ap (value_of values) (sym k.0) ∙ x ∙ ap (value_of values) k.1)
      by (inl x) (inr k) = inl (ap (value_of values) (sym k.1) ∙ sym x ∙ ap (value_of values) k.0)

  -- where both sides have one value the equation holds
  pub true_if_same : (n : ℕ) (l r : ClauseLiteral) → Compared values n l r → ((v w : BScalar) → value_of values l ≡ Is v → value_of values r ≡ Is w → v ≡ w) → IsTrueIn values (yes n)
  true_if_same n l r (same p q y) h = y
  true_if_same n l r (other {v = v} {w = w} p q d y z) h = absurd (d (h v w p q))

module _ (terms : List CertificateTerm) (types : List BType) where
  abbrev Law : List ClauseLiteral → (List BValue → Type 0) → Type 0
  Law clause P = IsLawUnless terms types clause P

  -- a clause with the negation of an equation
  pub linked_by : (clause : List ClauseLiteral) (q : ℕ) (l r a b : ClauseLiteral) → IsEquation terms types q l r → IsBetween l r a b → Law (clause ++ no q ∷ []) (λ values. value_of values a ≡ value_of values b)
  linked_by clause q l r a b e k values typed model = by (between_value values q l r a b (compared terms types values typed model q l r e) k)
    where
      by : (value_of values a ≡ value_of values b) ⊎ IsTrueIn values (no q) → HoldsIn values (clause ++ no q ∷ []) ⊎ (value_of values a ≡ value_of values b)
      by (inl x) = inr x
      by (inr x) = inl (holds_last clause (no q) x)

  map-last : (values : List BValue) (ls : List ClauseLiteral) (l : ClauseLiteral) → values_of values (ls ++ l ∷ []) ≡ values_of values ls ++ value_of values l ∷ []
  map-last values [] l = refl
  map-last values (k ∷ ls) l = ap (λ x. value_of values k ∷ x) (map-last values ls l)

  pub linked_more : (left right old new : List ClauseLiteral) (i : ℕ) → i < length left → length left ≡ length right → Law old (λ values. values_of values (take i left) ≡ values_of values (take i right)) →
      ((values : List BValue) → HoldsIn values old → HoldsIn values new) → Law new (λ values. value_of values (get_or left i (yes 0)) ≡ value_of values (get_or right i (yes 0))) →
      Law new (λ values. values_of values (take (i + 1) left) ≡ values_of values (take (i + 1) right))
  linked_more left right old new i lt e h g k values typed model = by (h values typed model) (k values typed model)
    where
      by : HoldsIn values old ⊎ (values_of values (take i left) ≡ values_of values (take i right)) → HoldsIn values new ⊎ (value_of values (get_or left i (yes 0)) ≡ value_of values (get_or right i (yes 0))) →
          HoldsIn values new ⊎ (values_of values (take (i + 1) left) ≡ values_of values (take (i + 1) right))
      by (inl x) y = inl (g values x)
      by (inr x) (inl y) = inl y
      by (inr x) (inr y) =
          let p : take (i + 1) left ≡ take i left ++ (get_or left i (yes 0) ∷ []) = rw (add-one) (take-suc left i (yes 0) lt) in
          let less : i < length right = omega arith in
          let q : take (i + 1) right ≡ take i right ++ (get_or right i (yes 0) ∷ []) = rw (add-one) (take-suc right i (yes 0) less) in
          inr (ap (values_of values) p ∙ map-last values (take i left) (get_or left i (yes 0)) ∙ (λ j. x j ++ y j ∷ []) ∙ sym (map-last values (take i right) (get_or right i (yes 0))) ∙ sym (ap (values_of values) q))

  pub linked_all : (left right clause : List ClauseLiteral) (i : ℕ) → length left ≤ i → length right ≤ i → Law clause (λ values. values_of values (take i left) ≡ values_of values (take i right)) →
      Law clause (λ values. values_of values left ≡ values_of values right)
  linked_all left right clause i h g k =
      subst (λ ls. Law clause (λ values. values_of values ls ≡ values_of values right)) (take_all i left h)
      (subst (λ ls. Law clause (λ values. values_of values (take i left) ≡ values_of values ls)) (take_all i right g) k)

  -- an equation of what one operator makes
  pub same_law : (clause : List ClauseLiteral) (e : ℕ) (l r : ClauseLiteral) (h g : TermHead) (ps qs : List ClauseLiteral) → IsEquation terms types e l r → IsMade terms l h ps → IsMade terms r g qs → h ≡ g →
      Law clause (λ values. values_of values ps ≡ values_of values qs) → IsLaw terms types (clause ++ yes e ∷ [])
  same_law clause e l r h g ps qs q m n s k values typed model = by (k values typed model)
    where
      one : values_of values ps ≡ values_of values qs → value_of values l ≡ value_of values r
      one x = made_value terms values model l h ps m ∙ (λ i. applied values (s i) (x i)) ∙ sym (made_value terms values model r g qs n)

      by : HoldsIn values clause ⊎ (values_of values ps ≡ values_of values qs) → HoldsIn values (clause ++ yes e ∷ [])
      by (inl x) = holds_longer clause (yes e ∷ []) x
      by (inr x) =
          holds_last clause (yes e) (true_if_same values e l r (compared terms types values typed model e l r q) (λ v w y z. is_inj (sym y ∙ one x ∙ z)))

  -- an equation of what equations lead to
  pub path_law : (clause : List ClauseLiteral) (e : ℕ) (l r : ClauseLiteral) → IsEquation terms types e l r → Law clause (λ values. value_of values l ≡ value_of values r) → IsLaw terms types (clause ++ yes e ∷ [])
  path_law clause e l r q k values typed model = by (k values typed model)
    where
      by : HoldsIn values clause ⊎ (value_of values l ≡ value_of values r) → HoldsIn values (clause ++ yes e ∷ [])
      by (inl x) = holds_longer clause (yes e ∷ []) x
      by (inr x) = holds_last clause (yes e) (true_if_same values e l r (compared terms types values typed model e l r q) (λ v w y z. is_inj (sym y ∙ x ∙ z)))

  -- one equation more of a path
  pub path_more : (clause : List ClauseLiteral) (start at next : ClauseLiteral) (q : ℕ) (l r : ClauseLiteral) → IsEquation terms types q l r → ((l ≡ at) × (r ≡ next)) ⊎ ((r ≡ at) × (l ≡ next)) →
      Law clause (λ values. value_of values start ≡ value_of values at) → Law (clause ++ no q ∷ []) (λ values. value_of values start ≡ value_of values next)
  path_more clause start at next q l r e k h values typed model = by (h values typed model) (linked_by clause q l r at next e (turn k) values typed model)
    where
      turn : ((l ≡ at) × (r ≡ next)) ⊎ ((r ≡ at) × (l ≡ next)) → IsBetween l r at next
      turn (inl x) = inl x
      turn (inr x) = inr (x.1, x.0)

      by : HoldsIn values clause ⊎ (value_of values start ≡ value_of values at) → HoldsIn values (clause ++ no q ∷ []) ⊎ (value_of values at ≡ value_of values next) →
          HoldsIn values (clause ++ no q ∷ []) ⊎ (value_of values start ≡ value_of values next)
      by (inl x) y = inl (holds_longer clause (no q ∷ []) x)
      by (inr x) (inl y) = inl y
      by (inr x) (inr y) = inr (x ∙ y)

  -- a changed map at the keys of the change
  pub hit_law : (clause : List ClauseLiteral) (e : ℕ) (l r : ClauseLiteral) (i m : ℕ) (ls ks : List ClauseLiteral) → IsEquation terms types e l r → IsPlace terms l i ls → IsChange terms i m ks r →
      Law clause (λ values. values_of values ks ≡ values_of values ls) → IsLaw terms types (clause ++ yes e ∷ [])
  hit_law clause e l r i m ls ks q p c k values typed model = by (k values typed model)
    where
      one : values_of values ks ≡ values_of values ls → (v w : BScalar) → value_of values l ≡ Is v → value_of values r ≡ Is w → v ≡ w
      one x v w y z =
          let a = at_there terms values model l i ls v p y in
          let b = put_there terms values model i m ks r a.map c a.map_is in
          let s : b.key ≡ a.key = is_inj (sym b.key_is ∙ ap key_of x ∙ a.key_is) in
          sym a.value_is ∙ put_hit types values typed m ks r a.map b a.key s ∙ is_inj (sym b.value_is ∙ z)

      by : HoldsIn values clause ⊎ (values_of values ks ≡ values_of values ls) → HoldsIn values (clause ++ yes e ∷ [])
      by (inl x) = holds_longer clause (yes e ∷ []) x
      by (inr x) = holds_last clause (yes e) (true_if_same values e l r (compared terms types values typed model e l r q) (one x))

  pub value_there : (values : List BValue) (ls : List ClauseLiteral) (i : ℕ) (a : ClauseLiteral) (v : BScalar) → slice_get ls i ≡ Some a → value_of values a ≡ Is v → slice_get (values_of values ls) i ≡ Some (Is v)
  value_there values ls i a v h g = slice_get-map (value_of values) ls i ∙ ap (option_map (value_of values)) h ∙ ap Some g

  -- where two at one place differ, so do the keys
  keys_apart : (values : List BValue) (ks ls : List ClauseLiteral) (k : Key) (a b : ClauseLiteral) (v w : BScalar) → IsAmong ks ls a b → value_of values a ≡ Is v → value_of values b ≡ Is w →
      key_of (values_of values ks) ≡ Is k → key_of (values_of values ls) ≡ Is k → v ≡ w
  keys_apart values ks ls k a b v w (along i x y) h g p q = keys_same (values_of values ks) (values_of values ls) k p q i v w (value_there values ks i a v x h) (value_there values ls i b w y g)
  keys_apart values ks ls k a b v w (turned i x y) h g p q = sym (keys_same (values_of values ks) (values_of values ls) k p q i w v (value_there values ks i b w x g) (value_there values ls i a v y h))

  -- a changed map at other keys
  pub miss_law : (e q : ℕ) (l r a b x : ClauseLiteral) (i m : ℕ) (ls ks : List ClauseLiteral) → IsEquation terms types e l r → IsPlace terms l i ls → IsPlace terms r m ls → IsChange terms i m ks x →
      IsEquation terms types q a b → IsAmong ks ls a b → IsLaw terms types (yes q ∷ yes e ∷ [])
  miss_law e q l r a b x i m ls ks o p n c u s values typed model = by (compared terms types values typed model q a b u)
    where
      one : (v w : BScalar) → value_of values a ≡ Is v → value_of values b ≡ Is w → (v ≡ w → ⊥) → (y z : BScalar) → value_of values l ≡ Is y → value_of values r ≡ Is z → y ≡ z
      one v w h g d y z f j =
          let t = at_there terms values model l i ls y p f in
          let o = at_there terms values model r m ls z n j in
          let u = put_there terms values model i m ks x t.map c t.map_is in
          let same_key : t.key ≡ o.key = is_inj (sym t.key_is ∙ o.key_is) in
          let same_map : u.map ≡ o.map = is_inj (sym u.map_is ∙ o.map_is) in
          sym t.value_is ∙ put_miss types values typed m ks x t.map u t.key (λ e. d (keys_apart values ks ls t.key a b v w s h g (u.key_is ∙ ap Is e) t.key_is))
          ∙ (λ i. get key_cmp (same_map i) (same_key i)) ∙ o.value_is

      by : Compared values q a b → HoldsIn values (yes q ∷ yes e ∷ [])
      by (same h g y) = holds_first values (yes q) _ y
      by (other {v = v} {w = w} h g d y z) = holds_second (true_if_same values e l r (compared terms types values typed model e l r o) (one v w h g d))
