-- Maps at keys, maps but for one value, and choices.
use Rattle.std.proofs.Common.{◌≡◌, ◌≢◌, ℕ, zero, suc, Option, Some, None, List, [], ◌∷◌, slice_get, refl, sym, ap, subst, ◌∙◌}
use Rattle.boogie_meaning.proofs.PatternLaws.{is_inj}
use Rattle.sparse.specs.Map.{Map, get, set, IsReduced}
use Rattle.sparse.proofs.MapLaws.{get-set_same, get-set_other}
use Rattle.vb_value.specs.Key.{key_cmp}
use Rattle.vb_value.specs.declared.keys.KeyPart.{KeyPart}
use Rattle.vb_value.specs.declared.keys.KeyPart.TheVariants as part
use Rattle.boogie_tree.specs.Program.{BType}
use Rattle.boogie_tree.specs.Value.{Key, BScalar, BValue, One, Many, Int, Bool, Ref, Real, Snap, same_scalar}
use Rattle.boogie_tree.specs.Values.{IsEnvironment, IsOfType, one, many}
use Rattle.boogie_meaning.specs.Ends.{End, Is, then_with, found}
use Rattle.boogie_meaning.specs.Operators.{part_of}
use Rattle.boogie_meaning.specs.Value.{map_in, the_map}
use Rattle.boogie_meaning.proofs.ValueLaws.{exact}
use Rattle.boogie_formula.specs.Formula as f
use Rattle.boogie_formula.specs.Formula.{FExpr}
use Rattle.boogie_formula.specs.Value.{fvalue, fkey, whole}
use Rattle.cert_terms.specs.Terms.{operand, operands, IsModel}
use Rattle.cert_terms.specs.declared.terms.ClauseLiteral.{ClauseLiteral}
use Rattle.cert_terms.specs.declared.terms.CertificateTerm.{CertificateTerm}
use Rattle.cert_terms.specs.declared.terms.CertificateTerm.TheVariants as term
use Rattle.cert_rules.specs.Reasons.{value_of, values_of, IsPlace, IsChange}
use Rattle.cert_rules.specs.Heads.{key_of, IsMade}
use Rattle.cert_rules.specs.declared.heads.TermHead.TheVariants as head
use Rattle.cert_rules.proofs.HeadLaws.{then_is, is_same, key_value, made_value}

-- ---- keys

abbrev scalar_of : KeyPart → BScalar
scalar_of (part.Int n) = Int n
scalar_of (part.Bool p) = Bool p
scalar_of (part.Ref r) = Ref r

-- a part of a key tells its value
part_from : (v : BScalar) (p : KeyPart) → part_of v ≡ Is p → v ≡ scalar_of p
part_from (Int n) p h = ap scalar_of (is_inj h)
part_from (Bool b) p h = ap scalar_of (is_inj h)
part_from (Ref r) p h = ap scalar_of (is_inj h)
part_from (Real q) p h = absurd (cc)
part_from (Snap c) p h = absurd (cc)

record IsKeyMore (e : End BScalar) (es : List (End BScalar)) (k : Key) : Type 0 where
  value : BScalar
  first : KeyPart
  rest : Key
  value_is : e ≡ Is value
  first_is : part_of value ≡ Is first
  rest_is : key_of es ≡ Is rest
  key_is : first ∷ rest ≡ k

key_more : (e : End BScalar) (es : List (End BScalar)) (k : Key) → key_of (e ∷ es) ≡ Is k → IsKeyMore e es k
key_more e es k h =
    let v = then_is e (λ v. then_with (part_of v) (λ p. then_with (key_of es) (λ k. Is (p ∷ k)))) k h in
    let p = then_is (part_of v.0) (λ p. then_with (key_of es) (λ k. Is (p ∷ k))) k v.2 in
    let r = then_is (key_of es) (λ k. Is (p.0 ∷ k)) k p.2 in
    record { value = v.0; first = p.0; rest = r.0; value_is = v.1; first_is = p.1; rest_is = r.1; key_is = is_inj r.2 }

-- where the keys are one, so are the values at a place
pub keys_same : (es fs : List (End BScalar)) (k : Key) → key_of es ≡ Is k → key_of fs ≡ Is k → (i : ℕ) (v w : BScalar) → slice_get es i ≡ Some (Is v) → slice_get fs i ≡ Some (Is w) → v ≡ w
keys_same [] fs k h g i v w a b = absurd (cc)
keys_same (e ∷ es) [] k h g i v w a b = absurd (cc)
keys_same (e ∷ es) (f ∷ fs) k h g zero v w a b =
    let m = key_more e es k h in
    let n = key_more f fs k g in
    let e_is : e ≡ Is v = cc in
    let f_is : f ≡ Is w = cc in
    let p : m.first ≡ n.first = let x : m.first ∷ m.rest ≡ n.first ∷ n.rest = m.key_is ∙ sym n.key_is in cc in
    is_same e_is m.value_is ∙ part_from m.value m.first m.first_is ∙ ap scalar_of p ∙ sym (part_from n.value n.first n.first_is) ∙ sym (is_same f_is n.value_is)
keys_same (e ∷ es) (f ∷ fs) k h g (suc i) v w a b =
    let m = key_more e es k h in
    let n = key_more f fs k g in
    let x : m.first ∷ m.rest ≡ n.first ∷ n.rest = m.key_is ∙ sym n.key_is in
    let r : n.rest ≡ m.rest = cc in
    keys_same es fs m.rest m.rest_is (n.rest_is ∙ ap Is r) i v w a b

-- ---- maps

-- a map of an environment has no entry with the default
reduced_there : (ls : List BType) (env : List BValue) → IsEnvironment ls env → (m : ℕ) (x : Map Key BScalar) → slice_get env m ≡ Some (Many x) → IsReduced key_cmp same_scalar x
reduced_there [] [] h m x there = absurd (cc)
reduced_there [] (v ∷ vs) h m x there = absurd h
reduced_there (l ∷ ls) [] h m x there = absurd h
reduced_there (l ∷ ls) (v ∷ vs) h zero x there = reduced_in v l h.0 x (let e : v ≡ Many x = cc in e)
  where
    reduced_in : (v : BValue) (l : BType) → IsOfType v l → (x : Map Key BScalar) → v ≡ Many x → IsReduced key_cmp same_scalar x
    reduced_in _ _ (one {v = v} f) x e = absurd (cc)
    reduced_in _ _ (many {m = y} g) x e = let d : y ≡ x = cc in subst (IsReduced key_cmp same_scalar) d g.reduced
reduced_there (l ∷ ls) (v ∷ vs) h (suc m) x there = reduced_there ls vs h.1 m x there

found_is : {X : Type 0} (o : Option X) (x : X) → found o ≡ Is x → o ≡ Some x
found_is (Some y) x h = let e : y ≡ x = cc in ap Some e
found_is None x h = absurd (cc)

map_is : (w : BValue) (x : Map Key BScalar) → map_in w ≡ Is x → w ≡ Many x
map_is (One v) x h = absurd (cc)
map_is (Many y) x h = let e : y ≡ x = cc in ap Many e

pub map_there : (values : List BValue) (m : ℕ) (x : Map Key BScalar) → the_map values m ≡ Is x → slice_get values m ≡ Some (Many x)
map_there values m x h =
    let w = then_is (found (slice_get values m)) map_in x h in
    found_is (slice_get values m) w.0 w.1 ∙ ap Some (map_is w.0 x w.2)

pub there_map : (values : List BValue) (m : ℕ) (x : Map Key BScalar) → slice_get values m ≡ Some (Many x) → the_map values m ≡ Is x
there_map values m x h = rw h refl

-- the value of a place
pub record IsAt (values : List BValue) (m : ℕ) (ks : List ClauseLiteral) (v : BScalar) : Type 0 where
  pub map : Map Key BScalar
  pub key : Key
  pub map_is : the_map values m ≡ Is map
  pub key_is : key_of (values_of values ks) ≡ Is key
  pub value_is : get key_cmp map key ≡ v

-- a map but for one value
pub record IsPut (values : List BValue) (m : ℕ) (ks : List ClauseLiteral) (e : ClauseLiteral) (x : Map Key BScalar) : Type 0 where
  pub map : Map Key BScalar
  pub key : Key
  pub value : BScalar
  pub map_is : the_map values m ≡ Is map
  pub key_is : key_of (values_of values ks) ≡ Is key
  pub value_is : value_of values e ≡ Is value
  pub put_is : set key_cmp same_scalar map key value ≡ x

module _ (terms : List CertificateTerm) (values : List BValue) (model : IsModel terms values) where
  place_made : (l : ClauseLiteral) (m : ℕ) (ks : List ClauseLiteral) → IsPlace terms l m ks → IsMade terms l (head.At m) ks
  place_made l m ks p = record { term = term.At m p.keys; named = p.named; head = refl; parts = p.keys_are }

  pub at_there : (l : ClauseLiteral) (m : ℕ) (ks : List ClauseLiteral) (v : BScalar) → IsPlace terms l m ks → value_of values l ≡ Is v → IsAt values m ks v
  at_there l m ks v p h =
      let e = sym (made_value terms values model l (head.At m) ks (place_made l m ks p)) ∙ h in
      let k = then_is (key_of (values_of values ks)) (λ k. then_with (the_map values m) (λ n. Is (get key_cmp n k))) v e in
      let n = then_is (the_map values m) (λ n. Is (get key_cmp n k.0)) v k.2 in
      record { map = n.0; key = k.0; map_is = n.1; key_is = k.1; value_is = is_inj n.2 }

  pub put_there : (n m : ℕ) (ks : List ClauseLiteral) (e : ClauseLiteral) (x : Map Key BScalar) → IsChange terms n m ks e → the_map values n ≡ Is x → IsPut values m ks e x
  put_there n m ks e x c h =
      let w = f.With (f.Var m) (operands c.keys.items) (operand e) in
      let go = λ (z : Map Key BScalar). then_with (fkey (operands c.keys.items) values) (λ k. then_with (fvalue (operand e) values) (λ v. Is (Many (set key_cmp same_scalar z k v)))) in
      let is : whole w values ≡ Is (Many x) = model.agrees n (term.Put m c.keys e) w c.is_there refl ∙ ap found (map_there values n x h) in
      let a = then_is (found (slice_get values m)) (λ y. then_with (map_in y) go) (Many x) is in
      let b = then_is (map_in a.0) go (Many x) a.2 in
      let k = then_is (fkey (operands c.keys.items) values) (λ k. then_with (fvalue (operand e) values) (λ v. Is (Many (set key_cmp same_scalar b.0 k v)))) (Many x) b.2 in
      let v = then_is (fvalue (operand e) values) (λ v. Is (Many (set key_cmp same_scalar b.0 k.0 v))) (Many x) k.2 in
      record {
        map = b.0;
        key = k.0;
        value = v.0;
        map_is = ap (λ y. then_with y map_in) a.1 ∙ b.1;
        key_is = ap (λ y. key_of (values_of values y)) (sym c.keys_are) ∙ sym (key_value values c.keys.items) ∙ k.1;
        value_is = v.1;
        put_is = many_same (set key_cmp same_scalar b.0 k.0 v.0) x v.2;
      }
    where
      many_same : (y z : Map Key BScalar) → Is (Many y) ≡ Is (Many z) → y ≡ z
      many_same y z e = cc

module _ (types : List BType) (values : List BValue) (typed : IsEnvironment types values) where
  put_reduced : (m : ℕ) (x : Map Key BScalar) → the_map values m ≡ Is x → IsReduced key_cmp same_scalar x
  put_reduced m x h = reduced_there types values typed m x (map_there values m x h)

  -- the changed place has the new value
  pub put_hit : (m : ℕ) (ks : List ClauseLiteral) (e : ClauseLiteral) (x : Map Key BScalar) (p : IsPut values m ks e x) (k : Key) → p.key ≡ k → get key_cmp x k ≡ p.value
  put_hit m ks e x p k h =
      ap (λ y. get key_cmp y k) (sym p.put_is) ∙ ap (get key_cmp (set key_cmp same_scalar p.map p.key p.value)) (sym h)
      ∙ get-set_same exact p.map (put_reduced m p.map p.map_is) p.key p.value

  -- another place keeps its value
  pub put_miss : (m : ℕ) (ks : List ClauseLiteral) (e : ClauseLiteral) (x : Map Key BScalar) (p : IsPut values m ks e x) (k : Key) → p.key ≢ k → get key_cmp x k ≡ get key_cmp p.map k
  put_miss m ks e x p k n = ap (λ y. get key_cmp y k) (sym p.put_is) ∙ get-set_other exact p.map (put_reduced m p.map p.map_is) p.key k p.value n
