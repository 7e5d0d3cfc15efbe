-- A literal that is what the text of a definition says has the definition's value, and a `forall` that is true is true at keys.
use Rattle.std.proofs.Common.{◌≡◌, ℕ, Bool as Truth, true, false, ◌&&◌, Option, Some, None, List, [], ◌∷◌, slice_get, if◌then◌else◌, refl, sym, ap, subst, ◌∙◌}
use Rattle.std.specs.Option.{option_map}
use Rattle.sparse.specs.Map.{set}
use Rattle.vb_value.specs.Bound.{Unbounded}
use Rattle.vb_value.specs.Key.{key_cmp}
use Rattle.boogie_tree.specs.Expr as b
use Rattle.boogie_tree.specs.Program.{BType}
use Rattle.boogie_tree.specs.Value.{Key, BScalar, BValue, One, Many, Bool, same_scalar}
use Rattle.boogie_tree.specs.Values.{IsEnvironment, FitsKey}
use Rattle.boogie_tree.specs.declared.exprs.BBase.{BBase}
use Rattle.boogie_meaning.specs.Ends.{End, Is, Over, Wrong, then_with, found}
use Rattle.boogie_meaning.specs.Forall.{IsForall, over, wrong, fails, holds}
use Rattle.boogie_meaning.specs.Operators.{as_truth, as_bool}
use Rattle.boogie_meaning.specs.Value.{QuantifierScope, map_in, scalar_in, under}
use Rattle.boogie_meaning.specs.Quantified.{quantified, outside, bvalue, bkey, one_of}
use Rattle.boogie_meaning.proofs.ValueLaws.{found_typed}
use Rattle.boogie_formula.specs.Formula as f
use Rattle.boogie_formula.specs.Formula.{FExpr, FExprs}
use Rattle.boogie_formula.specs.Value.{fvalue, fkey, whole}
use Rattle.boogie_formula.specs.Types.{fbases}
use Rattle.cert_terms.specs.Literals.{turned}
use Rattle.cert_terms.specs.Tables.{IsTable}
use Rattle.cert_terms.specs.Terms.{operand, operands, IsModel, IsTruth, IsTrueIn, HoldsIn}
use Rattle.cert_terms.specs.declared.terms.ClauseLiteral.{ClauseLiteral}
use Rattle.cert_terms.specs.declared.terms.CertificateTerm.{CertificateTerm}
use Rattle.cert_terms.specs.declared.terms.CertificateTerm.TheVariants as term
use Rattle.cert_terms.proofs.ValueLaws.{fkey_there}
use Rattle.cert_terms.proofs.LiteralLaws.{truth_value, value_name, holds_first, holds_more, IsTruthValue}
use Rattle.cert_terms.proofs.MeaningLaws.{at, key_at, chosen, whole_scalar, told_there, one_scalar}
use Rattle.cert_definitions.specs.Texts.{Told, own, plainly, put_text, is_text, are_texts, is_whole}
use Rattle.cert_definitions.specs.Defined.{Holds, IsToldRightly}
use Rattle.cert_definitions.proofs.TextLaws.{and_both, if_parts, AreRight, IsBound, own_is, name_is, plain_whole}
use Rattle.cert_definitions.proofs.SaidLaws.{Says, said, said_keys}

pub put_parts : (o : Option CertificateTerm) (go : ℕ → List ClauseLiteral → ClauseLiteral → Truth) → put_text o go ≡ true →
    (n : ℕ) × (ks : _) × (x : ClauseLiteral) × (o ≡ Some (term.Put n ks x)) × (go n ks.items x ≡ true)
put_parts (Some (term.Put n ks x)) go h = (n, ks, x, refl, h)
put_parts _ go h = absurd (cc)

-- ---- ends that are values

from_chosen : (c : End BScalar) (x y : End BValue) (v : BValue) → chosen c x y ≡ Is v → (p : Truth) × (as_truth c ≡ Is p) × ((if p then x else y) ≡ Is v)
from_chosen c x y v h = by_truth (as_truth c) refl h
  where
    by_truth : (o : End Truth) → as_truth c ≡ o → then_with o (λ p. if p then x else y) ≡ Is v → (p : Truth) × (as_truth c ≡ Is p) × ((if p then x else y) ≡ Is v)
    by_truth (Is p) e g = (p, e, g)
    by_truth Over e g = absurd (cc)
    by_truth Wrong e g = absurd (cc)

either_is : (p : Truth) (x y i j : End BValue) (v : BValue) → (if p then x else y) ≡ Is v → (x ≡ Is v → i ≡ Is v) → (y ≡ Is v → j ≡ Is v) → (if p then i else j) ≡ Is v
either_is true x y i j v h g k = g h
either_is false x y i j v h g k = k h

from_then_with : {X Y : Type 0} (e : End X) (go : X → End Y) (y : Y) → then_with e go ≡ Is y → (x : X) × (e ≡ Is x)
from_then_with (Is x) go y h = (x, refl)
from_then_with Over go y h = absurd (cc)
from_then_with Wrong go y h = absurd (cc)

from_one : (e : End BScalar) (v : BValue) → one_of e ≡ Is v → (s : BScalar) × (e ≡ Is s) × (v ≡ One s)
from_one (Is s) v h = (s, refl, (let g : One s ≡ v = cc in sym g))
from_one Over v h = absurd (cc)
from_one Wrong v h = absurd (cc)

-- a literal with a value that is no map is a whole value
one_whole : (n : ℕ) (s : Truth) (values : List BValue) (x : BScalar) → at (record { name = n; negated = s }) values ≡ Is x →
    whole (operand (record { name = n; negated = s })) values ≡ Is (One x)
one_whole n true values x h = ap one_of h
one_whole n false values x h = ap found (value_name values n x h)

-- the map that is put
abbrev put_whole : End BValue → End Key → End BScalar → End BValue
put_whole m k e = then_with m (λ w. then_with (map_in w) (λ n. then_with k (λ q. then_with e (λ v. Is (Many (set key_cmp same_scalar n q v))))))

module _ (t : Told) (values : List BValue) (table : IsTable t.terms t.types) (typed : IsEnvironment t.types values) (model : IsModel t.terms values) (right : AreRight t values) where
  abbrev here : QuantifierScope
  here = outside Unbounded values

  module _ (bound : IsBound t values here) where
    text_value : (e : FExpr) (l : ClauseLiteral) → is_text t e l ≡ true → fvalue e values ≡ at l values
    text_value e l h =
        let r = said t values table typed model right here bound e l h in
        ap (λ o. then_with (found o) (λ a. bvalue Unbounded a values)) r.is ∙ r.value

    text_key : (es : FExprs) (ks : List ClauseLiteral) → are_texts t es ks ≡ true → fkey es values ≡ key_at ks values
    text_key es ks h =
        let r = said_keys t values table typed model right here bound es ks h in
        ap (λ o. then_with (found o) (λ a. bkey Unbounded a values)) r.are ∙ r.key

    scalar_whole : (e : FExpr) (l : ClauseLiteral) (v : BValue) → is_text t e l ≡ true → one_of (fvalue e values) ≡ Is v → whole (operand l) values ≡ Is v
    scalar_whole e l v h g =
        let x = from_one (fvalue e values) v g in
        one_whole l.name l.negated values x.0 (sym (text_value e l h) ∙ x.1) ∙ ap Is (sym x.2)

    -- a definition, which may be a map, where it has a value
    pub whole_value : (e : FExpr) (l : ClauseLiteral) (v : BValue) → is_whole t e l ≡ true → whole e values ≡ Is v → whole (operand l) values ≡ Is v
    whole_value (f.Var i) l v h g = name_is t values model right i l h ∙ g
    whole_value (f.If c a d) l v h g =
        let p = if_parts (own t l) (λ x y z. is_text t c x && (is_whole t a y && is_whole t d z)) h in
        let q = and_both p.4 in
        let u = and_both q.1 in
        let o = own_is t values l (term.If p.0 p.1 p.2) p.3 in
        let k = from_chosen (fvalue c values) (whole a values) (whole d values) v g in
        let y = either_is k.0 (whole a values) (whole d values) (whole (operand p.1) values) (whole (operand p.2) values) v k.2
        (λ x. whole_value a p.1 v u.0 x) (λ x. whole_value d p.2 v u.1 x) in
        let z : as_truth (at p.0 values) ≡ Is k.0 = ap as_truth (sym (text_value c p.0 q.0)) ∙ k.1 in
        plain_whole l.name l.negated values o.0
        ∙ told_there t.terms values model l.name (term.If p.0 p.1 p.2) (f.If (operand p.0) (operand p.1) (operand p.2)) o.1 refl
        ∙ ap (λ e. then_with e (λ r. if r then whole (operand p.1) values else whole (operand p.2) values)) z ∙ y
    whole_value (f.With m es e) l v h g =
        let p = put_parts (own t l) (λ n ks x. is_whole t m (plainly n) && (are_texts t es ks && is_text t e x)) h in
        let q = and_both p.4 in
        let u = and_both q.1 in
        let o = own_is t values l (term.Put p.0 p.1 p.2) p.3 in
        let w = from_then_with (whole m values) (λ w. then_with (map_in w) (λ n. then_with (fkey es values) (λ k. then_with (fvalue e values) (λ x. Is (Many (set key_cmp same_scalar n k x)))))) v g in
        let i : found (slice_get values p.0) ≡ whole m values = whole_value m (plainly p.0) w.0 q.0 w.1 ∙ sym w.1 in
        let j = sym (text_key es p.1.items u.0) in
        let k = sym (text_value e p.2 u.1) in
        plain_whole l.name l.negated values o.0
        ∙ told_there t.terms values model l.name (term.Put p.0 p.1 p.2) (f.With (f.Var p.0) (operands p.1.items) (operand p.2)) o.1 refl
        ∙ (λ r. put_whole (i r) (j r) (k r)) ∙ g
    whole_value e l v h g = scalar_whole e l v h g

    -- a literal that is what a definition's text says is told rightly
    pub told_rightly : (i : ℕ) (u : BType) (e : FExpr) (l : ClauseLiteral) → slice_get t.types i ≡ Some u → Holds i e values → is_whole t e l ≡ true → IsToldRightly i l values
    told_rightly i u e l there h s =
        let v = found_typed t.types values i u typed there in
        whole_value e l v.0 s (h ∙ ap found v.1) ∙ sym (ap found v.1)

-- ---- a `forall` at keys

forall_true : {K : Type 0} {P : K → Type 0} {body : K → End Truth} {e : End Truth} → IsForall P body e → e ≡ Is true → (k : K) → P k → body k ≡ Is true
forall_true (over k p e) h = absurd (cc)
forall_true (wrong n k p e) h = absurd (cc)
forall_true (fails n k p e) h = absurd (cc)
forall_true (holds g) h = g

from_bool : (e : End Truth) → as_bool e ≡ Is (Bool true) → e ≡ Is true
from_bool (Is true) h = refl
from_bool (Is false) h = absurd (cc)
from_bool Over h = absurd (cc)
from_bool Wrong h = absurd (cc)

same_end : (p q : Truth) → Is p ≡ Is q → p ≡ q
same_end true true h = refl
same_end true false h = absurd (cc)
same_end false true h = absurd (cc)
same_end false false h = refl

same_list : {X : Type 0} (xs ys : List X) (o : Option (List X)) → o ≡ Some xs → o ≡ Some ys → xs ≡ ys
same_list xs ys (Some zs) h g = let a : zs ≡ xs = cc in let c : zs ≡ ys = cc in sym a ∙ c
same_list xs ys None h g = absurd (cc)

module _ (t : Told) (values : List BValue) (table : IsTable t.terms t.types) (typed : IsEnvironment t.types values) (model : IsModel t.terms values) (right : AreRight t values)
    (i : ℕ) (us : List BBase) (a : FExpr) (d l : ClauseLiteral) (ks : List ClauseLiteral)
    (defined : Holds i (f.Forall us a) values) (told : IsToldRightly i d values) (d_truth : IsTruth t.types d) (l_truth : IsTruth t.types l)
    (kinds : fbases t.types (operands ks) ≡ Some us) (keys : t.keys ≡ Some ks) (text : is_text t a l ≡ true) where
  the_key : (k : Key) × (fkey (operands ks) values ≡ Is k) × FitsKey us k
  the_key = fkey_there t.types values typed (operands ks) us kinds

  at_keys : IsBound t values (under the_key.0)
  at_keys = record { there = λ qs h. (the_key.0, subst (λ x. key_at x values ≡ Is the_key.0) (same_list ks qs t.keys keys h) the_key.1, λ m. refl) }

  body : Says t values table typed model right (under the_key.0) at_keys a l
  body = said t values table typed model right (under the_key.0) at_keys a l text

  definition_value : fvalue (f.Forall us a) values ≡ at d values
  definition_value =
      sym (one_scalar (fvalue (f.Forall us a) values))
      ∙ ap (λ e. then_with e scalar_in) (defined ∙ sym told)
      ∙ whole_scalar d.name d.negated values

  -- where the definition is true, the body is
  body_true : at d values ≡ Is (Bool true) → IsTrueIn values l
  body_true h =
      let q = quantified Unbounded us body.tree values in
      let e : as_bool q.0 ≡ Is (Bool true) = sym (ap (λ o. then_with (found (option_map (b.Forall us) o)) (λ x. bvalue Unbounded x values)) body.is) ∙ definition_value ∙ h in
      let g = forall_true q.1 (from_bool q.0 e) the_key.0 the_key.2 in
      let v = truth_value values t.types typed l l_truth in
      let s = same_end v.0 true (sym (ap as_truth v.1.value) ∙ sym (ap as_truth body.value) ∙ g) in
      v.1.value ∙ ap (λ p. Is (Bool p)) s

  -- a definition that is a `forall` is false, or its body is true at the keys
  pub instance_holds : HoldsIn values (turned d ∷ l ∷ [])
  instance_holds = let v = truth_value values t.types typed d d_truth in by_truth v.0 v.1
    where
      by_truth : (p : Truth) → IsTruthValue values d p → HoldsIn values (turned d ∷ l ∷ [])
      by_truth true v = holds_more values (turned d) (l ∷ []) (holds_first values l [] (body_true v.value))
      by_truth false v = holds_first values (turned d) (l ∷ []) v.other
