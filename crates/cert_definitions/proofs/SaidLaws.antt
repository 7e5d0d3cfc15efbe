-- The value of an expression is that of a literal which is what its text says.
use Rattle.std.proofs.Common.{◌≡◌, Bool as Truth, true, false, not, ◌&&◌, Option, Some, None, List, [], ◌∷◌, slice_get, if◌then◌else◌, refl, sym, ap, subst, ◌∙◌}
use Rattle.std.specs.Option.{option_map}
use Rattle.lemmas.proofs.Tests.{not_twice}
use Rattle.sparse.specs.Map.{get}
use Rattle.vb_value.specs.Bound.{Unbounded}
use Rattle.vb_value.specs.Key.{key_cmp}
use Rattle.boogie_tree.specs.Expr as b
use Rattle.boogie_tree.specs.Value.{BScalar, BValue, Bool}
use Rattle.boogie_tree.specs.Values.{IsEnvironment}
use Rattle.boogie_tree.specs.declared.exprs.BBase.TheVariants as base
use Rattle.boogie_tree.specs.declared.exprs.BOp.{BOp}
use Rattle.boogie_tree.specs.declared.exprs.BOp.TheVariants as op
use Rattle.boogie_meaning.specs.Ends.{End, Is, Over, Wrong, then_with}
use Rattle.boogie_meaning.specs.Operators.{part_of, binary, negation, negative, real_from, leaf_int, leaf_bool, leaf_ref, leaf_perm}
use Rattle.boogie_meaning.specs.Value.{QuantifierScope, the_map, value, values as key_values}
use Rattle.boogie_formula.specs.Formula as f
use Rattle.boogie_formula.specs.Formula.{FExpr, FExprs}
use Rattle.boogie_formula.specs.Value.{plain, plain_all, two, three}
use Rattle.boogie_formula.specs.Types.{fbase}
use Rattle.cert_terms.specs.Literals.{turned}
use Rattle.cert_terms.specs.Tables.{IsTable}
use Rattle.cert_terms.specs.Terms.{operand, IsModel}
use Rattle.cert_terms.specs.declared.terms.ClauseLiteral.{ClauseLiteral}
use Rattle.cert_terms.specs.declared.terms.CertificateTerm.{CertificateTerm}
use Rattle.cert_terms.specs.declared.terms.CertificateTerm.TheVariants as term
use Rattle.boogie_meaning.proofs.TypeLaws.{from_base as from_is_base}
use Rattle.cert_terms.proofs.LiteralLaws.{truth_value}
use Rattle.cert_terms.proofs.MeaningLaws.{at, of, key_at, key_more, chosen, paired, got_at, bool_value, null_value, unit_value, int_value, real_value, neg_value, bin_value, if_value, to_real_value, s_int_value, s_bool_value, s_ref_value, s_perm_value, pair_value, at_value}
use Rattle.cert_terms.proofs.PartLaws.{bin_typed}
use Rattle.cert_definitions.specs.Texts.{Told, core, is_turned, left_of, right_of, suits, own, same_keys, is_name, plainly, is_text, are_texts}
use Rattle.cert_definitions.proofs.OperatorLaws.{signed_end, put_by_core}
use Rattle.cert_definitions.proofs.TextLaws.{beq_is, and_both, literals_are, int_is, real_is, bool_is, null_is, unit_is, neg_part, real_part, s_int_part, s_bool_part, s_ref_part, s_perm_part, pair_parts, bin_parts, if_parts, at_parts, plain_at, signed_at, AreRight, IsBound, own_is, scalar_is, map_is}

bool_signed : (s p : Truth) → signed_end s (Is (Bool (if s then not p else p))) ≡ Is (Bool p)
bool_signed true true = refl
bool_signed true false = refl
bool_signed false p = refl

then_same : {X Y : Type 0} (e : End X) (go to : X → End Y) → ((x : X) → go x ≡ to x) → then_with e go ≡ then_with e to
then_same (Is x) go to h = h x
then_same Over go to h = refl
then_same Wrong go to h = refl

keys_are : (o : Option (List ClauseLiteral)) (ks : List ClauseLiteral) → same_keys o ks ≡ true → o ≡ Some ks
keys_are (Some qs) ks h = ap Some (literals_are qs ks h)
keys_are None ks h = absurd (cc)

module _ (t : Told) (values : List BValue) (table : IsTable t.terms t.types) (typed : IsEnvironment t.types values) (model : IsModel t.terms values) (right : AreRight t values)
    (w : QuantifierScope) (bound : IsBound t values w) where
  suits_is : (o : BOp) (x : ClauseLiteral) → suits t o x ≡ true → o ≡ op.Iff → fbase t.types (operand x) ≡ Some base.Bool
  suits_is o x h e = from_is_base (fbase t.types (operand x)) base.Bool (subst (λ p. suits t p x ≡ true) e h)

  -- the expression is no map, and has the value of the literal
  pub record Says (e : FExpr) (l : ClauseLiteral) : Type 0 where
    pub tree : b.BExpr
    pub is : plain e ≡ Some tree
    pub value : value Unbounded w tree values ≡ at l values

  pub record SayKeys (es : FExprs) (ks : List ClauseLiteral) : Type 0 where
    pub trees : b.BExprs
    pub are : plain_all es ≡ Some trees
    pub key : key_values Unbounded w trees values ≡ key_at ks values

  at_own : (l : ClauseLiteral) (x : CertificateTerm) (v : End BScalar) → own t l ≡ Some x → (slice_get t.terms l.name ≡ Some x → of l.name values ≡ v) → at l values ≡ v
  at_own l x v h g = let o = own_is t values l x h in plain_at l.name l.negated values o.0 ∙ g o.1

  not_says : (l : ClauseLiteral) (e : End BScalar) → fbase t.types (operand l) ≡ Some base.Bool → e ≡ at (turned l) values → then_with e negation ≡ at l values
  not_says l e h g =
      let v = truth_value values t.types typed l h in
      ap (λ x. then_with x negation) (g ∙ v.1.other) ∙ ap (λ p. Is (Bool p)) (not_twice v.0) ∙ sym v.1.value

  mutual
    pub said : (e : FExpr) (l : ClauseLiteral) → is_text t e l ≡ true → Says e l
    said (f.Var i) l h = record { tree = b.Var i; is = refl; value = scalar_is t values model right i l h }
    said (f.Int n) l h = record { tree = b.Int n; is = refl; value = sym (at_own l (term.Int n) _ (int_is n (own t l) h) (λ g. int_value t.terms values model l.name n g)) }
    said (f.Real n) l h = record { tree = b.Real n; is = refl; value = sym (at_own l (term.Real n) _ (real_is n (own t l) h) (λ g. real_value t.terms values model l.name n g)) }
    said (f.Bool p) l h =
        let g = bool_is (if l.negated then not p else p) (slice_get t.terms l.name) h in
        record {
          tree = b.Bool p;
          is = refl;
          value =
              sym (signed_at l.name l.negated values ∙ ap (signed_end l.negated) (bool_value t.terms values model l.name (if l.negated then not p else p) g) ∙ bool_signed l.negated p);
        }
    said f.Null l h = record { tree = b.Null; is = refl; value = sym (at_own l term.Null _ (null_is (own t l) h) (λ g. null_value t.terms values model l.name g)) }
    said f.Unit l h = record { tree = b.Unit; is = refl; value = sym (at_own l term.Unit _ (unit_is (own t l) h) (λ g. unit_value t.terms values model l.name g)) }
    said (f.Neg a) l h =
        let p = neg_part (own t l) (λ x. is_text t a x) h in
        let r = said a p.0 p.2 in
        record {
          tree = b.Neg r.tree;
          is = ap (option_map b.Neg) r.is;
          value =
              ap (λ e. then_with e negative) r.value ∙ sym (at_own l (term.Neg p.0) _ p.1 (λ g. neg_value t.terms values model l.name p.0 g));
        }
    said (f.Not a) l h =
        let p = and_both h in
        let r = said a (turned l) p.1 in
        record { tree = b.Not r.tree; is = ap (option_map b.Not) r.is; value = not_says l _ (from_is_base (fbase t.types (operand l)) base.Bool p.0) r.value }
    said (f.Bin o a c) l h =
        let p = and_both h in
        let q = bin_parts (core o) (slice_get t.terms l.name) (λ x y. suits t o x && (is_text t a (left_of o x y) && is_text t c (right_of o x y))) p.1 in
        let s = and_both q.3 in
        let u = and_both s.1 in
        let r = said a (left_of o q.0 q.1) u.0 in
        let z = said c (right_of o q.0 q.1) u.1 in
        let j = r.is in let k = z.is in let v = r.value in let x = z.value in
        record {
          tree = b.Bin o r.tree z.tree;
          is = (λ i. two (b.Bin o) (j i) (k i));
          value =
              (λ i. binary Unbounded o (v i) (x i))
              ∙ put_by_core t.types values typed q.0 q.1 o (bin_typed t.terms t.types table l.name (core o) q.0 q.1 q.2) (suits_is o q.0 s.0)
              ∙ sym (signed_at l.name l.negated values
              ∙ ap (λ n. signed_end n (of l.name values)) (beq_is l.negated (is_turned o) p.0)
              ∙ ap (signed_end (is_turned o)) (bin_value t.terms values model l.name (core o) q.0 q.1 q.2));
        }
    said (f.If c a d) l h =
        let p = if_parts (own t l) (λ x y z. is_text t c x && (is_text t a y && is_text t d z)) h in
        let q = and_both p.4 in
        let u = and_both q.1 in
        let r = said c p.0 q.0 in
        let s = said a p.1 u.0 in
        let z = said d p.2 u.1 in
        let j = r.is in let k = s.is in let m = z.is in let v = r.value in let x = s.value in let y = z.value in
        record {
          tree = b.If r.tree s.tree z.tree;
          is = (λ i. three b.If (j i) (k i) (m i));
          value =
              (λ i. chosen (v i) (x i) (y i)) ∙ sym (at_own l (term.If p.0 p.1 p.2) _ p.3 (λ g. if_value t.terms values model l.name p.0 p.1 p.2 g));
        }
    said (f.Forall us a) l h = absurd (cc)
    said (f.ToReal a) l h =
        let p = real_part (own t l) (λ x. is_text t a x) h in
        let r = said a p.0 p.2 in
        record {
          tree = b.ToReal r.tree;
          is = ap (option_map b.ToReal) r.is;
          value =
              ap (λ e. then_with e real_from) r.value ∙ sym (at_own l (term.ToReal p.0) _ p.1 (λ g. to_real_value t.terms values model l.name p.0 g));
        }
    said (f.SInt a) l h =
        let p = s_int_part (own t l) (λ x. is_text t a x) h in
        let r = said a p.0 p.2 in
        record {
          tree = b.SInt r.tree;
          is = ap (option_map b.SInt) r.is;
          value =
              ap (λ e. then_with e leaf_int) r.value ∙ sym (at_own l (term.SInt p.0) _ p.1 (λ g. s_int_value t.terms values model l.name p.0 g));
        }
    said (f.SBool a) l h =
        let p = s_bool_part (own t l) (λ x. is_text t a x) h in
        let r = said a p.0 p.2 in
        record {
          tree = b.SBool r.tree;
          is = ap (option_map b.SBool) r.is;
          value =
              ap (λ e. then_with e leaf_bool) r.value ∙ sym (at_own l (term.SBool p.0) _ p.1 (λ g. s_bool_value t.terms values model l.name p.0 g));
        }
    said (f.SRef a) l h =
        let p = s_ref_part (own t l) (λ x. is_text t a x) h in
        let r = said a p.0 p.2 in
        record {
          tree = b.SRef r.tree;
          is = ap (option_map b.SRef) r.is;
          value =
              ap (λ e. then_with e leaf_ref) r.value ∙ sym (at_own l (term.SRef p.0) _ p.1 (λ g. s_ref_value t.terms values model l.name p.0 g));
        }
    said (f.SPerm a) l h =
        let p = s_perm_part (own t l) (λ x. is_text t a x) h in
        let r = said a p.0 p.2 in
        record {
          tree = b.SPerm r.tree;
          is = ap (option_map b.SPerm) r.is;
          value =
              ap (λ e. then_with e leaf_perm) r.value ∙ sym (at_own l (term.SPerm p.0) _ p.1 (λ g. s_perm_value t.terms values model l.name p.0 g));
        }
    said (f.Pair a c) l h =
        let p = pair_parts (own t l) (λ x y. is_text t a x && is_text t c y) h in
        let q = and_both p.3 in
        let r = said a p.0 q.0 in
        let z = said c p.1 q.1 in
        let j = r.is in let k = z.is in let v = r.value in let x = z.value in
        record {
          tree = b.Pair r.tree z.tree;
          is = (λ i. two b.Pair (j i) (k i));
          value =
              (λ i. paired (v i) (x i)) ∙ sym (at_own l (term.Pair p.0 p.1) _ p.2 (λ g. pair_value t.terms values model l.name p.0 p.1 g));
        }
    said (f.At m es) l h =
        let p = at_parts (own t l) (λ n ks. is_name t m (plainly n) && are_texts t es ks) h in
        let q = and_both p.3 in
        let r = said_keys es p.1.items q.1 in
        let v = map_is t values model right m p.0 q.0 in let x = r.key in
        record {
          tree = b.At m r.trees;
          is = ap (option_map (b.At m)) r.are;
          value =
              (λ i. got_at (v i) (x i)) ∙ sym (at_own l (term.At p.0 p.1) _ p.2 (λ g. at_value t.terms values model l.name p.0 p.1 g));
        }
    said (f.AtBound m) l h =
        let p = at_parts (own t l) (λ n ks. is_name t m (plainly n) && same_keys t.keys ks) h in
        let q = and_both p.3 in
        let k = bound.there p.1.items (keys_are t.keys p.1.items q.1) in
        let v = map_is t values model right m p.0 q.0 in let x = sym k.1 in
        record {
          tree = b.AtBound m;
          is = refl;
          value =
              then_same (the_map values m) w.bound (λ n. Is (get key_cmp n k.0)) k.2
              ∙ (λ i. got_at (v i) (x i)) ∙ sym (at_own l (term.At p.0 p.1) _ p.2 (λ g. at_value t.terms values model l.name p.0 p.1 g));
        }
    said (f.With m es e) l h = absurd (cc)

    pub said_keys : (es : FExprs) (ks : List ClauseLiteral) → are_texts t es ks ≡ true → SayKeys es ks
    said_keys f.none [] h = record { trees = b.none; are = refl; key = refl }
    said_keys f.none (k ∷ ks) h = absurd (cc)
    said_keys (f.more a es) [] h = absurd (cc)
    said_keys (f.more a es) (k ∷ ks) h =
        let p = and_both h in
        let r = said a k p.0 in
        let z = said_keys es ks p.1 in
        let j = r.is in let m = z.are in let v = r.value in let x = z.key in
        record {
          trees = b.more r.tree z.trees;
          are = (λ i. two b.more (j i) (m i));
          key =
              (λ i. then_with (v i) (λ y. then_with (part_of y) (λ q. then_with (x i) (λ u. Is (q ∷ u))))) ∙ sym (key_more k ks values);
        }
