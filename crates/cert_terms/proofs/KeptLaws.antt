-- What has a type, or a value, has it as well where more names stand behind those before.
use Rattle.std.proofs.Common.{◌≡◌, ℕ, zero, suc, Bool as Truth, true, false, Option, Some, None, List, [], ◌∷◌, ◌++◌, slice_get, if◌then◌else◌, refl, sym, ap, ◌∙◌}
use Rattle.sparse.specs.Map.{get, set}
use Rattle.vb_value.specs.Bound.{Unbounded}
use Rattle.vb_value.specs.Key.{key_cmp}
use Rattle.boogie_tree.specs.Expr as t
use Rattle.boogie_tree.specs.Program.{BType}
use Rattle.boogie_tree.specs.Value.{BScalar, BValue, Many, Bool, same_scalar}
use Rattle.boogie_tree.specs.Values.{plain_type, map_type}
use Rattle.boogie_tree.specs.declared.exprs.BBase.{BBase}
use Rattle.boogie_tree.specs.declared.exprs.BBase.TheVariants as base
use Rattle.boogie_tree.specs.declared.exprs.BOp.{BOp}
use Rattle.boogie_meaning.specs.Ends.{End, Is, Over, Wrong, then_with, found}
use Rattle.boogie_meaning.specs.Operators.{truth_of, as_truth, part_of, binary, plain as plain_of, is_lazy, settled, settled_or, negation, negative, real_from, leaf_int, leaf_bool, leaf_ref, leaf_perm, pair_of}
use Rattle.boogie_meaning.specs.Value.{scalar_in, map_in, the_map}
use Rattle.boogie_meaning.specs.Quantified.{one_of}
use Rattle.boogie_meaning.specs.Types.{HasType, var, int, real, bool, null, unit, neg, not_, binary as operator, choose, forall_, to_real, s_int, s_bool, s_ref, s_perm, pair, at as at_keys, at_bound, HaveTypes, none, more, then_some, base_of, bases_of, is_base, is_put}
use Rattle.boogie_meaning.proofs.TypeLaws.{base_of_sound, bases_of_sound, base_of_complete, bases_of_complete}
use Rattle.boogie_formula.specs.Formula as f
use Rattle.boogie_formula.specs.Formula.{FExpr, FExprs}
use Rattle.boogie_formula.specs.Value.{plain, plain_all, whole}
use Rattle.boogie_formula.specs.Types.{fbase, fbases, one_type, whole_type}
use Rattle.cert_terms.specs.declared.terms.ClauseLiteral.{ClauseLiteral}
use Rattle.cert_terms.specs.declared.terms.CertificateTerm.{CertificateTerm}
use Rattle.cert_terms.specs.declared.terms.CertificateTerm.TheVariants as term
use Rattle.cert_terms.specs.Terms.{operand, meaning}
use Rattle.boogie_meaning.proofs.TypeLaws.{from_then}
use Rattle.cert_terms.proofs.MeaningLaws.{at, of, key_at, key_more, told, whole_told}

-- what is there stays there
abbrev pub Kept : {X : Type 0} → List X → List X → Type 0
Kept {X} xs ys = (j : ℕ) (x : X) → slice_get xs j ≡ Some x → slice_get ys j ≡ Some x

pub kept_more : {X : Type 0} (xs ys : List X) → Kept xs (xs ++ ys)
kept_more [] ys = λ j x h. absurd (cc)
kept_more {X} (y ∷ xs) ys = at_place (kept_more xs ys)
  where
    at_place : Kept xs (xs ++ ys) → (j : ℕ) (x : X) → slice_get (y ∷ xs) j ≡ Some x → slice_get (y ∷ (xs ++ ys)) j ≡ Some x
    at_place rest zero x h = h
    at_place rest (suc j) x h = rest j x h

-- ---- types

module _ (ls ks : List BType) (kept : Kept ls ks) where
  mutual
    typed_kept : {o : Option (List BBase)} {e : t.BExpr} {u : BBase} → HasType ls o e u → HasType ks o e u
    typed_kept (var {i = i} {u = u} l) = var (kept i (plain_type u) l)
    typed_kept int = int
    typed_kept real = real
    typed_kept bool = bool
    typed_kept null = null
    typed_kept unit = unit
    typed_kept (neg n a) = neg n (typed_kept a)
    typed_kept (not_ a) = not_ (typed_kept a)
    typed_kept (operator e a b) = operator e (typed_kept a) (typed_kept b)
    typed_kept (choose c a b) = choose (typed_kept c) (typed_kept a) (typed_kept b)
    typed_kept (forall_ k a) = forall_ k (typed_kept a)
    typed_kept (to_real a) = to_real (typed_kept a)
    typed_kept (s_int a) = s_int (typed_kept a)
    typed_kept (s_bool a) = s_bool (typed_kept a)
    typed_kept (s_ref a) = s_ref (typed_kept a)
    typed_kept (s_perm a) = s_perm (typed_kept a)
    typed_kept (pair a b) = pair (typed_kept a) (typed_kept b)
    typed_kept (at_keys {m = m} {u = u} {us = us} {w = w} l es) = at_keys (kept m (map_type u us w) l) (types_kept es)
    typed_kept (at_bound {m = m} {u = u} {us = us} {w = w} l) = at_bound (kept m (map_type u us w) l)

    types_kept : {o : Option (List BBase)} {es : t.BExprs} {us : List BBase} → HaveTypes ls o es us → HaveTypes ks o es us
    types_kept none = none
    types_kept (more k a es) = more k (typed_kept a) (types_kept es)

  tree_kept : (o : Option t.BExpr) (u : BBase) → then_some o (base_of ls None) ≡ Some u → then_some o (base_of ks None) ≡ Some u
  tree_kept (Some e) u h = base_of_complete (typed_kept (base_of_sound ls None e u h))
  tree_kept None u h = absurd (cc)

  trees_kept : (o : Option t.BExprs) (us : List BBase) → then_some o (bases_of ls None) ≡ Some us → then_some o (bases_of ks None) ≡ Some us
  trees_kept (Some es) us h = bases_of_complete (types_kept (bases_of_sound ls None es us h))
  trees_kept None us h = absurd (cc)

  pub fbase_kept : (e : FExpr) (u : BBase) → fbase ls e ≡ Some u → fbase ks e ≡ Some u
  fbase_kept e u h = tree_kept (plain e) u h

  pub fbases_kept : (es : FExprs) (us : List BBase) → fbases ls es ≡ Some us → fbases ks es ≡ Some us
  fbases_kept es us h = trees_kept (plain_all es) us h

  if_base_kept : (e : FExpr) (w : BBase) {X : Type 0} (o p : Option X) (x : X) → (o ≡ Some x → p ≡ Some x) → (if is_base (fbase ls e) w then o else None) ≡ Some x →
      (if is_base (fbase ks e) w then p else None) ≡ Some x
  if_base_kept e w o p x g h = by_type (fbase ls e) refl h
    where
      by_type : (b : Option BBase) → fbase ls e ≡ b → (if is_base b w then o else None) ≡ Some x → (if is_base (fbase ks e) w then p else None) ≡ Some x
      by_type (Some u) e' h = rw (fbase_kept e u e') (by_truth (is_base (Some u) w) h)
        where
          by_truth : (s : Truth) → (if s then o else None) ≡ Some x → (if s then p else None) ≡ Some x
          by_truth true h = g h
          by_truth false h = absurd (cc)
      by_type None e' h = absurd (cc)

  put_kept : (w : BType) (es : FExprs) (e : FExpr) (u : BType) → (if is_put (Some w) (fbases ls es) (fbase ls e) then Some w else None) ≡ Some u →
      (if is_put (Some w) (fbases ks es) (fbase ks e) then Some w else None) ≡ Some u
  put_kept w es e u h = by_types (fbases ls es) (fbase ls e) refl refl h
    where
      by_types : (b : Option (List BBase)) (c : Option BBase) → fbases ls es ≡ b → fbase ls e ≡ c → (if is_put (Some w) b c then Some w else None) ≡ Some u →
          (if is_put (Some w) (fbases ks es) (fbase ks e) then Some w else None) ≡ Some u
      by_types (Some us) (Some x) p q h = rw (fbases_kept es us p, fbase_kept e x q) h
      by_types None (Some x) p q h = absurd (cc)
      by_types b None p q h = absurd (cc)

  plain_kept : (e : FExpr) (u : BType) → then_some (fbase ls e) (λ w. Some (plain_type w)) ≡ Some u → then_some (fbase ks e) (λ w. Some (plain_type w)) ≡ Some u
  plain_kept e u h =
      let p = from_then (fbase ls e) (λ w. Some (plain_type w)) u h in
      ap (λ o. then_some o (λ w. Some (plain_type w))) (fbase_kept e p.0 p.1) ∙ p.2

  -- what has a type keeps it
  pub whole_type_kept : (e : FExpr) (u : BType) → whole_type ls e ≡ Some u → whole_type ks e ≡ Some u
  whole_type_kept (f.Var i) u h = kept i u h
  whole_type_kept (f.If c x y) u h =
      if_base_kept c base.Bool (then_some (whole_type ls x) (λ w. then_some (whole_type ls y) (one_type w))) (then_some (whole_type ks x) (λ w. then_some (whole_type ks y) (one_type w))) u
      (λ g.
      let p = from_then (whole_type ls x) _ u g in
      let q = from_then (whole_type ls y) _ u p.2 in
      rw (whole_type_kept x p.0 p.1, whole_type_kept y q.0 q.1) q.2) h
  whole_type_kept (f.With m es e) u h =
      let p = from_then (whole_type ls m) _ u h in
      rw (whole_type_kept m p.0 p.1) (put_kept p.0 es e u p.2)
  whole_type_kept e u h = plain_kept e u h

-- ---- values

-- where the one has a value, the other has it
abbrev pub Below : {X : Type 0} → End X → End X → Type 0
Below {X} e g = (x : X) → e ≡ Is x → g ≡ Is x

below_itself : {X : Type 0} (e : End X) → Below e e
below_itself e = λ x h. h

then_below : {X Y : Type 0} (e g : End X) (go to : X → End Y) → Below e g → ((x : X) → Below (go x) (to x)) → Below (then_with e go) (then_with g to)
then_below (Is x) g go to h k = λ y p. ap (λ o. then_with o to) (h x refl) ∙ k x y p
then_below Over g go to h k = λ y p. absurd (cc)
then_below Wrong g go to h k = λ y p. absurd (cc)

if_below : {X : Type 0} (s : Truth) (e g i j : End X) → Below e i → Below g j → Below (if s then e else g) (if s then i else j)
if_below true e g i j h k = h
if_below false e g i j h k = k

settled_below : (o : Option Truth) (e g : End BScalar) → Below e g → Below (settled_or o e) (settled_or o g)
settled_below (Some p) e g h = below_itself (Is (Bool p))
settled_below None e g h = then_below (as_truth e) (as_truth g) (λ p. Is (Bool p)) (λ p. Is (Bool p)) (then_below e g truth_of truth_of h (λ v. below_itself (truth_of v))) (λ p. below_itself (Is (Bool p)))

binary_below : (o : BOp) (e g i j : End BScalar) → Below e i → Below g j → Below (binary Unbounded o e g) (binary Unbounded o i j)
binary_below o e g i j h k =
    if_below (is_lazy o) (then_with (as_truth e) (λ p. settled_or (settled o p) g)) (then_with e (λ v. then_with g (λ w. plain_of Unbounded o v w)))
    (then_with (as_truth i) (λ p. settled_or (settled o p) j)) (then_with i (λ v. then_with j (λ w. plain_of Unbounded o v w)))
    (then_below (as_truth e) (as_truth i) (λ p. settled_or (settled o p) g) (λ p. settled_or (settled o p) j)
    (then_below e i truth_of truth_of h (λ v. below_itself (truth_of v))) (λ p. settled_below (settled o p) g j k))
    (then_below e i (λ v. then_with g (λ w. plain_of Unbounded o v w)) (λ v. then_with j (λ w. plain_of Unbounded o v w)) h
    (λ v. then_below g j (λ w. plain_of Unbounded o v w) (λ w. plain_of Unbounded o v w) k (λ w. below_itself (plain_of Unbounded o v w))))

module _ (old new : List BValue) (kept : Kept old new) where
  found_kept : (n : ℕ) → Below (found (slice_get old n)) (found (slice_get new n))
  found_kept n = λ v h. ap found (kept n v (there (slice_get old n) v h))
    where
      there : (o : Option BValue) (v : BValue) → found o ≡ Is v → o ≡ Some v
      there (Some w) v h = let e : w ≡ v = cc in ap Some e
      there None v h = absurd (cc)

  pub of_kept : (n : ℕ) → Below (of n old) (of n new)
  of_kept n = then_below (found (slice_get old n)) (found (slice_get new n)) scalar_in scalar_in (found_kept n) (λ v. below_itself (scalar_in v))

  pub map_kept : (n : ℕ) → Below (the_map old n) (the_map new n)
  map_kept n = then_below (found (slice_get old n)) (found (slice_get new n)) map_in map_in (found_kept n) (λ v. below_itself (map_in v))

  signed_kept : (n : ℕ) (s : Truth) → Below (at (record { name = n; negated = s }) old) (at (record { name = n; negated = s }) new)
  signed_kept n true = then_below (of n old) (of n new) negation negation (of_kept n) (λ v. below_itself (negation v))
  signed_kept n false = of_kept n

  -- an operand keeps its value
  pub at_kept : (l : ClauseLiteral) → Below (at l old) (at l new)
  at_kept l = signed_kept l.name l.negated

  pub key_kept : (ks : List ClauseLiteral) → Below (key_at ks old) (key_at ks new)
  key_kept [] = below_itself (Is [])
  key_kept (k ∷ ks) = λ x h. key_more k ks new ∙ first (key_kept ks) x (sym (key_more k ks old) ∙ h)
    where
      first : Below (key_at ks old) (key_at ks new) → Below (then_with (at k old) (λ v. then_with (part_of v) (λ p. then_with (key_at ks old) (λ r. Is (p ∷ r)))))
          (then_with (at k new) (λ v. then_with (part_of v) (λ p. then_with (key_at ks new) (λ r. Is (p ∷ r)))))
      first rest =
          then_below (at k old) (at k new) _ _ (at_kept k) (λ v. then_below (part_of v) (part_of v) _ _ (below_itself (part_of v))
          (λ p. then_below (key_at ks old) (key_at ks new) _ _ rest (λ r. below_itself (Is (p ∷ r)))))

  one_kept : (e g : End BScalar) → Below e g → Below (one_of e) (one_of g)
  one_kept e g h = then_below e g _ _ h (λ v. below_itself (one_of (Is v)))

  side_kept : (a : ClauseLiteral) (go : BScalar → End BScalar) → Below (one_of (then_with (at a old) go)) (one_of (then_with (at a new) go))
  side_kept a go = one_kept (then_with (at a old) go) (then_with (at a new) go) (then_below (at a old) (at a new) go go (at_kept a) (λ v. below_itself (go v)))

  whole_signed : (n : ℕ) (s : Truth) → Below (whole (operand (record { name = n; negated = s })) old) (whole (operand (record { name = n; negated = s })) new)
  whole_signed n true = one_kept (at (record { name = n; negated = true }) old) (at (record { name = n; negated = true }) new) (signed_kept n true)
  whole_signed n false = found_kept n

  -- a term keeps the value that it says
  pub told_kept : (x : CertificateTerm) → Below (told x old) (told x new)
  told_kept term.Given = below_itself Wrong
  told_kept (term.Same n) = found_kept n
  told_kept (term.Bool p) = below_itself (told (term.Bool p) old)
  told_kept term.Null = below_itself (told term.Null old)
  told_kept term.Unit = below_itself (told term.Unit old)
  told_kept (term.Int n) = below_itself (told (term.Int n) old)
  told_kept (term.Real n) = below_itself (told (term.Real n) old)
  told_kept (term.Neg a) = side_kept a negative
  told_kept (term.Bin o a b) = one_kept (binary Unbounded o (at a old) (at b old)) (binary Unbounded o (at a new) (at b new)) (binary_below o (at a old) (at b old) (at a new) (at b new) (at_kept a) (at_kept b))
  told_kept (term.If c a b) =
      then_below (as_truth (at c old)) (as_truth (at c new)) _ _ (then_below (at c old) (at c new) truth_of truth_of (at_kept c) (λ v. below_itself (truth_of v)))
      (λ p. if_below p (whole (operand a) old) (whole (operand b) old) (whole (operand a) new) (whole (operand b) new) (whole_signed a.name a.negated) (whole_signed b.name b.negated))
  told_kept (term.ToReal a) = side_kept a real_from
  told_kept (term.SInt a) = side_kept a leaf_int
  told_kept (term.SBool a) = side_kept a leaf_bool
  told_kept (term.SRef a) = side_kept a leaf_ref
  told_kept (term.SPerm a) = side_kept a leaf_perm
  told_kept (term.Pair a b) =
      one_kept _ _ (then_below (at a old) (at a new) _ _ (at_kept a) (λ v. then_below (at b old) (at b new) (λ w. pair_of Unbounded v w) (λ w. pair_of Unbounded v w) (at_kept b) (λ w. below_itself (pair_of Unbounded v w))))
  told_kept (term.At m ks) =
      one_kept _ _ (then_below (key_at ks.items old) (key_at ks.items new) _ _ (key_kept ks.items) (λ q. then_below (the_map old m) (the_map new m) _ _ (map_kept m) (λ n. below_itself (Is (get key_cmp n q)))))
  told_kept (term.Put m ks a) =
      then_below (found (slice_get old m)) (found (slice_get new m)) _ _ (found_kept m) (λ w. then_below (map_in w) (map_in w) _ _ (below_itself (map_in w)) (λ n.
      then_below (key_at ks.items old) (key_at ks.items new) _ _ (key_kept ks.items) (λ k. then_below (at a old) (at a new) _ _ (at_kept a) (λ v. below_itself (Is (Many (set key_cmp same_scalar n k v)))))))

  -- what a term means keeps its value
  pub meaning_kept : (x : CertificateTerm) (e : FExpr) → meaning x ≡ Some e → Below (whole e old) (whole e new)
  meaning_kept x e m = λ v h. whole_told x e new m ∙ told_kept x v (sym (whole_told x e old m) ∙ h)
