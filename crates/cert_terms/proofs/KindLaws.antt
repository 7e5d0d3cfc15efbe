-- The types of keys, one after the other, and of terms by those of their parts.
use Rattle.std.proofs.Common.{◌≡◌, ℕ, ◌+◌, ◌<◌, ◌≤◌, add-one, get_or, drop-cons, drop_of_length-le, Bool as Truth, true, false, ◌&&◌, Option, Some, None, List, [], ◌∷◌, drop, length, slice_get, if◌then◌else◌, ◌++◌, map, refl, sym, ap, subst, ◌∙◌}
use Rattle.std.proofs.lemmas.List.{map-append}
use Rattle.lemmas.proofs.Options.{some_turned}
use Rattle.lemmas.proofs.Tests.{and_parts}
use Rattle.boogie_tree.specs.Program.{BType}
use Rattle.boogie_tree.specs.declared.programs.BType as declared
use Rattle.boogie_tree.specs.Values.{same_base, same_type, is_key, plain_type}
use Rattle.boogie_tree.specs.declared.exprs.BBase.{BBase}
use Rattle.boogie_tree.specs.declared.exprs.BBase.TheVariants as base
use Rattle.boogie_meaning.specs.Types.{then_some, is_base}
use Rattle.boogie_formula.specs.Formula as f
use Rattle.boogie_formula.specs.Formula.{FExpr, FExprs}
use Rattle.boogie_formula.specs.Types.{fbase, fbases, whole_type}
use Rattle.boogie_types.specs.Typed.{are_bases, is_index, indexed_by}
use Rattle.cert_terms.specs.Kinds.{plain_kind, HasKind}
use Rattle.cert_terms.specs.Terms.{operand, operands, meaning}
use Rattle.cert_terms.specs.declared.terms.ClauseLiteral.{ClauseLiteral}
use Rattle.cert_terms.specs.declared.terms.CertificateTerm.{CertificateTerm}
use Rattle.cert_terms.specs.declared.terms.CertificateTerm.TheVariants as term
use Rattle.boogie_tree.specs.Whole.{type_of}
use Rattle.cert_terms.specs.declared.terms.TypedTerm.{TypedTerm}
use Rattle.cert_terms.specs.Tables.{is_of_type, IsTable, Adds, givens}
use Rattle.cert_terms.specs.View.{terms_in, types_in}
use Rattle.cert_terms.proofs.TableLaws.{is_type_itself, typed_push}
use Rattle.cert_terms.proofs.MeaningLaws.{plain_operand, plain_operands}

-- ---- keys

pub fbases_more : (ls : List BType) (k : ClauseLiteral) (ks : List ClauseLiteral) →
    fbases ls (operands (k ∷ ks)) ≡ then_some (fbase ls (operand k)) (λ u. then_some (fbases ls (operands ks)) (λ us. if is_key u then Some (u ∷ us) else None))
fbases_more ls k ks = rw (plain_operand k, plain_operands ks) refl

-- a key that fits
first_fits : (o : Option BBase) (rest : Option (List BBase)) (w : BBase) (ws : List BBase) → is_index o w ≡ true →
    are_bases (then_some o (λ u. then_some rest (λ us. if is_key u then Some (u ∷ us) else None))) (w ∷ ws) ≡ are_bases rest ws
first_fits None rest w ws h = absurd (cc)
first_fits (Some u) None w ws h = refl
first_fits (Some u) (Some us) w ws h = let p = and_parts (same_base u w) (is_key u) h in rw (p.1) (rw (p.0) refl)

pub key_fits : (ls : List BType) (k : ClauseLiteral) (ks : List ClauseLiteral) (w : BBase) (ws : List BBase) → is_index (fbase ls (operand k)) w ≡ true →
    are_bases (fbases ls (operands (k ∷ ks))) (w ∷ ws) ≡ are_bases (fbases ls (operands ks)) ws
key_fits ls k ks w ws h = ap (λ o. are_bases o (w ∷ ws)) (fbases_more ls k ks) ∙ first_fits (fbase ls (operand k)) (fbases ls (operands ks)) w ws h

-- a key that does not
first_differs : (o : Option BBase) (rest : Option (List BBase)) (w : BBase) (ws : List BBase) → is_index o w ≡ false →
    are_bases (then_some o (λ u. then_some rest (λ us. if is_key u then Some (u ∷ us) else None))) (w ∷ ws) ≡ false
first_differs None rest w ws h = refl
first_differs (Some u) None w ws h = refl
first_differs (Some u) (Some us) w ws h = by_tests (is_key u) (same_base u w) refl h
  where
    by_tests : (p q : Truth) → same_base u w ≡ q → (q && p) ≡ false → are_bases (if p then Some (u ∷ us) else None) (w ∷ ws) ≡ false
    by_tests true true e h = absurd (cc)
    by_tests true false e h = rw e refl
    by_tests false q e h = refl

pub key_differs : (ls : List BType) (k : ClauseLiteral) (ks : List ClauseLiteral) (w : BBase) (ws : List BBase) → is_index (fbase ls (operand k)) w ≡ false →
    are_bases (fbases ls (operands (k ∷ ks))) (w ∷ ws) ≡ false
key_differs ls k ks w ws h = ap (λ o. are_bases o (w ∷ ws)) (fbases_more ls k ks) ∙ first_differs (fbase ls (operand k)) (fbases ls (operands ks)) w ws h

-- no type is wanted
first_over : (o : Option BBase) (rest : Option (List BBase)) → are_bases (then_some o (λ u. then_some rest (λ us. if is_key u then Some (u ∷ us) else None))) [] ≡ false
first_over None rest = refl
first_over (Some u) None = refl
first_over (Some u) (Some us) = by_key (is_key u)
  where
    by_key : (p : Truth) → are_bases (if p then Some (u ∷ us) else None) [] ≡ false
    by_key true = refl
    by_key false = refl

pub key_over : (ls : List BType) (k : ClauseLiteral) (ks : List ClauseLiteral) → are_bases (fbases ls (operands (k ∷ ks))) [] ≡ false
key_over ls k ks = ap (λ o. are_bases o []) (fbases_more ls k ks) ∙ first_over (fbase ls (operand k)) (fbases ls (operands ks))

-- the same in the middle of lists
module _ (ls : List BType) (keys : List ClauseLiteral) (wanted : List BBase) (i j : ℕ) (d : ClauseLiteral) (h : i < length keys) where
  keys_from : drop i keys ≡ get_or keys i d ∷ drop (i + 1) keys
  keys_from = drop-cons keys i d h ∙ ap (λ n. get_or keys i d ∷ drop n keys) (sym (add-one i))

  module _ (w : BBase) (g : j < length wanted) (is : w ≡ get_or wanted j w) where
    types_from : drop j wanted ≡ w ∷ drop (j + 1) wanted
    types_from = drop-cons wanted j w g ∙ (let e = sym is in let n = sym (add-one j) in λ k. e k ∷ drop (n k) wanted)

    both_from : are_bases (fbases ls (operands (drop i keys))) (drop j wanted) ≡
        are_bases (fbases ls (operands (get_or keys i d ∷ drop (i + 1) keys))) (w ∷ drop (j + 1) wanted)
    both_from = let p = keys_from in let q = types_from in λ k. are_bases (fbases ls (operands (p k))) (q k)

    pub step_fits : is_index (fbase ls (operand (get_or keys i d))) w ≡ true →
        are_bases (fbases ls (operands (drop i keys))) (drop j wanted) ≡ are_bases (fbases ls (operands (drop (i + 1) keys))) (drop (j + 1) wanted)
    step_fits f = both_from ∙ key_fits ls (get_or keys i d) (drop (i + 1) keys) w (drop (j + 1) wanted) f

    pub step_differs : is_index (fbase ls (operand (get_or keys i d))) w ≡ false → are_bases (fbases ls (operands (drop i keys))) (drop j wanted) ≡ false
    step_differs f = both_from ∙ key_differs ls (get_or keys i d) (drop (i + 1) keys) w (drop (j + 1) wanted) f

  pub step_over : length wanted ≤ j → are_bases (fbases ls (operands (drop i keys))) (drop j wanted) ≡ false
  step_over g =
      (let p = keys_from in let q = drop_of_length-le wanted g in λ k. are_bases (fbases ls (operands (p k))) (q k))
      ∙ key_over ls (get_or keys i d) (drop (i + 1) keys)

-- ---- terms that are no maps

plain_whole : (o : Option BBase) (u : BBase) → o ≡ Some u → then_some o (λ w. Some (plain_type w)) ≡ Some (plain_type u)
plain_whole o u h = rw h refl

-- the type of what such a term means
pub kind_is : (ls : List BType) (x : CertificateTerm) (u : BBase) (e : FExpr) → plain_kind ls x ≡ Some u → meaning x ≡ Some e → whole_type ls e ≡ Some (plain_type u)
kind_is ls term.Given u e h m = absurd (cc)
kind_is ls (term.Same n) u e h m = absurd (cc)
kind_is ls (term.Bool p) u e h m = rw (some_turned m) (plain_whole (plain_kind ls (term.Bool p)) u h)
kind_is ls term.Null u e h m = rw (some_turned m) (plain_whole (plain_kind ls term.Null) u h)
kind_is ls term.Unit u e h m = rw (some_turned m) (plain_whole (plain_kind ls term.Unit) u h)
kind_is ls (term.Int n) u e h m = rw (some_turned m) (plain_whole (plain_kind ls (term.Int n)) u h)
kind_is ls (term.Real n) u e h m = rw (some_turned m) (plain_whole (plain_kind ls (term.Real n)) u h)
kind_is ls (term.Neg a) u e h m = rw (some_turned m) (rw (plain_operand a) (plain_whole _ u (rw (plain_operand a) at h)))
kind_is ls (term.Bin o a b) u e h m = rw (some_turned m) (rw (plain_operand a, plain_operand b) (plain_whole _ u (rw (plain_operand a, plain_operand b) at h)))
kind_is ls (term.If c a b) u e h m = absurd (cc)
kind_is ls (term.ToReal a) u e h m = rw (some_turned m) (rw (plain_operand a) (plain_whole _ u (rw (plain_operand a) at h)))
kind_is ls (term.SInt a) u e h m = rw (some_turned m) (rw (plain_operand a) (plain_whole _ u (rw (plain_operand a) at h)))
kind_is ls (term.SBool a) u e h m = rw (some_turned m) (rw (plain_operand a) (plain_whole _ u (rw (plain_operand a) at h)))
kind_is ls (term.SRef a) u e h m = rw (some_turned m) (rw (plain_operand a) (plain_whole _ u (rw (plain_operand a) at h)))
kind_is ls (term.SPerm a) u e h m = rw (some_turned m) (rw (plain_operand a) (plain_whole _ u (rw (plain_operand a) at h)))
kind_is ls (term.Pair a b) u e h m = rw (some_turned m) (rw (plain_operand a, plain_operand b) (plain_whole _ u (rw (plain_operand a, plain_operand b) at h)))
kind_is ls (term.At n ks) u e h m = rw (some_turned m) (rw (plain_operands ks.items) (plain_whole _ u (rw (plain_operands ks.items) at h)))
kind_is ls (term.Put n ks a) u e h m = absurd (cc)

-- ---- terms that may be maps

named_at : (ls : List BType) (n : ℕ) (s : Truth) (u : BType) → s ≡ false → slice_get ls n ≡ Some u → whole_type ls (operand (record { name = n; negated = s })) ≡ Some u
named_at ls n s u h g = rw h g

-- the type of an operand that is a name
pub whole_named : (ls : List BType) (l : ClauseLiteral) (u : BType) → l.negated ≡ false → slice_get ls l.name ≡ Some u → whole_type ls (operand l) ≡ Some u
whole_named ls l u h g = named_at ls l.name l.negated u h g

negated_at : (ls : List BType) (n : ℕ) (s : Truth) (u : BBase) → s ≡ true → fbase ls (operand (record { name = n; negated = s })) ≡ Some u →
    whole_type ls (operand (record { name = n; negated = s })) ≡ Some (plain_type u)
negated_at ls n true u h g = plain_whole (fbase ls (operand (record { name = n; negated = true }))) u g
negated_at ls n false u h g = absurd (cc)

-- and of one that is a negation
pub whole_negated : (ls : List BType) (l : ClauseLiteral) (u : BBase) → l.negated ≡ true → fbase ls (operand l) ≡ Some u → whole_type ls (operand l) ≡ Some (plain_type u)
whole_negated ls l u h g = negated_at ls l.name l.negated u h g

pub choice_is : (ls : List BType) (c a b : FExpr) (u w : BType) → fbase ls c ≡ Some base.Bool → whole_type ls a ≡ Some u → whole_type ls b ≡ Some w → same_type u w ≡ true →
    whole_type ls (f.If c a b) ≡ Some u
choice_is ls c a b u w h p q s = rw (h, p, q) (rw s refl)

pub put_is : (ls : List BType) (m : ℕ) (es : FExprs) (e : FExpr) (u : BType) (w x : BBase) → slice_get ls m ≡ Some u → indexed_by (slice_get ls m) (fbases ls es) ≡ Some w → fbase ls e ≡ Some x →
    same_base w x ≡ true → whole_type ls (f.With (f.Var m) es e) ≡ Some u
put_is ls m es e u w x h p q s =
    let i : indexed_by (Some u) (fbases ls es) ≡ Some w = ap (λ o. indexed_by o (fbases ls es)) (sym h) ∙ p in
    rw (h, q) (ap (λ o. if is_base o x then Some u else None) i ∙ rw s refl)

-- a term of this type belongs into a table
pub kind_typed : (ls : List BType) (x : CertificateTerm) (u : BType) → HasKind ls x u → is_of_type (meaning x) ls u ≡ true
kind_typed ls x u h = by_meaning (meaning x) h
  where
    by_meaning : (o : Option FExpr) → ((e : FExpr) → o ≡ Some e → whole_type ls e ≡ Some u) → is_of_type o ls u ≡ true
    by_meaning None h = refl
    by_meaning (Some e) h = is_type_itself (whole_type ls e) u (h e refl)

-- a table with one more name
pub table_more : (ts : List CertificateTerm) (us : List BType) → IsTable ts us → (t : CertificateTerm) (u : BType) → HasKind us t u → (ts' : List CertificateTerm) (us' : List BType) → Adds ts us t u ts' us' → IsTable ts' us'
table_more ts us h t u k ts' us' a =
    let e = a.terms in let g = a.types in
    subst (λ x. IsTable x us') (sym e) (subst (λ y. IsTable (ts ++ t ∷ []) y) (sym g) (typed_push [] ts us h t u (kind_typed us t u k)))

pub given_more : (ts : List CertificateTerm) (us : List BType) → IsTable ts us → (u : BType) → (ts' : List CertificateTerm) (us' : List BType) → Adds ts us term.Given u ts' us' → IsTable ts' us'
given_more ts us h u ts' us' a = table_more ts us h term.Given u (λ e m. absurd (cc)) ts' us' a

-- the list of a table's names with one more
pub names_more : (old : List TypedTerm) (x : TypedTerm) (new : List TypedTerm) → new ≡ old ++ x ∷ [] → Adds (terms_in old) (types_in old) x.term (type_of x.ty) (terms_in new) (types_in new)
names_more old x new h = record { terms = ap terms_in h ∙ map-append (λ (n : TypedTerm). n.term) old (x ∷ []); types = ap types_in h ∙ map-append (λ (n : TypedTerm). type_of n.ty) old (x ∷ []) }

pub givens_more : (us : List BType) (u : BType) → givens (us ++ u ∷ []) ≡ givens us ++ term.Given ∷ []
givens_more [] u = refl
givens_more (w ∷ us) u = ap (λ ts. term.Given ∷ ts) (givens_more us u)

-- the same where the push may be refused
pub pushed_table : (p : Truth) (old : List TypedTerm) (x : TypedTerm) (new : List TypedTerm) → new ≡ (if p then old ++ x ∷ [] else old) → IsTable (terms_in old) (types_in old) →
    HasKind (types_in old) x.term (type_of x.ty) → IsTable (terms_in new) (types_in new)
pushed_table true old x new h t k = table_more (terms_in old) (types_in old) t x.term (type_of x.ty) k (terms_in new) (types_in new) (names_more old x new h)
pushed_table false old x new h t k = subst (λ ns. IsTable (terms_in ns) (types_in ns)) (sym h) t

pub given_kind : (us : List BType) (u : BType) → HasKind us term.Given u
given_kind us u = λ e m. absurd (cc)

-- one more name of the conditions
pub begun_types : (ys : List declared.BType) (y : declared.BType) (ts : List CertificateTerm) (us : List BType) (ts' : List CertificateTerm) (us' : List BType) → Adds ts us term.Given (type_of y) ts' us' →
    us ≡ map type_of ys → us' ≡ map type_of (ys ++ y ∷ [])
begun_types ys y ts us ts' us' a h = a.types ∙ ap (λ l. l ++ type_of y ∷ []) h ∙ sym (map-append type_of ys (y ∷ []))

pub begun_terms : (ys : List declared.BType) (y : declared.BType) (ts : List CertificateTerm) (us : List BType) (ts' : List CertificateTerm) (us' : List BType) → Adds ts us term.Given (type_of y) ts' us' →
    ts ≡ givens (map type_of ys) → ts' ≡ givens (map type_of (ys ++ y ∷ []))
begun_terms ys y ts us ts' us' a h =
    a.terms ∙ ap (λ l. l ++ term.Given ∷ []) h ∙ sym (givens_more (map type_of ys) (type_of y)) ∙ ap givens (sym (map-append type_of ys (y ∷ [])))
