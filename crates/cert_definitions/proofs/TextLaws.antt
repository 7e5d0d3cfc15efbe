-- A literal that is what a text says has the value of the text.
use Rattle.std.proofs.Common.{◌≡◌, ◌⊎◌, inl, inr, ◌==◌, ℕ, ℤ, Bool as Truth, true, false, not, ◌&&◌, ◌||◌, Option, Some, None, List, [], ◌∷◌, slice_get, if◌then◌else◌, refl, sym, ap, ◌∙◌}
use Rattle.std.specs.Bool.{beq}
use Rattle.std.proofs.lemmas.Bool.Decides.{Decides-int_eq, Decides-eqb}
use Rattle.lemmas.proofs.Tests.{false_from_not}
use Rattle.sparse.specs.Map.{Map, get}
use Rattle.vb_value.specs.Key.{key_cmp}
use Rattle.boogie_tree.specs.Value.{Key, BScalar, BValue}
use Rattle.boogie_tree.specs.declared.exprs.BOp.{BOp}
use Rattle.boogie_tree.specs.declared.exprs.BOp.TheVariants as op
use Rattle.boogie_meaning.specs.Ends.{Is, then_with, found}
use Rattle.boogie_meaning.specs.Value.{QuantifierScope, scalar_in, map_in, the_map}
use Rattle.boogie_formula.specs.Value.{whole}
use Rattle.cert_terms.specs.Terms.{operand, IsModel}
use Rattle.cert_terms.specs.declared.terms.ClauseLiteral.{ClauseLiteral}
use Rattle.cert_terms.specs.declared.terms.CertificateTerm.{CertificateTerm}
use Rattle.cert_terms.specs.declared.terms.CertificateTerm.TheVariants as term
use Rattle.cert_terms.proofs.MeaningLaws.{at, of, key_at, whole_scalar, same_value}
use Rattle.cert_definitions.specs.Texts.{Told, same_literal, same_literals, plainly, is_same, is_alias, is_name, same_op, own, is_int, is_real, is_truth, is_null, is_unit, of_neg, of_real, of_s_int, of_s_bool, of_s_ref, of_s_perm, one_text, pair_text, bin_text, if_text, at_text}
use Rattle.cert_definitions.proofs.OperatorLaws.{signed_end}

-- ---- tests

pub and_both : {p q : Truth} → (p && q) ≡ true → (p ≡ true) × (q ≡ true)
and_both {p = true} h = (refl, h)
and_both {p = false} h = absurd (cc)

or_either : (p q : Truth) → (p || q) ≡ true → (p ≡ true) ⊎ (q ≡ true)
or_either true q h = inl refl
or_either false q h = inr h

pub beq_is : (p q : Truth) → beq p q ≡ true → p ≡ q
beq_is true true h = refl
beq_is true false h = absurd (cc)
beq_is false true h = absurd (cc)
beq_is false false h = refl

pub literal_is : (a b : ClauseLiteral) → same_literal a b ≡ true → a ≡ b
literal_is a b h =
    let p = and_both h in
    let n = (Decides-eqb a.name b.name).0 p.0 in
    let s = beq_is a.negated b.negated p.1 in
    λ i. record { name = n i; negated = s i }

pub literals_are : (xs ys : List ClauseLiteral) → same_literals xs ys ≡ true → xs ≡ ys
literals_are [] [] h = refl
literals_are [] (y ∷ ys) h = absurd (cc)
literals_are (x ∷ xs) [] h = absurd (cc)
literals_are (x ∷ xs) (y ∷ ys) h =
    let p = and_both h in
    let a = literal_is x y p.0 in
    let r = literals_are xs ys p.1 in
    λ i. a i ∷ r i

op_is : (p o : BOp) → same_op p o ≡ true → p ≡ o
op_is op.Iff op.Iff h = refl
op_is op.Implies op.Implies h = refl
op_is op.Or op.Or h = refl
op_is op.And op.And h = refl
op_is op.Eq op.Eq h = refl
op_is op.Ne op.Ne h = refl
op_is op.Lt op.Lt h = refl
op_is op.Le op.Le h = refl
op_is op.Gt op.Gt h = refl
op_is op.Ge op.Ge h = refl
op_is op.Add op.Add h = refl
op_is op.Sub op.Sub h = refl
op_is op.Mul op.Mul h = refl
op_is op.Divide op.Divide h = refl
op_is op.IntDiv op.IntDiv h = refl
op_is op.IntMod op.IntMod h = refl
op_is _ _ h = absurd (cc)

-- ---- shapes

same_term : (i : ℕ) (o : Option CertificateTerm) → is_same i o ≡ true → o ≡ Some (term.Same i)
same_term i (Some (term.Same j)) h = ap (λ n. Some (term.Same n)) ((Decides-eqb j i).0 h)
same_term i _ h = absurd (cc)

alias_is : (o : Option (Option ClauseLiteral)) (l : ClauseLiteral) → is_alias o l ≡ true → o ≡ Some (Some l)
alias_is (Some (Some a)) l h = ap (λ x. Some (Some x)) (literal_is a l h)
alias_is (Some None) l h = absurd (cc)
alias_is None l h = absurd (cc)

pub int_is : (n : ℤ) (o : Option CertificateTerm) → is_int n o ≡ true → o ≡ Some (term.Int n)
int_is n (Some (term.Int m)) h = ap (λ x. Some (term.Int x)) ((Decides-int_eq m n).0 h)
int_is n _ h = absurd (cc)

pub real_is : (n : ℤ) (o : Option CertificateTerm) → is_real n o ≡ true → o ≡ Some (term.Real n)
real_is n (Some (term.Real m)) h = ap (λ x. Some (term.Real x)) ((Decides-int_eq m n).0 h)
real_is n _ h = absurd (cc)

pub bool_is : (p : Truth) (o : Option CertificateTerm) → is_truth p o ≡ true → o ≡ Some (term.Bool p)
bool_is p (Some (term.Bool q)) h = ap (λ x. Some (term.Bool x)) (beq_is q p h)
bool_is p _ h = absurd (cc)

pub null_is : (o : Option CertificateTerm) → is_null o ≡ true → o ≡ Some term.Null
null_is (Some term.Null) h = refl
null_is _ h = absurd (cc)

pub unit_is : (o : Option CertificateTerm) → is_unit o ≡ true → o ≡ Some term.Unit
unit_is (Some term.Unit) h = refl
unit_is _ h = absurd (cc)

-- what a reader of one part finds
pub neg_part : (o : Option CertificateTerm) (go : ClauseLiteral → Truth) → one_text (of_neg o) go ≡ true → (x : ClauseLiteral) × (o ≡ Some (term.Neg x)) × (go x ≡ true)
neg_part (Some (term.Neg x)) go h = (x, refl, h)
neg_part _ go h = absurd (cc)

pub real_part : (o : Option CertificateTerm) (go : ClauseLiteral → Truth) → one_text (of_real o) go ≡ true → (x : ClauseLiteral) × (o ≡ Some (term.ToReal x)) × (go x ≡ true)
real_part (Some (term.ToReal x)) go h = (x, refl, h)
real_part _ go h = absurd (cc)

pub s_int_part : (o : Option CertificateTerm) (go : ClauseLiteral → Truth) → one_text (of_s_int o) go ≡ true → (x : ClauseLiteral) × (o ≡ Some (term.SInt x)) × (go x ≡ true)
s_int_part (Some (term.SInt x)) go h = (x, refl, h)
s_int_part _ go h = absurd (cc)

pub s_bool_part : (o : Option CertificateTerm) (go : ClauseLiteral → Truth) → one_text (of_s_bool o) go ≡ true → (x : ClauseLiteral) × (o ≡ Some (term.SBool x)) × (go x ≡ true)
s_bool_part (Some (term.SBool x)) go h = (x, refl, h)
s_bool_part _ go h = absurd (cc)

pub s_ref_part : (o : Option CertificateTerm) (go : ClauseLiteral → Truth) → one_text (of_s_ref o) go ≡ true → (x : ClauseLiteral) × (o ≡ Some (term.SRef x)) × (go x ≡ true)
s_ref_part (Some (term.SRef x)) go h = (x, refl, h)
s_ref_part _ go h = absurd (cc)

pub s_perm_part : (o : Option CertificateTerm) (go : ClauseLiteral → Truth) → one_text (of_s_perm o) go ≡ true → (x : ClauseLiteral) × (o ≡ Some (term.SPerm x)) × (go x ≡ true)
s_perm_part (Some (term.SPerm x)) go h = (x, refl, h)
s_perm_part _ go h = absurd (cc)

pub pair_parts : (o : Option CertificateTerm) (go : ClauseLiteral → ClauseLiteral → Truth) → pair_text o go ≡ true → (x : ClauseLiteral) × (y : ClauseLiteral) × (o ≡ Some (term.Pair x y)) × (go x y ≡ true)
pair_parts (Some (term.Pair x y)) go h = (x, y, refl, h)
pair_parts _ go h = absurd (cc)

pub bin_parts : (o : BOp) (s : Option CertificateTerm) (go : ClauseLiteral → ClauseLiteral → Truth) → bin_text o s go ≡ true → (x : ClauseLiteral) × (y : ClauseLiteral) × (s ≡ Some (term.Bin o x y)) × (go x y ≡ true)
bin_parts o (Some (term.Bin p x y)) go h = let q = and_both h in (x, y, ap (λ a. Some (term.Bin a x y)) (op_is p o q.0), q.1)
bin_parts o _ go h = absurd (cc)

pub if_parts : (o : Option CertificateTerm) (go : ClauseLiteral → ClauseLiteral → ClauseLiteral → Truth) → if_text o go ≡ true →
    (x : ClauseLiteral) × (y : ClauseLiteral) × (z : ClauseLiteral) × (o ≡ Some (term.If x y z)) × (go x y z ≡ true)
if_parts (Some (term.If x y z)) go h = (x, y, z, refl, h)
if_parts _ go h = absurd (cc)

pub at_parts : (o : Option CertificateTerm) (go : ℕ → List ClauseLiteral → Truth) → at_text o go ≡ true → (n : ℕ) × (ks : _) × (o ≡ Some (term.At n ks)) × (go n ks.items ≡ true)
at_parts (Some (term.At n ks)) go h = (n, ks, refl, h)
at_parts _ go h = absurd (cc)

own_at : (s : Truth) (o : Option CertificateTerm) (x : CertificateTerm) → (if s then None else o) ≡ Some x → (s ≡ false) × (o ≡ Some x)
own_at true o x h = absurd (cc)
own_at false o x h = (refl, h)

-- ---- in a model

-- what names are told to be has their values
pub record AreRight (t : Told) (values : List BValue) : Type 0 where
  pub right : (i : ℕ) (l : ClauseLiteral) → slice_get t.aliases i ≡ Some (Some l) → whole (operand l) values ≡ found (slice_get values i)

-- a map at the bound names is the map at the keys that stand for them
pub record IsBound (t : Told) (values : List BValue) (w : QuantifierScope) : Type 0 where
  pub there : (ks : List ClauseLiteral) → t.keys ≡ Some ks → (k : Key) × (key_at ks values ≡ Is k) × ((m : Map Key BScalar) → w.bound m ≡ Is (get key_cmp m k))

pub plain_at : (n : ℕ) (s : Truth) (values : List BValue) → s ≡ false → at (record { name = n; negated = s }) values ≡ of n values
plain_at n s values h = rw h refl

pub signed_at : (n : ℕ) (s : Truth) (values : List BValue) → at (record { name = n; negated = s }) values ≡ signed_end s (of n values)
signed_at n true values = refl
signed_at n false values = refl

pub plain_whole : (n : ℕ) (s : Truth) (values : List BValue) → s ≡ false → whole (operand (record { name = n; negated = s })) values ≡ found (slice_get values n)
plain_whole n s values h = rw h refl

module _ (t : Told) (values : List BValue) where
  pub own_is : (l : ClauseLiteral) (x : CertificateTerm) → own t l ≡ Some x → (l.negated ≡ false) × (slice_get t.terms l.name ≡ Some x)
  own_is l x h = own_at l.negated (slice_get t.terms l.name) x h

  module _ (model : IsModel t.terms values) (right : AreRight t values) where
    -- a literal that is told to be a name has its value
    pub name_is : (i : ℕ) (l : ClauseLiteral) → is_name t i l ≡ true → whole (operand l) values ≡ found (slice_get values i)
    name_is i l h = elim (or_either (not l.negated && ((l.name == i) || is_same i (slice_get t.terms l.name))) (is_alias (slice_get t.aliases i) l) h)
        [ inl a ↦ by_name a | inr a ↦ right.right i l (alias_is (slice_get t.aliases i) l a) ]
      where
        by_name : (not l.negated && ((l.name == i) || is_same i (slice_get t.terms l.name))) ≡ true → whole (operand l) values ≡ found (slice_get values i)
        by_name a =
            let p = and_both a in
            plain_whole l.name l.negated values (false_from_not l.negated p.0)
            ∙ elim (or_either (l.name == i) (is_same i (slice_get t.terms l.name)) p.1) [
              | inl e ↦ ap (λ n. found (slice_get values n)) ((Decides-eqb l.name i).0 e)
              | inr e ↦ ap found (same_value t.terms values model l.name i (same_term i (slice_get t.terms l.name) e))
            ]

    pub scalar_is : (i : ℕ) (l : ClauseLiteral) → is_name t i l ≡ true → then_with (found (slice_get values i)) scalar_in ≡ at l values
    scalar_is i l h = ap (λ o. then_with o scalar_in) (sym (name_is i l h)) ∙ whole_scalar l.name l.negated values

    pub map_is : (m n : ℕ) → is_name t m (plainly n) ≡ true → the_map values m ≡ the_map values n
    map_is m n h = ap (λ o. then_with o map_in) (sym (name_is m (plainly n) h))
