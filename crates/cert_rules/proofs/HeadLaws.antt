-- The value of a term by those of its parts.
use Rattle.std.proofs.Common.{◌≡◌, ℕ, Option, Some, List, [], ◌∷◌, slice_get, refl, sym, ap, subst, ◌∙◌, IfSome}
use Rattle.sparse.specs.Map.{get}
use Rattle.vb_value.specs.Key.{key_cmp}
use Rattle.boogie_tree.specs.Value.{BValue}
use Rattle.boogie_meaning.specs.Ends.{End, Is, Over, Wrong, then_with}
use Rattle.boogie_meaning.specs.Operators.{part_of}
use Rattle.boogie_meaning.specs.Value.{the_map}
use Rattle.cert_terms.specs.Terms.{IsModel}
use Rattle.cert_terms.specs.declared.terms.ClauseLiteral.{ClauseLiteral}
use Rattle.cert_terms.specs.declared.terms.CertificateTerm.{CertificateTerm}
use Rattle.cert_terms.specs.declared.terms.CertificateTerm.TheVariants as term
use Rattle.cert_terms.proofs.MeaningLaws.{key_at, key_more, neg_value, bin_value, to_real_value, s_int_value, s_bool_value, s_ref_value, s_perm_value, pair_value, at_value, unit_value}
use Rattle.cert_rules.specs.Reasons.{yes, value_of, values_of}
use Rattle.cert_rules.specs.Heads.{head_of, parts_of, key_of, applied, IsMade}
use Rattle.cert_rules.specs.declared.heads.TermHead.{TermHead}

-- ---- ends

pub then_is : {X Y : Type 0} (e : End X) (go : X → End Y) (y : Y) → then_with e go ≡ Is y → (x : X) × (e ≡ Is x) × (go x ≡ Is y)
then_is (Is x) go y h = (x, refl, h)
then_is Over go y h = absurd (cc)
then_is Wrong go y h = absurd (cc)

pub is_same : {X : Type 0} {e : End X} {x y : X} → e ≡ Is x → e ≡ Is y → x ≡ y
is_same h g = let e = sym h ∙ g in cc

-- ---- keys

pub key_value : (values : List BValue) (ls : List ClauseLiteral) → key_at ls values ≡ key_of (values_of values ls)
key_value values [] = refl
key_value values (l ∷ ls) =
    key_more l ls values ∙ ap (λ x. then_with (value_of values l) (λ v. then_with (part_of v) (λ p. then_with x (λ k. Is (p ∷ k))))) (key_value values ls)

-- ---- terms

module _ (terms : List CertificateTerm) (values : List BValue) (model : IsModel terms values) where
  said : (n : ℕ) (t : CertificateTerm) → slice_get terms n ≡ Some t → IfSome (head_of t) (λ h. value_of values (yes n) ≡ applied values h (values_of values (parts_of t)))
  said n (term.Neg a) there = neg_value terms values model n a there
  said n (term.ToReal a) there = to_real_value terms values model n a there
  said n (term.Bin o a b) there = bin_value terms values model n o a b there
  said n (term.At m ks) there =
      at_value terms values model n m ks there
      ∙ ap (λ x. then_with x (λ k. then_with (the_map values m) (λ n. Is (get key_cmp n k)))) (key_value values ks.items)
  said n term.Unit there = unit_value terms values model n there
  said n (term.SInt a) there = s_int_value terms values model n a there
  said n (term.SBool a) there = s_bool_value terms values model n a there
  said n (term.SRef a) there = s_ref_value terms values model n a there
  said n (term.SPerm a) there = s_perm_value terms values model n a there
  said n (term.Pair a b) there = pair_value terms values model n a b there
  said n _ there = tt

  -- the value of a literal by those of its parts
  pub made_value : (l : ClauseLiteral) (h : TermHead) (ps : List ClauseLiteral) → IsMade terms l h ps → value_of values l ≡ applied values h (values_of values ps)
  made_value l h ps m =
      let P : Option TermHead → Type 0 = λ o. IfSome o (λ x. value_of values (yes l.name) ≡ applied values x (values_of values (parts_of m.term))) in
      let here : value_of values (yes l.name) ≡ applied values h (values_of values (parts_of m.term)) = subst P m.head (said l.name m.term m.named.is_there) in
      ap (value_of values) m.named.is_name ∙ here ∙ ap (λ x. applied values h (values_of values x)) m.parts
