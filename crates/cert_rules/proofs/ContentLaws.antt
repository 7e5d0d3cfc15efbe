-- Contents, which constructors make.
use Rattle.std.proofs.Common.{◌≡◌, ℕ, zero, suc, ◌+◌, ◌<◌, ◌≤◌, true, Some, List, [], ◌∷◌, slice_get, arith, refl, sym, ap, subst, ◌∙◌}
use Rattle.std.specs.Option.{option_map}
use Rattle.std.proofs.lemmas.Option.{slice_get-map}
use Rattle.boogie_meaning.proofs.PatternLaws.{is_inj}
use Rattle.lemmas.proofs.Options.{none_some, some_turned}
use Rattle.vb_value.specs.Content as content
use Rattle.vb_value.specs.Content.{Content, nodes}
use Rattle.vb_value.specs.declared.values.Value.TheVariants as leaf
use Rattle.boogie_tree.specs.Program.{BType}
use Rattle.boogie_tree.specs.Value.{BScalar, BValue, Int, Bool, Ref, Real, Snap}
use Rattle.boogie_tree.specs.Values.{IsEnvironment}
use Rattle.boogie_meaning.specs.Ends.{End, Is, Over, Wrong, then_with}
use Rattle.boogie_meaning.specs.Operators.{leaf_int, leaf_bool, leaf_ref, leaf_perm}
use Rattle.cert_terms.specs.Terms.{IsModel, HoldsIn, IsLaw}
use Rattle.cert_terms.specs.declared.terms.ClauseLiteral.{ClauseLiteral}
use Rattle.cert_terms.specs.declared.terms.CertificateTerm.{CertificateTerm}
use Rattle.cert_terms.proofs.LiteralLaws.{holds_first}
use Rattle.cert_rules.specs.Reasons.{yes, no, value_of, values_of, IsEquation, IsAmong, along, turned}
use Rattle.cert_rules.specs.Heads.{applied, is_constructor, IsConstructed, IsPart}
use Rattle.cert_rules.specs.declared.heads.TermHead.{TermHead}
use Rattle.cert_rules.specs.declared.heads.TermHead.TheVariants as head
use Rattle.cert_rules.proofs.ClauseLaws.{holds_second}
use Rattle.cert_rules.proofs.EquationLaws.{Compared, compared, same, other}
use Rattle.cert_rules.proofs.EqualityLaws.{value_there}
use Rattle.cert_rules.proofs.HeadLaws.{made_value}

-- what a constructor makes of these values
data Makes (values : List BValue) : TermHead → List (End BScalar) → BScalar → Type 0 where
  unit : Makes values head.Unit [] (Snap content.Unit)
  int : {n : _} → Makes values head.SInt (Is (Int n) ∷ []) (Snap (content.Leaf (leaf.Int n)))
  truth : {p : _} → Makes values head.SBool (Is (Bool p) ∷ []) (Snap (content.Leaf (leaf.Bool p)))
  ref : {r : _} → Makes values head.SRef (Is (Ref r) ∷ []) (Snap (content.Leaf (leaf.Ref r)))
  perm : {q : _} → Makes values head.SPerm (Is (Real q) ∷ []) (Snap (content.Leaf (leaf.Perm q)))
  pair : {c d : Content} → Makes values head.Pair (Is (Snap c) ∷ Is (Snap d) ∷ []) (Snap (content.Pair c d))

int_leaf : (values : List BValue) (e : End BScalar) (v : BScalar) → then_with e leaf_int ≡ Is v → Makes values head.SInt (e ∷ []) v
int_leaf values (Is (Int n)) v h = subst (Makes values head.SInt (Is (Int n) ∷ [])) (is_inj h) int
int_leaf values (Is (Bool p)) v h = absurd (cc)
int_leaf values (Is (Ref r)) v h = absurd (cc)
int_leaf values (Is (Real q)) v h = absurd (cc)
int_leaf values (Is (Snap c)) v h = absurd (cc)
int_leaf values Over v h = absurd (cc)
int_leaf values Wrong v h = absurd (cc)

truth_leaf : (values : List BValue) (e : End BScalar) (v : BScalar) → then_with e leaf_bool ≡ Is v → Makes values head.SBool (e ∷ []) v
truth_leaf values (Is (Bool p)) v h = subst (Makes values head.SBool (Is (Bool p) ∷ [])) (is_inj h) truth
truth_leaf values (Is (Int p)) v h = absurd (cc)
truth_leaf values (Is (Ref r)) v h = absurd (cc)
truth_leaf values (Is (Real q)) v h = absurd (cc)
truth_leaf values (Is (Snap c)) v h = absurd (cc)
truth_leaf values Over v h = absurd (cc)
truth_leaf values Wrong v h = absurd (cc)

ref_leaf : (values : List BValue) (e : End BScalar) (v : BScalar) → then_with e leaf_ref ≡ Is v → Makes values head.SRef (e ∷ []) v
ref_leaf values (Is (Ref r)) v h = subst (Makes values head.SRef (Is (Ref r) ∷ [])) (is_inj h) ref
ref_leaf values (Is (Int p)) v h = absurd (cc)
ref_leaf values (Is (Bool r)) v h = absurd (cc)
ref_leaf values (Is (Real q)) v h = absurd (cc)
ref_leaf values (Is (Snap c)) v h = absurd (cc)
ref_leaf values Over v h = absurd (cc)
ref_leaf values Wrong v h = absurd (cc)

perm_leaf : (values : List BValue) (e : End BScalar) (v : BScalar) → then_with e leaf_perm ≡ Is v → Makes values head.SPerm (e ∷ []) v
perm_leaf values (Is (Real q)) v h = subst (Makes values head.SPerm (Is (Real q) ∷ [])) (is_inj h) perm
perm_leaf values (Is (Int p)) v h = absurd (cc)
perm_leaf values (Is (Bool r)) v h = absurd (cc)
perm_leaf values (Is (Ref q)) v h = absurd (cc)
perm_leaf values (Is (Snap c)) v h = absurd (cc)
perm_leaf values Over v h = absurd (cc)
perm_leaf values Wrong v h = absurd (cc)

both_snaps : (values : List BValue) (e f : End BScalar) (v : BScalar) → applied values head.Pair (e ∷ f ∷ []) ≡ Is v → Makes values head.Pair (e ∷ f ∷ []) v
both_snaps values (Is (Snap c)) (Is (Snap d)) v h = subst (Makes values head.Pair (Is (Snap c) ∷ Is (Snap d) ∷ [])) (is_inj h) pair
both_snaps values (Is (Snap c)) (Is (Int d)) v h = absurd (cc)
both_snaps values (Is (Snap c)) (Is (Bool d)) v h = absurd (cc)
both_snaps values (Is (Snap c)) (Is (Ref d)) v h = absurd (cc)
both_snaps values (Is (Snap c)) (Is (Real d)) v h = absurd (cc)
both_snaps values (Is (Snap c)) Over v h = absurd (cc)
both_snaps values (Is (Snap c)) Wrong v h = absurd (cc)
both_snaps values (Is (Int n)) (Is x) v h = absurd (cc)
both_snaps values (Is (Int n)) Over v h = absurd (cc)
both_snaps values (Is (Int n)) Wrong v h = absurd (cc)
both_snaps values (Is (Bool n)) (Is x) v h = absurd (cc)
both_snaps values (Is (Bool n)) Over v h = absurd (cc)
both_snaps values (Is (Bool n)) Wrong v h = absurd (cc)
both_snaps values (Is (Ref n)) (Is x) v h = absurd (cc)
both_snaps values (Is (Ref n)) Over v h = absurd (cc)
both_snaps values (Is (Ref n)) Wrong v h = absurd (cc)
both_snaps values (Is (Real n)) (Is x) v h = absurd (cc)
both_snaps values (Is (Real n)) Over v h = absurd (cc)
both_snaps values (Is (Real n)) Wrong v h = absurd (cc)
both_snaps values Over f v h = absurd (cc)
both_snaps values Wrong f v h = absurd (cc)

makes : (values : List BValue) (h : TermHead) (es : List (End BScalar)) (v : BScalar) → is_constructor h ≡ true → applied values h es ≡ Is v → Makes values h es v
makes values head.Unit [] v c e = subst (Makes values head.Unit []) (is_inj e) unit
makes values head.Unit (x ∷ es) v c e = absurd (cc)
makes values head.SInt [] v c e = absurd (cc)
makes values head.SInt (x ∷ []) v c e = int_leaf values x v e
makes values head.SInt (x ∷ y ∷ es) v c e = absurd (cc)
makes values head.SBool [] v c e = absurd (cc)
makes values head.SBool (x ∷ []) v c e = truth_leaf values x v e
makes values head.SBool (x ∷ y ∷ es) v c e = absurd (cc)
makes values head.SRef [] v c e = absurd (cc)
makes values head.SRef (x ∷ []) v c e = ref_leaf values x v e
makes values head.SRef (x ∷ y ∷ es) v c e = absurd (cc)
makes values head.SPerm [] v c e = absurd (cc)
makes values head.SPerm (x ∷ []) v c e = perm_leaf values x v e
makes values head.SPerm (x ∷ y ∷ es) v c e = absurd (cc)
makes values head.Pair [] v c e = absurd (cc)
makes values head.Pair (x ∷ []) v c e = absurd (cc)
makes values head.Pair (x ∷ y ∷ []) v c e = both_snaps values x y v e
makes values head.Pair (x ∷ y ∷ z ∷ es) v c e = absurd (cc)
makes values head.Neg es v c e = absurd (cc)
makes values head.ToReal es v c e = absurd (cc)
makes values (head.Bin o) es v c e = absurd (cc)
makes values (head.At m) es v c e = absurd (cc)

-- ---- what a content tells of its parts

abbrev part_in : BScalar → ℕ → BScalar
part_in (Snap (content.Leaf (leaf.Int n))) i = Int n
part_in (Snap (content.Leaf (leaf.Bool p))) i = Bool p
part_in (Snap (content.Leaf (leaf.Ref r))) i = Ref r
part_in (Snap (content.Leaf (leaf.Perm q))) i = Real q
part_in (Snap (content.Pair c d)) zero = Snap c
part_in (Snap (content.Pair c d)) (suc i) = Snap d
part_in v i = v

abbrev head_in : BScalar → TermHead
head_in (Snap content.Unit) = head.Unit
head_in (Snap (content.Leaf (leaf.Int n))) = head.SInt
head_in (Snap (content.Leaf (leaf.Bool p))) = head.SBool
head_in (Snap (content.Leaf (leaf.Ref r))) = head.SRef
head_in (Snap (content.Leaf (leaf.Perm q))) = head.SPerm
head_in (Snap (content.Pair c d)) = head.Pair
head_in v = head.Unit

abbrev size : BScalar → ℕ
size (Snap c) = nodes c
size v = 0

makes_head : {values : List BValue} {h : TermHead} {es : List (End BScalar)} {v : BScalar} → Makes values h es v → h ≡ head_in v
makes_head unit = refl
makes_head int = refl
makes_head truth = refl
makes_head ref = refl
makes_head perm = refl
makes_head pair = refl

makes_part : {values : List BValue} {h : TermHead} {es : List (End BScalar)} {v : BScalar} → Makes values h es v → (i : ℕ) (e : End BScalar) → slice_get es i ≡ Some e → e ≡ Is (part_in v i)
makes_part unit i e h = absurd (none_some h)
makes_part int zero e h = some_turned h
makes_part int (suc i) e h = absurd (none_some h)
makes_part truth zero e h = some_turned h
makes_part truth (suc i) e h = absurd (none_some h)
makes_part ref zero e h = some_turned h
makes_part ref (suc i) e h = absurd (none_some h)
makes_part perm zero e h = some_turned h
makes_part perm (suc i) e h = absurd (none_some h)
makes_part pair zero e h = some_turned h
makes_part pair (suc zero) e h = some_turned h
makes_part pair (suc (suc i)) e h = absurd (none_some h)

positive : (c : Content) → 0 < nodes c
positive content.Unit = omega arith
positive (content.Leaf v) = omega arith
positive (content.Pair c d) = omega arith

makes_less : {values : List BValue} {h : TermHead} {es : List (End BScalar)} {v : BScalar} → Makes values h es v → (i : ℕ) (e : End BScalar) → slice_get es i ≡ Some e → size (part_in v i) < size v
makes_less unit i e h = absurd (none_some h)
makes_less int i e h = omega arith
makes_less truth i e h = omega arith
makes_less ref i e h = omega arith
makes_less perm i e h = omega arith
makes_less (pair {c = c} {d = d}) zero e h = let a = positive d in omega arith
makes_less (pair {c = c} {d = d}) (suc i) e h = let a = positive c in omega arith

-- ---- reasons

module _ (terms : List CertificateTerm) (types : List BType) (values : List BValue) (typed : IsEnvironment types values) (model : IsModel terms values) where
  made_by : (l : ClauseLiteral) (h : TermHead) (ps : List ClauseLiteral) (v : BScalar) → IsConstructed terms l h ps → value_of values l ≡ Is v → Makes values h (values_of values ps) v
  made_by l h ps v c e = makes values h (values_of values ps) v c.constructor (sym (made_value terms values model l h ps c.made) ∙ e)

  part_value : (l : ClauseLiteral) (h : TermHead) (ps : List ClauseLiteral) (v : BScalar) → IsConstructed terms l h ps → value_of values l ≡ Is v → (i : ℕ) (a : ClauseLiteral) (x : BScalar) → slice_get ps i ≡ Some a →
      value_of values a ≡ Is x → x ≡ part_in v i
  part_value l h ps v c e i a x there g = is_inj (makes_part (made_by l h ps v c e) i (Is x) (value_there terms types values ps i a x there g))

  pub part_law : (e q : ℕ) (l r a b : ClauseLiteral) (h g : TermHead) (ps qs : List ClauseLiteral) → IsEquation terms types e l r → IsConstructed terms l h ps → IsConstructed terms r g qs →
      IsEquation terms types q a b → IsAmong ps qs a b → HoldsIn values (no e ∷ yes q ∷ [])
  part_law e q l r a b h g ps qs o c d u s = by (compared terms types values typed model e l r o) (compared terms types values typed model q a b u) s
    where
      by : Compared values e l r → Compared values q a b → IsAmong ps qs a b → HoldsIn values (no e ∷ yes q ∷ [])
      by (other y z n m t) k j = holds_first values (no e) _ t
      by (same y z t) (same x w k) j = holds_second k
      by (same {v = v} y z t) (other {v = x} {w = w} p f n m k) (along i there here) =
          absurd (n (part_value l h ps v c y i a x there p ∙ sym (part_value r g qs v d z i b w here f)))
      by (same {v = v} y z t) (other {v = x} {w = w} p f n m k) (turned i there here) =
          absurd (n (part_value r g qs v d z i a x here p ∙ sym (part_value l h ps v c y i b w there f)))

  pub apart_law : (e : ℕ) (l r : ClauseLiteral) (h g : TermHead) (ps qs : List ClauseLiteral) → IsEquation terms types e l r → IsConstructed terms l h ps → IsConstructed terms r g qs → (h ≡ g → ⊥) → HoldsIn values (no e ∷ [])
  apart_law e l r h g ps qs o c d n = by (compared terms types values typed model e l r o)
    where
      by : Compared values e l r → HoldsIn values (no e ∷ [])
      by (other y z m k t) = holds_first values (no e) _ t
      by (same {v = v} y z t) = absurd (n (makes_head (made_by l h ps v c y) ∙ sym (makes_head (made_by r g qs v d z))))

-- the value of a part of a part, so many steps below a value
pub record IsBelow (values : List BValue) (start at : ClauseLiteral) (i : ℕ) (v : BScalar) : Type 0 where
  pub value : BScalar
  pub value_is : value_of values at ≡ Is value
  pub less : size value + i ≤ size v

-- in every model it is
abbrev pub AreBelow : List CertificateTerm → List BType → ClauseLiteral → ClauseLiteral → ℕ → Type 0
AreBelow terms types start at i =
    (values : List BValue) → IsEnvironment types values → IsModel terms values → (v : BScalar) → value_of values start ≡ Is v → IsBelow values start at i v

module _ (terms : List CertificateTerm) (types : List BType) where
  pub below_none : (start : ClauseLiteral) → AreBelow terms types start start 0
  below_none start values typed model v h = record { value = v; value_is = h; less = omega arith }

  pub below_more : (start at next : ClauseLiteral) (i place : ℕ) → AreBelow terms types start at i → IsPart terms at place next → AreBelow terms types start next (i + 1)
  below_more start at next i place b p values typed model v h =
      let a = b values typed model v h in
      let m = made_by terms types values typed model at p.head p.parts a.value p.constructed a.value_is in
      let there : slice_get (values_of values p.parts) place ≡ Some (value_of values next) = slice_get-map (value_of values) p.parts place ∙ ap (option_map (value_of values)) p.is_there in
      let is = makes_part m place (value_of values next) there in
      let less = makes_less m place (value_of values next) there in
      record { value = part_in a.value place; value_is = is; less = sum_less (size (part_in a.value place)) (size a.value) i (size v) less a.less }
    where
      sum_less : (x y i z : ℕ) → x < y → y + i ≤ z → x + (i + 1) ≤ z
      sum_less x y i z h g = omega arith

  pub inside_law : (e : ℕ) (l r at : ClauseLiteral) (i : ℕ) → IsEquation terms types e l r → AreBelow terms types r at i → 0 < i → at ≡ l → IsLaw terms types (no e ∷ [])
  inside_law e l r at i o b lt s values typed model = by (compared terms types values typed model e l r o)
    where
      too_small : (x y : ℕ) → x ≡ y → x + i ≤ y → ⊥
      too_small x y h g = omega arith

      by : Compared values e l r → HoldsIn values (no e ∷ [])
      by (other y z m k t) = holds_first values (no e) _ t
      by (same {v = v} y z t) =
          let a = b values typed model v z in
          let one : a.value ≡ v = is_inj (sym a.value_is ∙ ap (value_of values) s ∙ y) in
          absurd (too_small (size a.value) (size v) (ap size one) a.less)
