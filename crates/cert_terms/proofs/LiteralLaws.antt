-- Literals that are truth values, and clauses of them.
use Rattle.std.proofs.Common.{◌≡◌, ◌⊎◌, inl, inr, ℕ, suc, Bool as Truth, true, false, not, All, Option, Some, None, List, [], ◌∷◌, slice_get, refl, sym, ap, ◌∙◌}
use Rattle.std.proofs.lemmas.List.Elements.{All-nil, All-cons, All-head, All-tail}
use Rattle.lemmas.proofs.Tests.{not_twice}
use Rattle.boogie_tree.specs.Expr as t
use Rattle.boogie_tree.specs.Program.{BType}
use Rattle.boogie_tree.specs.Value.{BValue, BScalar, One, Many, Bool}
use Rattle.boogie_tree.specs.Values.{IsEnvironment, plain_type}
use Rattle.boogie_tree.specs.declared.exprs.BBase.{BBase}
use Rattle.boogie_tree.specs.declared.exprs.BBase.TheVariants as base
use Rattle.boogie_meaning.specs.Ends.{Is, then_with, found}
use Rattle.boogie_meaning.specs.Value.{scalar_in}
use Rattle.boogie_meaning.specs.Types.{HasType, var, not_}
use Rattle.boogie_meaning.proofs.TypeLaws.{base_of_sound}
use Rattle.boogie_formula.specs.Formula as f
use Rattle.boogie_formula.specs.Value.{fvalue}
use Rattle.boogie_formula.specs.Types.{fbase}
use Rattle.cert_terms.specs.declared.terms.ClauseLiteral.{ClauseLiteral}
use Rattle.cert_terms.specs.Terms.{operand, IsTruth, IsTrueIn, HoldsIn}
use Rattle.cert_terms.specs.Literals.{turned}
use Rattle.cert_terms.proofs.ValueLaws.{truth_there}

-- ---- names of a base type

var_typed : {ls : List BType} {n : ℕ} {u : BBase} → HasType ls None (t.Var n) u → slice_get ls n ≡ Some (plain_type u)
var_typed (var l) = l

-- what has a base type is named so
pub name_typed : (ls : List BType) (n : ℕ) (u : BBase) → fbase ls (f.Var n) ≡ Some u → slice_get ls n ≡ Some (plain_type u)
name_typed ls n u h = var_typed (base_of_sound ls None (t.Var n) u h)

pub typed_name : (ls : List BType) (n : ℕ) (u : BBase) → slice_get ls n ≡ Some (plain_type u) → fbase ls (f.Var n) ≡ Some u
typed_name ls n u h = rw h refl

not_typed : {ls : List BType} {n : ℕ} {u : BBase} → HasType ls None (t.Not (t.Var n)) u → (slice_get ls n ≡ Some (plain_type base.Bool)) × (u ≡ base.Bool)
not_typed (not_ (var l)) = (l, refl)

negated_typed : (ls : List BType) (n : ℕ) (u : BBase) → fbase ls (f.Not (f.Var n)) ≡ Some u → (slice_get ls n ≡ Some (plain_type base.Bool)) × (u ≡ base.Bool)
negated_typed ls n u h = not_typed (base_of_sound ls None (t.Not (t.Var n)) u h)

-- the name of a truth value is that of a bool
truth_name_of : (ls : List BType) (n : ℕ) (s : Truth) → IsTruth ls (record { name = n; negated = s }) → slice_get ls n ≡ Some (plain_type base.Bool)
truth_name_of ls n true h = (negated_typed ls n base.Bool h).0
truth_name_of ls n false h = name_typed ls n base.Bool h

pub truth_name : (ls : List BType) (l : ClauseLiteral) → IsTruth ls l → slice_get ls l.name ≡ Some (plain_type base.Bool)
truth_name ls l h = truth_name_of ls l.name l.negated h

name_truth_of : (ls : List BType) (n : ℕ) (s : Truth) → slice_get ls n ≡ Some (plain_type base.Bool) → IsTruth ls (record { name = n; negated = s })
name_truth_of ls n true h = rw h refl
name_truth_of ls n false h = rw h refl

pub name_truth : (ls : List BType) (l : ClauseLiteral) → slice_get ls l.name ≡ Some (plain_type base.Bool) → IsTruth ls l
name_truth ls l h = name_truth_of ls l.name l.negated h

pub turned_truth : (ls : List BType) (l : ClauseLiteral) → IsTruth ls l → IsTruth ls (turned l)
turned_truth ls l h = name_truth ls (turned l) (truth_name ls l h)

pub turned_twice : (l : ClauseLiteral) → turned (turned l) ≡ l
turned_twice l = let e = not_twice l.negated in λ i. record { name = l.name; negated = e i }

-- ---- the value of a truth

scalar_there : (o : Option BValue) (v : BScalar) → then_with (found o) scalar_in ≡ Is v → o ≡ Some (One v)
scalar_there (Some (One w)) v h = let e : w ≡ v = cc in ap (λ x. Some (One x)) e
scalar_there (Some (Many m)) v h = absurd (cc)
scalar_there None v h = absurd (cc)

-- the truth of a literal by that of its name
abbrev pub signed : Truth → Truth → Truth
signed true p = not p
signed false p = p

module _ (values : List BValue) where
  pub name_value : (n : ℕ) (v : BScalar) → slice_get values n ≡ Some (One v) → fvalue (f.Var n) values ≡ Is v
  name_value n v h = rw h refl

  signed_value : (n : ℕ) (s p : Truth) → slice_get values n ≡ Some (One (Bool p)) → fvalue (operand (record { name = n; negated = s })) values ≡ Is (Bool (signed s p))
  signed_value n true p h = rw h refl
  signed_value n false p h = rw h refl

  -- a literal by the value of its name
  pub literal_value : (l : ClauseLiteral) (p : Truth) → slice_get values l.name ≡ Some (One (Bool p)) → fvalue (operand l) values ≡ Is (Bool (signed l.negated p))
  literal_value l p h = signed_value l.name l.negated p h

  -- a name by its value as an expression
  pub value_name : (n : ℕ) (v : BScalar) → fvalue (f.Var n) values ≡ Is v → slice_get values n ≡ Some (One v)
  value_name n v h = scalar_there (slice_get values n) v h

  pub signed_not : (s p : Truth) → signed (not s) p ≡ not (signed s p)
  signed_not true true = refl
  signed_not true false = refl
  signed_not false p = refl

  -- a literal and its negation have the two truth values
  pub record IsTruthValue (l : ClauseLiteral) (p : Truth) : Type 0 where
    pub value : fvalue (operand l) values ≡ Is (Bool p)
    pub other : fvalue (operand (turned l)) values ≡ Is (Bool (not p))

  pub by_name : (l : ClauseLiteral) (p : Truth) → slice_get values l.name ≡ Some (One (Bool p)) → IsTruthValue l (signed l.negated p)
  by_name l p h = record { value = literal_value l p h; other = literal_value (turned l) p h ∙ ap (λ q. Is (Bool q)) (signed_not l.negated p) }

  -- a literal is not both
  pub not_both : (l : ClauseLiteral) → IsTrueIn values l → fvalue (operand l) values ≡ Is (Bool false) → ⊥
  not_both l h g = apart (sym h ∙ g)
    where
      apart : Is (Bool true) ≡ Is (Bool false) → ⊥
      apart e = absurd (cc)

  pub true_if : (l : ClauseLiteral) (p : Truth) → IsTruthValue l p → p ≡ true → IsTrueIn values l
  true_if l p h e = h.value ∙ ap (λ q. Is (Bool q)) e

  pub turned_if : (l : ClauseLiteral) (p : Truth) → IsTruthValue l p → p ≡ false → IsTrueIn values (turned l)
  turned_if l p h e = h.other ∙ ap (λ q. Is (Bool (not q))) e

  pub false_turned : (l : ClauseLiteral) (p : Truth) → IsTruthValue l p → IsTrueIn values (turned l) → p ≡ false
  false_turned l true h g = absurd (differ (sym h.other ∙ g))
    where
      differ : Is (Bool false) ≡ Is (Bool true) → ⊥
      differ e = absurd (cc)
  false_turned l false h g = refl

  -- ---- clauses

  pub holds_first : (l : ClauseLiteral) (ls : List ClauseLiteral) → IsTrueIn values l → HoldsIn values (l ∷ ls)
  holds_first l ls h = record { place = 0; literal = l; is_there = refl; is_true = h }

  pub holds_more : (l : ClauseLiteral) (ls : List ClauseLiteral) → HoldsIn values ls → HoldsIn values (l ∷ ls)
  holds_more l ls h = record { place = suc h.place; literal = h.literal; is_there = h.is_there; is_true = h.is_true }

  pub holds_none : HoldsIn values [] → ⊥
  holds_none h = none h.literal h.is_there
    where
      none : (l : ClauseLiteral) → None ≡ Some l → ⊥
      none l e = absurd (cc)

  -- all literals of a clause are false
  abbrev pub AllFalse : List ClauseLiteral → Type 0
  AllFalse ls = All (λ l. IsTrueIn values (turned l)) ls

  module _ (types : List BType) (typed : IsEnvironment types values) where
    -- a truth has a truth value
    pub truth_value : (l : ClauseLiteral) → IsTruth types l → (p : Truth) × IsTruthValue l p
    truth_value l h =
        let v = truth_there types values typed (f.Var l.name) (typed_name types l.name base.Bool (truth_name types l h)) in
        (signed l.negated v.0, by_name l v.0 (value_name l.name (Bool v.0) v.1))

    pub true_or_turned : (l : ClauseLiteral) → IsTruth types l → IsTrueIn values l ⊎ IsTrueIn values (turned l)
    true_or_turned l h = let v = truth_value l h in either v.0 v.1
      where
        either : (p : Truth) → IsTruthValue l p → IsTrueIn values l ⊎ IsTrueIn values (turned l)
        either true v = inl v.value
        either false v = inr v.other

    -- a clause holds unless all its literals are false
    pub holds_or_false : (ls : List ClauseLiteral) → All (IsTruth types) ls → HoldsIn values ls ⊎ AllFalse ls
    holds_or_false [] h = inr (All-nil (λ l. IsTrueIn values (turned l)))
    holds_or_false (l ∷ ls) h = first (true_or_turned l (All-head (IsTruth types) l ls h)) (holds_or_false ls (All-tail (IsTruth types) l ls h))
      where
        first : IsTrueIn values l ⊎ IsTrueIn values (turned l) → HoldsIn values ls ⊎ AllFalse ls → HoldsIn values (l ∷ ls) ⊎ AllFalse (l ∷ ls)
        first (inl a) b = inl (holds_first l ls a)
        first (inr a) (inl b) = inl (holds_more l ls b)
        first (inr a) (inr b) = inr (All-cons (λ x. IsTrueIn values (turned x)) l ls a b)

    pub holds_unless_false : (ls : List ClauseLiteral) → All (IsTruth types) ls → (AllFalse ls → ⊥) → HoldsIn values ls
    holds_unless_false ls h n = pick (holds_or_false ls h)
      where
        pick : HoldsIn values ls ⊎ AllFalse ls → HoldsIn values ls
        pick (inl a) = a
        pick (inr a) = absurd (n a)
