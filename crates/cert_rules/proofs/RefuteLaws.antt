-- What follows where the literals of a clause are false.
use Rattle.std.proofs.Common.{◌≡◌, ◌⊎◌, inl, inr, ℕ, ◌+◌, ◌<◌, Bool as Truth, true, false, not, All, Option, Some, None, List, [], ◌∷◌, ◌++◌, Vec, get_or, take, length, nat_eq, ◌&&◌, add-one, refl, sym, subst, ◌∙◌}
use Rattle.std.proofs.lemmas.List.Elements.{All-nil, All-cons, All-append}
use Rattle.std.proofs.lemmas.Bool.Decides.{Decides-eqb}
use Rattle.std.proofs.Math.Seq.{take-suc}
use Rattle.std.specs.Bool.{beq}
use Rattle.std.specs.BTreeMap.{BTreeMap}
use Rattle.std.specs.declared.alloc.Global.{Global}
use Rattle.lemmas.proofs.Tests.{and_parts}
use Rattle.lemmas.proofs.Lists.{all_at}
use Rattle.boogie_tree.specs.Program.{BType}
use Rattle.boogie_tree.specs.Value.{BValue, BScalar, Bool}
use Rattle.boogie_meaning.specs.Ends.{End, Is, then_with}
use Rattle.boogie_meaning.specs.Operators.{negation}
use Rattle.boogie_formula.specs.Formula as f
use Rattle.boogie_formula.specs.Value.{fvalue}
use Rattle.cert_terms.specs.Literals.{turned}
use Rattle.cert_terms.specs.Terms.{IsTruth, IsTrueIn, HoldsIn}
use Rattle.cert_terms.specs.declared.terms.ClauseLiteral.{ClauseLiteral}
use Rattle.cert_terms.proofs.LiteralLaws.{true_or_turned, turned_twice}
use Rattle.cert_rules.specs.Reasons.{yes, IsStep}
use Rattle.cert_rules.specs.Refutes.{IsNoted, AreFalse, HoldsUnless, FollowsUnless, FollowsFrom}
use Rattle.cert_rules.proofs.ClauseLaws.{holds_longer, holds_last}

module _ (values : List BValue) (known new : BTreeMap ℕ Truth) (l : ClauseLiteral) (noted : (m : ClauseLiteral) → IsNoted new m → IsNoted known m ⊎ (m ≡ l)) where
  -- one more literal is false
  pub false_more : AreFalse known values → IsTrueIn values (turned l) → AreFalse new values
  false_more a h m n = by (noted m n)
    where
      by : IsNoted known m ⊎ (m ≡ l) → IsTrueIn values (turned m)
      by (inl k) = a m k
      by (inr e) = subst (λ x. IsTrueIn values (turned x)) (sym e) h

signed : (e : End BScalar) → e ≡ Is (Bool true) → then_with e negation ≡ Is (Bool true) → ⊥
signed e h g = let a : then_with e negation ≡ Is (Bool false) = rw h refl in let b = sym a ∙ g in absurd (cc)

-- a literal and its negation are not both true
both_signs : (values : List BValue) (n : ℕ) (s : Truth) → IsTrueIn values (record { name = n; negated = s }) → IsTrueIn values (record { name = n; negated = not s }) → ⊥
both_signs values n true h g = signed (fvalue (f.Var n) values) g h
both_signs values n false h g = signed (fvalue (f.Var n) values) h g

pub not_both : (values : List BValue) (l : ClauseLiteral) → IsTrueIn values l → IsTrueIn values (turned l) → ⊥
not_both values l h g = both_signs values l.name l.negated h g

-- the one literal of a step that is left is true
pub left_true : (known : BTreeMap ℕ Truth) (step : List ClauseLiteral) (left : Option ClauseLiteral) (values : List BValue) → All (λ l. IsNoted known l ⊎ (left ≡ Some l)) step → AreFalse known values →
    HoldsIn values step → (l : ClauseLiteral) × (left ≡ Some l) × IsTrueIn values l
left_true known step left values h a s = by (all_at (λ l. IsNoted known l ⊎ (left ≡ Some l)) step s.place s.literal h s.is_there)
  where
    by : IsNoted known s.literal ⊎ (left ≡ Some s.literal) → (l : ClauseLiteral) × (left ≡ Some l) × IsTrueIn values l
    by (inl n) = absurd (not_both values s.literal s.is_true (a s.literal n))
    by (inr e) = (s.literal, e, s.is_true)

-- a step of these clauses holds where they do
step_holds : (values : List BValue) (clauses : List (Vec ClauseLiteral Global)) (n : ℕ) (step : List ClauseLiteral) → IsStep clauses n step → All (λ (c : Vec ClauseLiteral Global). HoldsIn values c.items) clauses → HoldsIn values step
step_holds values clauses n step s h = subst (HoldsIn values) s.items_are (all_at (λ (c : Vec ClauseLiteral Global). HoldsIn values c.items) clauses n s.step h s.is_there)

module _ (types : List BType) where
  module _ (clauses : List (Vec ClauseLiteral Global)) where
    pub shown : (ls : List ClauseLiteral) (known : BTreeMap ℕ Truth) (n : ℕ) (step : List ClauseLiteral) → FollowsUnless types clauses ls (AreFalse known) → IsStep clauses n step →
        All (λ l. IsNoted known l ⊎ (None ≡ Some l)) step → FollowsFrom types clauses ls
    shown ls known n step h s a values typed holds = by (h values typed holds)
      where
        none : {l : ClauseLiteral} → None ≡ Some l → HoldsIn values ls
        none e = absurd (cc)

        by : HoldsIn values ls ⊎ AreFalse known values → HoldsIn values ls
        by (inl x) = x
        by (inr x) = let t = left_true known step None values a x (step_holds values clauses n step s holds) in none t.1

    pub narrowed : (ls : List ClauseLiteral) (known new : BTreeMap ℕ Truth) (n : ℕ) (step : List ClauseLiteral) (l : ClauseLiteral) → FollowsUnless types clauses ls (AreFalse known) → IsStep clauses n step →
        All (λ m. IsNoted known m ⊎ (Some l ≡ Some m)) step → ((m : ClauseLiteral) → IsNoted new m → IsNoted known m ⊎ (m ≡ turned l)) → FollowsUnless types clauses ls (AreFalse new)
    narrowed ls known new n step l h s a more values typed holds = by (h values typed holds)
      where
        same : {m : ClauseLiteral} → Some l ≡ Some m → m ≡ l
        same e = cc

        by : HoldsIn values ls ⊎ AreFalse known values → HoldsIn values ls ⊎ AreFalse new values
        by (inl x) = inl x
        by (inr x) =
            let t = left_true known step (Some l) values a x (step_holds values clauses n step s holds) in
            inr (false_more values known new (turned l) more x (subst (IsTrueIn values) (same t.1 ∙ sym (turned_twice l)) t.2))

  -- a literal of the clause is taken to be false
  pub begun : (ls : List ClauseLiteral) (known new : BTreeMap ℕ Truth) (l : ClauseLiteral) → HoldsUnless types ls (AreFalse known) → IsTruth types l →
      ((m : ClauseLiteral) → IsNoted new m → IsNoted known m ⊎ (m ≡ l)) → HoldsUnless types (ls ++ l ∷ []) (AreFalse new)
  begun ls known new l h t n values typed = by (h values typed) (true_or_turned values types typed l t)
    where
      by : HoldsIn values ls ⊎ AreFalse known values → IsTrueIn values l ⊎ IsTrueIn values (turned l) → HoldsIn values (ls ++ l ∷ []) ⊎ AreFalse new values
      by (inl a) b = inl (holds_longer ls (l ∷ []) a)
      by (inr a) (inl b) = inl (holds_last ls l b)
      by (inr a) (inr b) = inr (false_more values known new l n a b)

  pub begun_at : (clause : List ClauseLiteral) (i : ℕ) (known new : BTreeMap ℕ Truth) → i < length clause → HoldsUnless types (take i clause) (AreFalse known) →
      IsTruth types (get_or clause i (yes 0)) → ((m : ClauseLiteral) → IsNoted new m → IsNoted known m ⊎ (m ≡ get_or clause i (yes 0))) → HoldsUnless types (take (i + 1) clause) (AreFalse new)
  begun_at clause i known new lt h t n =
      let e : take (i + 1) clause ≡ take i clause ++ (get_or clause i (yes 0) ∷ []) = rw (add-one) (take-suc clause i (yes 0) lt) in
      subst (λ ls. HoldsUnless types ls (AreFalse new)) (sym e) (begun (take i clause) known new (get_or clause i (yes 0)) h t n)

-- ---- the literal that is left

pub All-more : {X : Type 0} (P : X → Type 0) (xs : List X) (i : ℕ) (d : X) → i < length xs → All P (take i xs) → P (get_or xs i d) → All P (take (i + 1) xs)
All-more P xs i d lt h p =
    let e : take (i + 1) xs ≡ take i xs ++ (get_or xs i d ∷ []) = rw (add-one) (take-suc xs i d lt) in
    subst (All P) (sym e) (All-append P (take i xs) (get_or xs i d ∷ []) h (All-cons P (get_or xs i d) [] p (All-nil P)))

pub remaining_more : (known : BTreeMap ℕ Truth) (step : List ClauseLiteral) (i : ℕ) (left new : Option ClauseLiteral) → i < length step → All (λ m. IsNoted known m ⊎ (left ≡ Some m)) (take i step) →
    (left ≡ None) ⊎ (new ≡ left) → IsNoted known (get_or step i (yes 0)) ⊎ (new ≡ Some (get_or step i (yes 0))) → All (λ m. IsNoted known m ⊎ (new ≡ Some m)) (take (i + 1) step)
remaining_more known step i left new lt a c h =
    All-more (λ m. IsNoted known m ⊎ (new ≡ Some m)) step i (yes 0) lt (λ k d b. by c (a k d b)) h
  where
    by : {m : ClauseLiteral} → (left ≡ None) ⊎ (new ≡ left) → IsNoted known m ⊎ (left ≡ Some m) → IsNoted known m ⊎ (new ≡ Some m)
    by g (inl n) = inl n
    by (inl n) (inr e) = absurd (none (sym n ∙ e))
      where
        none : {X : Type 0} {x : X} → None ≡ Some x → ⊥
        none e = absurd (cc)
    by (inr n) (inr e) = inr (n ∙ e)

beq_is : (p q : Truth) → beq p q ≡ true → p ≡ q
beq_is true true h = refl
beq_is true false h = absurd (cc)
beq_is false true h = absurd (cc)
beq_is false false h = refl

-- what the test of literals tells
pub literals_same : (l m : ClauseLiteral) → (nat_eq l.name m.name && beq l.negated m.negated) ≡ true → l ≡ m
literals_same l m h =
    let b = and_parts (nat_eq l.name m.name) (beq l.negated m.negated) h in
    let n = (Decides-eqb l.name m.name).0 b.0 in
    let s = beq_is l.negated m.negated b.1 in
    λ i. record { name = n i; negated = s i }

pub not_apart : (p q : Truth) → p ≡ not q → p ≡ false → q ≡ true
not_apart p true h g = refl
not_apart p false h g = absurd (cc)
