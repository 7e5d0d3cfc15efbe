-- Definitions, one after the other: what each names has its value and its type, and keeps them while others are added. So do those
-- that say that an assertion fails.
use Rattle.std.proofs.Common.{◌≡◌, ◌+◌, ℕ, zero, suc, Bool as Truth, true, false, not, ◌&&◌, ◌||◌, Option, Some, None, List, [], ◌∷◌, ◌++◌, slice_get, slice_set, length, length-append, refl, sym, ap, subst, ◌∙◌, arith}
use Rattle.std.specs.Option.{option_map}
use Rattle.lemmas.proofs.Tests.{or_false}
use Rattle.lemmas.proofs.Lists.{there_left, there_right}
use Rattle.vb_base.specs.declared.labels.Label.{Label}
use Rattle.vb_value.specs.Bound.{Unbounded}
use Rattle.boogie_tree.specs.Expr as t
use Rattle.boogie_tree.specs.Program.{BType}
use Rattle.boogie_tree.specs.Value.{BValue, One, Bool}
use Rattle.boogie_tree.specs.Values.{IsEnvironment, IsOfType, plain_type}
use Rattle.boogie_tree.specs.declared.exprs.BBase.{BBase}
use Rattle.boogie_tree.specs.declared.exprs.BBase.TheVariants as base
use Rattle.boogie_tree.specs.declared.exprs.BOp.TheVariants as op
use Rattle.boogie_meaning.specs.Ends.{End, Is, Over, Wrong, then_with, found}
use Rattle.boogie_meaning.specs.Operators.{binary, negation}
use Rattle.boogie_meaning.specs.Quantified.{bvalue}
use Rattle.boogie_meaning.specs.Types.{then_some, base_of, given, answer_of}
use Rattle.boogie_formula.specs.Formula as f
use Rattle.boogie_formula.specs.Formula.{FExpr}
use Rattle.boogie_formula.specs.Value.{plain, two, fvalue, whole, defined}
use Rattle.boogie_formula.specs.Types.{fbase, whole_type, defined_types}
use Rattle.boogie_formula.specs.declared.formulas.Fail.{Fail}
use Rattle.boogie_wp.specs.Build.{number_at}
use Rattle.boogie_wp.specs.Labels.{same_label}
use Rattle.boogie_wp.proofs.LabelLaws.{same_label_is, same_label_itself}

-- ---- names

-- what is there stays there
abbrev pub Kept : {X : Type 0} → List X → List X → Type 0
Kept {X} xs ys = (j : ℕ) (x : X) → slice_get xs j ≡ Some x → slice_get ys j ≡ Some x

pub kept_more : {X : Type 0} (xs ys : List X) → Kept xs (xs ++ ys)
kept_more xs ys = λ j x h. there_left xs ys j x h

-- the name j has a value of this type
pub record At (all : List BValue) (kinds : List BType) (j : ℕ) (v : BValue) (u : BType) : Type 0 where
  pub value : slice_get all j ≡ Some v
  pub kind : slice_get kinds j ≡ Some u
  pub fits : IsOfType v u

pub at_kept : {all new : List BValue} {kinds news : List BType} {j : ℕ} {v : BValue} {u : BType} → Kept all new → Kept kinds news → At all kinds j v u → At new news j v u
at_kept {j = j} {v = v} {u = u} k l a = record { value = k j v a.value; kind = l j u a.kind; fits = a.fits }

-- the names of locals have their values
pub data Holds (all : List BValue) (kinds : List BType) : List ℕ → List BValue → List BType → Type 0 where
  no_names : Holds all kinds [] [] []
  named_so : {j : ℕ} {js : List ℕ} {v : BValue} {vs : List BValue} {u : BType} {us : List BType} → At all kinds j v u → Holds all kinds js vs us → Holds all kinds (j ∷ js) (v ∷ vs) (u ∷ us)

module _ (all : List BValue) (kinds : List BType) where
  pub holds_typed : {js : List ℕ} {env : List BValue} {ls : List BType} → Holds all kinds js env ls → IsEnvironment ls env
  holds_typed no_names = tt
  holds_typed (named_so a h) = (a.fits, holds_typed h)

  pub holds_value : {js : List ℕ} {env : List BValue} {ls : List BType} → Holds all kinds js env ls → (i : ℕ) (u : BType) → slice_get ls i ≡ Some u →
      slice_get all (number_at js i) ≡ slice_get env i
  holds_value no_names i u l = absurd (cc)
  holds_value (named_so a h) zero u l = a.value
  holds_value (named_so a h) (suc i) u l = holds_value h i u l

  pub holds_kind : {js : List ℕ} {env : List BValue} {ls : List BType} → Holds all kinds js env ls → (i : ℕ) (u : BType) → slice_get ls i ≡ Some u →
      slice_get kinds (number_at js i) ≡ Some u
  holds_kind no_names i u l = absurd (cc)
  holds_kind (named_so a h) zero u l = a.kind ∙ l
  holds_kind (named_so a h) (suc i) u l = holds_kind h i u l

  pub holds_set : {js : List ℕ} {env : List BValue} {ls : List BType} → Holds all kinds js env ls → (i : ℕ) (u : BType) → slice_get ls i ≡ Some u → (j : ℕ) (v : BValue) →
      At all kinds j v u → Holds all kinds (slice_set js i j) (slice_set env i v) ls
  holds_set no_names i u l j v a = absurd (cc)
  holds_set (named_so {u = x} b h) zero u l j v a = let e : u ≡ x = cc in named_so (subst (At all kinds j v) e a) h
  holds_set (named_so b h) (suc i) u l j v a = named_so b (holds_set h i u l j v a)

  pub holds_kept : (new : List BValue) (news : List BType) → Kept all new → Kept kinds news → {js : List ℕ} {env : List BValue} {ls : List BType} → Holds all kinds js env ls →
      Holds new news js env ls
  holds_kept new news k l no_names = no_names
  holds_kept new news k l (named_so a h) = named_so (at_kept k l a) (holds_kept new news k l h)

-- ---- definitions

pub record Names (n : ℕ) (vars : List BType) (values : List BValue) (lets : List FExpr) (all : List BValue) (kinds : List BType) : Type 0 where
  pub defines : defined lets values ≡ Is all
  pub typed : defined_types lets vars ≡ Some kinds
  pub long : length all ≡ n + length lets
  pub long_kinds : length kinds ≡ n + length lets

defined_more : (lets : List FExpr) (env all : List BValue) (e : FExpr) (v : BValue) → defined lets env ≡ Is all → whole e all ≡ Is v → defined (lets ++ e ∷ []) env ≡ Is (all ++ v ∷ [])
defined_more [] env all e v d w =
    let same : env ≡ all = cc in
    ap (λ o. then_with o (λ x. Is (env ++ x ∷ []))) (subst (λ x. whole e x ≡ Is v) (sym same) w) ∙ ap (λ x. Is (x ++ v ∷ [])) same
defined_more (a ∷ lets) env all e v d w = step (whole a env) d
    (λ x h. defined_more lets (env ++ x ∷ []) all e v h w)
  where
    step : (o : End BValue) → then_with o (λ x. defined lets (env ++ x ∷ [])) ≡ Is all → ((x : BValue) → defined lets (env ++ x ∷ []) ≡ Is all → defined (lets ++ e ∷ []) (env ++ x ∷ []) ≡ Is (all ++ v ∷ [])) →
        then_with o (λ x. defined (lets ++ e ∷ []) (env ++ x ∷ [])) ≡ Is (all ++ v ∷ [])
    step (Is x) h g = g x h
    step Over h g = absurd (cc)
    step Wrong h g = absurd (cc)

defined_types_more : (lets : List FExpr) (ls kinds : List BType) (e : FExpr) (u : BType) → defined_types lets ls ≡ Some kinds → whole_type kinds e ≡ Some u →
    defined_types (lets ++ e ∷ []) ls ≡ Some (kinds ++ u ∷ [])
defined_types_more [] ls kinds e u d w =
    let same : ls ≡ kinds = cc in
    ap (λ o. then_some o (λ x. Some (ls ++ x ∷ []))) (subst (λ x. whole_type x e ≡ Some u) (sym same) w) ∙ ap (λ x. Some (x ++ u ∷ [])) same
defined_types_more (a ∷ lets) ls kinds e u d w = step (whole_type ls a) d
    (λ x h. defined_types_more lets (ls ++ x ∷ []) kinds e u h w)
  where
    step : (o : Option BType) → then_some o (λ x. defined_types lets (ls ++ x ∷ [])) ≡ Some kinds →
        ((x : BType) → defined_types lets (ls ++ x ∷ []) ≡ Some kinds → defined_types (lets ++ e ∷ []) (ls ++ x ∷ []) ≡ Some (kinds ++ u ∷ [])) →
        then_some o (λ x. defined_types (lets ++ e ∷ []) (ls ++ x ∷ [])) ≡ Some (kinds ++ u ∷ [])
    step (Some x) h g = g x h
    step None h g = absurd (cc)

last_there : {X : Type 0} (xs : List X) (x : X) (m : ℕ) → length xs ≡ m → slice_get (xs ++ x ∷ []) m ≡ Some x
last_there xs x m h =
    let e : m ≡ length xs + 0 = omega (arith, h) in
    ap (slice_get (xs ++ x ∷ [])) e ∙ there_right xs (x ∷ []) 0

one_longer : {X Y : Type 0} (xs : List X) (ys : List Y) (x : X) (y : Y) (n : ℕ) → length xs ≡ n + length ys → length (xs ++ x ∷ []) ≡ n + length (ys ++ y ∷ [])
one_longer xs ys x y n h =
    let a = length-append xs (x ∷ []) in
    let b = length-append ys (y ∷ []) in
    let c : length (x ∷ []) ≡ 1 = refl in
    let d : length (y ∷ []) ≡ 1 = refl in
    omega (arith, h, a, b, c, d)

module _ {n : ℕ} {vars : List BType} {values : List BValue} {lets : List FExpr} {all : List BValue} {kinds : List BType} (names : Names n vars values lets all kinds)
    (e : FExpr) (v : BValue) (u : BType) (is : whole e all ≡ Is v) (typed : whole_type kinds e ≡ Some u) where
  pub names_more : Names n vars values (lets ++ e ∷ []) (all ++ v ∷ []) (kinds ++ u ∷ [])
  names_more = record {
    defines = defined_more lets values all e v names.defines is;
    typed = defined_types_more lets vars kinds e u names.typed typed;
    long = one_longer all lets v e n names.long;
    long_kinds = one_longer kinds lets u e n names.long_kinds;
  }

  pub at_new : IsOfType v u → At (all ++ v ∷ []) (kinds ++ u ∷ []) (n + length lets) v u
  at_new f = record { value = last_there all v (n + length lets) names.long; kind = last_there kinds u (n + length lets) names.long_kinds; fits = f }

-- ---- what an expression of type bool says

pub record Says (all : List BValue) (kinds : List BType) (e : FExpr) (p : Truth) : Type 0 where
  pub tree : t.BExpr
  pub is_plain : plain e ≡ Some tree
  pub value : bvalue Unbounded tree all ≡ Is (Bool p)
  pub typed : base_of kinds None tree ≡ Some base.Bool

abbrev pub Truly : List BValue → List BType → ℕ → Truth → Type 0
Truly all kinds j p = At all kinds j (One (Bool p)) (plain_type base.Bool)

and_value : (p q : Truth) → binary Unbounded op.And (Is (Bool p)) (Is (Bool q)) ≡ Is (Bool (p && q))
and_value true q = refl
and_value false q = refl

or_value : (p q : Truth) → binary Unbounded op.Or (Is (Bool p)) (Is (Bool q)) ≡ Is (Bool (p || q))
or_value true q = refl
or_value false q = refl

abbrev both_bool : Option BBase → Option BBase → Option BBase
both_bool o p = then_some o (λ u. then_some p (λ w. then_some (given u u w) (answer_of op.And)))

module _ {all : List BValue} {kinds : List BType} where
  pub says_var : {j : ℕ} {p : Truth} → Truly all kinds j p → Says all kinds (f.Var j) p
  says_var {j} a = record { tree = t.Var j; is_plain = refl; value = rw (a.value) refl; typed = rw (a.kind) refl }

  pub says_and : {e g : FExpr} {p q : Truth} → Says all kinds e p → Says all kinds g q → Says all kinds (f.Bin op.And e g) (p && q)
  says_and {p = p} {q = q} a b = record {
    tree = t.Bin op.And a.tree b.tree;
    is_plain = (let x = a.is_plain in let y = b.is_plain in λ i. two (t.Bin op.And) (x i) (y i));
    value = (let x = a.value in let y = b.value in λ i. binary Unbounded op.And (x i) (y i)) ∙ and_value p q;
    typed = rw (a.typed, b.typed) refl;
  }

  pub says_or : {e g : FExpr} {p q : Truth} → Says all kinds e p → Says all kinds g q → Says all kinds (f.Bin op.Or e g) (p || q)
  says_or {p = p} {q = q} a b = record {
    tree = t.Bin op.Or a.tree b.tree;
    is_plain = (let x = a.is_plain in let y = b.is_plain in λ i. two (t.Bin op.Or) (x i) (y i));
    value = (let x = a.value in let y = b.value in λ i. binary Unbounded op.Or (x i) (y i)) ∙ or_value p q;
    typed = rw (a.typed, b.typed) refl;
  }

  pub says_not : {e : FExpr} {p : Truth} → Says all kinds e p → Says all kinds (f.Not e) (not p)
  says_not a = record {
    tree = t.Not a.tree;
    is_plain = ap (option_map t.Not) a.is_plain;
    value = ap (λ o. then_with o negation) a.value;
    typed = rw (a.typed) refl;
  }

  pub says_value : {e : FExpr} {p : Truth} → Says all kinds e p → fvalue e all ≡ Is (Bool p)
  says_value a = ap (λ o. then_with (found o) (λ x. bvalue Unbounded x all)) a.is_plain ∙ a.value

  pub says_kind : {e : FExpr} {p : Truth} → Says all kinds e p → fbase kinds e ≡ Some base.Bool
  says_kind a = ap (λ o. then_some o (base_of kinds None)) a.is_plain ∙ a.typed

-- ---- assertions

-- what says that each fails is a truth value
pub data Truths (all : List BValue) (kinds : List BType) : List Fail → List Truth → Type 0 where
  no_truths : Truths all kinds [] []
  truth_so : {a : Fail} {fs : List Fail} {p : Truth} {ps : List Truth} → Truly all kinds a.name p → Truths all kinds fs ps → Truths all kinds (a ∷ fs) (p ∷ ps)

pub truths_kept : {all new : List BValue} {kinds news : List BType} {fs : List Fail} {ps : List Truth} → Kept all new → Kept kinds news → Truths all kinds fs ps → Truths new news fs ps
truths_kept k l no_truths = no_truths
truths_kept k l (truth_so a h) = truth_so (at_kept k l a) (truths_kept k l h)

-- one more assertion
pub truths_more : {all : List BValue} {kinds : List BType} {fs : List Fail} {ps : List Truth} → Truths all kinds fs ps → (a : Fail) (p : Truth) → Truly all kinds a.name p →
    Truths all kinds (fs ++ a ∷ []) (ps ++ p ∷ [])
truths_more no_truths a p g = truth_so g no_truths
truths_more (truth_so b h) a p g = truth_so b (truths_more h a p g)

-- the truth value of the assertion of this number
pub truth_at : {all : List BValue} {kinds : List BType} {fs : List Fail} {ps : List Truth} → Truths all kinds fs ps → (k : ℕ) (a : Fail) → slice_get fs k ≡ Some a →
    (p : Truth) × (slice_get ps k ≡ Some p) × Truly all kinds a.name p
truth_at no_truths k a h = absurd (cc)
truth_at {all} {kinds} (truth_so {a = b} {p = p} g rest) zero a h = let e : b ≡ a = cc in (p, refl, subst (λ (x : Fail). Truly all kinds x.name p) e g)
truth_at (truth_so g rest) (suc k) a h = truth_at rest k a h

module _ (label : Label) where
  -- whether one of those with the label is true
  abbrev pub fails_among : List Fail → List Truth → Truth
  fails_among [] ps = false
  fails_among (a ∷ fs) [] = false
  fails_among (a ∷ fs) (p ∷ ps) = (same_label a.label label && p) || fails_among fs ps

  pub or_assoc : (x y z : Truth) → (x || (y || z)) ≡ ((x || y) || z)
  or_assoc true y z = refl
  or_assoc false y z = refl

  pub fails_more : {all : List BValue} {kinds : List BType} {fs : List Fail} {ps : List Truth} → Truths all kinds fs ps → (a : Fail) (p : Truth) →
      fails_among (fs ++ a ∷ []) (ps ++ p ∷ []) ≡ (fails_among fs ps || (same_label a.label label && p))
  fails_more no_truths a p = or_false (same_label a.label label && p)
  fails_more (truth_so {a = b} {fs = fs} {p = q} {ps = ps} g h) a p =
      ap (λ z. (same_label b.label label && q) || z) (fails_more h a p)
      ∙ or_assoc (same_label b.label label && q) (fails_among fs ps) (same_label a.label label && p)

  or_right : (x y : Truth) → y ≡ true → (x || y) ≡ true
  or_right true y h = refl
  or_right false y h = h

  -- one that fails
  pub among_true : (fs : List Fail) (ps : List Truth) (k : ℕ) (a : Fail) → slice_get fs k ≡ Some a → slice_get ps k ≡ Some true → a.label ≡ label → fails_among fs ps ≡ true
  among_true [] ps k a h g e = absurd (cc)
  among_true (b ∷ fs) [] k a h g e = absurd (cc)
  among_true (b ∷ fs) (p ∷ ps) zero a h g e =
      let same : b ≡ a = cc in
      let is_true : p ≡ true = cc in
      let here : same_label b.label label ≡ true = ap (λ (x : Fail). same_label x.label label) same ∙ ap (λ x. same_label x label) e ∙ same_label_itself label in
      (λ i. (here i && is_true i) || fails_among fs ps)
  among_true (b ∷ fs) (p ∷ ps) (suc k) a h g e = or_right (same_label b.label label && p) (fails_among fs ps) (among_true fs ps k a h g e)

  pub record FailsAmong (all : List BValue) (kinds : List BType) (fs : List Fail) : Type 0 where
    pub number : ℕ
    pub assertion : Fail
    pub is_there : slice_get fs number ≡ Some assertion
    pub is_labelled : assertion.label ≡ label
    pub fails : Truly all kinds assertion.name true

  among_more : {all : List BValue} {kinds : List BType} {a : Fail} {fs : List Fail} → FailsAmong all kinds fs → FailsAmong all kinds (a ∷ fs)
  among_more x = record { number = suc x.number; assertion = x.assertion; is_there = x.is_there; is_labelled = x.is_labelled; fails = x.fails }

  among_first : {all : List BValue} {kinds : List BType} (a : Fail) (fs : List Fail) (rest s q : Truth) → same_label a.label label ≡ s → Truly all kinds a.name q → ((s && q) || rest) ≡ true →
      (rest ≡ true → FailsAmong all kinds fs) → FailsAmong all kinds (a ∷ fs)
  among_first a fs rest true true e g h later = record { number = 0; assertion = a; is_there = refl; is_labelled = same_label_is a.label label e; fails = g }
  among_first a fs rest true false e g h later = among_more (later h)
  among_first a fs rest false q e g h later = among_more (later h)

  pub among_there : {all : List BValue} {kinds : List BType} {fs : List Fail} {ps : List Truth} → Truths all kinds fs ps → fails_among fs ps ≡ true → FailsAmong all kinds fs
  among_there no_truths h = absurd (cc)
  among_there (truth_so {a = a} {fs = fs} {p = p} {ps = ps} g rest) h =
      among_first a fs (fails_among fs ps) (same_label a.label label) p refl g h (λ e. among_there rest e)
