-- Where what says that each assertion fails is true at no values that are read off the variables', no assertion can fail.
use Rattle.std.proofs.Common.{◌≡◌, ◌∙◌, ℕ, zero, suc, Bool as Truth, true, false, not, All, List, [], ◌∷◌, ◌++◌, get_or, Option, Some, None, Result, Ok, Err, IfOk, slice_get, if◌then◌else◌, refl, sym, ap, subst}
use Rattle.std.specs.declared.alloc.Global.{Global}
use Rattle.std.specs.declared.vec.Vec.{Vec}
use Rattle.lemmas.proofs.Lists.{there_left, all_at}
use Rattle.boogie_tree.specs.Program.{BType}
use Rattle.boogie_tree.specs.Value.{BScalar, BValue, One, Int, Bool, Ref, Real, Snap}
use Rattle.boogie_tree.specs.Values.{IsEnvironment}
use Rattle.boogie_meaning.specs.Ends.{End, Is, Over, Wrong, then_with, found}
use Rattle.boogie_meaning.specs.Operators.{as_truth, negation}
use Rattle.boogie_meaning.proofs.EnvironmentLaws.{length_env}
use Rattle.boogie_formula.specs.Formula as f
use Rattle.boogie_formula.specs.Formula.{FExpr, Conditions}
use Rattle.boogie_formula.specs.Value.{fvalue, whole, defined}
use Rattle.boogie_formula.specs.Types.{defined_types, IsTypedConditions}
use Rattle.boogie_formula.specs.declared.formulas.Fail.{Fail}
use Rattle.cert_terms.specs.Literals.{turned}
use Rattle.cert_terms.specs.Tables.{IsTable}
use Rattle.cert_terms.specs.Terms.{operand, IsTrueIn, HoldsIn, IsLaw}
use Rattle.cert_terms.specs.declared.faults.LineFault.{LineFault}
use Rattle.cert_terms.specs.declared.terms.ClauseLiteral.{ClauseLiteral}
use Rattle.cert_terms.specs.declared.terms.CertificateTerm.{CertificateTerm}
use Rattle.cert_terms.proofs.GrowthLaws.{completes_grown}
use Rattle.cert_terms.proofs.LiteralLaws.{name_value, value_name}
use Rattle.cert_terms.proofs.TableLaws.{env_more}
use Rattle.cert_terms.proofs.ValueLaws.{whole_there}
use Rattle.cert_rules.specs.Refutes.{FollowsFrom}
use Rattle.cert_definitions.specs.Told.{AreTold}
use Rattle.cert_definitions.proofs.GivenLaws.{defined_holds}
use Rattle.cert_check.specs.Ends.{IsAlone, IsDenied}
use Rattle.cert_check.specs.Shown.{IsShown, AreShown, IsTableOf, IsRefuted, IsRight, NoneCanFail}
use Rattle.cert_check.specs.declared.progress.Progress.{Progress}
use Rattle.cert_check.proofs.KindLaws.{first_type}

-- ---- clauses

pub law_shown : (x : Conditions) (terms : List CertificateTerm) (types : List BType) (c : List ClauseLiteral) → IsLaw terms types c → IsShown x terms types c
law_shown x terms types c h = λ values typed model defined. h values typed model

pub follows_shown : (x : Conditions) (terms : List CertificateTerm) (types : List BType) (cs : List (Vec ClauseLiteral Global)) (c : List ClauseLiteral) → AreShown x terms types cs → FollowsFrom types cs c → IsShown x terms types c
follows_shown x terms types cs c h follows = λ values typed model defined. follows values typed (λ k d lt. h k d lt values typed model defined)

pub rup_shown : (x : Conditions) (terms : List CertificateTerm) (types : List BType) (cs : List (Vec ClauseLiteral Global)) (r : Result (Vec ClauseLiteral Global) LineFault) → AreShown x terms types cs →
    IfOk r (λ c. FollowsFrom types cs c.items) → IfOk r (λ c. IsShown x terms types c.items)
rup_shown x terms types cs (Ok c) h follows = follows_shown x terms types cs c.items h follows
rup_shown x terms types cs (Err e) h follows = follows

-- ---- literals

module _ (values : List BValue) where
  one_sign : (l : ClauseLiteral) → IsTrueIn values l → IsTrueIn values (turned l) → ⊥
  one_sign l a b = at l.negated a b
    where
      at : (p : Truth) → fvalue (if p then f.Not (f.Var l.name) else f.Var l.name) values ≡ Is (Bool true) →
          fvalue (if not p then f.Not (f.Var l.name) else f.Var l.name) values ≡ Is (Bool true) → ⊥
      at false y z = let e : Is (Bool true) ≡ Is (Bool false) = sym z ∙ ap (λ o. then_with o negation) y in absurd (cc)
      at true y z = let e : Is (Bool true) ≡ Is (Bool false) = sym y ∙ ap (λ o. then_with o negation) z in absurd (cc)

  of_one : (e : End BScalar) (v : BScalar) → then_with e (λ w. Is (One w)) ≡ Is (One v) → e ≡ Is v
  of_one (Is w) v h = cc
  of_one Over v h = absurd (cc)
  of_one Wrong v h = absurd (cc)

  from_found : (o : Option BValue) (v : BValue) → found o ≡ Is v → o ≡ Some v
  from_found (Some w) v h = cc
  from_found None v h = absurd (cc)

  told_true : (l : ClauseLiteral) → whole (operand l) values ≡ Is (One (Bool true)) → IsTrueIn values l
  told_true l h = at l.negated h
    where
      at : (p : Truth) → whole (if p then f.Not (f.Var l.name) else f.Var l.name) values ≡ Is (One (Bool true)) →
          fvalue (if p then f.Not (f.Var l.name) else f.Var l.name) values ≡ Is (Bool true)
      at false y = name_value values l.name (Bool true) (from_found (slice_get values l.name) (One (Bool true)) y)
      at true y = of_one (fvalue (f.Not (f.Var l.name)) values) (Bool true) y

  holds_one : (l : ClauseLiteral) → HoldsIn values (l ∷ []) → IsTrueIn values l
  holds_one l h = at h.place h.is_there
    where
      at : (n : ℕ) → slice_get (l ∷ []) n ≡ Some h.literal → IsTrueIn values l
      at zero e = let same : h.literal ≡ l = cc in subst (IsTrueIn values) same h.is_true
      at (suc n) e = absurd (cc)

-- what is told to be a literal whose negation is shown is not true
refuted_by : (x : Conditions) (terms : List CertificateTerm) (types : List BType) (aliases : List (Option ClauseLiteral)) (a : Fail) (l : ClauseLiteral) → AreTold x terms types aliases →
    slice_get aliases a.name ≡ Some (Some l) → IsShown x terms types (turned l ∷ []) → IsRefuted x terms types a
refuted_by x terms types aliases a l told is shown = λ values typed model defined true_there.
    one_sign values l (told_true values l (told values typed model defined a.name l is ∙ ap found true_there)) (holds_one values (turned l) (shown values typed model defined))

alone_shown : (x : Conditions) (terms : List CertificateTerm) (types : List BType) (clauses : List (Vec ClauseLiteral Global)) (l : ClauseLiteral) → AreShown x terms types clauses → IsAlone clauses l →
    IsShown x terms types (l ∷ [])
alone_shown x terms types clauses l h a =
    subst (IsShown x terms types) a.items_are (all_at (λ (c : Vec ClauseLiteral Global). IsShown x terms types c.items) clauses a.number a.clause h a.is_there)

pub denied_refuted : (x : Conditions) (terms : List CertificateTerm) (types : List BType) (shown : Progress) → IsRight x terms types shown →
    All (IsDenied shown.clauses.items shown.aliases.items) x.fails → All (IsRefuted x terms types) x.fails
denied_refuted x terms types shown right h = λ k a lt.
    let d = h k a lt in
    let there : Fail = get_or x.fails k a in
    refuted_by x terms types shown.aliases.items there d.literal right.aliases d.is_told (alone_shown x terms types shown.clauses.items (turned d.literal) right.clauses d.is_alone)

-- ---- values of all names

defined_typed : (lets : List FExpr) (ls all : List BType) (env known : List BValue) → IsEnvironment ls env → defined_types lets ls ≡ Some all → defined lets env ≡ Is known →
    IsEnvironment all known
defined_typed [] ls all env known h t d =
    let one : ls ≡ all = cc in
    let two : env ≡ known = cc in
    subst (λ u. IsEnvironment u known) one (subst (IsEnvironment ls) two h)
defined_typed (e ∷ es) ls all env known h t d =
    let u = first_type ls e es all t in
    let v = whole_there ls env h e u.0 u.1 in
    let rest = sym (ap (λ o. then_with o (λ w. defined es (env ++ w ∷ []))) v.1) ∙ d in
    defined_typed es (ls ++ u.0 ∷ []) all (env ++ v.0 ∷ []) known (env_more ls (u.0 ∷ []) env (v.0 ∷ []) h (v.2, tt)) u.2 rest

truth_is : (e : End BScalar) → as_truth e ≡ Is true → e ≡ Is (Bool true)
truth_is (Is (Bool p)) h = cc
truth_is (Is (Int n)) h = absurd (cc)
truth_is (Is (Ref n)) h = absurd (cc)
truth_is (Is (Real n)) h = absurd (cc)
truth_is (Is (Snap n)) h = absurd (cc)
truth_is Over h = absurd (cc)
truth_is Wrong h = absurd (cc)

from_defined : (o : End (List BValue)) (n : ℕ) → then_with o (λ all. as_truth (fvalue (f.Var n) all)) ≡ Is true →
    (known : List BValue) × (o ≡ Is known) × (slice_get known n ≡ Some (One (Bool true)))
from_defined (Is known) n h = (known, refl, value_name known n (Bool true) (truth_is (fvalue (f.Var n) known) h))
from_defined Over n h = absurd (cc)
from_defined Wrong n h = absurd (cc)

pub never_fails : (x : Conditions) (terms : List CertificateTerm) (types : List BType) → IsTypedConditions x → IsTableOf x terms types → IsTable terms types → All (IsRefuted x terms types) x.fails → NoneCanFail x
never_fails x terms types typed table is refuted label can =
    let a = can.fails.assertion in
    let known = from_defined (defined x.lets can.values) a.name can.fails.fails in
    let env = defined_typed x.lets x.vars typed.all can.values known.0 can.are_typed typed.lets known.1 in
    let c = completes_grown typed.all terms types (table typed.all typed.lets) is known.0 env in
    let holds = defined_holds x can.values known.0 c.added (length_env x.vars can.values can.are_typed) known.1 in
    all_at (IsRefuted x terms types) x.fails can.fails.number a refuted can.fails.is_there (known.0 ++ c.added) c.typed c.model holds
    (there_left known.0 c.added a.name (One (Bool true)) known.2)
