-- What the conditions of a procedure, and its formula for a label, say of it.
use Rattle.std.proofs.Common.{◌≡◌, ◌+◌, ℕ, zero, suc, Bool as Truth, true, false, not, ◌&&◌, ◌||◌, All, if◌then◌else◌, Option, Some, None, List, [], ◌∷◌, ◌++◌, map, take, slice_get, length, refl, sym, ap, subst, ◌∙◌, arith, append-nil}
use Rattle.std.proofs.lemmas.List.Elements.{All-append, All-push, All-nil, All-head, All-tail}
use Rattle.lemmas.proofs.Tests.{or_false}
use Rattle.lemmas.proofs.Lists.{take_there, there_right, there_left}
use Rattle.vb_base.specs.declared.labels.Label.{Label}
use Rattle.vb_value.specs.Bound.{Unbounded}
use Rattle.boogie_tree.specs.Stmt as s
use Rattle.boogie_tree.specs.Program.{BType, Proc}
use Rattle.boogie_tree.specs.Value.{BValue, One, Bool, BChoice}
use Rattle.boogie_tree.specs.Values.{AreKeys, is_key, IsEnvironment, plain_type}
use Rattle.boogie_meaning.specs.Ends.{Is, then_with}
use Rattle.boogie_meaning.specs.Operators.{as_truth}
use Rattle.boogie_meaning.specs.Run.{Run, Stop, Stops, Failed}
use Rattle.boogie_meaning.specs.Programs.{types_of, HaveKeys, IsTypedProc, brun_proc, default_value, FailsAt}
use Rattle.boogie_meaning.proofs.EnvironmentLaws.{env_front, length_env}
use Rattle.boogie_meaning.proofs.ValueLaws.{found_typed, default_typed}
use Rattle.boogie_tree.specs.declared.exprs.BOp.TheVariants as op
use Rattle.boogie_meaning.specs.Quantified.{one_of}
use Rattle.boogie_meaning.specs.Types.{then_some}
use Rattle.boogie_formula.specs.Formula as f
use Rattle.boogie_formula.specs.Formula.{FExpr}
use Rattle.boogie_formula.specs.Value.{fvalue, whole, formula_value, truth_named, FailsIn}
use Rattle.boogie_formula.specs.Types.{whole_type, IsBool, IsTypedConditions, IsTypedFormula}
use Rattle.boogie_formula.specs.Choices.{own_types, own_types_stmt, type_there, variables_of, locals_in, choices_in}
use Rattle.boogie_formula.specs.Follows.{ConditionsFollow, Follows}
use Rattle.boogie_formula.specs.declared.formulas.Fail.{Fail}
use Rattle.boogie_wp.specs.Labels.{same_label}
use Rattle.boogie_wp.specs.Worked.{here}
use Rattle.boogie_wp.specs.Build.{ConditionsBuilder, numbers, started, conditions_for, formula_for, built, Chain, one_more, chained, chain_from}
use Rattle.boogie_wp.proofs.Total.{Point, total}
use Rattle.boogie_wp.proofs.TotalLaws.{Owns, from, Ends, Matches, done, failed, other, awake}
use Rattle.boogie_wp.proofs.NameLaws.{Kept, kept_more, Holds, no_names, named_so, Names, names_more, at_new, Truly, Says, Truths, no_truths, truth_so, truths_kept, truth_at, fails_among, or_assoc, among_true, among_there, says_var, says_or, says_not, says_value, says_kind}
use Rattle.boogie_wp.proofs.BuildLaws.{Stands, Step, block_step, bool_type, truly_fits}

-- ---- environments

pub owns_behind : (ls us : List BType) (vs : List BValue) → IsEnvironment (ls ++ us) vs → Owns (ls ++ us) vs (length ls) us
owns_behind ls us vs h = record {
  there = λ j u l.
      let r = there_right ls us j ∙ l in
      let w = found_typed (ls ++ us) vs (length ls + j) u h r in
      (w.0, w.1, w.2, r);
}

pub default_env : (ts : List BType) → IsEnvironment ts (map default_value ts)
default_env [] = tt
default_env (u ∷ ts) = (default_typed u.keys u.base, default_env ts)

numbers_hold : (all : List BValue) (kinds : List BType) (m : ℕ) (ls : List BType) (env : List BValue) → IsEnvironment ls env →
    ((j : ℕ) (v : BValue) → slice_get env j ≡ Some v → slice_get all (m + j) ≡ Some v) → ((j : ℕ) (u : BType) → slice_get ls j ≡ Some u → slice_get kinds (m + j) ≡ Some u) →
    Holds all kinds (numbers m ls) env ls
numbers_hold all kinds m [] [] h f g = no_names
numbers_hold all kinds m [] (v ∷ env) h f g = absurd h
numbers_hold all kinds m (l ∷ ls) [] h f g = absurd h
numbers_hold all kinds m (l ∷ ls) (v ∷ env) h f g =
    let first : m + 0 ≡ m = omega (arith) in
    named_so (record { value = ap (slice_get all) (sym first) ∙ f 0 v refl; kind = ap (slice_get kinds) (sym first) ∙ g 0 l refl; fits = h.0 })
    (numbers_hold all kinds (m + 1) ls env h.1 (λ j w e. ap (slice_get all) (next m j) ∙ f (suc j) w e) (λ j u e. ap (slice_get kinds) (next m j) ∙ g (suc j) u e))
  where
    next : (m j : ℕ) → m + 1 + j ≡ m + suc j
    next m j = omega (arith)

-- ---- the start

module _ (ls us : List BType) (values : List BValue) (label : Label) (h : IsEnvironment (ls ++ us) values) where
  abbrev vars : List BType
  vars = ls ++ us

  pub starts : Stands (length vars) ls vars values label (started vars ls) (from (take (length ls) values)) (values ++ One (Bool true) ∷ []) (vars ++ bool_type ∷ [])
  starts =
      let n = length vars in
      let long = length_env vars values h in
      let none : Names n vars values [] values vars = record { defines = refl; typed = refl; long = long ∙ (omega (arith)); long_kinds = omega (arith) } in
      let t = One (Bool true) in
      let path = at_new none (f.Bool true) t bool_type refl refl (truly_fits true) in
      let k : Kept values (values ++ t ∷ []) = kept_more values (t ∷ []) in
      let l : Kept vars (vars ++ bool_type ∷ []) = kept_more vars (bool_type ∷ []) in
      let zero_more : (m : ℕ) → 0 + m ≡ m = λ m. omega (arith) in
      record {
        names = names_more none (f.Bool true) t bool_type refl refl;
        holds = numbers_hold (values ++ t ∷ []) (vars ++ bool_type ∷ []) 0 ls (take (length ls) values) (env_front ls us values h)
            (λ j v e. k (0 + j) v (ap (slice_get values) (zero_more j) ∙ take_there (length ls) values j v e))
            (λ j x e. l (0 + j) x (ap (slice_get vars) (zero_more j) ∙ there_left ls us j x e));
        path = subst (λ j. Truly (values ++ t ∷ []) (vars ++ bool_type ∷ []) j true) (omega (arith)) path;
        truths = [];
        fails = no_truths;
        bad = refl;
        given = k;
        given_kinds = l;
      }

-- ---- the chain of a label

module _ (n : ℕ) (vars : List BType) (values : List BValue) (label : Label) where
  -- the last definition says this, behind these
  record Links (old : List BValue) (olds : List BType) (c : Chain) (q : Truth) : Type 0 where
    all : List BValue
    kinds : List BType
    kept : Kept old all
    kept_kinds : Kept olds kinds
    names : Names n vars values c.lets all kinds
    last : Truly all kinds c.last q

  links_as : {old : List BValue} {olds : List BType} {c : Chain} {q p : Truth} → q ≡ p → Links old olds c q → Links old olds c p
  links_as {old} {olds} {c} e h = subst (λ x. Links old olds c x) e h

  module _ {c : Chain} {q : Truth} {all : List BValue} {kinds : List BType} (names : Names n vars values c.lets all kinds) (last : Truly all kinds c.last q) where
    more_links : (j : ℕ) (p : Truth) → Truly all kinds j p → Links all kinds (one_more n j c) (q || p)
    more_links j p g =
        let e = f.Bin op.Or (f.Var c.last) (f.Var j) in
        let x : Says all kinds e (q || p) = says_or (says_var last) (says_var g) in
        let v = One (Bool (q || p)) in
        let is : whole e all ≡ Is v = ap one_of (says_value x) in
        let typed : whole_type kinds e ≡ Some bool_type = ap (λ o. then_some o (λ w. Some (plain_type w))) (says_kind x) in
        record {
          all = all ++ v ∷ [];
          kinds = kinds ++ bool_type ∷ [];
          kept = kept_more all (v ∷ []);
          kept_kinds = kept_more kinds (bool_type ∷ []);
          names = names_more names e v bool_type is typed;
          last = at_new names e v bool_type is typed (truly_fits (q || p));
        }

    no_links : Links all kinds c q
    no_links = record { all = all; kinds = kinds; kept = λ j x i. i; kept_kinds = λ j x i. i; names = names; last = last }

    links_if : (b : Truth) (j : ℕ) (p : Truth) → Truly all kinds j p → Links all kinds (if b then one_more n j c else c) (q || (b && p))
    links_if true j p g = more_links j p g
    links_if false j p g = links_as (sym (or_false q)) no_links

  -- all of these assertions
  all_linked : (fs : List Fail) (ps : List Truth) {c : Chain} {q : Truth} {all : List BValue} {kinds : List BType} → Names n vars values c.lets all kinds → Truly all kinds c.last q →
      Truths all kinds fs ps → Links all kinds (chained n label fs c) (q || fails_among label fs ps)
  all_linked [] ps {q = q} names last h = links_as (sym (or_false q)) (no_links names last)
  all_linked (a ∷ fs) _ {q = q} names last (truth_so {p = p} {ps = ps} g rest) =
      let x = links_if names last (same_label a.label label) a.name p g in
      let y = all_linked fs ps x.names x.last (truths_kept x.kept x.kept_kinds rest) in
      links_as (sym (or_assoc label q (same_label a.label label && p) (fails_among label fs ps))) (record {
        all = y.all;
        kinds = y.kinds;
        kept = λ j v i. y.kept j v (x.kept j v i);
        kept_kinds = λ j u i. y.kept_kinds j u (x.kept_kinds j u i);
        names = y.names;
        last = y.last;
      })

  -- the whole chain
  asked_links : {lets : List FExpr} {all : List BValue} {kinds : List BType} → Names n vars values lets all kinds → {fs : List Fail} {ps : List Truth} → Truths all kinds fs ps →
      Links (all ++ One (Bool false) ∷ []) (kinds ++ bool_type ∷ []) (chained n label fs (chain_from n lets)) (fails_among label fs ps)
  asked_links {all = all} {kinds = kinds} names {fs} {ps} truths =
      let v = One (Bool false) in
      all_linked fs ps (names_more names (f.Bool false) v bool_type refl refl) (at_new names (f.Bool false) v bool_type refl refl (truly_fits false))
      (truths_kept (kept_more all (v ∷ [])) (kept_more kinds (bool_type ∷ [])) truths)

-- ---- of a procedure

fails_from : (label : Label) (rest : List BChoice) (r : Run) (env : List BValue) (p q : Truth) → Matches label rest r env p q → q ≡ true → FailsAt label r
fails_from label rest _ _ _ _ done h = absurd (cc)
fails_from label rest _ _ _ _ (failed {cs = cs} e) h = record { left = cs; is = ap (λ l. Stops (Failed l) cs) e }
fails_from label rest _ _ _ _ (other n) h = absurd (cc)

fails_back : (label : Label) (rest : List BChoice) (r : Run) (env : List BValue) (p q : Truth) → Matches label rest r env p q → FailsAt label r → q ≡ true
fails_back label rest _ _ _ _ done h = let e = h.is in absurd (cc)
fails_back label rest _ _ _ _ (failed e) h = refl
fails_back label rest _ _ _ _ (other {why = why} {cs = cs} n) h = absurd (n (same_why why (Failed label) cs h.left h.is))
  where
    same_why : (w v : Stop) (cs ds : List BChoice) → Stops w cs ≡ Stops v ds → w ≡ v
    same_why w v cs ds e = cc

falls_if : (q : Truth) → Is (not q) ≡ Is false → q ≡ true
falls_if true h = refl
falls_if false h = absurd (cc)

own_key : (o : Option BType) → ((u : BType) → o ≡ Some u → AreKeys u.keys) → HaveKeys (type_there o)
own_key (Some u) h = All-push (λ (w : BType). AreKeys w.keys) [] u (All-nil (λ (w : BType). AreKeys w.keys)) (h u refl)
own_key None h = All-nil (λ (w : BType). AreKeys w.keys)

key_there : (ls : List BType) → HaveKeys ls → (i : ℕ) (u : BType) → slice_get ls i ≡ Some u → AreKeys u.keys
key_there [] h i u l = absurd (cc)
key_there (w ∷ ls) h zero u l = let e : w ≡ u = cc in subst (λ x. AreKeys x.keys) e (All-head (λ x. AreKeys x.keys) w ls h)
key_there (w ∷ ls) h (suc i) u l = key_there ls (All-tail (λ x. AreKeys x.keys) w ls h) i u l

module _ (ls : List BType) (h : HaveKeys ls) where
  abbrev Keys : BType → Type 0
  Keys u = AreKeys u.keys

  mutual
    own_keys_stmt : (x : s.BStmt) → HaveKeys (own_types_stmt ls x)
    own_keys_stmt (s.Assign i e) = All-nil Keys
    own_keys_stmt (s.Put i es e) = All-nil Keys
    own_keys_stmt (s.Havoc i) = own_key (slice_get ls i) (λ u l. key_there ls h i u l)
    own_keys_stmt (s.Assume e) = All-nil Keys
    own_keys_stmt (s.Assert l e) = All-nil Keys
    own_keys_stmt (s.If e xs ys) = All-append Keys (own_types ls xs) (own_types ls ys) (own_keys xs) (own_keys ys)
    own_keys_stmt (s.Either xs ys) =
        All-append Keys (bool_type ∷ []) (own_types ls xs ++ own_types ls ys) (All-push Keys [] bool_type (All-nil Keys) (All-nil (λ u. is_key u ≡ true)))
        (All-append Keys (own_types ls xs) (own_types ls ys) (own_keys xs) (own_keys ys))

    own_keys : (xs : s.BStmts) → HaveKeys (own_types ls xs)
    own_keys s.skip = All-nil Keys
    own_keys (s.first x xs) = All-append Keys (own_types_stmt ls x) (own_types ls xs) (own_keys_stmt x) (own_keys xs)

truths_bool : {all : List BValue} {kinds : List BType} {fs : List Fail} {ps : List Truth} → Truths all kinds fs ps → All (IsBool kinds) fs
truths_bool {kinds = kinds} no_truths = All-nil (IsBool kinds)
truths_bool {kinds = kinds} (truth_so {a = a} {fs = fs} g rest) =
    All-append (IsBool kinds) (a ∷ []) fs (All-push (IsBool kinds) [] a (All-nil (IsBool kinds)) g.kind) (truths_bool rest)

end_truth : (p : Truth) → Is p ≡ Is true → p ≡ true
end_truth true e = refl
end_truth false e = absurd (cc)

module _ (d : Proc) (label : Label) (typed : IsTypedProc d) where
  abbrev ls : List BType
  ls = types_of d

  abbrev own : List BType
  own = own_types ls d.body

  abbrev pub last : List BValue → Point
  last values = total label values d.body (length ls) (from (locals_in d values))

  abbrev builder : ConditionsBuilder
  builder = built (length (variables_of d)) d.body (started (variables_of d) ls)

  module _ (values : List BValue) (h : IsEnvironment (variables_of d) values) where
    abbrev given : List BValue
    given = values ++ One (Bool true) ∷ []

    abbrev given_kinds : List BType
    given_kinds = variables_of d ++ bool_type ∷ []

    stands : Step (length (variables_of d)) ls (variables_of d) values label given given_kinds builder (last values)
    stands = block_step (length (variables_of d)) ls (variables_of d) values label typed.body (length ls) (owns_behind ls own values h)
        (started (variables_of d) ls) (from (locals_in d values)) given given_kinds refl (starts ls own values label h)

    linked_here : Links (length (variables_of d)) (variables_of d) values label (stands.all ++ One (Bool false) ∷ []) (stands.kinds ++ bool_type ∷ [])
        (chained (length (variables_of d)) label builder.fails (chain_from (length (variables_of d)) builder.lets)) (fails_among label builder.fails stands.stands.truths)
    linked_here = let g = stands in asked_links (length (variables_of d)) (variables_of d) values label g.stands.names g.stands.fails

    pub value_is : formula_value (formula_for d label) values ≡ Is (not (last values).bad)
    value_is =
        let g = linked_here in
        let goal = says_value (says_not (says_var g.last)) in
        ap (λ e. then_with e (λ all. as_truth (fvalue (formula_for d label).goal all))) g.names.defines ∙ ap as_truth goal ∙ ap (λ q. Is (not q)) stands.stands.bad

    pub ends_is : Ends label [] (brun_proc Unbounded d (locals_in d values) (choices_in d values)) (last values)
    ends_is =
        subst (λ cs. Ends label [] (brun_proc Unbounded d (locals_in d values) cs) (last values)) (append-nil (choices_in d values))
        (awake ls (variables_of d) label values typed.body (length ls) (owns_behind ls own values h) (locals_in d values) (env_front ls own values h) [])

    falls_from : formula_value (formula_for d label) values ≡ Is false → FailsAt label (brun_proc Unbounded d (locals_in d values) (choices_in d values))
    falls_from e = fails_from label [] _ _ _ _ ends_is (falls_if (last values).bad (sym value_is ∙ e))

    falls_back : FailsAt label (brun_proc Unbounded d (locals_in d values) (choices_in d values)) → formula_value (formula_for d label) values ≡ Is false
    falls_back e = value_is ∙ ap (λ q. Is (not q)) (fails_back label [] _ _ _ _ ends_is e)

    named_is : (j : ℕ) (p : Truth) → Truly stands.all stands.kinds j p → truth_named (conditions_for d) values j ≡ Is p
    named_is j p t = ap (λ e. then_with e (λ all. as_truth (fvalue (f.Var j) all))) stands.stands.names.defines ∙ ap as_truth (says_value (says_var t))

    pub truth_is : (k : ℕ) (a : Fail) → slice_get (conditions_for d).fails k ≡ Some a → (p : Truth) × (truth_named (conditions_for d) values a.name ≡ Is p)
    truth_is k a e = let t = truth_at stands.stands.fails k a e in (t.0, named_is a.name t.0 t.2)

    -- an assertion fails where the run has failed at the label
    pub fails_in : (last values).bad ≡ true → FailsIn (conditions_for d) values label
    fails_in e =
        let x = among_there label stands.stands.fails (stands.stands.bad ∙ e) in
        record { number = x.number; assertion = x.assertion; is_there = x.is_there; is_labelled = x.is_labelled; fails = named_is x.assertion.name true x.fails }

    fails_out : FailsIn (conditions_for d) values label → (last values).bad ≡ true
    fails_out x =
        let t = truth_at stands.stands.fails x.number x.assertion x.is_there in
        let is_true = end_truth t.0 (sym (named_is x.assertion.name t.0 t.2) ∙ x.fails) in
        sym stands.stands.bad ∙ among_true label builder.fails stands.stands.truths x.number x.assertion x.is_there (t.1 ∙ ap Some is_true) x.is_labelled

    pub fail_from : FailsIn (conditions_for d) values label → FailsAt label (brun_proc Unbounded d (locals_in d values) (choices_in d values))
    fail_from x = fails_from label [] _ _ _ _ ends_is (fails_out x)

    pub fail_back : FailsAt label (brun_proc Unbounded d (locals_in d values) (choices_in d values)) → FailsIn (conditions_for d) values label
    fail_back e = fails_in (fails_back label [] _ _ _ _ ends_is e)

  pub follows : Follows d label (formula_for d label)
  follows = record {
    vars = refl;
    is_truth = λ values h. (not (last values).bad, value_is values h);
    falls = λ values h. (falls_from values h, falls_back values h);
  }

  pub formula_typed : IsTypedFormula (formula_for d label)
  formula_typed =
      let g = linked_here (map default_value (variables_of d)) (default_env (variables_of d)) in
      record {
        keys = All-append (λ u. AreKeys u.keys) ls own typed.keys (own_keys ls typed.keys d.body);
        all = g.kinds;
        lets = g.names.typed;
        goal = says_kind (says_not (says_var g.last));
      }

  pub typed_conditions : IsTypedConditions (conditions_for d)
  typed_conditions =
      let g = stands (map default_value (variables_of d)) (default_env (variables_of d)) in
      record {
        keys = All-append (λ u. AreKeys u.keys) ls own typed.keys (own_keys ls typed.keys d.body);
        all = g.kinds;
        lets = g.stands.names.typed;
        fails = truths_bool g.stands.fails;
      }

-- what holds at one label, as the conditions do not depend on it
module _ (d : Proc) (typed : IsTypedProc d) where
  pub conditions_follow : ConditionsFollow d (conditions_for d)
  conditions_follow = record {
    vars = refl;
    is_truth = λ values h. truth_is d here typed values h;
    fail = λ values h label. (fail_from d label typed values h, fail_back d label typed values h);
  }

  pub conditions_typed : IsTypedConditions (conditions_for d)
  conditions_typed = typed_conditions d here typed
