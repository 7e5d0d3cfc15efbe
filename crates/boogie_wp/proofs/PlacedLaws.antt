-- Each run is one at some values of the variables, so the formula is valid just where no run fails, and an assertion can fail just
-- where one does.
use Rattle.std.proofs.Common.{◌≡◌, ◌+◌, ℕ, zero, suc, Bool as Truth, true, false, not, ◌||◌, Option, Some, None, List, [], ◌∷◌, ◌++◌, map, All, take, slice_get, slice_set, length, if◌then◌else◌, refl, sym, ap, subst, ◌∙◌, arith}
use Rattle.std.specs.Bool.{⊤}
use Rattle.std.specs.Map.{values_of}
use Rattle.std.proofs.Math.Seq.{take-append_seam}
use Rattle.std.proofs.lemmas.List.Elements.{All-append, All-push, All-nil, All-head, All-tail}
use Rattle.lemmas.proofs.Lists.{there_left, there_right}
use Rattle.vb_base.specs.declared.labels.Label.{Label}
use Rattle.vb_value.specs.Bound.{Unbounded}
use Rattle.boogie_tree.specs.Stmt as s
use Rattle.boogie_tree.specs.Program.{BType, Proc}
use Rattle.boogie_tree.specs.Value.{Key, BScalar, BValue, One, Bool, BChoice, Pick}
use Rattle.boogie_tree.specs.Values.{IsEnvironment, IsOfType, one, many, plain_type, FitsScalar, IsReducedChoice, IsReducedEntry}
use Rattle.boogie_tree.specs.declared.exprs.BBase.{BBase}
use Rattle.boogie_tree.specs.declared.exprs.BBase.TheVariants as base
use Rattle.boogie_meaning.specs.Ends as ends
use Rattle.boogie_meaning.specs.Ends.{End, Is, found}
use Rattle.boogie_meaning.specs.Operators.{as_truth}
use Rattle.boogie_meaning.specs.Kept.{KeepsTypes, done, failed, blocked, short, over}
use Rattle.boogie_meaning.specs.Quantified.{bvalue}
use Rattle.boogie_meaning.specs.Run.{Run, Stop, Done, Stops, Failed, Blocked, Short, Over, Wrong, with_choice, unless_blocked, then_run, picked, chosen, choice_for, entries_of, assumed, asserted, brun_stmt, brun}
use Rattle.boogie_meaning.specs.Types.{IsTyped, skip, first, IsTypedStmt, assign, put as put_, havoc, assume_, assert_, if_, either}
use Rattle.boogie_meaning.specs.Programs.{types_of, IsTypedProc, brun_proc, default_value, FailsAt, ProcFails}
use Rattle.boogie_meaning.proofs.RunTypedLaws.{stmt_keeps}
use Rattle.boogie_meaning.proofs.ValueLaws.{chosen_typed}
use Rattle.boogie_meaning.proofs.EnvironmentLaws.{env_front, length_env}
use Rattle.boogie_formula.specs.Value.{formula_value, Valid, CanFail}
use Rattle.boogie_formula.specs.Choices.{own_types, own_types_stmt, slots, slots_stmt, variables_of, met, met_stmt, takes, where_truth, truth_at, where_done, locals_in, choices_in}
use Rattle.boogie_formula.specs.Follows.{AreExact, IsExact}
use Rattle.boogie_wp.specs.Build.{conditions_for, formula_for}
use Rattle.boogie_wp.specs.Labels.{same_label}
use Rattle.boogie_wp.proofs.LabelLaws.{same_label_itself}
use Rattle.boogie_wp.proofs.LiftLaws.{value_there, key_there, truth_there, side_is, map_there}
use Rattle.boogie_wp.proofs.Total.{Point, or_else, stored, held, checked, joined, forked, total_stmt, total}
use Rattle.boogie_wp.proofs.TotalLaws.{Asleep, asleep, slots_own, slots_own_stmt, from}
use Rattle.boogie_wp.proofs.BuildLaws.{truly_fits}
use Rattle.boogie_wp.proofs.FormulaLaws.{default_env, last, value_is, fails_in, fail_from, follows}

-- ---- values from the k-th on

record Sits (vs : List BValue) (k : ℕ) (ws : List BValue) : Type 0 where
  there : (j : ℕ) (v : BValue) → slice_get ws j ≡ Some v → slice_get vs (k + j) ≡ Some v

module _ {vs : List BValue} {k : ℕ} where
  sits_left : (ws xs : List BValue) → Sits vs k (ws ++ xs) → Sits vs k ws
  sits_left ws xs o = record { there = λ j v h. o.there j v (there_left ws xs j v h) }

  sits_right : (ws xs : List BValue) (m : ℕ) → length ws ≡ m → Sits vs k (ws ++ xs) → Sits vs (k + m) xs
  sits_right ws xs m e o = record {
    there = λ j v h.
        let same : k + m + j ≡ k + (length ws + j) = omega (arith, e) in
        ap (slice_get vs) same ∙ o.there (length ws + j) v (there_right ws xs j ∙ h);
  }

  sits_first : (w : BValue) (ws : List BValue) → Sits vs k (w ∷ ws) → slice_get vs k ≡ Some w
  sits_first w ws o = let same : k ≡ k + 0 = omega (arith) in ap (slice_get vs) same ∙ o.there 0 w refl

  sits_rest : (w : BValue) (ws : List BValue) → Sits vs k (w ∷ ws) → Sits vs (k + 1) ws
  sits_rest w ws o = record { there = λ j v h. let same : k + 1 + j ≡ k + suc j = omega (arith) in ap (slice_get vs) same ∙ o.there (suc j) v h }

env_append : (ts us : List BType) (vs ws : List BValue) → IsEnvironment ts vs → IsEnvironment us ws → IsEnvironment (ts ++ us) (vs ++ ws)
env_append [] us [] ws h g = g
env_append [] us (v ∷ vs) ws h g = absurd h
env_append (t ∷ ts) us [] ws h g = absurd h
env_append (t ∷ ts) us (v ∷ vs) ws h g = (h.0, env_append ts us vs ws h.1 g)

-- ---- where a run leads

-- it is done with these values, or it has failed at the label
abbrev Leads : Label → Run → Point → Type 0
Leads label (Done env cs) p = p ≡ from env
Leads label (Stops (Failed l) cs) p = l ≡ label → Asleep true p
Leads label (Stops Blocked cs) p = ⊤
Leads label (Stops Short cs) p = ⊤
Leads label (Stops Over cs) p = ⊤
Leads label (Stops Wrong cs) p = ⊤

-- there are values of these types such that it leads there wherever they sit
record Placed (label : Label) (r : Run) (ts : List BType) (go : List BValue → ℕ → Point) : Type 0 where
  values : List BValue
  typed : IsEnvironment ts values
  leads : (vs : List BValue) (k : ℕ) → Sits vs k values → Leads label r (go vs k)

-- at any values
placed_any : (label : Label) (r : Run) (ts : List BType) (go : List BValue → ℕ → Point) → ((vs : List BValue) (k : ℕ) → Leads label r (go vs k)) → Placed label r ts go
placed_any label r ts go h = record { values = map default_value ts; typed = default_env ts; leads = λ vs k o. h vs k }

if_same : {X : Type 0} (b : Truth) (x : X) → (if b then x else x) ≡ x
if_same true x = refl
if_same false x = refl

asserted_leads : (label : Label) (l : Label) (env : List BValue) (cs : List BChoice) (t : Truth) →
    Leads label (asserted l env cs t) (if same_label l label then checked t (from env) else held t (from env))
asserted_leads label l env cs true = if_same (same_label l label) (from env)
asserted_leads label l env cs false = λ e. rw (e, same_label_itself label) (record { path = refl; bad = refl })

assumed_leads : (label : Label) (env : List BValue) (cs : List BChoice) (t : Truth) → Leads label (assumed env cs t) (held t (from env))
assumed_leads label env cs true = refl
assumed_leads label env cs false = tt

-- the second block sleeps
joined_left : (label : Label) (r : Run) (x y : Point) → Leads label r x → Asleep x.bad y → Leads label r (joined true x y)
joined_left label (Done env cs) x y h a =
    let bad : y.bad ≡ false = a.bad ∙ ap (λ (p : Point). p.bad) h in
    λ i. record { env = (h i).env; path = (h i).path || a.path i; bad = bad i }
joined_left label (Stops (Failed l) cs) x y h a = λ e. let b = h e in record { path = rw (b.path, a.path) refl; bad = a.bad ∙ b.bad }
joined_left label (Stops Blocked cs) x y h a = tt
joined_left label (Stops Short cs) x y h a = tt
joined_left label (Stops Over cs) x y h a = tt
joined_left label (Stops Wrong cs) x y h a = tt

-- the first block sleeps
joined_right : (label : Label) (r : Run) (x y : Point) → Leads label r y → x.path ≡ false → Leads label r (joined false x y)
joined_right label (Done env cs) x y h a = λ i. record { env = (h i).env; path = a i || (h i).path; bad = (h i).bad }
joined_right label (Stops (Failed l) cs) x y h a = λ e. let b = h e in record { path = rw (a, b.path) refl; bad = b.bad }
joined_right label (Stops Blocked cs) x y h a = tt
joined_right label (Stops Short cs) x y h a = tt
joined_right label (Stops Over cs) x y h a = tt
joined_right label (Stops Wrong cs) x y h a = tt

module _ (ls : List BType) (label : Label) where
  -- what sleeps goes on sleeping
  asleep_on : (vs : List BValue) (xs : s.BStmts) (k : ℕ) (q : Truth) (p : Point) → Asleep q p → Asleep q (total label vs xs k p)
  asleep_on vs xs k q p a =
      let same : record { env = p.env; path = false; bad = q } ≡ p = λ i. record { env = p.env; path = (sym a.path) i; bad = (sym a.bad) i } in
      subst (λ r. Asleep q (total label vs xs k r)) same (asleep label vs xs k p.env q)

  length_default : (ts : List BType) (m : ℕ) → length ts ≡ m → length (map default_value ts) ≡ m
  length_default ts m e = length_env ts (map default_value ts) (default_env ts) ∙ e

  fork_placed : {xs ys : s.BStmts} → IsTyped ls xs → IsTyped ls ys → (t : Truth) (r q : Run) (env : List BValue) →
      Placed label r (own_types ls xs) (λ vs k. total label vs xs k (from env)) → Placed label q (own_types ls ys) (λ vs k. total label vs ys k (from env)) →
      Placed label (if t then r else q) (own_types ls xs ++ own_types ls ys) (λ vs k. forked t (λ p. total label vs xs k p) (λ p. total label vs ys (k + slots xs) p) (from env))
  fork_placed {xs} {ys} a c true r q env h g =
      let ws = map default_value (own_types ls ys) in
      record {
        values = h.values ++ ws;
        typed = env_append (own_types ls xs) (own_types ls ys) h.values ws h.typed (default_env (own_types ls ys));
        leads = λ vs k o.
            let x = total label vs xs k (from env) in
            joined_left label r x (total label vs ys (k + slots xs) (record { env = env; path = false; bad = x.bad })) (h.leads vs k (sits_left h.values ws o)) (asleep label vs ys (k + slots xs) env x.bad);
      }
  fork_placed {xs} {ys} a c false r q env h g =
      let ws = map default_value (own_types ls xs) in
      record {
        values = ws ++ g.values;
        typed = env_append (own_types ls xs) (own_types ls ys) ws g.values (default_env (own_types ls xs)) g.typed;
        leads = λ vs k o.
            let x = total label vs xs k (record { env = env; path = false; bad = false }) in
            let b = asleep label vs xs k env false in
            let y = g.leads vs (k + slots xs) (sits_right ws g.values (slots xs) (length_default (own_types ls xs) (slots xs) (slots_own a)) o) in
            joined_right label q x (total label vs ys (k + slots xs) (record { env = env; path = true; bad = x.bad }))
            (subst (λ z. Leads label q (total label vs ys (k + slots xs) (record { env = env; path = true; bad = z }))) (sym b.bad) y) b.path;
      }

  havoc_by : (env : List BValue) (i : ℕ) (u : BType) (c : BChoice) (rest : List BChoice) (o : Option BValue) → chosen u c ≡ o → IsReducedChoice c →
      Placed label (unless_blocked o rest (λ v rest. Done (slice_set env i v) rest)) (u ∷ []) (λ vs k. record { env = stored i env (found (slice_get vs k)); path = true; bad = false })
  havoc_by env i u c rest (Some v) e r = record {
    values = v ∷ [];
    typed = (chosen_typed u c v r e, tt);
    leads = λ vs k o. rw (sits_first v [] o) refl;
  }
  havoc_by env i u c rest None e r = placed_any label _ _ _ (λ vs k. tt)

  havoc_placed : (env : List BValue) (i : ℕ) (u : BType) (cs : List BChoice) → All IsReducedChoice cs →
      Placed label (with_choice cs (chosen u) (λ v rest. Done (slice_set env i v) rest)) (u ∷ []) (λ vs k. record { env = stored i env (found (slice_get vs k)); path = true; bad = false })
  havoc_placed env i u [] r = placed_any label _ _ _ (λ vs k. tt)
  havoc_placed env i u (c ∷ rest) r = havoc_by env i u c rest (chosen u c) refl (All-head IsReducedChoice c rest r)

  pick_by : {xs ys : s.BStmts} → IsTyped ls xs → IsTyped ls ys → (env : List BValue) (rest : List BChoice) (o : Option Truth) →
      Placed label (brun ls Unbounded xs env rest) (own_types ls xs) (λ vs k. total label vs xs k (from env)) →
      Placed label (brun ls Unbounded ys env rest) (own_types ls ys) (λ vs k. total label vs ys k (from env)) →
      Placed label (unless_blocked o rest (λ p rest. if p then brun ls Unbounded xs env rest else brun ls Unbounded ys env rest)) (plain_type base.Bool ∷ (own_types ls xs ++ own_types ls ys))
      (λ vs k. forked (or_else false (truth_at vs k)) (λ p. total label vs xs (k + 1) p) (λ p. total label vs ys (k + 1 + slots xs) p) (from env))
  pick_by {xs} {ys} a c env rest (Some p) h g =
      let f = fork_placed a c p (brun ls Unbounded xs env rest) (brun ls Unbounded ys env rest) env h g in
      record {
        values = One (Bool p) ∷ f.values;
        typed = (truly_fits p, f.typed);
        leads = λ vs k o. rw (sits_first (One (Bool p)) f.values o) (f.leads vs (k + 1) (sits_rest (One (Bool p)) f.values o));
      }
  pick_by a c env rest None h g = placed_any label _ _ _ (λ vs k. tt)

  then_placed : (xs : s.BStmts) (r : Run) (ts : List BType) (m : ℕ) (go : List BValue → ℕ → Point) → KeepsTypes ls r → Placed label r ts go → length ts ≡ m →
      ((env : List BValue) (cs : List BChoice) → IsEnvironment ls env → All IsReducedChoice cs → Placed label (brun ls Unbounded xs env cs) (own_types ls xs) (λ vs k. total label vs xs k (from env))) →
      Placed label (then_run r (λ env cs. brun ls Unbounded xs env cs)) (ts ++ own_types ls xs) (λ vs k. total label vs xs (k + m) (go vs k))
  then_placed xs _ ts m go (done {env = env} {cs = cs} e c) h len next =
      let g = next env cs e c in
      record {
        values = h.values ++ g.values;
        typed = env_append ts (own_types ls xs) h.values g.values h.typed g.typed;
        leads = λ vs k o.
            subst (λ p. Leads label (brun ls Unbounded xs env cs) (total label vs xs (k + m) p)) (sym (h.leads vs k (sits_left h.values g.values o)))
            (g.leads vs (k + m) (sits_right h.values g.values m (length_env ts h.values h.typed ∙ len) o));
      }
  then_placed xs _ ts m go (failed {l = l}) h len next =
      let ws = map default_value (own_types ls xs) in
      record {
        values = h.values ++ ws;
        typed = env_append ts (own_types ls xs) h.values ws h.typed (default_env (own_types ls xs));
        leads = λ vs k o e. asleep_on vs xs (k + m) true (go vs k) (h.leads vs k (sits_left h.values ws o) e);
      }
  then_placed xs _ ts m go blocked h len next = placed_any label _ _ _ (λ vs k. tt)
  then_placed xs _ ts m go short h len next = placed_any label _ _ _ (λ vs k. tt)
  then_placed xs _ ts m go over h len next = placed_any label _ _ _ (λ vs k. tt)

  mutual
    placed_stmt : {x : s.BStmt} → IsTypedStmt ls x → (env : List BValue) (cs : List BChoice) → IsEnvironment ls env → All IsReducedChoice cs →
        Placed label (brun_stmt ls Unbounded x env cs) (own_types_stmt ls x) (λ vs k. total_stmt label vs x k (from env))
    placed_stmt (assign {i = i} {e = e} {u = u} l t) env cs h r = let v = side_is ls env h e u t in placed_any label _ _ _ (λ vs k. rw (v.1) refl)
    placed_stmt (put_ {i = i} {es = es} {e = e} {u = u} {us = us} {w = w} l ks t) env cs h r =
        let a = key_there ls env h es (u ∷ us) ks in
        let v = value_there ls env h e w t in
        let m = map_there ls env h i u us w l in
        placed_any label _ _ _ (λ vs k. rw (a.1, v.1, m.1) refl)
    placed_stmt (havoc {i = i} {u = u} l) env cs h r = rw (l) (havoc_placed env i u cs r)
    placed_stmt (assume_ {e = e} t) env cs h r = let v = truth_there ls env h e t in placed_any label _ _ _ (λ vs k. rw (v.1) (assumed_leads label env cs v.0))
    placed_stmt (assert_ {l = l} {e = e} t) env cs h r = let v = truth_there ls env h e t in placed_any label _ _ _ (λ vs k. rw (v.1) (asserted_leads label l env cs v.0))
    placed_stmt (if_ {e = e} {xs = xs} {ys = ys} t a c) env cs h r =
        let v = truth_there ls env h e t in
        rw (v.1) (fork_placed a c v.0 (brun ls Unbounded xs env cs) (brun ls Unbounded ys env cs) env (placed a env cs h r) (placed c env cs h r))
    placed_stmt (either {xs = xs} {ys = ys} a c) env [] h r = placed_any label _ _ _ (λ vs k. tt)
    placed_stmt (either {xs = xs} {ys = ys} a c) env (p ∷ rest) h r =
        let q = All-tail IsReducedChoice p rest r in
        pick_by a c env rest (picked p) (placed a env rest h q) (placed c env rest h q)

    placed : {xs : s.BStmts} → IsTyped ls xs → (env : List BValue) (cs : List BChoice) → IsEnvironment ls env → All IsReducedChoice cs →
        Placed label (brun ls Unbounded xs env cs) (own_types ls xs) (λ vs k. total label vs xs k (from env))
    placed skip env cs h r = placed_any label _ _ _ (λ vs k. refl)
    placed (first {x = x} {xs = xs} a c) env cs h r =
        then_placed xs (brun_stmt ls Unbounded x env cs) (own_types_stmt ls x) (slots_stmt x) (λ vs k. total_stmt label vs x k (from env)) (stmt_keeps ls Unbounded env cs a h r)
        (placed_stmt a env cs h r) (slots_own_stmt a) (λ e ds g q. placed c e ds g q)

-- ---- the choices that are met are in lowest terms

entries_reduced : (u : BBase) (es : List (Key × BScalar)) → All (FitsScalar u) (values_of es) → All IsReducedEntry (entries_of es)
entries_reduced u [] h = All-nil IsReducedEntry
entries_reduced u (e ∷ es) h =
    let f = All-head (FitsScalar u) e.1 (values_of es) h in
    All-append IsReducedEntry (record { key = e.0; value = e.1 } ∷ []) (entries_of es) (All-push IsReducedEntry [] (record { key = e.0; value = e.1 }) (All-nil IsReducedEntry) f.reduced)
    (entries_reduced u es (All-tail (FitsScalar u) e.1 (values_of es) h))

choice_reduced : (v : BValue) (u : BType) → IsOfType v u → IsReducedChoice (choice_for v)
choice_reduced _ _ (one f) = f.reduced
choice_reduced _ _ (many {m = m} {w = w} h) = entries_reduced w m.entries h.values

abbrev Reduced : List BChoice → Type 0
Reduced cs = All IsReducedChoice cs

one_reduced : (c : BChoice) (cs : List BChoice) → IsReducedChoice c → Reduced cs → Reduced (c ∷ cs)
one_reduced c cs h g = All-append IsReducedChoice (c ∷ []) cs (All-push IsReducedChoice [] c (All-nil IsReducedChoice) h) g

where_reduced : (e : End Truth) (go : Truth → List BChoice) → ((p : Truth) → Reduced (go p)) → Reduced (where_truth e go)
where_reduced (Is p) go h = h p
where_reduced ends.Over go h = All-nil IsReducedChoice
where_reduced ends.Wrong go h = All-nil IsReducedChoice

after_reduced : (r : Run) (go : List BValue → List BChoice) → ((env : List BValue) → Reduced (go env)) → Reduced (where_done r go)
after_reduced (Done env cs) go h = h env
after_reduced (Stops why cs) go h = All-nil IsReducedChoice

if_reduced : (p : Truth) (cs ds : List BChoice) → Reduced cs → Reduced ds → Reduced (if p then cs else ds)
if_reduced true cs ds h g = h
if_reduced false cs ds h g = g

module _ (ts : List BType) (vs : List BValue) (h : IsEnvironment ts vs) where
  typed_at : (ts : List BType) (vs : List BValue) → IsEnvironment ts vs → (k : ℕ) (v : BValue) → slice_get vs k ≡ Some v → (u : BType) × IsOfType v u
  typed_at [] [] h k v e = absurd (cc)
  typed_at [] (w ∷ ws) h k v e = absurd h
  typed_at (t ∷ ts) [] h k v e = absurd h
  typed_at (t ∷ ts) (w ∷ ws) h zero v e = let same : w ≡ v = cc in (t, subst (λ x. IsOfType x t) same h.0)
  typed_at (t ∷ ts) (w ∷ ws) h (suc k) v e = typed_at ts ws h.1 k v e

  takes_reduced : (o : Option BValue) → ((v : BValue) → o ≡ Some v → (u : BType) × IsOfType v u) → Reduced (takes o)
  takes_reduced (Some v) g = let t = g v refl in one_reduced (choice_for v) [] (choice_reduced v t.0 t.1) (All-nil IsReducedChoice)
  takes_reduced None g = All-nil IsReducedChoice

  mutual
    met_stmt_reduced : (ls : List BType) (x : s.BStmt) (k : ℕ) (env : List BValue) → Reduced (met_stmt ls vs x k env)
    met_stmt_reduced ls (s.Assign i e) k env = All-nil IsReducedChoice
    met_stmt_reduced ls (s.Put i es e) k env = All-nil IsReducedChoice
    met_stmt_reduced ls (s.Havoc i) k env = takes_reduced (slice_get vs k) (λ v e. typed_at ts vs h k v e)
    met_stmt_reduced ls (s.Assume e) k env = All-nil IsReducedChoice
    met_stmt_reduced ls (s.Assert l e) k env = All-nil IsReducedChoice
    met_stmt_reduced ls (s.If e xs ys) k env =
        where_reduced (as_truth (bvalue Unbounded e env)) _ (λ p. if_reduced p _ _ (met_reduced ls xs k env) (met_reduced ls ys (k + slots xs) env))
    met_stmt_reduced ls (s.Either xs ys) k env =
        where_reduced (truth_at vs k) _ (λ p. one_reduced (Pick p) _ tt (if_reduced p _ _ (met_reduced ls xs (k + 1) env) (met_reduced ls ys (k + 1 + slots xs) env)))

    met_reduced : (ls : List BType) (xs : s.BStmts) (k : ℕ) (env : List BValue) → Reduced (met ls vs xs k env)
    met_reduced ls s.skip k env = All-nil IsReducedChoice
    met_reduced ls (s.first x xs) k env =
        All-append IsReducedChoice (met_stmt ls vs x k env) _ (met_stmt_reduced ls x k env) (after_reduced (brun_stmt ls Unbounded x env (met_stmt ls vs x k env)) _ (λ e. met_reduced ls xs (k + slots_stmt x) e))

-- ---- exactness

module _ (d : Proc) (label : Label) (typed : IsTypedProc d) where
  abbrev ls : List BType
  ls = types_of d

  leads_bad : (r : Run) (p : Point) → Leads label r p → FailsAt label r → p.bad ≡ true
  leads_bad (Done env cs) p h g = let e = g.is in absurd (cc)
  leads_bad (Stops (Failed l) cs) p h g = let e : Failed l ≡ Failed label = why_is (Failed l) (Failed label) cs g.left g.is in (h (label_is l label e)).bad
    where
      why_is : (w v : Stop) (cs ds : List BChoice) → Stops w cs ≡ Stops v ds → w ≡ v
      why_is w v cs ds e = cc

      label_is : (l m : Label) → Failed l ≡ Failed m → l ≡ m
      label_is l m e = cc
  leads_bad (Stops Blocked cs) p h g = let e = g.is in absurd (cc)
  leads_bad (Stops Short cs) p h g = let e = g.is in absurd (cc)
  leads_bad (Stops Over cs) p h g = let e = g.is in absurd (cc)
  leads_bad (Stops Wrong cs) p h g = let e = g.is in absurd (cc)

  -- a run that fails is one at some values
  record FailsSomewhere : Type 0 where
    values : List BValue
    typed_so : IsEnvironment (variables_of d) values
    bad : (last d label typed values).bad ≡ true

  fails_somewhere : ProcFails d label → FailsSomewhere
  fails_somewhere g =
      let env = g.environment in
      let w = placed ls label typed.body env g.choices g.is_environment g.are_reduced in
      let values = env ++ w.values in
      let h = env_append ls (own_types ls d.body) env w.values g.is_environment w.typed in
      let len = length_env ls env g.is_environment in
      let sits : Sits values (length ls) w.values = record { there = λ j x e. ap (λ n. slice_get values (n + j)) (sym len) ∙ (there_right env w.values j ∙ e) } in
      let same : locals_in d values ≡ env = ap (λ n. take n values) (sym len) ∙ take-append_seam env w.values in
      let at = w.leads values (length ls) sits in
      let leads : Leads label (brun_proc Unbounded d env g.choices) (last d label typed values) =
      subst (λ e. Leads label (brun_proc Unbounded d env g.choices) (total label values d.body (length ls) (from e))) (sym same) at in
      record { values = values; typed_so = h; bad = leads_bad (brun_proc Unbounded d env g.choices) (last d label typed values) leads g.fails }

  -- what fails at values is a run that fails
  proc_fails : (values : List BValue) → IsEnvironment (variables_of d) values → FailsAt label (brun_proc Unbounded d (locals_in d values) (choices_in d values)) → ProcFails d label
  proc_fails values h e = record {
    environment = locals_in d values;
    is_environment = env_front ls (own_types ls d.body) values h;
    choices = choices_in d values;
    are_reduced = met_reduced (variables_of d) values h ls d.body (length ls) (locals_in d values);
    fails = e;
  }

  -- the goal is false there
  valid_passes : Valid (formula_for d label) → ProcFails d label → ⊥
  valid_passes v g =
      let x = fails_somewhere g in
      let is_false : formula_value (formula_for d label) x.values ≡ Is false = value_is d label typed x.values x.typed_so ∙ ap (λ q. Is (not q)) x.bad in
      let is_true = v.holds x.values x.typed_so in
      absurd (cc)

  passes_valid : (ProcFails d label → ⊥) → Valid (formula_for d label)
  passes_valid none = record { holds = λ values h. at values h (not (last d label typed values).bad) (value_is d label typed values h) }
    where
      at : (values : List BValue) → IsEnvironment (variables_of d) values → (p : Truth) → formula_value (formula_for d label) values ≡ Is p → formula_value (formula_for d label) values ≡ Is true
      at values h true e = e
      at values h false e = absurd (none (proc_fails values h (((follows d label typed).falls values h).0 e)))

  pub exact : IsExact d label (formula_for d label)
  exact = (valid_passes, passes_valid)

  can_fail : ProcFails d label → CanFail (conditions_for d) label
  can_fail g = let x = fails_somewhere g in record { values = x.values; are_typed = x.typed_so; fails = fails_in d label typed x.values x.typed_so x.bad }

  fails_so : CanFail (conditions_for d) label → ProcFails d label
  fails_so x = proc_fails x.values x.are_typed (fail_from d label typed x.values x.are_typed x.fails)

pub are_exact : (d : Proc) → IsTypedProc d → AreExact d (conditions_for d)
are_exact d typed label = (can_fail d label typed, fails_so d label typed)
