-- What is written for a call ends as the modular call.
use Rattle.std.proofs.Common.{◌≡◌, ◌+◌, ◌<◌, ◌≤◌, ◌⊎◌, inl, inr, ℕ, zero, suc, Some, None, unwrap_or, List, [], ◌∷◌, ◌++◌, length, map, slice_get, slice_set, refl, sym, ap, subst, ◌∙◌, arith}
use Rattle.std.specs.List.{AllZip}
use Rattle.std.proofs.lemmas.List.Elements.{All-head, All-tail}
use Rattle.lemmas.proofs.Lists.{there_split}
use Rattle.vb_value.specs.Bound.{Unbounded}
use Rattle.boogie_tree.specs.Expr as t
use Rattle.boogie_tree.specs.Program.{BType}
use Rattle.boogie_tree.specs.Value.{BValue, BChoice}
use Rattle.boogie_tree.specs.Values.{IsEnvironment, plain_type}
use Rattle.boogie_tree.specs.declared.exprs.BBase.{BBase}
use Rattle.boogie_tree.specs.declared.exprs.BBase.TheVariants as base
use Rattle.boogie_meaning.specs.Ends.{Is}
use Rattle.boogie_meaning.specs.Quantified.{side}
use Rattle.boogie_meaning.specs.Types.{HasType, value as expression}
use Rattle.boogie_meaning.specs.Run.{Run, Done, with_end, then_run, brun}
use Rattle.boogie_meaning.proofs.ValueLaws.{found_typed}
use Rattle.boogie_meaning.proofs.EnvironmentLaws.{length_env}
use Rattle.boogie_loops.specs.Wide.{Clause, WProc}
use Rattle.boogie_loops.specs.Procedures.{param_types, return_types, head_types}
use Rattle.boogie_loops.specs.WideTypes.{AreBools, HaveBases, none, more}
use Rattle.boogie_loops.specs.Modular.{assume_all, havoc_all, arguments, values_at, called}
use Rattle.boogie_cut.specs.Cut.{join, asserts, assumes, havocs, assigns, argument_numbers, stands_for, renamed_clauses, cut_call}
use Rattle.boogie_cut.proofs.TermLaws.{own_side, side_there, renamed_value}
use Rattle.boogie_cut.proofs.EnvLaws.{there_left, there_right, there_within, within_there, set_right, stored, stored_nil, stored_cons, length_stored, stored_there}
use Rattle.boogie_cut.proofs.AlikeLaws.{Alike, Runs, run_join, then_alike, join_runs, same, Same, asserts_alike, assumes_alike, havocs_runs}

-- ---- look-ups

zip_there : {X Y : Type 0} (R : X → Y → Type 0) (xs : List X) (ys : List Y) (j : ℕ) (y : Y) → AllZip R xs ys → slice_get ys j ≡ Some y → (x : X) × (slice_get xs j ≡ Some x) × R x y
zip_there R [] [] j y h l = absurd (cc)
zip_there R [] (z ∷ ys) j y h l = absurd h
zip_there R (x ∷ xs) [] j y h l = absurd h
zip_there R (x ∷ xs) (z ∷ ys) zero y h l = let e : z ≡ y = cc in (x, refl, subst (R x) e h.0)
zip_there R (x ∷ xs) (z ∷ ys) (suc j) y h l = zip_there R xs ys j y h.1 l

pub length_plain : (us : List BBase) → length (map plain_type us) ≡ length us
length_plain [] = refl
length_plain (u ∷ us) = ap suc (length_plain us)

module _ (ls : List BType) where
  -- the values of variables that are there
  values_there : (is : List ℕ) (us : List BType) (env : List BValue) → AllZip (λ i u. slice_get ls i ≡ Some u) is us → IsEnvironment ls env → (j i : ℕ) → slice_get is j ≡ Some i →
      slice_get (values_at is env) j ≡ slice_get env i
  values_there [] us env z e j i l = absurd (cc)
  values_there (k ∷ is) [] env z e j i l = absurd z
  values_there (k ∷ is) (u ∷ us) env z e zero i l =
      let v = found_typed ls env k u e z.0 in
      let same : k ≡ i = cc in
      rw (v.1) (sym v.1 ∙ ap (slice_get env) same)
  values_there (k ∷ is) (u ∷ us) env z e (suc j) i l =
      let v = found_typed ls env k u e z.0 in
      rw (v.1) (values_there is us env z.1 e j i l)

module _ {ls : List BType} where
  numbers_long : {es : t.BExprs} {us : List BBase} → HaveBases ls es us → (n : ℕ) → length (argument_numbers n es) ≡ length us
  numbers_long none n = refl
  numbers_long (more a es) n = ap suc (numbers_long es (n + 1))

  number_there : {es : t.BExprs} {us : List BBase} → HaveBases ls es us → (n j : ℕ) → j < length us → slice_get (argument_numbers n es) j ≡ Some (n + j)
  number_there none n j l = absurd (omega (arith, l))
  number_there (more a es) n zero l = let e : n ≡ n + 0 = omega arith in ap Some e
  number_there (more a es) n (suc j) l = let e : n + 1 + j ≡ n + suc j = omega arith in number_there es (n + 1) j (omega (arith, l)) ∙ ap Some e

stands : (numbers : List ℕ) (i k : ℕ) → slice_get numbers i ≡ Some k → stands_for numbers i ≡ k
stands numbers i k h = ap (λ o. unwrap_or o 0) h

-- ---- arguments

-- they have values, which the further locals from the k-th on get
pub record Passed (ls all : List BType) (env : List BValue) (es : t.BExprs) (us : List BBase) : Type 0 where
  pub args : List BValue
  pub is : arguments Unbounded es env ≡ Is args
  pub typed : IsEnvironment (map plain_type us) args
  pub runs : (extra : List BValue) (cs : List BChoice) (n k : ℕ) → n ≡ length env + k → brun all Unbounded (assigns n es) (env ++ extra) cs ≡ Done (env ++ stored extra k args) cs

module _ (ls all : List BType) (fits : (i : ℕ) (u : BType) → slice_get ls i ≡ Some u → slice_get all i ≡ Some u) where
  pub passed : {es : t.BExprs} {us : List BBase} → HaveBases ls es us → (env : List BValue) → IsEnvironment ls env → Passed ls all env es us
  passed none env e = record { args = []; is = refl; typed = tt; runs = λ extra cs n k h. ap (λ x. Done (env ++ x) cs) (sym (stored_nil extra k)) }
  passed (more {a = a} {es = es} {u = u} {us = us} x rest) env e =
      let v = side_there ls env e a (plain_type u) (expression x) in
      let r = passed rest env e in
      record {
        args = v.0 ∷ r.args;
        is = rw (v.1, r.is) refl;
        typed = (v.2, r.typed);
        runs = λ extra cs n k h.
            let at : side Unbounded a (env ++ extra) ≡ Is v.0 = own_side ls env (env ++ extra) (same ls all fits env extra e) a (plain_type u) (expression x) ∙ v.1 in
            let set : slice_set (env ++ extra) n v.0 ≡ env ++ slice_set extra k v.0 = ap (λ i. slice_set (env ++ extra) i v.0) h ∙ set_right env extra k v.0 in
            ap (λ d. then_run (with_end d cs (λ v. Done (slice_set (env ++ extra) n v) cs)) (λ env cs. brun all Unbounded (assigns (n + 1) es) env cs)) at
            ∙ ap (λ x. brun all Unbounded (assigns (n + 1) es) x cs) set
            ∙ r.runs (slice_set extra k v.0) cs (n + 1) (k + 1) (omega (arith, h))
            ∙ ap (λ x. Done (env ++ x) cs) (sym (stored_cons extra k v.0 r.args));
      }

  -- ---- the conditions of the callee

  same_renamed : (ts : List BType) (inside full : List BValue) (f : ℕ → ℕ) → ((i : ℕ) (u : BType) → slice_get ts i ≡ Some u → slice_get full (f i) ≡ slice_get inside i) →
      (xs : List Clause) → AreBools ts xs → Same ls all fits full inside (renamed_clauses f xs) xs
  same_renamed ts inside full f g [] h = tt
  same_renamed ts inside full f g (x ∷ xs) h = (
    (refl, renamed_value ts inside full f g x.e base.Bool (All-head (λ (c : Clause). HasType ts None c.e base.Bool) x xs h)),
    same_renamed ts inside full f g xs (All-tail (λ (c : Clause). HasType ts None c.e base.Bool) x xs h),
  )

  module _ (is : List ℕ) (es : t.BExprs) (d : WProc) (us : List BBase) (plain : param_types d ≡ map plain_type us) (given : HaveBases ls es us)
      (targets : AllZip (λ i u. slice_get ls i ≡ Some u) is (return_types d)) (n k m : ℕ) (at : n ≡ length ls + k) (room : k + length us ≤ m) where
    abbrev names : List ℕ
    names = argument_numbers n es ++ is

    -- a parameter
    module _ (env extra args : List BValue) (e : IsEnvironment ls env) (long : length args ≡ length us)
        (there : (j : ℕ) → j < length us → slice_get extra (k + j) ≡ slice_get args j) where
      param_same : (i : ℕ) (u : BType) → slice_get (param_types d) i ≡ Some u → slice_get (env ++ extra) (stands_for names i) ≡ slice_get args i
      param_same i u l =
          let l2 : slice_get (map plain_type us) i ≡ Some u = ap (λ ts. slice_get ts i) (sym plain) ∙ l in
          let w = there_within (map plain_type us) i u l2 in
          let lp = length_plain us in
          let below : i < length us = omega (arith, w, lp) in
          let no = stands names i (n + i) (there_left (argument_numbers n es) is i (n + i) (number_there given n i below)) in
          let le = length_env ls env e in
          let place : n + i ≡ length env + (k + i) = omega (arith, at, le) in
          ap (slice_get (env ++ extra)) (no ∙ place) ∙ there_right env extra (k + i) ∙ there i below

      head_same : (i : ℕ) (u : BType) → slice_get (head_types d) i ≡ Some u → slice_get (env ++ extra) (stands_for names i) ≡ slice_get (args ++ values_at is env) i
      head_same i u l = by (there_split (param_types d) (return_types d) i u l)
        where
          by : (slice_get (param_types d) i ≡ Some u) ⊎ ((j : ℕ) × (i ≡ length (param_types d) + j) × (slice_get (return_types d) j ≡ Some u)) →
              slice_get (env ++ extra) (stands_for names i) ≡ slice_get (args ++ values_at is env) i
          by (inl p) =
              let l2 : slice_get (map plain_type us) i ≡ Some u = ap (λ ts. slice_get ts i) (sym plain) ∙ p in
              let w = there_within (map plain_type us) i u l2 in
              let lp = length_plain us in
              let v = within_there args i (omega (arith, w, lp, long)) in
              param_same i u p ∙ v.1 ∙ sym (there_left args (values_at is env) i v.0 v.1)
          by (inr r) =
              let z = zip_there (λ i u. slice_get ls i ≡ Some u) is (return_types d) r.0 u targets r.2 in
              let lp : length (param_types d) ≡ length us = ap length plain ∙ length_plain us in
              let ln = numbers_long given n in
              let ri = r.1 in
              let first : i ≡ length (argument_numbers n es) + r.0 = omega (arith, lp, ln, ri) in
              let second : i ≡ length args + r.0 = omega (arith, lp, long, ri) in
              let no = stands names i z.0 (ap (slice_get names) first ∙ there_right (argument_numbers n es) is r.0 ∙ z.1) in
              ap (slice_get (env ++ extra)) no ∙ same ls all fits env extra e z.0 u z.2
              ∙ sym (ap (slice_get (args ++ values_at is env)) second ∙ there_right args (values_at is env) r.0 ∙ values_there ls is (return_types d) env targets e r.0 z.0 z.1)

    abbrev Long : List BValue → Type 0
    Long x = length x ≡ m

    pub call_runs : AreBools (param_types d) d.preconditions → AreBools (head_types d) d.postconditions →
        Runs ls all fits Long Long (cut_call is es n (Some d)).stmts (λ env cs. with_end (arguments Unbounded es env) cs (λ args. called ls Unbounded d is args env cs))
    call_runs pre post = record {
      from = λ env extra cs a e c.
          let p = passed given env e in
          let new = stored extra k p.args in
          let f = stands_for names in
          let le = length_env ls env e in
          let long : length p.args ≡ length us = length_env (map plain_type us) p.args p.typed ∙ length_plain us in
          let there : (j : ℕ) → j < length us → slice_get new (k + j) ≡ slice_get p.args j =
          λ j l. stored_there p.args extra k j (omega (arith, l, long)) (omega (arith, room, long, a)) in
          let after : List BValue → List BChoice → Run = λ env cs. brun all Unbounded (join (asserts (renamed_clauses f d.preconditions)) (join (havocs is) (assumes (renamed_clauses f d.postconditions)))) env cs in
          let behind : Runs ls all fits (λ x. x ≡ new) Long (join (havocs is) (assumes (renamed_clauses f d.postconditions)))
          (λ env cs. then_run (havoc_all ls Unbounded is env cs) (λ env cs. assume_all Unbounded d.postconditions (p.args ++ values_at is env) env cs)) =
          join_runs ls all fits (havocs is) (assumes (renamed_clauses f d.postconditions)) (λ env cs. havoc_all ls Unbounded is env cs)
          (λ env cs. assume_all Unbounded d.postconditions (p.args ++ values_at is env) env cs) (havocs_runs ls all fits is (return_types d) targets)
          (record {
            from = λ env2 extra2 cs2 a2 e2 c2.
                assumes_alike ls all fits (renamed_clauses f d.postconditions) d.postconditions (p.args ++ values_at is env2) env2 extra2 cs2 (ap length a2 ∙ length_stored p.args extra k ∙ a) e2 c2
                (same_renamed (head_types d) (p.args ++ values_at is env2) (env2 ++ extra2) f
                (head_same env2 extra2 p.args e2 long (λ j l. ap (λ x. slice_get x (k + j)) a2 ∙ there j l)) d.postconditions post);
          }) in
          let step : brun all Unbounded (cut_call is es n (Some d)).stmts (env ++ extra) cs ≡ after (env ++ new) cs =
          run_join all Unbounded (assigns n es) (join (asserts (renamed_clauses f d.preconditions)) (join (havocs is) (assumes (renamed_clauses f d.postconditions)))) (env ++ extra) cs
          ∙ ap (λ r. then_run r after) (p.runs extra cs n k (omega (arith, at, le))) in
          let whole : Alike ls Long (after (env ++ new) cs) (called ls Unbounded d is p.args env cs) =
          subst (λ r. Alike ls Long r (called ls Unbounded d is p.args env cs))
          (sym (run_join all Unbounded (asserts (renamed_clauses f d.preconditions)) (join (havocs is) (assumes (renamed_clauses f d.postconditions))) (env ++ new) cs))
          (then_alike (λ env cs. brun all Unbounded (join (havocs is) (assumes (renamed_clauses f d.postconditions))) env cs) _
          (asserts_alike ls all fits {Q = λ x. x ≡ new} (renamed_clauses f d.preconditions) d.preconditions p.args env new cs refl e c
          (same_renamed (param_types d) p.args (env ++ new) f (param_same env new p.args e long there) d.preconditions pre))
          behind.from) in
          subst (λ r. Alike ls Long r (with_end (arguments Unbounded es env) cs (λ args. called ls Unbounded d is args env cs))) (sym step)
          (subst (λ x. Alike ls Long (after (env ++ new) cs) (with_end x cs (λ args. called ls Unbounded d is args env cs))) (sym p.is) whole);
    }
