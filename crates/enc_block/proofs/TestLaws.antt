-- Assumptions as tests: code that runs through just where something holds, and blocks elsewhere.
use Rattle.std.specs.Bool.{Decides}
use Rattle.std.proofs.Common.{◌≡◌, ◌+◌, ◌<◌, ℕ, zero, suc, Bool as Truth, true, false, List, [], ◌⊎◌, inl, inr, if◌then◌else◌, refl, sym, subst, ◌∙◌, arith}
use Rattle.vb_value.specs.Bound.{Bound}
use Rattle.vb_value.specs.Layout.{Layout}
use Rattle.viper_meaning.specs.Ends.{blocks}
use Rattle.viper_meaning.specs.Run.{Run, ended}
use Rattle.boogie_tree.specs.Expr as t
use Rattle.boogie_tree.specs.Program.{BType}
use Rattle.boogie_tree.specs.Stmt as s
use Rattle.boogie_tree.specs.Stmt.{BStmts}
use Rattle.boogie_tree.specs.Value as bv
use Rattle.boogie_tree.specs.Value.{Key, BScalar, BChoice}
use Rattle.boogie_tree.specs.declared.exprs.BBase.{BBase}
use Rattle.sparse.specs.Map.{Map}
use Rattle.boogie_meaning.specs.Ends as end
use Rattle.boogie_meaning.specs.Patterns as pattern
use Rattle.boogie_meaning.specs.Patterns.{avoid_code, Avoids, AreThere, GoesOrBlocks}
use Rattle.boogie_meaning.specs.Quantified.{bvalue}
use Rattle.boogie_meaning.specs.Run as r
use Rattle.boogie_meaning.specs.Run.{brun, brun_stmt, Done, Stops}
use Rattle.boogie_meaning.proofs.PatternLaws.{avoid_goes, avoid_done, avoid_ends}
use Rattle.enc_expr.specs.Code.{join}
use Rattle.enc_expr.specs.Pieces.{one}
use Rattle.enc_expr.specs.Coupling.{Env}
use Rattle.enc_expr.proofs.FillLaws.{stopped_first}
use Rattle.enc_expr.proofs.OpeningLaws.{stops_first, alike_run}
use Rattle.enc_expr.proofs.RunLaws.{then_done, join_done, assume_run}
use Rattle.enc_assert.proofs.AlongsideLaws.{run_alongside, ended_alongside}
use Rattle.enc_block.proofs.GoingLaws.{Along}

module _ (ts : List BType) (b : Bound) (E : Env) where
  -- the statements run through where it holds, and are blocked where it does not
  pub data Tests (xs : BStmts) (P : Type 0) : Type 0 where
    yes : P → ((cs : List BChoice) → brun ts b xs E cs ≡ Done E cs) → Tests xs P
    never : (P → ⊥) → ((cs : List BChoice) → brun ts b xs E cs ≡ Stops r.Blocked cs) → Tests xs P

  pub nothing_tested : {P : Type 0} → P → Tests s.skip P
  nothing_tested p = yes p (λ cs. refl)

  -- one test, and then another
  pub both_tested : {P Q : Type 0} (xs ys : BStmts) → Tests xs P → Tests ys Q → Tests (join xs ys) (P × Q)
  both_tested xs ys (yes p f) (yes q g) = yes (p, q) (λ cs. join_done ts b xs ys E E cs cs (f cs) ∙ g cs)
  both_tested xs ys (yes p f) (never q g) = never (λ both. q both.1) (λ cs. join_done ts b xs ys E E cs cs (f cs) ∙ g cs)
  both_tested xs ys (never p f) last = never (λ both. p both.0) (λ cs. stops_first ts b xs ys E r.Blocked cs cs (f cs))

  pub same_test : {P Q : Type 0} {xs : BStmts} → (P → Q) → (Q → P) → Tests xs P → Tests xs Q
  same_test f g (yes p run) = yes (f p) run
  same_test f g (never p run) = never (λ q. p (g q)) run

  -- a condition is assumed
  pub truth_tested : (x : t.BExpr) (q : Truth) → bvalue b x E ≡ end.Is (bv.Bool q) → Tests (one (s.Assume x)) (q ≡ true)
  truth_tested x true here = yes refl (λ cs. assume_run ts b x true s.skip E cs here)
  truth_tested x false here = never (λ e. cc) (λ cs. assume_run ts b x false s.skip E cs here)

  -- that a value is nowhere where another map is not 0
  pub avoid_tested : (us : List BBase) (w : BBase) (held m i : ℕ) (mh n : Map Key BScalar) (v : BScalar) → AreThere E us w held m i mh n v → Tests (one (avoid_code us held m i)) (Avoids us mh n v)
  avoid_tested us w held m i mh n v there = by_end (two_ends (avoid_ends ts b us E w held m i mh n v there []))
    where
      two_ends : {cs : List BChoice} {run : r.Run} → GoesOrBlocks E cs run → (run ≡ Done E cs) ⊎ (run ≡ Stops r.Blocked cs)
      two_ends pattern.goes = inl refl
      two_ends pattern.blocks = inr refl

      code : s.BStmt
      code = avoid_code us held m i

      one_run : (cs : List BChoice) → brun ts b (one code) E cs ≡ brun_stmt ts b code E cs
      one_run cs = then_done (brun_stmt ts b code E cs)

      blocked : (Avoids us mh n v → ⊥) → (cs : List BChoice) → brun_stmt ts b code E cs ≡ Stops r.Blocked cs
      blocked never_so cs = elim (two_ends (avoid_ends ts b us E w held m i mh n v there cs)) [ inl done ↦ absurd (never_so (avoid_done ts b us E w held m i mh n v there cs E cs done).0) | inr stops ↦ stops ]

      by_end : (brun_stmt ts b code E [] ≡ Done E []) ⊎ (brun_stmt ts b code E [] ≡ Stops r.Blocked []) → Tests (one code) (Avoids us mh n v)
      by_end (inl done) =
          let avoids = (avoid_done ts b us E w held m i mh n v there [] E [] done).0 in
          yes avoids (λ cs. one_run cs ∙ avoid_goes ts b us E w held m i mh n v there cs avoids)
      by_end (inr stops) =
          let other : Avoids us mh n v → ⊥ = λ avoids. is_done (sym (avoid_goes ts b us E w held m i mh n v there [] avoids) ∙ stops) in
          never other (λ cs. one_run cs ∙ blocked other cs)
        where
          is_done : Done E [] ≡ Stops r.Blocked [] → ⊥
          is_done e = cc

  -- A test of each number from i on, the first of which the first statements see to.
  pub row_tested : (P : ℕ → Type 0) (i m : ℕ) (xs ys : BStmts) → Tests xs (P i) → Tests ys ((j : ℕ) → j < m → P (i + 1 + j)) → Tests (join xs ys) ((j : ℕ) → j < suc m → P (i + j))
  row_tested P i m xs ys first rest =
      same_test (λ both j below. each j below both)
      (λ all. (subst P (omega arith) (all 0 (omega arith)), λ j below. subst P (omega arith) (all (suc j) (omega (arith, below))))) (both_tested xs ys first rest)
    where
      each : (j : ℕ) → j < suc m → P i × ((j : ℕ) → j < m → P (i + 1 + j)) → P (i + j)
      each zero below both = subst P (omega arith) both.0
      each (suc j) below both = subst P (omega arith) (both.1 j (omega (arith, below)))

  -- a run that goes on where it holds
  pub tested_along : {P Z : Type 0} {layout : Layout} {R : Z → Env → Type 0} (q : Truth) (xs ys : BStmts) (v : Run Z) → Decides q P → Tests xs P → (P → Along b layout R v (λ cs. brun ts b ys E cs)) →
      Along b layout R (if q then v else ended blocks) (λ cs. brun ts b (join xs ys) E cs)
  tested_along {layout = layout} true xs ys v decides (yes p f) go = run_alongside ⊥ b layout (λ cs. join_done ts b xs ys E E cs cs (f cs)) (go p)
  tested_along false xs ys v decides (yes p f) go = absurd (let other : false ≡ true = decides.1 p in cc)
  tested_along true xs ys v decides (never p f) go = absurd (p (decides.0 refl))
  tested_along {layout = layout} false xs ys v decides (never p f) go = ended_alongside ⊥ b layout blocks (λ cs. alike_run (stops_first ts b xs ys E r.Blocked cs cs (f cs)) (stopped_first cs))
