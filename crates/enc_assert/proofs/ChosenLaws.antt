-- An amount is chosen, which is positive, and then a row goes on.
use Rattle.std.specs.Bool.{⊤}
use Rattle.std.proofs.Common.{◌≡◌, ◌+◌, ◌<◌, ℕ, Bool as Truth, true, false, not, List, [], ◌∷◌, Some, None, length, slice_get, slice_set, if◌then◌else◌, ◌⊎◌, inl, inr, refl, sym, ap, subst, ◌∙◌, arith}
use Rattle.std.proofs.lemmas.Option.{same_Some}
use Rattle.vb_value.specs.Bound.{Bound}
use Rattle.vb_value.specs.Layout.{Layout}
use Rattle.vb_value.specs.Fraction.{Fraction, IsProperFraction, is_positive}
use Rattle.viper_state.specs.Choice as choice
use Rattle.viper_state.specs.Choice.{Choice}
use Rattle.viper_state.specs.Event as event
use Rattle.viper_meaning.specs.Ends.{Evaluated, blocks, unless}
use Rattle.viper_meaning.specs.Run.{ended, amount_in, taking_amount}
use Rattle.boogie_tree.specs.Expr as t
use Rattle.boogie_tree.specs.Program.{BType}
use Rattle.boogie_tree.specs.Stmt.{BStmts}
use Rattle.boogie_tree.specs.Value as bv
use Rattle.boogie_tree.specs.Value.{BChoice, One, Real}
use Rattle.boogie_tree.specs.Values.{plain_type}
use Rattle.boogie_tree.specs.declared.exprs.BBase.TheVariants as base
use Rattle.boogie_tree.specs.declared.exprs.BOp.TheVariants as op
use Rattle.boogie_meaning.specs.Ends as end
use Rattle.boogie_meaning.specs.Quantified.{bvalue}
use Rattle.boogie_meaning.specs.Run as r
use Rattle.boogie_meaning.specs.Run.{Stops, brun}
use Rattle.boogie_meaning.proofs.PatternLaws.{set_here}
use Rattle.enc_expr.specs.Code.{join}
use Rattle.enc_expr.specs.Pieces.{zero_real}
use Rattle.enc_expr.specs.Coupling.{Env}
use Rattle.enc_expr.specs.Alike.{Alike, HasAtom, variable}
use Rattle.enc_expr.specs.Boundary.{HasEnded}
use Rattle.enc_expr.proofs.RunLaws.{assume_run, atom_value}
use Rattle.enc_expr.proofs.AmountLaws.{positive_test}
use Rattle.enc_expr.proofs.OperatorLaws.{plain_value}
use Rattle.enc_expr.proofs.OpeningLaws.{alike_run, unless_alike}
use Rattle.enc_expr.proofs.FillLaws.{stopped_first}
use Rattle.enc_assert.specs.Encoding.{some_amount}
use Rattle.enc_assert.specs.Alongside.{IsGiven, IsProperMove, Waits, AreAlongside}
use Rattle.enc_assert.proofs.AlongsideLaws.{Kind, ended_alongside, chosen_alongside}

-- ---- an amount

pub amount_proper : (b : Bound) (layout : Layout) (c : Choice) (q : Fraction) → IsGiven b layout c → amount_in c ≡ Some q → IsProperFraction b q
amount_proper b layout (choice.Amount q) w given same = subst (IsProperFraction b) (same_Some _ _ same) given.proper
amount_proper b layout (choice.Branch p) w given same = absurd cc
amount_proper b layout (choice.Took v) w given same = absurd cc
amount_proper b layout (choice.Fresh x) w given same = absurd cc
amount_proper b layout (choice.Filled m) w given same = absurd cc

abbrev pub amount_choice : (b : Bound) (layout : Layout) → Kind b layout Fraction
amount_choice b layout = record {
  kind = amount_in;
  event = λ q. event.Wild q;
  give = λ q. choice.Amount q;
  move = λ q. bv.Value (Real q);
  Fine = IsProperFraction b;
  is_kind = λ q proper. refl;
  is_move = λ q. refl;
  fine = amount_proper b layout;
  gives = λ q proper. record { proper = proper; fits = proper.reduced };
}

module _ (ts : List BType) (b : Bound) (layout : Layout) (n : ℕ) (F : Env) (local : slice_get ts n ≡ Some (plain_type base.Real)) (long : n < length F) where
  abbrev positive : t.BExpr
  positive = t.Bin op.Gt (t.Var n) zero_real

  abbrev chose : Fraction → Env
  chose w = slice_set F n (One (Real w))

  asked : (w : Fraction) → IsProperFraction b w → bvalue b positive (chose w) ≡ end.Is (bv.Bool (is_positive w))
  asked w proper =
      let atom : HasAtom (n + 1) (chose w) (t.Var n) (Real w) = variable (omega arith) (set_here F n (One (Real w)) long) in
      plain_value b op.Gt (t.Var n) zero_real _ _ (chose w) refl (atom_value b (n + 1) (chose w) (t.Var n) (Real w) atom) refl ∙ positive_test b w proper

  pub some_alongside : {X : Type 0} {Q : X → Env → Type 0} (row : BStmts) (go : Fraction → Evaluated X) → ((w : Fraction) → IsProperFraction b w → is_positive w ≡ true → (ds : List BChoice) → Alike Q b (go w) ds (brun ts b row (chose w) ds)) →
      AreAlongside ⊤ b layout Q (taking_amount (λ w. ended (unless (not (is_positive w)) blocks (go w)))) (λ cs. brun ts b (join (some_amount n) row) F cs)
  some_alongside row go h =
      chosen_alongside ⊤ b layout (amount_choice b layout) (λ w. ended (unless (not (is_positive w)) blocks (go w))) (λ cs. brun ts b (join (some_amount n) row) F cs) (λ w. subst Waits (sym none) tt)
      (λ w proper.
      let tested : (ds : List BChoice) → brun ts b (join (some_amount n) row) F (bv.Value (Real w) ∷ ds) ≡ (if is_positive w then brun ts b row (chose w) ds else Stops r.Blocked ds) =
      λ ds. (rw local refl) ∙ assume_run ts b positive (is_positive w) row (chose w) ds (asked w proper) in
      ended_alongside ⊤ b layout _ (λ ds.
      unless_alike (not (is_positive w))
      (λ no. alike_run (tested ds ∙ ap (λ (z : Truth). if z then brun ts b row (chose w) ds else Stops r.Blocked ds) (not_true _ no)) (stopped_first ds))
      (λ yes. let sign = not_false _ yes in alike_run (tested ds ∙ ap (λ (z : Truth). if z then brun ts b row (chose w) ds else Stops r.Blocked ds) sign) (h w proper sign ds))))
      (λ is_over. subst HasEnded none is_over)
      (λ d rest proper is_over. elim (real_chosen d proper) [ inl other ↦ absurd (subst HasEnded (wrong d rest other) is_over) | inr k ↦ k ])
    where
      none : brun ts b (join (some_amount n) row) F [] ≡ Stops r.Short []
      none = rw local refl

      wrong : (d : BChoice) (rest : List BChoice) → r.chosen (plain_type base.Real) d ≡ None → brun ts b (join (some_amount n) row) F (d ∷ rest) ≡ Stops r.Blocked rest
      wrong d rest other = rw (local, other) refl

      real_chosen : (d : BChoice) → IsProperMove b d → (r.chosen (plain_type base.Real) d ≡ None) ⊎ ((q : Fraction) × (IsProperFraction b q × (d ≡ bv.Value (Real q))))
      real_chosen (bv.Value (Real q)) proper = inr (q, (proper, refl))
      real_chosen (bv.Value (bv.Int n)) proper = inl refl
      real_chosen (bv.Value (bv.Bool q)) proper = inl refl
      real_chosen (bv.Value (bv.Ref x)) proper = inl refl
      real_chosen (bv.Value (bv.Snap d)) proper = inl refl
      real_chosen (bv.Pick q) proper = inl refl
      real_chosen (bv.Entries es) proper = inl refl

      not_true : (z : Truth) → not z ≡ true → z ≡ false
      not_true true h = sym h
      not_true false h = refl

      not_false : (z : Truth) → not z ≡ false → z ≡ true
      not_false true h = refl
      not_false false h = sym h
