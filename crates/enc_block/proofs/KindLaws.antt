-- A choice is taken, in a run and in its code: a value of a variable, a new reference, or one of two ways.
use Rattle.std.specs.Bool.{⊤}
use Rattle.std.proofs.Common.{Bool as Truth, true, false, if◌then◌else◌, ◌≡◌, ℕ, Some, None, List, [], ◌∷◌, ◌⊎◌, inl, inr, refl, ap, subst, slice_get, slice_set}
use Rattle.vb_value.specs.Bound.{Bound}
use Rattle.vb_value.specs.Layout.{Layout}
use Rattle.vb_value.specs.Value.{type_of, same_type, IsProperValue, IsReducedValue}
use Rattle.vb_value.specs.declared.values.Ty.{Ty}
use Rattle.vb_value.specs.declared.values.Ty.TheVariants as ty
use Rattle.vb_value.specs.declared.values.Value.{Value}
use Rattle.vb_value.specs.declared.values.Value.TheVariants as v
use Rattle.vb_value.proofs.ReducedLaws.{Decides-same_type}
use Rattle.viper_state.specs.Choice as choice
use Rattle.viper_state.specs.Choice.{Choice}
use Rattle.viper_state.specs.Event as event
use Rattle.viper_meaning.specs.Run.{Run}
use Rattle.viper_meaning.specs.Statements.{branch_in, fresh_in, value_in, taking_branch, taking_fresh, taking_value}
use Rattle.boogie_tree.specs.Program.{BType}
use Rattle.boogie_tree.specs.Stmt as s
use Rattle.boogie_tree.specs.Stmt.{BStmts}
use Rattle.boogie_tree.specs.Value as bv
use Rattle.boogie_tree.specs.Value.{BChoice, One}
use Rattle.boogie_tree.specs.Values.{plain_type}
use Rattle.boogie_tree.specs.declared.exprs.BBase.TheVariants as base
use Rattle.boogie_meaning.specs.Run as r
use Rattle.boogie_meaning.specs.Run.{brun, Stops}
use Rattle.moves.specs.Scalars.{scalar, variable_type}
use Rattle.enc_expr.specs.Pieces.{one}
use Rattle.enc_expr.specs.Coupling.{Env}
use Rattle.enc_expr.specs.Boundary.{HasEnded}
use Rattle.enc_expr.proofs.RunLaws.{then_done}
use Rattle.enc_assert.specs.Alongside.{IsGiven, IsProperMove}
use Rattle.enc_assert.proofs.AlongsideLaws.{Kind, run_alongside, chosen_alongside}
use Rattle.enc_block.proofs.GoingLaws.{Along}

-- ---- values

-- what is proper is reduced
pub reduced_of : (b : Bound) (v : Value) → IsProperValue b v → IsReducedValue v
reduced_of b (v.Int n) proper = tt
reduced_of b (v.Bool q) proper = tt
reduced_of b (v.Ref x) proper = tt
reduced_of b (v.Perm q) proper = proper.reduced

-- a proper value of this type
pub record IsFine (b : Bound) (u : Ty) (v : Value) : Type 0 where
  pub typed : type_of v ≡ u
  pub proper : IsProperValue b v

pub value_is : (u : Ty) (v : Value) → type_of v ≡ u → value_in u (choice.Took v) ≡ Some v
value_is u v typed = ap (λ (q : Truth). if q then Some v else None) ((Decides-same_type (type_of v) u).1 typed)

pub value_fine : (b : Bound) (layout : Layout) (u : Ty) (c : Choice) (w : Value) → IsGiven b layout c → value_in u c ≡ Some w → IsFine b u w
value_fine b layout u (choice.Took v) w given same = where_same (same_type (type_of v) u) refl same
  where
    where_same : (q : Truth) → same_type (type_of v) u ≡ q → (if q then Some v else None) ≡ Some w → IsFine b u w
    where_same true e is =
        let same : v ≡ w = cc in
        subst (IsFine b u) same (record { typed = (Decides-same_type (type_of v) u).0 e; proper = given.proper })
    where_same false e is = absurd cc
value_fine b layout u (choice.Amount q) w given same = absurd cc
value_fine b layout u (choice.Branch p) w given same = absurd cc
value_fine b layout u (choice.Fresh x) w given same = absurd cc
value_fine b layout u (choice.Filled m) w given same = absurd cc

-- the new value of a variable of this type
abbrev pub value_kind : (b : Bound) (layout : Layout) → Ty → Kind b layout Value
value_kind b layout u = record {
  kind = value_in u;
  event = λ v. event.Took v;
  give = λ v. choice.Took v;
  move = λ v. bv.Value (scalar v);
  Fine = IsFine b u;
  is_kind = λ v fine. value_is u v fine.typed;
  is_move = λ v. refl;
  fine = value_fine b layout u;
  gives = λ v fine. record { proper = fine.proper; fits = reduced_of b v fine.proper };
}

-- a choice that gives a local of this type a value is such a value
value_given : (b : Bound) (u : Ty) (c : BChoice) → IsProperMove b c → (r.chosen (variable_type u) c ≡ None) ⊎ ((w : Value) × (IsFine b u w × (c ≡ bv.Value (scalar w))))
value_given b u (bv.Pick q) proper = inl refl
value_given b u (bv.Entries es) proper = inl refl
value_given b ty.Int (bv.Value (bv.Int n)) proper = inr (v.Int n, (record { typed = refl; proper = proper }, refl))
value_given b ty.Bool (bv.Value (bv.Bool q)) proper = inr (v.Bool q, (record { typed = refl; proper = proper }, refl))
value_given b ty.Ref (bv.Value (bv.Ref x)) proper = inr (v.Ref x, (record { typed = refl; proper = proper }, refl))
value_given b ty.Perm (bv.Value (bv.Real q)) proper = inr (v.Perm q, (record { typed = refl; proper = proper }, refl))
value_given b ty.Int (bv.Value (bv.Bool q)) proper = inl refl
value_given b ty.Int (bv.Value (bv.Ref x)) proper = inl refl
value_given b ty.Int (bv.Value (bv.Real q)) proper = inl refl
value_given b ty.Int (bv.Value (bv.Snap d)) proper = inl refl
value_given b ty.Bool (bv.Value (bv.Int n)) proper = inl refl
value_given b ty.Bool (bv.Value (bv.Ref x)) proper = inl refl
value_given b ty.Bool (bv.Value (bv.Real q)) proper = inl refl
value_given b ty.Bool (bv.Value (bv.Snap d)) proper = inl refl
value_given b ty.Ref (bv.Value (bv.Int n)) proper = inl refl
value_given b ty.Ref (bv.Value (bv.Bool q)) proper = inl refl
value_given b ty.Ref (bv.Value (bv.Real q)) proper = inl refl
value_given b ty.Ref (bv.Value (bv.Snap d)) proper = inl refl
value_given b ty.Perm (bv.Value (bv.Int n)) proper = inl refl
value_given b ty.Perm (bv.Value (bv.Bool q)) proper = inl refl
value_given b ty.Perm (bv.Value (bv.Ref x)) proper = inl refl
value_given b ty.Perm (bv.Value (bv.Snap d)) proper = inl refl

-- and such a value is given
value_chosen : (u : Ty) (w : Value) → type_of w ≡ u → r.chosen (variable_type u) (bv.Value (scalar w)) ≡ Some (One (scalar w))
value_chosen u w typed = subst (λ u. r.chosen (variable_type u) (bv.Value (scalar w)) ≡ Some (One (scalar w))) typed (of_its_type w)
  where
    of_its_type : (w : Value) → r.chosen (variable_type (type_of w)) (bv.Value (scalar w)) ≡ Some (One (scalar w))
    of_its_type (v.Int n) = refl
    of_its_type (v.Bool q) = refl
    of_its_type (v.Ref x) = refl
    of_its_type (v.Perm q) = refl

-- ---- references and ways

pub any_reference : (b : Bound) (layout : Layout) (c : Choice) (x : ℕ) → IsGiven b layout c → fresh_in c ≡ Some x → ⊤
any_reference b layout c x given same = tt

-- the reference of a new object
abbrev pub fresh_kind : (b : Bound) (layout : Layout) → Kind b layout ℕ
fresh_kind b layout = record {
  kind = fresh_in;
  event = λ x. event.Fresh x;
  give = λ x. choice.Fresh x;
  move = λ x. bv.Value (bv.Ref x);
  Fine = λ x. ⊤;
  is_kind = λ x fine. refl;
  is_move = λ x. refl;
  fine = any_reference b layout;
  gives = λ x fine. record { proper = tt; fits = tt };
}

pub any_way : (b : Bound) (layout : Layout) (c : Choice) (q : Truth) → IsGiven b layout c → branch_in c ≡ Some q → ⊤
any_way b layout c q given same = tt

-- one of two ways
abbrev pub branch_kind : (b : Bound) (layout : Layout) → Kind b layout Truth
branch_kind b layout = record {
  kind = branch_in;
  event = λ q. event.Branch q;
  give = λ q. choice.Branch q;
  move = λ q. bv.Pick q;
  Fine = λ q. ⊤;
  is_kind = λ q fine. refl;
  is_move = λ q. refl;
  fine = any_way b layout;
  gives = λ q fine. record { proper = tt; fits = tt };
}

way_given : (b : Bound) (c : BChoice) → (r.picked c ≡ None) ⊎ ((q : Truth) × (⊤ × (c ≡ bv.Pick q)))
way_given b (bv.Pick q) = inr (q, (tt, refl))
way_given b (bv.Value w) = inl refl
way_given b (bv.Entries es) = inl refl

-- ---- runs

module _ (ts : List BType) (b : Bound) (layout : Layout) {Z : Type 0} {R : Z → Env → Type 0} (E : Env) where
  -- a local takes any value of this type
  pub havoc_along : (i : ℕ) (u : Ty) (xs : BStmts) (go : Value → Run Z) → slice_get ts i ≡ Some (variable_type u) →
      ((w : Value) → IsFine b u w → Along b layout R (go w) (λ cs. brun ts b xs (slice_set E i (One (scalar w))) cs)) → Along b layout R (taking_value u go) (λ cs. brun ts b (s.first (s.Havoc i) xs) E cs)
  havoc_along i u xs go local h =
      chosen_alongside ⊥ b layout (value_kind b layout u) go (λ cs. brun ts b (s.first (s.Havoc i) xs) E cs) (λ no. absurd no)
      (λ w fine. run_alongside ⊥ b layout (λ cs. taken w cs fine.typed) (h w fine))
      (λ is_over. subst HasEnded none is_over)
      (λ c rest proper is_over. elim (value_given b u c proper) [ inl other ↦ absurd (subst HasEnded (wrong c rest other) is_over) | inr known ↦ known ])
    where
      none : brun ts b (s.first (s.Havoc i) xs) E [] ≡ Stops r.Short []
      none = rw local refl

      wrong : (c : BChoice) (rest : List BChoice) → r.chosen (variable_type u) c ≡ None → brun ts b (s.first (s.Havoc i) xs) E (c ∷ rest) ≡ Stops r.Blocked rest
      wrong c rest other = rw (local, other) refl

      taken : (w : Value) (cs : List BChoice) → type_of w ≡ u → brun ts b (s.first (s.Havoc i) xs) E (bv.Value (scalar w) ∷ cs) ≡ brun ts b xs (slice_set E i (One (scalar w))) cs
      taken w cs typed = rw (local, value_chosen u w typed) refl

  -- a local takes any reference
  pub fresh_along : (i : ℕ) (xs : BStmts) (go : ℕ → Run Z) → slice_get ts i ≡ Some (plain_type base.Ref) →
      ((x : ℕ) → Along b layout R (go x) (λ cs. brun ts b xs (slice_set E i (One (bv.Ref x))) cs)) → Along b layout R (taking_fresh go) (λ cs. brun ts b (s.first (s.Havoc i) xs) E cs)
  fresh_along i xs go local h =
      chosen_alongside ⊥ b layout (fresh_kind b layout) go (λ cs. brun ts b (s.first (s.Havoc i) xs) E cs) (λ no. absurd no)
      (λ x fine. run_alongside ⊥ b layout (λ cs. taken x cs) (h x))
      (λ is_over. subst HasEnded none is_over)
      (λ c rest proper is_over. elim (value_given b ty.Ref c proper) [ inl other ↦ absurd (subst HasEnded (wrong c rest other) is_over) | inr known ↦ reference c known ])
    where
      none : brun ts b (s.first (s.Havoc i) xs) E [] ≡ Stops r.Short []
      none = rw local refl

      wrong : (c : BChoice) (rest : List BChoice) → r.chosen (variable_type ty.Ref) c ≡ None → brun ts b (s.first (s.Havoc i) xs) E (c ∷ rest) ≡ Stops r.Blocked rest
      wrong c rest other = rw (local, other) refl

      taken : (x : ℕ) (cs : List BChoice) → brun ts b (s.first (s.Havoc i) xs) E (bv.Value (bv.Ref x) ∷ cs) ≡ brun ts b xs (slice_set E i (One (bv.Ref x))) cs
      taken x cs = rw local refl

      reference : (c : BChoice) → (w : Value) × (IsFine b ty.Ref w × (c ≡ bv.Value (scalar w))) → (x : ℕ) × (⊤ × (c ≡ bv.Value (bv.Ref x)))
      reference c (v.Ref x, known) = (x, (tt, known.1))
      reference c (v.Int n, known) = let no = known.0.typed in absurd cc
      reference c (v.Bool q, known) = let no = known.0.typed in absurd cc
      reference c (v.Perm q, known) = let no = known.0.typed in absurd cc

  -- one of two blocks runs
  pub either_along : (xs ys : BStmts) (go : Truth → Run Z) → ((q : Truth) → Along b layout R (go q) (λ cs. if q then brun ts b xs E cs else brun ts b ys E cs)) →
      Along b layout R (taking_branch go) (λ cs. brun ts b (one (s.Either xs ys)) E cs)
  either_along xs ys go h =
      chosen_alongside ⊥ b layout (branch_kind b layout) go (λ cs. brun ts b (one (s.Either xs ys)) E cs) (λ no. absurd no)
      (λ q fine. run_alongside ⊥ b layout (λ cs. then_done (if q then brun ts b xs E cs else brun ts b ys E cs)) (h q))
      (λ is_over. is_over)
      (λ c rest proper is_over. elim (way_given b c) [ inl other ↦ absurd (subst HasEnded (wrong c rest other) is_over) | inr known ↦ known ])
    where
      wrong : (c : BChoice) (rest : List BChoice) → r.picked c ≡ None → brun ts b (one (s.Either xs ys)) E (c ∷ rest) ≡ Stops r.Blocked rest
      wrong c rest other = rw other refl
