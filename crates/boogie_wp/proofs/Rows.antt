-- The worked examples, by computation.
use Rattle.std.proofs.Common.{◌≡◌, pos, ℤ, Bool as Truth, true, false, List, [], ◌∷◌, refl, sym, ap, subst, ◌∙◌}
use Rattle.std.specs.Ordering.{int_cmp, is_lt}
use Rattle.vb_base.specs.declared.labels.Label.{Label}
use Rattle.vb_value.specs.Bound.{Unbounded}
use Rattle.boogie_tree.specs.Program.{BType, Proc}
use Rattle.boogie_tree.specs.Value.{BValue, Int, Bool, Ref, Real, Snap, BChoice}
use Rattle.boogie_tree.specs.Values.{IsEnvironment, IsOfType, one, many, plain_type}
use Rattle.boogie_tree.specs.declared.exprs.BBase.TheVariants as base
use Rattle.boogie_meaning.specs.Ends.{Is}
use Rattle.boogie_meaning.specs.Run.{Done, Stop, Stops, Failed, asserted, then_run}
use Rattle.boogie_meaning.specs.Programs.{brun_proc, FailsAt}
use Rattle.boogie_formula.specs.Choices.{variables_of, locals_in, choices_in, where_done}
use Rattle.boogie_formula.specs.Follows.{ConditionsFollow, Follows}
use Rattle.boogie_formula.specs.Formula.{Conditions, Formula}
use Rattle.boogie_formula.specs.Value.{formula_value, FailsIn, Valid}
use Rattle.boogie_wp.specs.Worked.{bool, chosen, elsewhere, here, int, joining, picking, twice}

module _ (d : Proc) (label : Label) (f : Formula) (h : Follows d label f) (values : List BValue) (typed : IsEnvironment (variables_of d) values) where
  typed_here : IsEnvironment f.vars values
  typed_here = subst (λ us. IsEnvironment us values) (sym h.vars) typed

  is_false : FailsAt label (brun_proc Unbounded d (locals_in d values) (choices_in d values)) → formula_value f values ≡ Is false
  is_false fails = (h.falls values typed_here).1 fails

  is_true : (FailsAt label (brun_proc Unbounded d (locals_in d values) (choices_in d values)) → ⊥) → formula_value f values ≡ Is true
  is_true passes = by_truth (h.is_truth values typed_here).0 (h.is_truth values typed_here).1
    where
      by_truth : (p : Truth) → formula_value f values ≡ Is p → formula_value f values ≡ Is true
      by_truth true e = e
      by_truth false e = absurd (passes ((h.falls values typed_here).0 e))

module _ (d : Proc) (label : Label) (x : Conditions) (h : ConditionsFollow d x) (values : List BValue) (typed : IsEnvironment (variables_of d) values) where
  so_typed : IsEnvironment x.vars values
  so_typed = subst (λ us. IsEnvironment us values) (sym h.vars) typed

  fails_there : FailsAt label (brun_proc Unbounded d (locals_in d values) (choices_in d values)) → FailsIn x values label
  fails_there fails = (h.fail values so_typed label).1 fails

  passes_there : (FailsAt label (brun_proc Unbounded d (locals_in d values) (choices_in d values)) → ⊥) → FailsIn x values label → ⊥
  passes_there passes g = passes ((h.fail values so_typed label).0 g)

done_passes : (label : Label) (env : List BValue) (cs : List BChoice) → FailsAt label (Done env cs) → ⊥
done_passes label env cs h = let e = h.is in absurd (cc)

an_int : (n : ℤ) → IsOfType (int n) (plain_type base.Int)
an_int n = one (record { typed = refl; reduced = tt })

a_bool : (p : Truth) → IsOfType (bool p) (plain_type base.Bool)
a_bool p = one (record { typed = refl; reduced = tt })

why_is : (w v : Stop) (cs ds : List BChoice) → Stops w cs ≡ Stops v ds → w ≡ v
why_is w v cs ds e = cc

label_is : (l m : Label) → Failed l ≡ Failed m → l ≡ m
label_is l m e = cc

elsewhere_passes : (left : List BChoice) → Stops (Failed here) [] ≡ Stops (Failed elsewhere) left → ⊥
elsewhere_passes left e =
    let same : here ≡ elsewhere = label_is here elsewhere (why_is (Failed here) (Failed elsewhere) [] left e) in
    let kinds : here.kind ≡ elsewhere.kind = ap (λ (l : Label). l.kind) same in
    absurd (cc)

-- ---- a chosen value

pub chosen_fails : (f : Formula) → Follows chosen here f → (x : ℤ) → formula_value f (int x ∷ int (pos 5) ∷ []) ≡ Is false
chosen_fails f h x = is_false chosen here f h (int x ∷ int (pos 5) ∷ []) (an_int x, (an_int (pos 5), tt)) (record { left = []; is = refl })

pub chosen_holds : (f : Formula) → Follows chosen here f → (x : ℤ) → formula_value f (int x ∷ int (pos 2) ∷ []) ≡ Is true
chosen_holds f h x = is_true chosen here f h (int x ∷ int (pos 2) ∷ []) (an_int x, (an_int (pos 2), tt)) (done_passes here (int (pos 2) ∷ []) [])

int_there : (v : BValue) (u : BType) → IsOfType v u → u ≡ plain_type base.Int → (n : ℤ) × (v ≡ int n)
int_there _ _ (one {v = Int n} f) e = (n, refl)
int_there _ _ (one {v = Bool p} f) e = let s : base.Bool ≡ base.Int = f.typed ∙ ap (λ (x : BType). x.base) e in absurd (cc)
int_there _ _ (one {v = Ref p} f) e = let s : base.Ref ≡ base.Int = f.typed ∙ ap (λ (x : BType). x.base) e in absurd (cc)
int_there _ _ (one {v = Real p} f) e = let s : base.Real ≡ base.Int = f.typed ∙ ap (λ (x : BType). x.base) e in absurd (cc)
int_there _ _ (one {v = Snap p} f) e = let s : base.Snap ≡ base.Int = f.typed ∙ ap (λ (x : BType). x.base) e in absurd (cc)
int_there _ _ (many {u = u} {us = us} m) e = let n : u ∷ us ≡ [] = ap (λ (x : BType). x.keys) e in absurd (cc)

asserted_passes : (env : List BValue) (p : Truth) → FailsAt elsewhere (then_run (asserted here env (where_done (asserted here env [] p) (λ e. [])) p) (λ e cs. Done e cs)) → ⊥
asserted_passes env true h = done_passes elsewhere env [] h
asserted_passes env false h = elsewhere_passes h.left h.is

abbrev Passes : List BValue → Type 0
Passes values = FailsAt elsewhere (brun_proc Unbounded chosen (locals_in chosen values) (choices_in chosen values)) → ⊥

int_passes : (v : BValue) (n : ℤ) → Passes (v ∷ int n ∷ [])
int_passes v n = asserted_passes (int n ∷ []) (is_lt (int_cmp n (pos 3)))

chosen_passes : (values : List BValue) → IsEnvironment (variables_of chosen) values → Passes values
chosen_passes [] h = absurd h
chosen_passes (v ∷ []) h = absurd h.1
chosen_passes (v ∷ w ∷ x ∷ vs) h = absurd h.1.1
chosen_passes (v ∷ w ∷ []) h =
    let a = int_there w (plain_type base.Int) h.1.0 refl in
    subst (λ y. Passes (v ∷ y ∷ [])) (sym a.1) (int_passes v a.0)

pub chosen_elsewhere : (f : Formula) → Follows chosen elsewhere f → Valid f
chosen_elsewhere f h = record {
  holds = λ values typed.
      let at = subst (λ us. IsEnvironment us values) h.vars typed in
      is_true chosen elsewhere f h values at (chosen_passes values at);
}

-- ---- an earlier assertion

here_passes : (left : List BChoice) → Stops (Failed elsewhere) [] ≡ Stops (Failed here) left → ⊥
here_passes left e =
    let same : elsewhere ≡ here = label_is elsewhere here (why_is (Failed elsewhere) (Failed here) [] left e) in
    let kinds : elsewhere.kind ≡ here.kind = ap (λ (l : Label). l.kind) same in
    absurd (cc)

pub twice_before : (f : Formula) → Follows twice here f → formula_value f (int (pos 7) ∷ []) ≡ Is true
twice_before f h = is_true twice here f h (int (pos 7) ∷ []) (an_int (pos 7), tt) (λ g. here_passes g.left g.is)

pub twice_at_it : (f : Formula) → Follows twice elsewhere f → formula_value f (int (pos 7) ∷ []) ≡ Is false
twice_at_it f h = is_false twice elsewhere f h (int (pos 7) ∷ []) (an_int (pos 7), tt) (record { left = []; is = refl })

-- ---- a join

pub joining_first : (f : Formula) → Follows joining here f → formula_value f (int (pos 0) ∷ []) ≡ Is true
joining_first f h = is_true joining here f h (int (pos 0) ∷ []) (an_int (pos 0), tt) (done_passes here (int (pos 3) ∷ []) [])

pub joining_second : (f : Formula) → Follows joining here f → formula_value f (int (pos 4) ∷ []) ≡ Is false
joining_second f h = is_false joining here f h (int (pos 4) ∷ []) (an_int (pos 4), tt) (record { left = []; is = refl })

-- ---- a pick

pub picking_taken : (f : Formula) → Follows picking here f → formula_value f (int (pos 0) ∷ bool true ∷ int (pos 5) ∷ []) ≡ Is false
picking_taken f h = is_false picking here f h (int (pos 0) ∷ bool true ∷ int (pos 5) ∷ []) (an_int (pos 0), (a_bool true, (an_int (pos 5), tt))) (record { left = []; is = refl })

pub picking_skipped : (f : Formula) → Follows picking here f → formula_value f (int (pos 0) ∷ bool false ∷ int (pos 5) ∷ []) ≡ Is true
picking_skipped f h = is_true picking here f h (int (pos 0) ∷ bool false ∷ int (pos 5) ∷ []) (an_int (pos 0), (a_bool false, (an_int (pos 5), tt))) (done_passes here (int (pos 0) ∷ []) [])

-- ---- the assertions of conditions

pub own_first : (x : Conditions) → ConditionsFollow twice x → FailsIn x (int (pos 7) ∷ []) elsewhere
own_first x h = fails_there twice elsewhere x h (int (pos 7) ∷ []) (an_int (pos 7), tt) (record { left = []; is = refl })

pub own_not_behind : (x : Conditions) → ConditionsFollow twice x → FailsIn x (int (pos 7) ∷ []) here → ⊥
own_not_behind x h = passes_there twice here x h (int (pos 7) ∷ []) (an_int (pos 7), tt) (λ g. here_passes g.left g.is)

pub own_none : (x : Conditions) → ConditionsFollow twice x → FailsIn x (int (pos 2) ∷ []) elsewhere → ⊥
own_none x h = passes_there twice elsewhere x h (int (pos 2) ∷ []) (an_int (pos 2), tt) (done_passes elsewhere (int (pos 2) ∷ []) [])

pub joined_second : (x : Conditions) → ConditionsFollow joining x → FailsIn x (int (pos 4) ∷ []) here
joined_second x h = fails_there joining here x h (int (pos 4) ∷ []) (an_int (pos 4), tt) (record { left = []; is = refl })

pub joined_not_first : (x : Conditions) → ConditionsFollow joining x → FailsIn x (int (pos 0) ∷ []) here → ⊥
joined_not_first x h = passes_there joining here x h (int (pos 0) ∷ []) (an_int (pos 0), tt) (done_passes here (int (pos 3) ∷ []) [])
