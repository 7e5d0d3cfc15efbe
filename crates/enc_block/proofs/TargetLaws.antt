-- Targets take any values.
use Rattle.std.proofs.Common.{◌≡◌, ◌≢◌, ℕ, zero, suc, List, [], ◌∷◌, map, Some, None, All, AllPairs, slice_get, slice_set, refl, sym, ap, subst, ◌∙◌, arith}
use Rattle.std.proofs.lemmas.List.Elements.{All-nil, All-cons, All-head, All-tail}
use Rattle.std.proofs.lemmas.Option.{same_Some}
use Rattle.vb_value.specs.Bound.{Bound}
use Rattle.vb_value.specs.Layout.{Layout}
use Rattle.vb_value.specs.Value.{IsProperValue}
use Rattle.vb_value.specs.declared.values.Ty.{Ty}
use Rattle.vb_value.specs.declared.values.Value.{Value}
use Rattle.viper_core.specs.Scope.{Scope}
use Rattle.viper_core.specs.Typing.{MethodContext, AreTargets, nothing, also, Receive, assigned, declared}
use Rattle.viper_state.specs.Fits.{FitsStore, FitsValue}
use Rattle.viper_state.proofs.Paired.{get_set_same, get_set_other}
use Rattle.viper_meaning.specs.Ends.{is}
use Rattle.viper_meaning.specs.Run.{Run, goes, then_do}
use Rattle.viper_meaning.specs.Statements.{Activation, Configuration, with_variable, stored, taking_value, taking_values}
use Rattle.viper_meaning.proofs.StatementFitsLaws.{set_fits}
use Rattle.boogie_tree.specs.Program.{BType}
use Rattle.boogie_tree.specs.Value.{BChoice, One}
use Rattle.boogie_meaning.specs.Run as r
use Rattle.boogie_meaning.specs.Run.{brun, Done}
use Rattle.moves.specs.Scalars.{scalar}
use Rattle.enc_expr.specs.Place.{number}
use Rattle.enc_expr.specs.Code.{puts}
use Rattle.enc_expr.specs.Coupling.{Env}
use Rattle.enc_expr.specs.Alike as alike
use Rattle.enc_expr.specs.Alike.{KeptBut, AreLocated}
use Rattle.enc_expr.proofs.AlikeLaws.{is_alike}
use Rattle.enc_expr.proofs.CodeLaws.{puts_counted}
use Rattle.enc_expr.proofs.FrameLaws.{kept_itself, but_from, but_then, but_set}
use Rattle.enc_expr.proofs.RunLaws.{then_done}
use Rattle.enc_expr.proofs.Simulated.{IsCounted}
use Rattle.enc_assert.proofs.AlongsideLaws.{run_alongside, ended_alongside, then_alongside}
use Rattle.enc_block.specs.Encoding.{havoc_code}
use Rattle.enc_block.specs.Home.{Home, IsHome, IsAt}
use Rattle.enc_block.proofs.GoingLaws.{Along, found_along}
use Rattle.enc_block.proofs.HomeLaws.{at_set, variable_at}
use Rattle.enc_block.proofs.KindLaws.{IsFine, reduced_of, havoc_along}

pub havoc_counted : (h : Home) (xs : List ℕ) → IsCounted (puts None (havoc_code h xs))
havoc_counted h xs = puts_counted None (havoc_code h xs)

-- a run that goes on with what is made of its value
pub then_goes : {X Y : Type 0} {b : Bound} {layout : Layout} {Q : X → Env → Type 0} {R : Y → Env → Type 0} (v : Run X) (f : X → Y) {run : List BChoice → r.Run} → ((x : X) (F : Env) → Q x F → R (f x) F) →
    Along b layout Q v run → Along b layout R (then_do v (λ x. goes (f x))) run
then_goes {b = b} {layout} v f {run} make h =
    run_alongside ⊥ b layout (λ cs. sym (then_done (run cs)))
    (then_alongside ⊥ b layout {to = λ F rest. Done F rest} v (λ x. goes (f x)) (λ x F q. ended_alongside ⊥ b layout (is (f x)) (λ cs. is_alike (make x F q))) h)

-- a variable of the method
abbrev pub IsVariableOf : Activation → ℕ → Type 0
IsVariableOf k x = (u : Ty) × (slice_get k.vars x ≡ Some u)

-- where the variables have these values
abbrev pub with_stored : Configuration → List ℕ → List Value → Configuration
with_stored d xs vs = record d { store = stored d.store xs vs }

-- each of the variables has taken a value of its type
pub data AreTaken (b : Bound) (us : List Ty) : List ℕ → List Value → Type 0 where
  none : AreTaken b us [] []
  more : {x : ℕ} {xs : List ℕ} {v : Value} {vs : List Value} (u : Ty) → slice_get us x ≡ Some u → IsFine b u v → AreTaken b us xs vs → AreTaken b us (x ∷ xs) (v ∷ vs)

fine_fits : {b : Bound} {u : Ty} {v : Value} → IsFine b u v → FitsValue u v
fine_fits {v = v} fine = record { typed = fine.typed; reduced = reduced_of _ v fine.proper }

pub taken_proper : {b : Bound} {us : List Ty} {xs : List ℕ} {vs : List Value} → AreTaken b us xs vs → All (IsProperValue b) vs
taken_proper {b} none = All-nil (IsProperValue b)
taken_proper {b} (more {v = v} {vs = vs} u there fine rest) = All-cons (IsProperValue b) v vs fine.proper (taken_proper rest)

targets_fit : {b : Bound} {m : MethodContext} {sc : Scope} {xs : List ℕ} {ys : List Ty} {vs : List Value} → AreTargets m sc xs ys → AreTaken b m.vars xs vs → FitsStore ys vs
targets_fit nothing none = tt
targets_fit (also {u = y} target targets) (more {v = v} u there fine rest) =
    let same : u ≡ y = same_Some u y (sym there ∙ target.typed) in
    (subst (λ z. FitsValue z v) same (fine_fits fine), targets_fit targets rest)

-- the values are of the types of what is received
pub taken_fit : {b : Bound} {m : MethodContext} {sc : Scope} {xs : List ℕ} {ys : List Ty} {vs : List Value} → Receive m sc xs ys → AreTaken b m.vars xs vs → FitsStore ys vs
taken_fit (assigned targets differ) taken = targets_fit targets taken
taken_fit (declared {u = y} fresh typed) (more {v = v} u there fine none) =
    let same : u ≡ y = same_Some u y (sym there ∙ typed) in
    (subst (λ z. FitsValue z v) same (fine_fits fine), tt)

targets_there : (k : Activation) {m : MethodContext} {sc : Scope} {xs : List ℕ} {ys : List Ty} → m.vars ≡ k.vars → AreTargets m sc xs ys → All (IsVariableOf k) xs
targets_there k same nothing = All-nil (IsVariableOf k)
targets_there k same (also {x = x} {xs = xs} {u = u} target targets) = All-cons (IsVariableOf k) x xs (u, ap (λ us. slice_get us x) (sym same) ∙ target.typed) (targets_there k same targets)

-- what is received is variables of the method
pub received_there : (k : Activation) {m : MethodContext} {sc : Scope} {xs : List ℕ} {ys : List Ty} → m.vars ≡ k.vars → Receive m sc xs ys → All (IsVariableOf k) xs
received_there k same (assigned targets differ) = targets_there k same targets
received_there k same (declared {x = x} {u = u} fresh typed) = All-cons (IsVariableOf k) x [] (u, ap (λ us. slice_get us x) (sym same) ∙ typed) (All-nil (IsVariableOf k))

-- and they differ
pub received_differ : {m : MethodContext} {sc : Scope} {xs : List ℕ} {ys : List Ty} → Receive m sc xs ys → AllPairs (λ x y. x ≢ y) xs
received_differ (assigned targets differ) = differ
received_differ (declared fresh typed) = λ i j d low within. absurd (omega (arith, low, within))

-- ---- values in the store

-- of other variables the values stay
stored_other : (store : List Value) (xs : List ℕ) (vs : List Value) (x : ℕ) → All (λ y. x ≢ y) xs → slice_get (stored store xs vs) x ≡ slice_get store x
stored_other store [] vs x differ = refl
stored_other store (y ∷ ys) [] x differ = refl
stored_other store (y ∷ ys) (v ∷ vs) x differ =
    stored_other (slice_set store y v) ys vs x (All-tail (λ y. x ≢ y) y ys differ) ∙ get_set_other store y x v (λ e. All-head (λ y. x ≢ y) y ys differ (sym e))

-- a variable of a type has a value
value_there : (us : List Ty) (store : List Value) (x : ℕ) (u : Ty) → FitsStore us store → slice_get us x ≡ Some u → (v : Value) × (slice_get store x ≡ Some v)
value_there [] store x u fits there = absurd (cc)
value_there (w ∷ us) [] x u fits there = elim fits [ ]
value_there (w ∷ us) (v ∷ store) zero u fits there = (v, refl)
value_there (w ∷ us) (v ∷ store) (suc x) u fits there = value_there us store x u fits.1 there

module _ {ts : List BType} {b : Bound} {k : Activation} {h : Home} where
  -- the locals of the variables hold what was taken
  pub taken_located : {n : ℕ} (d : Configuration) {F : Env} {xs : List ℕ} {vs : List Value} → AllPairs (λ x y. x ≢ y) xs → FitsStore k.vars d.store → AreTaken b k.vars xs vs → IsAt ts b k h n (with_stored d xs vs) F →
      AreLocated n F (map (number h.vars) xs) vs
  taken_located d differ fits none it = alike.AreLocated.none
  taken_located {n} d {F} differ fits (more {x = x} {xs = xs} {v = v} {vs = vs} u there fine rest) it =
      let own = variable_at it x u there in
      let old = value_there k.vars d.store x u fits there in
      let others : All (λ y. x ≢ y) xs = λ i c within. differ zero (suc i) c (omega arith) (omega (arith, within)) in
      let same : own.v ≡ v = same_Some own.v v (sym own.there ∙ stored_other (slice_set d.store x v) xs vs x others ∙ get_set_same d.store x old.0 v old.1) in
      alike.AreLocated.more own.below (subst (λ w. slice_get F (number h.vars x) ≡ Some (One (scalar w))) same own.here)
      (taken_located (with_variable d x v) (λ i j c low within. differ (suc i) (suc j) c (omega (arith, low)) (omega (arith, within))) (set_fits k.vars d.store x u v fits there (fine_fits fine)) rest it)

-- ---- runs

-- it is the local of a variable
pub record IsVariableLocal (k : Activation) (h : Home) (i : ℕ) : Type 0 where
  pub variable : ℕ
  pub ty : Ty
  pub exists : slice_get k.vars variable ≡ Some ty
  pub there : i ≡ number h.vars variable

module _ (ts : List BType) (b : Bound) (k : Activation) (h : Home) (home : IsHome ts k h) where
  -- The targets have taken values, and the configuration stands there with them. Nothing but locals of variables was changed.
  pub record WereTaken (n : ℕ) (d : Configuration) (E : Env) (xs : List ℕ) (vs : List Value) (F : Env) : Type 0 where
    pub at : IsAt ts b k h n (with_stored d xs vs) F
    pub kept : KeptBut (IsVariableLocal k h) n E F
    pub taken : AreTaken b k.vars xs vs

  pub targets_along : (xs : List ℕ) → All (IsVariableOf k) xs → (n : ℕ) (d : Configuration) (E : Env) → IsAt ts b k h n d E →
      Along b k.program.layout (WereTaken n d E xs) (taking_values k.vars xs) (λ cs. brun ts b (havoc_code h xs) E cs)
  targets_along [] all n d E it = ended_alongside ⊥ b k.program.layout (is []) (λ cs. is_alike (record { at = it; kept = but_from (kept_itself n E); taken = none }))
  targets_along (x ∷ xs) all n d E it =
      let own = All-head (IsVariableOf k) x xs all in let u = own.0 in
      found_along (slice_get k.vars x) u (λ u. taking_value u (λ v. then_do (taking_values k.vars xs) (λ vs. goes (v ∷ vs)))) own.1
      (havoc_along ts b k.program.layout E (number h.vars x) u (havoc_code h xs) (λ v. then_do (taking_values k.vars xs) (λ vs. goes (v ∷ vs))) (home.types x u own.1) (λ v fine.
      then_goes (taking_values k.vars xs) (λ vs. v ∷ vs) (λ vs F q. record { at = q.at; kept = but_then (omega arith) (but_set n E (number h.vars x) (One (scalar v)) (record { variable = x; ty = u; exists = own.1; there = refl })) q.kept; taken = more u own.1 fine q.taken })
      (targets_along xs (All-tail (IsVariableOf k) x xs all) n (with_variable d x v) _ (at_set home x u v own.1 fine.typed fine.proper (fine_fits fine) it))))
