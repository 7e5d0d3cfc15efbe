-- What a typed statement names is found, so it is not blocked for want of it.
use Rattle.std.proofs.Common.{◌≡◌, inr, refl, ap, ◌∙◌, ℕ, ◌==◌, not, Option, Some, None, List, [], ◌∷◌, ◌++◌, map, slice_get, if◌then◌else◌}
use Rattle.std.proofs.lemmas.List.{append-nil}
use Rattle.vb_base.specs.declared.labels.Kind.TheVariants as kind
use Rattle.vb_base.specs.declared.places.Pos.{Pos}
use Rattle.vb_value.specs.Bound.{Bound}
use Rattle.vb_value.specs.Fraction.{write}
use Rattle.vb_value.specs.Layout.{Layout}
use Rattle.vb_value.specs.Value.{type_of, fraction_eq}
use Rattle.vb_value.specs.declared.values.Ty.{Ty}
use Rattle.vb_value.specs.declared.values.Ty.TheVariants as ty
use Rattle.vb_value.specs.declared.values.Value.{Value}
use Rattle.vb_value.proofs.ReducedLaws.{Decides-same_type}
use Rattle.viper_core.specs.Expr as t
use Rattle.viper_core.specs.Formed.{IsFormed}
use Rattle.viper_core.specs.Plain.{OpensNothing}
use Rattle.viper_core.specs.Program.{Program, Predicate, Method}
use Rattle.viper_core.specs.Stmt as s
use Rattle.viper_core.specs.Scope.{Scope}
use Rattle.viper_core.specs.Typing.{HasType, MethodContext, inside, IsStmt, assigns, initial, writes}
use Rattle.viper_core.specs.declared.programs.Unit.TheVariants as unit
use Rattle.viper_state.specs.Choice as choice
use Rattle.viper_state.specs.Choice.{Choice}
use Rattle.viper_state.specs.Event as event
use Rattle.viper_state.specs.Fits.{FitsMemo, FitsValue, FitsState, FitsScene, FitsEvent}
use Rattle.viper_state.specs.Run.{Opening}
use Rattle.viper_state.specs.State.{Memo, State, mask_at, with_value, with_mask}
use Rattle.viper_state.proofs.FitsLaws.{mask_found}
use Rattle.viper_state.proofs.FitsTestLaws.{Decides-fits_memo}
use Rattle.viper_meaning.specs.Configurations.{FitsConfiguration}
use Rattle.viper_meaning.specs.Ends.{Evaluated, IsNotBlocked, found}
use Rattle.viper_meaning.specs.Forgotten.{forget, forgotten, with_memo}
use Rattle.viper_meaning.specs.Kept.{IsAny}
use Rattle.viper_meaning.specs.Named.{OfTheirTypes, with_fields}
use Rattle.viper_meaning.specs.Run.{Run, ended, goes, noting, evaluating, then_do, given, Goes, Ran, ran, since, on, then_ran}
use Rattle.viper_meaning.specs.Statements.{Activation, Configuration, scene, taking_value, taking_values, with_variable, with_state, field_written, created, called, run_stmt}
use Rattle.viper_meaning.specs.Units.{start_method, start_predicate, run_of_unit, unit_run}
use Rattle.viper_meaning.specs.Value.{value, values}
use Rattle.viper_meaning.proofs.RunLaws.{on-before, on-then}
use Rattle.viper_meaning.proofs.ThenLaws.{goes_then}
use Rattle.viper_meaning.proofs.TypedLaws.{Comes, is_typed, fails_typed, then_typed, there_typed, unless_typed, ref_typed, value_typed}
use Rattle.viper_meaning.proofs.UnblockedLaws.{IsUnblocked, unblocked, ended_unblocked, evaluating_unblocked}

pub found_then : {X Y : Type 0} (o : Option X) (go : X → Run Y) (x : X) → o ≡ Some x → evaluating (found o) go ≡ go x
found_then o go x e = ap (λ p. evaluating (found p) go) e ∙ goes_then x go

pub since_nothing : {X : Type 0} (r : Ran X) → since [] r ≡ r
since_nothing (ran events step left) = refl

-- ---- values that are taken

took : {X : Type 0} (u : Ty) (v : Value) (go : Value → Run X) (more : List Choice) → type_of v ≡ u → on (taking_value u go) (choice.Took v ∷ more) ≡ since (event.Took v ∷ []) (on (go v) more)
took u v go more e =
    ap (λ b. since [] (on (given (if b then Some v else None) (λ w. noting (event.Took w) (go w))) more)) ((Decides-same_type (type_of v) u).1 e) ∙ since_nothing (on (noting (event.Took v) (go v)) more) ∙
    on-before (event.Took v ∷ []) (go v) more

found_took : {X : Type 0} (us : List Ty) (x : ℕ) (v : Value) (go : Value → Run X) (more : List Choice) → slice_get us x ≡ Some (type_of v) →
    on (evaluating (found (slice_get us x)) (λ u. taking_value u go)) (choice.Took v ∷ more) ≡ since (event.Took v ∷ []) (on (go v) more)
found_took us x v go more e = ap (λ r. on r (choice.Took v ∷ more)) (found_then (slice_get us x) (λ u. taking_value u go) (type_of v) e) ∙ took (type_of v) v go more refl

pub targets_taken : (us : List Ty) (xs : List ℕ) (vs : List Value) (more : List Choice) → OfTheirTypes us xs vs → on (taking_values us xs) (map choice.Took vs ++ more) ≡ ran (map event.Took vs) (Goes vs) more
targets_taken us [] [] more h = refl
targets_taken us [] (v ∷ vs) more h = absurd h
targets_taken us (x ∷ xs) [] more h = absurd h
targets_taken us (x ∷ xs) (v ∷ vs) more h =
    let go : List Value → Run (List Value) = λ ws. goes (v ∷ ws) in
    found_took us x v (λ w. then_do (taking_values us xs) (λ ws. goes (w ∷ ws))) (map choice.Took vs ++ more) h.0 ∙
    ap (since (event.Took v ∷ [])) (on-then (taking_values us xs) go (map choice.Took vs ++ more)) ∙
    ap (λ r. since (event.Took v ∷ []) (then_ran r (λ ws. on (go ws)))) (targets_taken us xs vs more h.1) ∙
    ap (λ es. ran (event.Took v ∷ es) (Goes (v ∷ vs)) more) (append-nil (map event.Took vs))

pub fields_taken : (us : List Ty) (r : ℕ) (fs : List ℕ) (vs : List Value) (x : State) (more : List Choice) → OfTheirTypes us fs vs →
    on (created us r fs x) (map choice.Took vs ++ more) ≡ ran (map event.Took vs) (Goes (with_fields r fs vs x)) more
fields_taken us r [] [] x more h = refl
fields_taken us r [] (v ∷ vs) x more h = absurd h
fields_taken us r (f ∷ fs) [] x more h = absurd h
fields_taken us r (f ∷ fs) (v ∷ vs) x more h =
    found_took us f v (λ w. created us r fs (with_mask (with_value x f r w) f r write)) (map choice.Took vs ++ more) h.0 ∙
    ap (since (event.Took v ∷ [])) (fields_taken us r fs vs (with_mask (with_value x f r v) f r write) more h.1)

pub declared_taken : (b : Bound) (a : Activation) (at : Pos) (x : ℕ) (c : Configuration) (v : Value) (more : List Choice) → slice_get a.vars x ≡ Some (type_of v) →
    on (run_stmt b a (s.Var at x None) c) (choice.Took v ∷ more) ≡ ran (event.Took v ∷ []) (Goes (with_variable c x v)) more
declared_taken b a at x c v more e = found_took a.vars x v (λ w. goes (with_variable c x w)) more e

pub memo_taken : (l : Layout) (x : State) (m : Memo) (more : List Choice) → FitsMemo l m → on (forget l x) (choice.Filled m ∷ more) ≡ ran (event.Whole (forgotten x m) ∷ []) (Goes (with_memo x (forgotten x m))) more
memo_taken l x m more h =
    ap (λ b. since [] (on (given (if b then Some m else None) (λ n. noting (event.Whole (forgotten x n)) (goes (with_memo x (forgotten x n))))) more)) ((Decides-fits_memo l m).1 h)

-- ---- statements that take nothing

abbrev pub IsNeverBlocked : Run Configuration → Type 0
IsNeverBlocked r = (e : Evaluated Configuration) × ((r ≡ ended e) × IsNotBlocked e)

abbrev activation : MethodContext → State → Activation
activation m old = record { program = m.program; vars = m.vars; old = old }

module _ (b : Bound) (m : MethodContext) (sc : Scope) (old : State) (formed : IsFormed m.program) (c : Configuration) (kept : FitsState m.program.layout old) (fits : FitsConfiguration m.program.layout m.vars c) where
  seen : (at : Pos) → FitsScene m.program.layout m.vars (scene (activation m old) c at)
  seen at = record { store = fits.store; old = kept }

  valued : (e : t.Expr) (u : Ty) (at : Pos) → HasType (inside m sc) e u → OpensNothing e → Comes (FitsEvent m.program.layout) ⊥ (FitsValue u) (value b e c.state (scene (activation m old) c at))
  valued e u at typed plain = value_typed b {B = ⊥} (inside m sc) formed e u c.state (scene (activation m old) c at) typed (inr plain) fits.state (seen at)

  goes_unblocked : (d : Configuration) → IsUnblocked m.program.layout IsAny (goes d)
  goes_unblocked d = ended_unblocked (is_typed tt)

  pub assigned_unblocked : (at : Pos) (x : ℕ) (e : t.Expr) → IsStmt m sc (s.Assign at x e) → OpensNothing e → IsNeverBlocked (run_stmt b (activation m old) (s.Assign at x e) c)
  assigned_unblocked at x e (assigns {u = u} target typed) plain = unblocked (evaluating_unblocked (valued e u at typed plain) (λ v p. goes_unblocked (with_variable c x v)))

  pub initial_unblocked : (at : Pos) (x : ℕ) (e : t.Expr) → IsStmt m sc (s.Var at x (Some e)) → OpensNothing e → IsNeverBlocked (run_stmt b (activation m old) (s.Var at x (Some e)) c)
  initial_unblocked at x e (initial {u = u} new there typed) plain = unblocked (evaluating_unblocked (valued e u at typed plain) (λ v p. goes_unblocked (with_variable c x v)))

  field_unblocked : (f : ℕ) (u : Ty) (at place : Pos) (r : ℕ) (v : Value) → slice_get m.program.layout.fields f ≡ Some u → Comes (FitsEvent m.program.layout) ⊥ IsAny (field_written (scene (activation m old) c at) c.state f place r v)
  field_unblocked f u at place r v there =
      unless_typed (r == 0) (fails_typed (scene (activation m old) c at) place kind.Null) (then_typed (there_typed (mask_at c.state f r) (mask_found fits.state f r u there)) (λ held n.
      unless_typed (not (fraction_eq held write)) (fails_typed (scene (activation m old) c at) place kind.Perm) (is_typed tt)))

  pub written_unblocked : (at : Pos) (e : t.Expr) (f : ℕ) (place : Pos) (d : t.Expr) → IsStmt m sc (s.Write at e f place d) → OpensNothing e → OpensNothing d → IsNeverBlocked (run_stmt b (activation m old) (s.Write at e f place d) c)
  written_unblocked at e f place d (writes {u = u} i there j) plain quiet =
      unblocked (evaluating_unblocked (ref_typed (valued e ty.Ref at i plain)) (λ r p. evaluating_unblocked (valued d u at j quiet) (λ v q.
      evaluating_unblocked (field_unblocked f u at place r v there) (λ y w. goes_unblocked (with_state c y)))))

-- ---- methods and units

pub call_found : (b : Bound) (a : Activation) (at : Pos) (xs : List ℕ) (k : ℕ) (es : t.Exprs) (c : Configuration) (callee : Method) → slice_get a.program.methods k ≡ Some callee →
    run_stmt b a (s.Call at xs k es) c ≡ evaluating (values b es c.state (scene a c at)) (λ vs. called b a xs callee vs at c)
call_found b a at xs k es c callee e =
    λ i. evaluating (values b es c.state (scene a c at)) (λ vs. found_then (slice_get a.program.methods k) (λ x. called b a xs x vs at c) callee e i)

pub method_found : (b : Bound) (program : Program) (n k : ℕ) (o : Opening) (m : Method) → slice_get program.units n ≡ Some (unit.Method k) → slice_get program.methods k ≡ Some m → unit_run b program n o ≡ start_method b program m o
method_found b program n k o m e f =
    found_then (slice_get program.units n) (λ w. run_of_unit b program w o) (unit.Method k) e ∙ found_then (slice_get program.methods k) (λ x. start_method b program x o) m f

pub predicate_found : (b : Bound) (program : Program) (n k : ℕ) (o : Opening) (d : Predicate) (body : t.Assertion) → slice_get program.units n ≡ Some (unit.Predicate k) → slice_get program.predicates k ≡ Some d → d.body ≡ Some body →
    unit_run b program n o ≡ start_predicate b program d body o
predicate_found b program n k o d body e f g =
    found_then (slice_get program.units n) (λ w. run_of_unit b program w o) (unit.Predicate k) e ∙
    found_then (slice_get program.predicates k) (λ x. evaluating (found x.body) (λ y. start_predicate b program x y o)) d f ∙ found_then d.body (λ y. start_predicate b program d y o) body g
