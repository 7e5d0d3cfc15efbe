-- A run that computes: its quantifiers are found by a search of their keys. It is the run.
use Rattle.std.proofs.Common.{◌≡◌, ℕ, refl, ap, ◌∙◌, Bool as Truth, true, List, [], ◌++◌, map, if◌then◌else◌}
use Rattle.vb_value.specs.Bound.{Bound}
use Rattle.boogie_tree.specs.Expr as t
use Rattle.boogie_tree.specs.Program.{BType}
use Rattle.boogie_tree.specs.Stmt as s
use Rattle.boogie_tree.specs.Value.{BScalar, BValue, BChoice}
use Rattle.boogie_tree.specs.declared.exprs.BBase.{BBase}
use Rattle.boogie_meaning.specs.Decided.{searched, decided}
use Rattle.boogie_meaning.specs.Ends.{End, Wrong}
use Rattle.boogie_meaning.specs.Marked.{marked, elsewhere, value_off}
use Rattle.boogie_meaning.specs.Operators.{as_truth, as_bool}
use Rattle.boogie_meaning.specs.Quantified.{quantified, outside, bvalue}
use Rattle.boogie_meaning.specs.Run.{Run, then_run, with_choice, with_truth, picked, assumed, brun, brun_stmt}
use Rattle.boogie_meaning.specs.Value.{QuantifierScope, value, body_at}
use Rattle.boogie_meaning.specs.Types.{is_typed}
use Rattle.boogie_meaning.specs.Programs.{types_of, is_typed_proc}
use Rattle.boogie_meaning.proofs.ForallLaws.{one_forall}
use Rattle.viper_state.specs.Choice.{Choice}
use Rattle.viper_state.specs.Event.{Event}
use Rattle.viper_state.specs.Run.{Opening}
use Rattle.viper_state.specs.State.{State}
use Rattle.viper_meaning.specs.Run as meaning
use Rattle.viper_meaning.specs.Statements.{Configuration, run_block}
use Rattle.viper_meaning.specs.Units.{unit_run}
use Rattle.moves.specs.Moves.{moves}
use Rattle.enc_expr.specs.Worked.{stale}
use Rattle.enc_examples.specs.Worked.{Example, Ends, activation, piece, environment, locals, front, UnitEnds, units, procedure, entered, bare}

-- ---- values

abbrev found : Bound → List BBase → t.BExpr → List BValue → End Truth
found b us a env = searched us (body_at b a env) (marked a env) (as_truth (value b elsewhere a env))

found_is : (b : Bound) (us : List BBase) (a : t.BExpr) (env : List BValue) → (quantified b us a env).0 ≡ found b us a env
found_is b us a env =
    one_forall (quantified b us a env).1
    (decided us (body_at b a env) (marked a env) (as_truth (value b elsewhere a env)) (λ k f h. ap as_truth (value_off b a env k h)))

abbrev searching : Bound → List BValue → QuantifierScope
searching b env = record { bound = λ m. Wrong; all = λ us a. as_bool (found b us a env) }

searching_is : (b : Bound) (env : List BValue) → outside b env ≡ searching b env
searching_is b env = λ i. record { bound = λ m. Wrong; all = λ us a. as_bool (found_is b us a env i) }

abbrev computed : Bound → t.BExpr → List BValue → End BScalar
computed b e env = value b (searching b env) e env

computed_is : (b : Bound) (e : t.BExpr) (env : List BValue) → bvalue b e env ≡ computed b e env
computed_is b e env = ap (λ w. value b w e env) (searching_is b env)

-- ---- runs

-- Just where something is assumed there are quantifiers that are to be computed.
abbrev mutual
  step : List BType → Bound → s.BStmt → List BValue → List BChoice → Run
  step ls b (s.Assume e) env cs = with_truth (computed b e env) cs (assumed env cs)
  step ls b (s.If e xs ys) env cs = with_truth (bvalue b e env) cs (λ p. if p then steps ls b xs env cs else steps ls b ys env cs)
  step ls b (s.Either xs ys) env cs = with_choice cs picked (λ p rest. if p then steps ls b xs env rest else steps ls b ys env rest)
  step ls b x env cs = brun_stmt ls b x env cs

  pub steps : List BType → Bound → s.BStmts → List BValue → List BChoice → Run
  steps ls b s.skip env cs = brun ls b s.skip env cs
  steps ls b (s.first x xs) env cs = then_run (step ls b x env cs) (λ env' rest. steps ls b xs env' rest)

mutual
  step_is : (ls : List BType) (b : Bound) (x : s.BStmt) (env : List BValue) (cs : List BChoice) → brun_stmt ls b x env cs ≡ step ls b x env cs
  step_is ls b (s.Assume e) env cs = ap (λ v. with_truth v cs (assumed env cs)) (computed_is b e env)
  step_is ls b (s.If e xs ys) env cs =
      λ i. with_truth (bvalue b e env) cs (λ p. if p then steps_is ls b xs env cs i else steps_is ls b ys env cs i)
  step_is ls b (s.Either xs ys) env cs =
      λ i. with_choice cs picked (λ p rest. if p then steps_is ls b xs env rest i else steps_is ls b ys env rest i)
  step_is ls b (s.Assign i e) env cs = refl
  step_is ls b (s.Put i es e) env cs = refl
  step_is ls b (s.Havoc i) env cs = refl
  step_is ls b (s.Assert l e) env cs = refl

  pub steps_is : (ls : List BType) (b : Bound) (xs : s.BStmts) (env : List BValue) (cs : List BChoice) → brun ls b xs env cs ≡ steps ls b xs env cs
  steps_is ls b s.skip env cs = refl
  steps_is ls b (s.first x xs) env cs = λ i. then_run (step_is ls b x env cs i) (λ env' rest. steps_is ls b xs env' rest i)

-- ---- examples

abbrev computed_run : Bound → Example → List BChoice → Run
computed_run b x moved =
    front (steps (locals ++ (piece x).locals) b (piece x).stmts (environment x.store x.now x.old ++ map stale (piece x).locals) moved)

-- what is said of an example, where the run of the code is computed so
pub by_computing : {b : Bound} {x : Example} {choices : List Choice} {events : List Event} {end : meaning.Step Configuration} {moved : List BChoice} {stop : Run} →
    meaning.on (run_block b (activation x) x.stmts (record { store = x.store; state = x.now })) choices ≡ meaning.ran events end [] →
    moves events ≡ moved → computed_run b x moved ≡ stop → is_typed (locals ++ (piece x).locals) (piece x).stmts ≡ true →
    Ends b x choices events end moved stop
by_computing {b} {x} {moved} m v r t = record {
  means = m;
  moves = v;
  runs = ap front (steps_is (locals ++ (piece x).locals) b (piece x).stmts (environment x.store x.now x.old ++ map stale (piece x).locals) moved) ∙ r;
  typed = t;
}

abbrev computed_unit : Bound → ℕ → List BValue → List BChoice → Run
computed_unit b n first moved = bare (steps (types_of (procedure n)) b (procedure n).body (entered first (types_of (procedure n))) moved)

-- of a unit
pub unit_by_computing : {b : Bound} {n : ℕ} {o : Opening} {choices : List Choice} {events : List Event} {end : meaning.Step State} {first : List BValue} {moved : List BChoice} {stop : Run} →
    meaning.on (unit_run b units n o) choices ≡ meaning.ran events end [] →
    moves events ≡ moved → computed_unit b n first moved ≡ stop → is_typed_proc (procedure n) ≡ true →
    UnitEnds b n o choices events end first moved stop
unit_by_computing {b} {n} {first} {moved} m v r t = record {
  means = m;
  moves = v;
  runs = ap bare (steps_is (types_of (procedure n)) b (procedure n).body (entered first (types_of (procedure n))) moved) ∙ r;
  typed = t;
}
