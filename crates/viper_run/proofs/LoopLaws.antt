-- A loop and a turn of it, in the parts that the code has in functions of their own.
use Rattle.std.proofs.Common.{◌≡◌, refl, sym, ap, ◌∙◌, ℕ, Bool, true, false, List, [], ◌∷◌, Ok, Err, if◌then◌else◌}
use Rattle.vb_base.specs.declared.places.Pos.{Pos}
use Rattle.vb_value.specs.Bound.{Bounded}
use Rattle.vb_value.specs.declared.values.Value.{Value}
use Rattle.viper_core.specs.Expr as t
use Rattle.viper_core.specs.Stmt as s
use Rattle.viper_core.specs.View.{assertions_of, expr_of, stmts_of}
use Rattle.viper_core.specs.declared.stmts.Loop.{Loop}
use Rattle.viper_state.specs.Event as event
use Rattle.viper_state.specs.Run.{Feed, Scene}
use Rattle.viper_state.specs.State.{State, empty_state}
use Rattle.viper_meaning.specs.Ends.{blocks}
use Rattle.viper_meaning.specs.Forgotten.{memo_in}
use Rattle.viper_meaning.specs.Run.{Run, ended, goes, noting, taking, evaluating, then_do}
use Rattle.viper_meaning.specs.Statements.{Activation, Configuration, scene, stored, with_state, taking_branch, taking_values, taking_state, in_vain, produce_all, consume_all, exhale_all, after_loop, run_turn, run_loop, run_stmt, run_block}
use Rattle.viper_meaning.specs.Value.{truth_in}
use Rattle.viper_meaning.proofs.ThenLaws.{then_then, then_same, before_then, goes_then}
use Rattle.viper_inhale.specs.Answers.{Does}
use Rattle.viper_inhale.specs.declared.answers.StepHalt.{StepHalt}
use Rattle.viper_inhale.specs.declared.answers.StepHalt.TheVariants as stop_halt
use Rattle.viper_inhale.specs.declared.answers.StepStop.TheVariants as stop
use Rattle.viper_inhale.proofs.FormLaws.{first_stops, both_go}
use Rattle.viper_run.specs.Steps.{loop_entered, guarded, turn_begun}
use Rattle.viper_run.proofs.ChoiceLaws.{taking_then, blocks_at}

-- the body of a loop
abbrev pub runs : Activation → s.Stmts → Configuration → Run Configuration
runs k xs d = run_block Bounded k xs d

module _ (k : Activation) (at : Pos) (guard : t.Expr) (invariants : List t.Assertion) (body : Configuration → Run Configuration) (turn : Pos) where
  -- after the loop was entered
  abbrev pub ways : Configuration → Bool → Run Configuration
  ways any turns = if turns then in_vain (run_turn Bounded k at guard invariants body turn any) else after_loop Bounded k at guard invariants any

  abbrev pub turn_or_leave : Configuration → Run Configuration
  turn_or_leave any = taking_branch (ways any)

  pub loop_is : (targets : List ℕ) (c : Configuration) → run_loop Bounded k at guard invariants body turn targets c ≡ then_do (loop_entered k at invariants targets c) turn_or_leave
  loop_is targets c =
      sym (then_then (exhale_all Bounded k.program invariants c.state (scene k c at)) (λ s. then_do (taking_values k.vars targets) (λ vs. goes (any s vs))) turn_or_leave
      ∙ then_same (exhale_all Bounded k.program invariants c.state (scene k c at)) (λ s. then_then (taking_values k.vars targets) (λ vs. goes (any s vs)) turn_or_leave
      ∙ then_same (taking_values k.vars targets) (λ vs. goes_then (any s vs) turn_or_leave)))
    where
      any : State → List Value → Configuration
      any s vs = record { store = stored c.store targets vs; state = s }

  -- ---- a turn

  -- the body, and the invariant at its end
  abbrev turn_ended : Configuration → Run State
  turn_ended d = consume_all Bounded invariants d.state (scene k d turn) d.state

  abbrev turned : Configuration → Run State
  turned d = then_do (body d) turn_ended

  if_guarded : (holds : Bool) (d : Configuration) → then_do (if holds then goes d else ended blocks) turned ≡ (if holds then turned d else ended blocks)
  if_guarded true d = goes_then d turned
  if_guarded false d = refl

  guarded_then : (c : Configuration) (any : State) → then_do (guarded true k at guard invariants c any) turned ≡
      then_do (produce_all Bounded invariants (scene k c at) any) (λ s. evaluating (truth_in Bounded guard s (scene k c at)) (λ holds. if holds then turned (with_state c s) else ended blocks))
  guarded_then c any =
      then_then (produce_all Bounded invariants (scene k c at) any) (λ s. evaluating (truth_in Bounded guard s (scene k c at)) (λ holds. if holds then goes (with_state c s) else ended blocks)) turned
      ∙ then_same (produce_all Bounded invariants (scene k c at) any) (λ s. then_then (ended (truth_in Bounded guard s (scene k c at))) (λ holds. if holds then goes (with_state c s) else ended blocks) turned
      ∙ then_same (ended (truth_in Bounded guard s (scene k c at))) (λ holds. if_guarded holds (with_state c s)))

  turn_runs : (c : Configuration) → run_turn Bounded k at guard invariants body turn c ≡ then_do (turn_begun k at guard invariants c) turned
  turn_runs c =
      sym (taking_then (memo_in k.program.layout) (λ m. noting (event.Whole m) (guarded true k at guard invariants c (empty_state k.program.layout m))) turned
      ∙ (λ i. taking (memo_in k.program.layout) (λ m. before_then (event.Whole m ∷ []) (guarded true k at guard invariants c (empty_state k.program.layout m)) turned i))
      ∙ (λ i. taking_state k.program (λ any. guarded_then c any i)))

  abbrev pub in_vain_ended : Configuration → Run Configuration
  in_vain_ended d = in_vain (turn_ended d)

  abbrev pub body_then : Configuration → Run Configuration
  body_then d = then_do (body d) in_vain_ended

  pub turn_is : (c : Configuration) → in_vain {Y = Configuration} (run_turn Bounded k at guard invariants body turn c) ≡ then_do (turn_begun k at guard invariants c) body_then
  turn_is c =
      ap (λ r. in_vain r) (turn_runs c) ∙ then_then (turn_begun k at guard invariants c) turned (λ x. ended blocks)
      ∙ then_same (turn_begun k at guard invariants c) (λ d. then_then (body d) turn_ended (λ x. ended blocks))

-- ---- a loop of the program

module _ (k : Activation) (w : Loop) where
  abbrev guard_of : t.Expr
  guard_of = expr_of w.guard

  abbrev invariants_of : List t.Assertion
  invariants_of = assertions_of w.invariants.items

  abbrev body_of : Configuration → Run Configuration
  body_of = runs k (stmts_of w.body.items)

  abbrev pub ways_of : Configuration → Bool → Run Configuration
  ways_of = ways k w.at guard_of invariants_of body_of w.turn

  abbrev pub turn_or_leave_of : Configuration → Run Configuration
  turn_or_leave_of = turn_or_leave k w.at guard_of invariants_of body_of w.turn

  abbrev pub in_vain_ended_of : Configuration → Run Configuration
  in_vain_ended_of = in_vain_ended k w.at guard_of invariants_of body_of w.turn

  abbrev pub body_then_of : Configuration → Run Configuration
  body_then_of = body_then k w.at guard_of invariants_of body_of w.turn

  pub loop_begins : (c : Configuration) → run_loop Bounded k w.at guard_of invariants_of body_of w.turn w.targets.items c ≡ then_do (loop_entered k w.at invariants_of w.targets.items c) turn_or_leave_of
  loop_begins c = loop_is k w.at guard_of invariants_of body_of w.turn w.targets.items c

  pub turn_begins : (c : Configuration) → in_vain {Y = Configuration} (run_turn Bounded k w.at guard_of invariants_of body_of w.turn c) ≡ then_do (turn_begun k w.at guard_of invariants_of c) body_then_of
  turn_begins c = turn_is k w.at guard_of invariants_of body_of w.turn c

-- ---- the end of a turn: the invariant is consumed in vain

module _ (k : Activation) (d : Configuration) {turn : Pos} {sc : Scene} (here : sc ≡ scene k d turn) {listed : List t.Assertion} (invariants : List t.Assertion) (same : listed ≡ invariants) {start : State} (begin : start ≡ d.state) where
  abbrev consumed : Run State
  consumed = consume_all Bounded listed d.state sc start

  ending_is : in_vain {Y = Configuration} (consume_all Bounded invariants d.state (scene k d turn) d.state) ≡ then_do consumed (λ x. ended blocks)
  ending_is i = then_do (consume_all Bounded (sym same i) d.state (sym here i) (sym begin i)) (λ x. ended blocks)

  pub ending_stops : {X Z : Type 0} {v : X → State} {u : Z → Configuration} {f g : Feed} {w : StepHalt} → Does v f consumed g (Err w) → Does u f (in_vain (consume_all Bounded invariants d.state (scene k d turn) d.state)) g (Err w)
  ending_stops {v = v} h = first_stops {v = v} (λ x. ended blocks) ending_is h

  pub ending_blocks : {X Z : Type 0} {v : X → State} {u : Z → Configuration} {f g : Feed} {x : X} → Does v f consumed g (Ok x) →
      Does u f (in_vain (consume_all Bounded invariants d.state (scene k d turn) d.state)) g (Err (stop_halt.Stops stop.Blocked))
  ending_blocks {v = v} {g = g} h = both_go {v = v} (λ x. ended blocks) ending_is h (blocks_at g)

-- ---- a condition between two blocks

pub branches_is : (k : Activation) (c : Configuration) {at : Pos} {sc : Scene} → sc ≡ scene k c at → (e : t.Expr) (first second : s.Stmts) →
    run_stmt Bounded k (s.If at e first second) c ≡ evaluating (truth_in Bounded e c.state sc) (λ holds. if holds then run_block Bounded k first c else run_block Bounded k second c)
branches_is k c here e first second i = evaluating (truth_in Bounded e c.state (sym here i)) (λ holds. if holds then run_block Bounded k first c else run_block Bounded k second c)
