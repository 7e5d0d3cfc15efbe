-- Clauses that are asserted in the whole state are given up in the small one of a modular run, and can be produced in it.
use Rattle.std.proofs.Common.{ℕ, List, All, Contains}
use Rattle.vb_base.specs.declared.places.Pos.{Pos}
use Rattle.vb_value.specs.Bound.{Unbounded}
use Rattle.viper_core.specs.Expr as t
use Rattle.viper_core.specs.Formed.{IsFormed}
use Rattle.viper_core.specs.Scope.{Scope}
use Rattle.viper_core.specs.Typing.{Context, IsAssertion, MethodContext, inside}
use Rattle.viper_core.specs.Written.{HasNoWildcard}
use Rattle.viper_state.specs.Fits.{FitsState, FitsScene, FitsChoice}
use Rattle.viper_state.specs.Run.{Scene}
use Rattle.viper_state.specs.State.{State}
use Rattle.viper_state.proofs.ProperLaws.{scene_proper}
use Rattle.viper_meaning.specs.HeldWhole.{HoldsAtMostWhole}
use Rattle.viper_meaning.specs.Sat.{Share}
use Rattle.viper_meaning.specs.Statements.{Configuration, scene, produce_all, consume_all}
use Rattle.viper_meaning.proofs.MoreLaws.{ScenesAgree}
use Rattle.viper_meaning.proofs.NearLaws.{Close}
use Rattle.viper_meaning.proofs.StatementFitsLaws.{produce_all_fits, consume_all_fits}
use Rattle.viper_meaning.proofs.UnderLaws.{Rest, Under, Owes}
use Rattle.viper_exec_meaning.proofs.AssembleLaws.{Stands}
use Rattle.viper_exec_meaning.proofs.StmtLaws.{from}
use Rattle.viper_exec_meaning.proofs.ConsumeLaws.{consume_two}
use Rattle.viper_exec_meaning.proofs.ProduceLaws.{produced_under}
use Rattle.viper_exec_meaning.proofs.SafeLaws.{Safely, leads_safe}
use Rattle.viper_exec_meaning.proofs.StepLaws.{keep_safe}
use Rattle.viper_exec_meaning.proofs.Under.{AskAll, GivesUpAll}

module _ (c : Context) (formed : IsFormed c.program) where
  -- where the modular run goes on after it gave them up, the whole state asks for the same
  pub asserted : (F : Rest) {P : State → Type 0} (s w : State) (sc sd : Scene) (clauses : List t.Assertion) → All (IsAssertion c) clauses → All HasNoWildcard clauses → Under F s w → FitsState c.program.layout s →
      FitsScene c.program.layout c.vars sc → ScenesAgree c sc sd → Safely (FitsChoice c.program.layout) P (consume_all Unbounded clauses s sc s) →
      Safely (FitsChoice c.program.layout) (λ other. (left : State) × (P left × FitsState c.program.layout left) × GivesUpAll F w sd clauses s left other) (consume_all Unbounded clauses w sd w)
  asserted F s w sc sd clauses typed written under fits scene agree h =
      leads_safe (consume_two F c formed.typed s w sc sd under agree clauses typed written) (keep_safe (λ x i. i) (consume_all_fits Unbounded c formed clauses s sc s typed fits fits scene) h)

  -- what the whole state asked for is produced under it
  pub produced : (F : Rest) {P : State → Type 0} (s w : State) (sc sd : Scene) (clauses : List t.Assertion) (xs : List Share) → All (IsAssertion c) clauses → AskAll w sd clauses xs → Owes F xs s w → FitsState c.program.layout w → HoldsAtMostWhole w →
      FitsState c.program.layout s → FitsScene c.program.layout c.vars sc → ScenesAgree c sc sd → Safely (FitsChoice c.program.layout) P (produce_all Unbounded clauses sc s) →
      (u : State) × Under F u w × (P u × FitsState c.program.layout u)
  produced F s w sc sd clauses xs typed asked owes w_fits whole fits scene agree h =
      produced_under F c formed w w_fits whole sc sd agree typed asked s owes (keep_safe (λ x i. i) (produce_all_fits Unbounded c formed clauses sc s typed fits scene) h)

-- ---- where an execution stands, and the modular run beside it

-- a configuration of the modular run with this property lies under that of the execution
pub record Result (F : Rest) (m : MethodContext) (sc : Scope) (P : Configuration → Type 0) (d : Configuration) : Type 0 where
  pub small : Configuration
  pub goes : P small
  pub stands : Stands F m sc small d

pub narrower : {F : Rest} {m : MethodContext} {later sc : Scope} {c d : Configuration} → ((x : ℕ) → Contains sc.visible x → Contains later.visible x) → Stands F m later c d → Stands F m sc c d
narrower seen h = record { under = h.under; less = h.less; more = h.more; whole = h.whole; seen = λ x i. h.seen x (seen x i) }

pub narrower_result : {F : Rest} {m : MethodContext} {P : Configuration → Type 0} {later sc : Scope} {d : Configuration} → ((x : ℕ) → Contains sc.visible x → Contains later.visible x) → Result F m later P d → Result F m sc P d
narrower_result seen h = record { small = h.small; goes = h.goes; stands = narrower seen h.stands }

pub scenes_stand : {F : Rest} {m : MethodContext} {sc : Scope} {c d : Configuration} (older old : State) → Close older old → FitsState m.program.layout older → Stands F m sc c d → (p q : Pos) →
    ScenesAgree (inside m sc) (scene (from m older) c p) (scene (from m old) d q)
scenes_stand {m = m} {c = c} older old olds fits h p q = record { proper = scene_proper m.program.layout m.vars (scene (from m older) c p) (record { store = h.less.store; old = fits }); seen = h.seen; old = λ allowed. olds }
