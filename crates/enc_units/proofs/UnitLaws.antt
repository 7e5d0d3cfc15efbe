-- Units from where nothing is held: a method begins with its precondition, and the body of a predicate is produced.
use Rattle.std.specs.Bool.{⊤}
use Rattle.std.proofs.Common.{◌≡◌, ℕ, List, Some, None}
use Rattle.vb_value.specs.Bound.{Bound}
use Rattle.viper_core.specs.Expr as e
use Rattle.viper_core.specs.Formed.{IsFormed, IsMethod, precondition_context, postcondition_context, predicate_context}
use Rattle.viper_core.specs.Program.{Program, Predicate, Method, Body}
use Rattle.viper_core.specs.Typing.{IsAssertion}
use Rattle.viper_state.specs.State.{State, empty_state}
use Rattle.viper_state.specs.Run.{Opening}
use Rattle.viper_meaning.specs.Statements.{Activation, Configuration}
use Rattle.viper_meaning.specs.Units.{first_store, start_method, start_predicate}
use Rattle.boogie_tree.specs.Program.{BType}
use Rattle.boogie_meaning.specs.Run.{brun}
use Rattle.enc_expr.specs.Pieces.{one_real}
use Rattle.enc_expr.specs.Coupling.{Env}
use Rattle.enc_assert.specs.Encoding.{produce_code}
use Rattle.enc_assert.proofs.AlongsideLaws.{weaken_alongside}
use Rattle.enc_block.specs.Encoding.{method_code}
use Rattle.enc_block.specs.Home.{Home, place, kinds_of, IsHome, IsAt, HasRoom}
use Rattle.enc_block.proofs.GoingLaws.{Along}
use Rattle.enc_block.proofs.MethodLaws.{clauses_everywhere, assertion_everywhere, with_old, home_again, RunsBody, method_along}
use Rattle.enc_block.proofs.StateLaws.{produced_along}

module _ (ts : List BType) (b : Bound) (p : Program) (formed : IsFormed p) (o : Opening) (h : Home) where
  -- before the unit begins nothing is held
  abbrev pub first_state : State
  first_state = empty_state p.layout o.memo

  module _ (m : Method) (is_method : IsMethod p m) where
    abbrev pub first_activation : Activation
    first_activation = record { program = p; vars = m.vars; old = first_state }

    abbrev pub first_configuration : Configuration
    first_configuration = record { store = first_store m o.store; state = first_state }

    -- where the body goes alongside its run, from each old state, the method does
    pub method_goes : (home : IsHome ts first_activation h) →
        ((s : State) (body : Body) → m.body ≡ Some body → RunsBody ts b (with_old first_activation s) h formed (home_again s home) m (clauses_everywhere (postcondition_context p m) m.postconditions is_method.postconditions) body) →
        (n : ℕ) (E : Env) → IsAt ts b first_activation h n first_configuration E → HasRoom ts n (method_code p (kinds_of first_activation) h m n).locals →
        Along b p.layout (λ s F. ⊤) (start_method b p m o) (λ cs. brun ts b (method_code p (kinds_of first_activation) h m n).stmts E cs)
    method_goes home bodies n E it room =
        method_along ts b first_activation h formed home m (clauses_everywhere (precondition_context p m) m.preconditions is_method.preconditions) (clauses_everywhere (postcondition_context p m) m.postconditions is_method.postconditions)
        bodies n first_configuration E it room

  module _ (d : Predicate) (body : e.Assertion) (typed : IsAssertion (predicate_context p d) body) where
    abbrev pub predicate_activation : Activation
    predicate_activation = record { program = p; vars = d.params; old = first_state }

    abbrev pub predicate_configuration : Configuration
    predicate_configuration = record { store = o.store; state = first_state }

    pub predicate_goes : IsHome ts predicate_activation h → (n : ℕ) (E : Env) → IsAt ts b predicate_activation h n predicate_configuration E → (let code = produce_code (kinds_of predicate_activation) (place h d.at) None one_real body in HasRoom ts n (code n).locals →
        Along b p.layout (λ s F. ⊤) (start_predicate b p d body o) (λ cs. brun ts b (code n).stmts E cs))
    predicate_goes home n E it room =
        weaken_alongside ⊥ b p.layout (λ s F after. tt) (produced_along ts b predicate_activation h home formed d.at n predicate_configuration E it body (assertion_everywhere (predicate_context p d) body typed) room)
