-- Parts of the definition that the code has in functions of their own.
use Rattle.std.specs.Prelude.{⊤, ◌≡◌, ℕ, Some, List, ◌++◌}
use Rattle.vb_value.specs.Bound.{Bounded}
use Rattle.vb_value.specs.declared.values.Value.{Value}
use Rattle.viper_core.specs.Expr as t
use Rattle.viper_core.specs.Formed.{IsMethod}
use Rattle.viper_core.specs.Program.{Program, Method, Body}
use Rattle.viper_state.specs.Run.{Scene}
use Rattle.viper_state.specs.State.{State}
use Rattle.viper_meaning.specs.Run.{Run, goes, then_do}
use Rattle.viper_meaning.specs.StatementLiterals.{IsWithinMethod}
use Rattle.viper_meaning.specs.Statements.{Activation, Configuration, scene, taking_values}
use Rattle.viper_exec_meaning.specs.Execution.{Went, Still, Bodies, going_on, asserting, exec_block, returns_in}

-- clauses are asserted, and nothing more is done
abbrev pub asserted : List t.Assertion → State → Scene → Run ⊤
asserted clauses s sc = asserting Bounded clauses s sc (goes tt)

-- the returns take values, which follow those of the parameters
abbrev pub returns_taken : Method → List Value → Run (List Value)
returns_taken m args = then_do (taking_values m.vars (returns_in m)) (λ vs. goes (args ++ vs))

-- a call, until the body begins
abbrev pub call_begun : Method → List Value → Scene → State → Run (List Value)
call_begun m args sc s = asserting Bounded m.preconditions s sc (returns_taken m args)

-- what stays the same while a body runs that begins here
abbrev pub entry_of : Program → Method → Configuration → Activation
entry_of program m c = record { program = program; vars = m.vars; old = c.state }

-- a body, from its first configuration
abbrev pub body_from : Bodies → Program → Method → Body → ℕ → Configuration → Run (Went Configuration)
body_from bodies program m body n c =
    going_on (exec_block Bounded bodies (entry_of program m c) body.stmts n c) (λ n d.
    asserting Bounded m.postconditions d.state (scene (entry_of program m c) d body.turn) (goes (Still n d)))

-- a method of the program, with its body
pub record IsReadyBody (program : Program) (m : Method) (body : Body) : Type 0 where
  pub method : IsMethod program m
  pub has_body : m.body ≡ Some body
  pub method_within : IsWithinMethod m
