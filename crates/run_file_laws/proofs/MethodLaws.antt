-- A run file of the unit of a method with a body opens an execution of it.
use Rattle.std.proofs.Common.{◌≡◌, ◌+◌, ℕ, List, Some, slice_get, take, subst}
use Rattle.viper_core.specs.Program as p
use Rattle.viper_core.specs.declared.programs.Unit.TheVariants as u
use Rattle.viper_exec_meaning.specs.Execution.{CanExecute}
use Rattle.run_file.specs.Lines.{method_variables, unit_variables, scope_of}
use Rattle.run_file.specs.Run.{ViperRun, SpellsViperRun}
use Rattle.run_file.proofs.SpelledLaws.{spelled_good}
use Rattle.viper_state.specs.Fits.{FitsOpening}
use Rattle.viper_state.specs.Run.{Opening}

-- what opens the unit of a method has values for its parameters and returns
method_fits : (q : p.Program) (n k : ℕ) (m : p.Method) → slice_get q.units n ≡ Some (u.Method k) → slice_get q.methods k ≡ Some m → (o : Opening) →
    FitsOpening q.layout (scope_of q n).variables.types o → FitsOpening q.layout (take (m.params + m.returns) m.vars) o
method_fits q n k m unit_is method_is o fits =
    subst (λ x. FitsOpening q.layout (method_variables x).types o) method_is (subst (λ x. FitsOpening q.layout (unit_variables q x).types o) unit_is fits)

pub can_execute : (bytes : List ℕ) (q : p.Program) (n k : ℕ) (m : p.Method) (body : p.Body) (run : ViperRun) → slice_get q.units n ≡ Some (u.Method k) → slice_get q.methods k ≡ Some m → m.body ≡ Some body →
    SpellsViperRun bytes q n run → CanExecute q k run.opening
can_execute bytes q n k m body run unit_is method_is has_body spelled =
    record { method = m; body = body; exists = method_is; has_body = has_body; fits = method_fits q n k m unit_is method_is run.opening (spelled_good bytes q n run spelled).opening_fits }
