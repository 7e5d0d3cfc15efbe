-- Where the conditions of all assertions hold, no procedure fails; and what follows for the methods, the predicates and the executions of
-- a file.
use Rattle.std.proofs.Common.{◌≡◌, ◌↔◌, ℕ, List, Contains, Some, slice_get, refl, subst}
use Rattle.vb_base.specs.declared.labels.Label.{Label}
use Rattle.boogie_formula.specs.Follows.{IsExact}
use Rattle.boogie_formula.specs.Formula.{Formula}
use Rattle.boogie_formula.specs.Value.{Valid}
use Rattle.boogie_grammar.specs.Spells.{BSpells}
use Rattle.boogie_meaning.specs.Programs.{types_of, ProcFails, BoogieFails}
use Rattle.boogie_tree.specs.Program.{Proc, BProgram}
use Rattle.vb_value.specs.Bound.{Unbounded}
use Rattle.boogie_file.specs.Accepted.{procedure_named}
use Rattle.boogie_file.proofs.NamedLaws.{named_fails, has_name}
use Rattle.vb_tool.proofs.LabelLaws.{block_among}
use Rattle.vb_tool.specs.Conditions.{IsCondition}
use Rattle.vb_tool.specs.Proved.{labels_of, ConditionsHold}
use Rattle.vb_tool.specs.Verified.{NoProcedureFails}

-- ---- the procedure of a name

fails_named : (q : BProgram) (n : ℕ) (d : Proc) (label : Label) → slice_get q.procs n ≡ Some d → ProcFails d label → BoogieFails q d.name label
fails_named q n d label there f = record { number = n; procedure = d; is_there = there; is_named = refl; fails = f }

pub decides_named : (bytes : List ℕ) (q : BProgram) → BSpells bytes q → (name : List ℕ) (n : ℕ) (d : Proc) (label : Label) (f : Formula) → procedure_named q name ≡ Some n →
    slice_get q.procs n ≡ Some d → IsExact d label f → Valid f ↔ (BoogieFails q name label → ⊥)
decides_named bytes q spelled name n d label f named there exact =
    subst (λ x. Valid f ↔ (BoogieFails q x label → ⊥)) (has_name q name n d named there)
    (λ valid fails. exact.0 valid (named_fails bytes q spelled n d label there fails), λ never. exact.1 (λ fails. never (fails_named q n d label there fails)))

-- ---- where all conditions hold

-- a procedure fails at the label of one of its assertions
among : (d : Proc) (label : Label) → ProcFails d label → Contains (labels_of d) label
among d label f = block_among (types_of d) Unbounded d.body f.environment f.choices label f.fails.left f.fails.is

pub no_procedure_fails : (bytes : List ℕ) (q : BProgram) → BSpells bytes q → ConditionsHold q → NoProcedureFails q
no_procedure_fails bytes q spelled hold n d label there fails =
    let f = named_fails bytes q spelled n d label there fails in
    let (text, condition, valid) = hold n d label there (among d label f) in
    condition.exact.0 valid f

-- elsewhere they hold in any case
pub others_hold : (d : Proc) (label : Label) (text : List ℕ) (c : IsCondition d label text) → (Contains (labels_of d) label → ⊥) → Valid c.formula
others_hold d label text c none = c.exact.1 (λ f. none (among d label f))
