-- A program that is read part by part, and what is made of one procedure of it.
use Rattle.std.specs.Prelude.{◌≡◌, ◌<◌, ◌≤◌, ◌++◌, ℕ, Bool as Truth, true, false, ⊤, List, [], ◌∷◌, map, length, Option, Some, None, slice_get}
use Rattle.vb_base.specs.Limits.{max_boogie_bytes}
use Rattle.vb_base.specs.Names.{NamesDiffer}
use Rattle.vb_value.specs.Bound.{Bounded}
use Rattle.boogie_tree.specs.Program.{Local, Proc}
use Rattle.boogie_tree.specs.Stmt.{BStmt, skip, stmts}
use Rattle.boogie_tree.specs.Value.{BRun}
use Rattle.boogie_tree.specs.Whole.{program_of}
use Rattle.boogie_grammar.specs.Grammar.{local_names}
use Rattle.boogie_meaning.specs.Programs.{types_of, HaveKeys, IsTypedProc, IsTypedProgram, brun_proc}
use Rattle.boogie_meaning.specs.Types.{IsTyped}
use Rattle.boogie_run.specs.Start.{start_of, outcome_of}
use Rattle.boogie_run.specs.declared.replaying.BOutcome.{BOutcome}
use Rattle.boogie_text.specs.Tail.{IsTail, IsLocalsTail, IsBodyTail}
use Rattle.boogie_file.specs.Accepted.{procedure_named}
use Rattle.tool_procedure.specs.Alone.{EndsSo}
use Rattle.tool_procedure.specs.declared.alone.ProcedureResult.{ProcedureResult}
use Rattle.tool_procedure.specs.declared.alone.ProcedureResult.TheVariants as made
use Rattle.tool_procedure.specs.declared.alone.ProcedureTask.{ProcedureTask}
use Rattle.tool_procedure.specs.declared.alone.ProcedureTask.TheVariants as task

-- ---- a program

-- a text behind the prelude is a well-typed program, and the procedure of this name is this one of it
pub record IsNamedIn (text name : List ℕ) (procedure : Proc) : Type 0 where
  pub procs : List Proc
  pub tail : IsTail [] text procs
  pub is_typed : IsTypedProgram (record { procs = procs })
  pub number : ℕ
  pub named : procedure_named (record { procs = procs }) name ≡ Some number
  pub is_there : slice_get procs number ≡ Some procedure

-- ---- what is made of a procedure

-- a run file that is read is not too long
abbrev pub FitsTask : ProcedureTask → Type 0
FitsTask task.Keep = ⊤
FitsTask (task.Run run_bytes) = length run_bytes.now ≤ max_boogie_bytes

-- this is what is to be made of a procedure: it alone as a program, or the outcome of the run that a run file spells
abbrev pub IsMade : ProcedureTask → Proc → ProcedureResult → Type 0
IsMade task.Keep procedure (made.Program kept) = program_of kept ≡ record { procs = procedure ∷ [] }
IsMade task.Keep procedure (made.Outcome outcome) = ⊥
IsMade (task.Run run_bytes) procedure (made.Program kept) = ⊥
IsMade (task.Run run_bytes) procedure (made.Outcome outcome) = EndsSo run_bytes.now procedure outcome

-- it is made of the procedure of this name
pub record IsMadeAlone (text name : List ℕ) (task : ProcedureTask) (made : ProcedureResult) : Type 0 where
  pub procedure : Proc
  pub is_named : IsNamedIn text name procedure
  pub is_made : IsMade task procedure made

-- what is kept of the first procedure that is wanted, with what is kept of one procedure more
abbrev pub first_of : {X : Type 0} → Option X → Option X → Option X
first_of (Some first) more = Some first
first_of None more = more

-- ---- a procedure, behind its head

-- Behind the head of a procedure of this name, the text begins with the locals of this one, which have these names and types
-- that are types. No statement of it is read yet.
pub record Begins (name text : List ℕ) (begun : Proc) (names : List (List ℕ)) (rest : List ℕ) : Type 0 where
  pub is_named : begun.name ≡ name
  pub names_are : local_names begun.locals ≡ names
  pub names_differ : NamesDiffer names
  pub keys : HaveKeys (types_of begun)
  pub none_read : begun.body ≡ skip
  pub goes_on : (so_far : List Proc) (name : List ℕ) (all : List Proc) → IsBodyTail so_far name begun.locals [] rest all → IsLocalsTail so_far name [] text all
  pub not_longer : length rest ≤ length text

-- the procedure that has these statements
abbrev pub with_body : Proc → List BStmt → Proc
with_body begun body = record { name = begun.name; locals = begun.locals; body = stmts body }

-- behind these locals the text is these statements, which are well-typed, the end of the procedure, and the rest
pub record IsBody (ls : List Local) (text : List ℕ) (body : List BStmt) (rest : List ℕ) : Type 0 where
  pub typed : IsTyped (map (λ (l : Local). l.ty) ls) (stmts body)
  pub goes_on : (so_far : List Proc) (name : List ℕ) (all : List Proc) → IsTail (so_far ++ record { name = name; locals = ls; body = stmts body } ∷ []) rest all →
      IsBodyTail so_far name ls [] text all
  pub shorter : length rest < length text

-- it is some such statements
abbrev pub HasBody : List Local → List ℕ → List ℕ → Type 0
HasBody ls text rest = (body : List BStmt) × IsBody ls text body rest

-- it is some such statements, of which a run ends so
pub record RunsBody (begun : Proc) (text rest : List ℕ) (run : BRun) (outcome : BOutcome) : Type 0 where
  pub body : List BStmt
  pub is_body : IsBody begun.locals text body rest
  pub ends : outcome_of (brun_proc Bounded (with_body begun body) (start_of (types_of begun) run.settings) run.choices) ≡ Some outcome

-- it is some such statements, and of the procedure that has them this is made
pub record IsDone (P : Proc → ProcedureResult → Type 0) (begun : Proc) (text : List ℕ) (made : ProcedureResult) (rest : List ℕ) : Type 0 where
  pub body : List BStmt
  pub is_body : IsBody begun.locals text body rest
  pub is_made : P (with_body begun body) made

-- The text behind the head of a procedure of this name is this procedure, which is well-typed, and the rest.
pub record IsProcedure (name text : List ℕ) (procedure : Proc) (rest : List ℕ) : Type 0 where
  pub is_named : procedure.name ≡ name
  pub typed : IsTypedProc procedure
  pub goes_on : (so_far all : List Proc) → IsTail (so_far ++ procedure ∷ []) rest all → IsLocalsTail so_far name [] text all
  pub shorter : length rest < length text

-- what is kept of a procedure has this property, and something is kept just where it is wanted
abbrev pub KeepsIf : {X : Type 0} → (X → Type 0) → Truth → Option X → Type 0
KeepsIf P true (Some x) = P x
KeepsIf P true None = ⊥
KeepsIf P false (Some x) = ⊥
KeepsIf P false None = ⊤

-- it is some procedure, of which this is kept
pub record IsPassed {X : Type 0} (P : Proc → X → Type 0) (wanted : Truth) (name text : List ℕ) (kept : Option X) (rest : List ℕ) : Type 0 where
  pub procedure : Proc
  pub is : IsProcedure name text procedure rest
  pub keeps : KeepsIf (P procedure) wanted kept
