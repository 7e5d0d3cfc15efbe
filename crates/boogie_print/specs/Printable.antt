-- Which programs can be written so that their text is read back as them: names are names that are not reserved, and
-- differ where they have to, literals have a text, the number of each variable exists, and lists of keys, bound
-- variables and indices are what the text can show.
use Rattle.std.specs.Prelude.{◌≡◌, ℕ, true, false, List, length, All}
use Rattle.vb_base.specs.Names.{is_name, NamesDiffer}
use Rattle.boogie_tree.specs.Program.{Local, Proc, BProgram}
use Rattle.boogie_tree.specs.Fits.{FitStmts}
use Rattle.boogie_tree.specs.Values.{AreKeys}
use Rattle.boogie_grammar.specs.Words.{is_reserved}
use Rattle.boogie_grammar.specs.Grammar.{local_names, proc_names}

-- a name that is not reserved
pub record IsFreeName (name : List ℕ) : Type 0 where
  pub form : is_name name ≡ true
  pub free : is_reserved name ≡ false

pub record FitsLocal (l : Local) : Type 0 where
  pub name : IsFreeName l.name
  pub keys : AreKeys l.ty.keys

pub record FitsProc (p : Proc) : Type 0 where
  pub name : IsFreeName p.name
  pub locals : All FitsLocal p.locals
  pub locals_differ : NamesDiffer (local_names p.locals)
  pub body : FitStmts (length p.locals) p.body

pub record IsPrintable (program : BProgram) : Type 0 where
  pub procs : All FitsProc program.procs
  pub procs_differ : NamesDiffer (proc_names program.procs)
