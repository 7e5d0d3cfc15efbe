-- What the row of a unit builds is the body of its procedure, and what the procedures of the units make up is a translation.
use Rattle.std.proofs.Common.{◌≡◌, ◌∙◌, ◌+◌, ◌++◌, ◌<◌, ℕ, suc, List, [], ◌∷◌, length, map, drop, get_or, ap, sym, subst, append_assoc, drop-cons, arith}
use Rattle.std.proofs.lemmas.List.{map_push}
use Rattle.viper_core.specs.Formed.{IsFormed}
use Rattle.viper_core.specs.Program.{Program}
use Rattle.viper_core.specs.declared.programs.Unit.{Unit}
use Rattle.boogie_grammar.specs.Printed.{program_text}
use Rattle.boogie_print.specs.Printable.{IsPrintable}
use Rattle.boogie_tree.specs.Program.{BProgram, Proc}
use Rattle.boogie_tree.specs.Whole.{proc_of}
use Rattle.boogie_tree.specs.declared.programs.Proc as declared
use Rattle.enc_expr.specs.Code.{Emitting}
use Rattle.enc_expr.specs.Locals.{fixed_names, fixed_types}
use Rattle.enc_text.proofs.NameLaws.{length_named, fixed_good}
use Rattle.enc_stmt.specs.Built.{built_of, with_pieces}
use Rattle.enc_units.specs.Rows.{row_pieces}
use Rattle.enc_units.specs.Steps.{RowStep, Bracket, unit_row, unit_step, fixed_locals}
use Rattle.enc_units.specs.Translates.{program_code, Translates}
use Rattle.enc_units.specs.Units.{unit_procedure}
use Rattle.enc_stmt.proofs.BuildLaws.{formed_block}
use Rattle.enc_units.proofs.LayLaws.{unit_lays}
use Rattle.enc_units.proofs.ProgramLaws.{printable, translates}

-- ---- the procedure of a unit

-- where these are the code and the row
module _ (p : Program) (x : Unit) (formed : IsFormed p) (code : RowStep → Emitting Bracket) (is_code : code ≡ unit_step p x) (row : List RowStep) (is_row : row ≡ unit_row p x) where
  pub row_body : (with_pieces (row_pieces code row (length (fixed_locals p x))) (built_of [] [])).block ≡ (unit_procedure p x).body
  row_body =
      ap (λ (c : RowStep → Emitting Bracket). (with_pieces (row_pieces c row (length (fixed_locals p x))) (built_of [] [])).block) is_code
      ∙ ap (λ (r : List RowStep). (with_pieces (row_pieces (unit_step p x) r (length (fixed_locals p x))) (built_of [] [])).block) is_row
      ∙ ap (λ (n : ℕ). (with_pieces (row_pieces (unit_step p x) (unit_row p x) n) (built_of [] [])).block) (length_named (fixed_names p x) (fixed_types p x) (fixed_good p x formed).as_many)
      ∙ formed_block ((unit_lays p x).form (length (fixed_types p x)))

-- ---- the procedures of all units

-- one more, and then those that are left
pub procedure_added : (p : Program) (done now : List declared.Proc) (d : declared.Proc) (us : List Unit) (i : ℕ) (u : Unit) → now ≡ done ++ d ∷ [] → proc_of d ≡ unit_procedure p (get_or us i u) → i < length us →
    map proc_of now ++ map (unit_procedure p) (drop (i + 1) us) ≡ map proc_of done ++ map (unit_procedure p) (drop i us)
procedure_added p done now d us i u h is within =
    let next : i + 1 ≡ suc i = omega arith in let rest = map (unit_procedure p) (drop (i + 1) us) in
    ap (λ (ds : List declared.Proc). map proc_of ds ++ rest) h ∙ ap (λ (ds : List Proc). ds ++ rest) (map_push proc_of done d) ∙ append_assoc (map proc_of done) (proc_of d ∷ []) rest
    ∙ ap (λ (e : Proc). map proc_of done ++ e ∷ rest) is
    ∙ ap (λ (k : ℕ). map proc_of done ++ unit_procedure p (get_or us i u) ∷ map (unit_procedure p) (drop k us)) next
    ∙ ap (λ (vs : List Unit). map proc_of done ++ map (unit_procedure p) vs) (sym (drop-cons us i u within))

module _ (p : Program) (formed : IsFormed p) (procs : List Proc) (all : procs ≡ map (unit_procedure p) p.units) where
  pub is_program : ◌≡◌ {A = BProgram} (record { procs = procs }) (program_code p)
  is_program = λ i. record { procs = all i }

  pub is_translation : Translates p (program_text (record { procs = procs }))
  is_translation = subst (λ (tree : BProgram). Translates p (program_text tree)) (sym is_program) (translates p formed)

  pub is_printable : IsPrintable (record { procs = procs })
  is_printable = subst IsPrintable (sym is_program) (printable p formed)
