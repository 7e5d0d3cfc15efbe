-- Names of more temporaries than a unit has change nothing of the text of its steps.
use Rattle.std.proofs.Common.{◌≡◌, ◌∙◌, ◌≤◌, ◌^◌, ◌++◌, ℕ, List, Some, length, slice_get, sym, ap, subst, arith}
use Rattle.std.proofs.lemmas.List.{length-map, map-append}
use Rattle.viper_core.specs.Formed.{IsFormed}
use Rattle.viper_core.specs.Program.{Program}
use Rattle.viper_core.specs.declared.programs.Unit.{Unit}
use Rattle.boogie_tree.specs.Fits.{FitStmts}
use Rattle.boogie_tree.specs.Program.{Local}
use Rattle.boogie_grammar.specs.Grammar.{local_names}
use Rattle.boogie_grammar.specs.Naming.{temporary_names}
use Rattle.boogie_grammar.specs.Printed.{Naming, naming, stmts_text}
use Rattle.enc_expr.specs.Code.{Emitting}
use Rattle.enc_expr.specs.Emits.{temporaries}
use Rattle.enc_expr.specs.Locals.{fixed_types}
use Rattle.enc_units.specs.Rows.{row_text, laid_names, names_with}
use Rattle.enc_units.specs.Steps.{RowStep, Bracket, unit_row, unit_step, fixed_locals}
use Rattle.enc_units.specs.Units.{further_types, unit_procedure}
use Rattle.enc_stream.proofs.HeadLaws.{temporaries_named}
use Rattle.enc_stream.proofs.MoreNames.{text_more}
use Rattle.enc_units.proofs.ProgramLaws.{procedure_fits}
use Rattle.enc_units.proofs.SmallUnits.{few_locals}
use Rattle.enc_units.proofs.UnitRowLaws.{fixed_length, row_locals, unit_text}

module _ (p : Program) (formed : IsFormed p) (n : ℕ) (u : Unit) (there : slice_get p.units n ≡ Some u) where
  abbrev names : List (List ℕ)
  names = local_names (fixed_locals p u)

  abbrev fixed : ℕ
  fixed = length (fixed_locals p u)

  abbrev many : ℕ
  many = length (further_types p u)

  names_are : local_names (unit_procedure p u).locals ≡ names ++ temporary_names fixed many
  names_are =
      map-append (λ (l : Local). l.name) (fixed_locals p u) (temporaries (length (fixed_types p u)) (further_types p u))
      ∙ ap (λ (xs : List (List ℕ)). names ++ xs) (temporaries_named (length (fixed_types p u)) (further_types p u))
      ∙ ap (λ (k : ℕ). names ++ temporary_names k many) (sym (fixed_length p u formed))

  all_named : length (unit_procedure p u).locals ≡ length (names ++ temporary_names fixed many)
  all_named = sym (length-map (unit_procedure p u).locals (λ (l : Local). l.name)) ∙ ap (λ (xs : List (List ℕ)). length xs) names_are

  body_more : (k : ℕ) → 2 ^ 60 ≤ k → stmts_text (names_with (fixed_locals p u) k) (unit_procedure p u).body ≡ stmts_text (naming (local_names (unit_procedure p u).locals)) (unit_procedure p u).body
  body_more k enough =
      text_more names fixed many k (unit_procedure p u).body (omega (arith, enough, few_locals p formed n u there))
      (subst (λ (m : ℕ). FitStmts m (unit_procedure p u).body) all_named (procedure_fits p formed n u there).body)
      ∙ ap (λ (xs : List (List ℕ)). stmts_text (naming xs) (unit_procedure p u).body) (sym names_are)

  module _ (code : RowStep → Emitting Bracket) (is_code : code ≡ unit_step p u) (row : List RowStep) (is_row : row ≡ unit_row p u) where
    text_is : (x : Naming) → row_text code x row fixed ≡ stmts_text x (unit_procedure p u).body
    text_is x =
        ap (λ (c : RowStep → Emitting Bracket). row_text c x row fixed) is_code ∙ ap (λ (r : List RowStep). row_text (unit_step p u) x r fixed) is_row ∙ unit_text p u formed x

    pub row_more : (k : ℕ) → 2 ^ 60 ≤ k → row_text code (names_with (fixed_locals p u) k) row fixed ≡ row_text code (laid_names code (fixed_locals p u) row) row fixed
    row_more k enough =
        text_is (names_with (fixed_locals p u) k) ∙ body_more k enough
        ∙ ap (λ (ls : List Local). stmts_text (naming (local_names ls)) (unit_procedure p u).body) (sym (row_locals p u formed code is_code row is_row))
        ∙ sym (text_is (laid_names code (fixed_locals p u) row))
