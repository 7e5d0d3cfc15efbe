-- What the row of a unit writes is its procedure: its locals, its text and its asserts. Each of its steps is one that can be written.
use Rattle.std.proofs.Common.{◌≡◌, ◌∙◌, ◌++◌, ℕ, List, All, length, ap, sym, subst, append_assoc}
use Rattle.enc_units.proofs.StepLaws.{unit_steps}
use Rattle.viper_core.specs.Formed.{IsFormed}
use Rattle.viper_core.specs.Program.{Program}
use Rattle.viper_core.specs.declared.programs.Unit.{Unit}
use Rattle.boogie_grammar.specs.Grammar.{local_names}
use Rattle.boogie_grammar.specs.Printed.{Naming, naming, stmts_text, proc_text}
use Rattle.boogie_print.specs.Asserts.{asserts_in}
use Rattle.boogie_print.specs.Pieces.{head_text, end_text}
use Rattle.boogie_tree.specs.Program.{BType, Local}
use Rattle.enc_expr.specs.Code.{Emitting}
use Rattle.enc_expr.specs.Emits.{temporaries}
use Rattle.enc_expr.specs.Locals.{fixed_names, fixed_types}
use Rattle.enc_text.proofs.NameLaws.{length_named, fixed_good}
use Rattle.enc_units.specs.Rows.{row_types, row_text, row_asserts, laid_text}
use Rattle.enc_units.specs.Steps.{RowStep, unit_row, Bracket, unit_step, fixed_locals}
use Rattle.enc_locals.specs.Procedure.{unit_name}
use Rattle.enc_units.specs.Units.{unit_procedure}
use Rattle.enc_units.specs.Written.{IsStep}
use Rattle.enc_units.proofs.FormLaws.{text_is, asserts_are}
use Rattle.enc_units.proofs.LayLaws.{unit_lays}

pub fixed_length : (p : Program) (x : Unit) → IsFormed p → length (fixed_locals p x) ≡ length (fixed_types p x)
fixed_length p x formed = length_named (fixed_names p x) (fixed_types p x) (fixed_good p x formed).as_many

module _ (p : Program) (x : Unit) (formed : IsFormed p) where
  pub unit_locals : fixed_locals p x ++ temporaries (length (fixed_locals p x)) (row_types (unit_step p x) (unit_row p x) (length (fixed_locals p x))) ≡ (unit_procedure p x).locals
  unit_locals =
      ap (λ (n : ℕ). fixed_locals p x ++ temporaries n (row_types (unit_step p x) (unit_row p x) n)) (fixed_length p x formed)
      ∙ ap (λ (us : List BType). fixed_locals p x ++ temporaries (length (fixed_types p x)) us) ((unit_lays p x).types (length (fixed_types p x)))

  pub unit_text : (names : Naming) → row_text (unit_step p x) names (unit_row p x) (length (fixed_locals p x)) ≡ stmts_text names (unit_procedure p x).body
  unit_text names =
      ap (λ (n : ℕ). row_text (unit_step p x) names (unit_row p x) n) (fixed_length p x formed) ∙ text_is names ((unit_lays p x).form (length (fixed_types p x)))

  pub unit_asserts : row_asserts (unit_step p x) (unit_row p x) (length (fixed_locals p x)) ≡ asserts_in (unit_procedure p x).body
  unit_asserts = ap (λ (n : ℕ). row_asserts (unit_step p x) (unit_row p x) n) (fixed_length p x formed) ∙ asserts_are ((unit_lays p x).form (length (fixed_types p x)))

-- what is laid out is the procedure, where these are the code, the row and the locals
module _ (p : Program) (x : Unit) (formed : IsFormed p) (code : RowStep → Emitting Bracket) (is_code : code ≡ unit_step p x) (row : List RowStep) (is_row : row ≡ unit_row p x) where
  pub row_steps : All IsStep row
  row_steps = subst (λ (r : List RowStep). All IsStep r) (sym is_row) (unit_steps p x)

  pub row_locals : fixed_locals p x ++ temporaries (length (fixed_locals p x)) (row_types code row (length (fixed_locals p x))) ≡ (unit_procedure p x).locals
  row_locals =
      ap (λ (c : RowStep → Emitting Bracket). fixed_locals p x ++ temporaries (length (fixed_locals p x)) (row_types c row (length (fixed_locals p x)))) is_code
      ∙ ap (λ (r : List RowStep). fixed_locals p x ++ temporaries (length (fixed_locals p x)) (row_types (unit_step p x) r (length (fixed_locals p x)))) is_row ∙ unit_locals p x formed

  pub row_asserts_are : row_asserts code row (length (fixed_locals p x)) ≡ asserts_in (unit_procedure p x).body
  row_asserts_are =
      ap (λ (c : RowStep → Emitting Bracket). row_asserts c row (length (fixed_locals p x))) is_code ∙ ap (λ (r : List RowStep). row_asserts (unit_step p x) r (length (fixed_locals p x))) is_row ∙ unit_asserts p x formed

  pub laid_is : (name : List ℕ) → name ≡ unit_name p x → laid_text code name (fixed_locals p x) row ≡ proc_text (unit_procedure p x)
  laid_is name is_name =
      let n = length (fixed_locals p x) in let names = naming (local_names (unit_procedure p x).locals) in let head = head_text (unit_name p x) (unit_procedure p x).locals in
      ap (λ (z : List ℕ). laid_text code z (fixed_locals p x) row) is_name
      ∙ ap (λ (c : RowStep → Emitting Bracket). laid_text c (unit_name p x) (fixed_locals p x) row) is_code
      ∙ ap (λ (r : List RowStep). laid_text (unit_step p x) (unit_name p x) (fixed_locals p x) r) is_row
      ∙ ap (λ (ls : List Local). head_text (unit_name p x) ls ++ (row_text (unit_step p x) (naming (local_names ls)) (unit_row p x) n ++ end_text)) (unit_locals p x formed)
      ∙ ap (λ (z : List ℕ). head ++ (z ++ end_text)) (unit_text p x formed names)
      ∙ sym (append_assoc head (stmts_text names (unit_procedure p x).body) end_text)

-- ---- the same unit

pub same_unit : (P : Program → Unit → Type 0) {q p : Program} {y x : Unit} → q ≡ p → y ≡ x → P q y → P p x
same_unit P {q = q} {p = p} {y = y} {x = x} h k holds = subst (λ (z : Unit). P p z) k (subst (λ (r : Program). P r y) h holds)

pub unit_writes : (code : RowStep → Emitting Bracket) {q p : Program} {y x : Unit} → q ≡ p → y ≡ x → code ≡ unit_step p x → code ≡ unit_step q y
unit_writes code h k is = same_unit (λ p x. code ≡ unit_step p x) (sym h) (sym k) is
