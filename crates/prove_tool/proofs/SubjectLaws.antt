-- What is known of the conditions of units and what their answers come to, in either language.
use Rattle.std.proofs.Common.{◌≡◌, ℕ, List, All, Some, Result, Ok, Err, IfOk, slice_get}
use Rattle.std.proofs.lemmas.Option.{slice_get_within}
use Rattle.viper_core.specs.Program.{Program}
use Rattle.viper_core.specs.declared.programs.Unit.{Unit}
use Rattle.enc_locals.specs.Procedure.{unit_name}
use Rattle.boogie_tree.specs.Program.{Proc, BProgram}
use Rattle.boogie_formula.specs.Follows.{ConditionsFollow}
use Rattle.boogie_formula.specs.View.{conditions_of}
use Rattle.boogie_wp.specs.Build.{conditions_for}
use Rattle.viper_proof.proofs.AnswerLaws as viper
use Rattle.boogie_proof.proofs.AnswerLaws as boogie
use Rattle.unit_proof.specs.Shown.{IsProved}
use Rattle.unit_proof.specs.declared.answers.UnitAnswer.{UnitAnswer}
use Rattle.unit_proof.specs.declared.conditions.UnitConditions.{UnitConditions}
use Rattle.prove_tool.specs.Parts.{AreAnswers}
use Rattle.prove_tool.specs.Subject.{Subject, OfViper, OfBoogie, IsProcedureName, AreBuilt, NoUnitFails, IsAcceptedAs, IsAnswered, NothingFails}
use Rattle.prove_tool.specs.declared.language.Language.{Language}
use Rattle.prove_tool.specs.declared.language.Language.TheVariants.{Viper, Boogie}

-- ---- the conditions of a unit

pub viper_named : {E : Type 0} (p : Program) (n : ℕ) (r : Result UnitConditions E) → ((u : Unit) → slice_get p.units n ≡ Some u → IfOk r (λ made. made.name ≡ unit_name p u)) →
    IfOk r (λ made. IsProcedureName (OfViper p) n made.name)
viper_named p n (Ok made) named = named
viper_named p n (Err e) named = tt

pub boogie_named : {E : Type 0} (q : BProgram) (n : ℕ) (r : Result UnitConditions E) → ((d : Proc) → slice_get q.procs n ≡ Some d → IfOk r (λ made. made.name ≡ d.name)) →
    IfOk r (λ made. IsProcedureName (OfBoogie q) n made.name)
boogie_named q n (Ok made) named = named
boogie_named q n (Err e) named = tt

pub boogie_built : {E : Type 0} (q : BProgram) (n : ℕ) (r : Result UnitConditions E) →
    ((d : Proc) → slice_get q.procs n ≡ Some d → IfOk r (λ made. conditions_of made.conditions ≡ conditions_for d)) →
    ((d : Proc) → slice_get q.procs n ≡ Some d → IfOk r (λ made. ConditionsFollow d (conditions_of made.conditions))) →
    IfOk r (λ made. AreBuilt (OfBoogie q) n (conditions_of made.conditions))
boogie_built q n (Ok made) built follows = λ d there. (built d there, follows d there)
boogie_built q n (Err e) built follows = tt

-- ---- what is told of bytes

module _ (bytes : List ℕ) where
  -- what is answered is accepted as some program
  pub answered_accepted : (l : Language) (answers : List UnitAnswer) → IsAnswered bytes l answers → (p : Subject) × IsAcceptedAs bytes l p
  answered_accepted Viper answers h = (OfViper h.program, h.accepted)
  answered_accepted Boogie answers h = (OfBoogie h.program, h.accepted)

  -- where each unit is proved, nothing fails
  pub nothing_fails : (l : Language) (answers : List UnitAnswer) → IsAnswered bytes l answers → All IsProved answers → NothingFails bytes l
  nothing_fails Viper answers h all = viper.nothing_fails bytes answers h all
  nothing_fails Boogie answers h all = boogie.nothing_fails h all

  -- where no unit fails, nothing does
  pub all_fine : (l : Language) (p : Subject) → IsAcceptedAs bytes l p → NoUnitFails p → NothingFails bytes l
  all_fine Viper (OfViper p) accepted none =
      viper.all_fine accepted (λ n label fails. let opens = fails.opens in none n (slice_get_within p.units n opens.unit opens.exists) label fails)
  all_fine Viper (OfBoogie q) accepted none = absurd accepted
  all_fine Boogie (OfViper p) accepted none = absurd accepted
  all_fine Boogie (OfBoogie q) accepted none = boogie.all_fine accepted none

  -- the answers of a program that is accepted are those of the bytes
  pub answers_of : (l : Language) (p : Subject) (answers : List UnitAnswer) → IsAcceptedAs bytes l p → AreAnswers p answers → IsAnswered bytes l answers
  answers_of Viper (OfViper p) answers accepted all = record { program = p; accepted = accepted; as_many = all.0; shown = all.1 }
  answers_of Viper (OfBoogie q) answers accepted all = absurd accepted
  answers_of Boogie (OfViper p) answers accepted all = absurd accepted
  answers_of Boogie (OfBoogie q) answers accepted all = record { program = q; accepted = accepted; as_many = all.0; shown = all.1 }
