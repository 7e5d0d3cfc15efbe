-- Where nothing of a translation fails, nothing of the file of Viper does.
use Rattle.std.proofs.Common.{ℕ, List, sym, subst, arith}
use Rattle.std.proofs.lemmas.Option.{slice_get_within}
use Rattle.lemmas.proofs.Lists.{item_there}
use Rattle.vb_base.specs.declared.labels.Label.{Label}
use Rattle.viper_core.specs.Program.{Program}
use Rattle.viper_meaning.specs.Units.{ViperFails}
use Rattle.viper_file.specs.Accepted.{IsAccepted}
use Rattle.boogie_tree.specs.Program.{BProgram}
use Rattle.boogie_meaning.specs.Programs.{BoogieFails}
use Rattle.enc_units.specs.Translates.{Translates}
use Rattle.viper_proof.proofs.AnswerLaws as viper
use Rattle.prove_tool.specs.Subject.{NothingFails}
use Rattle.prove_tool.specs.declared.language.Language.TheVariants.{Viper, Boogie}

module _ (program : Program) (text : List ℕ) (t : Translates program text) (nothing : NothingFails text Boogie) where
  -- each unit has its procedure, of the one program that the text spells
  no_unit_fails : (n : ℕ) (label : Label) → ViperFails program n label → ⊥
  no_unit_fails n label fails =
      let opens = fails.opens in
      let (d, there) = item_there t.boogie.procs n (omega (arith, slice_get_within program.units n opens.unit opens.exists, t.as_many)) in
      let same = t.only nothing.program nothing.accepted.text.spelled in
      nothing.procedures d.name label (subst (λ (q : BProgram). BoogieFails q d.name label) (sym same) ((t.exact n d there label).1 fails))

  pub nothing_fails : (source : List ℕ) → IsAccepted source program → NothingFails source Viper
  nothing_fails source accepted = viper.all_fine accepted no_unit_fails
