use Rattle.enc_units.proofs.FormLaws.{text_is, asserts_are}
use Rattle.enc_units.proofs.LayLaws.{unit_lays}
use Rattle.enc_units.proofs.row_laws.the_steps_of_a_unit_are_its_code.Goals as goal

pub returns : goal.returns
returns call = record {
  locals = λ p u n. (unit_lays p u).types n;
  statements = λ p u n. (unit_lays p u).form n;
  text = λ names ps xs formed. text_is names formed;
  asserts = λ ps xs formed. asserts_are formed;
}
