use Rattle.std.proofs.Common.{ap}
use Rattle.std.proofs.lemmas.Result.{on_ok_weaker}
use Rattle.viper_core.specs.View.{amt_of}
use Rattle.enc_expr.specs.View.{atom_of, place_in}
use Rattle.enc_assert.specs.Access.{access_of}
use Rattle.enc_assert.proofs.EmittedRows.{produced_by}
use Rattle.enc_assert.proofs.producing.produce_access.Goals as goal

pub returns-in-Is : goal.returns-in-Is
returns-in-Is c =
    on_ok_weaker c.produce_written.result (λ h. produced_by (place_in c.args.reading) c.args.reading.guard (atom_of c.args.scale) c.args.place (access_of c.args.access) _ (ap amt_of c.in-Is.is) h) c.produce_written.ensures

pub returns-in-Wildcard : goal.returns-in-Wildcard
returns-in-Wildcard c =
    on_ok_weaker c.produce_chosen.result (λ h. produced_by (place_in c.args.reading) c.args.reading.guard (atom_of c.args.scale) c.args.place (access_of c.args.access) _ (ap amt_of c.in-Wildcard.is) h) c.produce_chosen.ensures
