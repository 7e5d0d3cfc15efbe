use Rattle.std.proofs.Common.{sym}
use Rattle.viper_types.proofs.PlaceLaws.{last_place_of}
use Rattle.viper_types.proofs.simple.last_place.Goals as goal

pub returns-in-Some : goal.returns-in-Some
returns-in-Some c = sym (last_place_of c.args.x.now c.args.fields.now c.in-Some.field.now (sym c.in-Some.ensures.value))
