use Rattle.viper_core.specs.View.{program_of}
use Rattle.run_file.specs.View.{front_view}
use Rattle.run_from_file.proofs.FrontLaws.{front_opening_within, front_choices_within, front_choices_fit}
use Rattle.run_from_file.proofs.runs.run_on_front.Goals as goal

pub run_unit-requires-clause-opening_within : goal.run_unit-requires-clause-opening_within
run_unit-requires-clause-opening_within c = front_opening_within c.args.bytes.now (program_of c.args.program.now) c.args.unit c.args.many (front_view c.in_ok-front.front) c.in_ok-front.ensures.run

pub run_unit-requires-clause-choices_within : goal.run_unit-requires-clause-choices_within
run_unit-requires-clause-choices_within c = front_choices_within c.args.bytes.now (program_of c.args.program.now) c.args.unit c.args.many (front_view c.in_ok-front.front) c.in_ok-front.ensures.run

pub run_unit-requires-clause-choices_fit : goal.run_unit-requires-clause-choices_fit
run_unit-requires-clause-choices_fit c = front_choices_fit c.args.bytes.now (program_of c.args.program.now) c.args.unit c.args.many (front_view c.in_ok-front.front) c.in_ok-front.ensures.run
