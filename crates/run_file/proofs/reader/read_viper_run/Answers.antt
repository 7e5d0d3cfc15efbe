use Rattle.viper_core.specs.View.{program_of}
use Rattle.run_file.proofs.FrontLaws.{whole_answered}
use Rattle.run_file.proofs.reader.read_viper_run.Goals as goal

pub returns-in-Ok-clause-run : goal.returns-in-Ok-clause-run
returns-in-Ok-clause-run c =
    let e = c.in-Ok.ensures in
    (whole_answered c.args.bytes.now (program_of c.args.program.now) c.args.unit 18446744073709551615 c.in-Ok.front c.whole_run.result
    (record { run = e.run; fault = e.fault; only_run = e.only_run; only_place = e.only_place }) c.whole_run.ensures).run

pub returns-in-Ok-clause-fault : goal.returns-in-Ok-clause-fault
returns-in-Ok-clause-fault c =
    let e = c.in-Ok.ensures in
    (whole_answered c.args.bytes.now (program_of c.args.program.now) c.args.unit 18446744073709551615 c.in-Ok.front c.whole_run.result
    (record { run = e.run; fault = e.fault; only_run = e.only_run; only_place = e.only_place }) c.whole_run.ensures).fault

pub returns-in-Ok-clause-only_run : goal.returns-in-Ok-clause-only_run
returns-in-Ok-clause-only_run c =
    let e = c.in-Ok.ensures in
    (whole_answered c.args.bytes.now (program_of c.args.program.now) c.args.unit 18446744073709551615 c.in-Ok.front c.whole_run.result
    (record { run = e.run; fault = e.fault; only_run = e.only_run; only_place = e.only_place }) c.whole_run.ensures).only_run

pub returns-in-Ok-clause-only_place : goal.returns-in-Ok-clause-only_place
returns-in-Ok-clause-only_place c =
    let e = c.in-Ok.ensures in
    (whole_answered c.args.bytes.now (program_of c.args.program.now) c.args.unit 18446744073709551615 c.in-Ok.front c.whole_run.result
    (record { run = e.run; fault = e.fault; only_run = e.only_run; only_place = e.only_place }) c.whole_run.ensures).only_place
