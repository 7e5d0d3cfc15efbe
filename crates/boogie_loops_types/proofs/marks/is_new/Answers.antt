use Rattle.std.proofs.Common.{◌<◌, length, rules}
use Rattle.boogie_loops_types.proofs.MarkLaws.{first_is_new}
use Rattle.boogie_loops_types.proofs.marks.is_new.Goals as goal

pub returns-clause-first : goal.returns-clause-first
returns-clause-first c = λ is_new.
    let within : c.args.number < length c.args.marks.now = search rules in
    first_is_new c.args.marks.now c.args.number within c.args.behind.now is_new
