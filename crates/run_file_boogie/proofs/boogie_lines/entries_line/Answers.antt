use Rattle.std.proofs.Common.{rules}
use Rattle.run_file_boogie.proofs.BoogieLookups.{local_type}
use Rattle.run_file_boogie.proofs.boogie_lines.entries_line.Goals as goal

pub returns-in-Some : goal.returns-in-Some
returns-in-Some c =
    let there = local_type c.get.result c.args.scope.locals.now c.in-Some.number c.get.ensures.lookup.0 c.get.ensures.lookup.1 in
    search (rules, there)
