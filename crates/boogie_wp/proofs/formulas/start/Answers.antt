use Rattle.std.proofs.Common.{◌∙◌}
use Rattle.boogie_wp.proofs.CodeLaws.{started_is}
use Rattle.boogie_wp.proofs.formulas.start.Goals as goal

pub returns : goal.returns
returns c = λ vars long.
    c.in_ok-define.ensures.goes
    ∙ started_is c.args.n c.args.locals.now c.new.result.items c.in_ok-versions.versions.items c.new-3.result.items vars long c.new.ensures.items c.in_ok-versions.ensures c.new-3.ensures.items
