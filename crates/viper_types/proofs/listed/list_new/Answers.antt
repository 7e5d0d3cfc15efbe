use Rattle.std.proofs.Common.{ap, ◌∙◌, not}
use Rattle.viper_types.proofs.Listing.{any-is_listed, pushed}
use Rattle.viper_types.proofs.listed.list_new.Goals as goal

pub returns-clause-is_new : goal.returns-clause-is_new
returns-clause-is_new c = c.in_ok-insert.ensures.added ∙ ap not (any-is_listed c.args.number c.args.listed.now.keys)

pub returns-clause-last : goal.returns-clause-last
returns-clause-last c = pushed c.args.number c.args.listed.now.keys _ _ c.in_ok-insert.ensures.added c.in_ok-insert.ensures.keys
