use Rattle.std.proofs.Common.{◌∙◌, ap}
use Rattle.std.specs.List.{position}
use Rattle.std.specs.Str.{bytes_eq}
use Rattle.boogie_grammar.proofs.ScopeLaws.{position_is}
use Rattle.boogie_grammar.proofs.scopes.BoogieNames.number_of.Goals as goal

pub returns : goal.returns
returns c = c.number_of.ensures ∙ ap (position (bytes_eq c.args.name.now)) c.self.view_is ∙ position_is c.args.name.now c.args.self.now
