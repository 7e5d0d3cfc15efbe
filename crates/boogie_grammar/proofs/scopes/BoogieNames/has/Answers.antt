use Rattle.std.proofs.Common.{◌∙◌, sym, ap}
use Rattle.std.specs.Option.{is_some}
use Rattle.boogie_grammar.proofs.ScopeLaws.{among_is}
use Rattle.boogie_grammar.proofs.scopes.BoogieNames.has.Goals as goal

pub returns : goal.returns
returns c = c.is_some.ensures ∙ ap is_some c.number_of.ensures ∙ sym (among_is c.args.name.now c.args.self.now)
