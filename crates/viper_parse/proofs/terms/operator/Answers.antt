use Rattle.viper_grammar.specs.View.{part_of}
use Rattle.viper_grammar.proofs.Steps.{stays, operator_goes}
use Rattle.viper_parse.proofs.terms.operator.Goals as goal

pub returns-then-is_open-clause-goes_on : goal.returns-then-is_open-clause-goes_on
returns-then-is_open-clause-goes_on c =
    stays (part_of c.args.part.now) _ c.if-is_open.ensures

pub returns-clause-goes_on : goal.returns-clause-goes_on
returns-clause-goes_on c = operator_goes c.args.n (part_of c.args.part.now) c.args.tokens.now c.eat_operator.result c.if-is_open.ensures c.eat_operator.ensures.eats
