use Rattle.viper_syntax.specs.Limit.{deep_brace, long_group, refused_word}
use Rattle.viper_syntax.proofs.limits.broken_limit.Goals as goal

pub returns-in-Some : goal.returns-in-Some
returns-in-Some c = deep_brace c.in-Some.ensures

pub returns-in-Some-first_long_group : goal.returns-in-Some-first_long_group
returns-in-Some-first_long_group c = long_group c.in_default.ensures c.in-Some-first_long_group.ensures

pub returns-in-Some-first_refused_word : goal.returns-in-Some-first_refused_word
returns-in-Some-first_refused_word c = refused_word c.in_default.ensures c.in_default-first_long_group.ensures c.in-Some-first_refused_word.ensures
