use Rattle.viper_core.proofs.PartLaws.{neg_part, not_part, bin_parts, choose_parts, field_part, old_part, more_parts}
use Rattle.viper_core.proofs.laws.expressions_have_parts.Goals as goal

pub returns-clause-negative : goal.returns-clause-negative
returns-clause-negative _ c a u = neg_part

pub returns-clause-negation : goal.returns-clause-negation
returns-clause-negation _ c a u = not_part

pub returns-clause-binary : goal.returns-clause-binary
returns-clause-binary _ c o a b at u = bin_parts

pub returns-clause-choice : goal.returns-clause-choice
returns-clause-choice _ c a b d u = choose_parts

pub returns-clause-field : goal.returns-clause-field
returns-clause-field _ c a f at u = field_part

pub returns-clause-old : goal.returns-clause-old
returns-clause-old _ c a u = old_part

pub returns-clause-arguments : goal.returns-clause-arguments
returns-clause-arguments _ c a rest u us = more_parts
