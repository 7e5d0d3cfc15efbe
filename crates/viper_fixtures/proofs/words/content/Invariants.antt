-- What is made so far is within the bound.
use Rattle.std.proofs.Common.{IfSome}
use Rattle.vb_value.specs.Content.{IsWithinContent}
use Rattle.vb_value.specs.View.{content_of}
use Rattle.viper_fixtures.proofs.words.content.Given as goal

abbrev pub invariant-loop-part : goal.invariant-loop-part
invariant-loop-part l = IfSome l.all (λ c. IsWithinContent (content_of c))
