use Rattle.vb_value.specs.View.{content_of}
use Rattle.vb_value.specs.Equality.{Decides-same_content}
use Rattle.vb_value.proofs.laws.equality_is_exact.Goals as goal

pub returns-clause-contents : goal.returns-clause-contents
returns-clause-contents c = λ x y. Decides-same_content (content_of x) (content_of y)
