use Rattle.std.proofs.Common.{subst}
use Rattle.std.proofs.lemmas.List.{take_rest}
use Rattle.viper_syntax.specs.Piece.{HasNoClose}
use Rattle.viper_syntax.specs.Step.{IsFirstClose}
use Rattle.viper_syntax.specs.Cut.{open_comment}
use Rattle.viper_syntax.proofs.LongestLaws.{closed_at, unclosed_at}
use Rattle.viper_syntax.proofs.pieces.comment.Goals as goal

pub returns-in-Some : goal.returns-in-Some
returns-in-Some c = (closed_at c.args.text.now c.in-Some.close c.requires.slash c.requires.star (subst (λ us. IsFirstClose us c.in-Some.close) (take_rest c.args.text.now 2) c.in-Some.ensures), tt)

pub returns-in-None : goal.returns-in-None
returns-in-None c = open_comment (unclosed_at c.args.text.now c.requires.slash c.requires.star (subst HasNoClose (take_rest c.args.text.now 2) c.in-None.ensures))
