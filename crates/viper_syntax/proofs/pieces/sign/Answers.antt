use Rattle.std.proofs.Common.{◌≢◌, ◌∙◌, sym, List, ℕ, [], ◌∷◌}
use Rattle.viper_syntax.specs.Cut.{bad_byte}
use Rattle.viper_syntax.specs.Step.{IsSignOnly}
use Rattle.viper_syntax.proofs.LongestLaws.{sign_longest, no_piece}
use Rattle.viper_syntax.proofs.pieces.sign.Goals as goal

pub returns-in-Some : goal.returns-in-Some
returns-in-Some c = (rw c.sign_len.ensures (sign_longest c.args.text.now c.in-Some.sign c.requires (sym c.sign_at.ensures ∙ c.in-Some.is)), tt)

not_empty : (bs : List ℕ) → IsSignOnly bs → bs ≢ []
not_empty [] h e = h
not_empty (b ∷ bs) h e = cc

pub returns-in-None : goal.returns-in-None
returns-in-None c = bad_byte (not_empty _ c.requires) (no_piece c.args.text.now c.requires (sym c.sign_at.ensures ∙ c.in-None.is))
