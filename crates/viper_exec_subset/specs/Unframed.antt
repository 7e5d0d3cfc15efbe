-- The words of a text for which a whole execution may fail where no unit does: `wildcard`, `inhale` and `assume`.
use Rattle.std.specs.Prelude.{Bool, true, false, Option, Some, None, List, [], ◌∷◌, if◌then◌else◌}
use Rattle.vb_base.specs.declared.places.Pos.{Pos}
use Rattle.viper_syntax.specs.declared.tokens.Tok.{Tok}
use Rattle.viper_syntax.specs.declared.tokens.Tok.TheVariants as k
use Rattle.viper_syntax.specs.declared.tokens.Token.{Token}
use Rattle.viper_syntax.specs.declared.tokens.Word.TheVariants as w

abbrev pub is_unframed : Tok → Bool
is_unframed (k.Word w.Wildcard) = true
is_unframed (k.Word w.Inhale) = true
is_unframed (k.Word w.Assume) = true
is_unframed _ = false

-- the place of the first of them, if there is one
abbrev pub first_unframed : List Token → Option Pos
first_unframed [] = None
first_unframed (t ∷ rest) = if is_unframed t.tok then Some t.pos else first_unframed rest
