-- The definitions on worked rows, by computation.
use Rattle.std.proofs.Common.{◌≡◌, List, [], ◌∷◌, refl}
use Rattle.std.specs.Prelude.{codes}
use Rattle.vb_base.specs.declared.places.Pos.{Pos}
use Rattle.viper_syntax.specs.declared.tokens.Sign.TheVariants as s
use Rattle.viper_syntax.specs.declared.tokens.Word.TheVariants as w
use Rattle.viper_syntax.specs.declared.tokens.Tok.{Tok}
use Rattle.viper_syntax.specs.declared.tokens.Tok.TheVariants as k
use Rattle.viper_syntax.specs.declared.tokens.Token.{Token}
use Rattle.viper_syntax.specs.Spelling.{decimal}
use Rattle.viper_syntax.specs.Limit.{unclosed, in_group, refused}

-- leading zeros do not count
seven : decimal (codes "007") ≡ 7
seven = refl

ten_times : decimal (codes "1234") ≡ 1234
ten_times = refl

abbrev placed : Pos → List Tok → List Token
placed at [] = []
placed at (t ∷ ts) = record { tok = t; pos = at } ∷ placed at ts

-- `} { ] {`: the first closes nothing, and `]` no brace
two_unclosed : (at : Pos) → unclosed (placed at (k.Sign s.CloseBrace ∷ k.Sign s.OpenBrace ∷ k.Sign s.CloseBracket ∷ k.Sign s.OpenBrace ∷ [])) ≡ 2
two_unclosed at = refl

-- `; x , y old`: a comma and `old` divide no group
four_in_group : (at : Pos) → in_group (placed at (k.Sign s.Semicolon ∷ k.Name (codes "x") ∷ k.Sign s.Comma ∷ k.Name (codes "y") ∷ k.Word w.Old ∷ [])) ≡ 4
four_in_group at = refl

-- `x := while`: the last token is a divider
none_in_group : (at : Pos) → in_group (placed at (k.Name (codes "x") ∷ k.Sign s.Assign ∷ k.Word w.While ∷ [])) ≡ 0
none_in_group at = refl

-- `forall exist Seq`
two_refused : (at : Pos) → refused (placed at (k.Name (codes "forall") ∷ k.Name (codes "exist") ∷ k.Name (codes "Seq") ∷ [])) ≡ 2
two_refused at = refl
