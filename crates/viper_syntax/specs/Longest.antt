-- The longest sign with which bytes begin.
use Rattle.std.specs.Prelude.{ℕ, nat_eq, List, [], ◌∷◌, Option, find}
use Rattle.std.specs.List.{starts_with}
use Rattle.viper_syntax.specs.declared.tokens.Sign.{Sign}
use Rattle.viper_syntax.specs.declared.tokens.Sign.TheVariants.{OpenParen, CloseParen, OpenBrace, CloseBrace, OpenBracket, CloseBracket, Comma, Semicolon, Dot, Colon, Assign, Question, Iff, Implies, Or, And, Equal, NotEqual, AtMost, AtLeast, Less, Greater, Plus, Minus, Star, Slash, Backslash, Percent, Not}
use Rattle.viper_syntax.specs.Spelling.{sign_text}

-- all signs, the longer ones first
abbrev pub signs : List Sign
signs =
    Iff ∷ Implies ∷ Assign ∷ Or ∷ And ∷ Equal ∷ NotEqual ∷ AtMost ∷ AtLeast ∷ OpenParen ∷ CloseParen ∷ OpenBrace ∷
    CloseBrace ∷ OpenBracket ∷ CloseBracket ∷ Comma ∷ Semicolon ∷ Dot ∷ Colon ∷ Question ∷ Less ∷ Greater ∷ Plus ∷
    Minus ∷ Star ∷ Slash ∷ Backslash ∷ Percent ∷ Not ∷ []

abbrev pub longest_sign : List ℕ → Option Sign
longest_sign bs = find (λ s. starts_with nat_eq bs (sign_text s)) signs
