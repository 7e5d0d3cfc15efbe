-- The names that are bound in the tokens of an expression: those before a `:`.
use Rattle.std.specs.Prelude.{ℕ, Bool, true, false, List, [], ◌∷◌, ◌++◌, if◌then◌else◌, ◌≡◌}
use Rattle.boogie_grammar.specs.declared.tokens.BSign.{BSign}
use Rattle.boogie_grammar.specs.declared.tokens.BSign.TheVariants as sign
use Rattle.boogie_grammar.specs.declared.tokens.Lexeme.{Lexeme}
use Rattle.boogie_grammar.specs.declared.tokens.Lexeme.TheVariants as tok
use Rattle.boogie_grammar.specs.declared.tokens.PlacedLexeme.{PlacedLexeme}

abbrev pub is_colon_sign : BSign → Bool
is_colon_sign sign.Colon = true
is_colon_sign _ = false

abbrev pub is_colon : Lexeme → Bool
is_colon (tok.Sign o) = is_colon_sign o
is_colon _ = false

-- whether the first token is a `:`
abbrev pub starts_colon : List PlacedLexeme → Bool
starts_colon [] = false
starts_colon (k ∷ ts) = is_colon k.tok

-- the name that a token is, where it stands in front of these
abbrev pub binds : Lexeme → List PlacedLexeme → List (List ℕ)
binds (tok.Name x) ts = if starts_colon ts then x ∷ [] else []
binds _ ts = []

abbrev pub bound_in : List PlacedLexeme → List (List ℕ)
bound_in [] = []
bound_in (k ∷ ts) = binds k.tok ts ++ bound_in ts

-- a token stands before these as the name that is bound, or as none
abbrev pub Binds : PlacedLexeme → List PlacedLexeme → List ℕ → Type 0
Binds k ts name = binds k.tok ts ≡ name ∷ []

abbrev pub BindsNone : PlacedLexeme → List PlacedLexeme → Type 0
BindsNone k ts = binds k.tok ts ≡ []
