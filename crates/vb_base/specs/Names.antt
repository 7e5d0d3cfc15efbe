-- The form of a name, in Viper and in Boogie, and the words of Viper.
use Rattle.std.specs.Prelude.{◌≢◌, ℕ, Bool, false, List, [], ◌∷◌, ◌++◌, ◌==◌, ◌&&◌, ◌||◌, not, codes, AllPairs}
use Rattle.std.specs.Char.{is_ascii_digit}
use Rattle.std.specs.Int.{is_in_range}
use Rattle.std.specs.List.{list_all, list_any}
use Rattle.std.specs.Str.{bytes_eq}

-- a letter, `_` or `$`
abbrev pub is_name_start : ℕ → Bool
is_name_start b = is_in_range 97 122 b || is_in_range 65 90 b || b == 95 || b == 36

-- such a byte, a digit or `'`
abbrev pub is_name_byte : ℕ → Bool
is_name_byte b = is_name_start b || is_ascii_digit b || b == 39

-- a name begins with the first kind of byte, and continues with the second
abbrev pub is_name : List ℕ → Bool
is_name [] = false
is_name (b ∷ bytes) = is_name_start b && list_all is_name_byte bytes

-- the words of this subset of Viper
abbrev pub words : List (List ℕ)
words =
    codes "field" ∷ codes "predicate" ∷ codes "method" ∷ codes "returns" ∷ codes "requires" ∷ codes "ensures" ∷
    codes "invariant" ∷ codes "var" ∷ codes "new" ∷ codes "if" ∷ codes "elseif" ∷ codes "else" ∷ codes "while" ∷
    codes "inhale" ∷ codes "exhale" ∷ codes "assert" ∷ codes "assume" ∷ codes "fold" ∷ codes "unfold" ∷
    codes "unfolding" ∷ codes "in" ∷ codes "acc" ∷ codes "old" ∷ codes "null" ∷ codes "true" ∷ codes "false" ∷
    codes "write" ∷ codes "none" ∷ codes "wildcard" ∷ codes "Int" ∷ codes "Bool" ∷ codes "Ref" ∷ codes "Perm" ∷ []

-- the words of Viper that this subset refuses
abbrev pub refused_words : List (List ℕ)
refused_words =
    codes "function" ∷ codes "domain" ∷ codes "axiom" ∷ codes "unique" ∷ codes "import" ∷ codes "define" ∷
    codes "label" ∷ codes "goto" ∷ codes "forall" ∷ codes "exists" ∷ codes "forperm" ∷ codes "let" ∷ codes "perm" ∷
    codes "epsilon" ∷ codes "Seq" ∷ codes "Set" ∷ codes "Multiset" ∷ codes "Map" ∷ codes "Rational" ∷
    codes "package" ∷ codes "apply" ∷ codes "applying" ∷ codes "refute" ∷ codes "decreases" ∷ []

-- what has the form of a name in Viper and is none
unfoldable pub is_word : List ℕ → Bool
is_word bytes = list_any (bytes_eq bytes) (words ++ refused_words)

-- a name of Viper has the form of one, and is no word
abbrev pub is_viper_name : List ℕ → Bool
is_viper_name bytes = is_name bytes && not (is_word bytes)

-- no two of these names are the same
abbrev pub NamesDiffer : List (List ℕ) → Type 0
NamesDiffer names = AllPairs (λ a b. a ≢ b) names
