-- The words of Viper and the refused words by their first byte.
use Rattle.std.specs.Prelude.{ℕ, ◌==◌, List, [], ◌∷◌, slice_index}
use Rattle.std.specs.List.{filter}
use Rattle.vb_base.specs.Names.{refused_words}
use Rattle.viper_syntax.specs.declared.tokens.Word.{Word}
use Rattle.viper_syntax.specs.declared.tokens.Word.TheVariants as w
use Rattle.viper_syntax.specs.Spelling.{word_text}

-- all words
abbrev pub words : List Word
words =
    w.Field ∷ w.Predicate ∷ w.Method ∷ w.Returns ∷ w.Requires ∷ w.Ensures ∷ w.Invariant ∷ w.Var ∷ w.New ∷ w.If ∷
    w.Elseif ∷ w.Else ∷ w.While ∷ w.Inhale ∷ w.Exhale ∷ w.Assert ∷ w.Assume ∷ w.Fold ∷ w.Unfold ∷ w.Unfolding ∷ w.In ∷
    w.Acc ∷ w.Old ∷ w.Null ∷ w.True ∷ w.False ∷ w.Write ∷ w.None ∷ w.Wildcard ∷ w.Int ∷ w.Bool ∷ w.Ref ∷ w.Perm ∷ []

-- those that begin with this byte
abbrev pub words_from : ℕ → List Word
words_from b = filter (λ v. slice_index (word_text v) 0 == b) words

abbrev pub refused_words_from : ℕ → List (List ℕ)
refused_words_from b = filter (λ v. slice_index v 0 == b) refused_words
