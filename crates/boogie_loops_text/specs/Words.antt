-- How the further words are spelled.
use Rattle.std.specs.Prelude.{ℕ, List}
use Rattle.boogie_loops_text.specs.declared.words.WideWord.{WideWord}
use Rattle.boogie_loops_text.specs.declared.words.WideWord.TheVariants as word
use Rattle.boogie_loops_grammar.specs.Words.{while_word, call_word, invariant_word, requires_word, ensures_word, returns_word}

abbrev pub spelled_as : WideWord → List ℕ
spelled_as word.While = while_word
spelled_as word.Call = call_word
spelled_as word.Invariant = invariant_word
spelled_as word.Requires = requires_word
spelled_as word.Ensures = ensures_word
spelled_as word.Returns = returns_word
