use Rattle.std.proofs.Common.{◌≡◌, drop}
use Rattle.run_file_words.specs.Text.{words_of}
use Rattle.run_file_words.specs.Reading.{after_parts, key_from}
use Rattle.run_file_words.proofs.contents.key.Given as goal

abbrev pub invariant-loop-ty : goal.invariant-loop-ty
invariant-loop-ty l = after_parts l.parts.items (key_from (drop l.ty-index l.types) (words_of l.rest)) ≡ key_from l.types (words_of l.words)
