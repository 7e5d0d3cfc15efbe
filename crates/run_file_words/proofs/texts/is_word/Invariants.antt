use Rattle.std.proofs.Common.{◌≡◌, length}
use Rattle.std.specs.Str.{bytes_eq}
use Rattle.run_file_words.proofs.texts.is_word.Given as goal

abbrev pub invariant-loop-byte : goal.invariant-loop-byte
invariant-loop-byte l = record {
  same : bytes_eq l.word l.wanted ≡ bytes_eq l.byte-iterator.a.rest.now l.byte-iterator.b.rest.now;
  long : length l.byte-iterator.a.rest.now ≡ length l.byte-iterator.b.rest.now;
}
