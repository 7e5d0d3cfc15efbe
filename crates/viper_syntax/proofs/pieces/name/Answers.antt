use Rattle.std.proofs.Common.{◌≡◌, ◌≢◌, take, ℕ, List}
use Rattle.std.specs.List.{prefix_len}
use Rattle.vb_base.specs.Names.{is_name_start, is_name_byte}
use Rattle.viper_syntax.specs.declared.tokens.Tok.{Tok}
use Rattle.viper_syntax.specs.declared.tokens.Tok.TheVariants as k
use Rattle.viper_syntax.specs.declared.tokens.Word.{Word}
use Rattle.viper_syntax.specs.Spelling.{word_text}
use Rattle.viper_syntax.specs.Piece.{word, name, IsLongest, Taken}
use Rattle.viper_syntax.specs.Step.{BeginsWith}
use Rattle.viper_syntax.proofs.LongestLaws.{name_longest, name_form_of_front}
use Rattle.viper_syntax.proofs.pieces.name.Goals as goal
use Rattle.viper_syntax.proofs.pieces.name.Goals.{in-Some, in-None+in_ok-new-in-None}

word_here : (bs : List ℕ) (n : ℕ) (t : Tok) (w : Word) → BeginsWith is_name_start bs → n ≡ prefix_len is_name_byte bs →
    take n bs ≡ word_text w → t ≡ k.Word w → IsLongest bs n (Taken t)
word_here bs n t w h len text is =
    rw (is, len) (name_longest bs (k.Word w) h (word w (rw len at text)))

name_here : (bs : List ℕ) (n : ℕ) (t : Tok) (x : List ℕ) → BeginsWith is_name_start bs → n ≡ prefix_len is_name_byte bs →
    ((w : Word) → take n bs ≢ word_text w) → x ≡ take n bs → t ≡ k.Name x → IsLongest bs n (Taken t)
name_here bs n t x h len no_word text is =
    rw (is, text, len) (name_longest bs (k.Name (take (prefix_len is_name_byte bs) bs)) h (name (name_form_of_front bs h) (rw len at no_word)))

pub returns : goal.returns
returns c = elim c.match-word_of.branch [
  | in-Some w ↦ word_here _ _ _ w.in-Some.word c.requires c.name_len-len.ensures w.in-Some.ensures w.tok-is
  | in-None+in_ok-new-in-None w ↦
      name_here _ _ _ _ c.requires c.name_len-len.ensures w.in-None.ensures w.in_ok-new-in-None.ensures w.tok-is
]
