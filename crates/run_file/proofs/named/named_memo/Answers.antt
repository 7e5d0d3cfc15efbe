use Rattle.std.proofs.Common.{All, map, subst}
use Rattle.viper_state.specs.View.{contents_of}
use Rattle.moves.specs.Printable.{IsNamed, IsNamedContent, IsNamedKey, IsNamedValue}
use Rattle.run_file_words.specs.Named.{AreNamed}
use Rattle.run_file.proofs.named.named_memo.Goals as goal

pub returns : goal.returns
returns c = record {
  heap = subst (All (AreNamed IsNamed IsNamedValue)) c.deref.ensures.value c.named_heaps.ensures;
  content = subst (λ ms. All (AreNamed IsNamedKey IsNamedContent) (map contents_of ms)) c.deref-2.ensures.value c.named_contents.ensures;
}
