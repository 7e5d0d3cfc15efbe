use Rattle.std.proofs.Common.{◌∙◌, ◌++◌, All, ap, map, subst}
use Rattle.std.proofs.lemmas.List.Elements.{All-append}
use Rattle.std.proofs.lemmas.Result.{on_ok_weaker}
use Rattle.viper_state.specs.View.{contents_of}
use Rattle.moves.specs.Moves.{content_choice, heap_choice}
use Rattle.moves.specs.Printable.{IsNamedMove}
use Rattle.run_file_boogie.specs.BoogiePrinted.{choices_text}
use Rattle.run_file_boogie.proofs.MovedPrintLaws.{choices_written}
use Rattle.run_file_boogie.proofs.moved_printer.put_memo.Goals as goal

pub returns-clause-text : goal.returns-clause-text
returns-clause-text c =
    on_ok_weaker c.put_contents.result (λ written.
    choices_written (map heap_choice c.args.memo.now.heap.items) (map content_choice (map contents_of c.args.memo.now.content.items)) _ c.put_heaps.new.out.items _
    (c.in_ok-put_heaps.ensures.text ∙ ap (λ hs. c.args.out.now.items ++ choices_text (map heap_choice hs)) c.deref.ensures.value)
    (written ∙ ap (λ ms. c.put_heaps.new.out.items ++ choices_text (map content_choice (map contents_of ms))) c.deref-2.ensures.value)) c.put_contents.ensures.text

pub returns-clause-named : goal.returns-clause-named
returns-clause-named c =
    on_ok_weaker c.put_contents.result (λ named.
    All-append IsNamedMove (map heap_choice c.args.memo.now.heap.items) (map content_choice (map contents_of c.args.memo.now.content.items))
    (subst (λ hs. All IsNamedMove (map heap_choice hs)) c.deref.ensures.value c.in_ok-put_heaps.ensures.named)
    (subst (λ ms. All IsNamedMove (map content_choice (map contents_of ms))) c.deref-2.ensures.value named)) c.put_contents.ensures.named
