use Rattle.std.proofs.Common.{◌∙◌, ap, map, arith, ◌≡◌, length}
use Rattle.std.proofs.lemmas.List.{length-map}
use Rattle.sparse.specs.Map.{empty}
use Rattle.vb_value.specs.Content as tree
use Rattle.vb_value.specs.Layout.{Layout}
use Rattle.vb_value.specs.Value.{default_of}
use Rattle.run_file.proofs.MemoLaws.{replicate_is}
use Rattle.run_file.proofs.memos.Filling.of.Goals as goal

pub returns : goal.returns
returns c =
    let heap = c.in_ok-heap.ensures ∙ ap (map (λ u. empty (default_of u))) (c.deref.ensures.value ∙ ap (λ (l : Layout). l.fields) c.layout.view_is) in
    let keys = ap (λ (l : Layout). l.keys) c.layout.view_is in
    let count : c.len.result ≡ length c.args.layout.now.keys =
    omega (arith, c.len.ensures, c.layout.inside.keys.ok.0, ap length keys, length-map c.layout.inside.keys.items (λ v. v.items)) in
    let content = c.in_ok-content.ensures ∙ replicate_is (empty tree.Unit) c.args.layout.now.keys c.len.result count in
    λ i. record { heap = heap i; content = content i }
