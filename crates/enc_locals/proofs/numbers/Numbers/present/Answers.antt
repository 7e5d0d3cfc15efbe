use Rattle.std.proofs.Common.{◌≡◌, ◌∙◌, length, ap, sym}
use Rattle.std.proofs.lemmas.List.{length-map}
use Rattle.vb_value.specs.Layout.{Layout}
use Rattle.enc_locals.proofs.NumberLaws.{presented}
use Rattle.enc_locals.proofs.numbers.Numbers.present.Goals as goal

pub returns : goal.returns
returns c =
    let layout = c.args.layout.now in let inside = c.layout.inside in
    let fields : c.len-fields.result ≡ length layout.fields = c.len-fields.ensures ∙ inside.fields.ok.0 ∙ ap (λ (l : Layout). length l.fields) c.layout.view_is in
    let keys : c.len-predicates.result ≡ length layout.keys = c.len-predicates.ensures ∙ inside.keys.ok.0 ∙ sym (length-map inside.keys.items (λ us. us.items)) ∙ ap (λ (l : Layout). length l.keys) c.layout.view_is in
    presented layout c.len-fields.result c.len-predicates.result c.args.self.now.next fields keys c.in_ok-heap.heap.items c.in_ok-content.content.items c.in_ok-mask.mask.items c.in_ok-amount.amount.items
    c.take.new.self.next c.take-2.new.self.next c.take-3.new.self.next c.take-4.new.self.next c.in_ok-heap.ensures c.in_ok-content.ensures c.in_ok-mask.ensures c.in_ok-amount.ensures
