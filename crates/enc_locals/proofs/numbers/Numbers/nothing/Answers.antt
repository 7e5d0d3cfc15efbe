use Rattle.std.proofs.Common.{◌≡◌, ◌∙◌, length, ap, sym}
use Rattle.std.proofs.lemmas.List.{length-map}
use Rattle.vb_value.specs.Layout.{Layout}
use Rattle.enc_locals.proofs.NumberLaws.{zeroed}
use Rattle.enc_locals.proofs.numbers.Numbers.nothing.Goals as goal

pub returns : goal.returns
returns c =
    let layout = c.args.layout.now in let inside = c.layout.inside in
    let fields : c.len.result ≡ length layout.fields = c.len.ensures ∙ inside.fields.ok.0 ∙ ap (λ (l : Layout). length l.fields) c.layout.view_is in
    let keys : c.len-2.result ≡ length layout.keys = c.len-2.ensures ∙ inside.keys.ok.0 ∙ sym (length-map inside.keys.items (λ us. us.items)) ∙ ap (λ (l : Layout). length l.keys) c.layout.view_is in
    zeroed layout c.len.result c.len-2.result c.args.self.now.next fields keys c.new.result.items c.in_ok-mask.mask.items c.in_ok-amount.amount.items c.new-2.result.items c.one.new.self.next c.take.new.self.next 0 0 c.in_ok-zero.zero
    c.new.ensures.items c.in_ok-zero.ensures (c.in_ok-mask.ensures.items_if_clones_equal (λ y same. same)) c.in_ok-amount.ensures c.new-2.ensures.items
