use Rattle.std.proofs.Common.{refl, sym, ap, subst, ◌∙◌, ◌≡◌, false}
use Rattle.std.proofs.lemmas.Option.{same_Some, slice_get_read, slice_get_past}
use Rattle.vb_value.specs.Value.{fraction_eq}
use Rattle.viper_state.proofs.LooseLaws.{unlike}
use Rattle.viper_state.proofs.places.holds.Goals as goal

pub returns-in-Some : goal.returns-in-Some
returns-in-Some g c = λ t held at.
    let item = c.in-Some.ensures.lookup in
    let own = c.in-Some.held.now in
    let there = slice_get_read c.args.masks.now _ c.args.number own refl item.3.0 item.1 in
    let apart = ap (fraction_eq c.args.permission) (sym c.default.ensures.value) ∙ unlike _ (sym c.ne.ensures ∙ t) in
    subst (λ m. fraction_eq c.args.permission m.default ≡ false) (same_Some _ _ (sym there ∙ at)) apart

pub returns-in-None : goal.returns-in-None
returns-in-None g c = λ t held at. absurd (let none = sym (slice_get_past c.args.masks.now c.args.number c.in-None.ensures.lookup.3) ∙ at in cc)
