use Rattle.std.proofs.Common.{refl, sym, subst, ◌∙◌, ◌≡◌, true}
use Rattle.std.proofs.lemmas.Option.{same_Some, slice_get_read, slice_get_past}
use Rattle.sparse.specs.Map.{keys}
use Rattle.vb_value.specs.Equality.{Decides-fraction_eq}
use Rattle.vb_value.specs.Value.{fraction_eq}
use Rattle.viper_state.specs.Loose.{is_listed}
use Rattle.viper_state.proofs.LooseLaws.{get_listed, unlike}
use Rattle.viper_state.proofs.places.is_held.Goals as goal

pub returns-in-Some : goal.returns-in-Some
returns-in-Some g c = λ t held at.
    let item = c.in-Some.ensures.lookup in
    let own = c.in-Some.held.now in
    let k = c.args.key.now in
    let there = slice_get_read c.args.masks.now _ c.args.number own refl item.3.0 item.1 in
    let apart = (λ i. fraction_eq (sym c.get-in-Some.ensures.value i) (sym c.default.ensures.value i)) ∙ unlike _ (sym c.ne.ensures ∙ t) in
    subst (λ m. is_listed g.K.Ord.cmp (keys m) k ≡ true) (same_Some _ _ (sym there ∙ at)) (get_listed g.K.Ord.cmp fraction_eq own k ((Decides-fraction_eq own.default own.default).1 refl) apart)

pub returns-in-None : goal.returns-in-None
returns-in-None g c = λ t held at. absurd (let none = sym (slice_get_past c.args.masks.now c.args.number c.in-None.ensures.lookup.3) ∙ at in cc)
