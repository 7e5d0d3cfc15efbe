use Rattle.std.proofs.Common.{◌≡◌, ◌∙◌, ap, subst, sym, take, true, ◌+◌}
use Rattle.std.specs.List.{AllZip}
use Rattle.std.specs.Map.{keys_of}
use Rattle.sparse.specs.Map.{borrowed}
use Rattle.viper_state.specs.Loose.{is_listed}
use Rattle.viper_state.proofs.LooseLaws.{take_past, HasKeys, one_more_list, all_keys_listed}
use Rattle.viper_state.proofs.copies.all_listed.Goals as goal

pub listed-requires : goal.listed-requires
listed-requires g c = c.requires.keys

pub loop-map-preserved : goal.loop-map-preserved
loop-map-preserved g c =
    let all = ap borrowed c.deref.ensures.value ∙ c.in_ok-entries.ensures.entries in
    subst (λ vs. AllZip (HasKeys g.K.Ord.cmp) (take (c.loop-map.map-index + 1) c.args.maps.now) vs) (sym c.in_ok-push.ensures.items)
    (one_more_list g.K.Ord.cmp c.args.maps.now c.loop-map.map-index c.map-item.result c.loop-map.lists.items c.in_ok-listed.field-0 c.loop-map-test.true c.map-item.is c.loop-map.invariant
    (λ k h. c.in_ok-listed.ensures k (subst (λ es. is_listed g.K.Ord.cmp (keys_of es) k ≡ true) (sym all) h)))

pub returns : goal.returns
returns g c =
    all_keys_listed g.K.Ord.cmp c.args.maps.now c.loop-map.lists.items (subst (λ ms. AllZip (HasKeys g.K.Ord.cmp) ms c.loop-map.lists.items) (take_past c.args.maps.now _ c.loop-map-test.false) c.loop-map.invariant)
