use Rattle.std.proofs.Common.{sym, subst}
use Rattle.sparse.specs.Map.{keys}
use Rattle.vb_value.specs.Equality.{Decides-fraction_eq}
use Rattle.viper_state.specs.Loose.{IsLooseAmong}
use Rattle.viper_inhale.specs.Free.{AreFree}
use Rattle.viper_inhale.proofs.ForgettingLaws.{ok_alike}
use Rattle.viper_inhale.proofs.FreeLaws.{filter_free, filter_loose}
use Rattle.viper_inhale.proofs.free_keys.loose_keys.Goals as goal

pub returns-in-Some-clause-free : goal.returns-in-Some-clause-free
returns-in-Some-clause-free g c =
    let own = c.args.map.now in
    let held = c.args.held.now in
    let list = c.deref.result.now in
    let among = rw c.in-Some.is at c.requires.known in
    let known = subst (IsLooseAmong g.K.Ord.cmp own held) (sym c.deref.ensures.value) among in
    ok_alike c.free_among.result c.free_among.ensures.free (λ ks e. subst (AreFree g.K.Ord.cmp (keys own) held) (sym e)
    (filter_loose (record { total = g.met.K.Ord.total; keys = c.requires.exact; values = Decides-fraction_eq }) own held list c.free_among.ensures.held_reduced known))

pub returns-in-None-clause-free : goal.returns-in-None-clause-free
returns-in-None-clause-free g c =
    let own = c.args.map.now in
    let held = c.args.held.now in
    ok_alike c.free_keys.result c.free_keys.ensures.free (λ ks e. subst (AreFree g.K.Ord.cmp (keys own) held) (sym e)
    (filter_free (record { total = g.met.K.Ord.total; keys = c.requires.exact; values = Decides-fraction_eq }) (keys own) held))
