use Rattle.cert_terms.specs.Lawful.{terms_of, types_of}
use Rattle.std.proofs.Common.{refl, subst, sym}
use Rattle.std.proofs.lemmas.Result.{IfOk-weaker}
use Rattle.cert_rules.specs.Reasons.{yes, IsPlace}
use Rattle.cert_rules.proofs.ClauseLaws.{two_law}
use Rattle.cert_rules.proofs.EqualityLaws.{miss_law}
use Rattle.cert_rules.proofs.maps.miss.Goals as goal

pub returns : goal.returns
returns c =
    let terms = terms_of c.args.table.now in
    let types = types_of c.args.table.now in
    let sides = c.in_ok-sides.sides in
    let place = c.in_ok-place.place in
    let before = c.in_ok-before.before in
    let change = c.in_ok-change.change in
    let between = c.in_ok-between.between in
    let same_map = subst (λ m. IsPlace terms sides.right m before.keys.now) (sym c.if-change-before.false) c.in_ok-before.ensures in
    let same_place = subst (IsPlace terms sides.right change.map) (sym (c.if-not-same_literals.ensures refl)) same_map in
    let law = miss_law terms types c.args.name c.args.hint sides.left sides.right between.left between.right change.value place.map change.map place.keys.now change.keys.now c.in_ok-sides.ensures
    c.in_ok-place.ensures same_place c.in_ok-change.ensures c.in_ok-between.ensures (c.if-not-is_among.ensures refl) in
    IfOk-weaker c.two.result _ _ (two_law terms types c.of.result c.of-2.result (yes c.args.hint) (yes c.args.name) c.of.ensures c.of-2.ensures law) c.two.ensures
