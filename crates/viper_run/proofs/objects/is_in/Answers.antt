use Rattle.std.proofs.Common.{◌≡◌, ◌||◌, true, false, sym, ap, ◌∙◌, rules}
use Rattle.std.specs.Ordering.{nat_cmp}
use Rattle.std.specs.List.{list_any}
use Rattle.sparse.specs.Map.{get, keys, values}
use Rattle.vb_value.specs.Value.{value_eq}
use Rattle.vb_value.specs.declared.values.Value.TheVariants as v
use Rattle.viper_run.proofs.ObjectLaws.{any_here, any_later, key_here, nowhere}
use Rattle.viper_run.proofs.objects.is_in.Goals as goal

pub returns-then-eq : goal.returns-then-eq
returns-then-eq c =
    let k = c.key_at.result.now in
    let ks = keys c.args.mask.now in
    let tested : c.eq.result ≡ value_eq c.get.result.now (v.Ref c.args.reference) = search rules in
    let test : value_eq (get nat_cmp c.args.heap.now k) (v.Ref c.args.reference) ≡ true = ap (λ w. value_eq w (v.Ref c.args.reference)) (sym c.get.ensures.value) ∙ sym tested ∙ c.if-eq.true in
    sym (ap (λ b. b || false) (sym c.loop-i.invariant ∙ any_here (λ q. value_eq (get nat_cmp c.args.heap.now q) (v.Ref c.args.reference)) ks c.loop-i.i k (key_here ks c.loop-i.i k c.key_at.ensures.key) test))

pub loop-i-preserved : goal.loop-i-preserved
loop-i-preserved c =
    let k = c.key_at.result.now in
    let ks = keys c.args.mask.now in
    let tested : c.eq.result ≡ value_eq c.get.result.now (v.Ref c.args.reference) = search rules in
    let test : value_eq (get nat_cmp c.args.heap.now k) (v.Ref c.args.reference) ≡ false = ap (λ w. value_eq w (v.Ref c.args.reference)) (sym c.get.ensures.value) ∙ sym tested ∙ c.if-eq.false in
    any_later (λ q. value_eq (get nat_cmp c.args.heap.now q) (v.Ref c.args.reference)) ks c.loop-i.i k (key_here ks c.loop-i.i k c.key_at.ensures.key) test ∙ c.loop-i.invariant

pub returns-then-not-has : goal.returns-then-not-has
returns-then-not-has c =
    let w = v.Ref c.args.reference in
    let m = c.args.heap.now in
    let differs : value_eq m.default w ≡ false = search rules in
    let none : list_any (λ u. value_eq u w) (values m) ≡ false = search rules in
    sym (ap (λ b. b || false) (nowhere w m differs none (keys c.args.mask.now)))
