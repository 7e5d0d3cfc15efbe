use Rattle.std.proofs.Common.{◌≡◌, ◌∙◌, sym, ap, ℕ, suc, ◌+◌, ◌<◌, ◌≤◌, arith, List, [], ◌∷◌, ◌++◌, append_assoc, length, drop, get_or, map}
use Rattle.std.proofs.Math.Numerals.{add-one}
use Rattle.std.proofs.Math.Seq.{drop-cons, drop-length}
use Rattle.std.proofs.lemmas.List.{append-nil}
use Rattle.viper_scope.specs.Types.{declared_type}
use Rattle.viper_scope.proofs.world.types_in.Goals as goal

one_more : {X Y : Type 0} (f : X → Y) (all front more : List Y) (xs : List X) (i : ℕ) (x : X) (y : Y) → i < length xs → x ≡ get_or xs i x → y ≡ f x → more ≡ front ++ y ∷ [] → front ++ map f (drop i xs) ≡ all → more ++ map f (drop (i + 1) xs) ≡ all
one_more f all front more xs i x y lt is made pushed so_far =
    let here : drop i xs ≡ x ∷ drop (i + 1) xs = rw add-one (drop-cons xs i x lt ∙ ap (λ it. it ∷ drop (suc i) xs) (sym is)) in
    ap (λ ys. ys ++ map f (drop (i + 1) xs)) pushed ∙ append_assoc front (y ∷ []) (map f (drop (i + 1) xs)) ∙
    ap (λ it. front ++ it ∷ map f (drop (i + 1) xs)) made ∙ ap (λ it. front ++ map f it) (sym here) ∙ so_far

no_more : {X Y : Type 0} (f : X → Y) (all front : List Y) (xs : List X) (i : ℕ) → length xs ≤ i → i ≤ length xs → front ++ map f (drop i xs) ≡ all → front ≡ all
no_more f all front xs i above below so_far =
    let end : i ≡ length xs = omega arith in
    let none : drop i xs ≡ [] = rw end (drop-length xs) in
    sym (append-nil front) ∙ ap (λ it. front ++ map f it) (sym none) ∙ so_far

pub loop-formal-init : goal.loop-formal-init
loop-formal-init c = ap (λ ts. ts ++ map declared_type c.args.formals.now) c.in_ok-types.ensures.items

pub loop-formal-preserved : goal.loop-formal-preserved
loop-formal-preserved c =
    let l = c.loop-formal in
    one_more declared_type _ l.types.items _ c.args.formals.now l.formal-index c.formal-item.result c.declared_type.result c.loop-formal-test.true c.formal-item.is c.declared_type.ensures c.in_ok-push.ensures.items l.invariant

pub returns : goal.returns
returns c = no_more declared_type _ c.loop-formal.types.items c.args.formals.now c.loop-formal.formal-index c.loop-formal-test.false c.loop-formal.auto.formal-index-end c.loop-formal.invariant
