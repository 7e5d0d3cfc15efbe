use Rattle.std.proofs.Common.{◌≡◌, ◌∙◌, ap, sym, ℕ, ◌+◌, ◌<◌, List, [], ◌∷◌, ◌++◌, append_assoc, length, get_or, drop, map}
use Rattle.std.proofs.lemmas.List.{append-nil, at_drop_all}
use Rattle.lemmas.proofs.Lists.{next_item}
use Rattle.viper_types.specs.Answers.{target_of}
use Rattle.viper_types.specs.Stepping.{numbers_in}
use Rattle.viper_types.specs.declared.frames.AssignedVariable.{AssignedVariable}
use Rattle.viper_types.proofs.assigned.numbers_in.Goals as goal

next_number : (front more all : List ℕ) (items : List AssignedVariable) (i : ℕ) (v : AssignedVariable) → i < length items → v ≡ get_or items i v → more ≡ front ++ v.number ∷ [] →
    front ++ numbers_in (map target_of (drop i items)) ≡ all → more ++ numbers_in (map target_of (drop (i + 1) items)) ≡ all
next_number front more all items i v within is pushed so_far =
    let rest = numbers_in (map target_of (drop (i + 1) items)) in
    ap (λ ns. ns ++ rest) pushed ∙ append_assoc front (v.number ∷ []) rest ∙ ap (λ vs. front ++ numbers_in (map target_of vs)) (sym (next_item items i v within is)) ∙ so_far

pub loop-target-preserved : goal.loop-target-preserved
loop-target-preserved c =
    let l = c.loop-target in
    next_number l.numbers.items c.push.new.self.items _ c.args.targets.now l.target-index c.target-item.result c.loop-target-test.true c.target-item.is c.in_ok-push.ensures.items l.invariant

pub returns : goal.returns
returns c =
    let l = c.loop-target in
    sym (append-nil l.numbers.items) ∙ sym (at_drop_all (λ vs. l.numbers.items ++ numbers_in (map target_of vs)) c.args.targets.now l.target-index c.loop-target-test.false) ∙ l.invariant
