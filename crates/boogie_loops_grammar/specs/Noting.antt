-- A grammar that also says what was noted of the tokens: each symbol has a second form, which spells the same, and whose value
-- has a list besides, of what the tests note of the tokens that pass them.
use Rattle.std.specs.Prelude.{Bool, List, [], ◌++◌}
use Rattle.grammar.specs.Rules.{Alphabet, Rule, give, need, when, read, Rules}
use Rattle.grammar.specs.Wider.{Kinds, old, new, more, wider, all_rules}

-- what a test notes of a token of which this was taken
abbrev pub Notes : Alphabet → Type 0 → Type 0
Notes A N = (b : Bool) (r : A.Kind) → A.Test b r → A.Value r → List N

abbrev pub Noted : (A : Alphabet) → Type 0 → A.Kind → Type 0
Noted A N s = A.Value s × List N

pub data Second (A : Alphabet) : Kinds A A.Kind → Type 0 where
  noting : {s : A.Kind} → A.Symbol s → Second A (new s)

-- the alphabet with the second forms of its symbols
abbrev pub noted : Alphabet → Type 0 → Alphabet
noted A N = wider A A.Kind (Noted A N) (Second A)

-- the rule of a second form, after these were noted
abbrev pub noting_rule : {A : Alphabet} {N : Type 0} → Notes A N → {s : A.Kind} → List N → Rule A s → Rule (noted A N) (new s)
noting_rule note ns (give x) = give (x, ns)
noting_rule note ns (need {r = r} c go) = need {r = old r} c (λ v. noting_rule note (ns ++ note _ r c v) (go v))
noting_rule note ns (when {b = b} {r = r} c go other) = when {b = b} {r = old r} c (λ v. noting_rule note (ns ++ note b r c v) (go v)) (noting_rule note ns other)
noting_rule note ns (read {r = r} a go) = read {r = new r} (more (noting a)) (λ y. noting_rule note (ns ++ y.1) (go y.0))

abbrev pub second_rules : {A : Alphabet} {N : Type 0} → Notes A N → Rules A → (r : Kinds A A.Kind) → Second A r → Rule (noted A N) r
second_rules note rule _ (noting {s = s} a) = noting_rule note [] (rule s a)

abbrev pub noted_rules : {A : Alphabet} {N : Type 0} → Notes A N → Rules A → Rules (noted A N)
noted_rules note rule = all_rules rule (second_rules note rule)
