-- What is built of tokens: where each token is right, each value that a rule spells holds, if what the rule gives holds as
-- far as what it takes does.
use Rattle.std.specs.Prelude.{Bool, true, false, cond, List, ◌∷◌, if◌then◌else◌}
use Rattle.std.specs.List.{AllByRecursion}
use Rattle.std.proofs.Common.{subst}
use Rattle.grammar.specs.Rules.{Alphabet, Rule, give, need, when, read, Rules}
use Rattle.grammar.specs.Spells.{Derives, given, needed, taken, passed, called}
use Rattle.grammar.proofs.Each.{front, back}

-- a rule that gives only values that hold, where it takes only such values; a symbol is held where what it carries holds
pub data Makes {A : Alphabet} (Holds : (s : A.Kind) → A.Value s → Type 0) (Held : (s : A.Kind) → A.Symbol s → Type 0) (s : A.Kind) : Rule A s → Type 0 where
  mg : {x : A.Value s} → Holds s x → Makes Holds Held s (give x)
  mn : {r : A.Kind} {c : A.Test true r} {go : A.Value r → Rule A s} → ((x : A.Value r) → Holds r x → Makes Holds Held s (go x)) → Makes Holds Held s (need c go)
  mw : {b : Bool} {r : A.Kind} {c : A.Test b r} {go : A.Value r → Rule A s} {other : Rule A s} →
      ((x : A.Value r) → Holds r x → Makes Holds Held s (go x)) → Makes Holds Held s other → Makes Holds Held s (when c go other)
  mr : {r : A.Kind} {a : A.Symbol r} {go : A.Value r → Rule A s} → Held r a → ((y : A.Value r) → Holds r y → Makes Holds Held s (go y)) → Makes Holds Held s (read a go)

pub makes_cond : {A : Alphabet} {Holds : (s : A.Kind) → A.Value s → Type 0} {Held : (s : A.Kind) → A.Symbol s → Type 0} {s : A.Kind} (b : Bool) {x y : Rule A s} →
    Makes Holds Held s x → Makes Holds Held s y → Makes Holds Held s (cond b x y)
makes_cond true h i = h
makes_cond false h i = i

-- what has to be shown of tokens and of symbols
pub record Making {A : Alphabet} (rule : Rules A) (Holds : (s : A.Kind) → A.Value s → Type 0) (Held : (s : A.Kind) → A.Symbol s → Type 0) (IsRight : A.Token → Type 0) : Type 0 where
  pub of_token : (b : Bool) (r : A.Kind) (c : A.Test b r) (k : A.Token) (x : A.Value r) → A.Passes b r c k x → IsRight k → Holds r x
  pub of_symbol : (s : A.Kind) (a : A.Symbol s) → Held s a → Makes Holds Held s (rule s a)

pub holds : {A : Alphabet} {rule : Rules A} {Holds : (s : A.Kind) → A.Value s → Type 0} {Held : (s : A.Kind) → A.Symbol s → Type 0} {IsRight : A.Token → Type 0} →
    Making rule Holds Held IsRight → {s : A.Kind} {a : Rule A s} {ts : List A.Token} {x : A.Value s} →
    Makes Holds Held s a → Derives rule s a ts x → AllByRecursion IsRight ts → Holds s x
holds m (mg h) given r = h
holds {IsRight = IsRight} m (mn {c = c} f) (needed {us = us} {v = y} q d) r = let h = subst (AllByRecursion IsRight) q.is r in holds m (f y (m.of_token _ _ c q.token y q.passes h.0)) d h.1
holds {IsRight = IsRight} m (mw {c = c} f o) (taken {us = us} {v = y} q d) r = let h = subst (AllByRecursion IsRight) q.is r in holds m (f y (m.of_token _ _ c q.token y q.passes h.0)) d h.1
holds m (mw f o) (passed d) r = holds m o d r
holds {IsRight = IsRight} m (mr {a = a} h f) (called {ts = ts} {us = us} {y = y} d e) r =
    holds m (f y (holds m (m.of_symbol _ a h) d (front IsRight ts us r))) e (back IsRight ts us r)
