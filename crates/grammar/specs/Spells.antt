-- What a list of tokens spells.
use Rattle.std.specs.Prelude.{Bool, true, List, [], ◌++◌}
use Rattle.grammar.specs.Rules.{Alphabet, Rule, give, need, when, read, Rules, Starts}

-- a list of tokens is derived from a rule, with what it spells; an alternative may always be passed by
pub data Derives {A : Alphabet} (rule : Rules A) : (s : A.Kind) → Rule A s → List A.Token → A.Value s → Type 0 where
  given : {s : A.Kind} {x : A.Value s} → Derives rule _ (give x) [] x
  needed : {r s : A.Kind} {c : A.Test true r} {go : A.Value r → Rule A s} {ts us : List A.Token} {v : A.Value r} {x : A.Value s} →
      Starts A c ts v us → Derives rule _ (go v) us x → Derives rule _ (need c go) ts x
  taken : {b : Bool} {r s : A.Kind} {c : A.Test b r} {go : A.Value r → Rule A s} {other : Rule A s} {ts us : List A.Token} {v : A.Value r} {x : A.Value s} →
      Starts A c ts v us → Derives rule _ (go v) us x → Derives rule _ (when c go other) ts x
  passed : {b : Bool} {r s : A.Kind} {c : A.Test b r} {go : A.Value r → Rule A s} {other : Rule A s} {ts : List A.Token} {x : A.Value s} →
      Derives rule _ other ts x → Derives rule _ (when c go other) ts x
  called : {r s : A.Kind} {a : A.Symbol r} {go : A.Value r → Rule A s} {ts us : List A.Token} {y : A.Value r} {x : A.Value s} →
      Derives rule _ (rule _ a) ts y → Derives rule _ (go y) us x → Derives rule _ (read a go) (ts ++ us) x
