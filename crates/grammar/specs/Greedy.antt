-- A means of proof: a grammar as it is read from the left, with what is left of the tokens. An alternative is passed
-- over only where its token is not next, so a list of tokens is read in at most one way.
use Rattle.std.specs.Prelude.{◌≡◌, Bool, true, List, [], ◌∷◌, Result, Ok, Err}
use Rattle.std.specs.Borrow.{Bor}
use Rattle.grammar.specs.Rules.{Alphabet, Rule, give, need, when, read, Rules, Starts}
use Rattle.grammar.specs.Spells.{Derives}
use Rattle.grammar.specs.declared.stop.Stop.{Stop}
use Rattle.grammar.specs.declared.stop.Stop.TheVariants as stop

-- the next token does not pass
pub record IsNot (A : Alphabet) {b : Bool} {r : A.Kind} (c : A.Test b r) (ts : List A.Token) : Type 0 where
  pub none : (v : A.Value r) (us : List A.Token) → Starts A c ts v us → ⊥

pub data Reads {A : Alphabet} (rule : Rules A) : (s : A.Kind) → Rule A s → List A.Token → A.Value s → List A.Token → Type 0 where
  given : {s : A.Kind} {x : A.Value s} {ts : List A.Token} → Reads rule _ (give x) ts x ts
  needed : {r s : A.Kind} {c : A.Test true r} {go : A.Value r → Rule A s} {ts us vs : List A.Token} {v : A.Value r} {x : A.Value s} →
      Starts A c ts v us → Reads rule _ (go v) us x vs → Reads rule _ (need c go) ts x vs
  taken : {b : Bool} {r s : A.Kind} {c : A.Test b r} {go : A.Value r → Rule A s} {other : Rule A s} {ts us vs : List A.Token} {v : A.Value r} {x : A.Value s} →
      Starts A c ts v us → Reads rule _ (go v) us x vs → Reads rule _ (when c go other) ts x vs
  passed : {b : Bool} {r s : A.Kind} {c : A.Test b r} {go : A.Value r → Rule A s} {other : Rule A s} {ts us : List A.Token} {x : A.Value s} →
      IsNot A c ts → Reads rule _ other ts x us → Reads rule _ (when c go other) ts x us
  called : {r s : A.Kind} {a : A.Symbol r} {go : A.Value r → Rule A s} {ts us vs : List A.Token} {y : A.Value r} {x : A.Value s} →
      Reads rule _ (rule _ a) ts y us → Reads rule _ (go y) us x vs → Reads rule _ (read a go) ts x vs

-- two lists with the same prefix, after which these are left
pub data Front {T : Type 0} (r s : List T) : List T → List T → Type 0 where
  here : Front r s r s
  step : {k : T} {ts us : List T} → Front r s ts us → Front r s (k ∷ ts) (k ∷ us)

-- two lists with the same first token, or without any
pub data SameFirst {T : Type 0} : List T → List T → Type 0 where
  token : {k : T} {ts us : List T} → SameFirst (k ∷ ts) (k ∷ us)
  end : SameFirst [] []

-- with z in the place of r nothing is read
pub record Stuck {A : Alphabet} (rule : Rules A) {s : A.Kind} (a : Rule A s) (r z ts : List A.Token) : Type 0 where
  pub all : List A.Token
  pub front : Front r z ts all
  pub none : (x : A.Value s) (us : List A.Token) → Reads rule s a all x us → ⊥

-- with other tokens in the place of r the rule is spelled
pub record Opens {A : Alphabet} (rule : Rules A) {s : A.Kind} (a : Rule A s) (r ts : List A.Token) : Type 0 where
  pub rest : List A.Token
  pub all : List A.Token
  pub front : Front r rest ts all
  pub tree : A.Value s
  pub derives : Derives rule s a all tree

-- in ts the rule goes wrong just in front of r
pub record Fails {A : Alphabet} (rule : Rules A) {s : A.Kind} (a : Rule A s) (ts r : List A.Token) : Type 0 where
  pub stuck : (z : List A.Token) → SameFirst r z → Stuck rule a r z ts
  pub opens : Opens rule a r ts

-- who is to read the first rule from the first list may read the second from the second list
pub record Goes {A : Alphabet} (rule : Rules A) {s : A.Kind} (a : Rule A s) (ts : List A.Token) (b : Rule A s) (us : List A.Token) : Type 0 where
  pub reads : (x : A.Value s) (vs : List A.Token) → Reads rule s b us x vs → Reads rule s a ts x vs
  pub fails : (r : List A.Token) → Fails rule b us r → Fails rule a ts r

-- what a function answers that reads a rule
abbrev pub Refuses : {A : Alphabet} (rule : Rules A) {s : A.Kind} → Rule A s → List A.Token → Stop A.Token → Type 0
Refuses rule a ts stop.Memory = Unit {0}
Refuses rule a ts (stop.Before r) = Fails rule a ts r.now

abbrev pub Parses : {A : Alphabet} (rule : Rules A) {s : A.Kind} {R : Type 0} → (R → A.Value s) → Rule A s → List A.Token → Result (R × Bor (List A.Token)) (Stop A.Token) → Type 0
Parses rule view a ts (Ok r) = Reads rule _ a ts (view r.0) r.1.now
Parses rule view a ts (Err e) = Refuses rule a ts e

-- what a function answers that asks for one token
abbrev pub Misses : (A : Alphabet) {b : Bool} {r : A.Kind} → A.Test b r → List A.Token → Stop A.Token → Type 0
Misses A c ts stop.Memory = Unit {0}
Misses A c ts (stop.Before r) = IsNot A c ts × (r.now ≡ ts)

abbrev pub Takes : (A : Alphabet) {b : Bool} {r : A.Kind} → A.Test b r → List A.Token → Result (A.Value r × Bor (List A.Token)) (Stop A.Token) → Type 0
Takes A c ts (Ok p) = Starts A c ts p.0 p.1.now
Takes A c ts (Err e) = Misses A c ts e
