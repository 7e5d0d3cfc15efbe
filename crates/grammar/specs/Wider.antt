-- A grammar over more symbols: the kinds, tests and symbols of an alphabet with further kinds and symbols, and the rules of
-- its symbols with those of the further ones. What the first symbols spell, they spell here too, and nothing else.
use Rattle.std.specs.Prelude.{Bool}
use Rattle.grammar.specs.Rules.{Alphabet, Rule, give, need, when, read, Rules}

pub data Kinds (A : Alphabet) (K : Type 0) : Type 0 where
  old : A.Kind → Kinds A K
  new : K → Kinds A K

abbrev pub ValueOf : (A : Alphabet) {K : Type 0} → (K → Type 0) → Kinds A K → Type 0
ValueOf A V (old r) = A.Value r
ValueOf A V (new k) = V k

-- nothing further is asked of a token
abbrev pub TestOf : (A : Alphabet) {K : Type 0} → Bool → Kinds A K → Type 0
TestOf A b (old r) = A.Test b r
TestOf A b (new k) = ⊥

abbrev pub PassesOf : (A : Alphabet) {K : Type 0} (V : K → Type 0) (b : Bool) (r : Kinds A K) → TestOf A b r → A.Token → ValueOf A V r → Type 0
PassesOf A V b (old r) c k v = A.Passes b r c k v
PassesOf A V b (new r) c k v = ⊥

-- the symbols of the alphabet, and further ones of any kind
pub data Symbols (A : Alphabet) {K : Type 0} (S : Kinds A K → Type 0) : Kinds A K → Type 0 where
  was : {r : A.Kind} → A.Symbol r → Symbols A S (old r)
  more : {r : Kinds A K} → S r → Symbols A S r

abbrev pub wider : (A : Alphabet) (K : Type 0) → (K → Type 0) → (Kinds A K → Type 0) → Alphabet
wider A K V S = record {
  Token = A.Token;
  Kind = Kinds A K;
  Value = ValueOf A V;
  Test = TestOf A;
  Passes = PassesOf A V;
  Symbol = Symbols A S;
}

-- a rule of the alphabet as one of the wider
abbrev pub lifted : {A : Alphabet} {K : Type 0} {V : K → Type 0} {S : Kinds A K → Type 0} {s : A.Kind} → Rule A s → Rule (wider A K V S) (old s)
lifted (give x) = give x
lifted (need {r = r} c go) = need {r = old r} c (λ v. lifted (go v))
lifted (when {r = r} c go other) = when {r = old r} c (λ v. lifted (go v)) (lifted other)
lifted (read {r = r} a go) = read {r = old r} (was a) (λ v. lifted (go v))

-- the rules of the alphabet, and those of the further symbols
abbrev pub all_rules : {A : Alphabet} {K : Type 0} {V : K → Type 0} {S : Kinds A K → Type 0} →
    Rules A → ((r : Kinds A K) → S r → Rule (wider A K V S) r) → Rules (wider A K V S)
all_rules rule others _ (was {r = r} a) = lifted (rule r a)
all_rules rule others r (more a) = others r a
