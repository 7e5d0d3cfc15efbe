-- A whole text: what is read up to the end of the tokens.
use Rattle.std.specs.Prelude.{ℕ, List, []}
use Rattle.vb_base.specs.Place.{IsPlace}
use Rattle.grammar.specs.Rules.{Alphabet, Rule, Rules}
use Rattle.grammar.specs.Spells.{Derives}
use Rattle.grammar.specs.Greedy.{Reads, Front, SameFirst, Opens}
use Rattle.grammar.specs.declared.stop.Stop.{Stop}
use Rattle.grammar.specs.declared.stop.Stop.TheVariants as stop

-- the tokens spell something
abbrev pub IsSpelled : {A : Alphabet} (rule : Rules A) {s : A.Kind} → Rule A s → List A.Token → Type 0
IsSpelled rule a ts = (x : _) × Derives rule _ a ts x

-- the tokens spell nothing; the number of the first one with which they begin nothing that does, or that of all tokens
pub record GoesWrong {A : Alphabet} (rule : Rules A) {s : A.Kind} (a : Rule A s) (ts : List A.Token) : Type 0 where
  pub none : IsSpelled rule a ts → ⊥
  pub at : ℕ
  pub place : IsPlace (IsSpelled rule a) ts at

-- with z in the place of r nothing is read up to the end
pub record StuckWhole {A : Alphabet} (rule : Rules A) {s : A.Kind} (a : Rule A s) (r z ts : List A.Token) : Type 0 where
  pub all : List A.Token
  pub front : Front r z ts all
  pub none : (x : A.Value s) → Reads rule s a all x [] → ⊥

-- just in front of r a text goes wrong
pub record FailsWhole {A : Alphabet} (rule : Rules A) {s : A.Kind} (a : Rule A s) (ts r : List A.Token) : Type 0 where
  pub stuck : (z : List A.Token) → SameFirst r z → StuckWhole rule a r z ts
  pub opens : Opens rule a r ts

abbrev pub RefusesWhole : {A : Alphabet} (rule : Rules A) {s : A.Kind} → Rule A s → List A.Token → Stop A.Token → Type 0
RefusesWhole rule a ts stop.Memory = Unit {0}
RefusesWhole rule a ts (stop.Before r) = FailsWhole rule a ts r.now
