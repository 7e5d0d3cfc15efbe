-- A grammar as data. What it is made of is its alphabet; a rule says how something is spelled: as a row of tokens and
-- symbols, with alternatives, and at its end it says what was spelled. The rule of each symbol makes the grammar.
use Rattle.std.specs.Prelude.{◌≡◌, Bool, true, List, ◌∷◌}

pub record Alphabet : Type 1 where
  pub Token : Type 0
  -- what a part of a text is the spelling of, and the values of that kind
  pub Kind : Type 0
  pub Value : Kind → Type 0
  -- what may be asked of a token, of which a value of the kind is taken; `true` says that some token passes
  pub Test : Bool → Kind → Type 0
  pub Passes : (b : Bool) (r : Kind) → Test b r → Token → Value r → Type 0
  -- the names of what can be spelled
  pub Symbol : Kind → Type 0

pub data Rule (A : Alphabet) : A.Kind → Type 0 where
  -- nothing more: this is spelled
  give : {s : A.Kind} → A.Value s → Rule A s
  -- a token that passes the test, and then the rule that follows it
  need : {r s : A.Kind} → A.Test true r → (A.Value r → Rule A s) → Rule A s
  -- either a token that passes the test and the first rule, or the second rule
  when : {b : Bool} {r s : A.Kind} → A.Test b r → (A.Value r → Rule A s) → Rule A s → Rule A s
  -- what the symbol spells, and then the rule that follows it
  read : {r s : A.Kind} → A.Symbol r → (A.Value r → Rule A s) → Rule A s

abbrev pub Rules : Alphabet → Type 0
Rules A = (s : A.Kind) → A.Symbol s → Rule A s

-- a list of tokens begins with one that passes, of which this is taken, and these follow it
pub record Starts (A : Alphabet) {b : Bool} {r : A.Kind} (c : A.Test b r) (ts : List A.Token) (v : A.Value r) (us : List A.Token) : Type 0 where
  pub token : A.Token
  pub is : ts ≡ token ∷ us
  pub passes : A.Passes b r c token v
