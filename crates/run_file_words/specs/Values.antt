-- How values, the arguments of an instance, and contents are spelled. (The spelling is this project's own; numbers and
-- literals are those of the Viper tutorial.)
use Rattle.std.specs.Prelude.{◌≡◌, ◌≢◌, ◌<◌, ◌^◌, ℕ, ℤ, pos, neg_ℤ, Bool, true, false, IsTrue, List, [], ◌∷◌, ◌++◌, codes, length}
use Rattle.std.specs.Char.{is_ascii_digit}
use Rattle.std.specs.List.{list_all}
use Rattle.std.specs.Str.Parse.{digits_value}
use Rattle.vb_value.specs.Content as content
use Rattle.vb_value.specs.Content.{Content}
use Rattle.vb_value.specs.Fraction.{reduced}
use Rattle.vb_value.specs.declared.keys.KeyPart.{KeyPart}
use Rattle.vb_value.specs.declared.keys.KeyPart.TheVariants as part
use Rattle.vb_value.specs.declared.values.Ty.{Ty}
use Rattle.vb_value.specs.declared.values.Ty.TheVariants as ty
use Rattle.vb_value.specs.declared.values.Value.{Value}
use Rattle.vb_value.specs.declared.values.Value.TheVariants.{Int, Bool as Truth, Ref, Perm}

-- a row of at least one digit, whose number is below a limit. Leading zeros are allowed.
pub record SpellsBelow (limit : ℕ) (word : List ℕ) (n : ℕ) : Type 0 where
  pub digits : IsTrue (list_all is_ascii_digit word)
  pub some : 0 < length word
  pub value : digits_value 10 word ≡ n
  pub small : n < limit

-- a whole number of magnitude at most MAX
pub data SpellsInt : List ℕ → ℤ → Type 0 where
  plain : {word : List ℕ} {n : ℕ} → SpellsBelow (2 ^ 127) word n → SpellsInt word (pos n)
  negative : {digits : List ℕ} {n : ℕ} → SpellsBelow (2 ^ 127) digits n → SpellsInt (45 ∷ digits) (neg_ℤ (pos n))

-- a value of a type. A reference is `null`, or `#` and a number below 2^64, and a fraction is a whole number, `/` and digits
-- that are not zero: both numbers are at most MAX as they are written, and the fraction is read in lowest terms.
pub data SpellsValue : Ty → List ℕ → Value → Type 0 where
  int : {word : List ℕ} {n : ℤ} → SpellsInt word n → SpellsValue ty.Int word (Int n)
  truth : SpellsValue ty.Bool (codes "true") (Truth true)
  falsehood : SpellsValue ty.Bool (codes "false") (Truth false)
  null : SpellsValue ty.Ref (codes "null") (Ref 0)
  reference : {digits : List ℕ} {r : ℕ} → SpellsBelow (2 ^ 64) digits r → SpellsValue ty.Ref (35 ∷ digits) (Ref r)
  perm : {num den : List ℕ} {n : ℤ} {d : ℕ} → SpellsInt num n → SpellsBelow (2 ^ 127) den d → d ≢ 0 →
      SpellsValue ty.Perm (num ++ 47 ∷ den) (Perm (reduced n d))

-- an argument of an instance is a value that is no fraction
pub data IsArgument : Value → KeyPart → Type 0 where
  int : {n : ℤ} → IsArgument (Int n) (part.Int n)
  truth : {b : Bool} → IsArgument (Truth b) (part.Bool b)
  reference : {r : ℕ} → IsArgument (Ref r) (part.Ref r)

-- the words begin with arguments of these types, and these words are left
pub data BeginsWithKey : List Ty → List (List ℕ) → List KeyPart → List (List ℕ) → Type 0 where
  none : {rest : List (List ℕ)} → BeginsWithKey [] rest [] rest
  more : {u : Ty} {us : List Ty} {word : List ℕ} {words rest : List (List ℕ)} {v : Value} {a : KeyPart} {k : List KeyPart} →
      SpellsValue u word v → IsArgument v a → BeginsWithKey us words k rest →
      BeginsWithKey (u ∷ us) (word ∷ words) (a ∷ k) rest

-- the words begin with this content, and these words are left: `unit`, `leaf` and a value of any type, or `pair` and two
-- contents
pub data BeginsWithContent : List (List ℕ) → Content → List (List ℕ) → Type 0 where
  unit : {rest : List (List ℕ)} → BeginsWithContent (codes "unit" ∷ rest) content.Unit rest
  leaf : {u : Ty} {word : List ℕ} {v : Value} {rest : List (List ℕ)} →
      SpellsValue u word v → BeginsWithContent (codes "leaf" ∷ word ∷ rest) (content.Leaf v) rest
  pair : {words middle rest : List (List ℕ)} {a b : Content} →
      BeginsWithContent words a middle → BeginsWithContent middle b rest →
      BeginsWithContent (codes "pair" ∷ words) (content.Pair a b) rest
