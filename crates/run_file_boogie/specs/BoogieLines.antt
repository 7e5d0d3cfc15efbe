-- What a line of a run file of Boogie says.
use Rattle.std.specs.Prelude.{◌≡◌, ◌≤◌, ℕ, Bool, true, false, List, [], ◌∷◌, codes, map}
use Rattle.vb_base.specs.Limits.{max_content_nodes}
use Rattle.vb_value.specs.Content.{Content, nodes}
use Rattle.vb_value.specs.declared.keys.KeyPart.{KeyPart}
use Rattle.vb_value.specs.declared.values.Ty.{Ty}
use Rattle.vb_value.specs.declared.values.Ty.TheVariants as ty
use Rattle.vb_value.specs.declared.values.Value.{Value}
use Rattle.vb_value.specs.declared.values.Value.TheVariants.{Bool as Truth}
use Rattle.boogie_tree.specs.Values.{base_of_scalar}
use Rattle.boogie_tree.specs.Program.{BType, Local}
use Rattle.boogie_tree.specs.Value as b
use Rattle.boogie_tree.specs.Value.{Key, BScalar, Entry, BChoice, Pick, Value as Given}
use Rattle.moves.specs.Scalars.{scalar}
use Rattle.moves.specs.Lists.{is_empty}
use Rattle.run_file_words.specs.Values.{SpellsValue, IsArgument, BeginsWithContent}
use Rattle.run_file_words.specs.Known.{Known, HasName}

-- ---- values

-- words that are a value of some type: one word, or a content
pub data SpellsScalar : List (List ℕ) → BScalar → Type 0 where
  word : {u : Ty} {w : List ℕ} {v : Value} → SpellsValue u w v → SpellsScalar (w ∷ []) (scalar v)
  content : {words : List (List ℕ)} {c : Content} → BeginsWithContent words c [] → nodes c ≤ max_content_nodes → SpellsScalar words (b.Snap c)

-- words that are a key, of at least one part, and behind it a value
pub data SpellsEntry : List (List ℕ) → Key → BScalar → Type 0 where
  last : {u : Ty} {w : List ℕ} {x : Value} {a : KeyPart} {words : List (List ℕ)} {v : BScalar} →
      SpellsValue u w x → IsArgument x a → SpellsScalar words v → SpellsEntry (w ∷ words) (a ∷ []) v
  more : {u : Ty} {w : List ℕ} {x : Value} {a : KeyPart} {words : List (List ℕ)} {k : Key} {v : BScalar} →
      SpellsValue u w x → IsArgument x a → SpellsEntry words k v → SpellsEntry (w ∷ words) (a ∷ k) v

-- ---- lines

-- the variables of a procedure
abbrev pub known : List Local → Known BType
known ls = record { names = map (λ (l : Local). l.name) ls; types = map (λ (l : Local). l.ty) ls }

pub data BoogieLine : Type 0 where
  -- a variable that is no map has a value
  Var : ℕ → BScalar → BoogieLine
  -- a map, which the lines after it fill
  Map : ℕ → BoogieLine
  -- the map that is filled has a value at a key
  At : Entry → BoogieLine
  -- a choice that is no entries
  Chosen : BChoice → BoogieLine
  -- a choice of entries, which the lines after it fill
  Opened : BoogieLine

-- these words are this line
pub data IsLine (k : Known BType) : List (List ℕ) → BoogieLine → Type 0 where
  var : {n : ℕ} {name : List ℕ} {words : List (List ℕ)} {u : BType} {v : BScalar} → HasName k n name u → is_empty u.keys ≡ true →
      SpellsScalar words v → base_of_scalar v ≡ u.base → IsLine k (codes "var" ∷ name ∷ words) (Var n v)
  opens : {n : ℕ} {name : List ℕ} {u : BType} → HasName k n name u → is_empty u.keys ≡ false → IsLine k (codes "entries" ∷ name ∷ []) (Map n)
  at : {words : List (List ℕ)} {e : Entry} → SpellsEntry words e.key e.value → IsLine k (codes "at" ∷ words) (At e)
  pick : {w : List ℕ} {t : Bool} → SpellsValue ty.Bool w (Truth t) → IsLine k (codes "pick" ∷ w ∷ []) (Chosen (Pick t))
  value : {words : List (List ℕ)} {v : BScalar} → SpellsScalar words v → IsLine k (codes "value" ∷ words) (Chosen (Given v))
  entries : IsLine k (codes "entries" ∷ []) Opened
