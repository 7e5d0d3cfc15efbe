-- The text that is printed of values, and of things with names.
use Rattle.std.specs.Prelude.{◌+◌, ◌==◌, ◌++◌, ℕ, Bool, true, false, List, [], ◌∷◌, Option, Some, None, slice_get, codes, if◌then◌else◌}
use Rattle.std.specs.Fmt.{decimal, signed_decimal}
use Rattle.vb_value.specs.Content as content
use Rattle.vb_value.specs.Content.{Content}
use Rattle.vb_value.specs.Fraction.{Fraction}
use Rattle.vb_value.specs.declared.keys.KeyPart.{KeyPart}
use Rattle.vb_value.specs.declared.keys.KeyPart.TheVariants as part
use Rattle.vb_value.specs.declared.values.Value.{Value}
use Rattle.vb_value.specs.declared.values.Value.TheVariants.{Int, Bool as Truth, Ref, Perm}
use Rattle.viper_state.specs.State.{Key}

-- ---- values

abbrev pub truth_text : Bool → List ℕ
truth_text true = codes "true"
truth_text false = codes "false"

abbrev pub reference_text : ℕ → List ℕ
reference_text r = if r == 0 then codes "null" else codes "#" ++ decimal r

abbrev pub fraction_text : Fraction → List ℕ
fraction_text q = signed_decimal q.num ++ codes "/" ++ decimal q.den

abbrev pub value_text : Value → List ℕ
value_text (Int n) = signed_decimal n
value_text (Truth b) = truth_text b
value_text (Ref r) = reference_text r
value_text (Perm q) = fraction_text q

abbrev pub part_text : KeyPart → List ℕ
part_text (part.Int n) = signed_decimal n
part_text (part.Bool b) = truth_text b
part_text (part.Ref r) = reference_text r

-- the arguments of an instance, each with a space behind it
abbrev pub key_text : Key → List ℕ
key_text [] = []
key_text (a ∷ k) = part_text a ++ codes " " ++ key_text k

abbrev pub content_text : Content → List ℕ
content_text content.Unit = codes "unit"
content_text (content.Leaf v) = codes "leaf " ++ value_text v
content_text (content.Pair a b) = codes "pair " ++ content_text a ++ codes " " ++ content_text b

-- ---- things with names

-- what is printed of each thing with its name, where the first has this number
abbrev pub named_text : {X : Type 0} → (List ℕ → X → List ℕ) → Option (List ℕ) → X → List ℕ
named_text text None x = []
named_text text (Some name) x = text name x

abbrev pub numbered_text : {X : Type 0} → (List ℕ → X → List ℕ) → List (List ℕ) → ℕ → List X → List ℕ
numbered_text text names n [] = []
numbered_text text names n (x ∷ xs) = named_text text (slice_get names n) x ++ numbered_text text names (n + 1) xs
