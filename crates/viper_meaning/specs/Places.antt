-- Reading a place, taking from an instance, and filling both from a content.
use Rattle.std.specs.Prelude.{⊤, ℕ, not, ◌==◌, Option, Some, None, List, [], ◌∷◌, if◌then◌else◌}
use Rattle.std.specs.Ordering.{is_lt}
use Rattle.vb_base.specs.declared.labels.Kind.TheVariants as kind
use Rattle.vb_base.specs.declared.places.Pos.{Pos}
use Rattle.vb_value.specs.Bound.{Bound}
use Rattle.vb_value.specs.Content.{Content, Unit, Leaf, Pair, same_content}
use Rattle.vb_value.specs.Fraction.{Fraction, is_negative, is_positive, is_none, is_above_one, sum, difference, product, order, fits_sum, fits_difference, fits_product, fits_order}
use Rattle.vb_value.specs.Value.{value_eq, type_of, same_type}
use Rattle.vb_value.specs.declared.keys.KeyPart.{KeyPart}
use Rattle.vb_value.specs.declared.keys.KeyPart.TheVariants as part
use Rattle.vb_value.specs.declared.values.Value.{Value}
use Rattle.vb_value.specs.declared.values.Value.TheVariants.{Int, Bool, Ref, Perm}
use Rattle.viper_state.specs.State.{Key, State, value_at, mask_at, content_at, amount_at, with_value, with_mask, with_content, with_amount}
use Rattle.viper_state.specs.Event as event
use Rattle.viper_state.specs.Run.{Scene}
use Rattle.viper_meaning.specs.Ends.{Evaluated, is, fails, blocks, then_with, found, unless, recorded, fitting}

-- ---- reading

-- the value of a field, whose name is at this place: null has no fields, and some permission is needed
abbrev pub read_field : Scene → State → ℕ → Pos → ℕ → Evaluated Value
read_field sc s field at r =
    unless (r == 0) (fails sc at kind.Null) (then_with (found (mask_at s field r)) (λ held.
    unless (is_none held) (fails sc at kind.Perm) (found (value_at s field r))))

-- the arguments of an instance. A Perm is none.
abbrev pub key_part : Value → Option KeyPart
key_part (Int n) = Some (part.Int n)
key_part (Bool b) = Some (part.Bool b)
key_part (Ref r) = Some (part.Ref r)
key_part (Perm q) = None

abbrev pub in_front : {X : Type 0} → Option X → Option (List X) → Option (List X)
in_front (Some x) (Some xs) = Some (x ∷ xs)
in_front (Some x) None = None
in_front None xs = None

abbrev pub key_of : List Value → Option Key
key_of [] = Some []
key_of (v ∷ vs) = in_front (key_part v) (key_of vs)

-- ---- taking

-- the state after so much of an instance was taken, for an `unfold` or `unfolding` whose predicate is named at this place
abbrev pub taken : Bound → Scene → State → ℕ → Key → Fraction → Pos → Evaluated State
taken b sc s p key q at =
    unless (not (is_positive q)) (fails sc at kind.Amount) (then_with (found (amount_at s p key)) (λ held.
    then_with (fitting b (fits_order held q) at (is_lt (order held q))) (λ less. unless less (fails sc at kind.Perm) (
    then_with (fitting b (fits_difference held q) at (difference held q)) (λ left. is (with_amount s p key left))))))

-- ---- filling from a content

-- what is held after so much was added, times the scale
abbrev pub added : Bound → Fraction → Fraction → Fraction → Pos → Evaluated Fraction
added b held scale q at =
    then_with (fitting b (fits_product scale q) at (product scale q)) (λ more. fitting b (fits_sum held more) at (sum held more))

-- nothing is filled from Unit alone
abbrev pub unit_of : Content → Evaluated ⊤
unit_of Unit = is tt
unit_of _ = blocks

abbrev pub leaf_of : Content → Evaluated Value
leaf_of (Leaf v) = is v
leaf_of _ = blocks

-- a conjunction is filled from a Pair, whose parts are recorded
abbrev pub pair_of : Content → Evaluated (Content × Content)
pair_of (Pair c d) = recorded (event.Split c d) (is (c, d))
pair_of _ = blocks

-- the value that a place takes: a Leaf of the field's type, which is that of the value there. It is recorded. Null takes none.
abbrev pub leaf_for : State → ℕ → ℕ → Content → Evaluated Value
leaf_for s field r c =
    unless (r == 0) blocks (then_with (leaf_of c) (λ v. then_with (found (value_at s field r)) (λ old.
    unless (not (same_type (type_of v) (type_of old))) blocks (recorded (event.Leaf v) (is v)))))

-- a place takes the value where there was no permission; else the value must be the one that is there
abbrev pub written : State → ℕ → ℕ → Value → Fraction → Evaluated State
written s field r v held =
    if is_none held then is (with_value s field r v) else then_with (found (value_at s field r)) (λ old. unless (not (value_eq v old)) blocks (is s))

-- the value of a place, and so much more permission to it, of which there is at most 1
abbrev pub fill_leaf : Bound → Fraction → ℕ → ℕ → Fraction → Value → Pos → State → Evaluated State
fill_leaf b scale field r q v at s =
    then_with (found (mask_at s field r)) (λ held. then_with (written s field r v held) (λ t. then_with (added b held scale q at) (λ all.
    unless (is_above_one all) blocks (is (with_mask t field r all)))))

-- a place, by an amount that is positive
abbrev pub fill_some : Bound → Fraction → ℕ → ℕ → Fraction → Content → Pos → State → Evaluated State
fill_some b scale field r q c at s = then_with (leaf_for s field r c) (λ v. fill_leaf b scale field r q v at s)

abbrev pub fill_place : Bound → Scene → Fraction → ℕ → ℕ → Fraction → Content → Pos → State → Evaluated State
fill_place b sc scale field r q c at s =
    unless (is_negative q) (fails sc at kind.Negative) (if is_none q then then_with (unit_of c) (λ u. is s) else fill_some b scale field r q c at s)

-- an instance takes the content where none was held; else the contents must be equal
abbrev pub contained : State → ℕ → Key → Content → Fraction → Evaluated State
contained s p key c held =
    if is_none held then is (with_content s p key c) else then_with (found (content_at s p key)) (λ old. unless (not (same_content c old)) blocks (is s))

-- an instance, by an amount that is positive. What is held of it has no upper bound.
abbrev pub fill_held : Bound → Fraction → ℕ → Key → Fraction → Content → Pos → State → Evaluated State
fill_held b scale p key q c at s =
    then_with (found (amount_at s p key)) (λ held. then_with (contained s p key c held) (λ t. then_with (added b held scale q at) (λ all.
    is (with_amount t p key all))))

abbrev pub fill_instance : Bound → Scene → Fraction → ℕ → Key → Fraction → Content → Pos → State → Evaluated State
fill_instance b sc scale p key q c at s =
    unless (is_negative q) (fails sc at kind.Negative) (if is_none q then then_with (unit_of c) (λ u. is s) else fill_held b scale p key q c at s)
