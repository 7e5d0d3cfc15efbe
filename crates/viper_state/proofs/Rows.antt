-- Heaps and contents that fit, and what does not: the definitions compute these. There is one field, and one predicate of
-- one reference.
use Rattle.std.proofs.Common.{◌≡◌, ℕ, pos, Bool, true, false, List, [], ◌∷◌, refl}
use Rattle.sparse.specs.Map.{Map}
use Rattle.vb_value.specs.Content.{Content, Unit, Leaf}
use Rattle.vb_value.specs.Gcd.{gcd}
use Rattle.vb_value.specs.Layout.{Layout}
use Rattle.vb_value.specs.Value.{default_of}
use Rattle.vb_value.specs.declared.keys.KeyPart.TheVariants as part
use Rattle.vb_value.specs.declared.values.Ty.{Ty}
use Rattle.vb_value.specs.declared.values.Ty.TheVariants as ty
use Rattle.vb_value.specs.declared.values.Value.{Value}
use Rattle.vb_value.specs.declared.values.Value.TheVariants.{Int, Bool as Truth, Perm}
use Rattle.viper_state.specs.State.{Key, Memo}
use Rattle.viper_state.specs.FitsTest.{fits_memo}

abbrev layout : Ty → Layout
layout u = record { fields = u ∷ []; keys = (ty.Ref ∷ []) ∷ [] }

abbrev none_held : Map Key Content
none_held = record { default = Unit; entries = [] }

abbrev memo : Value → List (ℕ × Value) → List (Map Key Content) → Memo
memo d es cs = record { heap = (record { default = d; entries = es }) ∷ []; content = cs }

-- whether a heap of an Int field with these entries fits
abbrev fits_ints : List (ℕ × Value) → Bool
fits_ints es = fits_memo (layout ty.Int) (memo (Int (pos 0)) es (none_held ∷ []))

abbrev fits_contents : List (Key × Content) → Bool
fits_contents es = fits_memo (layout ty.Int) (memo (Int (pos 0)) [] ((record { default = Unit; entries = es }) ∷ []))

pub fitting : fits_ints ((1, Int (pos 7)) ∷ (4, Int (pos 7)) ∷ []) ≡ true
fitting = refl

pub twice : fits_ints ((1, Int (pos 7)) ∷ (1, Int (pos 8)) ∷ []) ≡ false
twice = refl

pub descending : fits_ints ((4, Int (pos 7)) ∷ (1, Int (pos 7)) ∷ []) ≡ false
descending = refl

pub default_entry : fits_ints ((1, Int (pos 0)) ∷ []) ≡ false
default_entry = refl

pub other_type : fits_ints ((1, Truth true) ∷ []) ≡ false
other_type = refl

pub other_default : fits_memo (layout ty.Int) (memo (Int (pos 1)) [] (none_held ∷ [])) ≡ false
other_default = refl

pub missing_map : fits_memo (layout ty.Int) (memo (Int (pos 0)) [] []) ≡ false
missing_map = refl

pub map_too_many : fits_memo (layout ty.Int) (memo (Int (pos 0)) [] (none_held ∷ none_held ∷ [])) ≡ false
map_too_many = refl

pub half : fits_memo (layout ty.Perm) (memo (default_of ty.Perm) ((1, Perm (record { num = pos 1; den = 2 })) ∷ []) (none_held ∷ [])) ≡ true
unfolding gcd
half = refl

pub two_quarters : fits_memo (layout ty.Perm) (memo (default_of ty.Perm) ((1, Perm (record { num = pos 2; den = 4 })) ∷ []) (none_held ∷ [])) ≡ false
unfolding gcd
two_quarters = refl

pub fitting_content : fits_contents ((part.Ref 1 ∷ [], Leaf (Int (pos 7))) ∷ []) ≡ true
fitting_content = refl

pub unreduced_leaf : fits_contents ((part.Ref 1 ∷ [], Leaf (Perm (record { num = pos 2; den = 4 }))) ∷ []) ≡ false
unfolding gcd
unreduced_leaf = refl

pub nothing_entry : fits_contents ((part.Ref 1 ∷ [], Unit) ∷ []) ≡ false
nothing_entry = refl

pub other_argument : fits_contents ((part.Int (pos 1) ∷ [], Leaf (Int (pos 7))) ∷ []) ≡ false
other_argument = refl

pub argument_too_many : fits_contents ((part.Ref 1 ∷ part.Ref 2 ∷ [], Leaf (Int (pos 7))) ∷ []) ≡ false
argument_too_many = refl
