-- Whether a heap and contents fit, as a test.
use Rattle.std.specs.Prelude.{ℕ, Bool, true, false, ◌&&◌, List, [], ◌∷◌}
use Rattle.std.specs.List.{list_all}
use Rattle.std.specs.Ordering.{nat_cmp}
use Rattle.sparse.specs.Map.{Map, keys, values, is_reduced}
use Rattle.vb_value.specs.Content as content
use Rattle.vb_value.specs.Content.{all_values, same_content}
use Rattle.vb_value.specs.Key.{key_cmp}
use Rattle.vb_value.specs.Layout.{Layout}
use Rattle.vb_value.specs.Value.{type_of, same_type, default_of, value_eq, is_reduced_value}
use Rattle.vb_value.specs.declared.keys.KeyPart.{KeyPart}
use Rattle.vb_value.specs.declared.values.Ty.{Ty}
use Rattle.vb_value.specs.declared.values.Value.{Value}
use Rattle.viper_state.specs.State.{Key, Memo}
use Rattle.viper_state.specs.Fits.{part_type}

-- as many on both sides, and each two pass the test
abbrev pub all_zip : {A B : Type 0} → (A → B → Bool) → List A → List B → Bool
all_zip test [] [] = true
all_zip test [] (y ∷ ys) = false
all_zip test (x ∷ xs) [] = false
all_zip test (x ∷ xs) (y ∷ ys) = test x y && all_zip test xs ys

abbrev pub fits_part : Ty → KeyPart → Bool
fits_part u a = same_type (part_type a) u

abbrev pub fits_key : List Ty → Key → Bool
fits_key us k = all_zip fits_part us k

abbrev pub fits_value : Ty → Value → Bool
fits_value u v = same_type (type_of v) u && is_reduced_value v

abbrev pub fits_heap : Ty → Map ℕ Value → Bool
fits_heap u m = value_eq m.default (default_of u) && (is_reduced nat_cmp value_eq m && list_all (fits_value u) (values m))

abbrev pub fits_contents : List Ty → Map Key content.Content → Bool
fits_contents us m =
    same_content m.default content.Unit && (is_reduced key_cmp same_content m && (list_all (fits_key us) (keys m) && list_all (all_values is_reduced_value) (values m)))

-- true exactly where `FitsMemo` holds
abbrev pub fits_memo : Layout → Memo → Bool
fits_memo layout m = all_zip fits_heap layout.fields m.heap && all_zip fits_contents layout.keys m.content
