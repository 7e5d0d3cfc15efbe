-- The test of what fits is exact.
use Rattle.std.proofs.Common.{refl, ℕ, Bool, ◌&&◌, List, [], ◌∷◌}
use Rattle.std.specs.Bool.{Decides}
use Rattle.std.specs.List.{AllZip, list_all}
use Rattle.std.specs.Ordering.{nat_cmp}
use Rattle.std.proofs.lemmas.Bool.Decides.{Decides-and}
use Rattle.sparse.specs.Map as map
use Rattle.sparse.specs.Map.{Map, is_reduced}
use Rattle.sparse.proofs.MapLaws.{Decides-is_reduced, Decides-list_all}
use Rattle.vb_value.specs.Content as content
use Rattle.vb_value.specs.Content.{IsReducedContent, all_values, same_content}
use Rattle.vb_value.specs.Equality.{Decides-value_eq, Decides-same_content}
use Rattle.vb_value.specs.Key.{key_cmp}
use Rattle.vb_value.specs.Layout.{Layout}
use Rattle.vb_value.specs.Value.{type_of, same_type, default_of, value_eq, IsReducedValue, is_reduced_value}
use Rattle.vb_value.specs.declared.keys.KeyPart.{KeyPart}
use Rattle.vb_value.specs.declared.values.Ty.{Ty}
use Rattle.vb_value.specs.declared.values.Value.{Value}
use Rattle.vb_value.proofs.ReducedLaws.{Decides-is_reduced_value, Decides-all_values, Decides-same_type}
use Rattle.viper_state.specs.State.{Key, Memo}
use Rattle.viper_state.specs.Fits.{part_type, FitsPart, FitsKey, FitsValue, FitsHeap, FitsContents, FitsMemo, IsReference}
use Rattle.viper_state.specs.FitsTest.{all_zip, fits_part, fits_key, fits_value, fits_heap, fits_contents, fits_memo}
use Rattle.viper_state.proofs.Paired.{All-all}

Decides-all_zip : {A B : Type 0} (test : A → B → Bool) (R : A → B → Type 0) → ((x : A) (y : B) → Decides (test x y) (R x y)) → (xs : List A) (ys : List B) → Decides (all_zip test xs ys) (AllZip R xs ys)
Decides-all_zip test R each [] [] = (λ e. tt, λ h. refl)
Decides-all_zip test R each [] (y ∷ ys) = (λ e. cc, λ h. absurd h)
Decides-all_zip test R each (x ∷ xs) [] = (λ e. cc, λ h. absurd h)
Decides-all_zip test R each (x ∷ xs) (y ∷ ys) = Decides-and (test x y) (all_zip test xs ys) (each x y) (Decides-all_zip test R each xs ys)

Decides-fits_part : (u : Ty) (a : KeyPart) → Decides (fits_part u a) (FitsPart u a)
Decides-fits_part u a = Decides-same_type (part_type a) u

Decides-fits_key : (us : List Ty) (k : Key) → Decides (fits_key us k) (FitsKey us k)
Decides-fits_key us k = Decides-all_zip fits_part FitsPart Decides-fits_part us k

Decides-fits_value : (u : Ty) (v : Value) → Decides (fits_value u v) (FitsValue u v)
Decides-fits_value u v =
    let d = Decides-and (same_type (type_of v) u) (is_reduced_value v) (Decides-same_type (type_of v) u) (Decides-is_reduced_value v) in
    (λ e. record { typed = (d.0 e).0; reduced = (d.0 e).1 }, λ h. d.1 (h.typed, h.reduced))

Decides-fits_heap : (u : Ty) (m : Map ℕ Value) → Decides (fits_heap u m) (FitsHeap u m)
Decides-fits_heap u m =
    let entries = Decides-and (is_reduced nat_cmp value_eq m) (list_all (fits_value u) (map.values m)) (Decides-is_reduced nat_cmp value_eq m) (Decides-list_all (fits_value u) (FitsValue u) (Decides-fits_value u) (map.values m)) in
    let d = Decides-and (value_eq m.default (default_of u)) (is_reduced nat_cmp value_eq m && list_all (fits_value u) (map.values m)) (Decides-value_eq m.default (default_of u)) entries in
    (λ e. record { default = (d.0 e).0; reduced = (d.0 e).1.0; keys = All-all IsReference (λ r. tt) (map.keys m); values = (d.0 e).1.1 }, λ h. d.1 (h.default, (h.reduced, h.values)))

Decides-fits_contents : (us : List Ty) (m : Map Key content.Content) → Decides (fits_contents us m) (FitsContents us m)
Decides-fits_contents us m =
    let leaves = Decides-list_all (all_values is_reduced_value) IsReducedContent (Decides-all_values is_reduced_value IsReducedValue Decides-is_reduced_value) (map.values m) in
    let keys = Decides-list_all (fits_key us) (FitsKey us) (Decides-fits_key us) (map.keys m) in
    let entries = Decides-and (list_all (fits_key us) (map.keys m)) (list_all (all_values is_reduced_value) (map.values m)) keys leaves in
    let reduced = Decides-and (is_reduced key_cmp same_content m) (list_all (fits_key us) (map.keys m) && list_all (all_values is_reduced_value) (map.values m)) (Decides-is_reduced key_cmp same_content m) entries in
    let d = Decides-and (same_content m.default content.Unit) (is_reduced key_cmp same_content m && (list_all (fits_key us) (map.keys m) && list_all (all_values is_reduced_value) (map.values m))) (Decides-same_content m.default content.Unit) reduced in
    (λ e. record { default = (d.0 e).0; reduced = (d.0 e).1.0; keys = (d.0 e).1.1.0; values = (d.0 e).1.1.1 }, λ h. d.1 (h.default, (h.reduced, (h.keys, h.values))))

pub Decides-fits_memo : (l : Layout) (m : Memo) → Decides (fits_memo l m) (FitsMemo l m)
Decides-fits_memo l m =
    let d = Decides-and (all_zip fits_heap l.fields m.heap) (all_zip fits_contents l.keys m.content) (Decides-all_zip fits_heap FitsHeap Decides-fits_heap l.fields m.heap) (Decides-all_zip fits_contents FitsContents Decides-fits_contents l.keys m.content) in
    (λ e. record { heap = (d.0 e).0; content = (d.0 e).1 }, λ h. d.1 (h.heap, h.content))
