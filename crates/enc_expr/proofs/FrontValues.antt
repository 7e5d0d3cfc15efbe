-- The values of an opening have the types of the locals that hold them.
use Rattle.std.proofs.Common.{List, [], ◌∷◌, ◌++◌, map}
use Rattle.std.specs.List.{AllZip}
use Rattle.lemmas.proofs.Lists.{zip_append}
use Rattle.sparse.specs.Map.{Map}
use Rattle.sparse.specs.Meaning.{meaning_of}
use Rattle.vb_value.specs.declared.values.Ty.{Ty}
use Rattle.viper_state.specs.State.{Key}
use Rattle.viper_state.specs.Run.{Opening}
use Rattle.viper_state.specs.Fits.{FitsValue, FitsHeap, FitsContents, FitsOpening}
use Rattle.viper_core.specs.Program.{Program}
use Rattle.viper_core.specs.declared.programs.Unit.{Unit}
use Rattle.boogie_tree.specs.Program.{BType}
use Rattle.boogie_tree.specs.Value.{BScalar, Snap, BValue, One, Many}
use Rattle.boogie_tree.specs.Values.{IsMapOf, IsOfType, one, many, IsEnvironment}
use Rattle.boogie_tree.specs.declared.exprs.BBase.TheVariants as base
use Rattle.moves.specs.Scalars.{scalar, variable_type}
use Rattle.moves.specs.Maps.{place_key, instance_key, index_types, heap_type, content_type}
use Rattle.enc_expr.specs.Front.{types_of, front_types, front_values}
use Rattle.moves.proofs.MapLaws.{scalar_of_type, heap_of_type, contents_of_type}

-- ---- lists side by side

zip_map : {A B C D : Type 0} (R : A → B → Type 0) (S : C → D → Type 0) (f : A → C) (g : B → D) → ((x : A) (y : B) → R x y → S (f x) (g y)) → (xs : List A) (ys : List B) → AllZip R xs ys → AllZip S (map f xs) (map g ys)
zip_map R S f g go [] [] h = tt
zip_map R S f g go (x ∷ xs) (y ∷ ys) h = (go x y h.0, zip_map R S f g go xs ys h.1)
zip_map R S f g go [] (y ∷ ys) h = absurd h
zip_map R S f g go (x ∷ xs) [] h = absurd h

-- ---- values and maps

-- the indices of instances are some
contents_many : (us : List Ty) (m : Map Key BScalar) → IsMapOf (index_types us) base.Snap m → IsOfType (Many m) (content_type us)
contents_many [] m h = many h
contents_many (u ∷ us) m h = many h

-- ---- what is promised

pub front_fits : (p : Program) (u : Unit) (x : Opening) → FitsOpening p.layout (types_of p u) x → IsEnvironment (front_types p u) (front_values x)
front_fits p u x h = zip_append fits (map variable_type (types_of p u) ++ map heap_type p.layout.fields) (map content_type p.layout.keys) (map (λ v. One (scalar v)) x.store ++ map (λ m. Many (meaning_of place_key scalar m)) x.memo.heap)
    (map (λ m. Many (meaning_of instance_key Snap m)) x.memo.content)
    (zip_append fits (map variable_type (types_of p u)) (map heap_type p.layout.fields) (map (λ v. One (scalar v)) x.store) (map (λ m. Many (meaning_of place_key scalar m)) x.memo.heap)
    (zip_map FitsValue fits variable_type (λ v. One (scalar v)) (λ u v k. one (scalar_of_type u v k)) (types_of p u) x.store h.store)
    (zip_map FitsHeap fits heap_type (λ m. Many (meaning_of place_key scalar m)) (λ u m k. many (heap_of_type u m k)) p.layout.fields x.memo.heap h.memo.heap))
    (zip_map FitsContents fits content_type (λ m. Many (meaning_of instance_key Snap m)) (λ us m k. contents_many us (meaning_of instance_key Snap m) (contents_of_type us m k)) p.layout.keys x.memo.content h.memo.content)
  where
    fits : BType → BValue → Type 0
    fits w y = IsOfType y w
