-- Values, keys and maps of Viper have the types of Boogie that are told for them.
use Rattle.std.proofs.Common.{◌≡◌, ◌∙◌, ℕ, false, List, [], ◌∷◌, map, All, refl, ap, subst}
use Rattle.std.proofs.lemmas.List.Elements.{All-nil, All-cons, All-head, All-tail}
use Rattle.std.specs.List.Sorted.{IsStrictlySortedBy}
use Rattle.std.specs.Map.{keys_of, values_of}
use Rattle.std.specs.Ordering.{nat_cmp, ordering_then}
use Rattle.std.specs.declared.cmp.Ordering.{Ordering}
use Rattle.std.specs.declared.cmp.Ordering.TheVariants.{Less, Equal, Greater}
use Rattle.sparse.specs.Map.{Map}
use Rattle.sparse.specs.Meaning.{meaning_of, IsMeaning}
use Rattle.sparse.proofs.MeaningLaws.{IsReduced-meaning_of}
use Rattle.vb_value.specs.Content.{Content, IsReducedContent, same_content}
use Rattle.vb_value.specs.Key.{key_cmp}
use Rattle.vb_value.specs.Value as v
use Rattle.vb_value.specs.Value.{value_eq}
use Rattle.vb_value.specs.declared.keys.KeyPart.{KeyPart}
use Rattle.vb_value.specs.declared.keys.KeyPart.TheVariants as part
use Rattle.vb_value.specs.declared.values.Ty.{Ty}
use Rattle.vb_value.specs.declared.values.Ty.TheVariants as ty
use Rattle.vb_value.specs.declared.values.Value.{Value}
use Rattle.vb_value.specs.declared.values.Value.TheVariants as value
use Rattle.viper_state.specs.State.{Key}
use Rattle.viper_state.specs.Fits.{IsReference, FitsKey, FitsValue, FitsHeap, FitsContents, part_type}
use Rattle.boogie_tree.specs.Value.{BScalar, Snap, same_scalar}
use Rattle.boogie_tree.specs.Values as b
use Rattle.boogie_tree.specs.Values.{FitsScalar, IsMapOf}
use Rattle.boogie_tree.specs.declared.exprs.BBase.TheVariants as base
use Rattle.moves.specs.Scalars.{scalar, base_for}
use Rattle.moves.specs.Maps.{place_key, instance_key, index_types}

-- ---- values

pub scalar_fits : (x : Value) → v.IsReducedValue x → FitsScalar (base_for (v.type_of x)) (scalar x)
scalar_fits (value.Int n) h = record { typed = refl; reduced = tt }
scalar_fits (value.Bool q) h = record { typed = refl; reduced = tt }
scalar_fits (value.Ref r) h = record { typed = refl; reduced = tt }
scalar_fits (value.Perm q) h = record { typed = refl; reduced = h }

pub scalar_of_type : (u : Ty) (x : Value) → FitsValue u x → FitsScalar (base_for u) (scalar x)
scalar_of_type u x h = subst (λ (w : Ty). FitsScalar (base_for w) (scalar x)) h.typed (scalar_fits x h.reduced)

default_scalar : (u : Ty) → scalar (v.default_of u) ≡ b.default_of (base_for u)
default_scalar ty.Int = refl
default_scalar ty.Bool = refl
default_scalar ty.Ref = refl
default_scalar ty.Perm = refl

same_values : (x y : Value) → value_eq x y ≡ same_scalar (scalar x) (scalar y)
same_values (value.Int a) (value.Int c) = refl
same_values (value.Bool a) (value.Bool c) = refl
same_values (value.Ref a) (value.Ref c) = refl
same_values (value.Perm a) (value.Perm c) = refl
same_values (value.Int a) (value.Bool c) = refl
same_values (value.Int a) (value.Ref c) = refl
same_values (value.Int a) (value.Perm c) = refl
same_values (value.Bool a) (value.Int c) = refl
same_values (value.Bool a) (value.Ref c) = refl
same_values (value.Bool a) (value.Perm c) = refl
same_values (value.Ref a) (value.Int c) = refl
same_values (value.Ref a) (value.Bool c) = refl
same_values (value.Ref a) (value.Perm c) = refl
same_values (value.Perm a) (value.Int c) = refl
same_values (value.Perm a) (value.Bool c) = refl
same_values (value.Perm a) (value.Ref c) = refl

-- ---- keys

part_fits : (x : KeyPart) → b.base_of_part x ≡ base_for (part_type x)
part_fits (part.Int n) = refl
part_fits (part.Bool q) = refl
part_fits (part.Ref r) = refl

parts_fit : (us : List Ty) (a : Key) → FitsKey us a → b.FitsKey (map base_for us) a
parts_fit [] [] h = tt
parts_fit [] (x ∷ a) h = absurd h
parts_fit (u ∷ us) [] h = absurd h
parts_fit (u ∷ us) (x ∷ a) h = (part_fits x ∙ ap base_for h.0, parts_fit us a h.1)

pub instance_fits : (us : List Ty) (a : Key) → FitsKey us a → b.FitsKey (index_types us) (instance_key a)
instance_fits [] [] h = (refl, tt)
instance_fits [] (x ∷ a) h = absurd h
instance_fits (u ∷ us) [] h = absurd h
instance_fits (u ∷ us) (x ∷ a) h = (part_fits x ∙ ap base_for h.0, parts_fit us a h.1)

-- ---- maps

alone : (r : Ordering) → r ≡ ordering_then r Equal
alone Less = refl
alone Equal = refl
alone Greater = refl

places_mean : IsMeaning nat_cmp value_eq place_key scalar key_cmp same_scalar
places_mean = record { keys = λ k q. alone (nat_cmp k q); values = same_values }

module _ {K V : Type 0} (f : K → Key) (g : V → BScalar) where
  -- the keys and values of the map that is meant
  keys_mean : (P : K → Type 0) (Q : Key → Type 0) → ((k : K) → P k → Q (f k)) → (es : List (K × V)) → All P (keys_of es) → All Q (keys_of (map {B = Key × BScalar} (λ (e : K × V). (f e.0, g e.1)) es))
  keys_mean P Q go [] h = All-nil Q
  keys_mean P Q go (e ∷ es) h = All-cons Q (f e.0) (keys_of (map {B = Key × BScalar} (λ (e : K × V). (f e.0, g e.1)) es)) (go e.0 (All-head P e.0 (keys_of es) h)) (keys_mean P Q go es (All-tail P e.0 (keys_of es) h))

  values_mean : (P : V → Type 0) (Q : BScalar → Type 0) → ((x : V) → P x → Q (g x)) → (es : List (K × V)) → All P (values_of es) → All Q (values_of (map {B = Key × BScalar} (λ (e : K × V). (f e.0, g e.1)) es))
  values_mean P Q go [] h = All-nil Q
  values_mean P Q go (e ∷ es) h = All-cons Q (g e.1) (values_of (map {B = Key × BScalar} (λ (e : K × V). (f e.0, g e.1)) es)) (go e.1 (All-head P e.1 (values_of es) h)) (values_mean P Q go es (All-tail P e.1 (values_of es) h))

pub heap_of_type : (u : Ty) (m : Map ℕ Value) → FitsHeap u m → IsMapOf (base.Ref ∷ []) (base_for u) (meaning_of place_key scalar m)
heap_of_type u m h = record {
  default = ap scalar h.default ∙ default_scalar u;
  reduced = IsReduced-meaning_of places_mean m h.reduced;
  keys = keys_mean place_key scalar IsReference (b.FitsKey (base.Ref ∷ [])) (λ k any. (refl, tt)) m.entries h.keys;
  values = values_mean place_key scalar (FitsValue u) (FitsScalar (base_for u)) (scalar_of_type u) m.entries h.values;
}

-- an instance with arguments keeps its key
keys_kept : (u : Ty) (us : List Ty) (es : List (Key × Content)) → All (FitsKey (u ∷ us)) (keys_of es) → IsStrictlySortedBy key_cmp (keys_of es) →
    IsStrictlySortedBy key_cmp (keys_of (map {B = Key × BScalar} (λ (e : Key × Content). (instance_key e.0, Snap e.1)) es))
keys_kept u us es h ascending = subst (IsStrictlySortedBy key_cmp) (same es h) ascending
  where
    kept : (k : Key) → FitsKey (u ∷ us) k → k ≡ instance_key k
    kept [] h = absurd h
    kept (a ∷ k) h = refl

    same : (es : List (Key × Content)) → All (FitsKey (u ∷ us)) (keys_of es) → keys_of es ≡ keys_of (map {B = Key × BScalar} (λ (e : Key × Content). (instance_key e.0, Snap e.1)) es)
    same [] h = refl
    same (e ∷ es) h = let first = kept e.0 (All-head (FitsKey (u ∷ us)) e.0 (keys_of es) h) in let rest = same es (All-tail (FitsKey (u ∷ us)) e.0 (keys_of es) h) in λ i. first i ∷ rest i

-- without parameters there is one instance
one_key : (es : List (Key × Content)) → All (FitsKey []) (keys_of es) → IsStrictlySortedBy key_cmp (keys_of es) →
    IsStrictlySortedBy key_cmp (keys_of (map {B = Key × BScalar} (λ (e : Key × Content). (instance_key e.0, Snap e.1)) es))
unfolding IsStrictlySortedBy
one_key [] h ascending = tt
one_key (e ∷ []) h ascending = (tt, tt)
one_key (e ∷ d ∷ es) h ascending = absurd (twice e.0 d.0 (All-head (FitsKey []) e.0 (d.0 ∷ keys_of es) h) (All-head (FitsKey []) d.0 (keys_of es) (All-tail (FitsKey []) e.0 (d.0 ∷ keys_of es) h)) ascending.0.0)
  where
    twice : (k q : Key) → FitsKey [] k → FitsKey [] q → key_cmp k q ≡ Less → ⊥
    twice [] [] h i e = absurd cc
    twice (a ∷ k) q h i e = absurd h
    twice [] (a ∷ q) h i e = absurd i

instances_ascend : (us : List Ty) (es : List (Key × Content)) → All (FitsKey us) (keys_of es) → IsStrictlySortedBy key_cmp (keys_of es) →
    IsStrictlySortedBy key_cmp (keys_of (map {B = Key × BScalar} (λ (e : Key × Content). (instance_key e.0, Snap e.1)) es))
instances_ascend [] es h ascending = one_key es h ascending
instances_ascend (u ∷ us) es h ascending = keys_kept u us es h ascending

pub contents_of_type : (us : List Ty) (m : Map Key Content) → FitsContents us m → IsMapOf (index_types us) base.Snap (meaning_of instance_key Snap m)
contents_of_type us m h = record {
  default = ap Snap h.default;
  reduced = record {
    ascending = instances_ascend us m.entries h.keys h.reduced.ascending;
    no_default = values_mean instance_key Snap (λ c. same_content c m.default ≡ false) (λ (x : BScalar). same_scalar x (Snap m.default) ≡ false) (λ c other. other) m.entries h.reduced.no_default;
  };
  keys = keys_mean instance_key Snap (FitsKey us) (b.FitsKey (index_types us)) (instance_fits us) m.entries h.keys;
  values = values_mean instance_key Snap IsReducedContent (FitsScalar base.Snap) (λ c reduced. record { typed = refl; reduced = reduced }) m.entries h.values;
}
