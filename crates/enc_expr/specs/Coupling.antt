-- How a state of Viper and the values of its variables stand in an environment of Boogie.
use Rattle.std.specs.Prelude.{⊤, ◌≡◌, ◌≢◌, ◌<◌, ◌+◌, ℕ, Bool as Truth, true, false, List, [], ◌∷◌, length, slice_get, Some, None, All, Contains}
use Rattle.std.specs.Ordering.{nat_cmp}
use Rattle.std.specs.declared.cmp.Ordering.{Ordering}
use Rattle.sparse.specs.Map as sparse
use Rattle.sparse.specs.Map.{Map, get}
use Rattle.vb_value.specs.Bound.{Bound}
use Rattle.vb_value.specs.Content.{Content, same_content}
use Rattle.vb_value.specs.Fraction.{Fraction, none}
use Rattle.vb_value.specs.Key.{key_cmp}
use Rattle.vb_value.specs.Layout.{Layout}
use Rattle.vb_value.specs.Value.{type_of, value_eq, fraction_eq, IsProperValue}
use Rattle.vb_value.specs.declared.values.Ty.{Ty}
use Rattle.vb_value.specs.declared.values.Value.{Value}
use Rattle.viper_core.specs.Typing.{Context}
use Rattle.viper_state.specs.State.{State}
use Rattle.viper_state.specs.Run.{Scene}
use Rattle.viper_state.specs.Fits.{FitsKey, FitsState}
use Rattle.viper_state.specs.Within.{IsProperState, IsNonnegative}
use Rattle.boogie_tree.specs.Program.{BType}
use Rattle.boogie_tree.specs.Value.{Key, BScalar, Bool, Real, Snap, BValue, One, Many}
use Rattle.boogie_tree.specs.Values.{IsMapOf}
use Rattle.boogie_tree.specs.declared.exprs.BBase.{BBase}
use Rattle.boogie_tree.specs.declared.exprs.BBase.TheVariants as base
use Rattle.moves.specs.Scalars.{scalar, base_for}
use Rattle.moves.specs.Maps.{place_key, instance_key, index_types}
use Rattle.enc_expr.specs.Place.{Maps, Place, number, IsAnySpot, IsLocalOf, AreApart}
use Rattle.enc_expr.specs.Code.{Guard}

-- the values of the locals
abbrev pub Env : Type 0
Env = List BValue

-- ---- one map

-- how a kind of maps of Viper stands in maps of Boogie
pub record MapKind (K V : Type 0) : Type 1 where
  pub cmp : K → K → Ordering
  pub eq : V → V → Truth
  -- the types of keys and values in Boogie
  pub keys : List BBase
  pub base : BBase
  pub key : K → Key
  pub code : V → BScalar
  -- the keys that count
  pub Counts : K → Type 0
  -- what is said of the values at other keys
  pub Rests : BScalar → Type 0

abbrev pub IsAnything : BScalar → Type 0
IsAnything v = ⊤

abbrev pub IsZero : BScalar → Type 0
IsZero v = v ≡ Real none

abbrev pub IsReference : ℕ → Type 0
IsReference r = ⊤

abbrev pub heap_kind : Ty → MapKind ℕ Value
heap_kind u = record { cmp = nat_cmp; eq = value_eq; keys = base.Ref ∷ []; base = base_for u; key = place_key; code = scalar; Counts = IsReference; Rests = IsAnything }

abbrev pub mask_kind : MapKind ℕ Fraction
mask_kind = record { cmp = nat_cmp; eq = fraction_eq; keys = base.Ref ∷ []; base = base.Real; key = place_key; code = Real; Counts = IsReference; Rests = IsAnything }

-- of a predicate without parameters only the key 0 counts. At every other key the amount is 0, and the content is anything.
abbrev pub amount_kind : List Ty → MapKind Key Fraction
amount_kind us = record { cmp = key_cmp; eq = fraction_eq; keys = index_types us; base = base.Real; key = instance_key; code = Real; Counts = FitsKey us; Rests = IsZero }

abbrev pub content_kind : List Ty → MapKind Key Content
content_kind us = record { cmp = key_cmp; eq = same_content; keys = index_types us; base = base.Snap; key = instance_key; code = Snap; Counts = FitsKey us; Rests = IsAnything }

-- the local x, one of the first n, holds the map of number i
pub record HasMap {K V : Type 0} (k : MapKind K V) (n x : ℕ) (maps : List (Map K V)) (i : ℕ) (E : Env) : Type 0 where
  pub m : Map K V
  pub there : slice_get maps i ≡ Some m
  pub tidy : sparse.IsReduced k.cmp k.eq m
  pub below : x < n
  pub image : Map Key BScalar
  pub here : slice_get E x ≡ Some (Many image)
  pub typed : IsMapOf k.keys k.base image
  pub same : (a : K) → k.Counts a → get key_cmp image (k.key a) ≡ k.code (get k.cmp m a)
  pub rests : (j : Key) → ((a : K) → k.Counts a → k.key a ≢ j) → k.Rests (get key_cmp image j)

-- ---- a state

-- each map of the state stands in its local
pub record HasMaps (layout : Layout) (n : ℕ) (m : Maps) (s : State) (E : Env) : Type 0 where
  pub heap : (f : ℕ) (u : Ty) → slice_get layout.fields f ≡ Some u → HasMap (heap_kind u) n (number m.heap f) s.heap f E
  pub mask : (f : ℕ) (u : Ty) → slice_get layout.fields f ≡ Some u → HasMap mask_kind n (number m.mask f) s.mask f E
  pub amount : (q : ℕ) (us : List Ty) → slice_get layout.keys q ≡ Some us → HasMap (amount_kind us) n (number m.amount q) s.amount q E
  pub content : (q : ℕ) (us : List Ty) → slice_get layout.keys q ≡ Some us → HasMap (content_kind us) n (number m.content q) s.content q E

-- those of its maps that hold permission
pub record HasHeld (layout : Layout) (n : ℕ) (m : Maps) (s : State) (E : Env) : Type 0 where
  pub mask : (f : ℕ) (u : Ty) → slice_get layout.fields f ≡ Some u → HasMap mask_kind n (number m.mask f) s.mask f E
  pub amount : (q : ℕ) (us : List Ty) → slice_get layout.keys q ≡ Some us → HasMap (amount_kind us) n (number m.amount q) s.amount q E

-- what each state of a run keeps: it fits the program, its numbers are proper, and no permission is negative
pub record IsSound (b : Bound) (layout : Layout) (s : State) : Type 0 where
  pub fits : FitsState layout s
  pub proper : IsProperState b s
  pub nonnegative : IsNonnegative s

-- ---- variables

-- the local i, one of the first n, holds the variable x
pub record HasVariable (u : Ty) (n i : ℕ) (store : List Value) (x : ℕ) (E : Env) : Type 0 where
  pub v : Value
  pub there : slice_get store x ≡ Some v
  pub typed : type_of v ≡ u
  pub below : i < n
  pub here : slice_get E i ≡ Some (One (scalar v))

abbrev pub HasVariables : Context → ℕ → List ℕ → List Value → Env → Type 0
HasVariables c n vars store E = (x : ℕ) (u : Ty) → Contains c.visible x → slice_get c.vars x ≡ Some u → HasVariable u n (number vars x) store x E

-- ---- the coupling

-- The first n locals of an environment hold a state and a scene, as a place says. Nothing is said of masks above 1, or of null.
pub record IsCoupled (b : Bound) (c : Context) (n : ℕ) (p : Place) (s : State) (sc : Scene) (E : Env) : Type 0 where
  pub now : HasMaps c.program.layout n p.now s E
  pub old : HasMaps c.program.layout n p.old sc.old E
  pub vars : HasVariables c n p.vars sc.store E
  pub at : p.at ≡ sc.at
  pub sound : IsSound b c.program.layout s
  pub old_sound : IsSound b c.program.layout sc.old
  pub store : All (IsProperValue b) sc.store

-- the maps of the present state are changed, and they are none of the old state
abbrev pub IsOwn : Context → Place → Type 0
IsOwn c p = AreApart IsAnySpot (IsLocalOf c.program.layout p.old) c.program.layout p.now

-- ---- guards and fresh locals

-- a guard among the first n locals that is true
abbrev pub IsAwake : Guard → ℕ → Env → Type 0
IsAwake None n E = ⊤
IsAwake (Some h) n E = (h < n) × (slice_get E h ≡ Some (One (Bool true)))

-- a local that is false
abbrev pub IsAsleep : ℕ → ℕ → Env → Type 0
IsAsleep n h E = (h < n) × (slice_get E h ≡ Some (One (Bool false)))

-- the locals from n on have these types
abbrev pub AreLocals : List BType → ℕ → List BType → Type 0
AreLocals ts n [] = ⊤
AreLocals ts n (u ∷ us) = (slice_get ts n ≡ Some u) × AreLocals ts (n + 1) us

-- from here a piece of code runs that declares these locals
pub record IsReady (ts : List BType) (g : Guard) (n : ℕ) (us : List BType) (E : Env) : Type 0 where
  pub awake : IsAwake g n E
  pub full : length E ≡ length ts
  pub locals : AreLocals ts n us
