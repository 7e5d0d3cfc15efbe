-- A run of Viper beside the runs of its code. In one direction the choices of the run are given, and the code takes the moves
-- of what the run records. In the other one a run of the code is given that is done or has failed, and there are choices on
-- which the run of Viper ends so too, and records what the code took.
use Rattle.std.specs.Prelude.{⊤, ◌≡◌, ℕ, List, [], ◌∷◌, ◌++◌, Some, All}
use Rattle.sparse.specs.Map.{Map, get}
use Rattle.vb_base.specs.declared.labels.Label.{Label}
use Rattle.vb_base.specs.declared.places.Pos.{Pos}
use Rattle.vb_value.specs.Bound.{Bound, Bounded, IfBounded, IsWithin}
use Rattle.vb_value.specs.Content.{Content, IsReducedContent, IsProperContent}
use Rattle.vb_value.specs.Key.{key_cmp, IsProperKey}
use Rattle.vb_value.specs.declared.values.Ty.{Ty}
use Rattle.vb_value.specs.declared.values.Value.{Value}
use Rattle.vb_value.specs.Fraction.{IsProperFraction}
use Rattle.vb_value.specs.Layout.{Layout}
use Rattle.viper_state.specs.Choice.{Choice}
use Rattle.viper_state.specs.Event.{Event, Whole}
use Rattle.viper_state.specs.State.{Memo}
use Rattle.viper_state.specs.Fits.{FitsChoice}
use Rattle.viper_state.specs.Within.{IsProperChoice}
use Rattle.viper_meaning.specs.Run.{Run, Step, Goes, Fails, Blocked, Short, Over, Ran, ran, on}
use Rattle.boogie_tree.specs.Value as bv
use Rattle.boogie_tree.specs.Program.{BType}
use Rattle.boogie_tree.specs.Value.{Key, BScalar, Many, Entry, BChoice}
use Rattle.boogie_meaning.specs.Run as r
use Rattle.moves.specs.Moves.{moves, moves_of}
use Rattle.moves.specs.Maps.{heap_type, content_type}
use Rattle.enc_expr.specs.Coupling.{Env, MapKind, heap_kind, content_kind}
use Rattle.enc_expr.specs.Boundary.{HasEnded}

-- ---- choices that are proper: fractions are in lowest terms, and where there is a bound all is within it

-- a choice of Viper
pub record IsGiven (b : Bound) (layout : Layout) (c : Choice) : Type 0 where
  pub proper : IsProperChoice b c
  pub fits : FitsChoice layout c

abbrev pub IsProperScalar : Bound → BScalar → Type 0
IsProperScalar b (bv.Int n) = IfBounded b (IsWithin n)
IsProperScalar b (bv.Bool p) = ⊤
IsProperScalar b (bv.Ref x) = ⊤
IsProperScalar b (bv.Real q) = IsProperFraction b q
IsProperScalar b (bv.Snap c) = IsReducedContent c × IsProperContent b c

abbrev pub IsProperEntry : Bound → Entry → Type 0
IsProperEntry b e = IsProperKey b e.key × IsProperScalar b e.value

-- one of Boogie
abbrev pub IsProperMove : Bound → BChoice → Type 0
IsProperMove b (bv.Pick p) = ⊤
IsProperMove b (bv.Value v) = IsProperScalar b v
IsProperMove b (bv.Entries es) = All (IsProperEntry b) es

-- ---- choices that give what was recorded

-- the choice gives a map that has the values of this one at each key that counts
pub record GivesMap {K V : Type 0} (k : MapKind K V) (u : BType) (m : Map K V) (c : BChoice) : Type 0 where
  pub image : Map Key BScalar
  pub given : r.chosen u c ≡ Some (Many image)
  pub same : (a : K) → k.Counts a → get key_cmp image (k.key a) ≡ k.code (get k.cmp m a)

-- a choice for each heap, before others
pub data GiveHeaps : List Ty → List (Map ℕ Value) → List BChoice → List BChoice → Type 0 where
  no_heaps : {cs : List BChoice} → GiveHeaps [] [] cs cs
  heap : {u : Ty} {us : List Ty} {m : Map ℕ Value} {ms : List (Map ℕ Value)} {c : BChoice} {cs rest : List BChoice} → GivesMap (heap_kind u) (heap_type u) m c → GiveHeaps us ms cs rest →
      GiveHeaps (u ∷ us) (m ∷ ms) (c ∷ cs) rest

-- a choice for the contents of each predicate
pub data GiveContents : List (List Ty) → List (Map Key Content) → List BChoice → List BChoice → Type 0 where
  no_contents : {cs : List BChoice} → GiveContents [] [] cs cs
  contents : {us : List Ty} {keys : List (List Ty)} {m : Map Key Content} {ms : List (Map Key Content)} {c : BChoice} {cs rest : List BChoice} → GivesMap (content_kind us) (content_type us) m c →
      GiveContents keys ms cs rest → GiveContents (us ∷ keys) (m ∷ ms) (c ∷ cs) rest

-- The choices are the moves of the events, and then the others. Entries of a heap or of contents may come in another way than
-- those of the moves, and of the contents of a predicate without parameters only those at the key 0 count.
pub data Took (layout : Layout) : List Event → List BChoice → List BChoice → Type 0 where
  nothing : {cs : List BChoice} → Took layout [] cs cs
  moved : {e : Event} {es : List Event} {cs ds rest : List BChoice} → cs ≡ moves_of e ++ ds → Took layout es ds rest → Took layout (e ∷ es) cs rest
  filled : {m : Memo} {es : List Event} {cs ds fs rest : List BChoice} → GiveHeaps layout.fields m.heap cs ds → GiveContents layout.keys m.content ds fs → Took layout es fs rest →
      Took layout (Whole m ∷ es) cs rest

-- ---- from Viper

-- it is blocked, or wants a choice
abbrev pub Waits : r.Run → Type 0
Waits (r.Done env cs) = ⊥
Waits (r.Stops (r.Failed l) cs) = ⊥
Waits (r.Stops r.Blocked cs) = ⊤
Waits (r.Stops r.Short cs) = ⊤
Waits (r.Stops r.Over cs) = ⊥
Waits (r.Stops r.Wrong cs) = ⊥

-- The step beside a run of the code from its moves and these choices behind them. Where the step stops for want of a right choice
-- the code does so too, if no more choices are there and W holds. Nothing is said where the step is Over, as with a bound it may be.
pub data GoesWith {X : Type 0} (W : Type 0) (Q : X → Env → Type 0) (b : Bound) (more : List BChoice) : Step X → r.Run → Type 0 where
  done : {x : X} {E : Env} → Q x E → GoesWith W Q b more (Goes x) (r.Done E more)
  failed : {l : Label} → GoesWith W Q b more (Fails l) (r.Stops (r.Failed l) more)
  blocked : {run : r.Run} → (W → more ≡ [] → Waits run) → GoesWith W Q b more Blocked run
  short : {run : r.Run} → (W → more ≡ [] → Waits run) → GoesWith W Q b more Short run
  over : {at : Pos} {run : r.Run} → b ≡ Bounded → GoesWith W Q b more (Over at) run

-- on the moves of what was recorded
abbrev pub OnMoves : {X : Type 0} → Type 0 → (X → Env → Type 0) → Bound → List BChoice → (List BChoice → r.Run) → Ran X → Type 0
OnMoves W Q b more run (ran events step left) = GoesWith W Q b more step (run (moves events ++ more))

-- ---- from Boogie

-- the step ends as the run of the code, which left these choices
pub data Matches {X : Type 0} (Q : X → Env → Type 0) (rest : List BChoice) : Step X → r.Run → Type 0 where
  done : {x : X} {E : Env} → Q x E → Matches Q rest (Goes x) (r.Done E rest)
  failed : {l : Label} → Matches Q rest (Fails l) (r.Stops (r.Failed l) rest)

-- There are choices, all of which the run of Viper takes, and the code took the moves of what it records. Or the run is Over on
-- them, as with a bound it may be: the code took the moves of what was recorded until then, and nothing is said of its end.
pub data IsBacked {X : Type 0} (b : Bound) (layout : Layout) (Q : X → Env → Type 0) (v : Run X) (cs : List BChoice) (run : r.Run) : Type 0 where
  backed : {events : List Event} {step : Step X} (choices : List Choice) (rest : List BChoice) → All (IsGiven b layout) choices → on v choices ≡ ran events step [] →
      Took layout events cs rest → Matches Q rest step run → IsBacked b layout Q v cs run
  beyond : {events : List Event} {at : Pos} (choices : List Choice) (rest : List BChoice) → b ≡ Bounded → All (IsGiven b layout) choices → on v choices ≡ ran events (Over at) [] →
      Took layout events cs rest → IsBacked b layout Q v cs run

-- ---- both

-- Where W holds the code also waits for choices where the run does. (Forgetting takes a choice also where a program has no field and
-- no predicate, and its code then takes none.)
pub record AreAlongside {X : Type 0} (W : Type 0) (b : Bound) (layout : Layout) (Q : X → Env → Type 0) (v : Run X) (run : List BChoice → r.Run) : Type 0 where
  pub on_moves : (choices : List Choice) (more : List BChoice) → All (IsGiven b layout) choices → OnMoves W Q b more run (on v choices)
  pub each_run : (cs : List BChoice) → All (IsProperMove b) cs → HasEnded (run cs) → IsBacked b layout Q v cs (run cs)
