-- When a run of code ends as an evaluation does. It is said for all choices, so it speaks of both directions: the code on the
-- moves of the events, and each run of the code that is done or fails.
use Rattle.std.specs.Prelude.{⊤, ◌≡◌, ◌<◌, ℕ, Bool as Truth, true, List, [], ◌∷◌, ◌++◌, length, slice_get, Some}
use Rattle.vb_base.specs.declared.labels.Label.{Label}
use Rattle.vb_base.specs.declared.places.Pos.{Pos}
use Rattle.vb_value.specs.Bound.{Bound, Bounded}
use Rattle.vb_value.specs.Content.{Content, IsReducedContent, IsProperContent}
use Rattle.vb_value.specs.Fraction.{Fraction, whole, is_positive, IsProperFraction}
use Rattle.vb_value.specs.Value.{type_of}
use Rattle.vb_value.specs.declared.values.Ty.{Ty}
use Rattle.vb_value.specs.declared.values.Value.{Value}
use Rattle.viper_core.specs.Typing.{Context}
use Rattle.viper_state.specs.Event.{Event}
use Rattle.viper_state.specs.State.{State}
use Rattle.viper_state.specs.Run.{Scene}
use Rattle.viper_meaning.specs.Ends.{End, Evaluated, ends, Is, Fails, Blocked, Over}
use Rattle.boogie_tree.specs.Expr as t
use Rattle.boogie_tree.specs.Value.{BScalar, Int, Bool, Ref, Real, Snap, BChoice, One}
use Rattle.boogie_meaning.specs.Ends as end
use Rattle.boogie_meaning.specs.Quantified.{bvalue}
use Rattle.boogie_meaning.specs.Run as r
use Rattle.moves.specs.Scalars.{scalar}
use Rattle.moves.specs.Moves.{moves}
use Rattle.enc_expr.specs.Place.{Place, IsLocalOf}
use Rattle.enc_expr.specs.Pieces.{Operand}
use Rattle.enc_expr.specs.Coupling.{Env, IsCoupled}

-- ---- runs beside evaluations

-- these choices are the moves of the events and then the others
pub record Follows (events : List Event) (cs rest : List BChoice) : Type 0 where
  pub same : cs ≡ moves events ++ rest

-- it ends for want of a right choice, or beyond the bound
abbrev pub IsStopped : r.Run → Type 0
IsStopped (r.Done env cs) = ⊥
IsStopped (r.Stops (r.Failed l) cs) = ⊥
IsStopped (r.Stops r.Blocked cs) = ⊤
IsStopped (r.Stops r.Short cs) = ⊤
IsStopped (r.Stops r.Over cs) = ⊤
IsStopped (r.Stops r.Wrong cs) = ⊥

-- The evaluation beside the run of its code from these choices, where Q is said of a value and the environment after it.
pub data Alike {X : Type 0} (Q : X → Env → Type 0) (b : Bound) : Evaluated X → List BChoice → r.Run → Type 0 where
  done : {events : List Event} {cs rest : List BChoice} {x : X} {E : Env} → Follows events cs rest → Q x E →
      Alike Q b (ends events (Is x)) cs (r.Done E rest)
  failed : {events : List Event} {cs rest : List BChoice} {l : Label} → Follows events cs rest →
      Alike Q b (ends events (Fails l)) cs (r.Stops (r.Failed l) rest)
  -- Where the evaluation is blocked the code is, or it wants a choice; it has taken the moves, and maybe others. From other choices
  -- than the moves it may be beyond the bound.
  blocked : {events : List Event} {cs rest : List BChoice} (more : List BChoice) → Follows events cs (more ++ rest) → Alike Q b (ends events Blocked) cs (r.Stops r.Blocked rest)
  short : {events : List Event} {cs rest : List BChoice} (more : List BChoice) → Follows events cs (more ++ rest) → Alike Q b (ends events Blocked) cs (r.Stops r.Short rest)
  beyond : {events : List Event} {cs rest : List BChoice} → (cs ≡ moves events → ⊥) → Alike Q b (ends events Blocked) cs (r.Stops r.Over rest)
  -- where the evaluation is Over, as with a bound it may be, nothing is said of the end of the code
  over : {events : List Event} {at : Pos} {cs rest : List BChoice} {run : r.Run} → b ≡ Bounded → Follows events cs rest → Alike Q b (ends events (Over at)) cs run
  -- the choices do not begin with the moves of the events, and the code stops
  stray : {events : List Event} {e : End X} {cs : List BChoice} {run : r.Run} → ((rest : List BChoice) → Follows events cs rest → ⊥) → IsStopped run →
      Alike Q b (ends events e) cs run

-- ---- environments that agree

-- the first n locals are the same in both
abbrev pub Agree : ℕ → Env → Env → Type 0
Agree n E F = (i : ℕ) → i < n → slice_get F i ≡ slice_get E i

-- nothing but new locals, from n on, was changed
pub record Kept (n : ℕ) (E F : Env) : Type 0 where
  pub length : length F ≡ length E
  pub same : Agree n E F

-- nothing but new locals and these was
pub record KeptBut (O : ℕ → Type 0) (n : ℕ) (E F : Env) : Type 0 where
  pub length : length F ≡ length E
  pub same : (i : ℕ) → i < n → (O i → ⊥) → slice_get F i ≡ slice_get E i

-- ---- values

-- The expression has the value, now and as long as the first m locals stay as they are. Nothing but locals from n on was changed.
pub record IsValued (b : Bound) (n m : ℕ) (x : Operand) (u : Ty) (E : Env) (v : Value) (F : Env) : Type 0 where
  pub kept : Kept n E F
  pub typed : type_of v ≡ u
  pub here : (G : Env) → Agree m F G → bvalue b x.expr G ≡ end.Is (scalar v)

-- the same of arguments
pub data AreValues (b : Bound) (m : ℕ) (F : Env) : List Operand → List Ty → List Value → Type 0 where
  none : AreValues b m F [] [] []
  more : {x : Operand} {xs : List Operand} {u : Ty} {us : List Ty} {v : Value} {vs : List Value} → type_of v ≡ u →
      ((G : Env) → Agree m F G → bvalue b x.expr G ≡ end.Is (scalar v)) → AreValues b m F xs us vs → AreValues b m F (x ∷ xs) (u ∷ us) (v ∷ vs)

pub record AreValued (b : Bound) (n m : ℕ) (xs : List Operand) (us : List Ty) (E : Env) (vs : List Value) (F : Env) : Type 0 where
  pub kept : Kept n E F
  pub values : AreValues b m F xs us vs

-- An atom has the value. It is a literal, or one of the first n locals that is no map; so it keeps the value while maps change.
pub data HasAtom (n : ℕ) (E : Env) : t.BExpr → BScalar → Type 0 where
  variable : {i : ℕ} {v : BScalar} → i < n → slice_get E i ≡ Some (One v) → HasAtom n E (t.Var i) v
  int : {z : _} → HasAtom n E (t.Int z) (Int z)
  real : {z : _} → HasAtom n E (t.Real z) (Real (whole z))
  truth : {p : Truth} → HasAtom n E (t.Bool p) (Bool p)
  null : HasAtom n E t.Null (Ref 0)

-- the locals hold these values
pub data AreLocated (n : ℕ) (E : Env) : List ℕ → List Value → Type 0 where
  none : AreLocated n E [] []
  more : {i : ℕ} {is : List ℕ} {v : Value} {vs : List Value} → i < n → slice_get E i ≡ Some (One (scalar v)) → AreLocated n E is vs →
      AreLocated n E (i ∷ is) (v ∷ vs)

-- an amount that is positive, by which others are scaled
pub record IsScale (b : Bound) (n : ℕ) (E : Env) (x : t.BExpr) (q : Fraction) : Type 0 where
  pub atom : HasAtom n E x (Real q)
  pub positive : is_positive q ≡ true
  pub proper : IsProperFraction b q

-- ---- states

-- a content in a local, from which a body is produced
pub record IsSource (b : Bound) (n : ℕ) (E : Env) (from : ℕ) (d : Content) : Type 0 where
  pub below : from < n
  pub here : slice_get E from ≡ Some (One (Snap d))
  pub reduced : IsReducedContent d
  pub proper : IsProperContent b d

-- the state is coupled, and only locals of the present maps, and new ones, were changed
pub record IsFilled (b : Bound) (c : Context) (n m : ℕ) (p : Place) (sc : Scene) (E : Env) (s : State) (F : Env) : Type 0 where
  pub kept : KeptBut (IsLocalOf c.program.layout p.now) n E F
  pub coupled : IsCoupled b c m p s sc F
