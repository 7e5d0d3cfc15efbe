-- The run of a procedure (Leino, This is Boogie 2, sections 8 and 9): it knows variables, maps and choices, and nothing of Viper.
-- Each start has one end, for a run is a function of the environment and the choices.
use Rattle.std.specs.Prelude.{◌≡◌, ℕ, Bool as Truth, true, false, ◌&&◌, List, [], ◌∷◌, ◌++◌, Option, Some, None, slice_get, slice_set, if◌then◌else◌}
use Rattle.sparse.specs.Map.{Map, empty, set}
use Rattle.vb_base.specs.declared.labels.Label.{Label}
use Rattle.vb_value.specs.Bound.{Bound}
use Rattle.vb_value.specs.Key.{key_cmp}
use Rattle.boogie_tree.specs.Stmt as s
use Rattle.boogie_tree.specs.Program.{BType}
use Rattle.boogie_tree.specs.Value.{Key, BScalar, same_scalar, BValue, One, Many, Entry, BChoice, Pick, Value, Entries}
use Rattle.boogie_tree.specs.declared.exprs.BBase.{BBase}
use Rattle.boogie_meaning.specs.Ends as ends
use Rattle.boogie_meaning.specs.Ends.{End, Is, found}
use Rattle.boogie_tree.specs.Values.{same_base, base_of_scalar, default_of, fits_key}
use Rattle.boogie_meaning.specs.Operators.{as_truth}
use Rattle.boogie_meaning.specs.Value.{the_map}
use Rattle.boogie_meaning.specs.Quantified.{bvalue, bkey, side}

-- why a run stops
pub data Stop : Type 0 where
  -- an `assert` is false
  Failed : Label → Stop
  -- an `assume` is false, or a choice is of another kind or type than the step takes
  Blocked : Stop
  -- a choice is missing
  Short : Stop
  -- a number or a content leaves the bound
  Over : Stop
  -- an operand has the wrong type
  Wrong : Stop

-- how a run ends, with the choices that are left
pub data Run : Type 0 where
  Done : List BValue → List BChoice → Run
  Stops : Stop → List BChoice → Run

-- ---- ways to continue

-- with what is evaluated
abbrev pub with_end : {X : Type 0} → End X → List BChoice → (X → Run) → Run
with_end (Is x) cs go = go x
with_end ends.Over cs go = Stops Over cs
with_end ends.Wrong cs go = Stops Wrong cs

abbrev pub with_truth : End BScalar → List BChoice → (Truth → Run) → Run
with_truth e cs go = with_end (as_truth e) cs go

-- with what a choice gives
abbrev pub unless_blocked : {X : Type 0} → Option X → List BChoice → (X → List BChoice → Run) → Run
unless_blocked (Some x) rest go = go x rest
unless_blocked None rest go = Stops Blocked rest

-- with what the next choice gives, and the choices after it
abbrev pub with_choice : {X : Type 0} → List BChoice → (BChoice → Option X) → (X → List BChoice → Run) → Run
with_choice [] kind go = Stops Short []
with_choice (c ∷ rest) kind go = unless_blocked (kind c) rest go

-- from where a run is done
abbrev pub then_run : Run → (List BValue → List BChoice → Run) → Run
then_run (Done env cs) go = go env cs
then_run (Stops why cs) go = Stops why cs

-- ---- choices

-- the branch of an `if (*)`
abbrev pub picked : BChoice → Option Truth
picked (Pick p) = Some p
picked (Value v) = None
picked (Entries es) = None

abbrev pub fits_entries : List BBase → BBase → List Entry → Truth
fits_entries us u [] = true
fits_entries us u (e ∷ es) = (fits_key us e.key && same_base (base_of_scalar e.value) u) && fits_entries us u es

-- the map after the entries are set, one after the other
abbrev pub filled : Map Key BScalar → List Entry → Map Key BScalar
filled m [] = m
filled m (e ∷ es) = filled (set key_cmp same_scalar m e.key e.value) es

abbrev pub chosen_by : List BBase → BBase → BChoice → Option BValue
chosen_by [] u (Value v) = if same_base (base_of_scalar v) u then Some (One v) else None
chosen_by (k ∷ ks) u (Entries es) = if fits_entries (k ∷ ks) u es then Some (Many (filled (empty (default_of u)) es)) else None
chosen_by _ u c = None

-- the value that a choice gives a variable of this type: a value, or the entries of a map, which has the default elsewhere
abbrev pub chosen : BType → BChoice → Option BValue
chosen u c = chosen_by u.keys u.base c

-- ---- steps

abbrev pub put_value : ℕ → Key → BScalar → List BValue → List BChoice → Map Key BScalar → Run
put_value i k v env cs m = Done (slice_set env i (Many (set key_cmp same_scalar m k v))) cs

abbrev pub assumed : List BValue → List BChoice → Truth → Run
assumed env cs p = if p then Done env cs else Stops Blocked cs

abbrev pub asserted : Label → List BValue → List BChoice → Truth → Run
asserted l env cs p = if p then Done env cs else Stops (Failed l) cs

-- ---- runs, by the types of the variables

abbrev mutual
  pub brun_stmt : List BType → Bound → s.BStmt → List BValue → List BChoice → Run
  brun_stmt ls b (s.Assign i e) env cs = with_end (side b e env) cs (λ v. Done (slice_set env i v) cs)
  brun_stmt ls b (s.Put i es e) env cs =
      with_end (bkey b es env) cs (λ k. with_end (bvalue b e env) cs (λ v. with_end (the_map env i) cs (put_value i k v env cs)))
  brun_stmt ls b (s.Havoc i) env cs = with_end (found (slice_get ls i)) cs (λ u. with_choice cs (chosen u) (λ v rest. Done (slice_set env i v) rest))
  brun_stmt ls b (s.Assume e) env cs = with_truth (bvalue b e env) cs (assumed env cs)
  brun_stmt ls b (s.Assert l e) env cs = with_truth (bvalue b e env) cs (asserted l env cs)
  brun_stmt ls b (s.If e xs ys) env cs = with_truth (bvalue b e env) cs (λ p. if p then brun ls b xs env cs else brun ls b ys env cs)
  brun_stmt ls b (s.Either xs ys) env cs = with_choice cs picked (λ p rest. if p then brun ls b xs env rest else brun ls b ys env rest)

  -- the statements of a block, one after the other
  pub brun : List BType → Bound → s.BStmts → List BValue → List BChoice → Run
  brun ls b s.skip env cs = Done env cs
  brun ls b (s.first x xs) env cs = then_run (brun_stmt ls b x env cs) (λ env' rest. brun ls b xs env' rest)

-- ---- what is said of ends

abbrev pub is_short : Run → Truth
is_short (Done env cs) = false
is_short (Stops (Failed l) cs) = false
is_short (Stops Blocked cs) = false
is_short (Stops Short cs) = true
is_short (Stops Over cs) = false
is_short (Stops Wrong cs) = false

-- the same end, with more choices left
abbrev pub with_more : List BChoice → Run → Run
with_more more (Done env cs) = Done env (cs ++ more)
with_more more (Stops why cs) = Stops why (cs ++ more)

abbrev pub left_of : Run → List BChoice
left_of (Done env cs) = cs
left_of (Stops why cs) = cs

-- the same end, with these choices left
abbrev pub with_left : List BChoice → Run → Run
with_left left (Done env cs) = Done env left
with_left left (Stops why cs) = Stops why left

-- The choices of a run are those that it takes, and those that it leaves. On the ones that it takes, with any others behind them,
-- it ends alike and leaves just these others.
pub record TakesSome (run : List BChoice → Run) (cs : List BChoice) : Type 0 where
  pub taken : List BChoice
  pub whole : cs ≡ taken ++ left_of (run cs)
  pub alike : (others : List BChoice) → run (taken ++ others) ≡ with_left others (run cs)

-- the choice that gives a variable this value
abbrev pub entries_of : List (Key × BScalar) → List Entry
entries_of [] = []
entries_of (e ∷ es) = record { key = e.0; value = e.1 } ∷ entries_of es

abbrev pub choice_for : BValue → BChoice
choice_for (One v) = Value v
choice_for (Many m) = Entries (entries_of m.entries)
