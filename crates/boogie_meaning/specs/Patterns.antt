-- Pieces of code that assume a quantifier, whose runs are told apart by what their maps are.
use Rattle.std.specs.Prelude.{◌≡◌, ◌≢◌, ◌<◌, ℕ, pos, List, ◌∷◌, length, Some, slice_get, slice_set}
use Rattle.sparse.specs.Map.{Map, get}
use Rattle.vb_value.specs.Fraction.{none}
use Rattle.vb_value.specs.Key.{key_cmp}
use Rattle.boogie_tree.specs.Expr as t
use Rattle.boogie_tree.specs.Stmt as s
use Rattle.boogie_tree.specs.Program.{BType}
use Rattle.boogie_tree.specs.Value.{Key, BScalar, Real, BValue, One, Many, BChoice}
use Rattle.boogie_tree.specs.declared.exprs.BBase.{BBase}
use Rattle.boogie_tree.specs.declared.exprs.BBase.TheVariants as base
use Rattle.boogie_tree.specs.declared.exprs.BOp.TheVariants as op
use Rattle.boogie_tree.specs.Values.{FitsKey, FitsScalar, IsMapOf, map_type}
use Rattle.boogie_meaning.specs.Run.{Run, Done, Stops, Blocked, chosen}

-- `assume (forall .. :: a)`
abbrev pub assume_all : List BBase → t.BExpr → s.BStmt
assume_all us a = s.Assume (t.Forall us a)

-- a run that continues with the environment and the choices that it has, or blocks
pub data GoesOrBlocks (env : List BValue) (cs : List BChoice) : Run → Type 0 where
  goes : GoesOrBlocks env cs (Done env cs)
  blocks : GoesOrBlocks env cs (Stops Blocked cs)

-- ---- a map of zeros: `assume (forall q :: (m[q] == 0.0))`

abbrev pub zero_code : List BBase → ℕ → s.BStmt
zero_code us m = assume_all us (t.Bin op.Eq (t.AtBound m) (t.Real (pos 0)))

-- ---- a map that is given any values where another one is 0:
-- `havoc new; assume (forall q :: ((held[q] != 0.0) ==> (old[q] == new[q]))); old := new;`

abbrev pub is_kept : ℕ → ℕ → ℕ → t.BExpr
is_kept held old new = t.Bin op.Implies (t.Bin op.Ne (t.AtBound held) (t.Real (pos 0))) (t.Bin op.Eq (t.AtBound old) (t.AtBound new))

abbrev pub forget_code : List BBase → ℕ → ℕ → ℕ → s.BStmts
forget_code us held old new = s.first (s.Havoc new) (s.first (assume_all us (is_kept held old new)) (s.first (s.Assign old (t.Var new)) s.skip))

-- the new map has the values of the old one where the first map is not 0
abbrev pub Agrees : List BBase → Map Key BScalar → Map Key BScalar → Map Key BScalar → Type 0
Agrees us held old new = (k : Key) → FitsKey us k → get key_cmp held k ≢ Real none → get key_cmp old k ≡ get key_cmp new k

-- The first two variables are maps with keys of the types `u ∷ us`, of reals and of values of type w. The third has the type
-- of the second, and is neither of them.
pub record CanForget (ls : List BType) (env : List BValue) (u : BBase) (us : List BBase) (w : BBase) (held old new : ℕ) (held_map old_map : Map Key BScalar) : Type 0 where
  pub held_there : slice_get env held ≡ Some (Many held_map)
  pub held_typed : IsMapOf (u ∷ us) base.Real held_map
  pub old_there : slice_get env old ≡ Some (Many old_map)
  pub old_typed : IsMapOf (u ∷ us) w old_map
  pub new_type : slice_get ls new ≡ Some (map_type u us w)
  pub new_there : new < length env
  pub new_is_not_held : new ≢ held
  pub new_is_not_old : new ≢ old

-- the environment in which the new map has both places
abbrev pub with_both : List BValue → ℕ → ℕ → Map Key BScalar → List BValue
with_both env old new m = slice_set (slice_set env new (Many m)) old (Many m)

-- where a run of that code from these choices is done, it took one choice, whose map agrees
pub record HasForgotten (env : List BValue) (u : BBase) (us : List BBase) (w : BBase) (old new : ℕ) (held_map old_map : Map Key BScalar) (cs : List BChoice) (env' : List BValue) (left : List BChoice) :
    Type 0 where
  pub choice : BChoice
  pub choices : cs ≡ choice ∷ left
  pub new_map : Map Key BScalar
  pub new_typed : IsMapOf (u ∷ us) w new_map
  pub is_given : chosen (map_type u us w) choice ≡ Some (Many new_map)
  pub agrees : Agrees (u ∷ us) held_map old_map new_map
  pub environment : env' ≡ with_both env old new new_map

-- a run that continues does so with the environment and the choices that it has
pub record GoesFrom (env : List BValue) (cs : List BChoice) (env' : List BValue) (left : List BChoice) : Type 0 where
  pub environment : env ≡ env'
  pub choices : cs ≡ left

-- ---- a value that is nowhere where another map is not 0: `assume (forall q :: ((held[q] != 0.0) ==> (m[q] != r)))`

abbrev pub is_other : ℕ → ℕ → ℕ → t.BExpr
is_other held m r = t.Bin op.Implies (t.Bin op.Ne (t.AtBound held) (t.Real (pos 0))) (t.Bin op.Ne (t.AtBound m) (t.Var r))

abbrev pub avoid_code : List BBase → ℕ → ℕ → ℕ → s.BStmt
avoid_code us held m r = assume_all us (is_other held m r)

-- the second map has another value than this one where the first map is not 0
abbrev pub Avoids : List BBase → Map Key BScalar → Map Key BScalar → BScalar → Type 0
Avoids us held n v = (k : Key) → FitsKey us k → get key_cmp held k ≢ Real none → get key_cmp n k ≢ v

-- the first two variables are maps with keys of these types, of reals and of values of type w, and the third has such a value
pub record AreThere (env : List BValue) (us : List BBase) (w : BBase) (held m r : ℕ) (held_map map : Map Key BScalar) (value : BScalar) : Type 0 where
  pub held_there : slice_get env held ≡ Some (Many held_map)
  pub held_typed : IsMapOf us base.Real held_map
  pub map_there : slice_get env m ≡ Some (Many map)
  pub map_typed : IsMapOf us w map
  pub value_there : slice_get env r ≡ Some (One value)
  pub value_typed : FitsScalar w value
