-- The maps that a body under a `forall` indexes by the bound names, each with its entries.
use Rattle.std.specs.Prelude.{◌≡◌, ◌++◌, ℕ, ⊤, List, [], ◌∷◌, Some, All, slice_get}
use Rattle.std.specs.Map.{keys_of}
use Rattle.sparse.specs.Map.{borrowed, get}
use Rattle.vb_value.specs.Key.{key_cmp}
use Rattle.boogie_tree.specs.Expr as t
use Rattle.boogie_tree.specs.Value as v
use Rattle.boogie_tree.specs.Whole.{scalar_of}
use Rattle.boogie_tree.specs.declared.values.BScalar.{BScalar}
use Rattle.boogie_meaning.specs.Ends.{Is, then_with}
use Rattle.boogie_meaning.specs.Marked.{keys_in}
use Rattle.boogie_meaning.specs.Value.{the_map}
use Rattle.boogie_eval.specs.declared.eval_columns.Column.{Column}
use Rattle.boogie_eval.specs.declared.eval_values.ForallScope.{ForallScope}
use Rattle.boogie_eval.specs.declared.eval_values.ForallScope.TheVariants.{Outside, At, Elsewhere}

abbrev mutual
  -- the numbers of the maps that an expression indexes by the bound names
  pub numbers_in : t.BExpr → List ℕ
  numbers_in (t.Neg a) = numbers_in a
  numbers_in (t.Not a) = numbers_in a
  numbers_in (t.Bin o x y) = numbers_in x ++ numbers_in y
  numbers_in (t.If c x y) = numbers_in c ++ (numbers_in x ++ numbers_in y)
  numbers_in (t.ToReal a) = numbers_in a
  numbers_in (t.SInt a) = numbers_in a
  numbers_in (t.SBool a) = numbers_in a
  numbers_in (t.SRef a) = numbers_in a
  numbers_in (t.SPerm a) = numbers_in a
  numbers_in (t.Pair x y) = numbers_in x ++ numbers_in y
  numbers_in (t.At m es) = numbers_in_all es
  numbers_in (t.AtBound m) = m ∷ []
  numbers_in (t.Var i) = []
  numbers_in (t.Int n) = []
  numbers_in (t.Real n) = []
  numbers_in (t.Bool p) = []
  numbers_in t.Null = []
  numbers_in t.Unit = []
  numbers_in (t.Forall us a) = []

  pub numbers_in_all : t.BExprs → List ℕ
  numbers_in_all t.none = []
  numbers_in_all (t.more a es) = numbers_in a ++ numbers_in_all es

-- the keys of the entries of the maps of these numbers
abbrev pub keys_of_maps : List v.BValue → List ℕ → List v.Key
keys_of_maps env [] = []
keys_of_maps env (n ∷ ns) = keys_in (the_map env n) ++ keys_of_maps env ns

abbrev pub entries_in : Column → List (v.Key × BScalar)
entries_in c = borrowed c.entries.items

-- the keys of all columns
abbrev pub keys_of_columns : List Column → List v.Key
keys_of_columns [] = []
keys_of_columns (c ∷ cs) = keys_of (entries_in c) ++ keys_of_columns cs

-- the entries are those of the map of the column's number
pub record IsColumn (env : List v.BValue) (c : Column) : Type 0 where
  pub keys : keys_of (entries_in c) ≡ keys_in (the_map env c.number)
  pub values : (i : ℕ) (e : v.Key × BScalar) → slice_get (entries_in c) i ≡ Some e → then_with (the_map env c.number) (λ n. Is (get key_cmp n e.0)) ≡ Is (scalar_of e.1)

abbrev pub AreColumns : List v.BValue → List Column → Type 0
AreColumns env cs = All (IsColumn env) cs

-- there is a column of this number
abbrev pub HasColumn : List Column → ℕ → Type 0
HasColumn cs n = (i : ℕ) × (c : Column) × (slice_get cs i ≡ Some c) × (c.number ≡ n)

-- a column of this number has an entry with this key and value
abbrev pub StandsIn : List Column → ℕ → v.Key → BScalar → Type 0
StandsIn cs n k x = (i : ℕ) × (j : ℕ) × (c : Column) × (slice_get cs i ≡ Some c) × (c.number ≡ n) × (slice_get (entries_in c) j ≡ Some (k, x))

-- the columns that a scope has are those of the environment
abbrev pub FitsScope : List v.BValue → ForallScope → Type 0
FitsScope env Outside = ⊤
FitsScope env (At row) = AreColumns env row.columns.now
FitsScope env Elsewhere = ⊤
