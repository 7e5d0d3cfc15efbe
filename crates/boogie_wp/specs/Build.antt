-- How a procedure becomes conditions and a formula: all of its statements are turned into definitions, one after the other, on
-- whichever path they stand, and a definition says at each place whether the run comes here.
use Rattle.std.specs.Prelude.{◌+◌, ℕ, true, false, List, [], ◌∷◌, ◌++◌, slice_get, slice_set, unwrap_or, length, if◌then◌else◌, nat_eq}
use Rattle.vb_base.specs.declared.labels.Label.{Label}
use Rattle.boogie_tree.specs.Stmt as s
use Rattle.boogie_tree.specs.Program.{BType, Proc}
use Rattle.boogie_tree.specs.declared.exprs.BOp.TheVariants as op
use Rattle.boogie_meaning.specs.Programs.{types_of}
use Rattle.boogie_formula.specs.Formula as f
use Rattle.boogie_formula.specs.Formula.{FExpr, Formula, Conditions}
use Rattle.boogie_formula.specs.Choices.{variables_of}
use Rattle.boogie_formula.specs.declared.formulas.Fail.{Fail}
use Rattle.boogie_wp.specs.Labels.{same_label}
use Rattle.boogie_wp.specs.Lifted.{lifted, lifted_all}

pub record ConditionsBuilder : Type 0 where
  pub lets : List FExpr
  -- the name that holds each local's value
  pub versions : List ℕ
  -- the name that says whether the run comes here
  pub path : ℕ
  -- the assertions so far, each with the name that says that it fails
  pub fails : List Fail
  -- the variable of the next `havoc` or `if (*)`
  pub next : ℕ

-- the name of a local
abbrev pub number_at : List ℕ → ℕ → ℕ
number_at js i = unwrap_or (slice_get js i) 0

abbrev pub named : ConditionsBuilder → ℕ → ℕ
named b i = number_at b.versions i

-- the name of the next definition, where there are n variables
abbrev pub fresh : ℕ → ConditionsBuilder → ℕ
fresh n b = n + length b.lets

-- ---- steps

abbrev pub define : FExpr → ConditionsBuilder → ConditionsBuilder
define e b = record b { lets = b.lets ++ e ∷ [] }

-- a local gets the value
abbrev pub store : ℕ → ℕ → FExpr → ConditionsBuilder → ConditionsBuilder
store n i e b = record b { lets = b.lets ++ e ∷ []; versions = slice_set b.versions i (fresh n b) }

-- a local gets the value of the next variable
abbrev pub choose : ℕ → ConditionsBuilder → ConditionsBuilder
choose i b = record b { versions = slice_set b.versions i b.next; next = b.next + 1 }

-- the run comes further only where this is true
abbrev pub go_where : ℕ → FExpr → ConditionsBuilder → ConditionsBuilder
go_where n e b = record b { lets = b.lets ++ f.Bin op.And (f.Var b.path) e ∷ []; path = fresh n b }

-- the assertion with this label fails where the run comes here and the condition is false
abbrev pub failing : ℕ → Label → ℕ → ConditionsBuilder → ConditionsBuilder
failing n l c b = record b {
  lets = b.lets ++ f.Bin op.And (f.Var b.path) (f.Not (f.Var c)) ∷ [];
  fails = b.fails ++ record { label = l; name = fresh n b } ∷ [];
}

-- the condition is a definition of its own
abbrev pub assume : ℕ → FExpr → ConditionsBuilder → ConditionsBuilder
assume n e b = go_where n (f.Var (fresh n b)) (define e b)

abbrev pub check : ℕ → Label → FExpr → ConditionsBuilder → ConditionsBuilder
check n l e b = go_where n (f.Var (fresh n b)) (failing n l (fresh n b) (define e b))

-- ---- branches

pub record Merged : Type 0 where
  pub versions : List ℕ
  pub lets : List FExpr

abbrev pub behind : ℕ → Merged → Merged
behind v m = record { versions = v ∷ m.versions; lets = m.lets }

-- the names after two branches, and a definition for each local whose names differ: the one of the first branch where c is true
abbrev pub merge : ℕ → ℕ → List ℕ → List ℕ → List FExpr → Merged
merge n c vs [] lets = record { versions = []; lets = lets }
merge n c [] (w ∷ ws) lets = record { versions = w ∷ ws; lets = lets }
merge n c (v ∷ vs) (w ∷ ws) lets =
    if nat_eq v w then behind w (merge n c vs ws lets)
    else behind (n + length lets) (merge n c vs ws (lets ++ f.If (f.Var c) (f.Var v) (f.Var w) ∷ []))

abbrev pub with_merged : ℕ → ConditionsBuilder → Merged → ConditionsBuilder
with_merged path y m = record y { versions = m.versions; lets = m.lets; path = path }

-- after both branches, by the names and the path of the first
abbrev pub join : ℕ → ℕ → List ℕ → ℕ → ConditionsBuilder → ConditionsBuilder
join n c versions path y =
    with_merged (fresh n y) y (merge n c versions y.versions (y.lets ++ f.Bin op.Or (f.Var path) (f.Var y.path) ∷ []))

-- the second branch begins with the names and the path with which the first one began
abbrev pub back : ℕ → ℕ → ConditionsBuilder → ConditionsBuilder → ConditionsBuilder
back n c b x = go_where n (f.Not (f.Var c)) (record x { versions = b.versions; path = b.path })

abbrev pub fork : ℕ → ℕ → (ConditionsBuilder → ConditionsBuilder) → (ConditionsBuilder → ConditionsBuilder) → ConditionsBuilder → ConditionsBuilder
fork n c first second b =
    let x = first (go_where n (f.Var c) b) in
    join n c x.versions x.path (second (back n c b x))

-- ---- statements

abbrev mutual
  pub built_stmt : ℕ → s.BStmt → ConditionsBuilder → ConditionsBuilder
  built_stmt n (s.Assign i e) b = store n i (lifted (named b) e) b
  built_stmt n (s.Put i es e) b = store n i (f.With (f.Var (named b i)) (lifted_all (named b) es) (lifted (named b) e)) b
  built_stmt n (s.Havoc i) b = choose i b
  built_stmt n (s.Assume e) b = assume n (lifted (named b) e) b
  built_stmt n (s.Assert l e) b = check n l (lifted (named b) e) b
  built_stmt n (s.If e xs ys) b = fork n (fresh n b) (λ c. built n xs c) (λ c. built n ys c) (define (lifted (named b) e) b)
  built_stmt n (s.Either xs ys) b = fork n b.next (λ c. built n xs c) (λ c. built n ys c) (record b { next = b.next + 1 })

  pub built : ℕ → s.BStmts → ConditionsBuilder → ConditionsBuilder
  built n s.skip b = b
  built n (s.first x xs) b = built n xs (built_stmt n x b)

-- ---- procedures

-- the numbers from m on
abbrev pub numbers : {X : Type 0} → ℕ → List X → List ℕ
numbers m [] = []
numbers m (x ∷ xs) = m ∷ numbers (m + 1) xs

-- the run comes to the first statement
abbrev pub started : List BType → List BType → ConditionsBuilder
started vars ls = record {
  lets = f.Bool true ∷ [];
  versions = numbers 0 ls;
  path = length vars;
  fails = [];
  next = length ls;
}

abbrev pub finished : List BType → ConditionsBuilder → Conditions
finished vars b = record { vars = vars; lets = b.lets; fails = b.fails }

abbrev pub conditions_for : Proc → Conditions
conditions_for d =
    let vars = variables_of d in
    finished vars (built (length vars) d.body (started vars (types_of d)))

-- ---- a label

-- definitions, the last of which says whether an assertion so far fails at the label
pub record Chain : Type 0 where
  pub lets : List FExpr
  pub last : ℕ

abbrev pub one_more : ℕ → ℕ → Chain → Chain
one_more n j c = record { lets = c.lets ++ f.Bin op.Or (f.Var c.last) (f.Var j) ∷ []; last = n + length c.lets }

abbrev pub linked : ℕ → Label → Fail → Chain → Chain
linked n label a c = if same_label a.label label then one_more n a.name c else c

abbrev pub chained : ℕ → Label → List Fail → Chain → Chain
chained n label [] c = c
chained n label (a ∷ rest) c = chained n label rest (linked n label a c)

abbrev pub chain_from : ℕ → List FExpr → Chain
chain_from n lets = record { lets = lets ++ f.Bool false ∷ []; last = n + length lets }

abbrev pub asking : List BType → Chain → Formula
asking vars c = record { vars = vars; lets = c.lets; goal = f.Not (f.Var c.last) }

-- the goal is that no assertion fails at the label
abbrev pub asked : Label → Conditions → Formula
asked label x =
    let n = length x.vars in
    asking x.vars (chained n label x.fails (chain_from n x.lets))

abbrev pub formula_for : Proc → Label → Formula
formula_for d label = asked label (conditions_for d)
