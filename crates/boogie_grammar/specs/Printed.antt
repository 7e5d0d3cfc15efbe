-- The text that is written for a program: a line for each local, each statement and each bracket of a block.
use Rattle.std.specs.Prelude.{◌+◌, ◌++◌, ◌==◌, ℕ, zero, suc, Bool as Truth, true, false, List, [], ◌∷◌, Option, Some, None, slice_get, length, filter, if◌then◌else◌, codes}
use Rattle.std.specs.Fmt.{decimal, signed_decimal}
use Rattle.vb_base.specs.Labels.{text_of}
use Rattle.boogie_tree.specs.Expr as t
use Rattle.boogie_tree.specs.Stmt as s
use Rattle.boogie_tree.specs.Program.{BType, Local, Proc, BProgram}
use Rattle.boogie_tree.specs.Text.{prelude}
use Rattle.boogie_tree.specs.declared.exprs.BBase.{BBase}
use Rattle.boogie_tree.specs.declared.exprs.BOp.{BOp}
use Rattle.boogie_tree.specs.declared.exprs.BOp.TheVariants as op
use Rattle.boogie_grammar.specs.declared.tokens.BSign.TheVariants as sign
use Rattle.boogie_grammar.specs.declared.tokens.BoogieWord.TheVariants as w
use Rattle.boogie_grammar.specs.Words.{word_text, sign_text, base_word, is_among}
use Rattle.boogie_grammar.specs.Grammar.{local_names}

-- What names are written: those of the locals, those that the name of a bound variable is none of, and those that the
-- `forall` around binds.
pub record Naming : Type 0 where
  pub locals : List (List ℕ)
  pub taken : List (List ℕ)
  pub bound : List (List ℕ)

abbrev pub name_of : Option (List ℕ) → List ℕ
name_of (Some x) = x
name_of None = []

-- the name of the variable of this number
abbrev pub name_at : List (List ℕ) → ℕ → List ℕ
name_at names i = name_of (slice_get names i)

abbrev pub base_text : BBase → List ℕ
base_text u = word_text (base_word u)

abbrev pub operator_text : BOp → List ℕ
operator_text op.Iff = sign_text sign.Iff
operator_text op.Implies = sign_text sign.Implies
operator_text op.Or = sign_text sign.Or
operator_text op.And = sign_text sign.And
operator_text op.Eq = sign_text sign.Equal
operator_text op.Ne = sign_text sign.NotEqual
operator_text op.Lt = sign_text sign.Less
operator_text op.Le = sign_text sign.AtMost
operator_text op.Gt = sign_text sign.Greater
operator_text op.Ge = sign_text sign.AtLeast
operator_text op.Add = sign_text sign.Plus
operator_text op.Sub = sign_text sign.Minus
operator_text op.Mul = sign_text sign.Star
operator_text op.Divide = sign_text sign.Slash
operator_text op.IntDiv = word_text w.Div
operator_text op.IntMod = word_text w.Mod

abbrev pub truth_text : Truth → List ℕ
truth_text true = codes "true"
truth_text false = codes "false"

-- bound variables

-- `q` and a number
abbrev pub bound_name : ℕ → List ℕ
bound_name n = codes "q" ++ decimal n

-- of the numbers from n on, the first k of them, the first whose name is none of these, or the one after them
abbrev pub free_number : ℕ → ℕ → List (List ℕ) → ℕ
free_number zero n taken = n
free_number (suc k) n taken = if is_among (bound_name n) taken then free_number k (n + 1) taken else n

abbrev pub free_name : List (List ℕ) → List ℕ
free_name taken = bound_name (free_number (length taken) 0 taken)

-- a name for each of these types, none of `taken` and no two the same; `chosen` are those before them
abbrev pub bound_names : List (List ℕ) → List (List ℕ) → List BBase → List (List ℕ)
bound_names taken chosen [] = []
bound_names taken chosen (u ∷ us) = free_name (taken ++ chosen) ∷ bound_names taken (chosen ++ (free_name (taken ++ chosen) ∷ [])) us

-- under a `forall` that binds variables of these types
abbrev pub under : Naming → List BBase → Naming
under x us = record { locals = x.locals; taken = x.taken; bound = bound_names x.taken [] us }

-- the names of locals that a bound variable might have
abbrev pub is_q : List ℕ → Truth
is_q [] = false
is_q (b ∷ bytes) = b == 113

abbrev pub naming : List (List ℕ) → Naming
naming names = record { locals = names; taken = filter is_q names; bound = [] }

-- `a, b`, or `, a, b` with `, ` before it
abbrev pub names_text : List ℕ → List (List ℕ) → List ℕ
names_text before [] = []
names_text before (x ∷ xs) = before ++ x ++ names_text (codes ", ") xs

-- `q0: int, q1: Ref`
abbrev pub binders_text : List ℕ → List (List ℕ) → List BBase → List ℕ
binders_text before (x ∷ xs) (u ∷ us) = before ++ x ++ codes ": " ++ base_text u ++ binders_text (codes ", ") xs us
binders_text before _ _ = []

-- expressions

abbrev mutual
  pub expr_text : Naming → t.BExpr → List ℕ
  expr_text x (t.Var i) = name_at x.locals i
  expr_text x (t.Int n) = signed_decimal n
  expr_text x (t.Real n) = signed_decimal n ++ codes ".0"
  expr_text x (t.Bool b) = truth_text b
  expr_text x t.Null = codes "null"
  expr_text x t.Unit = codes "sUnit"
  expr_text x (t.Neg a) = codes "(- " ++ expr_text x a ++ codes ")"
  expr_text x (t.Not a) = codes "(! " ++ expr_text x a ++ codes ")"
  expr_text x (t.Bin o a b) = codes "(" ++ expr_text x a ++ codes " " ++ operator_text o ++ codes " " ++ expr_text x b ++ codes ")"
  expr_text x (t.If a b c) = codes "(if " ++ expr_text x a ++ codes " then " ++ expr_text x b ++ codes " else " ++ expr_text x c ++ codes ")"
  expr_text x (t.Forall us a) = codes "(forall " ++ binders_text [] (bound_names x.taken [] us) us ++ codes " :: " ++ expr_text (under x us) a ++ codes ")"
  expr_text x (t.ToReal a) = codes "real(" ++ expr_text x a ++ codes ")"
  expr_text x (t.SInt a) = codes "sInt(" ++ expr_text x a ++ codes ")"
  expr_text x (t.SBool a) = codes "sBool(" ++ expr_text x a ++ codes ")"
  expr_text x (t.SRef a) = codes "sRef(" ++ expr_text x a ++ codes ")"
  expr_text x (t.SPerm a) = codes "sPerm(" ++ expr_text x a ++ codes ")"
  expr_text x (t.Pair a b) = codes "sPair(" ++ expr_text x a ++ codes ", " ++ expr_text x b ++ codes ")"
  expr_text x (t.At i es) = name_at x.locals i ++ codes "[" ++ exprs_text x [] es ++ codes "]"
  expr_text x (t.AtBound i) = name_at x.locals i ++ codes "[" ++ names_text [] x.bound ++ codes "]"

  pub exprs_text : Naming → List ℕ → t.BExprs → List ℕ
  exprs_text x before t.none = []
  exprs_text x before (t.more a es) = before ++ expr_text x a ++ exprs_text x (codes ", ") es

-- statements

abbrev mutual
  pub stmt_text : Naming → s.BStmt → List ℕ
  stmt_text x (s.Assign i e) = name_at x.locals i ++ codes " := " ++ expr_text x e ++ codes ";\n"
  stmt_text x (s.Put i es e) = name_at x.locals i ++ codes "[" ++ exprs_text x [] es ++ codes "] := " ++ expr_text x e ++ codes ";\n"
  stmt_text x (s.Havoc i) = codes "havoc " ++ name_at x.locals i ++ codes ";\n"
  stmt_text x (s.Assume e) = codes "assume " ++ expr_text x e ++ codes ";\n"
  stmt_text x (s.Assert l e) = codes "assert {:msg \"" ++ text_of l ++ codes "\"} " ++ expr_text x e ++ codes ";\n"
  stmt_text x (s.If e a b) = codes "if (" ++ expr_text x e ++ codes ") {\n" ++ stmts_text x a ++ codes "} else {\n" ++ stmts_text x b ++ codes "}\n"
  stmt_text x (s.Either a b) = codes "if (*) {\n" ++ stmts_text x a ++ codes "} else {\n" ++ stmts_text x b ++ codes "}\n"

  pub stmts_text : Naming → s.BStmts → List ℕ
  stmts_text x s.skip = []
  stmts_text x (s.first a rest) = stmt_text x a ++ stmts_text x rest

-- procedures

abbrev pub bases_text : List ℕ → List BBase → List ℕ
bases_text before [] = []
bases_text before (u ∷ us) = before ++ base_text u ++ bases_text (codes ", ") us

-- `[int, Ref]`, or nothing where there are no keys
abbrev pub keys_text : List BBase → List ℕ
keys_text [] = []
keys_text (u ∷ us) = codes "[" ++ bases_text [] (u ∷ us) ++ codes "]"

abbrev pub type_text : BType → List ℕ
type_text u = keys_text u.keys ++ base_text u.base

abbrev pub locals_text : List Local → List ℕ
locals_text [] = []
locals_text (l ∷ ls) = codes "var " ++ l.name ++ codes ": " ++ type_text l.ty ++ codes ";\n" ++ locals_text ls

abbrev pub proc_text : Proc → List ℕ
proc_text p = codes "procedure " ++ p.name ++ codes "() {\n" ++ locals_text p.locals ++ stmts_text (naming (local_names p.locals)) p.body ++ codes "}\n"

abbrev pub procs_text : List Proc → List ℕ
procs_text [] = []
procs_text (p ∷ ps) = proc_text p ++ procs_text ps

abbrev pub program_text : BProgram → List ℕ
program_text program = prelude ++ procs_text program.procs
