-- Procedures of worked examples.
use Rattle.std.specs.Prelude.{pos, ℤ, Bool as Truth, [], ◌∷◌, codes}
use Rattle.std.proofs.Common.{lit≤, lit<}
use Rattle.vb_base.specs.declared.labels.Kind.TheVariants as kind
use Rattle.vb_base.specs.declared.labels.Label.{Label}
use Rattle.vb_base.specs.declared.places.Pos.{Pos}
use Rattle.boogie_tree.specs.Expr as t
use Rattle.boogie_tree.specs.Stmt as s
use Rattle.boogie_tree.specs.Program.{Proc}
use Rattle.boogie_tree.specs.Value.{BValue, One, Int, Bool}
use Rattle.boogie_tree.specs.Values.{plain_type}
use Rattle.boogie_tree.specs.declared.exprs.BBase.TheVariants as base
use Rattle.boogie_tree.specs.declared.exprs.BOp.{BOp}
use Rattle.boogie_tree.specs.declared.exprs.BOp.TheVariants as op

abbrev at_1_1 : Pos
at_1_1 = record { line = 1; col = 1; line_in_range = (lit≤ tt, lit< tt); col_in_range = (lit≤ tt, lit< tt) }

abbrev at_1_20 : Pos
at_1_20 = record { line = 1; col = 20; line_in_range = (lit≤ tt, lit< tt); col_in_range = (lit≤ tt, lit< tt) }

abbrev pub here : Label
here = record { at = at_1_20; part = at_1_20; kind = kind.Fact }

abbrev pub elsewhere : Label
elsewhere = record { at = at_1_1; part = at_1_1; kind = kind.Perm }

abbrev pub int : ℤ → BValue
int n = One (Int n)

abbrev pub bool : Truth → BValue
bool p = One (Bool p)

abbrev compared : BOp → ℤ → t.BExpr
compared o n = t.Bin o (t.Var 0) (t.Int n)

-- a procedure with one int, x
abbrev with_x : s.BStmts → Proc
with_x xs = record { name = codes "go"; locals = record { name = codes "x"; ty = plain_type base.Int } ∷ []; body = xs }

-- havoc x; assert x < 3
abbrev pub chosen : Proc
chosen = with_x (s.first (s.Havoc 0) (s.first (s.Assert here (compared op.Lt (pos 3))) s.skip))

-- assert x < 3, at another label; assert x < 5
abbrev pub twice : Proc
twice = with_x (s.first (s.Assert elsewhere (compared op.Lt (pos 3))) (s.first (s.Assert here (compared op.Lt (pos 5))) s.skip))

-- if (x < 3) { x := 3 } else { x := 1 }; assert x == 3
abbrev pub joining : Proc
joining = with_x (s.first (s.If (compared op.Lt (pos 3)) (s.first (s.Assign 0 (t.Int (pos 3))) s.skip) (s.first (s.Assign 0 (t.Int (pos 1))) s.skip))
    (s.first (s.Assert here (compared op.Eq (pos 3))) s.skip))

-- if (*) { havoc x } else { }; assert x < 3
abbrev pub picking : Proc
picking = with_x (s.first (s.Either (s.first (s.Havoc 0) s.skip) s.skip) (s.first (s.Assert here (compared op.Lt (pos 3))) s.skip))
