-- The plain data that contracts see of what the crate's functions are handed.
use Rattle.std.specs.Prelude.{List, map}
use Rattle.viper_meaning.specs.Operators as meaning
use Rattle.boogie_tree.specs.Expr as t
use Rattle.boogie_tree.specs.Whole.{expr_of, stmts_of}
use Rattle.enc_expr.specs.Kinds as k
use Rattle.enc_expr.specs.Place as p
use Rattle.enc_expr.specs.Pieces as piece
use Rattle.enc_expr.specs.declared.operands.Atom.{Atom}
use Rattle.enc_expr.specs.declared.operands.Atom.TheVariants as atom
use Rattle.enc_expr.specs.declared.operands.HeldAtom.{HeldAtom}
use Rattle.enc_expr.specs.declared.operands.Located.{Located}
use Rattle.enc_expr.specs.declared.operands.Operand.{Operand}
use Rattle.enc_expr.specs.declared.terms.Index.{Index}
use Rattle.enc_expr.specs.declared.terms.Index.TheVariants as at
use Rattle.enc_expr.specs.declared.operators.Class.{Class}
use Rattle.enc_expr.specs.declared.operators.Class.TheVariants as class
use Rattle.enc_expr.specs.declared.own_kinds.OwnKinds.{OwnKinds}
use Rattle.enc_expr.specs.declared.readings.Kinds.{Kinds}
use Rattle.enc_expr.specs.declared.readings.Reading.{Reading}

abbrev pub kinds_of : Kinds → k.Kinds
kinds_of x = record { vars = x.vars.now; layout = x.layout.now }

abbrev pub own_kinds_of : OwnKinds → k.Kinds
own_kinds_of x = record { vars = x.vars.items; layout = x.layout }

abbrev pub place_in : Reading → p.Place
place_in r = record { vars = r.vars.now; now = p.maps_of r.now.now; old = p.maps_of r.old.now; at = r.at }

abbrev pub seen : Operand → piece.Operand
seen x = record { expr = expr_of x.expr.value; base = x.base }

abbrev pub all_seen : List Operand → List piece.Operand
all_seen = map seen

abbrev pub atom_of : Atom → t.BExpr
atom_of (atom.Var i) = t.Var i
atom_of (atom.Int n) = t.Int n
atom_of (atom.Real n) = t.Real n
atom_of (atom.Bool b) = t.Bool b
atom_of atom.Null = t.Null

abbrev pub index_in : Index → t.BExprs
index_in (at.Reference a) = t.more (atom_of a) t.none
index_in (at.Instance locals) = piece.index locals.now

abbrev pub held_of : HeldAtom → piece.Atom
held_of x = record { expr = atom_of x.atom; sets = stmts_of x.sets.items }

abbrev pub located_of : Located → piece.Located
located_of x = record { locals = x.locals.items; sets = stmts_of x.sets.items }

abbrev pub class_in : Class → meaning.Class
class_in class.Lazy = meaning.Lazy
class_in class.Division = meaning.Division
class_in class.Plain = meaning.Plain
