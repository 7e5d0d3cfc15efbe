-- A list of non-negative numbers, as a tree. Its places are left out: each is 1:1.
--
--   field val: Int
--   field next: Ref
--   predicate cell(x: Ref) { acc(x.val) && x.val >= 0 }
--   predicate list(x: Ref) { acc(x.next) && cell(x) && (x.next != null ==> list(x.next)) }
--   method make(v: Int) returns (r: Ref) requires v >= 0 ensures list(r)
--     { r := new(val, next) r.val := v r.next := null fold cell(r) fold list(r) }
--   method push(x: Ref, v: Int) returns (r: Ref) requires list(x) && v >= 0 ensures list(r)
--     { r := new(*) r.val := v r.next := x fold cell(r) fold list(r) }
--   method head(x: Ref) returns (v: Int) requires list(x) ensures list(x) && v >= 0
--     { unfold list(x) unfold cell(x) v := x.val fold cell(x) fold list(x) }
--   method fill(n: Int) returns (r: Ref) requires n >= 0 ensures list(r)
--     { var i: Int := 0 r := make(0)
--       while (i < n) invariant list(r) && i >= 0 { r := push(r, i) i := i + 1 } }
use Rattle.std.proofs.Common.{ℕ, pos, [], ◌∷◌, Some, codes, lit<, lit≤}
use Rattle.vb_base.specs.declared.places.Pos.{Pos}
use Rattle.vb_value.specs.Fraction.{whole}
use Rattle.vb_value.specs.declared.values.Ty.TheVariants as ty
use Rattle.viper_core.specs.declared.exprs.Op.TheVariants as op
use Rattle.viper_core.specs.declared.programs.Unit.TheVariants as unit
use Rattle.viper_core.specs.Expr as t
use Rattle.viper_core.specs.Stmt as s
use Rattle.viper_core.specs.Program.{Program, Predicate, Method}

abbrev pub at : Pos
at = record { line = 1; col = 1; line_in_range = (lit≤ tt, lit< tt); col_in_range = (lit≤ tt, lit< tt) }

abbrev pub one : t.Expr → t.Exprs
one e = t.more e t.none

-- the literal permission `write`, which stands for an amount that was left out
abbrev pub all : t.Expr
all = t.Part (whole (pos 1))

abbrev pub val : t.Expr → t.Expr
val e = t.Field e 0 at

abbrev pub next : t.Expr → t.Expr
next e = t.Field e 1 at

abbrev pub not_negative : t.Expr → t.Assertion
not_negative e = t.Fact (t.Bin op.Ge e (t.Int (pos 0)) at) at

abbrev pub is_list : t.Expr → t.Assertion
is_list e = t.Inst 1 (one e) (t.Is all) at

abbrev pub cell_body : t.Assertion
cell_body = t.And (t.Acc (t.Var 0) 0 (t.Is all) at) (not_negative (val (t.Var 0)))

abbrev pub list_body : t.Assertion
list_body =
    t.And (t.And (t.Acc (t.Var 0) 1 (t.Is all) at) (t.Inst 0 (one (t.Var 0)) (t.Is all) at))
    (t.Implies (t.Bin op.Ne (next (t.Var 0)) t.Null at) (is_list (next (t.Var 0))))

abbrev pub cell : Predicate
cell = record { name = codes "cell"; at = at; names = codes "x" ∷ []; params = ty.Ref ∷ []; body = Some cell_body }

abbrev pub list : Predicate
list = record { name = codes "list"; at = at; names = codes "x" ∷ []; params = ty.Ref ∷ []; body = Some list_body }

-- the instance of this predicate at a variable
abbrev pub instance : ℕ → ℕ → s.FoldStmt
instance p x = record { at = at; predicate = p; args = one (t.Var x); amount = all; place = at }

abbrev pub make_stmts : s.Stmts
make_stmts = s.stmts (
    s.New at 1 (0 ∷ 1 ∷ []) (1 ∷ []) ∷
    s.Write at (t.Var 1) 0 at (t.Var 0) ∷
    s.Write at (t.Var 1) 1 at t.Null ∷
    s.Fold (instance 0 1) ∷
    s.Fold (instance 1 1) ∷ [])

abbrev pub make : Method
make = record {
  name = codes "make";
  at = at;
  name_at = at;
  names = codes "v" ∷ codes "r" ∷ [];
  params = 1;
  returns = 1;
  vars = ty.Int ∷ ty.Ref ∷ [];
  preconditions = not_negative (t.Var 0) ∷ [];
  postconditions = is_list (t.Var 1) ∷ [];
  body = Some (record {
    turn = at;
    stmts = make_stmts;
  });
}

abbrev pub push : Method
push = record {
  name = codes "push";
  at = at;
  name_at = at;
  names = codes "x" ∷ codes "v" ∷ codes "r" ∷ [];
  params = 2;
  returns = 1;
  vars = ty.Ref ∷ ty.Int ∷ ty.Ref ∷ [];
  preconditions = t.And (is_list (t.Var 0)) (not_negative (t.Var 1)) ∷ [];
  postconditions = is_list (t.Var 2) ∷ [];
  body = Some (record {
    turn = at;
    stmts = s.stmts (
        s.New at 2 (0 ∷ 1 ∷ []) (0 ∷ 2 ∷ []) ∷
        s.Write at (t.Var 2) 0 at (t.Var 1) ∷
        s.Write at (t.Var 2) 1 at (t.Var 0) ∷
        s.Fold (instance 0 2) ∷
        s.Fold (instance 1 2) ∷ []);
  });
}

abbrev pub head : Method
head = record {
  name = codes "head";
  at = at;
  name_at = at;
  names = codes "x" ∷ codes "v" ∷ [];
  params = 1;
  returns = 1;
  vars = ty.Ref ∷ ty.Int ∷ [];
  preconditions = is_list (t.Var 0) ∷ [];
  postconditions = t.And (is_list (t.Var 0)) (not_negative (t.Var 1)) ∷ [];
  body = Some (record {
    turn = at;
    stmts = s.stmts (
        s.Unfold (instance 1 0) ∷
        s.Unfold (instance 0 0) ∷
        s.Assign at 1 (val (t.Var 0)) ∷
        s.Fold (instance 0 0) ∷
        s.Fold (instance 1 0) ∷ []);
  });
}

abbrev pub turns : s.Stmts
turns = s.stmts (
    s.Call at (1 ∷ []) 1 (t.more (t.Var 1) (one (t.Var 2))) ∷
    s.Assign at 2 (t.Bin op.Add (t.Var 2) (t.Int (pos 1)) at) ∷ [])

abbrev pub fill_stmts : s.Stmts
fill_stmts = s.stmts (
    s.Var at 2 (Some (t.Int (pos 0))) ∷
    s.Call at (1 ∷ []) 0 (one (t.Int (pos 0))) ∷
    s.While (s.loop at (t.Bin op.Lt (t.Var 2) (t.Var 0) at)
    (t.And (is_list (t.Var 1)) (not_negative (t.Var 2)) ∷ []) turns at (1 ∷ 2 ∷ [])) ∷ [])

abbrev pub fill : Method
fill = record {
  name = codes "fill";
  at = at;
  name_at = at;
  names = codes "n" ∷ codes "r" ∷ [];
  params = 1;
  returns = 1;
  vars = ty.Int ∷ ty.Ref ∷ ty.Int ∷ [];
  preconditions = not_negative (t.Var 0) ∷ [];
  postconditions = is_list (t.Var 1) ∷ [];
  body = Some (record {
    turn = at;
    stmts = fill_stmts;
  });
}

abbrev pub worked : Program
worked = record {
  fields = codes "val" ∷ codes "next" ∷ [];
  layout = record { fields = ty.Int ∷ ty.Ref ∷ []; keys = (ty.Ref ∷ []) ∷ (ty.Ref ∷ []) ∷ [] };
  predicates = cell ∷ list ∷ [];
  methods = make ∷ push ∷ head ∷ fill ∷ [];
  units = unit.Predicate 0 ∷ unit.Predicate 1 ∷ unit.Method 0 ∷ unit.Method 1 ∷ unit.Method 2 ∷ unit.Method 3 ∷ [];
}
