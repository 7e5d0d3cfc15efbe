-- An execution that was worked out by hand, of this program:
--
--   field f: Int
--   method inc(x: Ref)
--     requires acc(x.f)
--     ensures acc(x.f) && x.f == old(x.f) + 1
--   {
--     x.f := x.f + 1
--   }
--   method twice(x: Ref)
--     requires acc(x.f)
--     ensures acc(x.f) && x.f == old(x.f) + 2
--   {
--     inc(x)
--     inc(x)
--   }
use Rattle.std.proofs.Common.{ℤ, pos, [], ◌∷◌, lit<, lit≤}
use Rattle.std.specs.Prelude.{Some, codes}
use Rattle.vb_base.specs.declared.places.Pos.{Pos}
use Rattle.vb_value.specs.Fraction.{none, write}
use Rattle.vb_value.specs.declared.values.Ty.TheVariants as ty
use Rattle.vb_value.specs.declared.values.Value.TheVariants as v
use Rattle.viper_core.specs.declared.exprs.Op.TheVariants as op
use Rattle.viper_core.specs.declared.programs.Unit.TheVariants as unit
use Rattle.viper_core.specs.Expr as t
use Rattle.viper_core.specs.Program.{Program, Method}
use Rattle.viper_core.specs.Stmt as s
use Rattle.viper_state.specs.Run.{Opening}
use Rattle.viper_state.specs.State.{State}

-- ---- places

abbrev pub at_2_1 : Pos
at_2_1 = record { line = 2; col = 1; line_in_range = (lit≤ tt, lit< tt); col_in_range = (lit≤ tt, lit< tt) }

abbrev pub at_2_8 : Pos
at_2_8 = record { line = 2; col = 8; line_in_range = (lit≤ tt, lit< tt); col_in_range = (lit≤ tt, lit< tt) }

abbrev pub at_3_18 : Pos
at_3_18 = record { line = 3; col = 18; line_in_range = (lit≤ tt, lit< tt); col_in_range = (lit≤ tt, lit< tt) }

abbrev pub at_4_17 : Pos
at_4_17 = record { line = 4; col = 17; line_in_range = (lit≤ tt, lit< tt); col_in_range = (lit≤ tt, lit< tt) }

abbrev pub at_4_23 : Pos
at_4_23 = record { line = 4; col = 23; line_in_range = (lit≤ tt, lit< tt); col_in_range = (lit≤ tt, lit< tt) }

abbrev pub at_4_25 : Pos
at_4_25 = record { line = 4; col = 25; line_in_range = (lit≤ tt, lit< tt); col_in_range = (lit≤ tt, lit< tt) }

abbrev pub at_4_27 : Pos
at_4_27 = record { line = 4; col = 27; line_in_range = (lit≤ tt, lit< tt); col_in_range = (lit≤ tt, lit< tt) }

abbrev pub at_4_36 : Pos
at_4_36 = record { line = 4; col = 36; line_in_range = (lit≤ tt, lit< tt); col_in_range = (lit≤ tt, lit< tt) }

abbrev pub at_4_39 : Pos
at_4_39 = record { line = 4; col = 39; line_in_range = (lit≤ tt, lit< tt); col_in_range = (lit≤ tt, lit< tt) }

abbrev pub at_5_1 : Pos
at_5_1 = record { line = 5; col = 1; line_in_range = (lit≤ tt, lit< tt); col_in_range = (lit≤ tt, lit< tt) }

abbrev pub at_6_3 : Pos
at_6_3 = record { line = 6; col = 3; line_in_range = (lit≤ tt, lit< tt); col_in_range = (lit≤ tt, lit< tt) }

abbrev pub at_6_5 : Pos
at_6_5 = record { line = 6; col = 5; line_in_range = (lit≤ tt, lit< tt); col_in_range = (lit≤ tt, lit< tt) }

abbrev pub at_6_12 : Pos
at_6_12 = record { line = 6; col = 12; line_in_range = (lit≤ tt, lit< tt); col_in_range = (lit≤ tt, lit< tt) }

abbrev pub at_6_14 : Pos
at_6_14 = record { line = 6; col = 14; line_in_range = (lit≤ tt, lit< tt); col_in_range = (lit≤ tt, lit< tt) }

abbrev pub at_8_1 : Pos
at_8_1 = record { line = 8; col = 1; line_in_range = (lit≤ tt, lit< tt); col_in_range = (lit≤ tt, lit< tt) }

abbrev pub at_8_8 : Pos
at_8_8 = record { line = 8; col = 8; line_in_range = (lit≤ tt, lit< tt); col_in_range = (lit≤ tt, lit< tt) }

abbrev pub at_9_18 : Pos
at_9_18 = record { line = 9; col = 18; line_in_range = (lit≤ tt, lit< tt); col_in_range = (lit≤ tt, lit< tt) }

abbrev pub at_10_17 : Pos
at_10_17 = record { line = 10; col = 17; line_in_range = (lit≤ tt, lit< tt); col_in_range = (lit≤ tt, lit< tt) }

abbrev pub at_10_23 : Pos
at_10_23 = record { line = 10; col = 23; line_in_range = (lit≤ tt, lit< tt); col_in_range = (lit≤ tt, lit< tt) }

abbrev pub at_10_25 : Pos
at_10_25 = record { line = 10; col = 25; line_in_range = (lit≤ tt, lit< tt); col_in_range = (lit≤ tt, lit< tt) }

abbrev pub at_10_27 : Pos
at_10_27 = record { line = 10; col = 27; line_in_range = (lit≤ tt, lit< tt); col_in_range = (lit≤ tt, lit< tt) }

abbrev pub at_10_36 : Pos
at_10_36 = record { line = 10; col = 36; line_in_range = (lit≤ tt, lit< tt); col_in_range = (lit≤ tt, lit< tt) }

abbrev pub at_10_39 : Pos
at_10_39 = record { line = 10; col = 39; line_in_range = (lit≤ tt, lit< tt); col_in_range = (lit≤ tt, lit< tt) }

abbrev pub at_11_1 : Pos
at_11_1 = record { line = 11; col = 1; line_in_range = (lit≤ tt, lit< tt); col_in_range = (lit≤ tt, lit< tt) }

abbrev pub at_12_3 : Pos
at_12_3 = record { line = 12; col = 3; line_in_range = (lit≤ tt, lit< tt); col_in_range = (lit≤ tt, lit< tt) }

abbrev pub at_13_3 : Pos
at_13_3 = record { line = 13; col = 3; line_in_range = (lit≤ tt, lit< tt); col_in_range = (lit≤ tt, lit< tt) }

-- ---- the program

-- `x.f`, where the name of the field is at this place
abbrev pub f_of_x : Pos → t.Expr
f_of_x at = t.Field (t.Var 0) 0 at

-- `acc(x.f)`
abbrev pub all_of_f : Pos → t.Assertion
all_of_f at = t.Acc (t.Var 0) 0 (t.Is (t.Part write)) at

-- `acc(x.f) && x.f == old(x.f) + n`
abbrev pub grown_by : ℤ → Pos → Pos → Pos → Pos → Pos → Pos → t.Assertion
grown_by n at_acc at_fact at_new at_eq at_old at_plus =
    t.And (all_of_f at_acc) (t.Fact (t.Bin op.Eq (f_of_x at_new) (t.Bin op.Add (t.Old (f_of_x at_old)) (t.Int n) at_plus) at_eq) at_fact)

-- `inc`, which adds this number
abbrev pub inc : ℤ → Method
inc n = record {
  name = codes "inc";
  at = at_2_1;
  name_at = at_2_8;
  names = codes "x" ∷ [];
  params = 1;
  returns = 0;
  vars = ty.Ref ∷ [];
  preconditions = all_of_f at_3_18 ∷ [];
  postconditions = grown_by (pos 1) at_4_17 at_4_23 at_4_25 at_4_27 at_4_36 at_4_39 ∷ [];
  body = Some (record { turn = at_5_1; stmts = s.stmts (s.Write at_6_3 (t.Var 0) 0 at_6_5 (t.Bin op.Add (f_of_x at_6_12) (t.Int n) at_6_14) ∷ []) });
}

abbrev pub twice : Method
twice = record {
  name = codes "twice";
  at = at_8_1;
  name_at = at_8_8;
  names = codes "x" ∷ [];
  params = 1;
  returns = 0;
  vars = ty.Ref ∷ [];
  preconditions = all_of_f at_9_18 ∷ [];
  postconditions = grown_by (pos 2) at_10_17 at_10_23 at_10_25 at_10_27 at_10_36 at_10_39 ∷ [];
  body = Some (record { turn = at_11_1; stmts = s.stmts (s.Call at_12_3 [] 0 (t.more (t.Var 0) t.none) ∷ s.Call at_13_3 [] 0 (t.more (t.Var 0) t.none) ∷ []) });
}

-- the program, in which `inc` adds this number
abbrev pub adding : ℤ → Program
adding n = record {
  fields = codes "f" ∷ [];
  layout = record { fields = ty.Int ∷ []; keys = [] };
  predicates = [];
  methods = inc n ∷ twice ∷ [];
  units = unit.Method 0 ∷ unit.Method 1 ∷ [];
}

-- ---- states

-- x is the reference 1, whose field is this number
abbrev pub beginning_at : ℤ → Opening
beginning_at n = record {
  store = v.Ref 1 ∷ [];
  memo = record { heap = (record { default = v.Int (pos 0); entries = (1, v.Int n) ∷ [] }) ∷ []; content = [] };
}

-- the field of the reference 1 is this number, and is held whole
abbrev pub holding : ℤ → State
holding n = record {
  heap = (record { default = v.Int (pos 0); entries = (1, v.Int n) ∷ [] }) ∷ [];
  content = [];
  mask = (record { default = none; entries = (1, write) ∷ [] }) ∷ [];
  amount = [];
}
