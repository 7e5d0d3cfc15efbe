-- Statements whose ends and whose code's runs were worked out by hand. Each stands from line 13 on in the body of this method:
--
--   field f: Int
--   field h: Ref
--   predicate Z() { acc(P(null), 1/2) && 1 > 0 }
--   predicate P(x: Ref) { acc(x.f) } predicate L(x: Ref) { acc(x.h) && (x.h != null ==> acc(L(x.h))) }
--   method next(a: Int, o: Ref) returns (r: Int, s: Ref)
--     requires acc(o.f)
--     requires o.f > a
--     ensures acc(o.f)
--     ensures r == a + 1
--     ensures o.f == old(o.f) + r
--   method go() returns (x: Ref, y: Ref, n: Int, k: Int)
--   {
use Rattle.std.proofs.Common.{◌≡◌, ℕ, pos, Bool as Truth, [], ◌∷◌, ◌++◌, List, None, map, length, lit<, lit≤}
use Rattle.std.specs.Prelude.{⊤, Some, ℤ, ◌+◌, true, take, drop, slice_index_or, codes}
use Rattle.vb_base.specs.declared.labels.Label.{Label}
use Rattle.vb_base.specs.declared.labels.Kind.{Kind}
use Rattle.vb_base.specs.declared.places.Pos.{Pos}
use Rattle.vb_value.specs.Bound.{Bound}
use Rattle.vb_value.specs.Content as content
use Rattle.vb_value.specs.Content.{Content}
use Rattle.vb_value.specs.Fraction.{Fraction, write}
use Rattle.vb_value.specs.declared.keys.KeyPart.TheVariants as part
use Rattle.vb_value.specs.declared.values.Ty.TheVariants as ty
use Rattle.vb_value.specs.declared.values.Value.{Value}
use Rattle.vb_value.specs.declared.values.Value.TheVariants as v
use Rattle.viper_core.specs.declared.exprs.Op.TheVariants as op
use Rattle.viper_core.specs.Expr as t
use Rattle.viper_core.specs.Program.{Program, Method}
use Rattle.viper_core.specs.Stmt as s
use Rattle.viper_core.specs.declared.programs.Unit.TheVariants as unit
use Rattle.viper_state.specs.Choice as choice
use Rattle.viper_state.specs.Choice.{Choice}
use Rattle.viper_state.specs.Event as event
use Rattle.viper_state.specs.Event.{Event}
use Rattle.viper_state.specs.Run.{Opening}
use Rattle.viper_state.specs.State.{Key, Memo, State}
use Rattle.viper_meaning.specs.Run as meaning
use Rattle.viper_meaning.specs.Statements.{Activation, Configuration, run_block}
use Rattle.viper_meaning.specs.Units.{unit_run}
use Rattle.boogie_tree.specs.Program.{BType, Proc}
use Rattle.boogie_tree.specs.Value as boogie
use Rattle.boogie_meaning.specs.Run as run
use Rattle.boogie_meaning.specs.Programs.{types_of, brun_proc, is_typed_proc}
use Rattle.boogie_meaning.specs.Types.{is_typed}
use Rattle.moves.specs.Scalars.{variable_type}
use Rattle.moves.specs.Maps.{heap_type, mask_type, amount_type, content_type}
use Rattle.moves.specs.Moves.{moves}
use Rattle.enc_expr.specs.Code.{Code}
use Rattle.enc_expr.specs.Worked.{image, variable, heap, mask, amount, contents, stale, held, known, half_held, leaf_int, leaf_ref, int, all, half, above}
use Rattle.enc_block.specs.Home.{Home}
use Rattle.enc_block.specs.Encoding.{block_code}
use Rattle.enc_units.specs.Units.{unit_procedure}

-- ---- places

abbrev pub at_3_1 : Pos
at_3_1 = record { line = 3; col = 1; line_in_range = (lit≤ tt, lit< tt); col_in_range = (lit≤ tt, lit< tt) }

abbrev pub at_3_21 : Pos
at_3_21 = record { line = 3; col = 21; line_in_range = (lit≤ tt, lit< tt); col_in_range = (lit≤ tt, lit< tt) }

abbrev pub at_3_23 : Pos
at_3_23 = record { line = 3; col = 23; line_in_range = (lit≤ tt, lit< tt); col_in_range = (lit≤ tt, lit< tt) }

abbrev pub at_3_25 : Pos
at_3_25 = record { line = 3; col = 25; line_in_range = (lit≤ tt, lit< tt); col_in_range = (lit≤ tt, lit< tt) }

abbrev pub at_3_27 : Pos
at_3_27 = record { line = 3; col = 27; line_in_range = (lit≤ tt, lit< tt); col_in_range = (lit≤ tt, lit< tt) }

abbrev pub at_3_31 : Pos
at_3_31 = record { line = 3; col = 31; line_in_range = (lit≤ tt, lit< tt); col_in_range = (lit≤ tt, lit< tt) }

abbrev pub at_3_38 : Pos
at_3_38 = record { line = 3; col = 38; line_in_range = (lit≤ tt, lit< tt); col_in_range = (lit≤ tt, lit< tt) }

abbrev pub at_3_40 : Pos
at_3_40 = record { line = 3; col = 40; line_in_range = (lit≤ tt, lit< tt); col_in_range = (lit≤ tt, lit< tt) }

abbrev pub at_4_1 : Pos
at_4_1 = record { line = 4; col = 1; line_in_range = (lit≤ tt, lit< tt); col_in_range = (lit≤ tt, lit< tt) }

abbrev pub at_4_8 : Pos
at_4_8 = record { line = 4; col = 8; line_in_range = (lit≤ tt, lit< tt); col_in_range = (lit≤ tt, lit< tt) }

abbrev pub at_4_29 : Pos
at_4_29 = record { line = 4; col = 29; line_in_range = (lit≤ tt, lit< tt); col_in_range = (lit≤ tt, lit< tt) }

abbrev pub at_4_34 : Pos
at_4_34 = record { line = 4; col = 34; line_in_range = (lit≤ tt, lit< tt); col_in_range = (lit≤ tt, lit< tt) }

abbrev pub at_4_62 : Pos
at_4_62 = record { line = 4; col = 62; line_in_range = (lit≤ tt, lit< tt); col_in_range = (lit≤ tt, lit< tt) }

abbrev pub at_4_71 : Pos
at_4_71 = record { line = 4; col = 71; line_in_range = (lit≤ tt, lit< tt); col_in_range = (lit≤ tt, lit< tt) }

abbrev pub at_4_73 : Pos
at_4_73 = record { line = 4; col = 73; line_in_range = (lit≤ tt, lit< tt); col_in_range = (lit≤ tt, lit< tt) }

abbrev pub at_4_89 : Pos
at_4_89 = record { line = 4; col = 89; line_in_range = (lit≤ tt, lit< tt); col_in_range = (lit≤ tt, lit< tt) }

abbrev pub at_4_93 : Pos
at_4_93 = record { line = 4; col = 93; line_in_range = (lit≤ tt, lit< tt); col_in_range = (lit≤ tt, lit< tt) }

abbrev pub at_5_1 : Pos
at_5_1 = record { line = 5; col = 1; line_in_range = (lit≤ tt, lit< tt); col_in_range = (lit≤ tt, lit< tt) }

abbrev pub at_5_8 : Pos
at_5_8 = record { line = 5; col = 8; line_in_range = (lit≤ tt, lit< tt); col_in_range = (lit≤ tt, lit< tt) }

abbrev pub at_5_18 : Pos
at_5_18 = record { line = 5; col = 18; line_in_range = (lit≤ tt, lit< tt); col_in_range = (lit≤ tt, lit< tt) }

abbrev pub at_5_24 : Pos
at_5_24 = record { line = 5; col = 24; line_in_range = (lit≤ tt, lit< tt); col_in_range = (lit≤ tt, lit< tt) }

abbrev pub at_5_26 : Pos
at_5_26 = record { line = 5; col = 26; line_in_range = (lit≤ tt, lit< tt); col_in_range = (lit≤ tt, lit< tt) }

abbrev pub at_5_28 : Pos
at_5_28 = record { line = 5; col = 28; line_in_range = (lit≤ tt, lit< tt); col_in_range = (lit≤ tt, lit< tt) }

abbrev pub at_6_17 : Pos
at_6_17 = record { line = 6; col = 17; line_in_range = (lit≤ tt, lit< tt); col_in_range = (lit≤ tt, lit< tt) }

abbrev pub at_6_18 : Pos
at_6_18 = record { line = 6; col = 18; line_in_range = (lit≤ tt, lit< tt); col_in_range = (lit≤ tt, lit< tt) }

abbrev pub at_6_23 : Pos
at_6_23 = record { line = 6; col = 23; line_in_range = (lit≤ tt, lit< tt); col_in_range = (lit≤ tt, lit< tt) }

abbrev pub at_6_25 : Pos
at_6_25 = record { line = 6; col = 25; line_in_range = (lit≤ tt, lit< tt); col_in_range = (lit≤ tt, lit< tt) }

abbrev pub at_6_27 : Pos
at_6_27 = record { line = 6; col = 27; line_in_range = (lit≤ tt, lit< tt); col_in_range = (lit≤ tt, lit< tt) }

abbrev pub at_6_36 : Pos
at_6_36 = record { line = 6; col = 36; line_in_range = (lit≤ tt, lit< tt); col_in_range = (lit≤ tt, lit< tt) }

abbrev pub at_6_39 : Pos
at_6_39 = record { line = 6; col = 39; line_in_range = (lit≤ tt, lit< tt); col_in_range = (lit≤ tt, lit< tt) }

abbrev pub at_7_11 : Pos
at_7_11 = record { line = 7; col = 11; line_in_range = (lit≤ tt, lit< tt); col_in_range = (lit≤ tt, lit< tt) }

abbrev pub at_7_12 : Pos
at_7_12 = record { line = 7; col = 12; line_in_range = (lit≤ tt, lit< tt); col_in_range = (lit≤ tt, lit< tt) }

abbrev pub at_7_13 : Pos
at_7_13 = record { line = 7; col = 13; line_in_range = (lit≤ tt, lit< tt); col_in_range = (lit≤ tt, lit< tt) }

abbrev pub at_7_14 : Pos
at_7_14 = record { line = 7; col = 14; line_in_range = (lit≤ tt, lit< tt); col_in_range = (lit≤ tt, lit< tt) }

abbrev pub at_7_16 : Pos
at_7_16 = record { line = 7; col = 16; line_in_range = (lit≤ tt, lit< tt); col_in_range = (lit≤ tt, lit< tt) }

abbrev pub at_8_1 : Pos
at_8_1 = record { line = 8; col = 1; line_in_range = (lit≤ tt, lit< tt); col_in_range = (lit≤ tt, lit< tt) }

abbrev pub at_8_17 : Pos
at_8_17 = record { line = 8; col = 17; line_in_range = (lit≤ tt, lit< tt); col_in_range = (lit≤ tt, lit< tt) }

abbrev pub at_9_3 : Pos
at_9_3 = record { line = 9; col = 3; line_in_range = (lit≤ tt, lit< tt); col_in_range = (lit≤ tt, lit< tt) }

abbrev pub at_9_11 : Pos
at_9_11 = record { line = 9; col = 11; line_in_range = (lit≤ tt, lit< tt); col_in_range = (lit≤ tt, lit< tt) }

abbrev pub at_9_13 : Pos
at_9_13 = record { line = 9; col = 13; line_in_range = (lit≤ tt, lit< tt); col_in_range = (lit≤ tt, lit< tt) }

abbrev pub at_9_18 : Pos
at_9_18 = record { line = 9; col = 18; line_in_range = (lit≤ tt, lit< tt); col_in_range = (lit≤ tt, lit< tt) }

abbrev pub at_9_19 : Pos
at_9_19 = record { line = 9; col = 19; line_in_range = (lit≤ tt, lit< tt); col_in_range = (lit≤ tt, lit< tt) }

abbrev pub at_10_3 : Pos
at_10_3 = record { line = 10; col = 3; line_in_range = (lit≤ tt, lit< tt); col_in_range = (lit≤ tt, lit< tt) }

abbrev pub at_10_5 : Pos
at_10_5 = record { line = 10; col = 5; line_in_range = (lit≤ tt, lit< tt); col_in_range = (lit≤ tt, lit< tt) }

abbrev pub at_10_11 : Pos
at_10_11 = record { line = 10; col = 11; line_in_range = (lit≤ tt, lit< tt); col_in_range = (lit≤ tt, lit< tt) }

abbrev pub at_10_12 : Pos
at_10_12 = record { line = 10; col = 12; line_in_range = (lit≤ tt, lit< tt); col_in_range = (lit≤ tt, lit< tt) }

abbrev pub at_10_13 : Pos
at_10_13 = record { line = 10; col = 13; line_in_range = (lit≤ tt, lit< tt); col_in_range = (lit≤ tt, lit< tt) }

abbrev pub at_10_15 : Pos
at_10_15 = record { line = 10; col = 15; line_in_range = (lit≤ tt, lit< tt); col_in_range = (lit≤ tt, lit< tt) }

abbrev pub at_10_24 : Pos
at_10_24 = record { line = 10; col = 24; line_in_range = (lit≤ tt, lit< tt); col_in_range = (lit≤ tt, lit< tt) }

abbrev pub at_10_27 : Pos
at_10_27 = record { line = 10; col = 27; line_in_range = (lit≤ tt, lit< tt); col_in_range = (lit≤ tt, lit< tt) }

abbrev pub at_11_3 : Pos
at_11_3 = record { line = 11; col = 3; line_in_range = (lit≤ tt, lit< tt); col_in_range = (lit≤ tt, lit< tt) }

abbrev pub at_11_10 : Pos
at_11_10 = record { line = 11; col = 10; line_in_range = (lit≤ tt, lit< tt); col_in_range = (lit≤ tt, lit< tt) }

abbrev pub at_13_1 : Pos
at_13_1 = record { line = 13; col = 1; line_in_range = (lit≤ tt, lit< tt); col_in_range = (lit≤ tt, lit< tt) }

abbrev pub at_13_3 : Pos
at_13_3 = record { line = 13; col = 3; line_in_range = (lit≤ tt, lit< tt); col_in_range = (lit≤ tt, lit< tt) }

abbrev pub at_13_5 : Pos
at_13_5 = record { line = 13; col = 5; line_in_range = (lit≤ tt, lit< tt); col_in_range = (lit≤ tt, lit< tt) }

abbrev pub at_13_7 : Pos
at_13_7 = record { line = 13; col = 7; line_in_range = (lit≤ tt, lit< tt); col_in_range = (lit≤ tt, lit< tt) }

abbrev pub at_13_8 : Pos
at_13_8 = record { line = 13; col = 8; line_in_range = (lit≤ tt, lit< tt); col_in_range = (lit≤ tt, lit< tt) }

abbrev pub at_13_9 : Pos
at_13_9 = record { line = 13; col = 9; line_in_range = (lit≤ tt, lit< tt); col_in_range = (lit≤ tt, lit< tt) }

abbrev pub at_13_10 : Pos
at_13_10 = record { line = 13; col = 10; line_in_range = (lit≤ tt, lit< tt); col_in_range = (lit≤ tt, lit< tt) }

abbrev pub at_13_11 : Pos
at_13_11 = record { line = 13; col = 11; line_in_range = (lit≤ tt, lit< tt); col_in_range = (lit≤ tt, lit< tt) }

abbrev pub at_13_12 : Pos
at_13_12 = record { line = 13; col = 12; line_in_range = (lit≤ tt, lit< tt); col_in_range = (lit≤ tt, lit< tt) }

abbrev pub at_13_14 : Pos
at_13_14 = record { line = 13; col = 14; line_in_range = (lit≤ tt, lit< tt); col_in_range = (lit≤ tt, lit< tt) }

abbrev pub at_13_16 : Pos
at_13_16 = record { line = 13; col = 16; line_in_range = (lit≤ tt, lit< tt); col_in_range = (lit≤ tt, lit< tt) }

abbrev pub at_13_19 : Pos
at_13_19 = record { line = 13; col = 19; line_in_range = (lit≤ tt, lit< tt); col_in_range = (lit≤ tt, lit< tt) }

abbrev pub at_13_20 : Pos
at_13_20 = record { line = 13; col = 20; line_in_range = (lit≤ tt, lit< tt); col_in_range = (lit≤ tt, lit< tt) }

abbrev pub at_13_21 : Pos
at_13_21 = record { line = 13; col = 21; line_in_range = (lit≤ tt, lit< tt); col_in_range = (lit≤ tt, lit< tt) }

abbrev pub at_13_22 : Pos
at_13_22 = record { line = 13; col = 22; line_in_range = (lit≤ tt, lit< tt); col_in_range = (lit≤ tt, lit< tt) }

abbrev pub at_13_25 : Pos
at_13_25 = record { line = 13; col = 25; line_in_range = (lit≤ tt, lit< tt); col_in_range = (lit≤ tt, lit< tt) }

abbrev pub at_13_29 : Pos
at_13_29 = record { line = 13; col = 29; line_in_range = (lit≤ tt, lit< tt); col_in_range = (lit≤ tt, lit< tt) }

abbrev pub at_13_31 : Pos
at_13_31 = record { line = 13; col = 31; line_in_range = (lit≤ tt, lit< tt); col_in_range = (lit≤ tt, lit< tt) }

abbrev pub at_13_32 : Pos
at_13_32 = record { line = 13; col = 32; line_in_range = (lit≤ tt, lit< tt); col_in_range = (lit≤ tt, lit< tt) }

abbrev pub at_13_33 : Pos
at_13_33 = record { line = 13; col = 33; line_in_range = (lit≤ tt, lit< tt); col_in_range = (lit≤ tt, lit< tt) }

abbrev pub at_13_34 : Pos
at_13_34 = record { line = 13; col = 34; line_in_range = (lit≤ tt, lit< tt); col_in_range = (lit≤ tt, lit< tt) }

abbrev pub at_13_36 : Pos
at_13_36 = record { line = 13; col = 36; line_in_range = (lit≤ tt, lit< tt); col_in_range = (lit≤ tt, lit< tt) }

abbrev pub at_13_38 : Pos
at_13_38 = record { line = 13; col = 38; line_in_range = (lit≤ tt, lit< tt); col_in_range = (lit≤ tt, lit< tt) }

abbrev pub at_13_45 : Pos
at_13_45 = record { line = 13; col = 45; line_in_range = (lit≤ tt, lit< tt); col_in_range = (lit≤ tt, lit< tt) }

abbrev pub at_13_47 : Pos
at_13_47 = record { line = 13; col = 47; line_in_range = (lit≤ tt, lit< tt); col_in_range = (lit≤ tt, lit< tt) }

abbrev pub at_13_49 : Pos
at_13_49 = record { line = 13; col = 49; line_in_range = (lit≤ tt, lit< tt); col_in_range = (lit≤ tt, lit< tt) }

abbrev pub at_14_3 : Pos
at_14_3 = record { line = 14; col = 3; line_in_range = (lit≤ tt, lit< tt); col_in_range = (lit≤ tt, lit< tt) }

abbrev pub at_14_5 : Pos
at_14_5 = record { line = 14; col = 5; line_in_range = (lit≤ tt, lit< tt); col_in_range = (lit≤ tt, lit< tt) }

abbrev pub at_14_7 : Pos
at_14_7 = record { line = 14; col = 7; line_in_range = (lit≤ tt, lit< tt); col_in_range = (lit≤ tt, lit< tt) }

abbrev pub at_14_11 : Pos
at_14_11 = record { line = 14; col = 11; line_in_range = (lit≤ tt, lit< tt); col_in_range = (lit≤ tt, lit< tt) }

abbrev pub at_14_12 : Pos
at_14_12 = record { line = 14; col = 12; line_in_range = (lit≤ tt, lit< tt); col_in_range = (lit≤ tt, lit< tt) }

abbrev pub at_14_13 : Pos
at_14_13 = record { line = 14; col = 13; line_in_range = (lit≤ tt, lit< tt); col_in_range = (lit≤ tt, lit< tt) }

abbrev pub at_14_14 : Pos
at_14_14 = record { line = 14; col = 14; line_in_range = (lit≤ tt, lit< tt); col_in_range = (lit≤ tt, lit< tt) }

abbrev pub at_14_15 : Pos
at_14_15 = record { line = 14; col = 15; line_in_range = (lit≤ tt, lit< tt); col_in_range = (lit≤ tt, lit< tt) }

abbrev pub at_14_16 : Pos
at_14_16 = record { line = 14; col = 16; line_in_range = (lit≤ tt, lit< tt); col_in_range = (lit≤ tt, lit< tt) }

abbrev pub at_14_18 : Pos
at_14_18 = record { line = 14; col = 18; line_in_range = (lit≤ tt, lit< tt); col_in_range = (lit≤ tt, lit< tt) }

abbrev pub at_14_20 : Pos
at_14_20 = record { line = 14; col = 20; line_in_range = (lit≤ tt, lit< tt); col_in_range = (lit≤ tt, lit< tt) }

abbrev pub at_14_21 : Pos
at_14_21 = record { line = 14; col = 21; line_in_range = (lit≤ tt, lit< tt); col_in_range = (lit≤ tt, lit< tt) }

abbrev pub at_14_22 : Pos
at_14_22 = record { line = 14; col = 22; line_in_range = (lit≤ tt, lit< tt); col_in_range = (lit≤ tt, lit< tt) }

abbrev pub at_14_25 : Pos
at_14_25 = record { line = 14; col = 25; line_in_range = (lit≤ tt, lit< tt); col_in_range = (lit≤ tt, lit< tt) }

abbrev pub at_14_29 : Pos
at_14_29 = record { line = 14; col = 29; line_in_range = (lit≤ tt, lit< tt); col_in_range = (lit≤ tt, lit< tt) }

abbrev pub at_14_41 : Pos
at_14_41 = record { line = 14; col = 41; line_in_range = (lit≤ tt, lit< tt); col_in_range = (lit≤ tt, lit< tt) }

abbrev pub at_15_1 : Pos
at_15_1 = record { line = 15; col = 1; line_in_range = (lit≤ tt, lit< tt); col_in_range = (lit≤ tt, lit< tt) }

abbrev pub at_15_3 : Pos
at_15_3 = record { line = 15; col = 3; line_in_range = (lit≤ tt, lit< tt); col_in_range = (lit≤ tt, lit< tt) }

abbrev pub at_15_8 : Pos
at_15_8 = record { line = 15; col = 8; line_in_range = (lit≤ tt, lit< tt); col_in_range = (lit≤ tt, lit< tt) }

abbrev pub at_15_10 : Pos
at_15_10 = record { line = 15; col = 10; line_in_range = (lit≤ tt, lit< tt); col_in_range = (lit≤ tt, lit< tt) }

abbrev pub at_15_12 : Pos
at_15_12 = record { line = 15; col = 12; line_in_range = (lit≤ tt, lit< tt); col_in_range = (lit≤ tt, lit< tt) }

abbrev pub at_15_15 : Pos
at_15_15 = record { line = 15; col = 15; line_in_range = (lit≤ tt, lit< tt); col_in_range = (lit≤ tt, lit< tt) }

abbrev pub at_15_16 : Pos
at_15_16 = record { line = 15; col = 16; line_in_range = (lit≤ tt, lit< tt); col_in_range = (lit≤ tt, lit< tt) }

abbrev pub at_15_17 : Pos
at_15_17 = record { line = 15; col = 17; line_in_range = (lit≤ tt, lit< tt); col_in_range = (lit≤ tt, lit< tt) }

abbrev pub at_15_19 : Pos
at_15_19 = record { line = 15; col = 19; line_in_range = (lit≤ tt, lit< tt); col_in_range = (lit≤ tt, lit< tt) }

abbrev pub at_15_20 : Pos
at_15_20 = record { line = 15; col = 20; line_in_range = (lit≤ tt, lit< tt); col_in_range = (lit≤ tt, lit< tt) }

abbrev pub at_15_24 : Pos
at_15_24 = record { line = 15; col = 24; line_in_range = (lit≤ tt, lit< tt); col_in_range = (lit≤ tt, lit< tt) }

abbrev pub at_15_31 : Pos
at_15_31 = record { line = 15; col = 31; line_in_range = (lit≤ tt, lit< tt); col_in_range = (lit≤ tt, lit< tt) }

abbrev pub at_16_3 : Pos
at_16_3 = record { line = 16; col = 3; line_in_range = (lit≤ tt, lit< tt); col_in_range = (lit≤ tt, lit< tt) }

abbrev pub at_16_5 : Pos
at_16_5 = record { line = 16; col = 5; line_in_range = (lit≤ tt, lit< tt); col_in_range = (lit≤ tt, lit< tt) }

abbrev pub at_16_7 : Pos
at_16_7 = record { line = 16; col = 7; line_in_range = (lit≤ tt, lit< tt); col_in_range = (lit≤ tt, lit< tt) }

abbrev pub at_16_12 : Pos
at_16_12 = record { line = 16; col = 12; line_in_range = (lit≤ tt, lit< tt); col_in_range = (lit≤ tt, lit< tt) }

abbrev pub at_16_14 : Pos
at_16_14 = record { line = 16; col = 14; line_in_range = (lit≤ tt, lit< tt); col_in_range = (lit≤ tt, lit< tt) }

abbrev pub at_16_16 : Pos
at_16_16 = record { line = 16; col = 16; line_in_range = (lit≤ tt, lit< tt); col_in_range = (lit≤ tt, lit< tt) }

abbrev pub at_16_19 : Pos
at_16_19 = record { line = 16; col = 19; line_in_range = (lit≤ tt, lit< tt); col_in_range = (lit≤ tt, lit< tt) }

abbrev pub at_16_21 : Pos
at_16_21 = record { line = 16; col = 21; line_in_range = (lit≤ tt, lit< tt); col_in_range = (lit≤ tt, lit< tt) }

abbrev pub at_16_24 : Pos
at_16_24 = record { line = 16; col = 24; line_in_range = (lit≤ tt, lit< tt); col_in_range = (lit≤ tt, lit< tt) }

abbrev pub at_16_31 : Pos
at_16_31 = record { line = 16; col = 31; line_in_range = (lit≤ tt, lit< tt); col_in_range = (lit≤ tt, lit< tt) }

abbrev pub at_17_5 : Pos
at_17_5 = record { line = 17; col = 5; line_in_range = (lit≤ tt, lit< tt); col_in_range = (lit≤ tt, lit< tt) }

abbrev pub at_17_23 : Pos
at_17_23 = record { line = 17; col = 23; line_in_range = (lit≤ tt, lit< tt); col_in_range = (lit≤ tt, lit< tt) }

abbrev pub at_17_27 : Pos
at_17_27 = record { line = 17; col = 27; line_in_range = (lit≤ tt, lit< tt); col_in_range = (lit≤ tt, lit< tt) }

abbrev pub at_18_3 : Pos
at_18_3 = record { line = 18; col = 3; line_in_range = (lit≤ tt, lit< tt); col_in_range = (lit≤ tt, lit< tt) }

abbrev pub at_18_5 : Pos
at_18_5 = record { line = 18; col = 5; line_in_range = (lit≤ tt, lit< tt); col_in_range = (lit≤ tt, lit< tt) }

abbrev pub at_18_14 : Pos
at_18_14 = record { line = 18; col = 14; line_in_range = (lit≤ tt, lit< tt); col_in_range = (lit≤ tt, lit< tt) }

abbrev pub at_18_17 : Pos
at_18_17 = record { line = 18; col = 17; line_in_range = (lit≤ tt, lit< tt); col_in_range = (lit≤ tt, lit< tt) }

abbrev pub at_18_21 : Pos
at_18_21 = record { line = 18; col = 21; line_in_range = (lit≤ tt, lit< tt); col_in_range = (lit≤ tt, lit< tt) }

abbrev pub at_19_7 : Pos
at_19_7 = record { line = 19; col = 7; line_in_range = (lit≤ tt, lit< tt); col_in_range = (lit≤ tt, lit< tt) }

abbrev pub at_19_14 : Pos
at_19_14 = record { line = 19; col = 14; line_in_range = (lit≤ tt, lit< tt); col_in_range = (lit≤ tt, lit< tt) }

abbrev pub at_21_5 : Pos
at_21_5 = record { line = 21; col = 5; line_in_range = (lit≤ tt, lit< tt); col_in_range = (lit≤ tt, lit< tt) }

abbrev pub at_21_7 : Pos
at_21_7 = record { line = 21; col = 7; line_in_range = (lit≤ tt, lit< tt); col_in_range = (lit≤ tt, lit< tt) }

abbrev pub at_21_18 : Pos
at_21_18 = record { line = 21; col = 18; line_in_range = (lit≤ tt, lit< tt); col_in_range = (lit≤ tt, lit< tt) }

abbrev pub at_21_21 : Pos
at_21_21 = record { line = 21; col = 21; line_in_range = (lit≤ tt, lit< tt); col_in_range = (lit≤ tt, lit< tt) }

-- ---- the program

abbrev pub f_of : t.Expr → Pos → t.Expr
f_of x at = t.Field x 0 at

abbrev pub x_h : Pos → t.Expr
x_h at = t.Field (t.Var 0) 1 at

abbrev pub body_Z : t.Assertion
body_Z = t.And (t.Inst 1 (t.more t.Null t.none) (t.Is (half at_3_31)) at_3_21) (t.Fact (above (int 1) 0 at_3_40) at_3_38)

abbrev pub body_P : t.Assertion
body_P = t.Acc (t.Var 0) 0 (t.Is all) at_4_29

abbrev pub body_L : t.Assertion
body_L =
    t.And (t.Acc (t.Var 0) 1 (t.Is all) at_4_62)
    (t.Implies (t.Bin op.Ne (x_h at_4_71) t.Null at_4_73) (t.Inst 2 (t.more (x_h at_4_93) t.none) (t.Is all) at_4_89))

abbrev pub next : Method
next = record {
  name = codes "next";
  at = at_5_1;
  name_at = at_5_8;
  names = codes "a" ∷ codes "o" ∷ codes "r" ∷ codes "s" ∷ [];
  params = 2;
  returns = 2;
  vars = ty.Int ∷ ty.Ref ∷ ty.Int ∷ ty.Ref ∷ [];
  preconditions =
      t.Acc (t.Var 1) 0 (t.Is all) at_6_18 ∷
      t.Fact (t.Bin op.Gt (t.Field (t.Var 1) 0 at_7_14) (t.Var 0) at_7_16) at_7_12 ∷ [];
  postconditions =
      t.Acc (t.Var 1) 0 (t.Is all) at_8_17 ∷
      t.Fact (t.Bin op.Eq (t.Var 2) (t.Bin op.Add (t.Var 0) (int 1) at_9_18) at_9_13) at_9_11 ∷
      t.Fact (t.Bin op.Eq (t.Field (t.Var 1) 0 at_10_13) (t.Bin op.Add (t.Old (t.Field (t.Var 1) 0 at_10_24)) (t.Var 2) at_10_27) at_10_15) at_10_11 ∷ [];
  body = None;
}

abbrev pub program : Program
program = record {
  fields = codes "f" ∷ codes "h" ∷ [];
  layout = record { fields = ty.Int ∷ ty.Ref ∷ []; keys = [] ∷ (ty.Ref ∷ []) ∷ (ty.Ref ∷ []) ∷ [] };
  predicates =
      record { name = codes "Z"; at = at_3_1; names = []; params = []; body = Some body_Z } ∷
      record { name = codes "P"; at = at_4_1; names = codes "x" ∷ []; params = ty.Ref ∷ []; body = Some body_P } ∷
      record { name = codes "L"; at = at_4_34; names = codes "x" ∷ []; params = ty.Ref ∷ []; body = Some body_L } ∷ [];
  methods = next ∷ [];
  units = [];
}

-- ---- where a state stands

-- the variables x, y, n, k; the fields f, h; the predicates Z, P, L
abbrev pub home : Home
home = record {
  vars = 2 ∷ 0 ∷ 3 ∷ 1 ∷ [];
  now = record { heap = 5 ∷ 4 ∷ []; mask = 6 ∷ 7 ∷ []; amount = 9 ∷ 8 ∷ 23 ∷ []; content = 10 ∷ 11 ∷ 24 ∷ [] };
  old = record { heap = 14 ∷ 15 ∷ []; mask = 12 ∷ 13 ∷ []; amount = 16 ∷ 17 ∷ 25 ∷ []; content = 19 ∷ 18 ∷ 26 ∷ [] };
  nothing = record { heap = []; mask = 20 ∷ 20 ∷ []; amount = 22 ∷ 21 ∷ 27 ∷ []; content = [] };
}

-- the types of these locals
abbrev pub locals : List BType
locals =
    variable_type ty.Ref ∷ variable_type ty.Int ∷ variable_type ty.Ref ∷ variable_type ty.Int ∷
    heap_type ty.Ref ∷ heap_type ty.Int ∷ mask_type ty.Int ∷ mask_type ty.Ref ∷
    amount_type (ty.Ref ∷ []) ∷ amount_type [] ∷ content_type [] ∷ content_type (ty.Ref ∷ []) ∷
    mask_type ty.Int ∷ mask_type ty.Ref ∷ heap_type ty.Int ∷ heap_type ty.Ref ∷
    amount_type [] ∷ amount_type (ty.Ref ∷ []) ∷ content_type (ty.Ref ∷ []) ∷ content_type [] ∷
    mask_type ty.Ref ∷ amount_type (ty.Ref ∷ []) ∷ amount_type [] ∷
    amount_type (ty.Ref ∷ []) ∷ content_type (ty.Ref ∷ []) ∷ amount_type (ty.Ref ∷ []) ∷ content_type (ty.Ref ∷ []) ∷ amount_type (ty.Ref ∷ []) ∷ []

abbrev pub zeros : boogie.BValue
zeros = image {K = ℕ} (λ r. []) boogie.Real (held [])

-- the values of these locals
abbrev pub environment : List Value → State → State → List boogie.BValue
environment vs now old =
    variable vs 1 ∷ variable vs 3 ∷ variable vs 0 ∷ variable vs 2 ∷ heap now 1 ∷ heap now 0 ∷ mask now 0 ∷ mask now 1 ∷
    amount now 1 ∷ amount now 0 ∷ contents now 0 ∷ contents now 1 ∷
    mask old 0 ∷ mask old 1 ∷ heap old 0 ∷ heap old 1 ∷ amount old 0 ∷ amount old 1 ∷ contents old 1 ∷ contents old 0 ∷
    zeros ∷ zeros ∷ zeros ∷ amount now 2 ∷ contents now 2 ∷ amount old 2 ∷ contents old 2 ∷ zeros ∷ []

-- ---- what is said of each

-- statements, and where they begin
pub record Example : Type 0 where
  pub stmts : s.Stmts
  pub store : List Value
  pub now : State
  pub old : State

abbrev pub activation : Example → Activation
activation x = record { program = program; vars = ty.Ref ∷ ty.Ref ∷ ty.Int ∷ ty.Int ∷ []; old = x.old }

abbrev pub piece : Example → Code ⊤
piece x = block_code program (record { vars = ty.Ref ∷ ty.Ref ∷ ty.Int ∷ ty.Int ∷ []; layout = program.layout }) home x.stmts (length locals)

-- the end without the temporaries
abbrev pub front : run.Run → run.Run
front (run.Done env cs) = run.Done (take (length locals) env) cs
front (run.Stops why cs) = run.Stops why cs

abbrev pub ran : Bound → Code ⊤ → List boogie.BValue → List boogie.BChoice → run.Run
ran b c env cs = front (run.brun (locals ++ c.locals) b c.stmts (env ++ map stale c.locals) cs)

-- On these choices the statements have this end, with these events, and none is left; on these moves, which are those of the events,
-- the run of the code has that end; and the code is well-typed. What new locals hold at first is of no matter.
pub record Ends (b : Bound) (x : Example) (choices : List Choice) (events : List Event) (end : meaning.Step Configuration) (moved : List boogie.BChoice) (ends : run.Run) : Type 0 where
  pub means : meaning.on (run_block b (activation x) x.stmts (record { store = x.store; state = x.now })) choices ≡ meaning.ran events end []
  pub moves : moves events ≡ moved
  pub runs : ran b (piece x) (environment x.store x.now x.old) moved ≡ ends
  pub typed : is_typed (locals ++ (piece x).locals) (piece x).stmts ≡ true

-- with these values of the variables, and in this state
abbrev pub Goes : Bound → Example → List Choice → List Event → List boogie.BChoice → List Value → State → Type 0
Goes b x choices events moved store now =
    Ends b x choices events (meaning.Goes (record { store = store; state = now })) moved (run.Done (environment store now x.old) [])

-- at the same label
abbrev pub Fails : Bound → Example → List Choice → List Event → List boogie.BChoice → Pos → Pos → Kind → Type 0
Fails b x choices events moved at part kind =
    let l : Label = record { at = at; part = part; kind = kind } in Ends b x choices events (meaning.Fails l) moved (run.Stops (run.Failed l) [])

abbrev pub Blocks : Bound → Example → List Choice → List Event → List boogie.BChoice → Type 0
Blocks b x choices events moved = Ends b x choices events meaning.Blocked moved (run.Stops run.Blocked [])

-- ---- states, and the moves of a heap and contents

abbrev pub key_P : ℕ → Key
key_P x = part.Ref x ∷ []

abbrev pub quarter : Fraction
quarter = record { num = pos 1; den = 4 }

-- by the values of f and h, what Z contains, and what instances of P contain; those of L contain nothing
abbrev pub memo : List (ℕ × ℕ) → List (ℕ × ℕ) → List Content → List (ℕ × Content) → Memo
memo f h z p = record {
  heap =
      (record { default = v.Int (pos 0); entries = map (λ (e : ℕ × ℕ). (e.0, v.Int (pos e.1))) f }) ∷
      (record { default = v.Ref 0; entries = map (λ (e : ℕ × ℕ). (e.0, v.Ref e.1)) h }) ∷ [];
  content = known (map (λ (c : Content). ([], c)) z) ∷ known (map (λ (e : ℕ × Content). (key_P e.0, e.1)) p) ∷ known [] ∷ [];
}

-- and by what is held of them
abbrev pub state : Memo → List (ℕ × Fraction) → List (ℕ × Fraction) → List Fraction → List (ℕ × Fraction) → State
state m f h z p = record {
  heap = m.heap;
  content = m.content;
  mask = held f ∷ held h ∷ [];
  amount = held (map (λ (q : Fraction). ([], q)) z) ∷ held (map (λ (e : ℕ × Fraction). (key_P e.0, e.1)) p) ∷ held [] ∷ [];
}

abbrev pub entry : ℕ → boogie.BScalar → boogie.Entry
entry r x = record { key = part.Ref r ∷ []; value = x }

-- an instance of Z has the key 0
abbrev pub moved_memo : List (ℕ × ℕ) → List (ℕ × ℕ) → List Content → List (ℕ × Content) → List boogie.BChoice
moved_memo f h z p =
    boogie.Entries (map (λ (e : ℕ × ℕ). entry e.0 (boogie.Int (pos e.1))) f) ∷
    boogie.Entries (map (λ (e : ℕ × ℕ). entry e.0 (boogie.Ref e.1)) h) ∷
    boogie.Entries (map (λ (c : Content). record { key = part.Int (pos 0) ∷ []; value = boogie.Snap c }) z) ∷
    boogie.Entries (map (λ (e : ℕ × Content). entry e.0 (boogie.Snap e.1)) p) ∷ boogie.Entries [] ∷ []

-- the values of x, y, n and k
abbrev pub store : ℕ → ℕ → ℕ → ℕ → List Value
store x y n k = v.Ref x ∷ v.Ref y ∷ v.Int (pos n) ∷ v.Int (pos k) ∷ []

-- ---- trees

abbrev pub all_of_x_f : Pos → t.Assertion
all_of_x_f at = t.Acc (t.Var 0) 0 (t.Is all) at

-- #1.f was this, and of it nothing was held
abbrev pub before : ℕ → State
before n = state (memo ((1, n) ∷ []) [] [] []) ((3, half_held) ∷ []) [] [] []

-- ---- a call whose targets are among its arguments: `n, x := next(n, x)`

-- x is #1, x.f is 5, and so much is held of it
abbrev pub calling : ℕ → List (ℕ × Fraction) → Example
calling n held_f = record {
  stmts = s.stmts (s.Call at_13_3 (2 ∷ 0 ∷ []) 0 (t.more (t.Var 2) (t.more (t.Var 0) t.none)) ∷ []);
  store = store 1 2 n 0;
  now = state (memo ((1, 5) ∷ (2, 9) ∷ []) ((2, 1) ∷ []) [] ((2, leaf_int (pos 8)) ∷ [])) held_f ((2, write) ∷ []) [] ((2, write) ∷ []);
  old = before 6;
}

-- x.f gets this value, and what is held stays
abbrev pub after_call : ℕ → Memo
after_call n = memo ((1, n) ∷ (2, 7) ∷ []) ((1, 2) ∷ (2, 1) ∷ []) (leaf_int (pos 3) ∷ []) ((1, leaf_int (pos 4)) ∷ (2, leaf_int (pos 8)) ∷ [])

abbrev pub call_choices : ℕ → ℕ → List Choice
call_choices n r =
    choice.Filled (memo ((1, n) ∷ (2, 7) ∷ []) ((1, 2) ∷ (2, 3) ∷ []) (leaf_int (pos 3) ∷ []) ((1, leaf_int (pos 4)) ∷ (2, leaf_int (pos 1)) ∷ [])) ∷
    choice.Took (v.Int (pos r)) ∷ choice.Took (v.Ref 2) ∷ []

abbrev pub call_events : ℕ → ℕ → List Event
call_events n r = event.Whole (after_call n) ∷ event.Took (v.Int (pos r)) ∷ event.Took (v.Ref 2) ∷ []

abbrev pub call_moves : ℕ → ℕ → List boogie.BChoice
call_moves n r =
    moved_memo ((1, n) ∷ (2, 7) ∷ []) ((1, 2) ∷ (2, 1) ∷ []) (leaf_int (pos 3) ∷ []) ((1, leaf_int (pos 4)) ∷ (2, leaf_int (pos 8)) ∷ []) ++
    (boogie.Value (boogie.Int (pos r)) ∷ boogie.Value (boogie.Ref 2) ∷ [])

-- ---- a loop whose body calls
--
--   while (n < k)
--     invariant acc(x.f)
--     invariant x.f > n
--   {
--     n, y := next(n, x)
--   }

abbrev pub n_below_k : t.Expr
n_below_k = t.Bin op.Lt (t.Var 2) (t.Var 3) at_13_12

abbrev pub calls_in_turns : s.Stmt
calls_in_turns =
    s.While (s.loop at_13_3 n_below_k (all_of_x_f at_14_21 ∷ t.Fact (t.Bin op.Gt (f_of (t.Var 0) at_15_17) (t.Var 2) at_15_19) at_15_15 ∷ [])
    (s.stmts (s.Call at_17_5 (2 ∷ 1 ∷ []) 0 (t.more (t.Var 2) (t.more (t.Var 0) t.none)) ∷ [])) at_16_3 (1 ∷ 2 ∷ []))

-- x is #1, x.f is 5, and all of it is held
abbrev pub turning : Example
turning = record {
  stmts = s.stmts (calls_in_turns ∷ []);
  store = store 1 2 3 5;
  now = state (memo ((1, 5) ∷ (2, 9) ∷ []) ((2, 1) ∷ []) [] []) ((1, write) ∷ []) ((2, write) ∷ []) [] [];
  old = before 6;
}

-- before the loop x.f gets this value, and y and n get these
abbrev pub head_choices : ℕ → ℤ → Truth → List Choice
head_choices f n turns =
    choice.Filled (memo ((1, f) ∷ []) [] [] []) ∷ choice.Took (v.Ref 3) ∷ choice.Took (v.Int n) ∷ choice.Branch turns ∷ []

abbrev pub head_events : ℕ → ℤ → Truth → List Event
head_events f n turns =
    event.Whole (memo ((1, f) ∷ []) ((2, 1) ∷ []) [] []) ∷ event.Took (v.Ref 3) ∷ event.Took (v.Int n) ∷ event.Branch turns ∷ []

abbrev pub head_moves : ℕ → ℤ → Truth → List boogie.BChoice
head_moves f n turns =
    moved_memo ((1, f) ∷ []) ((2, 1) ∷ []) [] [] ++ (boogie.Value (boogie.Ref 3) ∷ boogie.Value (boogie.Int n) ∷ boogie.Pick turns ∷ [])

-- in a turn x.f has the first value, and behind the call the second; the call answers r and #1
abbrev pub turn_choices : List (ℕ × ℕ) → List (ℕ × ℕ) → ℕ → List Choice
turn_choices f g r =
    choice.Filled (memo f ((1, 3) ∷ []) [] []) ∷ choice.Filled (memo g [] [] ((1, leaf_int (pos 4)) ∷ [])) ∷
    choice.Took (v.Int (pos r)) ∷ choice.Took (v.Ref 1) ∷ []

abbrev pub turn_events : List (ℕ × ℕ) → List (ℕ × ℕ) → ℕ → List Event
turn_events f g r =
    event.Whole (memo f ((1, 3) ∷ []) [] []) ∷ event.Whole (memo g [] [] ((1, leaf_int (pos 4)) ∷ [])) ∷
    event.Took (v.Int (pos r)) ∷ event.Took (v.Ref 1) ∷ []

abbrev pub turn_moves : List (ℕ × ℕ) → List (ℕ × ℕ) → ℕ → List boogie.BChoice
turn_moves f g r =
    moved_memo f ((1, 3) ∷ []) [] [] ++ moved_memo g [] [] ((1, leaf_int (pos 4)) ∷ []) ++
    (boogie.Value (boogie.Int (pos r)) ∷ boogie.Value (boogie.Ref 1) ∷ [])

-- ---- what is held besides the invariant
--
--   while (n < k)
--     invariant acc(x.f)
--   {
--     x.h := y
--   }
--   x.h := y

-- x.f and x.h are held
abbrev pub keeping : ℕ → Example
keeping n = record {
  stmts = s.stmts (s.While (s.loop at_13_3 n_below_k (all_of_x_f at_14_21 ∷ [])
      (s.stmts (s.Write at_16_5 (t.Var 0) 1 at_16_7 (t.Var 1) ∷ [])) at_15_3 []) ∷ s.Write at_18_3 (t.Var 0) 1 at_18_5 (t.Var 1) ∷ []);
  store = store 1 2 n 5;
  now = state (memo ((1, 5) ∷ []) ((1, 4) ∷ []) [] []) ((1, write) ∷ []) ((1, write) ∷ []) [] [];
  old = before 6;
}

-- ---- fold by half, twice
--
--   fold acc(P(x), 1/2)
--   exhale acc(x.f, 1/2)
--   inhale acc(x.f, 1/2)
--   fold acc(P(x), 1/2)

abbrev pub half_of_P : Pos → Pos → Pos → s.Stmt
half_of_P at name slash = s.Fold (record { at = at; predicate = 1; args = t.more (t.Var 0) t.none; amount = half slash; place = name })

abbrev pub half_of_x_f : Pos → Pos → t.Assertion
half_of_x_f name slash = t.Acc (t.Var 0) 0 (t.Is (half slash)) name

-- x is #1, and x.f is 5
abbrev pub folding : Example
folding = record {
  stmts = s.stmts (half_of_P at_13_3 at_13_12 at_13_19 ∷ s.Exhale at_14_3 (half_of_x_f at_14_16 at_14_20) ∷
      s.Inhale at_15_3 (half_of_x_f at_15_16 at_15_20) ∷ half_of_P at_16_3 at_16_12 at_16_19 ∷ []);
  store = store 1 2 3 5;
  now = state (memo ((1, 5) ∷ []) [] [] ((1, leaf_int (pos 3)) ∷ (2, leaf_int (pos 3)) ∷ [])) ((1, write) ∷ []) [] [] ((2, write) ∷ []);
  old = before 6;
}

-- between the two x.f gets this value; all else is kept, or nothing of it was held
abbrev pub folded : ℕ → Memo
folded n = memo ((1, n) ∷ []) [] [] ((1, leaf_int (pos 5)) ∷ (2, leaf_int (pos 3)) ∷ [])

abbrev pub folded_moves : ℕ → List boogie.BChoice
folded_moves n = moved_memo ((1, n) ∷ []) [] [] ((1, leaf_int (pos 5)) ∷ (2, leaf_int (pos 3)) ∷ [])

-- ---- a new object: `x := new(h, f)`

-- The variables of these numbers are in scope. x is #1, and y is #7. #2.h is #3 and held, #1.h is #6 and is not, and of #5.f some is
-- held.
abbrev pub creating : List ℕ → Example
creating refs = record {
  stmts = s.stmts (s.New at_13_3 0 (1 ∷ 0 ∷ []) refs ∷ []);
  store = store 1 7 3 5;
  now = state (memo ((5, 4) ∷ []) ((1, 6) ∷ (2, 3) ∷ []) [] []) ((5, quarter) ∷ []) ((2, half_held) ∷ []) [] [];
  old = before 6;
}

abbrev pub created_choices : ℕ → List Choice
created_choices r = choice.Fresh r ∷ choice.Took (v.Ref 1) ∷ choice.Took (v.Int (pos 9)) ∷ []

abbrev pub created_events : ℕ → List Event
created_events r = event.Fresh r ∷ event.Took (v.Ref 1) ∷ event.Took (v.Int (pos 9)) ∷ []

abbrev pub created_moves : ℕ → List boogie.BChoice
created_moves r = boogie.Value (boogie.Ref r) ∷ boogie.Value (boogie.Ref 1) ∷ boogie.Value (boogie.Int (pos 9)) ∷ []

-- the object is #6 or #7
abbrev pub created : ℕ → State
created r =
    state (memo ((5, 4) ∷ (r, 9) ∷ []) ((1, 6) ∷ (2, 3) ∷ (r, 1) ∷ []) [] []) ((5, quarter) ∷ (r, write) ∷ []) ((2, half_held) ∷ (r, write) ∷ []) [] []

abbrev pub BlocksAt : Bound → List ℕ → ℕ → Type 0
BlocksAt b refs r = Blocks b (creating refs) (choice.Fresh r ∷ []) (event.Fresh r ∷ []) (boogie.Value (boogie.Ref r) ∷ [])

-- ---- fields of two types
--
--   x.h := y
--   x.h.f := n + x.f
--   k := y.f

-- x is #1, x.f is 5, and x.h is held
abbrev pub writing : ℕ → List (ℕ × Fraction) → Example
writing y held_f = record {
  stmts = s.stmts (s.Write at_13_3 (t.Var 0) 1 at_13_5 (t.Var 1) ∷
      s.Write at_14_3 (x_h at_14_5) 0 at_14_7 (t.Bin op.Add (t.Var 2) (f_of (t.Var 0) at_14_18) at_14_14) ∷
      s.Assign at_15_3 3 (f_of (t.Var 1) at_15_10) ∷ []);
  store = store 1 y 3 0;
  now = state (memo ((1, 5) ∷ []) [] [] []) held_f ((1, write) ∷ []) [] [];
  old = before 6;
}

-- `x.h.f := y.f`, where x.h is null
abbrev pub writing_null : List (ℕ × Fraction) → Example
writing_null held_f = record {
  stmts = s.stmts (s.Write at_13_3 (x_h at_13_5) 0 at_13_7 (f_of (t.Var 1) at_13_14) ∷ []);
  store = store 1 2 3 0;
  now = state (memo ((1, 5) ∷ []) [] [] []) held_f ((1, write) ∷ []) [] [];
  old = before 6;
}

-- ---- a predicate without parameters
--
--   fold Z()
--   unfold acc(Z(), 1/2)

-- P(null) contains 5, and so much of it is held
abbrev pub closing : Fraction → Example
closing q = record {
  stmts = s.stmts (s.Fold (record { at = at_13_3; predicate = 0; args = t.none; amount = all; place = at_13_8 }) ∷
      s.Unfold (record { at = at_14_3; predicate = 0; args = t.none; amount = half at_14_20; place = at_14_14 }) ∷ []);
  store = store 1 2 3 0;
  now = state (memo [] [] [] ((0, leaf_int (pos 5)) ∷ [])) [] [] [] ((0, q) ∷ []);
  old = before 6;
}

abbrev pub closed : State
closed =
    state (memo [] [] (content.Pair (leaf_int (pos 5)) content.Unit ∷ []) ((0, leaf_int (pos 5)) ∷ [])) [] [] (half_held ∷ [])
    ((0, record { num = pos 3; den = 4 }) ∷ [])

-- ---- assertions of each form
--
--   exhale acc(x.f, wildcard) && x.f > n
--   inhale n > 3 ? acc(P(x), 1/2) : acc(y.h, wildcard)
--   assert n > 3 ==> acc(P(x), 1/2)
--   exhale n > 3 ==> acc(P(x), 1/4)

abbrev pub part_of_P : t.Expr → Pos → t.Assertion
part_of_P q name = t.Inst 1 (t.more (t.Var 0) t.none) (t.Is q) name

-- x is #1, x.f is 5, and so much is held of it
abbrev pub asserting : ℕ → List (ℕ × Fraction) → Example
asserting n held_f = record {
  stmts = s.stmts (s.Exhale at_13_3 (t.And (t.Acc (t.Var 0) 0 t.Wildcard at_13_16) (t.Fact (t.Bin op.Gt (f_of (t.Var 0) at_13_34) (t.Var 2) at_13_36) at_13_32)) ∷
      s.Inhale at_14_3 (t.ChooseAssertion (above (t.Var 2) 3 at_14_12) (part_of_P (half at_14_29) at_14_22) (t.Acc (t.Var 1) 1 t.Wildcard at_14_41)) ∷
      s.Assert at_15_3 (t.Implies (above (t.Var 2) 3 at_15_12) (part_of_P (half at_15_31) at_15_24)) ∷
      s.Exhale at_16_3 (t.Implies (above (t.Var 2) 3 at_16_12) (part_of_P (t.Bin op.Divide (int 1) (int 4) at_16_31) at_16_24)) ∷ []);
  store = store 1 2 n 0;
  now = state (memo ((1, 5) ∷ []) [] [] ((1, leaf_int (pos 3)) ∷ [])) held_f [] [] [];
  old = before 6;
}

-- the second heap and contents keep what P(#1) contains, or what y.h is, by which of them is held
abbrev pub asserted_choices : Fraction → List Choice → List Choice
asserted_choices q more =
    choice.Amount q ∷ choice.Filled (memo ((1, 9) ∷ (2, 9) ∷ []) ((2, 1) ∷ []) [] ((1, leaf_int (pos 8)) ∷ [])) ∷ (more ++
    (choice.Filled (memo ((2, 3) ∷ []) ((2, 5) ∷ []) (leaf_int (pos 6) ∷ []) ((2, leaf_int (pos 6)) ∷ [])) ∷ []))

abbrev pub asserted_memo : Memo
asserted_memo = memo ((1, 5) ∷ (2, 9) ∷ []) ((2, 1) ∷ []) [] ((1, leaf_int (pos 8)) ∷ [])

abbrev pub asserted_moves : List boogie.BChoice
asserted_moves =
    (boogie.Value (boogie.Real quarter) ∷ []) ++ moved_memo ((1, 5) ∷ (2, 9) ∷ []) ((2, 1) ∷ []) [] ((1, leaf_int (pos 8)) ∷ [])

abbrev pub kept_P : Memo
kept_P = memo ((1, 5) ∷ (2, 3) ∷ []) ((2, 5) ∷ []) (leaf_int (pos 6) ∷ []) ((1, leaf_int (pos 8)) ∷ (2, leaf_int (pos 6)) ∷ [])

abbrev pub kept_h : Memo
kept_h = memo ((1, 5) ∷ (2, 3) ∷ []) ((2, 1) ∷ []) (leaf_int (pos 6) ∷ []) ((2, leaf_int (pos 6)) ∷ [])

abbrev pub third : Fraction
third = record { num = pos 1; den = 3 }

-- ---- two blocks, and the old state
--
--   if (x.f > n) {
--     exhale acc(x.f, 1/2)
--   } else {
--     fold acc(P(x), 1/2)
--   }
--   k := old(x.f) + x.f

-- x is #1, x.f is 5 and was 6, and so much was held of it
abbrev pub choosing : ℕ → List (ℕ × Fraction) → Example
choosing n was_held = record {
  stmts = s.stmts (s.If at_13_3 (t.Bin op.Gt (f_of (t.Var 0) at_13_9) (t.Var 2) at_13_11)
      (s.stmts (s.Exhale at_14_5 (half_of_x_f at_14_18 at_14_22) ∷ [])) (s.stmts (half_of_P at_16_5 at_16_14 at_16_21 ∷ [])) ∷
      s.Assign at_18_3 3 (t.Bin op.Add (t.Old (f_of (t.Var 0) at_18_14)) (f_of (t.Var 0) at_18_21) at_18_17) ∷ []);
  store = store 1 2 n 0;
  now = state (memo ((1, 5) ∷ []) [] [] []) ((1, write) ∷ []) [] [] [];
  old = state (memo ((1, 6) ∷ []) [] [] []) was_held [] [] [];
}

abbrev pub chosen_memo : Memo
chosen_memo = memo ((1, 5) ∷ (2, 8) ∷ []) ((1, 1) ∷ []) [] []

abbrev pub chosen_moves : List boogie.BChoice
chosen_moves = moved_memo ((1, 5) ∷ (2, 8) ∷ []) ((1, 1) ∷ []) [] []

-- ---- an instance is unfolded: `unfold acc(P(x), 1/2)`

-- x.f is 5, so much is held of it and of P(x), which contains this
abbrev pub opening : ℕ → List (ℕ × Fraction) → Fraction → ℕ → Example
opening x held_f q n = record {
  stmts = s.stmts (s.Unfold (record { at = at_13_3; predicate = 1; args = t.more (t.Var 0) t.none; amount = half at_13_21; place = at_13_14 }) ∷ []);
  store = store x 2 3 0;
  now = state (memo ((1, 5) ∷ []) [] [] ((x, leaf_int (pos n)) ∷ [])) held_f [] [] ((x, q) ∷ []);
  old = before 6;
}

abbrev pub three_quarters : Fraction
three_quarters = record { num = pos 3; den = 4 }

-- ---- a loop without an invariant
--
--   while (x.f > n)
--   {
--   }

-- x.f is 5, and all of it is held
abbrev pub circling : ℕ → Example
circling n = record {
  stmts = s.stmts (s.While (s.loop at_13_3 (t.Bin op.Gt (f_of (t.Var 0) at_13_12) (t.Var 2) at_13_14) [] s.skip at_14_3 []) ∷ []);
  store = store 1 2 n 0;
  now = state (memo ((1, 5) ∷ []) [] [] []) ((1, write) ∷ []) [] [] [];
  old = before 6;
}

-- ---- what is produced, and what is read where

-- x.f is this, and so much is held of it
abbrev pub from_x_f : s.Stmt → ℕ → ℤ → ℕ → List (ℕ × Fraction) → Example
from_x_f a x n f held_f = record {
  stmts = s.stmts (a ∷ []);
  store = v.Ref x ∷ v.Ref 2 ∷ v.Int n ∷ v.Int (pos 0) ∷ [];
  now = state (memo ((1, f) ∷ []) [] [] []) held_f [] [] [];
  old = before 6;
}

-- `inhale acc(x.f, n / 2) && x.f > 3`
abbrev pub inhaling : ℕ → ℤ → ℕ → List (ℕ × Fraction) → Example
inhaling =
    from_x_f (s.Inhale at_13_3 (t.And (t.Acc (t.Var 0) 0 (t.Is (t.Bin op.Divide (t.Var 2) (int 2) at_13_21)) at_13_16) (t.Fact (above (f_of (t.Var 0) at_13_31) 3 at_13_33) at_13_29)))

-- `exhale acc(x.f, 1/2) && (acc(x.f, 1/2) && x.f > n)`
abbrev pub exhaling : ℕ → ℤ → ℕ → List (ℕ × Fraction) → Example
exhaling =
    from_x_f (s.Exhale at_13_3 (t.And (half_of_x_f at_13_16 at_13_20)
    (t.And (half_of_x_f at_13_34 at_13_38) (t.Fact (t.Bin op.Gt (f_of (t.Var 0) at_13_47) (t.Var 2) at_13_49) at_13_45))))

-- `fold acc(P(x), n / 2)`
abbrev pub folding_part : ℕ → ℤ → ℕ → List (ℕ × Fraction) → Example
folding_part = from_x_f (s.Fold (record { at = at_13_3; predicate = 1; args = t.more (t.Var 0) t.none; amount = t.Bin op.Divide (t.Var 2) (int 2) at_13_20; place = at_13_12 }))

-- `inhale P(x)`, where so much of it is held
abbrev pub inhaling_P : Fraction → Example
inhaling_P q = record {
  stmts = s.stmts (s.Inhale at_13_3 (part_of_P all at_13_10) ∷ []);
  store = store 1 2 3 0;
  now = state (memo [] [] [] ((1, leaf_int (pos 5)) ∷ [])) [] [] [] ((1, q) ∷ []);
  old = before 6;
}

-- `exhale acc(P(x), wildcard)`, where so much of it is held
abbrev pub exhaling_P : List (ℕ × Fraction) → Example
exhaling_P held_P = record {
  stmts = s.stmts (s.Exhale at_13_3 (t.Inst 1 (t.more (t.Var 0) t.none) t.Wildcard at_13_14) ∷ []);
  store = store 1 2 3 0;
  now = state (memo [] [] [] ((1, leaf_int (pos 5)) ∷ [])) [] [] [] held_P;
  old = before 6;
}

-- `k := n + 1`, where n is the largest number
abbrev pub counting : Example
counting = record {
  stmts = s.stmts (s.Assign at_13_3 3 (t.Bin op.Add (t.Var 2) (int 1) at_13_10) ∷ []);
  store = store 1 2 170141183460469231731687303715884105727 0;
  now = before 5;
  old = before 6;
}

-- ---- `old` among the arguments: `n, x := next(old(x.f) - 2, x)`

-- x.f is 5, and was 6
abbrev pub calling_old : List (ℕ × Fraction) → Example
calling_old was_held = record {
  stmts = s.stmts (s.Call at_13_3 (2 ∷ 0 ∷ []) 0 (t.more (t.Bin op.Sub (t.Old (f_of (t.Var 0) at_13_22)) (int 2) at_13_25) (t.more (t.Var 0) t.none)) ∷ []);
  store = store 1 2 3 0;
  now = state (memo ((1, 5) ∷ (2, 9) ∷ []) ((2, 1) ∷ []) [] ((2, leaf_int (pos 8)) ∷ [])) ((1, write) ∷ []) ((2, write) ∷ []) [] ((2, write) ∷ []);
  old = state (memo ((1, 6) ∷ []) [] [] []) was_held [] [] [];
}

-- ---- a loop in the turn of another
--
--   while (n < k)
--     invariant acc(x.f, 1/2)
--   {
--     while (x.f < n)
--       invariant acc(x.f, 1/2)
--     {
--       n := n - 1
--     }
--     y.f := old(y.f) + k
--   }

abbrev pub inner_loop : s.Stmt
inner_loop =
    s.While (s.loop at_16_5 (t.Bin op.Lt (f_of (t.Var 0) at_16_14) (t.Var 2) at_16_16) (half_of_x_f at_17_23 at_17_27 ∷ [])
    (s.stmts (s.Assign at_19_7 2 (t.Bin op.Sub (t.Var 2) (int 1) at_19_14) ∷ [])) at_18_5 (2 ∷ []))

-- x.f is 5, and y.f was 6
abbrev pub nesting : Example
nesting = record {
  stmts = s.stmts (s.While (s.loop at_13_3 n_below_k (half_of_x_f at_14_21 at_14_25 ∷ []) (s.stmts (inner_loop ∷
      s.Write at_21_5 (t.Var 1) 0 at_21_7 (t.Bin op.Add (t.Old (f_of (t.Var 1) at_21_18)) (t.Var 3) at_21_21) ∷ [])) at_15_3 (2 ∷ [])) ∷ []);
  store = store 1 2 3 5;
  now = state (memo ((1, 5) ∷ (2, 9) ∷ []) [] [] []) ((1, write) ∷ (2, write) ∷ []) [] [] [];
  old = state (memo ((2, 6) ∷ []) [] [] []) ((2, half_held) ∷ []) [] [] [];
}

-- to the branch of the inner loop: x.f keeps its value, and in the turn it is 3, and n is 2; before the inner loop x.f gets 4, and n
abbrev pub nested_choices : List Choice
nested_choices =
    choice.Filled (memo [] [] [] []) ∷ choice.Took (v.Int (pos 2)) ∷ choice.Branch true ∷ choice.Filled (memo ((1, 3) ∷ []) [] [] []) ∷
    choice.Filled (memo ((1, 4) ∷ []) [] [] []) ∷ choice.Took (v.Int (pos 4)) ∷ []

abbrev pub nested_events : List Event
nested_events =
    event.Whole (memo ((1, 5) ∷ (2, 9) ∷ []) [] [] []) ∷ event.Took (v.Int (pos 2)) ∷ event.Branch true ∷ event.Whole (memo ((1, 3) ∷ []) [] [] []) ∷
    event.Whole (memo ((1, 4) ∷ []) [] [] []) ∷ event.Took (v.Int (pos 4)) ∷ []

abbrev pub nested_moves : List boogie.BChoice
nested_moves =
    moved_memo ((1, 5) ∷ (2, 9) ∷ []) [] [] [] ++ (boogie.Value (boogie.Int (pos 2)) ∷ boogie.Pick true ∷ []) ++ moved_memo ((1, 3) ∷ []) [] [] [] ++
    moved_memo ((1, 4) ∷ []) [] [] [] ++ (boogie.Value (boogie.Int (pos 4)) ∷ [])

-- ---- a list
--
--   fold L(x)
--   unfold acc(L(x), 1/2)

abbrev pub folds_L : s.Stmt
folds_L = s.Fold (record { at = at_13_3; predicate = 2; args = t.more (t.Var 0) t.none; amount = all; place = at_13_8 })

abbrev pub opens_half_of_L : s.Stmt
opens_half_of_L = s.Unfold (record { at = at_14_3; predicate = 2; args = t.more (t.Var 0) t.none; amount = half at_14_21; place = at_14_14 })

-- by the values of h, what is held of them, and what is held of instances of L and what these contain
abbrev pub listed : List (ℕ × ℕ) → List (ℕ × Fraction) → List (ℕ × Fraction) → List (ℕ × Content) → State
listed h held_h l c = record {
  heap = (memo [] h [] []).heap;
  content = known [] ∷ known [] ∷ known (map (λ (e : ℕ × Content). (key_P e.0, e.1)) c) ∷ [];
  mask = held [] ∷ held held_h ∷ [];
  amount = held [] ∷ held [] ∷ held (map (λ (e : ℕ × Fraction). (key_P e.0, e.1)) l) ∷ [];
}

-- x is #1
abbrev pub listing : List s.Stmt → State → Example
listing stmts now = record { stmts = s.stmts stmts; store = store 1 2 3 0; now = now; old = before 6 }

abbrev pub last_of_list : Content
last_of_list = content.Pair (leaf_ref 0) content.Unit

abbrev pub two : Fraction
two = record { num = pos 2; den = 1 }

-- ---- units, of this program:
--
--   field h: Ref
--   field f: Int
--   predicate B(x: Ref) { x.f > 0 && acc(x.f) }
--   method down(x: Ref, n: Int) returns (r: Int)
--     requires acc(x.f) && x.f > n
--     ensures acc(x.f) && x.f == old(x.f) - 1
--     ensures r > n
--   {
--     var k: Int := x.f
--     x.f := k - 1
--     r := x.f
--   }
--   method bad(x: Ref) returns (r: Int)
--     ensures x.f > r
--   method worse(x: Ref) returns (r: Int)
--     requires x.f > 0

abbrev pub f_of_x : Pos → t.Expr
f_of_x at = t.Field (t.Var 0) 1 at

abbrev pub body_B : t.Assertion
body_B = t.And (t.Fact (above (f_of_x at_3_25) 0 at_3_27) at_3_23) (t.Acc (t.Var 0) 1 (t.Is all) at_3_40)

abbrev pub down : Method
down = record {
  name = codes "down";
  at = at_4_1;
  name_at = at_4_8;
  names = codes "x" ∷ codes "n" ∷ codes "r" ∷ [];
  params = 2;
  returns = 1;
  vars = ty.Ref ∷ ty.Int ∷ ty.Int ∷ ty.Int ∷ [];
  preconditions = t.And (t.Acc (t.Var 0) 1 (t.Is all) at_5_18) (t.Fact (t.Bin op.Gt (f_of_x at_5_26) (t.Var 1) at_5_28) at_5_24) ∷ [];
  postconditions =
      t.And (t.Acc (t.Var 0) 1 (t.Is all) at_6_17)
      (t.Fact (t.Bin op.Eq (f_of_x at_6_25) (t.Bin op.Sub (t.Old (f_of_x at_6_36)) (int 1) at_6_39) at_6_27) at_6_23) ∷
      t.Fact (t.Bin op.Gt (t.Var 2) (t.Var 1) at_7_13) at_7_11 ∷ [];
  body = Some (record {
    turn = at_8_1;
    stmts = s.stmts (s.Var at_9_3 3 (Some (f_of_x at_9_19)) ∷ s.Write at_10_3 (t.Var 0) 1 at_10_5 (t.Bin op.Sub (t.Var 3) (int 1) at_10_12) ∷
        s.Assign at_11_3 2 (f_of_x at_11_10) ∷ []);
  });
}

abbrev pub bad : Method
bad = record {
  name = codes "bad";
  at = at_13_1;
  name_at = at_13_8;
  names = codes "x" ∷ codes "r" ∷ [];
  params = 1;
  returns = 1;
  vars = ty.Ref ∷ ty.Int ∷ [];
  preconditions = [];
  postconditions = t.Fact (t.Bin op.Gt (f_of_x at_14_13) (t.Var 1) at_14_15) at_14_11 ∷ [];
  body = None;
}

abbrev pub worse : Method
worse = record {
  name = codes "worse";
  at = at_15_1;
  name_at = at_15_8;
  names = codes "x" ∷ codes "r" ∷ [];
  params = 1;
  returns = 1;
  vars = ty.Ref ∷ ty.Int ∷ [];
  preconditions = t.Fact (above (f_of_x at_16_14) 0 at_16_16) at_16_12 ∷ [];
  postconditions = [];
  body = None;
}

abbrev pub units : Program
units = record {
  fields = codes "h" ∷ codes "f" ∷ [];
  layout = record { fields = ty.Ref ∷ ty.Int ∷ []; keys = (ty.Ref ∷ []) ∷ [] };
  predicates = record { name = codes "B"; at = at_3_1; names = codes "x" ∷ []; params = ty.Ref ∷ []; body = Some body_B } ∷ [];
  methods = down ∷ bad ∷ worse ∷ [];
  units = unit.Predicate 0 ∷ unit.Method 0 ∷ unit.Method 1 ∷ unit.Method 2 ∷ [];
}

-- by the values of h and f, and what instances of B contain
abbrev pub memo_of : List (ℕ × ℕ) → List (ℕ × ℕ) → List (ℕ × Content) → Memo
memo_of h f c = record {
  heap =
      (record { default = v.Ref 0; entries = map (λ (e : ℕ × ℕ). (e.0, v.Ref e.1)) h }) ∷
      (record { default = v.Int (pos 0); entries = map (λ (e : ℕ × ℕ). (e.0, v.Int (pos e.1))) f }) ∷ [];
  content = known (map (λ (e : ℕ × Content). (key_P e.0, e.1)) c) ∷ [];
}

abbrev pub many : boogie.BScalar → List (ℕ × boogie.BScalar) → boogie.BValue
many z es = boogie.Many (record { default = z; entries = map (λ (e : ℕ × boogie.BScalar). (key_P e.0, e.1)) es })

-- the same as values of locals, and as moves
abbrev pub values_of : List (ℕ × ℕ) → List (ℕ × ℕ) → List (ℕ × Content) → List boogie.BValue
values_of h f c =
    many (boogie.Ref 0) (map (λ (e : ℕ × ℕ). (e.0, boogie.Ref e.1)) h) ∷ many (boogie.Int (pos 0)) (map (λ (e : ℕ × ℕ). (e.0, boogie.Int (pos e.1))) f) ∷
    many (boogie.Snap content.Unit) (map (λ (e : ℕ × Content). (e.0, boogie.Snap e.1)) c) ∷ []

abbrev pub moves_of_memo : List (ℕ × ℕ) → List (ℕ × ℕ) → List (ℕ × Content) → List boogie.BChoice
moves_of_memo h f c =
    boogie.Entries (map (λ (e : ℕ × ℕ). entry e.0 (boogie.Ref e.1)) h) ∷ boogie.Entries (map (λ (e : ℕ × ℕ). entry e.0 (boogie.Int (pos e.1))) f) ∷
    boogie.Entries (map (λ (e : ℕ × Content). entry e.0 (boogie.Snap e.1)) c) ∷ []

abbrev pub procedure : ℕ → Proc
procedure n = unit_procedure units (slice_index_or units.units n (unit.Method 9))

-- The first locals have these values. Two masks, the amounts and the old state stand behind them, and then the zero maps; all but
-- these hold what is of no matter.
abbrev pub entered : List boogie.BValue → List BType → List boogie.BValue
entered first us = first ++ map stale (take 9 (drop (length first) us)) ++ (zeros ∷ zeros ∷ map stale (drop (length first + 11) us))

-- the end without the locals
abbrev pub bare : run.Run → run.Run
bare (run.Done env cs) = run.Done [] cs
bare (run.Stops why cs) = run.Stops why cs

-- The unit of this number has this end from this opening and on these choices, with these events, and no choice is left; from these
-- values of its first locals and on these moves, which are those of the events, its procedure has that end; and it is well-typed.
pub record UnitEnds (b : Bound) (n : ℕ) (o : Opening) (choices : List Choice) (events : List Event) (end : meaning.Step State) (first : List boogie.BValue) (moved : List boogie.BChoice) (ends : run.Run) : Type 0 where
  pub means : meaning.on (unit_run b units n o) choices ≡ meaning.ran events end []
  pub moves : moves events ≡ moved
  pub runs : bare (brun_proc b (procedure n) (entered first (types_of (procedure n))) moved) ≡ ends
  pub typed : is_typed_proc (procedure n) ≡ true

abbrev pub UnitFails : Bound → ℕ → Opening → List Choice → List Event → List boogie.BValue → List boogie.BChoice → Pos → Pos → Kind → Type 0
UnitFails b n o choices events first moved at part kind =
    let l : Label = record { at = at; part = part; kind = kind } in
    UnitEnds b n o choices events (meaning.Fails l) first moved (run.Stops (run.Failed l) [])

-- x is #1, n is 4, and x.f is this; r has any value
abbrev pub down_opening : ℕ → Opening
down_opening f = record { store = v.Ref 1 ∷ v.Int (pos 4) ∷ v.Int (pos 7) ∷ []; memo = memo_of ((1, 2) ∷ []) ((1, f) ∷ []) ((1, leaf_int (pos 3)) ∷ []) }

abbrev pub down_values : ℕ → List boogie.BValue
down_values f =
    boogie.One (boogie.Ref 1) ∷ boogie.One (boogie.Int (pos 4)) ∷ boogie.One (boogie.Int (pos 7)) ∷
    values_of ((1, 2) ∷ []) ((1, f) ∷ []) ((1, leaf_int (pos 3)) ∷ [])

-- x is this, and r is 4
abbrev pub bad_opening : ℕ → Opening
bad_opening x = record { store = v.Ref x ∷ v.Int (pos 4) ∷ []; memo = memo_of [] ((1, 9) ∷ []) [] }

abbrev pub bad_values : ℕ → List boogie.BValue
bad_values x = boogie.One (boogie.Ref x) ∷ boogie.One (boogie.Int (pos 4)) ∷ values_of [] ((1, 9) ∷ []) []

-- x is this
abbrev pub B_opening : ℕ → Opening
B_opening x = record { store = v.Ref x ∷ []; memo = memo_of [] ((1, 9) ∷ []) [] }

abbrev pub B_values : ℕ → List boogie.BValue
B_values x = boogie.One (boogie.Ref x) ∷ values_of [] ((1, 9) ∷ []) []

-- behind the body x.f is 5, and all of it is held
abbrev pub behind_down : State
behind_down = record {
  heap = (memo_of ((1, 2) ∷ []) ((1, 5) ∷ []) []).heap;
  content = known ((key_P 1, leaf_int (pos 3)) ∷ []) ∷ [];
  mask = held [] ∷ held [] ∷ [];
  amount = held [] ∷ [];
}
