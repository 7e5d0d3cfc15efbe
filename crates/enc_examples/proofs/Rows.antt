-- The worked examples, by computation.
use Rattle.std.proofs.Common.{pos, negsuc, true, false, [], ◌∷◌, ◌++◌, refl}
use Rattle.vb_base.specs.declared.labels.Kind.TheVariants as kind
use Rattle.vb_value.specs.Bound.{Bound, Bounded, Unbounded}
use Rattle.vb_value.specs.Content as content
use Rattle.vb_value.specs.Fraction.{write, reduced}
use Rattle.vb_value.specs.declared.values.Value.TheVariants as v
use Rattle.viper_state.specs.Choice as choice
use Rattle.viper_state.specs.Event as event
use Rattle.viper_meaning.specs.Run as meaning
use Rattle.boogie_tree.specs.Value as boogie
use Rattle.boogie_meaning.specs.Run as run
use Rattle.enc_expr.specs.Worked.{half_held, leaf_int, leaf_ref}
use Rattle.enc_examples.specs.Worked.{at_3_1, at_3_21, at_3_25, at_4_29, at_4_89, at_6_18, at_7_11, at_7_12, at_8_1, at_13_3, at_13_7, at_13_8, at_13_10, at_13_12, at_13_14, at_13_16, at_13_22, at_13_31, at_13_32, at_13_34, at_13_45, at_14_3, at_14_7, at_14_13, at_14_21, at_15_1, at_15_15, at_16_3, at_16_5, at_16_7, at_16_14, at_18_3, at_18_14, at_21_5, at_21_7, Ends, Goes, Fails, Blocks, quarter, memo, state, moved_memo, store, before, calling, after_call, call_choices, call_events, call_moves, turning, head_choices, head_events, head_moves, turn_choices, turn_events, turn_moves, keeping, folding, folded, folded_moves, creating, created_choices, created_events, created_moves, created, BlocksAt, writing, writing_null, closing, closed, asserting, asserted_choices, asserted_memo, asserted_moves, kept_P, kept_h, third, choosing, chosen_memo, chosen_moves, opening, three_quarters, circling, inhaling, exhaling, folding_part, inhaling_P, exhaling_P, counting, calling_old, nesting, nested_choices, nested_events, nested_moves, folds_L, opens_half_of_L, listed, listing, last_of_list, two, memo_of, moves_of_memo, UnitEnds, UnitFails, down_opening, down_values, bad_opening, bad_values, B_opening, B_values, behind_down}
use Rattle.vb_value.specs.Gcd.{gcd}
use Rattle.enc_examples.proofs.SearchLaws.{by_computing, unit_by_computing}

pub a_call_has_its_arguments_goes : (b : Bound) → Goes b (calling 3 ((1, write) ∷ [])) (call_choices 9 4) (call_events 9 4) (call_moves 9 4) (store 2 2 4 0) (state (after_call 9) ((1, write) ∷ []) ((2, write) ∷ []) [] ((2, write) ∷ []))
unfolding reduced gcd
a_call_has_its_arguments_goes Unbounded = by_computing refl refl refl refl
a_call_has_its_arguments_goes Bounded = by_computing refl refl refl refl

pub a_call_has_its_arguments_other_return : (b : Bound) → Blocks b (calling 3 ((1, write) ∷ [])) (call_choices 9 5) (call_events 9 5) (call_moves 9 5)
unfolding reduced gcd
a_call_has_its_arguments_other_return Unbounded = by_computing refl refl refl refl
a_call_has_its_arguments_other_return Bounded = by_computing refl refl refl refl

pub a_call_has_its_arguments_other_old : (b : Bound) → Blocks b (calling 3 ((1, write) ∷ [])) (call_choices 10 4) (call_events 10 4) (call_moves 10 4)
unfolding reduced gcd
a_call_has_its_arguments_other_old Unbounded = by_computing refl refl refl refl
a_call_has_its_arguments_other_old Bounded = by_computing refl refl refl refl

pub a_call_has_its_arguments_precondition : (b : Bound) → Fails b (calling 5 ((1, write) ∷ [])) [] [] [] at_13_3 at_7_12 kind.Fact
unfolding reduced gcd
a_call_has_its_arguments_precondition Unbounded = by_computing refl refl refl refl
a_call_has_its_arguments_precondition Bounded = by_computing refl refl refl refl

pub a_call_has_its_arguments_not_held : (b : Bound) → Fails b (calling 3 ((1, half_held) ∷ [])) [] [] [] at_13_3 at_6_18 kind.Perm
unfolding reduced gcd
a_call_has_its_arguments_not_held Unbounded = by_computing refl refl refl refl
a_call_has_its_arguments_not_held Bounded = by_computing refl refl refl refl

pub a_loop_calls_in_its_turns_well : (b : Bound) → Blocks b turning (head_choices 8 (pos 4) true ++ turn_choices ((1, 6) ∷ (2, 1) ∷ []) ((1, 11) ∷ []) 5) (head_events 8 (pos 4) true ++ turn_events ((1, 6) ∷ (2, 1) ∷ []) ((1, 11) ∷ []) 5) (head_moves 8 (pos 4) true ++ turn_moves ((1, 6) ∷ (2, 1) ∷ []) ((1, 11) ∷ []) 5)
unfolding reduced gcd
a_loop_calls_in_its_turns_well Unbounded = by_computing refl refl refl refl
a_loop_calls_in_its_turns_well Bounded = by_computing refl refl refl refl

pub a_loop_calls_in_its_turns_invariant_is_lost : (b : Bound) → Fails b turning (head_choices 8 (negsuc 0) true ++ turn_choices [] [] 0) (head_events 8 (negsuc 0) true ++ turn_events [] [] 0) (head_moves 8 (negsuc 0) true ++ turn_moves [] [] 0) at_16_3 at_15_15 kind.Fact
unfolding reduced gcd
a_loop_calls_in_its_turns_invariant_is_lost Unbounded = by_computing refl refl refl refl
a_loop_calls_in_its_turns_invariant_is_lost Bounded = by_computing refl refl refl refl

pub a_loop_calls_in_its_turns_behind : (b : Bound) → Goes b turning (head_choices 8 (pos 7) false) (head_events 8 (pos 7) false) (head_moves 8 (pos 7) false) (store 1 3 7 5) (state (memo ((1, 8) ∷ []) ((2, 1) ∷ []) [] []) ((1, write) ∷ []) ((2, write) ∷ []) [] [])
unfolding reduced gcd
a_loop_calls_in_its_turns_behind Unbounded = by_computing refl refl refl refl
a_loop_calls_in_its_turns_behind Bounded = by_computing refl refl refl refl

pub a_loop_calls_in_its_turns_guard_holds : (b : Bound) → Blocks b turning (head_choices 8 (pos 4) false) (head_events 8 (pos 4) false) (head_moves 8 (pos 4) false)
unfolding reduced gcd
a_loop_calls_in_its_turns_guard_holds Unbounded = by_computing refl refl refl refl
a_loop_calls_in_its_turns_guard_holds Bounded = by_computing refl refl refl refl

pub a_turn_holds_its_invariant_alone_turn : (b : Bound) → Fails b (keeping 3) (choice.Filled (memo ((1, 4) ∷ []) ((1, 3) ∷ []) [] []) ∷ choice.Branch true ∷ choice.Filled (memo [] ((1, 3) ∷ []) [] []) ∷ []) (event.Whole (memo ((1, 4) ∷ []) ((1, 4) ∷ []) [] []) ∷ event.Branch true ∷ event.Whole (memo [] ((1, 3) ∷ []) [] []) ∷ []) (moved_memo ((1, 4) ∷ []) ((1, 4) ∷ []) [] [] ++ (boogie.Pick true ∷ []) ++ moved_memo [] ((1, 3) ∷ []) [] []) at_16_5 at_16_7 kind.Perm
unfolding reduced gcd
a_turn_holds_its_invariant_alone_turn Unbounded = by_computing refl refl refl refl
a_turn_holds_its_invariant_alone_turn Bounded = by_computing refl refl refl refl

pub a_turn_holds_its_invariant_alone_behind : (b : Bound) → Goes b (keeping 5) (choice.Filled (memo ((1, 4) ∷ []) ((1, 3) ∷ []) [] []) ∷ choice.Branch false ∷ []) (event.Whole (memo ((1, 4) ∷ []) ((1, 4) ∷ []) [] []) ∷ event.Branch false ∷ []) (moved_memo ((1, 4) ∷ []) ((1, 4) ∷ []) [] [] ++ (boogie.Pick false ∷ [])) (store 1 2 5 5) (state (memo ((1, 4) ∷ []) ((1, 2) ∷ []) [] []) ((1, write) ∷ []) ((1, write) ∷ []) [] [])
unfolding reduced gcd
a_turn_holds_its_invariant_alone_behind Unbounded = by_computing refl refl refl refl
a_turn_holds_its_invariant_alone_behind Bounded = by_computing refl refl refl refl

pub a_half_is_folded_twice_same : (b : Bound) → Goes b folding (choice.Filled (memo ((1, 5) ∷ []) [] [] []) ∷ []) (event.Whole (folded 5) ∷ []) (folded_moves 5) (store 1 2 3 5) (state (folded 5) [] [] [] ((1, write) ∷ (2, write) ∷ []))
unfolding reduced gcd
a_half_is_folded_twice_same Unbounded = by_computing refl refl refl refl
a_half_is_folded_twice_same Bounded = by_computing refl refl refl refl

pub a_half_is_folded_twice_other : (b : Bound) → Blocks b folding (choice.Filled (memo ((1, 7) ∷ []) [] [] []) ∷ []) (event.Whole (folded 7) ∷ []) (folded_moves 7)
unfolding reduced gcd
a_half_is_folded_twice_other Unbounded = by_computing refl refl refl refl
a_half_is_folded_twice_other Bounded = by_computing refl refl refl refl

pub a_new_object_is_not_known_null : (b : Bound) → BlocksAt b (0 ∷ 1 ∷ []) 0
unfolding reduced gcd
a_new_object_is_not_known_null Unbounded = by_computing refl refl refl refl
a_new_object_is_not_known_null Bounded = by_computing refl refl refl refl

pub a_new_object_is_not_known_in_scope : (b : Bound) → BlocksAt b (0 ∷ 1 ∷ []) 7
unfolding reduced gcd
a_new_object_is_not_known_in_scope Unbounded = by_computing refl refl refl refl
a_new_object_is_not_known_in_scope Bounded = by_computing refl refl refl refl

pub a_new_object_is_not_known_out_of_scope : (b : Bound) → Goes b (creating (0 ∷ [])) (created_choices 7) (created_events 7) (created_moves 7) (store 7 7 3 5) (created 7)
unfolding reduced gcd
a_new_object_is_not_known_out_of_scope Unbounded = by_computing refl refl refl refl
a_new_object_is_not_known_out_of_scope Bounded = by_computing refl refl refl refl

pub a_new_object_is_not_known_held : (b : Bound) → BlocksAt b (0 ∷ 1 ∷ []) 5
unfolding reduced gcd
a_new_object_is_not_known_held Unbounded = by_computing refl refl refl refl
a_new_object_is_not_known_held Bounded = by_computing refl refl refl refl

pub a_new_object_is_not_known_stands_where_held : (b : Bound) → BlocksAt b (0 ∷ 1 ∷ []) 3
unfolding reduced gcd
a_new_object_is_not_known_stands_where_held Unbounded = by_computing refl refl refl refl
a_new_object_is_not_known_stands_where_held Bounded = by_computing refl refl refl refl

pub a_new_object_is_not_known_stands_elsewhere : (b : Bound) → Goes b (creating (0 ∷ 1 ∷ [])) (created_choices 6) (created_events 6) (created_moves 6) (store 6 7 3 5) (created 6)
unfolding reduced gcd
a_new_object_is_not_known_stands_elsewhere Unbounded = by_computing refl refl refl refl
a_new_object_is_not_known_stands_elsewhere Bounded = by_computing refl refl refl refl

pub two_fields_are_written_goes : (b : Bound) → Goes b (writing 2 ((1, half_held) ∷ (2, write) ∷ [])) [] [] [] (store 1 2 3 8) (state (memo ((1, 5) ∷ (2, 8) ∷ []) ((1, 2) ∷ []) [] []) ((1, half_held) ∷ (2, write) ∷ []) ((1, write) ∷ []) [] [])
unfolding reduced gcd
two_fields_are_written_goes Unbounded = by_computing refl refl refl refl
two_fields_are_written_goes Bounded = by_computing refl refl refl refl

pub two_fields_are_written_of_itself : (b : Bound) → Goes b (writing 1 ((1, write) ∷ [])) [] [] [] (store 1 1 3 8) (state (memo ((1, 8) ∷ []) ((1, 1) ∷ []) [] []) ((1, write) ∷ []) ((1, write) ∷ []) [] [])
unfolding reduced gcd
two_fields_are_written_of_itself Unbounded = by_computing refl refl refl refl
two_fields_are_written_of_itself Bounded = by_computing refl refl refl refl

pub two_fields_are_written_not_wholly : (b : Bound) → Fails b (writing 2 ((1, half_held) ∷ (2, half_held) ∷ [])) [] [] [] at_14_3 at_14_7 kind.Perm
unfolding reduced gcd
two_fields_are_written_not_wholly Unbounded = by_computing refl refl refl refl
two_fields_are_written_not_wholly Bounded = by_computing refl refl refl refl

pub two_fields_are_written_null : (b : Bound) → Fails b (writing 0 ((1, half_held) ∷ [])) [] [] [] at_14_3 at_14_7 kind.Null
unfolding reduced gcd
two_fields_are_written_null Unbounded = by_computing refl refl refl refl
two_fields_are_written_null Bounded = by_computing refl refl refl refl

pub two_fields_are_written_value_first : (b : Bound) → Fails b (writing_null []) [] [] [] at_13_3 at_13_14 kind.Perm
unfolding reduced gcd
two_fields_are_written_value_first Unbounded = by_computing refl refl refl refl
two_fields_are_written_value_first Bounded = by_computing refl refl refl refl

pub two_fields_are_written_then_null : (b : Bound) → Fails b (writing_null ((2, half_held) ∷ [])) [] [] [] at_13_3 at_13_7 kind.Null
unfolding reduced gcd
two_fields_are_written_then_null Unbounded = by_computing refl refl refl refl
two_fields_are_written_then_null Bounded = by_computing refl refl refl refl

pub a_predicate_without_parameters_goes : (b : Bound) → Goes b (closing write) [] (event.Split (leaf_int (pos 5)) content.Unit ∷ []) (boogie.Value (boogie.Snap (leaf_int (pos 5))) ∷ boogie.Value (boogie.Snap content.Unit) ∷ []) (store 1 2 3 0) closed
unfolding reduced gcd
a_predicate_without_parameters_goes Unbounded = by_computing refl refl refl refl
a_predicate_without_parameters_goes Bounded = by_computing refl refl refl refl

pub a_predicate_without_parameters_not_held : (b : Bound) → Fails b (closing quarter) [] [] [] at_13_3 at_3_21 kind.Perm
unfolding reduced gcd
a_predicate_without_parameters_not_held Unbounded = by_computing refl refl refl refl
a_predicate_without_parameters_not_held Bounded = by_computing refl refl refl refl

pub assertions_of_each_form_instance : (b : Bound) → Goes b (asserting 4 ((1, half_held) ∷ [])) (asserted_choices quarter []) (event.Wild quarter ∷ event.Whole asserted_memo ∷ event.Whole kept_P ∷ []) (asserted_moves ++ moved_memo ((1, 5) ∷ (2, 3) ∷ []) ((2, 5) ∷ []) (leaf_int (pos 6) ∷ []) ((1, leaf_int (pos 8)) ∷ (2, leaf_int (pos 6)) ∷ [])) (store 1 2 4 0) (state kept_P ((1, quarter) ∷ []) [] [] ((1, quarter) ∷ []))
unfolding reduced gcd
assertions_of_each_form_instance Unbounded = by_computing refl refl refl refl
assertions_of_each_form_instance Bounded = by_computing refl refl refl refl

pub assertions_of_each_form_place : (b : Bound) → Goes b (asserting 3 ((1, half_held) ∷ [])) (asserted_choices quarter (choice.Amount third ∷ [])) (event.Wild quarter ∷ event.Whole asserted_memo ∷ event.Wild third ∷ event.Whole kept_h ∷ []) (asserted_moves ++ (boogie.Value (boogie.Real third) ∷ []) ++ moved_memo ((1, 5) ∷ (2, 3) ∷ []) ((2, 1) ∷ []) (leaf_int (pos 6) ∷ []) ((2, leaf_int (pos 6)) ∷ [])) (store 1 2 3 0) (state kept_h ((1, quarter) ∷ []) ((2, third) ∷ []) [] [])
unfolding reduced gcd
assertions_of_each_form_place Unbounded = by_computing refl refl refl refl
assertions_of_each_form_place Bounded = by_computing refl refl refl refl

pub assertions_of_each_form_all_of_it : (b : Bound) → Blocks b (asserting 4 ((1, half_held) ∷ [])) (choice.Amount half_held ∷ []) (event.Wild half_held ∷ []) (boogie.Value (boogie.Real half_held) ∷ [])
unfolding reduced gcd
assertions_of_each_form_all_of_it Unbounded = by_computing refl refl refl refl
assertions_of_each_form_all_of_it Bounded = by_computing refl refl refl refl

pub assertions_of_each_form_nothing_held : (b : Bound) → Fails b (asserting 4 []) [] [] [] at_13_3 at_13_16 kind.Perm
unfolding reduced gcd
assertions_of_each_form_nothing_held Unbounded = by_computing refl refl refl refl
assertions_of_each_form_nothing_held Bounded = by_computing refl refl refl refl

pub assertions_of_each_form_not_above : (b : Bound) → Fails b (asserting 5 ((1, half_held) ∷ [])) (choice.Amount quarter ∷ []) (event.Wild quarter ∷ []) (boogie.Value (boogie.Real quarter) ∷ []) at_13_3 at_13_32 kind.Fact
unfolding reduced gcd
assertions_of_each_form_not_above Unbounded = by_computing refl refl refl refl
assertions_of_each_form_not_above Bounded = by_computing refl refl refl refl

pub one_of_two_blocks_runs_first : (b : Bound) → Goes b (choosing 4 ((1, half_held) ∷ [])) (choice.Filled (memo ((1, 9) ∷ (2, 8) ∷ []) ((1, 1) ∷ []) [] []) ∷ []) (event.Whole chosen_memo ∷ []) chosen_moves (store 1 2 4 11) (state chosen_memo ((1, half_held) ∷ []) [] [] [])
unfolding reduced gcd
one_of_two_blocks_runs_first Unbounded = by_computing refl refl refl refl
one_of_two_blocks_runs_first Bounded = by_computing refl refl refl refl

pub one_of_two_blocks_runs_second : (b : Bound) → Goes b (choosing 5 ((1, half_held) ∷ [])) [] [] [] (store 1 2 5 11) (state (memo ((1, 5) ∷ []) [] [] ((1, leaf_int (pos 5)) ∷ [])) ((1, half_held) ∷ []) [] [] ((1, half_held) ∷ []))
unfolding reduced gcd
one_of_two_blocks_runs_second Unbounded = by_computing refl refl refl refl
one_of_two_blocks_runs_second Bounded = by_computing refl refl refl refl

pub one_of_two_blocks_runs_old_not_held : (b : Bound) → Fails b (choosing 5 []) [] [] [] at_18_3 at_18_14 kind.Perm
unfolding reduced gcd
one_of_two_blocks_runs_old_not_held Unbounded = by_computing refl refl refl refl
one_of_two_blocks_runs_old_not_held Bounded = by_computing refl refl refl refl

pub a_half_is_unfolded_nothing_held : (b : Bound) → Goes b (opening 1 [] write 7) [] (event.Leaf (v.Int (pos 7)) ∷ []) (boogie.Value (boogie.Int (pos 7)) ∷ []) (store 1 2 3 0) (state (memo ((1, 7) ∷ []) [] [] ((1, leaf_int (pos 7)) ∷ [])) ((1, half_held) ∷ []) [] [] ((1, half_held) ∷ []))
unfolding reduced gcd
a_half_is_unfolded_nothing_held Unbounded = by_computing refl refl refl refl
a_half_is_unfolded_nothing_held Bounded = by_computing refl refl refl refl

pub a_half_is_unfolded_same_value : (b : Bound) → Goes b (opening 1 ((1, quarter) ∷ []) write 5) [] (event.Leaf (v.Int (pos 5)) ∷ []) (boogie.Value (boogie.Int (pos 5)) ∷ []) (store 1 2 3 0) (state (memo ((1, 5) ∷ []) [] [] ((1, leaf_int (pos 5)) ∷ [])) ((1, three_quarters) ∷ []) [] [] ((1, half_held) ∷ []))
unfolding reduced gcd
a_half_is_unfolded_same_value Unbounded = by_computing refl refl refl refl
a_half_is_unfolded_same_value Bounded = by_computing refl refl refl refl

pub a_half_is_unfolded_other_value : (b : Bound) → Blocks b (opening 1 ((1, quarter) ∷ []) write 7) [] (event.Leaf (v.Int (pos 7)) ∷ []) (boogie.Value (boogie.Int (pos 7)) ∷ [])
unfolding reduced gcd
a_half_is_unfolded_other_value Unbounded = by_computing refl refl refl refl
a_half_is_unfolded_other_value Bounded = by_computing refl refl refl refl

pub a_half_is_unfolded_too_much : (b : Bound) → Blocks b (opening 1 ((1, three_quarters) ∷ []) write 5) [] (event.Leaf (v.Int (pos 5)) ∷ []) (boogie.Value (boogie.Int (pos 5)) ∷ [])
unfolding reduced gcd
a_half_is_unfolded_too_much Unbounded = by_computing refl refl refl refl
a_half_is_unfolded_too_much Bounded = by_computing refl refl refl refl

pub a_half_is_unfolded_of_null : (b : Bound) → Blocks b (opening 0 [] write 5) [] [] []
unfolding reduced gcd
a_half_is_unfolded_of_null Unbounded = by_computing refl refl refl refl
a_half_is_unfolded_of_null Bounded = by_computing refl refl refl refl

pub a_half_is_unfolded_too_little : (b : Bound) → Fails b (opening 1 [] quarter 5) [] [] [] at_13_3 at_13_14 kind.Perm
unfolding reduced gcd
a_half_is_unfolded_too_little Unbounded = by_computing refl refl refl refl
a_half_is_unfolded_too_little Bounded = by_computing refl refl refl refl

pub a_loop_without_an_invariant_turn : (b : Bound) → Fails b (circling 5) (choice.Filled (memo [] [] [] []) ∷ choice.Branch true ∷ choice.Filled (memo ((1, 9) ∷ []) [] [] []) ∷ []) (event.Whole (memo ((1, 5) ∷ []) [] [] []) ∷ event.Branch true ∷ event.Whole (memo ((1, 9) ∷ []) [] [] []) ∷ []) (moved_memo ((1, 5) ∷ []) [] [] [] ++ (boogie.Pick true ∷ []) ++ moved_memo ((1, 9) ∷ []) [] [] []) at_13_3 at_13_12 kind.Perm
unfolding reduced gcd
a_loop_without_an_invariant_turn Unbounded = by_computing refl refl refl refl
a_loop_without_an_invariant_turn Bounded = by_computing refl refl refl refl

pub a_loop_without_an_invariant_behind : (b : Bound) → Goes b (circling 5) (choice.Filled (memo [] [] [] []) ∷ choice.Branch false ∷ []) (event.Whole (memo ((1, 5) ∷ []) [] [] []) ∷ event.Branch false ∷ []) (moved_memo ((1, 5) ∷ []) [] [] [] ++ (boogie.Pick false ∷ [])) (store 1 2 5 0) (state (memo ((1, 5) ∷ []) [] [] []) ((1, write) ∷ []) [] [] [])
unfolding reduced gcd
a_loop_without_an_invariant_behind Unbounded = by_computing refl refl refl refl
a_loop_without_an_invariant_behind Bounded = by_computing refl refl refl refl

pub a_loop_without_an_invariant_goes_on : (b : Bound) → Blocks b (circling 4) (choice.Filled (memo [] [] [] []) ∷ choice.Branch false ∷ []) (event.Whole (memo ((1, 5) ∷ []) [] [] []) ∷ event.Branch false ∷ []) (moved_memo ((1, 5) ∷ []) [] [] [] ++ (boogie.Pick false ∷ []))
unfolding reduced gcd
a_loop_without_an_invariant_goes_on Unbounded = by_computing refl refl refl refl
a_loop_without_an_invariant_goes_on Bounded = by_computing refl refl refl refl

pub what_is_inhaled_goes : (b : Bound) → Goes b (inhaling 1 (pos 1) 5 ((1, quarter) ∷ [])) [] [] [] (store 1 2 1 0) (state (memo ((1, 5) ∷ []) [] [] []) ((1, three_quarters) ∷ []) [] [] [])
unfolding reduced gcd
what_is_inhaled_goes Unbounded = by_computing refl refl refl refl
what_is_inhaled_goes Bounded = by_computing refl refl refl refl

pub what_is_inhaled_is_false : (b : Bound) → Blocks b (inhaling 1 (pos 1) 2 []) [] [] []
unfolding reduced gcd
what_is_inhaled_is_false Unbounded = by_computing refl refl refl refl
what_is_inhaled_is_false Bounded = by_computing refl refl refl refl

pub what_is_inhaled_of_null : (b : Bound) → Blocks b (inhaling 0 (pos 1) 5 []) [] [] []
unfolding reduced gcd
what_is_inhaled_of_null Unbounded = by_computing refl refl refl refl
what_is_inhaled_of_null Bounded = by_computing refl refl refl refl

pub what_is_inhaled_too_much : (b : Bound) → Blocks b (inhaling 1 (pos 1) 5 ((1, three_quarters) ∷ [])) [] [] []
unfolding reduced gcd
what_is_inhaled_too_much Unbounded = by_computing refl refl refl refl
what_is_inhaled_too_much Bounded = by_computing refl refl refl refl

pub what_is_inhaled_nothing : (b : Bound) → Fails b (inhaling 1 (pos 0) 5 []) [] [] [] at_13_3 at_13_31 kind.Perm
unfolding reduced gcd
what_is_inhaled_nothing Unbounded = by_computing refl refl refl refl
what_is_inhaled_nothing Bounded = by_computing refl refl refl refl

pub what_is_inhaled_nothing_of_null : (b : Bound) → Fails b (inhaling 0 (pos 0) 5 []) [] [] [] at_13_3 at_13_31 kind.Null
unfolding reduced gcd
what_is_inhaled_nothing_of_null Unbounded = by_computing refl refl refl refl
what_is_inhaled_nothing_of_null Bounded = by_computing refl refl refl refl

pub what_is_inhaled_negative : (b : Bound) → Fails b (inhaling 1 (negsuc 0) 5 []) [] [] [] at_13_3 at_13_16 kind.Negative
unfolding reduced gcd
what_is_inhaled_negative Unbounded = by_computing refl refl refl refl
what_is_inhaled_negative Bounded = by_computing refl refl refl refl

pub what_is_inhaled_twice : (b : Bound) → Goes b (inhaling_P write) [] [] [] (store 1 2 3 0) (state (memo [] [] [] ((1, leaf_int (pos 5)) ∷ [])) [] [] [] ((1, two) ∷ []))
unfolding reduced gcd
what_is_inhaled_twice Unbounded = by_computing refl refl refl refl
what_is_inhaled_twice Bounded = by_computing refl refl refl refl

pub what_is_exhaled_goes : (b : Bound) → Goes b (exhaling 1 (pos 4) 5 ((1, write) ∷ [])) (choice.Filled (memo ((1, 8) ∷ []) [] [] []) ∷ []) (event.Whole (memo ((1, 8) ∷ []) [] [] []) ∷ []) (moved_memo ((1, 8) ∷ []) [] [] []) (store 1 2 4 0) (state (memo ((1, 8) ∷ []) [] [] []) [] [] [] [])
unfolding reduced gcd
what_is_exhaled_goes Unbounded = by_computing refl refl refl refl
what_is_exhaled_goes Bounded = by_computing refl refl refl refl

pub what_is_exhaled_too_little : (b : Bound) → Fails b (exhaling 1 (pos 4) 5 ((1, three_quarters) ∷ [])) [] [] [] at_13_3 at_13_34 kind.Perm
unfolding reduced gcd
what_is_exhaled_too_little Unbounded = by_computing refl refl refl refl
what_is_exhaled_too_little Bounded = by_computing refl refl refl refl

pub what_is_exhaled_is_false : (b : Bound) → Fails b (exhaling 1 (pos 5) 5 ((1, write) ∷ [])) [] [] [] at_13_3 at_13_45 kind.Fact
unfolding reduced gcd
what_is_exhaled_is_false Unbounded = by_computing refl refl refl refl
what_is_exhaled_is_false Bounded = by_computing refl refl refl refl

pub what_is_exhaled_of_instance : (b : Bound) → Goes b (exhaling_P ((1, half_held) ∷ [])) (choice.Amount quarter ∷ choice.Filled (memo ((1, 8) ∷ []) [] [] ((1, leaf_int (pos 8)) ∷ [])) ∷ []) (event.Wild quarter ∷ event.Whole (memo ((1, 8) ∷ []) [] [] ((1, leaf_int (pos 5)) ∷ [])) ∷ []) ((boogie.Value (boogie.Real quarter) ∷ []) ++ moved_memo ((1, 8) ∷ []) [] [] ((1, leaf_int (pos 5)) ∷ [])) (store 1 2 3 0) (state (memo ((1, 8) ∷ []) [] [] ((1, leaf_int (pos 5)) ∷ [])) [] [] [] ((1, quarter) ∷ []))
unfolding reduced gcd
what_is_exhaled_of_instance Unbounded = by_computing refl refl refl refl
what_is_exhaled_of_instance Bounded = by_computing refl refl refl refl

pub what_is_exhaled_all_of_instance : (b : Bound) → Blocks b (exhaling_P ((1, half_held) ∷ [])) (choice.Amount half_held ∷ []) (event.Wild half_held ∷ []) (boogie.Value (boogie.Real half_held) ∷ [])
unfolding reduced gcd
what_is_exhaled_all_of_instance Unbounded = by_computing refl refl refl refl
what_is_exhaled_all_of_instance Bounded = by_computing refl refl refl refl

pub what_is_exhaled_no_instance : (b : Bound) → Fails b (exhaling_P []) [] [] [] at_13_3 at_13_14 kind.Perm
unfolding reduced gcd
what_is_exhaled_no_instance Unbounded = by_computing refl refl refl refl
what_is_exhaled_no_instance Bounded = by_computing refl refl refl refl

pub a_part_is_folded_goes : (b : Bound) → Goes b (folding_part 1 (pos 1) 5 ((1, three_quarters) ∷ [])) [] [] [] (store 1 2 1 0) (state (memo ((1, 5) ∷ []) [] [] ((1, leaf_int (pos 5)) ∷ [])) ((1, quarter) ∷ []) [] [] ((1, half_held) ∷ []))
unfolding reduced gcd
a_part_is_folded_goes Unbounded = by_computing refl refl refl refl
a_part_is_folded_goes Bounded = by_computing refl refl refl refl

pub a_part_is_folded_nothing : (b : Bound) → Fails b (folding_part 1 (pos 0) 5 ((1, write) ∷ [])) [] [] [] at_13_3 at_13_12 kind.Amount
unfolding reduced gcd
a_part_is_folded_nothing Unbounded = by_computing refl refl refl refl
a_part_is_folded_nothing Bounded = by_computing refl refl refl refl

pub a_part_is_folded_negative : (b : Bound) → Fails b (folding_part 1 (negsuc 0) 5 ((1, write) ∷ [])) [] [] [] at_13_3 at_13_12 kind.Amount
unfolding reduced gcd
a_part_is_folded_negative Unbounded = by_computing refl refl refl refl
a_part_is_folded_negative Bounded = by_computing refl refl refl refl

pub a_part_is_folded_too_little : (b : Bound) → Fails b (folding_part 1 (pos 2) 5 ((1, three_quarters) ∷ [])) [] [] [] at_13_3 at_4_29 kind.Perm
unfolding reduced gcd
a_part_is_folded_too_little Unbounded = by_computing refl refl refl refl
a_part_is_folded_too_little Bounded = by_computing refl refl refl refl

pub a_part_is_folded_of_null : (b : Bound) → Fails b (folding_part 0 (pos 1) 5 ((1, write) ∷ [])) [] [] [] at_13_3 at_4_29 kind.Perm
unfolding reduced gcd
a_part_is_folded_of_null Unbounded = by_computing refl refl refl refl
a_part_is_folded_of_null Bounded = by_computing refl refl refl refl

pub a_number_may_leave_the_bound_beyond : Ends Bounded counting [] [] (meaning.Over at_13_10) [] (run.Stops run.Over [])
unfolding reduced gcd
a_number_may_leave_the_bound_beyond = by_computing refl refl refl refl

pub a_number_may_leave_the_bound_unbounded : Goes Unbounded counting [] [] [] (store 1 2 170141183460469231731687303715884105727 170141183460469231731687303715884105728) (before 5)
unfolding reduced gcd
a_number_may_leave_the_bound_unbounded = by_computing refl refl refl refl

pub a_choice_has_its_kind_other_kind : (b : Bound) → Ends b (calling 3 ((1, write) ∷ [])) (choice.Branch true ∷ []) [] meaning.Blocked [] (run.Stops run.Short [])
unfolding reduced gcd
a_choice_has_its_kind_other_kind Unbounded = by_computing refl refl refl refl
a_choice_has_its_kind_other_kind Bounded = by_computing refl refl refl refl

pub a_choice_has_its_kind_other_type : (b : Bound) → Ends b (creating (0 ∷ [])) (choice.Fresh 7 ∷ choice.Took (v.Int (pos 9)) ∷ []) (event.Fresh 7 ∷ []) meaning.Blocked (boogie.Value (boogie.Ref 7) ∷ []) (run.Stops run.Short [])
unfolding reduced gcd
a_choice_has_its_kind_other_type Unbounded = by_computing refl refl refl refl
a_choice_has_its_kind_other_type Bounded = by_computing refl refl refl refl

pub a_choice_has_its_kind_missing : (b : Bound) → Ends b (creating (0 ∷ [])) (choice.Fresh 7 ∷ []) (event.Fresh 7 ∷ []) meaning.Short (boogie.Value (boogie.Ref 7) ∷ []) (run.Stops run.Short [])
unfolding reduced gcd
a_choice_has_its_kind_missing Unbounded = by_computing refl refl refl refl
a_choice_has_its_kind_missing Bounded = by_computing refl refl refl refl

pub old_is_an_argument_goes : (b : Bound) → Goes b (calling_old ((1, half_held) ∷ [])) (call_choices 10 5) (call_events 10 5) (call_moves 10 5) (store 2 2 5 0) (state (after_call 10) ((1, write) ∷ []) ((2, write) ∷ []) [] ((2, write) ∷ []))
unfolding reduced gcd
old_is_an_argument_goes Unbounded = by_computing refl refl refl refl
old_is_an_argument_goes Bounded = by_computing refl refl refl refl

pub old_is_an_argument_not_held : (b : Bound) → Fails b (calling_old []) [] [] [] at_13_3 at_13_22 kind.Perm
unfolding reduced gcd
old_is_an_argument_not_held Unbounded = by_computing refl refl refl refl
old_is_an_argument_not_held Bounded = by_computing refl refl refl refl

pub a_loop_in_a_turn_behind : (b : Bound) → Fails b nesting (nested_choices ++ (choice.Branch false ∷ [])) (nested_events ++ (event.Branch false ∷ [])) (nested_moves ++ (boogie.Pick false ∷ [])) at_21_5 at_21_7 kind.Perm
unfolding reduced gcd
a_loop_in_a_turn_behind Unbounded = by_computing refl refl refl refl
a_loop_in_a_turn_behind Bounded = by_computing refl refl refl refl

pub a_loop_in_a_turn_turn : (b : Bound) → Blocks b nesting (nested_choices ++ (choice.Branch true ∷ choice.Filled (memo ((1, 1) ∷ []) [] [] []) ∷ [])) (nested_events ++ (event.Branch true ∷ event.Whole (memo ((1, 1) ∷ []) [] [] []) ∷ [])) (nested_moves ++ (boogie.Pick true ∷ []) ++ moved_memo ((1, 1) ∷ []) [] [] [])
unfolding reduced gcd
a_loop_in_a_turn_turn Unbounded = by_computing refl refl refl refl
a_loop_in_a_turn_turn Bounded = by_computing refl refl refl refl

pub a_loop_in_a_turn_not_held : (b : Bound) → Fails b (record nesting { now = state (memo ((1, 5) ∷ []) [] [] []) ((1, quarter) ∷ []) [] [] [] }) [] [] [] at_13_3 at_14_21 kind.Perm
unfolding reduced gcd
a_loop_in_a_turn_not_held Unbounded = by_computing refl refl refl refl
a_loop_in_a_turn_not_held Bounded = by_computing refl refl refl refl

pub a_list_is_folded_goes : (b : Bound) → Goes b (listing (folds_L ∷ opens_half_of_L ∷ []) (listed ((1, 2) ∷ []) ((1, write) ∷ []) ((2, write) ∷ []) ((2, last_of_list) ∷ []))) [] (event.Split (leaf_ref 2) last_of_list ∷ event.Leaf (v.Ref 2) ∷ []) (boogie.Value (boogie.Snap (leaf_ref 2)) ∷ boogie.Value (boogie.Snap last_of_list) ∷ boogie.Value (boogie.Ref 2) ∷ []) (store 1 2 3 0) (listed ((1, 2) ∷ []) ((1, half_held) ∷ []) ((1, half_held) ∷ (2, half_held) ∷ []) ((1, content.Pair (leaf_ref 2) last_of_list) ∷ (2, last_of_list) ∷ []))
unfolding reduced gcd
a_list_is_folded_goes Unbounded = by_computing refl refl refl refl
a_list_is_folded_goes Bounded = by_computing refl refl refl refl

pub a_list_is_folded_last : (b : Bound) → Goes b (listing (folds_L ∷ opens_half_of_L ∷ []) (listed [] ((1, write) ∷ []) [] [])) [] (event.Split (leaf_ref 0) content.Unit ∷ event.Leaf (v.Ref 0) ∷ []) (boogie.Value (boogie.Snap (leaf_ref 0)) ∷ boogie.Value (boogie.Snap content.Unit) ∷ boogie.Value (boogie.Ref 0) ∷ []) (store 1 2 3 0) (listed [] ((1, half_held) ∷ []) ((1, half_held) ∷ []) ((1, last_of_list) ∷ []))
unfolding reduced gcd
a_list_is_folded_last Unbounded = by_computing refl refl refl refl
a_list_is_folded_last Bounded = by_computing refl refl refl refl

pub a_list_is_folded_rest_not_held : (b : Bound) → Fails b (listing (folds_L ∷ []) (listed ((1, 2) ∷ []) ((1, write) ∷ []) ((2, half_held) ∷ []) ((2, last_of_list) ∷ []))) [] [] [] at_13_3 at_4_89 kind.Perm
unfolding reduced gcd
a_list_is_folded_rest_not_held Unbounded = by_computing refl refl refl refl
a_list_is_folded_rest_not_held Bounded = by_computing refl refl refl refl

pub a_list_is_folded_of_itself : (b : Bound) → Goes b (listing (folds_L ∷ []) (listed ((1, 1) ∷ []) ((1, write) ∷ []) ((1, write) ∷ []) ((1, last_of_list) ∷ []))) [] [] [] (store 1 2 3 0) (listed ((1, 1) ∷ []) [] ((1, write) ∷ []) ((1, content.Pair (leaf_ref 1) last_of_list) ∷ []))
unfolding reduced gcd
a_list_is_folded_of_itself Unbounded = by_computing refl refl refl refl
a_list_is_folded_of_itself Bounded = by_computing refl refl refl refl

pub a_list_is_folded_held_besides : (b : Bound) → Blocks b (listing (folds_L ∷ []) (listed ((1, 1) ∷ []) ((1, write) ∷ []) ((1, two) ∷ []) ((1, last_of_list) ∷ []))) [] [] []
unfolding reduced gcd
a_list_is_folded_held_besides Unbounded = by_computing refl refl refl refl
a_list_is_folded_held_besides Bounded = by_computing refl refl refl refl

pub a_list_is_folded_opened_by_half : (b : Bound) → Blocks b (listing (folds_L ∷ opens_half_of_L ∷ []) (listed ((1, 1) ∷ []) ((1, write) ∷ []) ((1, write) ∷ []) ((1, last_of_list) ∷ []))) [] (event.Split (leaf_ref 1) last_of_list ∷ event.Leaf (v.Ref 1) ∷ []) (boogie.Value (boogie.Snap (leaf_ref 1)) ∷ boogie.Value (boogie.Snap last_of_list) ∷ boogie.Value (boogie.Ref 1) ∷ [])
unfolding reduced gcd
a_list_is_folded_opened_by_half Unbounded = by_computing refl refl refl refl
a_list_is_folded_opened_by_half Bounded = by_computing refl refl refl refl

pub a_method_runs_postcondition : (b : Bound) → UnitFails b 1 (down_opening 5) (choice.Branch true ∷ []) (event.Branch true ∷ []) (down_values 5) (boogie.Pick true ∷ []) at_8_1 at_7_11 kind.Fact
unfolding reduced gcd
a_method_runs_postcondition Unbounded = unit_by_computing refl refl refl refl
a_method_runs_postcondition Bounded = unit_by_computing refl refl refl refl

pub a_method_runs_well : (b : Bound) → UnitEnds b 1 (down_opening 6) (choice.Branch true ∷ []) (event.Branch true ∷ []) (meaning.Goes behind_down) (down_values 6) (boogie.Pick true ∷ []) (run.Done [] [])
unfolding reduced gcd
a_method_runs_well Unbounded = unit_by_computing refl refl refl refl
a_method_runs_well Bounded = unit_by_computing refl refl refl refl

pub a_method_runs_precondition : (b : Bound) → UnitEnds b 1 (down_opening 4) [] [] meaning.Blocked (down_values 4) [] (run.Stops run.Blocked [])
unfolding reduced gcd
a_method_runs_precondition Unbounded = unit_by_computing refl refl refl refl
a_method_runs_precondition Bounded = unit_by_computing refl refl refl refl

pub a_method_runs_by_itself : (b : Bound) → UnitEnds b 1 (down_opening 5) (choice.Branch false ∷ choice.Filled (memo_of [] ((1, 4) ∷ []) []) ∷ []) (event.Branch false ∷ event.Whole (memo_of [] ((1, 4) ∷ []) []) ∷ []) meaning.Blocked (down_values 5) ((boogie.Pick false ∷ []) ++ moves_of_memo [] ((1, 4) ∷ []) []) (run.Stops run.Blocked [])
unfolding reduced gcd
a_method_runs_by_itself Unbounded = unit_by_computing refl refl refl refl
a_method_runs_by_itself Bounded = unit_by_computing refl refl refl refl

pub a_method_runs_not_defined : (b : Bound) → UnitFails b 2 (bad_opening 1) (choice.Filled (memo_of ((3, 1) ∷ []) ((1, 7) ∷ []) []) ∷ []) (event.Whole (memo_of ((3, 1) ∷ []) ((1, 7) ∷ []) []) ∷ []) (bad_values 1) (moves_of_memo ((3, 1) ∷ []) ((1, 7) ∷ []) []) at_13_8 at_14_13 kind.Perm
unfolding reduced gcd
a_method_runs_not_defined Unbounded = unit_by_computing refl refl refl refl
a_method_runs_not_defined Bounded = unit_by_computing refl refl refl refl

pub a_method_runs_not_defined_before : (b : Bound) → UnitFails b 3 (bad_opening 1) [] [] (bad_values 1) [] at_15_1 at_16_14 kind.Perm
unfolding reduced gcd
a_method_runs_not_defined_before Unbounded = unit_by_computing refl refl refl refl
a_method_runs_not_defined_before Bounded = unit_by_computing refl refl refl refl

pub a_predicate_is_read_by_itself_not_held : (b : Bound) → UnitFails b 0 (B_opening 1) [] [] (B_values 1) [] at_3_1 at_3_25 kind.Perm
unfolding reduced gcd
a_predicate_is_read_by_itself_not_held Unbounded = unit_by_computing refl refl refl refl
a_predicate_is_read_by_itself_not_held Bounded = unit_by_computing refl refl refl refl

pub a_predicate_is_read_by_itself_null : (b : Bound) → UnitFails b 0 (B_opening 0) [] [] (B_values 0) [] at_3_1 at_3_25 kind.Null
unfolding reduced gcd
a_predicate_is_read_by_itself_null Unbounded = unit_by_computing refl refl refl refl
a_predicate_is_read_by_itself_null Bounded = unit_by_computing refl refl refl refl
