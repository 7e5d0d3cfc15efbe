-- The worked examples, by computation.
use Rattle.std.proofs.Common.{pos, negsuc, true, false, [], ◌∷◌, refl}
use Rattle.vb_base.specs.declared.labels.Kind.TheVariants as kind
use Rattle.vb_value.specs.Bound.{Bound, Bounded, Unbounded}
use Rattle.vb_value.specs.Content as content
use Rattle.vb_value.specs.Fraction.{reduced}
use Rattle.vb_value.specs.Gcd.{gcd}
use Rattle.vb_value.specs.declared.values.Value.TheVariants as v
use Rattle.viper_state.specs.Event as event
use Rattle.viper_meaning.specs.Ends as meaning
use Rattle.boogie_tree.specs.Value as boogie
use Rattle.boogie_meaning.specs.Run as run
use Rattle.enc_expr.specs.Worked.{Ends, Gives, Fails, key_P, leaf_int, leaf_ref, half_held, at_1_20, at_1_24, at_1_29, at_1_33, at_1_42, at_6_20, at_6_24, at_6_36, at_6_38, at_6_41, at_6_43, at_6_51, at_6_72, at_6_106, at_6_124, at_8_37, reads_f, computes, sum, quotient, quotients, operators, opens_P, opens_and_reads, opens_twice, opens_part, holding, wholly, with_leaf, whole, in_whole, nested, by_amounts, in_all, opens_more, events_Q, events_in_all, choices_Q, choices_in_all}

pub null : (b : Bound) → Fails b (reads_f 0 []) [] [] at_1_42 kind.Null
unfolding reduced gcd
null Unbounded = record { means = refl; moves = refl; runs = refl; typed = refl }
null Bounded = record { means = refl; moves = refl; runs = refl; typed = refl }

pub no_permission : (b : Bound) → Fails b (reads_f 1 []) [] [] at_1_42 kind.Perm
unfolding reduced gcd
no_permission Unbounded = record { means = refl; moves = refl; runs = refl; typed = refl }
no_permission Bounded = record { means = refl; moves = refl; runs = refl; typed = refl }

pub permission : (b : Bound) → Gives b (reads_f 1 ((1, half_held) ∷ [])) [] true []
unfolding reduced gcd
permission Unbounded = record { means = refl; moves = refl; runs = refl; typed = refl }
permission Bounded = record { means = refl; moves = refl; runs = refl; typed = refl }

pub beyond : Ends Bounded (computes at_1_24 sum (pos 1)) [] (meaning.Over at_1_33) [] (run.Stops run.Over [])
beyond = record { means = refl; moves = refl; runs = refl; typed = refl }

pub within : (b : Bound) → Gives b (computes at_1_24 sum (pos 0)) [] true []
unfolding reduced gcd
within Unbounded = record { means = refl; moves = refl; runs = refl; typed = refl }
within Bounded = record { means = refl; moves = refl; runs = refl; typed = refl }

pub unbounded : Gives Unbounded (computes at_1_24 sum (pos 1)) [] true []
unbounded = record { means = refl; moves = refl; runs = refl; typed = refl }

pub by_zero : (b : Bound) → Fails b (computes at_1_20 quotient (pos 0)) [] [] at_1_29 kind.Div
unfolding reduced gcd
by_zero Unbounded = record { means = refl; moves = refl; runs = refl; typed = refl }
by_zero Bounded = record { means = refl; moves = refl; runs = refl; typed = refl }

pub euclidean : (b : Bound) → Gives b (computes at_1_20 quotients (pos 0)) [] true []
unfolding reduced gcd
euclidean Unbounded = record { means = refl; moves = refl; runs = refl; typed = refl }
euclidean Bounded = record { means = refl; moves = refl; runs = refl; typed = refl }

pub operators_true : (b : Bound) → Gives b (computes at_1_20 operators (pos 5)) [] true []
unfolding reduced gcd
operators_true Unbounded = record { means = refl; moves = refl; runs = refl; typed = refl }
operators_true Bounded = record { means = refl; moves = refl; runs = refl; typed = refl }

pub operators_false : (b : Bound) → Gives b (computes at_1_20 operators (pos 4)) [] false []
unfolding reduced gcd
operators_false Unbounded = record { means = refl; moves = refl; runs = refl; typed = refl }
operators_false Bounded = record { means = refl; moves = refl; runs = refl; typed = refl }

pub opened : (b : Bound) → Gives b (with_leaf opens_P 5) (event.Leaf (v.Int (pos 5)) ∷ []) true (boogie.Value (boogie.Int (pos 5)) ∷ [])
unfolding reduced gcd
opened Unbounded = record { means = refl; moves = refl; runs = refl; typed = refl }
opened Bounded = record { means = refl; moves = refl; runs = refl; typed = refl }

pub opened_zero : (b : Bound) → Gives b (with_leaf opens_P 0) (event.Leaf (v.Int (pos 0)) ∷ []) false (boogie.Value (boogie.Int (pos 0)) ∷ [])
unfolding reduced gcd
opened_zero Unbounded = record { means = refl; moves = refl; runs = refl; typed = refl }
opened_zero Bounded = record { means = refl; moves = refl; runs = refl; typed = refl }

pub no_value : (b : Bound) → Ends b (holding opens_P 1 (pos 5) [] (wholly 1) []) [] meaning.Blocked [] (run.Stops run.Short [])
unfolding reduced gcd
no_value Unbounded = record { means = refl; moves = refl; runs = refl; typed = refl }
no_value Bounded = record { means = refl; moves = refl; runs = refl; typed = refl }

pub not_held : (b : Bound) → Fails b (holding opens_P 1 (pos 5) [] [] ((key_P 1, leaf_int (pos 5)) ∷ [])) [] [] at_6_20 kind.Perm
unfolding reduced gcd
not_held Unbounded = record { means = refl; moves = refl; runs = refl; typed = refl }
not_held Bounded = record { means = refl; moves = refl; runs = refl; typed = refl }

pub closed_behind : (b : Bound) → Fails b (with_leaf opens_and_reads 5) (event.Leaf (v.Int (pos 5)) ∷ []) (boogie.Value (boogie.Int (pos 5)) ∷ []) at_6_43 kind.Perm
unfolding reduced gcd
closed_behind Unbounded = record { means = refl; moves = refl; runs = refl; typed = refl }
closed_behind Bounded = record { means = refl; moves = refl; runs = refl; typed = refl }

pub taken_out : (b : Bound) → Fails b (with_leaf opens_twice 5) (event.Leaf (v.Int (pos 5)) ∷ []) (boogie.Value (boogie.Int (pos 5)) ∷ []) at_6_38 kind.Perm
unfolding reduced gcd
taken_out Unbounded = record { means = refl; moves = refl; runs = refl; typed = refl }
taken_out Bounded = record { means = refl; moves = refl; runs = refl; typed = refl }

pub none_of_it : (b : Bound) → Fails b (holding opens_part 1 (pos 0) [] (wholly 1) ((key_P 1, leaf_int (pos 5)) ∷ [])) [] [] at_6_24 kind.Amount
unfolding reduced gcd
none_of_it Unbounded = record { means = refl; moves = refl; runs = refl; typed = refl }
none_of_it Bounded = record { means = refl; moves = refl; runs = refl; typed = refl }

pub other_value : (b : Bound) → Ends b (holding opens_part 1 (pos 1) ((1, half_held) ∷ []) (wholly 1) ((key_P 1, leaf_int (pos 5)) ∷ [])) (event.Leaf (v.Int (pos 5)) ∷ []) meaning.Blocked (boogie.Value (boogie.Int (pos 5)) ∷ []) (run.Stops run.Blocked [])
unfolding reduced gcd
other_value Unbounded = record { means = refl; moves = refl; runs = refl; typed = refl }
other_value Bounded = record { means = refl; moves = refl; runs = refl; typed = refl }

pub same_value : (b : Bound) → Gives b (holding opens_part 1 (pos 1) ((1, half_held) ∷ []) (wholly 1) ((key_P 1, leaf_int (pos 3)) ∷ [])) (event.Leaf (v.Int (pos 3)) ∷ []) true (boogie.Value (boogie.Int (pos 3)) ∷ [])
unfolding reduced gcd
same_value Unbounded = record { means = refl; moves = refl; runs = refl; typed = refl }
same_value Bounded = record { means = refl; moves = refl; runs = refl; typed = refl }

pub too_much : (b : Bound) → Ends b (holding opens_P 1 (pos 5) ((1, half_held) ∷ []) (wholly 1) ((key_P 1, leaf_int (pos 3)) ∷ [])) (event.Leaf (v.Int (pos 3)) ∷ []) meaning.Blocked (boogie.Value (boogie.Int (pos 3)) ∷ []) (run.Stops run.Blocked [])
unfolding reduced gcd
too_much Unbounded = record { means = refl; moves = refl; runs = refl; typed = refl }
too_much Bounded = record { means = refl; moves = refl; runs = refl; typed = refl }

pub of_null : (b : Bound) → Ends b (holding opens_P 0 (pos 5) [] (wholly 0) ((key_P 0, leaf_int (pos 5)) ∷ [])) [] meaning.Blocked [] (run.Stops run.Blocked [])
unfolding reduced gcd
of_null Unbounded = record { means = refl; moves = refl; runs = refl; typed = refl }
of_null Bounded = record { means = refl; moves = refl; runs = refl; typed = refl }

pub negative : (b : Bound) → Fails b (by_amounts 1 (negsuc 0)) [] [] at_8_37 kind.Negative
unfolding reduced gcd
negative Unbounded = record { means = refl; moves = refl; runs = refl; typed = refl }
negative Bounded = record { means = refl; moves = refl; runs = refl; typed = refl }

pub nothing : (b : Bound) → Gives b (by_amounts 1 (pos 0)) [] false []
unfolding reduced gcd
nothing Unbounded = record { means = refl; moves = refl; runs = refl; typed = refl }
nothing Bounded = record { means = refl; moves = refl; runs = refl; typed = refl }

pub not_nothing : (b : Bound) → Ends b (by_amounts 2 (pos 0)) [] meaning.Blocked [] (run.Stops run.Blocked [])
unfolding reduced gcd
not_nothing Unbounded = record { means = refl; moves = refl; runs = refl; typed = refl }
not_nothing Bounded = record { means = refl; moves = refl; runs = refl; typed = refl }

pub in_all_true : (b : Bound) → Gives b (in_all true (pos 2) (pos 4)) events_in_all true choices_in_all
unfolding reduced gcd
in_all_true Unbounded = record { means = refl; moves = refl; runs = refl; typed = refl }
in_all_true Bounded = record { means = refl; moves = refl; runs = refl; typed = refl }

pub right_side : (b : Bound) → Fails b (in_all false (pos 2) (pos 4)) events_in_all choices_in_all at_6_124 kind.Perm
unfolding reduced gcd
right_side Unbounded = record { means = refl; moves = refl; runs = refl; typed = refl }
right_side Bounded = record { means = refl; moves = refl; runs = refl; typed = refl }

pub other_side : (b : Bound) → Fails b (in_all true (pos 2) (pos 3)) [] [] at_6_106 kind.Perm
unfolding reduced gcd
other_side Unbounded = record { means = refl; moves = refl; runs = refl; typed = refl }
other_side Bounded = record { means = refl; moves = refl; runs = refl; typed = refl }

pub other_key : (b : Bound) → Fails b (in_all true (pos 1) (pos 4)) [] [] at_6_41 kind.Perm
unfolding reduced gcd
other_key Unbounded = record { means = refl; moves = refl; runs = refl; typed = refl }
other_key Bounded = record { means = refl; moves = refl; runs = refl; typed = refl }

pub implies_nothing : (b : Bound) → Fails b (in_all true (pos 0) (pos 4)) (event.Split (leaf_ref 1) content.Unit ∷ event.Leaf (v.Ref 1) ∷ []) (boogie.Value (boogie.Snap (leaf_ref 1)) ∷ boogie.Value (boogie.Snap content.Unit) ∷ boogie.Value (boogie.Ref 1) ∷ []) at_6_72 kind.Perm
unfolding reduced gcd
implies_nothing Unbounded = record { means = refl; moves = refl; runs = refl; typed = refl }
implies_nothing Bounded = record { means = refl; moves = refl; runs = refl; typed = refl }

pub implies_more : (b : Bound) → Ends b (in_all true (negsuc 0) (pos 4)) events_Q meaning.Blocked choices_Q (run.Stops run.Blocked [])
unfolding reduced gcd
implies_more Unbounded = record { means = refl; moves = refl; runs = refl; typed = refl }
implies_more Bounded = record { means = refl; moves = refl; runs = refl; typed = refl }

pub other_content : (b : Bound) → Ends b (in_whole whole ((key_P 1, half_held) ∷ []) true (pos 2) (pos 4)) events_Q meaning.Blocked choices_Q (run.Stops run.Blocked [])
unfolding reduced gcd
other_content Unbounded = record { means = refl; moves = refl; runs = refl; typed = refl }
other_content Bounded = record { means = refl; moves = refl; runs = refl; typed = refl }

pub asleep : (b : Bound) → Gives b (in_whole nested [] false (pos 5) (pos 4)) [] true []
unfolding reduced gcd
asleep Unbounded = record { means = refl; moves = refl; runs = refl; typed = refl }
asleep Bounded = record { means = refl; moves = refl; runs = refl; typed = refl }

pub asleep_too : (b : Bound) → Gives b (in_whole nested [] false (negsuc 4) (pos 4)) [] false []
unfolding reduced gcd
asleep_too Unbounded = record { means = refl; moves = refl; runs = refl; typed = refl }
asleep_too Bounded = record { means = refl; moves = refl; runs = refl; typed = refl }

pub awake : (b : Bound) → Fails b (in_whole nested [] true (negsuc 4) (pos 4)) [] [] at_6_36 kind.Perm
unfolding reduced gcd
awake Unbounded = record { means = refl; moves = refl; runs = refl; typed = refl }
awake Bounded = record { means = refl; moves = refl; runs = refl; typed = refl }

pub by_half : (b : Bound) → Fails b (in_whole opens_more [] true (pos 2) (pos 4)) events_Q choices_Q at_6_51 kind.Perm
unfolding reduced gcd
by_half Unbounded = record { means = refl; moves = refl; runs = refl; typed = refl }
by_half Bounded = record { means = refl; moves = refl; runs = refl; typed = refl }
