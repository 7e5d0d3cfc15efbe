use Rattle.std.proofs.Common.{refl, [], ◌∷◌}
use Rattle.boogie_loops_grammar.specs.Words.{while_word, call_word, invariant_word, requires_word, ensures_word, returns_word}
use Rattle.boogie_loops_text.proofs.NameSets.{then_more, not_there}
use Rattle.boogie_loops_text.proofs.reserved.Reserved.new.Goals as goal

pub add_word-requires-2 : goal.add_word-requires-2
add_word-requires-2 c = not_there (while_word ∷ []) call_word (then_more [] while_word c.new-names.ensures c.in_ok-add_word.ensures) refl

pub add_word-requires-3 : goal.add_word-requires-3
add_word-requires-3 c = not_there (while_word ∷ call_word ∷ []) invariant_word (then_more (while_word ∷ []) call_word (then_more [] while_word c.new-names.ensures c.in_ok-add_word.ensures) c.in_ok-add_word-2.ensures) refl

pub add_word-requires-4 : goal.add_word-requires-4
add_word-requires-4 c = not_there (while_word ∷ call_word ∷ invariant_word ∷ []) requires_word (then_more (while_word ∷ call_word ∷ []) invariant_word (then_more (while_word ∷ []) call_word (then_more [] while_word c.new-names.ensures c.in_ok-add_word.ensures) c.in_ok-add_word-2.ensures) c.in_ok-add_word-3.ensures) refl

pub add_word-requires-5 : goal.add_word-requires-5
add_word-requires-5 c = not_there (while_word ∷ call_word ∷ invariant_word ∷ requires_word ∷ []) ensures_word (then_more (while_word ∷ call_word ∷ invariant_word ∷ []) requires_word (then_more (while_word ∷ call_word ∷ []) invariant_word (then_more (while_word ∷ []) call_word (then_more [] while_word c.new-names.ensures c.in_ok-add_word.ensures) c.in_ok-add_word-2.ensures) c.in_ok-add_word-3.ensures) c.in_ok-add_word-4.ensures) refl

pub add_word-requires-6 : goal.add_word-requires-6
add_word-requires-6 c = not_there (while_word ∷ call_word ∷ invariant_word ∷ requires_word ∷ ensures_word ∷ []) returns_word (then_more (while_word ∷ call_word ∷ invariant_word ∷ requires_word ∷ []) ensures_word (then_more (while_word ∷ call_word ∷ invariant_word ∷ []) requires_word (then_more (while_word ∷ call_word ∷ []) invariant_word (then_more (while_word ∷ []) call_word (then_more [] while_word c.new-names.ensures c.in_ok-add_word.ensures) c.in_ok-add_word-2.ensures) c.in_ok-add_word-3.ensures) c.in_ok-add_word-4.ensures) c.in_ok-add_word-5.ensures) refl

pub invariant_of-result : goal.invariant_of-result
invariant_of-result c = (then_more (while_word ∷ call_word ∷ invariant_word ∷ requires_word ∷ ensures_word ∷ []) returns_word (then_more (while_word ∷ call_word ∷ invariant_word ∷ requires_word ∷ []) ensures_word (then_more (while_word ∷ call_word ∷ invariant_word ∷ []) requires_word (then_more (while_word ∷ call_word ∷ []) invariant_word (then_more (while_word ∷ []) call_word (then_more [] while_word c.new-names.ensures c.in_ok-add_word.ensures) c.in_ok-add_word-2.ensures) c.in_ok-add_word-3.ensures) c.in_ok-add_word-4.ensures) c.in_ok-add_word-5.ensures) c.in_ok-add_word-6.ensures)
