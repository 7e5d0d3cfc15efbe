-- A run fails at the label of one of its assertions.
use Rattle.std.proofs.Common.{◌≡◌, Bool as Truth, true, false, Option, Some, None, List, [], ◌∷◌, ◌++◌, Contains, slice_get, if◌then◌else◌, arith}
use Rattle.std.proofs.lemmas.List.Elements.{Contains-append_left, Contains-append_right}
use Rattle.vb_base.specs.declared.labels.Label.{Label}
use Rattle.vb_value.specs.Bound.{Bound}
use Rattle.boogie_tree.specs.Program.{BType}
use Rattle.boogie_tree.specs.Stmt as s
use Rattle.boogie_tree.specs.Value.{BValue, BChoice}
use Rattle.boogie_meaning.specs.Ends as ends
use Rattle.boogie_meaning.specs.Ends.{End, Is, found}
use Rattle.boogie_meaning.specs.Operators.{as_truth}
use Rattle.boogie_meaning.specs.Quantified.{bvalue, bkey, side}
use Rattle.boogie_meaning.specs.Run.{Run, Done, Stops, Failed, with_end, unless_blocked, with_choice, then_run, picked, chosen, assumed, asserted, brun_stmt, brun}
use Rattle.boogie_meaning.specs.Value.{the_map}
use Rattle.vb_tool.specs.Proved.{stmt_labels, block_labels}

-- the run fails at no other label than these
abbrev FailsAmong : List Label → Run → Type 0
FailsAmong labels r = (label : Label) (left : List BChoice) → r ≡ Stops (Failed label) left → Contains labels label

end_among : {X : Type 0} (labels : List Label) (e : End X) (cs : List BChoice) (go : X → Run) → ((x : X) → FailsAmong labels (go x)) → FailsAmong labels (with_end e cs go)
end_among labels (Is x) cs go h = h x
end_among labels ends.Over cs go h = λ label left is. absurd (cc)
end_among labels ends.Wrong cs go h = λ label left is. absurd (cc)

unless_among : {X : Type 0} (labels : List Label) (o : Option X) (rest : List BChoice) (go : X → List BChoice → Run) → ((x : X) (cs : List BChoice) → FailsAmong labels (go x cs)) →
    FailsAmong labels (unless_blocked o rest go)
unless_among labels (Some x) rest go h = h x rest
unless_among labels None rest go h = λ label left is. absurd (cc)

choice_among : {X : Type 0} (labels : List Label) (cs : List BChoice) (kind : BChoice → Option X) (go : X → List BChoice → Run) → ((x : X) (cs : List BChoice) → FailsAmong labels (go x cs)) →
    FailsAmong labels (with_choice cs kind go)
choice_among labels [] kind go h = λ label left is. absurd (cc)
choice_among labels (c ∷ rest) kind go h = unless_among labels (kind c) rest go h

done_among : (labels : List Label) (env : List BValue) (cs : List BChoice) → FailsAmong labels (Done env cs)
done_among labels env cs = λ label left is. absurd (cc)

assumed_among : (labels : List Label) (env : List BValue) (cs : List BChoice) (p : Truth) → FailsAmong labels (assumed env cs p)
assumed_among labels env cs true = λ label left is. absurd (cc)
assumed_among labels env cs false = λ label left is. absurd (cc)

asserted_among : (l : Label) (env : List BValue) (cs : List BChoice) (p : Truth) → FailsAmong (l ∷ []) (asserted l env cs p)
asserted_among l env cs true = λ label left is. absurd (cc)
asserted_among l env cs false = λ label left is. let same : l ≡ label = cc in (0, omega arith, same)

left_among : (xs ys : List Label) {r : Run} → FailsAmong xs r → FailsAmong (xs ++ ys) r
left_among xs ys h = λ label left is. Contains-append_left xs ys label (h label left is)

right_among : (xs ys : List Label) {r : Run} → FailsAmong ys r → FailsAmong (xs ++ ys) r
right_among xs ys h = λ label left is. Contains-append_right xs ys label (h label left is)

if_among : (labels : List Label) (p : Truth) {r q : Run} → FailsAmong labels r → FailsAmong labels q → FailsAmong labels (if p then r else q)
if_among labels true h g = h
if_among labels false h g = g

then_among : (labels : List Label) (r : Run) (go : List BValue → List BChoice → Run) → FailsAmong labels r → ((env : List BValue) (cs : List BChoice) → FailsAmong labels (go env cs)) →
    FailsAmong labels (then_run r go)
then_among labels (Done env cs) go h g = g env cs
then_among labels (Stops why cs) go h g = h

mutual
  stmt_among : (ls : List BType) (b : Bound) (x : s.BStmt) (env : List BValue) (cs : List BChoice) → FailsAmong (stmt_labels x) (brun_stmt ls b x env cs)
  stmt_among ls b (s.Assign i e) env cs = end_among [] (side b e env) cs _ (λ v. done_among [] _ cs)
  stmt_among ls b (s.Put i es e) env cs = end_among [] (bkey b es env) cs _ (λ k. end_among [] (bvalue b e env) cs _ (λ v. end_among [] (the_map env i) cs _ (λ m. done_among [] _ cs)))
  stmt_among ls b (s.Havoc i) env cs = end_among [] (found (slice_get ls i)) cs _ (λ u. choice_among [] cs (chosen u) _ (λ v rest. done_among [] _ rest))
  stmt_among ls b (s.Assume e) env cs = end_among [] (as_truth (bvalue b e env)) cs _ (λ p. assumed_among [] env cs p)
  stmt_among ls b (s.Assert l e) env cs = end_among (l ∷ []) (as_truth (bvalue b e env)) cs _ (λ p. asserted_among l env cs p)
  stmt_among ls b (s.If e xs ys) env cs =
      end_among (block_labels xs ++ block_labels ys) (as_truth (bvalue b e env)) cs _ (λ p. if_among (block_labels xs ++ block_labels ys) p
      (left_among (block_labels xs) (block_labels ys) (block_among ls b xs env cs)) (right_among (block_labels xs) (block_labels ys) (block_among ls b ys env cs)))
  stmt_among ls b (s.Either xs ys) env cs =
      choice_among (block_labels xs ++ block_labels ys) cs picked _ (λ p rest. if_among (block_labels xs ++ block_labels ys) p
      (left_among (block_labels xs) (block_labels ys) (block_among ls b xs env rest)) (right_among (block_labels xs) (block_labels ys) (block_among ls b ys env rest)))

  pub block_among : (ls : List BType) (b : Bound) (xs : s.BStmts) (env : List BValue) (cs : List BChoice) (label : Label) (left : List BChoice) → brun ls b xs env cs ≡ Stops (Failed label) left →
      Contains (block_labels xs) label
  block_among ls b s.skip env cs = λ label left is. absurd (cc)
  block_among ls b (s.first x xs) env cs =
      then_among (stmt_labels x ++ block_labels xs) (brun_stmt ls b x env cs) _
      (left_among (stmt_labels x) (block_labels xs) (stmt_among ls b x env cs))
      (λ env' rest. right_among (stmt_labels x) (block_labels xs) (block_among ls b xs env' rest))
