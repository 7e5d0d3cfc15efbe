-- A run within the bound that does not leave it is the run without it, which never does.
use Rattle.std.proofs.Common.{Bool as Truth, true, false, Option, Some, None, List, [], ◌∷◌, slice_get, if◌then◌else◌}
use Rattle.vb_value.specs.Bound.{Unbounded, Bounded}
use Rattle.boogie_tree.specs.Stmt as s
use Rattle.boogie_tree.specs.Program.{BType}
use Rattle.boogie_tree.specs.Value.{BValue, BChoice}
use Rattle.boogie_meaning.specs.Ends as ends
use Rattle.boogie_meaning.specs.Ends.{End, Is}
use Rattle.boogie_meaning.specs.Run.{Run, Done, Stops, Failed, Blocked, Short, Over, Wrong, with_end, unless_blocked, with_choice, then_run, picked, chosen, brun_stmt, brun}
use Rattle.boogie_meaning.specs.Compared.{IsBoundedBy, same as alike, over as is_over, IsNotOver, StaysWithin, RunIsBoundedBy, same, over}
use Rattle.boogie_meaning.proofs.BoundLaws.{found_bounded, the_map_bounded, as_truth_bounded, bvalue_bounded, bkey_bounded, side_bounded}

pub run_not_over : {r q : Run} → RunIsBoundedBy r q → StaysWithin q
run_not_over (same h) = h
run_not_over (over h) = h

end_within : {X : Type 0} (e : End X) (cs : List BChoice) (go : X → Run) → IsNotOver e → ((x : X) → StaysWithin (go x)) → StaysWithin (with_end e cs go)
end_within (Is x) cs go h g = g x
end_within ends.Over cs go h g = absurd h
end_within ends.Wrong cs go h g = tt

pub end_bounded : {X : Type 0} {e f : End X} (cs : List BChoice) (go to : X → Run) → IsBoundedBy e f → ((x : X) → RunIsBoundedBy (go x) (to x)) → RunIsBoundedBy (with_end e cs go) (with_end f cs to)
end_bounded {e = Is x} cs go to (alike h) g = g x
end_bounded {e = ends.Over} cs go to (alike h) g = absurd h
end_bounded {e = ends.Wrong} cs go to (alike h) g = same tt
end_bounded {f = f} cs go to (is_over h) g = over (end_within f cs to h (λ x. run_not_over (g x)))

unless_bounded : {X : Type 0} (o : Option X) (rest : List BChoice) (go to : X → List BChoice → Run) → ((x : X) (cs : List BChoice) → RunIsBoundedBy (go x cs) (to x cs)) →
    RunIsBoundedBy (unless_blocked o rest go) (unless_blocked o rest to)
unless_bounded (Some x) rest go to h = h x rest
unless_bounded None rest go to h = same tt

pub choice_bounded : {X : Type 0} (cs : List BChoice) (kind : BChoice → Option X) (go to : X → List BChoice → Run) → ((x : X) (cs : List BChoice) → RunIsBoundedBy (go x cs) (to x cs)) →
    RunIsBoundedBy (with_choice cs kind go) (with_choice cs kind to)
choice_bounded [] kind go to h = same tt
choice_bounded (c ∷ rest) kind go to h = unless_bounded (kind c) rest go to h

then_within : (r : Run) (go : List BValue → List BChoice → Run) → StaysWithin r → ((env : List BValue) (cs : List BChoice) → StaysWithin (go env cs)) → StaysWithin (then_run r go)
then_within (Done env cs) go h g = g env cs
then_within (Stops (Failed l) cs) go h g = tt
then_within (Stops Blocked cs) go h g = tt
then_within (Stops Short cs) go h g = tt
then_within (Stops Over cs) go h g = absurd h
then_within (Stops Wrong cs) go h g = tt

pub then_bounded : {r q : Run} (go to : List BValue → List BChoice → Run) → RunIsBoundedBy r q → ((env : List BValue) (cs : List BChoice) → RunIsBoundedBy (go env cs) (to env cs)) →
    RunIsBoundedBy (then_run r go) (then_run q to)
then_bounded {r = Done env cs} go to (same h) g = g env cs
then_bounded {r = Stops (Failed l) cs} go to (same h) g = same tt
then_bounded {r = Stops Blocked cs} go to (same h) g = same tt
then_bounded {r = Stops Short cs} go to (same h) g = same tt
then_bounded {r = Stops Over cs} go to (same h) g = absurd h
then_bounded {r = Stops Wrong cs} go to (same h) g = same tt
then_bounded {q = q} go to (over h) g = over (then_within q to h (λ env cs. run_not_over (g env cs)))

pub if_bounded : (p : Truth) {r q t u : Run} → RunIsBoundedBy r q → RunIsBoundedBy t u → RunIsBoundedBy (if p then r else t) (if p then q else u)
if_bounded true h g = h
if_bounded false h g = g

mutual
  pub stmt_bounded : (ls : List BType) (x : s.BStmt) (env : List BValue) (cs : List BChoice) → RunIsBoundedBy (brun_stmt ls Bounded x env cs) (brun_stmt ls Unbounded x env cs)
  stmt_bounded ls (s.Assign i e) env cs = end_bounded cs _ _ (side_bounded e env) (λ v. same tt)
  stmt_bounded ls (s.Put i es e) env cs =
      end_bounded cs _ _ (bkey_bounded es env) (λ k. end_bounded cs _ _ (bvalue_bounded e env) (λ v. end_bounded cs _ _ (the_map_bounded env i) (λ m. same tt)))
  stmt_bounded ls (s.Havoc i) env cs = end_bounded cs _ _ (found_bounded (slice_get ls i)) (λ u. choice_bounded cs (chosen u) _ _ (λ v rest. same tt))
  stmt_bounded ls (s.Assume e) env cs = end_bounded cs _ _ (as_truth_bounded (bvalue_bounded e env)) (λ p. if_bounded p (same tt) (same tt))
  stmt_bounded ls (s.Assert l e) env cs = end_bounded cs _ _ (as_truth_bounded (bvalue_bounded e env)) (λ p. if_bounded p (same tt) (same tt))
  stmt_bounded ls (s.If e xs ys) env cs = end_bounded cs _ _ (as_truth_bounded (bvalue_bounded e env)) (λ p. if_bounded p (stmts_bounded ls xs env cs) (stmts_bounded ls ys env cs))
  stmt_bounded ls (s.Either xs ys) env cs = choice_bounded cs picked _ _ (λ p rest. if_bounded p (stmts_bounded ls xs env rest) (stmts_bounded ls ys env rest))

  pub stmts_bounded : (ls : List BType) (xs : s.BStmts) (env : List BValue) (cs : List BChoice) → RunIsBoundedBy (brun ls Bounded xs env cs) (brun ls Unbounded xs env cs)
  stmts_bounded ls s.skip env cs = same tt
  stmts_bounded ls (s.first x xs) env cs = then_bounded _ _ (stmt_bounded ls x env cs) (λ env' rest. stmts_bounded ls xs env' rest)
