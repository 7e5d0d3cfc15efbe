-- Choices that are left over do not change the end of a run.
use Rattle.std.proofs.Common.{◌≡◌, Bool as Truth, true, false, Option, Some, None, List, [], ◌∷◌, ◌++◌, slice_get, if◌then◌else◌, refl, ap, ◌∙◌}
use Rattle.vb_value.specs.Bound.{Bound}
use Rattle.boogie_tree.specs.Stmt as s
use Rattle.boogie_tree.specs.Program.{BType}
use Rattle.boogie_tree.specs.Value.{BValue, BChoice}
use Rattle.boogie_meaning.specs.Ends as ends
use Rattle.boogie_meaning.specs.Ends.{End, Is, found}
use Rattle.boogie_meaning.specs.Operators.{as_truth}
use Rattle.boogie_meaning.specs.Value.{the_map}
use Rattle.boogie_meaning.specs.Quantified.{bvalue, bkey, side}
use Rattle.boogie_meaning.specs.Run.{Run, Done, Stops, Failed, Blocked, Short, Over, Wrong, with_end, unless_blocked, with_choice, then_run, picked, chosen, assumed, asserted, brun_stmt, brun, is_short, with_more}

-- with more choices the second run ends as the first does, with more choices left, unless the first is short
abbrev pub GoesOn : List BChoice → Run → Run → Type 0
GoesOn more r q = is_short r ≡ false → q ≡ with_more more r

end_more : {X : Type 0} (e : End X) (cs more : List BChoice) (go to : X → Run) → ((x : X) → GoesOn more (go x) (to x)) → GoesOn more (with_end e cs go) (with_end e (cs ++ more) to)
end_more (Is x) cs more go to h = h x
end_more ends.Over cs more go to h = λ s. refl
end_more ends.Wrong cs more go to h = λ s. refl

unless_more : {X : Type 0} (o : Option X) (rest more : List BChoice) (go : X → List BChoice → Run) → ((x : X) (cs : List BChoice) → GoesOn more (go x cs) (go x (cs ++ more))) →
    GoesOn more (unless_blocked o rest go) (unless_blocked o (rest ++ more) go)
unless_more (Some x) rest more go h = h x rest
unless_more None rest more go h = λ s. refl

choice_more : {X : Type 0} (cs more : List BChoice) (kind : BChoice → Option X) (go : X → List BChoice → Run) → ((x : X) (cs : List BChoice) → GoesOn more (go x cs) (go x (cs ++ more))) →
    GoesOn more (with_choice cs kind go) (with_choice (cs ++ more) kind go)
choice_more [] more kind go h = λ s. absurd (cc)
choice_more (c ∷ rest) more kind go h = unless_more (kind c) rest more go h

then_more : (more : List BChoice) (r q : Run) (go : List BValue → List BChoice → Run) → GoesOn more r q → ((env : List BValue) (cs : List BChoice) → GoesOn more (go env cs) (go env (cs ++ more))) →
    GoesOn more (then_run r go) (then_run q go)
then_more more (Done env cs) q go h g = λ s. ap (λ x. then_run x go) (h refl) ∙ g env cs s
then_more more (Stops (Failed l) cs) q go h g = λ s. ap (λ x. then_run x go) (h refl)
then_more more (Stops Blocked cs) q go h g = λ s. ap (λ x. then_run x go) (h refl)
then_more more (Stops Short cs) q go h g = λ s. absurd (cc)
then_more more (Stops Over cs) q go h g = λ s. ap (λ x. then_run x go) (h refl)
then_more more (Stops Wrong cs) q go h g = λ s. ap (λ x. then_run x go) (h refl)

assumed_more : (env : List BValue) (cs more : List BChoice) (p : Truth) → GoesOn more (assumed env cs p) (assumed env (cs ++ more) p)
assumed_more env cs more true = λ s. refl
assumed_more env cs more false = λ s. refl

asserted_more : (l : _) (env : List BValue) (cs more : List BChoice) (p : Truth) → GoesOn more (asserted l env cs p) (asserted l env (cs ++ more) p)
asserted_more l env cs more true = λ s. refl
asserted_more l env cs more false = λ s. refl

if_more : (more : List BChoice) (p : Truth) (r q s t : Run) → GoesOn more r q → GoesOn more s t → GoesOn more (if p then r else s) (if p then q else t)
if_more more true r q s t h g = h
if_more more false r q s t h g = g

mutual
  pub stmt_more : (ls : List BType) (b : Bound) (x : s.BStmt) (env : List BValue) (cs more : List BChoice) → GoesOn more (brun_stmt ls b x env cs) (brun_stmt ls b x env (cs ++ more))
  stmt_more ls b (s.Assign i e) env cs more = end_more (side b e env) cs more _ _ (λ v s. refl)
  stmt_more ls b (s.Put i es e) env cs more =
      end_more (bkey b es env) cs more _ _ (λ k. end_more (bvalue b e env) cs more _ _ (λ v. end_more (the_map env i) cs more _ _ (λ m s. refl)))
  stmt_more ls b (s.Havoc i) env cs more = end_more (found (slice_get ls i)) cs more _ _ (λ u. choice_more cs more (chosen u) _ (λ v rest s. refl))
  stmt_more ls b (s.Assume e) env cs more = end_more (as_truth (bvalue b e env)) cs more _ _ (assumed_more env cs more)
  stmt_more ls b (s.Assert l e) env cs more = end_more (as_truth (bvalue b e env)) cs more _ _ (asserted_more l env cs more)
  stmt_more ls b (s.If e xs ys) env cs more =
      end_more (as_truth (bvalue b e env)) cs more _ _ (λ p. if_more more p _ _ _ _ (stmts_more ls b xs env cs more) (stmts_more ls b ys env cs more))
  stmt_more ls b (s.Either xs ys) env cs more =
      choice_more cs more picked _ (λ p rest. if_more more p _ _ _ _ (stmts_more ls b xs env rest more) (stmts_more ls b ys env rest more))

  pub stmts_more : (ls : List BType) (b : Bound) (xs : s.BStmts) (env : List BValue) (cs more : List BChoice) → GoesOn more (brun ls b xs env cs) (brun ls b xs env (cs ++ more))
  stmts_more ls b s.skip env cs more = λ s. refl
  stmts_more ls b (s.first x xs) env cs more = then_more more _ _ _ (stmt_more ls b x env cs more) (λ env' rest. stmts_more ls b xs env' rest more)
