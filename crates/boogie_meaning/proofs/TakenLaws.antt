-- The choices of a run are those that it takes and those that it leaves.
use Rattle.std.proofs.Common.{◌≡◌, Bool as Truth, true, false, Option, Some, None, List, [], ◌∷◌, ◌++◌, slice_get, slice_set, if◌then◌else◌, refl, sym, ap, ◌∙◌, append_assoc}
use Rattle.vb_base.specs.declared.labels.Label.{Label}
use Rattle.vb_value.specs.Bound.{Bound}
use Rattle.boogie_tree.specs.Stmt as s
use Rattle.boogie_tree.specs.Program.{BType}
use Rattle.vb_value.specs.Key.{key_cmp}
use Rattle.sparse.specs.Map.{set}
use Rattle.boogie_tree.specs.Value.{BValue, Many, BChoice, same_scalar}
use Rattle.boogie_meaning.specs.Ends as ends
use Rattle.boogie_meaning.specs.Ends.{End, Is, found}
use Rattle.boogie_meaning.specs.Operators.{as_truth}
use Rattle.boogie_meaning.specs.Value.{the_map}
use Rattle.boogie_meaning.specs.Quantified.{bvalue, bkey, side}
use Rattle.boogie_meaning.specs.Run.{Stop, Run, Done, Stops, Failed, Blocked, Short, Over, Wrong, with_end, unless_blocked, with_choice, then_run, picked, chosen, put_value, assumed, asserted, brun_stmt, brun, is_short, left_of, with_left, TakesSome}

-- unless a choice is missing
abbrev pub Takes : (List BChoice → Run) → List BChoice → Type 0
Takes run cs = is_short (run cs) ≡ false → TakesSome run cs

-- a step that takes none
none_taken : (run : List BChoice → Run) (cs : List BChoice) → cs ≡ left_of (run cs) → ((ds : List BChoice) → run ds ≡ with_left ds (run cs)) → TakesSome run cs
none_taken run cs whole alike = record { taken = []; whole = whole; alike = alike }

end_takes : {X : Type 0} (e : End X) (go : X → List BChoice → Run) (cs : List BChoice) → ((x : X) → Takes (go x) cs) → Takes (λ ds. with_end e ds (λ x. go x ds)) cs
end_takes (Is x) go cs h = h x
end_takes ends.Over go cs h = λ s. none_taken (λ ds. Stops Over ds) cs refl (λ ds. refl)
end_takes ends.Wrong go cs h = λ s. none_taken (λ ds. Stops Wrong ds) cs refl (λ ds. refl)

-- one choice, and then others
one_more : {X : Type 0} (c : BChoice) (x : X) (rest : List BChoice) (kind : BChoice → Option X) (go : X → List BChoice → Run) → kind c ≡ Some x → TakesSome (go x) rest →
    TakesSome (λ ds. with_choice ds kind go) (c ∷ rest)
one_more c x rest kind go is t = record {
  taken = c ∷ t.taken;
  whole = ap (λ ds. c ∷ ds) t.whole ∙ ap (λ r. c ∷ (t.taken ++ left_of r)) (sym (ap (λ o. unless_blocked o rest go) is));
  alike = λ others. ap (λ o. unless_blocked o (t.taken ++ others) go) is ∙ (t.alike others ∙ ap (with_left others) (sym (ap (λ o. unless_blocked o rest go) is)));
}

blocked_takes : {X : Type 0} (c : BChoice) (rest : List BChoice) (kind : BChoice → Option X) (go : X → List BChoice → Run) → kind c ≡ None → TakesSome (λ ds. with_choice ds kind go) (c ∷ rest)
blocked_takes c rest kind go is = record {
  taken = c ∷ [];
  whole = ap (λ r. c ∷ left_of r) (sym (ap (λ o. unless_blocked o rest go) is));
  alike = λ others. ap (λ o. unless_blocked o others go) is ∙ ap (with_left others) (sym (ap (λ o. unless_blocked o rest go) is));
}

kind_takes : {X : Type 0} (o : Option X) (c : BChoice) (rest : List BChoice) (kind : BChoice → Option X) (go : X → List BChoice → Run) → kind c ≡ o →
    ((x : X) (ds : List BChoice) → Takes (go x) ds) → Takes (λ ds. with_choice ds kind go) (c ∷ rest)
kind_takes (Some x) c rest kind go is h = λ s. one_more c x rest kind go is (h x rest (ap is_short (sym (ap (λ o. unless_blocked o rest go) is)) ∙ s))
kind_takes None c rest kind go is h = λ s. blocked_takes c rest kind go is

choice_takes : {X : Type 0} (cs : List BChoice) (kind : BChoice → Option X) (go : X → List BChoice → Run) → ((x : X) (ds : List BChoice) → Takes (go x) ds) → Takes (λ ds. with_choice ds kind go) cs
choice_takes [] kind go h = λ s. absurd cc
choice_takes (c ∷ rest) kind go h = kind_takes (kind c) c rest kind go refl h

-- ---- one run and then another

goes_on : (first : List BChoice → Run) (go : List BValue → List BChoice → Run) (cs left : List BChoice) (env : List BValue) → first cs ≡ Done env left → TakesSome first cs → TakesSome (go env) left →
    TakesSome (λ ds. then_run (first ds) go) cs
goes_on first go cs left env is t u = record {
  taken = t.taken ++ u.taken;
  whole = t.whole ∙ (ap (λ r. t.taken ++ left_of r) is ∙ (ap (λ ds. t.taken ++ ds) u.whole ∙ (sym (append_assoc t.taken u.taken (left_of (go env left))) ∙
      ap (λ r. (t.taken ++ u.taken) ++ left_of (then_run r go)) (sym is))));
  alike = λ others. ap (λ ds. then_run (first ds) go) (append_assoc t.taken u.taken others) ∙ (ap (λ r. then_run r go) (t.alike (u.taken ++ others)) ∙
      (ap (λ r. then_run (with_left (u.taken ++ others) r) go) is ∙ (u.alike others ∙ ap (λ r. with_left others (then_run r go)) (sym is))));
}

stops_there : (first : List BChoice → Run) (go : List BValue → List BChoice → Run) (cs left : List BChoice) (why : Stop) → first cs ≡ Stops why left → TakesSome first cs →
    TakesSome (λ ds. then_run (first ds) go) cs
stops_there first go cs left why is t = record {
  taken = t.taken;
  whole = t.whole ∙ (ap (λ r. t.taken ++ left_of r) is ∙ ap (λ r. t.taken ++ left_of (then_run r go)) (sym is));
  alike = λ others. ap (λ r. then_run r go) (t.alike others) ∙ (ap (λ r. then_run (with_left others r) go) is ∙ ap (λ r. with_left others (then_run r go)) (sym is));
}

run_takes : (first : List BChoice → Run) (go : List BValue → List BChoice → Run) (cs : List BChoice) (r : Run) → first cs ≡ r → Takes first cs → ((env : List BValue) (ds : List BChoice) → Takes (go env) ds) →
    Takes (λ ds. then_run (first ds) go) cs
run_takes first go cs (Done env left) is h g = λ s. goes_on first go cs left env is (h (ap is_short is)) (g env left (ap (λ r. is_short (then_run r go)) (sym is) ∙ s))
run_takes first go cs (Stops (Failed l) left) is h g = λ s. stops_there first go cs left (Failed l) is (h (ap is_short is))
run_takes first go cs (Stops Blocked left) is h g = λ s. stops_there first go cs left Blocked is (h (ap is_short is))
run_takes first go cs (Stops Short left) is h g = λ s. absurd (short (ap (λ r. is_short (then_run r go)) (sym is) ∙ s)) where
  short : true ≡ false → ⊥
  short e = absurd cc
run_takes first go cs (Stops Over left) is h g = λ s. stops_there first go cs left Over is (h (ap is_short is))
run_takes first go cs (Stops Wrong left) is h g = λ s. stops_there first go cs left Wrong is (h (ap is_short is))

-- ---- statements

assumed_takes : (env : List BValue) (p : Truth) (cs : List BChoice) → Takes (λ ds. assumed env ds p) cs
assumed_takes env true cs = λ s. none_taken (λ ds. Done env ds) cs refl (λ ds. refl)
assumed_takes env false cs = λ s. none_taken (λ ds. Stops Blocked ds) cs refl (λ ds. refl)

asserted_takes : (l : Label) (env : List BValue) (p : Truth) (cs : List BChoice) → Takes (λ ds. asserted l env ds p) cs
asserted_takes l env true cs = λ s. none_taken (λ ds. Done env ds) cs refl (λ ds. refl)
asserted_takes l env false cs = λ s. none_taken (λ ds. Stops (Failed l) ds) cs refl (λ ds. refl)

done_takes : (env : List BValue) (cs : List BChoice) → Takes (λ ds. Done env ds) cs
done_takes env cs = λ s. none_taken (λ ds. Done env ds) cs refl (λ ds. refl)

if_takes : (p : Truth) (run other : List BChoice → Run) (cs : List BChoice) → Takes run cs → Takes other cs → Takes (λ ds. if p then run ds else other ds) cs
if_takes true run other cs h g = h
if_takes false run other cs h g = g

mutual
  stmt_takes : (ls : List BType) (b : Bound) (x : s.BStmt) (env : List BValue) (cs : List BChoice) → Takes (λ ds. brun_stmt ls b x env ds) cs
  stmt_takes ls b (s.Assign i e) env cs = end_takes (side b e env) (λ v ds. Done (slice_set env i v) ds) cs (λ v. done_takes (slice_set env i v) cs)
  stmt_takes ls b (s.Put i es e) env cs =
      end_takes (bkey b es env) (λ k ds. with_end (bvalue b e env) ds (λ v. with_end (the_map env i) ds (put_value i k v env ds))) cs (λ k.
      end_takes (bvalue b e env) (λ v ds. with_end (the_map env i) ds (put_value i k v env ds)) cs (λ v.
      end_takes (the_map env i) (λ m ds. put_value i k v env ds m) cs (λ m. done_takes (slice_set env i (Many (set key_cmp same_scalar m k v))) cs)))
  stmt_takes ls b (s.Havoc i) env cs =
      end_takes (found (slice_get ls i)) (λ u ds. with_choice ds (chosen u) (λ v rest. Done (slice_set env i v) rest)) cs (λ u.
      choice_takes cs (chosen u) (λ v rest. Done (slice_set env i v) rest) (λ v. done_takes (slice_set env i v)))
  stmt_takes ls b (s.Assume e) env cs = end_takes (as_truth (bvalue b e env)) (λ p ds. assumed env ds p) cs (λ p. assumed_takes env p cs)
  stmt_takes ls b (s.Assert l e) env cs = end_takes (as_truth (bvalue b e env)) (λ p ds. asserted l env ds p) cs (λ p. asserted_takes l env p cs)
  stmt_takes ls b (s.If e xs ys) env cs =
      end_takes (as_truth (bvalue b e env)) (λ p ds. if p then brun ls b xs env ds else brun ls b ys env ds) cs (λ p.
      if_takes p (λ ds. brun ls b xs env ds) (λ ds. brun ls b ys env ds) cs (stmts_take ls b xs env cs) (stmts_take ls b ys env cs))
  stmt_takes ls b (s.Either xs ys) env cs =
      choice_takes cs picked (λ p rest. if p then brun ls b xs env rest else brun ls b ys env rest) (λ p rest.
      if_takes p (λ ds. brun ls b xs env ds) (λ ds. brun ls b ys env ds) rest (stmts_take ls b xs env rest) (stmts_take ls b ys env rest))

  pub stmts_take : (ls : List BType) (b : Bound) (xs : s.BStmts) (env : List BValue) (cs : List BChoice) → Takes (λ ds. brun ls b xs env ds) cs
  stmts_take ls b s.skip env cs = done_takes env cs
  stmts_take ls b (s.first x xs) env cs =
      run_takes (λ ds. brun_stmt ls b x env ds) (λ env' rest. brun ls b xs env' rest) cs (brun_stmt ls b x env cs) refl (stmt_takes ls b x env cs) (λ env' rest. stmts_take ls b xs env' rest)
