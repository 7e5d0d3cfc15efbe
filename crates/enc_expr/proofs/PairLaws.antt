-- A conjunction is filled from a pair: its parts are chosen, and then each side is filled from its part.
use Rattle.std.proofs.Common.{◌≡◌, ◌+◌, ◌<◌, ◌≤◌, ℕ, nat_lt, Bool as Truth, true, false, List, [], ◌∷◌, ◌++◌, length, Some, None, slice_get, slice_set, if◌then◌else◌, ◌⊎◌, inl, inr, refl, sym, ap, subst, ◌∙◌, arith}
use Rattle.std.specs.Bool.{⊤}
use Rattle.std.proofs.lemmas.Bool.{true≢false, lt-ltb}
use Rattle.std.proofs.lemmas.Option.{slice_get_within}
use Rattle.enc_expr.proofs.FillLaws.{first_same}
use Rattle.vb_value.specs.Bound.{Bound, Bounded, Unbounded}
use Rattle.vb_value.specs.Content.{Content, Unit, Leaf, Pair, nodes, same_content, IsReducedContent, IsProperContent}
use Rattle.vb_value.specs.Equality.{Decides-same_content}
use Rattle.vb_value.specs.Fraction.{Fraction}
use Rattle.viper_core.specs.Typing.{Context}
use Rattle.viper_state.specs.Event as event
use Rattle.viper_state.specs.State.{State}
use Rattle.viper_state.specs.Run.{Scene}
use Rattle.viper_meaning.specs.Ends.{Evaluated, ends, blocks, after, then_with}
use Rattle.viper_meaning.specs.Places.{pair_of}
use Rattle.viper_meaning.proofs.ClosedLaws.{proper_closed}
use Rattle.boogie_tree.specs.Expr as t
use Rattle.boogie_tree.specs.Program.{BType}
use Rattle.boogie_tree.specs.Stmt as stmt
use Rattle.boogie_tree.specs.Stmt.{BStmts}
use Rattle.boogie_tree.specs.Value as w
use Rattle.boogie_tree.specs.Value.{BScalar, BValue, One, BChoice, Snap}
use Rattle.boogie_tree.specs.Values.{plain_type}
use Rattle.boogie_tree.specs.declared.exprs.BBase.TheVariants as base
use Rattle.boogie_tree.specs.declared.exprs.BOp.TheVariants as op
use Rattle.boogie_meaning.specs.Ends as end
use Rattle.boogie_meaning.specs.Operators as m
use Rattle.boogie_meaning.specs.Value.{scalar_in}
use Rattle.boogie_meaning.specs.Quantified.{bvalue}
use Rattle.boogie_meaning.specs.Run.{Run, Stops, Blocked, Short, Over, chosen, with_truth, assumed, then_run, brun}
use Rattle.boogie_meaning.proofs.PatternLaws.{set_here, set_there}
use Rattle.moves.specs.Moves.{moves}
use Rattle.enc_expr.specs.Place.{Place}
use Rattle.enc_expr.specs.Code.{Emitting, join, then_emit, declares, Guard, guarded, puts}
use Rattle.enc_expr.specs.Encoding.{pair_code}
use Rattle.enc_expr.specs.Coupling.{Env, IsAwake, AreLocals}
use Rattle.enc_expr.specs.Alike as a
use Rattle.enc_expr.specs.Alike.{Alike, IsStopped, Kept}
use Rattle.enc_expr.proofs.Simulated.{IsCounted, Fills}
use Rattle.enc_expr.proofs.RunLaws.{join_run, guarded_awake, assume_run}
use Rattle.enc_expr.proofs.AlikeLaws.{after_alike, then_alike, weaken_alike}
use Rattle.enc_expr.proofs.FrameLaws.{kept_then, but_then, kept_but_then, Singles, singles_but, scale_single, awake_single, kept_set, locals_first, locals_rest, coupled_kept, awake_kept}
use Rattle.enc_expr.proofs.OperatorLaws.{plain_value}
use Rattle.enc_expr.proofs.OpeningLaws.{alike_run, alike_of}
use Rattle.enc_expr.proofs.ChoiceLaws.{scale_kept}

-- ---- choices of contents

-- a choice gives a content, or none
content_choice : (c : BChoice) → ((x : Content) × (w.Value (Snap x) ≡ c)) ⊎ (chosen (plain_type base.Snap) c ≡ None)
content_choice (w.Value (Snap x)) = inl (x, refl)
content_choice (w.Value (w.Int x)) = inr refl
content_choice (w.Value (w.Bool x)) = inr refl
content_choice (w.Value (w.Ref x)) = inr refl
content_choice (w.Value (w.Real x)) = inr refl
content_choice (w.Pick p) = inr refl
content_choice (w.Entries es) = inr refl

none_given : {x : BValue} → None ≡ Some x → ⊥
none_given h = cc

second_same : (c d e f : BChoice) (xs ys : List BChoice) → c ∷ (d ∷ xs) ≡ e ∷ (f ∷ ys) → d ≡ f
second_same c d e f xs ys h = cc

snap_same : (x y : Content) → w.Value (Snap x) ≡ w.Value (Snap y) → x ≡ y
snap_same x y h = cc

no_second : (c d e : BChoice) (ys : List BChoice) → c ∷ [] ≡ d ∷ (e ∷ ys) → ⊥
no_second c d e ys h = cc

-- ---- what the meaning does

-- it goes on with the parts of a pair alone
pub data IsParted {X : Type 0} (d : Content) (e : Evaluated X) (go : Content × Content → Evaluated X) : Type 0 where
  with_parts : (x y : Content) → d ≡ Pair x y → e ≡ after (event.Split x y ∷ []) (go (x, y)) → IsParted d e go
  no_pair : ((x y : Content) → d ≡ Pair x y → ⊥) → e ≡ blocks → IsParted d e go

pub is_parted : {X : Type 0} (d : Content) (go : Content × Content → Evaluated X) → IsParted d (then_with (pair_of d) go) go
is_parted (Pair x y) go = with_parts x y refl refl
is_parted Unit go = no_pair (λ x y h. cc) refl
is_parted (Leaf v) go = no_pair (λ x y h. cc) refl

stray_pair : {b : Bound} {X : Type 0} {Q : X → Env → Type 0} (x y : Content) (e : Evaluated X) (cs : List BChoice) (run : Run) → ((left : List BChoice) → cs ≡ w.Value (Snap x) ∷ (w.Value (Snap y) ∷ left) → ⊥) → IsStopped run →
    Alike Q b (after (event.Split x y ∷ []) e) cs run
stray_pair x y (ends es how) cs run h stopped = a.stray (λ left k. h (moves es ++ left) k.same) stopped

pair_same : (x y c d : Content) → Pair x y ≡ Pair c d → (x ≡ c) × (y ≡ d)
pair_same x y c d h = (cc, cc)

-- ---- the code

module _ (ts : List BType) (b : Bound) (l r from : ℕ) (d : Content) (ys : BStmts) (E : Env) (first_local : slice_get ts l ≡ Some (plain_type base.Snap)) (second_local : slice_get ts r ≡ Some (plain_type base.Snap)) (long : r < length E)
    (next : l + 1 ≡ r) (below : from < l) (here : slice_get E from ≡ Some (One (Snap d))) (proper : IsProperContent b d) where
  abbrev test : t.BExpr
  test = t.Bin op.Eq (t.Var from) (t.Pair (t.Var l) (t.Var r))

  abbrev checked : BStmts
  checked = stmt.first (stmt.Assume test) ys

  abbrev second : BStmts
  second = stmt.first (stmt.Havoc r) checked

  abbrev choosing : BStmts
  choosing = stmt.first (stmt.Havoc l) second

  abbrev chose_first : Content → Env
  chose_first x = slice_set E l (One (Snap x))

  abbrev pub chose : Content → Content → Env
  chose x y = slice_set (chose_first x) r (One (Snap y))

  no_choice : brun ts b choosing E [] ≡ Stops Short []
  no_choice = rw first_local refl

  wrong_first : (c : BChoice) (rest : List BChoice) → chosen (plain_type base.Snap) c ≡ None → brun ts b choosing E (c ∷ rest) ≡ Stops Blocked rest
  wrong_first c rest h = rw (first_local, h) refl

  first_chosen : (x : Content) (rest : List BChoice) → brun ts b choosing E (w.Value (Snap x) ∷ rest) ≡ brun ts b second (chose_first x) rest
  first_chosen x rest = rw first_local refl

  no_more : (x : Content) → brun ts b second (chose_first x) [] ≡ Stops Short []
  no_more x = rw second_local refl

  wrong_second : (x : Content) (c : BChoice) (rest : List BChoice) → chosen (plain_type base.Snap) c ≡ None → brun ts b second (chose_first x) (c ∷ rest) ≡ Stops Blocked rest
  wrong_second x c rest h = rw (second_local, h) refl

  second_chosen : (x y : Content) (rest : List BChoice) → brun ts b second (chose_first x) (w.Value (Snap y) ∷ rest) ≡ brun ts b checked (chose x y) rest
  second_chosen x y rest = rw second_local refl

  -- the locals that are read
  local_value : (i : ℕ) (x : BScalar) (F : Env) → slice_get F i ≡ Some (One x) → bvalue b (t.Var i) F ≡ end.Is x
  local_value i x F h = λ j. end.then_with (end.found (h j)) scalar_in

  from_there : (x y : Content) → slice_get (chose x y) from ≡ Some (One (Snap d))
  from_there x y = set_there (chose_first x) r from (One (Snap y)) (λ e. omega (arith, e, below, next)) ∙ set_there E l from (One (Snap x)) (λ e. omega (arith, e, below)) ∙ here

  pub first_there : (x y : Content) → slice_get (chose x y) l ≡ Some (One (Snap x))
  first_there x y = set_there (chose_first x) r l (One (Snap y)) (λ e. omega (arith, e, next)) ∙ set_here E l (One (Snap x)) (omega (arith, long, next))

  pub second_there : (x y : Content) → slice_get (chose x y) r ≡ Some (One (Snap y))
  second_there x y = set_here (chose_first x) r (One (Snap y)) (omega (arith, long, (kept_set l l (One (Snap x)) E (omega arith)).length))

  pair_value : (x y : Content) → bvalue b (t.Pair (t.Var l) (t.Var r)) (chose x y) ≡ end.fitting b (nat_lt (nodes (Pair x y)) 4097) (Snap (Pair x y))
  pair_value x y = let h = local_value l (Snap x) (chose x y) (first_there x y) in let k = local_value r (Snap y) (chose x y) (second_there x y) in
      λ j. end.then_with (h j) (λ v. end.then_with (k j) (λ u. m.pair_of b v u))

  -- the pair is within the bound, or it is not the content
  fit_cases : (z : Bound) (q : Truth) (v : BScalar) → (end.fitting z q v ≡ end.Is v) ⊎ ((end.fitting z q v ≡ end.Over) × ((z ≡ Bounded) × (q ≡ false)))
  fit_cases Unbounded q v = inl refl
  fit_cases Bounded true v = inl refl
  fit_cases Bounded false v = inr (refl, (refl, refl))

  too_large : (z : Bound) (x y : Content) → z ≡ Bounded → nat_lt (nodes (Pair x y)) 4097 ≡ false → IsProperContent z (Pair x y) → ⊥
  too_large Bounded x y same large h = let small = h.small in true≢false (sym (lt-ltb (nodes (Pair x y)) 4097 (omega (arith, small))) ∙ large)
  too_large Unbounded x y same large h = absurd cc

  test_value : (x y : Content) → bvalue b (t.Pair (t.Var l) (t.Var r)) (chose x y) ≡ end.Is (Snap (Pair x y)) → bvalue b test (chose x y) ≡ end.Is (w.Bool (same_content d (Pair x y)))
  test_value x y h = plain_value b op.Eq (t.Var from) (t.Pair (t.Var l) (t.Var r)) (Snap d) (Snap (Pair x y)) (chose x y) refl (local_value from (Snap d) (chose x y) (from_there x y)) h

  test_over : (x y : Content) (rest : List BChoice) → bvalue b (t.Pair (t.Var l) (t.Var r)) (chose x y) ≡ end.Over → brun ts b checked (chose x y) rest ≡ Stops Over rest
  test_over x y rest h = let k = local_value from (Snap d) (chose x y) (from_there x y) in
      λ j. then_run (with_truth (m.binary b op.Eq (k j) (h j)) rest (assumed (chose x y) rest)) (λ F left. brun ts b ys F left)

  module _ {X : Type 0} {Q : X → Env → Type 0} (e : Evaluated X) (go : Content × Content → Evaluated X) (goes : (x y : Content) (rest : List BChoice) → d ≡ Pair x y → Alike Q b (go (x, y)) rest (brun ts b ys (chose x y) rest)) where
    -- the choices were no parts of the content
    parts_stop : (cs : List BChoice) (run : Run) → IsStopped run → Alike Q b blocks cs run → IsParted d e go → ((x y : Content) → d ≡ Pair x y → (left : List BChoice) → cs ≡ w.Value (Snap x) ∷ (w.Value (Snap y) ∷ left) → ⊥) → Alike Q b e cs run
    parts_stop cs run stopped no_parts (with_parts x y same is) h = alike_of is (stray_pair x y (go (x, y)) cs run (h x y same) stopped)
    parts_stop cs run stopped no_parts (no_pair none is) h = alike_of is no_parts

    goes_on : (x y : Content) (rest : List BChoice) → d ≡ Pair x y → IsParted d e go → Alike Q b e (w.Value (Snap x) ∷ (w.Value (Snap y) ∷ rest)) (brun ts b ys (chose x y) rest)
    goes_on x y rest same (with_parts u v other is) =
        let parts = pair_same u v x y (sym other ∙ same) in
        alike_of (is ∙ (λ j. after (event.Split (parts.0 j) (parts.1 j) ∷ []) (go (parts.0 j, parts.1 j)))) (after_alike {es = event.Split x y ∷ []} (record { same = refl }) (goes x y rest same))
    goes_on x y rest same (no_pair none is) = absurd (none x y same)

    both_same : (x y u v : Content) (rest left : List BChoice) → w.Value (Snap x) ∷ (w.Value (Snap y) ∷ rest) ≡ w.Value (Snap u) ∷ (w.Value (Snap v) ∷ left) → Pair x y ≡ Pair u v
    both_same x y u v rest left h =
        let one = snap_same x u (first_same (w.Value (Snap x)) (w.Value (Snap u)) (w.Value (Snap y) ∷ rest) (w.Value (Snap v) ∷ left) h) in
        let two = snap_same y v (second_same (w.Value (Snap x)) (w.Value (Snap y)) (w.Value (Snap u)) (w.Value (Snap v)) rest left h) in
        λ j. Pair (one j) (two j)

    compared : (x y : Content) (rest : List BChoice) → IsParted d e go → (q : Truth) → same_content d (Pair x y) ≡ q →
        Alike Q b e (w.Value (Snap x) ∷ (w.Value (Snap y) ∷ rest)) (if q then brun ts b ys (chose x y) rest else Stops Blocked rest)
    compared x y rest parted true same = goes_on x y rest ((Decides-same_content d (Pair x y)).0 same) parted
    compared x y rest parted false same = parts_stop _ (Stops Blocked rest) tt (a.blocked (w.Value (Snap x) ∷ (w.Value (Snap y) ∷ [])) (record { same = refl })) parted
        (λ u v is left h. true≢false (sym ((Decides-same_content d (Pair x y)).1 (is ∙ sym (both_same x y u v rest left h))) ∙ same))

    chosen_alike : (x y : Content) (rest : List BChoice) → IsParted d e go → Alike Q b e (w.Value (Snap x) ∷ (w.Value (Snap y) ∷ rest)) (brun ts b checked (chose x y) rest)
    chosen_alike x y rest parted = elim (fit_cases b (nat_lt (nodes (Pair x y)) 4097) (Snap (Pair x y))) [
      | inl fit ↦ alike_run (assume_run ts b test (same_content d (Pair x y)) ys (chose x y) rest (test_value x y (pair_value x y ∙ fit))) (compared x y rest parted (same_content d (Pair x y)) refl)
      | inr large ↦ alike_run (test_over x y rest (pair_value x y ∙ large.0)) (parts_stop _ (Stops Over rest) tt (a.beyond (λ h. cc)) parted
          (λ u v is left h. too_large b x y large.1.0 large.1.1 (subst (IsProperContent b) (is ∙ sym (both_same x y u v rest left h)) proper)))
    ]

    second_alike : (x : Content) (cs : List BChoice) → IsParted d e go → Alike Q b e (w.Value (Snap x) ∷ cs) (brun ts b second (chose_first x) cs)
    second_alike x [] parted = alike_run (no_more x) (parts_stop _ (Stops Short []) tt (a.short (w.Value (Snap x) ∷ []) (record { same = refl })) parted (λ u v is left h. no_second _ _ _ left h))
    second_alike x (c ∷ rest) parted = elim (content_choice c) [
      | inl y ↦ subst (λ c. Alike Q b e (w.Value (Snap x) ∷ (c ∷ rest)) (brun ts b second (chose_first x) (c ∷ rest))) y.1 (alike_run (second_chosen x y.0 rest) (chosen_alike x y.0 rest parted))
      | inr none ↦ alike_run (wrong_second x c rest none) (parts_stop _ (Stops Blocked rest) tt (a.blocked (w.Value (Snap x) ∷ (c ∷ [])) (record { same = refl })) parted
          (λ u v is left h. none_given (sym none ∙ ap (chosen (plain_type base.Snap)) (second_same (w.Value (Snap x)) c (w.Value (Snap u)) (w.Value (Snap v)) rest left h))))
    ]

    pub parts_alike : (cs : List BChoice) → IsParted d e go → Alike Q b e cs (brun ts b choosing E cs)
    parts_alike [] parted = alike_run no_choice (parts_stop [] (Stops Short []) tt (a.short [] (record { same = refl })) parted (λ u v is left h. cc))
    parts_alike (c ∷ rest) parted = elim (content_choice c) [
      | inl x ↦ subst (λ c. Alike Q b e (c ∷ rest) (brun ts b choosing E (c ∷ rest))) x.1 (alike_run (first_chosen x.0 rest) (second_alike x.0 rest parted))
      | inr none ↦ alike_run (wrong_first c rest none) (parts_stop (c ∷ rest) (Stops Blocked rest) tt (a.blocked (c ∷ []) (record { same = refl })) parted
          (λ u v is left h. none_given (sym none ∙ ap (chosen (plain_type base.Snap)) (first_same c (w.Value (Snap u)) rest (w.Value (Snap v) ∷ left) h))))
    ]

-- ---- both sides

module _ (ts : List BType) (b : Bound) (c : Context) (p : Place) (sc : Scene) (scale : t.BExpr) (k : Fraction) where
  pub sides_fill : (g : Guard) (s : State) (from : ℕ) (d : Content) (left right : ℕ → Emitting ⊤) (e : Content → Evaluated State) (h : State → Content → Evaluated State) → ((i : ℕ) → IsCounted (left i)) → ((i : ℕ) → IsCounted (right i)) →
      ((d : Content) (from : ℕ) → Fills ts b c p g s sc scale k from d (left from) (e d)) → ((t : State) (d : Content) (from : ℕ) → Fills ts b c p g t sc scale k from d (right from) (h t d)) →
      Fills ts b c p g s sc scale k from d
      (then_emit (declares (plain_type base.Snap)) (λ l. then_emit (declares (plain_type base.Snap)) (λ r. then_emit (puts g (pair_code from l r)) (λ u. then_emit (left l) (λ u. right r)))))
      (then_with (pair_of d) (λ parts. then_with (e parts.0) (λ t. h t parts.1)))
  sides_fill g s from d left right e h counted counted2 fills fills2 = record {
    alike = λ n E cs coupled source scaled ready.
        let m = n + 1 + 1 in let r = n + 1 in
        let one = left n m in let two = right r one.next in
        let ys = join one.stmts two.stmts in let pair = pair_code from n r in
        let layout = c.program.layout in
        let first_local = ready.locals.0 in let second_local = ready.locals.1.0 in
        let long : r < length E = omega (arith, slice_get_within ts r _ second_local, ready.full) in
        let low : m ≤ one.next = omega (arith, (counted n).next m) in
        let high : one.next ≤ two.next = omega (arith, (counted2 r).next one.next) in
        let run : brun ts b (join (guarded g pair) ys) E cs ≡ brun ts b (join pair ys) E cs =
        join_run ts b (guarded g pair) ys E cs ∙ ap (λ z. then_run z (λ F rest. brun ts b ys F rest)) (guarded_awake ts b g n pair E cs ready.awake) ∙ sym (join_run ts b pair ys E cs) in
        let go : Content × Content → Evaluated State = λ parts. then_with (e parts.0) (λ t. h t parts.1) in
        alike_run run (parts_alike ts b n r from d ys E first_local second_local long refl source.below source.here source.proper (then_with (pair_of d) go) go
        (λ x y rest same.
        let F = slice_set (slice_set E n (One (Snap x))) r (One (Snap y)) in
        let E1 = slice_set E n (One (Snap x)) in
        let kept1 : Kept n E E1 = kept_set n n (One (Snap x)) E (omega arith) in
        let kept : Kept n E F = kept_then {F = E1} {G = F} (omega arith) kept1 (kept_set r r (One (Snap y)) E1 (omega arith)) in
        let coupled1 = coupled_kept b c n m p s sc E F (omega arith) kept coupled in
        let reduced : IsReducedContent (Pair x y) = subst IsReducedContent same source.reduced in
        let proper : IsProperContent b (Pair x y) = subst (IsProperContent b) same source.proper in
        let at_first : slice_get F n ≡ Some (One (Snap x)) = first_there ts b n r from d ys E first_local second_local long refl source.below source.here source.proper x y in
        let at_second : slice_get F r ≡ Some (One (Snap y)) = second_there ts b n r from d ys E first_local second_local long refl source.below source.here source.proper x y in
        let scaled1 = scale_kept {m = m} (omega arith) kept scaled in
        let awake : IsAwake g m F = awake_kept g (omega arith) kept ready.awake in
        alike_run (join_run ts b one.stmts two.stmts F rest) (then_alike
        ((fills x n).alike m F rest coupled1 (record { below = omega arith; here = at_first; reduced = reduced.0; proper = (proper_closed b).left x y proper }) scaled1
        (record { awake = awake; full = kept.length ∙ ready.full; locals = locals_first ts m one.locals two.locals ready.locals.1.1 }))
        (λ t G last filled.
        let singles : Singles m F G = singles_but layout m m p.now s F G coupled1.now filled.kept in
        weaken_alike (λ t H i. record { kept = kept_but_then (omega arith) kept (but_then low filled.kept i.kept); coupled = i.coupled })
        ((fills2 t y r).alike one.next G last filled.coupled
        (record {
          below = omega (arith, low);
          here = singles.same r (Snap y) (omega arith) at_second;
          reduced = reduced.1;
          proper = (proper_closed b).right x y proper;
        })
        (scale_single low singles scaled1)
        (record {
          awake = awake_single g low singles awake;
          full = filled.kept.length ∙ kept.length ∙ ready.full;
          locals = subst (λ i. AreLocals ts i two.locals) ((counted n).next m) (locals_rest ts m one.locals two.locals ready.locals.1.1);
        }))))) cs (is_parted d go));
  }
