-- Rows of bodies with a condition, from what their parts do.
use Rattle.std.proofs.Common.{◌≡◌, ◌+◌, ◌≤◌, ℕ, Bool as Truth, true, false, List, [], Some, if◌then◌else◌, refl, ap, ◌∙◌, arith}
use Rattle.std.specs.Bool.{⊤}
use Rattle.std.proofs.lemmas.Option.{slice_get_within}
use Rattle.vb_value.specs.Bound.{Bound}
use Rattle.vb_value.specs.Content.{Content, Unit, Leaf, Pair}
use Rattle.vb_value.specs.Fraction.{Fraction}
use Rattle.vb_value.specs.declared.values.Ty.TheVariants as ty
use Rattle.vb_value.specs.declared.values.Value.{Value}
use Rattle.viper_core.specs.Typing.{Context}
use Rattle.viper_state.specs.State.{State}
use Rattle.viper_state.specs.Run.{Scene}
use Rattle.viper_meaning.specs.Ends.{Evaluated, is as is_end, then_with}
use Rattle.viper_meaning.specs.Operators.{truth_of}
use Rattle.viper_meaning.specs.Places.{unit_of}
use Rattle.viper_meaning.specs.Value.{as_truth}
use Rattle.boogie_tree.specs.Expr as t
use Rattle.boogie_tree.specs.Program.{BType}
use Rattle.boogie_tree.specs.Stmt as stmt
use Rattle.boogie_tree.specs.Value as w
use Rattle.boogie_tree.specs.Value.{BChoice}
use Rattle.boogie_tree.specs.declared.exprs.BOp.TheVariants as op
use Rattle.boogie_meaning.specs.Ends as end
use Rattle.boogie_meaning.specs.Operators as m
use Rattle.boogie_meaning.specs.Value.{scalar_in}
use Rattle.boogie_meaning.specs.Quantified.{bvalue}
use Rattle.boogie_meaning.specs.Run.{Run, Done, Stops, Blocked, brun}
use Rattle.moves.specs.Scalars.{scalar}
use Rattle.enc_expr.specs.Place.{Place}
use Rattle.enc_expr.specs.Code.{Emitting, then_emit, Guard, guarded, puts}
use Rattle.enc_expr.specs.Pieces.{Operand, one}
use Rattle.enc_expr.specs.Operators.{choose_code}
use Rattle.enc_expr.specs.Encoding.{is_unit}
use Rattle.enc_expr.specs.Coupling.{Env}
use Rattle.enc_expr.specs.Alike as a
use Rattle.enc_expr.specs.Alike.{Alike, Kept, IsScale, IsFilled, IsSource}
use Rattle.enc_expr.proofs.Simulated.{IsCounted, Sleeps, Fills}
use Rattle.enc_expr.proofs.RunLaws.{guarded_awake, assume_run}
use Rattle.enc_expr.proofs.AlikeLaws.{is_alike}
use Rattle.enc_expr.proofs.FrameLaws.{kept_then, kept_but_then, then_kept_but, maps_below, singles_kept, scale_single, source_single, locals_first, coupled_kept, ready_rest}
use Rattle.enc_expr.proofs.AmountLaws.{then_again}
use Rattle.enc_expr.proofs.OpeningLaws.{alike_run, alike_of}
use Rattle.enc_expr.proofs.UnfoldingLaws.{emit_alike}
use Rattle.enc_expr.proofs.FormLaws.{Reads, truth_alike, guarded_by, are_guarded, choose_alike}

-- neither side hands on anything
abbrev pub nothing : ℕ → ⊤ → ⊤ → ⊤
nothing h u v = tt

-- ---- what stays

pub source_kept : {b : Bound} {n m : ℕ} {E F : Env} {from : ℕ} {d : Content} → n ≤ m → Kept n E F → IsSource b n E from d → IsSource b m F from d
source_kept within kept h = source_single within (singles_kept kept) h

pub scale_kept : {b : Bound} {n m : ℕ} {E F : Env} {x : t.BExpr} {q : Fraction} → n ≤ m → Kept n E F → IsScale b n E x q → IsScale b m F x q
scale_kept within kept h = scale_single within (singles_kept kept) h

module _ (ts : List BType) (b : Bound) (c : Context) (p : Place) (s : State) (sc : Scene) (scale : t.BExpr) (k : Fraction) (from : ℕ) (d : Content) where
  -- a filling from later locals is one from earlier ones
  filled_before : (n n1 i : ℕ) (E F G : Env) (less : State) → n ≤ n1 → Kept n E F → IsFilled b c n1 i p sc F less G → IsFilled b c n i p sc E less G
  filled_before n n1 i E F G less within kept h = record { kept = kept_but_then within kept h.kept; coupled = h.coupled }

  -- nothing else is filled
  unit_test : (n : ℕ) (E : Env) → IsSource b n E from d → (z : Truth) → m.equal (λ p. p) (w.Snap d) (w.Snap Unit) ≡ end.Is (w.Bool z) → bvalue b (is_unit from) E ≡ end.Is (w.Bool z)
  unit_test n E source z h = (λ j. m.binary b op.Eq (end.then_with (end.found (source.here j)) scalar_in) (end.Is (w.Snap Unit))) ∙ h

  pub unit_fills : (g : Guard) → Fills ts b c p g s sc scale k from d (puts g (one (stmt.Assume (is_unit from)))) (then_with (unit_of d) (λ u. is_end s))
  unit_fills g = record {
    alike = λ n E cs coupled source scaled ready.
        let here : (z : Truth) → m.equal (λ p. p) (w.Snap d) (w.Snap Unit) ≡ end.Is (w.Bool z) → brun ts b (guarded g (one (stmt.Assume (is_unit from)))) E cs ≡ (if z then Done E cs else Stops Blocked cs) =
        λ z h. guarded_awake ts b g n (one (stmt.Assume (is_unit from))) E cs ready.awake ∙ assume_run ts b (is_unit from) z stmt.skip E cs (unit_test n E source z h) in
        by_content d here (record { kept = record { length = refl; same = λ i below other. refl }; coupled = coupled });
  }
    where
      by_content : {Q : State → Env → Type 0} {E : Env} {cs : List BChoice} {r : Run} (d : Content) → ((z : Truth) → m.equal (λ p. p) (w.Snap d) (w.Snap Unit) ≡ end.Is (w.Bool z) → r ≡ (if z then Done E cs else Stops Blocked cs)) →
          Q s E → Alike Q b (then_with (unit_of d) (λ u. is_end s)) cs r
      by_content Unit h q = alike_run (h true refl) (is_alike q)
      by_content (Leaf z) h q = alike_run (h false refl) (a.blocked [] (record { same = refl }))
      by_content (Pair x y) h q = alike_run (h false refl) (a.blocked [] (record { same = refl }))

  -- a body with two sides, one of which counts
  pub choice_fills : (g : Guard) (f : Emitting Operand) (left right : Guard → Emitting ⊤) (e : Evaluated Value) (h1 h2 : Evaluated State) → IsCounted f → ((i : Guard) → IsCounted (left i)) → ((i : Guard) → IsCounted (right i)) →
      ((i : ℕ) → Sleeps (λ j. j ≡ i) (left (Some i))) → ((i : ℕ) → Sleeps (λ j. j ≡ i) (right (Some i))) → Reads ts b c p g s sc f e ty.Bool → ((i : ℕ) → Fills ts b c p (Some i) s sc scale k from d (left (Some i)) h1) →
      ((i : ℕ) → Fills ts b c p (Some i) s sc scale k from d (right (Some i)) h2) →
      Fills ts b c p g s sc scale k from d (then_emit f (λ x. choose_code g x.expr left right nothing)) (then_with (as_truth e) (λ holds. if holds then h1 else h2))
  choice_fills g f left right e h1 h2 counted counted1 counted2 sleeps1 sleeps2 reads fills1 fills2 = record {
    alike = λ n0 E0 cs0 coupled0 source0 scaled0 ready0.
        let go : Operand → Emitting ⊤ = λ x. choose_code g x.expr left right nothing in
        let a0 = f n0 in let x = a0.value in let n = a0.next in let last = go x n in
        let before : n0 ≤ n = omega (arith, counted.next n0) in
        alike_of (then_again e truth_of (λ holds. if holds then h1 else h2)) (
        emit_alike ts b f go n0 E0 cs0 e (λ z. then_with (truth_of z) (λ holds. if holds then h1 else h2))
        (reads.alike n0 E0 cs0 coupled0 (record { awake = ready0.awake; full = ready0.full; locals = locals_first ts n0 a0.locals last.locals ready0.locals }))
        (λ z E cs z_read.
        let coupled = coupled_kept b c n0 n p s sc E0 E before z_read.kept coupled0 in
        let ready = ready_rest ts g n0 n a0.locals last.locals E0 E (counted.next n0) z_read.kept ready0 in
        let source = source_kept before z_read.kept source0 in let scaled = scale_kept before z_read.kept scaled0 in
        truth_alike z (λ holds. if holds then h1 else h2) z_read.typed (λ q same.
        let l = left (Some n) (n + 1 + 1) in let r = right (Some (n + 1)) l.next in let F = guarded_by ts b c p g s sc E n q in
        let low : n + 1 + 1 ≤ l.next = omega (arith, (counted1 (Some n)).next (n + 1 + 1)) in
        let high : l.next ≤ r.next = omega (arith, (counted2 (Some (n + 1))).next l.next) in
        let kept = (are_guarded ts b c p g s sc n q E (omega (arith, slice_get_within ts (n + 1) _ ready.locals.1.0, ready.full))).kept in
        let kept0 : Kept n0 E0 F = kept_then {G = F} before z_read.kept kept in
        choose_alike ts b c p g s sc {Q = IsFilled b c (n + 1 + 1) l.next p sc F} {R = IsFilled b c n0 r.next p sc E0} {T = λ G. IsFilled b c l.next r.next p sc G} x.expr left right nothing q h1 h2 n E cs
        (z_read.here E (λ j below. refl) ∙ ap (λ (k : Value). end.Is (scalar k)) same) ready (counted1 (Some n)) (sleeps1 n) (sleeps2 (n + 1))
        (λ t ready. (fills1 n).alike (n + 1 + 1) F cs (coupled_kept b c n (n + 1 + 1) p s sc E F (omega arith) kept coupled) (source_kept (omega arith) kept source) (scale_kept (omega arith) kept scaled) ready)
        (λ y G i. (i.kept.length, i.kept.same (n + 1) (omega arith) (λ own. omega (arith, own.there, maps_below c.program.layout n p.now s E coupled.now own.spot own.exists))))
        (λ y G H t first i sleeping. record {
          kept = kept_but_then {m = n + 1 + 1} (omega (arith, before)) kept0 (then_kept_but low i.kept sleeping);
          coupled = coupled_kept b c l.next r.next p y sc G H high sleeping i.coupled;
        })
        (λ G t sleeping ready.
        let kept2 : Kept n E G = kept_then {F = F} {G = G} (omega arith) kept sleeping in
        (fills2 (n + 1)).alike l.next G cs (coupled_kept b c n l.next p s sc E G (omega (arith, low)) kept2 coupled) (source_kept (omega (arith, low)) kept2 source) (scale_kept (omega (arith, low)) kept2 scaled) ready)
        (λ y G H t first sleeping i. record {
          kept = kept_but_then (omega (arith, before, low)) (kept_then {F = F} {G = G} (omega (arith, before)) kept0 sleeping) i.kept;
          coupled = i.coupled;
        }))));
  }
