-- The code of consuming an amount ends as consuming does, from what its parts do.
use Rattle.std.specs.Bool.{⊤}
use Rattle.std.proofs.Common.{◌≡◌, ◌+◌, ◌<◌, ◌≤◌, ℕ, not, List, [], ◌∷◌, ◌++◌, length, slice_set, refl, sym, ap, subst, ◌∙◌, arith}
use Rattle.std.proofs.lemmas.Option.{slice_get_within, same_Some}
use Rattle.vb_base.specs.declared.labels.Kind.TheVariants as kind
use Rattle.vb_base.specs.declared.places.Pos.{Pos}
use Rattle.vb_value.specs.Bound.{Bound}
use Rattle.vb_value.specs.Fraction.{Fraction, IsProperFraction, order, difference, fits_order, fits_difference}
use Rattle.std.specs.Ordering.{is_lt}
use Rattle.vb_value.specs.declared.values.Ty.TheVariants as ty
use Rattle.viper_core.specs.Expr as e
use Rattle.viper_core.specs.Typing.{Context}
use Rattle.viper_state.specs.State.{State}
use Rattle.viper_state.specs.Run.{Scene}
use Rattle.viper_meaning.specs.Assertions as meaning
use Rattle.viper_meaning.specs.Ends.{Evaluated, is as is_end, blocks, then_with, unless, fitting}
use Rattle.viper_meaning.specs.Kept.{Keeps, IsAny}
use Rattle.viper_meaning.specs.Resource.{Resource, with_held}
use Rattle.viper_meaning.specs.Run.{ended, taking_amount}
use Rattle.viper_meaning.specs.Value.{perm_in}
use Rattle.boogie_tree.specs.Expr as t
use Rattle.boogie_tree.specs.Program.{BType}
use Rattle.boogie_tree.specs.Stmt as stmt
use Rattle.boogie_tree.specs.Value.{BChoice, One, Real}
use Rattle.boogie_tree.specs.Values.{plain_type}
use Rattle.boogie_tree.specs.declared.exprs.BBase.TheVariants as base
use Rattle.boogie_tree.specs.declared.exprs.BOp.TheVariants as op
use Rattle.boogie_meaning.specs.Run.{brun, brun_stmt}
use Rattle.boogie_meaning.proofs.PatternLaws.{set_here}
use Rattle.enc_expr.specs.Place.{Place, Maps}
use Rattle.enc_expr.specs.Kinds.{kinds_in}
use Rattle.enc_expr.specs.Code.{Emitting, join, then_emit, Guard, guarded, puts}
use Rattle.enc_expr.specs.Pieces.{atomic, label, zero_real}
use Rattle.enc_expr.specs.Encoding.{code, amount_code, taken_amount}
use Rattle.enc_expr.specs.Coupling.{Env, HasMaps, IsSound, IsCoupled, AreLocals, IsReady}
use Rattle.enc_expr.specs.Alike.{Alike, Kept, HasAtom, IsScale, variable}
use Rattle.enc_expr.proofs.RunLaws.{join_done, guarded_awake, atom_value, then_done}
use Rattle.enc_expr.proofs.AlikeLaws.{weaken_alike, kept_alike}
use Rattle.enc_expr.proofs.FrameLaws.{kept_then, kept_set, maps_kept, locals_first, locals_rest, ready_rest}
use Rattle.enc_expr.proofs.CodeLaws.{code_counted, atomic_counted}
use Rattle.enc_expr.proofs.AtomLaws.{Holds, holds_more, atomic_set}
use Rattle.enc_expr.proofs.OpeningLaws.{alike_run}
use Rattle.enc_expr.proofs.UnfoldingLaws.{emit_alike, quiet_alike, atomic_quiet, perm_alike}
use Rattle.enc_expr.proofs.ChoiceLaws.{scale_kept}
use Rattle.enc_assert.specs.Target.{Aimed, held_in, key_of}
use Rattle.enc_assert.specs.Encoding.{some_amount, takes_code, takes_some, consume_amount}
use Rattle.enc_assert.specs.Held.{IsShrinking}
use Rattle.enc_assert.specs.Alongside.{AreAlongside}
use Rattle.enc_assert.proofs.AlongsideLaws.{run_alongside, ended_alongside, then_alongside}
use Rattle.enc_assert.proofs.ChosenLaws.{some_alongside}
use Rattle.enc_assert.proofs.TargetLaws.{aimed}
use Rattle.enc_assert.proofs.AimLaws.{CanAim, aims_more}
use Rattle.enc_assert.proofs.GiveLaws.{IsGrown}
use Rattle.enc_assert.proofs.TakeLaws.{taken_alike, something_alike, part_alike}
use Rattle.enc_assert.proofs.ProduceLaws.{grown_after, Reads, set_run}

-- the rest of taking an amount that is chosen
abbrev part_of : Bound → Resource → Pos → State → Fraction → Fraction → Evaluated State
part_of b x at u held w =
    then_with (fitting b (fits_order w held) at (is_lt (order w held))) (λ less. unless (not less) blocks (then_with (fitting b (fits_difference held w) at (difference held w)) (λ rest. is_end (with_held u x rest))))

module _ (ts : List BType) (b : Bound) (c : Context) (p : Place) (left : Maps) (g : Guard) (start : State) (sc : Scene) (scale : t.BExpr) (k : Fraction) where
  -- an amount that is written is read, and proper
  abbrev pub AmountReads : e.Amt → Type 0
  AmountReads (e.Is a) = Reads ts b c p g start sc scale k a ty.Perm × Keeps IsAny (IsProperFraction b) (perm_in b a start sc)
  AmountReads e.Wildcard = ⊤

  module _ (own : IsShrinking c p left) (at : Pos) (n : ℕ) (E : Env) (u : State) (coupled : IsCoupled b c n p start sc E) (maps : HasMaps c.program.layout n left u E) (sound : IsSound b c.program.layout u) (scales : IsScale b n E scale k)
      (tg : Emitting Aimed) (x : Resource) (aim : CanAim ts b c.program.layout n E tg x) where
    -- an amount that is written
    exact_alongside : (a : e.Expr) → Reads ts b c p g start sc scale k a ty.Perm → Keeps IsAny (IsProperFraction b) (perm_in b a start sc) →
        (let z = then_emit (amount_code (kinds_in c) p g (e.Is a)) (λ m. then_emit tg (consume_amount p left g scale at (e.Is a) m)) n in IsReady ts g n z.locals E →
        AreAlongside ⊤ b c.program.layout (IsGrown c left n z.next E) (meaning.consume_amount b (e.Is a) start sc k at u x) (λ cs. brun ts b z.stmts E cs))
    exact_alongside a reads proper = λ ready.
        let first = code (kinds_in c) p g a in let m = first n in let n1 = m.next in
        let t1 = tg n1 in let n2 = t1.next in let q = atomic m.value n2 in let n3 = q.next in
        let counted = code_counted (kinds_in c) p g a in
        let low : n ≤ n1 = omega (arith, counted.next n) in let mid : n1 ≤ n2 = omega (arith, aim.counted.next n1) in let high : n2 ≤ n3 = omega (arith, (atomic_counted m.value).next n2) in
        let rest = t1.locals ++ (q.locals ++ []) in
        ended_alongside ⊤ b c.program.layout _ (λ cs.
        emit_alike ts b first (λ m. then_emit tg (consume_amount p left g scale at (e.Is a) m)) n E cs (perm_in b a start sc) (meaning.taken_from b sc k x at u)
        (kept_alike proper (perm_alike (λ w F z. z.typed) (reads.alike n E cs coupled (record { awake = ready.awake; full = ready.full; locals = locals_first ts n m.locals rest ready.locals }))))
        (λ w F more z.
        let ready1 = ready_rest ts g n n1 m.locals rest E F (counted.next n) z.0.kept ready in
        let at_q : AreLocals ts n2 (q.locals ++ []) = subst (λ i. AreLocals ts i (q.locals ++ [])) (aim.counted.next n1) (locals_rest ts n1 t1.locals (q.locals ++ []) ready1.locals) in
        let set1 = aim.set n1 F low z.0.kept.same ready1.full (locals_first ts n1 t1.locals (q.locals ++ []) ready1.locals) in
        let G = set1.after in let k1 = set1.sets.kept in
        let held : Holds b n1 m.value.expr F (Real w) = record { value = z.0.here } in
        let set2 = atomic_set ts b n2 G (k1.length ∙ ready1.full) m.value (Real w) (holds_more mid k1.same held) (locals_first ts n2 q.locals [] at_q) in
        let H = set2.after in let k2 = set2.sets.kept in
        let kept : Kept n E H = kept_then low z.0.kept (kept_then {F = G} mid k1 k2) in
        let within : n ≤ n3 = omega (arith, low, mid, high) in
        let here = aimed b c n3 n3 left u H own (maps_kept within kept maps) sound (aims_more high k2.same set1.aims) in
        quiet_alike ts b tg (consume_amount p left g scale at (e.Is a) m.value) n1 F more (aim.quiet n1) (
        quiet_alike ts b (atomic m.value) (λ q. puts g (join t1.value.sets (join q.sets (takes_code p left scale at t1.value.target q.expr)))) n2 F more (atomic_quiet m.value n2) (
        alike_run (set_run ts b c p g start sc scale k n1 F t1.value.sets q.value.sets (takes_code p left scale at t1.value.target q.value.expr) more ready1.awake set1.sets.done set2.sets.done)
        (weaken_alike (λ t I grown. grown_after within kept grown)
        (taken_alike ts b c p left n3 n3 u sc H coupled.at at here k scale (scale_kept within kept scales) q.value.expr w set2.atom z.1 more))))))

    -- an amount that is chosen
    chosen_alongside : (let z = then_emit (amount_code (kinds_in c) p g e.Wildcard) (λ m. then_emit tg (consume_amount p left g scale at e.Wildcard m)) n in IsReady ts g n z.locals E →
        AreAlongside ⊤ b c.program.layout (IsGrown c left n z.next E) (meaning.consume_amount b e.Wildcard start sc k at u x) (λ cs. brun ts b z.stmts E cs))
    chosen_alongside = λ ready.
        let t1 = tg n in let n1 = t1.next in let own_type = plain_type base.Real in let y = t1.value.target in
        let low : n ≤ n1 = omega (arith, aim.counted.next n) in
        let locals : AreLocals ts n1 (own_type ∷ []) = subst (λ i. AreLocals ts i (own_type ∷ [])) (aim.counted.next n) (locals_rest ts n t1.locals (own_type ∷ []) ready.locals) in
        let set1 = aim.set n E (omega arith) (λ i below. refl) ready.full (locals_first ts n t1.locals (own_type ∷ []) ready.locals) in
        let F = set1.after in let k1 = set1.sets.kept in
        let long : n1 < length F = omega (arith, slice_get_within ts n1 own_type locals.0, k1.length, ready.full) in
        let maps1 : HasMaps c.program.layout n1 left u F = maps_kept low k1 maps in
        let here = aimed b c n1 n1 left u F own maps1 sound set1.aims in
        let row = takes_some p left at y n1 in
        let held = t.At (held_in left y) (key_of y) in
        let test = stmt.Assert (label p at kind.Perm) (t.Bin op.Ne held zero_real) in
        let last = stmt.first (stmt.Assume (t.Bin op.Lt (t.Var n1) held)) (taken_amount (held_in left y) (key_of y) (t.Var n1)) in
        let run : (cs : List BChoice) → brun ts b (join (tg n).stmts (guarded g (join t1.value.sets row))) E cs ≡ brun ts b row F cs =
        λ cs. ap (λ xs. brun ts b (join xs (guarded g (join t1.value.sets row))) E cs) (aim.quiet n) ∙ guarded_awake ts b g n (join t1.value.sets row) E cs ready.awake ∙ join_done ts b t1.value.sets row E F cs cs (set1.sets.done cs) in
        run_alongside ⊤ b c.program.layout run (
        then_alongside ⊤ b c.program.layout {Q = λ w G. (w ≡ here.held) × (G ≡ F)} (ended (meaning.something_held sc x at u)) (λ w. taking_amount (λ q. ended (meaning.some_taken_from b x at u w q)))
        (λ w G same. subst (λ (w : Fraction). AreAlongside ⊤ b c.program.layout (IsGrown c left n (n1 + 1) E) (taking_amount (λ q. ended (meaning.some_taken_from b x at u w q))) (λ cs. brun ts b (join (some_amount n1) last) G cs)) (sym same.0)
        (subst (λ (G : Env). AreAlongside ⊤ b c.program.layout (IsGrown c left n (n1 + 1) E) (taking_amount (λ q. ended (meaning.some_taken_from b x at u here.held q))) (λ cs. brun ts b (join (some_amount n1) last) G cs)) (sym same.1)
        (some_alongside ts b c.program.layout n1 F locals.0 long last (λ q. part_of b x at u here.held q) (λ w proper sign ds.
        let G = slice_set F n1 (One (Real w)) in
        let k2 : Kept n1 F G = kept_set n1 n1 (One (Real w)) F (omega arith) in
        let kept : Kept n E G = kept_then low k1 k2 in
        let within : n ≤ n1 + 1 = omega (arith, low) in
        let atom : HasAtom (n1 + 1) G (t.Var n1) (Real w) = variable (omega arith) (set_here F n1 (One (Real w)) long) in
        let here2 = aimed b c (n1 + 1) (n1 + 1) left u G own (maps_kept within kept maps) sound (aims_more (omega arith) k2.same set1.aims) in
        let same_held : here2.held ≡ here.held = same_Some _ _ (sym here2.is_held ∙ here.is_held) in
        subst (λ (h : Fraction). Alike (IsGrown c left n (n1 + 1) E) b (part_of b x at u h w) ds (brun ts b last G ds)) same_held
        (weaken_alike (λ t I grown. grown_after within kept grown) (part_alike ts b c left (n1 + 1) (n1 + 1) u G at here2 (t.Var n1) w proper (atom_value b (n1 + 1) G (t.Var n1) (Real w) atom) ds))))))
        (ended_alongside ⊤ b c.program.layout (meaning.something_held sc x at u) (λ cs. alike_run (sym (then_done (brun_stmt ts b test F cs))) (something_alike ts b c p left n1 n1 u sc F coupled.at at here cs))))

    -- either
    pub amount_consumed : (a : e.Amt) → AmountReads a → (let z = then_emit (amount_code (kinds_in c) p g a) (λ m. then_emit tg (consume_amount p left g scale at a m)) n in IsReady ts g n z.locals E →
        AreAlongside ⊤ b c.program.layout (IsGrown c left n z.next E) (meaning.consume_amount b a start sc k at u x) (λ cs. brun ts b z.stmts E cs))
    amount_consumed (e.Is a) h = exact_alongside a h.0 h.1
    amount_consumed e.Wildcard h = chosen_alongside
