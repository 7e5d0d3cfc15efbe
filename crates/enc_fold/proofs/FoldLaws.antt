-- The code of `fold` goes alongside it, from arguments and amount on.
use Rattle.std.specs.Bool.{⊤}
use Rattle.std.proofs.Common.{◌≡◌, ◌≤◌, ◌++◌, ℕ, List, length, All, true, not, Some, None, IfSome, slice_get, refl, sym, ap, subst, ◌∙◌, arith}
use Rattle.viper_meaning.proofs.BeginLaws.{evaluating_found}
use Rattle.lemmas.proofs.Tests.{true_from_not, false_from_not}
use Rattle.vb_base.specs.declared.labels.Kind.TheVariants as kind
use Rattle.vb_value.specs.Bound.{Bound}
use Rattle.vb_value.specs.Fraction.{Fraction, is_positive, IsProperFraction}
use Rattle.vb_value.specs.Value.{IsProperValue}
use Rattle.vb_value.specs.declared.values.Ty.TheVariants as ty
use Rattle.vb_value.specs.declared.values.Value.{Value}
use Rattle.viper_core.specs.Expr as e
use Rattle.viper_core.specs.Formed.{IsFormed, predicate_context}
use Rattle.viper_core.specs.Program.{Predicate}
use Rattle.viper_core.specs.Stmt.{FoldStmt}
use Rattle.viper_core.specs.Typing.{Context, IsFold, IsAssertion}
use Rattle.viper_core.proofs.FormedLaws.{predicate_of_typed, predicate_body_of_typed}
use Rattle.viper_core.proofs.LiteralLaws.{typed_literals, exprs_literals, literals_proper}
use Rattle.viper_state.specs.Fits.{FitsStore, FitsKey}
use Rattle.viper_state.specs.Run.{Scene, with_variables}
use Rattle.viper_state.specs.State.{Key, State}
use Rattle.viper_meaning.specs.Assertions.{consume}
use Rattle.viper_meaning.specs.Contents.{body_of, positive_amount, closed, fold_instance}
use Rattle.viper_meaning.specs.Ends.{found}
use Rattle.viper_meaning.specs.Kept.{IsAny}
use Rattle.viper_meaning.specs.KeptRuns.{KeepsRun}
use Rattle.viper_meaning.specs.Places.{key_of}
use Rattle.viper_meaning.specs.Run.{Run, ended, evaluating, then_do}
use Rattle.viper_meaning.specs.Value.{values, perm_in}
use Rattle.viper_meaning.proofs.FoldLaws.{body_found}
use Rattle.viper_meaning.proofs.FormedLiterals.{program_proper}
use Rattle.viper_meaning.proofs.StatementFitsLaws.{fold_instance_fits}
use Rattle.viper_meaning.proofs.StatementKeptLaws.{fold_instance_proper}
use Rattle.viper_meaning.proofs.StatementSignLaws.{fold_instance_sign}
use Rattle.viper_meaning.proofs.TypedLaws.{keys_at, key_fits}
use Rattle.boogie_tree.specs.Expr as t
use Rattle.boogie_tree.specs.Program.{BType}
use Rattle.boogie_tree.specs.Stmt as stmt
use Rattle.boogie_tree.specs.Value as w
use Rattle.boogie_tree.specs.Value.{BChoice}
use Rattle.boogie_meaning.specs.Run.{brun}
use Rattle.enc_expr.specs.Place.{Place}
use Rattle.enc_expr.specs.Kinds.{Kinds, kinds_in}
use Rattle.enc_expr.specs.Code.{Code, Emitting, join, then_emit, puts}
use Rattle.enc_expr.specs.Pieces.{Operand, Atom, Located, atomic, located, label, check_positive}
use Rattle.enc_expr.specs.Encoding.{code, codes}
use Rattle.enc_expr.specs.Coupling.{Env, IsSound, IsCoupled, IsOwn, AreLocals, IsReady}
use Rattle.enc_expr.specs.Alike.{Alike, Kept, HasAtom, AreLocated, AreValues, IsFilled}
use Rattle.enc_expr.proofs.AlikeLaws.{is_alike, kept_alike}
use Rattle.enc_expr.proofs.AmountLaws.{check_positive_run}
use Rattle.enc_expr.proofs.AtomLaws.{Holds, holds_more, atomic_set, values_more, located_more, located_set}
use Rattle.enc_expr.proofs.CodeLaws.{code_counted, codes_counted, atomic_counted, located_counted}
use Rattle.enc_expr.proofs.FillLaws.{IsChanged, changed_coupled}
use Rattle.enc_expr.proofs.FrameLaws.{kept_then, kept_but_then, coupled_kept, locals_first, locals_rest, ready_rest}
use Rattle.enc_expr.proofs.InsideLaws.{values_fit}
use Rattle.enc_expr.proofs.OpeningLaws.{alike_run, unless_alike, fails_alike}
use Rattle.enc_expr.proofs.RunLaws.{join_done}
use Rattle.enc_expr.proofs.Simulation.{expression, arguments, proper_value, proper_values}
use Rattle.enc_expr.proofs.UnfoldingLaws.{located_quiet, atomic_quiet, perm_alike, key_exists}
use Rattle.enc_assert.specs.Alongside.{IsGiven, AreAlongside}
use Rattle.enc_assert.proofs.AlongsideLaws.{same_alongside, law_alongside, weaken_alongside}
use Rattle.enc_assert.proofs.GoingLaws.{emit_alongside, quiet_first}
use Rattle.enc_assert.proofs.WayLaws.{both_kept, any_run}
use Rattle.enc_fold.specs.Encoding.{closing_code, fold_code}
use Rattle.enc_fold.proofs.ClosingLaws.{closing_alongside}
use Rattle.enc_fold.proofs.CountedLaws.{fold_counted}

-- the amount was tested to be positive, and arguments and amount are where the code names them
record IsPaid (n x : ℕ) (locals : List ℕ) (amount : t.BExpr) (vs : List Value) (z : Fraction) (E : Env) (asked : Fraction) (F : Env) : Type 0 where
  pub same : asked ≡ z
  pub kept : Kept n E F
  pub located : AreLocated x F locals vs
  pub atom : HasAtom x F amount (w.Real z)
  pub positive : is_positive z ≡ true

module _ (ts : List BType) (b : Bound) (c : Context) (formed : IsFormed c.program) (p : Place) (own : IsOwn c p) (s : State) (sc : Scene) (f : FoldStmt) (typed : IsFold c f) where
  abbrev k : Kinds
  k = kinds_in c

  abbrev d : Predicate
  d = typed.predicate

  abbrev body : e.Assertion
  body = typed.body

  keys : slice_get c.program.layout.keys f.predicate ≡ Some d.params
  keys = keys_at c formed f.predicate d typed.exists

  body_typed : IsAssertion (predicate_context c.program d) body
  body_typed = predicate_body_of_typed c.program formed.typed f.predicate d body typed.exists typed.has_body

  abbrev testing : Located → Atom → stmt.BStmts
  testing l a = join l.sets (join a.sets (check_positive (label p f.place kind.Amount) a.expr))

  abbrev behind_amount : List Operand → Operand → Emitting ⊤
  behind_amount xs m = then_emit (located xs) (λ l. then_emit (atomic m) (λ a. then_emit (puts None (testing l a)) (λ u. closing_code k p f.predicate body l.locals a.expr)))

  module _ (n : ℕ) (xs : List Operand) (m : Operand) (E : Env) (coupled : IsCoupled b c n p s sc E) (full : length E ≡ length ts) (vs : List Value) (given : AreValues b n E xs d.params vs)
      (proper_given : All (IsProperValue b) vs) (key : Key) (is_key : Some key ≡ key_of vs) (z : Fraction) (asked : Holds b n m.expr E (w.Real z)) (proper : IsProperFraction b z) where
    abbrev l : Code Located
    l = located xs n

    abbrev a : Code Atom
    a = atomic m l.next

    abbrev x : ℕ
    x = a.next

    low : n ≤ x
    low = omega (arith, (located_counted xs).next n, (atomic_counted m).next l.next)

    paid_alike : (cs : List BChoice) → AreLocals ts n l.locals → AreLocals ts l.next a.locals →
        Alike (IsPaid n x l.value.locals a.value.expr vs z E) b (positive_amount sc f.place z) cs (brun ts b (testing l.value a.value) E cs)
    paid_alike cs l_locals a_locals =
        let before : n ≤ l.next = omega (arith, (located_counted xs).next n) in
        let set = located_set ts b n E xs d.params vs full given l_locals in
        let F = set.after in
        let put = atomic_set ts b l.next F (set.sets.kept.length ∙ full) m (w.Real z) (holds_more before set.sets.kept.same asked) a_locals in
        let G = put.after in
        let to = label p f.place kind.Amount in let check = check_positive to a.value.expr in
        let tested = check_positive_run ts b x to a.value.expr z G cs put.atom proper in
        alike_run (join_done ts b l.value.sets (join a.value.sets check) E F cs cs (set.sets.done cs) ∙ join_done ts b a.value.sets check F G cs cs (put.sets.done cs)) (
        unless_alike (not (is_positive z))
        (λ test. alike_run (tested.1 (false_from_not _ test)) (fails_alike p sc f.place kind.Amount coupled.at))
        (λ test. alike_run (tested.0 (true_from_not _ test)) (is_alike (record {
          same = refl;
          kept = kept_then {F = F} {G = G} before set.sets.kept put.sets.kept;
          located = located_more (omega (arith, (atomic_counted m).next l.next)) put.sets.kept.same set.located;
          atom = put.atom;
          positive = true_from_not _ test;
        }))))

    fits_key : FitsKey d.params key
    fits_key = subst (λ o. IfSome o (FitsKey d.params)) (sym is_key) (key_fits d.params vs (values_fit given proper_given))

    abbrev ending : Fraction → Run State
    ending z = then_do (consume b body s (with_variables vs sc) z s) (λ left. ended (closed b body s (with_variables vs sc) f.predicate key z f.place left))

    amount_alongside : IsReady ts None n (behind_amount xs m n).locals E →
        AreAlongside ⊤ b c.program.layout (IsChanged c p n (behind_amount xs m n).next E) (evaluating (positive_amount sc f.place z) ending) (λ cs. brun ts b (behind_amount xs m n).stmts E cs)
    amount_alongside ready =
        let last = closing_code k p f.predicate body l.value.locals a.value.expr x in
        let at_l : AreLocals ts l.next (a.locals ++ last.locals) = subst (λ i. AreLocals ts i (a.locals ++ last.locals)) ((located_counted xs).next n) (locals_rest ts n l.locals (a.locals ++ last.locals) ready.locals) in
        let at_x : AreLocals ts x last.locals = subst (λ i. AreLocals ts i last.locals) ((atomic_counted m).next l.next) (locals_rest ts l.next a.locals last.locals at_l) in
        quiet_first ⊤ ts b c.program.layout (located xs) (λ l. then_emit (atomic m) (λ a. then_emit (puts None (testing l a)) (λ u. closing_code k p f.predicate body l.locals a.expr))) n E (located_quiet xs n) (
        quiet_first ⊤ ts b c.program.layout (atomic m) (λ a. then_emit (puts None (testing l.value a)) (λ u. closing_code k p f.predicate body l.value.locals a.expr)) l.next E (atomic_quiet m l.next) (
        emit_alongside ⊤ ts b c.program.layout (puts None (testing l.value a.value)) (λ u. closing_code k p f.predicate body l.value.locals a.value.expr) x E (positive_amount sc f.place z) ending
        (λ cs. paid_alike cs (locals_first ts n l.locals (a.locals ++ last.locals) ready.locals) (locals_first ts l.next a.locals last.locals at_l))
        (λ asked F paid. same_alongside ⊤ b c.program.layout (ap ending paid.same) (
        weaken_alongside ⊤ b c.program.layout (λ u G changed. record { kept = kept_but_then {F = F} low paid.kept changed.kept; now = changed.now })
        (closing_alongside ts b c formed d p own s sc f.predicate body f.place keys body_typed x F (coupled_kept b c n x p s sc E F low paid.kept coupled) (paid.kept.length ∙ full) vs proper_given (values_fit given proper_given) key is_key fits_key
        l.value.locals paid.located a.value.expr z paid.atom paid.positive proper (record { awake = tt; full = paid.kept.length ∙ full; locals = at_x }))))))

  -- ---- the whole

  fold_sound : {n : ℕ} {E : Env} → FitsStore c.vars sc.store → IsCoupled b c n p s sc E → KeepsRun IsAny (IsGiven b c.program.layout) (IsSound b c.program.layout) (fold_instance b c.program f s sc)
  fold_sound fits coupled =
      let one = fold_instance_fits b c formed f s sc typed coupled.sound.fits (record { store = fits; old = coupled.old_sound.fits }) in
      let two = fold_instance_proper b c.program f s sc (program_proper b c.program formed) (exprs_literals _ _ (literals_proper b) c formed.typed typed.args) (typed_literals _ _ (literals_proper b) c formed.typed typed.amount)
      coupled.sound.proper (record { store = coupled.store; old = coupled.old_sound.proper }) in
      let three = fold_instance_sign b c.program f s sc coupled.sound.nonnegative in
      let first = both_kept {G = IsGiven b c.program.layout} (λ d given. (given.fits, given.proper)) one two in
      let all = both_kept {G = IsGiven b c.program.layout} (λ d given. (given, tt)) first three in
      any_run (λ d given. given) (λ u h. record { fits = h.0.0; proper = h.0.1; nonnegative = h.1 }) all

  changed_alongside : (n : ℕ) (E : Env) → IsCoupled b c n p s sc E → IsReady ts None n (fold_code k p f body n).locals E →
      AreAlongside ⊤ b c.program.layout (IsChanged c p n (fold_code k p f body n).next E) (fold_instance b c.program f s sc) (λ cs. brun ts b (fold_code k p f body n).stmts E cs)
  changed_alongside n E coupled ready =
      let first = codes k p None f.args in let second = code k p None f.amount in
      let y = first n in let n1 = y.next in let m = second n1 in let n2 = m.next in
      let last = behind_amount y.value m.value n2 in
      let counted = codes_counted k p None f.args in let counted2 = code_counted k p None f.amount in
      let low : n ≤ n1 = omega (arith, counted.next n) in let high : n1 ≤ n2 = omega (arith, counted2.next n1) in
      let no_perm = (predicate_of_typed c.program formed.typed f.predicate d typed.exists).params in
      emit_alongside ⊤ ts b c.program.layout first (λ xs. then_emit second (λ m. behind_amount xs m)) n E (values b f.args s sc) (λ vs.
      evaluating (perm_in b f.amount s sc) (λ q. evaluating (found (key_of vs)) (λ key. evaluating (found (body_of c.program f.predicate)) (λ body. evaluating (positive_amount sc f.place q) (λ q.
      then_do (consume b body s (with_variables vs sc) q s) (λ left. ended (closed b body s (with_variables vs sc) f.predicate key q f.place left)))))))
      (λ cs. kept_alike (proper_values b c formed coupled typed.args)
      ((arguments ts b c p None s sc f.args d.params formed typed.args).alike n E cs coupled (record { awake = tt; full = ready.full; locals = locals_first ts n y.locals (m.locals ++ last.locals) ready.locals })))
      (λ vs F h.
      let ready1 = ready_rest ts None n n1 y.locals (m.locals ++ last.locals) E F (counted.next n) h.0.kept ready in
      let coupled1 = coupled_kept b c n n1 p s sc E F low h.0.kept coupled in
      let key = key_exists d.params vs no_perm (values_fit h.0.values h.1) in
      emit_alongside ⊤ ts b c.program.layout second (λ m. behind_amount y.value m) n1 F (perm_in b f.amount s sc) (λ q.
      evaluating (found (key_of vs)) (λ key. evaluating (found (body_of c.program f.predicate)) (λ body. evaluating (positive_amount sc f.place q) (λ q.
      then_do (consume b body s (with_variables vs sc) q s) (λ left. ended (closed b body s (with_variables vs sc) f.predicate key q f.place left))))))
      (λ cs. perm_alike (λ w E h. h.0.typed) (kept_alike (proper_value b c formed coupled1 typed.amount)
      ((expression ts b c p None s sc f.amount ty.Perm formed typed.amount).alike n1 F cs coupled1 (record { awake = tt; full = ready1.full; locals = locals_first ts n1 m.locals last.locals ready1.locals }))))
      (λ z G o.
      let ready2 = ready_rest ts None n1 n2 m.locals last.locals F G (counted2.next n1) o.0.kept ready1 in
      same_alongside ⊤ b c.program.layout
      (evaluating_found (key_of vs) key.0 (λ key. evaluating (found (body_of c.program f.predicate)) (λ body. evaluating (positive_amount sc f.place z) (λ q.
      then_do (consume b body s (with_variables vs sc) q s) (λ left. ended (closed b body s (with_variables vs sc) f.predicate key q f.place left))))) (sym key.1)
      ∙ evaluating_found (body_of c.program f.predicate) body (λ body. evaluating (positive_amount sc f.place z) (λ q.
      then_do (consume b body s (with_variables vs sc) q s) (λ left. ended (closed b body s (with_variables vs sc) f.predicate key.0 q f.place left)))) (body_found c f typed)) (
      weaken_alongside ⊤ b c.program.layout (λ u H changed. record { kept = kept_but_then {F = F} low h.0.kept (kept_but_then {F = G} high o.0.kept changed.kept); now = changed.now })
      (amount_alongside n2 y.value m.value G (coupled_kept b c n1 n2 p s sc F G high o.0.kept coupled1) ready2.full vs (values_more high o.0.kept.same h.0.values) h.1 key.0 key.1 z (record { value = o.0.here }) o.1 ready2))))

  pub fold_alongside : FitsStore c.vars sc.store → (n : ℕ) (E : Env) → IsCoupled b c n p s sc E → IsReady ts None n (fold_code k p f body n).locals E →
      AreAlongside ⊤ b c.program.layout (IsFilled b c n (fold_code k p f body n).next p sc E) (fold_instance b c.program f s sc) (λ cs. brun ts b (fold_code k p f body n).stmts E cs)
  fold_alongside fits n E coupled ready =
      let next = (fold_code k p f body n).next in
      let low : n ≤ next = omega (arith, (fold_counted k p f body).next n) in
      law_alongside ⊤ b c.program.layout (fold_sound fits coupled) (λ u F sound changed. record { kept = changed.kept; coupled = changed_coupled b c n next p s sc E F own low coupled u sound changed }) (changed_alongside n E coupled ready)
