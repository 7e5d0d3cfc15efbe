-- The code of `unfold` ends as it does.
use Rattle.std.specs.Bool.{⊤}
use Rattle.std.proofs.Common.{◌≡◌, ◌+◌, ◌≤◌, ◌++◌, ℕ, List, [], ◌∷◌, All, Some, None, slice_get, refl, sym, subst, arith}
use Rattle.std.proofs.lemmas.Option.{slice_get_within}
use Rattle.vb_value.specs.Bound.{Bound}
use Rattle.vb_value.specs.Fraction.{Fraction, IsProperFraction}
use Rattle.vb_value.specs.Value.{IsProperValue}
use Rattle.vb_value.specs.declared.values.Ty.TheVariants as ty
use Rattle.vb_value.specs.declared.values.Value.{Value}
use Rattle.viper_core.specs.Expr as e
use Rattle.viper_core.specs.Formed.{IsFormed, predicate_context}
use Rattle.viper_core.specs.Program.{Predicate}
use Rattle.viper_core.specs.Stmt.{FoldStmt}
use Rattle.viper_core.specs.Typing.{Context, IsFold}
use Rattle.viper_core.proofs.FormedLaws.{predicate_of_typed, predicate_body_of_typed}
use Rattle.viper_state.specs.Run.{Scene, with_variables}
use Rattle.viper_state.specs.State.{Key, State, content_at}
use Rattle.viper_meaning.specs.Contents.{body_of, unfold_instance}
use Rattle.viper_meaning.specs.Ends.{then_with, found}
use Rattle.viper_meaning.specs.Places.{key_of, taken}
use Rattle.viper_meaning.specs.Value.{values, perm_in, opened}
use Rattle.viper_meaning.proofs.FoldLaws.{body_found}
use Rattle.viper_meaning.proofs.TypedLaws.{keys_at}
use Rattle.boogie_tree.specs.Program.{BType}
use Rattle.boogie_tree.specs.Stmt as stmt
use Rattle.boogie_tree.specs.Value as w
use Rattle.boogie_tree.specs.Value.{BChoice}
use Rattle.boogie_tree.specs.Values.{plain_type}
use Rattle.boogie_tree.specs.declared.exprs.BBase.TheVariants as base
use Rattle.boogie_meaning.specs.Run.{brun}
use Rattle.enc_expr.specs.Place.{Place, with_vars}
use Rattle.enc_expr.specs.Kinds.{Kinds, kinds_in, body_kinds}
use Rattle.enc_expr.specs.Code.{Emitting, join, then_emit, declares, puts}
use Rattle.enc_expr.specs.Pieces.{Operand, Atom, Located, atomic, located, index}
use Rattle.enc_expr.specs.Encoding.{code, codes, body_code, taking}
use Rattle.enc_expr.specs.Coupling.{Env, IsCoupled, IsOwn, AreLocals, IsReady}
use Rattle.enc_expr.specs.Alike.{Alike, AreValues, IsFilled}
use Rattle.enc_expr.proofs.Simulated.{Fills}
use Rattle.enc_expr.proofs.AlikeLaws.{weaken_alike, kept_alike}
use Rattle.enc_expr.proofs.AtomLaws.{Holds, values_more}
use Rattle.enc_expr.proofs.CodeLaws.{code_counted, codes_counted, atomic_counted, located_counted}
use Rattle.enc_expr.proofs.FrameLaws.{kept_but_then, coupled_kept, locals_first, locals_rest, ready_rest}
use Rattle.enc_expr.proofs.InsideLaws.{values_fit, place_opened}
use Rattle.enc_expr.proofs.OpeningLaws.{found_alike}
use Rattle.enc_expr.proofs.Simulation as simulation
use Rattle.enc_expr.proofs.Simulation.{expression, arguments, proper_value, proper_values}
use Rattle.enc_expr.proofs.UnfoldingLaws.{emit_alike, quiet_alike, located_quiet, atomic_quiet, perm_alike, key_exists, body_opened}
use Rattle.enc_fold.specs.Encoding.{unfold_code}
use Rattle.enc_fold.proofs.ClosingLaws.{kinds_of_body}

module _ (ts : List BType) (b : Bound) (c : Context) (formed : IsFormed c.program) (p : Place) (own : IsOwn c p) (s : State) (sc : Scene) (f : FoldStmt) (typed : IsFold c f) where
  abbrev k : Kinds
  k = kinds_in c

  abbrev d : Predicate
  d = typed.predicate

  abbrev body : e.Assertion
  body = typed.body

  abbrev snap : BType
  snap = plain_type base.Snap

  keys : slice_get c.program.layout.keys f.predicate ≡ Some d.params
  keys = keys_at c formed f.predicate d typed.exists

  abbrev opening : Located → Atom → ℕ → stmt.BStmts
  opening l a from = join l.sets (join a.sets (taking p p.now stmt.skip f.predicate (index l.locals) a.expr from f.place))

  abbrev producing : Located → Atom → ℕ → Emitting ⊤
  producing l a from = body_code (body_kinds k f.predicate) (with_vars l.locals p) None a.expr body from

  abbrev behind_amount : List Operand → Operand → Emitting ⊤
  behind_amount xs m = then_emit (located xs) (λ l. then_emit (atomic m) (λ a. then_emit (declares snap) (λ from. then_emit (puts None (opening l a from)) (λ u. producing l a from))))

  -- what is unfolded once arguments and amount are known
  amount_alike : (n : ℕ) (xs : List Operand) (m : Operand) (E : Env) (cs : List BChoice) → IsCoupled b c n p s sc E → (vs : List Value) → AreValues b n E xs d.params vs → All (IsProperValue b) vs → (key : Key) → Some key ≡ key_of vs →
      (z : Fraction) → Holds b n m.expr E (w.Real z) → IsProperFraction b z → IsReady ts None n (behind_amount xs m n).locals E →
      Alike (IsFilled b c n (behind_amount xs m n).next p sc E) b (then_with (taken b sc s f.predicate key z f.place) (λ less. then_with (found (content_at s f.predicate key)) (λ x. opened b body x less (with_variables vs sc) z))) cs
      (brun ts b (behind_amount xs m n).stmts E cs)
  amount_alike n xs m E cs coupled vs given proper_given key is_key z asked proper ready =
      let l = located xs n in let a = atomic m l.next in let x = a.next in
      let last = producing l.value a.value x (x + 1) in
      let rest = snap ∷ ([] ++ last.locals) in
      let at_l : AreLocals ts l.next (a.locals ++ rest) = subst (λ i. AreLocals ts i (a.locals ++ rest)) ((located_counted xs).next n) (locals_rest ts n l.locals (a.locals ++ rest) ready.locals) in
      let at_x : AreLocals ts x rest = subst (λ i. AreLocals ts i rest) ((atomic_counted m).next l.next) (locals_rest ts l.next a.locals rest at_l) in
      let low : n ≤ x = omega (arith, (located_counted xs).next n, (atomic_counted m).next l.next) in
      let fits = values_fit given proper_given in
      quiet_alike ts b (located xs) (λ l. then_emit (atomic m) (λ a. then_emit (declares snap) (λ from. then_emit (puts None (opening l a from)) (λ u. producing l a from)))) n E cs (located_quiet xs n) (
      quiet_alike ts b (atomic m) (λ a. then_emit (declares snap) (λ from. then_emit (puts None (opening l.value a from)) (λ u. producing l.value a from))) l.next E cs (atomic_quiet m l.next) (
      quiet_alike ts b (declares snap) (λ from. then_emit (puts None (opening l.value a.value from)) (λ u. producing l.value a.value from)) x E cs refl (
      emit_alike ts b (puts None (opening l.value a.value x)) (λ u. producing l.value a.value x) (x + 1) E cs (taken b sc s f.predicate key z f.place) (λ less. then_with (found (content_at s f.predicate key)) (λ x. opened b body x less (with_variables vs sc) z))
      (place_opened ts b c d p None s sc f.predicate key vs z f.place n xs m E cs own coupled tt ready.full (locals_first ts n l.locals (a.locals ++ rest) ready.locals) (locals_first ts l.next a.locals rest at_l)
      (slice_get_within ts x snap at_x.0) keys given proper_given is_key asked proper)
      (λ less F left o. found_alike (content_at s f.predicate key) o.content (λ x. opened b body x less (with_variables vs sc) z) o.there (
      let fills : Fills ts b (predicate_context c.program d) (with_vars l.value.locals p) None less (with_variables vs sc) a.value.expr z x o.content (producing l.value a.value x) (opened b body o.content less (with_variables vs sc) z) =
      subst (λ kinds. Fills ts b (predicate_context c.program d) (with_vars l.value.locals p) None less (with_variables vs sc) a.value.expr z x o.content (body_code kinds (with_vars l.value.locals p) None a.value.expr body x)
      (opened b body o.content less (with_variables vs sc) z)) (kinds_of_body c f.predicate d keys)
      (simulation.body ts b (predicate_context c.program d) (with_vars l.value.locals p) None less (with_variables vs sc) a.value.expr z body o.content x formed
      (predicate_body_of_typed c.program formed.typed f.predicate d body typed.exists typed.has_body) refl own fits) in
      weaken_alike (λ u G h. h.0) (body_opened ts b c d p None s sc f.predicate body p.now own n x l.value.locals vs z a.value.expr E F less key left coupled low tt ready.full o fills at_x.1))))))

  pub unfold_alike : (n : ℕ) (E : Env) (cs : List BChoice) → IsCoupled b c n p s sc E → IsReady ts None n (unfold_code k p f body n).locals E →
      Alike (IsFilled b c n (unfold_code k p f body n).next p sc E) b (unfold_instance b c.program f s sc) cs (brun ts b (unfold_code k p f body n).stmts E cs)
  unfold_alike n E cs coupled ready =
      let first = codes k p None f.args in let second = code k p None f.amount in
      let y = first n in let n1 = y.next in let m = second n1 in let n2 = m.next in
      let last = behind_amount y.value m.value n2 in
      let counted = codes_counted k p None f.args in let counted2 = code_counted k p None f.amount in
      let low : n ≤ n1 = omega (arith, counted.next n) in let high : n1 ≤ n2 = omega (arith, counted2.next n1) in
      let no_perm = (predicate_of_typed c.program formed.typed f.predicate d typed.exists).params in
      emit_alike ts b first (λ xs. then_emit second (λ m. behind_amount xs m)) n E cs (values b f.args s sc) (λ vs.
      then_with (perm_in b f.amount s sc) (λ q. then_with (found (key_of vs)) (λ key. then_with (found (body_of c.program f.predicate)) (λ body. then_with (taken b sc s f.predicate key q f.place) (λ less.
      then_with (found (content_at s f.predicate key)) (λ x. opened b body x less (with_variables vs sc) q))))))
      (kept_alike (proper_values b c formed coupled typed.args)
      ((arguments ts b c p None s sc f.args d.params formed typed.args).alike n E cs coupled (record { awake = tt; full = ready.full; locals = locals_first ts n y.locals (m.locals ++ last.locals) ready.locals })))
      (λ vs F rest h.
      let ready1 = ready_rest ts None n n1 y.locals (m.locals ++ last.locals) E F (counted.next n) h.0.kept ready in
      let coupled1 = coupled_kept b c n n1 p s sc E F low h.0.kept coupled in
      let key = key_exists d.params vs no_perm (values_fit h.0.values h.1) in
      emit_alike ts b second (λ m. behind_amount y.value m) n1 F rest (perm_in b f.amount s sc) (λ q.
      then_with (found (key_of vs)) (λ key. then_with (found (body_of c.program f.predicate)) (λ body. then_with (taken b sc s f.predicate key q f.place) (λ less.
      then_with (found (content_at s f.predicate key)) (λ x. opened b body x less (with_variables vs sc) q)))))
      (perm_alike (λ w E h. h.0.typed) (kept_alike (proper_value b c formed coupled1 typed.amount)
      ((expression ts b c p None s sc f.amount ty.Perm formed typed.amount).alike n1 F rest coupled1 (record { awake = tt; full = ready1.full; locals = locals_first ts n1 m.locals last.locals ready1.locals }))))
      (λ z G left o.
      let ready2 = ready_rest ts None n1 n2 m.locals last.locals F G (counted2.next n1) o.0.kept ready1 in
      found_alike (key_of vs) key.0 (λ key. then_with (found (body_of c.program f.predicate)) (λ body. then_with (taken b sc s f.predicate key z f.place) (λ less.
      then_with (found (content_at s f.predicate key)) (λ x. opened b body x less (with_variables vs sc) z)))) (sym key.1) (
      found_alike (body_of c.program f.predicate) body (λ body. then_with (taken b sc s f.predicate key.0 z f.place) (λ less.
      then_with (found (content_at s f.predicate key.0)) (λ x. opened b body x less (with_variables vs sc) z))) (body_found c f typed) (
      weaken_alike (λ u H filled. record { kept = kept_but_then {F = F} low h.0.kept (kept_but_then {F = G} high o.0.kept filled.kept); coupled = filled.coupled })
      (amount_alike n2 y.value m.value G left (coupled_kept b c n1 n2 p s sc F G high o.0.kept coupled1) vs (values_more high o.0.kept.same h.0.values) h.1 key.0 key.1 z (record { value = o.0.here }) o.1 ready2)))))
