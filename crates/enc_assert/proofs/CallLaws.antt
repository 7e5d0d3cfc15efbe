-- The code that calls write by the types of locals is that by the types of the program, and a scale that is no atom is set first.
use Rattle.std.specs.Bool.{⊤}
use Rattle.std.proofs.Common.{◌≡◌, ◌≤◌, ℕ, ◌+◌, List, [], ◌∷◌, ◌++◌, length, None, Some, map, refl, ap, sym, subst, ◌∙◌, arith}
use Rattle.vb_value.specs.Bound.{Bound}
use Rattle.vb_value.specs.Fraction.{Fraction}
use Rattle.vb_value.specs.Layout.{Layout}
use Rattle.vb_value.specs.declared.values.Ty.{Ty}
use Rattle.vb_value.specs.declared.values.Ty.TheVariants as ty
use Rattle.viper_core.specs.Expr as e
use Rattle.viper_core.specs.Formed.{IsFormed}
use Rattle.viper_core.specs.Typing as y
use Rattle.viper_core.specs.Typing.{Context, IsAssertion}
use Rattle.viper_state.specs.State.{State}
use Rattle.viper_state.specs.Run.{Scene}
use Rattle.viper_state.specs.Fits.{FitsStore}
use Rattle.viper_meaning.specs.Assertions.{produce, consume}
use Rattle.viper_meaning.specs.Forgotten.{forget}
use Rattle.viper_meaning.specs.Run.{Run}
use Rattle.boogie_tree.specs.Expr as t
use Rattle.boogie_tree.specs.Program.{BType}
use Rattle.boogie_tree.specs.Stmt as s
use Rattle.boogie_tree.specs.Stmt.{BStmts}
use Rattle.boogie_tree.specs.Value.{BChoice, Real}
use Rattle.boogie_tree.specs.declared.exprs.BBase.TheVariants as base
use Rattle.boogie_meaning.specs.Run.{brun}
use Rattle.enc_expr.specs.Alike.{Kept, IsScale}
use Rattle.enc_expr.specs.Code.{Emitting, join, gives, then_emit, Guard, puts, guards}
use Rattle.enc_expr.specs.Coupling.{Env, HasMaps, IsSound, IsCoupled, AreLocals, IsReady}
use Rattle.enc_expr.specs.Kinds.{Kinds, kinds_in}
use Rattle.enc_expr.specs.Operators.{choose_code}
use Rattle.enc_expr.specs.Pieces.{Operand, atomic}
use Rattle.enc_expr.specs.Place.{Maps, Place, number}
use Rattle.enc_expr.specs.ReadOff.{kinds_at, value_type, HasNumbers}
use Rattle.enc_expr.specs.Typed.{HasPlaceTypes}
use Rattle.enc_expr.proofs.AtomLaws.{atomic_set}
use Rattle.enc_expr.proofs.CodeLaws.{gives_counted, then_counted, puts_counted, atomic_counted}
use Rattle.enc_expr.proofs.FrameLaws.{locals_first, locals_rest, kept_but_then, coupled_kept, maps_kept}
use Rattle.enc_expr.proofs.ReadOffLaws.{spelled, spelled_types, spelled_kinds, AreNamed, code_same, codes_same, amount_same, kinds_read, variables_read}
use Rattle.enc_expr.proofs.RunLaws.{join_skip, join_done}
use Rattle.enc_expr.proofs.Simulated.{IsCounted}
use Rattle.enc_expr.proofs.UnfoldingLaws.{atomic_quiet}
use Rattle.enc_assert.specs.Alongside.{AreAlongside}
use Rattle.enc_assert.specs.Calls.{scale_code, produce_call, consume_call, forget_call, IsScaling}
use Rattle.enc_assert.specs.Encoding.{field_target, instance_target, produce_code, consume_code, forget_map, forget_heaps, forget_contents, forget_code}
use Rattle.enc_assert.specs.Held.{HasPlaces, IsGrowing, IsShrinking, IsForgetting, IsProduced, IsConsumed, IsForgotten}
use Rattle.enc_assert.proofs.AlongsideLaws.{run_alongside, weaken_alongside}
use Rattle.enc_assert.proofs.ConsumeSimulation.{assertion_consumed}
use Rattle.enc_assert.proofs.ForgetSimulation.{forgotten_alongside}
use Rattle.enc_assert.proofs.ProduceSimulation.{assertion_produced}
use Rattle.enc_assert.proofs.WalkLaws.{Blocks, amount_walk, walk, produce_blocks, consume_blocks, produce_walks, consume_walks}

-- ---- types that are read off

module _ (c : Context) (vs : List Ty) (p : Place) (w : Blocks) (formed : IsFormed c.program) (named : AreNamed c vs) where
  walk_same : (g : Guard) (a : e.Assertion) → IsAssertion c a → walk (spelled_kinds c vs) p w g a ≡ walk (kinds_in c) p w g a
  walk_same g (e.Fact a at) (y.fact h) = λ i. then_emit (code_same c vs p g a ty.Bool formed h named i) (λ x. puts g (w.fact at x.expr))
  walk_same g (e.Acc a f m at) (y.access h there k) = λ i. then_emit (code_same c vs p g a ty.Ref formed h named i) (λ x. then_emit (amount_same c vs p g m formed k named i) (λ z.
      then_emit (field_target f x) (amount_walk w g at m z)))
  walk_same g (e.Inst q args m at) (y.instance d there h k) = λ i. then_emit (codes_same c vs p g args d.params formed h named i) (λ xs. then_emit (amount_same c vs p g m formed k named i) (λ z.
      then_emit (instance_target q xs) (amount_walk w g at m z)))
  walk_same g (e.And a d) (y.both h k) = λ i. then_emit (walk_same g a h i) (λ u. walk_same g d k i)
  walk_same g (e.Implies a d) (y.implied h k) = λ i. then_emit (code_same c vs p g a ty.Bool formed h named i) (λ x. then_emit (guards g x.expr) (λ m. walk_same (Some m) d k i))
  walk_same g (e.ChooseAssertion a d f) (y.chosen h k l) = λ i. then_emit (code_same c vs p g a ty.Bool formed h named i) (λ x.
      choose_code g x.expr (λ m. walk_same m d k i) (λ m. walk_same m f l i) (λ m u v. tt))

contents_same : (m : Maps) (keys : List (List Ty)) (i : ℕ) → forget_contents m (map spelled keys) i ≡ forget_contents m keys i
contents_same m [] i = refl
contents_same m (us ∷ keys) i = λ j. then_emit (forget_map (record { keys = spelled_types us j; base = base.Snap }) (number m.amount i) (number m.content i)) (λ x. contents_same m keys (i + 1) j)

module _ (c : Context) (p : Place) (ts : List BType) (h : HasPlaceTypes c p ts) (many : HasNumbers c p) where
  abbrev vars : List Ty
  vars = map (value_type ts) p.vars

  walk_read : (w : Blocks) (g : Guard) (a : e.Assertion) → IsFormed c.program → IsAssertion c a → walk (kinds_at p ts) p w g a ≡ walk (kinds_in c) p w g a
  walk_read w g a formed typed = ap (λ (k : Kinds). walk k p w g a) (kinds_read c p ts h many) ∙ walk_same c vars p w formed (variables_read c p ts h many) g a typed

  pub produce_read : (g : Guard) (scale : t.BExpr) (a : e.Assertion) → IsFormed c.program → IsAssertion c a → produce_code (kinds_at p ts) p g scale a ≡ produce_code (kinds_in c) p g scale a
  produce_read g scale a formed typed = produce_walks (kinds_at p ts) p scale g a ∙ walk_read (produce_blocks p scale) g a formed typed ∙ sym (produce_walks (kinds_in c) p scale g a)

  pub consume_read : (left : Maps) (g : Guard) (scale : t.BExpr) (a : e.Assertion) → IsFormed c.program → IsAssertion c a → consume_code (kinds_at p ts) p left g scale a ≡ consume_code (kinds_in c) p left g scale a
  consume_read left g scale a formed typed = consume_walks (kinds_at p ts) p scale left g a ∙ walk_read (consume_blocks p left scale) g a formed typed ∙ sym (consume_walks (kinds_in c) p scale left g a)

  pub forget_read : forget_call ts p ≡ forget_code c.program.layout p.now
  forget_read = ap (λ (k : Kinds). forget_code k.layout p.now) (kinds_read c p ts h many)
      ∙ (λ i. then_emit (forget_heaps p.now c.program.layout.fields 0) (λ x. contents_same p.now c.program.layout.keys 0 i))

-- ---- a scale

scale_counted : (x : t.BExpr) → IsCounted (scale_code x)
scale_counted x = then_counted (atomic (record { expr = x; base = base.Real })) (λ a. then_emit (puts None a.sets) (λ u. gives a.expr)) (atomic_counted (record { expr = x; base = base.Real }))
    (λ a. then_counted (puts None a.sets) (λ u. gives a.expr) (puts_counted None a.sets) (λ u. gives_counted a.expr))

-- the scale is an atom, and nothing but new locals was set
record IsScaled (ts : List BType) (b : Bound) (n : ℕ) (x : t.BExpr) (q : Fraction) (E : Env) : Type 0 where
  after : Env
  done : (cs : List BChoice) → brun ts b (scale_code x n).stmts E cs ≡ brun ts b s.skip after cs
  kept : Kept n E after
  low : n ≤ (scale_code x n).next
  scale : IsScale b (scale_code x n).next after (scale_code x n).value q

module _ (ts : List BType) (b : Bound) (n : ℕ) (E : Env) (x : t.BExpr) (q : Fraction) (full : length E ≡ length ts) (h : IsScaling b n E x q) where
  abbrev real : Operand
  real = record { expr = x; base = base.Real }

  is_scaled : AreLocals ts n (scale_code x n).locals → IsScaled ts b n x q E
  is_scaled locals = let a = atomic real n in
      let set = atomic_set ts b n E full real (Real q) (record { value = h.value }) (locals_first ts n a.locals ([] ++ []) locals) in
      let stmts : (scale_code x n).stmts ≡ a.value.sets = ap (λ (xs : BStmts). join xs (join a.value.sets s.skip)) (atomic_quiet real n) ∙ join_skip a.value.sets in
      record {
        after = set.after;
        done = λ cs. ap (λ (xs : BStmts). brun ts b xs E cs) stmts ∙ set.sets.done cs;
        kept = set.sets.kept;
        low = omega (arith, (scale_counted x).next n);
        scale = record { atom = set.atom; positive = h.positive; proper = h.proper };
      }

-- what goes on with the scale begins behind the statements that set it
module _ (W : Type 0) (layout : Layout) (ts : List BType) (b : Bound) (n : ℕ) (E : Env) (x : t.BExpr) (q : Fraction) (h : IsScaling b n E x q) (go : t.BExpr → Emitting ⊤) where
  behind : {X : Type 0} {Q : X → Env → Type 0} {v : Run X} → IsReady ts None n (then_emit (scale_code x) go n).locals E →
      (let m = scale_code x n in let o = go m.value m.next in (set : IsScaled ts b n x q E) → IsReady ts None m.next o.locals set.after → AreAlongside W b layout Q v (λ cs. brun ts b o.stmts set.after cs)) →
      AreAlongside W b layout Q v (λ cs. brun ts b (then_emit (scale_code x) go n).stmts E cs)
  behind ready k = let m = scale_code x n in let o = go m.value m.next in
      let set = is_scaled ts b n E x q ready.full h (locals_first ts n m.locals o.locals ready.locals) in
      let rest : AreLocals ts m.next o.locals = subst (λ (i : ℕ). AreLocals ts i o.locals) ((scale_counted x).next n) (locals_rest ts n m.locals o.locals ready.locals) in
      run_alongside W b layout (λ cs. join_done ts b m.stmts o.stmts E set.after cs cs (set.done cs)) (k set (record { awake = tt; full = set.kept.length ∙ ready.full; locals = rest }))

-- ---- what calls promise

module _ (ts us : List BType) (b : Bound) (c : Context) (p : Place) (formed : IsFormed c.program) (sc : Scene) (E : Env) (x : t.BExpr) (k : Fraction) (a : e.Assertion)
    (typed : IsAssertion c a) (h : HasPlaceTypes c p us) (many : HasNumbers c p) (fits : FitsStore c.vars sc.store) (scales : IsScaling b (length us) E x k) where
  abbrev n : ℕ
  n = length us

  abbrev producing : t.BExpr → Emitting ⊤
  producing q = produce_code (kinds_in c) p None q a

  abbrev consuming : Maps → t.BExpr → Emitting ⊤
  consuming left q = consume_code (kinds_in c) p left None q a

  pub produced_call : (st : State) → IsCoupled b c n p st sc E → IsGrowing c p → (let m = produce_call us p x a n in IsReady ts None n m.locals E →
      AreAlongside ⊤ b c.program.layout (IsProduced b c n m.next p sc E) (produce b a sc k st) (λ cs. brun ts b m.stmts E cs))
  produced_call st coupled own = subst (λ (m : Emitting ⊤). IsReady ts None n (m n).locals E → AreAlongside ⊤ b c.program.layout (IsProduced b c n (m n).next p sc E) (produce b a sc k st) (λ cs. brun ts b (m n).stmts E cs))
      (sym same) (λ ready. behind ⊤ c.program.layout ts b n E x k scales producing ready (λ set more.
      weaken_alongside ⊤ b c.program.layout (λ w F after. record { kept = kept_but_then set.low set.kept after.kept; coupled = after.coupled })
      ((assertion_produced ts b c formed p own sc fits (scale_code x n).value k None st a typed).alongside (scale_code x n).next set.after
      (record { coupled = coupled_kept b c n (scale_code x n).next p st sc E set.after set.low set.kept coupled; scales = set.scale }) more)))
    where
      same : produce_call us p x a ≡ then_emit (scale_code x) producing
      same = λ i. then_emit (scale_code x) (λ q. produce_read c p us h many None q a formed typed i)

  pub consumed_call : (left : Maps) (st u : State) → IsCoupled b c n p st sc E → HasMaps c.program.layout n left u E → IsSound b c.program.layout u → IsShrinking c p left → (let m = consume_call us p left x a n in
      IsReady ts None n m.locals E → AreAlongside ⊤ b c.program.layout (IsConsumed b c n m.next left E) (consume b a st sc k u) (λ cs. brun ts b m.stmts E cs))
  consumed_call left st u coupled maps sound own = subst (λ (m : Emitting ⊤). IsReady ts None n (m n).locals E → AreAlongside ⊤ b c.program.layout (IsConsumed b c n (m n).next left E) (consume b a st sc k u) (λ cs. brun ts b (m n).stmts E cs))
      (sym same) (λ ready. behind ⊤ c.program.layout ts b n E x k scales (consuming left) ready (λ set more.
      weaken_alongside ⊤ b c.program.layout (λ w F after. record { kept = kept_but_then set.low set.kept after.kept; maps = after.maps; sound = after.sound })
      ((assertion_consumed ts b c formed p left own st sc fits (scale_code x n).value k None u a typed).alongside (scale_code x n).next set.after
      (record { coupled = coupled_kept b c n (scale_code x n).next p st sc E set.after set.low set.kept coupled; maps = maps_kept set.low set.kept maps; sound = sound; scales = set.scale }) more)))
    where
      same : consume_call us p left x a ≡ then_emit (scale_code x) (consuming left)
      same = λ i. then_emit (scale_code x) (λ q. consume_read c p us h many left None q a formed typed i)

pub forgotten_call : (ts us : List BType) (b : Bound) (c : Context) (p : Place) (st : State) (sc : Scene) (E : Env) → HasPlaceTypes c p us → HasNumbers c p → IsCoupled b c (length us) p st sc E → IsForgetting c p → length E ≡ length ts →
    (let m = forget_call us p (length us) in AreLocals ts (length us) m.locals →
    AreAlongside (HasPlaces c.program.layout) b c.program.layout (IsForgotten b c (length us) m.next p sc E) (forget c.program.layout st) (λ cs. brun ts b m.stmts E cs))
forgotten_call ts us b c p st sc E h many coupled own full = let n = length us in
    subst (λ (m : Emitting ⊤). AreLocals ts n (m n).locals → AreAlongside (HasPlaces c.program.layout) b c.program.layout (IsForgotten b c n (m n).next p sc E) (forget c.program.layout st) (λ cs. brun ts b (m n).stmts E cs))
    (sym (forget_read c p us h many)) (forgotten_alongside ts b c p own st sc n E coupled full)
