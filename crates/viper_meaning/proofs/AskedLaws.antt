-- What each run asks for: any choice that it did not ask for blocks it at once.
use Rattle.std.proofs.Common.{◌≡◌, ◌⊎◌, inl, inr, refl, ap, ℕ, Bool, true, false, Option, Some, None, List, [], ◌∷◌, ◌++◌, slice_get, if◌then◌else◌}
use Rattle.std.specs.Bool.{Decides}
use Rattle.vb_base.specs.declared.places.Pos.{Pos}
use Rattle.vb_value.specs.Bound.{Bound}
use Rattle.vb_value.specs.Fraction.{Fraction, write}
use Rattle.vb_value.specs.Layout.{Layout}
use Rattle.vb_value.specs.Value.{type_of, same_type}
use Rattle.vb_value.specs.declared.values.Ty.{Ty}
use Rattle.vb_value.specs.declared.values.Value.{Value}
use Rattle.vb_value.specs.declared.values.Value.TheVariants as v
use Rattle.vb_value.proofs.ReducedLaws.{Decides-same_type}
use Rattle.viper_core.specs.Expr as t
use Rattle.viper_core.specs.Program.{Program, Method, Body}
use Rattle.viper_core.specs.Stmt as s
use Rattle.viper_core.specs.declared.programs.Unit as unit
use Rattle.viper_core.specs.declared.programs.Unit.TheVariants as u
use Rattle.viper_state.specs.Choice as choice
use Rattle.viper_state.specs.Choice.{Choice}
use Rattle.viper_state.specs.Event as event
use Rattle.viper_state.specs.Event.{Event}
use Rattle.viper_state.specs.FitsTest.{fits_memo}
use Rattle.viper_state.specs.Run.{Opening, Scene, with_variables}
use Rattle.viper_state.specs.State.{Memo, State, with_value, with_mask, empty_state}
use Rattle.viper_state.proofs.FitsTestLaws.{Decides-fits_memo}
use Rattle.viper_meaning.specs.Asked.{AWay, AValue, AnAmount, AReference, AMemo, IsAsked, Asks, at_end, later}
use Rattle.viper_meaning.specs.Assertions.{place_in, instance_in, produce_amount, produce, something_held, consume_amount, consume}
use Rattle.viper_meaning.specs.Contents.{body_of, positive_amount, fold_instance, unfold_instance}
use Rattle.viper_meaning.specs.Ends as m
use Rattle.viper_meaning.specs.Ends.{Evaluated, ends, is, blocks, found}
use Rattle.viper_meaning.specs.Forgotten.{memo_in, forget}
use Rattle.viper_meaning.specs.Places.{key_of}
use Rattle.viper_meaning.specs.Resource.{Resource}
use Rattle.viper_meaning.specs.Run.{Run, ended, before, noting, evaluating, then_do, given, taking, amount_in, taking_amount}
use Rattle.viper_meaning.specs.Statements.{branch_in, fresh_in, value_in, taking_branch, taking_fresh, taking_value, taking_values, taking_state, in_vain, Configuration, Activation, scene, with_state, with_variable, stored, produce_all, consume_all, exhale_all, field_written, is_fresh, created, called, after_loop, run_turn, run_loop, run_stmt, run_block}
use Rattle.viper_meaning.specs.Units.{first_store, check_postcondition, run_method, start_method, run_of_unit, unit_run}
use Rattle.viper_meaning.specs.Value.{value, values, truth_in, perm_in, ref_in}

-- ---- one lemma for each way to go on

still_blocked : {X Y : Type 0} {P : Type 0} (n : Run X) (go : X → Run Y) → P ⊎ (n ≡ ended blocks) → P ⊎ (then_do n go ≡ ended blocks)
still_blocked n go (inl i) = inl i
still_blocked n go (inr e) = inr (ap (λ r. then_do r go) e)

-- what a test decides
asked_where : {K X : Type 0} {P : Type 0} (b : Bool) (k : K) (go : K → Run X) → Decides b P → P ⊎ (given (if b then Some k else None) go ≡ ended blocks)
asked_where true k go d = inl (d.0 refl)
asked_where false k go d = inr refl

module _ {l : Layout} where
  asks_before : {X : Type 0} (es : List Event) {r : Run X} → Asks l r → Asks l (before es r)
  asks_before es at_end = at_end
  asks_before es (later w h k) = later w h k

  pub asks_evaluating : {X Y : Type 0} (e : Evaluated X) {go : X → Run Y} → ((x : X) → Asks l (go x)) → Asks l (evaluating e go)
  asks_evaluating (ends es (m.Is x)) g = asks_before es (g x)
  asks_evaluating (ends es (m.Fails f)) g = at_end
  asks_evaluating (ends es m.Blocked) g = at_end
  asks_evaluating (ends es (m.Over at)) g = at_end

  pub asks_then : {X Y : Type 0} {r : Run X} {go : X → Run Y} → Asks l r → ((x : X) → Asks l (go x)) → Asks l (then_do r go)
  asks_then (at_end {e = e}) g = asks_evaluating e g
  asks_then {go = go} (later {next = next} w h k) g = later w (λ c. still_blocked (next c) go (h c)) (λ c i. asks_then (k c i) g)

  pub asks_if : {X : Type 0} (b : Bool) {r n : Run X} → Asks l r → Asks l n → Asks l (if b then r else n)
  asks_if true h g = h
  asks_if false h g = g

  asks_amount : {X : Type 0} {go : Fraction → Run X} → ((q : Fraction) → Asks l (go q)) → Asks l (taking_amount go)
  asks_amount {X} {go} g = later AnAmount by_kind goes_on
    where
      by_kind : (c : Choice) → IsAsked l AnAmount c ⊎ (given (amount_in c) (λ q. noting (event.Wild q) (go q)) ≡ ended blocks)
      by_kind (choice.Amount q) = inl tt
      by_kind (choice.Branch b) = inr refl
      by_kind (choice.Took v) = inr refl
      by_kind (choice.Fresh r) = inr refl
      by_kind (choice.Filled memo) = inr refl

      goes_on : (c : Choice) → IsAsked l AnAmount c → Asks l (given (amount_in c) (λ q. noting (event.Wild q) (go q)))
      goes_on (choice.Amount q) i = asks_before (event.Wild q ∷ []) (g q)
      goes_on (choice.Branch b) i = at_end
      goes_on (choice.Took v) i = at_end
      goes_on (choice.Fresh r) i = at_end
      goes_on (choice.Filled memo) i = at_end

  asks_branch : {X : Type 0} {go : Bool → Run X} → ((b : Bool) → Asks l (go b)) → Asks l (taking_branch go)
  asks_branch {X} {go} g = later AWay by_kind goes_on
    where
      by_kind : (c : Choice) → IsAsked l AWay c ⊎ (given (branch_in c) (λ b. noting (event.Branch b) (go b)) ≡ ended blocks)
      by_kind (choice.Branch b) = inl tt
      by_kind (choice.Amount q) = inr refl
      by_kind (choice.Took v) = inr refl
      by_kind (choice.Fresh r) = inr refl
      by_kind (choice.Filled memo) = inr refl

      goes_on : (c : Choice) → IsAsked l AWay c → Asks l (given (branch_in c) (λ b. noting (event.Branch b) (go b)))
      goes_on (choice.Branch b) i = asks_before (event.Branch b ∷ []) (g b)
      goes_on (choice.Amount q) i = at_end
      goes_on (choice.Took v) i = at_end
      goes_on (choice.Fresh r) i = at_end
      goes_on (choice.Filled memo) i = at_end

  asks_fresh : {X : Type 0} {go : ℕ → Run X} → ((r : ℕ) → Asks l (go r)) → Asks l (taking_fresh go)
  asks_fresh {X} {go} g = later AReference by_kind goes_on
    where
      by_kind : (c : Choice) → IsAsked l AReference c ⊎ (given (fresh_in c) (λ r. noting (event.Fresh r) (go r)) ≡ ended blocks)
      by_kind (choice.Fresh r) = inl tt
      by_kind (choice.Amount q) = inr refl
      by_kind (choice.Took v) = inr refl
      by_kind (choice.Branch b) = inr refl
      by_kind (choice.Filled memo) = inr refl

      goes_on : (c : Choice) → IsAsked l AReference c → Asks l (given (fresh_in c) (λ r. noting (event.Fresh r) (go r)))
      goes_on (choice.Fresh r) i = asks_before (event.Fresh r ∷ []) (g r)
      goes_on (choice.Amount q) i = at_end
      goes_on (choice.Took v) i = at_end
      goes_on (choice.Branch b) i = at_end
      goes_on (choice.Filled memo) i = at_end

  asks_where : {K X : Type 0} (b : Bool) (k : K) (go : K → Run X) → Asks l (go k) → Asks l (given (if b then Some k else None) go)
  asks_where true k go h = h
  asks_where false k go h = at_end

  asks_value : {X : Type 0} (w : Ty) {go : Value → Run X} → ((v : Value) → Asks l (go v)) → Asks l (taking_value w go)
  asks_value {X} w {go} g = later (AValue w) by_kind goes_on
    where
      by_kind : (c : Choice) → IsAsked l (AValue w) c ⊎ (given (value_in w c) (λ v. noting (event.Took v) (go v)) ≡ ended blocks)
      by_kind (choice.Took x) = asked_where (same_type (type_of x) w) x (λ v. noting (event.Took v) (go v)) (Decides-same_type (type_of x) w)
      by_kind (choice.Amount q) = inr refl
      by_kind (choice.Fresh r) = inr refl
      by_kind (choice.Branch b) = inr refl
      by_kind (choice.Filled memo) = inr refl

      goes_on : (c : Choice) → IsAsked l (AValue w) c → Asks l (given (value_in w c) (λ v. noting (event.Took v) (go v)))
      goes_on (choice.Took x) i = asks_where (same_type (type_of x) w) x (λ v. noting (event.Took v) (go v)) (asks_before (event.Took x ∷ []) (g x))
      goes_on (choice.Amount q) i = at_end
      goes_on (choice.Fresh r) i = at_end
      goes_on (choice.Branch b) i = at_end
      goes_on (choice.Filled memo) i = at_end

  asks_memo : {X : Type 0} {go : Memo → Run X} → ((memo : Memo) → Asks l (go memo)) → Asks l (taking (memo_in l) go)
  asks_memo {X} {go} g = later AMemo by_kind goes_on
    where
      by_kind : (c : Choice) → IsAsked l AMemo c ⊎ (given (memo_in l c) go ≡ ended blocks)
      by_kind (choice.Filled x) = asked_where (fits_memo l x) x go (Decides-fits_memo l x)
      by_kind (choice.Amount q) = inr refl
      by_kind (choice.Fresh r) = inr refl
      by_kind (choice.Branch b) = inr refl
      by_kind (choice.Took v) = inr refl

      goes_on : (c : Choice) → IsAsked l AMemo c → Asks l (given (memo_in l c) go)
      goes_on (choice.Filled x) i = asks_where (fits_memo l x) x go (g x)
      goes_on (choice.Amount q) i = at_end
      goes_on (choice.Fresh r) i = at_end
      goes_on (choice.Branch b) i = at_end
      goes_on (choice.Took v) i = at_end

  -- ---- assertions

  produce_amount_asks : (b : Bound) (a : t.Amt) (sc : Scene) (k : Fraction) (at : Pos) (x : State) (y : Resource) → Asks l (produce_amount b a sc k at x y)
  produce_amount_asks b (t.Is e) sc k at x y = at_end
  produce_amount_asks b t.Wildcard sc k at x y = asks_amount (λ q. at_end)

  pub produce_asks : (b : Bound) (a : t.Assertion) (sc : Scene) (k : Fraction) (x : State) → Asks l (produce b a sc k x)
  produce_asks b (t.Fact e at) sc k x = at_end
  produce_asks b (t.Acc e f a at) sc k x = asks_evaluating (place_in b e f x sc) (produce_amount_asks b a sc k at x)
  produce_asks b (t.Inst p args a at) sc k x = asks_evaluating (instance_in b p args x sc) (produce_amount_asks b a sc k at x)
  produce_asks b (t.And y z) sc k x = asks_then (produce_asks b y sc k x) (produce_asks b z sc k)
  produce_asks b (t.Implies e y) sc k x = asks_evaluating (truth_in b e x sc) (λ holds. asks_if holds (produce_asks b y sc k x) at_end)
  produce_asks b (t.ChooseAssertion e y z) sc k x = asks_evaluating (truth_in b e x sc) (λ holds. asks_if holds (produce_asks b y sc k x) (produce_asks b z sc k x))

  consume_amount_asks : (b : Bound) (a : t.Amt) (start : State) (sc : Scene) (k : Fraction) (at : Pos) (x : State) (y : Resource) → Asks l (consume_amount b a start sc k at x y)
  consume_amount_asks b (t.Is e) start sc k at x y = at_end
  consume_amount_asks b t.Wildcard start sc k at x y = asks_evaluating (something_held sc y at x) (λ held. asks_amount (λ q. at_end))

  pub consume_asks : (b : Bound) (a : t.Assertion) (start : State) (sc : Scene) (k : Fraction) (x : State) → Asks l (consume b a start sc k x)
  consume_asks b (t.Fact e at) start sc k x = at_end
  consume_asks b (t.Acc e f a at) start sc k x = asks_evaluating (place_in b e f start sc) (consume_amount_asks b a start sc k at x)
  consume_asks b (t.Inst p args a at) start sc k x = asks_evaluating (instance_in b p args start sc) (consume_amount_asks b a start sc k at x)
  consume_asks b (t.And y z) start sc k x = asks_then (consume_asks b y start sc k x) (consume_asks b z start sc k)
  consume_asks b (t.Implies e y) start sc k x = asks_evaluating (truth_in b e start sc) (λ holds. asks_if holds (consume_asks b y start sc k x) at_end)
  consume_asks b (t.ChooseAssertion e y z) start sc k x =
      asks_evaluating (truth_in b e start sc) (λ holds. asks_if holds (consume_asks b y start sc k x) (consume_asks b z start sc k x))

  pub forget_asks : (x : State) → Asks l (forget l x)
  forget_asks x = asks_memo (λ memo. at_end)

  pub produce_all_asks : (b : Bound) (clauses : List t.Assertion) (sc : Scene) (x : State) → Asks l (produce_all b clauses sc x)
  produce_all_asks b [] sc x = at_end
  produce_all_asks b (a ∷ rest) sc x = asks_then (produce_asks b a sc write x) (produce_all_asks b rest sc)

  pub consume_all_asks : (b : Bound) (clauses : List t.Assertion) (start : State) (sc : Scene) (x : State) → Asks l (consume_all b clauses start sc x)
  consume_all_asks b [] start sc x = at_end
  consume_all_asks b (a ∷ rest) start sc x = asks_then (consume_asks b a start sc write x) (consume_all_asks b rest start sc)

  pub fold_asks : (b : Bound) (program : Program) (f : s.FoldStmt) (x : State) (sc : Scene) → Asks l (fold_instance b program f x sc)
  fold_asks b program f x sc =
      asks_evaluating (values b f.args x sc) (λ vs. asks_evaluating (perm_in b f.amount x sc) (λ q. asks_evaluating (found (key_of vs)) (λ key.
      asks_evaluating (found (body_of program f.predicate)) (λ body. asks_evaluating (positive_amount sc f.place q) (λ q.
      asks_then (consume_asks b body x (with_variables vs sc) q x) (λ left. at_end))))))

  -- ---- statements

  pub values_asks : (us : List Ty) (xs : List ℕ) → Asks l (taking_values us xs)
  values_asks us [] = at_end
  values_asks us (x ∷ xs) = asks_evaluating (found (slice_get us x)) (λ w. asks_value w (λ v. asks_then (values_asks us xs) (λ vs. at_end)))

  created_asks : (us : List Ty) (r : ℕ) (fs : List ℕ) (x : State) → Asks l (created us r fs x)
  created_asks us r [] x = at_end
  created_asks us r (f ∷ fs) x = asks_evaluating (found (slice_get us f)) (λ w. asks_value w (λ v. created_asks us r fs (with_mask (with_value x f r v) f r write)))

-- ---- in a program

exhale_all_asks : (b : Bound) (program : Program) (clauses : List t.Assertion) (x : State) (sc : Scene) → Asks program.layout (exhale_all b program clauses x sc)
exhale_all_asks b program clauses x sc = asks_then (consume_all_asks b clauses x sc x) forget_asks

asks_state : {X : Type 0} (program : Program) {go : State → Run X} → ((x : State) → Asks program.layout (go x)) → Asks program.layout (taking_state program go)
asks_state program g = asks_memo (λ memo. asks_before (event.Whole memo ∷ []) (g (empty_state program.layout memo)))

vain_asks : {l : Layout} {X Y : Type 0} {r : Run X} → Asks l r → Asks {X = Y} l (in_vain r)
vain_asks h = asks_then h (λ x. at_end)

pub called_asks : (b : Bound) (k : Activation) (targets : List ℕ) (callee : Method) (args : List Value) (at : Pos) (c : Configuration) → Asks k.program.layout (called b k targets callee args at c)
called_asks b k targets callee args at c =
    asks_then (exhale_all_asks b k.program callee.preconditions c.state (with_variables args (scene k c at))) (λ x.
    asks_then (values_asks k.vars targets) (λ vs.
    asks_then (produce_all_asks b callee.postconditions (record { store = args ++ vs; old = c.state; at = at }) x) (λ y. at_end)))

after_loop_asks : (b : Bound) (k : Activation) (at : Pos) (guard : t.Expr) (invariants : List t.Assertion) (c : Configuration) → Asks k.program.layout (after_loop b k at guard invariants c)
after_loop_asks b k at guard invariants c =
    asks_then (produce_all_asks b invariants (scene k c at) c.state) (λ x. asks_evaluating (truth_in b guard x (scene k c at)) (λ holds. asks_if holds at_end at_end))

turn_asks : (b : Bound) (k : Activation) (at : Pos) (guard : t.Expr) (invariants : List t.Assertion) (body : Configuration → Run Configuration) (turn : Pos) (c : Configuration) →
    ((d : Configuration) → Asks k.program.layout (body d)) → Asks k.program.layout (run_turn b k at guard invariants body turn c)
turn_asks b k at guard invariants body turn c h =
    asks_state k.program (λ any. asks_then (produce_all_asks b invariants (scene k c at) any) (λ x.
    asks_evaluating (truth_in b guard x (scene k c at)) (λ holds. asks_if holds (asks_then (h (with_state c x)) (λ d. consume_all_asks b invariants d.state (scene k d turn) d.state)) (at_end {e = blocks}))))

loop_asks : (b : Bound) (k : Activation) (at : Pos) (guard : t.Expr) (invariants : List t.Assertion) (body : Configuration → Run Configuration) (turn : Pos) (targets : List ℕ) (c : Configuration) →
    ((d : Configuration) → Asks k.program.layout (body d)) → Asks k.program.layout (run_loop b k at guard invariants body turn targets c)
loop_asks b k at guard invariants body turn targets c h =
    asks_then (exhale_all_asks b k.program invariants c.state (scene k c at)) (λ x. asks_then (values_asks k.vars targets) (λ vs.
    asks_branch (λ turns. asks_if turns (vain_asks (turn_asks b k at guard invariants body turn (record { store = stored c.store targets vs; state = x }) h))
    (after_loop_asks b k at guard invariants (record { store = stored c.store targets vs; state = x })))))

mutual
  pub stmt_asks : (b : Bound) (k : Activation) (x : s.Stmt) (c : Configuration) → Asks k.program.layout (run_stmt b k x c)
  stmt_asks b k (s.Var at x None) c = asks_evaluating (found (slice_get k.vars x)) (λ w. asks_value w (λ v. at_end {e = is (with_variable c x v)}))
  stmt_asks b k (s.Var at x (Some e)) c = asks_evaluating (value b e c.state (scene k c at)) (λ v. at_end)
  stmt_asks b k (s.Assign at x e) c = asks_evaluating (value b e c.state (scene k c at)) (λ v. at_end)
  stmt_asks b k (s.Write at e field place d) c =
      asks_evaluating (ref_in b e c.state (scene k c at)) (λ r. asks_evaluating (value b d c.state (scene k c at)) (λ v.
      asks_evaluating (field_written (scene k c at) c.state field place r v) (λ x. at_end)))
  stmt_asks b k (s.New at x fields refs) c =
      asks_fresh (λ r. asks_if (is_fresh r refs c) (asks_then (created_asks k.program.layout.fields r fields c.state) (λ y. at_end {e = is (with_variable (with_state c y) x (v.Ref r))})) (at_end {e = blocks}))
  stmt_asks b k (s.Call at targets n args) c =
      asks_evaluating (values b args c.state (scene k c at)) (λ vs. asks_evaluating (found (slice_get k.program.methods n)) (λ callee. called_asks b k targets callee vs at c))
  stmt_asks b k (s.Inhale at a) c = asks_then (produce_asks b a (scene k c at) write c.state) (λ x. at_end)
  stmt_asks b k (s.Exhale at a) c = asks_then (exhale_all_asks b k.program (a ∷ []) c.state (scene k c at)) (λ x. at_end)
  stmt_asks b k (s.Assert at a) c = asks_then (consume_asks b a c.state (scene k c at) write c.state) (λ left. at_end)
  stmt_asks b k (s.Fold f) c = asks_then (fold_asks b k.program f c.state (scene k c f.at)) (λ x. at_end)
  stmt_asks b k (s.Unfold f) c = asks_evaluating (unfold_instance b k.program f c.state (scene k c f.at)) (λ x. at_end)
  stmt_asks b k (s.If at e first second) c = asks_evaluating (truth_in b e c.state (scene k c at)) (λ holds. asks_if holds (block_asks b k first c) (block_asks b k second c))
  stmt_asks b k (s.While (s.loop at guard invariants body turn targets)) c = loop_asks b k at guard invariants (λ d. run_block b k body d) turn targets c (λ d. block_asks b k body d)

  pub block_asks : (b : Bound) (k : Activation) (xs : s.Stmts) (c : Configuration) → Asks k.program.layout (run_block b k xs c)
  block_asks b k s.skip c = at_end
  block_asks b k (s.next a rest) c = asks_then (stmt_asks b k a c) (λ d. block_asks b k rest d)

-- ---- units

check_asks : (b : Bound) (k : Activation) (n : Method) (store : List Value) → Asks k.program.layout (check_postcondition b k n store)
check_asks b k n store = asks_state k.program (λ any. vain_asks (produce_all_asks b n.postconditions (record { store = store; old = k.old; at = n.name_at }) any))

method_asks : (b : Bound) (k : Activation) (n : Method) (body : Option Body) (c : Configuration) → Asks k.program.layout (run_method b k n body c)
method_asks b k n None c = check_asks b k n c.store
method_asks b k n (Some body) c =
    asks_branch (λ runs. asks_if runs (asks_then (block_asks b k body.stmts c) (λ d. consume_all_asks b n.postconditions d.state (scene k d body.turn) d.state)) (check_asks b k n c.store))

start_asks : (b : Bound) (program : Program) (n : Method) (o : Opening) → Asks program.layout (start_method b program n o)
start_asks b program n o =
    let store = first_store n o.store in
    let start = empty_state program.layout o.memo in
    asks_then (produce_all_asks b n.preconditions (record { store = store; old = start; at = n.at }) start) (λ x.
    method_asks b (record { program = program; vars = n.vars; old = x }) n n.body (record { store = store; state = x }))

of_unit_asks : (b : Bound) (program : Program) (w : unit.Unit) (o : Opening) → Asks program.layout (run_of_unit b program w o)
of_unit_asks b program (u.Method n) o = asks_evaluating (found (slice_get program.methods n)) (λ x. start_asks b program x o)
of_unit_asks b program (u.Predicate n) o =
    asks_evaluating (found (slice_get program.predicates n)) (λ d. asks_evaluating (found d.body) (λ body.
    produce_asks b body (record { store = o.store; old = empty_state program.layout o.memo; at = d.at }) write (empty_state program.layout o.memo)))

pub unit_asks : (b : Bound) (program : Program) (n : ℕ) (o : Opening) → Asks program.layout (unit_run b program n o)
unit_asks b program n o = asks_evaluating (found (slice_get program.units n)) (λ w. of_unit_asks b program w o)
