-- What a form of expression does, from what its parts do.
use Rattle.std.proofs.Common.{◌≡◌, ◌+◌, ◌<◌, ◌≤◌, ℕ, Bool as Truth, true, false, not, List, [], ◌∷◌, ◌++◌, length, Some, slice_get, slice_set, if◌then◌else◌, ◌⊎◌, inl, inr, refl, sym, ap, subst, ◌∙◌, arith}
use Rattle.std.proofs.lemmas.Option.{slice_get_within}
use Rattle.std.specs.Prelude.{Contains}
use Rattle.vb_base.specs.declared.places.Pos.{Pos}
use Rattle.vb_value.specs.Bound.{Bound}
use Rattle.vb_value.specs.Value.{type_of}
use Rattle.vb_value.specs.declared.values.Ty.{Ty}
use Rattle.vb_value.specs.declared.values.Ty.TheVariants as ty
use Rattle.vb_value.specs.declared.values.Value.{Value}
use Rattle.vb_value.specs.declared.values.Value.TheVariants as v
use Rattle.viper_core.specs.declared.exprs.Op.{Op}
use Rattle.viper_core.specs.declared.exprs.Op.TheVariants as o
use Rattle.viper_core.specs.Typing.{Context, value_type, is_number}
use Rattle.viper_state.specs.Event.{Event}
use Rattle.viper_state.specs.State.{State}
use Rattle.viper_state.specs.Run.{Scene}
use Rattle.viper_meaning.specs.Ends.{Evaluated, is as is_end, then_with, found}
use Rattle.viper_meaning.specs.Kept.{Keeps}
use Rattle.viper_meaning.specs.Operators.{Lazy, Plain, class_of, truth_of, plain, settled, settled_or, in_class, negative, negation}
use Rattle.viper_meaning.specs.Value.{as_truth}
use Rattle.viper_meaning.proofs.SignLaws.{any_value}
use Rattle.boogie_tree.specs.Expr as t
use Rattle.boogie_tree.specs.Program.{BType}
use Rattle.boogie_tree.specs.Stmt as stmt
use Rattle.boogie_tree.specs.Value as w
use Rattle.boogie_tree.specs.Value.{BScalar, BChoice, One}
use Rattle.boogie_tree.specs.declared.exprs.BBase.{BBase}
use Rattle.boogie_meaning.specs.Ends as end
use Rattle.boogie_meaning.specs.Operators as m
use Rattle.boogie_meaning.specs.Value.{scalar_in}
use Rattle.boogie_meaning.specs.Quantified.{bvalue}
use Rattle.boogie_meaning.specs.Run.{Run, Done, Stops, then_run, brun}
use Rattle.boogie_meaning.proofs.PatternLaws.{set_here}
use Rattle.moves.specs.Scalars.{scalar, base_for}
use Rattle.enc_expr.specs.Place.{Place, number, with_now}
use Rattle.enc_expr.specs.Code.{Emitting, join, gives, then_emit, Guard, under}
use Rattle.enc_expr.specs.Pieces.{Operand}
use Rattle.enc_expr.specs.Operators.{operand_of, right_counts, lazy_op, lazy_operand, lazily, in_class_code, chosen_operand, choose_code}
use Rattle.enc_expr.specs.Coupling.{Env, IsAwake, AreLocals, IsReady, IsCoupled}
use Rattle.enc_expr.specs.Alike as a
use Rattle.enc_expr.specs.Alike.{Alike, Kept, Agree, IsValued, AreValued, none, more, variable}
use Rattle.enc_expr.proofs.Simulated.{IsCounted, AreAsleep, Sleeps, Simulates, Computes, value, over}
use Rattle.enc_expr.proofs.RunLaws.{join_skip, join_run, join_done, under_awake, assign_run, atom_value}
use Rattle.enc_expr.proofs.AlikeLaws.{is_alike, weaken_alike, kept_alike}
use Rattle.enc_expr.proofs.FrameLaws.{kept_itself, kept_then, kept_set, locals_first, locals_rest, coupled_kept, awake_kept, ready_rest}
use Rattle.enc_expr.proofs.AtomLaws.{Holds, holds_more}
use Rattle.enc_expr.proofs.OperatorLaws.{plain_computes, negative_computes, negation_computes}
use Rattle.enc_expr.proofs.AmountLaws.{then_again}
use Rattle.enc_expr.proofs.OpeningLaws.{after_nothing, alike_run, alike_of}
use Rattle.enc_expr.proofs.UnfoldingLaws.{emit_alike}

-- ---- values of operands

-- the operand has the value as long as the first n locals stay as they are
pub record HasValue (b : Bound) (n : ℕ) (x : Operand) (u : Ty) (E : Env) (z : Value) : Type 0 where
  pub typed : type_of z ≡ u
  pub base : x.base ≡ base_for u
  pub held : Holds b n x.expr E (scalar z)

pub value_more : {b : Bound} {n m : ℕ} {x : Operand} {u : Ty} {E F : Env} {z : Value} → n ≤ m → Agree n E F → HasValue b n x u E z → HasValue b m x u F z
value_more within same h = record { typed = h.typed; base = h.base; held = holds_more within same h.held }

-- ---- values of a type

pub truth_alike : {b : Bound} {Y : Type 0} {Q : Y → Env → Type 0} {cs : List BChoice} {r : Run} (z : Value) (k : Truth → Evaluated Y) → type_of z ≡ ty.Bool → ((q : Truth) → z ≡ v.Bool q → Alike Q b (k q) cs r) → Alike Q b (then_with (truth_of z) k) cs r
truth_alike (v.Bool q) k typed h = alike_of (after_nothing (k q)) (h q refl)
truth_alike z k typed h = absurd cc

module _ (ts : List BType) (b : Bound) (c : Context) where
  -- the code of an expression of this type
  abbrev pub Reads : Place → Guard → State → Scene → Emitting Operand → Evaluated Value → Ty → Type 0
  Reads p g s sc m e u = Simulates ts b c p g s sc m e (λ n m x E. IsValued b n m x u E)

  -- the same from one environment
  abbrev pub Goes : ℕ → Env → Emitting Operand → Ty → Evaluated Value → List BChoice → Type 0
  Goes n E m u e cs = Alike (IsValued b n (m n).next (m n).value u E) b e cs (brun ts b (m n).stmts E cs)

  -- what is computed without statements
  pub computes_goes : {K : Env → Type 0} {e : Evaluated Value} (z : Operand) (u : Ty) (n : ℕ) (E : Env) (cs : List BChoice) → Computes b u z K e → ((G : Env) → Agree n E G → K G) → Goes n E (gives z) u e cs
  computes_goes z u n E cs (value typed base h) k = is_alike (record { kept = kept_itself n E; typed = typed; here = λ G agree. h G (k G agree) })
  computes_goes z u n E cs (over bounded) k = a.over bounded (record { same = refl })

  module _ (p : Place) (g : Guard) (s : State) (sc : Scene) where
    -- ---- literals and variables

    pub constant_reads : (x : Operand) (z : Value) (u : Ty) → type_of z ≡ u → ((G : Env) → bvalue b x.expr G ≡ end.Is (scalar z)) → Reads p g s sc (gives x) (is_end z) u
    constant_reads x z u typed h = record { alike = λ n E cs coupled ready. is_alike (record { kept = kept_itself n E; typed = typed; here = λ G agree. h G }) }

    pub variable_reads : (x : ℕ) (u : Ty) (y : BBase) → Contains c.visible x → slice_get c.vars x ≡ Some u → Reads p g s sc (gives (record { expr = t.Var (number p.vars x); base = y })) (found (slice_get sc.store x)) u
    variable_reads x u y visible there = record {
      alike = λ n E cs coupled ready.
          let has = coupled.vars x u visible there in
          alike_of (ap found has.there) (is_alike (record { kept = kept_itself n E; typed = has.typed; here = λ G agree. atom_value b n G (t.Var (number p.vars x)) (scalar has.v) (variable has.below (agree _ has.below ∙ has.here)) }));
    }

    -- ---- one part, and then another

    -- what is known of the first part, where the second goes on
    pub record IsRead (P : Value → Type 0) (n m : ℕ) (x : Operand) (u : Ty) (us : List BType) (E : Env) (z : Value) (F : Env) : Type 0 where
      pub more : n ≤ m
      pub kept : Kept n E F
      pub coupled : IsCoupled b c m p s sc F
      pub ready : IsReady ts g m us F
      pub has : HasValue b m x u F z
      pub law : P z

    pub goes_then : {V : Event → Type 0} {P : Value → Type 0} (f : Emitting Operand) (go : Operand → Emitting Operand) (e : Evaluated Value) (k : Value → Evaluated Value) (u y : Ty) → IsCounted f → ((n : ℕ) → (f n).value.base ≡ base_for u) →
        Reads p g s sc f e u → Keeps V P e → (n : ℕ) (E : Env) (cs : List BChoice) → IsCoupled b c n p s sc E → IsReady ts g n (then_emit f go n).locals E →
        ((F : Env) (z : Value) (rest : List BChoice) → (let d = f n in IsRead P n d.next d.value u (go d.value d.next).locals E z F → Goes d.next F (go d.value) y (k z) rest)) → Goes n E (then_emit f go) y (then_with e k) cs
    goes_then f go e k u y counted based reads law n E cs coupled ready go_on =
        let d = f n in let last = go d.value d.next in
        let low : n ≤ d.next = omega (arith, counted.next n) in
        emit_alike ts b f go n E cs e k (kept_alike law (reads.alike n E cs coupled (record { awake = ready.awake; full = ready.full; locals = locals_first ts n d.locals last.locals ready.locals })))
        (λ z F rest q. weaken_alike (λ x G i. record { kept = kept_then low q.0.kept i.kept; typed = i.typed; here = i.here })
        (go_on F z rest (record {
          more = low;
          kept = q.0.kept;
          coupled = coupled_kept b c n d.next p s sc E F low q.0.kept coupled;
          ready = ready_rest ts g n d.next d.locals last.locals E F (counted.next n) q.0.kept ready;
          has = record { typed = q.0.typed; base = based n; held = record { value = q.0.here } };
          law = q.1;
        })))

    -- ---- one side

    pub negative_reads : (f : Emitting Operand) (e : Evaluated Value) (u : Ty) → is_number u ≡ true → IsCounted f → ((n : ℕ) → (f n).value.base ≡ base_for u) → Reads p g s sc f e u →
        Reads p g s sc (then_emit f (λ x. gives (record { expr = t.Neg x.expr; base = x.base }))) (then_with e negative) u
    negative_reads f e u number counted based reads = record {
      alike = λ n E cs coupled ready.
          goes_then f (λ x. gives (record { expr = t.Neg x.expr; base = x.base })) e negative u u counted based reads (any_value e) n E cs coupled ready (λ F z rest i.
          let x = (f n).value in
          computes_goes (record { expr = t.Neg x.expr; base = x.base }) u (f n).next F rest (negative_computes b x z u (ap is_number i.has.typed ∙ number) i.has.typed i.has.base) (λ G agree. record { value = i.has.held.value G agree }));
    }

    pub negation_reads : (f : Emitting Operand) (e : Evaluated Value) → IsCounted f → ((n : ℕ) → (f n).value.base ≡ base_for ty.Bool) → Reads p g s sc f e ty.Bool →
        Reads p g s sc (then_emit f (λ x. gives (record { expr = t.Not x.expr; base = base_for ty.Bool }))) (then_with e negation) ty.Bool
    negation_reads f e counted based reads = record {
      alike = λ n E cs coupled ready.
          goes_then f (λ x. gives (record { expr = t.Not x.expr; base = base_for ty.Bool })) e negation ty.Bool ty.Bool counted based reads (any_value e) n E cs coupled ready (λ F z rest i.
          let x = (f n).value in
          computes_goes (record { expr = t.Not x.expr; base = base_for ty.Bool }) ty.Bool (f n).next F rest (negation_computes b x z i.has.typed) (λ G agree. record { value = i.has.held.value G agree }));
    }

    -- ---- plain operators

    pub plain_reads : (f : Op) (at : Pos) (left : Emitting Operand) (right : Guard → Emitting Operand) (e h : Evaluated Value) (l r u : Ty) → class_of f ≡ Plain → value_type f l r ≡ Some u → IsCounted left → IsCounted (right g) →
        ((n : ℕ) → (left n).value.base ≡ base_for l) → ((n : ℕ) → (right g n).value.base ≡ base_for r) → Reads p g s sc left e l → Reads p g s sc (right g) h r →
        Reads p g s sc (in_class_code Plain p g f at left right) (in_class Plain b sc f e h at) u
    plain_reads f at left right e h l r u class typed counted counted2 based based2 reads reads2 = record {
      alike = λ n E cs coupled ready.
          goes_then left (λ x. then_emit (right g) (λ y. gives (operand_of f x y))) e (λ z. then_with h (λ w. plain b f z w at)) l u counted based reads (any_value e) n E cs coupled ready (λ F z rest i.
          let x = (left n).value in let n1 = (left n).next in
          goes_then (right g) (λ y. gives (operand_of f x y)) h (λ w. plain b f z w at) r u counted2 based2 reads2 (any_value h) n1 F rest i.coupled i.ready (λ G w last j.
          let y = (right g n1).value in
          computes_goes (operand_of f x y) u (right g n1).next G last
          (plain_computes b f x y z w at u class (ap (λ q. value_type f q (type_of w)) i.has.typed ∙ ap (λ q. value_type f l q) j.has.typed ∙ typed) (i.has.base ∙ ap base_for (sym i.has.typed)) (j.has.base ∙ ap base_for (sym j.has.typed)))
          (λ H agree. record { left = record { value = (value_more j.more j.kept.same i.has).held.value H agree }; right = record { value = j.has.held.value H agree } })));
    }

    -- ---- the old state

    pub old_reads : (f : Emitting Operand) (e : Evaluated Value) (u : Ty) → Reads (with_now p.old p) g sc.old sc f e u → Reads p g s sc f e u
    old_reads f e u reads = record {
      alike = λ n E cs coupled ready. reads.alike n E cs
          (record { now = coupled.old; old = coupled.old; vars = coupled.vars; at = coupled.at; sound = coupled.old_sound; old_sound = coupled.old_sound; store = coupled.store }) ready;
    }

    -- ---- arguments

    pub no_arguments_read : Simulates ts b c p g s sc (gives []) (is_end []) (λ n m ys E. AreValued b n m ys [] E)
    no_arguments_read = record { alike = λ n E cs coupled ready. is_alike (record { kept = kept_itself n E; values = none }) }

    pub arguments_read : (f : Emitting Operand) (rest : Emitting (List Operand)) (e : Evaluated Value) (h : Evaluated (List Value)) (u : Ty) (us : List Ty) → IsCounted f → IsCounted rest → Reads p g s sc f e u →
        Simulates ts b c p g s sc rest h (λ n m ys E. AreValued b n m ys us E) →
        Simulates ts b c p g s sc (then_emit f (λ x. then_emit rest (λ xs. gives (x ∷ xs)))) (then_with e (λ z. then_with h (λ zs. is_end (z ∷ zs)))) (λ n m ys E. AreValued b n m ys (u ∷ us) E)
    arguments_read f rest e h u us counted counted2 reads reads2 = record {
      alike = λ n E cs coupled ready.
          let d = f n in let r = rest d.next in
          let low : n ≤ d.next = omega (arith, counted.next n) in let high : d.next ≤ r.next = omega (arith, counted2.next d.next) in
          emit_alike ts b f (λ x. then_emit rest (λ xs. gives (x ∷ xs))) n E cs e _
          (reads.alike n E cs coupled (record { awake = ready.awake; full = ready.full; locals = locals_first ts n d.locals (r.locals ++ []) ready.locals }))
          (λ z F left q.
          let ready2 = ready_rest ts g n d.next d.locals (r.locals ++ []) E F (counted.next n) q.kept ready in
          emit_alike ts b rest (λ xs. gives (d.value ∷ xs)) d.next F left h _
          (reads2.alike d.next F left (coupled_kept b c n d.next p s sc E F low q.kept coupled) (record { awake = ready2.awake; full = ready2.full; locals = locals_first ts d.next r.locals [] ready2.locals }))
          (λ zs G last i. is_alike (record {
            kept = kept_then low q.kept i.kept;
            values = let held : Holds b r.next d.value.expr G (scalar z) = holds_more high i.kept.same (record { value = q.here }) in more q.typed held.value i.values;
          })));
    }

-- ---- what is read under a guard of its own

-- where the right side of a lazy operator counts
abbrev counts : Op → Truth → Truth
counts o.Or q = not q
counts f q = q

-- the value where it does not
abbrev settles : Op → Truth
settles o.And = false
settles f = true

-- the right side counts, or the value is settled
lazy_cases : (f : Op) (q : Truth) (e : Evaluated Value) → class_of f ≡ Lazy →
    ((counts f q ≡ true) × (settled_or (settled f q) e ≡ e)) ⊎ ((counts f q ≡ false) × (settled_or (settled f q) e ≡ is_end (v.Bool (settles f))))
lazy_cases o.And true e lazy = inl (refl, refl)
lazy_cases o.And false e lazy = inr (refl, refl)
lazy_cases o.Or true e lazy = inr (refl, refl)
lazy_cases o.Or false e lazy = inl (refl, refl)
lazy_cases o.Implies true e lazy = inl (refl, refl)
lazy_cases o.Implies false e lazy = inr (refl, refl)
lazy_cases f q e lazy = absurd cc

module _ (b : Bound) where
  counts_value : (f : Op) (q : Truth) (x : t.BExpr) (E : Env) → bvalue b x E ≡ end.Is (w.Bool q) → bvalue b (right_counts f x) E ≡ end.Is (w.Bool (counts f q))
  counts_value o.Or q x E h = λ j. end.then_with (h j) m.negation
  counts_value f q x E h = h

  variable_value : (h : ℕ) (q : BScalar) (E : Env) → slice_get E h ≡ Some (One q) → bvalue b (t.Var h) E ≡ end.Is q
  variable_value h q E e = λ j. end.then_with (end.found (e j)) scalar_in

  -- where the guard is true the value is that of the right side
  open_value : (f : Op) (h : ℕ) (y : t.BExpr) (z : Value) (E : Env) → type_of z ≡ ty.Bool → slice_get E h ≡ Some (One (w.Bool true)) → bvalue b y E ≡ end.Is (scalar z) → bvalue b (t.Bin (lazy_op f) (t.Var h) y) E ≡ end.Is (scalar z)
  open_value o.And h y (v.Bool q) E typed e i = let k = variable_value h (w.Bool true) E e in λ j. m.binary b (lazy_op o.And) (k j) (i j)
  open_value f h y (v.Bool q) E typed e i = let k = variable_value h (w.Bool true) E e in λ j. m.binary b (lazy_op f) (k j) (i j)
  open_value f h y z E typed e i = absurd cc

  -- and elsewhere it is settled
  settled_value : (f : Op) (h : ℕ) (y : t.BExpr) (E : Env) → slice_get E h ≡ Some (One (w.Bool false)) → bvalue b (t.Bin (lazy_op f) (t.Var h) y) E ≡ end.Is (w.Bool (settles f))
  settled_value o.And h y E e = let k = variable_value h (w.Bool false) E e in λ j. m.binary b (lazy_op o.And) (k j) (bvalue b y E)
  settled_value f h y E e = let k = variable_value h (w.Bool false) E e in λ j. m.binary b (lazy_op f) (k j) (bvalue b y E)

-- one guard is false
one_asleep : (h n : ℕ) (E : Env) → h < n → slice_get E h ≡ Some (One (w.Bool false)) → AreAsleep (λ j. j ≡ h) n E
one_asleep h n E below here = λ j same. (omega (arith, same, below), ap (slice_get E) same ∙ here)

-- what sleeps stays out of it
pub sleep_alike : {b : Bound} {V : Type 0} {Q R : V → Env → Type 0} {e : Evaluated V} {cs : List BChoice} {r : Run} {to : Env → List BChoice → Run} → Alike Q b e cs r →
    ((z : V) (G : Env) (rest : List BChoice) → Q z G → (H : Env) × ((to G rest ≡ Done H rest) × R z H)) → Alike R b e cs (then_run r to)
sleep_alike (a.done f q) go = let h = go _ _ _ q in alike_run h.1.0 (a.done f h.1.1)
sleep_alike (a.failed f) go = a.failed f
sleep_alike (a.blocked others f) go = a.blocked others f
sleep_alike (a.short others f) go = a.short others f
sleep_alike (a.beyond f) go = a.beyond f
sleep_alike (a.over bounded f) go = a.over bounded f
sleep_alike {r = Stops why rest} (a.stray f stopped) go = a.stray f stopped
sleep_alike {r = Done E rest} (a.stray f stopped) go = elim stopped [ ]

module _ (ts : List BType) (b : Bound) (c : Context) (p : Place) (g : Guard) (s : State) (sc : Scene) where
  -- a lazy operator from the value of its left side
  lazy_goes : (f : Op) (x : Operand) (right : Guard → Emitting Operand) (e : Evaluated Value) (q : Truth) → class_of f ≡ Lazy → ((h : ℕ) → IsCounted (right (Some h))) → ((h : ℕ) → Sleeps (λ j. j ≡ h) (right (Some h))) →
      ((h : ℕ) → Reads ts b c p (Some h) s sc (right (Some h)) e ty.Bool) → (n : ℕ) (E : Env) (cs : List BChoice) → IsCoupled b c n p s sc E → IsReady ts g n (lazily g f x right n).locals E → bvalue b x.expr E ≡ end.Is (w.Bool q) →
      Goes ts b c n E (lazily g f x right) ty.Bool (settled_or (settled f q) e) cs
  lazy_goes f x right e q lazy counted sleeps reads n E cs coupled ready here =
      let z = right_counts f x.expr in let r = right (Some n) (n + 1) in
      let y = lazy_operand f n r.value in
      let F = slice_set E n (One (w.Bool (counts f q))) in
      let kept : Kept n E F = kept_set n n (One (w.Bool (counts f q))) E (omega arith) in
      let within : n < length E = omega (arith, slice_get_within ts n _ ready.locals.0, ready.full) in
      let at : slice_get F n ≡ Some (One (w.Bool (counts f q))) = set_here E n (One (w.Bool (counts f q))) within in
      let locals : AreLocals ts (n + 1) r.locals = locals_first ts (n + 1) r.locals [] ready.locals.1 in
      let full : length F ≡ length ts = kept.length ∙ ready.full in
      let low : n + 1 ≤ r.next = omega (arith, (counted n).next (n + 1)) in
      let run : brun ts b (lazily g f x right n).stmts E cs ≡ brun ts b r.stmts F cs =
      assign_run ts b n (under g z) (w.Bool (counts f q)) (join r.stmts stmt.skip) E cs (under_awake ts b g n z (counts f q) E ready.awake (counts_value b f q x.expr E here)) ∙ ap (λ xs. brun ts b xs F cs) (join_skip r.stmts) in
      alike_run run (elim (lazy_cases f q e lazy) as (λ k. Alike (IsValued b n r.next y ty.Bool E) b (settled_or (settled f q) e) cs (brun ts b r.stmts F cs)) [
        | inl h ↦ alike_of h.1 (weaken_alike (λ k G i. record {
          kept = kept_then {G = G} (omega arith) kept i.kept;
          typed = i.typed;
          here = λ H agree. open_value b f n r.value.expr k H i.typed (agree n (omega (arith, low)) ∙ i.kept.same n (omega arith) ∙ at ∙ ap (λ (t : Truth). Some (One (w.Bool t))) h.0) (i.here H agree);
        }) ((reads n).alike (n + 1) F cs (coupled_kept b c n (n + 1) p s sc E F (omega arith) kept coupled)
            (record { awake = (omega arith, at ∙ ap (λ (t : Truth). Some (One (w.Bool t))) h.0); full = full; locals = locals })))
        | inr h ↦ let rest = (sleeps n).rests ts b (n + 1) F cs (one_asleep n (n + 1) F (omega arith) (at ∙ ap (λ (t : Truth). Some (One (w.Bool t))) h.0)) full locals in
            alike_of h.1 (alike_run rest.done (is_alike (record {
              kept = kept_then {G = rest.after} (omega arith) kept rest.kept;
              typed = refl;
              here = λ H agree. settled_value b f n r.value.expr H (agree n (omega (arith, low)) ∙ rest.kept.same n (omega arith) ∙ at ∙ ap (λ (t : Truth). Some (One (w.Bool t))) h.0);
            })))
      ])

  pub lazy_reads : (f : Op) (at : Pos) (left : Emitting Operand) (right : Guard → Emitting Operand) (e h : Evaluated Value) → class_of f ≡ Lazy → IsCounted left → ((n : ℕ) → (left n).value.base ≡ base_for ty.Bool) →
      ((i : ℕ) → IsCounted (right (Some i))) → ((i : ℕ) → Sleeps (λ j. j ≡ i) (right (Some i))) → Reads ts b c p g s sc left e ty.Bool → ((i : ℕ) → Reads ts b c p (Some i) s sc (right (Some i)) h ty.Bool) →
      Reads ts b c p g s sc (in_class_code Lazy p g f at left right) (in_class Lazy b sc f e h at) ty.Bool
  lazy_reads f at left right e h lazy counted based counted2 sleeps reads reads2 = record {
    alike = λ n E cs coupled ready.
        goes_then ts b c p g s sc left (λ x. lazily g f x right) e (λ z. then_with (truth_of z) (λ q. settled_or (settled f q) h)) ty.Bool ty.Bool counted based reads (any_value e) n E cs coupled ready (λ F z rest i.
        let x = (left n).value in
        truth_alike z (λ q. settled_or (settled f q) h) i.has.typed (λ q same.
        lazy_goes f x right h q lazy counted2 sleeps reads2 (left n).next F rest i.coupled i.ready (i.has.held.value F (λ j below. refl) ∙ ap (λ (k : Value). end.Is (scalar k)) same)));
  }

  -- ---- a choice

  -- after both guards are set
  abbrev pub guarded_by : Env → ℕ → Truth → Env
  guarded_by E n q = slice_set (slice_set E n (One (w.Bool q))) (n + 1) (One (w.Bool (not q)))

  pub record IsGuarded (n : ℕ) (q : Truth) (E : Env) : Type 0 where
    pub kept : Kept n E (guarded_by E n q)
    pub first : slice_get (guarded_by E n q) n ≡ Some (One (w.Bool q))
    pub second : slice_get (guarded_by E n q) (n + 1) ≡ Some (One (w.Bool (not q)))

  pub are_guarded : (n : ℕ) (q : Truth) (E : Env) → n + 1 < length E → IsGuarded n q E
  are_guarded n q E within =
      let F = slice_set E n (One (w.Bool q)) in
      let one = kept_set n n (One (w.Bool q)) E (omega arith) in
      let two = kept_set (n + 1) (n + 1) (One (w.Bool (not q))) F (omega arith) in
      record {
        kept = kept_then {F = F} (omega arith) one two;
        first = two.same n (omega arith) ∙ set_here E n (One (w.Bool q)) (omega (arith, within));
        second = set_here F (n + 1) (One (w.Bool (not q))) (omega (arith, within, one.length));
      }

  -- one side is run, and the other sleeps
  pub choose_alike : {X Y V : Type 0} {Q R : V → Env → Type 0} {T : Env → V → Env → Type 0} (x : t.BExpr) (left right : Guard → Emitting X) (both : ℕ → X → X → Y) (q : Truth) (e h : Evaluated V) (n : ℕ) (E : Env) (cs : List BChoice) →
      bvalue b x E ≡ end.Is (w.Bool q) → IsReady ts g n (choose_code g x left right both n).locals E → IsCounted (left (Some n)) → Sleeps (λ j. j ≡ n) (left (Some n)) → Sleeps (λ j. j ≡ n + 1) (right (Some (n + 1))) →
      (let l = left (Some n) (n + 1 + 1) in let r = right (Some (n + 1)) l.next in let F = guarded_by E n q in
      (q ≡ true → IsReady ts (Some n) (n + 1 + 1) l.locals F → Alike Q b e cs (brun ts b l.stmts F cs)) →
      ((z : V) (G : Env) → Q z G → (length G ≡ length F) × (slice_get G (n + 1) ≡ slice_get F (n + 1))) →
      ((z : V) (G H : Env) → q ≡ true → slice_get F n ≡ Some (One (w.Bool true)) → Q z G → Kept l.next G H → R z H) →
      ((G : Env) → q ≡ false → Kept (n + 1 + 1) F G → IsReady ts (Some (n + 1)) l.next r.locals G → Alike (T G) b h cs (brun ts b r.stmts G cs)) →
      ((z : V) (G H : Env) → q ≡ false → slice_get F n ≡ Some (One (w.Bool false)) → Kept (n + 1 + 1) F G → T G z H → R z H) →
      Alike R b (if q then e else h) cs (brun ts b (choose_code g x left right both n).stmts E cs))
  choose_alike {R = R} x left right both q e h n E cs here ready counted sleeps sleeps2 one stays first_ends two second_ends =
      let l = left (Some n) (n + 1 + 1) in let r = right (Some (n + 1)) l.next in
      let F1 = slice_set E n (One (w.Bool q)) in let F = guarded_by E n q in
      let other = t.Not (t.Var n) in let rest = join l.stmts (join r.stmts stmt.skip) in
      let within : n + 1 < length E = omega (arith, slice_get_within ts (n + 1) _ ready.locals.1.0, ready.full) in
      let guarded = are_guarded n q E within in
      let full : length F ≡ length ts = guarded.kept.length ∙ ready.full in
      let low : n + 1 + 1 ≤ l.next = omega (arith, counted.next (n + 1 + 1)) in
      let l_locals : AreLocals ts (n + 1 + 1) l.locals = locals_first ts (n + 1 + 1) l.locals (r.locals ++ []) ready.locals.1.1 in
      let r_locals : AreLocals ts l.next r.locals = locals_first ts l.next r.locals []
      (subst (λ i. AreLocals ts i (r.locals ++ [])) (counted.next (n + 1 + 1)) (locals_rest ts (n + 1 + 1) l.locals (r.locals ++ []) ready.locals.1.1)) in
      let at : slice_get F1 n ≡ Some (One (w.Bool q)) = set_here E n (One (w.Bool q)) (omega (arith, within)) in
      let awake : IsAwake g (n + 1) F1 = awake_kept g (omega arith) (kept_set n n (One (w.Bool q)) E (omega arith)) ready.awake in
      let k = variable_value b n (w.Bool q) F1 at in
      let not_value : bvalue b other F1 ≡ end.Is (w.Bool (not q)) = λ j. end.then_with (k j) m.negation in
      let run : brun ts b (choose_code g x left right both n).stmts E cs ≡ brun ts b (join l.stmts r.stmts) F cs =
      assign_run ts b n (under g x) (w.Bool q) (stmt.first (stmt.Assign (n + 1) (under g other)) rest) E cs (under_awake ts b g n x q E ready.awake here)
      ∙ assign_run ts b (n + 1) (under g other) (w.Bool (not q)) rest F1 cs (under_awake ts b g (n + 1) other (not q) F1 awake not_value)
      ∙ ap (λ xs. brun ts b (join l.stmts xs) F cs) (join_skip r.stmts) in
      let by_truth : (t : Truth) → q ≡ t → Alike R b (if t then e else h) cs (brun ts b (join l.stmts r.stmts) F cs) = λ t. elim t as (λ t. q ≡ t → Alike R b (if t then e else h) cs (brun ts b (join l.stmts r.stmts) F cs)) [
        | true ↦ λ same.
            let first : slice_get F n ≡ Some (One (w.Bool true)) = guarded.first ∙ ap (λ (t : Truth). Some (One (w.Bool t))) same in
            alike_run (join_run ts b l.stmts r.stmts F cs) (sleep_alike (one same (record { awake = (omega arith, first); full = full; locals = l_locals })) (λ z G left_choices i.
            let stay = stays z G i in
            let o = sleeps2.rests ts b l.next G left_choices (one_asleep (n + 1) l.next G (omega (arith, low)) (stay.1 ∙ guarded.second ∙ ap (λ (t : Truth). Some (One (w.Bool (not t)))) same)) (stay.0 ∙ full) r_locals in
            (o.after, (o.done, first_ends z G o.after same first i o.kept))))
        | false ↦ λ same.
            let first : slice_get F n ≡ Some (One (w.Bool false)) = guarded.first ∙ ap (λ (t : Truth). Some (One (w.Bool t))) same in
            let o = sleeps.rests ts b (n + 1 + 1) F cs (one_asleep n (n + 1 + 1) F (omega arith) first) full l_locals in
            alike_run (join_done ts b l.stmts r.stmts F o.after cs cs o.done) (weaken_alike (λ z H i. second_ends z o.after H same first o.kept i)
            (two o.after same o.kept (record { awake = (omega (arith, low), o.kept.same (n + 1) (omega arith) ∙ guarded.second ∙ ap (λ (t : Truth). Some (One (w.Bool (not t)))) same); full = o.kept.length ∙ full; locals = r_locals })))
      ] in
      alike_run run (by_truth q refl)

  -- the value of a choice
  chosen_value : (n : ℕ) (q : Truth) (x y : t.BExpr) (E : Env) → slice_get E n ≡ Some (One (w.Bool q)) → bvalue b (t.If (t.Var n) x y) E ≡ (if q then bvalue b x E else bvalue b y E)
  chosen_value n q x y E h = let k = variable_value b n (w.Bool q) E h in λ j. end.then_with (m.as_truth (k j)) (λ p. if p then bvalue b x E else bvalue b y E)

  pub choose_reads : (f : Emitting Operand) (left right : Guard → Emitting Operand) (e d h : Evaluated Value) (u : Ty) → IsCounted f → ((n : ℕ) → (f n).value.base ≡ base_for ty.Bool) → ((i : Guard) → IsCounted (left i)) → ((i : Guard) → IsCounted (right i)) →
      ((i : ℕ) → Sleeps (λ j. j ≡ i) (left (Some i))) → ((i : ℕ) → Sleeps (λ j. j ≡ i) (right (Some i))) → Reads ts b c p g s sc f e ty.Bool → ((i : ℕ) → Reads ts b c p (Some i) s sc (left (Some i)) d u) → ((i : ℕ) → Reads ts b c p (Some i) s sc (right (Some i)) h u) →
      Reads ts b c p g s sc (then_emit f (λ x. choose_code g x.expr left right chosen_operand)) (then_with (as_truth e) (λ holds. if holds then d else h)) u
  choose_reads f left right e d h u counted based counted1 counted2 sleeps1 sleeps2 reads reads1 reads2 = record {
    alike = λ n0 E0 cs0 coupled0 ready0.
        alike_of (then_again e truth_of (λ holds. if holds then d else h)) (
        goes_then ts b c p g s sc f (λ x. choose_code g x.expr left right chosen_operand) e (λ z. then_with (truth_of z) (λ holds. if holds then d else h)) ty.Bool u counted based reads (any_value e) n0 E0 cs0 coupled0 ready0 (λ E z cs i.
        let x = (f n0).value in let n = (f n0).next in
        truth_alike z (λ holds. if holds then d else h) i.has.typed (λ q same.
        let l = left (Some n) (n + 1 + 1) in let r = right (Some (n + 1)) l.next in let F = guarded_by E n q in
        let low : n + 1 + 1 ≤ l.next = omega (arith, (counted1 (Some n)).next (n + 1 + 1)) in
        let high : l.next ≤ r.next = omega (arith, (counted2 (Some (n + 1))).next l.next) in
        let kept = (are_guarded n q E (omega (arith, slice_get_within ts (n + 1) _ i.ready.locals.1.0, i.ready.full))).kept in
        choose_alike {T = λ G y H. IsValued b l.next r.next r.value u G y H} x.expr left right chosen_operand q d h n E cs (i.has.held.value E (λ j below. refl) ∙ ap (λ (k : Value). end.Is (scalar k)) same) i.ready (counted1 (Some n)) (sleeps1 n) (sleeps2 (n + 1))
        (λ t ready. (reads1 n).alike (n + 1 + 1) F cs (coupled_kept b c n (n + 1 + 1) p s sc E F (omega arith) kept i.coupled) ready)
        (λ y G k. (k.kept.length, k.kept.same (n + 1) (omega arith)))
        (λ y G H t first k sleeping. record {
          kept = kept_then {F = F} {G = H} (omega arith) kept (kept_then {F = G} {G = H} low k.kept sleeping);
          typed = k.typed;
          here = λ K agree. chosen_value n true l.value.expr r.value.expr K (agree n (omega (arith, low, high)) ∙ sleeping.same n (omega (arith, low)) ∙ k.kept.same n (omega arith) ∙ first)
              ∙ k.here K (λ j below. agree j (omega (arith, below, high)) ∙ sleeping.same j below);
        })
        (λ G t sleeping ready. (reads2 (n + 1)).alike l.next G cs
        (coupled_kept b c n l.next p s sc E G (omega (arith, low)) (kept_then {F = F} {G = G} (omega arith) kept sleeping) i.coupled) ready)
        (λ y G H t first sleeping k. record {
          kept = kept_then {F = F} {G = H} (omega arith) kept (kept_then {m = n + 1 + 1} {F = G} {G = H} (omega arith) sleeping (record { length = k.kept.length; same = λ j below. k.kept.same j (omega (arith, below, low)) }));
          typed = k.typed;
          here = λ K agree. chosen_value n false l.value.expr r.value.expr K (agree n (omega (arith, low, high)) ∙ k.kept.same n (omega (arith, low)) ∙ sleeping.same n (omega arith) ∙ first) ∙ k.here K agree;
        }))));
  }
