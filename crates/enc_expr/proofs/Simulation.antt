-- The code of an expression ends as the expression does, and so does that of producing a body from a content.
use Rattle.std.proofs.Common.{◌≡◌, ℕ, false, List, All, Some, inl, inr, refl, sym, ap, subst, ◌∙◌}
use Rattle.std.proofs.lemmas.Option.{get_or_from_slice_get}
use Rattle.vb_base.specs.declared.places.Pos.{Pos}
use Rattle.vb_value.specs.Bound.{Bound}
use Rattle.vb_value.specs.Content.{Content, IsProperContent}
use Rattle.vb_value.specs.Fraction.{Fraction, IsReduced, IsProperFraction, whole}
use Rattle.vb_value.specs.Key.{IsProperKey}
use Rattle.vb_value.specs.Value.{IsProperValue}
use Rattle.vb_value.specs.declared.values.Ty.{Ty}
use Rattle.vb_value.specs.declared.values.Ty.TheVariants as ty
use Rattle.vb_value.specs.declared.values.Value.{Value}
use Rattle.vb_value.specs.declared.values.Value.TheVariants as v
use Rattle.viper_core.specs.declared.exprs.Op.{Op}
use Rattle.viper_core.specs.Expr as e
use Rattle.viper_core.specs.Formed.{IsFormed, predicate_context}
use Rattle.viper_core.specs.Typing as y
use Rattle.viper_core.specs.Typing.{Context, HasType, Opens, HaveTypes, IsAssertion, IsLiteralPart, value_type, is_outside_predicates}
use Rattle.viper_core.proofs.FormedLaws.{predicate_of_typed, predicate_body_of_typed}
use Rattle.viper_core.proofs.LiteralLaws.{typed_literals, exprs_literals, assertion_literals, literals_proper}
use Rattle.viper_state.specs.Event.{Event}
use Rattle.viper_state.specs.State.{State}
use Rattle.viper_state.specs.Run.{Scene, with_variables}
use Rattle.viper_state.specs.Fits.{FitsStore}
use Rattle.viper_state.specs.Within.{AllOfEvent, IsProperScene}
use Rattle.viper_meaning.specs.Ends.{Evaluated}
use Rattle.viper_meaning.specs.Kept as kept
use Rattle.viper_meaning.specs.Kept.{Keeps, IsAny}
use Rattle.viper_meaning.specs.Operators.{Class, Lazy, Division, Plain, class_of, in_class}
use Rattle.viper_meaning.specs.Value.{value, unfolded, values, amount_of, opened}
use Rattle.viper_meaning.proofs.ClosedLaws.{proper_closed}
use Rattle.viper_meaning.proofs.KeptLaws.{value_kept, values_kept, amount_kept, opened_kept}
use Rattle.viper_meaning.proofs.SignLaws.{any_events, opened_sign}
use Rattle.viper_meaning.proofs.TypedLaws.{keys_at, opened_fits}
use Rattle.boogie_tree.specs.Expr as t
use Rattle.boogie_tree.specs.Program.{BType}
use Rattle.boogie_tree.specs.Stmt as stmt
use Rattle.boogie_tree.specs.Value as w
use Rattle.boogie_tree.specs.declared.exprs.BBase.TheVariants as base
use Rattle.boogie_meaning.specs.Ends as end
use Rattle.enc_expr.specs.Place.{Place, with_now, with_vars}
use Rattle.moves.specs.Scalars.{base_for}
use Rattle.enc_expr.specs.Kinds.{Kinds, kinds_in, type_at, body_kinds}
use Rattle.enc_expr.specs.Code.{Emitting, Guard, puts}
use Rattle.enc_expr.specs.Pieces.{Operand, one}
use Rattle.enc_expr.specs.Operators.{in_class_code}
use Rattle.enc_expr.specs.Encoding.{maps_from, code, unfolding_code, codes, body_code, is_unit}
use Rattle.enc_expr.specs.Coupling.{Env, IsSound, IsCoupled, IsOwn}
use Rattle.enc_expr.specs.Alike.{IsValued, AreValued, IsScale, IsSource}
use Rattle.enc_expr.proofs.Simulated.{IsCounted, Sleeps, Simulates, Fills}
use Rattle.enc_expr.proofs.CodeLaws.{code_counted, codes_counted, body_counted, puts_counted, code_sleeps, body_sleeps, puts_sleeps}
use Rattle.enc_expr.proofs.BaseLaws.{lazy_types, divisor_type, code_base}
use Rattle.enc_expr.proofs.UnfoldingLaws.{unfolding_simulates}
use Rattle.enc_expr.proofs.FormLaws.{Reads, constant_reads, variable_reads, negative_reads, negation_reads, plain_reads, lazy_reads, choose_reads, old_reads, no_arguments_read, arguments_read}
use Rattle.enc_expr.proofs.CheckLaws.{division_reads, field_reads}
use Rattle.enc_expr.proofs.ChoiceLaws.{unit_fills, choice_fills}
use Rattle.enc_expr.proofs.PairLaws.{sides_fill}
use Rattle.enc_expr.proofs.BodyLaws.{fact_fills, acc_fills, instance_fills}

-- ---- laws of evaluations

pub any_law : {X : Type 0} {V : Event → Type 0} {P Q : X → Type 0} {a : Evaluated X} → ((x : X) → P x → Q x) → Keeps V P a → Keeps IsAny Q a
any_law f (kept.value h p) = kept.value (any_events _) (f _ p)
any_law f (kept.failure h) = kept.failure (any_events _)
any_law f (kept.blocked h) = kept.blocked (any_events _)
any_law f (kept.over h) = kept.over (any_events _)

pub both_laws : {X : Type 0} {V W : Event → Type 0} {P Q : X → Type 0} {a : Evaluated X} → Keeps V P a → Keeps W Q a → Keeps IsAny (λ x. P x × Q x) a
both_laws (kept.value h p) (kept.value i q) = kept.value (any_events _) (p, q)
both_laws (kept.failure h) k = kept.failure (any_events _)
both_laws (kept.blocked h) k = kept.blocked (any_events _)
both_laws (kept.over h) k = kept.over (any_events _)

-- ---- literals and operators

pub part_is_whole : (q : Fraction) → IsLiteralPart q → end.Is (w.Real (whole q.num)) ≡ end.Is (w.Real q)
part_is_whole q (inl same) = subst (λ (q : Fraction). end.Is (w.Real (whole q.num)) ≡ end.Is (w.Real q)) (sym same) refl
part_is_whole q (inr same) = subst (λ (q : Fraction). end.Is (w.Real (whole q.num)) ≡ end.Is (w.Real q)) (sym same) refl

module _ (b : Bound) (c : Context) (formed : IsFormed c.program) {n : ℕ} {p : Place} {s : State} {sc : Scene} {E : Env} (coupled : IsCoupled b c n p s sc E) where
  -- ---- what is proper, and sound

  proper_scene : IsProperScene b sc
  proper_scene = record { store = coupled.store; old = coupled.old_sound.proper }

  abbrev OfEvents : Event → Type 0
  OfEvents = AllOfEvent (IsProperFraction b) (IsProperValue b) (IsProperKey b) (IsProperContent b)

  pub proper_value : {a : e.Expr} {u : Ty} → HasType c a u → Keeps OfEvents (IsProperValue b) (value b a s sc)
  proper_value {a} typed = value_kept b (IsProperFraction b) IsReduced (IsProperValue b) (IsProperKey b) (IsProperContent b) (proper_closed b) a s sc
      (typed_literals _ _ (literals_proper b) c formed.typed typed) coupled.sound.proper proper_scene

  pub proper_values : {xs : e.Exprs} {us : List Ty} → HaveTypes c xs us → Keeps OfEvents (All (IsProperValue b)) (values b xs s sc)
  proper_values {xs} typed = values_kept b (IsProperFraction b) IsReduced (IsProperValue b) (IsProperKey b) (IsProperContent b) (proper_closed b) xs s sc
      (exprs_literals _ _ (literals_proper b) c formed.typed typed) coupled.sound.proper proper_scene

  pub proper_amount : {a : e.Expr} → HasType c a ty.Perm → Keeps IsAny (IsProperFraction b) (amount_of b (e.Is a) s sc)
  proper_amount {a} typed = any_law (λ q h. h) (amount_kept b (IsProperFraction b) IsReduced (IsProperValue b) (IsProperKey b) (IsProperContent b) (proper_closed b) (e.Is a) s sc
      (typed_literals _ _ (literals_proper b) c formed.typed typed) coupled.sound.proper proper_scene)

  sound_body : {x : t.BExpr} {k : Fraction} {from : ℕ} {d : Content} (a : e.Assertion) → IsAssertion c a → FitsStore c.vars sc.store → IsSource b n E from d → IsScale b n E x k →
      Keeps IsAny (IsSound b c.program.layout) (opened b a d s sc k)
  sound_body {k = k} {d = d} a typed fits source scaled =
      let one = opened_fits b c a d s sc k formed typed source.reduced coupled.sound.fits (record { store = fits; old = coupled.old_sound.fits }) scaled.proper.reduced in
      let two = opened_kept b (IsProperFraction b) IsReduced (IsProperValue b) (IsProperKey b) (IsProperContent b) (proper_closed b) a d s sc k
      (assertion_literals _ _ (literals_proper b) c formed.typed typed) source.proper coupled.sound.proper proper_scene scaled.proper.reduced in
      let three = opened_sign b a d s sc k scaled.positive coupled.sound.nonnegative in
      any_law (λ t h. record { fits = h.0; proper = h.1.0; nonnegative = h.1.1 }) (both_laws one (both_laws two three))

module _ (ts : List BType) (b : Bound) where
  -- an operator of two sides, by its class
  class_reads : {V : Event → Type 0} (q : Class) (c : Context) (p : Place) (g : Guard) (s : State) (sc : Scene) (f : Op) (at : Pos) (left : Emitting Operand) (right : Guard → Emitting Operand) (a d : Evaluated Value) (l r u : Ty) → class_of f ≡ q →
      value_type f l r ≡ Some u → IsCounted left → ((h : Guard) → IsCounted (right h)) → ((n : ℕ) → (left n).value.base ≡ base_for l) → ((h : Guard) (n : ℕ) → (right h n).value.base ≡ base_for r) →
      ((i : ℕ) → Sleeps (λ j. j ≡ i) (right (Some i))) → Reads ts b c p g s sc left a l → Keeps V (IsProperValue b) a → ((h : Guard) → Reads ts b c p h s sc (right h) d r) →
      Reads ts b c p g s sc (in_class_code q p g f at left right) (in_class q b sc f a d at) u
  class_reads Plain c p g s sc f at left right a d l r u class typed counted counted2 based based2 sleeps reads proper reads2 =
      plain_reads ts b c p g s sc f at left right a d l r u class typed counted (counted2 g) based (based2 g) reads (reads2 g)
  class_reads Division c p g s sc f at left right a d l r u class typed counted counted2 based based2 sleeps reads proper reads2 =
      let int = divisor_type f l r u class typed in
      division_reads ts b c p g s sc f at left right a d l u class (ap (value_type f l) (sym int) ∙ typed) counted (counted2 g) based (λ n. based2 g n ∙ ap base_for int) reads proper
      (subst (λ (r : Ty). Reads ts b c p g s sc (right g) d r) int (reads2 g))
  class_reads Lazy c p g s sc f at left right a d l r u class typed counted counted2 based based2 sleeps reads proper reads2 =
      let truths = lazy_types f l r u class typed in
      subst (λ (u : Ty). Reads ts b c p g s sc (in_class_code Lazy p g f at left right) (in_class Lazy b sc f a d at) u) (sym truths.2)
      (lazy_reads ts b c p g s sc f at left right a d class counted (λ n. based n ∙ ap base_for truths.0) (λ i. counted2 (Some i)) sleeps (subst (λ (l : Ty). Reads ts b c p g s sc left a l) truths.0 reads)
      (λ i. subst (λ (r : Ty). Reads ts b c p (Some i) s sc (right (Some i)) d r) truths.1 (reads2 (Some i))))

  mutual
    pub expression : (c : Context) (p : Place) (g : Guard) (s : State) (sc : Scene) (a : e.Expr) (u : Ty) → IsFormed c.program → HasType c a u →
        Simulates ts b c p g s sc (code (kinds_in c) p g a) (value b a s sc) (λ n m x E. IsValued b n m x u E)
    expression c p g s sc (e.Var x) u formed (y.variable visible there) = variable_reads ts b c p g s sc x u (base_for (type_at c.vars x)) visible there
    expression c p g s sc (e.Int n) _ formed (y.literal l) = constant_reads ts b c p g s sc (record { expr = t.Int n; base = base.Int }) (v.Int n) ty.Int refl (λ G. refl)
    expression c p g s sc (e.Bool q) _ formed y.truth = constant_reads ts b c p g s sc (record { expr = t.Bool q; base = base.Bool }) (v.Bool q) ty.Bool refl (λ G. refl)
    expression c p g s sc e.Null _ formed y.null = constant_reads ts b c p g s sc (record { expr = t.Null; base = base.Ref }) (v.Ref 0) ty.Ref refl (λ G. refl)
    expression c p g s sc (e.Part q) _ formed (y.part l) = constant_reads ts b c p g s sc (record { expr = t.Real q.num; base = base.Real }) (v.Perm q) ty.Perm refl (λ G. part_is_whole q l)
    expression c p g s sc (e.Neg a) u formed (y.negative i counts) =
        negative_reads ts b c p g s sc (code (kinds_in c) p g a) (value b a s sc) u counts (code_counted (kinds_in c) p g a) (code_base c p g a u i) (expression c p g s sc a u formed i)
    expression c p g s sc (e.Not a) _ formed (y.negation i) =
        negation_reads ts b c p g s sc (code (kinds_in c) p g a) (value b a s sc) (code_counted (kinds_in c) p g a) (code_base c p g a ty.Bool i) (expression c p g s sc a ty.Bool formed i)
    expression c p g s sc (e.Bin f a d at) u formed (y.binary {left = l} {right = r} i j typed) =
        let reads = expression c p g s sc a l formed i in
        let reads2 : (h : Guard) → Reads ts b c p h s sc (code (kinds_in c) p h d) (value b d s sc) r = λ h. expression c p h s sc d r formed j in
        record {
          alike = λ n E cs coupled ready.
              (class_reads (class_of f) c p g s sc f at (code (kinds_in c) p g a) (λ h. code (kinds_in c) p h d) (value b a s sc) (value b d s sc) l r u refl typed (code_counted (kinds_in c) p g a) (λ h. code_counted (kinds_in c) p h d)
              (code_base c p g a l i) (λ h. code_base c p h d r j) (λ h. code_sleeps (kinds_in c) p h d refl) reads (proper_value b c formed coupled i) reads2).alike n E cs coupled ready;
        }
    expression c p g s sc (e.Choose a d f) u formed (y.choice i j k) =
        choose_reads ts b c p g s sc (code (kinds_in c) p g a) (λ h. code (kinds_in c) p h d) (λ h. code (kinds_in c) p h f) (value b a s sc) (value b d s sc) (value b f s sc) u (code_counted (kinds_in c) p g a) (code_base c p g a ty.Bool i)
        (λ h. code_counted (kinds_in c) p h d) (λ h. code_counted (kinds_in c) p h f) (λ h. code_sleeps (kinds_in c) p h d refl) (λ h. code_sleeps (kinds_in c) p h f refl)
        (expression c p g s sc a ty.Bool formed i) (λ h. expression c p (Some h) s sc d u formed j) (λ h. expression c p (Some h) s sc f u formed k)
    expression c p g s sc (e.Field a f at) u formed (y.field i there) =
        field_reads ts b c p g s sc f at u (code (kinds_in c) p g a) (value b a s sc) there (code_counted (kinds_in c) p g a) (code_base c p g a ty.Ref i) (expression c p g s sc a ty.Ref formed i)
    expression c p g s sc (e.Old a) u formed (y.old allowed i) =
        old_reads ts b c p g s sc (code (kinds_in c) (with_now p.old p) g a) (value b a sc.old sc) u (expression c (with_now p.old p) g sc.old sc a u formed i)
    expression c p g s sc (e.Unfolding o) u formed (y.unfolded outside i) = unfolding_in c p g s sc o u formed i

    pub unfolding_in : (c : Context) (p : Place) (g : Guard) (s : State) (sc : Scene) (o : e.Opened) (u : Ty) → IsFormed c.program → Opens c o u →
        Simulates ts b c p g s sc (unfolding_code (kinds_in c) p g o) (unfolded b o s sc) (λ n m x E. IsValued b n m x u E)
    unfolding_in c p g s sc (e.opened q args amount body_of inner at) u formed (y.opens d there has_body i j k) =
        let keys = keys_at c formed q d there in
        let same : kinds_in (predicate_context c.program d) ≡ body_kinds (kinds_in c) q =
        ap (λ (us : List Ty). record { vars = us; layout = c.program.layout }) (sym (get_or_from_slice_get c.program.layout.keys q d.params _ keys)) in
        record {
          alike = λ n E cs coupled ready.
              (unfolding_simulates ts b c d p g s sc q u body_of inner at args amount keys (predicate_of_typed c.program formed.typed q d there).params
              (λ x is less vs scale z content from own fits.
              subst (λ (o : Kinds). Fills ts b (predicate_context c.program d) (with_now (maps_from c.program.layout x) (with_vars is p)) g less (with_variables vs sc) scale z from content
              (body_code o (with_now (maps_from c.program.layout x) (with_vars is p)) g scale body_of from) (opened b body_of content less (with_variables vs sc) z)) same
              (body (predicate_context c.program d) (with_now (maps_from c.program.layout x) (with_vars is p)) g less (with_variables vs sc) scale z body_of content from formed
              (predicate_body_of_typed c.program formed.typed q d body_of there has_body) refl own fits))
              (λ x t. expression c (with_now (maps_from c.program.layout x) p) g t sc inner u formed k)
              (arguments c p g s sc args d.params formed i) (proper_values b c formed coupled i) (expression c p g s sc amount ty.Perm formed j) (proper_value b c formed coupled j)).alike n E cs coupled ready;
        }

    pub arguments : (c : Context) (p : Place) (g : Guard) (s : State) (sc : Scene) (xs : e.Exprs) (us : List Ty) → IsFormed c.program → HaveTypes c xs us →
        Simulates ts b c p g s sc (codes (kinds_in c) p g xs) (values b xs s sc) (λ n m ys E. AreValued b n m ys us E)
    arguments c p g s sc e.none _ formed y.nothing = no_arguments_read ts b c p g s sc
    arguments c p g s sc (e.more a rest) _ formed (y.also {u = u} {us = us} i j) =
        arguments_read ts b c p g s sc (code (kinds_in c) p g a) (codes (kinds_in c) p g rest) (value b a s sc) (values b rest s sc) u us (code_counted (kinds_in c) p g a) (codes_counted (kinds_in c) p g rest)
        (expression c p g s sc a u formed i) (arguments c p g s sc rest us formed j)

    -- a body has no `wildcard`
    pub body : (c : Context) (p : Place) (g : Guard) (s : State) (sc : Scene) (scale : t.BExpr) (k : Fraction) (a : e.Assertion) (d : Content) (from : ℕ) → IsFormed c.program → IsAssertion c a → is_outside_predicates c.site ≡ false →
        IsOwn c p → FitsStore c.vars sc.store → Fills ts b c p g s sc scale k from d (body_code (kinds_in c) p g scale a from) (opened b a d s sc k)
    body c p g s sc scale k (e.Fact a at) d from formed (y.fact i) inside own fits = fact_fills ts b c p g s sc scale k a at d from (expression c p g s sc a ty.Bool formed i)
    body c p g s sc scale k (e.Acc a f (e.Is m) at) d from formed (y.access {u = u} i there (y.amount j)) inside own fits =
        let reads = expression c p g s sc a ty.Ref formed i in let reads2 = expression c p g s sc m ty.Perm formed j in
        record {
          alike = λ n E cs coupled source scaled ready.
              (acc_fills ts b c p g s sc scale k a m f at u d from own there reads reads2 (proper_amount b c formed coupled j)
              (sound_body b c formed coupled (e.Acc a f (e.Is m) at) (y.access i there (y.amount j)) fits source scaled)).alike n E cs coupled source scaled ready;
        }
    body c p g s sc scale k (e.Acc a f e.Wildcard at) d from formed (y.access i there (y.wildcard outside)) inside own fits = absurd (cc)
    body c p g s sc scale k (e.Inst q args (e.Is m) at) d from formed (y.instance r there i (y.amount j)) inside own fits =
        let read = arguments c p g s sc args r.params formed i in let reads2 = expression c p g s sc m ty.Perm formed j in
        record {
          alike = λ n E cs coupled source scaled ready.
              (instance_fills ts b c p g s sc scale k args m q at r.params d from own (keys_at c formed q r there) (predicate_of_typed c.program formed.typed q r there).params read reads2 (proper_amount b c formed coupled j)
              (sound_body b c formed coupled (e.Inst q args (e.Is m) at) (y.instance r there i (y.amount j)) fits source scaled)).alike n E cs coupled source scaled ready;
        }
    body c p g s sc scale k (e.Inst q args e.Wildcard at) d from formed (y.instance r there i (y.wildcard outside)) inside own fits = absurd (cc)
    body c p g s sc scale k (e.And a h) d from formed (y.both i j) inside own fits =
        sides_fill ts b c p sc scale k g s from d (λ o. body_code (kinds_in c) p g scale a o) (λ o. body_code (kinds_in c) p g scale h o) (λ d. opened b a d s sc k) (λ t d. opened b h d t sc k) (λ o. body_counted (kinds_in c) p g scale a o)
        (λ o. body_counted (kinds_in c) p g scale h o) (λ d from. body c p g s sc scale k a d from formed i inside own fits) (λ t d from. body c p g t sc scale k h d from formed j inside own fits)
    body c p g s sc scale k (e.Implies a h) d from formed (y.implied i j) inside own fits =
        choice_fills ts b c p s sc scale k from d g (code (kinds_in c) p g a) (λ o. body_code (kinds_in c) p o scale h from) (λ o. puts o (one (stmt.Assume (is_unit from)))) (value b a s sc) (opened b h d s sc k) _
        (code_counted (kinds_in c) p g a) (λ o. body_counted (kinds_in c) p o scale h from) (λ o. puts_counted o (one (stmt.Assume (is_unit from)))) (λ o. body_sleeps (kinds_in c) p o scale h from refl) (λ o. puts_sleeps o (one (stmt.Assume (is_unit from))) refl)
        (expression c p g s sc a ty.Bool formed i) (λ o. body c p (Some o) s sc scale k h d from formed j inside own fits) (λ o. unit_fills ts b c p s sc scale k from d (Some o))
    body c p g s sc scale k (e.ChooseAssertion a h l) d from formed (y.chosen i j m) inside own fits =
        choice_fills ts b c p s sc scale k from d g (code (kinds_in c) p g a) (λ o. body_code (kinds_in c) p o scale h from) (λ o. body_code (kinds_in c) p o scale l from) (value b a s sc) (opened b h d s sc k) (opened b l d s sc k)
        (code_counted (kinds_in c) p g a) (λ o. body_counted (kinds_in c) p o scale h from) (λ o. body_counted (kinds_in c) p o scale l from) (λ o. body_sleeps (kinds_in c) p o scale h from refl)
        (λ o. body_sleeps (kinds_in c) p o scale l from refl) (expression c p g s sc a ty.Bool formed i) (λ o. body c p (Some o) s sc scale k h d from formed j inside own fits)
        (λ o. body c p (Some o) s sc scale k l d from formed m inside own fits)
