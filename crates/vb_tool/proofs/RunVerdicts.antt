-- A file, the name of a unit and a run file are a run, or are refused for one reason.
use Rattle.std.proofs.Common.{◌≡◌, ◌∙◌, ◌⊎◌, inl, inr, ◌<◌, ◌≤◌, ℕ, List, length, Option, Some, None, refl, sym, ap, subst, arith}
use Rattle.std.proofs.lemmas.Bool.{cases_lt}
use Rattle.vb_base.specs.declared.places.Pos.{Pos}
use Rattle.vb_base.specs.Limits.{max_viper_bytes}
use Rattle.viper_core.specs.Formed.{IsFormed}
use Rattle.viper_core.specs.Program as p
use Rattle.run_file.specs.Run.{ViperRun, SpellsViperRun, GoesWrongAt}
use Rattle.run_file_words.proofs.AnswerLaws as run_laws
use Rattle.run_file.proofs.FileLaws.{is_reader}
use Rattle.run_file.proofs.ScopeLaws.{names_apart}
use Rattle.viper_file.proofs.Verdicts.{one_accepted, accepted_formed}
use Rattle.vb_tool.proofs.Verdicts.{accepted_text, one_text_refusal, text_answer}
use Rattle.viper_file.specs.Accepted.{IsAccepted}
use Rattle.vb_tool.specs.Accepted.{AcceptsRun, IsTextRefusal, IsRunRefusal, size, run_size, of_text, no_unit, run_syntax, HasOneAnswer, is_accepted, is_refused}
use Rattle.vb_tool.specs.Units.{unit_named, UnitRun}
use Rattle.vb_tool.specs.declared.status.Refusal.{Refusal}
use Rattle.vb_tool.specs.declared.status.Refusal.TheVariants as refusal

-- ---- a run file has one answer

module _ (bytes : List ℕ) (q : p.Program) (n : ℕ) (formed : IsFormed q) where
  pub one_run : {a b : ViperRun} → SpellsViperRun bytes q n a → SpellsViperRun bytes q n b → a ≡ b
  one_run {a} {b} h k = run_laws.one_run (is_reader q n (names_apart q n formed)) bytes a b h k

  pub one_wrong : {a b : Pos} → GoesWrongAt bytes q n a → GoesWrongAt bytes q n b → a ≡ b
  one_wrong {a} {b} h k = run_laws.one_place (is_reader q n (names_apart q n formed)) bytes a b h k

  pub never_both : {a : ViperRun} {b : Pos} → SpellsViperRun bytes q n a → GoesWrongAt bytes q n b → ⊥
  never_both {a} {b} h k = run_laws.not_both (is_reader q n (names_apart q n formed)) bytes a b h k

-- ---- what `run` accepts and refuses

same_unit : {q r : p.Program} {n m : ℕ} (name : List ℕ) → q ≡ r → unit_named q name ≡ Some n → unit_named r name ≡ Some m → n ≡ m
same_unit {n = n} {m} name same is other =
    let e : Some n ≡ Some m = sym is ∙ ap (λ x. unit_named x name) same ∙ other in cc

is_no_unit : {q r : p.Program} {n : ℕ} (name : List ℕ) → q ≡ r → unit_named q name ≡ Some n → unit_named r name ≡ None → ⊥
is_no_unit {n = n} name same is other =
    let e : Some n ≡ None = sym is ∙ ap (λ x. unit_named x name) same ∙ other in absurd (cc)

one_end : {run : List ℕ} {q r : p.Program} {n m : ℕ} {a b : Pos} (name : List ℕ) → IsFormed r → q ≡ r → unit_named q name ≡ Some n → unit_named r name ≡ Some m →
    GoesWrongAt run q n a → GoesWrongAt run r m b → a ≡ b
one_end {run} {q} {r} {n} {m} {a} {b} name formed same is other h i =
    one_wrong run r m formed (subst (λ k. GoesWrongAt run r k a) (same_unit name same is other) (subst (λ x. GoesWrongAt run x n a) same h)) i

pub one_run_refusal : {bytes name run : List ℕ} {r q : Refusal} → IsRunRefusal bytes name run r → IsRunRefusal bytes name run q → r ≡ q
one_run_refusal (size above) (size also) = refl
one_run_refusal (size above) (run_size small more) = absurd (omega (arith, above, small))
one_run_refusal (size above) (of_text small few is) = absurd (omega (arith, above, small))
one_run_refusal (size above) (no_unit a few none) = absurd (omega (arith, above, a.small))
one_run_refusal (size above) (run_syntax a few named wrong) = absurd (omega (arith, above, a.small))
one_run_refusal (run_size small more) (size above) = absurd (omega (arith, above, small))
one_run_refusal (run_size small more) (run_size also other) = refl
one_run_refusal (run_size small more) (of_text also few is) = absurd (omega (arith, more, few))
one_run_refusal (run_size small more) (no_unit a few none) = absurd (omega (arith, more, few))
one_run_refusal (run_size small more) (run_syntax a few named wrong) = absurd (omega (arith, more, few))
one_run_refusal (of_text small few is) (size above) = absurd (omega (arith, above, small))
one_run_refusal (of_text small few is) (run_size also more) = absurd (omega (arith, more, few))
one_run_refusal (of_text small few is) (of_text also less other) = one_text_refusal is other
one_run_refusal (of_text small few is) (no_unit a less none) = absurd (accepted_text a is)
one_run_refusal (of_text small few is) (run_syntax a less named wrong) = absurd (accepted_text a is)
one_run_refusal (no_unit a few none) (size above) = absurd (omega (arith, above, a.small))
one_run_refusal (no_unit a few none) (run_size also more) = absurd (omega (arith, more, few))
one_run_refusal (no_unit a few none) (of_text also less other) = absurd (accepted_text a other)
one_run_refusal (no_unit a few none) (no_unit b less other) = refl
one_run_refusal {name = name} (no_unit a few none) (run_syntax b less named wrong) = absurd (is_no_unit name (one_accepted b a) named none)
one_run_refusal (run_syntax a few named wrong) (size above) = absurd (omega (arith, above, a.small))
one_run_refusal (run_syntax a few named wrong) (run_size also more) = absurd (omega (arith, more, few))
one_run_refusal (run_syntax a few named wrong) (of_text also less other) = absurd (accepted_text a other)
one_run_refusal {name = name} (run_syntax a few named wrong) (no_unit b less none) = absurd (is_no_unit name (one_accepted a b) named none)
one_run_refusal {name = name} (run_syntax a few named wrong) (run_syntax b less other also) = ap (λ at. refusal.RunSyntax at) (one_end name (accepted_formed b) (one_accepted a b) named other wrong also)

pub run_not_refused : {bytes name run : List ℕ} {w : UnitRun} {r : Refusal} → AcceptsRun bytes name run w → IsRunRefusal bytes name run r → ⊥
run_not_refused h (size above) = omega (arith, above, h.accepted.small)
run_not_refused h (run_size small more) = omega (arith, more, h.small)
run_not_refused h (of_text small few is) = accepted_text h.accepted is
run_not_refused {name = name} h (no_unit a few none) = is_no_unit name (one_accepted h.accepted a) h.named none
run_not_refused {name = name} {run} {w} h (run_syntax {typed = q} {unit = n} {at = at} a few named wrong) =
    let same = one_accepted a h.accepted in
    never_both run w.program w.unit (accepted_formed h.accepted) h.spelled
    (subst (λ k. GoesWrongAt run w.program k at) (same_unit name same named h.named) (subst (λ x. GoesWrongAt run x n at) same wrong))

same_run : (v w : UnitRun) → v.program ≡ w.program → v.unit ≡ w.unit → v.run ≡ w.run → v ≡ w
same_run v w e f g =
    ap (λ x. record { program = x; unit = v.unit; run = v.run }) e ∙ ap (λ x. record { program = w.program; unit = x; run = v.run }) f ∙ ap (λ x. record { program = w.program; unit = w.unit; run = x }) g

pub one_unit_run : {bytes name run : List ℕ} {v w : UnitRun} → AcceptsRun bytes name run v → AcceptsRun bytes name run w → v ≡ w
one_unit_run {name = name} {run} {v} {w} h i =
    let program = one_accepted h.accepted i.accepted in
    let unit = same_unit name program h.named i.named in
    let spelled = subst (λ k. SpellsViperRun run w.program k v.run) unit (subst (λ x. SpellsViperRun run x v.unit v.run) program h.spelled) in
    same_run v w program unit
    (one_run run w.program w.unit (accepted_formed i.accepted) spelled i.spelled)

-- ---- there is an answer

module _ (bytes name run : List ℕ) where
  abbrev Answer : Type 0
  Answer = HasOneAnswer (AcceptsRun bytes name run) (IsRunRefusal bytes name run)

  accepted_once : {w : UnitRun} → AcceptsRun bytes name run w → Answer
  accepted_once h = is_accepted h (λ other i. one_unit_run i h) (λ r is. run_not_refused h is)

  refused_once : {r : Refusal} → IsRunRefusal bytes name run r → Answer
  refused_once h = is_refused h (λ other is. one_run_refusal is h) (λ w accepts. run_not_refused accepts h)

  of_run : (q : p.Program) (n : ℕ) → IsAccepted bytes q → length run ≤ max_viper_bytes → unit_named q name ≡ Some n →
      ((a : ViperRun) × SpellsViperRun run q n a) ⊎ ((b : Pos) × GoesWrongAt run q n b) → Answer
  of_run q n a few named (inl spelled) =
      accepted_once {w = record { program = q; unit = n; run = spelled.0 }} (record { accepted = a; small = few; named = named; spelled = spelled.1 })
  of_run q n a few named (inr wrong) = refused_once (run_syntax a few named wrong.1)

  of_unit : (q : p.Program) → IsAccepted bytes q → length run ≤ max_viper_bytes → (o : Option ℕ) → unit_named q name ≡ o → Answer
  of_unit q a few None none = refused_once (no_unit a few none)
  of_unit q a few (Some n) named = of_run q n a few named (run_laws.run_or_place (is_reader q n (names_apart q n (accepted_formed a))) run (omega (arith, few)))

  of_bytes : length bytes ≤ max_viper_bytes → length run ≤ max_viper_bytes → ((q : p.Program) × IsAccepted bytes q) ⊎ ((r : Refusal) × IsTextRefusal bytes r) → Answer
  of_bytes small few (inl typed) = of_unit typed.0 typed.1 few (unit_named typed.0 name) refl
  of_bytes small few (inr refused) = refused_once (of_text small few refused.1)

  of_run_size : length bytes ≤ max_viper_bytes → (max_viper_bytes < length run) ⊎ (length run ≤ max_viper_bytes) → Answer
  of_run_size small (inl above) = refused_once (run_size small above)
  of_run_size small (inr few) = of_bytes small few (text_answer bytes small)

  of_size : (max_viper_bytes < length bytes) ⊎ (length bytes ≤ max_viper_bytes) → Answer
  of_size (inl above) = refused_once (size above)
  of_size (inr small) = of_run_size small (cases_lt max_viper_bytes (length run))

pub one_run_answer : (bytes name run : List ℕ) → HasOneAnswer (AcceptsRun bytes name run) (IsRunRefusal bytes name run)
one_run_answer bytes name run = of_size bytes name run (cases_lt max_viper_bytes (length bytes))
