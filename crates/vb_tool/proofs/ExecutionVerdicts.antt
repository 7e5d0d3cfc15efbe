-- A file, the name of a method and a run file are an execution, or are refused for one reason.
use Rattle.std.proofs.Common.{◌≡◌, ◌∙◌, ◌⊎◌, inl, inr, ◌<◌, ◌≤◌, ℕ, List, length, Option, Some, None, slice_get, refl, sym, ap, subst, arith}
use Rattle.std.proofs.lemmas.Bool.{cases_lt}
use Rattle.vb_base.specs.declared.places.Pos.{Pos}
use Rattle.vb_base.specs.Limits.{max_viper_bytes}
use Rattle.viper_core.specs.Formed.{IsFormed}
use Rattle.viper_core.specs.Program as p
use Rattle.viper_core.specs.declared.programs.Unit.TheVariants as u
use Rattle.viper_syntax.proofs.LexLaws.{one_lexed}
use Rattle.viper_exec_subset.specs.Unframed.{first_unframed}
use Rattle.run_file.specs.Run.{ViperRun, SpellsViperRun, GoesWrongAt}
use Rattle.run_file_words.proofs.AnswerLaws as run_laws
use Rattle.run_file.proofs.FileLaws.{is_reader}
use Rattle.run_file.proofs.ScopeLaws.{names_apart}
use Rattle.vb_tool.proofs.ExecutionUnits.{number_there}
use Rattle.vb_tool.proofs.RunVerdicts.{one_run, one_wrong, never_both}
use Rattle.viper_file.proofs.Verdicts.{one_accepted, accepted_formed}
use Rattle.vb_tool.proofs.Verdicts.{accepted_text, one_text_refusal, text_answer}
use Rattle.viper_file.specs.Accepted.{IsAccepted}
use Rattle.vb_tool.specs.Accepted.{IsTextRefusal, HasOneAnswer, is_accepted, is_refused}
use Rattle.viper_file.specs.Framed.{IsFramed}
use Rattle.vb_tool.specs.AcceptedExecution.{IsUnframedRefusal, of_text, unframed, AcceptsExecution, IsExecutionRefusal, size, run_size, unread, no_method, run_syntax}
use Rattle.vb_tool.specs.Executions.{body_named, MethodRun}
use Rattle.vb_tool.specs.declared.status.Refusal.{Refusal}
use Rattle.vb_tool.specs.declared.status.Refusal.TheVariants as refusal

-- ---- a text is framed, or is refused for one reason

same_tokens : {bytes : List ℕ} {q r : p.Program} (a : IsAccepted bytes q) (b : IsAccepted bytes r) → a.tokens ≡ b.tokens
same_tokens {bytes} a b = one_lexed bytes a.tokens b.tokens a.lexed b.lexed

pub one_framed : {bytes : List ℕ} {q r : p.Program} → IsFramed bytes q → IsFramed bytes r → q ≡ r
one_framed f g = one_accepted f.accepted g.accepted

one_unframed_refusal : {bytes : List ℕ} {r q : Refusal} → IsUnframedRefusal bytes r → IsUnframedRefusal bytes q → r ≡ q
one_unframed_refusal (of_text is) (of_text other) = one_text_refusal is other
one_unframed_refusal (of_text is) (unframed a there) = absurd (accepted_text a is)
one_unframed_refusal (unframed a there) (of_text is) = absurd (accepted_text a is)
one_unframed_refusal (unframed {at = x} a there) (unframed {at = y} b other) =
    let e : Some x ≡ Some y = sym there ∙ ap first_unframed (same_tokens a b) ∙ other in
    let same : x ≡ y = cc in
    ap (λ at. refusal.Unframed at) same

framed_not_refused : {bytes : List ℕ} {q : p.Program} {r : Refusal} → IsFramed bytes q → IsUnframedRefusal bytes r → ⊥
framed_not_refused f (of_text is) = accepted_text f.accepted is
framed_not_refused f (unframed {at = x} a there) =
    let e : None ≡ Some x = sym f.framed ∙ ap first_unframed (same_tokens f.accepted a) ∙ there in absurd (cc)

by_words : {bytes : List ℕ} {q : p.Program} (a : IsAccepted bytes q) (o : Option Pos) → first_unframed a.tokens ≡ o →
    ((r : p.Program) × IsFramed bytes r) ⊎ ((r : Refusal) × IsUnframedRefusal bytes r)
by_words {q = q} a None is = inl (q, record { accepted = a; framed = is })
by_words a (Some at) is = inr (refusal.Unframed at, unframed a is)

unframed_answer : (bytes : List ℕ) → ((q : p.Program) × IsAccepted bytes q) ⊎ ((r : Refusal) × IsTextRefusal bytes r) →
    ((q : p.Program) × IsFramed bytes q) ⊎ ((r : Refusal) × IsUnframedRefusal bytes r)
unframed_answer bytes (inl typed) = by_words typed.1 (first_unframed typed.1.tokens) refl
unframed_answer bytes (inr refused) = inr (refused.0, of_text refused.1)

-- ---- what `exec` accepts and refuses

same_unit : {q r : p.Program} {n m : ℕ} (name : List ℕ) → q ≡ r → body_named q name ≡ Some n → body_named r name ≡ Some m → n ≡ m
same_unit {n = n} {m} name same is other =
    let e : Some n ≡ Some m = sym is ∙ ap (λ x. body_named x name) same ∙ other in cc

is_no_unit : {q r : p.Program} {n : ℕ} (name : List ℕ) → q ≡ r → body_named q name ≡ Some n → body_named r name ≡ None → ⊥
is_no_unit {n = n} name same is other =
    let e : Some n ≡ None = sym is ∙ ap (λ x. body_named x name) same ∙ other in absurd (cc)

one_end : {run : List ℕ} {q r : p.Program} {n m : ℕ} {a b : Pos} (name : List ℕ) → IsFormed r → q ≡ r → body_named q name ≡ Some n → body_named r name ≡ Some m →
    GoesWrongAt run q n a → GoesWrongAt run r m b → a ≡ b
one_end {run} {q} {r} {n} {m} {a} {b} name formed same is other h i =
    one_wrong run r m formed (subst (λ k. GoesWrongAt run r k a) (same_unit name same is other) (subst (λ x. GoesWrongAt run x n a) same h)) i

pub one_execution_refusal : {bytes name run : List ℕ} {r q : Refusal} → IsExecutionRefusal bytes name run r → IsExecutionRefusal bytes name run q → r ≡ q
one_execution_refusal (size above) (size also) = refl
one_execution_refusal (size above) (run_size small more) = absurd (omega (arith, above, small))
one_execution_refusal (size above) (unread small few is) = absurd (omega (arith, above, small))
one_execution_refusal (size above) (no_method f few none) = absurd (omega (arith, above, f.accepted.small))
one_execution_refusal (size above) (run_syntax f few named wrong) = absurd (omega (arith, above, f.accepted.small))
one_execution_refusal (run_size small more) (size above) = absurd (omega (arith, above, small))
one_execution_refusal (run_size small more) (run_size also other) = refl
one_execution_refusal (run_size small more) (unread also few is) = absurd (omega (arith, more, few))
one_execution_refusal (run_size small more) (no_method f few none) = absurd (omega (arith, more, few))
one_execution_refusal (run_size small more) (run_syntax f few named wrong) = absurd (omega (arith, more, few))
one_execution_refusal (unread small few is) (size above) = absurd (omega (arith, above, small))
one_execution_refusal (unread small few is) (run_size also more) = absurd (omega (arith, more, few))
one_execution_refusal (unread small few is) (unread also less other) = one_unframed_refusal is other
one_execution_refusal (unread small few is) (no_method f less none) = absurd (framed_not_refused f is)
one_execution_refusal (unread small few is) (run_syntax f less named wrong) = absurd (framed_not_refused f is)
one_execution_refusal (no_method f few none) (size above) = absurd (omega (arith, above, f.accepted.small))
one_execution_refusal (no_method f few none) (run_size also more) = absurd (omega (arith, more, few))
one_execution_refusal (no_method f few none) (unread also less other) = absurd (framed_not_refused f other)
one_execution_refusal (no_method f few none) (no_method g less other) = refl
one_execution_refusal {name = name} (no_method f few none) (run_syntax g less named wrong) = absurd (is_no_unit name (one_framed g f) named none)
one_execution_refusal (run_syntax f few named wrong) (size above) = absurd (omega (arith, above, f.accepted.small))
one_execution_refusal (run_syntax f few named wrong) (run_size also more) = absurd (omega (arith, more, few))
one_execution_refusal (run_syntax f few named wrong) (unread also less other) = absurd (framed_not_refused f other)
one_execution_refusal {name = name} (run_syntax f few named wrong) (no_method g less none) = absurd (is_no_unit name (one_framed f g) named none)
one_execution_refusal {name = name} (run_syntax f few named wrong) (run_syntax g less other also) =
    ap (λ at. refusal.RunSyntax at) (one_end name (accepted_formed g.accepted) (one_framed f g) named other wrong also)

pub execution_not_refused : {bytes name run : List ℕ} {w : MethodRun} {r : Refusal} → AcceptsExecution bytes name run w → IsExecutionRefusal bytes name run r → ⊥
execution_not_refused h (size above) = omega (arith, above, h.framed.accepted.small)
execution_not_refused h (run_size small more) = omega (arith, more, h.small)
execution_not_refused h (unread small few is) = framed_not_refused h.framed is
execution_not_refused {name = name} h (no_method f few none) = is_no_unit name (one_framed h.framed f) h.named none
execution_not_refused {name = name} {run} {w} h (run_syntax {typed = q} {unit = n} {at = at} f few named wrong) =
    let same = one_framed f h.framed in
    never_both run w.program w.unit (accepted_formed h.framed.accepted) h.spelled
    (subst (λ k. GoesWrongAt run w.program k at) (same_unit name same named h.named) (subst (λ x. GoesWrongAt run x n at) same wrong))

-- an execution is told by its program, its unit and its run
same_number : {a b : ℕ} → Some (u.Method a) ≡ Some (u.Method b) → a ≡ b
same_number e = cc

same_execution : (v w : MethodRun) → slice_get v.program.units v.unit ≡ Some (u.Method v.number) → slice_get w.program.units w.unit ≡ Some (u.Method w.number) →
    v.program ≡ w.program → v.unit ≡ w.unit → v.run ≡ w.run → v ≡ w
same_execution v w is other program unit run =
    let number = same_number (sym is ∙ (λ t. slice_get (program t).units (unit t)) ∙ other) in
    λ t. record { program = program t; unit = unit t; number = number t; run = run t }

pub one_execution : {bytes name run : List ℕ} {v w : MethodRun} → AcceptsExecution bytes name run v → AcceptsExecution bytes name run w → v ≡ w
one_execution {name = name} {run} {v} {w} h i =
    let program = one_framed h.framed i.framed in
    let unit = same_unit name program h.named i.named in
    let spelled = subst (λ k. SpellsViperRun run w.program k v.run) unit (subst (λ x. SpellsViperRun run x v.unit v.run) program h.spelled) in
    same_execution v w h.is_method i.is_method program unit
    (one_run run w.program w.unit (accepted_formed i.framed.accepted) spelled i.spelled)

-- ---- there is an answer

module _ (bytes name run : List ℕ) where
  abbrev Answer : Type 0
  Answer = HasOneAnswer (AcceptsExecution bytes name run) (IsExecutionRefusal bytes name run)

  accepted_once : {w : MethodRun} → AcceptsExecution bytes name run w → Answer
  accepted_once h = is_accepted h (λ other i. one_execution i h) (λ r is. execution_not_refused h is)

  refused_once : {r : Refusal} → IsExecutionRefusal bytes name run r → Answer
  refused_once h = is_refused h (λ other is. one_execution_refusal is h) (λ w accepts. execution_not_refused accepts h)

  of_run : (q : p.Program) (n : ℕ) → IsFramed bytes q → length run ≤ max_viper_bytes → body_named q name ≡ Some n →
      ((a : ViperRun) × SpellsViperRun run q n a) ⊎ ((b : Pos) × GoesWrongAt run q n b) → Answer
  of_run q n f few named (inl spelled) =
      let (k, is) = number_there q name n named in
      accepted_once {w = record { program = q; unit = n; number = k; run = spelled.0 }}
      (record { framed = f; small = few; named = named; is_method = is; spelled = spelled.1 })
  of_run q n f few named (inr wrong) = refused_once (run_syntax f few named wrong.1)

  of_unit : (q : p.Program) → IsFramed bytes q → length run ≤ max_viper_bytes → (o : Option ℕ) → body_named q name ≡ o → Answer
  of_unit q f few None none = refused_once (no_method f few none)
  of_unit q f few (Some n) named = of_run q n f few named (run_laws.run_or_place (is_reader q n (names_apart q n (accepted_formed f.accepted))) run (omega (arith, few)))

  of_bytes : length bytes ≤ max_viper_bytes → length run ≤ max_viper_bytes → ((q : p.Program) × IsFramed bytes q) ⊎ ((r : Refusal) × IsUnframedRefusal bytes r) → Answer
  of_bytes small few (inl framed) = of_unit framed.0 framed.1 few (body_named framed.0 name) refl
  of_bytes small few (inr refused) = refused_once (unread small few refused.1)

  of_run_size : length bytes ≤ max_viper_bytes → (max_viper_bytes < length run) ⊎ (length run ≤ max_viper_bytes) → Answer
  of_run_size small (inl above) = refused_once (run_size small above)
  of_run_size small (inr few) = of_bytes small few (unframed_answer bytes (text_answer bytes small))

  of_size : (max_viper_bytes < length bytes) ⊎ (length bytes ≤ max_viper_bytes) → Answer
  of_size (inl above) = refused_once (size above)
  of_size (inr small) = of_run_size small (cases_lt max_viper_bytes (length run))

pub one_execution_answer : (bytes name run : List ℕ) → HasOneAnswer (AcceptsExecution bytes name run) (IsExecutionRefusal bytes name run)
one_execution_answer bytes name run = of_size bytes name run (cases_lt max_viper_bytes (length bytes))
