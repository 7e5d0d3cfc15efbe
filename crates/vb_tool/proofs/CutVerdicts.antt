-- A file with loops and calls is one program, or is refused for one reason.
use Rattle.std.proofs.Common.{◌≡◌, ◌∙◌, ◌⊎◌, inl, inr, ◌<◌, ◌≤◌, ℕ, suc, List, length, Option, Some, None, refl, sym, ap, subst, arith}
use Rattle.std.proofs.lemmas.Bool.{cases_lt, cases_order}
use Rattle.vb_base.specs.Limits.{max_boogie_bytes}
use Rattle.boogie_grammar.specs.declared.faults.BoogieFault.{BoogieFault}
use Rattle.boogie_grammar.specs.declared.faults.BoogieFault.TheVariants as fault
use Rattle.boogie_text.specs.Texts.{no_tokens}
use Rattle.boogie_loops.specs.Wide.{WProgram}
use Rattle.boogie_loops.specs.WideTypes.{IsWideProgram, IsFirstIllTypedWide, ill_typed_wide}
use Rattle.boogie_loops.proofs.WideTypeLaws.{none_ill_typed, is_first_wide}
use Rattle.boogie_loops_text.specs.Answers.{IsWideRead}
use Rattle.boogie_loops_text.specs.Faults.{IsWideFault}
use Rattle.boogie_loops_text.proofs.WideFaults.{one_fault, not_refused}
use Rattle.boogie_loops_text.proofs.WideParsed.{one_program}
use Rattle.boogie_loops_text.proofs.WideTextAnswers.{some_text_answer}
use Rattle.vb_tool.proofs.BoogieVerdicts.{for_fault}
use Rattle.vb_tool.specs.Accepted.{HasOneAnswer, is_accepted, is_refused}
use Rattle.vb_tool.specs.AcceptedCut.{AcceptsCut, IsWideRefusal, prelude, deep, syntax, ill_typed, IsCutRefusal, size, of_text}
use Rattle.vb_tool.specs.declared.status.Refusal.{Refusal}
use Rattle.vb_tool.specs.declared.status.Refusal.TheVariants as refusal

one_text : {bytes : List ℕ} {q r : WProgram} → IsWideRead bytes q → IsWideRead bytes r → q ≡ r
one_text {bytes} {q} {r} h i = one_program bytes q r h.spelled i.spelled

pub one_cut : {bytes : List ℕ} {q r : WProgram} → AcceptsCut bytes q → AcceptsCut bytes r → q ≡ r
one_cut h i = one_text h.text i.text

read_refused : {bytes : List ℕ} {q : WProgram} (f : BoogieFault) → IsWideRead bytes q → IsWideFault bytes f → ⊥
read_refused {bytes} {q} f h k = not_refused bytes f q h.spelled h.shallow k

-- only one procedure is the first that is ill-typed
module _ (q : WProgram) {n m : ℕ} (h : IsFirstIllTypedWide q n) (i : IsFirstIllTypedWide q m) where
  first_once : (h.place ≡ i.place) ⊎ ((h.place < i.place) ⊎ (i.place < h.place)) → n ≡ m
  first_once (inl same) = h.is_number ∙ ap suc same ∙ sym i.is_number
  first_once (inr (inl lt)) = absurd (h.is_ill_typed (i.before h.place h.procedure lt h.is_there))
  first_once (inr (inr lt)) = absurd (i.is_ill_typed (h.before i.place i.procedure lt i.is_there))

one_number : {q r : WProgram} {n m : ℕ} → q ≡ r → IsFirstIllTypedWide q n → IsFirstIllTypedWide r m → n ≡ m
one_number {q} {r} {n} {m} same h i =
    let j = subst (λ x. IsFirstIllTypedWide x m) (sym same) i in
    first_once q h j (cases_order h.place j.place)

typed_and_not : {q r : WProgram} {n : ℕ} → q ≡ r → IsWideProgram q → IsFirstIllTypedWide r n → ⊥
typed_and_not same typed i = i.is_ill_typed (subst IsWideProgram same typed i.place i.procedure i.is_there)

module _ {bytes : List ℕ} where
  one_wide_refusal : {r q : Refusal} → IsWideRefusal bytes r → IsWideRefusal bytes q → r ≡ q
  one_wide_refusal (prelude f) (prelude g) = ap for_fault (one_fault bytes _ _ f g)
  one_wide_refusal (prelude f) (deep g) = ap for_fault (one_fault bytes _ _ f g)
  one_wide_refusal (prelude f) (syntax g) = ap for_fault (one_fault bytes _ _ f g)
  one_wide_refusal (prelude f) (ill_typed h i) = absurd (read_refused _ h f)
  one_wide_refusal (deep f) (prelude g) = ap for_fault (one_fault bytes _ _ f g)
  one_wide_refusal (deep f) (deep g) = ap for_fault (one_fault bytes _ _ f g)
  one_wide_refusal (deep f) (syntax g) = ap for_fault (one_fault bytes _ _ f g)
  one_wide_refusal (deep f) (ill_typed h i) = absurd (read_refused _ h f)
  one_wide_refusal (syntax f) (prelude g) = ap for_fault (one_fault bytes _ _ f g)
  one_wide_refusal (syntax f) (deep g) = ap for_fault (one_fault bytes _ _ f g)
  one_wide_refusal (syntax f) (syntax g) = ap for_fault (one_fault bytes _ _ f g)
  one_wide_refusal (syntax f) (ill_typed h i) = absurd (read_refused _ h f)
  one_wide_refusal (ill_typed h i) (prelude g) = absurd (read_refused _ h g)
  one_wide_refusal (ill_typed h i) (deep g) = absurd (read_refused _ h g)
  one_wide_refusal (ill_typed h i) (syntax g) = absurd (read_refused _ h g)
  one_wide_refusal (ill_typed h i) (ill_typed k j) = ap refusal.BoogieType (one_number (one_text h k) i j)

  cut_text_refused : {q : WProgram} {r : Refusal} → AcceptsCut bytes q → IsWideRefusal bytes r → ⊥
  cut_text_refused h (prelude f) = read_refused _ h.text f
  cut_text_refused h (deep f) = read_refused _ h.text f
  cut_text_refused h (syntax f) = read_refused _ h.text f
  cut_text_refused h (ill_typed k i) = typed_and_not (one_text h.text k) h.is_typed i

  pub one_cut_refusal : {r q : Refusal} → IsCutRefusal bytes r → IsCutRefusal bytes q → r ≡ q
  one_cut_refusal (size above) (size also) = refl
  one_cut_refusal (size above) (of_text small is) = absurd (omega (arith, above, small))
  one_cut_refusal (of_text small is) (size above) = absurd (omega (arith, above, small))
  one_cut_refusal (of_text small is) (of_text also other) = one_wide_refusal is other

  pub cut_not_refused : {q : WProgram} {r : Refusal} → AcceptsCut bytes q → IsCutRefusal bytes r → ⊥
  cut_not_refused h (size above) = omega (arith, above, h.small)
  cut_not_refused h (of_text small is) = cut_text_refused h is

-- ---- there is an answer

module _ (bytes : List ℕ) where
  abbrev Text : Type 0
  Text = ((q : WProgram) × IsWideRead bytes q × IsWideProgram q) ⊎ ((r : Refusal) × IsWideRefusal bytes r)

  of_types : (q : WProgram) → IsWideRead bytes q → (o : Option ℕ) → ill_typed_wide q.procs q.procs ≡ o → Text
  of_types q h None none = inl (q, h, none_ill_typed q none)
  of_types q h (Some n) some = inr (_, ill_typed h (is_first_wide q n some))

  no_memory : IsWideFault bytes fault.Memory → ⊥
  no_memory (no_tokens f) = elim f [ ]

  of_fault : (f : BoogieFault) → IsWideFault bytes f → Text
  of_fault fault.Memory f = absurd (no_memory f)
  of_fault (fault.Prelude at) f = inr (_, prelude f)
  of_fault (fault.Syntax at) f = inr (_, syntax f)
  of_fault (fault.Deep at) f = inr (_, deep f)

  of_read : ((q : WProgram) × IsWideRead bytes q) ⊎ ((f : BoogieFault) × IsWideFault bytes f) → Text
  of_read (inl (q, h)) = of_types q h (ill_typed_wide q.procs q.procs) refl
  of_read (inr (f, h)) = of_fault f h

  abbrev Answer : Type 0
  Answer = HasOneAnswer (AcceptsCut bytes) (IsCutRefusal bytes)

  accepted_once : {q : WProgram} → AcceptsCut bytes q → Answer
  accepted_once h = is_accepted h (λ other i. one_cut i h) (λ r is. cut_not_refused h is)

  refused_once : {r : Refusal} → IsCutRefusal bytes r → Answer
  refused_once h = is_refused h (λ other is. one_cut_refusal is h) (λ q accepts. cut_not_refused accepts h)

  of_answer : length bytes ≤ max_boogie_bytes → Text → Answer
  of_answer small (inl (q, h, typed)) = accepted_once (record { small = small; text = h; is_typed = typed })
  of_answer small (inr (r, is)) = refused_once (of_text small is)

  of_size : (max_boogie_bytes < length bytes) ⊎ (length bytes ≤ max_boogie_bytes) → Answer
  of_size (inl above) = refused_once (size above)
  of_size (inr small) = of_answer small (of_read (some_text_answer bytes (omega (arith, small))))

pub one_cut_answer : (bytes : List ℕ) → HasOneAnswer (AcceptsCut bytes) (IsCutRefusal bytes)
one_cut_answer bytes = of_size bytes (cases_lt max_boogie_bytes (length bytes))
