-- A file of Boogie and a name are a procedure, or are refused for one reason.
use Rattle.std.proofs.Common.{◌≡◌, ◌∙◌, ◌⊎◌, inl, inr, ◌<◌, ◌≤◌, ℕ, List, [], length, Option, Some, None, slice_get, refl, sym, ap, subst, arith}
use Rattle.std.proofs.lemmas.Bool.{cases_lt}
use Rattle.std.proofs.lemmas.List.Quantifiers.{position-Some}
use Rattle.std.specs.Str.{bytes_eq}
use Rattle.vb_base.specs.Limits.{max_boogie_bytes}
use Rattle.lemmas.proofs.Options.{some_same}
use Rattle.lemmas.proofs.Lists.{item_there}
use Rattle.boogie_tree.specs.Program.{Proc, BProgram}
use Rattle.boogie_tree.specs.Stmt.{skip}
use Rattle.boogie_meaning.specs.Programs.{IsTypedProgram, IsFirstIllTyped, first_ill_typed}
use Rattle.boogie_meaning.proofs.ProgramLaws.{is_first, is_first_back, no_ill_typed}
use Rattle.boogie_grammar.specs.Faults.{IsFault}
use Rattle.boogie_grammar.specs.declared.faults.BoogieFault.{BoogieFault}
use Rattle.boogie_grammar.specs.declared.faults.BoogieFault.TheVariants as fault
use Rattle.boogie_print.specs.Read.{IsRead}
use Rattle.boogie_text.proofs.FaultLaws.{one_fault, not_refused}
use Rattle.boogie_print.proofs.Parsed.{one_program}
use Rattle.boogie_text.proofs.TextAnswers.{some_text_answer}
use Rattle.boogie_file.specs.Accepted.{IsBoogie, procedure_named, Accepts, IsTextRefusal, prelude, deep, syntax, ill_typed, IsRefusal, size, of_text, no_procedure, HasOneAnswer, is_accepted, is_refused}
use Rattle.boogie_file.specs.declared.refusal.BoogieRefusal.{BoogieRefusal}
use Rattle.boogie_file.specs.declared.refusal.BoogieRefusal.TheVariants as refusal

-- ---- the text of a program

-- the refusal for a fault
abbrev for_fault : BoogieFault → BoogieRefusal
for_fault fault.Memory = refusal.Size
for_fault (fault.Prelude at) = refusal.Prelude at
for_fault (fault.Syntax at) = refusal.BoogieSyntax at
for_fault (fault.Deep at) = refusal.Deep at

one_text : {bytes : List ℕ} {q r : BProgram} → IsRead bytes q → IsRead bytes r → q ≡ r
one_text {bytes} {q} {r} h i = one_program bytes q r h.spelled i.spelled

pub one_boogie : {bytes : List ℕ} {q r : BProgram} → IsBoogie bytes q → IsBoogie bytes r → q ≡ r
one_boogie h i = one_text h.text i.text

read_refused : {bytes : List ℕ} {q : BProgram} (f : BoogieFault) → IsRead bytes q → IsFault bytes f → ⊥
read_refused {bytes} {q} f h k = not_refused bytes f q h.spelled h.shallow k

one_number : {q r : BProgram} {n m : ℕ} → q ≡ r → IsFirstIllTyped q n → IsFirstIllTyped r m → n ≡ m
one_number {q} {r} {n} {m} same h i = some_same (sym (is_first_back q n h) ∙ ap first_ill_typed same ∙ is_first_back r m i)

typed_and_not : {q r : BProgram} {n : ℕ} → q ≡ r → IsTypedProgram q → IsFirstIllTyped r n → ⊥
typed_and_not same typed i = i.is_ill_typed (subst IsTypedProgram same typed i.place i.procedure i.is_there)

module _ {bytes : List ℕ} where
  pub one_text_refusal : {r q : BoogieRefusal} → IsTextRefusal bytes r → IsTextRefusal bytes q → r ≡ q
  one_text_refusal (prelude f) (prelude g) = ap for_fault (one_fault bytes _ _ f g)
  one_text_refusal (prelude f) (deep g) = ap for_fault (one_fault bytes _ _ f g)
  one_text_refusal (prelude f) (syntax g) = ap for_fault (one_fault bytes _ _ f g)
  one_text_refusal (prelude f) (ill_typed h i) = absurd (read_refused _ h f)
  one_text_refusal (deep f) (prelude g) = ap for_fault (one_fault bytes _ _ f g)
  one_text_refusal (deep f) (deep g) = ap for_fault (one_fault bytes _ _ f g)
  one_text_refusal (deep f) (syntax g) = ap for_fault (one_fault bytes _ _ f g)
  one_text_refusal (deep f) (ill_typed h i) = absurd (read_refused _ h f)
  one_text_refusal (syntax f) (prelude g) = ap for_fault (one_fault bytes _ _ f g)
  one_text_refusal (syntax f) (deep g) = ap for_fault (one_fault bytes _ _ f g)
  one_text_refusal (syntax f) (syntax g) = ap for_fault (one_fault bytes _ _ f g)
  one_text_refusal (syntax f) (ill_typed h i) = absurd (read_refused _ h f)
  one_text_refusal (ill_typed h i) (prelude g) = absurd (read_refused _ h g)
  one_text_refusal (ill_typed h i) (deep g) = absurd (read_refused _ h g)
  one_text_refusal (ill_typed h i) (syntax g) = absurd (read_refused _ h g)
  one_text_refusal (ill_typed h i) (ill_typed k j) = ap refusal.BoogieType (one_number (one_text h k) i j)

  pub boogie_text : {q : BProgram} {r : BoogieRefusal} → IsBoogie bytes q → IsTextRefusal bytes r → ⊥
  boogie_text h (prelude f) = read_refused _ h.text f
  boogie_text h (deep f) = read_refused _ h.text f
  boogie_text h (syntax f) = read_refused _ h.text f
  boogie_text h (ill_typed k i) = typed_and_not (one_text h.text k) h.is_typed i

nobody : Proc
nobody = record { name = []; locals = []; body = skip }

pub named_within : (q : BProgram) (name : List ℕ) (n : ℕ) → procedure_named q name ≡ Some n → n < length q.procs
named_within q name n e = (position-Some (λ (d : Proc). bytes_eq d.name name) q.procs n nobody e).0

-- a text is a well-typed program, or is refused
pub boogie_answer : (bytes : List ℕ) → length bytes ≤ max_boogie_bytes → ((q : BProgram) × IsBoogie bytes q) ⊎ ((r : BoogieRefusal) × IsTextRefusal bytes r)
boogie_answer bytes small = of_cut (some_text_answer bytes (omega (arith, small)))
  where
    of_types : (q : BProgram) → IsRead bytes q → (o : Option ℕ) → first_ill_typed q ≡ o → ((q : BProgram) × IsBoogie bytes q) ⊎ ((r : BoogieRefusal) × IsTextRefusal bytes r)
    of_types q h None none = inl (q, record { small = small; text = h; is_typed = no_ill_typed q none })
    of_types q h (Some n) some = inr (_, ill_typed h (is_first q n some))

    no_memory : IsFault bytes fault.Memory → ⊥
    no_memory f = elim f [ ]

    of_fault : (f : BoogieFault) → IsFault bytes f → ((q : BProgram) × IsBoogie bytes q) ⊎ ((r : BoogieRefusal) × IsTextRefusal bytes r)
    of_fault fault.Memory f = absurd (no_memory f)
    of_fault (fault.Prelude at) f = inr (_, prelude f)
    of_fault (fault.Syntax at) f = inr (_, syntax f)
    of_fault (fault.Deep at) f = inr (_, deep f)

    of_cut : ((q : BProgram) × IsRead bytes q) ⊎ ((f : BoogieFault) × IsFault bytes f) → ((q : BProgram) × IsBoogie bytes q) ⊎ ((r : BoogieRefusal) × IsTextRefusal bytes r)
    of_cut (inl (q, h)) = of_types q h (first_ill_typed q) refl
    of_cut (inr (f, h)) = of_fault f h

-- ---- the procedure of a name

same_number : {q r : BProgram} {n m : ℕ} (name : List ℕ) → q ≡ r → procedure_named q name ≡ Some n → procedure_named r name ≡ Some m → n ≡ m
same_number name same is other = some_same (sym is ∙ ap (λ x. procedure_named x name) same ∙ other)

same_procedure : {q r : BProgram} {n m : ℕ} {d e : Proc} → q ≡ r → n ≡ m → slice_get q.procs n ≡ Some d → slice_get r.procs m ≡ Some e → d ≡ e
same_procedure {r = r} {n = n} same number is other = some_same (sym is ∙ ap (λ (x : BProgram). slice_get x.procs n) same ∙ ap (slice_get r.procs) number ∙ other)

is_no_procedure : {q r : BProgram} {n : ℕ} (name : List ℕ) → q ≡ r → procedure_named q name ≡ Some n → procedure_named r name ≡ None → ⊥
is_no_procedure {n = n} name same is other = let e : Some n ≡ None = sym is ∙ ap (λ x. procedure_named x name) same ∙ other in absurd (cc)

module _ {bytes name : List ℕ} where
  pub one_refusal : {r q : BoogieRefusal} → IsRefusal bytes name r → IsRefusal bytes name q → r ≡ q
  one_refusal (size above) (size also) = refl
  one_refusal (size above) (of_text small is) = absurd (omega (arith, above, small))
  one_refusal (size above) (no_procedure a none) = absurd (omega (arith, above, a.small))
  one_refusal (of_text small is) (size above) = absurd (omega (arith, above, small))
  one_refusal (of_text small is) (of_text also other) = one_text_refusal is other
  one_refusal (of_text small is) (no_procedure a none) = absurd (boogie_text a is)
  one_refusal (no_procedure a none) (size above) = absurd (omega (arith, above, a.small))
  one_refusal (no_procedure a none) (of_text small is) = absurd (boogie_text a is)
  one_refusal (no_procedure a none) (no_procedure b also) = refl

  pub accepted_not_refused : {d : Proc} {r : BoogieRefusal} → Accepts bytes name d → IsRefusal bytes name r → ⊥
  accepted_not_refused h (size above) = let small = h.accepted.small in omega (arith, above, small)
  accepted_not_refused h (of_text small is) = boogie_text h.accepted is
  accepted_not_refused h (no_procedure a none) = is_no_procedure name (one_boogie h.accepted a) h.named none

  pub one_accepted : {d e : Proc} → Accepts bytes name d → Accepts bytes name e → d ≡ e
  one_accepted h i =
      let program = one_boogie h.accepted i.accepted in
      same_procedure program (same_number name program h.named i.named) h.is_there i.is_there

module _ (bytes name : List ℕ) where
  refused_once : {r : BoogieRefusal} → IsRefusal bytes name r → HasOneAnswer bytes name
  refused_once h = is_refused h (λ other is. one_refusal is h) (λ d accepts. accepted_not_refused accepts h)

  of_name : (q : BProgram) → IsBoogie bytes q → (o : Option ℕ) → procedure_named q name ≡ o → HasOneAnswer bytes name
  of_name q a None none = refused_once (no_procedure a none)
  of_name q a (Some n) named =
      let (d, there) = item_there q.procs n (named_within q name n named) in
      let accepts : Accepts bytes name d = record { program = q; accepted = a; number = n; named = named; is_there = there } in
      is_accepted accepts (λ other i. one_accepted i accepts) (λ r is. accepted_not_refused accepts is)

  of_answer : length bytes ≤ max_boogie_bytes → ((q : BProgram) × IsBoogie bytes q) ⊎ ((r : BoogieRefusal) × IsTextRefusal bytes r) → HasOneAnswer bytes name
  of_answer small (inl (q, a)) = of_name q a (procedure_named q name) refl
  of_answer small (inr (r, is)) = refused_once (of_text small is)

  of_size : (max_boogie_bytes < length bytes) ⊎ (length bytes ≤ max_boogie_bytes) → HasOneAnswer bytes name
  of_size (inl above) = refused_once (size above)
  of_size (inr small) = of_answer small (boogie_answer bytes small)

pub has_one_answer : (bytes name : List ℕ) → HasOneAnswer bytes name
has_one_answer bytes name = of_size bytes name (cases_lt max_boogie_bytes (length bytes))
