-- A reader of a kind of run files: what it makes of a file, and that each file spells one thing or goes wrong at one place.
use Rattle.std.proofs.Common.{◌≡◌, ◌≤◌, ◌⊎◌, inl, inr, ℕ, List, length, Result, Ok, Err, MatchResult, IfOk, IfErr, refl, ap, subst}
use Rattle.vb_base.specs.Limits.{max_boogie_bytes}
use Rattle.vb_base.specs.declared.places.Pos.{Pos}
use Rattle.run_file_words.specs.Machine.{Machine, IsReadBy, StopsBy, WrongAt}
use Rattle.run_file_words.specs.Answers.{UnlessMemory}
use Rattle.run_file_words.specs.Text.{lines_of}
use Rattle.run_file_words.specs.Answers.{Gives, GivesPlace}
use Rattle.run_file_words.specs.declared.faults.RunFileFault.{RunFileFault}
use Rattle.run_file_words.specs.declared.faults.RunFileFault.TheVariants as fault
use Rattle.run_file_words.proofs.StepLaws.{ends, one_read, one_stop, read_or_stops}

-- What lines spell is what the machine reads of them, where runs that are the same count as one.
pub record IsReader {S R : Type 0} (m : Machine S R) (Spell : List (List ℕ) → R → Type 0) (Same : R → R → Type 0) : Type 0 where
  pub read : (lines : List (List ℕ)) (run : R) → Spell lines run → (e : R) × (IsReadBy m lines e × Same e run)
  pub spelled : (lines : List (List ℕ)) (run : R) → IsReadBy m lines run → Spell lines run
  pub wrong : (bytes : List ℕ) (at : Pos) → StopsBy m (lines_of bytes) at → WrongAt Spell bytes at
  pub stops : (bytes : List ℕ) (at : Pos) → WrongAt Spell bytes at → StopsBy m (lines_of bytes) at
  pub joins : (e a b : R) → Same e a → Same e b → Same a b

-- what is answered of a file
pub record Answered {R X : Type 0} (Spell : List (List ℕ) → R → Type 0) (Same : R → R → Type 0) (view : X → R) (bytes : List ℕ) (r : Result X RunFileFault) : Type 0 where
  pub run : IfOk r (λ x. Spell (lines_of bytes) (view x))
  pub fault : IfErr r (UnlessMemory (WrongAt Spell bytes))
  pub only_run : (run : R) → Spell (lines_of bytes) run → Gives (λ x. Same (view x) run) r
  pub only_place : (at : Pos) → WrongAt Spell bytes at → GivesPlace at r

module _ {S R : Type 0} {m : Machine S R} {Spell : List (List ℕ) → R → Type 0} {Same : R → R → Type 0} (k : IsReader m Spell Same) (bytes : List ℕ) where
  module _ {X : Type 0} (view : X → R) where
    -- what was read, or where it stopped
    abbrev Told : Result X RunFileFault → Type 0
    Told r = MatchResult r (λ x. IsReadBy m (lines_of bytes) (view x)) (UnlessMemory (StopsBy m (lines_of bytes)))

    found_run : (r : Result X RunFileFault) → Told r → IfOk r (λ x. Spell (lines_of bytes) (view x))
    found_run (Ok x) h = k.spelled (lines_of bytes) (view x) h
    found_run (Err e) h = tt

    found_fault : (r : Result X RunFileFault) → Told r → IfErr r (UnlessMemory (WrongAt Spell bytes))
    found_fault (Ok x) h = tt
    found_fault (Err fault.Memory) h = tt
    found_fault (Err (fault.Syntax at)) h = k.wrong bytes at h

    gives_run : (r : Result X RunFileFault) (run : R) → Told r → Spell (lines_of bytes) run → Gives (λ x. Same (view x) run) r
    gives_run (Ok x) run h s =
        let other = k.read (lines_of bytes) run s in
        subst (λ e. Same e run) (one_read m (lines_of bytes) other.1.0 h) other.1.1
    gives_run (Err fault.Memory) run h s = refl
    gives_run (Err (fault.Syntax at)) run h s = absurd (read_or_stops m (lines_of bytes) (k.read (lines_of bytes) run s).1.0 h)

    gives_place : (r : Result X RunFileFault) (at : Pos) → Told r → StopsBy m (lines_of bytes) at → GivesPlace at r
    gives_place (Ok x) at h s = read_or_stops m (lines_of bytes) h s
    gives_place (Err fault.Memory) at h s = inr refl
    gives_place (Err (fault.Syntax to)) at h s = inl (ap (λ p. fault.Syntax p) (one_stop m (lines_of bytes) h s))

    pub answered : (r : Result X RunFileFault) → Told r → Answered Spell Same view bytes r
    answered r h = record {
      run = found_run r h;
      fault = found_fault r h;
      only_run = λ run spelled. gives_run r run h spelled;
      only_place = λ at wrong. gives_place r at h (k.stops bytes at wrong);
    }

  -- ---- each file spells one run, or goes wrong at one place

  pub one_run : (a b : R) → Spell (lines_of bytes) a → Spell (lines_of bytes) b → Same a b
  one_run a b h i =
      let first = k.read (lines_of bytes) a h in
      let second = k.read (lines_of bytes) b i in
      k.joins first.0 a b first.1.1 (subst (λ e. Same e b) (one_read m (lines_of bytes) second.1.0 first.1.0) second.1.1)

  pub run_or_place : length bytes ≤ max_boogie_bytes → ((run : R) × Spell (lines_of bytes) run) ⊎ ((at : Pos) × WrongAt Spell bytes at)
  run_or_place few = elim (ends m bytes few) [
    | inl h ↦ inl (h.0, k.spelled (lines_of bytes) h.0 h.1)
    | inr h ↦ inr (h.0, k.wrong bytes h.0 h.1)
  ]

  pub not_both : (run : R) (at : Pos) → Spell (lines_of bytes) run → WrongAt Spell bytes at → ⊥
  not_both run at h wrong = read_or_stops m (lines_of bytes) (k.read (lines_of bytes) run h).1.0 (k.stops bytes at wrong)

  pub one_place : (at to : Pos) → WrongAt Spell bytes at → WrongAt Spell bytes to → at ≡ to
  one_place at to h i = one_stop m (lines_of bytes) (k.stops bytes at h) (k.stops bytes to i)
