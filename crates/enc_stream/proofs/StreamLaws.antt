-- The procedures of the units that are left are that of the first of them, and those behind it.
use Rattle.std.proofs.Common.{◌≡◌, ◌∙◌, ◌+◌, ◌++◌, ℕ, suc, List, ◌∷◌, Some, map, drop, slice_get, ap, drop-cons, arith}
use Rattle.std.proofs.lemmas.Option.{slice_get_within, get_or_from_slice_get}
use Rattle.viper_core.specs.Program.{Program}
use Rattle.viper_core.specs.declared.programs.Unit.{Unit}
use Rattle.boogie_grammar.specs.Printed.{proc_text, procs_text}
use Rattle.boogie_print.specs.Asserts.{asserts_in, asserts_in_procs}
use Rattle.enc_units.specs.Units.{unit_procedure}

module _ (p : Program) (us : List Unit) (i : ℕ) (x : Unit) (here : slice_get us i ≡ Some x) where
  procs_left : map (unit_procedure p) (drop i us) ≡ unit_procedure p x ∷ map (unit_procedure p) (drop (i + 1) us)
  procs_left =
      let next : suc i ≡ i + 1 = omega arith in
      ap (map (unit_procedure p)) (drop-cons us i x (slice_get_within us i x here)) ∙ ap (λ (y : Unit). unit_procedure p y ∷ map (unit_procedure p) (drop (suc i) us)) (get_or_from_slice_get us i x x here)
      ∙ ap (λ (k : ℕ). unit_procedure p x ∷ map (unit_procedure p) (drop k us)) next

  pub procs_text_first : procs_text (map (unit_procedure p) (drop i us)) ≡ proc_text (unit_procedure p x) ++ procs_text (map (unit_procedure p) (drop (i + 1) us))
  procs_text_first = ap procs_text procs_left

  pub procs_asserts_first : asserts_in_procs (map (unit_procedure p) (drop i us)) ≡ asserts_in (unit_procedure p x).body + asserts_in_procs (map (unit_procedure p) (drop (i + 1) us))
  procs_asserts_first = ap asserts_in_procs procs_left
