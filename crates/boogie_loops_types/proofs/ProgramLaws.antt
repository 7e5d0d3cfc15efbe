-- The number of the first ill-typed procedure, one procedure after the other.
use Rattle.std.proofs.Common.{◌≡◌, ◌∙◌, ◌↔◌, ℕ, ◌+◌, true, false, Option, Some, None, IfSome, IsNone, is_some, List, ◌∷◌, map, refl, sym, ap}
use Rattle.std.specs.Option.{option_map}
use Rattle.lemmas.proofs.Options.{number_after}
use Rattle.boogie_loops.specs.Wide as w
use Rattle.boogie_loops.specs.View.{wproc_of}
use Rattle.boogie_loops.specs.WideTypes.{IsWideProgram, IsFirstIllTypedWide, is_wide_proc, ill_typed_wide}
use Rattle.boogie_loops.specs.declared.wide.WProc.{WProc}
use Rattle.boogie_loops.proofs.WideTypeLaws.{none_ill_typed, none_ill_typed_back, is_first_wide}

module _ (ps : List w.WProc) where
  pub at_ill_typed : (n : ℕ) (d : WProc) (ds : List WProc) → is_wide_proc ps (wproc_of d) ≡ false → option_map (λ m. n + m) (ill_typed_wide ps (map wproc_of (d ∷ ds))) ≡ Some (n + 1)
  at_ill_typed n d ds h = rw h refl

  pub at_typed : (n : ℕ) (d : WProc) (ds : List WProc) → is_wide_proc ps (wproc_of d) ≡ true →
      option_map (λ m. n + m) (ill_typed_wide ps (map wproc_of (d ∷ ds))) ≡ option_map (λ m. (n + 1) + m) (ill_typed_wide ps (map wproc_of ds))
  at_typed n d ds h = rw h (number_after n (ill_typed_wide ps (map wproc_of ds)))

none_is : {X : Type 0} (o : Option X) → IsNone o → o ≡ None
none_is None h = refl
none_is (Some x) h = absurd (cc)

-- what is answered of a program whose procedures these are
module _ (program : w.WProgram) (o : Option ℕ) (is : o ≡ ill_typed_wide program.procs program.procs) where
  pub none_where_typed : IsNone o ↔ IsWideProgram program
  none_where_typed = ((λ none. none_ill_typed program (sym is ∙ none_is o none)), (λ typed. ap is_some (is ∙ none_ill_typed_back program typed)))

  pub some_is_first : IfSome o (IsFirstIllTypedWide program)
  some_is_first = at o is
    where
      at : (o : Option ℕ) → o ≡ ill_typed_wide program.procs program.procs → IfSome o (IsFirstIllTypedWide program)
      at None h = tt
      at (Some number) h = is_first_wide program number (sym h)
