-- What is known of the program of one procedure.
use Rattle.std.proofs.Common.{◌≡◌, ◌∙◌, sym, ap, subst, ℕ, zero, suc, List, [], ◌∷◌, get_or, map, Some, slice_get}
use Rattle.boogie_meaning.specs.Programs.{IsTypedProgram, IsTypedProc}
use Rattle.boogie_print.specs.Printable.{FitsProc}
use Rattle.boogie_tree.specs.Program.{Proc, BProgram}
use Rattle.boogie_tree.specs.Whole.{proc_of, program_of}
use Rattle.boogie_tree.specs.declared.programs.BProgram as whole
use Rattle.boogie_tree.specs.declared.programs.Proc as declared
use Rattle.boogie_file.proofs.StageLaws.{fits_proc}
use Rattle.tool_procedure.specs.Alone.{IsAlone}

first_is : (ds : List declared.Proc) (d : declared.Proc) (e : Proc) → map proc_of ds ≡ e ∷ [] → d ≡ get_or ds 0 d → proc_of d ≡ e
first_is [] d e one at = absurd cc
first_is (x ∷ xs) d e one at = ap proc_of at ∙ head one where
  head : {y : Proc} {ys : List Proc} → y ∷ ys ≡ e ∷ [] → y ≡ e
  head h = cc

-- what holds of the one procedure holds of each
of_one : (P : Proc → Type 0) (e : Proc) → P e → (n : ℕ) (d : Proc) → slice_get (e ∷ []) n ≡ Some d → P d
of_one P e h zero d there = subst P same h where
  same : e ≡ d
  same = cc
of_one P e h (suc n) d there = absurd cc

module _ {bytes name : List ℕ} (b : whole.BProgram) (a : IsAlone bytes name (program_of b)) where
  pub alone_at : (d : declared.Proc) → d ≡ get_or b.procs.items 0 d → proc_of d ≡ a.procedure
  alone_at d at = first_is b.procs.items d a.procedure (ap (λ (q : BProgram). q.procs) a.is_alone) at

  pub alone_typed : IsTypedProgram (program_of b)
  alone_typed = subst IsTypedProgram (sym a.is_alone) (of_one IsTypedProc a.procedure (a.accepted.accepted.is_typed a.accepted.number a.procedure a.accepted.is_there))

  pub alone_fits : (d : declared.Proc) → d ≡ get_or b.procs.items 0 d → FitsProc (proc_of d)
  alone_fits d at = subst FitsProc (sym (alone_at d at)) (fits_proc bytes a.accepted.program a.accepted.number a.procedure a.accepted.accepted.text a.accepted.is_there)

  pub alone_here : (d : declared.Proc) → d ≡ get_or b.procs.items 0 d → slice_get (program_of b).procs 0 ≡ Some (proc_of d)
  alone_here d at = ap (λ (q : BProgram). slice_get q.procs 0) a.is_alone ∙ ap (λ (e : Proc). Some e) (sym (alone_at d at))
