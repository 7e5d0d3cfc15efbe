-- Where a run begins, and that it is never Wrong.
use Rattle.std.proofs.Common.{◌≡◌, sym, ap, ◌∙◌, arith, ℕ, zero, suc, ◌<◌, length, get_or, List, [], ◌∷◌, Option, Some, Err, map, slice_get}
use Rattle.std.specs.Option.{option_map}
use Rattle.std.proofs.lemmas.Option.{slice_get-map}
use Rattle.boogie_tree.specs.Program as p
use Rattle.boogie_tree.specs.Value.{BValue, BChoice}
use Rattle.vb_value.specs.Bound.{Bounded}
use Rattle.boogie_tree.specs.Whole.{proc_of, run_of, setting_of, choice_of, stmts_of}
use Rattle.boogie_tree.specs.declared.programs.Local.{Local}
use Rattle.boogie_tree.specs.declared.stmts.BStmt.{BStmt}
use Rattle.boogie_tree.specs.declared.values.BChoice as given
use Rattle.boogie_tree.specs.declared.values.BSetting.{BSetting}
use Rattle.boogie_tree.specs.declared.values.BRun.{BRun}
use Rattle.boogie_meaning.specs.Programs.{types_of, brun_proc}
use Rattle.boogie_tree.specs.declared.programs.Proc.{Proc}
use Rattle.boogie_meaning.specs.Kept.{KeepsTypes, done, failed, blocked, short, over}
use Rattle.boogie_meaning.specs.Run as m
use Rattle.boogie_meaning.specs.Run.{Run, Stops, brun}
use Rattle.boogie_types.specs.Typed.{types_in}
use Rattle.boogie_types.proofs.TypingLaws.{types_are}
use Rattle.boogie_run.specs.Runs as ends
use Rattle.boogie_run.specs.Runs.{Runs}
use Rattle.boogie_run.specs.Start.{start_of}
use Rattle.boogie_run.specs.declared.replay_ends.ReplayStop.TheVariants as stop
use Rattle.boogie_run.specs.declared.replay_ends.ReplayHalt.TheVariants as halt

wrong_ended : {ls : List p.BType} {r : Run} (cs : List BChoice) → KeepsTypes ls r → r ≡ Stops m.Wrong cs → ⊥
wrong_ended cs (done h q) e = absurd (cc)
wrong_ended cs failed e = absurd (cc)
wrong_ended cs blocked e = absurd (cc)
wrong_ended cs short e = absurd (cc)
wrong_ended cs over e = absurd (cc)

pub wrong_never : {ls : List p.BType} {r : Run} {env : List BValue} {left : List BChoice} → KeepsTypes ls r → Runs r env left (Err (halt.Stops stop.Wrong)) → ⊥
wrong_never {left = left} k (ends.stops h) = wrong_ended left k h

-- a run of a procedure, by what its parts were borrowed as
module _ (d : Proc) (r : BRun) where
  pub begins : {env : List BValue} {ls : List Local} {xs : List BSetting} → env ≡ start_of (types_in ls) (map setting_of xs) → ls ≡ d.locals.items → xs ≡ r.settings.items →
      env ≡ start_of (types_of (proc_of d)) (run_of r).settings
  begins h l x = h ∙ (λ i. start_of (types_in (l i)) (map setting_of (x i))) ∙ ap (λ us. start_of us (run_of r).settings) (types_are d.locals.items)

  pub takes : {left : List BChoice} {cs : List given.BChoice} → left ≡ map choice_of cs → cs ≡ r.choices.items → left ≡ (run_of r).choices
  takes h c = h ∙ ap (map choice_of) c

  pub runs : {env : List BValue} {left : List BChoice} {ls : List Local} {xs : List BStmt} → env ≡ start_of (types_of (proc_of d)) (run_of r).settings → left ≡ (run_of r).choices →
      ls ≡ d.locals.items → xs ≡ d.body.items →
      brun_proc Bounded (proc_of d) (start_of (types_of (proc_of d)) (run_of r).settings) (run_of r).choices ≡ brun (types_in ls) Bounded (stmts_of xs) env left
  runs b t l x = sym (λ i. brun ((ap types_in l ∙ types_are d.locals.items) i) Bounded (stmts_of (x i)) (b i) (t i))

pub proc_there : (ds : List Proc) (n : ℕ) (d : Proc) → slice_get ds n ≡ Some d → slice_get (map proc_of ds) n ≡ Some (proc_of d)
proc_there ds n d h = slice_get-map proc_of ds n ∙ ap (option_map proc_of) h

pub same_proc : {c d : p.Proc} {o : Option p.Proc} → o ≡ Some c → o ≡ Some d → c ≡ d
same_proc h g = let both = sym h ∙ g in cc

pub is_there : (ds : List Proc) (n : ℕ) (d : Proc) → n < length (map proc_of ds) → d ≡ get_or ds n d → slice_get ds n ≡ Some d
is_there [] n d lt h = absurd (omega (arith, lt))
is_there (x ∷ ds) zero d lt h = ap Some (sym h)
is_there (x ∷ ds) (suc n) d lt h = is_there ds n d (omega (arith, lt)) h
