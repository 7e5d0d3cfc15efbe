-- For each procedure that has a body, what is written follows it.
use Rattle.std.proofs.Common.{◌≡◌, ℕ, suc, Bool as Truth, true, false, cond, Option, Some, None, List, [], ◌∷◌, ◌++◌, length, map, take, All, slice_get, refl, sym, ap, subst, ◌∙◌}
use Rattle.std.specs.List.{AllZip, find, cons_option}
use Rattle.std.specs.Option.{option_map}
use Rattle.std.specs.Str.{bytes_eq}
use Rattle.vb_base.specs.declared.labels.Label.{Label}
use Rattle.vb_value.specs.Bound.{Unbounded}
use Rattle.boogie_tree.specs.Program.{BType, Local}
use Rattle.boogie_tree.specs.Value.{BValue, BChoice}
use Rattle.boogie_tree.specs.Values.{IsEnvironment, IsReducedChoice}
use Rattle.boogie_meaning.specs.Programs.{types_of, default_value, ProcFails}
use Rattle.boogie_meaning.specs.Run.{Run, Stop, Stops, Failed}
use Rattle.boogie_meaning.proofs.ValueLaws.{default_typed}
use Rattle.boogie_meaning.proofs.EnvironmentLaws.{length_env}
use Rattle.boogie_loops.specs.Wide.{WStmts, WProc, WProgram}
use Rattle.boogie_loops.specs.Modular.{cutrun_proc}
use Rattle.boogie_loops.specs.Procedures.{wide_types}
use Rattle.boogie_loops.specs.Turning.{Halts, wrun_proc}
use Rattle.boogie_loops.specs.WideTypes.{IsWide, IsWideBody, IsWideProc, IsWideProgram}
use Rattle.boogie_cut.specs.Alike.{EndAlike, done, stops}
use Rattle.boogie_cut.specs.Cut.{cut, cut_proc, cut_procs, cut_program}
use Rattle.boogie_cut.specs.Follows.{IsCutOf, with_bodies, AreCutOf}
use Rattle.boogie_cut.proofs.BlockLaws.{Callees, written_types, proc_alike, length_map}
use Rattle.boogie_cut.proofs.BoundLaws.{fails_unbounded}
use Rattle.boogie_cut.proofs.LoopLaws.{proc_tells, tells_failed}

-- ---- further locals with the defaults of their types

default_env : (ts : List BType) → IsEnvironment ts (map default_value ts)
default_env [] = tt
default_env (u ∷ ts) = (default_typed u.keys u.base, default_env ts)

env_append : (ls us : List BType) (vs ws : List BValue) → IsEnvironment ls vs → IsEnvironment us ws → IsEnvironment (ls ++ us) (vs ++ ws)
env_append [] us [] ws h g = g
env_append [] us (v ∷ vs) ws h g = absurd h
env_append (l ∷ ls) us [] ws h g = absurd h
env_append (l ∷ ls) us (v ∷ vs) ws h g = (h.0, env_append ls us vs ws h.1 g)

take_front : {X : Type 0} (xs ys : List X) → take (length xs) (xs ++ ys) ≡ xs
take_front [] ys = refl
take_front (x ∷ xs) ys = ap (λ zs. x ∷ zs) (take_front xs ys)

same_stop : {n : ℕ} {r q : Run} → EndAlike n r q → (why : Stop) (left : List BChoice) → q ≡ Stops why left → r ≡ Stops why left
same_stop (done extra l) why left h = absurd (cc)
same_stop stops why left h = h

-- ---- one procedure

module _ (ps : List WProc) (callees : Callees ps) (d : WProc) (body : WStmts) (typed : IsWideProc ps d) (block : IsWide ps (wide_types d) d.params body) where
  fails_so : (env : List BValue) (cs left : List BChoice) (n : ℕ) (label : Label) → IsEnvironment (wide_types d) env → All IsReducedChoice cs →
      wrun_proc ps Unbounded d body env cs n ≡ Halts (Failed label) left → ProcFails (cut_proc ps d body) label
  fails_so env cs left n label e r h =
      let f = tells_failed (proc_tells ps d body block env cs n e r) label left h in
      let us = (cut ps (wide_types d) body (length d.locals)).locals in
      let whole : IsEnvironment (types_of (cut_proc ps d body)) (env ++ map default_value us) =
      subst (λ ts. IsEnvironment ts (env ++ map default_value us)) (sym (written_types ps d body)) (env_append (wide_types d) us env (map default_value us) e (default_env us)) in
      let long : length env ≡ length d.locals = length_env (wide_types d) env e ∙ length_map (λ (l : Local). l.ty) d.locals in
      let front : take (length d.locals) (env ++ map default_value us) ≡ env = ap (λ k. take k (env ++ map default_value us)) (sym long) ∙ take_front env (map default_value us) in
      record {
        environment = env ++ map default_value us;
        is_environment = whole;
        choices = f.0;
        are_reduced = f.2;
        fails = record {
          left = f.1;
          is = same_stop (proc_alike ps callees d body typed block (env ++ map default_value us) f.0 whole f.2) (Failed label) f.1
              (ap (λ vs. cutrun_proc ps Unbounded d body vs f.0) front ∙ f.3);
        };
      }

  proc_follows : IsCutOf ps d body (cut_proc ps d body)
  proc_follows = record {
    name = refl;
    locals = take_front d.locals _;
    ends = λ env cs e r. proc_alike ps callees d body typed block env cs e r;
    fails = λ b env cs left n label e r is. fails_so env cs left n label e r (fails_unbounded b ps d body env cs left n label is);
  }

-- ---- all of them

found_there : (test : WProc → Truth) (ps : List WProc) (d : WProc) → find test ps ≡ Some d → (n : ℕ) × (slice_get ps n ≡ Some d)
found_there test [] d h = absurd (cc)
found_there test (p ∷ ps) d h = by (test p) h (λ g. found_there test ps d g)
  where
    by : (b : Truth) → cond b (Some p) (find test ps) ≡ Some d → (find test ps ≡ Some d → (n : ℕ) × (slice_get ps n ≡ Some d)) → (n : ℕ) × (slice_get (p ∷ ps) n ≡ Some d)
    by true e go = (0, e)
    by false e go = let r = go e in (suc r.0, r.1)

body_typed : (ps : List WProc) (ts : List BType) (params : ℕ) (o : Option WStmts) (xs : WStmts) → o ≡ Some xs → IsWideBody ps ts params o → IsWide ps ts params xs
body_typed ps ts params o xs e h = subst (IsWideBody ps ts params) e h

procs_follow : (ps : List WProc) → Callees ps → (ds : List WProc) → ((n : ℕ) (d : WProc) → slice_get ds n ≡ Some d → IsWideProc ps d) →
    AllZip (λ p d. IsCutOf ps d.0 d.1 p) (cut_procs ps ds) (with_bodies ds)
procs_follow ps callees [] h = tt
procs_follow ps callees (d ∷ ds) h = by d.body refl (procs_follow ps callees ds (λ n e l. h (suc n) e l))
  where
    by : (o : Option WStmts) → d.body ≡ o → AllZip (λ p d. IsCutOf ps d.0 d.1 p) (cut_procs ps ds) (with_bodies ds) →
        AllZip (λ p d. IsCutOf ps d.0 d.1 p) (cons_option (option_map (cut_proc ps d) o) (cut_procs ps ds)) (cons_option (option_map (λ xs. (d, xs)) o) (with_bodies ds))
    by None e rest = rest
    by (Some xs) e rest =
        let typed = h 0 d refl in
        (proc_follows ps callees d xs typed (body_typed ps (wide_types d) d.params d.body xs e typed.body), rest)

pub program_follows : (program : WProgram) → IsWideProgram program → AreCutOf program (cut_program program)
program_follows program h =
    procs_follow program.procs (λ name d e. let f = found_there (λ (p : WProc). bytes_eq p.name name) program.procs d e in h f.0 d f.1) program.procs h
