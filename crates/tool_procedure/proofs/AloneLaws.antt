-- The procedures of a text as a loop comes to them, of which something is kept of the first of a name.
use Rattle.std.proofs.Common.{◌≡◌, ◌∙◌, refl, sym, ap, subst, ℕ, ◌+◌, ◌≤◌, Bool as Truth, true, false, List, [], ◌∷◌, ◌++◌, length, All, Option, Some, None, Bor, slice_get}
use Rattle.std.specs.Prelude.{IfSome}
use Rattle.std.specs.Str.{bytes_eq}
use Rattle.std.proofs.lemmas.List.Elements.{All-nil, All-cons, All-append}
use Rattle.vb_base.specs.Limits.{max_boogie_bytes}
use Rattle.lemmas.proofs.Lists.{there_left, get_middle, all_at}
use Rattle.boogie_grammar.specs.Grammar.{proc_names}
use Rattle.boogie_grammar.proofs.FirstPassing.{first_passing, position_is, still_found, now_found, not_found}
use Rattle.boogie_meaning.specs.Programs.{IsTypedProc}
use Rattle.boogie_run.specs.declared.replaying.BOutcome.{BOutcome}
use Rattle.boogie_text.specs.Tail.{IsTail, BeginsProcedure}
use Rattle.boogie_tree.specs.Program.{Proc}
use Rattle.boogie_tree.specs.Whole.{program_of}
use Rattle.boogie_tree.specs.declared.programs.BProgram as whole
use Rattle.boogie_text.proofs.TailLaws.{read_whole}
use Rattle.boogie_tree.specs.Text.{prelude}
use Rattle.run_file_boogie.specs.BoogieRun.{SpellsName}
use Rattle.boogie_file.specs.Accepted.{Accepts}
use Rattle.tool_procedure.specs.Alone.{IsAlone, Replays}
use Rattle.tool_procedure.specs.Parts.{IsNamedIn, IsMade, IsMadeAlone, IsPassed, KeepsIf, first_of}
use Rattle.tool_procedure.specs.declared.alone.ProcedureResult.{ProcedureResult}
use Rattle.tool_procedure.specs.declared.alone.ProcedureResult.TheVariants as made
use Rattle.tool_procedure.specs.declared.alone.ProcedureTask.{ProcedureTask}
use Rattle.tool_procedure.specs.declared.alone.ProcedureTask.TheVariants as task

-- ---- what is kept of procedures

abbrev has_name : List ℕ → Proc → Truth
has_name name d = bytes_eq d.name name

-- this is kept of the first procedure of a name
pub record Holds {X : Type 0} (P : Proc → X → Type 0) (ds : List Proc) (name : List ℕ) (kept : X) : Type 0 where
  pub number : ℕ
  pub named : first_passing (has_name name) ds ≡ Some number
  pub procedure : Proc
  pub is_there : slice_get ds number ≡ Some procedure
  pub has : P procedure kept

abbrev IsKept : {X : Type 0} → (Proc → X → Type 0) → List Proc → List ℕ → Option X → Type 0
IsKept P ds name None = first_passing (has_name name) ds ≡ None
IsKept P ds name (Some kept) = Holds P ds name kept

module _ {X : Type 0} (P : Proc → X → Type 0) where
  one_kept : (ds : List Proc) (name : List ℕ) (d : Proc) (wanted : Truth) (o one : Option X) → wanted ≡ has_name name d → KeepsIf (P d) wanted one → IsKept P ds name o →
      IsKept P (ds ++ d ∷ []) name (first_of o one)
  one_kept ds name d wanted (Some kept) one is keeps h = record {
    number = h.number;
    named = still_found (has_name name) ds (d ∷ []) h.number h.named;
    procedure = h.procedure;
    is_there = there_left ds (d ∷ []) h.number h.procedure h.is_there;
    has = h.has;
  }
  one_kept ds name d true None (Some x) is keeps h = record { number = length ds; named = now_found (has_name name) ds d h (sym is); procedure = d; is_there = get_middle ds d []; has = keeps }
  one_kept ds name d true None None is keeps h = absurd keeps
  one_kept ds name d false None (Some x) is keeps h = absurd keeps
  one_kept ds name d false None None is keeps h = not_found (has_name name) ds d h (sym is)

-- ---- how far a text is read

pub record IsReadTo {X : Type 0} (P : Proc → X → Type 0) (text name rest : List ℕ) (names : List (List ℕ)) (kept : Option X) : Type 0 where
  pub so_far : List Proc
  pub names_are : proc_names so_far ≡ names
  pub tail : (all : List Proc) → IsTail so_far rest all → IsTail [] text all
  pub are_typed : All IsTypedProc so_far
  pub is_kept : IsKept P so_far name kept

names_more : (ds : List Proc) (d : Proc) → proc_names (ds ++ d ∷ []) ≡ proc_names ds ++ d.name ∷ []
names_more [] d = refl
names_more (e ∷ ds) d = ap (λ ns. e.name ∷ ns) (names_more ds d)

module _ {X : Type 0} (P : Proc → X → Type 0) where
  pub read_none : (text name : List ℕ) → IsReadTo P text name text [] None
  read_none text name = record { so_far = []; names_are = refl; tail = λ all h. h; are_typed = All-nil IsTypedProc; is_kept = refl }

  pub read_one : {text name rest inside after : List ℕ} {names more : List (List ℕ)} {kept ended now : Option X} (found : List ℕ) (wanted : Truth) → IsReadTo P text name rest names kept →
      BeginsProcedure names rest found inside → IsPassed P wanted found inside ended after → more ≡ names ++ found ∷ [] → wanted ≡ bytes_eq found name → now ≡ first_of kept ended →
      IsReadTo P text name after more now
  read_one {text} {name} {rest} {inside} {after} {names} {more} {kept} {ended} {now} found wanted r next p one_more is keeps = record {
    so_far = r.so_far ++ p.procedure ∷ [];
    names_are = names_more r.so_far p.procedure ∙ ap (λ n. proc_names r.so_far ++ n ∷ []) p.is.is_named ∙ ap (λ ns. ns ++ found ∷ []) r.names_are ∙ sym one_more;
    tail = λ all h. r.tail all (next.goes_on r.so_far all r.names_are (p.is.goes_on r.so_far all h));
    are_typed = All-append IsTypedProc r.so_far (p.procedure ∷ []) r.are_typed (All-cons IsTypedProc p.procedure [] p.is.typed (All-nil IsTypedProc));
    is_kept = subst (IsKept P (r.so_far ++ p.procedure ∷ []) name) (sym keeps)
        (one_kept P r.so_far name p.procedure wanted kept ended (is ∙ ap (λ n. bytes_eq n name) (sym p.is.is_named)) p.keeps r.is_kept);
  }

  -- where the text ends, what is kept is of the procedure of the name
  pub read_all : {text name rest : List ℕ} {names : List (List ℕ)} {kept : X} → IsReadTo P text name rest names (Some kept) → ((ds : List Proc) → IsTail ds rest ds) →
      (d : Proc) × IsNamedIn text name d × P d kept
  read_all {text} {name} r ends = (
    r.is_kept.procedure,
    record {
      procs = r.so_far;
      tail = r.tail r.so_far (ends r.so_far);
      is_typed = λ n d there. all_at IsTypedProc r.so_far n d r.are_typed there;
      number = r.is_kept.number;
      named = position_is (has_name name) r.so_far ∙ r.is_kept.named;
      is_there = r.is_kept.is_there;
    },
    r.is_kept.has,
  )

pub is_made_alone : {text name rest : List ℕ} {names : List (List ℕ)} (t : ProcedureTask) (kept : Option ProcedureResult) → IsReadTo (IsMade t) text name rest names kept → ((ds : List Proc) → IsTail ds rest ds) →
    IfSome kept (IsMadeAlone text name t)
is_made_alone t (Some m) r ends = let h = read_all (IsMade t) r ends in record { procedure = h.0; is_named = h.1; is_made = h.2 }
is_made_alone t None r ends = tt

-- a text behind the prelude is that of a file
accepted_in : {bytes rest name : List ℕ} {d : Proc} → bytes ≡ prelude ++ rest → length bytes ≤ max_boogie_bytes → IsNamedIn rest name d → Accepts bytes name d
accepted_in {bytes} {rest} is small n = record {
  program = record { procs = n.procs };
  accepted = record { small = small; text = read_whole bytes rest n.procs is n.tail; is_typed = n.is_typed };
  number = n.number;
  named = n.named;
  is_there = n.is_there;
}

pub kept_alone : {bytes rest name : List ℕ} {b : whole.BProgram} → bytes ≡ prelude ++ rest → length bytes ≤ max_boogie_bytes → IsMadeAlone rest name task.Keep (made.Program b) → IsAlone bytes name (program_of b)
kept_alone is small h = record { procedure = h.procedure; accepted = accepted_in is small h.is_named; is_alone = h.is_made }

pub ended_is : {bytes rest name : List ℕ} {run_bytes : Bor (List ℕ)} {outcome : BOutcome} → bytes ≡ prelude ++ rest → length bytes ≤ max_boogie_bytes → SpellsName run_bytes.now name →
    IsMadeAlone rest name (task.Run run_bytes) (made.Outcome outcome) → Replays bytes run_bytes.now outcome
ended_is {name = name} is small said e = record { name = name; header = said; procedure = e.procedure; accepted = accepted_in is small e.is_named; ends = e.is_made }
