-- The run that a file spells, and the place where it goes wrong, are what is read of its lines.
use Rattle.std.proofs.Common.{◌≡◌, ◌∙◌, ℕ, Bool, true, false, cond, List, [], ◌∷◌, Option, Some, None, refl, sym}
use Rattle.std.specs.Prelude.{codes}
use Rattle.std.specs.BTreeSet.{insert_key}
use Rattle.std.specs.Str.{bytes_eq}
use Rattle.std.proofs.lemmas.Bool.{and_parts}
use Rattle.std.proofs.lemmas.Slice.Eq.{bytes_eq-Decides}
use Rattle.viper_core.specs.Program.{Program}
use Rattle.run_file.specs.Lines.{UnitScope, scope_of, ViperLine, Var, Heap, Holds, Chosen, Opened, IsLine}
use Rattle.run_file.specs.Run.{ViperRun, header, AreRun, SpellRun}
use Rattle.run_file.specs.NamedOrder.{named_cmp}
use Rattle.run_file.specs.Progress.{Progress, is_header, whole, file_kind, followed, has_named, once, may_set, may_place, run_set, run_with, is_headed, reader}
use Rattle.run_file.specs.declared.lines.LineTarget.{LineTarget}
use Rattle.run_file.specs.declared.lines.LineTarget.TheVariants as named
use Rattle.run_file_words.proofs.AnswerLaws.{IsReader}
use Rattle.run_file_words.proofs.HeadedLaws.{Reads, HeadedIn, file_read, read_file, goes_wrong, stops}
use Rattle.run_file.proofs.LineLaws.{NamesApart, line_spelled, spelled_line}
use Rattle.run_file.proofs.RunLaws.{opened, run_read, read_run}

-- ---- how the lines are read

is_header_of : (words : List (List ℕ)) → is_header words ≡ true → words ≡ header
is_header_of [] e = absurd cc
is_header_of (a ∷ []) e = absurd cc
is_header_of (a ∷ b ∷ []) e =
    let parts = and_parts (bytes_eq a (codes "viper")) (bytes_eq b (codes "run")) e in
    let first = (bytes_eq-Decides a (codes "viper")).0 parts.0 in let second = (bytes_eq-Decides b (codes "run")).0 parts.1 in
    λ i. first i ∷ second i ∷ []
is_header_of (a ∷ b ∷ c ∷ more) e = absurd cc

headed_unless : (b : Bool) (o : Option (Progress ViperRun)) → HeadedIn (λ (x : Progress ViperRun). is_headed x.stage) o → HeadedIn (λ (x : Progress ViperRun). is_headed x.stage) (cond b None o)
headed_unless true o h = tt
headed_unless false o h = h

headed_if : (b : Bool) (o : Option (Progress ViperRun)) → HeadedIn (λ (x : Progress ViperRun). is_headed x.stage) o → HeadedIn (λ (x : Progress ViperRun). is_headed x.stage) (cond b o None)
headed_if true o h = h
headed_if false o h = tt

once_headed : (st : Progress ViperRun) (n : LineTarget) (run : ViperRun) → is_headed st.stage ≡ true → HeadedIn (λ (x : Progress ViperRun). is_headed x.stage) (once st n run)
once_headed st n run h = headed_unless (has_named st.named n) (Some (record { stage = st.stage; named = insert_key named_cmp st.named n; run = run })) h

followed_headed : (s : UnitScope) (st : Progress ViperRun) (l : ViperLine) → is_headed st.stage ≡ true → HeadedIn (λ (x : Progress ViperRun). is_headed x.stage) (followed whole s st l)
followed_headed s st (Var n v) h =
    headed_if (may_set st.stage) (once st (named.Variable n) (run_set n v st.run)) (once_headed st (named.Variable n) (run_set n v st.run) h)
followed_headed s st (Heap f r v) h =
    headed_if (may_place st.stage) (once st (named.Place f r) (run_with st.stage (Heap f r v) st.run)) (once_headed st (named.Place f r) (run_with st.stage (Heap f r v) st.run) h)
followed_headed s st (Holds q k c) h =
    headed_if (may_place st.stage) (once st (named.Instance q k) (run_with st.stage (Holds q k c) st.run)) (once_headed st (named.Instance q k) (run_with st.stage (Holds q k c) st.run) h)
followed_headed s st (Chosen c) h = refl
followed_headed s st Opened h = refl

reads : (s : UnitScope) → NamesApart s → Reads (file_kind whole s) (opened s) header is_header (IsLine s) (AreRun s)
reads s apart = record {
  first = λ words. refl;
  header_is = is_header_of;
  passes = refl;
  unread = refl;
  headed = refl;
  stays = followed_headed s;
  read = λ words l h. line_spelled apart h;
  spelled = spelled_line s;
  run_read = λ ls run h. let to = run_read h in (to.last, (to.read, to.run));
  read_run = λ ws ls last are read. read_run s ls last read;
}

-- the reader reads what a file spells
pub is_reader : (p : Program) (n : ℕ) → NamesApart (scope_of p n) → IsReader (reader (scope_of p n)) (SpellRun p n) (λ a b. a ≡ b)
is_reader p n apart =
    let r = reads (scope_of p n) apart in
    record {
      read = λ lines run h. (run, (file_read r h, refl));
      spelled = λ lines run h. read_file r h;
      wrong = goes_wrong r (SpellRun p n) (λ lines run h. (run, h)) (λ lines run h. h);
      stops = stops r (SpellRun p n) (λ lines run h. (run, h)) (λ lines run h. h);
      joins = λ e a b first second. sym first ∙ second;
    }
