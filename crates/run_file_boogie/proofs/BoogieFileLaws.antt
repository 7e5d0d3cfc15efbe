-- The run of Boogie that a file spells, and the place where it goes wrong, are what is read of its lines.
use Rattle.std.proofs.Common.{◌≡◌, ◌∙◌, ℕ, Bool, true, false, cond, ◌&&◌, slice_get, List, [], ◌∷◌, Option, Some, None, Result, MatchResult, refl, sym, subst}
use Rattle.std.specs.Prelude.{codes}
use Rattle.std.specs.BTreeSet.{insert_key}
use Rattle.std.specs.Ordering.{nat_cmp}
use Rattle.std.specs.Str.{bytes_eq}
use Rattle.std.proofs.lemmas.Bool.{and_parts}
use Rattle.std.proofs.lemmas.Slice.Eq.{bytes_eq-Decides}
use Rattle.vb_base.specs.Names.{NamesDiffer}
use Rattle.vb_value.specs.Key.{key_cmp}
use Rattle.boogie_tree.specs.Program.{BType, Proc}
use Rattle.boogie_tree.specs.Value.{One, BRun}
use Rattle.boogie_tree.specs.Whole.{run_of}
use Rattle.boogie_tree.specs.declared.values.BRun.{BRun as Code}
use Rattle.run_file_words.specs.Text.{lines_of}
use Rattle.run_file_words.specs.Known.{Known}
use Rattle.run_file_words.specs.Machine.{among, IsReadBy, StopsBy}
use Rattle.run_file_words.specs.Answers.{UnlessMemory}
use Rattle.run_file_boogie.specs.BoogieLines.{known, BoogieLine, Var, Map, At, Chosen, Opened, IsLine}
use Rattle.run_file_boogie.specs.BoogieRun.{entry_with, nothing, AreRun, SameRun, header, SpellExactly, SpellRun}
use Rattle.run_file_boogie.specs.BoogieProgress.{Progress, run_set, closed, may_set, may_fill, opened, default_at, followed, header_name, is_named, file_kind, is_headed, reader}
use Rattle.run_file_boogie.specs.declared.boogie_reader.BoogieStage.TheVariants as stage
use Rattle.run_file_words.specs.declared.faults.RunFileFault.{RunFileFault}
use Rattle.run_file_words.proofs.AnswerLaws.{IsReader, Answered, answered}
use Rattle.run_file_boogie.proofs.BoogieLineLaws.{line_spelled, spelled_line}
use Rattle.run_file_boogie.proofs.BoogieRunLaws.{ready, run_read, read_run}
use Rattle.run_file_words.proofs.HeadedLaws.{Reads, HeadedIn, file_read, read_file, goes_wrong, stops}

-- ---- how the lines are read

abbrev passes : List ℕ → List (List ℕ) → Bool
passes name words = is_named name (header_name words)

passes_by : (name a b w : List ℕ) (t : Bool) → (bytes_eq a (codes "boogie") && bytes_eq b (codes "run")) ≡ t → is_named name (cond t (Some w) None) ≡ true → a ∷ b ∷ w ∷ [] ≡ header name
passes_by name a b w false is e = absurd cc
passes_by name a b w true is e =
    let parts = and_parts (bytes_eq a (codes "boogie")) (bytes_eq b (codes "run")) is in
    let first = (bytes_eq-Decides a (codes "boogie")).0 parts.0 in
    let second = (bytes_eq-Decides b (codes "run")).0 parts.1 in
    let third = (bytes_eq-Decides w name).0 e in
    λ i. first i ∷ second i ∷ third i ∷ []

header_is : (name : List ℕ) (words : List (List ℕ)) → passes name words ≡ true → words ≡ header name
header_is name [] e = absurd cc
header_is name (a ∷ []) e = absurd cc
header_is name (a ∷ b ∷ []) e = absurd cc
header_is name (a ∷ b ∷ w ∷ []) e = passes_by name a b w _ refl e
header_is name (a ∷ b ∷ w ∷ c ∷ more) e = absurd cc

headed_if : (t : Bool) (o : Option Progress) → HeadedIn (λ (x : Progress). is_headed x.stage) o → HeadedIn (λ (x : Progress). is_headed x.stage) (cond t o None)
headed_if true o h = h
headed_if false o h = tt

headed_unless : (t : Bool) (o : Option Progress) → HeadedIn (λ (x : Progress). is_headed x.stage) o → HeadedIn (λ (x : Progress). is_headed x.stage) (cond t None o)
headed_unless true o h = tt
headed_unless false o h = h

followed_headed : (k : Known BType) (st : Progress) (l : BoogieLine) → is_headed st.stage ≡ true → HeadedIn (λ (x : Progress). is_headed x.stage) (followed k st l)
followed_headed k st (Var n v) h =
    let next = Some (opened stage.Settings (insert_key nat_cmp st.named n) nothing (run_set n (One v) (closed st))) in
    headed_if (may_set st.stage) (cond (among nat_cmp st.named n) None next) (headed_unless (among nat_cmp st.named n) next refl)
followed_headed k st (Map n) h =
    let next = Some (opened (stage.Map n) (insert_key nat_cmp st.named n) (default_at (slice_get k.types n)) (closed st)) in
    headed_if (may_set st.stage) (cond (among nat_cmp st.named n) None next) (headed_unless (among nat_cmp st.named n) next refl)
followed_headed k st (At e) h =
    let next = Some (record { stage = st.stage; named = st.named; keys = insert_key key_cmp st.keys e.key; filling = entry_with st.filling e; run = st.run }) in
    headed_if (may_fill k st.stage e) (cond (among key_cmp st.keys e.key) None next) (headed_unless (among key_cmp st.keys e.key) next h)
followed_headed k st (Chosen c) h = refl
followed_headed k st Opened h = refl

pub reads : (name : List ℕ) (k : Known BType) → NamesDiffer k.names →
    Reads (file_kind name k) ready (header name) (passes name) (IsLine k) (AreRun k)
reads name k differ = record {
  first = λ words. refl;
  header_is = header_is name;
  passes = (bytes_eq-Decides name name).1 refl;
  unread = refl;
  headed = refl;
  stays = followed_headed k;
  read = λ words l h. line_spelled differ h;
  spelled = spelled_line k;
  run_read = run_read k;
  read_run = read_run k;
}

-- ---- settings count by the values with which a run begins

exact : (d : Proc) (lines : List (List ℕ)) (run : BRun) → SpellRun d lines run → (e : BRun) × SpellExactly d lines e
exact d lines run h = (h.exact, h.spelled)

spells : (d : Proc) (lines : List (List ℕ)) (run : BRun) → SpellExactly d lines run → SpellRun d lines run
spells d lines run h = record { exact = run; spelled = h; same = record { environment = refl; choices = refl } }

same_joins : (d : Proc) (e a b : BRun) → SameRun d.locals e a → SameRun d.locals e b → SameRun d.locals a b
same_joins d e a b h k = record { environment = sym h.environment ∙ k.environment; choices = sym h.choices ∙ k.choices }

-- the reader reads what a file spells
pub is_reader : (d : Proc) → NamesDiffer (known d.locals).names → IsReader (reader d.name (known d.locals)) (SpellRun d) (SameRun d.locals)
is_reader d differ =
    let r = reads d.name (known d.locals) differ in
    record {
      read = λ lines run h. (h.exact, (file_read r h.spelled, h.same));
      spelled = λ lines run h. spells d lines run (read_file r h);
      wrong = goes_wrong r (SpellRun d) (exact d) (spells d);
      stops = stops r (SpellRun d) (exact d) (spells d);
      joins = same_joins d;
    }

-- what is answered of a file, read with the variables of the procedure
pub proc_answered : (bytes : List ℕ) (d : Proc) (k : Known BType) (r : Result Code RunFileFault) → NamesDiffer (known d.locals).names → k ≡ known d.locals →
    MatchResult r (λ x. IsReadBy (reader d.name k) (lines_of bytes) (run_of x)) (UnlessMemory (StopsBy (reader d.name k) (lines_of bytes))) →
    Answered (SpellRun d) (SameRun d.locals) run_of bytes r
proc_answered bytes d k r differ same h =
    answered (is_reader d differ) bytes run_of r
    (subst (λ j. MatchResult r (λ x. IsReadBy (reader d.name j) (lines_of bytes) (run_of x)) (UnlessMemory (StopsBy (reader d.name j) (lines_of bytes)))) same h)
