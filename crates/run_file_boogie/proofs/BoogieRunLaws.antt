-- The run that lines of Boogie are is what is read of them, line by line.
use Rattle.std.proofs.Common.{◌≡◌, ◌∙◌, ℕ, Bool, true, false, cond, List, [], ◌∷◌, ◌++◌, append_assoc, map, All, IsTrue, Some, None, slice_get, refl, sym, ap, subst}
use Rattle.std.specs.Prelude.{fold}
use Rattle.std.specs.BTreeSet.{insert_key}
use Rattle.std.specs.List.{AllZip}
use Rattle.std.specs.Ordering.{nat_cmp}
use Rattle.std.proofs.lemmas.List.{append-nil}
use Rattle.std.proofs.lemmas.List.Elements.{All-nil, All-cons, All-head, All-tail}
use Rattle.std.proofs.lemmas.Map.Lookups.{exact_unsigned}
use Rattle.lemmas.proofs.Options.{some_same, none_some}
use Rattle.sparse.specs.Map as m
use Rattle.sparse.specs.Map.{empty}
use Rattle.vb_value.specs.Key.{key_cmp}
use Rattle.vb_value.proofs.KeyLaws.{same_from_key_cmp, key_cmp_self}
use Rattle.boogie_tree.specs.Values.{default_of}
use Rattle.boogie_tree.specs.Program.{BType}
use Rattle.boogie_tree.specs.Value.{Key, BScalar, One, Many, BValue, Entry, BChoice, Entries, BSetting, BRun}
use Rattle.run_file_words.specs.Known.{Known}
use Rattle.run_file_words.specs.Machine.{all_steps, among}
use Rattle.run_file_boogie.specs.BoogieLines.{BoogieLine, Var, Map, At, Chosen, Opened, IsLine, opens}
use Rattle.run_file_boogie.specs.BoogieRun as r
use Rattle.run_file_boogie.specs.BoogieRun.{entry_with, entries_of, nothing, fits_entry, AreSettings, AreChoices, AreRun}
use Rattle.run_file_boogie.specs.BoogieProgress.{Progress, run_set, run_chosen, closed, may_set, may_fill, fits_type, opened, default_at, followed}
use Rattle.run_file_boogie.specs.declared.boogie_reader.BoogieStage.{BoogieStage}
use Rattle.run_file_boogie.specs.declared.boogie_reader.BoogieStage.TheVariants as stage
use Rattle.run_file_words.proofs.OnceLaws.{nat_self}
use Rattle.run_file_words.proofs.OnceLaws.{FreshOnce, once_is_fresh, fresh_differs}

abbrev vars : List BSetting → List ℕ
vars ss = map (λ (s : BSetting). s.var) ss

abbrev keys_of : List Entry → List Key
keys_of es = map (λ (e : Entry). e.key) es

-- a run with these settings and choices behind its own
abbrev run_and : BRun → List BSetting → List BChoice → BRun
run_and run ss cs = record { settings = run.settings ++ ss; choices = run.choices ++ cs }

run_nothing : (run : BRun) → run ≡ run_and run [] []
run_nothing run = λ i. record { settings = sym (append-nil run.settings) i; choices = sym (append-nil run.choices) i }

set_and : (n : ℕ) (v : BValue) (run : BRun) (ss : List BSetting) (cs : List BChoice) → run_and (run_set n v run) ss cs ≡ run_and run (record { var = n; value = v } ∷ ss) cs
set_and n v run ss cs = λ i. record { settings = append_assoc run.settings (record { var = n; value = v } ∷ []) ss i; choices = run.choices ++ cs }

chosen_and : (c : BChoice) (run : BRun) (cs : List BChoice) → run_and (run_chosen c run) [] cs ≡ run_and run [] (c ∷ cs)
chosen_and c run cs = λ i. record { settings = run.settings ++ []; choices = append_assoc run.choices (c ∷ []) cs i }

-- what is new is taken in
fresh_in : (t s : Bool) (st : Progress) → t ≡ true → s ≡ false → cond t (cond s None (Some st)) None ≡ Some st
fresh_in t s st may new = rw (may, new) refl

-- ---- what lines are is read

-- the state after entries
abbrev after_block : Progress → List Key → List Entry → Progress
after_block st keys es = record { stage = st.stage; named = st.named; keys = keys; filling = fold entry_with st.filling es; run = st.run }

record Block (k : Known BType) (st : Progress) (es : List Entry) (rest : List BoogieLine) : Type 0 where
  keys : List Key
  read : all_steps (followed k) (Some st) (map At es ++ rest) ≡ all_steps (followed k) (Some (after_block st keys es)) rest

block_read : (k : Known BType) (st : Progress) (es : List Entry) (rest : List BoogieLine) → All (λ e. may_fill k st.stage e ≡ true) es → FreshOnce key_cmp st.keys (keys_of es) → Block k st es rest
block_read k st [] rest fits fresh = record { keys = st.keys; read = refl }
block_read k st (e ∷ es) rest fits fresh =
    let next : Progress = record { stage = st.stage; named = st.named; keys = insert_key key_cmp st.keys e.key; filling = entry_with st.filling e; run = st.run } in
    let more = block_read k next es rest (All-tail (λ e. may_fill k st.stage e ≡ true) e es fits) fresh.1 in
    record {
      keys = more.keys;
      read = ap (λ o. all_steps (followed k) o (map At es ++ rest)) (fresh_in (may_fill k st.stage e) (among key_cmp st.keys e.key) next (All-head (λ e. may_fill k st.stage e ≡ true) e es fits) fresh.0) ∙ more.read;
    }

record Settled (k : Known BType) (st : Progress) (ls rest : List BoogieLine) (ss : List BSetting) : Type 0 where
  next : Progress
  may : may_set next.stage ≡ true
  read : all_steps (followed k) (Some st) (ls ++ rest) ≡ all_steps (followed k) (Some next) rest
  run : closed next ≡ run_and (closed st) ss []

all_true : (P : Entry → Bool) (es : List Entry) → All (λ e. IsTrue (P e)) es → All (λ e. P e ≡ true) es
all_true P es h = h

fitting : (k : Known BType) (n : ℕ) (u : BType) (es : List Entry) → slice_get k.types n ≡ Some u → All (λ e. IsTrue (fits_entry u e)) es → All (λ e. may_fill k (stage.Map n) e ≡ true) es
fitting k n u es typed h = subst (λ o. All (λ e. fits_type o e ≡ true) es) (sym typed) (all_true (fits_entry u) es h)

settings_read : {k : Known BType} {ls : List BoogieLine} {ss : List BSetting} (st : Progress) (rest : List BoogieLine) → may_set st.stage ≡ true → AreSettings k ls ss →
    FreshOnce nat_cmp st.named (vars ss) → Settled k st ls rest ss
settings_read st rest may r.none fresh = record { next = st; may = may; read = refl; run = run_nothing (closed st) }
settings_read {k} st rest may (r.one {n = n} {v = v} {ls = ls} {ss = ss} more) fresh =
    let next = opened stage.Settings (insert_key nat_cmp st.named n) nothing (run_set n (One v) (closed st)) in
    let h = settings_read next rest refl more fresh.1 in
    record {
      next = h.next;
      may = h.may;
      read = ap (λ o. all_steps (followed k) o (ls ++ rest)) (fresh_in (may_set st.stage) (among nat_cmp st.named n) next may fresh.0) ∙ h.read;
      run = h.run ∙ set_and n (One v) (closed st) ss [];
    }
settings_read {k} st rest may (r.many {n = n} {u = u} block {ls = ls} {ss = ss} typed fits once more) fresh =
    let z = default_at (slice_get k.types n) in
    let next = opened (stage.Map n) (insert_key nat_cmp st.named n) z (closed st) in
    let b = block_read k next block (ls ++ rest) (fitting k n u block typed fits) (once_is_fresh key_cmp same_from_key_cmp key_cmp_self (keys_of block) once) in
    let h = settings_read (after_block next b.keys block) rest refl more fresh.1 in
    record {
      next = h.next;
      may = h.may;
      read =
          ap (λ o. all_steps (followed k) o ((map At block ++ ls) ++ rest)) (fresh_in (may_set st.stage) (among nat_cmp st.named n) next may fresh.0) ∙
          (ap (all_steps (followed k) (Some next)) (append_assoc (map At block) ls rest) ∙ (b.read ∙ h.read));
      run = h.run ∙ (set_and n (Many (fold entry_with (empty z) block)) (closed st) ss [] ∙
          ap (λ o. run_and (closed st) (record { var = n; value = Many (fold entry_with (empty (default_at o)) block) } ∷ ss) []) typed);
    }

abbrev chosen_run : Progress → List BChoice → BRun
chosen_run st cs = run_and (closed st) [] cs

record Chosen_to (k : Known BType) (st : Progress) (ls : List BoogieLine) (cs : List BChoice) : Type 0 where
  last : Progress
  read : all_steps (followed k) (Some st) ls ≡ Some last
  run : closed last ≡ chosen_run st cs

all_fill : (k : Known BType) (es : List Entry) → All (λ e. may_fill k stage.Entries e ≡ true) es
all_fill k [] = All-nil (λ e. may_fill k stage.Entries e ≡ true)
all_fill k (e ∷ es) = All-cons (λ e. may_fill k stage.Entries e ≡ true) e es refl (all_fill k es)

choices_read : (k : Known BType) {ls : List BoogieLine} {cs : List BChoice} (st : Progress) → AreChoices ls cs → Chosen_to k st ls cs
choices_read k st r.none = record { last = st; read = refl; run = run_nothing (closed st) }
choices_read k st (r.one {c = c} {cs = cs} more) =
    let h = choices_read k (opened stage.Choices st.named nothing (run_chosen c (closed st))) more in
    record { last = h.last; read = h.read; run = h.run ∙ chosen_and c (closed st) cs }
choices_read k st (r.many block {ls = ls} {cs = cs} once more) =
    let next = opened stage.Entries st.named nothing (closed st) in
    let b = block_read k next block ls (all_fill k block) (once_is_fresh key_cmp same_from_key_cmp key_cmp_self (keys_of block) once) in
    let h = choices_read k (after_block next b.keys block) more in
    record { last = h.last; read = b.read ∙ h.read; run = h.run ∙ chosen_and (Entries (entries_of (fold entry_with (empty nothing) block))) (closed st) cs }

-- where reading begins behind the header
abbrev pub ready : Progress
ready = opened stage.Settings [] nothing (record { settings = []; choices = [] })

pub run_read : (k : Known BType) (ls : List BoogieLine) (run : BRun) → AreRun k ls run → (last : Progress) × ((all_steps (followed k) (Some ready) ls ≡ Some last) × (closed last ≡ run))
run_read k ls run h =
    let settled = settings_read ready h.rest refl h.settings (once_is_fresh nat_cmp exact_unsigned nat_self (vars run.settings) h.once) in
    let rest = choices_read k settled.next h.choices in (
      rest.last,
      (
        ap (all_steps (followed k) (Some ready)) h.whole ∙ (settled.read ∙ rest.read),
        rest.run ∙ (ap (λ x. run_and x [] run.choices) settled.run ∙ (λ i. record { settings = append-nil run.settings i; choices = run.choices })),
      ),
    )

-- ---- what is read is what lines are

nothing_read : (k : Known BType) (ls : List BoogieLine) (last : Progress) → all_steps (followed k) None ls ≡ Some last → ⊥
nothing_read k ls last e = none_some e

-- what was taken in was allowed, and new
was_in : (k : Known BType) (ls : List BoogieLine) (next last : Progress) (t s : Bool) → all_steps (followed k) (cond t (cond s None (Some next)) None) ls ≡ Some last →
    (t ≡ true) × ((s ≡ false) × (all_steps (followed k) (Some next) ls ≡ Some last))
was_in k ls next last true false e = (refl, (refl, e))
was_in k ls next last true true e = absurd (nothing_read k ls last e)
was_in k ls next last false s e = absurd (nothing_read k ls last e)

-- the lines of the choices
record Chooses (ls : List BoogieLine) (last : Progress) (so_far : BRun) : Type 0 where
  choices : List BChoice
  are : AreChoices ls choices
  run : closed last ≡ run_and so_far [] choices

-- entries, and then the lines of the choices
record Fills (ls : List BoogieLine) (keys : List Key) (last : Progress) (n : m.Map Key BScalar) (so_far : BRun) : Type 0 where
  block : List Entry
  rest : List BoogieLine
  choices : List BChoice
  whole : ls ≡ map At block ++ rest
  fresh : FreshOnce key_cmp keys (keys_of block)
  are : AreChoices rest choices
  run : closed last ≡ run_and so_far [] (Entries (entries_of (fold entry_with n block)) ∷ choices)

chosen_then : {ls : List BoogieLine} {last : Progress} (run : BRun) (c : BChoice) → Chooses ls last (run_chosen c run) → Chooses (Chosen c ∷ ls) last run
chosen_then run c h = record { choices = c ∷ h.choices; are = r.one h.are; run = h.run ∙ chosen_and c run h.choices }

opened_then : {ls : List BoogieLine} {last : Progress} (run : BRun) → Fills ls [] last (empty nothing) run → Chooses (Opened ∷ ls) last run
opened_then run h = record {
  choices = Entries (entries_of (fold entry_with (empty nothing) h.block)) ∷ h.choices;
  are = subst (λ xs. AreChoices (Opened ∷ xs) (Entries (entries_of (fold entry_with (empty nothing) h.block)) ∷ h.choices)) (sym h.whole)
      (r.many h.block (fresh_differs key_cmp same_from_key_cmp key_cmp_self [] (keys_of h.block) h.fresh) h.are);
  run = h.run;
}

block_ends : {ls : List BoogieLine} {last : Progress} (keys : List Key) (n : m.Map Key BScalar) (run : BRun) → Chooses ls last (run_chosen (Entries (entries_of n)) run) → Fills ls keys last n run
block_ends {ls} keys n run h = record {
  block = [];
  rest = ls;
  choices = h.choices;
  whole = refl;
  fresh = tt;
  are = h.are;
  run = h.run ∙ chosen_and (Entries (entries_of n)) run h.choices;
}

block_goes_on : {ls : List BoogieLine} {last : Progress} (keys : List Key) (n : m.Map Key BScalar) (run : BRun) (e : Entry) → among key_cmp keys e.key ≡ false →
    Fills ls (insert_key key_cmp keys e.key) last (entry_with n e) run → Fills (At e ∷ ls) keys last n run
block_goes_on keys n run e new h = record {
  block = e ∷ h.block;
  rest = h.rest;
  choices = h.choices;
  whole = ap (λ xs. At e ∷ xs) h.whole;
  fresh = (new, h.fresh);
  are = h.are;
  run = h.run;
}

abbrev choosing : BoogieStage → List ℕ → List Key → m.Map Key BScalar → BRun → Progress
choosing g named keys n run = record { stage = g; named = named; keys = keys; filling = n; run = run }

module _ (k : Known BType) where
  mutual
    choosing_is : (ls : List BoogieLine) (named : List ℕ) (keys : List Key) (n : m.Map Key BScalar) (run : BRun) (last : Progress) →
        all_steps (followed k) (Some (choosing stage.Choices named keys n run)) ls ≡ Some last → Chooses ls last run
    choosing_is [] named keys n run last e = record { choices = []; are = r.none; run = sym (ap closed (some_same e)) ∙ run_nothing run }
    choosing_is (Chosen c ∷ ls) named keys n run last e = chosen_then run c (choosing_is ls named [] (empty nothing) (run_chosen c run) last e)
    choosing_is (Opened ∷ ls) named keys n run last e = opened_then run (filling_is ls named [] (empty nothing) run last e)
    choosing_is (Var i v ∷ ls) named keys n run last e = absurd (nothing_read k ls last e)
    choosing_is (Map i ∷ ls) named keys n run last e = absurd (nothing_read k ls last e)
    choosing_is (At x ∷ ls) named keys n run last e = absurd (nothing_read k ls last e)

    filling_is : (ls : List BoogieLine) (named : List ℕ) (keys : List Key) (n : m.Map Key BScalar) (run : BRun) (last : Progress) →
        all_steps (followed k) (Some (choosing stage.Entries named keys n run)) ls ≡ Some last → Fills ls keys last n run
    filling_is [] named keys n run last e =
        block_ends keys n run (record { choices = []; are = r.none; run = sym (ap closed (some_same e)) ∙ run_nothing (run_chosen (Entries (entries_of n)) run) })
    filling_is (Chosen c ∷ ls) named keys n run last e =
        block_ends keys n run (chosen_then (run_chosen (Entries (entries_of n)) run) c (choosing_is ls named [] (empty nothing) (run_chosen c (run_chosen (Entries (entries_of n)) run)) last e))
    filling_is (Opened ∷ ls) named keys n run last e =
        block_ends keys n run (opened_then (run_chosen (Entries (entries_of n)) run) (filling_is ls named [] (empty nothing) (run_chosen (Entries (entries_of n)) run) last e))
    filling_is (Var i v ∷ ls) named keys n run last e = absurd (nothing_read k ls last e)
    filling_is (Map i ∷ ls) named keys n run last e = absurd (nothing_read k ls last e)
    filling_is (At x ∷ ls) named keys n run last e =
        let new = was_in k ls (choosing stage.Entries named (insert_key key_cmp keys x.key) (entry_with n x) run) last true (among key_cmp keys x.key) e in
        block_goes_on keys n run x new.1.0 (filling_is ls named (insert_key key_cmp keys x.key) (entry_with n x) run last new.1.1)

-- the lines of settings, and then those of the choices
record Sets (k : Known BType) (ls : List BoogieLine) (named : List ℕ) (last : Progress) (so_far : BRun) : Type 0 where
  front : List BoogieLine
  rest : List BoogieLine
  settings : List BSetting
  choices : List BChoice
  whole : ls ≡ front ++ rest
  set : AreSettings k front settings
  fresh : FreshOnce nat_cmp named (vars settings)
  are : AreChoices rest choices
  run : closed last ≡ run_and so_far settings choices

-- entries, and then the lines of settings and choices
record Opens (k : Known BType) (i : ℕ) (ls : List BoogieLine) (named : List ℕ) (keys : List Key) (last : Progress) (n : m.Map Key BScalar) (run : BRun) : Type 0 where
  block : List Entry
  behind : List BoogieLine
  whole : ls ≡ map At block ++ behind
  fits : All (λ e. may_fill k (stage.Map i) e ≡ true) block
  fresh : FreshOnce key_cmp keys (keys_of block)
  more : Sets k behind named last (run_set i (Many (fold entry_with n block)) run)

settings_end : {k : Known BType} {ls : List BoogieLine} {last : Progress} (named : List ℕ) (run : BRun) → Chooses ls last run → Sets k ls named last run
settings_end {ls = ls} named run h = record {
  front = [];
  rest = ls;
  settings = [];
  choices = h.choices;
  whole = refl;
  set = r.none;
  fresh = tt;
  are = h.are;
  run = h.run;
}

set_then : {k : Known BType} {ls : List BoogieLine} {last : Progress} (named : List ℕ) (run : BRun) (n : ℕ) (v : BScalar) → among nat_cmp named n ≡ false →
    Sets k ls (insert_key nat_cmp named n) last (run_set n (One v) run) → Sets k (Var n v ∷ ls) named last run
set_then named run n v new h = record {
  front = Var n v ∷ h.front;
  rest = h.rest;
  settings = record { var = n; value = One v } ∷ h.settings;
  choices = h.choices;
  whole = ap (λ xs. Var n v ∷ xs) h.whole;
  set = r.one h.set;
  fresh = (new, h.fresh);
  are = h.are;
  run = h.run ∙ set_and n (One v) run h.settings h.choices;
}

no_entry : (es : List Entry) → All (λ e. fits_type None e ≡ true) es → es ≡ []
no_entry [] h = refl
no_entry (e ∷ es) h = absurd (none_fits (All-head (λ e. fits_type None e ≡ true) e es h)) where
  none_fits : false ≡ true → ⊥
  none_fits e = cc

-- a map of a variable that has a type
map_then : {k : Known BType} {ls : List BoogieLine} {last : Progress} (named : List ℕ) (run : BRun) (i : ℕ) (u : BType) → slice_get k.types i ≡ Some u → among nat_cmp named i ≡ false →
    Opens k i ls (insert_key nat_cmp named i) [] last (empty (default_at (slice_get k.types i))) run → Sets k (Map i ∷ ls) named last run
map_then {k} {last = last} named run i u typed new h =
    let block = h.block in
    let more = subst (λ o. Sets k h.behind (insert_key nat_cmp named i) last (run_set i (Many (fold entry_with (empty (default_at o)) block)) run)) typed h.more in
    record {
      front = Map i ∷ map At block ++ more.front;
      rest = more.rest;
      settings = record { var = i; value = Many (fold entry_with (empty (default_of u.base)) block) } ∷ more.settings;
      choices = more.choices;
      whole = ap (λ xs. Map i ∷ xs) (h.whole ∙ (ap (λ xs. map At block ++ xs) more.whole ∙ sym (append_assoc (map At block) more.front more.rest)));
      set = r.many block typed (subst (λ o. All (λ e. fits_type o e ≡ true) block) typed h.fits) (fresh_differs key_cmp same_from_key_cmp key_cmp_self [] (keys_of block) h.fresh) more.set;
      fresh = (new, more.fresh);
      are = more.are;
      run = more.run ∙ set_and i (Many (fold entry_with (empty (default_of u.base)) block)) run more.settings more.choices;
    }

entries_end : {k : Known BType} {i : ℕ} {ls : List BoogieLine} {last : Progress} (named : List ℕ) (keys : List Key) (n : m.Map Key BScalar) (run : BRun) → Sets k ls named last (run_set i (Many n) run) → Opens k i ls named keys last n run
entries_end {k} {i} {ls} named keys n run h = record { block = []; behind = ls; whole = refl; fits = All-nil (λ e. may_fill k (stage.Map i) e ≡ true); fresh = tt; more = h }

entries_go_on : {k : Known BType} {i : ℕ} {ls : List BoogieLine} {last : Progress} (named : List ℕ) (keys : List Key) (n : m.Map Key BScalar) (run : BRun) (e : Entry) → may_fill k (stage.Map i) e ≡ true → among key_cmp keys e.key ≡ false →
    Opens k i ls named (insert_key key_cmp keys e.key) last (entry_with n e) run → Opens k i (At e ∷ ls) named keys last n run
entries_go_on {k} {i} named keys n run e fits new h = record {
  block = e ∷ h.block;
  behind = h.behind;
  whole = ap (λ xs. At e ∷ xs) h.whole;
  fits = All-cons (λ e. may_fill k (stage.Map i) e ≡ true) e h.block fits h.fits;
  fresh = (new, h.fresh);
  more = h.more;
}

-- each map has a type
abbrev HasTypes : Known BType → List BoogieLine → Type 0
HasTypes k [] = Unit {0}
HasTypes k (Map i ∷ ls) = ((u : BType) × (slice_get k.types i ≡ Some u)) × HasTypes k ls
HasTypes k (Var i v ∷ ls) = HasTypes k ls
HasTypes k (At e ∷ ls) = HasTypes k ls
HasTypes k (Chosen c ∷ ls) = HasTypes k ls
HasTypes k (Opened ∷ ls) = HasTypes k ls

line_types : (k : Known BType) (ws : List (List (List ℕ))) (ls : List BoogieLine) → AllZip (IsLine k) ws ls → HasTypes k ls
line_types k [] [] h = tt
line_types k [] (l ∷ ls) h = absurd h
line_types k (w ∷ ws) [] h = absurd h
line_types k (w ∷ ws) (Map i ∷ ls) h = (one_type h.0, line_types k ws ls h.1) where
  one_type : {w : List (List ℕ)} {i : ℕ} → IsLine k w (Map i) → (u : BType) × (slice_get k.types i ≡ Some u)
  one_type (opens {u = u} has many) = (u, has.typed)
line_types k (w ∷ ws) (Var i v ∷ ls) h = line_types k ws ls h.1
line_types k (w ∷ ws) (At e ∷ ls) h = line_types k ws ls h.1
line_types k (w ∷ ws) (Chosen c ∷ ls) h = line_types k ws ls h.1
line_types k (w ∷ ws) (Opened ∷ ls) h = line_types k ws ls h.1

module _ (k : Known BType) where
  mutual
    settings_are : (ls : List BoogieLine) (named : List ℕ) (keys : List Key) (n : m.Map Key BScalar) (run : BRun) (last : Progress) → HasTypes k ls →
        all_steps (followed k) (Some (choosing stage.Settings named keys n run)) ls ≡ Some last → Sets k ls named last run
    settings_are [] named keys n run last types e = settings_end named run (record { choices = []; are = r.none; run = sym (ap closed (some_same e)) ∙ run_nothing run })
    settings_are (Chosen c ∷ ls) named keys n run last types e = settings_end named run (chosen_then run c (choosing_is k ls named [] (empty nothing) (run_chosen c run) last e))
    settings_are (Opened ∷ ls) named keys n run last types e = settings_end named run (opened_then run (filling_is k ls named [] (empty nothing) run last e))
    settings_are (At x ∷ ls) named keys n run last types e = absurd (nothing_read k ls last e)
    settings_are (Var i v ∷ ls) named keys n run last types e =
        let new = was_in k ls (opened stage.Settings (insert_key nat_cmp named i) nothing (run_set i (One v) run)) last true (among nat_cmp named i) e in
        set_then named run i v new.1.0 (settings_are ls (insert_key nat_cmp named i) [] (empty nothing) (run_set i (One v) run) last types new.1.1)
    settings_are (Map i ∷ ls) named keys n run last types e =
        let z = default_at (slice_get k.types i) in
        let new = was_in k ls (opened (stage.Map i) (insert_key nat_cmp named i) z run) last true (among nat_cmp named i) e in
        map_then named run i types.0.0 types.0.1 new.1.0 (entries_are i ls (insert_key nat_cmp named i) [] (empty z) run last types.1 new.1.1)

    entries_are : (j : ℕ) (ls : List BoogieLine) (named : List ℕ) (keys : List Key) (n : m.Map Key BScalar) (run : BRun) (last : Progress) → HasTypes k ls →
        all_steps (followed k) (Some (choosing (stage.Map j) named keys n run)) ls ≡ Some last → Opens k j ls named keys last n run
    entries_are j [] named keys n run last types e =
        entries_end named keys n run (settings_end named (run_set j (Many n) run) (record { choices = []; are = r.none; run = sym (ap closed (some_same e)) ∙ run_nothing (run_set j (Many n) run) }))
    entries_are j (Chosen c ∷ ls) named keys n run last types e =
        entries_end named keys n run (settings_end named (run_set j (Many n) run)
        (chosen_then (run_set j (Many n) run) c (choosing_is k ls named [] (empty nothing) (run_chosen c (run_set j (Many n) run)) last e)))
    entries_are j (Opened ∷ ls) named keys n run last types e =
        entries_end named keys n run (settings_end named (run_set j (Many n) run)
        (opened_then (run_set j (Many n) run) (filling_is k ls named [] (empty nothing) (run_set j (Many n) run) last e)))
    entries_are j (At x ∷ ls) named keys n run last types e =
        let new = was_in k ls (choosing (stage.Map j) named (insert_key key_cmp keys x.key) (entry_with n x) run) last (may_fill k (stage.Map j) x) (among key_cmp keys x.key) e in
        entries_go_on named keys n run x new.0 new.1.0 (entries_are j ls named (insert_key key_cmp keys x.key) (entry_with n x) run last types new.1.1)
    entries_are j (Var i v ∷ ls) named keys n run last types e =
        let full = run_set j (Many n) run in
        let new = was_in k ls (opened stage.Settings (insert_key nat_cmp named i) nothing (run_set i (One v) full)) last true (among nat_cmp named i) e in
        entries_end named keys n run (set_then named full i v new.1.0 (settings_are ls (insert_key nat_cmp named i) [] (empty nothing) (run_set i (One v) full) last types new.1.1))
    entries_are j (Map i ∷ ls) named keys n run last types e =
        let full = run_set j (Many n) run in
        let z = default_at (slice_get k.types i) in
        let new = was_in k ls (opened (stage.Map i) (insert_key nat_cmp named i) z full) last true (among nat_cmp named i) e in
        entries_end named keys n run (map_then named full i types.0.0 types.0.1 new.1.0 (entries_are i ls (insert_key nat_cmp named i) [] (empty z) full last types.1 new.1.1))

pub read_run : (k : Known BType) (ws : List (List (List ℕ))) (ls : List BoogieLine) (last : Progress) → AllZip (IsLine k) ws ls → all_steps (followed k) (Some ready) ls ≡ Some last → AreRun k ls (closed last)
read_run k ws ls last are e =
    let h = settings_are k ls [] [] (empty nothing) (record { settings = []; choices = [] }) last (line_types k ws ls are) e in
    subst (AreRun k ls) (sym h.run)
    (record {
      front = h.front;
      rest = h.rest;
      whole = h.whole;
      settings = h.set;
      once = fresh_differs nat_cmp exact_unsigned nat_self [] (vars h.settings) h.fresh;
      choices = h.are;
    })
