-- The run that lines are is what is read of them, line by line.
use Rattle.std.proofs.Common.{◌≡◌, ◌∙◌, Bool, true, false, cond, List, [], ◌∷◌, ◌++◌, append_assoc, Some, None, refl, sym, ap, subst}
use Rattle.std.specs.Prelude.{fold}
use Rattle.std.specs.List.{AllByRecursion}
use Rattle.std.specs.BTreeSet.{insert_key}
use Rattle.std.proofs.lemmas.List.{append-nil}
use Rattle.lemmas.proofs.Options.{some_same}
use Rattle.viper_state.specs.State.{Memo}
use Rattle.viper_state.specs.Run.{Opening}
use Rattle.viper_state.specs.Choice.{Choice, Filled}
use Rattle.run_file.specs.Lines.{UnitScope, ViperLine, Var, Heap, Holds, Chosen, Opened}
use Rattle.run_file.specs.Run.{ViperRun, scope_memo, empty_opening, memo_with, opening_with, IsPlaceLine, IsSetting, names_of, all_names, AreChoices, AreRun, none, one, filled}
use Rattle.run_file_words.specs.Machine.{all_steps}
use Rattle.run_file.specs.NamedOrder.{named_cmp}
use Rattle.run_file.specs.Progress.{Progress, last_with, has_named, whole, followed}
use Rattle.run_file.specs.declared.lines.LineTarget.{LineTarget}
use Rattle.run_file.specs.declared.lines.LineTarget.TheVariants as named
use Rattle.run_file.specs.declared.reader.ViperStage.{ViperStage}
use Rattle.run_file.specs.declared.reader.ViperStage.TheVariants as stage
use Rattle.run_file.proofs.MemoLaws.{last_of}
use Rattle.run_file.proofs.NamedLaws.{FreshOnce, once_is_fresh, fresh_differs}

abbrev pub at_stage : ViperStage → List LineTarget → Opening → List Choice → Progress ViperRun
at_stage g set o cs = record { stage = g; named = set; run = record { opening = o; choices = cs } }

-- a name that is new
new_name : (set : List LineTarget) (n : LineTarget) (st : Progress ViperRun) → has_named set n ≡ false → cond (has_named set n) None (Some st) ≡ Some st
new_name set n st h = rw h refl

-- ---- what lines are is read

-- the lines of an opening
pub record Settled (s : UnitScope) (ls rest : List ViperLine) (set : List LineTarget) (o : Opening) (cs : List Choice) : Type 0 where
  pub names : List LineTarget
  pub read : all_steps (followed whole s) (Some (at_stage stage.Opening set o cs)) (ls ++ rest) ≡ all_steps (followed whole s) (Some (at_stage stage.Opening names (fold opening_with o ls) cs)) rest

settled_more : (s : UnitScope) (l : ViperLine) (ls rest : List ViperLine) (set : List LineTarget) (n : LineTarget) (o : Opening) (cs : List Choice) → has_named set n ≡ false →
    followed whole s (at_stage stage.Opening set o cs) l ≡ cond (has_named set n) None (Some (at_stage stage.Opening (insert_key named_cmp set n) (opening_with o l) cs)) →
    Settled s ls rest (insert_key named_cmp set n) (opening_with o l) cs → Settled s (l ∷ ls) rest set o cs
settled_more s l ls rest set n o cs fresh step h =
    record { names = h.names; read = ap (λ x. all_steps (followed whole s) x (ls ++ rest)) (step ∙ new_name set n _ fresh) ∙ h.read }

settings_read : (s : UnitScope) (ls rest : List ViperLine) (set : List LineTarget) (o : Opening) (cs : List Choice) → AllByRecursion IsSetting ls → FreshOnce set (all_names ls) → Settled s ls rest set o cs
settings_read s [] rest set o cs only fresh = record { names = set; read = refl }
settings_read s (Var n v ∷ ls) rest set o cs only fresh =
    settled_more s (Var n v) ls rest set (named.Variable n) o cs fresh.0 refl (settings_read s ls rest _ (opening_with o (Var n v)) cs only.1 fresh.1)
settings_read s (Heap f r v ∷ ls) rest set o cs only fresh =
    settled_more s (Heap f r v) ls rest set (named.Place f r) o cs fresh.0 refl (settings_read s ls rest _ (opening_with o (Heap f r v)) cs only.1 fresh.1)
settings_read s (Holds q k c ∷ ls) rest set o cs only fresh =
    settled_more s (Holds q k c) ls rest set (named.Instance q k) o cs fresh.0 refl (settings_read s ls rest _ (opening_with o (Holds q k c)) cs only.1 fresh.1)
settings_read s (Chosen c ∷ ls) rest set o cs only fresh = absurd only.0
settings_read s (Opened ∷ ls) rest set o cs only fresh = absurd only.0

-- the lines that fill a choice
pub record IsFilled (s : UnitScope) (ls rest : List ViperLine) (set : List LineTarget) (o : Opening) (cs : List Choice) (m : Memo) : Type 0 where
  pub names : List LineTarget
  pub read : all_steps (followed whole s) (Some (at_stage stage.Filling set o (cs ++ Filled m ∷ []))) (ls ++ rest) ≡
      all_steps (followed whole s) (Some (at_stage stage.Filling names o (cs ++ Filled (fold memo_with m ls) ∷ []))) rest

filled_more : (s : UnitScope) (l : ViperLine) (ls rest : List ViperLine) (set : List LineTarget) (n : LineTarget) (o : Opening) (cs : List Choice) (m : Memo) → has_named set n ≡ false →
    followed whole s (at_stage stage.Filling set o (cs ++ Filled m ∷ [])) l ≡ cond (has_named set n) None (Some (at_stage stage.Filling (insert_key named_cmp set n) o (last_with l (cs ++ Filled m ∷ [])))) →
    IsFilled s ls rest (insert_key named_cmp set n) o cs (memo_with m l) → IsFilled s (l ∷ ls) rest set o cs m
filled_more s l ls rest set n o cs m fresh step h =
    record { names = h.names; read = ap (λ x. all_steps (followed whole s) x (ls ++ rest)) (step ∙ (new_name set n _ fresh ∙ ap (λ xs. Some (at_stage stage.Filling (insert_key named_cmp set n) o xs)) (last_of l cs m))) ∙ h.read }

block_read : (s : UnitScope) (ls rest : List ViperLine) (set : List LineTarget) (o : Opening) (cs : List Choice) (m : Memo) → AllByRecursion IsPlaceLine ls → FreshOnce set (all_names ls) → IsFilled s ls rest set o cs m
block_read s [] rest set o cs m only fresh = record { names = set; read = refl }
block_read s (Heap f r v ∷ ls) rest set o cs m only fresh =
    filled_more s (Heap f r v) ls rest set (named.Place f r) o cs m fresh.0 refl (block_read s ls rest _ o cs (memo_with m (Heap f r v)) only.1 fresh.1)
block_read s (Holds q k c ∷ ls) rest set o cs m only fresh =
    filled_more s (Holds q k c) ls rest set (named.Instance q k) o cs m fresh.0 refl (block_read s ls rest _ o cs (memo_with m (Holds q k c)) only.1 fresh.1)
block_read s (Var n v ∷ ls) rest set o cs m only fresh = absurd only.0
block_read s (Chosen c ∷ ls) rest set o cs m only fresh = absurd only.0
block_read s (Opened ∷ ls) rest set o cs m only fresh = absurd only.0

-- where reading ends
pub record ReadTo (s : UnitScope) (st : Progress ViperRun) (ls : List ViperLine) (o : Opening) (cs : List Choice) : Type 0 where
  pub last : Progress ViperRun
  pub read : all_steps (followed whole s) (Some st) ls ≡ Some last
  pub run : last.run ≡ record { opening = o; choices = cs }

pub choices_read : {s : UnitScope} {ls : List ViperLine} {cs : List Choice} (g : ViperStage) (set : List LineTarget) (o : Opening) (before : List Choice) → AreChoices s ls cs → ReadTo s (at_stage g set o before) ls o (before ++ cs)
choices_read g set o before none = record { last = at_stage g set o before; read = refl; run = ap (λ xs. record { opening = o; choices = xs }) (sym (append-nil before)) }
choices_read g set o before (one {c = c} {cs = cs} more) =
    let rest = choices_read stage.Choosing [] o (before ++ c ∷ []) more in
    record { last = rest.last; read = rest.read; run = rest.run ∙ ap (λ xs. record { opening = o; choices = xs }) (append_assoc before (c ∷ []) cs) }
choices_read {s} g set o before (filled block {ls = ls} {cs = cs} only named_once more) =
    let f = block_read s block ls [] o before (scope_memo s) only (once_is_fresh (all_names block) named_once) in
    let m = fold memo_with (scope_memo s) block in
    let rest = choices_read stage.Filling f.names o (before ++ Filled m ∷ []) more in
    record { last = rest.last; read = f.read ∙ rest.read; run = rest.run ∙ ap (λ xs. record { opening = o; choices = xs }) (append_assoc before (Filled m ∷ []) cs) }

abbrev pub opened : UnitScope → Progress ViperRun
opened s = at_stage stage.Opening [] (empty_opening s) []

pub run_read : {s : UnitScope} {ls : List ViperLine} {run : ViperRun} → AreRun s ls run → ReadTo s (opened s) ls run.opening run.choices
run_read {s} {ls} {run} h =
    let settled = settings_read s h.settings h.rest [] (empty_opening s) [] h.only (once_is_fresh (all_names h.settings) h.once) in
    let o = fold opening_with (empty_opening s) h.settings in
    let rest = choices_read stage.Opening settled.names o [] h.choices in
    record {
      last = rest.last;
      read = ap (all_steps (followed whole s) (Some (opened s))) h.whole ∙ (settled.read ∙ rest.read);
      run = rest.run ∙ ap (λ x. record { opening = x; choices = run.choices }) (sym h.opening);
    }

-- ---- what is read is what lines are

nothing_followed : (s : UnitScope) (ls : List ViperLine) (st : Progress ViperRun) → all_steps (followed whole s) None ls ≡ Some st → ⊥
nothing_followed s ls st e = none_some e where
  none_some : {X : Type 0} {x : X} → None ≡ Some x → ⊥
  none_some e = cc

-- the lines of the choices
pub record Chooses (s : UnitScope) (ls : List ViperLine) (last : Progress ViperRun) (o : Opening) (before : List Choice) : Type 0 where
  pub choices : List Choice
  pub are : AreChoices s ls choices
  pub run : last.run ≡ record { opening = o; choices = before ++ choices }

-- the lines that fill a choice, and then those of the other choices
pub record Fills (s : UnitScope) (ls : List ViperLine) (set : List LineTarget) (last : Progress ViperRun) (o : Opening) (before : List Choice) (m : Memo) : Type 0 where
  pub block : List ViperLine
  pub rest : List ViperLine
  pub choices : List Choice
  pub whole : ls ≡ block ++ rest
  pub only : AllByRecursion IsPlaceLine block
  pub fresh : FreshOnce set (all_names block)
  pub are : AreChoices s rest choices
  pub run : last.run ≡ record { opening = o; choices = before ++ Filled (fold memo_with m block) ∷ choices }

-- a name that was new
was_new : (s : UnitScope) (ls : List ViperLine) (set : List LineTarget) (n : LineTarget) (st last : Progress ViperRun) → all_steps (followed whole s) (cond (has_named set n) None (Some st)) ls ≡ Some last →
    (has_named set n ≡ false) × (all_steps (followed whole s) (Some st) ls ≡ Some last)
was_new s ls set n st last e = by_test (has_named set n) e where
  by_test : (b : Bool) → all_steps (followed whole s) (cond b None (Some st)) ls ≡ Some last → (b ≡ false) × (all_steps (followed whole s) (Some st) ls ≡ Some last)
  by_test true e = absurd (nothing_followed s ls last e)
  by_test false e = (refl, e)

chosen_then : {s : UnitScope} {ls : List ViperLine} {last : Progress ViperRun} {o : Opening} (before : List Choice) (c : Choice) → Chooses s ls last o (before ++ c ∷ []) → Chooses s (Chosen c ∷ ls) last o before
chosen_then {o = o} before c h =
    record { choices = c ∷ h.choices; are = one h.are; run = h.run ∙ ap (λ xs. record { opening = o; choices = xs }) (append_assoc before (c ∷ []) h.choices) }

opened_then : {s : UnitScope} {ls : List ViperLine} {last : Progress ViperRun} {o : Opening} (before : List Choice) → Fills s ls [] last o before (scope_memo s) → Chooses s (Opened ∷ ls) last o before
opened_then {s} before h = record {
  choices = Filled (fold memo_with (scope_memo s) h.block) ∷ h.choices;
  are = subst (λ xs. AreChoices s (Opened ∷ xs) (Filled (fold memo_with (scope_memo s) h.block) ∷ h.choices)) (sym h.whole) (filled h.block h.only (fresh_differs [] (all_names h.block) h.fresh) h.are);
  run = h.run;
}

-- no line of the block is left
block_ends : {s : UnitScope} {ls : List ViperLine} {last : Progress ViperRun} {o : Opening} (set : List LineTarget) (before : List Choice) (m : Memo) → Chooses s ls last o (before ++ Filled m ∷ []) → Fills s ls set last o before m
block_ends {ls = ls} {o = o} set before m h = record {
  block = [];
  rest = ls;
  choices = h.choices;
  whole = refl;
  only = tt;
  fresh = tt;
  are = h.are;
  run = h.run ∙ ap (λ xs. record { opening = o; choices = xs }) (append_assoc before (Filled m ∷ []) h.choices);
}

block_goes_on : {s : UnitScope} {ls : List ViperLine} {last : Progress ViperRun} {o : Opening} (set : List LineTarget) (before : List Choice) (m : Memo) (l : ViperLine) (n : LineTarget) → IsPlaceLine l → names_of l ≡ n ∷ [] → has_named set n ≡ false →
    Fills s ls (insert_key named_cmp set n) last o before (memo_with m l) → Fills s (l ∷ ls) set last o before m
block_goes_on set before m l n place named_n fresh h = record {
  block = l ∷ h.block;
  rest = h.rest;
  choices = h.choices;
  whole = ap (λ xs. l ∷ xs) h.whole;
  only = (place, h.only);
  fresh = subst (λ ns. FreshOnce set (ns ++ all_names h.block)) (sym named_n) (fresh, h.fresh);
  are = h.are;
  run = h.run;
}

mutual
  choosing_is : (s : UnitScope) (ls : List ViperLine) (set : List LineTarget) (o : Opening) (before : List Choice) (last : Progress ViperRun) → all_steps (followed whole s) (Some (at_stage stage.Choosing set o before)) ls ≡ Some last → Chooses s ls last o before
  choosing_is s [] set o before last e = record { choices = []; are = none; run = sym (ap (λ (x : Progress ViperRun). x.run) (some_same e)) ∙ ap (λ xs. record { opening = o; choices = xs }) (sym (append-nil before)) }
  choosing_is s (Chosen c ∷ ls) set o before last e = chosen_then before c (choosing_is s ls [] o (before ++ c ∷ []) last e)
  choosing_is s (Opened ∷ ls) set o before last e = opened_then before (filling_is s ls [] o before (scope_memo s) last e)
  choosing_is s (Var n v ∷ ls) set o before last e = absurd (nothing_followed s ls last e)
  choosing_is s (Heap f r v ∷ ls) set o before last e = absurd (nothing_followed s ls last e)
  choosing_is s (Holds q k c ∷ ls) set o before last e = absurd (nothing_followed s ls last e)

  filling_is : (s : UnitScope) (ls : List ViperLine) (set : List LineTarget) (o : Opening) (before : List Choice) (m : Memo) (last : Progress ViperRun) →
      all_steps (followed whole s) (Some (at_stage stage.Filling set o (before ++ Filled m ∷ []))) ls ≡ Some last → Fills s ls set last o before m
  filling_is s [] set o before m last e =
      block_ends set before m (record { choices = []; are = none; run = sym (ap (λ (x : Progress ViperRun). x.run) (some_same e)) ∙ ap (λ xs. record { opening = o; choices = xs }) (sym (append-nil (before ++ Filled m ∷ []))) })
  filling_is s (Chosen c ∷ ls) set o before m last e = block_ends set before m (chosen_then (before ++ Filled m ∷ []) c (choosing_is s ls [] o ((before ++ Filled m ∷ []) ++ c ∷ []) last e))
  filling_is s (Opened ∷ ls) set o before m last e = block_ends set before m (opened_then (before ++ Filled m ∷ []) (filling_is s ls [] o (before ++ Filled m ∷ []) (scope_memo s) last e))
  filling_is s (Var n v ∷ ls) set o before m last e = absurd (nothing_followed s ls last e)
  filling_is s (Heap f r v ∷ ls) set o before m last e =
      let new = was_new s ls set (named.Place f r) (at_stage stage.Filling (insert_key named_cmp set (named.Place f r)) o (last_with (Heap f r v) (before ++ Filled m ∷ []))) last e in
      block_goes_on set before m (Heap f r v) (named.Place f r) tt refl new.0
      (filling_is s ls (insert_key named_cmp set (named.Place f r)) o before (memo_with m (Heap f r v)) last
      (subst (λ xs. all_steps (followed whole s) (Some (at_stage stage.Filling (insert_key named_cmp set (named.Place f r)) o xs)) ls ≡ Some last) (last_of (Heap f r v) before m) new.1))
  filling_is s (Holds q k c ∷ ls) set o before m last e =
      let new = was_new s ls set (named.Instance q k) (at_stage stage.Filling (insert_key named_cmp set (named.Instance q k)) o (last_with (Holds q k c) (before ++ Filled m ∷ []))) last e in
      block_goes_on set before m (Holds q k c) (named.Instance q k) tt refl new.0
      (filling_is s ls (insert_key named_cmp set (named.Instance q k)) o before (memo_with m (Holds q k c)) last
      (subst (λ xs. all_steps (followed whole s) (Some (at_stage stage.Filling (insert_key named_cmp set (named.Instance q k)) o xs)) ls ≡ Some last) (last_of (Holds q k c) before m) new.1))

-- the lines of an opening, and then those of the choices
pub record Opens (s : UnitScope) (ls : List ViperLine) (set : List LineTarget) (last : Progress ViperRun) (o : Opening) : Type 0 where
  pub settings : List ViperLine
  pub rest : List ViperLine
  pub whole : ls ≡ settings ++ rest
  pub only : AllByRecursion IsSetting settings
  pub fresh : FreshOnce set (all_names settings)
  pub are : AreChoices s rest last.run.choices
  pub opening : last.run.opening ≡ fold opening_with o settings

settings_end : {s : UnitScope} {ls : List ViperLine} {last : Progress ViperRun} {o : Opening} (set : List LineTarget) → Chooses s ls last o [] → Opens s ls set last o
settings_end {s} {ls} set h = record {
  settings = [];
  rest = ls;
  whole = refl;
  only = tt;
  fresh = tt;
  are = subst (λ cs. AreChoices s ls cs) (sym (ap (λ (x : ViperRun). x.choices) h.run)) h.are;
  opening = ap (λ (x : ViperRun). x.opening) h.run;
}

setting_goes_on : {s : UnitScope} {ls : List ViperLine} {last : Progress ViperRun} {o : Opening} (set : List LineTarget) (l : ViperLine) (n : LineTarget) → IsSetting l → names_of l ≡ n ∷ [] → has_named set n ≡ false →
    Opens s ls (insert_key named_cmp set n) last (opening_with o l) → Opens s (l ∷ ls) set last o
setting_goes_on set l n setting named_n fresh h = record {
  settings = l ∷ h.settings;
  rest = h.rest;
  whole = ap (λ xs. l ∷ xs) h.whole;
  only = (setting, h.only);
  fresh = subst (λ ns. FreshOnce set (ns ++ all_names h.settings)) (sym named_n) (fresh, h.fresh);
  are = h.are;
  opening = h.opening;
}

opening_is : (s : UnitScope) (ls : List ViperLine) (set : List LineTarget) (o : Opening) (last : Progress ViperRun) → all_steps (followed whole s) (Some (at_stage stage.Opening set o [])) ls ≡ Some last → Opens s ls set last o
opening_is s [] set o last e = settings_end set (record { choices = []; are = none; run = sym (ap (λ (x : Progress ViperRun). x.run) (some_same e)) })
opening_is s (Chosen c ∷ ls) set o last e = settings_end set (chosen_then [] c (choosing_is s ls [] o (c ∷ []) last e))
opening_is s (Opened ∷ ls) set o last e = settings_end set (opened_then [] (filling_is s ls [] o [] (scope_memo s) last e))
opening_is s (Var n v ∷ ls) set o last e =
    let new = was_new s ls set (named.Variable n) (at_stage stage.Opening (insert_key named_cmp set (named.Variable n)) (opening_with o (Var n v)) []) last e in
    setting_goes_on set (Var n v) (named.Variable n) tt refl new.0 (opening_is s ls _ (opening_with o (Var n v)) last new.1)
opening_is s (Heap f r v ∷ ls) set o last e =
    let new = was_new s ls set (named.Place f r) (at_stage stage.Opening (insert_key named_cmp set (named.Place f r)) (opening_with o (Heap f r v)) []) last e in
    setting_goes_on set (Heap f r v) (named.Place f r) tt refl new.0 (opening_is s ls _ (opening_with o (Heap f r v)) last new.1)
opening_is s (Holds q k c ∷ ls) set o last e =
    let new = was_new s ls set (named.Instance q k) (at_stage stage.Opening (insert_key named_cmp set (named.Instance q k)) (opening_with o (Holds q k c)) []) last e in
    setting_goes_on set (Holds q k c) (named.Instance q k) tt refl new.0 (opening_is s ls _ (opening_with o (Holds q k c)) last new.1)

pub read_run : (s : UnitScope) (ls : List ViperLine) (last : Progress ViperRun) → all_steps (followed whole s) (Some (opened s)) ls ≡ Some last → AreRun s ls last.run
read_run s ls last e =
    let h = opening_is s ls [] (empty_opening s) last e in
    record { settings = h.settings; rest = h.rest; whole = h.whole; only = h.only; once = fresh_differs [] (all_names h.settings) h.fresh; opening = h.opening; choices = h.are }
