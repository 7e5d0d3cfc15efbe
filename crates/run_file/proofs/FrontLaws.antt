-- What is read of a file with so many choices is the front of what the file spells.
use Rattle.std.proofs.Common.{◌≡◌, ◌∙◌, ◌+◌, ◌-◌, ◌<◌, ◌≤◌, inl, inr, ℕ, zero, suc, Bool, true, false, cond, ◌&&◌, List, [], ◌∷◌, ◌++◌, length, length-append, take, Result, Ok, Err, MatchResult, IfOk, IfErr, refl, sym, ap, subst, arith}
use Rattle.std.specs.Prelude.{nat_lt, min}
use Rattle.std.proofs.Math.Seq.{take-nil}
use Rattle.std.proofs.lemmas.Bool.{ltb-true, ltb-false, le-ltb}
use Rattle.std.proofs.lemmas.List.{length-take, take_all, take-append-le}
use Rattle.vb_base.specs.declared.places.Pos.{Pos}
use Rattle.viper_state.specs.Choice.{Choice}
use Rattle.viper_state.specs.Run.{Opening}
use Rattle.viper_core.specs.Program.{Program}
use Rattle.run_file_words.specs.Answers.{UnlessMemory, Gives, GivesPlace}
use Rattle.run_file_words.specs.Machine.{IsReadBy, StopsBy}
use Rattle.run_file_words.specs.Text.{lines_of}
use Rattle.run_file_words.specs.declared.faults.RunFileFault.{RunFileFault}
use Rattle.run_file_words.specs.declared.faults.RunFileFault.TheVariants as fault
use Rattle.run_file_words.proofs.AnswerLaws.{Answered, one_run, not_both, one_place}
use Rattle.run_file.specs.Front.{Front, front_of, SpellsFront}
use Rattle.run_file.specs.Lines.{UnitScope, scope_of, ViperLine}
use Rattle.run_file.specs.Progress.{last_with, run_with, run_chosen, whole, fronts, stage_within, has_room, front_chosen, reader, front_reader}
use Rattle.run_file.specs.Run.{ViperRun, SpellRun, SpellsViperRun, GoesWrongAt}
use Rattle.run_file.specs.View.{run_of, front_view}
use Rattle.run_file.specs.declared.reader.ViperStage.{ViperStage}
use Rattle.run_file.specs.declared.reader.ViperStage.TheVariants as stage
use Rattle.run_file.specs.declared.runs.ViperFront.{ViperFront}
use Rattle.run_file.specs.declared.runs.ViperRun.{ViperRun as Code}
use Rattle.run_file.proofs.FileLaws.{is_reader}
use Rattle.run_file.proofs.LineLaws.{NamesApart}
use Rattle.run_file.proofs.SeenLaws.{Agree, seen, sees}
use Rattle.run_file.proofs.SeenMachines.{Sees, read_seen, stops_seen}

-- ---- changes of a front

same_front : {o : Opening} {cs ds : List Choice} {m n : ℕ} → cs ≡ ds → m ≡ n →
    ◌≡◌ {A = Front} (record { run = record { opening = o; choices = cs }; more = m }) (record { run = record { opening = o; choices = ds }; more = n })
same_front {o} cs more = λ i. record { run = record { opening = o; choices = cs i }; more = more i }

last_length : (l : ViperLine) (cs : List Choice) → length (last_with l cs) ≡ length cs
last_length l [] = refl
last_length l (c ∷ []) = refl
last_length l (c ∷ d ∷ cs) = ap suc (last_length l (d ∷ cs))

-- the last choice is behind the front
last_behind : (many : ℕ) (l : ViperLine) (cs : List Choice) → many < length cs → take many (last_with l cs) ≡ take many cs
last_behind zero l cs below = refl
last_behind (suc many) l [] below = absurd (omega (arith, below))
last_behind (suc many) l (c ∷ []) below = absurd (omega (arith, below))
last_behind (suc many) l (c ∷ d ∷ cs) below = ap (λ xs. c ∷ xs) (last_behind many l (d ∷ cs) (omega (arith, below)))

filled_by : (many : ℕ) (l : ViperLine) (o : Opening) (cs : List Choice) (more : ℕ) → length cs - many ≡ more →
    ◌≡◌ {A = Front} (record { run = run_with (stage_within more stage.Filling) l (record { opening = o; choices = take many cs }); more = more }) (front_of many (record { opening = o; choices = last_with l cs }))
filled_by many l o cs zero is =
    let few : length cs ≤ many = omega (arith, is) in
    let still : length (last_with l cs) ≤ many = subst (λ n. n ≤ many) (sym (last_length l cs)) few in
    same_front (ap (last_with l) (take_all many cs few) ∙ sym (take_all many (last_with l cs) still)) (omega (arith, still))
filled_by many l o cs (suc more) is =
    same_front (sym (last_behind many l cs (omega (arith, is)))) (sym is ∙ ap (λ n. n - many) (sym (last_length l cs)))

placed : (many : ℕ) (g : ViperStage) (l : ViperLine) (run : ViperRun) → (fronts many).place g l (front_of many run) ≡ front_of many (run_with g l run)
placed many stage.Header l run = refl
placed many stage.Opening l run = refl
placed many stage.Filling l run = filled_by many l run.opening run.choices (length run.choices - many) refl
placed many stage.Choosing l run = refl

and_false : (x y : Bool) → y ≡ false → (x && y) ≡ false
and_false true y e = e
and_false false y e = refl

room_by : (many count built : ℕ) (b : Bool) → built ≡ min many count → nat_lt count many ≡ b → has_room many (count - many) built ≡ b
room_by many count built true is e =
    let below = ltb-true count many e in
    let none : count - many ≡ 0 = omega (arith, below) in
    let same : built ≡ count = omega (arith, is, below) in
    rw (none, same) e
room_by many count built false is e =
    let above = ltb-false count many e in
    let same : many ≤ built = omega (arith, is, above) in
    and_false _ (nat_lt built many) (le-ltb built many same)

chosen_by : (many : ℕ) (c : Choice) (o : Opening) (cs : List Choice) (b : Bool) → nat_lt (length cs) many ≡ b →
    cond b (record { run = record { opening = o; choices = take many cs ++ c ∷ [] }; more = length cs - many }) (record { run = record { opening = o; choices = take many cs }; more = (length cs - many) + 1 }) ≡
    front_of many (record { opening = o; choices = cs ++ c ∷ [] })
chosen_by many c o cs true e =
    let below = ltb-true (length cs) many e in
    let few : length cs ≤ many = omega (arith, below) in
    let long : length (cs ++ c ∷ []) ≡ length cs + 1 = length-append cs (c ∷ []) in
    same_front (ap (λ xs. xs ++ c ∷ []) (take_all many cs few) ∙ sym (take_all many (cs ++ c ∷ []) (omega (arith, long, below)))) (omega (arith, long, below))
chosen_by many c o cs false e =
    let above = ltb-false (length cs) many e in
    let long : length (cs ++ c ∷ []) ≡ length cs + 1 = length-append cs (c ∷ []) in
    same_front (sym (take-append-le many cs (c ∷ []) above)) (omega (arith, long, above))

chosen_more : (many : ℕ) (c : Choice) (run : ViperRun) → front_chosen many c (front_of many run) ≡ front_of many (run_chosen c run)
chosen_more many c run =
    let cs = run.choices in
    ap (λ b. cond b (record { run = run_chosen c (record { opening = run.opening; choices = take many cs }); more = length cs - many }) (record { run = record { opening = run.opening; choices = take many cs }; more = (length cs - many) + 1 }))
    (room_by many (length cs) (length (take many cs)) (nat_lt (length cs) many) (length-take many cs) refl) ∙
    chosen_by many c run.opening cs (nat_lt (length cs) many) refl

fronts_agree : (many : ℕ) → Agree whole (fronts many) (front_of many)
fronts_agree many = record {
  begun = λ s. same_front (sym (take-nil many)) (omega arith);
  set = λ n v run. refl;
  place = placed many;
  choose = chosen_more many;
}

fronts_seen : (many : ℕ) (s : UnitScope) → Sees (reader s) (front_reader many s) (seen (front_of many)) (front_of many)
fronts_seen many s = sees (fronts_agree many) s

-- ---- what is answered of a file

-- the front of what the bytes spell, or where they go wrong
pub record FrontAnswered (bytes : List ℕ) (p : Program) (n many : ℕ) (r : Result ViperFront RunFileFault) : Type 0 where
  pub run : IfOk r (λ x. SpellsFront bytes p n many (front_view x))
  pub fault : IfErr r (UnlessMemory (GoesWrongAt bytes p n))
  pub only_run : (run : ViperRun) → SpellsViperRun bytes p n run → Gives (λ x. front_view x ≡ front_of many run) r
  pub only_place : (at : Pos) → GoesWrongAt bytes p n at → GivesPlace at r

module _ (bytes : List ℕ) (p : Program) (n many : ℕ) (apart : NamesApart (scope_of p n)) where
  abbrev Told : Result ViperFront RunFileFault → Type 0
  Told r = MatchResult r (λ x. IsReadBy (front_reader many (scope_of p n)) (lines_of bytes) (front_view x)) (UnlessMemory (StopsBy (front_reader many (scope_of p n)) (lines_of bytes)))

  front_read : (x : ViperFront) → IsReadBy (front_reader many (scope_of p n)) (lines_of bytes) (front_view x) → SpellsFront bytes p n many (front_view x)
  front_read x h =
      let read = read_seen (fronts_seen many (scope_of p n)) (lines_of bytes) (front_view x) h in
      (read.0, ((is_reader p n apart).spelled (lines_of bytes) read.0 read.1.0, read.1.1))

  wrong_at : (at : Pos) → StopsBy (front_reader many (scope_of p n)) (lines_of bytes) at → GoesWrongAt bytes p n at
  wrong_at at h = (is_reader p n apart).wrong bytes at (stops_seen (fronts_seen many (scope_of p n)) (lines_of bytes) at h)

  front_told : (r : Result ViperFront RunFileFault) → Told r → FrontAnswered bytes p n many r
  front_told (Ok x) h =
      let spelled = front_read x h in
      record {
        run = spelled;
        fault = tt;
        only_run = λ run other. spelled.1.1 ∙ ap (front_of many) (one_run (is_reader p n apart) bytes spelled.0 run spelled.1.0 other);
        only_place = λ at wrong. absurd (not_both (is_reader p n apart) bytes spelled.0 at spelled.1.0 wrong);
      }
  front_told (Err fault.Memory) h = record { run = tt; fault = tt; only_run = λ run other. refl; only_place = λ at wrong. inr refl }
  front_told (Err (fault.Syntax at)) h =
      let wrong = wrong_at at h in
      record {
        run = tt;
        fault = wrong;
        only_run = λ run other. absurd (not_both (is_reader p n apart) bytes run at other wrong);
        only_place = λ to other. inl (ap (λ x. fault.Syntax x) (one_place (is_reader p n apart) bytes at to wrong other));
      }

-- what is answered of a file, read with the scope of the unit
pub front_answered : (bytes : List ℕ) (p : Program) (n many : ℕ) (s : UnitScope) (r : Result ViperFront RunFileFault) → NamesApart (scope_of p n) → s ≡ scope_of p n →
    MatchResult r (λ x. IsReadBy (front_reader many s) (lines_of bytes) (front_view x)) (UnlessMemory (StopsBy (front_reader many s) (lines_of bytes))) → FrontAnswered bytes p n many r
front_answered bytes p n many s r apart same h =
    front_told bytes p n many apart r
    (subst (λ t. MatchResult r (λ x. IsReadBy (front_reader many t) (lines_of bytes) (front_view x)) (UnlessMemory (StopsBy (front_reader many t) (lines_of bytes)))) same h)

-- ---- a front that has all

all_in_front : (many : ℕ) (x : ViperFront) (run : ViperRun) → front_view x ≡ front_of many run → x.more ≡ 0 → run_of x.run ≡ run
all_in_front many x run is none =
    let count : x.more ≡ length run.choices - many = ap (λ (f : Front). f.more) is in
    let few : length run.choices ≤ many = omega (arith, none, count) in
    ap (λ (f : Front). f.run) is ∙ ap (λ cs. record { opening = run.opening; choices = cs }) (take_all many run.choices few)

-- what is answered of a file where all choices are built
pub whole_answered : (bytes : List ℕ) (p : Program) (n many : ℕ) (x : ViperFront) (r : Result Code RunFileFault) → FrontAnswered bytes p n many (Ok x) →
    MatchResult r (λ y. (x.more ≡ 0) × (run_of y ≡ run_of x.run)) (λ e. e ≡ fault.Memory) → Answered (SpellRun p n) (λ a b. a ≡ b) run_of bytes r
whole_answered bytes p n many x (Ok y) a h = record {
  run = subst (SpellsViperRun bytes p n) (sym (h.1 ∙ all_in_front many x a.run.0 a.run.1.1 h.0)) a.run.1.0;
  fault = tt;
  only_run = λ run spelled. h.1 ∙ all_in_front many x run (a.only_run run spelled) h.0;
  only_place = λ at wrong. a.only_place at wrong;
}
whole_answered bytes p n many x (Err fault.Memory) a h = record { run = tt; fault = tt; only_run = λ run spelled. refl; only_place = λ at wrong. inr refl }
whole_answered bytes p n many x (Err (fault.Syntax at)) a h = absurd cc
