-- A run of a unit that failed, printed as a run of Boogie, fails again on each translation of its program.
use Rattle.std.proofs.Common.{◌≡◌, ◌∙◌, ◌+◌, ◌-◌, ◌<◌, ◌≤◌, ℕ, zero, suc, cond, ltb, Bool, true, false, List, [], ◌∷◌, ◌++◌, append_assoc, length, length-append, get_or, map, map-id, drop, replicate, All, IsTrue, Option, Some, None, slice_get, slice_set, position, option_map, refl, sym, ap, subst, arith}
use Rattle.std.specs.Prelude.{codes, fold}
use Rattle.std.specs.Str.{bytes_eq}
use Rattle.std.proofs.lemmas.Bool.{lt-ltb}
use Rattle.std.proofs.lemmas.List.{length-map, length-replicate, map-append, drop-map, drop-replicate, set_at}
use Rattle.std.proofs.lemmas.List.Elements.{All-map, All-weaker}
use Rattle.std.proofs.lemmas.List.Sums.{position_or_len_is}
use Rattle.std.proofs.lemmas.Option.{get_or_from_slice_get, slice_get-get_or, slice_get-map, slice_get_within}
use Rattle.std.proofs.lemmas.Slice.Eq.{bytes_eq-Decides}
use Rattle.lemmas.proofs.Tests.{refuted}
use Rattle.lemmas.proofs.Lists.{front_at, all_at}
use Rattle.vb_base.specs.Limits.{max_boogie_bytes}
use Rattle.vb_base.specs.Names.{is_name, NamesDiffer}
use Rattle.vb_base.specs.declared.labels.Label.{Label}
use Rattle.vb_base.proofs.NameLaws.{place_of_name}
use Rattle.vb_value.specs.Bound.{Bound}
use Rattle.viper_core.specs.Program.{Program}
use Rattle.viper_core.specs.declared.programs.Unit.{Unit}
use Rattle.viper_state.specs.Event.{Event}
use Rattle.viper_state.specs.Run.{Opening}
use Rattle.boogie_tree.specs.Program.{BType, Local, Proc}
use Rattle.boogie_tree.specs.Value.{BValue, BSetting}
use Rattle.boogie_meaning.specs.Programs.{types_of, default_value, brun_proc}
use Rattle.boogie_meaning.specs.Run.{Stops, Failed}
use Rattle.boogie_grammar.specs.Grammar.{proc_names}
use Rattle.boogie_print.specs.Printable.{FitsProc, FitsLocal}
use Rattle.boogie_print.proofs.SpelledLaws.{spelled_printable}
use Rattle.boogie_run.specs.Start.{start_of}
use Rattle.moves.specs.Moves.{moves}
use Rattle.moves.specs.Printable.{IsPrintableChoice}
use Rattle.run_file_boogie.specs.BoogieLines.{known}
use Rattle.run_file_boogie.specs.BoogiePrintable.{KeepsNames, IsPrintableSetting}
use Rattle.run_file_boogie.specs.BoogiePrinted.{given_text, given, choices_text, run_text}
use Rattle.run_file_boogie.specs.BoogieRun.{SpellsBoogieRun}
use Rattle.run_file_words.specs.Printed.{named_text, numbered_text}
use Rattle.run_file_boogie.proofs.BoogiePrintedRuns.{run_spelled}
use Rattle.enc_expr.specs.Front.{front_values}
use Rattle.enc_locals.specs.Procedure.{front_locals, front_procedure}
use Rattle.enc_units.specs.Translates.{IsProcedureOf, Translates}
use Rattle.enc_units.specs.Units.{started}
use Rattle.vb_tool.specs.AcceptedReplay.{AcceptsReplay}
use Rattle.enc_locals.specs.Opened.{settings_from, start_settings}
use Rattle.vb_tool.specs.Procedures.{ProcedureRun}
use Rattle.vb_tool.specs.Transfer.{FailsAgain}
use Rattle.vb_tool.specs.Moved.{moved_run, moved_text}
use Rattle.run_file_laws.proofs.BoogieRunLaws.{settings_are}

-- ---- settings of the first variables

-- settings from a number on put their values there, and leave what stands behind
put_from : {X : Type 0} (f : BValue → X) (before xs : List X) (n : ℕ) (vs : List BValue) → length before ≡ n → length vs ≤ length xs →
    fold (λ ys (s : BSetting). slice_set ys s.var (f s.value)) (before ++ xs) (settings_from n vs) ≡ before ++ (map f vs ++ drop (length vs) xs)
put_from f before xs n [] at within = refl
put_from f before [] n (v ∷ vs) at within = absurd (omega (arith, within))
put_from {X} f before (x ∷ xs) n (v ∷ vs) at within =
    let longer : length (before ++ f v ∷ []) ≡ n + 1 = omega (arith, at, length-append before (f v ∷ [])) in
    ap (λ (ys : List X). fold (λ zs (s : BSetting). slice_set zs s.var (f s.value)) ys (settings_from (n + 1) vs))
    (set_at before x xs (f v) n at ∙ sym (append_assoc before (f v ∷ []) xs)) ∙
    (put_from f (before ++ f v ∷ []) xs (n + 1) vs longer (omega (arith, within)) ∙ append_assoc before (f v ∷ []) (map f vs ++ drop (length vs) xs))

-- a run begins with the values of the opening, and with defaults behind
pub starts_so : (ts : List BType) (o : Opening) → length (front_values o) ≤ length ts → start_of ts (start_settings o) ≡ started ts (front_values o)
starts_so ts o within =
    sym (settings_are (start_settings o) (map default_value ts)) ∙
    (put_from (λ (v : BValue). v) [] (map default_value ts) 0 (front_values o) refl (omega (arith, within, length-map ts default_value)) ∙
    (λ i. map-id (front_values o) i ++ drop-map default_value (length (front_values o)) ts i))

-- ---- what is printed of them

unset_text : (name : Option (List ℕ)) → named_text given_text name None ≡ []
unset_text None = refl
unset_text (Some name) = refl

unsets_text : (names : List (List ℕ)) (n k : ℕ) → numbered_text given_text names n (replicate k None) ≡ []
unsets_text names n zero = refl
unsets_text names n (suc k) =
    ap (λ text. text ++ numbered_text given_text names (n + 1) (replicate k None)) (unset_text (slice_get names n)) ∙ unsets_text names (n + 1) k

-- variables behind that are given nothing are not printed
front_given : (names : List (List ℕ)) (n : ℕ) (os : List (Option BValue)) (k : ℕ) → numbered_text given_text names n (os ++ replicate k None) ≡ numbered_text given_text names n os
front_given names n [] k = unsets_text names n k
front_given names n (o ∷ os) k = ap (λ text. named_text given_text (slice_get names n) o ++ text) (front_given names (n + 1) os k)

-- names behind do not count
front_named : (names others : List (List ℕ)) (n : ℕ) (os : List (Option BValue)) → n + length os ≤ length names →
    numbered_text given_text (names ++ others) n os ≡ numbered_text given_text names n os
front_named names others n [] within = refl
front_named names others n (o ∷ os) within =
    let here = front_at names others n (omega (arith, within)) in
    let rest = front_named names others (n + 1) os (omega (arith, within)) in
    λ i. named_text given_text (here i) o ++ rest i

abbrev some_values : List BValue → List (Option BValue)
some_values vs = map (λ (v : BValue). Some v) vs

abbrev settings_text : List Local → List BSetting → List ℕ
settings_text ls ss = numbered_text given_text (known ls).names 0 (given (length ls) ss)

values_text : (ls : List Local) (vs : List BValue) → length vs ≤ length ls → settings_text ls (settings_from 0 vs) ≡ numbered_text given_text (known ls).names 0 (some_values vs)
values_text ls vs within =
    let all : List (Option BValue) = replicate (length ls) None in
    let are : given (length ls) (settings_from 0 vs) ≡ some_values vs ++ replicate (length ls - length vs) None =
    put_from (λ (v : BValue). Some v) [] all 0 vs refl (omega (arith, within, length-replicate {A = Option BValue} (length ls) None)) ∙
    ap (λ os. some_values vs ++ os) (drop-replicate {X = Option BValue} (length vs) (length ls) None) in
    ap (λ os. numbered_text given_text (known ls).names 0 os) are ∙ front_given (known ls).names 0 (some_values vs) (length ls - length vs)

front_text : (ls others : List Local) (vs : List BValue) → length vs ≤ length ls → settings_text (ls ++ others) (settings_from 0 vs) ≡ settings_text ls (settings_from 0 vs)
front_text ls others vs within =
    let more : length vs ≤ length (ls ++ others) = omega (arith, within, length-append ls others) in
    let few : 0 + length (some_values vs) ≤ length (known ls).names =
    omega (arith, within, length-map vs (λ (v : BValue). Some v), length-map ls (λ (l : Local). l.name)) in
    values_text (ls ++ others) vs more ∙
    (ap (λ names. numbered_text given_text names 0 (some_values vs)) (map-append (λ (l : Local). l.name) ls others) ∙
    (front_named (known ls).names (known others).names 0 (some_values vs) few ∙ sym (values_text ls vs within)))

-- A run that sets only variables of the opening has one text, whatever else is declared behind them.
pub same_text : (p : Program) (u : Unit) (d : Proc) (o : Opening) (events : List Event) → IsProcedureOf p u d → length (front_values o) ≤ length (front_locals p u) →
    run_text d (moved_run o events) ≡ moved_text p u o events
same_text p u d o events of_unit within =
    let variables : settings_text d.locals (start_settings o) ≡ settings_text (front_locals p u) (start_settings o) =
    ap (λ ls. settings_text ls (start_settings o)) of_unit.front ∙ front_text (front_locals p u) of_unit.others (front_values o) within in
    let name = of_unit.named in
    λ i. codes "boogie run " ++ name i ++ codes "\n" ++ variables i ++ choices_text (moves events)

-- ---- names of what is spelled

locals_named : (ls : List Local) → All FitsLocal ls → All (λ x. IsTrue (is_name x)) (known ls).names
locals_named ls fit =
    All-map (λ x. IsTrue (is_name x)) (λ (l : Local). l.name) ls (All-weaker FitsLocal (λ (l : Local). IsTrue (is_name l.name)) (λ l h. h.name.form) ls fit)

-- each procedure of a translation keeps the rules on names
pub keeps_names : (p : Program) (bytes : List ℕ) (t : Translates p bytes) (n : ℕ) (d : Proc) → slice_get t.boogie.procs n ≡ Some d → KeepsNames d
keeps_names p bytes t n d there =
    let fits = all_at FitsProc t.boogie.procs n d (spelled_printable bytes t.boogie t.spelled).procs there in
    record { name = fits.name.form; locals = locals_named d.locals fits.locals; differ = fits.locals_differ }

-- a procedure is the first of its name, since names differ
module _ (ds : List Proc) (differ : NamesDiffer (proc_names ds)) (n : ℕ) (d : Proc) (there : slice_get ds n ≡ Some d) where
  abbrev name_at : (k : ℕ) (e : Proc) → slice_get ds k ≡ Some e → slice_get (proc_names ds) k ≡ Some e.name
  name_at k e at = slice_get-map (λ (x : Proc). x.name) ds k ∙ ap (option_map (λ (x : Proc). x.name)) at

  not_before : (k : ℕ) (e : Proc) → slice_get ds k ≡ Some e → k < n → e.name ≡ d.name → ⊥
  not_before k e at below same =
      omega (arith, below, place_of_name (proc_names ds) differ k n d.name (name_at k e at ∙ ap (λ x. Some x) same) (name_at n d there))

  abbrev is_it : Proc → Bool
  is_it e = bytes_eq e.name d.name

  no_earlier : (k : ℕ) → k < n → is_it (get_or ds k d) ≡ false
  no_earlier k below =
      let within : k < length ds = omega (arith, below, slice_get_within ds n d there) in
      refuted (is_it (get_or ds k d)) (bytes_eq-Decides (get_or ds k d).name d.name) (not_before k (get_or ds k d) (slice_get-get_or ds k d within) below)

  found : position is_it ds ≡ Some n
  found =
      let within = slice_get_within ds n d there in
      let here : is_it (get_or ds n d) ≡ true = ap is_it (get_or_from_slice_get ds n d d there) ∙ (bytes_eq-Decides d.name d.name).1 refl in
      let at = position_or_len_is is_it ds n d (omega (arith, within)) no_earlier (λ _. here) in
      (λ i. cond (ltb (at i) (length ds)) (Some (at i)) None) ∙ ap (λ b. cond b (Some n) None) (lt-ltb n (length ds) within)

-- ---- the run is accepted, and fails

module _ (p : Program) (n : ℕ) (u : Unit) (o : Opening) (events : List Event) (within : length (front_values o) ≤ length (front_locals p u)) where
  module _ (bytes : List ℕ) (t : Translates p bytes) (d : Proc) (there : slice_get t.boogie.procs n ≡ Some d) (of_unit : IsProcedureOf p u d) where
    abbrev again : ProcedureRun
    again = record { program = t.boogie; procedure = d; environment = start_of (types_of d) (start_settings o); choices = moves events }

    spells : All (IsPrintableSetting d.locals) (start_settings o) → All IsPrintableChoice (moves events) → SpellsBoogieRun (moved_text p u o events) d (moved_run o events)
    spells settings choices =
        subst (λ text. SpellsBoogieRun text d (moved_run o events)) (same_text p u d o events of_unit within)
        (run_spelled d (moved_run o events) (keeps_names p bytes t n d there) (record { settings = settings; choices = choices }))

    accepts : SpellsBoogieRun (moved_text p u o events) d (moved_run o events) → length bytes ≤ max_boogie_bytes → length (moved_text p u o events) ≤ max_boogie_bytes →
        AcceptsReplay bytes (moved_text p u o events) again
    accepts spelled small few = record {
      accepted = record { small = small; text = record { spelled = t.spelled; shallow = t.brackets }; is_typed = t.typed };
      small = few;
      names = record {
        name = d.name;
        header = record { words = spelled.spelled.words; headed = spelled.spelled.headed };
        number = n;
        named = found t.boogie.procs (spelled_printable bytes t.boogie t.spelled).procs_differ n d there;
        is_there = there;
      };
      run = moved_run o events;
      spelled = spelled;
      begins = refl;
      takes = refl;
    }

    long : length (front_values o) ≤ length (types_of d)
    long = omega (arith, within, length-map d.locals (λ (l : Local). l.ty), ap length of_unit.front, length-append (front_locals p u) of_unit.others)

-- a run that each translation takes to the label is printed so that it fails again
pub fails_again_by : (p : Program) (n : ℕ) (u : Unit) (o : Opening) (events : List Event) (label : Label) → slice_get p.units n ≡ Some u → length (front_values o) ≡ length (front_locals p u) →
    ((d : Proc) → IsProcedureOf p u d → All (IsPrintableSetting d.locals) (start_settings o)) → All IsPrintableChoice (moves events) →
    ((b : Bound) (bytes : List ℕ) (t : Translates p bytes) (d : Proc) → slice_get t.boogie.procs n ≡ Some d → brun_proc b d (started (types_of d) (front_values o)) (moves events) ≡ Stops (Failed label) []) →
    (bytes : List ℕ) (t : Translates p bytes) → FailsAgain p n (moved_run o events) label (moved_text p u o events) bytes t
fails_again_by p n u o events label is_unit as_many settings choices fails bytes t =
    let inside : n < length t.boogie.procs = omega (arith, t.as_many, slice_get_within p.units n u is_unit) in
    let d = get_or t.boogie.procs n (front_procedure p u) in
    let there = slice_get-get_or t.boogie.procs n (front_procedure p u) inside in
    let of_unit = t.procedures n u d is_unit there in
    let within : length (front_values o) ≤ length (front_locals p u) = omega (arith, as_many) in
    let spelled = spells p n u o events within bytes t d there of_unit (settings d of_unit) choices in
    record {
      procedure = d;
      exists = there;
      printed = sym (same_text p u d o events of_unit within);
      spelled = spelled;
      fails = λ b. ap (λ env. brun_proc b d env (moves events)) (starts_so (types_of d) o (long p n u o events within bytes t d there of_unit)) ∙ fails b bytes t d there;
      replayed = accepts p n u o events within bytes t d there of_unit spelled;
    }
