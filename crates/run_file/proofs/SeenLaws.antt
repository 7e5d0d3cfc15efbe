-- Lines make of part of a run what they make of the run, where each change does.
use Rattle.std.proofs.Common.{◌≡◌, ◌∙◌, ℕ, Bool, true, false, cond, List, [], ◌∷◌, Option, Some, None, refl, ap}
use Rattle.std.specs.Option.{option_map}
use Rattle.vb_value.specs.declared.values.Value.{Value}
use Rattle.viper_state.specs.Choice.{Choice, Filled}
use Rattle.run_file_words.specs.Machine.{line_read}
use Rattle.run_file_words.specs.Reading.{◌>>=◌}
use Rattle.run_file_words.specs.Text.{is_skipped, words_of}
use Rattle.run_file.specs.Lines.{UnitScope, ViperLine, Var, Heap, Holds, Chosen, Opened}
use Rattle.run_file.specs.Reading.{line_of}
use Rattle.run_file.specs.Run.{scope_memo}
use Rattle.run_file.specs.Progress.{Progress, Changes, has_named, once, may_set, may_place, followed, is_header, header_read, is_headed, file_kind, reader_of}
use Rattle.run_file.specs.declared.lines.LineTarget.{LineTarget}
use Rattle.run_file.specs.declared.lines.LineTarget.TheVariants as named
use Rattle.run_file.specs.declared.reader.ViperStage.{ViperStage}
use Rattle.run_file.specs.declared.reader.ViperStage.TheVariants as stage
use Rattle.run_file.proofs.SeenMachines.{Sees}

-- each of the second changes makes of the part what the first makes of the whole
pub record Agree {R Q : Type 0} (k : Changes R) (j : Changes Q) (part : R → Q) : Type 0 where
  pub begun : (s : UnitScope) → j.begun s ≡ part (k.begun s)
  pub set : (n : ℕ) (v : Value) (r : R) → j.set n v (part r) ≡ part (k.set n v r)
  pub place : (g : ViperStage) (l : ViperLine) (r : R) → j.place g l (part r) ≡ part (k.place g l r)
  pub choose : (c : Choice) (r : R) → j.choose c (part r) ≡ part (k.choose c r)

-- how far the part is read
abbrev pub seen : {R Q : Type 0} → (R → Q) → Progress R → Progress Q
seen part st = record { stage = st.stage; named = st.named; run = part st.run }

mapped_if : {A B : Type 0} (f : A → B) (b : Bool) (x : Option B) (y : Option A) → x ≡ option_map f y → cond b x None ≡ option_map f (cond b y None)
mapped_if f true x y e = e
mapped_if f false x y e = refl

mapped_unless : {A B : Type 0} (f : A → B) (b : Bool) (y : A) → cond b None (Some (f y)) ≡ option_map f (cond b None (Some y))
mapped_unless f true y = refl
mapped_unless f false y = refl

mapped_else : {A B : Type 0} (f : A → B) (b : Bool) (a : A) (x : Option B) (y : Option A) → x ≡ option_map f y → cond b (Some (f a)) x ≡ option_map f (cond b (Some a) y)
mapped_else f true a x y e = refl
mapped_else f false a x y e = e

module _ {R Q : Type 0} {k : Changes R} {j : Changes Q} {part : R → Q} (a : Agree k j part) (s : UnitScope) where
  once_seen : (st : Progress R) (n : LineTarget) (q : Q) (r : R) → q ≡ part r → once (seen part st) n q ≡ option_map (seen part) (once st n r)
  once_seen st n q r e = ap (once (seen part st) n) e ∙ mapped_unless (seen part) (has_named st.named n) _

  placed : (st : Progress R) (l : ViperLine) (n : LineTarget) →
      cond (may_place st.stage) (once (seen part st) n (j.place st.stage l (part st.run))) None ≡ option_map (seen part) (cond (may_place st.stage) (once st n (k.place st.stage l st.run)) None)
  placed st l n = mapped_if (seen part) (may_place st.stage) _ _ (once_seen st n _ (k.place st.stage l st.run) (a.place st.stage l st.run))

  followed_seen : (st : Progress R) (l : ViperLine) → followed j s (seen part st) l ≡ option_map (seen part) (followed k s st l)
  followed_seen st (Var n v) = mapped_if (seen part) (may_set st.stage) _ _ (once_seen st (named.Variable n) _ (k.set n v st.run) (a.set n v st.run))
  followed_seen st (Heap f r v) = placed st (Heap f r v) (named.Place f r)
  followed_seen st (Holds q i c) = placed st (Holds q i c) (named.Instance q i)
  followed_seen st (Chosen c) = ap (λ r. Some (record { stage = stage.Choosing; named = []; run = r })) (a.choose c st.run)
  followed_seen st Opened = ap (λ r. Some (record { stage = stage.Filling; named = []; run = r })) (a.choose (Filled (scope_memo s)) st.run)

  line_seen : (st : Progress R) (o : Option ViperLine) → (o >>= followed j s (seen part st)) ≡ option_map (seen part) (o >>= followed k s st)
  line_seen st None = refl
  line_seen st (Some l) = followed_seen st l

  words_seen : (headed : Bool) (st : Progress R) (words : List (List ℕ)) →
      cond headed (line_of s words >>= followed j s (seen part st)) (header_read (seen part st) words) ≡ option_map (seen part) (cond headed (line_of s words >>= followed k s st) (header_read st words))
  words_seen true st words = line_seen st (line_of s words)
  words_seen false st words = mapped_if (seen part) (is_header words) _ _ refl

  step_seen : (st : Progress R) (text : List ℕ) → line_read (file_kind j s) (seen part st) text ≡ option_map (seen part) (line_read (file_kind k s) st text)
  unfolding line_read
  step_seen st text = mapped_else (seen part) (is_skipped text) st _ _ (words_seen (is_headed st.stage) st (words_of text))

  pub sees : Sees (reader_of k s) (reader_of j s) (seen part) part
  sees = record {
    begun = ap (λ r. record { stage = stage.Header; named = []; run = r }) (a.begun s);
    step = step_seen;
    headed = λ st. refl;
    shown = λ st. refl;
  }
