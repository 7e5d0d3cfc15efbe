-- What a file of a header and lines spells, and the place where it goes wrong, are what is read of its lines.
use Rattle.std.proofs.Common.{◌≡◌, ◌∙◌, ◌+◌, ◌==◌, inl, inr, ℕ, Bool, true, false, cond, not, List, [], ◌∷◌, take, Option, Some, None, refl, sym, ap, subst}
use Rattle.std.specs.Prelude.{filter, map}
use Rattle.std.specs.List.{AllZip}
use Rattle.std.proofs.lemmas.List.Splits.{length-slice_split}
use Rattle.lemmas.proofs.Tests.{not_both}
use Rattle.lemmas.proofs.Options.{some_same, none_some}
use Rattle.vb_base.specs.declared.places.Pos.{Pos}
use Rattle.run_file_words.specs.Text.{lines_of, is_skipped, words_of, told}
use Rattle.run_file_words.specs.Reading.{◌>>=◌}
use Rattle.run_file_words.specs.Machine.{FileKind, Machine, all_steps, line_read, machine_of, words_read, Headed, IsReadBy, StopsBy, bad, headless, MayStand, WrongAt, bad_line, no_header}

abbrev pub HeadedIn : {S : Type 0} → (S → Bool) → Option S → Type 0
HeadedIn is_headed None = Unit {0}
HeadedIn is_headed (Some st) = is_headed st ≡ true

-- the lines that words are
record Said {S L : Type 0} (is_headed : S → Bool) (follow : S → L → Option S) (IsLine : List (List ℕ) → L → Type 0) (o : Option S) (ws : List (List (List ℕ))) (last : S) : Type 0 where
  lines : List L
  are : AllZip IsLine ws lines
  read : all_steps follow o lines ≡ Some last
  headed : is_headed last ≡ true

-- lines that are read
record Stands {S R : Type 0} (m : Machine S R) (lines : List (List ℕ)) : Type 0 where
  last : S
  read : all_steps m.step (Some m.begun) lines ≡ Some last

abbrev ends_at : {S R L : Type 0} → (S → L → Option S) → (S → R) → S → List L → R → Type 0
ends_at {S} follow run st lines whole = (last : S) × ((all_steps follow (Some st) lines ≡ Some last) × (run last ≡ whole))

-- what a line makes of it, by its words
pub read_step : {S L R : Type 0} (k : FileKind S L R) (st : S) (text : List ℕ) → line_read k st text ≡ cond (is_skipped text) (Some st) (words_read k st (words_of text))
unfolding line_read
read_step k st text = refl

-- behind the header
pub read_next : {S L R : Type 0} (k : FileKind S L R) (st : S) (words : List (List ℕ)) → k.is_headed st ≡ true → words_read k st words ≡ (k.line_of words >>= k.followed st)
read_next k st words h = ap (λ b. cond b (k.line_of words >>= k.followed st) (k.header_read st words)) h

-- How the lines of a file are read: the words of a line, the header, and then what each line says.
pub record Reads {S L R : Type 0} (k : FileKind S L R) (opened : S) (header : List (List ℕ)) (is_header : List (List ℕ) → Bool)
    (IsLine : List (List ℕ) → L → Type 0) (Are : List L → R → Type 0) : Type 0 where
  pub first : (words : List (List ℕ)) → words_read k k.begun words ≡ cond (is_header words) (Some opened) None
  pub header_is : (words : List (List ℕ)) → is_header words ≡ true → words ≡ header
  pub passes : is_header header ≡ true
  pub unread : k.is_headed k.begun ≡ false
  pub headed : k.is_headed opened ≡ true
  pub stays : (st : S) (l : L) → k.is_headed st ≡ true → HeadedIn k.is_headed (k.followed st l)
  pub read : (words : List (List ℕ)) (l : L) → IsLine words l → k.line_of words ≡ Some l
  pub spelled : (words : List (List ℕ)) (l : L) → k.line_of words ≡ Some l → IsLine words l
  pub run_read : (ls : List L) (run : R) → Are ls run → ends_at k.followed k.run opened ls run
  pub read_run : (ws : List (List (List ℕ))) (ls : List L) (last : S) → AllZip IsLine ws ls → all_steps k.followed (Some opened) ls ≡ Some last → Are ls (k.run last)

module _ {S L R : Type 0} {k : FileKind S L R} {opened : S} {header : List (List ℕ)} {is_header : List (List ℕ) → Bool}
    {IsLine : List (List ℕ) → L → Type 0} {Are : List L → R → Type 0} (r : Reads k opened header is_header IsLine Are) where
  abbrev m : Machine S R
  m = machine_of k

  abbrev stepped : S → List (List ℕ) → Option S
  stepped = words_read k

  abbrev line : List (List ℕ) → Option L
  line = k.line_of

  abbrev follow : S → L → Option S
  follow = k.followed

  -- ---- the lines that are not skipped

  told_by : (st : S) (text : List ℕ) (lines : List (List ℕ)) (t : Bool) → ((o : Option S) → all_steps m.step o lines ≡ all_steps stepped o (told lines)) →
      all_steps m.step (cond t (Some st) (stepped st (words_of text))) lines ≡
      all_steps stepped (Some st) (map words_of (cond (not t) (text ∷ filter (λ l. not (is_skipped l)) lines) (filter (λ l. not (is_skipped l)) lines)))
  told_by st text lines true rec = rec (Some st)
  told_by st text lines false rec = rec (stepped st (words_of text))

  read_told : (lines : List (List ℕ)) (o : Option S) → all_steps m.step o lines ≡ all_steps stepped o (told lines)
  read_told [] None = refl
  read_told (l ∷ ls) None = refl
  read_told [] (Some st) = refl
  read_told (l ∷ ls) (Some st) = ap (λ o. all_steps m.step o ls) (read_step k st l) ∙ told_by st l ls (is_skipped l) (read_told ls)

  -- ---- behind the header

  told_followed : (ws : List (List (List ℕ))) (ls : List L) → AllZip IsLine ws ls → (o : Option S) → HeadedIn m.is_headed o → all_steps stepped o ws ≡ all_steps follow o ls
  told_followed ws ls h None headed = refl
  told_followed [] [] h (Some st) headed = refl
  told_followed [] (l ∷ ls) h (Some st) headed = absurd h
  told_followed (w ∷ ws) [] h (Some st) headed = absurd h
  told_followed (w ∷ ws) (l ∷ ls) h (Some st) headed =
      ap (λ o. all_steps stepped o ws) (read_next k st w headed ∙ ap (λ o. o >>= follow st) (r.read w l h.0)) ∙ told_followed ws ls h.1 (follow st l) (r.stays st l headed)

  said_more : (st : S) (w : List (List ℕ)) (ws : List (List (List ℕ))) (last : S) (o : Option L) → line w ≡ o → m.is_headed st ≡ true →
      ((l : L) → all_steps stepped (follow st l) ws ≡ Some last → Said m.is_headed follow IsLine (follow st l) ws last) →
      all_steps stepped (o >>= follow st) ws ≡ Some last → Said m.is_headed follow IsLine (Some st) (w ∷ ws) last
  said_more st w ws last None is headed rec e = absurd cc
  said_more st w ws last (Some l) is headed rec e =
      let rest = rec l e in
      record { lines = l ∷ rest.lines; are = (r.spelled w l is, rest.are); read = rest.read; headed = rest.headed }

  said : (ws : List (List (List ℕ))) (o : Option S) (last : S) → HeadedIn m.is_headed o → all_steps stepped o ws ≡ Some last → Said m.is_headed follow IsLine o ws last
  said ws None last headed e = absurd cc
  said [] (Some st) last headed e = record { lines = []; are = tt; read = e; headed = subst (HeadedIn m.is_headed) e headed }
  said (w ∷ ws) (Some st) last headed e =
      said_more st w ws last (line w) refl headed (λ l. said ws (follow st l) last (r.stays st l headed)) (ap (λ o. all_steps stepped o ws) (sym (read_next k st w headed)) ∙ e)

  -- ---- files

  opened_by : (ws : List (List (List ℕ))) → all_steps stepped (Some m.begun) (header ∷ ws) ≡ all_steps stepped (Some opened) ws
  opened_by ws = ap (λ o. all_steps stepped o ws) (r.first header ∙ ap (λ t. cond t (Some opened) None) r.passes)

  headed_last : (ws : List (List (List ℕ))) (ls : List L) (last : S) → AllZip IsLine ws ls → all_steps follow (Some opened) ls ≡ Some last → m.is_headed last ≡ true
  headed_last ws ls last are read = (said ws (Some opened) last r.headed (told_followed ws ls are (Some opened) r.headed ∙ read)).headed

  -- what a file spells is read of it
  pub file_read : {lines : List (List ℕ)} {run : R} → Headed header IsLine Are lines run → IsReadBy m lines run
  file_read {lines} {run} h =
      let rest = r.run_read h.said run h.means in
      record {
        last = rest.0;
        read = read_told lines (Some m.begun) ∙ (ap (all_steps stepped (Some m.begun)) h.headed ∙ (opened_by h.words ∙ (told_followed h.words h.said h.meant (Some opened) r.headed ∙ rest.1.0)));
        headed = headed_last h.words h.said rest.0 h.meant rest.1.0;
        run = rest.1.1;
      }

  -- what is read of a file it spells
  spelled_words : (lines : List (List ℕ)) (last : S) (w : List (List ℕ)) (ws : List (List (List ℕ))) → told lines ≡ w ∷ ws → (t : Bool) → is_header w ≡ t →
      all_steps stepped (cond t (Some opened) None) ws ≡ Some last → (m.is_headed last ≡ true) × Headed header IsLine Are lines (m.run last)
  spelled_words lines last w ws is false first e = absurd cc
  spelled_words lines last w ws is true first e =
      let rest = said ws (Some opened) last r.headed e in
      (rest.headed, record { words = ws; said = rest.lines; headed = is ∙ ap (λ x. x ∷ ws) (r.header_is w first); meant = rest.are; means = r.read_run ws rest.lines last rest.are rest.read })

  first_word : (w : List (List ℕ)) (ws : List (List (List ℕ))) (o : Option S) → all_steps stepped (Some m.begun) (w ∷ ws) ≡ o → all_steps stepped (cond (is_header w) (Some opened) None) ws ≡ o
  first_word w ws o e = ap (λ x. all_steps stepped x ws) (sym (r.first w)) ∙ e

  spelled_file : (lines : List (List ℕ)) (last : S) → m.is_headed last ≡ true → (words : List (List (List ℕ))) → told lines ≡ words → all_steps stepped (Some m.begun) words ≡ Some last →
      Headed header IsLine Are lines (m.run last)
  spelled_file lines last headed [] is e = absurd (not_both r.unread (ap m.is_headed (some_same e) ∙ headed))
  spelled_file lines last headed (w ∷ ws) is e = (spelled_words lines last w ws is (is_header w) refl (first_word w ws (Some last) e)).1

  pub read_file : {lines : List (List ℕ)} {run : R} → IsReadBy m lines run → Headed header IsLine Are lines run
  read_file {lines} {run} h =
      subst (Headed header IsLine Are lines) h.run (spelled_file lines h.last h.headed (told lines) refl (sym (read_told lines (Some m.begun)) ∙ h.read))

  -- ---- where a file goes wrong

  all_told_some : (lines : List (List ℕ)) → told lines ≡ [] → all_steps m.step (Some m.begun) lines ≡ Some m.begun
  all_told_some lines e = read_told lines (Some m.begun) ∙ ap (all_steps stepped (Some m.begun)) e

  no_header_by : (lines : List (List ℕ)) (st : S) → m.is_headed st ≡ false → (words : List (List (List ℕ))) → told lines ≡ words → all_steps stepped (Some m.begun) words ≡ Some st → told lines ≡ []
  no_header_by lines st headless_now [] is e = is
  no_header_by lines st headless_now (w ∷ ws) is e = absurd (not_both headless_now (spelled_words lines st w ws is (is_header w) refl (first_word w ws (Some st) e)).0)

  no_header_told : (lines : List (List ℕ)) (st : S) → all_steps m.step (Some m.begun) lines ≡ Some st → m.is_headed st ≡ false → told lines ≡ []
  no_header_told lines st e headless_now = no_header_by lines st headless_now (told lines) refl (sym (read_told lines (Some m.begun)) ∙ e)

  -- what is spelled may be less exact than what is read
  module _ (Spell : List (List ℕ) → R → Type 0) (exact : (lines : List (List ℕ)) (run : R) → Spell lines run → (e : R) × Headed header IsLine Are lines e)
      (spells : (lines : List (List ℕ)) (run : R) → Headed header IsLine Are lines run → Spell lines run) where
    -- lines that are read may stand
    stands_by : (lines : List (List ℕ)) (st : S) (words : List (List (List ℕ))) → told lines ≡ words → all_steps stepped (Some m.begun) words ≡ Some st → MayStand Spell lines
    stands_by lines st [] is e = inl is
    stands_by lines st (w ∷ ws) is e = inr (m.run st, spells lines (m.run st) (spelled_words lines st w ws is (is_header w) refl (first_word w ws (Some st) e)).1)

    may_stand : (lines : List (List ℕ)) (st : S) → all_steps m.step (Some m.begun) lines ≡ Some st → MayStand Spell lines
    may_stand lines st e = stands_by lines st (told lines) refl (sym (read_told lines (Some m.begun)) ∙ e)

    -- lines that may stand are read
    stands : (lines : List (List ℕ)) → MayStand Spell lines → Stands m lines
    stands lines (inl e) = record { last = m.begun; read = all_told_some lines e }
    stands lines (inr h) = let read = file_read (exact lines h.0 h.1).1 in record { last = read.last; read = read.read }

    pub goes_wrong : (bytes : List ℕ) (at : Pos) → StopsBy m (lines_of bytes) at → WrongAt Spell bytes at
    goes_wrong bytes at (bad i st within before after line col) =
        bad_line i within (may_stand (take i (lines_of bytes)) st before) (λ h. none_some (sym after ∙ (stands (take (i + 1) (lines_of bytes)) h).read)) line col
    goes_wrong bytes at (headless st read headless_now line col) =
        no_header (no_header_told (lines_of bytes) st read headless_now) (line ∙ length-slice_split (λ b. b == 10) bytes) col

    not_read : (lines : List (List ℕ)) → (MayStand Spell lines → ⊥) → (o : Option S) → all_steps m.step (Some m.begun) lines ≡ o → o ≡ None
    not_read lines after None is = refl
    not_read lines after (Some st) is = absurd (after (may_stand lines st is))

    pub stops : (bytes : List ℕ) (at : Pos) → WrongAt Spell bytes at → StopsBy m (lines_of bytes) at
    stops bytes at (bad_line i within before after line col) =
        let read = stands (take i (lines_of bytes)) before in
        bad i read.last within read.read (not_read (take (i + 1) (lines_of bytes)) after (all_steps m.step (Some m.begun) (take (i + 1) (lines_of bytes))) refl) line col
    stops bytes at (no_header none line col) =
        headless m.begun (all_told_some (lines_of bytes) none) r.unread (line ∙ sym (length-slice_split (λ b. b == 10) bytes)) col
