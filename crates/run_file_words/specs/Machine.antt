-- How the lines of a file are read one after the other, whatever they say.
use Rattle.std.specs.Prelude.{◌≡◌, ◌⊎◌, ◌<◌, ◌+◌, ℕ, Bool, true, false, List, [], ◌∷◌, Option, Some, None, length, take, if◌then◌else◌}
use Rattle.std.specs.BTreeMap.{is_at}
use Rattle.std.specs.List.{list_any, AllZip}
use Rattle.std.specs.declared.cmp.Ordering.{Ordering}
use Rattle.vb_base.specs.Place.{line_after}
use Rattle.vb_base.specs.declared.places.Pos.{Pos}
use Rattle.run_file_words.specs.Reading.{◌>>=◌}
use Rattle.run_file_words.specs.Text.{lines_of, told, is_skipped, words_of}

-- ---- what lines spell

-- the lines that are not skipped are this header, and lines that are this
pub record Headed {L R : Type 0} (header : List (List ℕ)) (IsLine : List (List ℕ) → L → Type 0) (Are : List L → R → Type 0) (lines : List (List ℕ)) (run : R) : Type 0 where
  pub words : List (List (List ℕ))
  pub said : List L
  pub headed : told lines ≡ header ∷ words
  pub meant : AllZip IsLine words said
  pub means : Are said run

-- lines that may stand at the beginning of a file: all of them are skipped, or they spell something
abbrev pub MayStand : {R : Type 0} → (List (List ℕ) → R → Type 0) → List (List ℕ) → Type 0
MayStand {R} Spell lines = (told lines ≡ []) ⊎ ((run : R) × Spell lines run)

-- The file goes wrong at this place, in column 1: at the first line that may not stand there, or, where all lines are
-- skipped, so that the header is missing, at the last.
pub data WrongAt {R : Type 0} (Spell : List (List ℕ) → R → Type 0) (bytes : List ℕ) (at : Pos) : Type 0 where
  bad_line : (i : ℕ) → i < length (lines_of bytes) → MayStand Spell (take i (lines_of bytes)) →
      (MayStand Spell (take (i + 1) (lines_of bytes)) → ⊥) → at.line ≡ i + 1 → at.col ≡ 1 → WrongAt Spell bytes at
  no_header : told (lines_of bytes) ≡ [] → at.line ≡ line_after bytes → at.col ≡ 1 → WrongAt Spell bytes at

-- ---- what is read

-- where reading begins, what a line makes of it, whether the header was read, and what is read so far
pub record Machine (S R : Type 0) : Type 0 where
  pub begun : S
  pub step : S → List ℕ → Option S
  pub is_headed : S → Bool
  pub run : S → R

-- How the lines of one kind of file are read: where reading begins, whether the header was read, what the words of a line make of it
-- as a header, the line that words are behind the header, what such a line makes of it, and what is read so far.
pub record FileKind (S L R : Type 0) : Type 0 where
  pub begun : S
  pub is_headed : S → Bool
  pub header_read : S → List (List ℕ) → Option S
  pub line_of : List (List ℕ) → Option L
  pub followed : S → L → Option S
  pub run : S → R

-- what the words of a line make of it
abbrev pub words_read : {S L R : Type 0} → FileKind S L R → S → List (List ℕ) → Option S
words_read k st words = if k.is_headed st then (k.line_of words >>= k.followed st) else k.header_read st words

-- the same of a line as bytes, which makes nothing of it where it is skipped
unfoldable pub line_read : {S L R : Type 0} → FileKind S L R → S → List ℕ → Option S
line_read k st text = if is_skipped text then Some st else words_read k st (words_of text)

abbrev pub machine_of : {S L R : Type 0} → FileKind S L R → Machine S R
machine_of k = record { begun = k.begun; step = line_read k; is_headed = k.is_headed; run = k.run }

abbrev pub all_steps : {S L : Type 0} → (S → L → Option S) → Option S → List L → Option S
all_steps step None ls = None
all_steps step (Some st) [] = Some st
all_steps step (Some st) (l ∷ ls) = all_steps step (step st l) ls

-- all lines are read, and the header is among them
pub record IsReadBy {S R : Type 0} (m : Machine S R) (lines : List (List ℕ)) (whole : R) : Type 0 where
  pub last : S
  pub read : all_steps m.step (Some m.begun) lines ≡ Some last
  pub headed : m.is_headed last ≡ true
  pub run : m.run last ≡ whole

-- the first line that may not stand, or the last where no header was read
pub data StopsBy {S R : Type 0} (m : Machine S R) (lines : List (List ℕ)) (at : Pos) : Type 0 where
  bad : (i : ℕ) (st : S) → i < length lines → all_steps m.step (Some m.begun) (take i lines) ≡ Some st →
      all_steps m.step (Some m.begun) (take (i + 1) lines) ≡ None → at.line ≡ i + 1 → at.col ≡ 1 → StopsBy m lines at
  headless : (st : S) → all_steps m.step (Some m.begun) lines ≡ Some st → m.is_headed st ≡ false →
      at.line ≡ length lines → at.col ≡ 1 → StopsBy m lines at

-- whether something is among what was named
abbrev pub among : {K : Type 0} → (K → K → Ordering) → List K → K → Bool
among cmp ks k = list_any (is_at (cmp k)) ks

-- whether a line may stand, and how far the file is read after it
abbrev pub Steps : {S : Type 0} → Bool → Option S → S → Type 0
Steps true o st = o ≡ Some st
Steps false o st = o ≡ None
