-- What is printed is lines, whatever the lines of a kind of run file say.
use Rattle.std.proofs.Common.{◌≡◌, ◌∙◌, ◌+◌, ◌<◌, ◌≤◌, ℕ, suc, false, List, [], ◌∷◌, ◌++◌, length, All, Some, IfSome, slice_get, refl, sym, ap, subst, arith}
use Rattle.std.specs.Prelude.{⊤, codes, nat_eq}
use Rattle.std.specs.List.{AllZip, starts_with}
use Rattle.std.proofs.lemmas.List.{append-nil}
use Rattle.std.proofs.lemmas.Option.{slice_get_within, slice_get-get_or}
use Rattle.std.proofs.Math.ListN.{get_or}
use Rattle.lemmas.proofs.Lists.{all_at as found, zip_append}
use Rattle.viper_state.proofs.Paired.{All-found}
use Rattle.run_file_words.specs.Known.{Known, HasName}
use Rattle.run_file_words.specs.Printed.{named_text, numbered_text}
use Rattle.run_file_words.specs.Text.{lines_of, told}
use Rattle.run_file_words.proofs.WordLaws.{no_words}
use Rattle.run_file_words.proofs.PrintedWords.{IsWord, IsFront, IsText, word_text, blank_behind, Tells, tells_nothing, tells_then, line_told}

-- the text is these lines
pub record Says {L : Type 0} (IsLine : List (List ℕ) → L → Type 0) (text : List ℕ) (ls : List L) : Type 0 where
  pub words : List (List (List ℕ))
  pub told : Tells text words
  pub are : AllZip IsLine words ls

pub says_nothing : {L : Type 0} (IsLine : List (List ℕ) → L → Type 0) → Says IsLine [] []
says_nothing IsLine = record { words = []; told = tells_nothing; are = tt }

pub says_then : {L : Type 0} {IsLine : List (List ℕ) → L → Type 0} {a b : List ℕ} {ls ms : List L} → Says IsLine a ls → Says IsLine b ms → Says IsLine (a ++ b) (ls ++ ms)
says_then {IsLine = IsLine} {ls = ls} {ms = ms} h k =
    record { words = h.words ++ k.words; told = tells_then h.told k.told; are = zip_append IsLine h.words k.words ls ms h.are k.are }

pub line_said : {L : Type 0} (IsLine : List (List ℕ) → L → Type 0) (text w : List ℕ) (ws : List (List ℕ)) (x : L) → IsText text (w ∷ ws) → starts_with nat_eq text (codes "//") ≡ false →
    IsLine (w ∷ ws) x → Says IsLine (text ++ codes "\n") (x ∷ [])
line_said IsLine text w ws x h first is = record { words = (w ∷ ws) ∷ []; told = line_told text w ws h first; are = (is, tt) }

-- a first word, with a blank behind it
pub keyword : {w : List ℕ} → IsWord w → IsFront (w ++ codes " ") (w ∷ [])
keyword h = blank_behind (word_text h)

-- ---- the whole text

nothing_told : told (lines_of []) ≡ []
nothing_told = rw no_words refl

pub all_told : {text : List ℕ} {words : List (List (List ℕ))} → Tells text words → told (lines_of text) ≡ words
all_told {text} {words} h =
    ap (λ x. told (lines_of x)) (sym (append-nil text)) ∙ (h.whole [] ∙ (ap (λ x. words ++ x) nothing_told ∙ append-nil words))

-- ---- names

-- each of these has a name that is a word
pub record HasNames {T : Type 0} (k : Known T) : Type 0 where
  pub as_many : length k.types ≤ length k.names
  pub words : All IsWord k.names

pub record NamedAt {T : Type 0} (k : Known T) (n : ℕ) (t : T) : Type 0 where
  pub name : List ℕ
  pub word : IsWord name
  pub has : HasName k n name t

pub named_at : {T : Type 0} (k : Known T) → HasNames k → (n : ℕ) (t : T) → slice_get k.types n ≡ Some t → NamedAt k n t
named_at k h n t there =
    let within : n < length k.names = omega (arith, slice_get_within k.types n t there, h.as_many) in
    let found : slice_get k.names n ≡ Some (get_or k.names n []) = slice_get-get_or k.names n [] within in
    record { name = get_or k.names n []; word = subst (λ o. IfSome o IsWord) found (All-found IsWord k.names n h.words); has = record { named = found; typed = there } }

-- ---- things by number

-- what each thing makes, where the first has this number
abbrev pub numbered : {X L : Type 0} → (ℕ → X → List L) → ℕ → List X → List L
numbered make n [] = []
numbered make n (x ∷ xs) = make n x ++ numbered make (n + 1) xs

abbrev AllFrom : {X : Type 0} → (ℕ → X → Type 0) → ℕ → List X → Type 0
AllFrom P n [] = ⊤
AllFrom P n (x ∷ xs) = P n x × AllFrom P (n + 1) xs

all_from : {X : Type 0} (P : ℕ → X → Type 0) (n : ℕ) (xs : List X) → ((i : ℕ) (x : X) → slice_get xs i ≡ Some x → P (n + i) x) → AllFrom P n xs
all_from P n [] h = tt
all_from P n (x ∷ xs) h =
    let first : n + 0 ≡ n = omega arith in
    (subst (λ k. P k x) first (h 0 x refl), all_from P (n + 1) xs (λ i y e. subst (λ k. P k y) (one_on n i) (h (suc i) y e)))
  where
    one_on : (n i : ℕ) → n + suc i ≡ n + 1 + i
    one_on n i = omega arith

from_none : (i : ℕ) → i ≡ 0 + i
from_none i = omega arith

-- what is printed of a thing with its name is its lines
pub record SaidAt {X L : Type 0} (IsLine : List (List ℕ) → L → Type 0) (text : List ℕ → X → List ℕ) (lines : ℕ → X → List L) (names : List (List ℕ)) (n : ℕ) (x : X) : Type 0 where
  pub name : List ℕ
  pub named : slice_get names n ≡ Some name
  pub said : Says IsLine (text name x) (lines n x)

module _ {X L : Type 0} (IsLine : List (List ℕ) → L → Type 0) (text : List ℕ → X → List ℕ) (lines : ℕ → X → List L) (names : List (List ℕ)) where
  numbered_from : (n : ℕ) (xs : List X) → AllFrom (SaidAt IsLine text lines names) n xs → Says IsLine (numbered_text text names n xs) (numbered lines n xs)
  numbered_from n [] h = says_nothing IsLine
  numbered_from n (x ∷ xs) h = says_then (subst (λ o. Says IsLine (named_text text o x) (lines n x)) (sym h.0.named) h.0.said) (numbered_from (n + 1) xs h.1)

  pub numbered_said : (xs : List X) → ((i : ℕ) (x : X) → slice_get xs i ≡ Some x → SaidAt IsLine text lines names i x) → Says IsLine (numbered_text text names 0 xs) (numbered lines 0 xs)
  numbered_said xs h = numbered_from 0 xs (all_from (SaidAt IsLine text lines names) 0 xs (λ i x e. subst (λ k. SaidAt IsLine text lines names k x) (from_none i) (h i x e)))
