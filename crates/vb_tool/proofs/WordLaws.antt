-- Words of one to nine digits, and words that are no command.
use Rattle.std.proofs.Common.{◌≡◌, ◌∙◌, ◌<◌, ◌≤◌, ◌^◌, ◌++◌, ℕ, true, false, List, [], ◌∷◌, map, length, get_or, codes, eqb, Option, Some, None, Result, Ok, Err, MatchOption, IsTrue, refl, sym, ap, subst, arith}
use Rattle.std.specs.Cmp.Lexicographic.{pointwise}
use Rattle.std.specs.String.{string_bytes}
use Rattle.std.specs.declared.alloc.Global.{Global}
use Rattle.std.specs.declared.string.String.{String}
use Rattle.std.proofs.lemmas.Bool.{and_from, and_parts, eq-eqb, eqb-true}
use Rattle.std.proofs.lemmas.List.{length-map}
use Rattle.std.specs.Char.{is_ascii_digit}
use Rattle.std.specs.List.{list_all}
use Rattle.std.specs.Result.{OkIff, result_ok}
use Rattle.std.specs.Str.Parse.{digits_value, ParsesUnsigned}
use Rattle.std.proofs.lemmas.Int.{ints}
use Rattle.std.proofs.lemmas.Str.Parse.{parse_digits, digits_value_short}
use Rattle.vb_base.proofs.Numbers.{digits, all_digits}
use Rattle.vb_base.specs.Labels.{Spells}
use Rattle.vb_base.specs.declared.labels.Label.{Label}
use Rattle.vb_tool.specs.Command.{Command, Execute, Condition, IsNumber, Asks, translate, run, replay, make, execute, cut, condition, IsNoCommand}

module _ {E : Type 0} (word : List ℕ) (few : length word ≤ 9) (all : IsTrue (list_all is_ascii_digit word)) where
  parsed_by : (r : Result ℕ E) → OkIff r ((0 < length word) × (digits_value 10 word < 2 ^ 32)) (digits_value 10 word) → digits_value 10 word < 10 ^ 9 →
      MatchOption (result_ok r) ((n : ℕ) → IsNumber word n → ⊥) (IsNumber word)
  parsed_by (Ok n) h small = record { some = h.0.0; few = few; digits = all; value = sym h.1 }
  parsed_by (Err e) h small = λ n is. h (is.some, omega (arith, ints, small))

  -- what `parse` reads
  pub parsed : (r : Result ℕ E) → ParsesUnsigned 32 10 word r → MatchOption (result_ok r) ((n : ℕ) → IsNumber word n → ⊥) (IsNumber word)
  parsed r h =
      let told = sym (all_digits word) ∙ all in
      parsed_by r (parse_digits digits 32 word r h told) (digits_value_short digits word 9 told few)

-- ---- words

pub same_text : (xs ys : List ℕ) → pointwise eqb xs ys ≡ true → xs ≡ ys
same_text [] [] h = refl
same_text [] (y ∷ ys) h = absurd (cc)
same_text (x ∷ xs) [] h = absurd (cc)
same_text (x ∷ xs) (y ∷ ys) h =
    let parts = and_parts (eqb x y) (pointwise eqb xs ys) h in
    let first : x ≡ y = eqb-true x y parts.0 in
    let rest : xs ≡ ys = same_text xs ys parts.1 in
    cc

-- ---- words that are no command

module _ (words : List (List ℕ)) (no_translate : (file : List ℕ) → words ≡ codes "translate" ∷ file ∷ [] → ⊥)
    (no_run : (file unit run_file : List ℕ) → words ≡ codes "run" ∷ file ∷ unit ∷ run_file ∷ [] → ⊥)
    (no_replay : (file run_file : List ℕ) → words ≡ codes "replay" ∷ file ∷ run_file ∷ [] → ⊥)
    (no_make : (word : List ℕ) (n : ℕ) → words ≡ codes "make" ∷ word ∷ [] → IsNumber word n → ⊥)
    (no_execute : (file method run_file word : List ℕ) (n : ℕ) → words ≡ codes "exec" ∷ file ∷ method ∷ run_file ∷ word ∷ [] → IsNumber word n → ⊥)
    (no_cut : (file : List ℕ) → words ≡ codes "cut" ∷ file ∷ [] → ⊥)
    (no_condition : (file procedure at part kind : List ℕ) (label : Label) → words ≡ codes "vc" ∷ file ∷ procedure ∷ at ∷ part ∷ kind ∷ [] →
    Spells (at ++ codes " " ++ part ++ codes " " ++ kind) label → ⊥) where
  asks_none : (command : Command) → Asks words command → ⊥
  asks_none command (translate h) = no_translate _ h
  asks_none command (run h) = no_run _ _ _ h
  asks_none command (replay h) = no_replay _ _ h
  asks_none command (make h is) = no_make _ _ h is
  asks_none command (execute h is) = no_execute _ _ _ _ _ h is
  asks_none command (cut h) = no_cut _ h
  asks_none command (condition h is) = no_condition _ _ _ _ _ _ h is

  no_command : IsNoCommand words
  no_command = record { asks_none = asks_none }

same_bytes : (xs : List ℕ) → pointwise eqb xs xs ≡ true
same_bytes [] = refl
same_bytes (x ∷ xs) = and_from _ _ (eq-eqb x x refl) (same_bytes xs)

not_bytes : (xs ys : List ℕ) → pointwise eqb xs ys ≡ false → xs ≡ ys → ⊥
not_bytes xs ys differs same = let e : pointwise eqb xs xs ≡ true = same_bytes xs in let d : pointwise eqb xs ys ≡ pointwise eqb xs xs = ap (pointwise eqb xs) (sym same) in absurd (cc)

not_first : (words : List (String Global)) (word : String Global) (text : List ℕ) → word ≡ get_or words 0 word → pointwise eqb (string_bytes word) text ≡ false →
    (rest : List (List ℕ)) → map string_bytes words ≡ text ∷ rest → ⊥
not_first [] word text is differs rest same = absurd (cc)
not_first (a ∷ words) word text is differs rest same =
    let first : string_bytes a ≡ text = cc in not_bytes (string_bytes word) text differs (ap string_bytes is ∙ first)

same_length : (words : List (String Global)) (texts : List (List ℕ)) → map string_bytes words ≡ texts → length words ≡ length texts
same_length words texts same = sym (length-map words string_bytes) ∙ ap length same

module _ (words : List (String Global)) where
  -- a row of another length
  pub no_words : (length words ≡ 2 → ⊥) → (length words ≡ 3 → ⊥) → (length words ≡ 4 → ⊥) → (length words ≡ 5 → ⊥) → (length words ≡ 6 → ⊥) → IsNoCommand (map string_bytes words)
  no_words two three four five six =
      no_command _ (λ f h. two (same_length words _ h)) (λ f u r h. four (same_length words _ h)) (λ f r h. three (same_length words _ h)) (λ w n h is. two (same_length words _ h))
      (λ f m r w n h is. five (same_length words _ h)) (λ f h. two (same_length words _ h)) (λ f d a p k l h is. six (same_length words _ h))

  pub few_words : length words < 2 → IsNoCommand (map string_bytes words)
  few_words few = no_words (λ e. omega (arith, few, e)) (λ e. omega (arith, few, e)) (λ e. omega (arith, few, e)) (λ e. omega (arith, few, e)) (λ e. omega (arith, few, e))

  pub many_words : 5 ≤ length words → (length words ≡ 5 → ⊥) → (length words ≡ 6 → ⊥) → IsNoCommand (map string_bytes words)
  many_words many five six = no_words (λ e. omega (arith, many, e)) (λ e. omega (arith, many, e)) (λ e. omega (arith, many, e)) five six

  -- the first one is another
  module _ (word : String Global) (is : word ≡ get_or words 0 word) where
    pub two_others : 2 ≤ length words → length words < 3 → pointwise eqb (string_bytes word) (codes "translate") ≡ false → pointwise eqb (string_bytes word) (codes "cut") ≡ false →
        ((rest : List (List ℕ)) → map string_bytes words ≡ codes "make" ∷ rest → (w : List ℕ) (n : ℕ) → rest ≡ w ∷ [] → IsNumber w n → ⊥) → IsNoCommand (map string_bytes words)
    two_others two three no_translate no_cut no_make =
        no_command _ (λ f. not_first words word _ is no_translate _) (λ f u r h. omega (arith, three, same_length words _ h)) (λ f r h. omega (arith, three, same_length words _ h))
        (λ w n h. no_make _ h w n refl) (λ f m r w n h k. omega (arith, three, same_length words _ h)) (λ f. not_first words word _ is no_cut _) (λ f d a p k l h j. omega (arith, three, same_length words _ h))

    pub three_others : 3 ≤ length words → length words < 4 → pointwise eqb (string_bytes word) (codes "replay") ≡ false → IsNoCommand (map string_bytes words)
    three_others three four no_replay =
        no_command _ (λ f h. omega (arith, three, same_length words _ h)) (λ f u r h. omega (arith, four, same_length words _ h)) (λ f r. not_first words word _ is no_replay _)
        (λ w n h. omega (arith, three, same_length words _ h)) (λ f m r w n h k. omega (arith, four, same_length words _ h)) (λ f h. omega (arith, three, same_length words _ h)) (λ f d a p k l h j. omega (arith, four, same_length words _ h))

    pub four_others : 4 ≤ length words → length words < 5 → pointwise eqb (string_bytes word) (codes "run") ≡ false → IsNoCommand (map string_bytes words)
    four_others four five no_run =
        no_command _ (λ f h. omega (arith, four, same_length words _ h)) (λ f u r. not_first words word _ is no_run _) (λ f r h. omega (arith, four, same_length words _ h))
        (λ w n h. omega (arith, four, same_length words _ h)) (λ f m r w n h k. omega (arith, five, same_length words _ h)) (λ f h. omega (arith, four, same_length words _ h)) (λ f d a p k l h j. omega (arith, five, same_length words _ h))

    pub five_others : length words ≡ 5 → ((rest : List (List ℕ)) → map string_bytes words ≡ codes "exec" ∷ rest → (f m r w : List ℕ) (n : ℕ) → rest ≡ f ∷ m ∷ r ∷ w ∷ [] → IsNumber w n → ⊥) →
        IsNoCommand (map string_bytes words)
    five_others five no_execute =
        no_command _ (λ f h. omega (arith, five, same_length words _ h)) (λ f u r h. omega (arith, five, same_length words _ h)) (λ f r h. omega (arith, five, same_length words _ h))
        (λ w n h. omega (arith, five, same_length words _ h)) (λ f m r w n h. no_execute _ h f m r w n refl) (λ f h. omega (arith, five, same_length words _ h)) (λ f d a p k l h j. omega (arith, five, same_length words _ h))

    pub six_others : length words ≡ 6 → ((rest : List (List ℕ)) → map string_bytes words ≡ codes "vc" ∷ rest → (f d a p k : List ℕ) (l : Label) → rest ≡ f ∷ d ∷ a ∷ p ∷ k ∷ [] →
        Spells (a ++ codes " " ++ p ++ codes " " ++ k) l → ⊥) → IsNoCommand (map string_bytes words)
    six_others six no_condition =
        no_command _ (λ f h. omega (arith, six, same_length words _ h)) (λ f u r h. omega (arith, six, same_length words _ h)) (λ f r h. omega (arith, six, same_length words _ h))
        (λ w n h. omega (arith, six, same_length words _ h)) (λ f m r w n h k. omega (arith, six, same_length words _ h)) (λ f h. omega (arith, six, same_length words _ h)) (λ f d a p k l h. no_condition _ h f d a p k l refl)

-- the first word is another, so what follows does not count
pub not_execute : (words : List (String Global)) (word : String Global) → word ≡ get_or words 0 word → pointwise eqb (string_bytes word) (codes "exec") ≡ false →
    (rest : List (List ℕ)) → map string_bytes words ≡ codes "exec" ∷ rest → (f m r w : List ℕ) (n : ℕ) → rest ≡ f ∷ m ∷ r ∷ w ∷ [] → IsNumber w n → ⊥
not_execute words word is differs rest h f m r w n row number = not_first words word _ is differs rest h

pub not_condition : (words : List (String Global)) (word : String Global) → word ≡ get_or words 0 word → pointwise eqb (string_bytes word) (codes "vc") ≡ false →
    (rest : List (List ℕ)) → map string_bytes words ≡ codes "vc" ∷ rest → (f d a p k : List ℕ) (l : Label) → rest ≡ f ∷ d ∷ a ∷ p ∷ k ∷ [] →
    Spells (a ++ codes " " ++ p ++ codes " " ++ k) l → ⊥
not_condition words word is differs rest h f d a p k l row spells = not_first words word _ is differs rest h

-- no number stands last
pub no_budget : (words : List (String Global)) (word : String Global) → length words ≡ 5 → word ≡ get_or words 4 word → ((n : ℕ) → IsNumber (string_bytes word) n → ⊥) →
    (rest : List (List ℕ)) → map string_bytes words ≡ codes "exec" ∷ rest → (f m r w : List ℕ) (n : ℕ) → rest ≡ f ∷ m ∷ r ∷ w ∷ [] → IsNumber w n → ⊥
no_budget (a ∷ b ∷ c ∷ d ∷ e ∷ []) word five is none rest h f m r w n row number =
    let tail : string_bytes b ∷ string_bytes c ∷ string_bytes d ∷ string_bytes e ∷ [] ≡ rest = cc in
    let same : string_bytes b ∷ string_bytes c ∷ string_bytes d ∷ string_bytes e ∷ [] ≡ f ∷ m ∷ r ∷ w ∷ [] = tail ∙ row in
    let last : string_bytes e ≡ w = cc in
    none n (subst (λ x. IsNumber x n) (sym (ap string_bytes is ∙ last)) number)
no_budget [] word five is none rest h f m r w n row number = omega (arith, five)
no_budget (a ∷ []) word five is none rest h f m r w n row number = omega (arith, five)
no_budget (a ∷ b ∷ []) word five is none rest h f m r w n row number = omega (arith, five)
no_budget (a ∷ b ∷ c ∷ []) word five is none rest h f m r w n row number = omega (arith, five)
no_budget (a ∷ b ∷ c ∷ d ∷ []) word five is none rest h f m r w n row number = omega (arith, five)
no_budget (a ∷ b ∷ c ∷ d ∷ e ∷ x ∷ words) word five is none rest h f m r w n row number = omega (arith, five)

-- the last three words are no label
pub no_label : (words : List (String Global)) (at part kind : String Global) → length words ≡ 6 → at ≡ get_or words 3 at → part ≡ get_or words 4 part → kind ≡ get_or words 5 kind →
    ((l : Label) → Spells (string_bytes at ++ codes " " ++ string_bytes part ++ codes " " ++ string_bytes kind) l → ⊥) →
    (rest : List (List ℕ)) → map string_bytes words ≡ codes "vc" ∷ rest → (f d a p k : List ℕ) (l : Label) → rest ≡ f ∷ d ∷ a ∷ p ∷ k ∷ [] →
    Spells (a ++ codes " " ++ p ++ codes " " ++ k) l → ⊥
no_label (y ∷ b ∷ c ∷ u ∷ v ∷ w ∷ []) at part kind six is_at is_part is_kind none rest h f d a p k l row spells =
    let tail : string_bytes b ∷ string_bytes c ∷ string_bytes u ∷ string_bytes v ∷ string_bytes w ∷ [] ≡ rest = cc in
    let same : string_bytes b ∷ string_bytes c ∷ string_bytes u ∷ string_bytes v ∷ string_bytes w ∷ [] ≡ f ∷ d ∷ a ∷ p ∷ k ∷ [] = tail ∙ row in
    let first : string_bytes u ≡ a = cc in
    let second : string_bytes v ≡ p = cc in
    let third : string_bytes w ≡ k = cc in
    none l (subst (λ x. Spells (x ++ codes " " ++ string_bytes part ++ codes " " ++ string_bytes kind) l) (sym (ap string_bytes is_at ∙ first))
    (subst (λ x. Spells (a ++ codes " " ++ x ++ codes " " ++ string_bytes kind) l) (sym (ap string_bytes is_part ∙ second))
    (subst (λ x. Spells (a ++ codes " " ++ p ++ codes " " ++ x) l) (sym (ap string_bytes is_kind ∙ third)) spells)))
no_label [] at part kind six is_at is_part is_kind none rest h f d a p k l row spells = omega (arith, six)
no_label (y ∷ []) at part kind six is_at is_part is_kind none rest h f d a p k l row spells = omega (arith, six)
no_label (y ∷ b ∷ []) at part kind six is_at is_part is_kind none rest h f d a p k l row spells = omega (arith, six)
no_label (y ∷ b ∷ c ∷ []) at part kind six is_at is_part is_kind none rest h f d a p k l row spells = omega (arith, six)
no_label (y ∷ b ∷ c ∷ u ∷ []) at part kind six is_at is_part is_kind none rest h f d a p k l row spells = omega (arith, six)
no_label (y ∷ b ∷ c ∷ u ∷ v ∷ []) at part kind six is_at is_part is_kind none rest h f d a p k l row spells = omega (arith, six)
no_label (y ∷ b ∷ c ∷ u ∷ v ∷ w ∷ x ∷ words) at part kind six is_at is_part is_kind none rest h f d a p k l row spells = omega (arith, six)

-- it is not `make`, or no number follows
pub not_made : (words : List (String Global)) (word : String Global) → word ≡ get_or words 0 word → pointwise eqb (string_bytes word) (codes "make") ≡ false →
    (rest : List (List ℕ)) → map string_bytes words ≡ codes "make" ∷ rest → (w : List ℕ) (n : ℕ) → rest ≡ w ∷ [] → IsNumber w n → ⊥
not_made words word is differs rest h w n one number = not_first words word _ is differs rest h

pub no_number : (words : List (String Global)) (word : String Global) → word ≡ get_or words 1 word → ((n : ℕ) → IsNumber (string_bytes word) n → ⊥) →
    (rest : List (List ℕ)) → map string_bytes words ≡ codes "make" ∷ rest → (w : List ℕ) (n : ℕ) → rest ≡ w ∷ [] → IsNumber w n → ⊥
no_number [] word is none rest h w n one number = absurd (cc)
no_number (a ∷ []) word is none rest h w n one number = let e : [] ≡ rest = cc in absurd (cc)
no_number (a ∷ b ∷ words) word is none rest h w n one number =
    let e : string_bytes b ∷ map string_bytes words ≡ rest = cc in
    let d : string_bytes b ≡ w = cc in
    none n (subst (λ x. IsNumber x n) (sym (ap string_bytes is ∙ d)) number)

-- ---- longer commands

pub five_words : (words : List (String Global)) (word file method run_file number : String Global) (n : ℕ) → length words ≡ 5 →
    word ≡ get_or words 0 word → file ≡ get_or words 1 file → method ≡ get_or words 2 method → run_file ≡ get_or words 3 run_file → number ≡ get_or words 4 number →
    pointwise eqb (string_bytes word) (codes "exec") ≡ true → IsNumber (string_bytes number) n →
    Asks (map string_bytes words) (Execute (string_bytes file) (string_bytes method) (string_bytes run_file) n)
five_words [] word file method run_file number n five h i j k m e is = absurd (omega (arith, five))
five_words (a ∷ []) word file method run_file number n five h i j k m e is = absurd (omega (arith, five))
five_words (a ∷ b ∷ []) word file method run_file number n five h i j k m e is = absurd (omega (arith, five))
five_words (a ∷ b ∷ c ∷ []) word file method run_file number n five h i j k m e is = absurd (omega (arith, five))
five_words (a ∷ b ∷ c ∷ d ∷ []) word file method run_file number n five h i j k m e is = absurd (omega (arith, five))
five_words (a ∷ b ∷ c ∷ d ∷ x ∷ y ∷ words) word file method run_file number n five h i j k m e is = absurd (omega (arith, five))
five_words (a ∷ b ∷ c ∷ d ∷ x ∷ []) word file method run_file number n five h i j k m e is =
    let first : string_bytes a ≡ codes "exec" = ap string_bytes (sym h) ∙ same_text _ _ e in
    execute (ap (λ z. z ∷ string_bytes b ∷ string_bytes c ∷ string_bytes d ∷ string_bytes x ∷ []) first
    ∙ ap (λ z. codes "exec" ∷ string_bytes z ∷ string_bytes c ∷ string_bytes d ∷ string_bytes x ∷ []) (sym i)
    ∙ ap (λ z. codes "exec" ∷ string_bytes file ∷ string_bytes z ∷ string_bytes d ∷ string_bytes x ∷ []) (sym j)
    ∙ ap (λ z. codes "exec" ∷ string_bytes file ∷ string_bytes method ∷ string_bytes z ∷ string_bytes x ∷ []) (sym k)
    ∙ ap (λ z. codes "exec" ∷ string_bytes file ∷ string_bytes method ∷ string_bytes run_file ∷ string_bytes z ∷ []) (sym m)) is

pub six_words : (words : List (String Global)) (word file procedure at part kind : String Global) (label : Label) → length words ≡ 6 →
    word ≡ get_or words 0 word → file ≡ get_or words 1 file → procedure ≡ get_or words 2 procedure → at ≡ get_or words 3 at → part ≡ get_or words 4 part → kind ≡ get_or words 5 kind →
    pointwise eqb (string_bytes word) (codes "vc") ≡ true → Spells (string_bytes at ++ codes " " ++ string_bytes part ++ codes " " ++ string_bytes kind) label →
    Asks (map string_bytes words) (Condition (string_bytes file) (string_bytes procedure) label)
six_words [] word file procedure at part kind label six h i j k m n e is = absurd (omega (arith, six))
six_words (a ∷ []) word file procedure at part kind label six h i j k m n e is = absurd (omega (arith, six))
six_words (a ∷ b ∷ []) word file procedure at part kind label six h i j k m n e is = absurd (omega (arith, six))
six_words (a ∷ b ∷ c ∷ []) word file procedure at part kind label six h i j k m n e is = absurd (omega (arith, six))
six_words (a ∷ b ∷ c ∷ d ∷ []) word file procedure at part kind label six h i j k m n e is = absurd (omega (arith, six))
six_words (a ∷ b ∷ c ∷ d ∷ x ∷ []) word file procedure at part kind label six h i j k m n e is = absurd (omega (arith, six))
six_words (a ∷ b ∷ c ∷ d ∷ x ∷ y ∷ w ∷ words) word file procedure at part kind label six h i j k m n e is = absurd (omega (arith, six))
six_words (a ∷ b ∷ c ∷ d ∷ x ∷ y ∷ []) word file procedure at part kind label six h i j k m n e is =
    let first : string_bytes a ≡ codes "vc" = ap string_bytes (sym h) ∙ same_text _ _ e in
    condition (ap (λ z. z ∷ string_bytes b ∷ string_bytes c ∷ string_bytes d ∷ string_bytes x ∷ string_bytes y ∷ []) first
    ∙ ap (λ z. codes "vc" ∷ string_bytes z ∷ string_bytes c ∷ string_bytes d ∷ string_bytes x ∷ string_bytes y ∷ []) (sym i)
    ∙ ap (λ z. codes "vc" ∷ string_bytes file ∷ string_bytes z ∷ string_bytes d ∷ string_bytes x ∷ string_bytes y ∷ []) (sym j)
    ∙ ap (λ z. codes "vc" ∷ string_bytes file ∷ string_bytes procedure ∷ string_bytes z ∷ string_bytes x ∷ string_bytes y ∷ []) (sym k)
    ∙ ap (λ z. codes "vc" ∷ string_bytes file ∷ string_bytes procedure ∷ string_bytes at ∷ string_bytes z ∷ string_bytes y ∷ []) (sym m)
    ∙ ap (λ z. codes "vc" ∷ string_bytes file ∷ string_bytes procedure ∷ string_bytes at ∷ string_bytes part ∷ string_bytes z ∷ []) (sym n)) is

-- the same three words
pub spells_same : {a b c x y z : List ℕ} {l : Label} → a ≡ x → b ≡ y → c ≡ z → Spells (a ++ codes " " ++ b ++ codes " " ++ c) l → Spells (x ++ codes " " ++ y ++ codes " " ++ z) l
spells_same {a} {b} {c} {x} {y} {z} {l} first second third is =
    subst (λ w. Spells (w ++ codes " " ++ y ++ codes " " ++ z) l) first (subst (λ w. Spells (a ++ codes " " ++ w ++ codes " " ++ z) l) second
    (subst (λ w. Spells (a ++ codes " " ++ b ++ codes " " ++ w) l) third is))

-- the label that was found, or that there is none
abbrev Found : List ℕ → Option Label → Type 0
Found text o = MatchOption o ((l : Label) → Spells text l → ⊥) (Spells text)

pub found_label : (text : List ℕ) (o : Option Label) (l : Label) → Found text o → o ≡ Some l → Spells text l
found_label text o l h is = subst (Found text) is h

pub found_none : (text : List ℕ) (o : Option Label) → Found text o → o ≡ None → (l : Label) → Spells text l → ⊥
found_none text o h is = subst (Found text) is h
