use Rattle.std.proofs.Common.{◌≡◌, ◌∙◌, ◌<◌, ◌≤◌, ℕ, true, false, rules, List, [], ◌∷◌, map, length, get_or, codes, sym, ap, subst, arith, eqb}
use Rattle.std.specs.Cmp.Lexicographic.{pointwise}
use Rattle.std.specs.String.{string_bytes}
use Rattle.std.specs.declared.alloc.Global.{Global}
use Rattle.std.specs.declared.string.String.{String}
use Rattle.vb_tool.specs.Command.{Translate, Run, Replay, Make, Cut, Asks, IsNumber, translate, run, replay, make, cut}
use Rattle.vb_tool.proofs.WordLaws.{same_text, few_words, many_words, two_others, three_others, four_others, not_made, no_number}
use Rattle.vb_tool.proofs.words.short_command_of.Goals as goal
use Rattle.vb_tool.proofs.words.short_command_of.Goals.{in_default-via-then-words-lt2, in_default-via-in-len2-3+else-eq-3, in_default-via-in-len3+else-eq-4, in_default-via-in-len4+else-eq-5, in_default-via-else-words-lt2+else-words-lt3+else-words-lt4+else-words-lt5}

two_words : (words : List (String Global)) (word file : String Global) → 2 ≤ length words → length words < 3 →
    word ≡ get_or words 0 word → file ≡ get_or words 1 file → pointwise eqb (string_bytes word) (codes "translate") ≡ true →
    Asks (map string_bytes words) (Translate (string_bytes file))
two_words [] word file two three h k e = absurd (omega (arith, two))
two_words (a ∷ []) word file two three h k e = absurd (omega (arith, two))
two_words (a ∷ b ∷ c ∷ words) word file two three h k e = absurd (omega (arith, three))
two_words (a ∷ b ∷ []) word file two three h k e =
    let first : string_bytes a ≡ codes "translate" = ap string_bytes (sym h) ∙ same_text _ _ e in
    let second : string_bytes b ≡ string_bytes file = ap string_bytes (sym k) in
    translate (ap (λ x. x ∷ string_bytes b ∷ []) first ∙ ap (λ y. codes "translate" ∷ y ∷ []) second)

three_words : (words : List (String Global)) (word file run_file : String Global) → 3 ≤ length words → length words < 4 →
    word ≡ get_or words 0 word → file ≡ get_or words 1 file → run_file ≡ get_or words 2 run_file →
    pointwise eqb (string_bytes word) (codes "replay") ≡ true → Asks (map string_bytes words) (Replay (string_bytes file) (string_bytes run_file))
three_words [] word file run_file three four h i j e = absurd (omega (arith, three))
three_words (a ∷ []) word file run_file three four h i j e = absurd (omega (arith, three))
three_words (a ∷ b ∷ []) word file run_file three four h i j e = absurd (omega (arith, three))
three_words (a ∷ b ∷ c ∷ d ∷ words) word file run_file three four h i j e = absurd (omega (arith, four))
three_words (a ∷ b ∷ c ∷ []) word file run_file three four h i j e =
    let first : string_bytes a ≡ codes "replay" = ap string_bytes (sym h) ∙ same_text _ _ e in
    replay (ap (λ x. x ∷ string_bytes b ∷ string_bytes c ∷ []) first
    ∙ ap (λ x. codes "replay" ∷ string_bytes x ∷ string_bytes c ∷ []) (sym i)
    ∙ ap (λ x. codes "replay" ∷ string_bytes file ∷ string_bytes x ∷ []) (sym j))

four_words : (words : List (String Global)) (word file unit run_file : String Global) → 4 ≤ length words → length words < 5 →
    word ≡ get_or words 0 word → file ≡ get_or words 1 file → unit ≡ get_or words 2 unit → run_file ≡ get_or words 3 run_file →
    pointwise eqb (string_bytes word) (codes "run") ≡ true → Asks (map string_bytes words) (Run (string_bytes file) (string_bytes unit) (string_bytes run_file))
four_words [] word file unit run_file four five h i j k e = absurd (omega (arith, four))
four_words (a ∷ []) word file unit run_file four five h i j k e = absurd (omega (arith, four))
four_words (a ∷ b ∷ []) word file unit run_file four five h i j k e = absurd (omega (arith, four))
four_words (a ∷ b ∷ c ∷ []) word file unit run_file four five h i j k e = absurd (omega (arith, four))
four_words (a ∷ b ∷ c ∷ d ∷ x ∷ words) word file unit run_file four five h i j k e = absurd (omega (arith, five))
four_words (a ∷ b ∷ c ∷ d ∷ []) word file unit run_file four five h i j k e =
    let first : string_bytes a ≡ codes "run" = ap string_bytes (sym h) ∙ same_text _ _ e in
    run (ap (λ x. x ∷ string_bytes b ∷ string_bytes c ∷ string_bytes d ∷ []) first
    ∙ ap (λ x. codes "run" ∷ string_bytes x ∷ string_bytes c ∷ string_bytes d ∷ []) (sym i)
    ∙ ap (λ x. codes "run" ∷ string_bytes file ∷ string_bytes x ∷ string_bytes d ∷ []) (sym j)
    ∙ ap (λ x. codes "run" ∷ string_bytes file ∷ string_bytes unit ∷ string_bytes x ∷ []) (sym k))

made_words : (words : List (String Global)) (word number : String Global) (n : ℕ) → 2 ≤ length words → length words < 3 →
    word ≡ get_or words 0 word → number ≡ get_or words 1 number → pointwise eqb (string_bytes word) (codes "make") ≡ true → IsNumber (string_bytes number) n →
    Asks (map string_bytes words) (Make n)
made_words [] word number n two three h k e is = absurd (omega (arith, two))
made_words (a ∷ []) word number n two three h k e is = absurd (omega (arith, two))
made_words (a ∷ b ∷ c ∷ words) word number n two three h k e is = absurd (omega (arith, three))
made_words (a ∷ b ∷ []) word number n two three h k e is =
    let first : string_bytes a ≡ codes "make" = ap string_bytes (sym h) ∙ same_text _ _ e in
    let second : string_bytes b ≡ string_bytes number = ap string_bytes (sym k) in
    make (ap (λ x. x ∷ string_bytes b ∷ []) first ∙ ap (λ y. codes "make" ∷ y ∷ []) second) is

-- the first word under another name
other_word : (words : List (String Global)) (v w : String Global) (text : List ℕ) → v ≡ get_or words 0 v → w ≡ get_or words 0 w → 2 ≤ length words →
    pointwise eqb (string_bytes v) text ≡ false → pointwise eqb (string_bytes w) text ≡ false
other_word [] v w text first second some differs = absurd (omega (arith, some))
other_word (a ∷ words) v w text first second some differs = subst (λ x. pointwise eqb (string_bytes x) text ≡ false) (first ∙ sym second) differs

cut_words : (words : List (String Global)) (word file : String Global) → 2 ≤ length words → length words < 3 →
    word ≡ get_or words 0 word → file ≡ get_or words 1 file → pointwise eqb (string_bytes word) (codes "cut") ≡ true →
    Asks (map string_bytes words) (Cut (string_bytes file))
cut_words [] word file two three h k e = absurd (omega (arith, two))
cut_words (a ∷ []) word file two three h k e = absurd (omega (arith, two))
cut_words (a ∷ b ∷ c ∷ words) word file two three h k e = absurd (omega (arith, three))
cut_words (a ∷ b ∷ []) word file two three h k e =
    let first : string_bytes a ≡ codes "cut" = ap string_bytes (sym h) ∙ same_text _ _ e in
    let second : string_bytes b ≡ string_bytes file = ap string_bytes (sym k) in
    cut (ap (λ x. x ∷ string_bytes b ∷ []) first ∙ ap (λ y. codes "cut" ∷ y ∷ []) second)

pub returns-in-len2 : goal.returns-in-len2
returns-in-len2 c =
    let two = two_words c.args.words.now c.word-item.result c.file-item.result c.in-len2.len_at_least c.in-len2.len_below c.word-item.is c.file-item.is
    (subst (λ t. pointwise eqb t (codes "translate") ≡ true) c.as_str.ensures.value (sym c.eq.ensures ∙ c.if-eq.true)) in
    rw c.as_str-in-len2.ensures.value two

pub returns-in-len2-2 : goal.returns-in-len2-2
returns-in-len2-2 c =
    let two = cut_words c.args.words.now c.word-item-then-words-lt3.result c.file-item-then-words-lt3.result c.in-len2.len_at_least c.in-len2.len_below c.word-item-then-words-lt3.is c.file-item-then-words-lt3.is
    (subst (λ t. pointwise eqb t (codes "cut") ≡ true) c.as_str-then-words-lt3.ensures.value (sym c.eq-then-words-lt3.ensures ∙ c.if-eq-2.true)) in
    rw c.as_str-in-len2-2.ensures.value two

pub returns-in-len3 : goal.returns-in-len3
returns-in-len3 c =
    let three = three_words c.args.words.now c.word-item-then-words-lt4.result c.file-item-then-words-lt4.result c.run_file-item.result
    c.in-len3.len_at_least c.in-len3.len_below c.word-item-then-words-lt4.is c.file-item-then-words-lt4.is c.run_file-item.is
    (subst (λ t. pointwise eqb t (codes "replay") ≡ true) c.as_str-then-words-lt4.ensures.value (sym c.eq-then-words-lt4.ensures ∙ c.if-eq-4.true)) in
    rw (c.as_str-in-len3.ensures.value, c.as_str-in-len3-2.ensures.value) three

pub returns-in-len4 : goal.returns-in-len4
returns-in-len4 c =
    let four = four_words c.args.words.now c.word-item-then-words-lt5.result c.file-item-then-words-lt5.result c.unit-item.result c.run_file-item-then-words-lt5.result
    c.in-len4.len_at_least c.in-len4.len_below c.word-item-then-words-lt5.is c.file-item-then-words-lt5.is c.unit-item.is c.run_file-item-then-words-lt5.is
    (subst (λ t. pointwise eqb t (codes "run") ≡ true) c.as_str-then-words-lt5.ensures.value (sym c.eq-then-words-lt5.ensures ∙ c.if-eq-5.true)) in
    rw (c.as_str-in-len4.ensures.value, c.as_str-in-len4-2.ensures.value, c.as_str-in-len4-3.ensures.value) four

pub returns-in-Some : goal.returns-in-Some
returns-in-Some c =
    made_words c.args.words.now c.word-item-then-words-lt3-2.result c.number-item.result c.in-Some.count c.in-len2.len_at_least c.in-len2.len_below
    c.word-item-then-words-lt3-2.is c.number-item.is (subst (λ t. pointwise eqb t (codes "make") ≡ true) c.as_str-then-words-lt3-2.ensures.value (sym c.eq-then-words-lt3-2.ensures ∙ c.if-eq-3.true))
    (subst (λ t. IsNumber t c.in-Some.count) c.as_str-in-len2-3.ensures.value c.in-Some.ensures)

pub returns-in-None : goal.returns-in-None
returns-in-None c =
    two_others c.args.words.now c.word-item.result c.word-item.is c.in-len2.len_at_least c.in-len2.len_below
    (subst (λ t. pointwise eqb t (codes "translate") ≡ false) c.as_str.ensures.value (sym c.eq.ensures ∙ c.if-eq.false))
    (other_word c.args.words.now _ _ _ c.word-item-then-words-lt3.is c.word-item.is c.in-len2.len_at_least (subst (λ t. pointwise eqb t (codes "cut") ≡ false) c.as_str-then-words-lt3.ensures.value (sym c.eq-then-words-lt3.ensures ∙ c.if-eq-2.false)))
    (no_number c.args.words.now c.number-item.result c.number-item.is (subst (λ t. (n : ℕ) → IsNumber t n → ⊥) c.as_str-in-len2-3.ensures.value c.in-None.ensures))

pub returns-in_default : goal.returns-in_default
returns-in_default c = elim c.in_default.branch [
  | in_default-via-then-words-lt2 w ↦ search (rules, few_words)
  | in_default-via-in-len2-3+else-eq-3 w ↦
      two_others c.args.words.now w.word-item.result w.word-item.is w.in-len2.len_at_least w.in-len2.len_below
      (subst (λ t. pointwise eqb t (codes "translate") ≡ false) w.as_str.ensures.value (sym w.eq.ensures ∙ w.if-eq.false))
      (other_word c.args.words.now _ _ _ w.word-item-then-words-lt3.is w.word-item.is w.in-len2.len_at_least (subst (λ t. pointwise eqb t (codes "cut") ≡ false) w.as_str-then-words-lt3.ensures.value (sym w.eq-then-words-lt3.ensures ∙ w.if-eq-2.false)))
      (not_made c.args.words.now w.word-item-then-words-lt3-2.result w.word-item-then-words-lt3-2.is
      (subst (λ t. pointwise eqb t (codes "make") ≡ false) w.as_str-then-words-lt3-2.ensures.value (sym w.eq-then-words-lt3-2.ensures ∙ w.if-eq-3.false)))
  | in_default-via-in-len3+else-eq-4 w ↦
      three_others c.args.words.now w.word-item-then-words-lt4.result w.word-item-then-words-lt4.is w.in-len3.len_at_least w.in-len3.len_below
      (subst (λ t. pointwise eqb t (codes "replay") ≡ false) w.as_str-then-words-lt4.ensures.value (sym w.eq-then-words-lt4.ensures ∙ w.if-eq-4.false))
  | in_default-via-in-len4+else-eq-5 w ↦
      four_others c.args.words.now w.word-item-then-words-lt5.result w.word-item-then-words-lt5.is w.in-len4.len_at_least w.in-len4.len_below
      (subst (λ t. pointwise eqb t (codes "run") ≡ false) w.as_str-then-words-lt5.ensures.value (sym w.eq-then-words-lt5.ensures ∙ w.if-eq-5.false))
  | in_default-via-else-words-lt2+else-words-lt3+else-words-lt4+else-words-lt5 w ↦ search (rules, many_words, c.requires.not_five, c.requires.not_six)
]
