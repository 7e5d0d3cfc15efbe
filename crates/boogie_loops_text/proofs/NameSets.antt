-- Names that are none of several lists.
use Rattle.std.proofs.Common.{◌≡◌, ◌∙◌, refl, sym, ap, subst, ℕ, Bool, true, false, not, ◌&&◌, ◌||◌, List, [], ◌∷◌, ◌++◌, Result, Bor, append_assoc, length, length-append, ◌≤◌, ◌-◌, arith}
use Rattle.std.specs.Str.{bytes_eq}
use Rattle.std.proofs.lemmas.List.Folds.{list_any-append}
use Rattle.grammar.specs.declared.stop.Stop.{Stop}
use Rattle.grammar.specs.declared.stop.Stop.TheVariants as stop
use Rattle.boogie_tree.specs.Program as p
use Rattle.boogie_grammar.specs.declared.tokens.PlacedLexeme.{PlacedLexeme}
use Rattle.boogie_grammar.specs.Words.{is_among}
use Rattle.boogie_grammar.specs.Tests.{a_new_name}
use Rattle.boogie_grammar.specs.Greedy.{Starts, Takes, Misses}
use Rattle.boogie_grammar.specs.Grammar.{local_names}
use Rattle.std.proofs.lemmas.List.{map-append, append-nil}
use Rattle.std.proofs.lemmas.Slice.Eq.{bytes_eq-Decides}
use Rattle.std.proofs.lemmas.Bool.{or_parts}
use Rattle.boogie_tree.specs.declared.exprs.BBase.{BBase}
use Rattle.boogie_loops_grammar.specs.Trees.{plain_local}
use Rattle.boogie_loops_grammar.specs.Words.{wide_words, has_no_word}
use Rattle.boogie_loops_text.specs.Heads.{AreNames}

pub of_neither : (x : List ℕ) (as_ bs : List (List ℕ)) → is_among x (as_ ++ bs) ≡ false → (is_among x as_ ≡ false) × (is_among x bs ≡ false)
of_neither x as_ bs h = or_parts (is_among x as_) (is_among x bs) (sym (list_any-append (bytes_eq x) as_ bs) ∙ h)

-- one more name that is no word

plain_more : (ls : List (List ℕ)) (x : List ℕ) → has_no_word ls ≡ true → is_among x wide_words ≡ false → has_no_word (ls ++ (x ∷ [])) ≡ true
plain_more [] x h e = ap (λ b. not b && true) e
plain_more (y ∷ ys) x h e = by_case (is_among y wide_words) h (λ i. plain_more ys x i e) where
  by_case : (b : Bool) → (not b && has_no_word ys) ≡ true → (has_no_word ys ≡ true → has_no_word (ys ++ (x ∷ [])) ≡ true) → (not b && has_no_word (ys ++ (x ∷ []))) ≡ true
  by_case true i rest = absurd (cc)
  by_case false i rest = rest i

pub one_more : {names : List (List ℕ)} {more : List (List ℕ)} {ls : List p.Local} {all : List p.Local} (x : List ℕ) (u : p.BType) → AreNames names ls → is_among x wide_words ≡ false →
    more ≡ names ++ (x ∷ []) → all ≡ ls ++ (record { name = x; ty = u } ∷ []) → AreNames more all
one_more {names = names} {ls = ls} x u a n e f = record {
  same = e ∙ ap (λ l. l ++ (x ∷ [])) a.same ∙ sym (map-append (λ (l : p.Local). l.name) ls (record { name = x; ty = u } ∷ [])) ∙ ap local_names (sym f);
  plain = subst (λ l. has_no_word l ≡ true) (sym e) (plain_more names x a.plain n);
}

-- lists that hold the same names

pub same_start : {as_ bs : List (List ℕ)} {ts us : List PlacedLexeme} {x : List ℕ} → ((y : List ℕ) → is_among y as_ ≡ is_among y bs) → Starts (a_new_name as_) ts x us → Starts (a_new_name bs) ts x us
same_start {x = x} e h = record { token = h.token; is = h.is; passes = (h.passes.0, h.passes.1, sym (e x) ∙ h.passes.2) }

pub same_misses : (as_ bs : List (List ℕ)) (ts : List PlacedLexeme) (w : Stop PlacedLexeme) → ((y : List ℕ) → is_among y as_ ≡ is_among y bs) → Misses (a_new_name as_) ts w → Misses (a_new_name bs) ts w
same_misses as_ bs ts stop.Memory e h = tt
same_misses as_ bs ts (stop.Before r) e h = (record { none = λ x us i. h.0.none x us (same_start (λ y. sym (e y)) i) }, h.1)

pub same_among : (as_ bs cs ws : List (List ℕ)) → ((y : List ℕ) → is_among y bs ≡ is_among y cs) → (y : List ℕ) → is_among y ((as_ ++ bs) ++ ws) ≡ is_among y ((as_ ++ cs) ++ ws)
same_among as_ bs cs ws e y =
    list_any-append (bytes_eq y) (as_ ++ bs) ws ∙ ap (λ b. b || is_among y ws) (list_any-append (bytes_eq y) as_ bs ∙ ap (λ b. is_among y as_ || b) (e y) ∙ sym (list_any-append (bytes_eq y) as_ cs)) ∙
    sym (list_any-append (bytes_eq y) (as_ ++ cs) ws)

-- a list in the place of an equal one

pub named_at : {as_ bs : List (List ℕ)} {ts us : List PlacedLexeme} {x : List ℕ} → as_ ≡ bs → Starts (a_new_name as_) ts x us → Starts (a_new_name bs) ts x us
named_at {ts = ts} {us = us} {x = x} e h = subst (λ z. Starts (a_new_name z) ts x us) e h

pub unnamed_at : (as_ bs : List (List ℕ)) (ts : List PlacedLexeme) (w : Stop PlacedLexeme) → as_ ≡ bs → Misses (a_new_name as_) ts w → Misses (a_new_name bs) ts w
unnamed_at as_ bs ts w e h = subst (λ z. Misses (a_new_name z) ts w) e h

pub takes_at : (as_ bs : List (List ℕ)) (ts : List PlacedLexeme) (res : Result (List ℕ × Bor (List PlacedLexeme)) (Stop PlacedLexeme)) → as_ ≡ bs → Takes (a_new_name as_) ts res → Takes (a_new_name bs) ts res
takes_at as_ bs ts res e h = subst (λ z. Takes (a_new_name z) ts res) e h

-- a parameter

pub plain_is : {keys : List BBase} (x : List ℕ) (u : BBase) → keys ≡ [] → (let l : p.Local = record { name = x; ty = record { keys = keys; base = u } } in l) ≡ plain_local x u
plain_is x u e = λ i. record { name = x; ty = record { keys = e i; base = u } }

-- names in turn

pub among_next : (all more : List (List ℕ)) (x : List ℕ) (rest left names : List (List ℕ)) → left ≡ x ∷ rest → ((y : List ℕ) → is_among y more ≡ is_among y (all ++ (x ∷ []))) →
    ((y : List ℕ) → is_among y (all ++ left) ≡ is_among y names) → (y : List ℕ) → is_among y (more ++ rest) ≡ is_among y names
among_next all more x rest left names e f h y =
    list_any-append (bytes_eq y) more rest ∙ ap (λ b. b || is_among y rest) (f y) ∙ sym (list_any-append (bytes_eq y) (all ++ (x ∷ [])) rest) ∙
    ap (is_among y) (append_assoc all (x ∷ []) rest ∙ ap (λ l. all ++ l) (sym e)) ∙ h y

pub among_end : (all left names : List (List ℕ)) → left ≡ [] → ((y : List ℕ) → is_among y (all ++ left) ≡ is_among y names) → (y : List ℕ) → is_among y all ≡ is_among y names
among_end all left names e h y = ap (is_among y) (sym (append-nil all) ∙ ap (λ l. all ++ l) (sym e)) ∙ h y

or_false_right : (b : Bool) → (b || (false || false)) ≡ b
or_false_right true = refl
or_false_right false = refl

or_true_right : (b : Bool) → (b || (true || false)) ≡ true
or_true_right true = refl
or_true_right false = refl

by_equal : (x y : List ℕ) (all : List (List ℕ)) (b : Bool) → bytes_eq y x ≡ b → is_among x all ≡ true → is_among y all ≡ (is_among y all || (b || false))
by_equal x y all true e h = let same : y ≡ x = (bytes_eq-Decides y x).0 e in let there : is_among y all ≡ true = ap (λ z. is_among z all) same ∙ h in there ∙ sym (or_true_right (is_among y all))
by_equal x y all false e h = sym (or_false_right (is_among y all))

pub among_there : (all : List (List ℕ)) (x : List ℕ) → is_among x all ≡ true → (y : List ℕ) → is_among y all ≡ is_among y (all ++ (x ∷ []))
among_there all x h y = by_equal x y all (bytes_eq y x) refl h ∙ sym (list_any-append (bytes_eq y) all (x ∷ []))

-- one more name behind known ones
pub then_more : {now more : List (List ℕ)} (l : List (List ℕ)) (x : List ℕ) → now ≡ l → more ≡ now ++ (x ∷ []) → more ≡ l ++ (x ∷ [])
then_more l x e f = f ∙ ap (λ k. k ++ (x ∷ [])) e

pub not_there : {now : List (List ℕ)} (l : List (List ℕ)) (x : List ℕ) → now ≡ l → is_among x l ≡ false → is_among x now ≡ false
not_there l x e h = subst (λ k. is_among x k ≡ false) (sym e) h

-- how many there are

pub longer_more : {T : Type 0} (all : List T) (x : T) {more : List T} {n : ℕ} → n ≤ length all → more ≡ all ++ (x ∷ []) → n ≤ length more
longer_more all x {n = n} h e = subst (λ l. n ≤ length l) (sym e) (let k = length-append all (x ∷ []) in omega (arith, h, k))

pub minus_self : (n : ℕ) → n - n ≡ 0
minus_self n = omega arith

pub minus_as : {a b m n : ℕ} → a ≡ m → b ≡ n → a - b ≡ m - n
minus_as e f = λ i. e i - f i
