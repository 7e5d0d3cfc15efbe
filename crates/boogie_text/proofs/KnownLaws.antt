-- The names of locals, put into a table one by one.
use Rattle.std.proofs.Common.{◌≡◌, ◌≢◌, ◌∙◌, ◌+◌, ◌-◌, ◌<◌, ℕ, zero, suc, Bool, true, false, List, [], ◌∷◌, ◌++◌, length, take, drop, get_or, refl, sym, ap, subst, arith}
use Rattle.std.specs.Str.{bytes_eq}
use Rattle.std.proofs.lemmas.List.{take_more, get_or-take, length-take-le, length-append, length-drop, take_all, length-map, take-append-drop, get_or_append_left, get_or-append-add}
use Rattle.std.proofs.lemmas.Slice.Eq.{bytes_eq-Decides}
use Rattle.vb_base.specs.Names.{NamesDiffer}
use Rattle.boogie_tree.specs.Whole.{locals_of}
use Rattle.boogie_tree.specs.declared.programs.Local.{Local}
use Rattle.boogie_grammar.specs.Grammar.{local_names}
use Rattle.boogie_grammar.specs.Words.{is_among}

differ_left : (xs ys : List (List ℕ)) → NamesDiffer (xs ++ ys) → NamesDiffer xs
differ_left xs ys h i j d below within e =
    h i j d below (omega (arith, within, length-append xs ys))
    (get_or_append_left xs ys d i (omega (arith, below, within)) ∙ (e ∙ sym (get_or_append_left xs ys d j within)))

differ_right : (xs ys : List (List ℕ)) → NamesDiffer (xs ++ ys) → NamesDiffer ys
differ_right xs ys h i j d below within e =
    h (length xs + i) (length xs + j) d (omega (arith, below)) (omega (arith, within, length-append xs ys))
    (get_or-append-add xs ys i d ∙ (e ∙ sym (get_or-append-add xs ys j d)))

abbrev pub names_of : List Local → List (List ℕ)
names_of ls = local_names (locals_of ls)

pub names_taken : (n : ℕ) (ls : List Local) → names_of (take n ls) ≡ take n (names_of ls)
names_taken zero ls = refl
names_taken (suc n) [] = refl
names_taken (suc n) (l ∷ ls) = ap (λ xs. l.name ∷ xs) (names_taken n ls)

pub names_dropped : (n : ℕ) (ls : List Local) → names_of (drop n ls) ≡ drop n (names_of ls)
names_dropped zero ls = refl
names_dropped (suc n) [] = refl
names_dropped (suc n) (l ∷ ls) = names_dropped n ls

pub taken_differ : (n : ℕ) (ls : List Local) → NamesDiffer (names_of ls) → NamesDiffer (names_of (take n ls))
taken_differ n ls h =
    subst NamesDiffer (sym (names_taken n ls)) (differ_left (take n (names_of ls)) (drop n (names_of ls)) (subst NamesDiffer (sym (take-append-drop n (names_of ls))) h))

pub dropped_differ : (n : ℕ) (ls : List Local) → NamesDiffer (names_of ls) → NamesDiffer (names_of (drop n ls))
dropped_differ n ls h =
    subst NamesDiffer (sym (names_dropped n ls)) (differ_right (take n (names_of ls)) (drop n (names_of ls)) (subst NamesDiffer (sym (take-append-drop n (names_of ls))) h))

name_at : (ls : List Local) (i : ℕ) (l : Local) → i < length ls → l ≡ get_or ls i l → get_or (names_of ls) i [] ≡ l.name
name_at [] i l lt e = absurd (omega (arith, lt))
name_at (x ∷ ls) zero l lt e = ap (λ (y : Local). y.name) (sym e)
name_at (x ∷ ls) (suc i) l lt e = name_at ls i l (omega (arith, lt)) e

refuted : {P : Type 0} (b : Bool) → (b ≡ true → P) → (P → ⊥) → b ≡ false
refuted true f n = absurd (n (f refl))
refuted false f n = refl

not_among : (x : List ℕ) (ks : List (List ℕ)) → ((k : ℕ) → k < length ks → get_or ks k [] ≢ x) → is_among x ks ≡ false
not_among x [] differ = refl
not_among x (y ∷ ys) differ =
    rw (refuted (bytes_eq x y) (bytes_eq-Decides x y).0 (λ e. differ 0 (omega arith) (sym e)))
    (not_among x ys (λ k h. differ (suc k) (omega (arith, h))))

-- the next name is none of those before it
pub next_is_new : (ls : List Local) (i : ℕ) (l : Local) → NamesDiffer (names_of ls) → i < length ls → l ≡ get_or ls i l → is_among l.name (take i (names_of ls)) ≡ false
next_is_new ls i l differ lt e =
    let names = names_of ls in
    let there = name_at ls i l lt e in
    let all : length (names_of ls) ≡ length ls = length-map (locals_of ls) _ ∙ length-map ls _ in
    let long : length (take i (names_of ls)) ≡ i = length-take-le i (names_of ls) (omega (arith, lt, all)) in
    not_among l.name (take i (names_of ls)) (λ k h same. differ k i [] (omega (arith, h, long)) (omega (arith, lt, all)) (sym (get_or-take i (names_of ls) k [] (omega (arith, h, long))) ∙ same ∙ sym there))

pub one_more : (ls : List Local) (i : ℕ) (l : Local) → i < length ls → l ≡ get_or ls i l → take (i + 1) (names_of ls) ≡ take i (names_of ls) ++ (l.name ∷ [])
one_more ls i l lt e =
    let all : length (names_of ls) ≡ length ls = length-map (locals_of ls) _ ∙ length-map ls _ in
    take_more (names_of ls) i [] (omega (arith, lt, all)) ∙ ap (λ x. take i (names_of ls) ++ (x ∷ [])) (name_at ls i l lt e)

-- what is behind the first n
pub all_behind : {X : Type 0} (n : ℕ) (xs : List X) → take (length xs - n) (drop n xs) ≡ drop n xs
all_behind n xs = take_all (length xs - n) (drop n xs) (omega (arith, length-drop n xs))

pub behind_differ : (n : ℕ) (ls : List Local) → NamesDiffer (names_of ls) → NamesDiffer (names_of (take (length ls - n) (drop n ls)))
behind_differ n ls h = subst (λ (l : List Local). NamesDiffer (names_of l)) (sym (all_behind n ls)) (dropped_differ n ls h)
