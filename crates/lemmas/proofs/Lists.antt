-- Lists: their parts, their items, and what holds of all of them.
use Rattle.std.proofs.Common.{All, Bool, List, Some, [], add-one, ap, append_assoc, arith, drop, drop_of_length-le, false, get_or, if◌then◌else◌, inl, inr, length, map, refl, slice_get, slice_set, subst, suc, sym, take, true, zero, ℕ, ◌++◌, ◌+◌, ◌-◌, ◌<◌, ◌||◌, ◌∙◌, ◌∷◌, ◌≡◌, ◌≤◌, ◌⊎◌}
use Rattle.std.proofs.Math.Seq.{drop-cons, drop-length, take-append_seam}
use Rattle.std.proofs.lemmas.Bool.{and_from, and_parts}
use Rattle.std.proofs.lemmas.List.{drop_at, length-append, take_all, take_at, take_more}
use Rattle.std.proofs.lemmas.List.Elements.{All-append, All-cons, All-drop, All-head, All-nil, All-tail, All-take}
use Rattle.std.proofs.lemmas.Option.{get_or_from_slice_get, same_Some, slice_get-map, slice_get_within}
use Rattle.std.specs.List.{AllZip, list_all}
use Rattle.std.specs.Option.{option_map}

pub take_there : {X : Type 0} (n : ℕ) (xs : List X) (i : ℕ) (x : X) → slice_get (take n xs) i ≡ Some x → slice_get xs i ≡ Some x
take_there zero xs i x h = absurd (cc)
take_there (suc n) [] i x h = absurd (cc)
take_there (suc n) (y ∷ xs) zero x h = h
take_there (suc n) (y ∷ xs) (suc i) x h = take_there n xs i x h

pub head_there : {X : Type 0} (n r : ℕ) (xs : List X) (i : ℕ) (x : X) → slice_get (take n xs ++ take r (drop n xs)) i ≡ Some x → slice_get xs i ≡ Some x
head_there zero r xs i x h = take_there r xs i x h
head_there (suc n) zero [] i x h = absurd (cc)
head_there (suc n) (suc r) [] i x h = absurd (cc)
head_there (suc n) r (y ∷ xs) zero x h = h
head_there (suc n) r (y ∷ xs) (suc i) x h = head_there n r xs i x h

pub map_append : {X Y : Type 0} (f : X → Y) (xs ys : List X) → map f (xs ++ ys) ≡ map f xs ++ map f ys
map_append f [] ys = refl
map_append f (x ∷ xs) ys = ap (λ zs. f x ∷ zs) (map_append f xs ys)

pub there_split : {X : Type 0} (xs ys : List X) (n : ℕ) (x : X) → slice_get (xs ++ ys) n ≡ Some x → (slice_get xs n ≡ Some x) ⊎ ((j : ℕ) × (n ≡ length xs + j) × (slice_get ys j ≡ Some x))
there_split [] ys n x h = inr (n, omega (arith), h)
there_split (y ∷ xs) ys zero x h = inl h
there_split (y ∷ xs) ys (suc n) x h = elim (there_split xs ys n x h) [ inl a ↦ inl a | inr a ↦ inr (a.0, (let e = a.1 in omega (arith, e)), a.2) ]

pub next_item : {X : Type 0} (xs : List X) (i : ℕ) (x : X) → i < length xs → x ≡ get_or xs i x → drop i xs ≡ x ∷ drop (i + 1) xs
next_item xs i x lt is = rw add-one (drop-cons xs i x lt ∙ ap (λ y. y ∷ drop (suc i) xs) (sym is))

pub next_number : (xs : List ℕ) (i : ℕ) → i < length xs → drop i xs ≡ get_or xs i 0 ∷ drop (i + 1) xs
next_number xs i lt = rw add-one (drop-cons xs i 0 lt)

pub none_left : {X : Type 0} (xs : List X) (i : ℕ) → length xs ≤ i → drop i xs ≡ []
none_left xs i h = drop_of_length-le xs h

pub there_left : {X : Type 0} (xs ys : List X) (i : ℕ) (x : X) → slice_get xs i ≡ Some x → slice_get (xs ++ ys) i ≡ Some x
there_left [] ys i x h = absurd (cc)
there_left (z ∷ xs) ys zero x h = h
there_left (z ∷ xs) ys (suc i) x h = there_left xs ys i x h

pub item_there : {X : Type 0} (xs : List X) (i : ℕ) → i < length xs → (x : X) × (slice_get xs i ≡ Some x)
item_there [] i h = absurd (omega (arith, h))
item_there (x ∷ xs) zero h = (x, refl)
item_there (x ∷ xs) (suc i) h = item_there xs i (omega (arith, h))

pub each_there : {X : Type 0} (P : X → Type 0) (xs : List X) → ((n : ℕ) (x : X) → slice_get xs n ≡ Some x → P x) → All P xs
each_there P [] h = All-nil P
each_there P (x ∷ xs) h = All-cons P x xs (h 0 x refl) (each_there P xs (λ n y there. h (suc n) y there))

pub at_item : {X : Type 0} (P : X → Type 0) (xs : List X) → All P xs → (k : ℕ) (x : X) → slice_get xs k ≡ Some x → P x
at_item P xs all k x is = subst P (get_or_from_slice_get xs k x x is) (all k x (slice_get_within xs k x is))

pub map_taken : {X Y : Type 0} (f : X → Y) (n : ℕ) (xs : List X) → map f (take n xs) ≡ take n (map f xs)
map_taken f zero [] = refl
map_taken f zero (x ∷ xs) = refl
map_taken f (suc n) [] = refl
map_taken f (suc n) (x ∷ xs) = ap (λ ys. f x ∷ ys) (map_taken f n xs)

pub none_at : {A : Type 0} (xs : List A) (i : ℕ) → length xs ≤ i → i ≤ length xs → drop i xs ≡ []
none_at xs i above below = let end : i ≡ length xs = omega arith in rw end (drop-length xs)

pub all_at : {X : Type 0} (P : X → Type 0) (xs : List X) (n : ℕ) (x : X) → All P xs → slice_get xs n ≡ Some x → P x
all_at P xs n x h e = subst P (get_or_from_slice_get xs n x x e) (h n x (slice_get_within xs n x e))

-- what a loop reads at an index is the element there
pub item_at : {X : Type 0} (xs : List X) (i : ℕ) (x : X) → i < length xs → x ≡ get_or xs i x → slice_get xs i ≡ Some x
item_at [] i x lt e = absurd (omega arith)
item_at (y ∷ ys) zero x lt e = ap (λ z. Some z) (sym e)
item_at (y ∷ ys) (suc i) x lt e = item_at ys i x (omega arith) e

-- the element at an index ends the front through it
pub take_through : {X : Type 0} (xs : List X) (i : ℕ) (x : X) → slice_get xs i ≡ Some x → take (i + 1) xs ≡ take i xs ++ x ∷ []
take_through [] i x h = cc
take_through (y ∷ ys) zero x h = cc
take_through (y ∷ ys) (suc i) x h = rw (add-one (suc i)) (ap (λ zs. y ∷ zs) (rw (add-one i) at (take_through ys i x h)))

pub same_head : {x y : ℕ} {xs ys : List ℕ} → x ∷ xs ≡ y ∷ ys → x ≡ y
same_head h = cc

pub same_tail : {x y : ℕ} {xs ys : List ℕ} → x ∷ xs ≡ y ∷ ys → xs ≡ ys
same_tail h = cc

pub cons_same : {x y : ℕ} {xs ys : List ℕ} → x ≡ y → xs ≡ ys → x ∷ xs ≡ y ∷ ys
cons_same {y = y} {xs = xs} e f = ap (λ z. z ∷ xs) e ∙ ap (λ zs. y ∷ zs) f

pub list_all_append : (p : ℕ → Bool) (xs ys : List ℕ) → list_all p xs ≡ true → list_all p ys ≡ true → list_all p (xs ++ ys) ≡ true
list_all_append p [] ys a b = b
list_all_append p (x ∷ xs) ys a b =
    let parts = and_parts (p x) (list_all p xs) a in
    and_from (p x) (list_all p (xs ++ ys)) parts.0 (list_all_append p xs ys parts.1 b)

pub no_longer_at : (b : Bool) (n m : ℕ) (ys : List (List ℕ)) (y : List ℕ) → length ys ≤ n → length (if b then ys else (y ∷ ys)) ≤ suc n
no_longer_at true n m ys y le = omega (arith, le)
no_longer_at false n m ys y le = omega (arith, le)

pub shorter_at : (b c : Bool) (n : ℕ) (ys : List (List ℕ)) (y : List ℕ) → (b || c) ≡ true → length ys ≤ n → (c ≡ true → length ys < n) → length (if b then ys else (y ∷ ys)) < suc n
shorter_at true c n ys y e le lt = omega (arith, le)
shorter_at false c n ys y e le lt = let h = lt e in omega (arith, h)

pub same_rest : {x : ℕ} {xs ys : List ℕ} → x ∷ xs ≡ x ∷ ys → xs ≡ ys
same_rest h = cc

pub fewer_at : (b : Bool) (n : ℕ) (x : List ℕ) (xs : List (List ℕ)) → length xs ≤ n → length (if b then (x ∷ xs) else xs) ≤ suc n
fewer_at true n x xs le = omega (arith, le)
fewer_at false n x xs le = omega (arith, le)

pub same_behind : (xs : List ℕ) {ys zs : List ℕ} → xs ++ ys ≡ xs ++ zs → ys ≡ zs
same_behind [] h = h
same_behind (x ∷ xs) h = same_behind xs (same_rest h)

pub in_front : (o u a v : List ℕ) → o ++ u ++ a ++ v ≡ o ++ (u ++ a ++ v)
in_front o u a v = ap (λ x. x ++ v) (append_assoc o u a) ∙ append_assoc o (u ++ a) v

pub set_length : {X : Type 0} (xs : List X) (i : ℕ) (x : X) → length (slice_set xs i x) ≡ length xs
set_length [] i x = refl
set_length (y ∷ xs) zero x = refl
set_length (y ∷ xs) (suc i) x = ap suc (set_length xs i x)

pub there_right : {X : Type 0} (xs ys : List X) (i : ℕ) → slice_get (xs ++ ys) (length xs + i) ≡ slice_get ys i
there_right [] ys i = let e : 0 + i ≡ i = omega arith in ap (slice_get ys) e
there_right (x ∷ xs) ys i = let e : suc (length xs) + i ≡ suc (length xs + i) = omega arith in ap (slice_get ((x ∷ xs) ++ ys)) e ∙ there_right xs ys i

-- what holds of as many as there are holds of all
pub all_taken : {X : Type 0} (P : X → Type 0) (xs : List X) (i : ℕ) → length xs ≤ i → All P (take i xs) → All P xs
all_taken P xs i h a = subst (All P) (take_all i xs h) a

pub zip_length : {A B : Type 0} (R : A → B → Type 0) (xs : List A) (ys : List B) → AllZip R xs ys → length xs ≡ length ys
zip_length R [] [] h = refl
zip_length R [] (y ∷ ys) h = absurd h
zip_length R (x ∷ xs) [] h = absurd h
zip_length R (x ∷ xs) (y ∷ ys) h = omega (arith, zip_length R xs ys h.1)

pub no_items : {X : Type 0} (xs : List X) → length xs ≡ 0 → xs ≡ []
no_items [] h = refl
no_items (x ∷ xs) h = absurd (omega (arith, h))

pub set_there : {X : Type 0} (xs : List X) (i : ℕ) (x : X) → slice_get xs i ≡ Some x → slice_set xs i x ≡ xs
set_there [] i x h = refl
set_there (y ∷ xs) zero x h = ap (λ z. z ∷ xs) (sym (same_Some _ _ h))
set_there (y ∷ xs) (suc i) x h = ap (λ zs. y ∷ zs) (set_there xs i x h)

pub drop_two : (a b : ℕ) (x y : List ℕ) → (a ∷ b ∷ x) ≡ (a ∷ b ∷ y) → x ≡ y
drop_two a b x y e = cc

pub zip_append : {A B : Type 0} (R : A → B → Type 0) (xs us : List A) (ys ws : List B) → AllZip R xs ys → AllZip R us ws → AllZip R (xs ++ us) (ys ++ ws)
zip_append R [] us [] ws h k = k
zip_append R (x ∷ xs) us (y ∷ ys) ws h k = (h.0, zip_append R xs us ys ws h.1 k)
zip_append R [] us (y ∷ ys) ws h k = absurd h
zip_append R (x ∷ xs) us [] ws h k = absurd h

pub get_middle : {X : Type 0} (before : List X) (x : X) (after : List X) → slice_get (before ++ x ∷ after) (length before) ≡ Some x
get_middle [] x after = refl
get_middle (y ∷ before) x after = get_middle before x after

pub all_left : {X : Type 0} (P : X → Type 0) (xs ys : List X) → All P (xs ++ ys) → All P xs
all_left P xs ys h = subst (λ zs. All P zs) (take_at xs ys (length xs) refl) (All-take P (length xs) (xs ++ ys) h)

pub all_right : {X : Type 0} (P : X → Type 0) (xs ys : List X) → All P (xs ++ ys) → All P ys
all_right P xs ys h = subst (λ zs. All P zs) (drop_at xs ys (length xs) refl) (All-drop P (length xs) (xs ++ ys) h)

pub mapped_at : {X Y : Type 0} (f : X → Y) (xs : List X) (i : ℕ) (x : X) → slice_get xs i ≡ Some x → slice_get (map f xs) i ≡ Some (f x)
mapped_at f xs i x there = slice_get-map f xs i ∙ ap (option_map f) there

pub drop_here : {X : Type 0} (us : List X) (p : ℕ) (x : X) → slice_get us p ≡ Some x → drop p us ≡ x ∷ drop (p + 1) us
drop_here [] p x e = cc
drop_here (u ∷ us) zero x e = let same : u ≡ x = cc in let one : 0 + 1 ≡ suc zero = omega arith in ap (λ z. z ∷ us) same ∙ ap (λ n. x ∷ drop n (u ∷ us)) (sym one)
drop_here (u ∷ us) (suc p) x e = let one : suc p + 1 ≡ suc (p + 1) = omega arith in drop_here us p x e ∙ ap (λ n. x ∷ drop n (u ∷ us)) (sym one)

pub front_at : {X : Type 0} (xs ys : List X) (x : ℕ) → x < length xs → slice_get (xs ++ ys) x ≡ slice_get xs x
front_at [] ys x h = absurd (omega (arith, h))
front_at (a ∷ xs) ys zero h = refl
front_at (a ∷ xs) ys (suc x) h = front_at xs ys x (omega (arith, h))

pub count : {T : Type 0} (f r : List T) → length (f ++ r) - length r ≡ length f
count f r = omega (arith, length-append f r)

pub front_taken : {T : Type 0} (f r : List T) → take (length (f ++ r) - length r) (f ++ r) ≡ f
front_taken f r = ap (λ n. take n (f ++ r)) (count f r) ∙ take-append_seam f r

pub named_more : {X Y : Type 0} (P : Y → Type 0) (f : X → Y) (xs : List X) (i : ℕ) (x : X) → i < length xs → x ≡ get_or xs i x → All P (map f (take i xs)) → P (f x) → All P (map f (take (i + 1) xs))
named_more P f xs i x within is so_far h =
    subst (All P) (sym (ap (map f) (take_more xs i x within ∙ ap (λ y. take i xs ++ y ∷ []) (sym is)) ∙ map_append f (take i xs) (x ∷ [])))
    (All-append P (map f (take i xs)) (f x ∷ []) so_far (All-cons P (f x) [] h (All-nil P)))

pub all_named : {X Y : Type 0} (P : Y → Type 0) (f : X → Y) (xs : List X) (i : ℕ) → length xs ≤ i → All P (map f (take i xs)) → All P (map f xs)
all_named P f xs i past h = subst (λ ys. All P (map f ys)) (take_all i xs past) h

-- what holds of each item by two facts
pub all_both : {X : Type 0} (P Q R : X → Type 0) → ((x : X) → P x → Q x → R x) → (xs : List X) → All P xs → All Q xs → All R xs
all_both P Q R go [] p q = All-nil R
all_both P Q R go (x ∷ xs) p q = All-cons R x xs (go x (All-head P x xs p) (All-head Q x xs q)) (all_both P Q R go xs (All-tail P x xs p) (All-tail Q x xs q))
