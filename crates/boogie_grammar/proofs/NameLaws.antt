-- Names that are not reserved, and the numbers of variables.
use Rattle.std.proofs.Common.{◌≡◌, ℕ, suc, ◌+◌, ◌<◌, Bool, true, false, not, ◌&&◌, ◌||◌, List, [], ◌∷◌, length, replicate, Option, Some, None, if◌then◌else◌, refl, sym, ap, subst, arith}
use Rattle.std.specs.Option.{option_map}
use Rattle.std.specs.Str.{bytes_eq}
use Rattle.std.proofs.lemmas.Slice.Eq.{bytes_eq-Decides}
use Rattle.std.proofs.lemmas.Bool.{and_parts, or_left, or_right, or_from}
use Rattle.std.proofs.lemmas.List.{length-replicate}
use Rattle.boogie_grammar.specs.Words.{is_among, is_reserved, reserved}
use Rattle.boogie_grammar.specs.Tests.{number_of, some_free}

-- a bound on the lengths of names
abbrev pub total : List (List ℕ) → ℕ
total [] = 0
total (x ∷ xs) = length x + total xs

-- whether no name is longer
abbrev pub all_short : ℕ → List (List ℕ) → Type 0
all_short n [] = Unit {0}
all_short n (x ∷ xs) = (length x < n) × all_short n xs

differs : (b : Bool) (x y : List ℕ) → bytes_eq x y ≡ b → length y < length x → b ≡ false
differs true x y e lt = let same : x ≡ y = (bytes_eq-Decides x y).0 e in let l : length x ≡ length y = ap length same in absurd (omega arith)
differs false x y e lt = refl

pub too_long : (x : List ℕ) (xs : List (List ℕ)) → all_short (length x) xs → is_among x xs ≡ false
too_long x [] h = refl
too_long x (y ∷ ys) h = or_from (bytes_eq x y) (is_among x ys) (differs (bytes_eq x y) x y refl h.0) (too_long x ys h.1)

short_total : (n : ℕ) (xs : List (List ℕ)) → total xs < n → all_short n xs
short_total n [] h = tt
short_total n (x ∷ xs) h = (omega arith, short_total n xs (omega arith))

-- a name that is not reserved, and none of these
pub new_name : List (List ℕ) → List ℕ
new_name xs = replicate (200 + total xs) 113

new_length : (xs : List (List ℕ)) → length (new_name xs) ≡ 200 + total xs
unfolding new_name
new_length xs = length-replicate (200 + total xs) 113

pub new_is_free : (xs : List (List ℕ)) → is_reserved (new_name xs) ≡ false
new_is_free xs =
    let long : total reserved < length (new_name xs) = let l = new_length xs in omega arith in
    too_long (new_name xs) reserved (short_total (length (new_name xs)) reserved long)

pub new_is_new : (xs : List (List ℕ)) → is_among (new_name xs) xs ≡ false
new_is_new xs =
    let long : total xs < length (new_name xs) = let l = new_length xs in omega arith in
    too_long (new_name xs) xs (short_total (length (new_name xs)) xs long)

-- a variable that can be named

pub record Named (names : List (List ℕ)) : Type 0 where
  pub name : List ℕ
  pub number : ℕ
  pub free : is_reserved name ≡ false
  pub there : number_of name names ≡ Some number

named_first : (x : List ℕ) (xs : List (List ℕ)) → is_reserved x ≡ false → Named (x ∷ xs)
named_first x xs free =
    record { name = x; number = 0; free = free; there = subst (λ b. (if b then Some 0 else option_map suc (number_of x xs)) ≡ Some 0) (sym ((bytes_eq-Decides x x).1 refl)) refl }

number_later : (b : Bool) (o : Option ℕ) (i : ℕ) → o ≡ Some i → (j : ℕ) × ((if b then Some 0 else option_map suc o) ≡ Some j)
number_later true o i e = (0, refl)
number_later false o i e = (suc i, ap (option_map suc) e)

named_later : (x : List ℕ) (xs : List (List ℕ)) → Named xs → Named (x ∷ xs)
named_later x xs n =
    let j = number_later (bytes_eq n.name x) (number_of n.name xs) n.number n.there in
    record { name = n.name; number = j.0; free = n.free; there = j.1 }

some_named_at : (x : List ℕ) (xs : List (List ℕ)) (b : Bool) → is_reserved x ≡ b → (not b || some_free xs) ≡ true → (some_free xs ≡ true → Named xs) → Named (x ∷ xs)
some_named_at x xs false e h ih = named_first x xs e
some_named_at x xs true e h ih = named_later x xs (ih h)

pub some_named : (names : List (List ℕ)) → some_free names ≡ true → Named names
some_named [] h = absurd (cc)
some_named (x ∷ xs) h = some_named_at x xs (is_reserved x) refl h (some_named xs)

-- what has a number is there

there_at : (b : Bool) (o : Option ℕ) (c : Bool) (i : ℕ) → (if b then Some 0 else option_map suc o) ≡ Some i → ((j : ℕ) → o ≡ Some j → c ≡ true) → (b || c) ≡ true
there_at true o c i e ih = refl
there_at false (Some j) c i e ih = ih j refl
there_at false None c i e ih = absurd (cc)

pub there : (x : List ℕ) (names : List (List ℕ)) (i : ℕ) → number_of x names ≡ Some i → is_among x names ≡ true
there x [] i e = absurd (cc)
there x (y ∷ ys) i e = there_at (bytes_eq x y) (number_of x ys) (is_among x ys) i e (λ j h. there x ys j h)

-- where a name that is not reserved is among these, some name is free

free_among_at : (x y : List ℕ) (b c : Bool) (some : Bool) → is_reserved x ≡ false → bytes_eq x y ≡ b → (b || c) ≡ true → (c ≡ true → some ≡ true) → (not (is_reserved y) || some) ≡ true
free_among_at x y true c some free e h rest =
    or_left (not (is_reserved y)) some (ap not (subst (λ z. is_reserved z ≡ false) ((bytes_eq-Decides x y).0 e) free))
free_among_at x y false c some free e h rest = or_right (not (is_reserved y)) some (rest h)

pub free_among : (x : List ℕ) (names : List (List ℕ)) → is_reserved x ≡ false → is_among x names ≡ true → some_free names ≡ true
free_among x [] free h = absurd (cc)
free_among x (y ∷ ys) free h = free_among_at x y (bytes_eq x y) (is_among x ys) (some_free ys) free refl h (free_among x ys free)

-- where a name that is not reserved has a number, some name is free
pub numbered_is_free : (x : List ℕ) (names : List (List ℕ)) (i : ℕ) → is_reserved x ≡ false → number_of x names ≡ Some i → some_free names ≡ true
numbered_is_free x names i free h = free_among x names free (there x names i h)

-- a new name is neither reserved nor among these

pub free_bound : (q : List ℕ) (locals : List (List ℕ)) → (not (is_reserved q) && not (is_among q locals)) ≡ true → (is_reserved q ≡ false) × (is_among q locals ≡ false)
free_bound q locals h = let p = and_parts _ _ h in (from_not _ p.0, from_not _ p.1) where
  from_not : (b : Bool) → not b ≡ true → b ≡ false
  from_not true e = cc
  from_not false e = refl
