-- The name that is chosen for a bound variable is none of those that are taken.
use Rattle.std.proofs.Common.{◌≡◌, ◌∙◌, refl, sym, arith, ℕ, ◌+◌, ◌^◌, ◌<◌, ◌≤◌, false, true, List, [], ◌++◌, length, length-append, filter}
use Rattle.std.proofs.lemmas.Fmt.{decimal_injective}
use Rattle.std.proofs.lemmas.Bool.{or_parts}
use Rattle.lemmas.proofs.Lists.{same_rest}
use Rattle.vb_base.specs.Names.{is_name}
use Rattle.boogie_grammar.specs.Words.{is_among, is_reserved}
use Rattle.boogie_grammar.specs.Printed.{bound_name, free_number, free_name, is_q}
use Rattle.boogie_grammar.proofs.NamingLaws.{either}
use Rattle.boogie_grammar.proofs.WrittenRows.{bound_form}
use Rattle.boogie_print.proofs.NumberedNames as numbered

one_bound : (m n : ℕ) → m < 2 ^ 64 → n < 2 ^ 64 → bound_name m ≡ bound_name n → m ≡ n
one_bound m n lt k e = decimal_injective m n lt k (same_rest e)

pub free_is_new : (all : List (List ℕ)) → length all < 2 ^ 64 → is_among (free_name all) all ≡ false
free_is_new all small = numbered.free_is_new bound_name free_number (λ n a. refl) (λ k n a. refl) (2 ^ 64) one_bound 0 all (omega (arith, small))

pub free_form : (all : List (List ℕ)) → length all < 2 ^ 64 → is_name (free_name all) ≡ true
free_form all small =
    bound_form (free_number (length all) 0 all)
    (let h = (numbered.free_within bound_name free_number (λ n a. refl) (λ k n a. refl) (length all) 0 all).1 in omega (arith, h, small))

pub bound_is_free : (n : ℕ) → is_reserved (bound_name n) ≡ false
bound_is_free n = refl

pub free_parts : (taken chosen : List (List ℕ)) → length taken + length chosen < 2 ^ 64 → (is_among (free_name (taken ++ chosen)) taken ≡ false) × (is_among (free_name (taken ++ chosen)) chosen ≡ false)
free_parts taken chosen few =
    let q = free_name (taken ++ chosen) in
    let l = length-append taken chosen in
    or_parts (is_among q taken) (is_among q chosen) (sym (either q taken chosen) ∙ free_is_new (taken ++ chosen) (omega (arith, l, few)))

-- the names that are looked at are all that matter

pub fewer : (names : List (List ℕ)) → length (filter is_q names) ≤ length names
fewer names = numbered.fewer is_q names

pub avoided : (n : ℕ) (names : List (List ℕ)) → is_among (bound_name n) (filter is_q names) ≡ false → is_among (bound_name n) names ≡ false
avoided n names h = numbered.avoided is_q (bound_name n) refl names h
