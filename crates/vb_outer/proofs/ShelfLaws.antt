-- Laws of what is taken in several calls.
use Rattle.std.proofs.Common.{◌≡◌, ℕ, ◌≤◌, List, [], ◌++◌, length, take, Option, None, Some, Result, Ok, Err, IfOk, refl, sym, ap, ◌∙◌, append_assoc, arith, length-append}
use Rattle.std.specs.Io.KnownBytes.{prepend_known}
use Rattle.std.proofs.lemmas.List.{length-take-le}
use Rattle.vb_outer.specs.Shelf.{Takes, IsClosed, Reads}

prepend_known-nil : (left : Option (List ℕ)) → left ≡ prepend_known [] left
prepend_known-nil None = refl
prepend_known-nil (Some bytes) = refl

prepend_known-append : (left : Option (List ℕ)) (first second : List ℕ) → prepend_known first (prepend_known second left) ≡ prepend_known (first ++ second) left
prepend_known-append None first second = refl
prepend_known-append (Some bytes) first second = ap Some (sym (append_assoc first second bytes))

-- where nothing changed, nothing was taken
pub takes_nothing : (before now : Option (List ℕ)) → now ≡ before → Takes before now []
takes_nothing before now same = sym same ∙ prepend_known-nil now

-- some bytes and then others
pub takes_both : (before between now : Option (List ℕ)) (first second : List ℕ) → Takes before between first → Takes between now second → Takes before now (first ++ second)
takes_both before between now first second one two =
    one ∙ ap (prepend_known first) two ∙ prepend_known-append now first second

none_of_none : (now : Option (List ℕ)) (bytes : List ℕ) → Takes (Some []) now bytes → length bytes ≡ 0
none_of_none None bytes is = cc
none_of_none (Some rest) bytes is =
    let whole : [] ≡ bytes ++ rest = cc in
    omega (arith, ap length whole, length-append bytes rest)

-- with no begun file a read gives nothing
pub closed_none : {E : Type 0} (before now : Option (List ℕ)) (result : Result ℕ E) (buf : List ℕ) → IsClosed before → IfOk result (λ n. n ≤ length buf) → Reads before now result buf → IfOk result (λ n. n ≡ 0)
closed_none before now (Ok n) buf closed bound reads =
    let taken : Takes (Some []) now (take n buf) = sym closed ∙ reads.0 in
    omega (arith, none_of_none now (take n buf) taken, length-take-le n buf bound)
closed_none before now (Err e) buf closed bound reads = tt
