-- What a shelf tells of the files that are read.
use Rattle.std.proofs.Common.{◌≡◌, ◌∙◌, ◌+◌, ◌<◌, ℕ, List, length, replicate, Option, Some, None, Result, Err, sym, arith}
use Rattle.std.proofs.lemmas.List.{length-replicate}
use Rattle.vb_outer.specs.Shelf.{Files, IsFile, IsMissing, IsWhole, IsLonger}

-- errors are what the results hold
pub error_is : {T E : Type 0} {r : Result T E} {d e : E} → r ≡ Err d → r ≡ Err e → d ≡ e
error_is {d = d} {e = e} first other = let same : Err d ≡ Err e = sym first ∙ other in cc

-- a file has the same bytes each time
pub same_file : (files : Option Files) (file a b : List ℕ) → IsFile files file a → IsWhole files file b → a ≡ b
same_file None file a b is also = absurd is
same_file (Some files) file a b is also = let e : Some a ≡ Some b = sym is ∙ also in cc

pub not_missing : (files : Option Files) (file a : List ℕ) → IsWhole files file a → IsMissing files file → ⊥
not_missing None file a is missing = missing
not_missing (Some files) file a is missing = let e : Some a ≡ None = sym is ∙ missing in absurd (cc)

-- some bytes that are too long
pub long_bytes : (files : Option Files) (name : List ℕ) (limit : ℕ) → IsLonger files name limit → (bytes : List ℕ) × IsWhole files name bytes × (limit < length bytes)
long_bytes None name limit longer = (replicate (limit + 1) 0, tt, omega (arith, length-replicate {A = ℕ} (limit + 1) 0))
long_bytes (Some files) name limit longer = longer
