-- The longest row of bytes of one kind in front of others.
use Rattle.std.proofs.Common.{◌≡◌, ◌∙◌, ◌+◌, ℕ, suc, List, [], ◌∷◌, ◌++◌, Bool, true, length, arith}
use Rattle.std.proofs.lemmas.Bool.{and_parts, cond-true}
use Rattle.std.proofs.Math.Seq.{take-append_seam, drop-append_seam}
use Rattle.std.specs.List.{prefix_len, list_all}
use Rattle.vb_base.specs.Rows.{front, behind}

pub prefix_len-append : (p : ℕ → Bool) (xs rest : List ℕ) → list_all p xs ≡ true → prefix_len p rest ≡ 0 → prefix_len p (xs ++ rest) ≡ length xs
prefix_len-append p [] rest all ends = ends
prefix_len-append p (x ∷ xs) rest all ends =
    let parts = and_parts (p x) (list_all p xs) all in
    let more : prefix_len p (xs ++ rest) ≡ length xs = prefix_len-append p xs rest parts.1 ends in
    let one_more : 1 + prefix_len p (xs ++ rest) ≡ suc (length xs) = omega (arith, more) in
    cond-true (p x) (1 + prefix_len p (xs ++ rest)) 0 parts.0 ∙ one_more

pub front-append : (p : ℕ → Bool) (xs rest : List ℕ) → list_all p xs ≡ true → prefix_len p rest ≡ 0 → front p (xs ++ rest) ≡ xs
front-append p xs rest all ends = rw (prefix_len-append p xs rest all ends) (take-append_seam xs rest)

pub behind-append : (p : ℕ → Bool) (xs rest : List ℕ) → list_all p xs ≡ true → prefix_len p rest ≡ 0 → behind p (xs ++ rest) ≡ rest
behind-append p xs rest all ends = rw (prefix_len-append p xs rest all ends) (drop-append_seam xs rest)
