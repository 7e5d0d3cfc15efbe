-- Where the names differ, each file is found under its own name.
use Rattle.std.proofs.Common.{◌≡◌, ℕ, Bool, true, false, cond, List, [], ◌∷◌, Some, is_none, refl, sym, ap, ◌∙◌}
use Rattle.std.specs.List.{AllByRecursion}
use Rattle.std.specs.Str.{bytes_eq}
use Rattle.std.proofs.lemmas.Bool.{false≢true}
use Rattle.std.proofs.lemmas.Slice.Eq.{bytes_eq-Decides}
use Rattle.lemmas.proofs.Bytes.{same_itself}
use Rattle.lemmas.proofs.Tests.{and_parts as both}
use Rattle.vb_outer.specs.MemShelf.{file_named, names_differ}

abbrev File : Type 0
File = List ℕ × List ℕ

-- a file in front of another name changes nothing for the files behind
behind : (file : File) (files some : List File) → is_none (file_named files file.0) ≡ true → AllByRecursion (λ f. file_named files f.0 ≡ Some f.1) some → AllByRecursion (λ f. file_named (file ∷ files) f.0 ≡ Some f.1) some
behind file files [] none told = tt
behind file files (f ∷ fs) none told = (go (bytes_eq file.0 f.0) refl, behind file files fs none told.1)
  where
    go : (same : Bool) → bytes_eq file.0 f.0 ≡ same → cond same (Some file.1) (file_named files f.0) ≡ Some f.1
    go true e =
        let same : file.0 ≡ f.0 = (bytes_eq-Decides file.0 f.0).0 e in
        let clash : is_none (Some f.1) ≡ true = ap is_none (sym told.0) ∙ ap (λ name. is_none (file_named files name)) (sym same) ∙ none in
        absurd (false≢true clash)
    go false e = told.0

pub each_told : (files : List File) → names_differ files ≡ true → AllByRecursion (λ f. file_named files f.0 ≡ Some f.1) files
each_told [] differ = tt
each_told (file ∷ files) differ =
    let parts = both (is_none (file_named files file.0)) (names_differ files) differ in
    (ap (λ same. cond same (Some file.1) (file_named files file.0)) (same_itself file.0), behind file files files parts.0 (each_told files parts.1))
