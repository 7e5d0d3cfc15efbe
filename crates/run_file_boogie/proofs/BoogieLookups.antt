-- The variables of a procedure, looked up by their numbers.
use Rattle.std.proofs.Common.{◌≡◌, ◌∙◌, ℕ, List, Option, Some, None, IfSome, is_some, length, get_or, map, slice_get, refl, sym, ap}
use Rattle.std.specs.Prelude.{nat_lt}
use Rattle.std.specs.Borrow.{Bor}
use Rattle.std.specs.Option.{option_map, option_copied}
use Rattle.std.proofs.lemmas.Option.{slice_get-map}
use Rattle.lemmas.proofs.Options.{looked_at}
use Rattle.boogie_tree.specs.Program as p
use Rattle.boogie_tree.specs.Whole.{local_of, locals_of}
use Rattle.boogie_tree.specs.declared.programs.Local.{Local}
use Rattle.run_file_boogie.specs.BoogieLines.{known}

copied : {A : Type 0} (f : p.Local → A) (o : Option (Bor Local)) → option_map (λ (x : Bor Local). f (local_of x.now)) o ≡ option_map f (option_map local_of (option_copied o))
copied f None = refl
copied f (Some x) = refl

looked_up : {A : Type 0} (f : p.Local → A) (o : Option (Bor Local)) (ls : List Local) (i : ℕ) → is_some o ≡ nat_lt i (length ls) → IfSome o (λ x. x.now ≡ get_or ls i x.now) →
    option_map (λ (x : Bor Local). f (local_of x.now)) o ≡ slice_get (map f (locals_of ls)) i
looked_up f o ls i is there =
    copied f o ∙ (ap (λ x. option_map f (option_map local_of x)) (looked_at o ls i is there) ∙ (ap (option_map f) (sym (slice_get-map local_of ls i)) ∙ sym (slice_get-map f (locals_of ls) i)))

pub local_type : (o : Option (Bor Local)) (ls : List Local) (i : ℕ) → is_some o ≡ nat_lt i (length ls) → IfSome o (λ x. x.now ≡ get_or ls i x.now) →
    option_map (λ (x : Bor Local). (local_of x.now).ty) o ≡ slice_get (known (locals_of ls)).types i
local_type o ls i is there = looked_up (λ (l : p.Local). l.ty) o ls i is there

pub local_name : (o : Option (Bor Local)) (ls : List Local) (i : ℕ) → is_some o ≡ nat_lt i (length ls) → IfSome o (λ x. x.now ≡ get_or ls i x.now) →
    option_map (λ (x : Bor Local). (local_of x.now).name) o ≡ slice_get (known (locals_of ls)).names i
local_name o ls i is there = looked_up (λ (l : p.Local). l.name) o ls i is there
