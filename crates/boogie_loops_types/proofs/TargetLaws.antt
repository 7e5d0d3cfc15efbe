-- No argument and no target is left just where no type is.
use Rattle.std.proofs.Common.{◌≡◌, ℕ, ◌-◌, ◌≤◌, ◌<◌, drop_of_length-le, Bool as Truth, true, false, List, [], ◌∷◌, drop, length, length-drop, nat_eq, refl, sym, ap, ◌∙◌, arith}
use Rattle.std.proofs.lemmas.Bool.{false_from_ne_true}
use Rattle.std.proofs.lemmas.Bool.Decides.{Decides-eqb}
use Rattle.boogie_tree.specs.Expr as t
use Rattle.boogie_tree.specs.Program.{BType}
use Rattle.boogie_tree.specs.declared.programs.Local.{Local}
use Rattle.boogie_types.specs.Typed.{types_in}
use Rattle.boogie_loops.specs.WideTypes.{are_arguments, are_targets}

abbrev none : List Local → Truth
none [] = true
none (l ∷ ls) = false

none_left-step : (n : ℕ) (ws d : List Local) → n ≤ length ws → length d ≡ length ws - n → none d ≡ nat_eq n (length ws)
none_left-step n ws [] h e = sym ((Decides-eqb n (length ws)).1 (omega (arith, h, e)))
none_left-step n ws (w ∷ rest) h e = sym (false_from_ne_true (nat_eq n (length ws)) (λ t. let s = (Decides-eqb n (length ws)).0 t in absurd (omega (arith, h, e, s))))

none_left : (n : ℕ) (ws : List Local) → n ≤ length ws → none (drop n ws) ≡ nat_eq n (length ws)
none_left n ws h = none_left-step n ws (drop n ws) h (length-drop n ws)

arguments_none : (ls : List BType) (ws : List Local) → are_arguments ls t.none (types_in ws) ≡ none ws
arguments_none ls [] = refl
arguments_none ls (w ∷ ws) = refl

targets_none : (ls : List BType) (ws : List Local) → are_targets ls [] (types_in ws) ≡ none ws
targets_none ls [] = refl
targets_none ls (w ∷ ws) = refl

pub arguments_end : (ls : List BType) (n : ℕ) (ws : List Local) → n ≤ length ws → are_arguments ls t.none (types_in (drop n ws)) ≡ nat_eq n (length ws)
arguments_end ls n ws h = arguments_none ls (drop n ws) ∙ none_left n ws h

pub targets_end : (ls : List BType) (n : ℕ) (ws : List Local) → n ≤ length ws → are_targets ls [] (types_in (drop n ws)) ≡ nat_eq n (length ws)
targets_end ls n ws h = targets_none ls (drop n ws) ∙ none_left n ws h

too_many : (ls : List BType) (is : List ℕ) → 0 < length is → are_targets ls is [] ≡ false
too_many ls [] h = absurd (omega (arith, h))
too_many ls (i ∷ is) h = refl

-- a target without a return
pub targets_past : (ls : List BType) (is : List ℕ) (i n : ℕ) (ws : List Local) → i < length is → length ws ≤ n → are_targets ls (drop i is) (types_in (drop n ws)) ≡ false
targets_past ls is i n ws below h =
    let long = length-drop i is in
    ap (λ ys. are_targets ls (drop i is) (types_in ys)) (drop_of_length-le ws h) ∙ too_many ls (drop i is) (omega (arith, below, long))
