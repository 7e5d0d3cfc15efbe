-- The types of variables, of indices one after the other, and of procedures.
use Rattle.std.proofs.Common.{◌≡◌, ℕ, ◌+◌, ◌-◌, ◌≤◌, true, false, Some, List, [], ◌∷◌, ◌&&◌, map, drop, length, length-drop, nat_eq, refl, sym, ap, ◌∙◌, arith}
use Rattle.std.proofs.lemmas.Bool.{false_from_ne_true}
use Rattle.std.proofs.lemmas.Bool.Decides.{Decides-eqb}
use Rattle.boogie_tree.specs.declared.exprs.BBase.{BBase}
use Rattle.std.specs.Option.{option_map}
use Rattle.lemmas.proofs.Options.{number_after}
use Rattle.boogie_tree.specs.Program as p
use Rattle.boogie_tree.specs.Whole.{type_of, locals_of, stmts_of, proc_of}
use Rattle.boogie_tree.specs.declared.programs.Local.{Local}
use Rattle.boogie_tree.specs.declared.programs.Proc.{Proc}
use Rattle.boogie_tree.specs.declared.stmts.BStmt.{BStmt}
use Rattle.boogie_meaning.specs.Programs.{have_keys, is_typed_proc, ill_typed_among}
use Rattle.boogie_meaning.specs.Types.{is_typed}
use Rattle.boogie_types.specs.Typed.{types_in}
use Rattle.boogie_tree.specs.Values.{same_bases}

-- the types of the variables, in two ways
pub types_are : (ls : List Local) → types_in ls ≡ map (λ (l : p.Local). l.ty) (locals_of ls)
types_are [] = refl
types_are (l ∷ ls) = ap (λ us. type_of l.ty ∷ us) (types_are ls)

ended-step : (n : ℕ) (ws d : List BBase) → n ≤ length ws → length d ≡ length ws - n → same_bases [] d ≡ nat_eq n (length ws)
ended-step n ws [] h e = sym ((Decides-eqb n (length ws)).1 (omega (arith, h, e)))
ended-step n ws (w ∷ rest) h e = sym (false_from_ne_true (nat_eq n (length ws)) (λ t. let s = (Decides-eqb n (length ws)).0 t in absurd (omega (arith, h, e, s))))

-- no index is left just where no type is
pub ended : (n : ℕ) (ws : List BBase) → n ≤ length ws → same_bases [] (drop n ws) ≡ nat_eq n (length ws)
ended n ws h = ended-step n ws (drop n ws) h (length-drop n ws)

-- ---- procedures

-- what is told of the locals and the body of a procedure
pub proc_is : (d : Proc) {ks ls : List Local} {xs : List BStmt} → ks ≡ d.locals.items → ls ≡ d.locals.items → xs ≡ d.body.items →
    (have_keys (types_in ks) && is_typed (types_in ls) (stmts_of xs)) ≡ is_typed_proc (proc_of d)
proc_is d f h g =
    (λ i. have_keys (types_in (f i)) && is_typed (types_in (h i)) (stmts_of (g i)))
    ∙ ap (λ us. have_keys us && is_typed us (stmts_of d.body.items)) (types_are d.locals.items)

pub at_ill_typed : (n : ℕ) (d : Proc) (ds : List Proc) → is_typed_proc (proc_of d) ≡ false → option_map (λ m. n + m) (ill_typed_among (map proc_of (d ∷ ds))) ≡ Some (n + 1)
at_ill_typed n d ds h = rw h refl

pub at_typed : (n : ℕ) (d : Proc) (ds : List Proc) → is_typed_proc (proc_of d) ≡ true →
    option_map (λ m. n + m) (ill_typed_among (map proc_of (d ∷ ds))) ≡ option_map (λ m. (n + 1) + m) (ill_typed_among (map proc_of ds))
at_typed n d ds h = rw h (number_after n (ill_typed_among (map proc_of ds)))
