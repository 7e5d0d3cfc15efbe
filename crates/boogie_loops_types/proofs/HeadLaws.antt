-- The parts of a procedure's head, as the code has them and as the definitions do.
use Rattle.std.proofs.Common.{◌≡◌, ◌∙◌, refl, sym, ap, ℕ, zero, suc, ◌+◌, List, [], ◌∷◌, Option, Some, Vec, map, take, drop}
use Rattle.std.specs.Option.{option_map}
use Rattle.std.specs.declared.alloc.Global.{Global}
use Rattle.std.proofs.Math.Seq.{take-add}
use Rattle.lemmas.proofs.Lists.{map_taken as taken}
use Rattle.boogie_tree.specs.Whole.{type_of}
use Rattle.boogie_tree.specs.declared.programs.Local.{Local}
use Rattle.boogie_types.specs.Typed.{types_in}
use Rattle.boogie_types.proofs.TypingLaws.{types_are}
use Rattle.boogie_loops.specs.Procedures.{wide_types, param_types, return_types, head_types}
use Rattle.boogie_loops.specs.Wide as w
use Rattle.boogie_loops.specs.View.{wproc_of, wstmts_of}
use Rattle.boogie_loops.specs.WideTypes.{is_wide, is_wide_body}
use Rattle.boogie_loops.specs.declared.wide.WStmt as stmt
use Rattle.boogie_loops.specs.declared.wide.WProc.{WProc}

dropped : {X Y : Type 0} (f : X → Y) (n : ℕ) (xs : List X) → map f (drop n xs) ≡ drop n (map f xs)
dropped f zero [] = refl
dropped f zero (x ∷ xs) = refl
dropped f (suc n) [] = refl
dropped f (suc n) (x ∷ xs) = dropped f n xs

module _ (d : WProc) where
  pub types_are_wide : {ls : List Local} → ls ≡ d.locals.items → types_in ls ≡ wide_types (wproc_of d)
  types_are_wide e = ap types_in e ∙ types_are d.locals.items

  pub param_is : {ls xs : List Local} → ls ≡ d.locals.items → xs ≡ take d.params ls → types_in xs ≡ param_types (wproc_of d)
  param_is {ls = ls} e f = ap types_in f ∙ taken (λ l. type_of l.ty) d.params ls ∙ ap (take d.params) (types_are_wide e)

  pub return_is : {ls ys xs : List Local} → ls ≡ d.locals.items → ys ≡ drop d.params ls → xs ≡ take d.returns ys → types_in xs ≡ return_types (wproc_of d)
  return_is {ls = ls} {ys = ys} e g f =
      ap types_in f ∙ taken (λ l. type_of l.ty) d.returns ys
      ∙ ap (take d.returns) (ap types_in g ∙ dropped (λ l. type_of l.ty) d.params ls ∙ ap (drop d.params) (types_are_wide e))

  pub head_is : {ls xs : List Local} → ls ≡ d.locals.items → xs ≡ take (d.params + d.returns) ls → types_in xs ≡ head_types (wproc_of d)
  head_is {ls = ls} e f =
      ap types_in f ∙ taken (λ l. type_of l.ty) (d.params + d.returns) ls ∙ ap (take (d.params + d.returns)) (types_are_wide e)
      ∙ take-add d.params d.returns (wide_types (wproc_of d))

  pub body_is : (ps : List w.WProc) (v : Vec stmt.WStmt Global) {ls : List Local} {xs : List stmt.WStmt} → d.body ≡ Some v → ls ≡ d.locals.items → xs ≡ v.items →
      is_wide ps (types_in ls) d.params (wstmts_of xs) ≡ is_wide_body ps (wide_types (wproc_of d)) d.params (wproc_of d).body
  body_is ps v is e g =
      (λ i. is_wide ps (types_are_wide e i) d.params (wstmts_of (g i)))
      ∙ sym (ap (λ (o : Option (Vec stmt.WStmt Global)). is_wide_body ps (wide_types (wproc_of d)) d.params (option_map (λ xs. wstmts_of xs.items) o)) is)
