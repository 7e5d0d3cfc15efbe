-- The Ref variables in scope.
use Rattle.std.proofs.Common.{◌≡◌, ◌∙◌, refl, sym, ap, ℕ, Bool, true, false, cond, List, [], ◌∷◌, ◌++◌, length, take, drop}
use Rattle.std.proofs.Math.Seq.{take-append_seam}
use Rattle.std.proofs.lemmas.List.{take-append-drop}
use Rattle.vb_value.specs.Value.{same_type}
use Rattle.vb_value.specs.declared.values.Ty.TheVariants as ty
use Rattle.viper_scope.specs.declared.context.Variable.{Variable}
use Rattle.viper_scope.specs.Scope.{VariableScope, ref_variables}

one_more : (b : Bool) (n : ℕ) (ns ms : List ℕ) → cond b (n ∷ ns ++ ms) (ns ++ ms) ≡ cond b (n ∷ ns) ns ++ ms
one_more true n ns ms = refl
one_more false n ns ms = refl

pub refs_append : (xs ys : VariableScope) → ref_variables (xs ++ ys) ≡ ref_variables xs ++ ref_variables ys
refs_append [] ys = refl
refs_append (x ∷ xs) ys =
    ap (λ ns. cond (same_type x.1.ty ty.Ref) (x.1.number ∷ ns) ns) (refs_append xs ys) ∙
    one_more (same_type x.1.ty ty.Ref) x.1.number (ref_variables xs) (ref_variables ys)

-- after a declaration
pub refs_declared : (sc now : VariableScope) (x : List ℕ) (v : Variable) → now ≡ sc ++ (x, v) ∷ [] →
    ref_variables now ≡ ref_variables sc ++ cond (same_type v.ty ty.Ref) (v.number ∷ []) []
refs_declared sc now x v is = ap ref_variables is ∙ refs_append sc ((x, v) ∷ [])

-- those of the first variables come first
pub refs_taken : (n : ℕ) (sc : VariableScope) → take (length (ref_variables (take n sc))) (ref_variables sc) ≡ ref_variables (take n sc)
refs_taken n sc =
    let first = ref_variables (take n sc) in
    ap (λ s. take (length first) (ref_variables s)) (sym (take-append-drop n sc)) ∙ ap (λ ns. take (length first) ns) (refs_append (take n sc) (drop n sc)) ∙
    take-append_seam first (ref_variables (drop n sc))
