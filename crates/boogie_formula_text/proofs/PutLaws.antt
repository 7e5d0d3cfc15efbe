-- What calls that write one after the other have written together.
use Rattle.std.proofs.Common.{◌≡◌, ◌∙◌, ◌++◌, ◌<◌, ◌≤◌, ◌+◌, sym, ap, ℕ, suc, List, [], ◌∷◌, length, get_or, drop, codes, add-one, append_assoc, drop-cons}
use Rattle.std.proofs.lemmas.List.{append-nil, at_drop_all}
use Rattle.lemmas.proofs.Lists.{in_front}
use Rattle.boogie_tree.specs.declared.exprs.BBase.{BBase}
use Rattle.boogie_grammar.specs.Printed as text
use Rattle.boogie_grammar.specs.Printed.{Naming, binders_text}
use Rattle.boogie_print.proofs.PutLaws.{two_steps}
use Rattle.boogie_formula.specs.Formula as f
use Rattle.boogie_formula.specs.View.{fexpr_of, fexprs_of}
use Rattle.boogie_formula.specs.declared.formulas.FExpr as e
use Rattle.boogie_formula_text.specs.Printed.{fexpr_text, fexprs_text}

-- a map, its keys and the new value

pub update_steps : {p q n : List ℕ} (o m u k v e w : List ℕ) → p ≡ o ++ [] ++ m ++ u → q ≡ p ++ k → n ≡ q ++ v ++ e ++ w → n ≡ o ++ (m ++ u ++ k ++ v ++ e ++ w)
update_steps o m u k v e w h i j =
    two_steps o (m ++ u) k v e w (i ∙ ap (λ x. x ++ k) (h ∙ ap (λ x. x ++ m ++ u) (append-nil o) ∙ append_assoc o m u)) j

-- an expression that a box or another name holds

pub same_end : (x : Naming) {n : List ℕ} (o : List ℕ) {d : e.FExpr} (a : e.FExpr) → d ≡ a → n ≡ o ++ fexpr_text x (fexpr_of d) → n ≡ o ++ fexpr_text x (fexpr_of a)
same_end x o a same h = h ∙ ap (λ y. o ++ fexpr_text x (fexpr_of y)) same

pub same_inside : (x : Naming) {n : List ℕ} (o w : List ℕ) {d : e.FExpr} (a : e.FExpr) → d ≡ a → n ≡ o ++ fexpr_text x (fexpr_of d) ++ w → n ≡ o ++ fexpr_text x (fexpr_of a) ++ w
same_inside x o w a same h = h ∙ ap (λ y. o ++ fexpr_text x (fexpr_of y) ++ w) same

-- a `forall`

pub forall_steps : (x : Naming) (us : List BBase) (a : f.FExpr) (o u v w : List ℕ) {p q m r n : List ℕ} {named names : List (List ℕ)} → p ≡ o ++ u → q ≡ p ++ binders_text [] named us →
    named ≡ text.bound_names x.taken [] us → m ≡ q ++ v → r ≡ m ++ fexpr_text (record { locals = x.locals; taken = x.taken; bound = names }) a → names ≡ text.bound_names x.taken [] us → n ≡ r ++ w →
    n ≡ o ++ u ++ binders_text [] (text.bound_names x.taken [] us) us ++ v ++ fexpr_text (text.under x us) a ++ w
forall_steps x us a o u v w {named = named} {names = names} h i same j k same_bound l =
    l ∙ ap (λ y. y ++ w) (k ∙ ap (λ y. y ++ fexpr_text (record { locals = x.locals; taken = x.taken; bound = names }) a) (j ∙ ap (λ y. y ++ v) (i ∙ ap (λ y. y ++ binders_text [] named us) h ∙ ap (λ y. o ++ u ++ binders_text [] y us) same))
    ∙ ap (λ y. o ++ u ++ binders_text [] (text.bound_names x.taken [] us) us ++ v ++ fexpr_text (record { locals = x.locals; taken = x.taken; bound = y }) a) same_bound)

-- a list of expressions

pub one_more_put : (x : Naming) (es : List e.FExpr) (i : ℕ) (a : e.FExpr) (o before : List ℕ) {n : List ℕ} → i < length es → a ≡ get_or es i a → n ≡ o ++ before ++ fexpr_text x (fexpr_of a) →
    n ++ fexprs_text x (codes ", ") (fexprs_of (drop (i + 1) es)) ≡ o ++ fexprs_text x before (fexprs_of (drop i es))
one_more_put x es i a o before lt is h =
    ap (λ y. y ++ fexprs_text x (codes ", ") (fexprs_of (drop (i + 1) es))) h ∙ in_front o before (fexpr_text x (fexpr_of a)) (fexprs_text x (codes ", ") (fexprs_of (drop (i + 1) es)))
    ∙ ap (λ k. o ++ fexprs_text x before (fexprs_of (a ∷ drop k es))) (add-one i)
    ∙ ap (λ y. o ++ fexprs_text x before (fexprs_of (y ∷ drop (suc i) es))) is
    ∙ sym (ap (λ y. o ++ fexprs_text x before (fexprs_of y)) (drop-cons es i a lt))

pub all_put : (x : Naming) (es : List e.FExpr) (i : ℕ) (o before : List ℕ) {w : List ℕ} → length es ≤ i → o ++ fexprs_text x before (fexprs_of (drop i es)) ≡ w → o ≡ w
all_put x es i o before le h = sym (append-nil o) ∙ sym (at_drop_all (λ y. o ++ fexprs_text x before (fexprs_of y)) es i le) ∙ h
