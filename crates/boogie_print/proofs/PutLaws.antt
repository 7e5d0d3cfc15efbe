-- What calls that write one after the other have written together.
use Rattle.std.proofs.Common.{◌≡◌, ◌∙◌, ◌++◌, ◌<◌, ◌≤◌, ◌+◌, sym, ap, ℕ, suc, List, [], ◌∷◌, length, get_or, drop, codes, add-one, append_assoc, drop-cons}
use Rattle.std.proofs.lemmas.List.{append-nil, at_drop_all}
use Rattle.lemmas.proofs.Lists.{in_front as three}
use Rattle.boogie_tree.specs.declared.exprs.BBase.{BBase}
use Rattle.boogie_tree.specs.Expr as t
use Rattle.boogie_tree.specs.Whole.{expr_of, exprs_of}
use Rattle.boogie_tree.specs.declared.exprs.BExpr as e
use Rattle.boogie_grammar.specs.Printed as text
use Rattle.boogie_grammar.specs.Printed.{expr_text, exprs_text, binders_text}

and_then : {m : List ℕ} (o w z : List ℕ) → m ≡ o ++ w → m ++ z ≡ o ++ (w ++ z)
and_then o w z h = ap (λ x. x ++ z) h ∙ append_assoc o w z

-- a text behind another one, in each of a form's steps

pub two_steps : {p n : List ℕ} (o u a v b w : List ℕ) → p ≡ o ++ u ++ a → n ≡ p ++ v ++ b ++ w → n ≡ o ++ (u ++ a ++ v ++ b ++ w)
two_steps o u a v b w h i = i ∙ ap (λ m. m ++ v ++ b ++ w) (h ∙ append_assoc o u a) ∙ and_then o (u ++ a ++ v ++ b) w (three o (u ++ a) v b)

pub three_steps : {p q n : List ℕ} (o u a v b w c z : List ℕ) → p ≡ o ++ u ++ a → q ≡ p ++ v ++ b → n ≡ q ++ w ++ c ++ z → n ≡ o ++ (u ++ a ++ v ++ b ++ w ++ c ++ z)
three_steps o u a v b w c z h i j =
    two_steps o (u ++ a ++ v) b w c z (i ∙ ap (λ m. m ++ v ++ b) (h ∙ append_assoc o u a) ∙ ap (λ m. m ++ b) (append_assoc o (u ++ a) v)) j

-- a list between its brackets

pub row_steps : {p q n : List ℕ} (o u v a w : List ℕ) → p ≡ o ++ u ++ v → q ≡ p ++ a → n ≡ q ++ w → n ≡ o ++ (u ++ v ++ a ++ w)
row_steps o u v a w h i j = j ∙ ap (λ m. m ++ w) (i ∙ ap (λ m. m ++ a) h) ∙ and_then o (u ++ v ++ a) w (three o u v a)

-- an expression that a box or another name holds

pub same_end : (x : text.Naming) {n : List ℕ} (o : List ℕ) {d : e.BExpr} (a : e.BExpr) → d ≡ a → n ≡ o ++ expr_text x (expr_of d) → n ≡ o ++ expr_text x (expr_of a)
same_end x o a same h = h ∙ ap (λ y. o ++ expr_text x (expr_of y)) same

pub same_inside : (x : text.Naming) {n : List ℕ} (o w : List ℕ) {d : e.BExpr} (a : e.BExpr) → d ≡ a → n ≡ o ++ expr_text x (expr_of d) ++ w → n ≡ o ++ expr_text x (expr_of a) ++ w
same_inside x o w a same h = h ∙ ap (λ y. o ++ expr_text x (expr_of y) ++ w) same

-- a `forall`

pub forall_steps : (x : text.Naming) (us : List BBase) (a : t.BExpr) (o u v w : List ℕ) {p q m r n : List ℕ} {named names : List (List ℕ)} → p ≡ o ++ u → q ≡ p ++ binders_text [] named us →
    named ≡ text.bound_names x.taken [] us → m ≡ q ++ v → r ≡ m ++ expr_text (record { locals = x.locals; taken = x.taken; bound = names }) a → names ≡ text.bound_names x.taken [] us → n ≡ r ++ w →
    n ≡ o ++ u ++ binders_text [] (text.bound_names x.taken [] us) us ++ v ++ expr_text (text.under x us) a ++ w
forall_steps x us a o u v w {named = named} {names = names} h i same j k same_bound l =
    l ∙ ap (λ y. y ++ w) (k ∙ ap (λ y. y ++ expr_text (record { locals = x.locals; taken = x.taken; bound = names }) a) (j ∙ ap (λ y. y ++ v) (i ∙ ap (λ y. y ++ binders_text [] named us) h ∙ ap (λ y. o ++ u ++ binders_text [] y us) same))
    ∙ ap (λ y. o ++ u ++ binders_text [] (text.bound_names x.taken [] us) us ++ v ++ expr_text (record { locals = x.locals; taken = x.taken; bound = y }) a) same_bound)

-- a list of expressions

pub one_more_put : (x : text.Naming) (es : List e.BExpr) (i : ℕ) (a : e.BExpr) (o before : List ℕ) {n : List ℕ} → i < length es → a ≡ get_or es i a → n ≡ o ++ before ++ expr_text x (expr_of a) →
    n ++ exprs_text x (codes ", ") (exprs_of (drop (i + 1) es)) ≡ o ++ exprs_text x before (exprs_of (drop i es))
one_more_put x es i a o before lt is h =
    ap (λ y. y ++ exprs_text x (codes ", ") (exprs_of (drop (i + 1) es))) h ∙ three o before (expr_text x (expr_of a)) (exprs_text x (codes ", ") (exprs_of (drop (i + 1) es)))
    ∙ ap (λ k. o ++ exprs_text x before (exprs_of (a ∷ drop k es))) (add-one i)
    ∙ ap (λ y. o ++ exprs_text x before (exprs_of (y ∷ drop (suc i) es))) is
    ∙ sym (ap (λ y. o ++ exprs_text x before (exprs_of y)) (drop-cons es i a lt))

pub all_put : (x : text.Naming) (es : List e.BExpr) (i : ℕ) (o before : List ℕ) {w : List ℕ} → length es ≤ i → o ++ exprs_text x before (exprs_of (drop i es)) ≡ w → o ≡ w
all_put x es i o before le h = sym (append-nil o) ∙ sym (at_drop_all (λ y. o ++ exprs_text x before (exprs_of y)) es i le) ∙ h
