-- The arms of an `if`, from the last to the first.
use Rattle.std.proofs.Common.{◌≡◌, ◌∙◌, ap, sym, refl, List, [], ◌∷◌, ◌++◌, Some, map}
use Rattle.std.proofs.lemmas.List.{map-append}
use Rattle.viper_core.specs.View.{expr_of, stmts_of}
use Rattle.viper_core.specs.declared.stmts.Stmt.{Stmt}
use Rattle.viper_types.specs.declared.statements.TypedArm.{TypedArm}
use Rattle.viper_types.specs.Answers.{branch_of}
use Rattle.viper_core.specs.Stmt as c
use Rattle.viper_types.specs.Stepping.{Branch, nested, alone}

-- these arms, and a statement alone in the second block of the last
abbrev pub nested_onto : List Branch → c.Stmt → c.Stmt
nested_onto [] x = x
nested_onto (b ∷ bs) x = c.If b.at b.condition b.body (c.next (nested_onto bs x) c.skip)

pub nested-last : (bs : List Branch) (b : Branch) (other : c.Stmts) → nested (bs ++ b ∷ []) other ≡ Some (nested_onto bs (c.If b.at b.condition b.body other))
nested-last [] b other = refl
nested-last (d ∷ bs) b other = ap (λ o. Some (c.If d.at d.condition d.body (alone o other))) (nested-last bs b other)

pub nested_onto-last : (bs : List Branch) (b : Branch) (x : c.Stmt) → nested_onto (bs ++ b ∷ []) x ≡ nested_onto bs (c.If b.at b.condition b.body (c.next x c.skip))
nested_onto-last [] b x = refl
nested_onto-last (d ∷ bs) b x = ap (λ y. c.If d.at d.condition d.body (c.next y c.skip)) (nested_onto-last bs b x)

-- the last arm is taken first
pub last_taken : (all rest : List TypedArm) (arm : TypedArm) (other : c.Stmts) (x : c.Stmt) → all ≡ rest ++ arm ∷ [] →
    x ≡ c.If arm.at (expr_of arm.condition) (stmts_of arm.body.items) other → nested (map branch_of all) other ≡ Some (nested_onto (map branch_of rest) x)
last_taken all rest arm other x is made =
    ap (λ bs. nested (map branch_of bs) other) is ∙ ap (λ bs. nested bs other) (map-append branch_of rest (arm ∷ [])) ∙
    nested-last (map branch_of rest) (branch_of arm) other ∙ ap (λ y. Some (nested_onto (map branch_of rest) y)) (sym made)

-- and then the one before
pub next_taken : (all rest : List TypedArm) (arm : TypedArm) (second : List Stmt) (x y : c.Stmt) → all ≡ rest ++ arm ∷ [] → stmts_of second ≡ c.next x c.skip →
    y ≡ c.If arm.at (expr_of arm.condition) (stmts_of arm.body.items) (stmts_of second) → nested_onto (map branch_of all) x ≡ nested_onto (map branch_of rest) y
next_taken all rest arm second x y is one made =
    ap (λ bs. nested_onto (map branch_of bs) x) is ∙ ap (λ bs. nested_onto bs x) (map-append branch_of rest (arm ∷ [])) ∙
    nested_onto-last (map branch_of rest) (branch_of arm) x ∙
    ap (λ ss. nested_onto (map branch_of rest) (c.If arm.at (expr_of arm.condition) (stmts_of arm.body.items) ss)) (sym one) ∙
    ap (nested_onto (map branch_of rest)) (sym made)
