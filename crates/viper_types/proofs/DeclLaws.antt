-- What the next declaration, formal or clause adds to those so far.
use Rattle.std.proofs.Common.{◌≡◌, ◌∙◌, ap, sym, refl, ℕ, ◌+◌, ◌<◌, ◌≤◌, Bool, Option, List, [], ◌∷◌, length, get_or, drop, map}
use Rattle.std.proofs.lemmas.List.{at_drop_all}
use Rattle.lemmas.proofs.Lists.{next_item}
use Rattle.vb_base.specs.declared.places.Pos.{Pos}
use Rattle.viper_core.specs.Expr as e
use Rattle.viper_core.specs.Program as p
use Rattle.viper_syntax.specs.Decl as d
use Rattle.viper_syntax.specs.View.{decl_of, clause_of}
use Rattle.viper_syntax.specs.declared.decls.Decl.{Decl}
use Rattle.viper_syntax.specs.declared.decls.SClause.{SClause}
use Rattle.viper_scope.specs.declared.rules.Rule.{Rule}
use Rattle.viper_scope.specs.Answers.{Refuses}
use Rattle.viper_scope.specs.declared.rules.RuleFault.{RuleFault}
use Rattle.viper_scope.specs.Context.{World}
use Rattle.viper_scope.specs.Outcome.{Judged, Found, Broken, then_typed, then_more}
use Rattle.viper_scope.specs.Scope.{VariableScope}
use Rattle.viper_scope.proofs.Judged.{failed, refuses_along}
use Rattle.viper_types.specs.Declaring as j

-- a program so far, and declarations onto it
abbrev pub onto : Bool → World → List (Option e.Assertion) → p.Program → List d.Decl → Judged p.Program
onto lists w bodies g decls = then_typed (j.decls_typing lists w bodies decls) (λ xs. Found (j.assembled g xs))

assembled_more : (g : p.Program) (x : j.Declared) (js : Judged (List j.Declared)) →
    then_typed (then_more (Found x) js) (λ xs. Found (j.assembled g xs)) ≡ then_typed js (λ xs. Found (j.assembled (j.with_declared g x) xs))
assembled_more g x (Found xs) = refl
assembled_more g x (Broken at r) = refl

-- the next declaration is found
pub onto_more : (lists : Bool) (w : World) (bodies : List (Option e.Assertion)) (g : p.Program) (a : d.Decl) (rest : List d.Decl) (x : j.Declared) →
    j.decl_typing lists w bodies a ≡ Found x → onto lists w bodies g (a ∷ rest) ≡ onto lists w bodies (j.with_declared g x) rest
onto_more lists w bodies g a rest x h =
    ap (λ k. then_typed (then_more k (j.decls_typing lists w bodies rest)) (λ xs. Found (j.assembled g xs))) h ∙
    assembled_more g x (j.decls_typing lists w bodies rest)

-- the next declaration breaks a rule
pub onto_broken : (lists : Bool) (w : World) (bodies : List (Option e.Assertion)) (g : p.Program) (a : d.Decl) (rest : List d.Decl) (at : Pos) (r : Rule) →
    j.decl_typing lists w bodies a ≡ Broken at r → onto lists w bodies g (a ∷ rest) ≡ Broken at r
onto_broken lists w bodies g a rest at r h =
    ap (λ k. then_typed (then_more k (j.decls_typing lists w bodies rest)) (λ xs. Found (j.assembled g xs))) h

-- a turn of the loop over declarations
pub onto_next : (lists : Bool) (w : World) (bodies : List (Option e.Assertion)) (g after : p.Program) (decls : List Decl) (i : ℕ) (a : Decl) (x : j.Declared) → i < length decls → a ≡ get_or decls i a →
    j.decl_typing lists w bodies (decl_of a) ≡ Found x → after ≡ j.with_declared g x → onto lists w bodies after (map decl_of (drop (i + 1) decls)) ≡ onto lists w bodies g (map decl_of (drop i decls))
onto_next lists w bodies g after decls i a x within is found with_it =
    ap (λ q. onto lists w bodies q (map decl_of (drop (i + 1) decls))) with_it ∙
    sym (ap (λ ds. onto lists w bodies g (map decl_of ds)) (next_item decls i a within is) ∙ onto_more lists w bodies g (decl_of a) (map decl_of (drop (i + 1) decls)) x found)

pub onto_refused : (lists : Bool) (w : World) (bodies : List (Option e.Assertion)) (g : p.Program) (decls : List Decl) (i : ℕ) (a : Decl) (f : RuleFault) → i < length decls → a ≡ get_or decls i a →
    Refuses (j.decl_typing lists w bodies (decl_of a)) f → Refuses (onto lists w bodies g (map decl_of (drop i decls))) f
onto_refused lists w bodies g decls i a f within is h =
    refuses_along f (ap (λ ds. onto lists w bodies g (map decl_of ds)) (next_item decls i a within is))
    (failed f (then_more (j.decl_typing lists w bodies (decl_of a)) (j.decls_typing lists w bodies (map decl_of (drop (i + 1) decls)))) _ (failed f (j.decl_typing lists w bodies (decl_of a)) _ h))

pub onto_end : (lists : Bool) (w : World) (bodies : List (Option e.Assertion)) (g : p.Program) (decls : List Decl) (i : ℕ) → length decls ≤ i → onto lists w bodies g (map decl_of (drop i decls)) ≡ Found g
onto_end lists w bodies g decls i over = at_drop_all (λ ds. onto lists w bodies g (map decl_of ds)) decls i over

-- the next clause, and those after it
pub next_clause : (w : World) (bodies : List (Option e.Assertion)) (params all : VariableScope) (items : List SClause) (i : ℕ) (a : SClause) → i < length items → a ≡ get_or items i a →
    j.clauses w bodies params all (map clause_of (drop i items)) ≡
    then_more (j.clause_of w bodies params all (clause_of a).word (clause_of a).term) (j.clauses w bodies params all (map clause_of (drop (i + 1) items)))
next_clause w bodies params all items i a within is = ap (λ cs. j.clauses w bodies params all (map clause_of cs)) (next_item items i a within is)

pub no_clause : (w : World) (bodies : List (Option e.Assertion)) (params all : VariableScope) (items : List SClause) (i : ℕ) → length items ≤ i → j.clauses w bodies params all (map clause_of (drop i items)) ≡ Found []
no_clause w bodies params all items i over = at_drop_all (λ cs. j.clauses w bodies params all (map clause_of cs)) items i over
