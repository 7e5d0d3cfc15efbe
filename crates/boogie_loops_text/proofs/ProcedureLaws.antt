-- Procedures as they are built.
use Rattle.std.proofs.Common.{◌≡◌, ◌∙◌, sym, ap, ℕ, ◌-◌, List, [], ◌∷◌, ◌++◌, map, length, Option, Some}
use Rattle.std.proofs.lemmas.List.{map-append}
use Rattle.boogie_tree.specs.Program as p
use Rattle.boogie_loops.specs.Wide as w
use Rattle.boogie_loops.specs.View.{wstmt_of, wstmts_of}
use Rattle.boogie_loops.specs.declared.wide.WStmt.{WStmt}
use Rattle.boogie_loops_grammar.specs.Trees as trees
use Rattle.boogie_loops_grammar.specs.Trees.{Contract, procedure, procedure_names}
use Rattle.boogie_loops_text.proofs.WideStmts.{wstmts_of-map}

pub with_body : (x : List ℕ) (params head locals : List p.Local) (c : Contract) (xs : List WStmt) → procedure x params head locals c (Some (wstmts_of xs)) ≡ procedure x params head locals c (Some (trees.block_of (map wstmt_of xs)))
with_body x params head locals c xs = ap (λ b. procedure x params head locals c (Some b)) (wstmts_of-map xs)

-- so many parameters and returns
pub procedure_is : (x : List ℕ) (params head locals : List p.Local) (c : Contract) (body : Option w.WStmts) {m n : ℕ} → length params ≡ m → length head - length params ≡ n →
    (let d : w.WProc = record { name = x; params = m; returns = n; locals = locals; preconditions = c.preconditions; postconditions = c.postconditions; body = body } in d) ≡ procedure x params head locals c body
procedure_is x params head locals c body e f = λ i. record { name = x; params = sym e i; returns = sym f i; locals = locals; preconditions = c.preconditions; postconditions = c.postconditions; body = body }

pub one_more_procedure : (names : List (List ℕ)) (ps more : List w.WProc) (x : w.WProc) → names ≡ procedure_names ps → more ≡ ps ++ (x ∷ []) → names ++ (x.name ∷ []) ≡ procedure_names more
one_more_procedure names ps more x e f =
    ap (λ l. l ++ (x.name ∷ [])) e ∙ sym (map-append (λ (d : w.WProc). d.name) ps (x ∷ [])) ∙ ap procedure_names (sym f)
