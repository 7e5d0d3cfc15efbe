-- Procedures as they are built.
use Rattle.std.proofs.Common.{◌≡◌, ◌∙◌, sym, ap, ℕ, List, [], ◌∷◌, ◌++◌, map}
use Rattle.std.proofs.lemmas.List.{map-append}
use Rattle.boogie_tree.specs.Stmt as s
use Rattle.boogie_tree.specs.Program as p
use Rattle.boogie_tree.specs.Whole.{stmt_of, stmts_of}
use Rattle.boogie_tree.specs.declared.stmts.BStmt.{BStmt}
use Rattle.boogie_tree.proofs.WholeLaws.{stmts_of-map}
use Rattle.boogie_grammar.specs.Grammar.{proc_names}

pub procedure_is : (x : List ℕ) (ls : List p.Local) (ss : List BStmt) →
    (let d : p.Proc = record { name = x; locals = ls; body = stmts_of ss } in d) ≡ record { name = x; locals = ls; body = s.stmts (map stmt_of ss) }
procedure_is x ls ss = λ i. record { name = x; locals = ls; body = stmts_of-map ss i }

pub one_more_proc : (names : List (List ℕ)) (ps more : List p.Proc) (x : p.Proc) → names ≡ proc_names ps → more ≡ ps ++ (x ∷ []) → names ++ (x.name ∷ []) ≡ proc_names more
one_more_proc names ps more x e f =
    ap (λ l. l ++ (x.name ∷ [])) e ∙ sym (map-append (λ (d : p.Proc). d.name) ps (x ∷ [])) ∙ ap proc_names (sym f)
