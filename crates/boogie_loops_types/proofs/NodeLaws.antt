-- What a node of the program is as plain data, given what its parts were borrowed as.
use Rattle.std.proofs.Common.{◌≡◌, sym, ap, ◌∙◌, List, Option, map, Vec}
use Rattle.std.specs.Option.{option_map}
use Rattle.std.specs.declared.alloc.Global.{Global}
use Rattle.boogie_tree.specs.Whole.{expr_of}
use Rattle.boogie_tree.specs.declared.exprs.BExpr.{BExpr}
use Rattle.boogie_loops.specs.Wide as w
use Rattle.boogie_loops.specs.View.{clause_of, wstmt_of, wstmts_of}
use Rattle.boogie_loops.specs.declared.wide.Clause.{Clause}
use Rattle.boogie_loops.specs.declared.wide.WStmt as stmt
use Rattle.boogie_loops.proofs.ViewLaws.{wstmt_of-If, wstmt_of-Either, wstmt_of-While}

module _ {x : stmt.WStmt} where
  pub if_is : {e : BExpr} (v u : Vec stmt.WStmt Global) {xs ys : List stmt.WStmt} → x ≡ stmt.If e v u → xs ≡ v.items → ys ≡ u.items → wstmt_of x ≡ w.If (expr_of e) (wstmts_of xs) (wstmts_of ys)
  if_is {e = e} v u is same other = ap wstmt_of is ∙ wstmt_of-If e v u ∙ (λ i. w.If (expr_of e) (wstmts_of (sym same i)) (wstmts_of (sym other i)))

  pub either_is : (v u : Vec stmt.WStmt Global) {xs ys : List stmt.WStmt} → x ≡ stmt.Either v u → xs ≡ v.items → ys ≡ u.items → wstmt_of x ≡ w.Either (wstmts_of xs) (wstmts_of ys)
  either_is v u is same other = ap wstmt_of is ∙ wstmt_of-Either v u ∙ (λ i. w.Either (wstmts_of (sym same i)) (wstmts_of (sym other i)))

  pub while_is : {g : Option BExpr} (invariants : Vec Clause Global) (v : Vec stmt.WStmt Global) {cs : List Clause} {xs : List stmt.WStmt} → x ≡ stmt.While g invariants v →
      cs ≡ invariants.items → xs ≡ v.items → wstmt_of x ≡ w.While (option_map expr_of g) (map clause_of cs) (wstmts_of xs)
  while_is {g = g} invariants v is those same =
      ap wstmt_of is ∙ wstmt_of-While g invariants v ∙ (λ i. w.While (option_map expr_of g) (map clause_of (sym those i)) (wstmts_of (sym same i)))
