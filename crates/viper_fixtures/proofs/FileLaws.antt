-- The literals of what a row reads are within the bound.
use Rattle.std.proofs.Common.{◌≡◌, ◌∙◌, ap, sym, subst, List, [], ◌∷◌, Option, Some, None, slice_get, IfSome, Bor}
use Rattle.std.specs.Option.{option_map, option_copied}
use Rattle.std.proofs.lemmas.Option.{slice_get-map, same_Some, none-some}
use Rattle.lemmas.proofs.Lists.{at_item}
use Rattle.viper_core.specs.Formed.{IsFormed}
use Rattle.viper_core.specs.Stmt as s
use Rattle.viper_core.specs.View.{stmt_of, stmts_of, body_of, method_of, program_of}
use Rattle.viper_core.specs.declared.stmts.Stmt.{Stmt}
use Rattle.viper_core.specs.declared.programs.Method.{Method}
use Rattle.viper_core.specs.declared.programs.Body.{Body}
use Rattle.viper_core.specs.declared.programs.Program.{Program}
use Rattle.viper_core.proofs.FormedLaws.{at_some}
use Rattle.viper_meaning.specs.StatementLiterals.{IsWithinStmt, AreWithinStmts, IsWithinMethod, IsWithinBody}
use Rattle.viper_meaning.proofs.FormedLiterals.{program_within}

first_of : (ss : List Stmt) (a : Stmt) → slice_get ss 0 ≡ Some a → (rest : s.Stmts) × (stmts_of ss ≡ s.next (stmt_of a) rest)
first_of [] a is = absurd (none-some a is)
first_of (first ∷ rest) a is = (stmts_of rest, ap (λ a. s.next (stmt_of a) (stmts_of rest)) (same_Some first a is))

first_within : (p : Program) → IsFormed (program_of p) → (m : Method) (b : Body) (a : Stmt) → slice_get p.methods.items 0 ≡ Some m → m.body ≡ Some b → slice_get b.stmts.items 0 ≡ Some a → IsWithinStmt (stmt_of a)
first_within p h m b a is has begins =
    let there = slice_get-map method_of p.methods.items 0 ∙ ap (option_map method_of) is in
    let method = at_item IsWithinMethod (program_of p).methods (program_within (program_of p) h).methods 0 (method_of m) there in
    let body = at_some IsWithinBody (method_of m).body method.body (body_of b) (ap (option_map body_of) has) in
    (subst AreWithinStmts (first_of b.stmts.items a begins).1 body.stmts).0

pub referred_first_within : (p : Program) → IsFormed (program_of p) → (m : Method) (b : Body) (r : Option (Bor Stmt)) → Some m ≡ slice_get p.methods.items 0 → Some b ≡ m.body → option_copied r ≡ slice_get b.stmts.items 0 → IfSome r (λ a. IsWithinStmt (stmt_of a.now))
referred_first_within p h m b None is has begins = tt
referred_first_within p h m b (Some a) is has begins = first_within p h m b a.now (sym is) (sym has) (sym begins)
