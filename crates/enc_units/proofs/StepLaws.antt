-- No statement with blocks stands in a row as one step.
use Rattle.std.proofs.Common.{List, [], ◌∷◌, ◌++◌, Option, Some, None, slice_get, All, arith}
use Rattle.std.proofs.lemmas.List.Elements.{All-cons, All-append}
use Rattle.viper_core.specs.Expr as e
use Rattle.viper_core.specs.Program.{Program, Predicate, Method, Body}
use Rattle.viper_core.specs.Stmt as v
use Rattle.viper_core.specs.declared.programs.Unit.{Unit}
use Rattle.viper_core.specs.declared.programs.Unit.TheVariants as unit
use Rattle.enc_units.specs.Steps.{RowStep, Code, Start, Plain, Head, Turn, Finish, After, Enter, Leave, Check, Produce, Branch, Begin, Pick, Otherwise, End, stmt_row, block_row, body_row, method_row, produced_row, predicate_row, running_row, unit_row}
use Rattle.enc_units.specs.Written.{IsStep}

abbrev none : All IsStep []
none = λ i d lt. absurd (omega (arith, lt))

abbrev more : (x : RowStep) (xs : List RowStep) → IsStep x → All IsStep xs → All IsStep (x ∷ xs)
more = All-cons IsStep

one : (x : RowStep) → IsStep x → All IsStep (x ∷ [])
one x is = more x [] is none

loop_steps : (w : v.Loop) (xs : List RowStep) → All IsStep xs → All IsStep (Code (Head w) ∷ Branch Pick ∷ Code (Turn w) ∷ (xs ++ (Code (Finish w) ∷ Branch Otherwise ∷ Code (After w) ∷ Branch End ∷ [])))
loop_steps w xs body =
    let behind = Code (Finish w) ∷ Branch Otherwise ∷ Code (After w) ∷ Branch End ∷ [] in
    more (Code (Head w)) (Branch Pick ∷ Code (Turn w) ∷ (xs ++ behind)) tt (more (Branch Pick) (Code (Turn w) ∷ (xs ++ behind)) tt (more (Code (Turn w)) (xs ++ behind) tt (All-append IsStep xs behind body
    (more (Code (Finish w)) (Branch Otherwise ∷ Code (After w) ∷ Branch End ∷ []) tt (more (Branch Otherwise) (Code (After w) ∷ Branch End ∷ []) tt (more (Code (After w)) (Branch End ∷ []) tt (one (Branch End) tt)))))))

mutual
  stmt_steps : (a : v.Stmt) → All IsStep (stmt_row a)
  stmt_steps (v.If at c first second) =
      more (Branch (Begin at c)) _ tt (All-append IsStep (block_row first) _ (block_steps first) (more (Branch Otherwise) _ tt (All-append IsStep (block_row second) _ (block_steps second) (one (Branch End) tt))))
  stmt_steps (v.While (v.loop at guard invariants body turn targets)) = loop_steps (v.loop at guard invariants body turn targets) (block_row body) (block_steps body)
  stmt_steps (v.Var at x init) = one (Code (Plain (v.Var at x init))) tt
  stmt_steps (v.Assign at x a) = one (Code (Plain (v.Assign at x a))) tt
  stmt_steps (v.Write at a f name d) = one (Code (Plain (v.Write at a f name d))) tt
  stmt_steps (v.New at x fields refs) = one (Code (Plain (v.New at x fields refs))) tt
  stmt_steps (v.Call at targets m args) = one (Code (Plain (v.Call at targets m args))) tt
  stmt_steps (v.Inhale at a) = one (Code (Plain (v.Inhale at a))) tt
  stmt_steps (v.Exhale at a) = one (Code (Plain (v.Exhale at a))) tt
  stmt_steps (v.Assert at a) = one (Code (Plain (v.Assert at a))) tt
  stmt_steps (v.Fold f) = one (Code (Plain (v.Fold f))) tt
  stmt_steps (v.Unfold f) = one (Code (Plain (v.Unfold f))) tt

  block_steps : (xs : v.Stmts) → All IsStep (block_row xs)
  block_steps v.skip = none
  block_steps (v.next a rest) = All-append IsStep (stmt_row a) (block_row rest) (stmt_steps a) (block_steps rest)

pub body_steps : (m : Method) (o : Option Body) → All IsStep (body_row m o)
body_steps m None = one (Code (Check m)) tt
body_steps m (Some body) =
    let behind = Code (Leave m body.turn) ∷ Branch Otherwise ∷ Code (Check m) ∷ Branch End ∷ [] in
    more (Branch Pick) (block_row body.stmts ++ behind) tt (All-append IsStep (block_row body.stmts) behind (block_steps body.stmts)
    (more (Code (Leave m body.turn)) (Branch Otherwise ∷ Code (Check m) ∷ Branch End ∷ []) tt (more (Branch Otherwise) (Code (Check m) ∷ Branch End ∷ []) tt (more (Code (Check m)) (Branch End ∷ []) tt (one (Branch End) tt)))))

pub method_steps : (o : Option Method) → All IsStep (method_row o)
method_steps None = none
method_steps (Some m) = more (Code (Enter m)) _ tt (body_steps m m.body)

pub produced_steps : (d : Predicate) (o : Option e.Assertion) → All IsStep (produced_row d o)
produced_steps d None = none
produced_steps d (Some body) = one (Code (Produce d.at body)) tt

pub predicate_steps : (o : Option Predicate) → All IsStep (predicate_row o)
predicate_steps None = none
predicate_steps (Some d) = produced_steps d d.body

pub running_steps : (p : Program) (x : Unit) → All IsStep (running_row p x)
running_steps p (unit.Method n) = method_steps (slice_get p.methods n)
running_steps p (unit.Predicate n) = predicate_steps (slice_get p.predicates n)

pub unit_steps : (p : Program) (x : Unit) → All IsStep (unit_row p x)
unit_steps p x = more (Code Start) _ tt (running_steps p x)
