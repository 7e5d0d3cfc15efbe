-- How a function of the code answers what is judged: the value, or the first broken rule, or the lack of memory.
use Rattle.std.specs.Prelude.{ℕ, Bool, Option, Some, None, List, map}
use Rattle.std.proofs.Common.{Bor}
use Rattle.std.specs.declared.vec.Vec.{Vec}
use Rattle.std.specs.declared.alloc.Global.{Global}
use Rattle.std.specs.Option.{option_map}
use Rattle.viper_core.specs.Expr as e
use Rattle.viper_core.specs.Stmt as c
use Rattle.viper_core.specs.Program as p
use Rattle.viper_core.specs.View.{expr_of, assertion_of, assertions_of, stmt_of, stmts_of, predicate_of, method_of}
use Rattle.viper_core.specs.declared.exprs.Expr.{Expr}
use Rattle.viper_core.specs.declared.stmts.Stmt.{Stmt}
use Rattle.viper_core.specs.declared.exprs.Assertion.{Assertion}
use Rattle.viper_core.specs.declared.stmts.Stmt.{Stmt}
use Rattle.viper_syntax.specs.Term as t
use Rattle.viper_syntax.specs.Stmt as st
use Rattle.viper_syntax.specs.View.{amount_of, term_of, terms_of, rhs_of}
use Rattle.viper_syntax.specs.declared.stmts.SRhs.{SRhs}
use Rattle.viper_syntax.specs.declared.terms.SUnfolding.{SUnfolding}
use Rattle.viper_syntax.specs.declared.terms.Term as term
use Rattle.viper_types.specs.declared.expressions.TypedField.{TypedField}
use Rattle.viper_types.specs.declared.declarations.Declared.{Declared}
use Rattle.viper_types.specs.declared.declarations.Declared.TheVariants as declared
use Rattle.viper_types.specs.declared.declarations.DeclaredParts.{DeclaredParts}
use Rattle.viper_types.specs.declared.frames.MethodVariables as frame
use Rattle.viper_types.specs.declared.frames.AssignedVariable as target
use Rattle.viper_types.specs.declared.statements.TypedArm.{TypedArm}
use Rattle.viper_types.specs.Typing.{Located}
use Rattle.viper_types.specs.Frame.{MethodVariables}
use Rattle.viper_types.specs.Stepping.{AssignedVariable, Branch}
use Rattle.viper_types.specs.Declaring as j

-- views

-- an optional term behind a reference, as an amount
abbrev pub lent_amount_of : Option (Bor term.Term) → t.Amount
lent_amount_of None = t.omitted
lent_amount_of (Some a) = t.given (term_of a.now)

-- an `unfolding`, as a term
abbrev pub unfolding_term : SUnfolding → t.Term
unfolding_term u = t.Unfolding u.name.name (terms_of u.args.items) (amount_of u.amount) (term_of u.inner.value) u.at u.name.pos

abbrev pub place_of : TypedField → Located
place_of l = record { receiver = expr_of l.receiver; field = l.field; ty = l.ty }

abbrev pub frame_of : frame.MethodVariables → MethodVariables
frame_of f = record { vars = f.vars.items; scope = f.scope }

abbrev pub target_of : target.AssignedVariable → AssignedVariable
target_of v = record { number = v.number; ty = v.ty; at = v.at }

abbrev pub targets_of : Vec target.AssignedVariable Global → List AssignedVariable
targets_of v = map target_of v.items

abbrev pub numbers_of : Vec ℕ Global → List ℕ
numbers_of v = v.items

-- an optional right side behind a reference
abbrev pub lent_rhs_of : Option (Bor SRhs) → Option st.SRhs
lent_rhs_of None = None
lent_rhs_of (Some a) = Some (rhs_of a.now)

abbrev pub block_stmts_of : Vec Stmt Global → c.Stmts
block_stmts_of v = stmts_of v.items

abbrev pub stmt_list_of : Vec Stmt Global → List c.Stmt
stmt_list_of v = map stmt_of v.items

abbrev pub branch_of : TypedArm → Branch
branch_of b = record { at = b.at; condition = expr_of b.condition; body = stmts_of b.body.items }

abbrev pub branches_of : Vec TypedArm Global → List Branch
branches_of v = map branch_of v.items

-- the guard and the invariants of a loop
abbrev pub loop_terms_of : Expr × Vec Assertion Global → e.Expr × List e.Assertion
loop_terms_of x = (expr_of x.0, assertions_of x.1.items)

-- the bodies of the predicates
abbrev pub optional_bodies_of : List (Option Assertion) → List (Option e.Assertion)
optional_bodies_of = map (option_map assertion_of)

abbrev pub clause_typing_of : Bool × Assertion → Bool × e.Assertion
clause_typing_of x = (x.0, assertion_of x.1)

abbrev pub clause_typings_of : Vec (Bool × Assertion) Global → List (Bool × e.Assertion)
clause_typings_of v = map clause_typing_of v.items

abbrev pub declared_of : Declared → j.Declared
declared_of (declared.Field x u) = j.FieldOf x u
declared_of (declared.Predicate q) = j.PredicateOf (predicate_of q)
declared_of (declared.Method m) = j.MethodOf (method_of m)

-- the program of the declarations so far
abbrev pub parts_of : DeclaredParts → p.Program
parts_of g = record {
  fields = g.fields.items;
  layout = record { fields = g.types.items; keys = map (λ v. v.items) g.keys.items };
  predicates = map predicate_of g.predicates.items;
  methods = map method_of g.methods.items;
  units = g.units.items;
}
