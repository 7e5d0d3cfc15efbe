-- The text of procedures of code is not too deep to be read.
use Rattle.std.proofs.Common.{◌≡◌, ◌≤◌, ℕ, List, [], ◌∷◌, All, arith}
use Rattle.std.proofs.lemmas.List.Elements.{All-head, All-tail}
use Rattle.vb_base.specs.Limits.{max_term_depth, max_unclosed_brackets}
use Rattle.vb_value.specs.declared.values.Ty.{Ty}
use Rattle.viper_core.specs.Depth.{depth, assertion_depth}
use Rattle.viper_core.specs.Expr as e
use Rattle.viper_core.specs.Formed.{IsFormed}
use Rattle.viper_core.specs.Typing as y
use Rattle.viper_core.specs.Typing.{Context, IsAssertion}
use Rattle.viper_core.specs.declared.programs.Unit.{Unit}
use Rattle.boogie_tree.specs.Expr as t
use Rattle.boogie_tree.specs.Nested.{expr_depth, proc_depth, procs_depth}
use Rattle.boogie_tree.specs.Program.{BType, Proc, BProgram}
use Rattle.boogie_grammar.specs.Spells.{BSpells}
use Rattle.boogie_print.specs.Read.{IsRead}
use Rattle.boogie_print.proofs.NestedLaws.{shallow}
use Rattle.enc_expr.specs.Place.{Place}
use Rattle.enc_expr.specs.Kinds.{kinds_in}
use Rattle.enc_expr.specs.Code.{Guard}
use Rattle.enc_expr.specs.Encoding.{code, body_code}
use Rattle.enc_expr.proofs.ShallowCode.{expression_shallow, body_shallow}
use Rattle.enc_text.specs.Fits.{procedure_of}

pub expression_low : (name : List ℕ) (i : Unit) (us : List BType) (c : Context) (p : Place) (g : Guard) (a : e.Expr) (u : Ty) (n : ℕ) → IsFormed c.program → y.HasType c a u → depth a ≤ max_term_depth →
    proc_depth (procedure_of name c.program i us (code (kinds_in c) p g a n)) ≤ 1026
expression_low name i us c p g a u n formed typed few = let low = (expression_shallow c p g a u n formed typed).piece.stmts in omega (arith, low, few)

pub body_low : (name : List ℕ) (i : Unit) (us : List BType) (c : Context) (p : Place) (g : Guard) (scale : t.BExpr) (a : e.Assertion) (from n : ℕ) → IsFormed c.program → IsAssertion c a → expr_depth scale ≡ 0 → assertion_depth a ≤ max_term_depth →
    proc_depth (procedure_of name c.program i us (body_code (kinds_in c) p g scale a from n)) ≤ 1026
body_low name i us c p g scale a from n formed typed atom few = let low = (body_shallow c p g scale a from n formed typed atom).stmts in omega (arith, low, few)

abbrev is_low : Proc → Type 0
is_low d = proc_depth d ≤ max_unclosed_brackets

all_low : (ps : List Proc) → All is_low ps → procs_depth ps ≤ max_unclosed_brackets
all_low [] h = omega arith
all_low (d ∷ ps) h = let rest = all_low ps (All-tail is_low d ps h) in let first : proc_depth d ≤ max_unclosed_brackets = All-head is_low d ps h in omega (arith, first, rest)

pub read_back : (bytes : List ℕ) (program : BProgram) → All (λ d. proc_depth d ≤ max_unclosed_brackets) program.procs → BSpells bytes program → IsRead bytes program
read_back bytes program low h = record { spelled = h; shallow = shallow h.tokens program h.spells (all_low program.procs low) }
