-- The typed programs that the generated programs are.
use Rattle.std.proofs.Common.{ℕ, zero, suc, ◌+◌, ◌-◌, ◌%◌, List, [], ◌∷◌, ◌++◌, Some, pos}
use Rattle.std.specs.Prelude.{◌==◌, if◌then◌else◌}
use Rattle.vb_base.specs.declared.places.Pos.{Pos}
use Rattle.vb_value.specs.declared.values.Ty.TheVariants as ty
use Rattle.vb_gen.specs.Generated.{odd_of}
use Rattle.viper_core.specs.declared.exprs.Op.TheVariants as op
use Rattle.viper_core.specs.Expr as e
use Rattle.viper_core.specs.Stmt as c
use Rattle.viper_core.specs.Program as p
use Rattle.viper_types.specs.Declaring.{Declared, FieldOf, MethodOf, no_program, assembled}
use Rattle.vb_gen_laws.proofs.Trees.{behind, f_name, x_name, r_name, m_name, field_toks, methods_toks}

-- ---- a method, with places from behind its first word

abbrev int : ℕ → e.Expr
int k = e.Int (pos k)

-- `x.f` and `x.f + k`, where the first token has this number
abbrev field : (ℕ → Pos) → ℕ → e.Expr
field q i = e.Field (e.Var 0) 0 (q (i + 2))

abbrev sum : (ℕ → Pos) → ℕ → ℕ → e.Expr
sum q i k = e.Bin op.Add (field q i) (int k) (q (i + 3))

-- `acc(x.f, 1/2)`
abbrev half : (ℕ → Pos) → ℕ → e.Assertion
half q i = e.Acc (e.Var 0) 0 (e.Is (e.Bin op.Divide (int 1) (int 2) (q (i + 7)))) (q (i + 4))

abbrev pub odd_stmt : (ℕ → Pos) → ℕ → c.Stmt
odd_stmt q k = c.Assign (q 43) 1 (sum q 45 k)

abbrev pub even_stmt : (ℕ → Pos) → ℕ → c.Stmt
even_stmt q callee = c.Call (q 43) (1 ∷ []) callee (e.more (e.Var 0) e.none)

abbrev pub typed : (ℕ → Pos) → Pos → List ℕ → ℕ → c.Stmt → p.Method
typed q at name k stmt = record {
  name = name;
  at = at;
  name_at = q 0;
  names = x_name ∷ r_name ∷ [];
  params = 1;
  returns = 1;
  vars = ty.Ref ∷ ty.Int ∷ [];
  preconditions = half q 13 ∷ [];
  postconditions = e.And (half q 24) (e.Fact (e.Bin op.Eq (e.Var 1) (sum q 37 k) (q 36)) (q 35)) ∷ [];
  body = Some (record { turn = q 42; stmts = c.next stmt c.skip });
}

-- the method of a number, whose first word has the place of number 0; an even one calls the one before it
abbrev pub typed_method : (ℕ → Pos) → ℕ → p.Method
typed_method q i =
    typed (λ j. q (suc j)) (q 0) (m_name i) (odd_of i) (if i % 2 == 1 then odd_stmt (λ j. q (suc j)) i else even_stmt (λ j. q (suc j)) (i - 2))

-- ---- a program

abbrev pub typed_methods : (ℕ → Pos) → ℕ → List p.Method
typed_methods q zero = []
typed_methods q (suc i) = typed_methods q i ++ typed_method (behind q (methods_toks i)) (suc i) ∷ []

abbrev pub declared : List p.Method → List Declared
declared [] = []
declared (m ∷ ms) = MethodOf m ∷ declared ms

abbrev pub typed_program : (ℕ → Pos) → ℕ → p.Program
typed_program q n = assembled no_program (FieldOf f_name ty.Int ∷ declared (typed_methods (behind q field_toks) n))
