-- The texts of the worked examples, by computation.
use Rattle.std.proofs.Common.{◌≡◌, [], pos, refl}
use Rattle.std.specs.Prelude.{codes}
use Rattle.std.specs.Fmt.{digits}
use Rattle.enc_expr.specs.Worked.{reads_f, computes, with_leaf, quotient, nested, opens_P, at_1_20, at_6_3}
use Rattle.enc_text.specs.Worked.{code_text, value_text, field_text, guarded_text, opened_text}

pub field_code : code_text (reads_f 1 []) ≡ field_text
unfolding digits
field_code = refl

pub field_value : value_text (reads_f 1 []) ≡ codes "(h$f[v$x] == 1)"
unfolding digits
field_value = refl

pub division_code : code_text (computes at_1_20 quotient (pos 5)) ≡ codes "assert {:msg \"1:20 1:29 div\"} (v$n != 0);\n"
unfolding digits
division_code = refl

pub division_value : value_text (computes at_1_20 quotient (pos 5)) ≡ codes "((7 div v$n) == 0)"
unfolding digits
division_value = refl

pub guarded_code : code_text (computes at_6_3 nested (pos 5)) ≡ guarded_text
unfolding digits
guarded_code = refl

pub guarded_value : value_text (computes at_6_3 nested (pos 5)) ≡ codes "(t$31 ==> (v$n > 4))"
unfolding digits
guarded_value = refl

pub opened_code : code_text (with_leaf opens_P 5) ≡ opened_text
unfolding digits
opened_code = refl

pub opened_value : value_text (with_leaf opens_P 5) ≡ codes "(t$29[v$x] > 0)"
unfolding digits
opened_value = refl
