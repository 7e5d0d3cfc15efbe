-- The code of each part of a statement has at most 1,366 brackets open at once: that of a fold or an unfold has most.
use Rattle.std.proofs.Common.{ℕ, None, refl, arith}
use Rattle.vb_base.specs.Limits.{max_term_depth}
use Rattle.enc_expr.specs.Pieces.{one_real}
use Rattle.enc_expr.proofs.PropertyPieces.{map_has}
use Rattle.enc_expr.proofs.ShallowCode.{brackets, plainly, code_low, codes_low}
use Rattle.enc_assert.proofs.ShallowAssertions.{produce_shallow, consume_shallow}
use Rattle.enc_fold.proofs.ShallowFold.{fold_shallow, unfold_shallow}
use Rattle.enc_block.proofs.PropertyStatements.{PartsHave}

-- what each statement has for itself
abbrev pub top : ℕ
top = 1366

pub shallow_parts : PartsHave brackets top
shallow_parts = record {
  value = λ c p a u formed i few. map_has brackets top (code_low top (omega arith) c p None a u formed i (omega (arith, few))) (λ x h. let low = plainly x h in omega (arith, low, few));
  values = λ c p xs us formed i few. codes_low top (omega arith) c p None xs us max_term_depth formed i few (omega (arith, few));
  produced = λ c p a formed i few. record { stmts = λ n. let low = (produce_shallow c p None one_real a n formed i refl).stmts in omega (arith, low, few); value = λ n. tt };
  consumed = λ c p left a formed i few. record { stmts = λ n. let low = (consume_shallow c p left None one_real a n formed i refl).stmts in omega (arith, low, few); value = λ n. tt };
  folded = λ c p f formed typed few. record { stmts = λ n. let low = fold_shallow c p formed f typed n in omega (arith, low, few); value = λ n. tt };
  unfolded = λ c p f formed typed few. record { stmts = λ n. let low = unfold_shallow c p formed f typed n in omega (arith, low, few); value = λ n. tt };
  keys = λ p formed. record { heap = tt; contents = λ q us there. tt };
}
