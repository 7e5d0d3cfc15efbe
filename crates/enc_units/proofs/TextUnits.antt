-- The code of units has a text that is read back: each literal is from 0 to the greatest, and each `forall` binds variables that can
-- be numbered.
use Rattle.std.proofs.Common.{◌≡◌, ◌<◌, ◌^◌, ℕ, zero, suc, List, [], ◌∷◌, All, Some, None, length, map, slice_get, sym, subst, arith}
use Rattle.std.proofs.lemmas.List.Elements.{All-head, All-tail}
use Rattle.vb_value.specs.declared.values.Ty.{Ty}
use Rattle.viper_core.specs.Formed.{IsFormed, IsPredicate}
use Rattle.viper_core.specs.Program.{Program, Predicate}
use Rattle.viper_core.specs.declared.programs.Unit.{Unit}
use Rattle.viper_core.proofs.LiteralLaws.{exprs_literals}
use Rattle.boogie_tree.specs.Literals.{IsLiteral}
use Rattle.enc_expr.specs.Kinds.{kinds_in}
use Rattle.enc_expr.specs.Pieces.{one_real}
use Rattle.enc_expr.proofs.Property.{Property}
use Rattle.enc_expr.proofs.LiteralCode.{top, literals, one_fits, code_fits, codes_fit}
use Rattle.enc_expr.proofs.PrintedCode.{literals_hold, body_literals, expression_literals}
use Rattle.enc_assert.proofs.LiteralAssertions.{produce_fits, consume_fits}
use Rattle.enc_fold.proofs.LiteralFold.{fold_fits, unfold_fits}
use Rattle.enc_block.proofs.PropertyStatements.{PartsHave}
use Rattle.enc_units.specs.Units.{unit_code}
use Rattle.enc_units.proofs.TextTrees.{AreFew, AreNumbered, BlockTextFits, few_keys_fit}
use Rattle.enc_units.proofs.PropertyUnits.{each_unit_has}

-- ---- predicates have few parameters

few_params : (p : Program) (ds : List Predicate) → All (IsPredicate p) ds → AreFew (map (λ (d : Predicate). d.params) ds)
few_params p [] all q us there = absurd (cc)
few_params p (d ∷ ds) all zero us there = let same : d.params ≡ us = cc in subst (λ (ws : List Ty). length ws < 2 ^ 32) same (All-head (IsPredicate p) d ds all).few
few_params p (d ∷ ds) all (suc q) us there = few_params p ds (All-tail (IsPredicate p) d ds all) q us there

few_keys : (p : Program) → IsFormed p → AreFew p.layout.keys
few_keys p formed = subst AreFew (sym formed.typed.layout.keys) (few_params p p.predicates formed.typed.predicates)

-- ---- units

abbrev K : Property
K = literals AreNumbered

text_parts : PartsHave K top
text_parts = record {
  value = λ c p a u formed i few. code_fits AreNumbered (kinds_in c) p None a (expression_literals c a u formed i);
  values = λ c p xs us formed i few. codes_fit AreNumbered (kinds_in c) p None xs (exprs_literals IsLiteral (λ q. IsLiteral q.num) literals_hold c formed.typed i);
  produced = λ c p a formed i few. produce_fits AreNumbered (kinds_in c) p None one_real a (body_literals c a formed i) one_fits;
  consumed = λ c p left a formed i few. consume_fits AreNumbered (kinds_in c) p left None one_real a (body_literals c a formed i) one_fits;
  folded = λ c p f formed typed few. fold_fits c p f formed typed AreNumbered;
  unfolded = λ c p f formed typed few. unfold_fits c p f formed typed AreNumbered;
  keys = λ p formed. few_keys_fit p.layout.keys (few_keys p formed);
}

pub unit_text_fits : (p : Program) → IsFormed p → (n : ℕ) (u : Unit) → slice_get p.units n ≡ Some u → (i : ℕ) → BlockTextFits (unit_code p u i).stmts
unit_text_fits p formed n u there i = (each_unit_has K top (omega arith) text_parts p formed n u there).stmts i
