-- What types do not say of a tree whose text is read back: each literal is from 0 to the greatest, and each `forall` binds variables
-- that can be numbered.
use Rattle.std.specs.Bool.{⊤}
use Rattle.std.proofs.Common.{◌≡◌, ◌<◌, ◌^◌, List, [], ◌∷◌, length, slice_get, ℕ, Some, arith}
use Rattle.std.proofs.lemmas.List.{length-map}
use Rattle.vb_value.specs.declared.values.Ty.{Ty}
use Rattle.boogie_tree.specs.Literals.{IsLiteral, BlockHas, AreBound, BlockLiteralsFit}
use Rattle.boogie_tree.specs.Stmt as s
use Rattle.boogie_tree.specs.declared.exprs.BBase.{BBase}
use Rattle.boogie_tree.specs.declared.exprs.BBase.TheVariants as base
use Rattle.boogie_tree.proofs.LiteralLaws.{block_has}
use Rattle.boogie_print.specs.Short.{AreFewBound, ShortStmts}
use Rattle.moves.specs.Maps.{index_types}
use Rattle.moves.specs.Scalars.{base_for}
use Rattle.enc_expr.proofs.LiteralCode.{literals}
use Rattle.enc_assert.proofs.PropertyAssertions.{KeysHave}
use Rattle.enc_assert.proofs.LiteralAssertions.{some_type}

abbrev pub AreNumbered : List BBase → Type 0
AreNumbered us = AreBound us × AreFewBound us

abbrev pub BlockTextFits : s.BStmts → Type 0
BlockTextFits = BlockHas IsLiteral AreNumbered

-- its literals fit, and its bound variables are few
pub block_literals : (xs : s.BStmts) → BlockTextFits xs → BlockLiteralsFit xs
block_literals = block_has IsLiteral IsLiteral AreNumbered AreBound (λ n h. h) (λ us h. h.0)

pub short_block : (xs : s.BStmts) → BlockTextFits xs → ShortStmts xs
short_block = block_has IsLiteral (λ n. ⊤) AreNumbered AreFewBound (λ n h. tt) (λ us h. h.1)

-- ---- the keys of maps can be numbered

-- no predicate has more parameters
abbrev pub AreFew : List (List Ty) → Type 0
AreFew keys = (q : ℕ) (us : List Ty) → slice_get keys q ≡ Some us → length us < 2 ^ 32

few_types : (us : List Ty) → length us < 2 ^ 32 → length (index_types us) < 2 ^ 63
few_types [] few = omega arith
few_types (u ∷ us) few = omega (arith, few, length-map us base_for)

one_key : AreNumbered (base.Ref ∷ [])
one_key = ((λ same. absurd cc), omega arith)

pub few_keys_fit : (keys : List (List Ty)) → AreFew keys → KeysHave (literals AreNumbered) keys
few_keys_fit keys few = record { heap = one_key; contents = λ q us there. (some_type us, few_types us (few q us there)) }
