-- The code of units has what the code of the parts of statements has, with as many brackets more as there are blocks inside.
use Rattle.std.specs.Option.{IfSome}
use Rattle.std.proofs.Common.{◌≡◌, ◌+◌, ◌≤◌, ℕ, suc, false, List, [], ◌∷◌, Option, Some, None, slice_get, refl, arith}
use Rattle.vb_base.specs.Limits.{max_block_depth, max_term_depth}
use Rattle.vb_value.specs.declared.values.Ty.{Ty}
use Rattle.vb_value.specs.declared.values.Ty.TheVariants as ty
use Rattle.viper_core.specs.Depth.{blocks_in}
use Rattle.viper_core.specs.Formed.{IsFormed, IsMethod, IsBody, predicate_context, precondition_context, postcondition_context, method_frame}
use Rattle.viper_core.specs.Program.{Program, Method, Body}
use Rattle.viper_core.specs.declared.programs.Unit.{Unit}
use Rattle.viper_core.specs.declared.programs.Unit.TheVariants as unit
use Rattle.viper_core.proofs.FormedLaws.{at_some, predicate_body_of_typed}
use Rattle.boogie_tree.specs.Stmt as s
use Rattle.moves.specs.Maps.{index_types}
use Rattle.enc_expr.specs.Code.{join, puts}
use Rattle.enc_expr.specs.Locals.{types_of_others}
use Rattle.enc_expr.proofs.Property.{Property}
use Rattle.enc_expr.proofs.PropertyPieces.{copy_state_has, one_has, Any, IsCode, higher, then_has, bare_has}
use Rattle.enc_fold.specs.Saved.{copy_held}
use Rattle.enc_fold.proofs.PropertyFold.{copy_held_has}
use Rattle.enc_block.specs.Encoding.{keep_old, check_code, ending_code, either_code, method_code}
use Rattle.enc_block.specs.Home.{Home, place}
use Rattle.enc_units.specs.Units.{zero_mask, first_further, home_of, zeros_code, default_code, defaults_code, start_code, kinds_with, unit_code}
use Rattle.enc_block.proofs.PropertyStatements.{PartsHave, HasFewLevels, each_low, stop_has, branching_has, all_produced_has, asserted_has, emptied_has, block_has}
use Rattle.enc_units.proofs.UnitCode.{IsUnit, is_method, is_predicate, unit_is, of_method, of_predicate}

-- ---- how the code begins

module _ (K : Property) where
  zeros_have : (keys : List (List Ty)) (i : ℕ) → ((q : ℕ) (us : List Ty) → slice_get keys q ≡ Some us → K.keys (index_types us)) → K.block 3 (zeros_code i keys)
  zeros_have [] i fit = K.more_in_block K.skip (omega arith)
  zeros_have (us ∷ keys) i fit = K.more_in_block (K.first (K.assume (K.quantified (fit 0 us refl) (K.binary (K.at_bound i) K.zero_real))) (zeros_have keys (i + 1) (λ q ws there. fit (suc q) ws there))) (omega arith)

  default_has : (w : Ty) → K.expr 0 (default_code w)
  default_has ty.Int = K.zero
  default_has ty.Bool = K.truth false
  default_has ty.Ref = K.null
  default_has ty.Perm = K.zero_real

  defaults_have : (ws : List Ty) (i : ℕ) → K.block 0 (defaults_code i ws)
  defaults_have [] i = K.skip
  defaults_have (w ∷ ws) i = K.first (K.assign (default_has w)) (defaults_have ws (i + 1))

  -- what each unit has for itself, besides its blocks
  module _ (top : ℕ) (enough : 1 + max_term_depth ≤ top) (parts : PartsHave K top) where
    start_has : (p : Program) (u : Unit) → IsFormed p → K.block 3 (start_code p u)
    start_has p u formed =
        let h = home_of p u in let held = copy_held h.now h.nothing in let keys = parts.keys p formed in
        let zeros = zeros_code (zero_mask p u + 1) p.layout.keys in let defaults = defaults_code (first_further p u) (types_of_others p u) in
        let rest : K.block 0 (join defaults (join held (keep_old h))) = K.joined defaults (join held (keep_old h)) (defaults_have (types_of_others p u) (first_further p u))
        (K.joined held (keep_old h) (copy_held_has K h.now h.nothing) (copy_state_has K h.old h.now)) in
        let all : K.block 3 (join zeros (join defaults (join held (keep_old h)))) = K.joined zeros (join defaults (join held (keep_old h))) (zeros_have p.layout.keys (zero_mask p u + 1) keys.contents) (K.more_in_block rest (omega arith)) in
        K.more_in_block (K.first (K.assume (K.quantified keys.heap (K.binary (K.at_bound _) K.zero_real))) all) (omega arith)

    -- ---- methods

    module _ (p : Program) (formed : IsFormed p) (h : Home) (m : Method) (is : IsMethod p m) where
      check_has : IsCode K top Any (check_code (kinds_with p m.vars) h m)
      check_has =
          let c = postcondition_context p m in
          then_has K top (emptied_has K top enough parts c h formed) (λ u any.
          then_has K top (all_produced_has K top enough parts c (place h m.name_at) formed m.postconditions is.postconditions (each_low m.postconditions max_term_depth (let few = is.nested in omega (arith, few)))) (λ u any.
          stop_has K top enough parts))

      ending_has : (body : Body) → IsBody p m body → IsCode K (top + (1 + blocks_in body.stmts)) Any (ending_code p (kinds_with p m.vars) h m body)
      ending_has body typed =
          then_has K (top + (1 + blocks_in body.stmts)) (block_has K top enough parts (method_frame p m) h formed body.stmts typed.stmts typed.nested) (λ u any.
          higher K (omega arith) (asserted_has K top enough parts (postcondition_context p m) h formed body.turn m.postconditions is.postconditions (each_low m.postconditions max_term_depth (let few = is.nested in omega (arith, few)))))

      either_has : (o : Option Body) → IfSome o (IsBody p m) → IsCode K (top + (1 + max_block_depth)) Any (either_code p (kinds_with p m.vars) h m o)
      either_has None typed = higher K (omega arith) check_has
      either_has (Some body) typed =
          let few = typed.blocks in
          higher K (omega (arith, few)) (branching_has K top enough parts (1 + blocks_in body.stmts) s.Either (ending_code p (kinds_with p m.vars) h m body) (check_code (kinds_with p m.vars) h m)
          (λ xs ys l o. K.more_in_block (one_has K (K.either l o)) (omega arith)) (ending_has body typed) (higher K (omega arith) check_has))

      method_has : IsCode K (top + (1 + max_block_depth)) Any (method_code p (kinds_with p m.vars) h m)
      method_has =
          let whole = top + (1 + max_block_depth) in
          then_has K whole (higher K (omega arith) (all_produced_has K top enough parts (precondition_context p m) (place h m.at) formed m.preconditions is.preconditions
          (each_low m.preconditions max_term_depth (let few = is.nested in omega (arith, few))))) (λ u any.
          then_has K whole (bare_has K whole (keep_old h) (K.more_in_block (copy_state_has K h.old h.now) (omega arith))) (λ u any. either_has m.body is.body))

    -- ---- units

    module _ (p : Program) (formed : IsFormed p) where
      begun_has : (u : Unit) → IsCode K (top + (1 + max_block_depth)) Any (puts None (start_code p u))
      begun_has u = bare_has K (top + (1 + max_block_depth)) (start_code p u) (K.more_in_block (start_has p u formed) (omega (arith, enough)))

      unit_has : (u : Unit) → IsUnit p u → IsCode K (top + (1 + max_block_depth)) Any (unit_code p u)
      unit_has w (is_method k m exists formed_method) =
          let whole = top + (1 + max_block_depth) in
          then_has K whole (begun_has (unit.Method k)) (λ x any. of_method p (λ c. IsCode K whole Any c) k m exists (method_has p formed (home_of p (unit.Method k)) m formed_method))
      unit_has w (is_predicate k d body exists has formed_predicate) =
          let whole = top + (1 + max_block_depth) in
          let few = at_some HasFewLevels d.body formed_predicate.nested body has in
          then_has K whole (begun_has (unit.Predicate k)) (λ x any.
          of_predicate p (λ c. IsCode K whole Any c) k d body exists has
          (higher K (omega arith) (parts.produced (predicate_context p d) (place (home_of p (unit.Predicate k)) d.at) body formed (predicate_body_of_typed p formed.typed k d body exists has) few)))

      pub each_unit_has : (n : ℕ) (u : Unit) → slice_get p.units n ≡ Some u → IsCode K (top + (1 + max_block_depth)) Any (unit_code p u)
      each_unit_has n u there = unit_has u (unit_is p formed n u there)
