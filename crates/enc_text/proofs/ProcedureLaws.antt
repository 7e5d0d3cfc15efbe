-- A procedure that consists of the code of an expression or body can be printed.
use Rattle.std.proofs.Common.{◌≡◌, ◌+◌, ◌≤◌, ◌^◌, ◌++◌, ℕ, List, Some, None, slice_get, length, length-append, subst, arith}
use Rattle.std.proofs.lemmas.List.Elements.{All-append}
use Rattle.enc_expr.proofs.EmitLaws.{length-temporaries}
use Rattle.vb_value.specs.declared.values.Ty.{Ty}
use Rattle.viper_core.specs.Expr as e
use Rattle.viper_core.specs.Formed.{IsFormed}
use Rattle.viper_core.specs.Program.{Program}
use Rattle.viper_core.specs.Typing as y
use Rattle.viper_core.specs.Typing.{Context, IsAssertion}
use Rattle.viper_core.specs.declared.programs.Unit.{Unit}
use Rattle.boogie_tree.specs.Expr as t
use Rattle.boogie_tree.specs.Program.{BType}
use Rattle.boogie_tree.specs.declared.exprs.BBase.TheVariants as base
use Rattle.boogie_tree.specs.Values.{plain_type, AreKeys}
use Rattle.boogie_meaning.specs.Programs.{HaveKeys}
use Rattle.boogie_meaning.specs.Types as b
use Rattle.boogie_tree.specs.Fits.{FitStmts}
use Rattle.boogie_print.specs.Printable.{IsFreeName, FitsProc}
use Rattle.enc_expr.specs.Place.{Place}
use Rattle.enc_expr.specs.Kinds.{kinds_in}
use Rattle.enc_expr.specs.Code.{Code, Guard}
use Rattle.enc_expr.specs.Emits.{temporaries}
use Rattle.enc_expr.specs.Encoding.{code, body_code}
use Rattle.enc_expr.specs.Locals.{fixed_names, fixed_types, named, locals_of_unit}
use Rattle.enc_expr.specs.Typed.{HasPlaceTypes, HasGuardType}
use Rattle.enc_expr.proofs.TypedCode.{expression_typed, filling_typed}
use Rattle.boogie_tree.specs.Literals.{LiteralsFit}
use Rattle.enc_expr.specs.Fits.{FitsPiece}
use Rattle.enc_text.specs.Fits.{types_before, procedure_of}
use Rattle.enc_text.proofs.NameLaws.{length_named, fixed_good, locals_fit, locals_differ}
use Rattle.enc_expr.proofs.PrintedCode.{expression_printed, body_printed}

abbrev has_keys : BType → Type 0
has_keys u = AreKeys u.keys

-- a piece whose statements can be spelled
of_piece : {X : Type 0} (name : List ℕ) (p : Program) (i : Unit) (us : List BType) (m : Code X) → IsFreeName name → IsFormed p → HaveKeys us → HaveKeys m.locals → length (types_before p i us) + length m.locals ≤ 2 ^ 64 →
    FitsPiece (length (types_before p i us)) m → FitsProc (procedure_of name p i us m)
of_piece name p i us m free formed keyed own small h = record {
  name = free;
  locals = locals_fit p i (us ++ m.locals) formed (All-append has_keys us m.locals keyed own) few;
  locals_differ = locals_differ p i (us ++ m.locals) formed few;
  body = subst (λ (n : ℕ). FitStmts n m.stmts) as_many h;
}
  where
    few : length (fixed_types p i ++ (us ++ m.locals)) ≤ 2 ^ 64
    few = omega (arith, small, length-append (fixed_types p i) (us ++ m.locals), length-append us m.locals, length-append (fixed_types p i) us)

    as_many : length (types_before p i us) + length m.locals ≡ length (locals_of_unit p i (us ++ m.locals))
    as_many = omega (
      arith,
      length-append (fixed_types p i) us,
      length-append us m.locals,
      length-append (named (fixed_names p i) (fixed_types p i)) (temporaries (length (fixed_types p i)) (us ++ m.locals)),
      length_named (fixed_names p i) (fixed_types p i) (fixed_good p i formed).as_many,
      length-temporaries (length (fixed_types p i)) (us ++ m.locals),
    )

pub expression_procedure : (name : List ℕ) (i : Unit) (us : List BType) (c : Context) (p : Place) (g : Guard) (a : e.Expr) (u : Ty) → IsFreeName name → IsFormed c.program → HaveKeys us → y.HasType c a u →
    HasPlaceTypes c p (types_before c.program i us) → HasGuardType g (types_before c.program i us) →
    length (types_before c.program i us) + length (code (kinds_in c) p g a (length (types_before c.program i us))).locals ≤ 2 ^ 64 →
    FitsProc (procedure_of name c.program i us (code (kinds_in c) p g a (length (types_before c.program i us))))
expression_procedure name i us c p g a u free formed keyed typed h guard small =
    let ts = types_before c.program i us in
    of_piece name c.program i us (code (kinds_in c) p g a (length ts)) free formed keyed (expression_typed c p g a u ts formed typed h guard).piece.keys small (expression_printed c p g a u ts formed typed h guard).stmts

pub body_procedure : (name : List ℕ) (i : Unit) (us : List BType) (c : Context) (p : Place) (g : Guard) (scale : t.BExpr) (a : e.Assertion) (from : ℕ) → IsFreeName name → IsFormed c.program → HaveKeys us → IsAssertion c a →
    HasPlaceTypes c p (types_before c.program i us) → HasGuardType g (types_before c.program i us) → b.HasType (types_before c.program i us) None scale base.Real → LiteralsFit scale →
    slice_get (types_before c.program i us) from ≡ Some (plain_type base.Snap) →
    length (types_before c.program i us) + length (body_code (kinds_in c) p g scale a from (length (types_before c.program i us))).locals ≤ 2 ^ 64 →
    FitsProc (procedure_of name c.program i us (body_code (kinds_in c) p g scale a from (length (types_before c.program i us))))
body_procedure name i us c p g scale a from free formed keyed typed h guard typed_scale literals content small =
    let ts = types_before c.program i us in
    of_piece name c.program i us (body_code (kinds_in c) p g scale a from (length ts)) free formed keyed (filling_typed c p g scale a from ts formed typed h guard typed_scale content).keys small
    (body_printed c p g scale a from ts formed typed h guard typed_scale literals content)
