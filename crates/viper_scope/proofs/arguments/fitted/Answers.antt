use Rattle.std.proofs.Common.{◌≡◌, ◌∙◌, ap, sym, refl, Bool, true, false, List, map, Option, Some, None}
use Rattle.vb_base.specs.declared.places.Pos.{Pos}
use Rattle.vb_value.specs.declared.values.Ty.{Ty}
use Rattle.viper_syntax.specs.Term as t
use Rattle.viper_syntax.specs.View.{terms_of}
use Rattle.viper_core.specs.declared.exprs.Expr.{Expr}
use Rattle.viper_scope.specs.Answers.{argument_exprs_of, typing_of}
use Rattle.viper_scope.specs.Arguments.{misfit, as_many}
use Rattle.viper_scope.proofs.ArgumentLaws.{as_many-map}
use Rattle.viper_scope.proofs.Judged.{answers_along}
use Rattle.viper_scope.proofs.arguments.fitted.Goals as goal

-- what was tried on a slice of the typed arguments, said of the arguments
tried_many : (xs ys : List (Expr × Ty)) (us : List Ty) (b r : Bool) → xs ≡ ys → r ≡ as_many xs us → r ≡ b → as_many (map typing_of ys) us ≡ b
tried_many xs ys us b r same tried is =
    as_many-map typing_of ys us ∙ ap (λ zs. as_many zs us) (sym same) ∙ sym tried ∙ is

tried_misfit : (args : t.Terms) (xs ys : List (Expr × Ty)) (us : List Ty) (p r : Option Pos) → xs ≡ ys → r ≡ misfit args (map typing_of xs) us → r ≡ p → misfit args (map typing_of ys) us ≡ p
tried_misfit args xs ys us p r same tried is = ap (λ zs. misfit args (map typing_of zs) us) (sym same) ∙ sym tried ∙ is

pub returns-then-not-as_many : goal.returns-then-not-as_many
returns-then-not-as_many c =
    let many = tried_many _ _ c.args.params.now false c.as_many.result c.deref.ensures.value c.as_many.ensures c.if-not-as_many.true in
    rw many refl

pub returns-in-Some : goal.returns-in-Some
returns-in-Some c =
    let many = tried_many _ _ c.args.params.now true c.as_many.result c.deref.ensures.value c.as_many.ensures c.if-not-as_many.false in
    let place = tried_misfit (terms_of c.args.args.now) _ _ c.args.params.now (Some c.in-Some.place) c.misfit.result c.deref-2.ensures.value c.misfit.ensures c.in-Some.is in
    rw (many, place) refl

pub returns : goal.returns
returns c =
    let many = tried_many _ _ c.args.params.now true c.as_many.result c.deref.ensures.value c.as_many.ensures c.if-not-as_many.false in
    let place = tried_misfit (terms_of c.args.args.now) _ _ c.args.params.now None c.misfit.result c.deref-2.ensures.value c.misfit.ensures c.in_default.is in
    answers_along argument_exprs_of c.exprs_in.result (rw (many, place) refl) c.exprs_in.ensures
