use Rattle.std.proofs.Common.{◌≡◌, ◌∙◌, ap, sym, refl, ℕ, Bool, true, false, List, map, None}
use Rattle.vb_base.specs.declared.places.Pos.{Pos}
use Rattle.vb_value.specs.declared.values.Ty.{Ty}
use Rattle.viper_core.specs.Stmt as s
use Rattle.viper_syntax.specs.Stmt as source
use Rattle.viper_syntax.specs.Term.{terms}
use Rattle.viper_syntax.specs.View.{call_of}
use Rattle.viper_scope.specs.Answers.{typing_of, typings_of}
use Rattle.viper_scope.specs.Arguments.{Typing, as_many, exprs_in, misfit}
use Rattle.viper_scope.specs.Outcome.{Found, then_typed}
use Rattle.viper_scope.proofs.ArgumentLaws.{as_many-map}
use Rattle.viper_types.specs.Answers.{target_of}
use Rattle.viper_types.specs.Stepping.{AssignedVariable, called, mistarget, numbers_in}
use Rattle.viper_types.proofs.calls.called.Goals as goal

-- what was tried on slices, said of what they lend
tried_many : {X Y Z : Type 0} (f : X → Z) (xs ys : List X) (us vs : List Y) (b r : Bool) → xs ≡ ys → us ≡ vs → r ≡ as_many xs us → r ≡ b → as_many (map f ys) vs ≡ b
tried_many f xs ys us vs b r same lent tried is =
    as_many-map f ys vs ∙ ap (λ zs. as_many zs vs) (sym same) ∙ ap (as_many xs) (sym lent) ∙ sym tried ∙ is

all_fit : (at : Pos) (vs : List AssignedVariable) (call : source.SCall) (m : ℕ) (params returns : List Ty) (xs : List Typing) → as_many xs params ≡ true → as_many vs returns ≡ true →
    mistarget vs returns ≡ None → misfit (terms call.args) xs params ≡ None → called at vs call m params returns xs ≡ Found (s.Call at (numbers_in vs) m (exprs_in xs))
all_fit at vs call m params returns xs many answered targets fit = rw (many, answered, targets, fit) refl

pub returns-then-not-as_many : goal.returns-then-not-as_many
returns-then-not-as_many c =
    let many = tried_many typing_of _ c.args.typed.items _ c.args.method.now.params.items false c.as_many.result c.deref.ensures.value c.deref-2.ensures.value c.as_many.ensures c.if-not-as_many.true in
    rw many refl

pub returns : goal.returns
returns c =
    let vs = map target_of c.args.targets.now in
    let call = call_of c.args.call.now in
    let params = c.args.method.now.params.items in
    let returns = c.args.method.now.returns.items in
    let xs = typings_of c.args.typed in
    let many = tried_many typing_of _ c.args.typed.items _ params true c.as_many.result c.deref.ensures.value c.deref-2.ensures.value c.as_many.ensures c.if-not-as_many.false in
    let answered = tried_many target_of c.args.targets.now _ _ returns true c.as_many-2.result refl c.deref-3.ensures.value c.as_many-2.ensures c.if-not-as_many-2.false in
    let targets = ap (mistarget vs) (sym c.deref-4.ensures.value) ∙ sym c.mistarget.ensures ∙ c.in_default.is in
    let fit = ap (λ ys. misfit (terms call.args) (map typing_of ys) params) (sym c.deref-5.ensures.value) ∙ ap (misfit (terms call.args) (map typing_of c.deref-5.result.now)) (sym c.deref-6.ensures.value) ∙
    sym c.first_misfit.ensures ∙ c.in_default-first_misfit.is in
    all_fit c.args.at vs call c.args.number params returns xs many answered targets fit ∙
    ap (λ ns. Found (s.Call c.args.at ns c.args.number (exprs_in xs))) (sym c.in_ok-numbers.ensures) ∙
    ap (λ j. then_typed j (λ es. Found (s.Call c.args.at c.in_ok-numbers.numbers.items c.args.number es))) c.in_ok-exprs_in.ensures
