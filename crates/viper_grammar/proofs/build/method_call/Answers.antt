use Rattle.std.proofs.Common.{◌≡◌, ◌∙◌, refl, sym, ap, List, [], ◌∷◌, map}
use Rattle.viper_syntax.specs.Term as t
use Rattle.viper_syntax.specs.Stmt as s
use Rattle.viper_syntax.specs.View.{term_of}
use Rattle.viper_syntax.proofs.ViewLaws.{term_of-Inst, terms_of-map}
use Rattle.viper_grammar.specs.Grammar.{listed, rhs_from}
use Rattle.viper_grammar.specs.declared.parts.Shape.TheVariants as shape
use Rattle.viper_grammar.proofs.build.method_call.Goals as goal

listed-terms : (es : List t.Term) → listed (t.terms es) ≡ es
listed-terms [] = refl
listed-terms (a ∷ rest) = ap (λ es. a ∷ es) (listed-terms rest)

pub returns-in-Inst : goal.returns-in-Inst
returns-in-Inst c =
    let x = c.in-Inst.name in
    let v = c.in-Inst.args in
    let at = c.in-Inst.pos in
    sym (
    ap (λ a. rhs_from shape.Call (term_of a)) c.in-Inst.is ∙
    ap (rhs_from shape.Call) (term_of-Inst x v at ∙ ap (λ es. t.Inst x es at) (terms_of-map v.items)) ∙
    ap (λ es. s.CallRhs (record { name = record { name = x; pos = at }; args = es })) (listed-terms (map term_of v.items))
    )
