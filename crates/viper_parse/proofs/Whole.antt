-- Programs: what is read up to the end of the tokens.
use Rattle.std.proofs.Common.{◌≡◌, refl, sym, subst, List, [], ◌∷◌, length, Result, Option, Bor, arith, true, false, ◌==◌}
use Rattle.std.proofs.lemmas.Bool.{eqb-true}
use Rattle.std.specs.Result.{IsErrAnd}
use Rattle.std.proofs.lemmas.Result.{err_from_is_err_and}
use Rattle.grammar.specs.declared.stop.Stop.{Stop}
use Rattle.grammar.specs.declared.stop.Stop.TheVariants as stop
use Rattle.grammar.proofs.Whole as grammar
use Rattle.viper_syntax.specs.declared.tokens.Token.{Token}
use Rattle.viper_syntax.specs.declared.decls.Decl.{Decl}
use Rattle.viper_syntax.specs.Decl as d
use Rattle.viper_grammar.specs.Tests as v
use Rattle.viper_grammar.specs.Tests.{Kind}
use Rattle.viper_grammar.specs.Grammar as g
use Rattle.viper_grammar.specs.Grammar.{Rule, rule, rules}
use Rattle.viper_grammar.specs.Greedy.{Reads, Fails, Goes, Refuses}
use Rattle.viper_parse.specs.Whole.{Declares, DeclareFails, FailsWhole, RefusesWhole, ReadsWhole}
use Rattle.viper_grammar.proofs.Elements.{laws}

-- an error at a `?` of `declaration`

declare_fails_as : {r : Kind} {b : Rule r} {us ts : List Token} (w : Stop Token) →
    ((ds : List d.Decl) (z : List Token) → Fails b us z → Fails (rule (g.Program ds)) ts z) → Refuses b us w → DeclareFails ts w
declare_fails_as stop.Memory f h = tt
declare_fails_as (stop.Before r) f h = λ ds. f ds r.now h

pub declares_error : {r : Kind} {b : Rule r} {us : List Token} (ts : List Token) (w : Stop Token) (res : Result (Option (Decl × Bor (List Token))) (Stop Token)) →
    IsErrAnd res (λ x. x ≡ w) → ((ds : List d.Decl) (z : List Token) → Fails b us z → Fails (rule (g.Program ds)) ts z) → Refuses b us w → Declares ts res
declares_error ts w res e f h =
    let y = err_from_is_err_and res e in
    let h' : DeclareFails ts w = declare_fails_as w f h in
    subst (λ o. Declares ts o) (sym y.1) (subst (λ x. DeclareFails ts x) (sym y.2) h')

-- a declaration goes wrong, and so does the program

pub whole_fails : {ts us z : List Token} {ds : List d.Decl} → Goes (rule (g.Program [])) ts (rule (g.Program ds)) us → Fails (rule (g.Program ds)) us z → FailsWhole ts z
whole_fails g f = grammar.whole_fails g f

whole_refuses : {ts us : List Token} {ds : List d.Decl} (w : Stop Token) → Goes (rule (g.Program [])) ts (rule (g.Program ds)) us → DeclareFails us w → RefusesWhole ts w
whole_refuses stop.Memory g h = tt
whole_refuses {ds = ds} (stop.Before r) g h = whole_fails g (h ds)

pub whole_error : {ts us : List Token} {ds : List d.Decl} (w : Stop Token) (res : _) → IsErrAnd res (λ x. x ≡ w) →
    Goes (rule (g.Program [])) ts (rule (g.Program ds)) us → DeclareFails us w → ReadsWhole ts res
whole_error {ts = ts} w res e g h =
    let y = err_from_is_err_and res e in
    subst (λ o. ReadsWhole ts o) (sym y.1) (subst (λ x. RefusesWhole ts x) (sym y.2) (whole_refuses w g h))

-- the declarations end, and a token is left

pub left_over : {ts us : List Token} {ds : List d.Decl} → Reads v.decls (rule (g.Program [])) ts ds us → (k : Token) (vs : List Token) → us ≡ k ∷ vs → FailsWhole ts us
left_over h k vs is = grammar.left_over rules laws h k vs is

pub some_token : (us : List Token) → false ≡ (length us == 0) → (k : Token) × (vs : List Token) × (us ≡ k ∷ vs)
some_token [] e = absurd (cc)
some_token (k ∷ vs) e = (k, vs, refl)

pub no_token_left : (us : List Token) → true ≡ (length us == 0) → us ≡ []
no_token_left [] e = refl
no_token_left (k ∷ vs) e = let h : length (k ∷ vs) ≡ 0 = eqb-true (length (k ∷ vs)) 0 (sym e) in absurd (omega arith)
