-- A header: an error at a `?` in it, and what goes on behind it.
use Rattle.std.proofs.Common.{◌≡◌, sym, subst, List, Result, Bor}
use Rattle.std.specs.Result.{IsErrAnd}
use Rattle.std.specs.declared.alloc.Global.{Global}
use Rattle.std.specs.declared.vec.Vec.{Vec}
use Rattle.std.proofs.lemmas.Result.{err_from_is_err_and}
use Rattle.grammar.specs.declared.stop.Stop.{Stop}
use Rattle.viper_syntax.specs.declared.tokens.Token.{Token}
use Rattle.viper_syntax.specs.declared.stmts.Named.{Named}
use Rattle.viper_syntax.specs.declared.stmts.Formal.{Formal}
use Rattle.viper_grammar.specs.Tests.{Kind, Value}
use Rattle.viper_grammar.specs.Grammar.{Rule}
use Rattle.viper_grammar.specs.Greedy.{Goes, Refuses, Parses}
use Rattle.viper_grammar.proofs.Reading.{viper_steps}
use Rattle.viper_parse.specs.Header.{header, Heads}
open viper_steps use {error_as, goes_then}

pub header_error : (ts : List Token) (w : Stop Token) (res : Result ((Named × Vec Formal Global) × Bor (List Token)) (Stop Token)) →
    IsErrAnd res (λ x. x ≡ w) → ((s : Kind) (go : Named → List Formal → Rule s) → Refuses (header s go) ts w) → Heads ts res
header_error ts w res e h =
    let y = err_from_is_err_and res e in
    subst (λ o. Heads ts o) (sym y.1) (subst (λ x. (s : Kind) (go : Named → List Formal → Rule s) → Refuses (header s go) ts x) (sym y.2) h)

pub head_error : {s : Kind} {R : Type 0} (view : R → Value s) {go : Named → List Formal → Rule s} {a : Rule s} {us ts : List Token} (w : Stop Token)
    (res : Result (R × Bor (List Token)) (Stop Token)) → IsErrAnd res (λ x. x ≡ w) → Goes a ts (header s go) us →
    ((r : Kind) (on : Named → List Formal → Rule r) → Refuses (header r on) us w) → Parses view a ts res
head_error {s = s} view {go = go} w res e g h = error_as view w res e (λ z f. g.fails z f) (h s go)

pub by_header : {s : Kind} {go : Named → List Formal → Rule s} {a : Rule s} {us ts vs : List Token} {x : Named} {xs : List Formal} →
    ((r : Kind) (on : Named → List Formal → Rule r) → Goes (header r on) us (on x xs) vs) → Goes a ts (header s go) us → Goes a ts (go x xs) vs
by_header {s = s} {go = go} h g = goes_then g (h s go)
