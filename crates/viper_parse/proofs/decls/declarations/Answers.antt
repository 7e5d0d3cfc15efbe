use Rattle.std.proofs.Common.{refl, ap, map, [], arith}
use Rattle.viper_syntax.specs.View.{decl_of}
use Rattle.viper_grammar.specs.Tests as v
use Rattle.viper_grammar.specs.Grammar as g
use Rattle.viper_grammar.proofs.Reading.{viper_steps}
use Rattle.grammar.proofs.Pushed.{pushed_more}
use Rattle.viper_parse.proofs.decls.declarations.Goals as goal
use Rattle.std.proofs.Common.{subst}
use Rattle.viper_grammar.specs.Greedy.{Reads}
use Rattle.viper_parse.proofs.Whole.{whole_error, left_over, some_token, no_token_left}
open viper_steps use {start, goes_at, goes_then}

pub loop-next-init : goal.loop-next-init
loop-next-init c =
    record { shorter = omega arith; goes = goes_at v.decls (λ ds. g.rule (g.Program ds)) (ap (map decl_of) c.new-all.ensures.items) (start (g.rule (g.Program [])) c.args.tokens.now) }

pub returns-in_err-next : goal.returns-in_err-next
returns-in_err-next c =
    whole_error _ _ c.from_residual.ensures.1 c.loop-next.invariant.goes c.in_err-next.ensures.reads

pub loop-next-preserved : goal.loop-next-preserved
loop-next-preserved c =
    let next = rw c.in-Some.is at c.in_ok-next.ensures.reads in
    let less = rw c.in-Some.is at c.in_ok-next.ensures.shorter in
    record {
      shorter = omega (arith, less);
      goes = goes_at v.decls (λ ds. g.rule (g.Program ds)) (pushed_more decl_of _ c.in_ok-all.ensures refl) (goes_then c.loop-next.invariant.goes (next (map decl_of c.loop-next.all.items)));
    }

pub returns-then-not-is_empty : goal.returns-then-not-is_empty
returns-then-not-is_empty c =
    let none = rw c.in_default.is at c.in_ok-next.ensures.reads in
    let x = some_token c.loop-next.rest.now c.if-not-is_empty.ensures in
    left_over (c.loop-next.invariant.goes.reads _ _ (none (map decl_of c.loop-next.all.items))) x.0 x.1 x.2

pub returns : goal.returns
returns c =
    let none = rw c.in_default.is at c.in_ok-next.ensures.reads in
    let h = c.loop-next.invariant.goes.reads _ _ (none (map decl_of c.loop-next.all.items)) in
    subst (λ us. Reads v.decls (g.rule (g.Program [])) c.args.tokens.now (map decl_of c.loop-next.all.items) us) (no_token_left c.loop-next.rest.now c.if-not-is_empty.ensures) h
