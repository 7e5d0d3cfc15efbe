use Rattle.std.proofs.Common.{Err, refl}
use Rattle.viper_grammar.proofs.Reading.{viper_steps}
use Rattle.viper_parse.specs.Header.{header}
use Rattle.viper_parse.proofs.HeaderLaws.{header_error}
use Rattle.viper_parse.proofs.decls.header.Goals as goal
open viper_steps use {start, by_need, by_part, part_error, token_error}

pub returns-in_err-named-clause-reads : goal.returns-in_err-named-clause-reads
returns-in_err-named-clause-reads c =
    header_error _ _ _ c.from_residual.ensures.1 (λ s go. token_error (λ x. x) _ (Err _) refl (start (header s go) c.args.tokens.now) c.in_err-named.ensures.takes)

pub returns-in_err-after-clause-reads : goal.returns-in_err-after-clause-reads
returns-in_err-after-clause-reads c =
    header_error _ _ _ c.from_residual-in_err-after.ensures.1 (λ s go. token_error (λ x. x) _ (Err _) refl (by_need c.in_ok-named.ensures.takes (start (header s go) c.args.tokens.now)) c.in_err-after.ensures.takes)

pub returns-in_err-params-clause-reads : goal.returns-in_err-params-clause-reads
returns-in_err-params-clause-reads c =
    header_error _ _ _ c.from_residual-in_err-params.ensures.1 (λ s go. part_error (λ x. x) _ (Err _) refl (by_need c.in_ok-after.ensures.takes (by_need c.in_ok-named.ensures.takes (start (header s go) c.args.tokens.now))) c.in_err-params.ensures.reads)

pub returns-clause-reads : goal.returns-clause-reads
returns-clause-reads c =
    λ s go. by_part c.in_ok-params.ensures.reads (by_need c.in_ok-after.ensures.takes (by_need c.in_ok-named.ensures.takes (start (header s go) c.args.tokens.now)))
