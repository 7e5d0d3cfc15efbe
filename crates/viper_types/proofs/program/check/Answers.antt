use Rattle.std.proofs.Common.{◌<◌, ◌≤◌, IfErr, arith}
use Rattle.vb_base.specs.Limits.{max_weight}
use Rattle.viper_core.specs.View.{program_of}
use Rattle.viper_syntax.specs.View.{program_of as source_of}
use Rattle.viper_types.proofs.CheckLaws.{light, gives_found, gives_heavy, gives_refused, refused_heavy, tells_refused, tells_no_found, at_fault, formed_found}
use Rattle.viper_types.proofs.ProgramLaws.{found_program}
use Rattle.viper_types.specs.Checked.{Gives, Tells, IsRefused}
use Rattle.viper_types.proofs.program.check.Goals as goal

pub returns-then-weight-gt-MAX_WEIGHT-clause-only : goal.returns-then-weight-gt-MAX_WEIGHT-clause-only
returns-then-weight-gt-MAX_WEIGHT-clause-only c =
    let over : max_weight < c.weight-weight.result = omega (arith, c.if-weight-gt-MAX_WEIGHT.true) in
    gives_heavy _ _ _ c.in_ok-program.ensures.found c.weight-weight.ensures over

pub returns-then-weight-gt-MAX_WEIGHT-clause-refused : goal.returns-then-weight-gt-MAX_WEIGHT-clause-refused
returns-then-weight-gt-MAX_WEIGHT-clause-refused c =
    let over : max_weight < c.weight-weight.result = omega (arith, c.if-weight-gt-MAX_WEIGHT.true) in
    refused_heavy _ _ _ c.in_ok-program.ensures.found c.weight-weight.ensures over

pub returns-then-weight-gt-MAX_WEIGHT-clause-first : goal.returns-then-weight-gt-MAX_WEIGHT-clause-first
returns-then-weight-gt-MAX_WEIGHT-clause-first c = tells_no_found (source_of c.args.source.now) _ c.in_ok-program.ensures.found

pub returns-clause-first : goal.returns-clause-first
returns-clause-first c = tells_no_found (source_of c.args.source.now) _ c.in_ok-program.ensures.found

pub returns-in_err-program-clause-only : goal.returns-in_err-program-clause-only
returns-in_err-program-clause-only c q h =
    at_fault (λ r. Gives r q) c.in_err-program.field-0.0 c.from_residual.result c.from_residual.ensures.1
    (gives_refused (source_of c.args.source.now) c.in_err-program.field-0.0 c.in_err-program.ensures.refused q h)

pub returns-in_err-program-clause-refused : goal.returns-in_err-program-clause-refused
returns-in_err-program-clause-refused c =
    at_fault (λ r. IfErr r (λ f. IsRefused (source_of c.args.source.now) f)) c.in_err-program.field-0.0 c.from_residual.result c.from_residual.ensures.1
    c.in_err-program.ensures.refused

pub returns-in_err-program-clause-first : goal.returns-in_err-program-clause-first
returns-in_err-program-clause-first c at n h =
    at_fault (λ r. Tells r at n) c.in_err-program.field-0.0 c.from_residual.result c.from_residual.ensures.1
    (tells_refused (source_of c.args.source.now) c.in_err-program.field-0.0 c.in_err-program.ensures.refused at n h)

pub returns-clause-found : goal.returns-clause-found
returns-clause-found c =
    let within : c.weight-weight.result ≤ max_weight = omega (arith, c.if-weight-gt-MAX_WEIGHT.false) in
    (found_program (source_of c.args.source.now) c.in_ok-program.ensures.found, light (program_of c.in_ok-program.program) _ c.weight-weight.ensures within)

pub returns-clause-only : goal.returns-clause-only
returns-clause-only c =
    let within : c.weight-weight.result ≤ max_weight = omega (arith, c.if-weight-gt-MAX_WEIGHT.false) in
    gives_found (source_of c.args.source.now) c.in_ok-program.program _ c.in_ok-program.ensures.found c.weight-weight.ensures within

pub returns-clause-formed : goal.returns-clause-formed
returns-clause-formed c =
    let within : c.weight-weight.result ≤ max_weight = omega (arith, c.if-weight-gt-MAX_WEIGHT.false) in
    formed_found _ _ _ c.in_ok-program.ensures.found c.weight-weight.ensures within
