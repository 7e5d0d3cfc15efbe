use Rattle.std.proofs.Common.{◌∙◌, sym}
use Rattle.std.proofs.lemmas.Result.{err_from_is_err_and}
use Rattle.viper_syntax.specs.View as tree
use Rattle.tool_common.proofs.FileLaws.{error_is}
use Rattle.viper_file.proofs.Verdicts.{lex_refusal, parse_refusal, type_refusal}
use Rattle.viper_file.proofs.accepting.typed_program.Goals as goal

pub returns-in_err-tokens-clause-refused : goal.returns-in_err-tokens-clause-refused
returns-in_err-tokens-clause-refused c r is_r =
    let p = err_from_is_err_and c.from_residual.result c.from_residual.ensures.1 in
    lex_refusal c.args.bytes.now c.in_err-tokens.field-0.0 r c.in_err-tokens.ensures.fault (sym p.2 ∙ error_is p.1 is_r)

pub returns-in_err-source-clause-refused : goal.returns-in_err-source-clause-refused
returns-in_err-source-clause-refused c r is_r =
    let p = err_from_is_err_and c.from_residual-in_err-source.result c.from_residual-in_err-source.ensures.1 in
    parse_refusal c.args.bytes.now c.in_ok-tokens.tokens.items c.place_after.result c.in_err-source.field-0.0 r
    c.in_ok-tokens.ensures.tokens c.place_after.ensures c.in_err-source.ensures.only c.in_err-source.ensures.place (sym p.2 ∙ error_is p.1 is_r)

pub returns-in_err-check-clause-refused : goal.returns-in_err-check-clause-refused
returns-in_err-check-clause-refused c r is_r =
    let p = err_from_is_err_and c.from_residual-in_err-check.result c.from_residual-in_err-check.ensures.1 in
    type_refusal c.args.bytes.now c.in_ok-tokens.tokens.items (tree.program_of c.in_ok-source.source) c.in_err-check.field-0.0 r
    c.in_ok-tokens.ensures.tokens c.in_ok-source.ensures.found c.in_err-check.ensures.refused (sym p.2 ∙ error_is p.1 is_r)
