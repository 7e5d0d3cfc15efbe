use Rattle.std.proofs.Common.{◌∙◌, sym}
use Rattle.std.proofs.lemmas.Result.{err_from_is_err_and}
use Rattle.viper_core.specs.View.{program_of}
use Rattle.viper_syntax.specs.View as view
use Rattle.tool_common.proofs.FileLaws.{error_is}
use Rattle.viper_file.proofs.Verdicts.{lex_refusal, parse_refusal, type_refusal, accepts}
use Rattle.viper_file.proofs.accepting.program_and_word.Goals as goal

pub returns-in_err-tokens-clause-refused : goal.returns-in_err-tokens-clause-refused
returns-in_err-tokens-clause-refused c r is_r =
    let p = err_from_is_err_and c.from_residual.result c.from_residual.ensures.1 in
    lex_refusal c.args.bytes.now c.in_err-tokens.field-0.0 r c.in_err-tokens.ensures.fault (sym p.2 ∙ error_is p.1 is_r)

pub returns-in_err-tree-clause-refused : goal.returns-in_err-tree-clause-refused
returns-in_err-tree-clause-refused c r is_r =
    let p = err_from_is_err_and c.from_residual-in_err-tree.result c.from_residual-in_err-tree.ensures.1 in
    parse_refusal c.args.bytes.now c.in_ok-tokens.tokens.items c.place_after.result c.in_err-tree.field-0.0 r
    c.in_ok-tokens.ensures.tokens c.place_after.ensures c.in_err-tree.ensures.only c.in_err-tree.ensures.place (sym p.2 ∙ error_is p.1 is_r)

pub returns-in_err-program-clause-refused : goal.returns-in_err-program-clause-refused
returns-in_err-program-clause-refused c r is_r =
    let p = err_from_is_err_and c.from_residual-in_err-program.result c.from_residual-in_err-program.ensures.1 in
    type_refusal c.args.bytes.now c.in_ok-tokens.tokens.items (view.program_of c.in_ok-tree.tree) c.in_err-program.field-0.0 r
    c.in_ok-tokens.ensures.tokens c.in_ok-tree.ensures.found c.in_err-program.ensures.refused (sym p.2 ∙ error_is p.1 is_r)

pub returns-clause-accepted : goal.returns-clause-accepted
unfolding accepts
returns-clause-accepted c = (
  accepts c.args.bytes.now c.in_ok-tokens.tokens.items (view.program_of c.in_ok-tree.tree) (program_of c.in_ok-program.program) c.requires
      c.in_ok-tokens.ensures.tokens c.in_ok-tree.ensures.found c.in_ok-program.ensures.found,
  sym c.first_unframed-word.ensures,
)
