use Rattle.std.proofs.lemmas.Result.{err_from_is_err_and}
use Rattle.viper_syntax.proofs.FormLaws.{well_formed}
use Rattle.viper_syntax.proofs.LexLaws.{one_lexed, lexed_or_faulty, fault_gives_memory, fault_gives_fault, fault_in_cut, fault_in_limits, lexed_in_limits}
use Rattle.viper_syntax.proofs.lexer.lex.Goals as goal

pub returns-in_err-tokens-clause-fault : goal.returns-in_err-tokens-clause-fault
returns-in_err-tokens-clause-fault c =
    let p = err_from_is_err_and c.from_residual.result c.from_residual.ensures.1 in
    rw (p.1, p.2) (fault_in_cut _ _ c.in_err-tokens.ensures)

pub returns-in_err-tokens-clause-only_tokens : goal.returns-in_err-tokens-clause-only_tokens
returns-in_err-tokens-clause-only_tokens c =
    let p = err_from_is_err_and c.from_residual.result c.from_residual.ensures.1 in
    rw (p.1, p.2) (λ ts h. fault_gives_memory c.args.bytes.now ts _ (fault_in_cut _ _ c.in_err-tokens.ensures) h)

pub returns-in_err-tokens-clause-only_fault : goal.returns-in_err-tokens-clause-only_fault
returns-in_err-tokens-clause-only_fault c =
    let p = err_from_is_err_and c.from_residual.result c.from_residual.ensures.1 in
    rw (p.1, p.2) (λ g h. fault_gives_fault c.args.bytes.now g _ (fault_in_cut _ _ c.in_err-tokens.ensures) h)

pub returns-in-Some-clause-fault : goal.returns-in-Some-clause-fault
returns-in-Some-clause-fault c = fault_in_limits c.args.bytes.now _ _ _ c.in_ok-tokens.ensures c.deref.ensures.value c.in-Some.ensures

pub returns-in-Some-clause-only_tokens : goal.returns-in-Some-clause-only_tokens
returns-in-Some-clause-only_tokens c ts h =
    fault_gives_memory c.args.bytes.now ts _ (fault_in_limits c.args.bytes.now _ _ _ c.in_ok-tokens.ensures c.deref.ensures.value c.in-Some.ensures) h

pub returns-in-Some-clause-only_fault : goal.returns-in-Some-clause-only_fault
returns-in-Some-clause-only_fault c g h =
    fault_gives_fault c.args.bytes.now g _ (fault_in_limits c.args.bytes.now _ _ _ c.in_ok-tokens.ensures c.deref.ensures.value c.in-Some.ensures) h

pub returns-in-None-clause-only_tokens : goal.returns-in-None-clause-only_tokens
returns-in-None-clause-only_tokens c ts h =
    one_lexed c.args.bytes.now _ ts (lexed_in_limits _ _ _ c.in_ok-tokens.ensures c.deref.ensures.value c.in-None.ensures) h

pub returns-in-None-clause-only_fault : goal.returns-in-None-clause-only_fault
returns-in-None-clause-only_fault c g h =
    lexed_or_faulty c.args.bytes.now _ g (lexed_in_limits _ _ _ c.in_ok-tokens.ensures c.deref.ensures.value c.in-None.ensures) h

pub returns-in-None-clause-well_formed : goal.returns-in-None-clause-well_formed
returns-in-None-clause-well_formed c =
    well_formed c.args.bytes.now _ c.requires (lexed_in_limits _ _ _ c.in_ok-tokens.ensures c.deref.ensures.value c.in-None.ensures)
