use Rattle.boogie_text.proofs.BexprLaws.{gives_tokens, gives_token_fault}
use Rattle.boogie_text.proofs.public_tokens.tokens_after.Goals as goal

pub returns-clause-only_tokens : goal.returns-clause-only_tokens
returns-clause-only_tokens c = λ ts h. gives_tokens c.args.bytes.now ts c.text_tokens.result c.text_tokens.ensures h

pub returns-clause-only_fault : goal.returns-clause-only_fault
returns-clause-only_fault c = λ f h. gives_token_fault c.args.bytes.now f c.text_tokens.result c.text_tokens.ensures h
