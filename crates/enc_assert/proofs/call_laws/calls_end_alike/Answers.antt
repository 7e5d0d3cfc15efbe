use Rattle.enc_assert.proofs.CallLaws.{produced_call, consumed_call, forgotten_call}
use Rattle.enc_assert.proofs.call_laws.calls_end_alike.Goals as goal

pub returns-clause-produce : goal.returns-clause-produce
returns-clause-produce call ts us b c p s sc E scale k a formed coupled typed own fits scales h many ready =
    produced_call ts us b c p formed sc E scale k a typed h many fits scales s coupled own ready

pub returns-clause-consume : goal.returns-clause-consume
returns-clause-consume call ts us b c p left s u sc E scale k a formed coupled maps sound typed own fits scales h many ready =
    consumed_call ts us b c p formed sc E scale k a typed h many fits scales left s u coupled maps sound own ready

pub returns-clause-forget : goal.returns-clause-forget
returns-clause-forget call ts us b c p s sc E coupled own h many full locals = forgotten_call ts us b c p s sc E h many coupled own full locals
