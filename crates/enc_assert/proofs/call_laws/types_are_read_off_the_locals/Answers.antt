use Rattle.enc_assert.proofs.CallLaws.{produce_read, consume_read, forget_read}
use Rattle.enc_assert.proofs.call_laws.types_are_read_off_the_locals.Goals as goal

pub returns-clause-produce : goal.returns-clause-produce
returns-clause-produce call c p g scale a ts formed typed h many = produce_read c p ts h many g scale a formed typed

pub returns-clause-consume : goal.returns-clause-consume
returns-clause-consume call c p left g scale a ts formed typed h many = consume_read c p ts h many left g scale a formed typed

pub returns-clause-forget : goal.returns-clause-forget
returns-clause-forget call c p ts h many = forget_read c p ts h many
