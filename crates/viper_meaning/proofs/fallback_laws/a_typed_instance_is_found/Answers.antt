use Rattle.viper_state.proofs.FitsLaws.{content_found, amount_found}
use Rattle.viper_meaning.proofs.FoldLaws.{body_found}
use Rattle.viper_meaning.proofs.TypedLaws.{not_blocked, keys_at, taken_typed}
use Rattle.viper_meaning.proofs.UnblockedLaws.{key_there, one_key, instance_unblocked}
use Rattle.viper_meaning.proofs.fallback_laws.a_typed_instance_is_found.Goals as goal

pub returns-clause-key : goal.returns-clause-key
returns-clause-key _ c p d vs formed = key_there c formed p d vs

pub returns-clause-one_key : goal.returns-clause-one_key
returns-clause-one_key _ = one_key

pub returns-clause-amount : goal.returns-clause-amount
returns-clause-amount _ c p d key s formed there fits = amount_found fits p key d.params (keys_at c formed p d there)

pub returns-clause-content : goal.returns-clause-content
returns-clause-content _ c p d key s formed there fits = content_found fits p key d.params (keys_at c formed p d there)

pub returns-clause-instance : goal.returns-clause-instance
returns-clause-instance _ b c p d args s sc formed there typed plain fits seen = not_blocked (instance_unblocked b c formed p d args s sc there typed plain fits seen)

pub returns-clause-taken : goal.returns-clause-taken
returns-clause-taken _ b c sc s p d key q at formed there typed reduced fits = not_blocked (taken_typed c.program.layout b sc s p d.params key q at (keys_at c formed p d there) typed reduced fits)

pub returns-clause-body : goal.returns-clause-body
returns-clause-body _ = body_found
