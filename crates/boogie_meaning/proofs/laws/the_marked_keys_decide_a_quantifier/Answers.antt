use Rattle.boogie_meaning.specs.Marked.{marked}
use Rattle.boogie_meaning.proofs.ForallLaws.{alike_elsewhere, marked_decides, marked_alone, only_bools}
use Rattle.boogie_meaning.proofs.TypeLaws.{Decides-are_keys}
use Rattle.boogie_meaning.proofs.laws.the_marked_keys_decide_a_quantifier.Goals as goal

pub returns-clause-alike : goal.returns-clause-alike
returns-clause-alike c = alike_elsewhere

pub returns-clause-decide : goal.returns-clause-decide
returns-clause-decide c = marked_decides

pub returns-clause-alone : goal.returns-clause-alone
returns-clause-alone c = marked_alone

pub returns-clause-missing : goal.returns-clause-missing
returns-clause-missing c us a env h all = only_bools us (marked a env) ((Decides-are_keys us).1 h) all
