use Rattle.std.proofs.Common.{length, None, sym, subst}
use Rattle.viper_meaning.specs.Value.{value}
use Rattle.boogie_meaning.specs.Run.{brun}
use Rattle.enc_expr.specs.Alike.{IsValued}
use Rattle.enc_expr.specs.Boundary.{AreAlike}
use Rattle.enc_expr.specs.Code.{Emitting}
use Rattle.enc_expr.specs.Coupling.{IsReady}
use Rattle.enc_expr.specs.Pieces.{Operand}
use Rattle.enc_expr.proofs.EncodingLaws.{code_both_ways}
use Rattle.enc_expr.proofs.ReadOffLaws.{code_read}
use Rattle.enc_expr.proofs.call_laws.types_are_read_off_the_locals.Goals as goal

pub returns-clause-code : goal.returns-clause-code
returns-clause-code call c p g a u ts formed typed h many = code_read c p ts h many g a u formed typed

pub returns-clause-alike : goal.returns-clause-alike
returns-clause-alike call ts us b c p s sc E a u formed coupled typed h many =
    subst (λ (m : Emitting Operand). IsReady ts None (length us) (m (length us)).locals E → AreAlike b (IsValued b (length us) (m (length us)).next (m (length us)).value u E) (value b a s sc) (λ cs. brun ts b (m (length us)).stmts E cs))
    (sym (code_read c p us h many None a u formed typed)) (code_both_ways ts b c p None s sc (length us) E formed coupled a u typed)
