use Rattle.std.proofs.Common.{sym, ◌∙◌}
use Rattle.vb_base.proofs.Numbers.{no_leading_zero, starts_with_zero, read_number_of, digits_are_text}
use Rattle.vb_base.proofs.labels.number_of.Goals as goal

pub returns-then-starts_with : goal.returns-then-starts_with
returns-then-starts_with c =
    λ n h. no_leading_zero (starts_with_zero c.args.digits.now (sym c.starts_with.ensures.value ∙ c.if-starts_with.true)) h

pub returns-in-Ok : goal.returns-in-Ok
returns-in-Ok c =
    rw (c.ok.ensures.value)
    (read_number_of c.args.digits.now c.parse.result c.requires (sym c.starts_with.ensures.value ∙ c.if-starts_with.false)
    (rw c.in-Ok.ensures.cases.0 at c.parse.ensures.value.0))

pub returns-in-Err : goal.returns-in-Err
returns-in-Err c = absurd (c.in-Err.ensures.cases.0 (digits_are_text c.args.digits.now c.requires))
