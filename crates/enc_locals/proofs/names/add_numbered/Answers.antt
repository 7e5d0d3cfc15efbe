use Rattle.std.proofs.Common.{◌∙◌, ap, arith}
use Rattle.enc_expr.specs.Locals.{other_name}
use Rattle.enc_locals.proofs.NamesLaws.{more_named}
use Rattle.enc_locals.proofs.names.add_numbered.Goals as goal

pub loop-ty-preserved : goal.loop-ty-preserved
loop-ty-preserved c =
    more_named c.loop-ty.out.items c.add.new.items.items _ c.in_ok-numbered.field-0 c.args.types.now c.loop-ty._ty-index c.loop-ty.numbers.next c.one.new.self.next
    (omega (arith, c.loop-ty-test.true, c.loop-ty.auto._ty-index-end)) c.loop-ty.invariant c.in_ok-add.ensures (c.in_ok-numbered.ensures ∙ ap other_name c.in_ok-number.ensures.0) c.in_ok-number.ensures.1
