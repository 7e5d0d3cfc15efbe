-- The masks, the amounts, and the variables.
use Rattle.std.proofs.Common.{◌∙◌, ◌+◌, map, ap, sym}
use Rattle.std.proofs.lemmas.List.{length-map}
use Rattle.viper_core.specs.declared.programs.Program.{Program}
use Rattle.boogie_tree.specs.Whole.{stmts_of}
use Rattle.boogie_meaning.specs.Patterns.{zero_code}
use Rattle.viper_core.specs.View.{program_of}
use Rattle.enc_expr.specs.Code.{join}
use Rattle.enc_expr.specs.Pieces.{one}
use Rattle.enc_expr.proofs.BlockLaws.{added}
use Rattle.enc_units.proofs.EmittedUnits.{valued_first}
use Rattle.enc_units.proofs.units.first_values.Goals as goal

pub returns : goal.returns
returns c =
    let keys = c.deref.result.now in
    valued_first (program_of c.args.program.now) c.args.of c.args.zero c.in_ok-mask.mask c.one.new.self.next c.zeros.new.numbers.next (map (λ us. us.items) keys) c.other_types.result.now c.in_ok-keys.keys.items
    c.in_ok-mask.ensures.0 c.in_ok-mask.ensures.1 c.in_ok-keys.ensures.items
    (added c.new-block.result.items _ c.in_ok-add.ensures c.in_ok-zero_map.ensures ∙ ap (λ xs. join (stmts_of xs) (one (zero_code c.in_ok-keys.keys.items c.in_ok-mask.mask))) c.new-block.ensures.items)
    (ap (map (λ us. us.items)) c.deref.ensures.value ∙ ap (λ (p : Program). p.layout.keys) c.program.view_is) c.in_ok-zeros.ensures.block (c.in_ok-zeros.ensures.next ∙ ap (λ n. c.one.new.self.next + n) (sym (length-map keys (λ us. us.items))))
    c.other_types.ensures c.in_ok-defaults.ensures
