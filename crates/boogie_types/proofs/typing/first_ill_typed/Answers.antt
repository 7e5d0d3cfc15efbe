use Rattle.std.proofs.Common.{◌+◌, ◌∷◌, drop, map, sym, ap, ◌∙◌}
use Rattle.std.specs.Option.{option_map}
use Rattle.std.proofs.lemmas.List.{drop_more}
use Rattle.boogie_tree.specs.Whole.{proc_of}
use Rattle.boogie_meaning.specs.Programs.{ill_typed_among}
use Rattle.boogie_types.proofs.TypingLaws.{at_ill_typed, at_typed}
use Rattle.boogie_types.proofs.typing.first_ill_typed.Goals as goal

pub returns-then-not-is_typed_proc : goal.returns-then-not-is_typed_proc
returns-then-not-is_typed_proc c =
    let ds = c.args.procs.now in
    let i = c.loop-proc.proc-index in
    let d = c.proc-item.result in
    let n = c.loop-proc.number in
    let next = drop_more ds i d c.loop-proc-test.true ∙ ap (λ x. x ∷ drop (i + 1) ds) (sym c.proc-item.is) in
    let test = sym c.is_typed_proc.ensures ∙ c.if-not-is_typed_proc.true in
    sym (c.loop-proc.invariant.so_far ∙ ap (λ us. option_map (λ m. n + m) (ill_typed_among (map proc_of us))) next ∙ at_ill_typed n d (drop (i + 1) ds) test)

pub loop-proc-preserved : goal.loop-proc-preserved
loop-proc-preserved c =
    let ds = c.args.procs.now in
    let i = c.loop-proc.proc-index in
    let d = c.proc-item.result in
    let n = c.loop-proc.number in
    let next = drop_more ds i d c.loop-proc-test.true ∙ ap (λ x. x ∷ drop (i + 1) ds) (sym c.proc-item.is) in
    let test = sym c.is_typed_proc.ensures ∙ c.if-not-is_typed_proc.false in
    record {
      place = ap (λ n. n + 1) c.loop-proc.invariant.place;
      so_far = c.loop-proc.invariant.so_far ∙ ap (λ us. option_map (λ m. n + m) (ill_typed_among (map proc_of us))) next ∙ at_typed n d (drop (i + 1) ds) test;
    }
