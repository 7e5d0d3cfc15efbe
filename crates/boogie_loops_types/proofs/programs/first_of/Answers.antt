use Rattle.std.proofs.Common.{◌+◌, ◌∷◌, drop, map, sym, ap, ◌∙◌}
use Rattle.std.specs.Option.{option_map}
use Rattle.std.proofs.lemmas.List.{drop_more}
use Rattle.boogie_loops.specs.View.{wproc_of}
use Rattle.boogie_loops.specs.WideTypes.{ill_typed_wide}
use Rattle.boogie_loops_types.proofs.ProgramLaws.{at_ill_typed, at_typed}
use Rattle.boogie_loops_types.proofs.programs.first_of.Goals as goal

pub returns-then-not-is_proc : goal.returns-then-not-is_proc
returns-then-not-is_proc c =
    let ds = c.args.procs.now.all.now in
    let ps = map wproc_of ds in
    let i = c.loop-proc.proc-index in
    let d = c.proc-item.result in
    let n = c.loop-proc.number in
    let next = drop_more ds i d c.loop-proc-test.true ∙ ap (λ x. x ∷ drop (i + 1) ds) (sym c.proc-item.is) in
    let test = sym c.is_proc.ensures ∙ c.if-not-is_proc.true in
    sym (c.loop-proc.invariant.so_far ∙ ap (λ us. option_map (λ m. n + m) (ill_typed_wide ps (map wproc_of us))) next ∙ at_ill_typed ps n d (drop (i + 1) ds) test)

pub loop-proc-preserved : goal.loop-proc-preserved
loop-proc-preserved c =
    let ds = c.args.procs.now.all.now in
    let ps = map wproc_of ds in
    let i = c.loop-proc.proc-index in
    let d = c.proc-item.result in
    let n = c.loop-proc.number in
    let next = drop_more ds i d c.loop-proc-test.true ∙ ap (λ x. x ∷ drop (i + 1) ds) (sym c.proc-item.is) in
    let test = sym c.is_proc.ensures ∙ c.if-not-is_proc.false in
    record {
      place = ap (λ n. n + 1) c.loop-proc.invariant.place;
      so_far = c.loop-proc.invariant.so_far ∙ ap (λ us. option_map (λ m. n + m) (ill_typed_wide ps (map wproc_of us))) next ∙ at_typed ps n d (drop (i + 1) ds) test;
    }
