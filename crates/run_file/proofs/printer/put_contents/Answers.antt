use Rattle.std.proofs.Common.{◌≡◌, ◌++◌, ◌+◌, map, sym, subst}
use Rattle.std.proofs.lemmas.List.{drop-map}
use Rattle.lemmas.proofs.Options.{looked_at}
use Rattle.viper_core.specs.Program as p
use Rattle.viper_core.specs.View.{predicate_of}
use Rattle.viper_state.specs.View.{contents_of}
use Rattle.run_file.specs.Printed.{contents_text}
use Rattle.run_file_words.specs.Printed.{numbered_text}
use Rattle.run_file_words.proofs.PrintLaws.{numbered_more}
use Rattle.run_file.proofs.PrintLaws.{predicate_name, one_map}
use Rattle.run_file.proofs.printer.put_contents.Goals as goal

pub loop-i-preserved : goal.loop-i-preserved
loop-i-preserved c =
    let ds = c.args.predicates.now in
    let maps = c.args.contents.now in
    let i = c.loop-i.i in
    let names = map (λ (d : p.Predicate). d.name) (map predicate_of ds) in
    let m = c.index-contents-i.result in
    let one = one_map maps i m c.loop-i-test.true c.index-contents-i.is in
    let named = predicate_name ds i _ (looked_at c.get.result ds i c.get.ensures.lookup.0 c.get.ensures.lookup.1) in
    let before = subst (λ ms. c.loop-i.out.items ++ numbered_text contents_text names i ms ≡ c.args.out.now.items ++ numbered_text contents_text names 0 (map contents_of maps)) (sym (drop-map contents_of i maps)) c.loop-i.invariant in
    subst (λ ms. c.put_predicate.new.out.items ++ numbered_text contents_text names (i + 1) ms ≡ c.args.out.now.items ++ numbered_text contents_text names 0 (map contents_of maps)) (drop-map contents_of (i + 1) maps)
    (numbered_more contents_text names i (map contents_of maps) (contents_of m) _ _ _ _ before one.0 one.1 named c.in_ok-put_predicate.ensures)
