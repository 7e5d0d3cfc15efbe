use Rattle.std.proofs.Common.{◌≡◌, ◌++◌, drop, map}
use Rattle.viper_core.specs.Program as p
use Rattle.viper_core.specs.View.{predicate_of}
use Rattle.viper_state.specs.View.{contents_of}
use Rattle.run_file_words.specs.Printed.{numbered_text}
use Rattle.run_file.specs.Printed.{contents_text}
use Rattle.run_file.proofs.printer.put_contents.Given as goal

abbrev pub invariant-loop-i : goal.invariant-loop-i
invariant-loop-i l =
    l.out.items ++ numbered_text contents_text (map (λ (d : p.Predicate). d.name) (map predicate_of l.predicates)) l.i (map contents_of (drop l.i l.contents)) ≡
    l.initial.out.items ++ numbered_text contents_text (map (λ (d : p.Predicate). d.name) (map predicate_of l.predicates)) 0 (map contents_of l.contents)
