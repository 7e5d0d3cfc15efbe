use Rattle.std.proofs.Common.{◌∙◌, ap, sym, subst, map}
use Rattle.vb_base.specs.Names.{NamesDiffer}
use Rattle.viper_core.specs.Program as p
use Rattle.viper_core.specs.View.{predicate_of, program_of}
use Rattle.run_file_words.specs.Known.{Known}
use Rattle.run_file.proofs.ScopeLaws.{names_apart}
use Rattle.run_file.proofs.FrontLaws.{front_answered}
use Rattle.run_file.proofs.reader.read_viper_front.Goals as goal

pub of-requires : goal.of-requires
of-requires c = subst NamesDiffer (sym (ap (λ (k : Known _). k.names) c.variables_of.ensures)) (names_apart (program_of c.args.program.now) c.args.unit c.requires.formed).variables

pub of-requires-2 : goal.of-requires-2
of-requires-2 c = subst NamesDiffer (sym c.deref.ensures.value) (names_apart (program_of c.args.program.now) c.args.unit c.requires.formed).fields

pub predicate_names-requires : goal.predicate_names-requires
predicate_names-requires c =
    subst (λ ds. NamesDiffer (map (λ (d : p.Predicate). d.name) (map predicate_of ds))) (sym c.deref-2.ensures.value) (names_apart (program_of c.args.program.now) c.args.unit c.requires.formed).predicates

pub returns : goal.returns
returns c =
    let program = program_of c.args.program.now in
    let variables = ap (λ ns. record { names = ns; types = c.variables_of.result.1.now }) c.in_ok-variables.ensures ∙ c.variables_of.ensures in
    let fields = c.in_ok-fields.ensures ∙ c.deref.ensures.value in
    let predicates = c.in_ok-predicates.ensures ∙ ap (λ ds. map (λ (d : p.Predicate). d.name) (map predicate_of ds)) c.deref-2.ensures.value in
    let answered =
    front_answered c.args.bytes.now program c.args.unit c.args.many _ c.read_front.result (names_apart program c.args.unit c.requires.formed)
    (λ i. record { variables = variables i; fields = record { names = fields i; types = program.layout.fields }; predicates = record { names = predicates i; types = program.layout.keys } })
    c.read_front.ensures
    in
    record { run = answered.run; fault = answered.fault; only_run = answered.only_run; only_place = answered.only_place }
