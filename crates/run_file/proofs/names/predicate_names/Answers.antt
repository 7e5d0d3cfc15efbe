use Rattle.std.proofs.Common.{◌∙◌, ap, sym, List, ℕ, map, ◌<◌, ◌≡◌, length, get_or, []}
use Rattle.std.proofs.lemmas.List.{get_or-map, length-map}
use Rattle.viper_core.specs.declared.programs.Predicate.{Predicate}
use Rattle.viper_core.specs.Program as p
use Rattle.viper_core.specs.View.{predicate_of}
use Rattle.run_file_words.proofs.NameTables.{one_more_name}
use Rattle.run_file.proofs.names.predicate_names.Goals as goal

named_at : (ds : List Predicate) (i : ℕ) (d : Predicate) → i < length ds → d ≡ get_or ds i d →
    (predicate_of d).name ≡ get_or (map (λ (x : p.Predicate). x.name) (map predicate_of ds)) i []
named_at ds i d within is =
    let long : i < length (map predicate_of ds) = simp length-map within in
    ap (λ x. (predicate_of x).name) is ∙ sym (get_or-map (λ (x : p.Predicate). x.name) (map predicate_of ds) i (predicate_of d) [] long ∙ ap (λ (x : p.Predicate). x.name) (get_or-map predicate_of ds i d (predicate_of d) within))

pub loop-predicate-preserved : goal.loop-predicate-preserved
loop-predicate-preserved c =
    let names = map (λ (d : p.Predicate). d.name) (map predicate_of c.args.predicates.now) in
    let is : c.predicate-item.result ≡ get_or c.args.predicates.now c.loop-predicate.predicate-index c.predicate-item.result = c.predicate-item.is in
    let within : c.loop-predicate.predicate-index < length names = simp length-map c.loop-predicate-test.true in
    c.in_ok-add.ensures.ok ∙ one_more_name names c.loop-predicate.known c.loop-predicate.predicate-index c.in_ok-copy.field-0 c.requires within c.loop-predicate.invariant
    (c.in_ok-copy.ensures ∙ named_at c.args.predicates.now c.loop-predicate.predicate-index c.predicate-item.result c.loop-predicate-test.true is)
