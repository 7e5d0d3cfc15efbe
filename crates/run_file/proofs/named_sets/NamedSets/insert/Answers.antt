use Rattle.std.proofs.Common.{◌∙◌, map, sym, ap, not}
use Rattle.viper_state.proofs.MapLaws.{made}
use Rattle.run_file.specs.NamedView.{keys_of}
use Rattle.run_file.proofs.NamedSetLaws.{all_named, variable_inserted, variable_among, place_inserted, place_among, instance_inserted, instance_among}
use Rattle.run_file.proofs.named_sets.NamedSets.insert.Goals as goal

pub returns-in_ok-insert-in-Variable-clause-added : goal.returns-in_ok-insert-in-Variable-clause-added
returns-in_ok-insert-in-Variable-clause-added c =
    let old = c.args.self.now in
    let all = variable_among old.variables.keys (map keys_of old.places.items) (map keys_of old.instances.items) c.in-Variable.number in
    rw c.in-Variable.is (c.in_ok-insert-in-Variable.ensures.added ∙ ap not (sym all))

pub returns-in_ok-insert-in-Variable-clause-names : goal.returns-in_ok-insert-in-Variable-clause-names
returns-in_ok-insert-in-Variable-clause-names c =
    let old = c.args.self.now in
    let places = map keys_of old.places.items in
    let instances = map keys_of old.instances.items in
    rw c.in-Variable.is
    (ap (λ names. all_named names places instances) c.in_ok-insert-in-Variable.ensures.keys ∙ sym (variable_inserted old.variables.keys places instances c.in-Variable.number))

pub returns-in-Place-clause-added : goal.returns-in-Place-clause-added
returns-in-Place-clause-added c =
    let old = c.args.self.now in
    let all = place_among old.variables.keys (map keys_of old.places.items) (map keys_of old.instances.items) c.in-Place.field c.in-Place.reference in
    rw c.in-Place.is (rw all c.insert_at.ensures.added)

pub returns-in-Place-clause-names : goal.returns-in-Place-clause-names
returns-in-Place-clause-names c =
    let old = c.args.self.now in
    let places = map keys_of old.places.items in
    let instances = map keys_of old.instances.items in
    rw c.in-Place.is
    (made c.insert_at.result c.insert_at.ensures.keys
    (λ keys. ap (λ names. all_named old.variables.keys names instances) keys ∙ sym (place_inserted old.variables.keys places instances c.in-Place.field c.in-Place.reference)))

pub returns-in-Instance-clause-added : goal.returns-in-Instance-clause-added
returns-in-Instance-clause-added c =
    let old = c.args.self.now in
    let all = instance_among old.variables.keys (map keys_of old.places.items) (map keys_of old.instances.items) c.in-Instance.predicate c.in-Instance.key in
    rw c.in-Instance.is (rw all c.insert_at-in-Instance.ensures.added)

pub returns-in-Instance-clause-names : goal.returns-in-Instance-clause-names
returns-in-Instance-clause-names c =
    let old = c.args.self.now in
    let places = map keys_of old.places.items in
    let instances = map keys_of old.instances.items in
    rw c.in-Instance.is
    (made c.insert_at-in-Instance.result c.insert_at-in-Instance.ensures.keys
    (λ keys. ap (λ names. all_named old.variables.keys places names) keys ∙ sym (instance_inserted old.variables.keys places instances c.in-Instance.predicate c.in-Instance.key)))
