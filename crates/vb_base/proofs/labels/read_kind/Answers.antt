use Rattle.std.proofs.Common.{◌≡◌, refl, List, [], ◌∷◌, Some}
use Rattle.vb_base.specs.declared.labels.Kind.{Kind}
use Rattle.vb_base.specs.declared.labels.Kind.TheVariants.{Null, Perm, Fact, Div, Negative, Amount}
use Rattle.vb_base.specs.Labels.{kind_text}
use Rattle.vb_base.proofs.Lookups.{found, looked_up}
use Rattle.vb_base.proofs.labels.read_kind.Goals as goal

abbrev kinds : List Kind
kinds = Null ∷ Perm ∷ Fact ∷ Div ∷ Negative ∷ Amount ∷ []

each_found : (k : Kind) → found kind_text (kind_text k) kinds ≡ Some k
each_found Null = refl
each_found _ = refl

pub returns : goal.returns
returns c = looked_up kind_text kinds each_found c.args.bytes.now c.kind_among.result c.kind_among.ensures
