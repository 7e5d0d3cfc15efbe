use Rattle.std.proofs.Common.{◌≡◌, ◌∙◌, ◌&&◌, Bool, true, nat_eq, ap, sym}
use Rattle.std.proofs.lemmas.Bool.{eqb-true, eq-eqb, and_parts, and_from}
use denote.Enum.Bare.{sameb, same_true, true_same}
use Rattle.vb_base.specs.declared.labels.Label.{Label}
use Rattle.vb_base.specs.declared.places.Pos.{Pos}
use Rattle.vb_base.specs.contracts.labels.Kind.{the_type}
use Rattle.vb_base.proofs.Place.{same_pos}
use Rattle.vb_base.proofs.labels.same_label.Goals as goal

abbrev same_places : Pos → Pos → Bool
same_places p q = nat_eq p.line q.line && nat_eq p.col q.col

same_from : (p q : Pos) → same_places p q ≡ true → p ≡ q
same_from p q h =
    let both = and_parts (nat_eq p.line q.line) (nat_eq p.col q.col) h in
    same_pos p q (eqb-true p.line q.line both.0) (eqb-true p.col q.col both.1)

from_same : (p q : Pos) → p ≡ q → same_places p q ≡ true
from_same p q e = and_from _ _ (eq-eqb p.line q.line (ap (λ (r : Pos). r.line) e)) (eq-eqb p.col q.col (ap (λ (r : Pos). r.col) e))

labels_from : (a b : Label) → (same_places a.at b.at && (same_places a.part b.part && sameb the_type a.kind b.kind)) ≡ true → a ≡ b
labels_from a b h =
    let first = and_parts _ _ h in
    let second = and_parts _ _ first.1 in
    let at : a.at ≡ b.at = same_from a.at b.at first.0 in
    let part : a.part ≡ b.part = same_from a.part b.part second.0 in
    let kind : a.kind ≡ b.kind = same_true the_type tt a.kind b.kind second.1 in
    λ t. record { at = at t; part = part t; kind = kind t }

from_labels : (a b : Label) → a ≡ b → (same_places a.at b.at && (same_places a.part b.part && sameb the_type a.kind b.kind)) ≡ true
from_labels a b e =
    and_from _ _ (from_same a.at b.at (ap (λ (l : Label). l.at) e))
    (and_from _ _ (from_same a.part b.part (ap (λ (l : Label). l.part) e)) (true_same the_type a.kind b.kind (ap (λ (l : Label). l.kind) e)))

pub returns : goal.returns
returns c = (λ h. labels_from c.args.a.now c.args.b.now (sym c.eq.ensures ∙ h), λ e. c.eq.ensures ∙ from_labels c.args.a.now c.args.b.now e)
