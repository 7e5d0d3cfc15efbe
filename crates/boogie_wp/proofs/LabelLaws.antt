-- The test of labels tells them apart exactly.
use Rattle.std.proofs.Common.{◌≡◌, true, refl, nat_eq}
use Rattle.std.proofs.lemmas.Bool.{eqb-true, eq-eqb, and_parts, and_from}
use Rattle.vb_base.specs.declared.labels.Kind.{Kind}
use Rattle.vb_base.specs.declared.labels.Kind.TheVariants as kind
use Rattle.vb_base.specs.declared.labels.Label.{Label}
use Rattle.vb_base.specs.declared.places.Pos.{Pos}
use Rattle.vb_base.proofs.Place.{same_pos}
use Rattle.boogie_wp.specs.Labels.{same_kind, same_place, same_label}

same_kind_is : (a b : Kind) → same_kind a b ≡ true → a ≡ b
same_kind_is kind.Null kind.Null h = refl
same_kind_is kind.Perm kind.Perm h = refl
same_kind_is kind.Fact kind.Fact h = refl
same_kind_is kind.Div kind.Div h = refl
same_kind_is kind.Negative kind.Negative h = refl
same_kind_is kind.Amount kind.Amount h = refl
same_kind_is _ _ h = absurd (cc)

same_kind_itself : (a : Kind) → same_kind a a ≡ true
same_kind_itself kind.Null = refl
same_kind_itself kind.Perm = refl
same_kind_itself kind.Fact = refl
same_kind_itself kind.Div = refl
same_kind_itself kind.Negative = refl
same_kind_itself kind.Amount = refl

same_place_is : (p q : Pos) → same_place p q ≡ true → p ≡ q
same_place_is p q h =
    let both = and_parts (nat_eq p.line q.line) (nat_eq p.col q.col) h in
    same_pos p q (eqb-true p.line q.line both.0) (eqb-true p.col q.col both.1)

same_place_itself : (p : Pos) → same_place p p ≡ true
same_place_itself p = and_from _ _ (eq-eqb p.line p.line refl) (eq-eqb p.col p.col refl)

pub same_label_is : (a b : Label) → same_label a b ≡ true → a ≡ b
same_label_is a b h =
    let first = and_parts _ _ h in
    let second = and_parts _ _ first.1 in
    let at : a.at ≡ b.at = same_place_is a.at b.at first.0 in
    let part : a.part ≡ b.part = same_place_is a.part b.part second.0 in
    let kind : a.kind ≡ b.kind = same_kind_is a.kind b.kind second.1 in
    λ t. record { at = at t; part = part t; kind = kind t }

pub same_label_itself : (a : Label) → same_label a a ≡ true
same_label_itself a = and_from _ _ (same_place_itself a.at) (and_from _ _ (same_place_itself a.part) (same_kind_itself a.kind))
