-- Equality of labels, as a test.
use Rattle.std.specs.Prelude.{Bool as Truth, true, false, ◌&&◌, nat_eq}
use Rattle.vb_base.specs.declared.labels.Kind.{Kind}
use Rattle.vb_base.specs.declared.labels.Kind.TheVariants as kind
use Rattle.vb_base.specs.declared.labels.Label.{Label}
use Rattle.vb_base.specs.declared.places.Pos.{Pos}

abbrev pub same_kind : Kind → Kind → Truth
same_kind kind.Null kind.Null = true
same_kind kind.Perm kind.Perm = true
same_kind kind.Fact kind.Fact = true
same_kind kind.Div kind.Div = true
same_kind kind.Negative kind.Negative = true
same_kind kind.Amount kind.Amount = true
same_kind _ _ = false

abbrev pub same_place : Pos → Pos → Truth
same_place p q = nat_eq p.line q.line && nat_eq p.col q.col

abbrev pub same_label : Label → Label → Truth
same_label a b = same_place a.at b.at && (same_place a.part b.part && same_kind a.kind b.kind)
