-- A state that lies under another beside a rest: what it holds and what the rest holds are together a part of what the other
-- holds, both have the same values and contents, and where the rest holds something the other has what the rest keeps.
use Rattle.std.proofs.Common.{◌≡◌, refl, sym, ap, ◌∙◌, subst, ℕ, ◌==◌, Bool, true, false, ◌&&◌, Option, Some, None, List, [], All, if◌then◌else◌}
use Rattle.std.specs.Prelude.{⊤}
use Rattle.std.specs.Bool.{Decides}
use Rattle.std.specs.Option.{option_map}
use Rattle.std.specs.Ordering.{is_eq, is_lt}
use Rattle.std.proofs.lemmas.Bool.{true≢false}
use Rattle.std.proofs.lemmas.Bool.Decides.{Decides-eqb}
use Rattle.std.proofs.lemmas.List.Elements.{All-nil}
use Rattle.vb_value.specs.Bound.{Unbounded}
use Rattle.vb_value.specs.Content.{Content, IsProperContent}
use Rattle.vb_value.specs.Fraction.{Fraction, none, sum, difference, order, is_none}
use Rattle.vb_value.specs.Key.{key_cmp}
use Rattle.vb_value.specs.Value.{IsProperValue}
use Rattle.vb_value.specs.declared.values.Value.{Value}
use Rattle.vb_value.proofs.OperationLaws.{sum_comm, sum_assoc, sum-zero, difference-sum, sum-difference}
use Rattle.vb_value.proofs.ProperLaws.{IsReduced-sum}
use Rattle.viper_state.specs.State.{Key, State, value_at, content_at, with_value, with_content}
use Rattle.viper_meaning.specs.Resource.{Resource, Place, Instance, held_at, with_held}
use Rattle.viper_meaning.specs.Sat.{Share, is_same, total_from}
use Rattle.viper_meaning.proofs.HeldLaws.{HeldPart, Near, held_amount, held_with, option_same, same_resource, Decides-key, with_held_values, with_held_contents}
use Rattle.viper_meaning.proofs.NearLaws.{IsFull, Close, full_with_held, full_with_value, full_with_content, value_with, value_there, content_with, content_there}
use Rattle.viper_meaning.proofs.PartLaws.{IsAmount, IsPartOf, amount_none, amount_sum, part_sum, part_trans, part_added, part_taken, part_enough, part_some, whole_amount}

-- what others hold of each resource, and a state with the values and contents that they know
pub record Rest : Type 0 where
  pub held : Resource → Fraction
  pub kept : State
  pub amounts : (x : Resource) → IsAmount (held x)

-- nobody holds anything
abbrev pub nobody : State → Rest
nobody s = record { held = λ x. none; kept = s; amounts = λ x. amount_none }

abbrev pub IsAmountShare : Share → Type 0
IsAmountShare share = IsAmount share.amount

-- the rest, an amount and its shares of a resource are a part of another amount
abbrev pub FramedPart : Resource → Fraction → List Share → Option Fraction → Option Fraction → Type 0
FramedPart x rest shares (Some p) (Some q) = IsPartOf (sum rest (total_from x p shares)) q
FramedPart x rest shares None None = ⊤
FramedPart x rest shares _ _ = ⊥

-- the first state lies under the second beside the rest, and these shares are owed to it
pub record Owes (F : Rest) (shares : List Share) (s w : State) : Type 0 where
  pub less : IsFull s
  pub more : IsFull w
  pub values : (f r : ℕ) → value_at s f r ≡ value_at w f r
  pub contents : (p : ℕ) (k : Key) → content_at s p k ≡ content_at w p k
  pub held : (x : Resource) → FramedPart x (F.held x) shares (held_at s x) (held_at w x)
  pub amounts : All IsAmountShare shares
  pub kept_values : (f r : ℕ) → is_none (F.held (Place f r)) ≡ false → value_at w f r ≡ value_at F.kept f r
  pub kept_contents : (p : ℕ) (k : Key) → is_none (F.held (Instance p k)) ≡ false → content_at w p k ≡ content_at F.kept p k

abbrev pub Under : Rest → State → State → Type 0
Under F s w = Owes F [] s w

-- ---- amounts

-- an amount and a rest, which are together a part of an amount
pub record Framed (f a b : Fraction) : Type 0 where
  pub rest : IsAmount f
  pub own : IsAmount a
  pub all : IsPartOf (sum f a) b

own_of_both : {f a : Fraction} → IsAmount f → IsAmount a → IsPartOf a (sum f a)
own_of_both {f} {a} h g = subst (IsPartOf a) (sum_comm a f) (part_sum g h)

pub own_part : {f a b : Fraction} → Framed f a b → IsPartOf a b
own_part h = part_trans (own_of_both h.rest h.own) h.all

-- where nothing is held, no rest is
pub no_rest : {f a b : Fraction} → Framed f a b → is_none b ≡ true → is_none f ≡ true
no_rest {f} {a} {b} h e = by (is_none f) refl
  where
    by : (n : Bool) → is_none f ≡ n → is_none f ≡ true
    by true g = g
    by false g = absurd (true≢false (sym e ∙ part_some (part_trans (part_sum h.rest h.own) h.all) g))

pub framed_added : {f a b : Fraction} (q : Fraction) → Framed f a b → IsAmount q → Framed f (sum a q) (sum b q)
framed_added {f} {a} {b} q h g = record {
  rest = h.rest;
  own = amount_sum h.own g;
  all = subst (λ z. IsPartOf z (sum b q)) (sum_assoc f a q h.rest.reduced.positive h.own.reduced.positive g.reduced.positive) (part_added q h.all g);
}

pub framed_taken : {f a b : Fraction} (q : Fraction) → Framed f a b → IsAmount q → is_lt (order a q) ≡ false → Framed f (difference a q) (difference b q)
framed_taken {f} {a} {b} q h g e =
    let left : IsAmount (difference a q) = (part_taken q (own_part h) g e).part in
    let moved : difference (sum f a) q ≡ sum f (difference a q) =
    ap (λ z. difference (sum f z) q) (sym (sum-difference a q h.own.reduced g.reduced.positive)) ∙
    ap (λ z. difference z q) (sym (sum_assoc f (difference a q) q h.rest.reduced.positive left.reduced.positive g.reduced.positive)) ∙
    difference-sum (sum f (difference a q)) q (IsReduced-sum f (difference a q) h.rest.reduced left.reduced) g.reduced.positive in
    record {
      rest = h.rest;
      own = left;
      all = subst (λ z. IsPartOf z (difference b q)) moved (part_taken q h.all g (part_enough q (own_of_both h.rest h.own) g e));
    }

-- ---- two states

pub framed_at : {F : Rest} {s w : State} → Under F s w → (x : Resource) (a b : Fraction) → held_at s x ≡ Some a → held_at w x ≡ Some b → Framed (F.held x) a b
framed_at {F} {s} {w} h x a b e g = record {
  rest = F.amounts x;
  own = held_amount h.less.whole x a e;
  all = subst (λ p. FramedPart x (F.held x) [] (Some a) p) g (subst (λ o. FramedPart x (F.held x) [] o (held_at w x)) e (h.held x));
}

part_of_framed : (x : Resource) (f : Fraction) (o p : Option Fraction) → IsAmount f → ((a : Fraction) → o ≡ Some a → IsAmount a) → FramedPart x f [] o p → HeldPart o p
part_of_framed x f (Some a) (Some b) h own g = own_part (record { rest = h; own = own a refl; all = g })
part_of_framed x f None None h own g = tt
part_of_framed x f (Some a) None h own g = absurd g
part_of_framed x f None (Some b) h own g = absurd g

pub under_near : {F : Rest} {s w : State} → Under F s w → Near s w
under_near {F} {s} {w} h = record { values = h.values; contents = h.contents; held = λ x. part_of_framed x (F.held x) (held_at s x) (held_at w x) (F.amounts x) (held_amount h.less.whole x) (h.held x) }

-- beside nobody it holds a part
pub under_close : {F : Rest} {s w : State} → Under F s w → Close s w
under_close h = record { less = h.less; more = h.more; near = under_near h }

none_beside : (x : Resource) (o p : Option Fraction) → HeldPart o p → FramedPart x none [] o p
none_beside x (Some a) (Some b) h = subst (λ z. IsPartOf z b) (sym (sum-zero a h.part.reduced) ∙ sum_comm a none) h
none_beside x None None h = tt
none_beside x (Some a) None h = absurd h
none_beside x None (Some b) h = absurd h

no_amount : {P : Type 0} → is_none none ≡ false → P
no_amount e = absurd (true≢false e)

pub close_under : {s w : State} (u : State) → Close s w → Under (nobody u) s w
close_under {s} {w} u h = record {
  less = h.less;
  more = h.more;
  values = h.near.values;
  contents = h.near.contents;
  held = λ x. none_beside x (held_at s x) (held_at w x) (h.near.held x);
  amounts = All-nil IsAmountShare;
  kept_values = λ f r e. no_amount e;
  kept_contents = λ p k e. no_amount e;
}

-- ---- the same is set in both

framed_if : (x : Resource) (f : Fraction) (o p : Option Fraction) (b : Bool) (c d : Fraction) → FramedPart x f [] o p → (b ≡ true → IsPartOf (sum f c) d) → FramedPart x f [] (option_map (λ h. if b then c else h) o) (option_map (λ h. if b then d else h) p)
framed_if x f (Some a) (Some b) true c d h g = g refl
framed_if x f (Some a) (Some b) false c d h g = h
framed_if x f None None b c d h g = h
framed_if x f (Some a) None b c d h g = absurd h
framed_if x f None (Some a) b c d h g = absurd h

pub under_held : {F : Rest} {s w : State} → Under F s w → (x : Resource) (c d : Fraction) → Framed (F.held x) c d → Under F (with_held s x c) (with_held w x d)
under_held {F} {s} {w} h x c d g = record {
  less = full_with_held h.less x c g.own;
  more = full_with_held h.more x d (whole_amount g.all);
  values = λ f r. with_held_values s x c f r ∙ h.values f r ∙ sym (with_held_values w x d f r);
  contents = λ p k. with_held_contents s x c p k ∙ h.contents p k ∙ sym (with_held_contents w x d p k);
  held = λ y. subst (λ o. FramedPart y (F.held y) [] o (held_at (with_held w x d) y)) (sym (held_with h.less.whole x c y))
      (subst (FramedPart y (F.held y) [] (option_map (λ h. if is_same y x then c else h) (held_at s y))) (sym (held_with h.more.whole x d y))
      (framed_if y (F.held y) (held_at s y) (held_at w y) (is_same y x) c d (h.held y) (λ same. subst (λ z. IsPartOf (sum (F.held z) c) d) (sym (same_resource y x same)) g.all)));
  amounts = h.amounts;
  kept_values = λ f r e. with_held_values w x d f r ∙ h.kept_values f r e;
  kept_contents = λ p k e. with_held_contents w x d p k ∙ h.kept_contents p k e;
}

-- what is set elsewhere than where the rest holds something leaves what the rest keeps
kept_apart : {X : Type 0} (o p : Option X) (v : X) (b : Bool) → (b ≡ false) → o ≡ option_map (λ h. if b then v else h) p → o ≡ p
kept_apart o p v b e g = g ∙ ap (λ c. option_map (λ h. if c then v else h) p) e ∙ option_same p

pub under_value : {F : Rest} {s w : State} → Under F s w → (f r : ℕ) (v : Value) → IsProperValue Unbounded v → is_none (F.held (Place f r)) ≡ true → Under F (with_value s f r v) (with_value w f r v)
under_value {F} {s} {w} h f r v i nothing = record {
  less = full_with_value h.less f r v i;
  more = full_with_value h.more f r v i;
  values = λ g q. value_with h.less f r v g q ∙ ap (option_map (λ h. if (g == f) && (q == r) then v else h)) (h.values g q) ∙ sym (value_with h.more f r v g q);
  contents = h.contents;
  held = kept_held;
  amounts = h.amounts;
  kept_values = λ g q e. kept_apart (value_at (with_value w f r v) g q) (value_at w g q) v ((g == f) && (q == r)) (apart g q e (g == f) (q == r) (Decides-eqb g f) (Decides-eqb q r)) (value_with h.more f r v g q) ∙ h.kept_values g q e;
  kept_contents = h.kept_contents;
}
  where
    kept_held : (x : Resource) → FramedPart x (F.held x) [] (held_at (with_value s f r v) x) (held_at (with_value w f r v) x)
    kept_held (Place g q) = h.held (Place g q)
    kept_held (Instance p k) = h.held (Instance p k)

    apart : (g q : ℕ) → is_none (F.held (Place g q)) ≡ false → (a b : Bool) → Decides a (g ≡ f) → Decides b (q ≡ r) → a && b ≡ false
    apart g q e false b d c = refl
    apart g q e true false d c = refl
    apart g q e true true d c = absurd (true≢false (sym nothing ∙ ap (λ z. is_none (F.held (Place z r))) (sym (d.0 refl)) ∙ ap (λ z. is_none (F.held (Place g z))) (sym (c.0 refl)) ∙ e))

-- or in the first alone, where the second has it
pub under_value_there : {F : Rest} {s w : State} → Under F s w → (f r : ℕ) (v : Value) → IsProperValue Unbounded v → value_at w f r ≡ Some v → Under F (with_value s f r v) w
under_value_there {F} {s} {w} h f r v i e = record {
  less = full_with_value h.less f r v i;
  more = h.more;
  values = λ g q. value_there h.less f r v (h.values f r ∙ e) g q ∙ h.values g q;
  contents = h.contents;
  held = kept_held;
  amounts = h.amounts;
  kept_values = h.kept_values;
  kept_contents = h.kept_contents;
}
  where
    kept_held : (x : Resource) → FramedPart x (F.held x) [] (held_at (with_value s f r v) x) (held_at w x)
    kept_held (Place g q) = h.held (Place g q)
    kept_held (Instance p k) = h.held (Instance p k)

pub under_content : {F : Rest} {s w : State} → Under F s w → (p : ℕ) (k : Key) (c : Content) → IsProperContent Unbounded c → is_none (F.held (Instance p k)) ≡ true → Under F (with_content s p k c) (with_content w p k c)
under_content {F} {s} {w} h p k c i nothing = record {
  less = full_with_content h.less p k c i;
  more = full_with_content h.more p k c i;
  values = h.values;
  contents = λ o l. content_with h.less p k c o l ∙ ap (option_map (λ h. if (o == p) && is_eq (key_cmp l k) then c else h)) (h.contents o l) ∙ sym (content_with h.more p k c o l);
  held = kept_held;
  amounts = h.amounts;
  kept_values = h.kept_values;
  kept_contents = λ o l e.
      kept_apart (content_at (with_content w p k c) o l) (content_at w o l) c ((o == p) && is_eq (key_cmp l k)) (apart o l e (o == p) (is_eq (key_cmp l k)) (Decides-eqb o p) (Decides-key l k)) (content_with h.more p k c o l) ∙ h.kept_contents o l e;
}
  where
    kept_held : (x : Resource) → FramedPart x (F.held x) [] (held_at (with_content s p k c) x) (held_at (with_content w p k c) x)
    kept_held (Place g q) = h.held (Place g q)
    kept_held (Instance o l) = h.held (Instance o l)

    apart : (o : ℕ) (l : Key) → is_none (F.held (Instance o l)) ≡ false → (a b : Bool) → Decides a (o ≡ p) → Decides b (l ≡ k) → a && b ≡ false
    apart o l e false b d g = refl
    apart o l e true false d g = refl
    apart o l e true true d g = absurd (true≢false (sym nothing ∙ ap (λ z. is_none (F.held (Instance z k))) (sym (d.0 refl)) ∙ ap (λ z. is_none (F.held (Instance o z))) (sym (g.0 refl)) ∙ e))

pub under_content_there : {F : Rest} {s w : State} → Under F s w → (p : ℕ) (k : Key) (c : Content) → IsProperContent Unbounded c → content_at w p k ≡ Some c → Under F (with_content s p k c) w
under_content_there {F} {s} {w} h p k c i e = record {
  less = full_with_content h.less p k c i;
  more = h.more;
  values = h.values;
  contents = λ o l. content_there h.less p k c (h.contents p k ∙ e) o l ∙ h.contents o l;
  held = kept_held;
  amounts = h.amounts;
  kept_values = h.kept_values;
  kept_contents = h.kept_contents;
}
  where
    kept_held : (x : Resource) → FramedPart x (F.held x) [] (held_at (with_content s p k c) x) (held_at w x)
    kept_held (Place g q) = h.held (Place g q)
    kept_held (Instance o l) = h.held (Instance o l)
