-- States that are whole and written in one way only stay so where something is set, and what is read after that.
use Rattle.std.proofs.Common.{◌≡◌, ℕ, ◌==◌, ◌&&◌, Some, All, if◌then◌else◌}
use Rattle.std.proofs.lemmas.Bool.Decides.{Decides-eqb}
use Rattle.std.specs.Option.{option_map}
use Rattle.std.specs.Ordering.{nat_cmp, is_eq}
use Rattle.sparse.specs.Map.{IsReduced}
use Rattle.sparse.proofs.MapLaws.{IsReduced-set}
use Rattle.vb_value.specs.Bound.{Unbounded}
use Rattle.vb_value.specs.Content.{Content, same_content, IsProperContent}
use Rattle.vb_value.specs.Fraction.{Fraction}
use Rattle.vb_value.specs.Key.{key_cmp}
use Rattle.vb_value.specs.Value.{value_eq, IsProperValue}
use Rattle.vb_value.specs.declared.values.Value.{Value}
use Rattle.vb_value.proofs.ReducedLaws.{proper_key}
use Rattle.viper_state.specs.State.{Key, State, value_at, content_at, with_value, with_content}
use Rattle.viper_state.proofs.EachLaws.{with_value_has, with_content_has, with_value_nonnegative, with_content_nonnegative}
use Rattle.viper_state.proofs.MapLaws.{exact_values, exact_contents}
use Rattle.viper_state.proofs.Paired.{All-found, All-changed}
use Rattle.viper_meaning.specs.Resource.{Resource, Place, Instance, with_held}
use Rattle.viper_meaning.proofs.HeldLaws.{IsWhole, Near, with_held_whole, set_read, set_nothing, Decides-key}
use Rattle.viper_meaning.proofs.PartLaws.{IsAmount}

-- whole, and the heap and the contents are written in one way only
pub record IsFull (s : State) : Type 0 where
  pub whole : IsWhole s
  pub heap : All (IsReduced nat_cmp value_eq) s.heap
  pub content : All (IsReduced key_cmp same_content) s.content

-- two such states, of which one holds a part of what the other holds
pub record Close (s w : State) : Type 0 where
  pub less : IsFull s
  pub more : IsFull w
  pub near : Near s w

-- ---- one state

pub full_with_held : {s : State} → IsFull s → (x : Resource) (q : Fraction) → IsAmount q → IsFull (with_held s x q)
full_with_held h (Place f r) q a = record { whole = with_held_whole h.whole (Place f r) q a; heap = h.heap; content = h.content }
full_with_held h (Instance p k) q a = record { whole = with_held_whole h.whole (Instance p k) q a; heap = h.heap; content = h.content }

pub full_with_value : {s : State} → IsFull s → (f r : ℕ) (v : Value) → IsProperValue Unbounded v → IsFull (with_value s f r v)
full_with_value {s} h f r v i = record {
  whole = record { proper = with_value_has h.whole.proper f r v i; nonnegative = with_value_nonnegative h.whole.nonnegative f r v; mask = h.whole.mask; amount = h.whole.amount };
  heap = All-changed nat_cmp value_eq (IsReduced nat_cmp value_eq) s.heap f r v h.heap (λ m i. IsReduced-set exact_values.total m i r v);
  content = h.content;
}

pub full_with_content : {s : State} → IsFull s → (p : ℕ) (k : Key) (c : Content) → IsProperContent Unbounded c → IsFull (with_content s p k c)
full_with_content {s} h p k c i = record {
  whole = record { proper = with_content_has h.whole.proper p k c (proper_key k) i; nonnegative = with_content_nonnegative h.whole.nonnegative p k c; mask = h.whole.mask; amount = h.whole.amount };
  heap = h.heap;
  content = All-changed key_cmp same_content (IsReduced key_cmp same_content) s.content p k c h.content (λ m i. IsReduced-set exact_contents.total m i k c);
}

-- ---- reading after setting

pub value_with : {s : State} → IsFull s → (f r : ℕ) (v : Value) (g q : ℕ) → value_at (with_value s f r v) g q ≡ option_map (λ h. if (g == f) && (q == r) then v else h) (value_at s g q)
value_with {s} h f r v g q = set_read exact_values s.heap f (All-found (IsReduced nat_cmp value_eq) s.heap f h.heap) r v g q (g == f) (q == r) (Decides-eqb g f) (Decides-eqb q r)

pub value_there : {s : State} → IsFull s → (f r : ℕ) (v : Value) → value_at s f r ≡ Some v → (g q : ℕ) → value_at (with_value s f r v) g q ≡ value_at s g q
value_there {s} h f r v e g q = set_nothing exact_values s.heap f (All-found (IsReduced nat_cmp value_eq) s.heap f h.heap) r v e g q (g == f) (q == r) (Decides-eqb g f) (Decides-eqb q r)

pub content_with : {s : State} → IsFull s → (p : ℕ) (k : Key) (c : Content) (o : ℕ) (l : Key) → content_at (with_content s p k c) o l ≡ option_map (λ h. if (o == p) && is_eq (key_cmp l k) then c else h) (content_at s o l)
content_with {s} h p k c o l = set_read exact_contents s.content p (All-found (IsReduced key_cmp same_content) s.content p h.content) k c o l (o == p) (is_eq (key_cmp l k)) (Decides-eqb o p) (Decides-key l k)

pub content_there : {s : State} → IsFull s → (p : ℕ) (k : Key) (c : Content) → content_at s p k ≡ Some c → (o : ℕ) (l : Key) → content_at (with_content s p k c) o l ≡ content_at s o l
content_there {s} h p k c e o l = set_nothing exact_contents s.content p (All-found (IsReduced key_cmp same_content) s.content p h.content) k c e o l (o == p) (is_eq (key_cmp l k)) (Decides-eqb o p) (Decides-key l k)
