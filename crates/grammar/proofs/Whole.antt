-- Whole texts: what is read up to the end of the tokens, and the place of a refusal.
use Rattle.std.proofs.Common.{◌≡◌, refl, sym, ap, subst, ◌∙◌, ◌<◌, ◌+◌, ◌-◌, List, [], ◌∷◌, ◌++◌, length, take, arith, append_assoc}
use Rattle.std.proofs.lemmas.List.{append-nil, length-append}
use Rattle.std.proofs.Math.Seq.{take-append-add}
use Rattle.lemmas.proofs.Lists.{front_taken}
use Rattle.vb_base.specs.Place.{Begins, IsPlace}
use Rattle.grammar.specs.declared.stop.Stop.{Stop}
use Rattle.grammar.specs.declared.stop.Stop.TheVariants as stop
use Rattle.grammar.specs.Rules.{Alphabet, Rule, Rules}
use Rattle.grammar.specs.Spells.{Derives}
use Rattle.grammar.specs.Greedy.{Reads, Front, here, step, SameFirst, token, Fails, Goes, Refuses}
use Rattle.grammar.specs.Whole.{FailsWhole, RefusesWhole}
use Rattle.grammar.proofs.Fronts.{front_append, same_self}
use Rattle.grammar.proofs.Laws.{Laws}
use Rattle.grammar.proofs.Reading.{derivation, one_reading, move}

pub record Split {T : Type 0} (r s ts all : List T) : Type 0 where
  pub front : List T
  pub left : ts ≡ front ++ r
  pub right : all ≡ front ++ s

pub split : {T : Type 0} {r s ts all : List T} → Front r s ts all → Split r s ts all
split here = record { front = []; left = refl; right = refl }
split (step {k = k} f) = let p = split f in record { front = k ∷ p.front; left = ap (λ l. k ∷ l) p.left; right = ap (λ l. k ∷ l) p.right }

pub count : {T : Type 0} (f r : List T) → length (f ++ r) - length r ≡ length f
count f r = omega (arith, length-append f r)

one_more : {T : Type 0} (f : List T) (k : T) (r : List T) → take (length (f ++ (k ∷ r)) - length (k ∷ r) + 1) (f ++ (k ∷ r)) ≡ f ++ (k ∷ [])
one_more f k r = ap (λ n. take (n + 1) (f ++ (k ∷ r))) (count f (k ∷ r)) ∙ take-append-add f (k ∷ r) 1

same_front : {T : Type 0} (f h r : List T) → f ++ r ≡ h ++ r → f ≡ h
same_front f h r e = sym (front_taken f r) ∙ ap (λ l. take (length l - length r) l) e ∙ front_taken h r

not_ended : {T : Type 0} {k : T} {us z : List T} → SameFirst (k ∷ us) z → z ≡ [] → ⊥
not_ended token e = cc

-- a part goes wrong, and so does the text

pub whole_fails : {A : Alphabet} {rule : Rules A} {s : A.Kind} {a b : Rule A s} {ts us z : List A.Token} → Goes rule a ts b us → Fails rule b us z → FailsWhole rule a ts z
whole_fails g f =
    let h = g.fails _ f in
    record {
      stuck = λ z same. let k = h.stuck z same in record { all = k.all; front = k.front; none = λ x i. k.none x [] i };
      opens = h.opens;
    }

pub whole_refuses : {A : Alphabet} {rule : Rules A} {s : A.Kind} {a b : Rule A s} {ts us : List A.Token} (w : Stop A.Token) → Goes rule a ts b us → Refuses rule b us w → RefusesWhole rule a ts w
whole_refuses stop.Memory g h = tt
whole_refuses (stop.Before r) g h = whole_fails g h

module _ {A : Alphabet} (rule : Rules A) (laws : Laws rule) where
  -- the text ends, and a token is left
  pub left_over : {s : A.Kind} {a : Rule A s} {ts us : List A.Token} {x : A.Value s} → Reads rule s a ts x us → (k : A.Token) (vs : List A.Token) → us ≡ k ∷ vs → FailsWhole rule a ts us
  left_over {s = s} {a = a} {ts = ts} {us = us} {x = x} h k vs is = record {
    stuck = λ z same.
        let m = move rule laws h z same in
        let same' : SameFirst (k ∷ vs) z = subst (λ l. SameFirst l z) is same in
        record { all = m.all; front = m.front; none = λ y i. not_ended same' (one_reading rule laws m.reads i).1 };
    opens =
        let d = derivation rule laws h in
        record {
          rest = [];
          all = d.front ++ [];
          tree = x;
          front = subst (λ l. Front us [] l (d.front ++ [])) (sym d.is) (front_append d.front here);
          derives = subst (λ l. Derives rule s a l x) (sym (append-nil d.front)) d.derives;
        };
  }

  pub spelled : {s : A.Kind} {a : Rule A s} {ts : List A.Token} {x : A.Value s} → Reads rule s a ts x [] → Derives rule s a ts x
  spelled {s = s} {a = a} {x = x} h =
      let d = derivation rule laws h in
      subst (λ l. Derives rule s a l x) (sym (d.is ∙ append-nil d.front)) d.derives

-- The place of the refusal is where a text goes wrong, if every derivation is read up to the end.
module _ {A : Alphabet} (rule : Rules A) {s : A.Kind} (a : Rule A s) (P : List A.Token → Type 0)
    (read_as : (ts : List A.Token) → P ts → (x : A.Value s) × Reads rule s a ts x [])
    (derived_as : (ts : List A.Token) (x : A.Value s) → Derives rule s a ts x → P ts) where
  place_before : (ts r : List A.Token) → FailsWhole rule a ts r → Begins P (take (length ts - length r) ts)
  place_before ts r f =
      let o = f.opens in
      let p = split o.front in
      let At : List A.Token → Type 0 = λ l. Begins P (take (length l - length r) l) in
      let Of : List A.Token → Type 0 = λ l. (us : List A.Token) × P (l ++ us) in
      let whole : P (p.front ++ o.rest) = subst P p.right (derived_as o.all o.tree o.derives) in
      subst At (sym p.left) (subst Of (sym (front_taken p.front r)) (o.rest, whole))

  no_more : (ts : List A.Token) (k : A.Token) (r : List A.Token) → FailsWhole rule a ts (k ∷ r) → Begins P (take (length ts - length (k ∷ r) + 1) ts) → ⊥
  no_more ts k r f b =
      let p = split f.opens.front in
      let At : List A.Token → Type 0 = λ l. Begins P (take (length l - length (k ∷ r) + 1) l) in
      let b' : Begins P (take (length (p.front ++ (k ∷ r)) - length (k ∷ r) + 1) (p.front ++ (k ∷ r))) = subst At p.left b in
      let Of : List A.Token → Type 0 = λ l. Begins P l in
      let b'' : Begins P (p.front ++ (k ∷ [])) = subst Of (one_more p.front k r) b' in
      let s = f.stuck (k ∷ b''.0) token in
      let q = split s.front in
      let same : q.front ≡ p.front = same_front q.front p.front (k ∷ r) (sym q.left ∙ p.left) in
      let all_is : (p.front ++ (k ∷ [])) ++ b''.0 ≡ s.all = append_assoc p.front (k ∷ []) b''.0 ∙ sym (q.right ∙ ap (λ l. l ++ (k ∷ b''.0)) same) in
      let h = read_as s.all (subst P all_is b''.1) in
      s.none h.0 h.1

  place_after : (ts r : List A.Token) → FailsWhole rule a ts r → length ts - length r < length ts → Begins P (take (length ts - length r + 1) ts) → ⊥
  place_after ts [] f lt b = absurd (omega arith)
  place_after ts (k ∷ r) f lt b = no_more ts k r f b

  pub place_of : (ts r : List A.Token) → FailsWhole rule a ts r → IsPlace P ts (length ts - length r)
  place_of ts r f = record { within = omega arith; before = place_before ts r f; after = place_after ts r f }

  -- where a text goes wrong, nothing is spelled
  pub none_spelled : (ts r : List A.Token) → FailsWhole rule a ts r → P ts → ⊥
  none_spelled ts r f h =
      let t = f.stuck r (same_self r) in
      let q = split t.front in
      let i = read_as t.all (subst P (q.left ∙ sym q.right) h) in
      t.none i.0 i.1
