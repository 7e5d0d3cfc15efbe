-- The greedy reading: it is determined, it goes by the next token alone, and it is a derivation.
use Rattle.std.proofs.Common.{◌≡◌, refl, sym, ap, subst, ◌∙◌, Bool, true, List, [], ◌∷◌, ◌++◌, append_assoc}
use Rattle.grammar.specs.Rules.{Alphabet, Rule, give, need, when, read, Rules, Starts}
use Rattle.grammar.specs.Spells as plain
use Rattle.grammar.specs.Spells.{Derives}
use Rattle.grammar.specs.Greedy.{IsNot, Reads, given, needed, taken, passed, called, Front, here, step, SameFirst, Fails, Goes}
use Rattle.grammar.proofs.Fronts.{front_then, front_first, front_append, front_after, isnot_same}
use Rattle.grammar.proofs.Laws.{Laws, element, one_start}

-- what is read is derived
pub record Derived {A : Alphabet} (rule : Rules A) {s : A.Kind} (a : Rule A s) (ts : List A.Token) (x : A.Value s) (us : List A.Token) : Type 0 where
  pub front : List A.Token
  pub is : ts ≡ front ++ us
  pub derives : Derives rule s a front x

-- what is read in front of us is read in front of vs, which begins with the same token
pub record Moved {A : Alphabet} (rule : Rules A) {s : A.Kind} (a : Rule A s) (us vs ts : List A.Token) (x : A.Value s) : Type 0 where
  pub all : List A.Token
  pub front : Front us vs ts all
  pub reads : Reads rule s a all x vs

module _ {A : Alphabet} (rule : Rules A) (laws : Laws rule) where
  -- the same tokens are read in one way
  reads_at : {s : A.Kind} (r : A.Kind) (go : A.Value r → Rule A s) {v w : A.Value r} {us ws vs : List A.Token} {x : A.Value s} →
      v ≡ w → us ≡ ws → Reads rule s (go v) us x vs → Reads rule s (go w) ws x vs
  reads_at {s = s} r go {v = v} {w = w} {us = us} {ws = ws} {vs = vs} {x = x} e f h =
      subst (λ ts. Reads rule s (go w) ts x vs) f (subst (λ z. Reads rule s (go z) us x vs) e h)

  pub one_reading : {s : A.Kind} {a : Rule A s} {ts us vs : List A.Token} {x y : A.Value s} → Reads rule s a ts x us → Reads rule s a ts y vs → (x ≡ y) × (us ≡ vs)
  one_reading given given = (refl, refl)
  one_reading (needed {go = go} p h) (needed q i) = let e = one_start laws p q in one_reading (reads_at _ go e.0 e.1 h) i
  one_reading (taken {go = go} p h) (taken q i) = let e = one_start laws p q in one_reading (reads_at _ go e.0 e.1 h) i
  one_reading (taken p h) (passed n i) = absurd (n.none _ _ p)
  one_reading (passed n h) (taken q i) = absurd (n.none _ _ q)
  one_reading (passed n h) (passed m i) = one_reading h i
  one_reading (called {go = go} h h') (called i i') = let e = one_reading h i in one_reading (reads_at _ go e.0 e.1 h') i'

  pub derivation : {s : A.Kind} {a : Rule A s} {ts us : List A.Token} {x : A.Value s} → Reads rule s a ts x us → Derived rule a ts x us
  derivation given = record { front = []; is = refl; derives = plain.given }
  derivation (needed q h) =
      let d = derivation h in
      record { front = q.token ∷ d.front; is = q.is ∙ ap (λ vs. q.token ∷ vs) d.is; derives = plain.needed (record { token = q.token; is = refl; passes = q.passes }) d.derives }
  derivation (taken q h) =
      let d = derivation h in
      record { front = q.token ∷ d.front; is = q.is ∙ ap (λ vs. q.token ∷ vs) d.is; derives = plain.taken (record { token = q.token; is = refl; passes = q.passes }) d.derives }
  derivation (passed n h) = let d = derivation h in record { front = d.front; is = d.is; derives = plain.passed d.derives }
  derivation (called h i) =
      let d = derivation h in
      let e = derivation i in
      record { front = d.front ++ e.front; is = d.is ∙ ap (λ vs. d.front ++ vs) e.is ∙ sym (append_assoc d.front e.front _); derives = plain.called d.derives e.derives }

  start_first : {b : Bool} {r : A.Kind} {c : A.Test b r} {v : A.Value r} {ts us vs ws : List A.Token} (p : Starts A c ts v us) →
      (all : List A.Token) → Front vs ws us all → Front vs ws ts (p.token ∷ all)
  start_first {vs = vs} {ws = ws} p all f = let At : List A.Token → Type 0 = λ ts. Front vs ws ts (p.token ∷ all) in subst At (sym p.is) (step f)

  pub move : {s : A.Kind} {a : Rule A s} {ts us : List A.Token} {x : A.Value s} → Reads rule s a ts x us → (vs : List A.Token) → SameFirst us vs → Moved rule a us vs ts x
  move given vs same = record { all = vs; front = here; reads = given }
  move (needed p h) vs same =
      let m = move h vs same in
      record { all = p.token ∷ m.all; front = start_first p m.all m.front; reads = needed (record { token = p.token; is = refl; passes = p.passes }) m.reads }
  move (taken p h) vs same =
      let m = move h vs same in
      record { all = p.token ∷ m.all; front = start_first p m.all m.front; reads = taken (record { token = p.token; is = refl; passes = p.passes }) m.reads }
  move (passed n h) vs same = let m = move h vs same in record { all = m.all; front = m.front; reads = passed (isnot_same (front_first m.front same) n) m.reads }
  move (called h i) vs same =
      let m = move i vs same in
      let l = move h m.all (front_first m.front same) in
      record { all = l.all; front = front_then l.front m.front; reads = called l.reads m.reads }

  -- where a rule goes wrong

  -- the next token is the right one
  on_token : {b : Bool} {r s : A.Kind} {c : A.Test b r} {a b' : Rule A s} {ts us z : List A.Token} {v : A.Value r} (p : Starts A c ts v us) →
      ((k : A.Token) → A.Passes _ _ c k v → (all vs : List A.Token) (x : A.Value s) → Reads rule s b' (k ∷ all) x vs → Reads rule s a all x vs) →
      ((k : A.Token) → A.Passes _ _ c k v → (all : List A.Token) (x : A.Value s) → Derives rule s a all x → Derives rule s b' (k ∷ all) x) →
      Fails rule a us z → Fails rule b' ts z
  on_token p back on f = record {
    stuck = λ z same.
        let k = f.stuck z same in
        record { all = p.token ∷ k.all; front = start_first p k.all k.front; none = λ x us h. k.none x us (back p.token p.passes k.all us x h) };
    opens =
        let o = f.opens in
        record { rest = o.rest; all = p.token ∷ o.all; front = start_first p o.all o.front; tree = o.tree; derives = on p.token p.passes o.all o.tree o.derives };
  }

  starts_with : {b : Bool} {r : A.Kind} {c : A.Test b r} {v : A.Value r} (k : A.Token) → A.Passes _ _ c k v → (ts : List A.Token) → Starts A c (k ∷ ts) v ts
  starts_with k p ts = record { token = k; is = refl; passes = p }

  back_needed : {r s : A.Kind} {c : A.Test true r} (go : A.Value r → Rule A s) {v : A.Value r} (k : A.Token) → A.Passes _ _ c k v →
      (all vs : List A.Token) (x : A.Value s) → Reads rule s (need c go) (k ∷ all) x vs → Reads rule s (go v) all x vs
  back_needed go k p all vs x (needed q h) = let e = one_start laws q (starts_with k p all) in reads_at _ go e.0 e.1 h

  back_taken : {b : Bool} {r s : A.Kind} {c : A.Test b r} (go : A.Value r → Rule A s) {other : Rule A s} {v : A.Value r} (k : A.Token) → A.Passes _ _ c k v →
      (all vs : List A.Token) (x : A.Value s) → Reads rule s (when c go other) (k ∷ all) x vs → Reads rule s (go v) all x vs
  back_taken go k p all vs x (taken q h) = let e = one_start laws q (starts_with k p all) in reads_at _ go e.0 e.1 h
  back_taken go k p all vs x (passed n h) = absurd (n.none _ _ (starts_with k p all))

  back_passed : {b : Bool} {r s : A.Kind} {c : A.Test b r} {go : A.Value r → Rule A s} {other : Rule A s} {all vs : List A.Token} {x : A.Value s} →
      IsNot A c all → Reads rule s (when c go other) all x vs → Reads rule s other all x vs
  back_passed n (taken q h) = absurd (n.none _ _ q)
  back_passed n (passed m h) = h

  back_called : {r s : A.Kind} {a : A.Symbol r} (go : A.Value r → Rule A s) {all us vs : List A.Token} {y : A.Value r} {x : A.Value s} →
      Reads rule r (rule _ a) all y us → Reads rule s (read a go) all x vs → Reads rule s (go y) us x vs
  back_called go h (called h' i) = let e = one_reading h' h in reads_at _ go e.0 e.1 i

  first_called : {r s : A.Kind} {a : A.Symbol r} {go : A.Value r → Rule A s} {all vs : List A.Token} {x : A.Value s} →
      Reads rule s (read a go) all x vs → (y : A.Value r) × (us : List A.Token) × Reads rule r (rule _ a) all y us
  first_called (called h i) = (_, _, h)

  no_need : {r s : A.Kind} {c : A.Test true r} {go : A.Value r → Rule A s} {all vs : List A.Token} {x : A.Value s} →
      IsNot A c all → Reads rule s (need c go) all x vs → ⊥
  no_need n (needed p h) = n.none _ _ p

-- how a rule goes wrong where a part of it does
pub record Failing {A : Alphabet} (rule : Rules A) : Type 0 where
  pub fails_needed : {r s : A.Kind} {c : A.Test true r} {go : A.Value r → Rule A s} {ts us z : List A.Token} {v : A.Value r} →
      Starts A c ts v us → Fails rule (go v) us z → Fails rule (need c go) ts z
  pub fails_taken : {b : Bool} {r s : A.Kind} {c : A.Test b r} {go : A.Value r → Rule A s} {other : Rule A s} {ts us z : List A.Token} {v : A.Value r} →
      Starts A c ts v us → Fails rule (go v) us z → Fails rule (when c go other) ts z
  pub fails_passed : {b : Bool} {r s : A.Kind} {c : A.Test b r} {go : A.Value r → Rule A s} {other : Rule A s} {ts z : List A.Token} →
      IsNot A c ts → Fails rule other ts z → Fails rule (when c go other) ts z
  -- the part in front is read, and what follows it goes wrong
  pub fails_called : {r s : A.Kind} {a : A.Symbol r} {go : A.Value r → Rule A s} {ts us z : List A.Token} {y : A.Value r} →
      Reads rule r (rule _ a) ts y us → Fails rule (go y) us z → Fails rule (read a go) ts z
  -- the part in front goes wrong
  pub fails_in : {r s : A.Kind} {a : A.Symbol r} {go : A.Value r → Rule A s} {ts z : List A.Token} → Fails rule (rule _ a) ts z → Fails rule (read a go) ts z
  -- the next token is the wrong one
  pub fails_here : {r s : A.Kind} {c : A.Test true r} {go : A.Value r → Rule A s} {ts : List A.Token} → IsNot A c ts → Fails rule (need c go) ts ts

pub failing : {A : Alphabet} {rule : Rules A} → Laws rule → Failing rule
failing {rule = rule} laws = record {
  fails_needed = λ {go = go} p f. on_token rule laws p (λ k q all vs x h. back_needed rule laws go k q all vs x h) (λ k q all x h. plain.needed (starts_with rule laws k q all) h) f;
  fails_taken = λ {go = go} p f. on_token rule laws p (λ k q all vs x h. back_taken rule laws go k q all vs x h) (λ k q all x h. plain.taken (starts_with rule laws k q all) h) f;
  fails_passed = λ n f. record {
    stuck = λ z same.
        let k = f.stuck z same in
        record { all = k.all; front = k.front; none = λ x us h. k.none x us (back_passed rule laws (isnot_same (front_first k.front same) n) h) };
    opens = let o = f.opens in record { rest = o.rest; all = o.all; front = o.front; tree = o.tree; derives = plain.passed o.derives };
  };
  fails_called = λ {go = go} {z = z} h f. record {
    stuck = λ z same.
        let k = f.stuck z same in
        let m = move rule laws h k.all (front_first k.front same) in
        record { all = m.all; front = front_then m.front k.front; none = λ x us i. k.none x us (back_called rule laws go m.reads i) };
    opens =
        let o = f.opens in
        let d = derivation rule laws h in
        let At : List _ → Type 0 = λ ts. Front z o.rest ts (d.front ++ o.all) in
        record {
          rest = o.rest;
          all = d.front ++ o.all;
          front = subst At (sym d.is) (front_append d.front o.front);
          tree = o.tree;
          derives = plain.called d.derives o.derives;
        };
  };
  fails_in = λ {go = go} f. record {
    stuck = λ z same.
        let k = f.stuck z same in
        record { all = k.all; front = k.front; none = λ x us h. let g = first_called rule laws h in k.none g.0 g.1 g.2 };
    opens =
        let o = f.opens in
        let e = element rule laws (go o.tree) in
        record {
          rest = o.rest ++ e.tokens;
          all = o.all ++ e.tokens;
          front = front_after e.tokens o.front;
          tree = e.tree;
          derives = plain.called o.derives e.derives;
        };
  };
  fails_here = λ {c = c} {go = go} n. record {
    stuck = λ z same. record { all = z; front = here; none = λ x us h. no_need rule laws (isnot_same same n) h };
    opens =
        let e = element rule laws (need c go) in
        record { rest = e.tokens; all = e.tokens; front = here; tree = e.tree; derives = e.derives };
  };
}
