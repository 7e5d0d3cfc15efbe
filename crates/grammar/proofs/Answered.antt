-- Each list of tokens is read, or goes wrong somewhere: by the number of its tokens, and then by the rank of the symbol.
use Rattle.std.proofs.Common.{◌≡◌, refl, sym, ap, subst, ◌∙◌, ℕ, zero, suc, ◌+◌, ◌-◌, ◌<◌, ◌≤◌, ◌⊎◌, inl, inr, Bool, true, false, cond, List, [], ◌∷◌, length, Some, None, Option, arith}
use Rattle.std.proofs.lemmas.List.{length-append}
use Rattle.grammar.specs.Rules.{Alphabet, Rule, give, need, when, read, Rules, Starts}
use Rattle.grammar.specs.Spells.{Derives}
use Rattle.grammar.specs.Greedy.{IsNot, Reads, given, needed, taken, passed, called, Fails}
use Rattle.grammar.specs.Whole.{IsSpelled, FailsWhole, GoesWrong}
use Rattle.grammar.proofs.Laws.{Laws}
use Rattle.grammar.proofs.Reading.{derivation, Failing, failing}
use Rattle.grammar.proofs.Steps.{steps}
use Rattle.grammar.proofs.Whole.{place_of, none_spelled, left_over, spelled, whole_fails}

-- whether a token passes a test
pub data Tried (A : Alphabet) {b : Bool} {r : A.Kind} (c : A.Test b r) (k : A.Token) : Type 0 where
  right : (v : A.Value r) → A.Passes b r c k v → Tried A c k
  wrong : ((v : A.Value r) → A.Passes b r c k v → ⊥) → Tried A c k

-- whether a list of tokens begins with one that passes
pub data Next (A : Alphabet) {b : Bool} {r : A.Kind} (c : A.Test b r) (ts : List A.Token) : Type 0 where
  is_next : (v : A.Value r) (us : List A.Token) → Starts A c ts v us → Next A c ts
  is_not : IsNot A c ts → Next A c ts

next_is : {A : Alphabet} {b : Bool} {r : A.Kind} {c : A.Test b r} {k : A.Token} (ts : List A.Token) → Tried A c k → Next A c (k ∷ ts)
next_is {k = k} ts (right v p) = is_next v ts (record { token = k; is = refl; passes = p })
next_is {A = A} {c = c} {k = k} ts (wrong n) = is_not (record { none = λ v us q. let same : q.token ≡ k = cc (q.is) in n v (subst (λ j. A.Passes _ _ c j v) same q.passes) })

-- a rule reads the tokens, or goes wrong somewhere
pub data Answer {A : Alphabet} (rule : Rules A) (s : A.Kind) (a : Rule A s) (ts : List A.Token) : Type 0 where
  reads : (x : A.Value s) (us : List A.Token) → Reads rule s a ts x us → Answer rule s a ts
  goes_wrong : (r : List A.Token) → Fails rule a ts r → Answer rule s a ts

start_shorter : {A : Alphabet} {b : Bool} {r : A.Kind} {c : A.Test b r} {ts us : List A.Token} {v : A.Value r} → Starts A c ts v us → length us < length ts
start_shorter {ts = ts} {us = us} q = let e : length ts ≡ length (q.token ∷ us) = ap length q.is in omega arith

-- What each symbol spells where it is empty, and its rank: before a token is read, a symbol reads symbols of lower rank
-- alone.
pub record Ranks (A : Alphabet) : Type 0 where
  pub empty : (s : A.Kind) → A.Symbol s → Option (A.Value s)
  pub rank : (s : A.Kind) → A.Symbol s → ℕ

pub data Falls {A : Alphabet} (ranks : Ranks A) (n : ℕ) (s : A.Kind) : Rule A s → Type 0 where
  fg : {x : A.Value s} → Falls ranks n s (give x)
  fn : {r : A.Kind} {c : A.Test true r} {go : A.Value r → Rule A s} → Falls ranks n s (need c go)
  fw : {b : Bool} {r : A.Kind} {c : A.Test b r} {go : A.Value r → Rule A s} {other : Rule A s} → Falls ranks n s other → Falls ranks n s (when c go other)
  fr : {r : A.Kind} {a : A.Symbol r} {go : A.Value r → Rule A s} → ranks.rank r a < n → ((y : A.Value r) → Falls ranks n s (go y)) → Falls ranks n s (read a go)
  -- what this symbol spells has a token
  ft : {r : A.Kind} {a : A.Symbol r} {go : A.Value r → Rule A s} → ranks.rank r a < n → ranks.empty r a ≡ None → Falls ranks n s (read a go)

pub falls_cond : {A : Alphabet} {ranks : Ranks A} {n : ℕ} {s : A.Kind} (b : Bool) {x y : Rule A s} → Falls ranks n s x → Falls ranks n s y → Falls ranks n s (cond b x y)
falls_cond true h i = h
falls_cond false h i = i

-- what has to hold for each list to have an answer
pub record HasAnswers {A : Alphabet} (rule : Rules A) (ranks : Ranks A) : Type 0 where
  pub try_token : (b : Bool) (r : A.Kind) (c : A.Test b r) (k : A.Token) → Tried A c k
  -- where the empty list is derived from a symbol, it is its empty value
  pub empty_right : (s : A.Kind) (a : A.Symbol s) (x : A.Value s) → Derives rule s (rule s a) [] x → ranks.empty s a ≡ Some x
  pub falls : (s : A.Kind) (a : A.Symbol s) → Falls ranks (ranks.rank s a) s (rule s a)

module _ {A : Alphabet} (rule : Rules A) (laws : Laws rule) (ranks : Ranks A) (has : HasAnswers rule ranks) where
  open failing laws use {fails_needed, fails_taken, fails_passed, fails_called, fails_in, fails_here}
  open steps laws use {start}

  pub next : {b : Bool} {r : A.Kind} (c : A.Test b r) (ts : List A.Token) → Next A c ts
  next c [] = is_not (record { none = λ v us q. absurd (cc (q.is)) })
  next c (k ∷ ts) = next_is ts (has.try_token _ _ c k)

  needed_as : {r s : A.Kind} {c : A.Test true r} {go : A.Value r → Rule A s} {ts us : List A.Token} {v : A.Value r} → Starts A c ts v us → Answer rule s (go v) us → Answer rule s (need c go) ts
  needed_as p (reads x vs h) = reads x vs (needed p h)
  needed_as p (goes_wrong z f) = goes_wrong z (fails_needed p f)

  taken_as : {b : Bool} {r s : A.Kind} {c : A.Test b r} {go : A.Value r → Rule A s} {other : Rule A s} {ts us : List A.Token} {v : A.Value r} →
      Starts A c ts v us → Answer rule s (go v) us → Answer rule s (when c go other) ts
  taken_as p (reads x vs h) = reads x vs (taken p h)
  taken_as p (goes_wrong z f) = goes_wrong z (fails_taken p f)

  passed_as : {b : Bool} {r s : A.Kind} {c : A.Test b r} {go : A.Value r → Rule A s} {other : Rule A s} {ts : List A.Token} → IsNot A c ts → Answer rule s other ts → Answer rule s (when c go other) ts
  passed_as n (reads x vs h) = reads x vs (passed n h)
  passed_as n (goes_wrong z f) = goes_wrong z (fails_passed n f)

  called_as : {r s : A.Kind} {a : A.Symbol r} {go : A.Value r → Rule A s} {ts us : List A.Token} {y : A.Value r} → Reads rule r (rule _ a) ts y us → Answer rule s (go y) us → Answer rule s (read a go) ts
  called_as p (reads x vs h) = reads x vs (called p h)
  called_as p (goes_wrong z f) = goes_wrong z (fails_called p f)

  at_need : {r s : A.Kind} {c : A.Test true r} {go : A.Value r → Rule A s} {ts : List A.Token} → Next A c ts →
      ((v : A.Value r) (us : List A.Token) → length us < length ts → Answer rule s (go v) us) → Answer rule s (need c go) ts
  at_need (is_next v us p) f = needed_as p (f v us (start_shorter p))
  at_need (is_not n) f = goes_wrong _ (fails_here n)

  at_when : {b : Bool} {r s : A.Kind} {c : A.Test b r} {go : A.Value r → Rule A s} {other : Rule A s} {ts : List A.Token} → Next A c ts →
      ((v : A.Value r) (us : List A.Token) → length us < length ts → Answer rule s (go v) us) → Answer rule s other ts → Answer rule s (when c go other) ts
  at_when (is_next v us p) f o = taken_as p (f v us (start_shorter p))
  at_when (is_not n) f o = passed_as n o

  at_read : {r s : A.Kind} {a : A.Symbol r} {go : A.Value r → Rule A s} {ts : List A.Token} → Answer rule r (rule _ a) ts →
      ((y : A.Value r) (us : List A.Token) → Reads rule r (rule _ a) ts y us → Answer rule s (go y) us) → Answer rule s (read a go) ts
  at_read (reads y us h) f = called_as h (f y us h)
  at_read (goes_wrong z w) f = goes_wrong z (fails_in w)

  -- what is left after a rule is no more than there was, and less where the rule spells nothing empty

  no_longer : {s : A.Kind} {a : Rule A s} {ts us : List A.Token} {x : A.Value s} → Reads rule s a ts x us → length us ≤ length ts
  no_longer {ts = ts} {us = us} h =
      let d = derivation rule laws h in
      let e : length ts ≡ length d.front + length us = ap length d.is ∙ length-append d.front us in
      omega arith

  front_some : {s : A.Kind} (a : A.Symbol s) {x : A.Value s} (f : List A.Token) → ranks.empty s a ≡ None → Derives rule s (rule s a) f x → 1 ≤ length f
  front_some {s = s} a {x = x} [] e d = let h : None ≡ Some x = sym e ∙ has.empty_right s a x d in absurd (cc)
  front_some a (k ∷ f) e d = omega arith

  shorter : {s : A.Kind} (a : A.Symbol s) {ts us : List A.Token} {x : A.Value s} → ranks.empty s a ≡ None → Reads rule s (rule s a) ts x us → length us < length ts
  shorter a {ts = ts} {us = us} n h =
      let d = derivation rule laws h in
      let some : 1 ≤ length d.front = front_some a d.front n d.derives in
      let e : length ts ≡ length d.front + length us = ap length d.is ∙ length-append d.front us in
      omega arith

  -- each rule has an answer for fewer than n tokens, if each symbol has

  any_rule : (n : ℕ) → ((r : A.Kind) (b : A.Symbol r) (us : List A.Token) → length us < n → Answer rule r (rule r b) us) →
      {s : A.Kind} (a : Rule A s) (ts : List A.Token) → length ts < n → Answer rule s a ts
  any_rule n h (give x) ts lt = reads _ _ given
  any_rule n h (need c go) ts lt = at_need (next c ts) (λ v us k. any_rule n h (go v) us (omega arith))
  any_rule n h (when c go other) ts lt = at_when (next c ts) (λ v us k. any_rule n h (go v) us (omega arith)) (any_rule n h other ts lt)
  any_rule n h (read a go) ts lt = at_read (h _ a ts lt) (λ y us i. let k = no_longer i in any_rule n h (go y) us (omega arith))

  -- of n tokens too, where it reads symbols of lower rank at first

  low_rule : (n m : ℕ) → ((r : A.Kind) (b : A.Symbol r) (us : List A.Token) → length us < n → Answer rule r (rule r b) us) →
      ((r : A.Kind) (b : A.Symbol r) (us : List A.Token) → ranks.rank r b < m → length us < suc n → Answer rule r (rule r b) us) →
      {s : A.Kind} {a : Rule A s} → Falls ranks m s a → (ts : List A.Token) → length ts < suc n → Answer rule s a ts
  low_rule n m h low fg ts lt = reads _ _ given
  low_rule n m h low (fn {c = c} {go = go}) ts lt = at_need (next c ts) (λ v us k. any_rule n h (go v) us (omega arith))
  low_rule n m h low (fw {c = c} {go = go} f) ts lt = at_when (next c ts) (λ v us k. any_rule n h (go v) us (omega arith)) (low_rule n m h low f ts lt)
  low_rule n m h low (fr {a = a} l f) ts lt = at_read (low _ a ts l lt) (λ y us i. let k = no_longer i in low_rule n m h low (f y) us (omega arith))
  low_rule n m h low (ft {a = a} {go = go} l e) ts lt = at_read (low _ a ts l lt) (λ y us i. let k = shorter a e i in any_rule n h (go y) us (omega arith))

  by_rank : (n : ℕ) → ((r : A.Kind) (b : A.Symbol r) (us : List A.Token) → length us < n → Answer rule r (rule r b) us) →
      (m : ℕ) (s : A.Kind) (a : A.Symbol s) (ts : List A.Token) → ranks.rank s a < m → length ts < suc n → Answer rule s (rule s a) ts
  by_rank n h zero s a ts k lt = absurd (omega arith)
  by_rank n h (suc m) s a ts k lt = low_rule n (ranks.rank s a) h (λ r b us j i. by_rank n h m r b us (omega arith) i) (has.falls s a) ts lt

  by_length : (n : ℕ) (s : A.Kind) (a : A.Symbol s) (ts : List A.Token) → length ts < n → Answer rule s (rule s a) ts
  by_length zero s a ts lt = absurd (omega arith)
  by_length (suc n) s a ts lt = by_rank n (λ r b us i. by_length n r b us i) (suc (ranks.rank s a)) s a ts (omega arith) lt

  pub answered : {s : A.Kind} (a : A.Symbol s) (ts : List A.Token) → Answer rule s (rule s a) ts
  answered a ts = by_length (suc (length ts)) _ a ts (omega arith)

  -- so a list of tokens spells something, or goes wrong at a place, where every derivation is read

  goes_wrong_there : {s : A.Kind} {a : Rule A s} → ((ts : List A.Token) (x : A.Value s) → Derives rule s a ts x → Reads rule s a ts x []) →
      {ts : List A.Token} (r : List A.Token) → FailsWhole rule a ts r → GoesWrong rule a ts
  goes_wrong_there {a = a} all {ts = ts} r f = record {
    none = none_spelled rule a (IsSpelled rule a) (λ l h. (h.0, all l h.0 h.1)) (λ l x h. (x, h)) ts r f;
    at = length ts - length r;
    place = place_of rule a (IsSpelled rule a) (λ l h. (h.0, all l h.0 h.1)) (λ l x h. (x, h)) ts r f;
  }

  by_answer : {s : A.Kind} {a : Rule A s} → ((ts : List A.Token) (x : A.Value s) → Derives rule s a ts x → Reads rule s a ts x []) →
      {ts : List A.Token} → Answer rule s a ts → IsSpelled rule a ts ⊎ GoesWrong rule a ts
  by_answer all (reads x [] h) = inl (x, spelled rule laws h)
  by_answer all (reads x (k ∷ us) h) = inr (goes_wrong_there all (k ∷ us) (left_over rule laws h k us refl))
  by_answer {a = a} all {ts = ts} (goes_wrong r f) = inr (goes_wrong_there all r (whole_fails (start a ts) f))

  pub some_answer : {s : A.Kind} (a : A.Symbol s) → ((ts : List A.Token) (x : A.Value s) → Derives rule s (rule s a) ts x → Reads rule s (rule s a) ts x []) →
      (ts : List A.Token) → IsSpelled rule (rule s a) ts ⊎ GoesWrong rule (rule s a) ts
  some_answer a all ts = by_answer all (answered a ts)
