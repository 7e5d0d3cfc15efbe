-- How far a function has read, step by step, and what it answers at each of its exits.
use Rattle.std.proofs.Common.{◌≡◌, sym, subst, Bool, true, false, List, Result, Ok, Err, Bor, if◌then◌else◌}
use Rattle.std.specs.Result.{IsErrAnd}
use Rattle.std.proofs.lemmas.Result.{err_from_is_err_and}
use Rattle.grammar.specs.declared.stop.Stop.{Stop}
use Rattle.grammar.specs.declared.stop.Stop.TheVariants as stop
use Rattle.grammar.specs.Rules.{Alphabet, Rule, give, need, when, read, Rules, Starts}
use Rattle.grammar.specs.Greedy.{IsNot, Reads, given, needed, taken, passed, called, Fails, Goes, Refuses, Parses, Misses}
use Rattle.grammar.proofs.Laws.{Laws}
use Rattle.grammar.proofs.Reading as reading
use Rattle.grammar.proofs.Reading.{Derived, Failing, failing}

-- What holds of a function that reads a rule of a grammar. For each grammar it is one value, whose fields are opened where
-- they are used.
pub record Steps {A : Alphabet} (rule : Rules A) : Type 1 where
  -- the same tokens are read in one way, and are derived
  pub one_reading : {s : A.Kind} {a : Rule A s} {ts us vs : List A.Token} {x y : A.Value s} → Reads rule s a ts x us → Reads rule s a ts y vs → (x ≡ y) × (us ≡ vs)
  pub derivation : {s : A.Kind} {a : Rule A s} {ts us : List A.Token} {x : A.Value s} → Reads rule s a ts x us → Derived rule a ts x us
  -- a step
  pub start : {s : A.Kind} (a : Rule A s) (ts : List A.Token) → Goes rule a ts a ts
  pub by_need : {r s : A.Kind} {a : Rule A s} {c : A.Test true r} {go : A.Value r → Rule A s} {ts us vs : List A.Token} {v : A.Value r} →
      Starts A c us v vs → Goes rule a ts (need c go) us → Goes rule a ts (go v) vs
  pub by_token : {b : Bool} {r s : A.Kind} {a : Rule A s} {c : A.Test b r} {go : A.Value r → Rule A s} {other : Rule A s} {ts us vs : List A.Token} {v : A.Value r} →
      Starts A c us v vs → Goes rule a ts (when c go other) us → Goes rule a ts (go v) vs
  pub by_other : {b : Bool} {r s : A.Kind} {a : Rule A s} {c : A.Test b r} {go : A.Value r → Rule A s} {other : Rule A s} {ts us : List A.Token} →
      IsNot A c us → Goes rule a ts (when c go other) us → Goes rule a ts other us
  pub by_part : {r s : A.Kind} {a : Rule A s} {b : A.Symbol r} {go : A.Value r → Rule A s} {ts us vs : List A.Token} {y : A.Value r} →
      Reads rule r (rule _ b) us y vs → Goes rule a ts (read b go) us → Goes rule a ts (go y) vs
  pub goes_then : {s : A.Kind} {a b c : Rule A s} {ts us vs : List A.Token} → Goes rule a ts b us → Goes rule b us c vs → Goes rule a ts c vs
  -- the end
  pub whole : {s : A.Kind} {a : Rule A s} {ts us : List A.Token} {x : A.Value s} → Goes rule a ts (give x) us → Reads rule s a ts x us
  pub wrong_token : {r s : A.Kind} {a : Rule A s} {c : A.Test true r} {go : A.Value r → Rule A s} {ts us : List A.Token} →
      IsNot A c us → Goes rule a ts (need c go) us → Fails rule a ts us
  pub wrong_part : {r s : A.Kind} {a : Rule A s} {b : A.Symbol r} {go : A.Value r → Rule A s} {ts us z : List A.Token} →
      Fails rule (rule _ b) us z → Goes rule a ts (read b go) us → Fails rule a ts z
  -- an error at a `?`
  pub error_as : {r s : A.Kind} {R : Type 0} (view : R → A.Value s) {b : Rule A r} {a : Rule A s} {us ts : List A.Token} (w : Stop A.Token)
      (res : Result (R × Bor (List A.Token)) (Stop A.Token)) → IsErrAnd res (λ x. x ≡ w) →
      ((z : List A.Token) → Fails rule b us z → Fails rule a ts z) → Refuses rule b us w → Parses rule view a ts res
  pub part_error : {r s : A.Kind} {R : Type 0} (view : R → A.Value s) {b : A.Symbol r} {go : A.Value r → Rule A s} {a : Rule A s} {us ts : List A.Token} (w : Stop A.Token)
      (res : Result (R × Bor (List A.Token)) (Stop A.Token)) → IsErrAnd res (λ x. x ≡ w) → Goes rule a ts (read b go) us → Refuses rule (rule _ b) us w → Parses rule view a ts res
  pub token_error : {r s : A.Kind} {R : Type 0} (view : R → A.Value s) {c : A.Test true r} {go : A.Value r → Rule A s} {a : Rule A s} {us ts : List A.Token} (w : Stop A.Token)
      (res : Result (R × Bor (List A.Token)) (Stop A.Token)) → IsErrAnd res (λ x. x ≡ w) → Goes rule a ts (need c go) us → Misses A c us w → Parses rule view a ts res
  -- the last call of a function
  pub tail : {s : A.Kind} {a : Rule A s} {b : A.Symbol s} {ts us : List A.Token} → Goes rule a ts (read b give) us → Goes rule a ts (rule _ b) us
  pub pass_on : {s : A.Kind} {R : Type 0} (view : R → A.Value s) {b a : Rule A s} {us ts : List A.Token} (res : Result (R × Bor (List A.Token)) (Stop A.Token)) →
      Goes rule a ts b us → Parses rule view b us res → Parses rule view a ts res
  -- what was built is what the rule gives
  pub whole_as : {s : A.Kind} {a : Rule A s} {ts us : List A.Token} {x y : A.Value s} → Goes rule a ts (give y) us → x ≡ y → Reads rule s a ts x us
  pub goes_at : {s : A.Kind} (r : A.Kind) (f : A.Value r → Rule A s) {a : Rule A s} {ts us : List A.Token} {x y : A.Value r} → x ≡ y → Goes rule a ts (f y) us → Goes rule a ts (f x) us
  pub goes_by : {X : Type 0} {s : A.Kind} (f : X → Rule A s) {a : Rule A s} {ts us : List A.Token} {x y : X} → x ≡ y → Goes rule a ts (f y) us → Goes rule a ts (f x) us
  -- a rule by a test
  pub once : {s : A.Kind} (b : Bool) (x : Rule A s) {y a : Rule A s} {ts us : List A.Token} → false ≡ b → Goes rule a ts (if b then x else y) us → Goes rule a ts y us
  pub again : {s : A.Kind} (b : Bool) {x : Rule A s} (y : Rule A s) {a : Rule A s} {ts us : List A.Token} → true ≡ b → Goes rule a ts (if b then x else y) us → Goes rule a ts x us
  -- a symbol, or a rule, with an equal list
  pub symbol_at : {X : Type 0} {r : A.Kind} (f : X → A.Symbol r) {x y : X} {z : A.Value r} {ts us : List A.Token} → x ≡ y → Reads rule r (rule _ (f x)) ts z us → Reads rule r (rule _ (f y)) ts z us
  pub symbol_refuses_at : {X : Type 0} {r : A.Kind} (f : X → A.Symbol r) (x y : X) (us : List A.Token) (w : Stop A.Token) → x ≡ y → Refuses rule (rule _ (f x)) us w → Refuses rule (rule _ (f y)) us w
  pub parses_at : {X R : Type 0} {s : A.Kind} (view : R → A.Value s) (f : X → Rule A s) {x y : X} (ts : List A.Token) (res : Result (R × Bor (List A.Token)) (Stop A.Token)) →
      x ≡ y → Parses rule view (f x) ts res → Parses rule view (f y) ts res

module _ {A : Alphabet} (rule : Rules A) where
  refuses_as : {r s : A.Kind} {b : Rule A r} {a : Rule A s} {us ts : List A.Token} (w : Stop A.Token) →
      ((z : List A.Token) → Fails rule b us z → Fails rule a ts z) → Refuses rule b us w → Refuses rule a ts w
  refuses_as stop.Memory f h = tt
  refuses_as (stop.Before r) f h = f r.now h

  misses_as : {b : Bool} {r s : A.Kind} {c : A.Test b r} {a : Rule A s} {us ts : List A.Token} (w : Stop A.Token) → (IsNot A c us → Fails rule a ts us) → Misses A c us w → Refuses rule a ts w
  misses_as stop.Memory f h = tt
  misses_as {a = a} {ts = ts} (stop.Before r) f h = subst (λ z. Fails rule a ts z) (sym h.1) (f h.0)

  at_error : {s : A.Kind} {R : Type 0} (view : R → A.Value s) (a : Rule A s) (ts : List A.Token) (w : Stop A.Token) (res : Result (R × Bor (List A.Token)) (Stop A.Token)) →
      IsErrAnd res (λ x. x ≡ w) → Refuses rule a ts w → Parses rule view a ts res
  at_error view a ts w res e h =
      let y = err_from_is_err_and res e in
      subst (λ o. Parses rule view a ts o) (sym y.1) (subst (λ x. Refuses rule a ts x) (sym y.2) h)

  passed_on : {s : A.Kind} {R : Type 0} (view : R → A.Value s) {b a : Rule A s} {us ts : List A.Token} (res : Result (R × Bor (List A.Token)) (Stop A.Token)) →
      Goes rule a ts b us → Parses rule view b us res → Parses rule view a ts res
  passed_on view (Ok r) g h = g.reads _ _ h
  passed_on view (Err stop.Memory) g h = tt
  passed_on view (Err (stop.Before r)) g h = g.fails _ h

pub steps : {A : Alphabet} {rule : Rules A} → Laws rule → Steps rule
steps {A = A} {rule = rule} laws = let f : Failing rule = failing laws in record {
  one_reading = λ h i. reading.one_reading rule laws h i;
  derivation = λ h. reading.derivation rule laws h;
  start = λ a ts. record { reads = λ x vs h. h; fails = λ r z. z };
  by_need = λ p g. record { reads = λ x ws h. g.reads x ws (needed p h); fails = λ r z. g.fails r (f.fails_needed p z) };
  by_token = λ p g. record { reads = λ x ws h. g.reads x ws (taken p h); fails = λ r z. g.fails r (f.fails_taken p z) };
  by_other = λ n g. record { reads = λ x ws h. g.reads x ws (passed n h); fails = λ r z. g.fails r (f.fails_passed n z) };
  by_part = λ h g. record { reads = λ x ws i. g.reads x ws (called h i); fails = λ r z. g.fails r (f.fails_called h z) };
  goes_then = λ g h. record { reads = λ x ws i. g.reads x ws (h.reads x ws i); fails = λ r z. g.fails r (h.fails r z) };
  whole = λ g. g.reads _ _ given;
  wrong_token = λ n g. g.fails _ (f.fails_here n);
  wrong_part = λ z g. g.fails _ (f.fails_in z);
  error_as = λ view {a = a} {ts = ts} w res e z h. at_error rule view a ts w res e (refuses_as rule w z h);
  part_error = λ view {a = a} {ts = ts} w res e g h. at_error rule view a ts w res e (refuses_as rule w (λ z i. g.fails z (f.fails_in i)) h);
  token_error = λ view {a = a} {ts = ts} w res e g h. at_error rule view a ts w res e (misses_as rule w (λ n. g.fails _ (f.fails_here n)) h);
  tail = λ g. record { reads = λ x vs h. g.reads x vs (called h given); fails = λ r z. g.fails r (f.fails_in z) };
  pass_on = λ view res g h. passed_on rule view res g h;
  whole_as = λ {s = s} {a = a} {ts = ts} {us = us} g e. subst (λ z. Reads rule s a ts z us) (sym e) (g.reads _ _ given);
  goes_at = λ r h {a = a} {ts = ts} {us = us} e g. subst (λ z. Goes rule a ts (h z) us) (sym e) g;
  goes_by = λ h {a = a} {ts = ts} {us = us} e g. subst (λ z. Goes rule a ts (h z) us) (sym e) g;
  once = λ b x {y = y} {a = a} {ts = ts} {us = us} e g. subst (λ c. Goes rule a ts (if c then x else y) us) (sym e) g;
  again = λ b {x = x} y {a = a} {ts = ts} {us = us} e g. subst (λ c. Goes rule a ts (if c then x else y) us) (sym e) g;
  symbol_at = λ {r = r} h {z = z} {ts = ts} {us = us} e i. subst (λ k. Reads rule r (rule _ (h k)) ts z us) e i;
  symbol_refuses_at = λ h x y us w e i. subst (λ k. Refuses rule (rule _ (h k)) us w) e i;
  parses_at = λ view h ts res e i. subst (λ z. Parses rule view (h z) ts res) e i;
}
