-- What a symbol spells in a wider grammar is what it spells in its own.
use Rattle.std.proofs.Common.{◌≡◌, refl, sym, ap, subst, Bool, true, List, [], ◌++◌, Option, Some, None, Result, Ok, Err, Bor}
use Rattle.lemmas.proofs.Options.{some_same}
use Rattle.grammar.specs.declared.stop.Stop.{Stop}
use Rattle.grammar.specs.declared.stop.Stop.TheVariants as stop
use Rattle.grammar.specs.Rules.{Alphabet, Rule, give, need, when, read, Rules, Starts}
use Rattle.grammar.specs.Spells as plain
use Rattle.grammar.specs.Spells.{Derives}
use Rattle.grammar.specs.Greedy.{IsNot, Reads, given, needed, taken, passed, called, Fails, Refuses, Parses, Misses}
use Rattle.grammar.specs.Wider.{Kinds, old, new, ValueOf, TestOf, Symbols, wider, lifted, all_rules}

module _ {A : Alphabet} {K : Type 0} {V : K → Type 0} {S : Kinds A K → Type 0} (rule : Rules A) (others : (r : Kinds A K) → S r → Rule (wider A K V S) r) where
  abbrev pub W : Alphabet
  W = wider A K V S

  abbrev pub all : Rules W
  all = all_rules rule others

  abbrev Tokens : Type 0
  Tokens = List A.Token

  -- tokens

  pub starts_up : {b : Bool} {r : A.Kind} {c : A.Test b r} {ts us : Tokens} {v : A.Value r} → Starts A c ts v us → Starts W {r = old r} c ts v us
  starts_up p = record { token = p.token; is = p.is; passes = p.passes }

  pub starts_down : {b : Bool} {r : A.Kind} {c : A.Test b r} {ts us : Tokens} {v : A.Value r} → Starts W {r = old r} c ts v us → Starts A c ts v us
  starts_down p = record { token = p.token; is = p.is; passes = p.passes }

  pub isnot_up : {b : Bool} {r : A.Kind} {c : A.Test b r} {ts : Tokens} → IsNot A c ts → IsNot W {r = old r} c ts
  isnot_up n = record { none = λ v us p. n.none v us (starts_down p) }

  pub isnot_down : {b : Bool} {r : A.Kind} {c : A.Test b r} {ts : Tokens} → IsNot W {r = old r} c ts → IsNot A c ts
  isnot_down n = record { none = λ v us p. n.none v us (starts_up p) }

  -- what is read or derived, in the wider grammar

  pub reads_up : {s : A.Kind} {a : Rule A s} {ts us : Tokens} {x : A.Value s} → Reads rule s a ts x us → Reads all (old s) (lifted a) ts x us
  reads_up given = given
  reads_up (needed p h) = needed (starts_up p) (reads_up h)
  reads_up (taken p h) = taken (starts_up p) (reads_up h)
  reads_up (passed n h) = passed (isnot_up n) (reads_up h)
  reads_up (called h i) = called (reads_up h) (reads_up i)

  pub derives_up : {s : A.Kind} {a : Rule A s} {ts : Tokens} {x : A.Value s} → Derives rule s a ts x → Derives all (old s) (lifted a) ts x
  derives_up plain.given = plain.given
  derives_up (plain.needed p h) = plain.needed (starts_up p) (derives_up h)
  derives_up (plain.taken p h) = plain.taken (starts_up p) (derives_up h)
  derives_up (plain.passed h) = plain.passed (derives_up h)
  derives_up (plain.called h i) = plain.called (derives_up h) (derives_up i)

  -- a rule by its first step

  abbrev Needs : Kinds A K → Type 0
  Needs k = (r : Kinds A K) × TestOf A true r × (ValueOf A V r → Rule W k)

  abbrev Choices : Kinds A K → Type 0
  Choices k = (b : Bool) × (r : Kinds A K) × TestOf A b r × (ValueOf A V r → Rule W k) × Rule W k

  abbrev Calls : Kinds A K → Type 0
  Calls k = (r : Kinds A K) × Symbols A S r × (ValueOf A V r → Rule W k)

  abbrev given_by : {k : Kinds A K} → Rule W k → Option (ValueOf A V k)
  given_by (give x) = Some x
  given_by _ = None

  abbrev needs_of : {k : Kinds A K} → Rule W k → Option (Needs k)
  needs_of (need {r = r} c go) = Some (r, c, go)
  needs_of _ = None

  abbrev choices_of : {k : Kinds A K} → Rule W k → Option (Choices k)
  choices_of (when {b = b} {r = r} c go other) = Some (b, r, c, go, other)
  choices_of _ = None

  abbrev calls_of : {k : Kinds A K} → Rule W k → Option (Calls k)
  calls_of (read {r = r} a go) = Some (r, a, go)
  calls_of _ = None

  -- what is read by a lifted rule is read by the rule

  abbrev Down : (k : Kinds A K) → Rule W k → Tokens → ValueOf A V k → Tokens → Type 0
  Down (old s) b ts x us = (a : Rule A s) → b ≡ lifted a → Reads rule s a ts x us
  Down (new k) b ts x us = Unit {0}

  abbrev NeedRead : {s : A.Kind} → Tokens → A.Value s → Tokens → Needs (old s) → Type 0
  NeedRead {s} ts x vs n = (v : ValueOf A V n.0) × (us : Tokens) × Starts W {r = n.0} n.1 ts v us × Down (old s) (n.2 v) us x vs

  abbrev TakenRead : {s : A.Kind} → Tokens → A.Value s → Tokens → Choices (old s) → Type 0
  TakenRead {s} ts x vs n = (v : ValueOf A V n.1) × (us : Tokens) × Starts W {b = n.0} {r = n.1} n.2 ts v us × Down (old s) (n.3 v) us x vs

  abbrev PassedRead : {s : A.Kind} → Tokens → A.Value s → Tokens → Choices (old s) → Type 0
  PassedRead {s} ts x vs n = IsNot W {b = n.0} {r = n.1} n.2 ts × Down (old s) n.4 ts x vs

  abbrev CallRead : {s : A.Kind} → Tokens → A.Value s → Tokens → Calls (old s) → Type 0
  CallRead {s} ts x vs n = (y : ValueOf A V n.0) × (us : Tokens) × Down n.0 (all n.0 n.1) ts y us × Down (old s) (n.2 y) us x vs

  give_down : {s : A.Kind} {ts : Tokens} (x : A.Value s) (a : Rule A s) → Some x ≡ given_by {k = old s} (lifted a) → Reads rule s a ts x ts
  give_down {s = s} {ts = ts} x (give y) e = subst (λ z. Reads rule s (give y) ts z ts) (sym (some_same e)) given
  give_down x (need c go) e = absurd (cc)
  give_down x (when c go other) e = absurd (cc)
  give_down x (read a go) e = absurd (cc)

  need_down : {s : A.Kind} {ts vs : Tokens} {x : A.Value s} (n : Needs (old s)) → NeedRead ts x vs n → (a : Rule A s) → Some n ≡ needs_of {k = old s} (lifted a) → Reads rule s a ts x vs
  need_down n d (need c go) e = let i = subst (NeedRead _ _ _) (some_same e) d in needed (starts_down i.2) (i.3 (go i.0) refl)
  need_down n d (give y) e = absurd (cc)
  need_down n d (when c go other) e = absurd (cc)
  need_down n d (read a go) e = absurd (cc)

  taken_down : {s : A.Kind} {ts vs : Tokens} {x : A.Value s} (n : Choices (old s)) → TakenRead ts x vs n → (a : Rule A s) → Some n ≡ choices_of {k = old s} (lifted a) → Reads rule s a ts x vs
  taken_down n d (when c go other) e = let i = subst (TakenRead _ _ _) (some_same e) d in taken (starts_down i.2) (i.3 (go i.0) refl)
  taken_down n d (give y) e = absurd (cc)
  taken_down n d (need c go) e = absurd (cc)
  taken_down n d (read a go) e = absurd (cc)

  passed_down : {s : A.Kind} {ts vs : Tokens} {x : A.Value s} (n : Choices (old s)) → PassedRead ts x vs n → (a : Rule A s) → Some n ≡ choices_of {k = old s} (lifted a) → Reads rule s a ts x vs
  passed_down n d (when c go other) e = let i = subst (PassedRead _ _ _) (some_same e) d in passed (isnot_down i.0) (i.1 other refl)
  passed_down n d (give y) e = absurd (cc)
  passed_down n d (need c go) e = absurd (cc)
  passed_down n d (read a go) e = absurd (cc)

  call_down : {s : A.Kind} {ts vs : Tokens} {x : A.Value s} (n : Calls (old s)) → CallRead ts x vs n → (a : Rule A s) → Some n ≡ calls_of {k = old s} (lifted a) → Reads rule s a ts x vs
  call_down n d (read {r = r} a go) e = let i = subst (CallRead _ _ _) (some_same e) d in called (i.2 (rule r a) refl) (i.3 (go i.0) refl)
  call_down n d (give y) e = absurd (cc)
  call_down n d (need c go) e = absurd (cc)
  call_down n d (when c go other) e = absurd (cc)

  down : {k : Kinds A K} {b : Rule W k} {ts us : Tokens} {x : ValueOf A V k} → Reads all k b ts x us → Down k b ts x us
  down {k = new k} h = tt
  down {k = old s} (given {x = x}) = λ a e. give_down x a (ap given_by e)
  down {k = old s} (needed {r = r} {c = c} {go = go} {us = us} {v = v} p h) = λ a e. need_down (r, c, go) (v, us, p, down h) a (ap needs_of e)
  down {k = old s} (taken {b = b} {r = r} {c = c} {go = go} {other = other} {us = us} {v = v} p h) = λ a e. taken_down (b, r, c, go, other) (v, us, p, down h) a (ap choices_of e)
  down {k = old s} (passed {b = b} {r = r} {c = c} {go = go} {other = other} n h) = λ a e. passed_down (b, r, c, go, other) (n, down h) a (ap choices_of e)
  down {k = old s} (called {r = r} {a = a'} {go = go} {us = us} {y = y} h i) = λ a e. call_down (r, a', go) (y, us, down h, down i) a (ap calls_of e)

  pub reads_down : {s : A.Kind} (a : Rule A s) {ts us : Tokens} {x : A.Value s} → Reads all (old s) (lifted a) ts x us → Reads rule s a ts x us
  reads_down a h = down h a refl

  -- what is derived from a lifted rule is derived from the rule

  abbrev Under : (k : Kinds A K) → Rule W k → Tokens → ValueOf A V k → Type 0
  Under (old s) b ts x = (a : Rule A s) → b ≡ lifted a → Derives rule s a ts x
  Under (new k) b ts x = Unit {0}

  abbrev NeedDerived : {s : A.Kind} → Tokens → A.Value s → Needs (old s) → Type 0
  NeedDerived {s} ts x n = (v : ValueOf A V n.0) × (us : Tokens) × Starts W {r = n.0} n.1 ts v us × Under (old s) (n.2 v) us x

  abbrev TakenDerived : {s : A.Kind} → Tokens → A.Value s → Choices (old s) → Type 0
  TakenDerived {s} ts x n = (v : ValueOf A V n.1) × (us : Tokens) × Starts W {b = n.0} {r = n.1} n.2 ts v us × Under (old s) (n.3 v) us x

  abbrev CallDerived : {s : A.Kind} → Tokens → Tokens → A.Value s → Calls (old s) → Type 0
  CallDerived {s} ts us x n = (y : ValueOf A V n.0) × Under n.0 (all n.0 n.1) ts y × Under (old s) (n.2 y) us x

  give_under : {s : A.Kind} (x : A.Value s) (a : Rule A s) → Some x ≡ given_by {k = old s} (lifted a) → Derives rule s a [] x
  give_under {s = s} x (give y) e = subst (λ z. Derives rule s (give y) [] z) (sym (some_same e)) plain.given
  give_under x (need c go) e = absurd (cc)
  give_under x (when c go other) e = absurd (cc)
  give_under x (read a go) e = absurd (cc)

  need_under : {s : A.Kind} {ts : Tokens} {x : A.Value s} (n : Needs (old s)) → NeedDerived ts x n → (a : Rule A s) → Some n ≡ needs_of {k = old s} (lifted a) → Derives rule s a ts x
  need_under n d (need c go) e = let i = subst (NeedDerived _ _) (some_same e) d in plain.needed (starts_down i.2) (i.3 (go i.0) refl)
  need_under n d (give y) e = absurd (cc)
  need_under n d (when c go other) e = absurd (cc)
  need_under n d (read a go) e = absurd (cc)

  taken_under : {s : A.Kind} {ts : Tokens} {x : A.Value s} (n : Choices (old s)) → TakenDerived ts x n → (a : Rule A s) → Some n ≡ choices_of {k = old s} (lifted a) → Derives rule s a ts x
  taken_under n d (when c go other) e = let i = subst (TakenDerived _ _) (some_same e) d in plain.taken (starts_down i.2) (i.3 (go i.0) refl)
  taken_under n d (give y) e = absurd (cc)
  taken_under n d (need c go) e = absurd (cc)
  taken_under n d (read a go) e = absurd (cc)

  passed_under : {s : A.Kind} {ts : Tokens} {x : A.Value s} (n : Choices (old s)) → Under (old s) n.4 ts x → (a : Rule A s) → Some n ≡ choices_of {k = old s} (lifted a) → Derives rule s a ts x
  passed_under {s = s} {ts = ts} {x = x} n d (when c go other) e =
      let At : Choices (old s) → Type 0 = λ m. Under (old s) m.4 ts x in
      plain.passed ((subst At (some_same e) d) other refl)
  passed_under n d (give y) e = absurd (cc)
  passed_under n d (need c go) e = absurd (cc)
  passed_under n d (read a go) e = absurd (cc)

  call_under : {s : A.Kind} (ts us : Tokens) {x : A.Value s} (n : Calls (old s)) → CallDerived ts us x n → (a : Rule A s) → Some n ≡ calls_of {k = old s} (lifted a) → Derives rule s a (ts ++ us) x
  call_under ts us n d (read {r = r} a go) e = let i = subst (CallDerived _ _ _) (some_same e) d in plain.called (i.1 (rule r a) refl) (i.2 (go i.0) refl)
  call_under ts us n d (give y) e = absurd (cc)
  call_under ts us n d (need c go) e = absurd (cc)
  call_under ts us n d (when c go other) e = absurd (cc)

  under : {k : Kinds A K} {b : Rule W k} {ts : Tokens} {x : ValueOf A V k} → Derives all k b ts x → Under k b ts x
  under {k = new k} h = tt
  under {k = old s} (plain.given {x = x}) = λ a e. give_under x a (ap given_by e)
  under {k = old s} (plain.needed {r = r} {c = c} {go = go} {us = us} {v = v} p h) = λ a e. need_under (r, c, go) (v, us, p, under h) a (ap needs_of e)
  under {k = old s} (plain.taken {b = b} {r = r} {c = c} {go = go} {other = other} {us = us} {v = v} p h) =
      λ a e. taken_under (b, r, c, go, other) (v, us, p, under h) a (ap choices_of e)
  under {k = old s} (plain.passed {b = b} {r = r} {c = c} {go = go} {other = other} h) = λ a e. passed_under (b, r, c, go, other) (under h) a (ap choices_of e)
  under {k = old s} (plain.called {r = r} {a = a'} {go = go} {ts = ts} {us = us} {y = y} h i) = λ a e. call_under ts us (r, a', go) (y, under h, under i) a (ap calls_of e)

  pub derives_down : {s : A.Kind} (a : Rule A s) {ts : Tokens} {x : A.Value s} → Derives all (old s) (lifted a) ts x → Derives rule s a ts x
  derives_down a h = under h a refl

  -- so a function that reads a rule reads it in the wider grammar, and goes wrong at the same place

  pub fails_up : {s : A.Kind} (a : Rule A s) {ts r : Tokens} → Fails rule a ts r → Fails all {s = old s} (lifted a) ts r
  fails_up a f = record {
    stuck = λ z same. let k = f.stuck z same in record { all = k.all; front = k.front; none = λ x us h. k.none x us (reads_down a h) };
    opens = let o = f.opens in record { rest = o.rest; all = o.all; front = o.front; tree = o.tree; derives = derives_up o.derives };
  }

  pub refuses_up : {s : A.Kind} (a : Rule A s) (ts : Tokens) (w : Stop A.Token) → Refuses rule a ts w → Refuses all {s = old s} (lifted a) ts w
  refuses_up a ts stop.Memory h = tt
  refuses_up a ts (stop.Before r) h = fails_up a h

  pub parses_up : {s : A.Kind} {R : Type 0} (view : R → A.Value s) (a : Rule A s) (ts : Tokens) (res : Result (R × Bor Tokens) (Stop A.Token)) →
      Parses rule view a ts res → Parses all {s = old s} view (lifted a) ts res
  parses_up view a ts (Ok r) h = reads_up h
  parses_up view a ts (Err e) h = refuses_up a ts e h

  pub misses_up : {b : Bool} {r : A.Kind} (c : A.Test b r) (ts : Tokens) (w : Stop A.Token) → Misses A c ts w → Misses W {r = old r} c ts w
  misses_up c ts stop.Memory h = tt
  misses_up c ts (stop.Before r) h = (isnot_up h.0, h.1)
