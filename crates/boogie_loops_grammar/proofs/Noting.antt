-- The second form of a symbol spells what the symbol spells.
use Rattle.std.proofs.Common.{◌≡◌, refl, sym, ap, subst, Bool, true, List, [], ◌++◌, Option, Some, None, append_assoc}
use Rattle.std.proofs.lemmas.List.{append-nil}
use Rattle.lemmas.proofs.Options.{some_same}
use Rattle.grammar.specs.Rules.{Alphabet, Rule, give, need, when, read, Rules, Starts}
use Rattle.grammar.specs.Spells as plain
use Rattle.grammar.specs.Spells.{Derives}
use Rattle.grammar.specs.Greedy.{IsNot, Reads, given, needed, taken, passed, called, Fails}
use Rattle.grammar.specs.Wider.{Kinds, old, new, ValueOf, TestOf, Symbols}
use Rattle.boogie_loops_grammar.specs.Noting.{Notes, Noted, Second, noting, noted, noting_rule, second_rules, noted_rules}
use Rattle.grammar.proofs.Laws.{Element, Laws}
use Rattle.grammar.proofs.Wider as wide
use Rattle.grammar.proofs.WiderLaws.{laws_up}

module _ {A : Alphabet} {N : Type 0} (note : Notes A N) (rule : Rules A) where
  abbrev W : Alphabet
  W = noted A N

  abbrev all : Rules W
  all = noted_rules note rule

  abbrev Tokens : Type 0
  Tokens = List A.Token

  -- what is read, with what was noted besides

  reads_at : {s : A.Kind} (a : Rule A s) (ns : List N) {ts us : Tokens} {x : A.Value s} {l m : List N} → l ≡ m →
      Reads all (new s) (noting_rule note ns a) ts (x, l) us → Reads all (new s) (noting_rule note ns a) ts (x, m) us
  reads_at {s = s} a ns {ts = ts} {us = us} {x = x} e h = subst (λ l. Reads all (new s) (noting_rule note ns a) ts (x, l) us) e h

  pub reads_noted : {s : A.Kind} {a : Rule A s} {ts us : Tokens} {x : A.Value s} → Reads rule s a ts x us → (ns : List N) →
      (more : List N) × Reads all (new s) (noting_rule note ns a) ts (x, ns ++ more) us
  reads_noted (given {x = x}) ns = ([], reads_at (give x) ns (sym (append-nil ns)) given)
  reads_noted (needed {r = r} {c = c} {go = go} {v = v} p h) ns =
      let i = reads_noted h (ns ++ note _ r c v) in
      (note _ r c v ++ i.0, reads_at (need c go) ns (append_assoc ns (note _ r c v) i.0) (needed (wide.starts_up rule (second_rules note rule) p) i.1))
  reads_noted (taken {b = b} {r = r} {c = c} {go = go} {other = other} {v = v} p h) ns =
      let i = reads_noted h (ns ++ note b r c v) in
      (note b r c v ++ i.0, reads_at (when c go other) ns (append_assoc ns (note b r c v) i.0) (taken (wide.starts_up rule (second_rules note rule) p) i.1))
  reads_noted (passed n h) ns = let i = reads_noted h ns in (i.0, passed (wide.isnot_up rule (second_rules note rule) n) i.1)
  reads_noted (called {a = a} {go = go} h k) ns =
      let i = reads_noted h [] in
      let j = reads_noted k (ns ++ i.0) in
      (i.0 ++ j.0, reads_at (read a go) ns (append_assoc ns i.0 j.0) (called i.1 j.1))

  -- what is derived, with what was noted besides

  derives_at : {s : A.Kind} (a : Rule A s) (ns : List N) {ts : Tokens} {x : A.Value s} {l m : List N} → l ≡ m →
      Derives all (new s) (noting_rule note ns a) ts (x, l) → Derives all (new s) (noting_rule note ns a) ts (x, m)
  derives_at {s = s} a ns {ts = ts} {x = x} e h = subst (λ l. Derives all (new s) (noting_rule note ns a) ts (x, l)) e h

  pub derives_noted : {s : A.Kind} {a : Rule A s} {ts : Tokens} {x : A.Value s} → Derives rule s a ts x → (ns : List N) →
      (more : List N) × Derives all (new s) (noting_rule note ns a) ts (x, ns ++ more)
  derives_noted (plain.given {x = x}) ns = ([], derives_at (give x) ns (sym (append-nil ns)) plain.given)
  derives_noted (plain.needed {r = r} {c = c} {go = go} {v = v} p h) ns =
      let i = derives_noted h (ns ++ note _ r c v) in
      (note _ r c v ++ i.0, derives_at (need c go) ns (append_assoc ns (note _ r c v) i.0) (plain.needed (wide.starts_up rule (second_rules note rule) p) i.1))
  derives_noted (plain.taken {b = b} {r = r} {c = c} {go = go} {other = other} {v = v} p h) ns =
      let i = derives_noted h (ns ++ note b r c v) in
      (note b r c v ++ i.0, derives_at (when c go other) ns (append_assoc ns (note b r c v) i.0) (plain.taken (wide.starts_up rule (second_rules note rule) p) i.1))
  derives_noted (plain.passed h) ns = let i = derives_noted h ns in (i.0, plain.passed i.1)
  derives_noted (plain.called {a = a} {go = go} h k) ns =
      let i = derives_noted h [] in
      let j = derives_noted k (ns ++ i.0) in
      (i.0 ++ j.0, derives_at (read a go) ns (append_assoc ns i.0 j.0) (plain.called i.1 j.1))

  -- and nothing else is read or derived: a rule by its first step

  abbrev Kinds_of : Type 0
  Kinds_of = Kinds A A.Kind

  abbrev Val : Kinds_of → Type 0
  Val k = ValueOf A (Noted A N) k

  abbrev Needs : Kinds_of → Type 0
  Needs k = (r : Kinds_of) × TestOf A true r × (Val r → Rule W k)

  abbrev Choices : Kinds_of → Type 0
  Choices k = (b : Bool) × (r : Kinds_of) × TestOf A b r × (Val r → Rule W k) × Rule W k

  abbrev Calls : Kinds_of → Type 0
  Calls k = (r : Kinds_of) × Symbols A (Second A) r × (Val r → Rule W k)

  abbrev given_by : {k : Kinds_of} → Rule W k → Option (Val k)
  given_by (give x) = Some x
  given_by _ = None

  abbrev needs_of : {k : Kinds_of} → Rule W k → Option (Needs k)
  needs_of (need {r = r} c go) = Some (r, c, go)
  needs_of _ = None

  abbrev choices_of : {k : Kinds_of} → Rule W k → Option (Choices k)
  choices_of (when {b = b} {r = r} c go other) = Some (b, r, c, go, other)
  choices_of _ = None

  abbrev calls_of : {k : Kinds_of} → Rule W k → Option (Calls k)
  calls_of (read {r = r} a go) = Some (r, a, go)
  calls_of _ = None

  abbrev Down : (k : Kinds_of) → Rule W k → Tokens → Val k → Tokens → Type 0
  Down (old s) b ts y us = Unit {0}
  Down (new s) b ts y us = (a : Rule A s) (ns : List N) → b ≡ noting_rule note ns a → Reads rule s a ts y.0 us

  abbrev NeedRead : {s : A.Kind} → Tokens → Noted A N s → Tokens → Needs (new s) → Type 0
  NeedRead {s} ts y vs n = (v : Val n.0) × (us : Tokens) × Starts W {r = n.0} n.1 ts v us × Down (new s) (n.2 v) us y vs

  abbrev TakenRead : {s : A.Kind} → Tokens → Noted A N s → Tokens → Choices (new s) → Type 0
  TakenRead {s} ts y vs n = (v : Val n.1) × (us : Tokens) × Starts W {b = n.0} {r = n.1} n.2 ts v us × Down (new s) (n.3 v) us y vs

  abbrev PassedRead : {s : A.Kind} → Tokens → Noted A N s → Tokens → Choices (new s) → Type 0
  PassedRead {s} ts y vs n = IsNot W {b = n.0} {r = n.1} n.2 ts × Down (new s) n.4 ts y vs

  abbrev CallRead : {s : A.Kind} → Tokens → Noted A N s → Tokens → Calls (new s) → Type 0
  CallRead {s} ts y vs n = (z : Val n.0) × (us : Tokens) × Down n.0 (all n.0 n.1) ts z us × Down (new s) (n.2 z) us y vs

  give_down : {s : A.Kind} {ts : Tokens} (y : Noted A N s) (a : Rule A s) (ns : List N) → Some y ≡ given_by {k = new s} (noting_rule note ns a) → Reads rule s a ts y.0 ts
  give_down {s = s} {ts = ts} y (give x) ns e = subst (λ z. Reads rule s (give x) ts z ts) (sym (ap (λ z. z.0) (some_same e))) given
  give_down y (need c go) ns e = absurd (cc)
  give_down y (when c go other) ns e = absurd (cc)
  give_down y (read a go) ns e = absurd (cc)

  need_down : {s : A.Kind} {ts vs : Tokens} (y : Noted A N s) (n : Needs (new s)) → NeedRead ts y vs n → (a : Rule A s) (ns : List N) → Some n ≡ needs_of {k = new s} (noting_rule note ns a) → Reads rule s a ts y.0 vs
  need_down y n d (need c go) ns e = let i = subst (NeedRead _ y _) (some_same e) d in needed (wide.starts_down rule (second_rules note rule) i.2) (i.3 (go i.0) _ refl)
  need_down y n d (give x) ns e = absurd (cc)
  need_down y n d (when c go other) ns e = absurd (cc)
  need_down y n d (read a go) ns e = absurd (cc)

  taken_down : {s : A.Kind} {ts vs : Tokens} (y : Noted A N s) (n : Choices (new s)) → TakenRead ts y vs n → (a : Rule A s) (ns : List N) → Some n ≡ choices_of {k = new s} (noting_rule note ns a) → Reads rule s a ts y.0 vs
  taken_down y n d (when c go other) ns e = let i = subst (TakenRead _ y _) (some_same e) d in taken (wide.starts_down rule (second_rules note rule) i.2) (i.3 (go i.0) _ refl)
  taken_down y n d (give x) ns e = absurd (cc)
  taken_down y n d (need c go) ns e = absurd (cc)
  taken_down y n d (read a go) ns e = absurd (cc)

  passed_down : {s : A.Kind} {ts vs : Tokens} (y : Noted A N s) (n : Choices (new s)) → PassedRead ts y vs n → (a : Rule A s) (ns : List N) → Some n ≡ choices_of {k = new s} (noting_rule note ns a) → Reads rule s a ts y.0 vs
  passed_down y n d (when c go other) ns e = let i = subst (PassedRead _ y _) (some_same e) d in passed (wide.isnot_down rule (second_rules note rule) i.0) (i.1 other _ refl)
  passed_down y n d (give x) ns e = absurd (cc)
  passed_down y n d (need c go) ns e = absurd (cc)
  passed_down y n d (read a go) ns e = absurd (cc)

  call_down : {s : A.Kind} {ts vs : Tokens} (y : Noted A N s) (n : Calls (new s)) → CallRead ts y vs n → (a : Rule A s) (ns : List N) → Some n ≡ calls_of {k = new s} (noting_rule note ns a) → Reads rule s a ts y.0 vs
  call_down y n d (read {r = r} a go) ns e = let i = subst (CallRead _ y _) (some_same e) d in called (i.2 (rule r a) [] refl) (i.3 (go i.0.0) _ refl)
  call_down y n d (give x) ns e = absurd (cc)
  call_down y n d (need c go) ns e = absurd (cc)
  call_down y n d (when c go other) ns e = absurd (cc)

  down : {k : Kinds_of} {b : Rule W k} {ts us : Tokens} {y : Val k} → Reads all k b ts y us → Down k b ts y us
  down {k = old s} h = tt
  down {k = new s} (given {x = y}) = λ a ns e. give_down y a ns (ap given_by e)
  down {k = new s} (needed {r = r} {c = c} {go = go} {us = us} {v = v} {x = y} p h) = λ a ns e. need_down y (r, c, go) (v, us, p, down h) a ns (ap needs_of e)
  down {k = new s} (taken {b = b} {r = r} {c = c} {go = go} {other = other} {us = us} {v = v} {x = y} p h) = λ a ns e. taken_down y (b, r, c, go, other) (v, us, p, down h) a ns (ap choices_of e)
  down {k = new s} (passed {b = b} {r = r} {c = c} {go = go} {other = other} {x = y} n h) = λ a ns e. passed_down y (b, r, c, go, other) (n, down h) a ns (ap choices_of e)
  down {k = new s} (called {r = r} {a = a'} {go = go} {us = us} {y = z} {x = y} h i) = λ a ns e. call_down y (r, a', go) (z, us, down h, down i) a ns (ap calls_of e)

  pub reads_plain : {s : A.Kind} (a : Rule A s) (ns : List N) {ts us : Tokens} {y : Noted A N s} → Reads all (new s) (noting_rule note ns a) ts y us → Reads rule s a ts y.0 us
  reads_plain a ns h = down h a ns refl

  abbrev Under : (k : Kinds_of) → Rule W k → Tokens → Val k → Type 0
  Under (old s) b ts y = Unit {0}
  Under (new s) b ts y = (a : Rule A s) (ns : List N) → b ≡ noting_rule note ns a → Derives rule s a ts y.0

  abbrev NeedDerived : {s : A.Kind} → Tokens → Noted A N s → Needs (new s) → Type 0
  NeedDerived {s} ts y n = (v : Val n.0) × (us : Tokens) × Starts W {r = n.0} n.1 ts v us × Under (new s) (n.2 v) us y

  abbrev TakenDerived : {s : A.Kind} → Tokens → Noted A N s → Choices (new s) → Type 0
  TakenDerived {s} ts y n = (v : Val n.1) × (us : Tokens) × Starts W {b = n.0} {r = n.1} n.2 ts v us × Under (new s) (n.3 v) us y

  abbrev PassedDerived : {s : A.Kind} → Tokens → Noted A N s → Choices (new s) → Type 0
  PassedDerived {s} ts y n = Under (new s) n.4 ts y

  abbrev CallDerived : {s : A.Kind} → Tokens → Tokens → Noted A N s → Calls (new s) → Type 0
  CallDerived {s} ts us y n = (z : Val n.0) × Under n.0 (all n.0 n.1) ts z × Under (new s) (n.2 z) us y

  give_under : {s : A.Kind} (y : Noted A N s) (a : Rule A s) (ns : List N) → Some y ≡ given_by {k = new s} (noting_rule note ns a) → Derives rule s a [] y.0
  give_under {s = s} y (give x) ns e = subst (λ z. Derives rule s (give x) [] z) (sym (ap (λ z. z.0) (some_same e))) plain.given
  give_under y (need c go) ns e = absurd (cc)
  give_under y (when c go other) ns e = absurd (cc)
  give_under y (read a go) ns e = absurd (cc)

  need_under : {s : A.Kind} {ts : Tokens} (y : Noted A N s) (n : Needs (new s)) → NeedDerived ts y n → (a : Rule A s) (ns : List N) → Some n ≡ needs_of {k = new s} (noting_rule note ns a) → Derives rule s a ts y.0
  need_under y n d (need c go) ns e = let i = subst (NeedDerived _ y) (some_same e) d in plain.needed (wide.starts_down rule (second_rules note rule) i.2) (i.3 (go i.0) _ refl)
  need_under y n d (give x) ns e = absurd (cc)
  need_under y n d (when c go other) ns e = absurd (cc)
  need_under y n d (read a go) ns e = absurd (cc)

  taken_under : {s : A.Kind} {ts : Tokens} (y : Noted A N s) (n : Choices (new s)) → TakenDerived ts y n → (a : Rule A s) (ns : List N) → Some n ≡ choices_of {k = new s} (noting_rule note ns a) → Derives rule s a ts y.0
  taken_under y n d (when c go other) ns e = let i = subst (TakenDerived _ y) (some_same e) d in plain.taken (wide.starts_down rule (second_rules note rule) i.2) (i.3 (go i.0) _ refl)
  taken_under y n d (give x) ns e = absurd (cc)
  taken_under y n d (need c go) ns e = absurd (cc)
  taken_under y n d (read a go) ns e = absurd (cc)

  passed_under : {s : A.Kind} {ts : Tokens} (y : Noted A N s) (n : Choices (new s)) → PassedDerived ts y n → (a : Rule A s) (ns : List N) → Some n ≡ choices_of {k = new s} (noting_rule note ns a) → Derives rule s a ts y.0
  passed_under {s = s} {ts = ts} y n d (when c go other) ns e = plain.passed ((subst (PassedDerived {s = s} ts y) (some_same e) d) other _ refl)
  passed_under y n d (give x) ns e = absurd (cc)
  passed_under y n d (need c go) ns e = absurd (cc)
  passed_under y n d (read a go) ns e = absurd (cc)

  call_under : {s : A.Kind} (ts us : Tokens) (y : Noted A N s) (n : Calls (new s)) → CallDerived ts us y n → (a : Rule A s) (ns : List N) → Some n ≡ calls_of {k = new s} (noting_rule note ns a) → Derives rule s a (ts ++ us) y.0
  call_under ts us y n d (read {r = r} a go) ns e = let i = subst (CallDerived _ _ y) (some_same e) d in plain.called (i.1 (rule r a) [] refl) (i.2 (go i.0.0) _ refl)
  call_under ts us y n d (give x) ns e = absurd (cc)
  call_under ts us y n d (need c go) ns e = absurd (cc)
  call_under ts us y n d (when c go other) ns e = absurd (cc)

  under : {k : Kinds_of} {b : Rule W k} {ts : Tokens} {y : Val k} → Derives all k b ts y → Under k b ts y
  under {k = old s} h = tt
  under {k = new s} (plain.given {x = y}) = λ a ns e. give_under y a ns (ap given_by e)
  under {k = new s} (plain.needed {r = r} {c = c} {go = go} {us = us} {v = v} {x = y} p h) = λ a ns e. need_under y (r, c, go) (v, us, p, under h) a ns (ap needs_of e)
  under {k = new s} (plain.taken {b = b} {r = r} {c = c} {go = go} {other = other} {us = us} {v = v} {x = y} p h) =
      λ a ns e. taken_under y (b, r, c, go, other) (v, us, p, under h) a ns (ap choices_of e)
  under {k = new s} (plain.passed {b = b} {r = r} {c = c} {go = go} {other = other} {x = y} h) = λ a ns e. passed_under y (b, r, c, go, other) (under h) a ns (ap choices_of e)
  under {k = new s} (plain.called {r = r} {a = a'} {go = go} {ts = ts} {us = us} {y = z} {x = y} h i) = λ a ns e. call_under ts us y (r, a', go) (z, under h, under i) a ns (ap calls_of e)

  pub derives_plain : {s : A.Kind} (a : Rule A s) (ns : List N) {ts : Tokens} {y : Noted A N s} → Derives all (new s) (noting_rule note ns a) ts y → Derives rule s a ts y.0
  derives_plain a ns h = under h a ns refl

  -- so the second form goes wrong where the symbol does

  pub fails_noted : {s : A.Kind} (a : Rule A s) (ns : List N) {ts r : Tokens} → Fails rule a ts r → Fails all {s = new s} (noting_rule note ns a) ts r
  fails_noted a ns f = record {
    stuck = λ z same. let k = f.stuck z same in record { all = k.all; front = k.front; none = λ y us h. k.none y.0 us (reads_plain a ns h) };
    opens = let o = f.opens in let d = derives_noted o.derives ns in record { rest = o.rest; all = o.all; front = o.front; tree = (o.tree, ns ++ d.0); derives = d.1 };
  }

  -- each second form spells something

  pub element_noted : {s : A.Kind} {a : Rule A s} → Element rule a → (ns : List N) → Element all {s = new s} (noting_rule note ns a)
  element_noted e ns = let d = derives_noted e.derives ns in record { tokens = e.tokens; tree = (e.tree, ns ++ d.0); derives = d.1 }

  pub laws_noted : Laws rule → Laws all
  laws_noted laws = laws_up rule (second_rules note rule) laws elements where
    elements : (r : Kinds_of) (a : Second A r) → Element all (second_rules note rule r a)
    elements _ (noting {s = s} a) = element_noted (laws.element_of s a) []
