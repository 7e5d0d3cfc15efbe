-- What has to hold of a grammar for its readings to be exact.
use Rattle.std.proofs.Common.{◌≡◌, refl, subst, Bool, true, false, List, [], ◌∷◌, ◌++◌, cond}
use Rattle.grammar.specs.Rules.{Alphabet, Rule, give, need, when, read, Rules, Starts}
use Rattle.grammar.specs.Spells.{Derives, given, needed, taken, passed, called}

-- a token that passes
pub record Example (A : Alphabet) {r : A.Kind} (c : A.Test true r) : Type 0 where
  pub token : A.Token
  pub value : A.Value r
  pub passes : A.Passes true r c token value

-- a rule spells something
pub record Element {A : Alphabet} (rule : Rules A) {s : A.Kind} (a : Rule A s) : Type 0 where
  pub tokens : List A.Token
  pub tree : A.Value s
  pub derives : Derives rule s a tokens tree

pub record Laws {A : Alphabet} (rule : Rules A) : Type 0 where
  -- a token passes a test in one way
  pub one_value : (b : Bool) (r : A.Kind) (c : A.Test b r) (k : A.Token) (v w : A.Value r) → A.Passes b r c k v → A.Passes b r c k w → v ≡ w
  pub example : (r : A.Kind) (c : A.Test true r) → Example A c
  pub element_of : (s : A.Kind) (a : A.Symbol s) → Element rule (rule s a)

-- how an element is built

module _ {A : Alphabet} {rule : Rules A} where
  pub el_give : {s : A.Kind} {x : A.Value s} → Element rule (give x)
  el_give {x = x} = record { tokens = []; tree = x; derives = given }

  pub el_need : {r s : A.Kind} {c : A.Test true r} {go : A.Value r → Rule A s} → Example A c → ((v : A.Value r) → Element rule (go v)) → Element rule (need c go)
  el_need k f =
      let e = f k.value in
      record { tokens = k.token ∷ e.tokens; tree = e.tree; derives = needed (record { token = k.token; is = refl; passes = k.passes }) e.derives }

  pub el_taken : {b : Bool} {r s : A.Kind} {c : A.Test b r} {go : A.Value r → Rule A s} {other : Rule A s} (k : A.Token) (v : A.Value r) → A.Passes b r c k v → Element rule (go v) → Element rule (when c go other)
  el_taken k v p e = record { tokens = k ∷ e.tokens; tree = e.tree; derives = taken (record { token = k; is = refl; passes = p }) e.derives }

  pub el_other : {b : Bool} {r s : A.Kind} {c : A.Test b r} {go : A.Value r → Rule A s} {other : Rule A s} → Element rule other → Element rule (when c go other)
  el_other e = record { tokens = e.tokens; tree = e.tree; derives = passed e.derives }

  pub el_read : {r s : A.Kind} {a : A.Symbol r} {go : A.Value r → Rule A s} → Element rule (rule r a) → ((y : A.Value r) → Element rule (go y)) → Element rule (read a go)
  el_read e f = let h = f e.tree in record { tokens = e.tokens ++ h.tokens; tree = h.tree; derives = called e.derives h.derives }

  pub el_cond : {s : A.Kind} (b : Bool) {x y : Rule A s} → Element rule x → Element rule y → Element rule (cond b x y)
  el_cond true e f = e
  el_cond false e f = f

-- each rule has one

pub element : {A : Alphabet} (rule : Rules A) → Laws rule → {s : A.Kind} (a : Rule A s) → Element rule a
element rule laws (give x) = el_give
element rule laws (need {r = r} c go) = el_need (laws.example r c) (λ v. element rule laws (go v))
element rule laws (when c go other) = el_other (element rule laws other)
element rule laws (read {r = r} a go) = el_read (laws.element_of r a) (λ y. element rule laws (go y))

pub one_start : {A : Alphabet} {rule : Rules A} → Laws rule → {b : Bool} {r : A.Kind} {c : A.Test b r} {ts us vs : List A.Token} {v w : A.Value r} →
    Starts A c ts v us → Starts A c ts w vs → (v ≡ w) × (us ≡ vs)
one_start {A} laws {b} {r} {c} {v = v} {w = w} p q =
    let same : p.token ≡ q.token = cc in
    (laws.one_value b r c q.token v w (subst (λ k. A.Passes b r c k v) same p.passes) q.passes, cc)
