-- Every derivation is read, where the next token tells which alternative was derived.
use Rattle.std.proofs.Common.{◌≡◌, refl, sym, ap, subst, ◌∙◌, ℕ, Bool, true, false, cond, List, [], ◌∷◌, ◌++◌, Option, Some, None, append_assoc}
use Rattle.std.proofs.lemmas.List.{append-nil}
use Rattle.grammar.specs.Rules.{Alphabet, Rule, give, need, when, read, Rules, Starts}
use Rattle.grammar.specs.Spells as plain
use Rattle.grammar.specs.Spells.{Derives}
use Rattle.grammar.specs.Greedy.{IsNot, Reads, given, needed, taken, passed, called}
use Rattle.grammar.proofs.Sets.{among, apart, within, among_append_l, among_append_r, within_right, apart_right}

-- With which tokens each symbol begins, where it is not empty, what it spells where it is, and which tokens could go
-- on with what it spelled. Tokens are told apart by a number for each.
pub record Table (A : Alphabet) : Type 1 where
  pub code : A.Token → ℕ
  pub codes : (b : Bool) (r : A.Kind) → A.Test b r → List ℕ
  pub first_codes : (s : A.Kind) → A.Symbol s → List ℕ
  pub empty : (s : A.Kind) → A.Symbol s → Option (A.Value s)
  pub Ext : (s : A.Kind) → A.Symbol s → A.Value s → A.Token → Type 0
  pub ext_codes : (s : A.Kind) → A.Symbol s → A.Value s → List ℕ

-- with which tokens a rule begins, and what it spells where it is empty

abbrev pub from : {X : Type 0} → Option X → (X → List ℕ) → List ℕ
from None f = []
from (Some y) f = f y

abbrev pub then_ends : {X Y : Type 0} → Option X → (X → Option Y) → Option Y
then_ends None f = None
then_ends (Some y) f = f y

abbrev pub begins : {A : Alphabet} (table : Table A) {s : A.Kind} → Rule A s → List ℕ
begins table (give x) = []
begins table (need c go) = table.codes _ _ c
begins table (when c go other) = table.codes _ _ c ++ begins table other
begins table (read a go) = table.first_codes _ a ++ from (table.empty _ a) (λ y. begins table (go y))

abbrev pub ends : {A : Alphabet} (table : Table A) {s : A.Kind} → Rule A s → Option (A.Value s)
ends table (give x) = Some x
ends table (need c go) = None
ends table (when c go other) = ends table other
ends table (read a go) = then_ends (table.empty _ a) (λ y. ends table (go y))

pub begins_cond : {A : Alphabet} (table : Table A) {s : A.Kind} (b : Bool) (x y : Rule A s) (l : List ℕ) →
    within (begins table x) l ≡ true → within (begins table y) l ≡ true → within (begins table (cond b x y)) l ≡ true
begins_cond table true x y l h i = h
begins_cond table false x y l h i = i

pub record IsRightTable {A : Alphabet} (rule : Rules A) (table : Table A) : Type 0 where
  pub passes_codes : (b : Bool) (r : A.Kind) (c : A.Test b r) (k : A.Token) (v : A.Value r) → A.Passes b r c k v → among (table.code k) (table.codes b r c) ≡ true
  pub first_ok : (s : A.Kind) (a : A.Symbol s) → within (begins table (rule s a)) (table.first_codes s a) ≡ true
  pub empty_ok : (s : A.Kind) (a : A.Symbol s) → ends table (rule s a) ≡ table.empty s a

pub no_token : {X : Type 0} {A : Alphabet} {b : Bool} {r : A.Kind} {c : A.Test b r} {ts us : List A.Token} {v : A.Value r} → Starts A c ts v us → ts ≡ [] → X
no_token q e = let x : [] ≡ q.token ∷ _ = sym e ∙ q.is in absurd (cc)

-- the rule tells by the next token how to read on, where E are the tokens that could go on with what it spells

pub record Apart {A : Alphabet} (rule : Rules A) {b : Bool} {r s : A.Kind} (c : A.Test b r) (other : Rule A s) : Type 0 where
  pub none : (k : A.Token) (us : List A.Token) (v : A.Value r) (x : A.Value s) → A.Passes b r c k v → Derives rule s other (k ∷ us) x → ⊥

pub record AtEnd {A : Alphabet} (rule : Rules A) {b : Bool} {r s : A.Kind} (E : A.Value s → A.Token → Type 0) (c : A.Test b r) (other : Rule A s) : Type 0 where
  pub ext : (k : A.Token) (v : A.Value r) (x : A.Value s) → A.Passes b r c k v → Derives rule s other [] x → E x k

pub record Follows {A : Alphabet} (rule : Rules A) (table : Table A) {r s : A.Kind} (a : A.Symbol r) (go : A.Value r → Rule A s) : Type 0 where
  pub none : (y : A.Value r) (k : A.Token) (us : List A.Token) (x : A.Value s) → Derives rule s (go y) (k ∷ us) x → table.Ext r a y k → ⊥

pub record EndsAs {A : Alphabet} (rule : Rules A) (table : Table A) {r s : A.Kind} (E : A.Value s → A.Token → Type 0) (a : A.Symbol r) (go : A.Value r → Rule A s) : Type 0 where
  pub ext : (y : A.Value r) (x : A.Value s) (k : A.Token) → Derives rule s (go y) [] x → table.Ext r a y k → E x k

pub data Good {A : Alphabet} (rule : Rules A) (table : Table A) (s : A.Kind) (E : A.Value s → A.Token → Type 0) : Rule A s → Type 0 where
  good_give : {x : A.Value s} → Good rule table s E (give x)
  good_need : {r : A.Kind} {c : A.Test true r} {go : A.Value r → Rule A s} → ((v : A.Value r) → Good rule table s E (go v)) → Good rule table s E (need c go)
  good_when : {b : Bool} {r : A.Kind} {c : A.Test b r} {go : A.Value r → Rule A s} {other : Rule A s} →
      Apart rule c other → AtEnd rule E c other → ((v : A.Value r) → Good rule table s E (go v)) → Good rule table s E other → Good rule table s E (when c go other)
  good_read : {r : A.Kind} {a : A.Symbol r} {go : A.Value r → Rule A s} →
      Follows rule table a go → EndsAs rule table E a go → ((y : A.Value r) → Good rule table s E (go y)) → Good rule table s E (read a go)

-- where the tokens that could go on are listed

abbrev pub end_ok : {X : Type 0} → Option X → List ℕ → (X → List ℕ) → Bool
end_ok None m l = true
end_ok (Some x) m l = within m (l x)

pub data Tells {A : Alphabet} (table : Table A) (s : A.Kind) (l : A.Value s → List ℕ) : Rule A s → Type 0 where
  te : {x : A.Value s} → Tells table s l (give x)
  tn : {r : A.Kind} {c : A.Test true r} {go : A.Value r → Rule A s} → ((v : A.Value r) → Tells table s l (go v)) → Tells table s l (need c go)
  tw : {b : Bool} {r : A.Kind} {c : A.Test b r} {go : A.Value r → Rule A s} {other : Rule A s} →
      cond (apart (table.codes b r c) (begins table other)) (end_ok (ends table other) (table.codes b r c) l) false ≡ true →
      ((v : A.Value r) → Tells table s l (go v)) → Tells table s l other → Tells table s l (when c go other)
  tr : {r : A.Kind} {a : A.Symbol r} {go : A.Value r → Rule A s} →
      ((y : A.Value r) (k : A.Token) → table.Ext r a y k → among (table.code k) (table.ext_codes r a y) ≡ true) →
      ((y : A.Value r) → cond (apart (begins table (go y)) (table.ext_codes r a y)) (end_ok (ends table (go y)) (table.ext_codes r a y) l) false ≡ true) →
      ((y : A.Value r) → Tells table s l (go y)) → Tells table s l (read a go)

pub end_right : {X : Type 0} (o : Option X) (m : List ℕ) (l : X → List ℕ) (x : X) (n : ℕ) → end_ok o m l ≡ true → o ≡ Some x → among n m ≡ true → among n (l x) ≡ true
end_right o m l x n h e i = within_right n m (l x) (subst (λ z. end_ok z m l ≡ true) e h) i

pub both : (b c : Bool) → cond b c false ≡ true → (b ≡ true) × (c ≡ true)
both true c h = (refl, h)
both false c h = cc

module _ {A : Alphabet} (rule : Rules A) (table : Table A) (right : IsRightTable rule table) where
  pub ends_right : {s : A.Kind} {a : Rule A s} {ts : List A.Token} {x : A.Value s} → Derives rule s a ts x → ts ≡ [] → ends table a ≡ Some x
  ends_right plain.given e = refl
  ends_right (plain.needed q d) e = no_token q e
  ends_right (plain.taken q d) e = no_token q e
  ends_right (plain.passed d) e = ends_right d e
  ends_right (plain.called {a = a} {go = go} {ts = []} {us = us} {y = y} d d') e =
      let h : table.empty _ a ≡ Some y = sym (right.empty_ok _ a) ∙ ends_right d refl in
      ap (λ o. then_ends o (λ z. ends table (go z))) h ∙ ends_right d' e
  ends_right (plain.called {ts = k ∷ ts} d d') e = absurd (cc)

  first_passes : {b : Bool} {r : A.Kind} (c : A.Test b r) {ts vs : List A.Token} (v : A.Value r) → Starts A c ts v vs → (k : A.Token) (us : List A.Token) → ts ≡ k ∷ us →
      among (table.code k) (table.codes b r c) ≡ true
  first_passes {b} {r} c v q k us e = let same : q.token ≡ k = cc in right.passes_codes b r c k v (subst (λ j. A.Passes b r c j v) same q.passes)

  pub begins_right : {s : A.Kind} {a : Rule A s} {ts : List A.Token} {x : A.Value s} → Derives rule s a ts x → (k : A.Token) (us : List A.Token) → ts ≡ k ∷ us →
      among (table.code k) (begins table a) ≡ true
  begins_right plain.given k us e = absurd (cc)
  begins_right (plain.needed {c = c} {v = v} q d) k us e = first_passes c v q k us e
  begins_right (plain.taken {c = c} {other = other} {v = v} q d) k us e = among_append_l (table.code k) (table.codes _ _ c) (begins table other) (first_passes c v q k us e)
  begins_right (plain.passed {c = c} {other = other} d) k us e = among_append_r (table.code k) (table.codes _ _ c) (begins table other) (begins_right d k us e)
  begins_right (plain.called {a = a} {go = go} {ts = []} {us = us'} {y = y} d d') k us e =
      let h : table.empty _ a ≡ Some y = sym (right.empty_ok _ a) ∙ ends_right d refl in
      let i : among (table.code k) (from (table.empty _ a) (λ z. begins table (go z))) ≡ true =
      subst (λ o. among (table.code k) (from o (λ z. begins table (go z))) ≡ true) (sym h) (begins_right d' k us e) in
      among_append_r (table.code k) (table.first_codes _ a) (from (table.empty _ a) (λ z. begins table (go z))) i
  begins_right (plain.called {a = a} {go = go} {ts = k' ∷ ts} d d') k us e =
      let same : k' ≡ k = cc in
      let h : among (table.code k') (table.first_codes _ a) ≡ true =
      within_right (table.code k') (begins table (rule _ a)) (table.first_codes _ a) (right.first_ok _ a) (begins_right d k' ts refl) in
      among_append_l (table.code k) (table.first_codes _ a) (from (table.empty _ a) (λ z. begins table (go z)))
      (subst (λ j. among (table.code j) (table.first_codes _ a) ≡ true) same h)

  abbrev pub Listed : (s : A.Kind) → (A.Value s → List ℕ) → A.Value s → A.Token → Type 0
  Listed s l x k = among (table.code k) (l x) ≡ true

  pub tells_good : {s : A.Kind} (l : A.Value s → List ℕ) {a : Rule A s} → Tells table s l a → Good rule table s (Listed s l) a
  tells_good l te = good_give
  tells_good l (tn f) = good_need (λ v. tells_good l (f v))
  tells_good l (tw {c = c} {other = other} h f g) =
      let e = both (apart (table.codes _ _ c) (begins table other)) (end_ok (ends table other) (table.codes _ _ c) l) h in
      good_when
      (record { none = λ k us v x q d. apart_right (table.code k) (table.codes _ _ c) (begins table other) e.0 (right.passes_codes _ _ c k v q) (begins_right d k us refl) })
      (record { ext = λ k v x q d. end_right (ends table other) (table.codes _ _ c) l x (table.code k) e.1 (ends_right d refl) (right.passes_codes _ _ c k v q) })
      (λ v. tells_good l (f v)) (tells_good l g)
  tells_good l (tr {a = a} {go = go} e h f) = good_read
      (record {
        none = λ y k us x d i. apart_right (table.code k) (begins table (go y)) (table.ext_codes _ a y)
            (both (apart (begins table (go y)) (table.ext_codes _ a y)) (end_ok (ends table (go y)) (table.ext_codes _ a y) l) (h y)).0 (begins_right d k us refl) (e y k i);
      })
      (record {
        ext = λ y x k d i. end_right (ends table (go y)) (table.ext_codes _ a y) l x (table.code k)
            (both (apart (begins table (go y)) (table.ext_codes _ a y)) (end_ok (ends table (go y)) (table.ext_codes _ a y) l) (h y)).1 (ends_right d refl) (e y k i);
      })
      (λ y. tells_good l (f y))

-- what follows does not go on with what was spelled
pub record Free (A : Alphabet) (s : A.Kind) (E : A.Value s → A.Token → Type 0) (x : A.Value s) (us : List A.Token) : Type 0 where
  pub none : (k : A.Token) (vs : List A.Token) → us ≡ k ∷ vs → E x k → ⊥

starts_on : {A : Alphabet} {b : Bool} {r : A.Kind} {c : A.Test b r} {ts us : List A.Token} {v : A.Value r} (q : Starts A c ts v us) (vs : List A.Token) → Starts A c (ts ++ vs) v (us ++ vs)
starts_on q vs = record { token = q.token; is = ap (λ l. l ++ vs) q.is; passes = q.passes }

module _ {A : Alphabet} (rule : Rules A) (table : Table A) (good : (s : A.Kind) (a : A.Symbol s) → Good rule table s (table.Ext s a) (rule s a)) where
  not_next : {b : Bool} {r s : A.Kind} {c : A.Test b r} {other : Rule A s} (E : A.Value s → A.Token → Type 0) → Apart rule c other → AtEnd rule E c other →
      (ts : List A.Token) {x : A.Value s} → Derives rule s other ts x → (us : List A.Token) → Free A s E x us → IsNot A c (ts ++ us)
  not_next E a e [] {x = x} d us f = record { none = λ v vs q. f.none q.token vs q.is (e.ext q.token v x q.passes d) }
  not_next {c = c} E a e (k ∷ ts) {x = x} d us f =
      record { none = λ v vs q. let same : q.token ≡ k = cc in a.none k ts v x (subst (λ j. A.Passes _ _ c j v) same q.passes) d }

  free_after : {r s : A.Kind} {a : A.Symbol r} {go : A.Value r → Rule A s} (E : A.Value s → A.Token → Type 0) → Follows rule table a go → EndsAs rule table E a go →
      (y : A.Value r) (ts : List A.Token) {x : A.Value s} → Derives rule s (go y) ts x → (us : List A.Token) → Free A s E x us → Free A r (table.Ext r a) y (ts ++ us)
  free_after E fo en y [] {x = x} d us f = record { none = λ k vs is e. f.none k vs is (en.ext y x k d e) }
  free_after {r = r} {a = a} E fo en y (j ∷ ts) {x = x} d us f =
      record { none = λ k vs is e. let same : k ≡ j = cc in fo.none y j ts x d (subst (λ z. table.Ext r a y z) same e) }

  pub reads_all : {s : A.Kind} {a : Rule A s} (E : A.Value s → A.Token → Type 0) → Good rule table s E a →
      {ts : List A.Token} {x : A.Value s} → Derives rule s a ts x → (us : List A.Token) → Free A s E x us → Reads rule s a (ts ++ us) x us
  reads_all E good_give plain.given us f = given
  reads_all E (good_need h) (plain.needed {v = v} q d) us f = needed (starts_on q us) (reads_all E (h v) d us f)
  reads_all E (good_when a e h i) (plain.taken {v = v} q d) us f = taken (starts_on q us) (reads_all E (h v) d us f)
  reads_all E (good_when a e h i) (plain.passed {ts = ts} d) us f = passed (not_next E a e ts d us f) (reads_all E i d us f)
  reads_all {s = s} E (good_read {r = r} {a = a} {go = go} fo en h) (plain.called {ts = ts} {us = ts'} {y = y} {x = x} d d') us f =
      let i = reads_all (table.Ext r a) (good r a) d (ts' ++ us) (free_after E fo en y ts' d' us f) in
      let j = reads_all E (h y) d' us f in
      subst (λ l. Reads rule s (read a go) l x us) (sym (append_assoc ts ts' us)) (called i j)

  pub complete : {s : A.Kind} (a : A.Symbol s) {ts : List A.Token} {x : A.Value s} → Derives rule s (rule s a) ts x → Reads rule s (rule s a) ts x []
  complete {s = s} a {ts = ts} {x = x} h =
      let i = reads_all (table.Ext s a) (good s a) h [] (record { none = λ k vs e x. absurd (cc) }) in
      subst (λ l. Reads rule s (rule s a) l x []) (append-nil ts) i
