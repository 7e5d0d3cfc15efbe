-- A reader of grammars that takes the first alternative whose token passes: where it answers, the tokens are derived.
use Rattle.std.proofs.Common.{◌≡◌, ◌∙◌, refl, sym, ap, subst, ℕ, zero, suc, Bool, true, List, [], ◌∷◌, ◌++◌, Option, Some, None, append_assoc, append-nil}
use Rattle.std.proofs.lemmas.Option.{same_Some}
use Rattle.lemmas.proofs.Options.{none_some as nothing}
use Rattle.grammar.specs.Rules.{Alphabet, Rule, give, need, when, read, Rules, Starts}
use Rattle.grammar.specs.Spells.{Derives, given, needed, taken, passed, called}

-- what is taken of a token by a test, or nothing
abbrev pub Try : Alphabet → Type 0
Try A = (b : Bool) (r : A.Kind) → A.Test b r → A.Token → Option (A.Value r)

-- what is taken passes
pub record Sound (A : Alphabet) (try : Try A) : Type 0 where
  pub passes : (b : Bool) (r : A.Kind) (c : A.Test b r) (k : A.Token) (v : A.Value r) → try b r c k ≡ Some v → A.Passes b r c k v

-- what was read, and the rest of the tokens
abbrev pub Answer : (A : Alphabet) → A.Kind → Type 0
Answer A s = Option (A.Value s × List A.Token)

-- what the front of a list spells, and the rest of the list; nothing where no more steps are left
abbrev pub run : {A : Alphabet} (rule : Rules A) (try : Try A) → ℕ → (s : A.Kind) → Rule A s → List A.Token → Answer A s
run rule try zero s a ts = None
run rule try (suc n) s (give x) ts = Some (x, ts)
run rule try (suc n) s (need c go) [] = None
run rule try (suc n) s (need {r = r} c go) (k ∷ ts) = elim (try true r c k) [ None ↦ None | Some v ↦ run rule try n s (go v) ts ]
run rule try (suc n) s (when c go other) [] = run rule try n s other []
run rule try (suc n) s (when {b = b} {r = r} c go other) (k ∷ ts) = elim (try b r c k) [ None ↦ run rule try n s other (k ∷ ts) | Some v ↦ run rule try n s (go v) ts ]
run rule try (suc n) s (read {r = r} a go) ts = elim (run rule try n r (rule r a) ts) [ None ↦ None | Some p ↦ run rule try n s (go p.0) p.1 ]

-- the front of a list is derived, and these follow it
pub record IsRead {A : Alphabet} (rule : Rules A) {s : A.Kind} (a : Rule A s) (ts : List A.Token) (x : A.Value s) (us : List A.Token) : Type 0 where
  pub front : List A.Token
  pub is : ts ≡ front ++ us
  pub derives : Derives rule s a front x

-- what a reader with so many steps promises
abbrev Promise : {A : Alphabet} (rule : Rules A) (try : Try A) → ℕ → Type 0
Promise {A} rule try n = (s : A.Kind) (a : Rule A s) (ts : List A.Token) (x : A.Value s) (us : List A.Token) → run rule try n s a ts ≡ Some (x, us) → IsRead rule a ts x us

module _ {A : Alphabet} (rule : Rules A) (try : Try A) (so : Sound A try) (n : ℕ) (rest : Promise rule try n) where
  starts : {b : Bool} {r : A.Kind} (c : A.Test b r) (k : A.Token) (ts : List A.Token) (v : A.Value r) → try b r c k ≡ Some v → Starts A c (k ∷ ts) v ts
  starts c k ts v h = record { token = k; is = refl; passes = so.passes _ _ c k v h }

  needed_token : {r s : A.Kind} (c : A.Test true r) (go : A.Value r → Rule A s) (k : A.Token) (ts : List A.Token) (x : A.Value s) (us : List A.Token) (o : Option (A.Value r)) →
      try true r c k ≡ o → ◌≡◌ {A = Answer A s} (elim o [ None ↦ None | Some v ↦ run rule try n s (go v) ts ]) (Some (x, us)) → IsRead rule (need c go) (k ∷ ts) x us
  needed_token c go k ts x us None h e = absurd (nothing e)
  needed_token c go k ts x us (Some v) h e =
      let r = rest _ (go v) ts x us e in
      record { front = k ∷ r.front; is = ap (λ l. k ∷ l) r.is; derives = needed (starts c k r.front v h) r.derives }

  tried_token : {b : Bool} {r s : A.Kind} (c : A.Test b r) (go : A.Value r → Rule A s) (other : Rule A s) (k : A.Token) (ts : List A.Token) (x : A.Value s) (us : List A.Token) (o : Option (A.Value r)) →
      try b r c k ≡ o → ◌≡◌ {A = Answer A s} (elim o [ None ↦ run rule try n s other (k ∷ ts) | Some v ↦ run rule try n s (go v) ts ]) (Some (x, us)) → IsRead rule (when c go other) (k ∷ ts) x us
  tried_token c go other k ts x us None h e =
      let r = rest _ other (k ∷ ts) x us e in
      record { front = r.front; is = r.is; derives = passed r.derives }
  tried_token c go other k ts x us (Some v) h e =
      let r = rest _ (go v) ts x us e in
      record { front = k ∷ r.front; is = ap (λ l. k ∷ l) r.is; derives = taken (starts c k r.front v h) r.derives }

  read_symbol : {r s : A.Kind} (a : A.Symbol r) (go : A.Value r → Rule A s) (ts : List A.Token) (x : A.Value s) (us : List A.Token) (o : Answer A r) →
      run rule try n r (rule r a) ts ≡ o → ◌≡◌ {A = Answer A s} (elim o [ None ↦ None | Some p ↦ run rule try n s (go p.0) p.1 ]) (Some (x, us)) → IsRead rule (read a go) ts x us
  read_symbol a go ts x us None h e = absurd (nothing e)
  read_symbol a go ts x us (Some (y, vs)) h e =
      let p = rest _ (rule _ a) ts y vs h in
      let r = rest _ (go y) vs x us e in
      record {
        front = p.front ++ r.front;
        is = p.is ∙ ap (λ l. p.front ++ l) r.is ∙ sym (append_assoc p.front r.front us);
        derives = called p.derives r.derives;
      }

  one_step : {s : A.Kind} (a : Rule A s) (ts : List A.Token) (x : A.Value s) (us : List A.Token) → run rule try (suc n) s a ts ≡ Some (x, us) → IsRead rule a ts x us
  one_step (give y) ts x us e =
      let same = same_Some (y, ts) (x, us) e in
      record { front = []; is = ap (λ p. p.1) same; derives = subst (λ z. Derives rule _ (give y) [] z) (ap (λ p. p.0) same) given }
  one_step (need c go) [] x us e = absurd (nothing e)
  one_step (need c go) (k ∷ ts) x us e = needed_token c go k ts x us (try _ _ c k) refl e
  one_step (when c go other) [] x us e =
      let r = rest _ other [] x us e in
      record { front = r.front; is = r.is; derives = passed r.derives }
  one_step (when c go other) (k ∷ ts) x us e = tried_token c go other k ts x us (try _ _ c k) refl e
  one_step (read a go) ts x us e = read_symbol a go ts x us (run rule try n _ (rule _ a) ts) refl e

run_reads : {A : Alphabet} (rule : Rules A) (try : Try A) → Sound A try → (n : ℕ) → Promise rule try n
run_reads rule try so zero s a ts x us e = absurd (nothing e)
run_reads rule try so (suc n) s a ts x us e = one_step rule try so n (run_reads rule try so n) a ts x us e

-- what is read up to the end is derived
pub run_derives : {A : Alphabet} (rule : Rules A) (try : Try A) → Sound A try → (n : ℕ) (s : A.Kind) (a : Rule A s) (ts : List A.Token) (x : A.Value s) →
    run rule try n s a ts ≡ Some (x, []) → Derives rule s a ts x
run_derives rule try so n s a ts x e =
    let r = run_reads rule try so n s a ts x [] e in
    subst (λ l. Derives rule s a l x) (sym (r.is ∙ append-nil r.front)) r.derives
