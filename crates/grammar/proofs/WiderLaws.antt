-- What has to hold of a wider grammar for its readings to be exact is what has to hold of its further symbols.
use Rattle.std.proofs.Common.{◌≡◌, refl, sym, ap, subst, ◌∙◌, ℕ, Bool, true, List, [], ◌++◌, Option, Some}
use Rattle.grammar.specs.Rules.{Alphabet, Rule, give, need, when, read, Rules}
use Rattle.grammar.specs.Spells.{Derives}
use Rattle.grammar.specs.Wider.{Kinds, old, new, ValueOf, TestOf, Symbols, was, more, wider, lifted, all_rules}
use Rattle.grammar.proofs.Laws.{Example, Element, Laws}
use Rattle.grammar.proofs.Sets.{among, within}
use Rattle.grammar.proofs.Complete.{Table, from, then_ends, begins, ends, IsRightTable, Good, good_give, good_need, good_when, good_read}
use Rattle.grammar.proofs.Answered.{Tried, right, wrong, Ranks, Falls, fg, fn, fw, fr, ft, HasAnswers}
use Rattle.grammar.proofs.Wider as wide

-- with which tokens the further symbols begin, what they spell where they are empty, which tokens could go on with what
-- they spelled, and how many symbols are read before a token is
pub record More {A : Alphabet} {K : Type 0} (V : K → Type 0) (S : Kinds A K → Type 0) : Type 0 where
  pub first_codes : (s : Kinds A K) → S s → List ℕ
  pub empty : (s : Kinds A K) → S s → Option (ValueOf A V s)
  pub ext_codes : (s : Kinds A K) → S s → ValueOf A V s → List ℕ
  pub rank : (s : Kinds A K) → S s → ℕ

module _ {A : Alphabet} {K : Type 0} {V : K → Type 0} {S : Kinds A K → Type 0} (rule : Rules A) (others : (r : Kinds A K) → S r → Rule (wider A K V S) r) where
  abbrev W : Alphabet
  W = wider A K V S

  abbrev all : Rules W
  all = all_rules rule others

  -- each symbol spells something, and a token passes in one way

  example_up : {r : A.Kind} (c : A.Test true r) → Example A c → Example W {r = old r} c
  example_up c e = record { token = e.token; value = e.value; passes = e.passes }

  pub element_up : {s : A.Kind} {a : Rule A s} → Element rule a → Element all {s = old s} (lifted a)
  element_up e = record { tokens = e.tokens; tree = e.tree; derives = wide.derives_up rule others e.derives }

  pub laws_up : Laws rule → ((r : Kinds A K) (a : S r) → Element all (others r a)) → Laws all
  laws_up laws elements = record {
    one_value = λ b r c k v w p q. one_value b r c k v w p q;
    example = λ r c. example r c;
    element_of = λ r a. element_of r a;
  } where
    one_value : (b : Bool) (r : Kinds A K) (c : TestOf A b r) (k : A.Token) (v w : ValueOf A V r) → W.Passes b r c k v → W.Passes b r c k w → v ≡ w
    one_value b (old r) c k v w p q = laws.one_value b r c k v w p q
    one_value b (new r) c k v w p q = absurd c

    example : (r : Kinds A K) (c : TestOf A true r) → Example W {r = r} c
    example (old r) c = example_up c (laws.example r c)
    example (new r) c = absurd c

    element_of : (r : Kinds A K) (a : Symbols A S r) → Element all (all r a)
    element_of _ (was {r = r} a) = element_up (laws.element_of r a)
    element_of r (more a) = elements r a

  module _ (table : Table A) (m : More V S) where
    abbrev codes_of : (b : Bool) (r : Kinds A K) → TestOf A b r → List ℕ
    codes_of b (old r) c = table.codes b r c
    codes_of b (new r) c = []

    abbrev first_of : (s : Kinds A K) → Symbols A S s → List ℕ
    first_of _ (was {r = r} a) = table.first_codes r a
    first_of s (more a) = m.first_codes s a

    abbrev empty_of : (s : Kinds A K) → Symbols A S s → Option (ValueOf A V s)
    empty_of _ (was {r = r} a) = table.empty r a
    empty_of s (more a) = m.empty s a

    abbrev Ext_of : (s : Kinds A K) → Symbols A S s → ValueOf A V s → A.Token → Type 0
    Ext_of _ (was {r = r} a) v k = table.Ext r a v k
    Ext_of s (more a) v k = among (table.code k) (m.ext_codes s a v) ≡ true

    abbrev ext_of : (s : Kinds A K) → Symbols A S s → ValueOf A V s → List ℕ
    ext_of _ (was {r = r} a) v = table.ext_codes r a v
    ext_of s (more a) v = m.ext_codes s a v

    abbrev pub wider_table : Table W
    wider_table = record { code = table.code; codes = codes_of; first_codes = first_of; empty = empty_of; Ext = Ext_of; ext_codes = ext_of }

    -- a lifted rule begins and ends as the rule

    pub begins_lifted : {s : A.Kind} (a : Rule A s) → begins wider_table {s = old s} (lifted a) ≡ begins table a
    begins_lifted (give x) = refl
    begins_lifted (need c go) = refl
    begins_lifted (when c go other) = ap (λ l. table.codes _ _ c ++ l) (begins_lifted other)
    begins_lifted (read a go) = λ i. table.first_codes _ a ++ from (table.empty _ a) (λ y. begins_lifted (go y) i)

    pub ends_lifted : {s : A.Kind} (a : Rule A s) → ends wider_table {s = old s} (lifted a) ≡ ends table a
    ends_lifted (give x) = refl
    ends_lifted (need c go) = refl
    ends_lifted (when c go other) = ends_lifted other
    ends_lifted (read a go) = λ i. then_ends (table.empty _ a) (λ y. ends_lifted (go y) i)

    pub right_up : IsRightTable rule table → ((s : Kinds A K) (a : S s) → within (begins wider_table (others s a)) (m.first_codes s a) ≡ true) →
        ((s : Kinds A K) (a : S s) → ends wider_table (others s a) ≡ m.empty s a) → IsRightTable all wider_table
    right_up sound first empty = record {
      passes_codes = λ b r c k v p. passes_codes b r c k v p;
      first_ok = λ s a. first_ok s a;
      empty_ok = λ s a. empty_ok s a;
    } where
      passes_codes : (b : Bool) (r : Kinds A K) (c : TestOf A b r) (k : A.Token) (v : ValueOf A V r) → W.Passes b r c k v → among (table.code k) (codes_of b r c) ≡ true
      passes_codes b (old r) c k v p = sound.passes_codes b r c k v p
      passes_codes b (new r) c k v p = absurd c

      first_ok : (s : Kinds A K) (a : Symbols A S s) → within (begins wider_table (all s a)) (first_of s a) ≡ true
      first_ok _ (was {r = r} a) = subst (λ l. within l (table.first_codes r a) ≡ true) (sym (begins_lifted (rule r a))) (sound.first_ok r a)
      first_ok s (more a) = first s a

      empty_ok : (s : Kinds A K) (a : Symbols A S s) → ends wider_table (all s a) ≡ empty_of s a
      empty_ok _ (was {r = r} a) = ends_lifted (rule r a) ∙ sound.empty_ok r a
      empty_ok s (more a) = empty s a

    -- where the next token tells how to read on, it tells so here

    pub good_up : {s : A.Kind} (E : A.Value s → A.Token → Type 0) {a : Rule A s} → Good rule table s E a → Good all wider_table (old s) E (lifted a)
    good_up E good_give = good_give
    good_up E (good_need h) = good_need (λ v. good_up E (h v))
    good_up E (good_when {other = other} a e h i) = good_when
        (record { none = λ k us v x p d. a.none k us v x p (wide.derives_down rule others other d) })
        (record { ext = λ k v x p d. e.ext k v x p (wide.derives_down rule others other d) })
        (λ v. good_up E (h v)) (good_up E i)
    good_up E (good_read {go = go} f e h) = good_read
        (record { none = λ y k us x d. f.none y k us x (wide.derives_down rule others (go y) d) })
        (record { ext = λ y x k d. e.ext y x k (wide.derives_down rule others (go y) d) })
        (λ y. good_up E (h y))

    pub all_good : ((s : A.Kind) (a : A.Symbol s) → Good rule table s (table.Ext s a) (rule s a)) →
        ((s : Kinds A K) (a : S s) → Good all wider_table s (Ext_of s (more a)) (others s a)) →
        (s : Kinds A K) (a : Symbols A S s) → Good all wider_table s (Ext_of s a) (all s a)
    all_good good goods _ (was {r = r} a) = good_up (table.Ext r a) (good r a)
    all_good good goods s (more a) = goods s a

  -- where each list of tokens has an answer, it has one here

  module _ (ranks : Ranks A) (m : More V S) where
    abbrev empty_here : (s : Kinds A K) → Symbols A S s → Option (ValueOf A V s)
    empty_here _ (was {r = r} a) = ranks.empty r a
    empty_here s (more a) = m.empty s a

    abbrev rank_of : (s : Kinds A K) → Symbols A S s → ℕ
    rank_of _ (was {r = r} a) = ranks.rank r a
    rank_of s (more a) = m.rank s a

    abbrev pub wider_ranks : Ranks W
    wider_ranks = record { empty = empty_here; rank = rank_of }

    pub falls_up : {n : ℕ} {s : A.Kind} {a : Rule A s} → Falls ranks n s a → Falls wider_ranks n (old s) (lifted a)
    falls_up fg = fg
    falls_up fn = fn
    falls_up (fw f) = fw (falls_up f)
    falls_up (fr l f) = fr l (λ y. falls_up (f y))
    falls_up (ft l e) = ft l e

    tried_up : {b : Bool} {r : A.Kind} (c : A.Test b r) (k : A.Token) → Tried A c k → Tried W {r = old r} c k
    tried_up c k (right v p) = right v p
    tried_up c k (wrong n) = wrong n

    pub answers_up : HasAnswers rule ranks → ((s : Kinds A K) (a : Symbols A S s) (x : ValueOf A V s) → Derives all s (all s a) [] x → empty_here s a ≡ Some x) →
        ((s : Kinds A K) (a : S s) → Falls wider_ranks (m.rank s a) s (others s a)) → HasAnswers all wider_ranks
    answers_up has empty falls = record {
      try_token = λ b r c k. try_token b r c k;
      empty_right = empty;
      falls = λ s a. falls_of s a;
    } where
      try_token : (b : Bool) (r : Kinds A K) (c : TestOf A b r) (k : A.Token) → Tried W {r = r} c k
      try_token b (old r) c k = tried_up c k (has.try_token b r c k)
      try_token b (new r) c k = absurd c

      falls_of : (s : Kinds A K) (a : Symbols A S s) → Falls wider_ranks (rank_of s a) s (all s a)
      falls_of _ (was {r = r} a) = falls_up (has.falls r a)
      falls_of s (more a) = falls s a
