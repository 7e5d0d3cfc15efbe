-- Where the next token tells how to read a symbol, it tells how to read its second form.
use Rattle.std.proofs.Common.{◌≡◌, refl, sym, ap, subst, ◌∙◌, ℕ, true, List, [], ◌++◌, Option, Some, None}
use Rattle.std.specs.Option.{option_map}
use Rattle.std.proofs.lemmas.List.{append-nil}
use Rattle.grammar.specs.Rules.{Alphabet, Rule, give, need, when, read, Rules}
use Rattle.grammar.specs.Wider.{Kinds, new, ValueOf}
use Rattle.grammar.proofs.Sets.{among, within}
use Rattle.grammar.proofs.Complete.{Table, from, then_ends, begins, ends, IsRightTable, Good, good_give, good_need, good_when, good_read}
use Rattle.grammar.proofs.WiderLaws.{More, wider_table, right_up}
use Rattle.boogie_loops_grammar.specs.Noting.{Notes, Noted, Second, noting, noted, noting_rule, second_rules, noted_rules}
use Rattle.boogie_loops_grammar.proofs.Noting as second

module _ {A : Alphabet} {N : Type 0} (note : Notes A N) (rule : Rules A) (table : Table A) (rank : (s : A.Kind) → A.Symbol s → ℕ) where
  abbrev W : Alphabet
  W = noted A N

  abbrev all : Rules W
  all = noted_rules note rule

  abbrev first_of : (s : Kinds A A.Kind) → Second A s → List ℕ
  first_of _ (noting {s = s} a) = table.first_codes s a

  abbrev empty_of : (s : Kinds A A.Kind) → Second A s → Option (ValueOf A (Noted A N) s)
  empty_of _ (noting {s = s} a) = option_map (λ x. (x, [])) (table.empty s a)

  abbrev ext_of : (s : Kinds A A.Kind) → Second A s → ValueOf A (Noted A N) s → List ℕ
  ext_of _ (noting {s = s} a) y = table.ext_codes s a y.0

  abbrev rank_of : (s : Kinds A A.Kind) → Second A s → ℕ
  rank_of _ (noting {s = s} a) = rank s a

  abbrev pub seconds : More {A = A} (Noted A N) (Second A)
  seconds = record { first_codes = first_of; empty = empty_of; ext_codes = ext_of; rank = rank_of }

  abbrev pub noted_table : Table W
  noted_table = wider_table rule (second_rules note rule) table seconds

  from_noted : {s : A.Kind} (o : Option (A.Value s)) (f : Noted A N s → List ℕ) (g : A.Value s → List ℕ) → ((x : A.Value s) → f (x, []) ≡ g x) → from (option_map (λ x. (x, [])) o) f ≡ from o g
  from_noted None f g h = refl
  from_noted (Some x) f g h = h x

  pub begins_noted : {s : A.Kind} (ns : List N) (a : Rule A s) → begins noted_table {s = new s} (noting_rule note ns a) ≡ begins table a
  begins_noted ns (give x) = refl
  begins_noted ns (need c go) = refl
  begins_noted ns (when c go other) = ap (λ l. table.codes _ _ c ++ l) (begins_noted ns other)
  begins_noted ns (read {r = r} a go) = ap (λ l. table.first_codes r a ++ l)
      (from_noted (table.empty r a) (λ y. begins noted_table (noting_rule note (ns ++ y.1) (go y.0))) (λ x. begins table (go x)) (λ x. begins_noted (ns ++ []) (go x)))

  ends_from : {r s : A.Kind} (ns : List N) (o : Option (A.Value r)) (f : Noted A N r → Option (Noted A N s)) (g : A.Value r → Option (A.Value s)) →
      ((x : A.Value r) → f (x, []) ≡ option_map (λ z. (z, ns)) (g x)) → then_ends (option_map (λ x. (x, [])) o) f ≡ option_map (λ z. (z, ns)) (then_ends o g)
  ends_from ns None f g h = refl
  ends_from ns (Some x) f g h = h x

  pub ends_noted : {s : A.Kind} (ns : List N) (a : Rule A s) → ends noted_table {s = new s} (noting_rule note ns a) ≡ option_map (λ x. (x, ns)) (ends table a)
  ends_noted ns (give x) = refl
  ends_noted ns (need c go) = refl
  ends_noted ns (when c go other) = ends_noted ns other
  ends_noted {s = s} ns (read {r = r} a go) =
      ends_from {r = r} {s = s} ns (table.empty r a) (λ y. ends noted_table (noting_rule note (ns ++ y.1) (go y.0))) (λ x. ends table (go x))
      (λ x. ends_noted (ns ++ []) (go x) ∙ ap (λ l. option_map (λ z. (z, l)) (ends table (go x))) (append-nil ns))

  pub right_noted : IsRightTable rule table → IsRightTable all noted_table
  right_noted sound = right_up rule (second_rules note rule) table seconds sound first empty where
    first : (s : Kinds A A.Kind) (a : Second A s) → within (begins noted_table (second_rules note rule s a)) (first_of s a) ≡ true
    first _ (noting {s = s} a) = subst (λ l. within l (table.first_codes s a) ≡ true) (sym (begins_noted [] (rule s a))) (sound.first_ok s a)

    empty : (s : Kinds A A.Kind) (a : Second A s) → ends noted_table (second_rules note rule s a) ≡ empty_of s a
    empty _ (noting {s = s} a) = ends_noted [] (rule s a) ∙ ap (option_map (λ x. (x, []))) (sound.empty_ok s a)

  pub good_noted : ((s : A.Kind) (a : A.Symbol s) (x : A.Value s) (k : A.Token) → among (table.code k) (table.ext_codes s a x) ≡ true → table.Ext s a x k) →
      {s : A.Kind} (E : A.Value s → A.Token → Type 0) {a : Rule A s} → Good rule table s E a → (ns : List N) → Good all noted_table (new s) (λ y. E y.0) (noting_rule note ns a)
  good_noted listed E good_give ns = good_give
  good_noted listed E (good_need {r = r} {c = c} h) ns = good_need (λ v. good_noted listed E (h v) (ns ++ note true r c v))
  good_noted listed E (good_when {b = b} {r = r} {c = c} {other = other} a e h i) ns = good_when
      (record { none = λ k us v y p d. a.none k us v y.0 p (second.derives_plain note rule other ns d) })
      (record { ext = λ k v y p d. e.ext k v y.0 p (second.derives_plain note rule other ns d) })
      (λ v. good_noted listed E (h v) (ns ++ note b r c v)) (good_noted listed E i ns)
  good_noted listed E (good_read {r = r} {a = a} {go = go} f e h) ns = good_read
      (record { none = λ y k us x d i. f.none y.0 k us x.0 (second.derives_plain note rule (go y.0) (ns ++ y.1) d) (listed r a y.0 k i) })
      (record { ext = λ y x k d i. e.ext y.0 x.0 k (second.derives_plain note rule (go y.0) (ns ++ y.1) d) (listed r a y.0 k i) })
      (λ y. good_noted listed E (h y.0) (ns ++ y.1))
