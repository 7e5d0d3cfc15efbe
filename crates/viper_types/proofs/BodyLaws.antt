-- Where all predicates of a file are typed, each that has a body has a typed one.
use Rattle.std.proofs.Common.{◌≡◌, ◌∙◌, ℕ, zero, suc, true, Option, Some, None, List, [], ◌∷◌, ◌++◌, map, slice_get, is_some, refl, sym, ap, subst, append_assoc, append-nil}
use Rattle.std.proofs.lemmas.Option.{same_Some}
use Rattle.viper_core.specs.Expr as e
use Rattle.viper_syntax.specs.Decl as d
use Rattle.viper_scope.specs.declared.context.UnitPart.{UnitPart}
use Rattle.viper_scope.specs.declared.context.Role.{Role}
use Rattle.viper_scope.specs.declared.context.Role.TheVariants as role
use Rattle.viper_scope.specs.Context.{World, Signature, find, numbered, predicate_in}
use Rattle.viper_scope.specs.Types.{declared_type}
use Rattle.viper_scope.specs.Naming.{no_world, with_decl}
use Rattle.viper_types.specs.Declaring.{body_context, context_in}
use Rattle.viper_types.specs.Program.{AreNamed, no_names, one_name}
use Rattle.viper_types.proofs.TermSound.{HasBodies}

-- the signatures of the predicates, in order
abbrev pub signatures : List d.Decl → List Signature
signatures [] = []
signatures (d.Field f ∷ rest) = signatures rest
signatures (d.Predicate at x params body ∷ rest) = record { params = map declared_type params; has_body = is_some body } ∷ signatures rest
signatures (d.Method m ∷ rest) = signatures rest

more_signatures : (w : World) (a : d.Decl) (rest : List d.Decl) →
    (with_decl w a).predicates ++ signatures rest ≡ w.predicates ++ signatures (a ∷ rest)
more_signatures w (d.Field f) rest = refl
more_signatures w (d.Predicate at x params body) rest = append_assoc w.predicates _ _
more_signatures w (d.Method m) rest = refl

pub named_signatures : {w v : World} {ds : List d.Decl} → AreNamed w ds v → v.predicates ≡ w.predicates ++ signatures ds
named_signatures {w} no_names = sym (append-nil w.predicates)
named_signatures {w} (one_name {a = a} {rest = rest} i h) = named_signatures h ∙ more_signatures w a rest

-- a typed body for each signature that has one
pub data Bodied : List Signature → List (Option e.Assertion) → Type 0 where
  no_bodies : Bodied [] []
  one_body : {s : Signature} {b : Option e.Assertion} {ss : List Signature} {bs : List (Option e.Assertion)} → s.has_body ≡ is_some b →
      Bodied ss bs → Bodied (s ∷ ss) (b ∷ bs)

pub some_body : (b : Option e.Assertion) → is_some b ≡ true → (body : e.Assertion) × (b ≡ Some body)
some_body (Some body) h = (body, refl)
some_body None h = absurd (cc)

first_body : (s r : Signature) (b : Option e.Assertion) → s.has_body ≡ is_some b → s ≡ r → r.has_body ≡ true →
    (body : e.Assertion) × (Some b ≡ Some (Some body))
first_body s r b h i k = let found = some_body b (sym h ∙ ap (λ q. q.has_body) i ∙ k) in (found.0, ap (λ o. Some o) found.1)

body_there : {ss : List Signature} {bs : List (Option e.Assertion)} → Bodied ss bs → (n : ℕ) (r : Signature) → slice_get ss n ≡ Some r →
    r.has_body ≡ true →
    (body : e.Assertion) × (slice_get bs n ≡ Some (Some body))
body_there no_bodies n r i k = absurd (cc)
body_there (one_body {s = s} {b = b} h g) zero r i k = first_body s r b h (same_Some _ _ i) k
body_there (one_body h g) (suc n) r i k = body_there g n r i k

-- the signature of a predicate stands at its number
pub numbered_is : {X : Type 0} (m n : ℕ) (x : X) (o : Option X) → numbered m o ≡ Some (n, x) → (m ≡ n) × (o ≡ Some x)
numbered_is m n x None h = absurd (cc)
numbered_is m n x (Some y) h = let same = same_Some _ _ h in (ap (λ z. z.0) same, ap (λ z. Some z.1) same)

pub predicate_is : (ss : List Signature) (o : Option Role) (n : ℕ) (s : Signature) → predicate_in ss o ≡ Some (n, s) → slice_get ss n ≡ Some s
predicate_is ss None n s h = absurd (cc)
predicate_is ss (Some (role.Field m)) n s h = absurd (cc)
predicate_is ss (Some (role.Predicate m)) n s h = let is = numbered_is m n s (slice_get ss m) h in subst (λ x. slice_get ss x ≡ Some s) is.0 is.1
predicate_is ss (Some (role.Method m)) n s h = absurd (cc)

pub has_bodies : (w : World) (ds : List d.Decl) (bodies : List (Option e.Assertion)) (u : UnitPart) → AreNamed no_world ds w →
    Bodied (signatures ds) bodies →
    HasBodies (context_in w bodies u)
has_bodies w ds bodies u h g = record {
  there =
      λ allowed x n s i k. body_there g n s (subst (λ ss. slice_get ss n ≡ Some s) (named_signatures h) (predicate_is w.predicates (find w.roles x) n s i)) k;
}

pub body_has_none : (w : World) → HasBodies (body_context w)
body_has_none w = record { there = λ allowed x n s i k. absurd (cc) }
