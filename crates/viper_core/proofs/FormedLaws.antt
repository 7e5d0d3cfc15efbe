-- What a formed program keeps, said of one of its parts.
use Rattle.std.proofs.Common.{◌≡◌, ℕ, List, Option, Some, All, IfSome, IsTrue, not, slice_get, get_or, subst}
use Rattle.std.proofs.lemmas.Bool.{and_parts}
use Rattle.lemmas.proofs.Lists.{at_item}
use Rattle.vb_base.specs.Names.{is_name, is_word}
use Rattle.viper_core.specs.Expr as t
use Rattle.viper_core.specs.Program.{Program, Predicate, Method, Body}
use Rattle.viper_core.specs.Typing.{IsAssertion}
use Rattle.viper_core.specs.Formed.{predicate_context, IsPredicate, IsMethod, IsBody, AreNames, IsTypedProgram}

pub at_some : {X : Type 0} (P : X → Type 0) (o : Option X) → IfSome o P → (x : X) → o ≡ Some x → P x
at_some {X} P o held x is = let Q : Option X → Type 0 = λ p. IfSome p P in subst Q is held

-- a name has the form of one
pub names_have_form : (xs : List (List ℕ)) → AreNames xs → All (λ x. IsTrue (is_name x)) xs
names_have_form xs h k x within = let name = get_or xs k x in (and_parts (is_name name) (not (is_word name)) (h.names k x within)).0

pub predicate_of_typed : (p : Program) → IsTypedProgram p → (k : ℕ) (d : Predicate) → slice_get p.predicates k ≡ Some d → IsPredicate p d
predicate_of_typed p h = at_item (IsPredicate p) p.predicates h.predicates

pub method_of_typed : (p : Program) → IsTypedProgram p → (k : ℕ) (m : Method) → slice_get p.methods k ≡ Some m → IsMethod p m
method_of_typed p h = at_item (IsMethod p) p.methods h.methods

pub predicate_body_of_typed : (p : Program) → IsTypedProgram p → (k : ℕ) (d : Predicate) (a : t.Assertion) → slice_get p.predicates k ≡ Some d → d.body ≡ Some a → IsAssertion (predicate_context p d) a
predicate_body_of_typed p h k d a exists has_body =
    at_some (IsAssertion (predicate_context p d)) d.body (predicate_of_typed p h k d exists).body a has_body

pub method_body_of_typed : (p : Program) → IsTypedProgram p → (k : ℕ) (m : Method) (b : Body) → slice_get p.methods k ≡ Some m → m.body ≡ Some b → IsBody p m b
method_body_of_typed p h k m b exists has_body = at_some (IsBody p m) m.body (method_of_typed p h k m exists).body b has_body
