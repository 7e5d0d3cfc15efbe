-- A lean walk ends as the full one does. It copies no bodies and makes no lists; no test looks at them, so it finds something
-- where the full walk does, and else tells the same broken rule.
use Rattle.std.proofs.Common.{◌≡◌, refl, ap, subst, ℕ, ◌+◌, Bool, true, false, Option, Some, None, List, [], ◌∷◌, if◌then◌else◌, nat_le}
use Rattle.vb_base.specs.Limits.{max_block_depth}
use Rattle.vb_base.specs.declared.places.Pos.{Pos}
use Rattle.vb_value.specs.Value.{same_type}
use Rattle.vb_value.specs.declared.values.Ty.{Ty}
use Rattle.vb_value.specs.declared.values.Ty.TheVariants as ty
use Rattle.viper_core.specs.Expr as e
use Rattle.viper_core.specs.Stmt as c
use Rattle.viper_core.specs.Program as p
use Rattle.viper_core.specs.Typing.{value_type, is_number}
use Rattle.viper_syntax.specs.Term as t
use Rattle.viper_syntax.specs.Stmt as s
use Rattle.viper_syntax.specs.Decl as d
use Rattle.viper_syntax.specs.declared.stmts.Named.{Named}
use Rattle.viper_syntax.specs.declared.tokens.Sign.{Sign}
use Rattle.viper_syntax.specs.declared.tokens.Sign.TheVariants as sign
use Rattle.viper_syntax.specs.declared.tokens.Word.{Word}
use Rattle.viper_syntax.specs.declared.tokens.Word.TheVariants as word
use Rattle.viper_scope.specs.declared.rules.Rule.{Rule}
use Rattle.viper_scope.specs.declared.rules.Rule.TheVariants as rule
use Rattle.viper_scope.specs.declared.context.UnitPart.TheVariants as part
use Rattle.viper_scope.specs.Outcome.{Judged, Found, Broken, then_typed, known, obeys, clear_of}
use Rattle.viper_scope.specs.Context.{World, Context, find, field_at, predicate_at, method_at, allows_old, nowhere}
use Rattle.viper_types.specs.Operators.{operator}
use Rattle.viper_types.specs.Typing as j
use Rattle.viper_scope.specs.Scope.{VariableScope}
use Rattle.viper_scope.specs.Arguments.{Typing, start, as_many, misfit, fitted}
use Rattle.viper_types.specs.Typing.{Located, unary, applied, chosen, located, of_type, with_body, opening, opened_typing, typing, typing_all, permission, expected, arguments, is_wildcard, wildcard, amount, instance, access, fact, by_connective, asserting}
use Rattle.viper_types.specs.Frame.{MethodVariables, declared_in_arms, declared_in_arm, frame_after, with_hidden}
use Rattle.viper_types.specs.Stepping as g
use Rattle.viper_types.specs.Stepping.{AssignedVariable, Branch, fresh, target, ref_target, call_targets, mistarget, calling, calling_into_field, creating, dotted, target_place, declaring, setting, first_place, checking, folding, asserting_all, nested, arm_count, stepping, blocking, stepping_all, branches, branch, otherwise}
use Rattle.viper_types.specs.Declaring as w
use Rattle.viper_types.specs.Declaring.{Declared, formals, no_frame, context_in, clause_of, clauses, method_body, method_typing, decl_typing, decls_typing}

-- two walks that both find something, or tell the same broken rule
pub data Ends {X Y : Type 0} (R : X → Y → Type 0) : Judged X → Judged Y → Type 0 where
  both : {x : X} {y : Y} → R x y → Ends R (Found x) (Found y)
  same : {p : Pos} {r : Rule} → Ends R (Broken p r) (Broken p r)

-- whatever both find
pub data Any {X Y : Type 0} (x : X) (y : Y) : Type 0 where
  any : Any x y

-- expressions of one type
data SameType : Typing → Typing → Type 0 where
  typed : {x y : e.Expr} {u : Ty} → SameType (x, u) (y, u)

data SameTypes : List Typing → List Typing → Type 0 where
  no_types : SameTypes [] []
  more_types : {x y : e.Expr} {u : Ty} {xs ys : List Typing} → SameTypes xs ys → SameTypes ((x, u) ∷ xs) ((y, u) ∷ ys)

-- one field, of any receivers
data SameField : Located → Located → Type 0 where
  field : {x y : e.Expr} {n : ℕ} {u : Ty} → SameField (record { receiver = x; field = n; ty = u }) (record { receiver = y; field = n; ty = u })

-- as many branches
data SameCount : List Branch → List Branch → Type 0 where
  no_branch : SameCount [] []
  more_branches : {a b : Branch} {cs bs : List Branch} → SameCount cs bs → SameCount (a ∷ cs) (b ∷ bs)

-- ---- each way to go on

end_then : {X Y V W : Type 0} {R : X → Y → Type 0} {S : V → W → Type 0} {i : Judged X} {j : Judged Y} {go : X → Judged V} {on : Y → Judged W} →
    Ends R i j → ((x : X) (y : Y) → R x y → Ends S (go x) (on y)) → Ends S (then_typed i go) (then_typed j on)
end_then (both {x = x} {y = y} h) f = f x y h
end_then same f = same

-- a part that is the same in both
end_after : {X V W : Type 0} {S : V → W → Type 0} (i : Judged X) {go : X → Judged V} {on : X → Judged W} → ((x : X) → Ends S (go x) (on x)) →
    Ends S (then_typed i go) (then_typed i on)
end_after (Found x) f = f x
end_after (Broken p r) f = same

end_known : {X V W : Type 0} {S : V → W → Type 0} (o : Option X) (p : Pos) (r : Rule) {go : X → Judged V} {on : X → Judged W} → ((x : X) → Ends S (go x) (on x)) →
    Ends S (known o p r go) (known o p r on)
end_known (Some x) p r f = f x
end_known None p r f = same

end_obeys : {V W : Type 0} {S : V → W → Type 0} (b : Bool) (p : Pos) (r : Rule) {i : Judged V} {j : Judged W} → Ends S i j → Ends S (obeys b p r i) (obeys b p r j)
end_obeys true p r h = h
end_obeys false p r h = same

end_clear : {V W : Type 0} {S : V → W → Type 0} (o : Option Pos) (r : Rule) {i : Judged V} {j : Judged W} → Ends S i j → Ends S (clear_of o r i) (clear_of o r j)
end_clear None r h = h
end_clear (Some p) r h = same

end_if : {V W : Type 0} {S : V → W → Type 0} (b : Bool) {i k : Judged V} {j l : Judged W} → Ends S i j → Ends S k l → Ends S (if b then i else k) (if b then j else l)
end_if true h f = h
end_if false h f = f

itself : {X : Type 0} (i : Judged X) → Ends (λ (x y : X). Any x y) i i
itself (Found x) = both any
itself (Broken p r) = same

typing_itself : (i : Judged Typing) → Ends SameType i i
typing_itself (Found x) = both typed
typing_itself (Broken p r) = same

-- ---- the node of a term

unary_ends : (o : Sign) (at : Pos) (x y : Typing) → SameType x y → Ends SameType (unary o x at) (unary o y at)
unary_ends sign.Minus at _ _ (typed {u = u}) = end_obeys (is_number u) at rule.WrongType (both typed)
unary_ends sign.Not at _ _ (typed {u = u}) = end_obeys (same_type u ty.Bool) at rule.WrongType (both typed)
unary_ends _ at x y h = same

applied_ends : (o : Sign) (at : Pos) (x y v w : Typing) → SameType x y → SameType v w → Ends SameType (applied o x v at) (applied o y w at)
applied_ends o at _ _ _ _ (typed {u = u}) (typed {u = v}) = end_known (operator o) at rule.WrongType (λ op. end_known (value_type op u v) at rule.WrongType (λ w. both typed))

chosen_ends : (at : Pos) (x y v w a b : Typing) → SameType x y → SameType v w → SameType a b → Ends SameType (chosen x v a at) (chosen y w b at)
chosen_ends at _ _ _ _ _ _ (typed {u = u}) (typed {u = v}) (typed {u = z}) = end_obeys (same_type u ty.Bool) at rule.WrongType (end_obeys (same_type v z) at rule.WrongType (both typed))

located_ends : (q : World) (f : List ℕ) (at : Pos) (x y : Typing) → SameType x y → Ends SameField (located q f at x) (located q f at y)
located_ends q f at _ _ (typed {u = u}) = end_known (field_at q f) at rule.UnknownName (λ n. end_obeys (same_type u ty.Ref) at rule.WrongType (both field))

read_ends : (at : Pos) (l m : Located) → SameField l m → SameType (e.Field l.receiver l.field at, l.ty) (e.Field m.receiver m.field at, m.ty)
read_ends at _ _ field = typed

old_ends : (x y : Typing) → SameType x y → SameType (e.Old x.0, x.1) (e.Old y.0, y.1)
old_ends _ _ typed = typed

of_type_ends : (u : Ty) (a : t.Term) (x y : Typing) → SameType x y → Ends (λ (v w : e.Expr). Any v w) (of_type u a x) (of_type u a y)
of_type_ends u a _ _ (typed {u = v}) = end_obeys (same_type v u) (start a) rule.WrongType (both any)

-- ---- arguments

many_same : {X : Type 0} {xs ys : List Typing} → SameTypes xs ys → (us : List X) → as_many xs us ≡ as_many ys us
many_same no_types us = refl
many_same (more_types h) [] = refl
many_same (more_types h) (u ∷ us) = many_same h us

misfit_same : {xs ys : List Typing} → SameTypes xs ys → (args : t.Terms) (us : List Ty) → misfit args xs us ≡ misfit args ys us
misfit_same h t.none us = refl
misfit_same no_types (t.more a rest) [] = refl
misfit_same no_types (t.more a rest) (v ∷ us) = refl
misfit_same (more_types h) (t.more a rest) [] = refl
misfit_same (more_types {u = u} h) (t.more a rest) (v ∷ us) = ap (λ o. if same_type u v then o else Some (start a)) (misfit_same h rest us)

tested_ends : {V W : Type 0} {S : V → W → Type 0} (b d : Bool) (p : Pos) (r : Rule) {i : Judged V} {j : Judged W} → b ≡ d → Ends S i j → Ends S (obeys b p r i) (obeys d p r j)
tested_ends true true p r is h = h
tested_ends true false p r is h = absurd (cc)
tested_ends false true p r is h = absurd (cc)
tested_ends false false p r is h = same

cleared_ends : {V W : Type 0} {S : V → W → Type 0} (o q : Option Pos) (r : Rule) {i : Judged V} {j : Judged W} → o ≡ q → Ends S i j → Ends S (clear_of o r i) (clear_of q r j)
cleared_ends {S = S} o q r {i} {j} is h = subst (λ z. Ends S (clear_of o r i) (clear_of z r j)) is (end_clear o r h)

fitted_ends : (args : t.Terms) (us : List Ty) (at : Pos) (xs ys : List Typing) → SameTypes xs ys → Ends (λ (v w : e.Exprs). Any v w) (fitted args us at xs) (fitted args us at ys)
fitted_ends args us at xs ys h =
    tested_ends (as_many xs us) (as_many ys us) at rule.ArgumentCount (many_same h us) (cleared_ends (misfit args xs us) (misfit args ys us) rule.WrongType (misfit_same h args us) (both any))

listed_more : (x y : Typing) (xs ys : List Typing) → SameType x y → SameTypes xs ys → SameTypes (x ∷ xs) (y ∷ ys)
listed_more _ _ xs ys typed h = more_types h

-- ---- terms

-- without bodies
abbrev pub lean : Context → Context
lean k = record { world = k.world; bodies = []; part = k.part }

opened_ends : (k : Context) (n : ℕ) (es fs : e.Exprs) (v w : e.Expr) (at : Pos) (x y : Typing) → SameType x y →
    SameType (opened_typing k n es v x at) (opened_typing (lean k) n fs w y at)
opened_ends k n es fs v w at _ _ typed = typed

mutual
  typing_ends : (k : Context) (sc : VariableScope) (a : t.Term) → Ends SameType (typing k sc a) (typing (lean k) sc a)
  typing_ends k sc (t.Name x at) = end_known (find sc x) at rule.UnknownName (λ v. both typed)
  typing_ends k sc (t.Number n at) = both typed
  typing_ends k sc (t.Constant x at) = typing_itself (j.constant x at)
  typing_ends k sc (t.Unary o a at) = end_then (typing_ends k sc a) (λ x y h. unary_ends o at x y h)
  typing_ends k sc (t.Binary o a b at) = end_then (typing_ends k sc a) (λ x y h. end_then (typing_ends k sc b) (λ v z i. applied_ends o at x y v z h i))
  typing_ends k sc (t.Choose a b d at) =
      end_then (typing_ends k sc a) (λ x y h. end_then (typing_ends k sc b) (λ v z i. end_then (typing_ends k sc d) (λ m n f. chosen_ends at x y v z m n h i f)))
  typing_ends k sc (t.Field a f at) =
      end_then (typing_ends k sc a) (λ x y h. end_then (located_ends k.world f at x y h) (λ l m i. both (read_ends at l m i)))
  typing_ends k sc (t.Old a at) = end_obeys (allows_old k.part) at rule.MisplacedOld (end_then (typing_ends k sc a) (λ x y h. both (old_ends x y h)))
  typing_ends k sc (t.Acc a m at) = same
  typing_ends k sc (t.Inst x args at) = same
  typing_ends k sc (t.Unfolding x args m a at name_at) =
      end_after (opening k x at name_at) (λ q.
      end_then (end_then (typing_all_ends k sc args) (λ xs ys h. fitted_ends args q.1.params name_at xs ys h)) (λ es fs i.
      end_then (permission_ends k sc m) (λ v z l. end_then (typing_ends k sc a) (λ y n h. both (opened_ends k q.0 es fs v z name_at y n h)))))

  typing_all_ends : (k : Context) (sc : VariableScope) (args : t.Terms) → Ends SameTypes (typing_all k sc args) (typing_all (lean k) sc args)
  typing_all_ends k sc t.none = both no_types
  typing_all_ends k sc (t.more a rest) =
      end_then (typing_ends k sc a) (λ x y h. end_then (typing_all_ends k sc rest) (λ xs ys i. both (listed_more x y xs ys h i)))

  permission_ends : (k : Context) (sc : VariableScope) (m : t.Amount) → Ends (λ (v w : e.Expr). Any v w) (permission k sc m) (permission (lean k) sc m)
  permission_ends k sc t.omitted = both any
  permission_ends k sc (t.given a) = end_then (typing_ends k sc a) (λ x y h. of_type_ends ty.Perm a x y h)

expected_ends : (k : Context) (sc : VariableScope) (u : Ty) (a : t.Term) → Ends (λ (v w : e.Expr). Any v w) (expected k sc u a) (expected (lean k) sc u a)
expected_ends k sc u a = end_then (typing_ends k sc a) (λ x y h. of_type_ends u a x y h)

arguments_ends : (k : Context) (sc : VariableScope) (args : t.Terms) (us : List Ty) (at : Pos) →
    Ends (λ (v w : e.Exprs). Any v w) (arguments k sc args us at) (arguments (lean k) sc args us at)
arguments_ends k sc args us at = end_then (typing_all_ends k sc args) (λ xs ys h. fitted_ends args us at xs ys h)

-- ---- assertions

amount_ends : (k : Context) (sc : VariableScope) (m : t.Amount) → Ends (λ (v w : e.Amt). Any v w) (amount k sc m) (amount (lean k) sc m)
amount_ends k sc t.omitted = both any
amount_ends k sc (t.given a) = end_if (is_wildcard a) (itself (wildcard k (start a))) (end_then (expected_ends k sc ty.Perm a) (λ x y h. both any))

instance_ends : (k : Context) (sc : VariableScope) (x : List ℕ) (args : t.Terms) (m : t.Amount) (at : Pos) →
    Ends (λ (v w : e.Assertion). Any v w) (instance k sc x args m at) (instance (lean k) sc x args m at)
instance_ends k sc x args m at =
    end_known (predicate_at k.world x) at rule.UnknownName (λ q. end_then (arguments_ends k sc args q.1.params at) (λ es fs h. end_then (amount_ends k sc m) (λ v z i. both any)))

access_ends : (k : Context) (sc : VariableScope) (a : t.Term) (m : t.Amount) (at : Pos) →
    Ends (λ (v w : e.Assertion). Any v w) (access k sc a m at) (access (lean k) sc a m at)
access_ends k sc (t.Field a f f_at) m at =
    end_then (end_then (typing_ends k sc a) (λ x y h. located_ends k.world f f_at x y h)) (λ l n h. end_then (amount_ends k sc m) (λ v z i. both any))
access_ends k sc (t.Inst x args x_at) m at = instance_ends k sc x args m x_at
access_ends k sc _ m at = same

fact_ends : (k : Context) (sc : VariableScope) (a : t.Term) → Ends (λ (v w : e.Assertion). Any v w) (fact k sc a) (fact (lean k) sc a)
fact_ends k sc a = end_then (expected_ends k sc ty.Bool a) (λ x y h. both any)

connective_ends : {V W : Type 0} {S : V → W → Type 0} (o : Sign) {i k m : Judged V} {j l n : Judged W} → Ends S i j → Ends S k l → Ends S m n →
    Ends S (by_connective o i k m) (by_connective o j l n)
connective_ends sign.And f h q = f
connective_ends sign.Implies f h q = h
connective_ends _ f h q = q

asserting_ends : (k : Context) (sc : VariableScope) (a : t.Term) → Ends (λ (v w : e.Assertion). Any v w) (asserting k sc a) (asserting (lean k) sc a)
asserting_ends k sc (t.Binary o a b at) =
    connective_ends o
    (end_then (asserting_ends k sc a) (λ x y h. end_then (asserting_ends k sc b) (λ v z i. both any)))
    (end_then (expected_ends k sc ty.Bool a) (λ x y h. end_then (asserting_ends k sc b) (λ v z i. both any)))
    (fact_ends k sc (t.Binary o a b at))
asserting_ends k sc (t.Choose a b d at) =
    end_then (expected_ends k sc ty.Bool a) (λ x y h. end_then (asserting_ends k sc b) (λ v z i. end_then (asserting_ends k sc d) (λ m n f. both any)))
asserting_ends k sc (t.Acc a m at) = access_ends k sc a m at
asserting_ends k sc (t.Inst x args at) = instance_ends k sc x args t.omitted at
asserting_ends k sc (t.Name x at) = fact_ends k sc (t.Name x at)
asserting_ends k sc (t.Number n at) = fact_ends k sc (t.Number n at)
asserting_ends k sc (t.Constant x at) = fact_ends k sc (t.Constant x at)
asserting_ends k sc (t.Unary o a at) = fact_ends k sc (t.Unary o a at)
asserting_ends k sc (t.Field a f at) = fact_ends k sc (t.Field a f at)
asserting_ends k sc (t.Old a at) = fact_ends k sc (t.Old a at)
asserting_ends k sc (t.Unfolding x args m a at name_at) = fact_ends k sc (t.Unfolding x args m a at name_at)

asserting_all_ends : (k : Context) (sc : VariableScope) (is : List t.Term) →
    Ends (λ (v w : List e.Assertion). Any v w) (asserting_all k sc is) (asserting_all (lean k) sc is)
asserting_all_ends k sc [] = both any
asserting_all_ends k sc (a ∷ rest) = end_then (asserting_ends k sc a) (λ x y h. end_then (asserting_all_ends k sc rest) (λ xs ys i. both any))

-- ---- statements that hold no block

abbrev AnyStmt : c.Stmt → c.Stmt → Type 0
AnyStmt x y = Any x y

calling_ends : (k : Context) (sc : VariableScope) (at : Pos) (vs : List AssignedVariable) (call : s.SCall) → Ends AnyStmt (calling k sc at vs call) (calling (lean k) sc at vs call)
calling_ends k sc at vs call =
    end_known (method_at k.world call.name.name) call.name.pos rule.UnknownName (λ m. end_then (typing_all_ends k sc (t.terms call.args)) (λ xs ys h.
    tested_ends (as_many xs m.1.params) (as_many ys m.1.params) call.name.pos rule.ArgumentCount (many_same h m.1.params) (
    end_obeys (as_many vs m.1.returns) call.name.pos rule.TargetCount (end_clear (mistarget vs m.1.returns) rule.WrongType (
    cleared_ends (misfit (t.terms call.args) xs m.1.params) (misfit (t.terms call.args) ys m.1.params) rule.WrongType (misfit_same h (t.terms call.args) m.1.params) (both any))))))

calling_into_field_ends : (k : Context) (sc : VariableScope) (call : s.SCall) → Ends AnyStmt (calling_into_field k sc call) (calling_into_field (lean k) sc call)
calling_into_field_ends k sc call =
    end_known (method_at k.world call.name.name) call.name.pos rule.UnknownName (λ m. end_then (typing_all_ends k sc (t.terms call.args)) (λ xs ys h.
    tested_ends (as_many xs m.1.params) (as_many ys m.1.params) call.name.pos rule.ArgumentCount (many_same h m.1.params) same))

creating_ends : (q : World) (sc : VariableScope) (at : Pos) (n : ℕ) (new : s.SNew) → Ends AnyStmt (creating true q sc at n new) (creating false q sc at n new)
creating_ends q sc at n new =
    end_then {R = λ (v w : List ℕ). Any v w} (end_if new.every (both any) (itself (g.new_fields q [] new.fields))) (λ fs gs h. both any)

dotted_ends : (q : World) (f : Named) (fs : List Named) (x y : Typing) → SameType x y → Ends SameField (dotted q x f fs) (dotted q y f fs)
dotted_ends q f [] x y h = located_ends q f.name f.pos x y h
dotted_ends q f (k ∷ ks) x y h = end_then (located_ends q f.name f.pos x y h) (λ l m i. dotted_ends q k ks _ _ (read_ends f.pos l m i))

target_place_ends : (k : Context) (sc : VariableScope) (x f : Named) (fs : List Named) → Ends SameField (target_place k sc x f fs) (target_place (lean k) sc x f fs)
target_place_ends k sc x f fs = end_then (typing_ends k sc (t.Name x.name x.pos)) (λ y z h. dotted_ends k.world f fs y z h)

declaring_ends : (k : Context) (fr : MethodVariables) (at : Pos) (v : AssignedVariable) (rhs : Option s.SRhs) → Ends AnyStmt (declaring true k fr at v rhs) (declaring false (lean k) fr at v rhs)
declaring_ends k fr at v None = both any
declaring_ends k fr at v (Some (s.TermRhs a)) = end_then (expected_ends k fr.scope v.ty a) (λ x y h. both any)
declaring_ends k fr at v (Some (s.CallRhs call)) = calling_ends k fr.scope at (v ∷ []) call
declaring_ends k fr at v (Some (s.NewRhs new)) = end_obeys (same_type v.ty ty.Ref) v.at rule.WrongType (creating_ends k.world fr.scope at v.number new)

field_type_ends : (k : Context) (sc : VariableScope) (a : t.Term) (l m : Located) → SameField l m → Ends (λ (v w : e.Expr). Any v w) (expected k sc l.ty a) (expected (lean k) sc m.ty a)
field_type_ends k sc a _ _ (field {u = u}) = expected_ends k sc u a

setting_ends : (k : Context) (sc : VariableScope) (xs : List Named) (rhs : s.SRhs) → Ends AnyStmt (setting true k sc xs rhs) (setting false (lean k) sc xs rhs)
setting_ends k sc [] rhs = same
setting_ends k sc (x ∷ []) (s.TermRhs a) = end_after (target sc x) (λ v. end_then (expected_ends k sc v.ty a) (λ y z h. both any))
setting_ends k sc (x ∷ []) (s.CallRhs call) = end_after (target sc x) (λ v. calling_ends k sc x.pos (v ∷ []) call)
setting_ends k sc (x ∷ []) (s.NewRhs new) = end_after (ref_target sc x) (λ v. creating_ends k.world sc x.pos v.number new)
setting_ends k sc (x ∷ f ∷ fs) (s.TermRhs a) =
    end_then (target_place_ends k sc x f fs) (λ l m h. end_then (field_type_ends k sc a l m h) (λ y z i. both any))
setting_ends k sc (x ∷ f ∷ fs) (s.CallRhs call) = end_then (target_place_ends k sc x f fs) (λ l m h. calling_into_field_ends k sc call)
setting_ends k sc (x ∷ f ∷ fs) (s.NewRhs new) = end_then (target_place_ends k sc x f fs) (λ l m h. same)

checking_ends : (k : Context) (sc : VariableScope) (x : Word) (at : Pos) (a : t.Term) → Ends AnyStmt (checking k sc x at a) (checking (lean k) sc x at a)
checking_ends k sc word.Inhale at a = end_then (asserting_ends k sc a) (λ x y h. both any)
checking_ends k sc word.Exhale at a = end_then (asserting_ends k sc a) (λ x y h. both any)
checking_ends k sc word.Assert at a = end_then (asserting_ends k sc a) (λ x y h. both any)
checking_ends k sc word.Assume at a = end_then (expected_ends k sc ty.Bool a) (λ x y h. both any)
checking_ends k sc _ at a = same

folding_ends : (k : Context) (sc : VariableScope) (f : s.SFold) → Ends (λ (v w : c.FoldStmt). Any v w) (folding k sc f) (folding (lean k) sc f)
folding_ends k sc f =
    end_after (with_body k.world f.call.name.name f.call.name.pos) (λ q.
    end_then (arguments_ends k sc (t.terms f.call.args) q.1.params f.call.name.pos) (λ es fs h. end_then (permission_ends k sc f.amount) (λ m n i. both any)))

-- ---- statements

nested_ends : {cs bs : List Branch} → SameCount cs bs → (ss ts : c.Stmts) → Ends AnyStmt (known (nested cs ss) nowhere rule.WrongType Found) (known (nested bs ts) nowhere rule.WrongType Found)
nested_ends no_branch ss ts = same
nested_ends (more_branches h) ss ts = both any

mutual
  stepping_ends : (k : Context) (d : ℕ) (fr : MethodVariables) (a : s.SStmt) → Ends AnyStmt (stepping true k d fr a) (stepping false (lean k) d fr a)
  stepping_ends k d fr (s.Var at f rhs) = end_after (fresh fr f) (λ v. declaring_ends k fr at v rhs)
  stepping_ends k d fr (s.Assign xs rhs) = setting_ends k fr.scope xs rhs
  stepping_ends k d fr (s.CallTo xs call) = end_after (call_targets fr.scope [] xs) (λ vs. calling_ends k fr.scope (first_place xs) vs call)
  stepping_ends k d fr (s.Call call) = calling_ends k fr.scope call.name.pos [] call
  stepping_ends k d fr (s.Check x at a) = checking_ends k fr.scope x at a
  stepping_ends k d fr (s.Fold f) = end_then (folding_ends k fr.scope f) (λ x y h. both any)
  stepping_ends k d fr (s.Unfold f) = end_then (folding_ends k fr.scope f) (λ x y h. both any)
  stepping_ends k d fr (s.If arms other) =
      end_then (branches_ends k (d + 1) fr arms) (λ cs bs h. end_then (otherwise_ends k (d + arm_count arms) (with_hidden fr (declared_in_arms arms)) other) (λ ss ts i. nested_ends h ss ts))
  stepping_ends k d fr (s.While at a is b) =
      end_then (expected_ends k fr.scope ty.Bool a) (λ x y h. end_then (asserting_all_ends k fr.scope is) (λ xs ys i. end_then (blocking_ends k (d + 1) fr b) (λ ss ts f. both any)))

  blocking_ends : (k : Context) (d : ℕ) (fr : MethodVariables) (b : s.SBlock) → Ends (λ (v w : c.Stmts). Any v w) (blocking true k d fr b) (blocking false (lean k) d fr b)
  blocking_ends k d fr (s.block at ss) = end_obeys (nat_le d max_block_depth) at rule.TooDeep (end_then (stepping_all_ends k d fr ss) (λ xs ys h. both any))

  stepping_all_ends : (k : Context) (d : ℕ) (fr : MethodVariables) (ss : s.SStmts) →
      Ends (λ (v w : List c.Stmt). Any v w) (stepping_all true k d fr ss) (stepping_all false (lean k) d fr ss)
  stepping_all_ends k d fr s.no_stmts = both any
  stepping_all_ends k d fr (s.more_stmts a rest) =
      end_then (stepping_ends k d fr a) (λ x y h. end_then (stepping_all_ends k d (frame_after fr a) rest) (λ xs ys i. both any))

  branches_ends : (k : Context) (d : ℕ) (fr : MethodVariables) (arms : s.SArms) → Ends SameCount (branches true k d fr arms) (branches false (lean k) d fr arms)
  branches_ends k d fr s.no_arms = both no_branch
  branches_ends k d fr (s.more_arms a rest) =
      end_then (branch_ends k d fr a) (λ x y h. end_then (branches_ends k (d + 1) (with_hidden fr (declared_in_arm a)) rest) (λ xs ys i. both (more_branches i)))

  branch_ends : (k : Context) (d : ℕ) (fr : MethodVariables) (a : s.SArm) → Ends (λ (v w : Branch). Any v w) (branch true k d fr a) (branch false (lean k) d fr a)
  branch_ends k d fr (s.arm at a b) = end_then (expected_ends k fr.scope ty.Bool a) (λ x y h. end_then (blocking_ends k d fr b) (λ ss ts i. both any))

  otherwise_ends : (k : Context) (d : ℕ) (fr : MethodVariables) (o : s.SElse) → Ends (λ (v w : c.Stmts). Any v w) (otherwise true k d fr o) (otherwise false (lean k) d fr o)
  otherwise_ends k d fr s.no_else = both any
  otherwise_ends k d fr (s.else_block b) = blocking_ends k d fr b

-- ---- declarations

clause_ends : (q : World) (bodies : List (Option e.Assertion)) (params all : VariableScope) (x : Word) (a : t.Term) →
    Ends (λ (v w : Bool × e.Assertion). Any v w) (clause_of q bodies params all x a) (clause_of q [] params all x a)
clause_ends q bodies params all word.Requires a = end_then (asserting_ends (context_in q bodies part.Precondition) params a) (λ x y h. both any)
clause_ends q bodies params all word.Ensures a = end_then (asserting_ends (context_in q bodies part.Elsewhere) all a) (λ x y h. both any)
clause_ends q bodies params all _ a = same

clauses_ends : (q : World) (bodies : List (Option e.Assertion)) (params all : VariableScope) (ds : List d.SClause) →
    Ends (λ (v w : List (Bool × e.Assertion)). Any v w) (clauses q bodies params all ds) (clauses q [] params all ds)
clauses_ends q bodies params all [] = both any
clauses_ends q bodies params all (a ∷ rest) =
    end_then (clause_ends q bodies params all a.word a.term) (λ x y h. end_then (clauses_ends q bodies params all rest) (λ xs ys i. both any))

method_body_ends : (k : Context) (fr : MethodVariables) (body : Option s.SBlock) →
    Ends (λ (v w : Option p.Body). Any v w) (method_body true k fr body) (method_body false (lean k) fr body)
method_body_ends k fr None = both any
method_body_ends k fr (Some b) = end_then (blocking_ends k 1 fr b) (λ ss ts h. both any)

method_ends : (q : World) (bodies : List (Option e.Assertion)) (m : d.SMethod) →
    Ends (λ (v w : p.Method). Any v w) (method_typing true q bodies m) (method_typing false q [] m)
method_ends q bodies m =
    end_after (formals true true no_frame m.params) (λ ps. end_after (formals true false ps m.returns) (λ fr.
    end_then (clauses_ends q bodies ps.scope fr.scope m.clauses) (λ cs ds h. end_then (method_body_ends (context_in q bodies part.Elsewhere) fr m.body) (λ x y i. both any))))

decl_ends : (q : World) (bodies : List (Option e.Assertion)) (a : d.Decl) →
    Ends (λ (v w : Declared). Any v w) (decl_typing true q bodies a) (decl_typing false q [] a)
decl_ends q bodies (d.Field f) = itself (w.field_typing f)
decl_ends q bodies (d.Predicate at x params body) = end_after (w.predicate_typing q at x params body) (λ r. both any)
decl_ends q bodies (d.Method m) = end_then (method_ends q bodies m) (λ x y h. both any)

pub decls_ends : (q : World) (bodies : List (Option e.Assertion)) (ds : List d.Decl) →
    Ends (λ (v w : List Declared). Any v w) (decls_typing true q bodies ds) (decls_typing false q [] ds)
decls_ends q bodies [] = both any
decls_ends q bodies (a ∷ rest) = end_then (decl_ends q bodies a) (λ x y h. end_then (decls_ends q bodies rest) (λ xs ys i. both any))
