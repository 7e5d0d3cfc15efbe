-- The worked program is typed: the bodies of its predicates, and of the methods that make and fill a list.
use Rattle.std.proofs.Common.{ℕ, ◌<◌, pos, [], ◌∷◌, AllPairs, ◌≢◌, refl, inr, lit<, lit≤, arith}
use Rattle.std.proofs.lemmas.List.Elements.{All-nil, All-cons}
use Rattle.std.proofs.lemmas.List.Kept.{AllPairs-cons}
use Rattle.vb_value.specs.declared.values.Ty.TheVariants as ty
use Rattle.viper_core.specs.Expr as t
use Rattle.viper_core.specs.Typing as r
use Rattle.viper_core.specs.Scope.{Scope}
use Rattle.viper_core.specs.Formed.{predicate_context, method_frame, method_scope, IsBody}
use Rattle.viper_core.proofs.Worked.{at, all, not_negative, is_list, instance, cell, list, cell_body, list_body, make, make_stmts, push, fill, fill_stmts, turns, worked}

zero : {c : r.Context} → r.HasType c (t.Int (pos 0)) ty.Int
zero = r.literal (record { le = tt }, lit< tt)

whole_amount : {c : r.Context} → r.HasType c all ty.Perm
whole_amount = r.part (inr refl)

-- ---- predicates

x_of_cell : r.HasType (predicate_context worked cell) (t.Var 0) ty.Ref
x_of_cell = r.variable (0, lit< tt, refl) refl

cell_typed : r.IsAssertion (predicate_context worked cell) cell_body
cell_typed = r.both (r.access x_of_cell refl (r.amount whole_amount)) (r.fact (r.binary (r.field x_of_cell refl) zero refl))

x_of_list : r.HasType (predicate_context worked list) (t.Var 0) ty.Ref
x_of_list = r.variable (0, lit< tt, refl) refl

list_typed : r.IsAssertion (predicate_context worked list) list_body
list_typed =
    r.both
    (r.both (r.access x_of_list refl (r.amount whole_amount)) (r.instance cell refl (r.also x_of_list r.nothing) (r.amount whole_amount)))
    (r.implied (r.binary (r.field x_of_list refl) r.null refl) (r.instance list refl (r.also (r.field x_of_list refl) r.nothing) (r.amount whole_amount)))

-- ---- methods

one_differs : (x : ℕ) → AllPairs (λ y z. y ≢ z) (x ∷ [])
one_differs x i j d below within = absurd (omega (arith, below, within))

-- the return of `make` and of `fill` is the second variable
r_of_make : r.HasType (r.inside (method_frame worked make) (method_scope make)) (t.Var 1) ty.Ref
r_of_make = r.variable (1, lit< tt, refl) refl

v_of_make : r.HasType (r.inside (method_frame worked make) (method_scope make)) (t.Var 0) ty.Int
v_of_make = r.variable (0, lit< tt, refl) refl

r_is_assigned : r.Receive (method_frame worked make) (method_scope make) (1 ∷ []) (ty.Ref ∷ [])
r_is_assigned = r.assigned (r.also (record { visible = (1, lit< tt, refl); no_parameter = lit≤ tt; typed = refl }) r.nothing) (one_differs 1)

both_fields : r.AreFields worked (0 ∷ 1 ∷ [])
both_fields = record {
  exist = let exists : ℕ → Type 0 = λ f. f < 2 in All-cons exists 0 (1 ∷ []) (lit< tt) (All-cons exists 1 [] (lit< tt) (All-nil exists));
  differ = let differs : ℕ → ℕ → Type 0 = λ x y. x ≢ y in AllPairs-cons differs 0 (1 ∷ []) (All-cons (differs 0) 1 [] (λ is. cc) (All-nil (differs 0))) (one_differs 1);
}

cell_of_r : r.IsFold (r.inside (method_frame worked make) (method_scope make)) (instance 0 1)
cell_of_r = record { predicate = cell; body = cell_body; exists = refl; has_body = refl; args = r.also r_of_make r.nothing; amount = whole_amount }

list_of_r : r.IsFold (r.inside (method_frame worked make) (method_scope make)) (instance 1 1)
list_of_r = record { predicate = list; body = list_body; exists = refl; has_body = refl; args = r.also r_of_make r.nothing; amount = whole_amount }

make_typed : IsBody worked make (record { turn = at; stmts = make_stmts })
make_typed = record {
  stmts =
      r.goes_on (r.creates r_is_assigned both_fields refl)
      (r.goes_on (r.writes r_of_make refl v_of_make)
      (r.goes_on (r.writes r_of_make refl r.null)
      (r.goes_on (r.folds cell_of_r) (r.goes_on (r.folds list_of_r) r.ends))));
  nested = lit≤ tt;
  blocks = lit≤ tt;
}

-- the scope in and after the loop of `fill`
abbrev in_loop : Scope
in_loop = record { visible = 0 ∷ 1 ∷ 2 ∷ []; fresh = 3 }

abbrev inner : r.Context
inner = r.inside (method_frame worked fill) in_loop

n_inner : r.HasType inner (t.Var 0) ty.Int
n_inner = r.variable (0, lit< tt, refl) refl

r_inner : r.HasType inner (t.Var 1) ty.Ref
r_inner = r.variable (1, lit< tt, refl) refl

i_inner : r.HasType inner (t.Var 2) ty.Int
i_inner = r.variable (2, lit< tt, refl) refl

r_inner_target : r.IsTarget (method_frame worked fill) in_loop 1 ty.Ref
r_inner_target = record { visible = (1, lit< tt, refl); no_parameter = lit≤ tt; typed = refl }

turns_typed : r.AreStmts (method_frame worked fill) in_loop turns
turns_typed =
    r.goes_on (r.calls push refl (r.also r_inner (r.also i_inner r.nothing)) (r.assigned (r.also r_inner_target r.nothing) (one_differs 1)))
    (r.goes_on (r.assigns (record { visible = (2, lit< tt, refl); no_parameter = lit≤ tt; typed = refl }) (r.binary i_inner (r.literal (record { le = tt }, lit< tt)) refl)) r.ends)

invariant_typed : r.IsAssertion inner (t.And (is_list (t.Var 1)) (not_negative (t.Var 2)))
invariant_typed = r.both (r.instance list refl (r.also r_inner r.nothing) (r.amount whole_amount)) (r.fact (r.binary i_inner zero refl))

fill_typed : IsBody worked fill (record { turn = at; stmts = fill_stmts })
fill_typed = record {
  stmts =
      r.goes_on (r.initial refl refl zero)
      (r.goes_on (r.calls make refl (r.also zero r.nothing) (r.assigned (r.also r_inner_target r.nothing) (one_differs 1)))
      (r.goes_on (r.loops (r.binary i_inner n_inner refl) (All-cons (r.IsAssertion inner) (t.And (is_list (t.Var 1)) (not_negative (t.Var 2))) [] invariant_typed (All-nil (r.IsAssertion inner))) turns_typed refl) r.ends));
  nested = lit≤ tt;
  blocks = lit≤ tt;
}
