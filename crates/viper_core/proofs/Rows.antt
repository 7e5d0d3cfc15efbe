-- Worked rows of the definitions, by computation.
use Rattle.std.proofs.Common.{◌≡◌, pos, true, [], ◌∷◌, None, Some, codes, refl}
use Rattle.vb_value.specs.declared.values.Ty.TheVariants as ty
use Rattle.viper_core.specs.declared.exprs.Op.TheVariants as op
use Rattle.viper_core.specs.declared.programs.Unit.TheVariants as unit
use Rattle.viper_core.specs.Expr as t
use Rattle.viper_core.specs.Stmt as s
use Rattle.viper_core.specs.Program.{Program, Predicate}
use Rattle.viper_core.specs.Size.{size, assertion_size}
use Rattle.viper_core.specs.Weight.{base_of, stmt_weight, predicate_weight, method_weight, weight, told_weight}
use Rattle.viper_core.specs.Scope.{scope_after, refs_in, loop_targets}
use Rattle.viper_core.specs.Depth.{depth, assertion_depth, block_depth}
use Rattle.viper_core.specs.Typing.{value_type}
use Rattle.viper_core.specs.Formed.{method_scope, with_body_from}
use Rattle.viper_core.proofs.Worked.{at, one, all, val, instance, cell_body, list_body, cell, list, make, push, head, fill, turns, worked}

-- ---- weights

base : base_of worked ≡ 5
base = refl

cell_weighs : predicate_weight worked cell ≡ 13
cell_weighs = refl

list_weighs : predicate_weight worked list ≡ 22
list_weighs = refl

make_weighs : method_weight worked make ≡ 72
make_weighs = refl

push_weighs : method_weight worked push ≡ 77
push_weighs = refl

head_weighs : method_weight worked head ≡ 100
head_weighs = refl

fill_weighs : method_weight worked fill ≡ 71
fill_weighs = refl

all_weigh : weight worked ≡ 355
all_weigh = refl

told : told_weight worked ≡ 355
told = refl

-- field f: Int   predicate P(x: Ref) { acc(x.f) }
-- method m(x: Ref) requires P(x) { assert unfolding P(x) in x.f > 0 }
abbrev held : Predicate
held = record { name = codes "P"; at = at; names = codes "x" ∷ []; params = ty.Ref ∷ []; body = Some (t.Acc (t.Var 0) 0 (t.Is all) at) }

abbrev peeked : t.Expr
peeked = t.Unfolding (t.opened 0 (one (t.Var 0)) all (t.Acc (t.Var 0) 0 (t.Is all) at) (t.Bin op.Gt (t.Field (t.Var 0) 0 at) (t.Int (pos 0)) at) at)

abbrev peek : Program
peek = record {
  fields = codes "f" ∷ [];
  layout = record { fields = ty.Int ∷ []; keys = (ty.Ref ∷ []) ∷ [] };
  predicates = held ∷ [];
  methods = (record {
    name = codes "m";
    at = at;
    name_at = at;
    names = codes "x" ∷ [];
    params = 1;
    returns = 0;
    vars = ty.Ref ∷ [];
    preconditions = t.Inst 0 (one (t.Var 0)) (t.Is all) at ∷ [];
    postconditions = [];
    body = Some (record { turn = at; stmts = s.stmts (s.Assert at (t.Fact peeked at) ∷ []) });
  }) ∷ [];
  units = unit.Predicate 0 ∷ unit.Method 0 ∷ [];
}

unfolding_size : size 3 peeked ≡ 12
unfolding_size = refl

unfolding_weighs : weight peek ≡ 27
unfolding_weighs = refl

-- an amount that was left out, and `wildcard`, are one node each
left_out : assertion_size 5 (t.Acc (t.Var 0) 0 (t.Is all) at) ≡ 3
left_out = refl

wildcard_is_a_node : assertion_size 5 (t.Inst 0 t.none t.Wildcard at) ≡ 2
wildcard_is_a_node = refl

-- the least part of that program counts 3, its predicate's body 3, and the clause of its method 3

declared : stmt_weight peek (s.Var at 1 None) ≡ 3
declared = refl

declared_with_value : stmt_weight peek (s.Var at 1 (Some t.Null)) ≡ 4
declared_with_value = refl

assigned : stmt_weight peek (s.Assign at 1 (val (t.Var 0))) ≡ 5
assigned = refl

written : stmt_weight peek (s.Write at (t.Var 0) 0 at (t.Int (pos 7))) ≡ 5
written = refl

created : stmt_weight peek (s.New at 1 (0 ∷ []) (0 ∷ 1 ∷ [])) ≡ 6
created = refl

called : stmt_weight peek (s.Call at [] 0 (one t.Null)) ≡ 7
called = refl

inhaled : stmt_weight peek (s.Inhale at cell_body) ≡ 11
inhaled = refl

exhaled : stmt_weight peek (s.Exhale at cell_body) ≡ 11
exhaled = refl

asserted : stmt_weight peek (s.Assert at (t.Fact peeked at)) ≡ 15
asserted = refl

folded : stmt_weight peek (s.Fold (instance 0 0)) ≡ 8
folded = refl

unfolded : stmt_weight peek (s.Unfold (instance 0 0)) ≡ 8
unfolded = refl

branched : stmt_weight peek (s.If at (t.Bool true) (s.stmts (s.Var at 1 None ∷ [])) (s.stmts (s.Assign at 1 t.Null ∷ []))) ≡ 11
branched = refl

repeated : stmt_weight peek (s.While (s.loop at (t.Bool true) (cell_body ∷ []) (s.stmts (s.Assign at 1 t.Null ∷ [])) at (1 ∷ []))) ≡ 17
repeated = refl

-- ---- scopes

make_lists : refs_in make.vars (method_scope make) ≡ 1 ∷ []
make_lists = refl

push_lists : refs_in push.vars (method_scope push) ≡ 0 ∷ 2 ∷ []
push_lists = refl

fill_declares : scope_after (method_scope fill) (s.Var at 2 (Some (t.Int (pos 0)))) ≡ record { visible = 0 ∷ 1 ∷ 2 ∷ []; fresh = 3 }
fill_declares = refl

fill_targets : loop_targets (record { visible = 0 ∷ 1 ∷ 2 ∷ []; fresh = 3 }) turns ≡ 1 ∷ 2 ∷ []
fill_targets = refl

-- what a block declares is visible no longer, and its number is not used again
closed_block : scope_after (method_scope make) (s.If at (t.Bool true) (s.stmts (s.Var at 2 None ∷ [])) s.skip) ≡ record { visible = 0 ∷ 1 ∷ []; fresh = 3 }
closed_block = refl

-- `var y: Ref := new()` declares its target, `r := new()` does not
declared_by_new : scope_after (method_scope make) (s.New at 2 [] (1 ∷ [])) ≡ record { visible = 0 ∷ 1 ∷ 2 ∷ []; fresh = 3 }
declared_by_new = refl

assigned_by_new : scope_after (method_scope make) (s.New at 1 [] (1 ∷ [])) ≡ method_scope make
assigned_by_new = refl

-- a variable that is declared in the loop is no target of it
inner_variable : loop_targets (method_scope make) (s.stmts (s.Var at 2 None ∷ s.Assign at 2 t.Null ∷ s.Assign at 1 t.Null ∷ [])) ≡ 1 ∷ []
inner_variable = refl

units_with_body : with_body_from 0 (cell ∷ record cell { body = None } ∷ list ∷ []) ≡ 0 ∷ 2 ∷ []
units_with_body = refl

-- ---- depth

cell_is_deep : assertion_depth cell_body ≡ 4
cell_is_deep = refl

list_is_deep : assertion_depth list_body ≡ 5
list_is_deep = refl

-- the copy of the body does not count, nor does an amount that was left out
peeked_is_deep : depth peeked ≡ 4
peeked_is_deep = refl

bare_instance : assertion_depth (t.Inst 0 t.none (t.Is all) at) ≡ 1
bare_instance = refl

turns_are_a_block : block_depth (s.stmts (s.While (s.loop at (t.Bool true) [] turns at (1 ∷ 2 ∷ [])) ∷ [])) ≡ 2
turns_are_a_block = refl

-- the second block of an `if` is as deep as the first, and an `elseif` in it one deeper
elseif : block_depth (s.stmts (s.If at (t.Bool true) s.skip (s.stmts (s.If at (t.Bool true) s.skip s.skip ∷ [])) ∷ [])) ≡ 3
elseif = refl

-- ---- types

scaled : value_type op.Mul ty.Int ty.Perm ≡ Some ty.Perm
scaled = refl

multiplied : value_type op.Mul ty.Int ty.Int ≡ Some ty.Int
multiplied = refl

halved : value_type op.Divide ty.Int ty.Int ≡ Some ty.Perm
halved = refl

not_divided : value_type op.Divide ty.Int ty.Perm ≡ None
not_divided = refl

not_added : value_type op.Add ty.Int ty.Perm ≡ None
not_added = refl

not_ordered : value_type op.Lt ty.Ref ty.Ref ≡ None
not_ordered = refl

compared : value_type op.Eq ty.Ref ty.Ref ≡ Some ty.Bool
compared = refl

joined : value_type op.Implies ty.Bool ty.Bool ≡ Some ty.Bool
joined = refl

not_joined : value_type op.And ty.Bool ty.Int ≡ None
not_joined = refl

not_compared : value_type op.Ne ty.Int ty.Perm ≡ None
not_compared = refl

ordered : value_type op.Lt ty.Perm ty.Perm ≡ Some ty.Bool
ordered = refl

taken : value_type op.Sub ty.Perm ty.Perm ≡ Some ty.Perm
taken = refl

remainder : value_type op.IntMod ty.Int ty.Int ≡ Some ty.Int
remainder = refl
