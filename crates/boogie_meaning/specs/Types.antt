-- Types of expressions and statements (Leino, This is Boogie 2, sections 3, 4 and 9).
use Rattle.std.specs.Prelude.{◌≡◌, ℕ, Bool as Truth, true, false, ◌&&◌, List, [], ◌∷◌, slice_get, Option, Some, None, is_some, if◌then◌else◌}
use Rattle.boogie_tree.specs.Expr as t
use Rattle.boogie_tree.specs.Stmt as s
use Rattle.boogie_tree.specs.Program.{BType}
use Rattle.boogie_tree.specs.declared.exprs.BBase.{BBase}
use Rattle.boogie_tree.specs.declared.exprs.BBase.TheVariants as base
use Rattle.boogie_tree.specs.declared.exprs.BOp.{BOp}
use Rattle.boogie_tree.specs.declared.exprs.BOp.TheVariants as op
use Rattle.boogie_tree.specs.Values.{same_base, same_bases, same_type, is_key, plain_type, map_type, AreKeys, are_keys}

-- the type of the value of an operator whose two operands have this type, if it takes them
abbrev pub answer_of : BOp → BBase → Option BBase
answer_of op.Iff base.Bool = Some base.Bool
answer_of op.Implies base.Bool = Some base.Bool
answer_of op.Or base.Bool = Some base.Bool
answer_of op.And base.Bool = Some base.Bool
answer_of op.Eq u = Some base.Bool
answer_of op.Ne u = Some base.Bool
answer_of op.Lt base.Int = Some base.Bool
answer_of op.Lt base.Real = Some base.Bool
answer_of op.Le base.Int = Some base.Bool
answer_of op.Le base.Real = Some base.Bool
answer_of op.Gt base.Int = Some base.Bool
answer_of op.Gt base.Real = Some base.Bool
answer_of op.Ge base.Int = Some base.Bool
answer_of op.Ge base.Real = Some base.Bool
answer_of op.Add base.Int = Some base.Int
answer_of op.Add base.Real = Some base.Real
answer_of op.Sub base.Int = Some base.Int
answer_of op.Sub base.Real = Some base.Real
answer_of op.Mul base.Int = Some base.Int
answer_of op.Mul base.Real = Some base.Real
answer_of op.Divide base.Real = Some base.Real
answer_of op.IntDiv base.Int = Some base.Int
answer_of op.IntMod base.Int = Some base.Int
answer_of _ _ = None

-- a minus takes an int or a real
abbrev pub negated : BBase → Option BBase
negated base.Int = Some base.Int
negated base.Real = Some base.Real
negated _ = None

mutual
  -- By the types of the variables, and where a `forall` stands around the expression, of the names that it binds. A map is
  -- indexed by its key types, and by the bound names where their types are just those. A map never stands alone here.
  pub data HasType (ls : List BType) : Option (List BBase) → t.BExpr → BBase → Type 0 where
    var : {o : _} {i : ℕ} {u : BBase} → slice_get ls i ≡ Some (plain_type u) → HasType ls o (t.Var i) u
    int : {o : _} {n : _} → HasType ls o (t.Int n) base.Int
    real : {o : _} {n : _} → HasType ls o (t.Real n) base.Real
    bool : {o : _} {p : _} → HasType ls o (t.Bool p) base.Bool
    null : {o : _} → HasType ls o t.Null base.Ref
    unit : {o : _} → HasType ls o t.Unit base.Snap
    neg : {o : _} {a : t.BExpr} {u w : BBase} → negated u ≡ Some w → HasType ls o a u → HasType ls o (t.Neg a) w
    not_ : {o : _} {a : t.BExpr} → HasType ls o a base.Bool → HasType ls o (t.Not a) base.Bool
    binary : {o : _} {p : BOp} {a b : t.BExpr} {u w : BBase} → answer_of p u ≡ Some w → HasType ls o a u → HasType ls o b u → HasType ls o (t.Bin p a b) w
    choose : {o : _} {c a b : t.BExpr} {u : BBase} → HasType ls o c base.Bool → HasType ls o a u → HasType ls o b u → HasType ls o (t.If c a b) u
    forall_ : {us : List BBase} {a : t.BExpr} → AreKeys us → HasType ls (Some us) a base.Bool → HasType ls None (t.Forall us a) base.Bool
    to_real : {o : _} {a : t.BExpr} → HasType ls o a base.Int → HasType ls o (t.ToReal a) base.Real
    s_int : {o : _} {a : t.BExpr} → HasType ls o a base.Int → HasType ls o (t.SInt a) base.Snap
    s_bool : {o : _} {a : t.BExpr} → HasType ls o a base.Bool → HasType ls o (t.SBool a) base.Snap
    s_ref : {o : _} {a : t.BExpr} → HasType ls o a base.Ref → HasType ls o (t.SRef a) base.Snap
    s_perm : {o : _} {a : t.BExpr} → HasType ls o a base.Real → HasType ls o (t.SPerm a) base.Snap
    pair : {o : _} {a b : t.BExpr} → HasType ls o a base.Snap → HasType ls o b base.Snap → HasType ls o (t.Pair a b) base.Snap
    at : {o : _} {m : ℕ} {es : t.BExprs} {u : BBase} {us : List BBase} {w : BBase} → slice_get ls m ≡ Some (map_type u us w) →
        HaveTypes ls o es (u ∷ us) → HasType ls o (t.At m es) w
    at_bound : {m : ℕ} {u : BBase} {us : List BBase} {w : BBase} → slice_get ls m ≡ Some (map_type u us w) →
        HasType ls (Some (u ∷ us)) (t.AtBound m) w

  pub data HaveTypes (ls : List BType) : Option (List BBase) → t.BExprs → List BBase → Type 0 where
    none : {o : _} → HaveTypes ls o t.none []
    more : {o : _} {a : t.BExpr} {es : t.BExprs} {u : BBase} {us : List BBase} → is_key u ≡ true → HasType ls o a u → HaveTypes ls o es us →
        HaveTypes ls o (t.more a es) (u ∷ us)

-- the right side of an assignment is a whole variable, or an expression
pub data SideHasType (ls : List BType) : t.BExpr → BType → Type 0 where
  whole : {i : ℕ} {u : BType} → slice_get ls i ≡ Some u → SideHasType ls (t.Var i) u
  value : {e : t.BExpr} {u : BBase} → HasType ls None e u → SideHasType ls e (plain_type u)

mutual
  pub data IsTypedStmt (ls : List BType) : s.BStmt → Type 0 where
    assign : {i : ℕ} {e : t.BExpr} {u : BType} → slice_get ls i ≡ Some u → SideHasType ls e u → IsTypedStmt ls (s.Assign i e)
    put : {i : ℕ} {es : t.BExprs} {e : t.BExpr} {u : BBase} {us : List BBase} {w : BBase} → slice_get ls i ≡ Some (map_type u us w) →
        HaveTypes ls None es (u ∷ us) → HasType ls None e w → IsTypedStmt ls (s.Put i es e)
    havoc : {i : ℕ} {u : BType} → slice_get ls i ≡ Some u → IsTypedStmt ls (s.Havoc i)
    assume_ : {e : t.BExpr} → HasType ls None e base.Bool → IsTypedStmt ls (s.Assume e)
    assert_ : {l : _} {e : t.BExpr} → HasType ls None e base.Bool → IsTypedStmt ls (s.Assert l e)
    if_ : {e : t.BExpr} {xs ys : s.BStmts} → HasType ls None e base.Bool → IsTyped ls xs → IsTyped ls ys → IsTypedStmt ls (s.If e xs ys)
    either : {xs ys : s.BStmts} → IsTyped ls xs → IsTyped ls ys → IsTypedStmt ls (s.Either xs ys)

  -- each statement of a block is
  pub data IsTyped (ls : List BType) : s.BStmts → Type 0 where
    skip : IsTyped ls s.skip
    first : {x : s.BStmt} {xs : s.BStmts} → IsTypedStmt ls x → IsTyped ls xs → IsTyped ls (s.first x xs)

-- ---- the same as functions

abbrev pub then_some : {X Y : Type 0} → Option X → (X → Option Y) → Option Y
then_some (Some x) go = go x
then_some None go = None

-- the type w, where v is the type u
abbrev pub given : BBase → BBase → BBase → Option BBase
given u w v = if same_base v u then Some w else None

-- the type of a variable with such keys and values that is no map
abbrev pub plain_base : List BBase → BBase → Option BBase
plain_base [] u = Some u
plain_base (k ∷ ks) u = None

-- the type of the values of such a map at indices of these types
abbrev pub indexed : List BBase → BBase → List BBase → Option BBase
indexed [] w us = None
indexed (k ∷ ks) w us = if same_bases us (k ∷ ks) then Some w else None

-- the type of an expression, if it has one
abbrev mutual
  pub base_of : List BType → Option (List BBase) → t.BExpr → Option BBase
  base_of ls o (t.Var i) = then_some (slice_get ls i) (λ l. plain_base l.keys l.base)
  base_of ls o (t.Int n) = Some base.Int
  base_of ls o (t.Real n) = Some base.Real
  base_of ls o (t.Bool p) = Some base.Bool
  base_of ls o t.Null = Some base.Ref
  base_of ls o t.Unit = Some base.Snap
  base_of ls o (t.Neg a) = then_some (base_of ls o a) negated
  base_of ls o (t.Not a) = then_some (base_of ls o a) (given base.Bool base.Bool)
  base_of ls o (t.Bin p a b) = then_some (base_of ls o a) (λ u. then_some (base_of ls o b) (λ w. then_some (given u u w) (answer_of p)))
  base_of ls o (t.If c a b) = then_some (base_of ls o c) (λ w. then_some (given base.Bool base.Bool w) (λ p. then_some (base_of ls o a) (λ u. then_some (base_of ls o b) (given u u))))
  base_of ls (Some ws) (t.Forall us a) = None
  base_of ls None (t.Forall us a) = if are_keys us then then_some (base_of ls (Some us) a) (given base.Bool base.Bool) else None
  base_of ls o (t.ToReal a) = then_some (base_of ls o a) (given base.Int base.Real)
  base_of ls o (t.SInt a) = then_some (base_of ls o a) (given base.Int base.Snap)
  base_of ls o (t.SBool a) = then_some (base_of ls o a) (given base.Bool base.Snap)
  base_of ls o (t.SRef a) = then_some (base_of ls o a) (given base.Ref base.Snap)
  base_of ls o (t.SPerm a) = then_some (base_of ls o a) (given base.Real base.Snap)
  base_of ls o (t.Pair a b) = then_some (base_of ls o a) (λ u. then_some (given base.Snap base.Snap u) (λ p. then_some (base_of ls o b) (given base.Snap base.Snap)))
  base_of ls o (t.At m es) = then_some (bases_of ls o es) (λ us. then_some (slice_get ls m) (λ l. indexed l.keys l.base us))
  base_of ls (Some us) (t.AtBound m) = then_some (slice_get ls m) (λ l. indexed l.keys l.base us)
  base_of ls None (t.AtBound m) = None

  pub bases_of : List BType → Option (List BBase) → t.BExprs → Option (List BBase)
  bases_of ls o t.none = Some []
  bases_of ls o (t.more a es) = then_some (base_of ls o a) (λ u. then_some (bases_of ls o es) (λ us. if is_key u then Some (u ∷ us) else None))

-- the type of the right side of an assignment
abbrev pub side_type : List BType → t.BExpr → Option BType
side_type ls (t.Var i) = slice_get ls i
side_type ls e = then_some (base_of ls None e) (λ u. Some (plain_type u))

abbrev pub is_base : Option BBase → BBase → Truth
is_base (Some u) w = same_base u w
is_base None w = false

abbrev pub is_type : Option BType → Option BType → Truth
is_type (Some u) (Some w) = same_type u w
is_type _ _ = false

-- whether a map of this type takes a value of that type at such indices
abbrev pub is_put : Option BType → Option (List BBase) → Option BBase → Truth
is_put u keys (Some w) = is_base (then_some keys (λ us. then_some u (λ l. indexed l.keys l.base us))) w
is_put u keys None = false

-- whether a statement, and each statement of a block, is well-typed
abbrev mutual
  pub is_typed_stmt : List BType → s.BStmt → Truth
  is_typed_stmt ls (s.Assign i e) = is_type (slice_get ls i) (side_type ls e)
  is_typed_stmt ls (s.Put i es e) = is_put (slice_get ls i) (bases_of ls None es) (base_of ls None e)
  is_typed_stmt ls (s.Havoc i) = is_some (slice_get ls i)
  is_typed_stmt ls (s.Assume e) = is_base (base_of ls None e) base.Bool
  is_typed_stmt ls (s.Assert l e) = is_base (base_of ls None e) base.Bool
  is_typed_stmt ls (s.If e xs ys) = is_base (base_of ls None e) base.Bool && (is_typed ls xs && is_typed ls ys)
  is_typed_stmt ls (s.Either xs ys) = is_typed ls xs && is_typed ls ys

  pub is_typed : List BType → s.BStmts → Truth
  is_typed ls s.skip = true
  is_typed ls (s.first x xs) = is_typed_stmt ls x && is_typed ls xs
