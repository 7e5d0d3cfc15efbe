-- Expressions whose values and whose code's runs were worked out by hand. Each is read in this program, whose fields and variables
-- have other types before and behind those that are used:
--
--   field g: Bool field f: Int field h: Ref
--   predicate Q(n: Int, y: Ref) { acc(y.h, 1/2) && (n > 0 ==> P(y.h)) }
--   predicate P(x: Ref) { acc(x.f) }
--   method m(b: Bool, x: Ref, n: Int, y: Ref)
--   {
--     assert (old(x.f) == 4 ? unfolding acc(Q(n, y), 1/2) in unfolding acc(P(y.h), 1/2) in y.h.f + n > 6 : x.f > 0) && (b || x.f > 0)
--   }
--   predicate R(x: Ref, n: Int) { acc(x.f, n/2) }
--
-- The expressions of smaller files keep the places that they have there.
use Rattle.std.proofs.Common.{◌≡◌, ℕ, ℤ, pos, negsuc, Bool as Truth, true, false, ◌&&◌, [], ◌∷◌, ◌++◌, List, None, map, length, slice_index_or, lit<, lit≤}
use Rattle.sparse.specs.Map.{Map, empty}
use Rattle.vb_base.specs.declared.labels.Label.{Label}
use Rattle.vb_base.specs.declared.labels.Kind.{Kind}
use Rattle.vb_base.specs.declared.places.Pos.{Pos}
use Rattle.vb_value.specs.Bound.{Bound}
use Rattle.vb_value.specs.Content as content
use Rattle.vb_value.specs.Content.{Content}
use Rattle.vb_value.specs.Fraction.{Fraction, none, write}
use Rattle.vb_value.specs.declared.keys.KeyPart.TheVariants as part
use Rattle.vb_value.specs.declared.values.Ty.TheVariants as ty
use Rattle.vb_value.specs.declared.values.Value.{Value}
use Rattle.vb_value.specs.declared.values.Value.TheVariants as v
use Rattle.viper_core.specs.declared.exprs.Op.TheVariants as op
use Rattle.viper_core.specs.Expr as t
use Rattle.viper_state.specs.Event as event
use Rattle.viper_state.specs.Event.{Event}
use Rattle.viper_state.specs.State.{Key, State}
use Rattle.viper_meaning.specs.Ends as meaning
use Rattle.viper_meaning.specs.Value.{value}
use Rattle.boogie_tree.specs.Program.{BType}
use Rattle.boogie_tree.specs.Value as boogie
use Rattle.boogie_tree.specs.declared.exprs.BBase.{BBase}
use Rattle.boogie_tree.specs.declared.exprs.BBase.TheVariants as base
use Rattle.boogie_meaning.specs.Quantified.{bvalue}
use Rattle.boogie_meaning.specs.Run as run
use Rattle.boogie_meaning.specs.Types.{base_of, is_base, is_typed}
use Rattle.moves.specs.Scalars.{scalar, variable_type}
use Rattle.moves.specs.Maps.{place_key, instance_key, heap_type, mask_type, amount_type, content_type}
use Rattle.moves.specs.Moves.{moves}
use Rattle.enc_expr.specs.Place.{Place}
use Rattle.enc_expr.specs.Kinds.{Kinds}
use Rattle.enc_expr.specs.Code.{Code}
use Rattle.enc_expr.specs.Pieces.{Operand}
use Rattle.enc_expr.specs.Encoding.{code}

-- ---- where a state stands

abbrev pub kinds : Kinds
kinds = record {
  vars = ty.Bool ∷ ty.Ref ∷ ty.Int ∷ ty.Ref ∷ [];
  layout = record { fields = ty.Bool ∷ ty.Int ∷ ty.Ref ∷ []; keys = (ty.Int ∷ ty.Ref ∷ []) ∷ (ty.Ref ∷ []) ∷ (ty.Ref ∷ ty.Int ∷ []) ∷ [] };
}

-- the variables b, x, n, y; the fields g, f, h; the predicates Q, P, R
abbrev pub place : Pos → Place
place at = record {
  vars = 3 ∷ 0 ∷ 2 ∷ 1 ∷ [];
  now = record { heap = 5 ∷ 6 ∷ 4 ∷ []; mask = 8 ∷ 7 ∷ 9 ∷ []; amount = 12 ∷ 10 ∷ 11 ∷ []; content = 13 ∷ 14 ∷ 15 ∷ [] };
  old = record { heap = 16 ∷ 17 ∷ 18 ∷ []; mask = 19 ∷ 20 ∷ 21 ∷ []; amount = 23 ∷ 24 ∷ 22 ∷ []; content = 26 ∷ 25 ∷ 27 ∷ [] };
  at = at;
}

-- the types of these locals
abbrev pub locals : List BType
locals =
    variable_type ty.Ref ∷ variable_type ty.Ref ∷ variable_type ty.Int ∷ variable_type ty.Bool ∷
    heap_type ty.Ref ∷ heap_type ty.Bool ∷ heap_type ty.Int ∷ mask_type ty.Int ∷ mask_type ty.Bool ∷ mask_type ty.Ref ∷
    amount_type (ty.Ref ∷ []) ∷ amount_type (ty.Ref ∷ ty.Int ∷ []) ∷ amount_type (ty.Int ∷ ty.Ref ∷ []) ∷
    content_type (ty.Int ∷ ty.Ref ∷ []) ∷ content_type (ty.Ref ∷ []) ∷ content_type (ty.Ref ∷ ty.Int ∷ []) ∷
    heap_type ty.Bool ∷ heap_type ty.Int ∷ heap_type ty.Ref ∷ mask_type ty.Bool ∷ mask_type ty.Int ∷ mask_type ty.Ref ∷
    amount_type (ty.Ref ∷ ty.Int ∷ []) ∷ amount_type (ty.Int ∷ ty.Ref ∷ []) ∷ amount_type (ty.Ref ∷ []) ∷
    content_type (ty.Ref ∷ []) ∷ content_type (ty.Int ∷ ty.Ref ∷ []) ∷ content_type (ty.Ref ∷ ty.Int ∷ []) ∷ []

abbrev pub image : {K V : Type 0} → (K → boogie.Key) → (V → boogie.BScalar) → Map K V → boogie.BValue
image {K} {V} key scalar m = boogie.Many (record { default = scalar m.default; entries = map (λ (e : K × V). (key e.0, scalar e.1)) m.entries })

abbrev pub variable : List Value → ℕ → boogie.BValue
variable vs x = boogie.One (scalar (slice_index_or vs x (v.Int (pos 0))))

abbrev pub heap : State → ℕ → boogie.BValue
heap s f = image place_key scalar (slice_index_or s.heap f (empty (v.Int (pos 0))))

abbrev pub mask : State → ℕ → boogie.BValue
mask s f = image place_key boogie.Real (slice_index_or s.mask f (empty none))

abbrev pub amount : State → ℕ → boogie.BValue
amount s q = image instance_key boogie.Real (slice_index_or s.amount q (empty none))

abbrev pub contents : State → ℕ → boogie.BValue
contents s q = image instance_key boogie.Snap (slice_index_or s.content q (empty content.Unit))

-- the values of these locals
abbrev pub environment : List Value → State → State → List boogie.BValue
environment vs now old =
    variable vs 1 ∷ variable vs 3 ∷ variable vs 2 ∷ variable vs 0 ∷ heap now 2 ∷ heap now 0 ∷ heap now 1 ∷ mask now 1 ∷ mask now 0 ∷ mask now 2 ∷
    amount now 1 ∷ amount now 2 ∷ amount now 0 ∷ contents now 0 ∷ contents now 1 ∷ contents now 2 ∷
    heap old 0 ∷ heap old 1 ∷ heap old 2 ∷ mask old 0 ∷ mask old 1 ∷ mask old 2 ∷
    amount old 2 ∷ amount old 0 ∷ amount old 1 ∷ contents old 1 ∷ contents old 0 ∷ contents old 2 ∷ []

-- what a new local holds at first is of no matter
abbrev pub stale_scalar : BBase → boogie.BScalar
stale_scalar base.Int = boogie.Int (pos 77)
stale_scalar base.Bool = boogie.Bool true
stale_scalar base.Ref = boogie.Ref 77
stale_scalar base.Real = boogie.Real write
stale_scalar base.Snap = boogie.Snap (content.Pair content.Unit content.Unit)

abbrev pub stale_by : List BBase → BBase → boogie.BValue
stale_by [] u = boogie.One (stale_scalar u)
stale_by (k ∷ ks) u = boogie.Many (empty (stale_scalar u))

abbrev pub stale : BType → boogie.BValue
stale u = stale_by u.keys u.base

-- ---- what is said of each

-- an expression, the step that reads it, and where it is read
pub record Example : Type 0 where
  pub at : Pos
  pub expr : t.Expr
  pub store : List Value
  pub now : State
  pub old : State

abbrev pub piece : Example → Code Operand
piece x = code kinds (place x.at) None x.expr (length locals)

abbrev pub evaluated : Bound → Example → meaning.Evaluated Value
evaluated b x = value b x.expr x.now (record { store = x.store; old = x.old; at = x.at })

-- the run of the code, and behind it the value of its operand alone
abbrev pub ran : Bound → Code Operand → List boogie.BValue → List boogie.BChoice → run.Run
ran b c env cs =
    run.then_run (run.brun (locals ++ c.locals) b c.stmts (env ++ map stale c.locals) cs) (λ E rest.
    run.with_end (bvalue b c.value.expr E) rest (λ v. run.Done (boogie.One v ∷ []) rest))

abbrev pub is_fine : Code Operand → Truth
is_fine c = is_typed (locals ++ c.locals) c.stmts && is_base (base_of (locals ++ c.locals) None c.value.expr) c.value.base

-- The meaning has this end, with these events; on these choices, which are the moves of the events, the run of the code has that
-- end; and the code is well-typed.
pub record Ends (b : Bound) (x : Example) (events : List Event) (end : meaning.End Value) (choices : List boogie.BChoice) (ends : run.Run) : Type 0 where
  pub means : evaluated b x ≡ meaning.ends events end
  pub moves : moves events ≡ choices
  pub runs : ran b (piece x) (environment x.store x.now x.old) choices ≡ ends
  pub typed : is_fine (piece x) ≡ true

abbrev pub Gives : Bound → Example → List Event → Truth → List boogie.BChoice → Type 0
Gives b x events p choices = Ends b x events (meaning.Is (v.Bool p)) choices (run.Done (boogie.One (boogie.Bool p) ∷ []) [])

-- the same label on both sides
abbrev pub Fails : Bound → Example → List Event → List boogie.BChoice → Pos → Kind → Type 0
Fails b x events choices part kind =
    let l : Label = record { at = x.at; part = part; kind = kind } in Ends b x events (meaning.Fails l) choices (run.Stops (run.Failed l) [])

-- ---- states

abbrev pub key_P : ℕ → Key
key_P x = part.Ref x ∷ []

abbrev pub key_Q : ℤ → ℕ → Key
key_Q n y = part.Int n ∷ part.Ref y ∷ []

abbrev pub key_R : ℕ → ℤ → Key
key_R x n = part.Ref x ∷ part.Int n ∷ []

abbrev pub leaf_int : ℤ → Content
leaf_int n = content.Leaf (v.Int n)

abbrev pub leaf_ref : ℕ → Content
leaf_ref r = content.Leaf (v.Ref r)

abbrev pub of_Q : Content
of_Q = content.Pair (leaf_ref 1) (leaf_int (pos 5))

abbrev pub half_held : Fraction
half_held = record { num = pos 1; den = 2 }

abbrev pub ints : List (ℕ × Value) → Map ℕ Value
ints es = record { default = v.Int (pos 0); entries = es }

abbrev pub held : {K : Type 0} → List (K × Fraction) → Map K Fraction
held es = record { default = none; entries = es }

abbrev pub known : List (Key × Content) → Map Key Content
known es = record { default = content.Unit; entries = es }

-- by the heap and mask of f, and the amounts and contents of P
abbrev pub state : List (ℕ × Value) → List (ℕ × Fraction) → List (Key × Fraction) → List (Key × Content) → State
state f mask_f amount_P content_P = record {
  heap = (record { default = v.Bool false; entries = (1, v.Bool true) ∷ [] }) ∷ ints f ∷ (record { default = v.Ref 0; entries = (1, v.Ref 2) ∷ (3, v.Ref 2) ∷ [] }) ∷ [];
  mask = held ((2, half_held) ∷ []) ∷ held mask_f ∷ held ((1, write) ∷ []) ∷ [];
  amount = held ((key_Q (negsuc 0) 3, write) ∷ (key_Q (pos 0) 3, write) ∷ (key_Q (pos 2) 3, record { num = pos 2; den = 3 }) ∷ []) ∷ held amount_P ∷
      held ((key_R 1 (negsuc 0), write) ∷ (key_R 1 (pos 0), write) ∷ (key_R 2 (pos 0), write) ∷ []) ∷ [];
  content =
      known ((key_Q (negsuc 0) 3, of_Q) ∷ (key_Q (pos 0) 3, content.Pair (leaf_ref 1) content.Unit) ∷ (key_Q (pos 2) 3, of_Q) ∷ []) ∷
      known content_P ∷ known ((key_R 1 (negsuc 0), leaf_int (pos 3)) ∷ (key_R 2 (pos 0), leaf_int (pos 3)) ∷ []) ∷ [];
}

-- what x.f was
abbrev pub before : ℤ → State
before n = state ((1, v.Int n) ∷ []) ((1, record { num = pos 1; den = 3 }) ∷ []) [] []

-- the values of b, x, n and y
abbrev pub store : Truth → ℕ → ℤ → ℕ → List Value
store b x n y = v.Bool b ∷ v.Ref x ∷ v.Int n ∷ v.Ref y ∷ []

-- ---- places

abbrev pub at_1_20 : Pos
at_1_20 = record { line = 1; col = 20; line_in_range = (lit≤ tt, lit< tt); col_in_range = (lit≤ tt, lit< tt) }

abbrev pub at_1_24 : Pos
at_1_24 = record { line = 1; col = 24; line_in_range = (lit≤ tt, lit< tt); col_in_range = (lit≤ tt, lit< tt) }

abbrev pub at_1_29 : Pos
at_1_29 = record { line = 1; col = 29; line_in_range = (lit≤ tt, lit< tt); col_in_range = (lit≤ tt, lit< tt) }

abbrev pub at_1_30 : Pos
at_1_30 = record { line = 1; col = 30; line_in_range = (lit≤ tt, lit< tt); col_in_range = (lit≤ tt, lit< tt) }

abbrev pub at_1_33 : Pos
at_1_33 = record { line = 1; col = 33; line_in_range = (lit≤ tt, lit< tt); col_in_range = (lit≤ tt, lit< tt) }

abbrev pub at_1_34 : Pos
at_1_34 = record { line = 1; col = 34; line_in_range = (lit≤ tt, lit< tt); col_in_range = (lit≤ tt, lit< tt) }

abbrev pub at_1_38 : Pos
at_1_38 = record { line = 1; col = 38; line_in_range = (lit≤ tt, lit< tt); col_in_range = (lit≤ tt, lit< tt) }

abbrev pub at_1_40 : Pos
at_1_40 = record { line = 1; col = 40; line_in_range = (lit≤ tt, lit< tt); col_in_range = (lit≤ tt, lit< tt) }

abbrev pub at_1_42 : Pos
at_1_42 = record { line = 1; col = 42; line_in_range = (lit≤ tt, lit< tt); col_in_range = (lit≤ tt, lit< tt) }

abbrev pub at_1_43 : Pos
at_1_43 = record { line = 1; col = 43; line_in_range = (lit≤ tt, lit< tt); col_in_range = (lit≤ tt, lit< tt) }

abbrev pub at_1_44 : Pos
at_1_44 = record { line = 1; col = 44; line_in_range = (lit≤ tt, lit< tt); col_in_range = (lit≤ tt, lit< tt) }

abbrev pub at_1_46 : Pos
at_1_46 = record { line = 1; col = 46; line_in_range = (lit≤ tt, lit< tt); col_in_range = (lit≤ tt, lit< tt) }

abbrev pub at_1_48 : Pos
at_1_48 = record { line = 1; col = 48; line_in_range = (lit≤ tt, lit< tt); col_in_range = (lit≤ tt, lit< tt) }

abbrev pub at_1_51 : Pos
at_1_51 = record { line = 1; col = 51; line_in_range = (lit≤ tt, lit< tt); col_in_range = (lit≤ tt, lit< tt) }

abbrev pub at_1_57 : Pos
at_1_57 = record { line = 1; col = 57; line_in_range = (lit≤ tt, lit< tt); col_in_range = (lit≤ tt, lit< tt) }

abbrev pub at_1_61 : Pos
at_1_61 = record { line = 1; col = 61; line_in_range = (lit≤ tt, lit< tt); col_in_range = (lit≤ tt, lit< tt) }

abbrev pub at_1_66 : Pos
at_1_66 = record { line = 1; col = 66; line_in_range = (lit≤ tt, lit< tt); col_in_range = (lit≤ tt, lit< tt) }

abbrev pub at_1_72 : Pos
at_1_72 = record { line = 1; col = 72; line_in_range = (lit≤ tt, lit< tt); col_in_range = (lit≤ tt, lit< tt) }

abbrev pub at_1_75 : Pos
at_1_75 = record { line = 1; col = 75; line_in_range = (lit≤ tt, lit< tt); col_in_range = (lit≤ tt, lit< tt) }

abbrev pub at_1_77 : Pos
at_1_77 = record { line = 1; col = 77; line_in_range = (lit≤ tt, lit< tt); col_in_range = (lit≤ tt, lit< tt) }

abbrev pub at_1_82 : Pos
at_1_82 = record { line = 1; col = 82; line_in_range = (lit≤ tt, lit< tt); col_in_range = (lit≤ tt, lit< tt) }

abbrev pub at_2_29 : Pos
at_2_29 = record { line = 2; col = 29; line_in_range = (lit≤ tt, lit< tt); col_in_range = (lit≤ tt, lit< tt) }

abbrev pub at_2_36 : Pos
at_2_36 = record { line = 2; col = 36; line_in_range = (lit≤ tt, lit< tt); col_in_range = (lit≤ tt, lit< tt) }

abbrev pub at_2_41 : Pos
at_2_41 = record { line = 2; col = 41; line_in_range = (lit≤ tt, lit< tt); col_in_range = (lit≤ tt, lit< tt) }

abbrev pub at_2_51 : Pos
at_2_51 = record { line = 2; col = 51; line_in_range = (lit≤ tt, lit< tt); col_in_range = (lit≤ tt, lit< tt) }

abbrev pub at_2_59 : Pos
at_2_59 = record { line = 2; col = 59; line_in_range = (lit≤ tt, lit< tt); col_in_range = (lit≤ tt, lit< tt) }

abbrev pub at_2_63 : Pos
at_2_63 = record { line = 2; col = 63; line_in_range = (lit≤ tt, lit< tt); col_in_range = (lit≤ tt, lit< tt) }

abbrev pub at_3_29 : Pos
at_3_29 = record { line = 3; col = 29; line_in_range = (lit≤ tt, lit< tt); col_in_range = (lit≤ tt, lit< tt) }

abbrev pub at_6_3 : Pos
at_6_3 = record { line = 6; col = 3; line_in_range = (lit≤ tt, lit< tt); col_in_range = (lit≤ tt, lit< tt) }

abbrev pub at_6_12 : Pos
at_6_12 = record { line = 6; col = 12; line_in_range = (lit≤ tt, lit< tt); col_in_range = (lit≤ tt, lit< tt) }

abbrev pub at_6_17 : Pos
at_6_17 = record { line = 6; col = 17; line_in_range = (lit≤ tt, lit< tt); col_in_range = (lit≤ tt, lit< tt) }

abbrev pub at_6_18 : Pos
at_6_18 = record { line = 6; col = 18; line_in_range = (lit≤ tt, lit< tt); col_in_range = (lit≤ tt, lit< tt) }

abbrev pub at_6_20 : Pos
at_6_20 = record { line = 6; col = 20; line_in_range = (lit≤ tt, lit< tt); col_in_range = (lit≤ tt, lit< tt) }

abbrev pub at_6_21 : Pos
at_6_21 = record { line = 6; col = 21; line_in_range = (lit≤ tt, lit< tt); col_in_range = (lit≤ tt, lit< tt) }

abbrev pub at_6_24 : Pos
at_6_24 = record { line = 6; col = 24; line_in_range = (lit≤ tt, lit< tt); col_in_range = (lit≤ tt, lit< tt) }

abbrev pub at_6_26 : Pos
at_6_26 = record { line = 6; col = 26; line_in_range = (lit≤ tt, lit< tt); col_in_range = (lit≤ tt, lit< tt) }

abbrev pub at_6_28 : Pos
at_6_28 = record { line = 6; col = 28; line_in_range = (lit≤ tt, lit< tt); col_in_range = (lit≤ tt, lit< tt) }

abbrev pub at_6_30 : Pos
at_6_30 = record { line = 6; col = 30; line_in_range = (lit≤ tt, lit< tt); col_in_range = (lit≤ tt, lit< tt) }

abbrev pub at_6_31 : Pos
at_6_31 = record { line = 6; col = 31; line_in_range = (lit≤ tt, lit< tt); col_in_range = (lit≤ tt, lit< tt) }

abbrev pub at_6_32 : Pos
at_6_32 = record { line = 6; col = 32; line_in_range = (lit≤ tt, lit< tt); col_in_range = (lit≤ tt, lit< tt) }

abbrev pub at_6_33 : Pos
at_6_33 = record { line = 6; col = 33; line_in_range = (lit≤ tt, lit< tt); col_in_range = (lit≤ tt, lit< tt) }

abbrev pub at_6_34 : Pos
at_6_34 = record { line = 6; col = 34; line_in_range = (lit≤ tt, lit< tt); col_in_range = (lit≤ tt, lit< tt) }

abbrev pub at_6_36 : Pos
at_6_36 = record { line = 6; col = 36; line_in_range = (lit≤ tt, lit< tt); col_in_range = (lit≤ tt, lit< tt) }

abbrev pub at_6_38 : Pos
at_6_38 = record { line = 6; col = 38; line_in_range = (lit≤ tt, lit< tt); col_in_range = (lit≤ tt, lit< tt) }

abbrev pub at_6_41 : Pos
at_6_41 = record { line = 6; col = 41; line_in_range = (lit≤ tt, lit< tt); col_in_range = (lit≤ tt, lit< tt) }

abbrev pub at_6_42 : Pos
at_6_42 = record { line = 6; col = 42; line_in_range = (lit≤ tt, lit< tt); col_in_range = (lit≤ tt, lit< tt) }

abbrev pub at_6_43 : Pos
at_6_43 = record { line = 6; col = 43; line_in_range = (lit≤ tt, lit< tt); col_in_range = (lit≤ tt, lit< tt) }

abbrev pub at_6_44 : Pos
at_6_44 = record { line = 6; col = 44; line_in_range = (lit≤ tt, lit< tt); col_in_range = (lit≤ tt, lit< tt) }

abbrev pub at_6_45 : Pos
at_6_45 = record { line = 6; col = 45; line_in_range = (lit≤ tt, lit< tt); col_in_range = (lit≤ tt, lit< tt) }

abbrev pub at_6_48 : Pos
at_6_48 = record { line = 6; col = 48; line_in_range = (lit≤ tt, lit< tt); col_in_range = (lit≤ tt, lit< tt) }

abbrev pub at_6_50 : Pos
at_6_50 = record { line = 6; col = 50; line_in_range = (lit≤ tt, lit< tt); col_in_range = (lit≤ tt, lit< tt) }

abbrev pub at_6_51 : Pos
at_6_51 = record { line = 6; col = 51; line_in_range = (lit≤ tt, lit< tt); col_in_range = (lit≤ tt, lit< tt) }

abbrev pub at_6_55 : Pos
at_6_55 = record { line = 6; col = 55; line_in_range = (lit≤ tt, lit< tt); col_in_range = (lit≤ tt, lit< tt) }

abbrev pub at_6_63 : Pos
at_6_63 = record { line = 6; col = 63; line_in_range = (lit≤ tt, lit< tt); col_in_range = (lit≤ tt, lit< tt) }

abbrev pub at_6_65 : Pos
at_6_65 = record { line = 6; col = 65; line_in_range = (lit≤ tt, lit< tt); col_in_range = (lit≤ tt, lit< tt) }

abbrev pub at_6_67 : Pos
at_6_67 = record { line = 6; col = 67; line_in_range = (lit≤ tt, lit< tt); col_in_range = (lit≤ tt, lit< tt) }

abbrev pub at_6_72 : Pos
at_6_72 = record { line = 6; col = 72; line_in_range = (lit≤ tt, lit< tt); col_in_range = (lit≤ tt, lit< tt) }

abbrev pub at_6_76 : Pos
at_6_76 = record { line = 6; col = 76; line_in_range = (lit≤ tt, lit< tt); col_in_range = (lit≤ tt, lit< tt) }

abbrev pub at_6_81 : Pos
at_6_81 = record { line = 6; col = 81; line_in_range = (lit≤ tt, lit< tt); col_in_range = (lit≤ tt, lit< tt) }

abbrev pub at_6_89 : Pos
at_6_89 = record { line = 6; col = 89; line_in_range = (lit≤ tt, lit< tt); col_in_range = (lit≤ tt, lit< tt) }

abbrev pub at_6_91 : Pos
at_6_91 = record { line = 6; col = 91; line_in_range = (lit≤ tt, lit< tt); col_in_range = (lit≤ tt, lit< tt) }

abbrev pub at_6_92 : Pos
at_6_92 = record { line = 6; col = 92; line_in_range = (lit≤ tt, lit< tt); col_in_range = (lit≤ tt, lit< tt) }

abbrev pub at_6_98 : Pos
at_6_98 = record { line = 6; col = 98; line_in_range = (lit≤ tt, lit< tt); col_in_range = (lit≤ tt, lit< tt) }

abbrev pub at_6_106 : Pos
at_6_106 = record { line = 6; col = 106; line_in_range = (lit≤ tt, lit< tt); col_in_range = (lit≤ tt, lit< tt) }

abbrev pub at_6_108 : Pos
at_6_108 = record { line = 6; col = 108; line_in_range = (lit≤ tt, lit< tt); col_in_range = (lit≤ tt, lit< tt) }

abbrev pub at_6_113 : Pos
at_6_113 = record { line = 6; col = 113; line_in_range = (lit≤ tt, lit< tt); col_in_range = (lit≤ tt, lit< tt) }

abbrev pub at_6_119 : Pos
at_6_119 = record { line = 6; col = 119; line_in_range = (lit≤ tt, lit< tt); col_in_range = (lit≤ tt, lit< tt) }

abbrev pub at_6_124 : Pos
at_6_124 = record { line = 6; col = 124; line_in_range = (lit≤ tt, lit< tt); col_in_range = (lit≤ tt, lit< tt) }

abbrev pub at_6_126 : Pos
at_6_126 = record { line = 6; col = 126; line_in_range = (lit≤ tt, lit< tt); col_in_range = (lit≤ tt, lit< tt) }

abbrev pub at_8_37 : Pos
at_8_37 = record { line = 8; col = 37; line_in_range = (lit≤ tt, lit< tt); col_in_range = (lit≤ tt, lit< tt) }

abbrev pub at_8_41 : Pos
at_8_41 = record { line = 8; col = 41; line_in_range = (lit≤ tt, lit< tt); col_in_range = (lit≤ tt, lit< tt) }

-- ---- trees

abbrev pub int : ℕ → t.Expr
int n = t.Int (pos n)

abbrev pub all : t.Expr
all = t.Part write

abbrev pub half : Pos → t.Expr
half at = t.Bin op.Divide (int 1) (int 2) at

abbrev pub x_f : Pos → t.Expr
x_f at = t.Field (t.Var 1) 1 at

abbrev pub y_h : Pos → t.Expr
y_h at = t.Field (t.Var 3) 2 at

abbrev pub equal : t.Expr → t.Expr → Pos → t.Expr
equal a c at = t.Bin op.Eq a c at

abbrev pub above : t.Expr → ℕ → Pos → t.Expr
above a n at = t.Bin op.Gt a (int n) at

-- field f: Int method m(x: Ref) { assert x.f == 1 }
abbrev pub reads_f : ℕ → List (ℕ × Fraction) → Example
reads_f x mask_f = record {
  at = at_1_33;
  expr = equal (x_f at_1_42) (int 1) at_1_44;
  store = store false x (pos 5) 3;
  now = state ((1, v.Int (pos 1)) ∷ (2, v.Int (pos 8)) ∷ []) mask_f [] [];
  old = before (pos 4);
}

-- a state of no matter
abbrev pub somewhere : State
somewhere = state ((1, v.Int (pos 3)) ∷ []) ((3, write) ∷ []) [] []

abbrev pub computes : Pos → t.Expr → ℤ → Example
computes at e n = record { at = at; expr = e; store = store false 3 n 1; now = somewhere; old = before (pos 4) }

-- method bound(x: Int) { assert x + 170141183460469231731687303715884105727 > 0 }, which is the largest number
abbrev pub sum : t.Expr
sum = above (t.Bin op.Add (t.Var 2) (int 170141183460469231731687303715884105727) at_1_33) 0 at_1_75

-- method m(x: Int) { assert 7 \ x == 0 }
abbrev pub quotient : t.Expr
quotient = equal (t.Bin op.IntDiv (int 7) (t.Var 2) at_1_29) (int 0) at_1_33

-- method m(x: Int) { assert -7 \ 2 == -4 && -7 % -2 == 1 }
abbrev pub quotients : t.Expr
quotients =
    t.Bin op.And (equal (t.Bin op.IntDiv (t.Neg (int 7)) (int 2) at_1_30) (t.Neg (int 4)) at_1_34)
    (equal (t.Bin op.IntMod (t.Neg (int 7)) (t.Neg (int 2)) at_1_46) (int 1) at_1_51) at_1_40

-- method m(x: Int) { assert (x * write == x / 1) <==> !(x % 2 != 0 ==> 1 / (x % 2) == none) }
abbrev pub operators : t.Expr
operators =
    t.Bin op.Iff (equal (t.Bin op.Mul (t.Var 2) all at_1_30) (t.Bin op.Divide (t.Var 2) (int 1) at_1_43) at_1_38)
    (t.Not (t.Bin op.Implies (t.Bin op.Ne (t.Bin op.IntMod (t.Var 2) (int 2) at_1_57) (int 0) at_1_61)
    (equal (t.Bin op.Divide (int 1) (t.Bin op.IntMod (t.Var 2) (int 2) at_1_77) at_1_72) (t.Part none) at_1_82) at_1_66)) at_1_48

-- field f: Int
-- predicate P(x: Ref) { acc(x.f) }
-- method m(x: Ref)
--   requires P(x)
-- {
--   assert unfolding P(x) in x.f > 0
-- }
abbrev pub body_P : Pos → t.Assertion
body_P at = t.Acc (t.Var 0) 1 (t.Is all) at

abbrev pub opens : Pos → Pos → Pos → t.Expr
opens name f sign = t.Unfolding (t.opened 1 (t.more (t.Var 1) t.none) all (body_P at_2_29) (above (x_f f) 0 sign) name)

abbrev pub opens_P : t.Expr
opens_P = opens at_6_20 at_6_30 at_6_32

-- the same step with `assert (unfolding P(x) in x.f > 0) && x.f > 0`
abbrev pub opens_and_reads : t.Expr
opens_and_reads = t.Bin op.And (opens at_6_21 at_6_31 at_6_33) (above (x_f at_6_43) 0 at_6_45) at_6_38

-- `assert unfolding P(x) in unfolding P(x) in x.f > 0`
abbrev pub opens_twice : t.Expr
opens_twice = t.Unfolding (t.opened 1 (t.more (t.Var 1) t.none) all (body_P at_2_29) (opens at_6_38 at_6_48 at_6_50) at_6_20)

-- `assert unfolding acc(P(x), n / 2) in x.f > 0`
abbrev pub opens_part : t.Expr
opens_part =
    t.Unfolding (t.opened 1 (t.more (t.Var 1) t.none) (t.Bin op.Divide (t.Var 2) (int 2) at_6_32) (body_P at_2_29) (above (x_f at_6_42) 0 at_6_44) at_6_24)

-- #1.f is 3, and so much is held of it, and of instances of P, which contain this
abbrev pub holding : t.Expr → ℕ → ℤ → List (ℕ × Fraction) → List (Key × Fraction) → List (Key × Content) → Example
holding e x n mask_f amount_P content_P = record {
  at = at_6_3;
  expr = e;
  store = store false x n 3;
  now = state ((1, v.Int (pos 3)) ∷ []) mask_f amount_P (content_P ++ ((key_P 2, leaf_int (pos 9)) ∷ []));
  old = before (pos 4);
}

abbrev pub wholly : ℕ → List (Key × Fraction)
wholly r = (key_P r, write) ∷ []

-- P(#1) is held wholly, x.f is not, and the instance contains this value
abbrev pub with_leaf : t.Expr → ℕ → Example
with_leaf e n = holding e 1 (pos 5) ((2, write) ∷ []) (wholly 1) ((key_P 1, leaf_int (pos n)) ∷ [])

-- of the program above
abbrev pub body_Q : t.Assertion
body_Q =
    t.And (t.Acc (t.Var 1) 2 (t.Is (half at_2_41)) at_2_36)
    (t.Implies (above (t.Var 0) 0 at_2_51) (t.Inst 1 (t.more (t.Field (t.Var 1) 2 at_2_63) t.none) (t.Is all) at_2_59))

abbrev pub opens_half_of_P : t.Expr
opens_half_of_P =
    t.Unfolding (t.opened 1 (t.more (y_h at_6_76) t.none) (half at_6_81) (body_P at_3_29)
    (above (t.Bin op.Add (t.Field (y_h at_6_89) 1 at_6_91) (t.Var 2) at_6_92) 6 at_6_98) at_6_72)

abbrev pub opens_half_of_Q : t.Expr
opens_half_of_Q = t.Unfolding (t.opened 0 (t.more (t.Var 2) (t.more (t.Var 3) t.none)) (half at_6_51) body_Q opens_half_of_P at_6_41)

abbrev pub whole : t.Expr
whole =
    t.Bin op.And (t.Choose (equal (t.Old (x_f at_6_17)) (int 4) at_6_20) opens_half_of_Q (above (x_f at_6_106) 0 at_6_108))
    (t.Bin op.Or (t.Var 0) (above (x_f at_6_124) 0 at_6_126) at_6_119) at_6_113

-- x is #1 and y is #3, and x.f is not held. There was this value in x.f. Q(2, #3) and Q(-1, #3) contain #1 for y.h and 5 for
-- P(#1), and Q(0, #3) just #1 for y.h. So much is held of instances of P, and P(#1) contains 9.
abbrev pub in_whole : t.Expr → List (Key × Fraction) → Truth → ℤ → ℤ → Example
in_whole e amount_P p n was = record {
  at = at_6_3;
  expr = e;
  store = store p 1 n 3;
  now = state ((1, v.Int (pos 3)) ∷ []) ((2, write) ∷ []) amount_P ((key_P 1, leaf_int (pos 9)) ∷ (key_P 2, leaf_int (pos 9)) ∷ []);
  old = before was;
}

-- `assert b && (n > 0 ? x.f > 0 : x.f > 1) || n > 4`
abbrev pub nested : t.Expr
nested =
    t.Bin op.Or (t.Bin op.And (t.Var 0) (t.Choose (above (t.Var 2) 0 at_6_18) (above (x_f at_6_26) 0 at_6_28) (above (x_f at_6_36) 1 at_6_38)) at_6_12)
    (above (t.Var 2) 4 at_6_48) at_6_43

-- `assert unfolding R(x, n) in n > 0`
abbrev pub opens_R : t.Expr
opens_R =
    t.Unfolding (t.opened 2 (t.more (t.Var 1) (t.more (t.Var 2) t.none)) all
    (t.Acc (t.Var 0) 1 (t.Is (t.Bin op.Divide (t.Var 1) (int 2) at_8_41)) at_8_37) (above (t.Var 2) 0 at_6_33) at_6_20)

-- R(#1, -1) and R(#2, 0) contain 3, and R(#1, 0) contains nothing
abbrev pub by_amounts : ℕ → ℤ → Example
by_amounts x n = record {
  at = at_6_3;
  expr = opens_R;
  store = store false x n 3;
  now = somewhere;
  old = before (pos 4);
}

abbrev pub in_all : Truth → ℤ → ℤ → Example
in_all = in_whole whole []

-- `assert unfolding acc(Q(n, y), 1/2) in unfolding P(y.h) in y.h.f > 0`
abbrev pub opens_more : t.Expr
opens_more =
    t.Unfolding (t.opened 0 (t.more (t.Var 2) (t.more (t.Var 3) t.none)) (half at_6_34) body_Q
    (t.Unfolding (t.opened 1 (t.more (y_h at_6_55) t.none) all (body_P at_3_29) (above (t.Field (y_h at_6_63) 1 at_6_65) 0 at_6_67) at_6_51)) at_6_24)

-- of Q(2, #3), and of both
abbrev pub events_Q : List Event
events_Q = event.Split (leaf_ref 1) (leaf_int (pos 5)) ∷ event.Leaf (v.Ref 1) ∷ []

abbrev pub events_in_all : List Event
events_in_all = events_Q ++ (event.Leaf (v.Int (pos 5)) ∷ [])

abbrev pub choices_Q : List boogie.BChoice
choices_Q = boogie.Value (boogie.Snap (leaf_ref 1)) ∷ boogie.Value (boogie.Snap (leaf_int (pos 5))) ∷ boogie.Value (boogie.Ref 1) ∷ []

abbrev pub choices_in_all : List boogie.BChoice
choices_in_all = choices_Q ++ (boogie.Value (boogie.Int (pos 5)) ∷ [])
