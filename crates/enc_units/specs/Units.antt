-- Units as procedures of Boogie: where the locals of a unit stand, how its code begins, the procedure as a whole, and what is
-- promised of it.
use Rattle.std.specs.Prelude.{⊤, ◌≡◌, ◌↔◌, ℕ, ◌+◌, pos, false, List, [], ◌∷◌, ◌++◌, map, All, Option, None, Some, drop, length, replicate, slice_get}
use Rattle.std.specs.List.{range_with_len}
use Rattle.sparse.specs.Map.{empty}
use Rattle.vb_base.specs.declared.labels.Label.{Label}
use Rattle.vb_value.specs.Bound.{Bound, Bounded}
use Rattle.vb_value.specs.Fraction.{none}
use Rattle.vb_value.specs.declared.values.Ty.{Ty}
use Rattle.vb_value.specs.declared.values.Ty.TheVariants as ty
use Rattle.viper_core.specs.Program.{Program, Predicate, Method}
use Rattle.viper_core.specs.declared.programs.Unit.{Unit}
use Rattle.viper_core.specs.declared.programs.Unit.TheVariants as unit
use Rattle.viper_state.specs.Choice.{Choice}
use Rattle.viper_state.specs.Event.{Event}
use Rattle.viper_state.specs.Run.{Opening}
use Rattle.viper_state.specs.Within.{IsWithinOpening, IsWithinChoice}
use Rattle.viper_meaning.specs.Asked as asked
use Rattle.viper_meaning.specs.Run.{Fails, ran, on}
use Rattle.viper_meaning.specs.Units.{unit_run, Opens, ViperFails}
use Rattle.boogie_tree.specs.Expr as t
use Rattle.boogie_tree.specs.Program.{BType, Proc}
use Rattle.boogie_tree.specs.Stmt as s
use Rattle.boogie_tree.specs.Value.{Real, BValue, Many}
use Rattle.boogie_tree.specs.declared.exprs.BBase.TheVariants as base
use Rattle.boogie_meaning.specs.Patterns.{zero_code}
use Rattle.boogie_meaning.specs.Programs as b
use Rattle.boogie_meaning.specs.Programs.{default_value, brun_proc, ProcFails}
use Rattle.boogie_meaning.specs.Run.{Stops, Failed}
use Rattle.moves.specs.Maps.{index_types}
use Rattle.moves.specs.Moves.{moves}
use Rattle.enc_expr.specs.Code.{Emitting, join, gives, then_emit, puts}
use Rattle.enc_expr.specs.Coupling.{Env, HasMap, HasVariable, heap_kind, content_kind}
use Rattle.enc_expr.specs.Encoding.{maps_from}
use Rattle.enc_expr.specs.Front.{types_of, front_values}
use Rattle.enc_expr.specs.Kinds.{Kinds}
use Rattle.enc_expr.specs.Locals.{types_of_others, fixed_types, locals_of_unit}
use Rattle.enc_expr.specs.Pieces.{one_real}
use Rattle.enc_expr.specs.Place.{number}
use Rattle.enc_assert.specs.Encoding.{produce_code}
use Rattle.enc_fold.specs.Saved.{copy_held}
use Rattle.enc_locals.specs.Procedure.{unit_name}
use Rattle.enc_block.specs.Encoding.{with_body, with_method, keep_old, method_code}
use Rattle.enc_block.specs.Home.{Home, place}

-- ---- where the fixed locals stand, in their order: those of the opening, masks and amounts, the old state, zero maps, other variables

abbrev pub first_mask : Program → Unit → ℕ
first_mask p u = length (types_of p u) + length p.layout.fields + length p.layout.keys

abbrev pub first_old : Program → Unit → ℕ
first_old p u = first_mask p u + length p.layout.fields + length p.layout.keys

-- the zero map of all masks, before those of the amounts of each predicate
abbrev pub zero_mask : Program → Unit → ℕ
zero_mask p u = first_old p u + length p.layout.fields + length p.layout.fields + length p.layout.keys + length p.layout.keys

abbrev pub first_further : Program → Unit → ℕ
first_further p u = zero_mask p u + 1 + length p.layout.keys

abbrev pub home_of : Program → Unit → Home
home_of p u =
    let vars = length (types_of p u) in let fields = length p.layout.fields in let predicates = length p.layout.keys in
    record {
      vars = range_with_len 0 vars ++ range_with_len (first_further p u) (length (types_of_others p u));
      now = record {
        heap = range_with_len vars fields;
        mask = range_with_len (first_mask p u) fields;
        amount = range_with_len (first_mask p u + fields) predicates;
        content = range_with_len (vars + fields) predicates;
      };
      old = maps_from p.layout (first_old p u);
      nothing = record { heap = []; mask = replicate fields (zero_mask p u); amount = range_with_len (zero_mask p u + 1) predicates; content = [] };
    }

-- ---- how the code begins

-- the zero maps of amounts are zero
abbrev pub zeros_code : ℕ → List (List Ty) → s.BStmts
zeros_code i [] = s.skip
zeros_code i (us ∷ keys) = s.first (zero_code (index_types us) i) (zeros_code (i + 1) keys)

abbrev pub default_code : Ty → t.BExpr
default_code ty.Int = t.Int (pos 0)
default_code ty.Bool = t.Bool false
default_code ty.Ref = t.Null
default_code ty.Perm = t.Real (pos 0)

-- variables from this local on get their defaults
abbrev pub defaults_code : ℕ → List Ty → s.BStmts
defaults_code i [] = s.skip
defaults_code i (u ∷ us) = s.first (s.Assign i (default_code u)) (defaults_code (i + 1) us)

-- what zero maps from this number on, and then the variables behind them, are at first
abbrev pub first_values : ℕ → Program → Unit → s.BStmts
first_values n p u =
    s.first (zero_code (base.Ref ∷ []) n) (join (zeros_code (n + 1) p.layout.keys) (defaults_code (n + 1 + length p.layout.keys) (types_of_others p u)))

-- Zero maps are zero, other variables have their defaults, nothing is held, and the old state is the present one. The opening sets
-- the rest.
abbrev pub start_code : Program → Unit → s.BStmts
start_code p u =
    s.first (zero_code (base.Ref ∷ []) (zero_mask p u)) (join (zeros_code (zero_mask p u + 1) p.layout.keys) (join (defaults_code (first_further p u) (types_of_others p u))
    (join (copy_held (home_of p u).now (home_of p u).nothing) (keep_old (home_of p u)))))

-- ---- the code of a unit

abbrev pub kinds_with : Program → List Ty → Kinds
kinds_with p us = record { vars = us; layout = p.layout }

abbrev pub with_predicate : Option Predicate → (Predicate → Emitting ⊤) → Emitting ⊤
with_predicate None go = gives tt
with_predicate (Some d) go = go d

-- from where nothing is held: a method, or the body of a predicate, which is produced
abbrev pub running_code : Program → Unit → Emitting ⊤
running_code p (unit.Method n) = with_method (slice_get p.methods n) (λ m. method_code p (kinds_with p m.vars) (home_of p (unit.Method n)) m)
running_code p (unit.Predicate n) =
    with_predicate (slice_get p.predicates n) (λ d. with_body d.body (λ body. produce_code (kinds_with p d.params) (place (home_of p (unit.Predicate n)) d.at) None one_real body))

abbrev pub unit_code : Program → Unit → Emitting ⊤
unit_code p u = then_emit (puts None (start_code p u)) (λ x. running_code p u)

-- ---- the procedure of a unit

-- the types of its temporaries
abbrev pub further_types : Program → Unit → List BType
further_types p u = (unit_code p u (length (fixed_types p u))).locals

abbrev pub unit_procedure : Program → Unit → Proc
unit_procedure p u = record { name = unit_name p u; locals = locals_of_unit p u (further_types p u); body = (unit_code p u (length (fixed_types p u))).stmts }

-- ---- where it starts

-- the locals that an opening sets hold it
pub record HoldsOpening (p : Program) (u : Unit) (o : Opening) (E : Env) : Type 0 where
  pub vars : (x : ℕ) (w : Ty) → slice_get (types_of p u) x ≡ Some w → HasVariable w (length (fixed_types p u)) (number (home_of p u).vars x) o.store x E
  pub heap : (f : ℕ) (w : Ty) → slice_get p.layout.fields f ≡ Some w → HasMap (heap_kind w) (length (fixed_types p u)) (number (home_of p u).now.heap f) o.memo.heap f E
  pub content : (q : ℕ) (us : List Ty) → slice_get p.layout.keys q ≡ Some us → HasMap (content_kind us) (length (fixed_types p u)) (number (home_of p u).now.content q) o.memo.content q E

-- the zero maps are zero
pub record HasZeros (p : Program) (u : Unit) (E : Env) : Type 0 where
  pub mask : slice_get E (zero_mask p u) ≡ Some (Many (empty (Real none)))
  pub amount : (q : ℕ) (us : List Ty) → slice_get p.layout.keys q ≡ Some us → slice_get E (zero_mask p u + 1 + q) ≡ Some (Many (empty (Real none)))

-- where a run of a procedure begins: its first variables have these values, and those behind have their defaults
abbrev pub started : List BType → List BValue → Env
started ts vs = vs ++ map default_value (drop (length vs) ts)

-- ---- what is promised

-- some run of the procedure fails at a label exactly when some run of the unit does
abbrev pub IsExact : Program → ℕ → Unit → Type 0
IsExact p n u = (label : Label) → ProcFails (unit_procedure p u) label ↔ ViperFails p n label

-- A run of the unit within the bound that fails is one of its procedure: from the values of the opening, with defaults elsewhere,
-- and on the moves of what the run recorded, of which none is left. With the bound it fails so, and without it. Choices that the
-- run did not take need not fit.
abbrev pub Transfers : Program → ℕ → Unit → Type 0
Transfers p n u = (o : Opening) (choices : List Choice) (events : List Event) (left : List Choice) (label : Label) → Opens p n o → IsWithinOpening o → All asked.IsReducedChoice choices → All IsWithinChoice choices →
    on (unit_run Bounded p n o) choices ≡ ran events (Fails label) left →
    (bound : Bound) → brun_proc bound (unit_procedure p u) (started (b.types_of (unit_procedure p u)) (front_values o)) (moves events) ≡ Stops (Failed label) []
