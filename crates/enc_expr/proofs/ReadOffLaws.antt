-- The code of what is well-typed asks of kinds what the locals of its place tell.
use Rattle.std.proofs.Common.{◌≡◌, ◌+◌, ℕ, zero, suc, List, [], ◌∷◌, ◌++◌, length, map, Some, true, nat_lt, get_or, Contains, slice_get, refl, ap, sym, ◌∙◌, arith}
use Rattle.std.specs.Prelude.{option_map}
use Rattle.std.proofs.lemmas.Option.{get_or_from_slice_get, slice_get-map, slice_get-get_or}
use Rattle.std.proofs.lemmas.Bool.{ltb-true}
use Rattle.std.proofs.lemmas.List.{length-map, map-id}
use Rattle.std.specs.List.{range_with_len}
use Rattle.vb_base.specs.declared.places.Pos.{Pos}
use Rattle.vb_value.specs.Layout.{Layout}
use Rattle.vb_value.specs.declared.values.Ty.{Ty}
use Rattle.vb_value.specs.declared.values.Ty.TheVariants as ty
use Rattle.viper_core.specs.Expr as e
use Rattle.viper_core.specs.Formed.{IsFormed, predicate_context}
use Rattle.viper_core.specs.Program.{Predicate}
use Rattle.viper_core.specs.Typing as y
use Rattle.viper_core.specs.Typing.{Context, IsAssertion, IsAmount, Opens}
use Rattle.viper_core.proofs.FormedLaws.{predicate_body_of_typed}
use Rattle.viper_meaning.proofs.TypedLaws.{keys_at}
use Rattle.boogie_tree.specs.Expr as t
use Rattle.boogie_tree.specs.Stmt as s
use Rattle.boogie_tree.specs.Program.{BType, Local as PlainLocal}
use Rattle.boogie_tree.specs.Whole.{type_of, local_of, locals_of}
use Rattle.boogie_tree.specs.declared.programs.Local.{Local}
use Rattle.boogie_tree.specs.Values.{plain_type}
use Rattle.boogie_tree.specs.declared.exprs.BBase.{BBase}
use Rattle.boogie_tree.specs.declared.exprs.BBase.TheVariants as base
use Rattle.moves.specs.Scalars.{base_for, variable_type}
use Rattle.moves.specs.Maps.{index_types, heap_type, mask_type, indexed_type, content_type, state_types}
use Rattle.enc_expr.specs.Place.{Maps, Place, number, with_now, with_vars}
use Rattle.enc_expr.specs.Kinds.{Kinds, kinds_in, type_at, key_at, body_kinds}
use Rattle.enc_expr.specs.Code.{Emitting, join, gives, then_emit, declares, declares_all, Guard, puts}
use Rattle.enc_expr.specs.Pieces.{Atom, Located, atomic, located, index, one}
use Rattle.enc_expr.specs.Operators.{binary_code, chosen_operand, choose_code}
use Rattle.enc_expr.specs.Encoding.{code, unfolding_code, codes, amount_code, body_code, read_code, acc_code, instance_code, is_unit, pair_code, opening_code, taking, copy_state, maps_from}
use Rattle.enc_expr.specs.Typed.{HasPlaceTypes}
use Rattle.enc_expr.specs.ReadOff.{local_types, ty_for, local_type, value_type, key_types, kinds_at, HasNumbers}

-- ---- types there and back

ty_back : (u : Ty) → ty_for (base_for u) ≡ u
ty_back ty.Int = refl
ty_back ty.Bool = refl
ty_back ty.Ref = refl
ty_back ty.Perm = refl

tys_back : (us : List Ty) → map ty_for (map base_for us) ≡ us
tys_back [] = refl
tys_back (u ∷ us) = λ i. ty_back u i ∷ tys_back us i

-- parameters as the index of an instance has them: where there are none it has one Int
abbrev pub spelled : List Ty → List Ty
spelled us = map ty_for (index_types us)

pub spelled_types : (us : List Ty) → index_types (spelled us) ≡ index_types us
spelled_types [] = refl
spelled_types (u ∷ us) = λ i. base_for (ty_back u i) ∷ map base_for (tys_back us i)

spelled_at : (us : List Ty) (x : ℕ) → type_at (spelled us) x ≡ type_at us x
spelled_at [] zero = refl
spelled_at [] (suc x) = refl
spelled_at (u ∷ us) x = λ i. type_at (ty_back u i ∷ tys_back us i) x

abbrev pub spelled_layout : Layout → Layout
spelled_layout l = record { fields = l.fields; keys = map spelled l.keys }

pub indexed_same : (u : BBase) (keys : List (List Ty)) → map (indexed_type u) (map spelled keys) ≡ map (indexed_type u) keys
indexed_same u [] = refl
indexed_same u (us ∷ keys) = λ i. record { keys = spelled_types us i; base = u } ∷ indexed_same u keys i

states_same : (l : Layout) → state_types (spelled_layout l) ≡ state_types l
states_same l = λ i. map heap_type l.fields ++ map mask_type l.fields ++ indexed_same base.Real l.keys i ++ indexed_same base.Snap l.keys i

maps_same : (l : Layout) (n : ℕ) → maps_from (spelled_layout l) n ≡ maps_from l n
maps_same l n = λ i. let predicates = length-map l.keys spelled i in let fields = length l.fields in record {
  heap = range_with_len n fields;
  mask = range_with_len (n + fields) fields;
  amount = range_with_len (n + fields + fields) predicates;
  content = range_with_len (n + fields + fields + predicates) predicates;
}

-- ---- the code

opening_same : {X : Type 0} (l : Layout) (p : Place) (g : Guard) (q : ℕ) (at : Pos) (k : Located) (a : Atom) (go to : Maps → ℕ → Emitting X) → ((own : Maps) (from : ℕ) → go own from ≡ to own from) →
    opening_code (spelled_layout l) p g q at k a go ≡ opening_code l p g q at k a to
opening_same l p g q at k a go to same = λ i. then_emit (declares_all (states_same l i)) (λ n. then_emit (declares (plain_type base.Snap)) (λ from.
    then_emit (puts g (join k.sets (join a.sets (taking p (maps_same l n i) (copy_state (maps_same l n i) p.now) q (index k.locals) a.expr from at)))) (λ u.
    same (maps_same l n i) from i)))

-- the variables that can be named have these types
abbrev pub AreNamed : Context → List Ty → Type 0
AreNamed c vs = (x : ℕ) (u : Ty) → Contains c.visible x → slice_get c.vars x ≡ Some u → type_at vs x ≡ u

abbrev pub spelled_kinds : Context → List Ty → Kinds
spelled_kinds c vs = record { vars = vs; layout = spelled_layout c.program.layout }

-- in the body of a predicate
keys_named : (c : Context) (d : Predicate) (q : ℕ) → slice_get c.program.layout.keys q ≡ Some d.params → AreNamed (predicate_context c.program d) (key_at (map spelled c.program.layout.keys) q)
keys_named c d q there x u visible typed =
    let here : slice_get (map spelled c.program.layout.keys) q ≡ Some (spelled d.params) = slice_get-map spelled c.program.layout.keys q ∙ ap (option_map spelled) there in
    ap (λ (us : List Ty). type_at us x) (get_or_from_slice_get (map spelled c.program.layout.keys) q (spelled d.params) [] here) ∙ spelled_at d.params x ∙ get_or_from_slice_get d.params x u ty.Int typed

keys_are : (c : Context) (d : Predicate) (q : ℕ) → slice_get c.program.layout.keys q ≡ Some d.params → kinds_in (predicate_context c.program d) ≡ body_kinds (kinds_in c) q
keys_are c d q there = ap (λ (us : List Ty). record { vars = us; layout = c.program.layout }) (sym (get_or_from_slice_get c.program.layout.keys q d.params [] there))

mutual
  pub code_same : (c : Context) (vs : List Ty) (p : Place) (g : Guard) (a : e.Expr) (u : Ty) → IsFormed c.program → y.HasType c a u → AreNamed c vs → code (spelled_kinds c vs) p g a ≡ code (kinds_in c) p g a
  code_same c vs p g (e.Var x) u formed (y.variable visible there) named =
      ap (λ (w : Ty). gives (record { expr = t.Var (number p.vars x); base = base_for w })) (named x u visible there ∙ sym (get_or_from_slice_get c.vars x u ty.Int there))
  code_same c vs p g (e.Int n) _ formed (y.literal l) named = refl
  code_same c vs p g (e.Bool q) _ formed y.truth named = refl
  code_same c vs p g e.Null _ formed y.null named = refl
  code_same c vs p g (e.Part q) _ formed (y.part l) named = refl
  code_same c vs p g (e.Neg a) u formed (y.negative h counts) named = λ i. then_emit (code_same c vs p g a u formed h named i) (λ x. gives (record { expr = t.Neg x.expr; base = x.base }))
  code_same c vs p g (e.Not a) _ formed (y.negation h) named = λ i. then_emit (code_same c vs p g a ty.Bool formed h named i) (λ x. gives (record { expr = t.Not x.expr; base = base.Bool }))
  code_same c vs p g (e.Bin o a d at) u formed (y.binary {left = v} {right = w} h k typed) named =
      λ i. binary_code p g o at (code_same c vs p g a v formed h named i) (λ m. code_same c vs p m d w formed k named i)
  code_same c vs p g (e.Choose a d f) u formed (y.choice h k l) named = λ i. then_emit (code_same c vs p g a ty.Bool formed h named i) (λ x.
      choose_code g x.expr (λ m. code_same c vs p m d u formed k named i) (λ m. code_same c vs p m f u formed l named i) chosen_operand)
  code_same c vs p g (e.Field a f at) u formed (y.field h there) named = λ i. then_emit (code_same c vs p g a ty.Ref formed h named i) (read_code (kinds_in c) p g f at)
  code_same c vs p g (e.Old a) u formed (y.old allowed h) named = code_same c vs (with_now p.old p) g a u formed h named
  code_same c vs p g (e.Unfolding o) u formed (y.unfolded outside h) named = unfolding_same c vs p g o u formed h named

  unfolding_same : (c : Context) (vs : List Ty) (p : Place) (g : Guard) (o : e.Opened) (u : Ty) → IsFormed c.program → Opens c o u → AreNamed c vs → unfolding_code (spelled_kinds c vs) p g o ≡ unfolding_code (kinds_in c) p g o
  unfolding_same c vs p g (e.opened q args amount body inner at) u formed (y.opens d there has_body h k l) named = let keys = keys_at c formed q d there in
      λ i. then_emit (codes_same c vs p g args d.params formed h named i) (λ xs. then_emit (code_same c vs p g amount ty.Perm formed k named i) (λ m.
      then_emit (located xs) (λ z. then_emit (atomic m) (λ a. opening_same c.program.layout p g q at z a
      (λ own from. then_emit (body_code (body_kinds (spelled_kinds c vs) q) (with_now own (with_vars z.locals p)) g a.expr body from) (λ w. code (spelled_kinds c vs) (with_now own p) g inner))
      (λ own from. then_emit (body_code (body_kinds (kinds_in c) q) (with_now own (with_vars z.locals p)) g a.expr body from) (λ w. code (kinds_in c) (with_now own p) g inner))
      (λ own from j. then_emit ((body_same (predicate_context c.program d) (key_at (map spelled c.program.layout.keys) q) (with_now own (with_vars z.locals p)) g a.expr body from formed
      (predicate_body_of_typed c.program formed.typed q d body there has_body) (keys_named c d q keys)
      ∙ ap (λ (ks : Kinds). body_code ks (with_now own (with_vars z.locals p)) g a.expr body from) (keys_are c d q keys)) j)
      (λ w. code_same c vs (with_now own p) g inner u formed l named j)) i))))

  pub codes_same : (c : Context) (vs : List Ty) (p : Place) (g : Guard) (xs : e.Exprs) (us : List Ty) → IsFormed c.program → y.HaveTypes c xs us → AreNamed c vs → codes (spelled_kinds c vs) p g xs ≡ codes (kinds_in c) p g xs
  codes_same c vs p g e.none _ formed y.nothing named = refl
  codes_same c vs p g (e.more a rest) _ formed (y.also {u = u} {us = us} h k) named = λ i. then_emit (code_same c vs p g a u formed h named i) (λ x. then_emit (codes_same c vs p g rest us formed k named i) (λ xs. gives (x ∷ xs)))

  pub amount_same : (c : Context) (vs : List Ty) (p : Place) (g : Guard) (m : e.Amt) → IsFormed c.program → IsAmount c m → AreNamed c vs → amount_code (spelled_kinds c vs) p g m ≡ amount_code (kinds_in c) p g m
  amount_same c vs p g (e.Is a) formed (y.amount h) named = code_same c vs p g a ty.Perm formed h named
  amount_same c vs p g e.Wildcard formed (y.wildcard outside) named = refl

  body_same : (c : Context) (vs : List Ty) (p : Place) (g : Guard) (scale : t.BExpr) (a : e.Assertion) (from : ℕ) → IsFormed c.program → IsAssertion c a → AreNamed c vs →
      body_code (spelled_kinds c vs) p g scale a from ≡ body_code (kinds_in c) p g scale a from
  body_same c vs p g scale (e.Fact a at) from formed (y.fact h) named = λ i. then_emit (code_same c vs p g a ty.Bool formed h named i) (λ x. puts g (s.first (s.Assume (is_unit from)) (one (s.Assume x.expr))))
  body_same c vs p g scale (e.Acc a f m at) from formed (y.access h there k) named = λ i. then_emit (code_same c vs p g a ty.Ref formed h named i) (λ x.
      then_emit (amount_same c vs p g m formed k named i) (acc_code (kinds_in c) p g scale f at from x))
  body_same c vs p g scale (e.Inst q args m at) from formed (y.instance d there h k) named = λ i. then_emit (codes_same c vs p g args d.params formed h named i) (λ xs.
      then_emit (amount_same c vs p g m formed k named i) (instance_code p g scale q at from xs))
  body_same c vs p g scale (e.And a d) from formed (y.both h k) named = λ i. then_emit (declares (plain_type base.Snap)) (λ l. then_emit (declares (plain_type base.Snap)) (λ r.
      then_emit (puts g (pair_code from l r)) (λ u. then_emit (body_same c vs p g scale a l formed h named i) (λ u. body_same c vs p g scale d r formed k named i))))
  body_same c vs p g scale (e.Implies a d) from formed (y.implied h k) named = λ i. then_emit (code_same c vs p g a ty.Bool formed h named i) (λ x.
      choose_code g x.expr (λ m. body_same c vs p m scale d from formed k named i) (λ m. puts m (one (s.Assume (is_unit from)))) (λ m u v. tt))
  body_same c vs p g scale (e.ChooseAssertion a d f) from formed (y.chosen h k l) named = λ i. then_emit (code_same c vs p g a ty.Bool formed h named i) (λ x.
      choose_code g x.expr (λ m. body_same c vs p m scale d from formed k named i) (λ m. body_same c vs p m scale f from formed l named i) (λ m u v. tt))

-- ---- what the locals tell

value_read : (ts : List BType) (i : ℕ) (u : BType) → slice_get ts i ≡ Some u → local_type ts i ≡ u
value_read ts i u there = get_or_from_slice_get ts i u (plain_type base.Int) there

-- what is read at each number is what the list has there
all_read : {X Y : Type 0} (f : ℕ → Y) (g : X → Y) (ns : List ℕ) (xs : List X) → length ns ≡ length xs → ((i : ℕ) (x : X) → slice_get xs i ≡ Some x → f (number ns i) ≡ g x) → map f ns ≡ map g xs
all_read f g [] [] same h = refl
all_read f g [] (x ∷ xs) same h = absurd (omega (arith, same))
all_read f g (n ∷ ns) [] same h = absurd (omega (arith, same))
all_read f g (n ∷ ns) (x ∷ xs) same h = λ i. h 0 x refl i ∷ all_read f g ns xs (omega (arith, same)) (λ j y there. h (suc j) y there) i

module _ (c : Context) (p : Place) (ts : List BType) (h : HasPlaceTypes c p ts) (many : HasNumbers c p) where
  fields_read : map (value_type ts) p.now.heap ≡ c.program.layout.fields
  fields_read = all_read (value_type ts) (λ (u : Ty). u) p.now.heap c.program.layout.fields many.heap
      (λ f u there. ap (λ (w : BType). ty_for w.base) (value_read ts (number p.now.heap f) (heap_type u) (h.now.heap f u there)) ∙ ty_back u) ∙ map-id c.program.layout.fields

  keys_read : map (key_types ts) p.now.content ≡ map spelled c.program.layout.keys
  keys_read = all_read (key_types ts) spelled p.now.content c.program.layout.keys many.content
      (λ q us there. ap (λ (w : BType). map ty_for w.keys) (value_read ts (number p.now.content q) (content_type us) (h.now.content q us there)))

  pub kinds_read : kinds_at p ts ≡ spelled_kinds c (map (value_type ts) p.vars)
  kinds_read = λ i. record { vars = map (value_type ts) p.vars; layout = record { fields = fields_read i; keys = keys_read i } }

  pub variables_read : AreNamed c (map (value_type ts) p.vars)
  variables_read x u visible there =
      let here : slice_get (map (value_type ts) p.vars) x ≡ Some (value_type ts (number p.vars x)) = slice_get-map (value_type ts) p.vars x ∙ ap (option_map (value_type ts)) (slice_get-get_or p.vars x 0 (many.vars x visible)) in
      get_or_from_slice_get (map (value_type ts) p.vars) x (value_type ts (number p.vars x)) ty.Int here
      ∙ ap (λ (w : BType). ty_for w.base) (value_read ts (number p.vars x) (variable_type u) (h.vars x u visible there)) ∙ ty_back u

  pub code_read : (g : Guard) (a : e.Expr) (u : Ty) → IsFormed c.program → y.HasType c a u → code (kinds_at p ts) p g a ≡ code (kinds_in c) p g a
  code_read g a u formed typed = ap (λ (k : Kinds). code k p g a) kinds_read ∙ code_same c (map (value_type ts) p.vars) p g a u formed typed variables_read

-- ---- looking up a local

-- the type of the local that was found
pub type_there : (x : Local) (ls : List Local) (i : ℕ) → true ≡ nat_lt i (length ls) → x ≡ get_or ls i x → local_type (local_types (locals_of ls)) i ≡ type_of x.ty
type_there x ls i is there = let here : slice_get ls i ≡ Some x = slice_get-get_or ls i x (ltb-true i (length ls) (sym is)) ∙ ap Some (sym there) in
    value_read (local_types (locals_of ls)) i (type_of x.ty) (slice_get-map (λ (l : PlainLocal). l.ty) (locals_of ls) i
    ∙ ap (option_map (λ (l : PlainLocal). l.ty)) (slice_get-map local_of ls i ∙ ap (option_map local_of) here))
