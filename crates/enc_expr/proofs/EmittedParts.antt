-- What the small calls emit and add, in terms of the lists that they change.
use Rattle.std.proofs.Common.{◌≡◌, ◌∙◌, ℕ, zero, suc, ◌+◌, ◌<◌, ◌≤◌, ◌==◌, List, [], ◌∷◌, ◌++◌, Some, None, Bool as Truth, true, false, if◌then◌else◌, Result, OnOk, length, take, drop, map, get_or, refl, ap, sym, subst, append_assoc, append-nil, length-append, arith}
use Rattle.std.specs.List.{range_with_len}
use Rattle.std.proofs.lemmas.Bool.Decides.{Decides-eqb}
use Rattle.std.proofs.lemmas.List.{length-map}
use Rattle.std.proofs.Math.Numerals.{add-one}
use Rattle.std.proofs.Math.Seq.{drop-cons}
use Rattle.lemmas.proofs.Lists.{no_items}
use Rattle.boogie_tree.specs.Expr as t
use Rattle.boogie_tree.specs.Stmt as s
use Rattle.boogie_tree.specs.Program.{BType, Local}
use Rattle.boogie_tree.specs.declared.exprs.BBase.TheVariants as base
use Rattle.boogie_tree.specs.Values.{plain_type}
use Rattle.boogie_tree.specs.Whole.{locals_of, local_of, stmts_of}
use Rattle.boogie_tree.specs.declared.stmts.BStmt.{BStmt as Stmt}
use Rattle.boogie_tree.specs.declared.programs.Local.{Local as Code}
use Rattle.enc_expr.specs.Code.{Emitting, join, gives, then_emit, declares, declares_all, Guard, guards, puts, under}
use Rattle.vb_value.specs.Layout.{Layout}
use Rattle.viper_core.specs.View.{expr_of, exprs_of}
use Rattle.viper_core.specs.declared.exprs.Expr.{Expr}
use Rattle.enc_expr.specs.View.{seen, all_seen}
use Rattle.enc_expr.specs.declared.operands.Operand.{Operand as Operands}
use Rattle.moves.specs.Maps.{heap_type, mask_type, amount_type, content_type, state_types}
use Rattle.enc_expr.specs.Kinds.{Kinds}
use Rattle.enc_expr.specs.Place.{Place, number}
use Rattle.enc_expr.specs.Encoding.{maps_from, copies, code, codes}
use Rattle.enc_expr.specs.Pieces.{Operand, Located, one, unless_known, variable_in, located_from, located, variables, index}
use Rattle.enc_expr.specs.Emits.{Emit, Emits, Declares, Locates, temporary, temporaries}
use Rattle.enc_expr.proofs.RunLaws.{join_skip, join_assoc}
use Rattle.enc_expr.proofs.EmitLaws.{gives_emits, length-temporaries, temporaries-append}
use Rattle.enc_expr.proofs.BlockLaws.{then_added}
use Rattle.enc_expr.proofs.EmittedForms.{valued, ending, behind, behind_assoc, located_emits, operand_emits}

-- ---- locals

pub locals_of-append : (xs : List Code) (x : Code) → locals_of (xs ++ x ∷ []) ≡ locals_of xs ++ local_of x ∷ []
locals_of-append [] x = refl
locals_of-append (y ∷ ys) x = ap (λ zs. local_of y ∷ zs) (locals_of-append ys x)

pub declared_at_end : (u : BType) (old : Emit) (locals : List Local) (i : ℕ) → locals ≡ old.locals ++ temporary (length old.locals) u ∷ [] → i ≡ length old.locals →
    Emits (declares u (length old.locals)) old (record { locals = locals; stmts = old.stmts }) i
declared_at_end u old locals i h same = record { locals = h; next = ap (λ ls. length ls) h ∙ length-append old.locals (temporary (length old.locals) u ∷ []); stmts = sym (join_skip old.stmts); value = same }

pub guard_set : (g : Guard) (x : t.BExpr) (old mid : Emit) (stmts : s.BStmts) (h : ℕ) → Emits (declares (plain_type base.Bool) (length old.locals)) old mid h →
    stmts ≡ join mid.stmts (one (s.Assign h (under g x))) → Emits (guards g x (length old.locals)) old (record { locals = mid.locals; stmts = stmts }) h
guard_set g x old mid stmts h d k = record {
  locals = d.locals;
  next = d.next;
  stmts = k ∙ ap (λ z. join z (one (s.Assign h (under g x)))) (d.stmts ∙ join_skip old.stmts) ∙ ap (λ i. join old.stmts (one (s.Assign i (under g x)))) d.value;
  value = d.value;
}

-- statements under a guard
pub put_plain : (g : Guard) (old : Emit) (xs new : s.BStmts) → g ≡ None → new ≡ join old.stmts xs → Emits (puts g xs (length old.locals)) old (record { locals = old.locals; stmts = new }) tt
put_plain g old xs new h k = rw h (record { locals = sym (append-nil old.locals); next = refl; stmts = k; value = refl })

pub put_none : (g : Guard) (h : ℕ) (old : Emit) (xs : s.BStmts) → g ≡ Some h → xs ≡ s.skip → Emits (puts g xs (length old.locals)) old old tt
put_none g h old xs e k = rw e (rw k (record { locals = sym (append-nil old.locals); next = refl; stmts = sym (join_skip old.stmts); value = refl }))

pub put_some : (g : Guard) (h : ℕ) (old : Emit) (xs new : s.BStmts) → (xs ≡ s.skip → ⊥) → g ≡ Some h → new ≡ join old.stmts (one (s.If (t.Var h) xs s.skip)) →
    Emits (puts g xs (length old.locals)) old (record { locals = old.locals; stmts = new }) tt
put_some g h old s.skip new other e k = absurd (other refl)
put_some g h old (s.first x xs) new other e k = rw e (record { locals = sym (append-nil old.locals); next = refl; stmts = k; value = refl })

pub other_is : {xs ys : List Stmt} → xs ≡ ys → (length xs == 0) ≡ false → stmts_of ys ≡ s.skip → ⊥
other_is {xs = []} {ys = ys} same h e = absurd cc
other_is {xs = x ∷ xs} {ys = []} same h e = absurd cc
other_is {xs = x ∷ xs} {ys = y ∷ ys} same h e = absurd cc

-- new locals, one after the other
pub none_declared : (old : Emit) → Declares [] old old []
none_declared old = record { locals = sym (append-nil old.locals); stmts = refl; in_a_row = refl }

pub more_declared : (u : BType) (us : List BType) (old mid new : Emit) (i : ℕ) (is : List ℕ) → Emits (declares u (length old.locals)) old mid i → Declares us mid new is → Declares (u ∷ us) old new (i ∷ is)
more_declared u us old mid new i is d e = record {
  locals = e.locals ∙ ap (λ ls. ls ++ temporaries (length mid.locals) us) d.locals ∙ ap (λ n. (old.locals ++ temporary (length old.locals) u ∷ []) ++ temporaries n us) d.next
      ∙ append_assoc old.locals (temporary (length old.locals) u ∷ []) (temporaries (length old.locals + 1) us);
  stmts = e.stmts ∙ d.stmts ∙ join_skip old.stmts;
  in_a_row = ap (λ js. i ∷ js) (e.in_a_row ∙ ap (λ n. range_with_len n (length us)) d.next) ∙ ap (λ j. j ∷ range_with_len (length old.locals + 1) (length us)) d.value;
}

-- ---- operands in locals

pub variable_located : (x : Operand) (a : t.BExpr) (i : ℕ) (old : Emit) (before after : Located) → variable_in a ≡ Some i → after.locals ≡ before.locals ++ i ∷ [] → after.sets ≡ before.sets → Locates x a old old before after
variable_located x (t.Var j) i old before after h k l = record {
  emits = gives_emits (record { locals = j ∷ []; sets = s.skip }) old;
  locals = k ∙ ap (λ n. before.locals ++ n ∷ []) (some_same (sym h));
  sets = l ∙ sym (join_skip before.sets);
}
  where
    some_same : {m n : ℕ} → Some m ≡ Some n → m ≡ n
    some_same e = cc
variable_located x (t.Int n) i old before after h k l = absurd cc
variable_located x (t.Real n) i old before after h k l = absurd cc
variable_located x (t.Bool p) i old before after h k l = absurd cc
variable_located x t.Null i old before after h k l = absurd cc
variable_located x t.Unit i old before after h k l = absurd cc
variable_located x (t.Neg a) i old before after h k l = absurd cc
variable_located x (t.Not a) i old before after h k l = absurd cc
variable_located x (t.Bin o a b) i old before after h k l = absurd cc
variable_located x (t.If a b c) i old before after h k l = absurd cc
variable_located x (t.Forall us a) i old before after h k l = absurd cc
variable_located x (t.ToReal a) i old before after h k l = absurd cc
variable_located x (t.SInt a) i old before after h k l = absurd cc
variable_located x (t.SBool a) i old before after h k l = absurd cc
variable_located x (t.SRef a) i old before after h k l = absurd cc
variable_located x (t.SPerm a) i old before after h k l = absurd cc
variable_located x (t.Pair a b) i old before after h k l = absurd cc
variable_located x (t.At m es) i old before after h k l = absurd cc
variable_located x (t.AtBound m) i old before after h k l = absurd cc

-- any other gets a new local
abbrev newly : Operand → Emitting Located
newly x = then_emit (declares (plain_type x.base)) (λ i. gives (record { locals = i ∷ []; sets = s.first (s.Assign i x.expr) s.skip }))

newly_located : (x : Operand) (a : t.BExpr) → variable_in a ≡ None → located_from x a ≡ newly x
newly_located x (t.Var i) h = absurd cc
newly_located x (t.Int n) h = refl
newly_located x (t.Real n) h = refl
newly_located x (t.Bool p) h = refl
newly_located x t.Null h = refl
newly_located x t.Unit h = refl
newly_located x (t.Neg a) h = refl
newly_located x (t.Not a) h = refl
newly_located x (t.Bin o a b) h = refl
newly_located x (t.If a b c) h = refl
newly_located x (t.Forall us a) h = refl
newly_located x (t.ToReal a) h = refl
newly_located x (t.SInt a) h = refl
newly_located x (t.SBool a) h = refl
newly_located x (t.SRef a) h = refl
newly_located x (t.SPerm a) h = refl
newly_located x (t.Pair a b) h = refl
newly_located x (t.At m es) h = refl
newly_located x (t.AtBound m) h = refl

pub other_located : (x : Operand) (a : t.BExpr) (i : ℕ) (old new : Emit) (before after : Located) → variable_in a ≡ None → Emits (declares (plain_type x.base) (length old.locals)) old new i → after.locals ≡ before.locals ++ i ∷ [] →
    after.sets ≡ join before.sets (one (s.Assign i x.expr)) → Locates x a old new before after
other_located x a i old new before after other d h k = record {
  emits = subst (λ (m : Emitting Located). Emits (m (length old.locals)) old new (m (length old.locals)).value) (sym (newly_located x a other)) (valued (ap put_in (sym d.value)) (ending (declares (plain_type x.base)) put_in i d));
  locals = subst (λ (m : Emitting Located). after.locals ≡ before.locals ++ (m (length old.locals)).value.locals) (sym (newly_located x a other)) (h ∙ ap (λ n. before.locals ++ n ∷ []) d.value);
  sets = subst (λ (m : Emitting Located). after.sets ≡ join before.sets (m (length old.locals)).value.sets) (sym (newly_located x a other)) (k ∙ ap (λ n. join before.sets (one (s.Assign n x.expr))) d.value);
}
  where
    put_in : ℕ → Located
    put_in i = record { locals = i ∷ []; sets = s.first (s.Assign i x.expr) s.skip }

-- ---- checks that are left out

pub known_added : (old xs : s.BStmts) (p : Truth) → p ≡ true → old ≡ join old (unless_known p xs)
known_added old xs p h = rw h (sym (join_skip old))

pub unknown_added : {E T : Type 0} (r : Result T E) (old new xs : s.BStmts) (p : Truth) → p ≡ false → OnOk r (new ≡ join old xs) → OnOk r (new ≡ join old (unless_known p xs))
unknown_added r old new xs p h k = rw h k

pub so_is : {X : Type 0} (p : Truth) (x y : X) → p ≡ true → (if p then x else y) ≡ x
so_is p x y h = rw h refl

pub else_is : {X : Type 0} (p : Truth) (x y : X) → p ≡ false → (if p then x else y) ≡ y
else_is p x y h = rw h refl

-- ---- indices

pub variables_are : (xs : List ℕ) → t.exprs (map t.Var xs) ≡ variables xs
variables_are [] = refl
variables_are (x ∷ xs) = ap (t.more (t.Var x)) (variables_are xs)

pub index_is : (xs : List ℕ) → (xs ≡ [] → ⊥) → index xs ≡ variables xs
index_is [] h = absurd (h refl)
index_is (x ∷ xs) h = refl

pub taken_all : {X : Type 0} (n : ℕ) (xs : List X) → length xs ≤ n → take n xs ≡ xs
taken_all zero [] h = refl
taken_all (suc n) [] h = refl
taken_all zero (x ∷ xs) h = absurd (omega (arith, h))
taken_all (suc n) (x ∷ xs) h = ap (λ ys. x ∷ ys) (taken_all n xs (omega (arith, h)))

pub dropped_all : {X : Type 0} (n : ℕ) (xs : List X) → length xs ≤ n → drop n xs ≡ []
dropped_all zero [] h = refl
dropped_all (suc n) [] h = refl
dropped_all zero (x ∷ xs) h = absurd (omega (arith, h))
dropped_all (suc n) (x ∷ xs) h = dropped_all n xs (omega (arith, h))

-- some item is at an index
pub record Next {X : Type 0} (xs : List X) (i : ℕ) : Type 0 where
  pub item : X
  pub split : drop i xs ≡ item ∷ drop (i + 1) xs

abbrev pub next_of : {X : Type 0} (xs : List X) (i : ℕ) → i < length xs → Next xs i
next_of [] i lt = absurd (omega (arith, lt))
next_of (x ∷ xs) i lt = record { item = get_or (x ∷ xs) i x; split = rw add-one (drop-cons (x ∷ xs) i x lt) }

any_default : {X : Type 0} (xs : List X) (i : ℕ) (d w : X) → i < length xs → get_or xs i d ≡ get_or xs i w
any_default [] i d w lt = absurd (omega (arith, lt))
any_default (x ∷ xs) zero d w lt = refl
any_default (x ∷ xs) (suc i) d w lt = any_default xs i d w (omega (arith, lt))

pub next_is : {X : Type 0} (xs : List X) (i : ℕ) (lt : i < length xs) (d : X) → get_or xs i d ≡ (next_of xs i lt).item
next_is [] i lt d = absurd (omega (arith, lt))
next_is (x ∷ xs) i lt d = any_default (x ∷ xs) i d x lt

-- ---- loops over operands and types

pub locate_step : (x : Operand) (xs all : List Operand) (begin old mid : Emit) (before after : Located) → Locates x x.expr old mid before after →
    ((new : Emit) (more : Located) → Emits (located (x ∷ xs) (length old.locals)) old new more → Emits (located all (length begin.locals)) begin new (behind before more)) →
    (new : Emit) (more : Located) → Emits (located xs (length mid.locals)) mid new more → Emits (located all (length begin.locals)) begin new (behind after more)
locate_step x xs all begin old mid before after k so_far new more h =
    valued ((λ i. record { locals = append_whole i; sets = join_whole i }) ∙ behind_assoc before one_more more) (so_far new (behind one_more more) (located_emits x xs old mid new one_more more k.emits h))
  where
    one_more : Located
    one_more = (located_from x x.expr (length old.locals)).value

    append_whole : after.locals ++ more.locals ≡ (before.locals ++ one_more.locals) ++ more.locals
    append_whole = ap (λ ls. ls ++ more.locals) k.locals

    join_whole : join after.sets more.sets ≡ join (join before.sets one_more.sets) more.sets
    join_whole = ap (λ ss. join ss more.sets) k.sets

pub declare_step : {X : Type 0} (f : X → BType) (x : X) (xs all : List X) (begin old mid : Emit) (ns ms : List ℕ) (i : ℕ) → ms ≡ ns ++ i ∷ [] → Emits (declares (f x) (length old.locals)) old mid i →
    ((new : Emit) (more : List ℕ) → Declares (map f (x ∷ xs)) old new more → Declares (map f all) begin new (ns ++ more)) →
    (new : Emit) (more : List ℕ) → Declares (map f xs) mid new more → Declares (map f all) begin new (ms ++ more)
declare_step f x xs all begin old mid ns ms i pushed d so_far new more h =
    subst (λ js. Declares (map f all) begin new js) (sym (ap (λ z. z ++ more) pushed ∙ append_assoc ns (i ∷ []) more)) (so_far new (i ∷ more) (more_declared (f x) (map f xs) old mid new i more d h))

-- where no type is left
pub declare_end : {X : Type 0} (f : X → BType) (i : ℕ) (all : List X) (begin old : Emit) (ns : List ℕ) → length all ≤ i →
    ((new : Emit) (more : List ℕ) → Declares (map f (drop i all)) old new more → Declares (map f all) begin new (ns ++ more)) → Declares (map f all) begin old ns
declare_end f i all begin old ns past so_far =
    subst (λ js. Declares (map f all) begin old js) (append-nil ns) (so_far old [] (subst (λ zs. Declares (map f zs) old old []) (sym (dropped_all i all past)) (none_declared old)))

pub map-map : {X Y Z : Type 0} (f : Y → Z) (g : X → Y) (xs : List X) → map (λ x. f (g x)) xs ≡ map f (map g xs)
map-map f g [] = refl
map-map f g (x ∷ xs) = ap (λ ys. f (g x) ∷ ys) (map-map f g xs)

-- how many locals there are then
pub count : (us : List BType) (old new : Emit) (is : List ℕ) → Declares us old new is → length new.locals ≡ length old.locals + length us
count us old new is d = ap (λ ls. length ls) d.locals ∙ length-append old.locals (temporaries (length old.locals) us) ∙ ap (λ n. length old.locals + n) (length-temporaries (length old.locals) us)

-- types behind types
pub declares-append : (us ws : List BType) (old mid new : Emit) (is js : List ℕ) → Declares us old mid is → Declares ws mid new js → Declares (us ++ ws) old new (is ++ js)
declares-append us ws old mid new is js d e = record {
  locals = e.locals ∙ ap (λ ls. ls ++ temporaries (length mid.locals) ws) d.locals ∙ ap (λ n. (old.locals ++ temporaries (length old.locals) us) ++ temporaries n ws) (count us old mid is d)
      ∙ append_assoc old.locals (temporaries (length old.locals) us) (temporaries (length old.locals + length us) ws) ∙ ap (λ ls. old.locals ++ ls) (sym (temporaries-append (length old.locals) us ws));
  stmts = e.stmts ∙ d.stmts;
  in_a_row = (λ i. d.in_a_row i ++ e.in_a_row i) ∙ ap (λ n. range_with_len (length old.locals) (length us) ++ range_with_len n (length ws)) (count us old mid is d) ∙ ranges (length old.locals) us ws;
}
  where
    ranges : (n : ℕ) (us ws : List BType) → range_with_len n (length us) ++ range_with_len (n + length us) (length ws) ≡ range_with_len n (length (us ++ ws))
    ranges n [] ws = ap (λ k. range_with_len k (length ws)) (omega arith)
    ranges n (u ∷ us) ws = ap (λ xs. n ∷ xs) (ap (λ k. range_with_len (n + 1) (length us) ++ range_with_len k (length ws)) (omega arith) ∙ ranges (n + 1) us ws)

-- all maps of a state
pub state_declared : (layout : Layout) (old first two three new : Emit) (hs ms qs cs : List ℕ) → Declares (map heap_type layout.fields) old first hs → Declares (map mask_type layout.fields) first two ms → Declares (map amount_type layout.keys) two three qs →
    Declares (map content_type layout.keys) three new cs →
    (record { heap = hs; mask = ms; amount = qs; content = cs } ≡ maps_from layout (length old.locals)) × Emits (declares_all (state_types layout) (length old.locals)) old new (length old.locals)
state_declared layout old first two three new hs ms qs cs a b c d = (
  (λ i. record { heap = h_is i; mask = m_is i; amount = a_is i; content = c_is i }),
  record { locals = whole.locals; next = count (state_types layout) old new (hs ++ ms ++ qs ++ cs) whole; stmts = whole.stmts ∙ sym (join_skip old.stmts); value = refl },
)
  where
    whole : Declares (state_types layout) old new (hs ++ ms ++ qs ++ cs)
    whole = declares-append (map heap_type layout.fields ++ map mask_type layout.fields ++ map amount_type layout.keys) (map content_type layout.keys) old three new (hs ++ ms ++ qs) cs
        (declares-append (map heap_type layout.fields ++ map mask_type layout.fields) (map amount_type layout.keys) old two three (hs ++ ms) qs
        (declares-append (map heap_type layout.fields) (map mask_type layout.fields) old first two hs ms a b) c) d

    first_count : length first.locals ≡ length old.locals + length layout.fields
    first_count = count (map heap_type layout.fields) old first hs a ∙ ap (λ n. length old.locals + n) (length-map layout.fields heap_type)

    second_count : length two.locals ≡ length old.locals + length layout.fields + length layout.fields
    second_count = count (map mask_type layout.fields) first two ms b ∙ (λ i. first_count i + length-map layout.fields mask_type i)

    third_count : length three.locals ≡ length old.locals + length layout.fields + length layout.fields + length layout.keys
    third_count = count (map amount_type layout.keys) two three qs c ∙ (λ i. second_count i + length-map layout.keys amount_type i)

    h_is : hs ≡ range_with_len (length old.locals) (length layout.fields)
    h_is = a.in_a_row ∙ ap (λ n. range_with_len (length old.locals) n) (length-map layout.fields heap_type)

    m_is : ms ≡ range_with_len (length old.locals + length layout.fields) (length layout.fields)
    m_is = b.in_a_row ∙ (λ i. range_with_len (first_count i) (length-map layout.fields mask_type i))

    a_is : qs ≡ range_with_len (length old.locals + length layout.fields + length layout.fields) (length layout.keys)
    a_is = c.in_a_row ∙ (λ i. range_with_len (second_count i) (length-map layout.keys amount_type i))

    c_is : cs ≡ range_with_len (length old.locals + length layout.fields + length layout.fields + length layout.keys) (length layout.keys)
    c_is = d.in_a_row ∙ (λ i. range_with_len (third_count i) (length-map layout.keys content_type i))

-- ---- loops over statements

pub copy_step : (own rest ys : List ℕ) (i x source : ℕ) (begin now new all : s.BStmts) → own ≡ x ∷ rest → source ≡ number ys i → new ≡ join now (one (s.Assign x (t.Var source))) → all ≡ join now (copies own ys i) → all ≡ join new (copies rest ys (i + 1))
copy_step own rest ys i x source begin now new all split same pushed so_far =
    so_far ∙ ap (λ zs. join now (copies zs ys i)) split ∙ ap (λ n. join now (s.first (s.Assign x (t.Var n)) (copies rest ys (i + 1)))) (sym same)
    ∙ sym (join_assoc now (one (s.Assign x (t.Var source))) (copies rest ys (i + 1))) ∙ ap (λ z. join z (copies rest ys (i + 1))) (sym pushed)

pub four_added : (a b c d none one two three : s.BStmts) {four : s.BStmts} → none ≡ s.skip → one ≡ join none a → two ≡ join one b → three ≡ join two c → four ≡ join three d → four ≡ join a (join b (join c d))
four_added a b c d none one two three h i j k l =
    then_added none a (join b (join c d)) i (then_added one b (join c d) j (then_added two c d k l)) ∙ ap (λ x. join x (join a (join b (join c d)))) h

-- ---- the same types, said otherwise

pub declared_as : {old new : Emit} {u w : BType} {n i : ℕ} → u ≡ w → Emits (declares u n) old new i → Emits (declares w n) old new i
declared_as {old = old} {new = new} {n = n} {i = i} same h = subst (λ (z : BType). Emits (declares z n) old new i) same h

pub declares_as : {old new : Emit} {us ws : List BType} {is : List ℕ} → us ≡ ws → Declares us old new is → Declares ws old new is
declares_as {old = old} {new = new} {is = is} same h = subst (λ (zs : List BType). Declares zs old new is) same h

-- ---- lists that are empty, and others

pub empty_is : {X : Type 0} (xs : List X) → (length xs == 0) ≡ true → xs ≡ []
empty_is xs h = no_items xs ((Decides-eqb (length xs) 0).0 h)

pub other_list : {X : Type 0} (xs : List X) → (length xs == 0) ≡ false → xs ≡ [] → ⊥
other_list [] h e = absurd cc
other_list (x ∷ xs) h e = absurd cc

-- ---- loops over expressions

pub all_seen-append : (xs : List Operands) (x : Operands) → all_seen (xs ++ x ∷ []) ≡ all_seen xs ++ seen x ∷ []
all_seen-append [] x = refl
all_seen-append (y ∷ ys) x = ap (λ zs. seen y ∷ zs) (all_seen-append ys x)

pub check_step : (k : Kinds) (p : Place) (g : Guard) (a : Expr) (rest all : List Expr) (begin old mid : Emit) (ns ms : List Operand) (x : Operand) → ms ≡ ns ++ x ∷ [] → Emits (code k p g (expr_of a) (length old.locals)) old mid x →
    ((new : Emit) (more : List Operand) → Emits (codes k p g (exprs_of (a ∷ rest)) (length old.locals)) old new more → Emits (codes k p g (exprs_of all) (length begin.locals)) begin new (ns ++ more)) →
    (new : Emit) (more : List Operand) → Emits (codes k p g (exprs_of rest) (length mid.locals)) mid new more → Emits (codes k p g (exprs_of all) (length begin.locals)) begin new (ms ++ more)
check_step k p g a rest all begin old mid ns ms x pushed h so_far new more l =
    valued (ap (λ z. z ++ more) pushed ∙ append_assoc ns (x ∷ []) more) (so_far new (x ∷ more) (operand_emits k p g (expr_of a) (exprs_of rest) old mid new x more h l))
