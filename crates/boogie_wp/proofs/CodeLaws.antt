-- What the code's steps say, over plain variables.
use Rattle.std.proofs.Common.{◌≡◌, ◌∙◌, ◌≤◌, ◌<◌, ◌+◌, ℕ, zero, suc, true, Some, None, List, [], ◌∷◌, ◌++◌, map, take, drop, get_or, slice_get, length, Vec, Box, refl, sym, ap, arith, append_assoc, append-nil}
use Rattle.std.proofs.Math.Numerals.{add-one}
use Rattle.std.proofs.lemmas.List.{take_all}
use Rattle.std.specs.declared.alloc.Global.{Global}
use Rattle.lemmas.proofs.Lists.{next_item, none_left, item_there}
use Rattle.vb_base.specs.declared.labels.Label.{Label}
use Rattle.boogie_tree.specs.Stmt as s
use Rattle.boogie_tree.specs.declared.stmts.BStmt as stmt
use Rattle.boogie_tree.specs.Whole.{expr_of, exprs_of, stmt_of, stmts_of, type_of, local_of, locals_of}
use Rattle.boogie_tree.specs.Program as p
use Rattle.boogie_tree.specs.Values.{plain_type}
use Rattle.boogie_tree.specs.declared.exprs.BBase.TheVariants as base
use Rattle.boogie_tree.specs.declared.programs.Local.{Local}
use Rattle.boogie_tree.specs.declared.exprs.BExpr as expr
use Rattle.boogie_tree.proofs.WholeLaws.{expr_of-At, stmt_of-If, stmt_of-Either}
use Rattle.boogie_formula.specs.Formula as f
use Rattle.boogie_formula.specs.Formula.{fexprs}
use Rattle.boogie_formula.specs.View.{fexpr_of, fexprs_of}
use Rattle.boogie_formula.specs.declared.formulas.FExpr as fexpr
use Rattle.boogie_formula.specs.declared.formulas.Fail.{Fail}
use Rattle.boogie_formula.proofs.ViewLaws.{fexpr_of-At, fexprs_of-map, fexpr_of-With}
use Rattle.boogie_formula.specs.Choices.{slots, slots_stmt, own_types, own_types_stmt}
use Rattle.boogie_wp.proofs.BuildLaws.{next_stmt, next_block}
use Rattle.boogie_formula.specs.Formula.{FExpr}
use Rattle.boogie_wp.specs.Build.{ConditionsBuilder, fresh, go_where, join, back, fork, built, built_stmt, define, named, numbers, started, Chain, linked, chained}
use Rattle.boogie_wp.specs.View.{types_in}
use Rattle.boogie_wp.specs.Lifted.{lifted, lifted_all}

-- ---- expressions

pub at_lifted : (g : ℕ → ℕ) (m : ℕ) (index : Vec expr.BExpr Global) (e : expr.BExpr) → e ≡ expr.At m index → (name : ℕ) → name ≡ g m → (keys : Vec fexpr.FExpr Global) →
    fexprs_of keys.items ≡ lifted_all g (exprs_of index.items) → fexpr_of (fexpr.At name keys) ≡ lifted g (expr_of e)
at_lifted g m index e is name named keys same =
    fexpr_of-At name keys ∙ (λ i. f.At (named i) (same i)) ∙ ap (lifted g) (sym (ap expr_of is ∙ expr_of-At m index))

lifted_row : (g : ℕ → ℕ) (es : List expr.BExpr) → fexprs (map (λ e. lifted g (expr_of e)) es) ≡ lifted_all g (exprs_of es)
lifted_row g [] = refl
lifted_row g (e ∷ es) = ap (f.more (lifted g (expr_of e))) (lifted_row g es)

pub keys_lifted : (g : ℕ → ℕ) (es : List expr.BExpr) (keys : List fexpr.FExpr) (i : ℕ) → length es ≤ i → map fexpr_of keys ≡ map (λ e. lifted g (expr_of e)) (take i es) →
    fexprs_of keys ≡ lifted_all g (exprs_of es)
keys_lifted g es keys i end same =
    fexprs_of-map keys ∙ ap fexprs (same ∙ ap (map (λ e. lifted g (expr_of e))) (take_all i es end)) ∙ lifted_row g es

-- ---- lists

pub drop_at : {X : Type 0} (xs : List X) (i : ℕ) (x : X) → slice_get xs i ≡ Some x → drop i xs ≡ x ∷ drop (suc i) xs
drop_at [] i x h = absurd (cc)
drop_at (y ∷ xs) zero x h = let e : y ≡ x = cc in ap (λ z. z ∷ xs) e
drop_at (y ∷ xs) (suc i) x h = drop_at xs i x h

-- ---- statements

pub with_is : (m : ℕ) (keys : Vec fexpr.FExpr Global) (g : ℕ → ℕ) (index : List expr.BExpr) (e : FExpr) (b : Box fexpr.FExpr Global) (a : Box fexpr.FExpr Global) →
    fexpr_of b.value ≡ f.Var m → fexprs_of keys.items ≡ lifted_all g (exprs_of index) → fexpr_of a.value ≡ e → fexpr_of (fexpr.With b keys a) ≡ f.With (f.Var m) (lifted_all g (exprs_of index)) e
with_is m keys g index e b a first second third = fexpr_of-With b keys a ∙ (λ i. f.With (first i) (second i) (third i))

pub if_is : (e : expr.BExpr) (a o : Vec stmt.BStmt Global) (x : stmt.BStmt) (xs ys : List stmt.BStmt) → x ≡ stmt.If e a o → xs ≡ a.items → ys ≡ o.items → stmt_of x ≡ s.If (expr_of e) (stmts_of xs) (stmts_of ys)
if_is e a o x xs ys is first second = ap stmt_of is ∙ stmt_of-If e a o ∙ (λ i. s.If (expr_of e) (stmts_of ((sym first) i)) (stmts_of ((sym second) i)))

pub either_is : (a o : Vec stmt.BStmt Global) (x : stmt.BStmt) (xs ys : List stmt.BStmt) → x ≡ stmt.Either a o → xs ≡ a.items → ys ≡ o.items → stmt_of x ≡ s.Either (stmts_of xs) (stmts_of ys)
either_is a o x xs ys is first second = ap stmt_of is ∙ stmt_of-Either a o ∙ (λ i. s.Either (stmts_of ((sym first) i)) (stmts_of ((sym second) i)))

pub room_first : (n old new more : ℕ) (x : s.BStmt) (xs ys : s.BStmts) → slots_stmt x ≡ more + (slots xs + slots ys) → old + slots_stmt x ≤ n → new ≡ old + more → new + slots xs ≤ n
room_first n old new more x xs ys is room same = omega (arith, is, room, same)

pub room_second : (n old mid new more : ℕ) (x : s.BStmt) (xs ys : s.BStmts) → slots_stmt x ≡ more + (slots xs + slots ys) → old + slots_stmt x ≤ n → mid ≡ old + more → new ≡ mid + slots xs → new + slots ys ≤ n
room_second n old mid new more x xs ys is room same next = omega (arith, is, room, same, next)

module _ (n : ℕ) where
  pub fork_made : (c : ℕ) (xs ys : s.BStmts) (b1 b2 b3 b4 b5 b6 : ConditionsBuilder) (starts firsts : List ℕ) (start first : ℕ) → b2 ≡ go_where n (f.Var c) b1 → starts ≡ b1.versions → start ≡ b1.path →
      b3 ≡ built n xs b2 → firsts ≡ b3.versions → first ≡ b3.path → b4 ≡ go_where n (f.Not (f.Var c)) (record b3 { versions = starts; path = start }) → b5 ≡ built n ys b4 →
      b6 ≡ join n c firsts first b5 → b6 ≡ fork n c (λ z. built n xs z) (λ z. built n ys z) b1
  fork_made c xs ys b1 b2 b3 b4 b5 b6 starts firsts start first e2 v1 p1 e3 v3 p3 e4 e5 e6 =
      e6
      ∙ (λ i. join n c (v3 i) (p3 i) (e5 i))
      ∙ ap (λ z. join n c b3.versions b3.path (built n ys z)) e4
      ∙ (λ i. join n c b3.versions b3.path (built n ys (go_where n (f.Not (f.Var c)) (record b3 { versions = v1 i; path = p1 i }))))
      ∙ ap (λ z. join n c z.versions z.path (built n ys (back n c b1 z))) e3
      ∙ ap (λ z. let x = built n xs z in join n c x.versions x.path (built n ys (back n c b1 x))) e2

  -- what is left of a block makes of the builder what all makes of the first one, and there is room for it
  pub record Left (stmts : List stmt.BStmt) (i : ℕ) (before b : ConditionsBuilder) : Type 0 where
    pub same : built n (stmts_of (drop i stmts)) b ≡ built n (stmts_of stmts) before
    pub room : b.next + slots (stmts_of (drop i stmts)) ≤ n

  pub left_first : (stmts : List stmt.BStmt) (b : ConditionsBuilder) → b.next + slots (stmts_of stmts) ≤ n → Left stmts 0 b b
  left_first stmts b room = record { same = refl; room = room }

  module _ (stmts : List stmt.BStmt) (i : ℕ) (before b : ConditionsBuilder) (left : Left stmts i before b) where
    pub left_room : (x : stmt.BStmt) → i < length stmts → x ≡ get_or stmts i x → b.next + slots_stmt (stmt_of x) ≤ n
    left_room x lt is =
        let e : slots (stmts_of (drop i stmts)) ≡ slots_stmt (stmt_of x) + slots (stmts_of (drop (i + 1) stmts)) = ap (λ xs. slots (stmts_of xs)) (next_item stmts i x lt is) in
        omega (arith, e, left.room)

    pub left_next : (x : stmt.BStmt) → i < length stmts → x ≡ get_or stmts i x → (new : ConditionsBuilder) → new ≡ built_stmt n (stmt_of x) b → Left stmts (i + 1) before new
    left_next x lt is new made =
        let at = next_item stmts i x lt is in
        let e : slots (stmts_of (drop i stmts)) ≡ slots_stmt (stmt_of x) + slots (stmts_of (drop (i + 1) stmts)) = ap (λ xs. slots (stmts_of xs)) at in
        let next : new.next ≡ b.next + slots_stmt (stmt_of x) = ap (λ (z : ConditionsBuilder). z.next) made ∙ next_stmt n (stmt_of x) b b.next refl in
        record {
          same = ap (λ z. built n (stmts_of (drop (i + 1) stmts)) z) made ∙ ap (λ xs. built n (stmts_of xs) b) (sym at) ∙ left.same;
          room = omega (arith, e, next, left.room);
        }

    pub left_last : length stmts ≤ i → b ≡ built n (stmts_of stmts) before
    left_last h = ap (λ xs. built n (stmts_of xs) b) (sym (none_left stmts i h)) ∙ left.same

pub zero_more : (k m : ℕ) → k ≡ m → k ≡ m + 0
zero_more k m e = omega (arith, e)

-- the statement is an `if`
module _ (n : ℕ) (e : expr.BExpr) (a o : Vec stmt.BStmt Global) (x : stmt.BStmt) (xs ys : List stmt.BStmt) (is : x ≡ stmt.If e a o) (first : xs ≡ a.items) (second : ys ≡ o.items) where
  if_slots : slots_stmt (stmt_of x) ≡ 0 + (slots (stmts_of xs) + slots (stmts_of ys))
  if_slots = let same = ap slots_stmt (if_is e a o x xs ys is first second) in omega (arith, same)

  pub if_room_first : (old b1 b2 : ConditionsBuilder) → old.next + slots_stmt (stmt_of x) ≤ n → b1.next ≡ old.next → b2.next ≡ b1.next → b2.next + slots (stmts_of xs) ≤ n
  if_room_first old b1 b2 room e1 e2 = room_first n old.next b2.next 0 (stmt_of x) (stmts_of xs) (stmts_of ys) if_slots room (omega (arith, e1, e2))

  pub if_room_second : (old b1 b2 b3 b4 : ConditionsBuilder) → old.next + slots_stmt (stmt_of x) ≤ n → b1.next ≡ old.next → b2.next ≡ b1.next → b3 ≡ built n (stmts_of xs) b2 → b4.next ≡ b3.next →
      b4.next + slots (stmts_of ys) ≤ n
  if_room_second old b1 b2 b3 b4 room e1 e2 e3 e4 =
      let grown = ap (λ (z : ConditionsBuilder). z.next) e3 ∙ next_block n (stmts_of xs) b2 b2.next refl in
      room_second n old.next b2.next b4.next 0 (stmt_of x) (stmts_of xs) (stmts_of ys) if_slots room (omega (arith, e1, e2)) (e4 ∙ grown)

  pub if_made : (b0 b1 new : ConditionsBuilder) (c : ℕ) → c ≡ fresh n b0 → b1 ≡ define (lifted (named b0) (expr_of e)) b0 →
      new ≡ fork n c (λ z. built n (stmts_of xs) z) (λ z. built n (stmts_of ys) z) b1 → new ≡ built_stmt n (stmt_of x) b0
  if_made b0 b1 new c name goes made =
      made ∙ (λ i. fork n (name i) (λ z. built n (stmts_of xs) z) (λ z. built n (stmts_of ys) z) (goes i))
      ∙ ap (λ z. built_stmt n z b0) (sym (if_is e a o x xs ys is first second))

-- the statement is an `if (*)`
module _ (n : ℕ) (a o : Vec stmt.BStmt Global) (x : stmt.BStmt) (xs ys : List stmt.BStmt) (is : x ≡ stmt.Either a o) (first : xs ≡ a.items) (second : ys ≡ o.items) where
  either_slots : slots_stmt (stmt_of x) ≡ 1 + (slots (stmts_of xs) + slots (stmts_of ys))
  either_slots = ap slots_stmt (either_is a o x xs ys is first second)

  pub either_room : (old : ConditionsBuilder) → old.next + slots_stmt (stmt_of x) ≤ n → old.next < n
  either_room old room = let same = either_slots in omega (arith, same, room)

  pub either_room_first : (old b1 b2 : ConditionsBuilder) → old.next + slots_stmt (stmt_of x) ≤ n → b1.next ≡ old.next + 1 → b2.next ≡ b1.next → b2.next + slots (stmts_of xs) ≤ n
  either_room_first old b1 b2 room e1 e2 = room_first n old.next b2.next 1 (stmt_of x) (stmts_of xs) (stmts_of ys) either_slots room (e2 ∙ e1)

  pub either_room_second : (old b1 b2 b3 b4 : ConditionsBuilder) → old.next + slots_stmt (stmt_of x) ≤ n → b1.next ≡ old.next + 1 → b2.next ≡ b1.next → b3 ≡ built n (stmts_of xs) b2 → b4.next ≡ b3.next →
      b4.next + slots (stmts_of ys) ≤ n
  either_room_second old b1 b2 b3 b4 room e1 e2 e3 e4 =
      let grown = ap (λ (z : ConditionsBuilder). z.next) e3 ∙ next_block n (stmts_of xs) b2 b2.next refl in
      room_second n old.next b2.next b4.next 1 (stmt_of x) (stmts_of xs) (stmts_of ys) either_slots room (e2 ∙ e1) (e4 ∙ grown)

  pub either_made : (b0 b1 new : ConditionsBuilder) (c : ℕ) → c ≡ b0.next → b1 ≡ record b0 { next = b0.next + 1 } →
      new ≡ fork n c (λ z. built n (stmts_of xs) z) (λ z. built n (stmts_of ys) z) b1 → new ≡ built_stmt n (stmt_of x) b0
  either_made b0 b1 new c name goes made =
      made ∙ (λ i. fork n (name i) (λ z. built n (stmts_of xs) z) (λ z. built n (stmts_of ys) z) (goes i))
      ∙ ap (λ z. built_stmt n z b0) (sym (either_is a o x xs ys is first second))

-- ---- a chain

module _ (n : ℕ) (label : Label) where
  -- what is left of the assertions makes of the chain what all make of the first one
  abbrev pub Unlinked : List Fail → ℕ → Chain → Chain → Type 0
  Unlinked fails i before c = chained n label (drop i fails) c ≡ chained n label fails before

  pub linked_next : (fails : List Fail) (i : ℕ) (a : Fail) (before c new : Chain) → i < length fails → a ≡ get_or fails i a → new ≡ linked n label a c → Unlinked fails i before c → Unlinked fails (i + 1) before new
  linked_next fails i a before c new lt is made same =
      ap (λ z. chained n label (drop (i + 1) fails) z) made ∙ ap (λ xs. chained n label xs c) (sym (next_item fails i a lt is)) ∙ same

  pub linked_last : (fails : List Fail) (i : ℕ) (before c : Chain) → length fails ≤ i → Unlinked fails i before c → c ≡ chained n label fails before
  linked_last fails i before c h same = ap (λ xs. chained n label xs c) (sym (none_left fails i h)) ∙ same

-- ---- variables

pub type_found : (ls : List Local) (i : ℕ) (l : Local) → slice_get ls i ≡ Some l → slice_get (types_in ls) i ≡ Some (type_of l.ty)
type_found [] i l h = absurd (cc)
type_found (x ∷ ls) zero l h = let e : x ≡ l = cc in ap (λ (z : Local). Some (type_of z.ty)) e
type_found (x ∷ ls) (suc i) l h = type_found ls i l h

pub type_missing : (ls : List Local) (i : ℕ) → slice_get ls i ≡ None → slice_get (types_in ls) i ≡ None
type_missing [] i h = refl
type_missing (x ∷ ls) zero h = absurd (cc)
type_missing (x ∷ ls) (suc i) h = type_missing ls i h

module _ (ls : List p.BType) where
  pub own_next : (stmts : List stmt.BStmt) (i : ℕ) (x : stmt.BStmt) (before old new : List p.BType) → i < length stmts → x ≡ get_or stmts i x → new ≡ old ++ own_types_stmt ls (stmt_of x) →
      old ++ own_types ls (stmts_of (drop i stmts)) ≡ before → new ++ own_types ls (stmts_of (drop (i + 1) stmts)) ≡ before
  own_next stmts i x before old new lt is made same =
      let at = next_item stmts i x lt is in
      ap (λ z. z ++ own_types ls (stmts_of (drop (i + 1) stmts))) made
      ∙ append_assoc old (own_types_stmt ls (stmt_of x)) (own_types ls (stmts_of (drop (i + 1) stmts)))
      ∙ ap (λ xs. old ++ own_types ls (stmts_of xs)) (sym at) ∙ same

  pub own_last : (stmts : List stmt.BStmt) (i : ℕ) (before old : List p.BType) → length stmts ≤ i → old ++ own_types ls (stmts_of (drop i stmts)) ≡ before → old ≡ before
  own_last stmts i before old h same =
      sym (append-nil old) ∙ ap (λ xs. old ++ own_types ls (stmts_of xs)) (sym (none_left stmts i h)) ∙ same

  pub own_if : (e : expr.BExpr) (a o : Vec stmt.BStmt Global) (x : stmt.BStmt) (xs ys : List stmt.BStmt) → x ≡ stmt.If e a o → xs ≡ a.items → ys ≡ o.items → (v0 v1 v2 : List p.BType) →
      v1 ≡ v0 ++ own_types ls (stmts_of xs) → v2 ≡ v1 ++ own_types ls (stmts_of ys) → v2 ≡ v0 ++ own_types_stmt ls (stmt_of x)
  own_if e a o x xs ys is first second v0 v1 v2 h g =
      g ∙ ap (λ z. z ++ own_types ls (stmts_of ys)) h ∙ append_assoc v0 (own_types ls (stmts_of xs)) (own_types ls (stmts_of ys))
      ∙ ap (λ z. v0 ++ own_types_stmt ls z) (sym (if_is e a o x xs ys is first second))

  pub own_either : (a o : Vec stmt.BStmt Global) (x : stmt.BStmt) (xs ys : List stmt.BStmt) → x ≡ stmt.Either a o → xs ≡ a.items → ys ≡ o.items → (v0 v1 v2 v3 : List p.BType) →
      v1 ≡ v0 ++ plain_type base.Bool ∷ [] → v2 ≡ v1 ++ own_types ls (stmts_of xs) → v3 ≡ v2 ++ own_types ls (stmts_of ys) → v3 ≡ v0 ++ own_types_stmt ls (stmt_of x)
  own_either a o x xs ys is first second v0 v1 v2 v3 f h g =
      g ∙ ap (λ z. z ++ own_types ls (stmts_of ys)) (h ∙ ap (λ z. z ++ own_types ls (stmts_of xs)) f)
      ∙ append_assoc (v0 ++ plain_type base.Bool ∷ []) (own_types ls (stmts_of xs)) (own_types ls (stmts_of ys))
      ∙ append_assoc v0 (plain_type base.Bool ∷ []) (own_types ls (stmts_of xs) ++ own_types ls (stmts_of ys))
      ∙ ap (λ z. v0 ++ own_types_stmt ls z) (sym (either_is a o x xs ys is first second))

-- the numbers of locals
pub numbers_next : {X : Type 0} (xs : List X) (i : ℕ) (names new all : List ℕ) → i < length xs → new ≡ names ++ i ∷ [] → names ++ numbers i (drop i xs) ≡ all →
    new ++ numbers (i + 1) (drop (i + 1) xs) ≡ all
numbers_next xs i names new all lt made same =
    let x = item_there xs i lt in
    let at : drop i xs ≡ x.0 ∷ drop (i + 1) xs = rw add-one (drop_at xs i x.0 x.1) in
    ap (λ z. z ++ numbers (i + 1) (drop (i + 1) xs)) made ∙ append_assoc names (i ∷ []) (numbers (i + 1) (drop (i + 1) xs)) ∙ ap (λ z. names ++ numbers i z) (sym at) ∙ same

pub numbers_last : {X : Type 0} (xs : List X) (i : ℕ) (names all : List ℕ) → length xs ≤ i → names ++ numbers i (drop i xs) ≡ all → names ≡ all
numbers_last xs i names all h same = sym (append-nil names) ∙ ap (λ z. names ++ numbers i z) (sym (none_left xs i h)) ∙ same

numbers_mapped : {X Y : Type 0} (f : X → Y) (m : ℕ) (xs : List X) → numbers m (map f xs) ≡ numbers m xs
numbers_mapped f m [] = refl
numbers_mapped f m (x ∷ xs) = ap (λ z. m ∷ z) (numbers_mapped f (m + 1) xs)

pub numbers_in : (m : ℕ) (ls : List Local) → numbers m (types_in ls) ≡ numbers m ls
numbers_in m ls = numbers_mapped (λ l. l.ty) m (locals_of ls) ∙ numbers_mapped local_of m ls

length_in : (ls : List Local) → length (types_in ls) ≡ length ls
length_in [] = refl
length_in (l ∷ ls) = ap suc (length_in ls)

pub started_is : (n : ℕ) (ls : List Local) (lets : List fexpr.FExpr) (versions : List ℕ) (fails : List Fail) (vars : List p.BType) → length vars ≡ n → lets ≡ [] → versions ≡ numbers 0 ls → fails ≡ [] →
    define (f.Bool true) (record { lets = map fexpr_of lets; versions = versions; path = n; fails = fails; next = length ls }) ≡ started vars (types_in ls)
started_is n ls lets versions fails vars long none names no_fails =
    let versions_is = names ∙ sym (numbers_in 0 ls) in
    let path_is = sym long in
    let next_is = sym (length_in ls) in
    λ i. record { lets = map fexpr_of (none i) ++ f.Bool true ∷ []; versions = versions_is i; path = path_is i; fails = no_fails i; next = next_is i }

pub types_next : (ls : List Local) (i : ℕ) (l : Local) (all old new : List p.BType) → i < length ls → l ≡ get_or ls i l → new ≡ old ++ type_of l.ty ∷ [] → old ++ types_in (drop i ls) ≡ all →
    new ++ types_in (drop (i + 1) ls) ≡ all
types_next ls i l all old new lt is made same =
    let at = next_item ls i l lt is in
    ap (λ z. z ++ types_in (drop (i + 1) ls)) made ∙ append_assoc old (type_of l.ty ∷ []) (types_in (drop (i + 1) ls)) ∙ ap (λ z. old ++ types_in z) (sym at) ∙ same

pub types_last : (ls : List Local) (i : ℕ) (all old : List p.BType) → length ls ≤ i → old ++ types_in (drop i ls) ≡ all → old ≡ all
types_last ls i all old h same = sym (append-nil old) ∙ ap (λ z. old ++ types_in z) (sym (none_left ls i h)) ∙ same
