-- The functions on types answer what the rules say, and the first ill-typed procedure is the one that the function finds.
use Rattle.std.proofs.Common.{◌≡◌, ◌≢◌, ◌+◌, ◌<◌, ◌≤◌, ℕ, zero, suc, Bool as Truth, true, false, ◌&&◌, ◌==◌, not, nat_le, Option, Some, None, List, [], ◌∷◌, map, length, All, AllPairs, slice_get, if◌then◌else◌, refl, sym, ap, subst, ◌∙◌, arith}
use Rattle.std.specs.Bool.{Decides}
use Rattle.std.specs.List.{AllZip, list_all}
use Rattle.std.specs.Option.{option_map}
use Rattle.std.proofs.lemmas.Bool.{leb-true, le-leb}
use Rattle.std.proofs.lemmas.Bool.Decides.{Decides-eqb}
use Rattle.std.proofs.lemmas.List.Kept.{AllPairs-cons}
use Rattle.boogie_meaning.proofs.ProgramLaws.{Decides-have_keys}
use Rattle.lemmas.proofs.Options.{some_same}
use Rattle.lemmas.proofs.Tests.{and_parts}
use Rattle.sparse.proofs.MapLaws.{Decides-list_all}
use Rattle.boogie_tree.specs.Expr as t
use Rattle.boogie_tree.specs.Stmt as s
use Rattle.boogie_tree.specs.Program.{BType}
use Rattle.boogie_tree.specs.Values.{same_type, plain_type}
use Rattle.boogie_tree.specs.declared.exprs.BBase.{BBase}
use Rattle.boogie_tree.specs.declared.exprs.BBase.TheVariants as base
use Rattle.boogie_meaning.specs.Programs.{have_keys}
use Rattle.boogie_meaning.specs.Types.{HasType, then_some, base_of, is_type, is_typed_stmt}
use Rattle.boogie_meaning.proofs.TypeLaws.{and_true, base_of_sound, base_of_complete, type_same, same_type_itself, from_base, stmt_sound, stmt_complete}
use Rattle.boogie_loops.specs.Wide as w
use Rattle.boogie_loops.specs.Wide.{Clause, WProc, WProgram}
use Rattle.boogie_loops.specs.Procedures.{wide_types, param_types, return_types, head_types, proc_named}
use Rattle.boogie_loops.specs.WideTypes as ty
use Rattle.boogie_loops.specs.WideTypes.{AreBools, IsGuard, HaveBases, IsCall, IsWideStmt, IsWide, IsWideBody, IsWideProc, IsWideProgram, IsFirstIllTypedWide, is_bool, are_bools, is_guard, is_argument, are_arguments, are_targets, all_differ, is_call_of, is_wide_stmt, is_wide, is_wide_body, is_plain, is_wide_head, is_wide_proc, ill_typed_wide}

from_type : (o : Option BType) (u : BType) → is_type o (Some u) ≡ true → o ≡ Some u
from_type (Some w) u h = ap Some (type_same w u h)
from_type None u h = absurd (cc)

Decides-is_bool : (ls : List BType) (e : t.BExpr) → Decides (is_bool ls e) (HasType ls None e base.Bool)
Decides-is_bool ls e = (λ h. base_of_sound ls None e base.Bool (from_base _ base.Bool h), λ h. rw (base_of_complete h) refl)

Decides-are_bools : (ls : List BType) (clauses : List Clause) → Decides (are_bools ls clauses) (AreBools ls clauses)
Decides-are_bools ls clauses = Decides-list_all (λ c. is_bool ls c.e) (λ c. HasType ls None c.e base.Bool) (λ c. Decides-is_bool ls c.e) clauses

Decides-is_guard : (ls : List BType) (g : Option t.BExpr) → Decides (is_guard ls g) (IsGuard ls g)
Decides-is_guard ls None = (λ h. tt, λ h. refl)
Decides-is_guard ls (Some e) = Decides-is_bool ls e

-- ---- calls

from_argument : (ls : List BType) (a : t.BExpr) (u : BType) → is_argument ls a u ≡ true → (b : BBase) × (u ≡ plain_type b) × HasType ls None a b
from_argument ls a u h = at (base_of ls None a) refl h
  where
    at : (o : Option BBase) → base_of ls None a ≡ o → is_type (Some u) (then_some o (λ b. Some (plain_type b))) ≡ true → (b : BBase) × (u ≡ plain_type b) × HasType ls None a b
    at (Some b) e h = (b, type_same u (plain_type b) h, base_of_sound ls None a b e)
    at None e h = absurd (cc)

argument_given : (ls : List BType) (a : t.BExpr) (b : BBase) → HasType ls None a b → is_argument ls a (plain_type b) ≡ true
argument_given ls a b h = rw (base_of_complete h) (same_type_itself (plain_type b))

record AreArguments (ls : List BType) (es : t.BExprs) (us : List BType) : Type 0 where
  bases : List BBase
  plain : us ≡ map plain_type bases
  typed : HaveBases ls es bases

from_arguments : (ls : List BType) (es : t.BExprs) (us : List BType) → are_arguments ls es us ≡ true → AreArguments ls es us
from_arguments ls t.none [] h = record { bases = []; plain = refl; typed = ty.none }
from_arguments ls t.none (u ∷ us) h = absurd (cc)
from_arguments ls (t.more a es) [] h = absurd (cc)
from_arguments ls (t.more a es) (u ∷ us) h =
    let p = and_parts (is_argument ls a u) (are_arguments ls es us) h in
    let x = from_argument ls a u p.0 in
    let rest = from_arguments ls es us p.1 in
    record { bases = x.0 ∷ rest.bases; plain = λ i. x.1 i ∷ rest.plain i; typed = ty.more x.2 rest.typed }

arguments_given : (ls : List BType) (es : t.BExprs) (bs : List BBase) → HaveBases ls es bs → are_arguments ls es (map plain_type bs) ≡ true
arguments_given ls _ _ ty.none = refl
arguments_given ls _ _ (ty.more {a = a} {es = es} {u = u} {us = us} h rest) = and_true (argument_given ls a u h) (arguments_given ls es us rest)

from_targets : (ls : List BType) (is : List ℕ) (us : List BType) → are_targets ls is us ≡ true → AllZip (λ i u. slice_get ls i ≡ Some u) is us
from_targets ls [] [] h = tt
from_targets ls [] (u ∷ us) h = absurd (cc)
from_targets ls (i ∷ is) [] h = absurd (cc)
from_targets ls (i ∷ is) (u ∷ us) h =
    let p = and_parts (is_type (slice_get ls i) (Some u)) (are_targets ls is us) h in
    (from_type (slice_get ls i) u p.0, from_targets ls is us p.1)

targets_given : (ls : List BType) (is : List ℕ) (us : List BType) → AllZip (λ i u. slice_get ls i ≡ Some u) is us → are_targets ls is us ≡ true
targets_given ls [] [] h = refl
targets_given ls [] (u ∷ us) h = absurd h
targets_given ls (i ∷ is) [] h = absurd h
targets_given ls (i ∷ is) (u ∷ us) h = and_true (rw h.0 (same_type_itself u)) (targets_given ls is us h.1)

Decides-leb : (m n : ℕ) → Decides (nat_le m n) (m ≤ n)
Decides-leb m n = (leb-true m n, le-leb m n)

Decides-own : (params : ℕ) (is : List ℕ) → Decides (list_all (nat_le params) is) (All (λ i. params ≤ i) is)
Decides-own params is = Decides-list_all (nat_le params) (λ i. params ≤ i) (λ i. Decides-leb params i) is

not_same : (i j : ℕ) → Decides (not (i == j)) (i ≢ j)
not_same i j = by_cases (i == j) (Decides-eqb i j)
  where
    by_cases : {P : Type 0} (b : Truth) → Decides b P → Decides (not b) (P → ⊥)
    by_cases true d = (λ h. absurd (cc), λ h. absurd (h (d.0 refl)))
    by_cases false d = (λ h p. let e = d.1 p in absurd (cc), λ h. refl)

Decides-other : (i : ℕ) (is : List ℕ) → Decides (list_all (λ j. not (i == j)) is) (All (λ j. i ≢ j) is)
Decides-other i is = Decides-list_all (λ j. not (i == j)) (λ j. i ≢ j) (not_same i) is

from_differ : (is : List ℕ) → all_differ is ≡ true → AllPairs (λ i j. i ≢ j) is
from_differ [] h = λ i j d below within. absurd (omega (arith, within))
from_differ (i ∷ is) h =
    let p = and_parts (list_all (λ j. not (i == j)) is) (all_differ is) h in
    AllPairs-cons (λ i j. i ≢ j) i is ((Decides-other i is).0 p.0) (from_differ is p.1)

differ_given : (is : List ℕ) → AllPairs (λ i j. i ≢ j) is → all_differ is ≡ true
differ_given [] h = refl
differ_given (i ∷ is) h =
    and_true ((Decides-other i is).1 (λ k d within. h 0 (suc k) d (omega arith) (omega (arith, within))))
    (differ_given is (λ j k d below within. h (suc j) (suc k) d (omega (arith, below)) (omega (arith, within))))

call_sound : (ps : List WProc) (ls : List BType) (params : ℕ) (is name : List ℕ) (es : t.BExprs) (o : Option WProc) → proc_named ps name ≡ o →
    is_call_of ls params is es o ≡ true → IsCall ps ls params is name es
call_sound ps ls params is name es None e h = absurd (cc)
call_sound ps ls params is name es (Some d) e h =
    let p = and_parts (are_arguments ls es (param_types d)) _ h in
    let q = and_parts (are_targets ls is (return_types d)) _ p.1 in
    let r = and_parts (list_all (nat_le params) is) (all_differ is) q.1 in
    let a = from_arguments ls es (param_types d) p.0 in
    record {
      callee = d;
      named = e;
      bases = a.bases;
      plain = a.plain;
      arguments = a.typed;
      targets = from_targets ls is (return_types d) q.0;
      own = (Decides-own params is).0 r.0;
      differ = from_differ is r.1;
    }

call_complete : (ps : List WProc) (ls : List BType) (params : ℕ) (is name : List ℕ) (es : t.BExprs) → IsCall ps ls params is name es →
    is_call_of ls params is es (proc_named ps name) ≡ true
call_complete ps ls params is name es c =
    ap (is_call_of ls params is es) c.named
    ∙ and_true (ap (are_arguments ls es) c.plain ∙ arguments_given ls es c.bases c.arguments)
    (and_true (targets_given ls is (return_types c.callee) c.targets) (and_true ((Decides-own params is).1 c.own) (differ_given is c.differ)))

-- ---- statements

module _ (ps : List WProc) (ls : List BType) (params : ℕ) where
  own_sound : (i : ℕ) → nat_le params i ≡ true → params ≤ i
  own_sound i h = (Decides-leb params i).0 h

  own_complete : (i : ℕ) → params ≤ i → nat_le params i ≡ true
  own_complete i h = (Decides-leb params i).1 h

  mutual
    stmt_is_sound : (x : w.WStmt) → is_wide_stmt ps ls params x ≡ true → IsWideStmt ps ls params x
    stmt_is_sound (w.Assign i e) h = let p = and_parts (nat_le params i) (is_typed_stmt ls (s.Assign i e)) h in ty.assign (own_sound i p.0) (stmt_sound ls (s.Assign i e) p.1)
    stmt_is_sound (w.Put i es e) h = let p = and_parts (nat_le params i) (is_typed_stmt ls (s.Put i es e)) h in ty.put (own_sound i p.0) (stmt_sound ls (s.Put i es e) p.1)
    stmt_is_sound (w.Havoc i) h = let p = and_parts (nat_le params i) (is_typed_stmt ls (s.Havoc i)) h in ty.havoc (own_sound i p.0) (stmt_sound ls (s.Havoc i) p.1)
    stmt_is_sound (w.Assume e) h = ty.assume_ ((Decides-is_bool ls e).0 h)
    stmt_is_sound (w.Assert l e) h = ty.assert_ ((Decides-is_bool ls e).0 h)
    stmt_is_sound (w.If e xs ys) h =
        let p = and_parts (is_bool ls e) (is_wide ps ls params xs && is_wide ps ls params ys) h in
        let q = and_parts (is_wide ps ls params xs) (is_wide ps ls params ys) p.1 in
        ty.if_ ((Decides-is_bool ls e).0 p.0) (block_is_sound xs q.0) (block_is_sound ys q.1)
    stmt_is_sound (w.Either xs ys) h =
        let q = and_parts (is_wide ps ls params xs) (is_wide ps ls params ys) h in
        ty.either (block_is_sound xs q.0) (block_is_sound ys q.1)
    stmt_is_sound (w.While g invariants xs) h =
        let p = and_parts (is_guard ls g) (are_bools ls invariants && is_wide ps ls params xs) h in
        let q = and_parts (are_bools ls invariants) (is_wide ps ls params xs) p.1 in
        ty.while_ ((Decides-is_guard ls g).0 p.0) ((Decides-are_bools ls invariants).0 q.0) (block_is_sound xs q.1)
    stmt_is_sound (w.Call is name es) h = ty.call_ (call_sound ps ls params is name es (proc_named ps name) refl h)

    block_is_sound : (xs : w.WStmts) → is_wide ps ls params xs ≡ true → IsWide ps ls params xs
    block_is_sound w.skip h = ty.skip
    block_is_sound (w.first x xs) h =
        let q = and_parts (is_wide_stmt ps ls params x) (is_wide ps ls params xs) h in
        ty.first (stmt_is_sound x q.0) (block_is_sound xs q.1)

  mutual
    stmt_is_complete : {x : w.WStmt} → IsWideStmt ps ls params x → is_wide_stmt ps ls params x ≡ true
    stmt_is_complete (ty.assign own h) = and_true (own_complete _ own) (stmt_complete h)
    stmt_is_complete (ty.put own h) = and_true (own_complete _ own) (stmt_complete h)
    stmt_is_complete (ty.havoc own h) = and_true (own_complete _ own) (stmt_complete h)
    stmt_is_complete (ty.assume_ {e = e} h) = (Decides-is_bool ls e).1 h
    stmt_is_complete (ty.assert_ {e = e} h) = (Decides-is_bool ls e).1 h
    stmt_is_complete (ty.if_ {e = e} h xs ys) = and_true ((Decides-is_bool ls e).1 h) (and_true (block_is_complete xs) (block_is_complete ys))
    stmt_is_complete (ty.either xs ys) = and_true (block_is_complete xs) (block_is_complete ys)
    stmt_is_complete (ty.while_ {g = g} {invariants = invariants} h k xs) =
        and_true ((Decides-is_guard ls g).1 h) (and_true ((Decides-are_bools ls invariants).1 k) (block_is_complete xs))
    stmt_is_complete (ty.call_ {is = is} {name = name} {es = es} c) = call_complete ps ls params is name es c

    block_is_complete : {xs : w.WStmts} → IsWide ps ls params xs → is_wide ps ls params xs ≡ true
    block_is_complete ty.skip = refl
    block_is_complete (ty.first x xs) = and_true (stmt_is_complete x) (block_is_complete xs)

  Decides-is_body : (o : Option w.WStmts) → Decides (is_wide_body ps ls params o) (IsWideBody ps ls params o)
  Decides-is_body None = (λ h. tt, λ h. refl)
  Decides-is_body (Some xs) = (block_is_sound xs, λ h. block_is_complete h)

-- ---- procedures

Decides-is_plain : (u : BType) → Decides (is_plain u) (u.keys ≡ [])
Decides-is_plain u = (
  λ h. ap (λ w. w.keys) (type_same u (plain_type u.base) h),
  λ h. let e : u ≡ plain_type u.base = λ i. record { keys = h i; base = u.base } in
      ap (λ w. same_type w (plain_type u.base)) e ∙ same_type_itself (plain_type u.base),
)

pub Decides-is_wide_proc : (ps : List WProc) (d : WProc) → Decides (is_wide_proc ps d) (IsWideProc ps d)
Decides-is_wide_proc ps d =
    let keys = Decides-have_keys (wide_types d) in
    let there = Decides-leb (d.params + d.returns) (length d.locals) in
    let plain = Decides-list_all is_plain (λ u. u.keys ≡ []) Decides-is_plain (head_types d) in
    let before = Decides-are_bools (param_types d) d.preconditions in
    let after = Decides-are_bools (head_types d) d.postconditions in
    let body = Decides-is_body ps (wide_types d) d.params d.body in (
      λ h.
          let p = and_parts (have_keys (wide_types d)) _ h in
          let q = and_parts (is_wide_head d) _ p.1 in
          let r = and_parts (nat_le (d.params + d.returns) (length d.locals)) _ q.0 in
          let x = and_parts (list_all is_plain (head_types d)) _ r.1 in
          let y = and_parts (are_bools (param_types d) d.preconditions) (are_bools (head_types d) d.postconditions) x.1 in
          record {
            keys = keys.0 p.0;
            there = there.0 r.0;
            plain = plain.0 x.0;
            preconditions = before.0 y.0;
            postconditions = after.0 y.1;
            body = body.0 q.1;
          },
      λ h. and_true (keys.1 h.keys)
          (and_true (and_true (there.1 h.there) (and_true (plain.1 h.plain) (and_true (before.1 h.preconditions) (after.1 h.postconditions)))) (body.1 h.body)),
    )

-- ---- programs

module _ (ps : List WProc) where
  abbrev AllTyped : List WProc → Type 0
  AllTyped ds = (n : ℕ) (d : WProc) → slice_get ds n ≡ Some d → IsWideProc ps d

  record First (ds : List WProc) (number : ℕ) : Type 0 where
    place : ℕ
    is_number : number ≡ suc place
    procedure : WProc
    is_there : slice_get ds place ≡ Some procedure
    is_ill_typed : IsWideProc ps procedure → ⊥
    before : (n : ℕ) (d : WProc) → n < place → slice_get ds n ≡ Some d → IsWideProc ps d

  typed_first : (d : WProc) (ds : List WProc) → IsWideProc ps d → AllTyped ds → AllTyped (d ∷ ds)
  typed_first d ds h g zero e there = subst (IsWideProc ps) (some_same there) h
  typed_first d ds h g (suc n) e there = g n e there

  none_at : (o : Option ℕ) → option_map suc o ≡ None → o ≡ None
  none_at None h = refl
  none_at (Some n) h = absurd (cc)

  some_at : (o : Option ℕ) (number : ℕ) → option_map suc o ≡ Some number → (n : ℕ) × (o ≡ Some n) × (suc n ≡ number)
  some_at None number h = absurd (cc)
  some_at (Some n) number h = (n, refl, some_same h)

  none_step : (d : WProc) (ds : List WProc) (p : Truth) → is_wide_proc ps d ≡ p → (if p then option_map suc (ill_typed_wide ps ds) else Some 1) ≡ None →
      (ill_typed_wide ps ds ≡ None → AllTyped ds) → AllTyped (d ∷ ds)
  none_step d ds true e h f = typed_first d ds ((Decides-is_wide_proc ps d).0 e) (f (none_at (ill_typed_wide ps ds) h))
  none_step d ds false e h f = absurd (cc)

  none_is_typed : (ds : List WProc) → ill_typed_wide ps ds ≡ None → AllTyped ds
  none_is_typed [] h = λ n d there. absurd (cc)
  none_is_typed (d ∷ ds) h = none_step d ds (is_wide_proc ps d) refl h (none_is_typed ds)

  typed_is_none : (ds : List WProc) → AllTyped ds → ill_typed_wide ps ds ≡ None
  typed_is_none [] h = refl
  typed_is_none (d ∷ ds) h =
      let e : is_wide_proc ps d ≡ true = (Decides-is_wide_proc ps d).1 (h zero d refl) in
      let f : ill_typed_wide ps ds ≡ None = typed_is_none ds (λ n x there. h (suc n) x there) in
      rw (e, f) refl

  before_first : (d : WProc) (ds : List WProc) (place : ℕ) → IsWideProc ps d → ((n : ℕ) (x : WProc) → n < place → slice_get ds n ≡ Some x → IsWideProc ps x) →
      (n : ℕ) (x : WProc) → n < suc place → slice_get (d ∷ ds) n ≡ Some x → IsWideProc ps x
  before_first d ds place h g zero x below there = subst (IsWideProc ps) (some_same there) h
  before_first d ds place h g (suc n) x below there = g n x (omega (arith, below)) there

  after_typed : (d : WProc) (ds : List WProc) (n number : ℕ) → IsWideProc ps d → suc n ≡ number → First ds n → First (d ∷ ds) number
  after_typed d ds n number h e f = record {
    place = suc f.place;
    is_number = sym e ∙ ap suc f.is_number;
    procedure = f.procedure;
    is_there = f.is_there;
    is_ill_typed = f.is_ill_typed;
    before = before_first d ds f.place h f.before;
  }

  some_step : (d : WProc) (ds : List WProc) (number : ℕ) (p : Truth) → is_wide_proc ps d ≡ p → (if p then option_map suc (ill_typed_wide ps ds) else Some 1) ≡ Some number →
      ((n : ℕ) → ill_typed_wide ps ds ≡ Some n → First ds n) → First (d ∷ ds) number
  some_step d ds number true e h f =
      let x = some_at (ill_typed_wide ps ds) number h in
      after_typed d ds x.0 number ((Decides-is_wide_proc ps d).0 e) x.2 (f x.0 x.1)
  some_step d ds number false e h f = record {
    place = 0;
    is_number = sym (some_same h);
    procedure = d;
    is_there = refl;
    is_ill_typed = λ g. let t : is_wide_proc ps d ≡ true = (Decides-is_wide_proc ps d).1 g in absurd (cc);
    before = λ n x below there. absurd (omega (arith, below));
  }

  some_is_first : (ds : List WProc) (number : ℕ) → ill_typed_wide ps ds ≡ Some number → First ds number
  some_is_first [] number h = absurd (cc)
  some_is_first (d ∷ ds) number h = some_step d ds number (is_wide_proc ps d) refl h (λ n g. some_is_first ds n g)

pub none_ill_typed : (program : WProgram) → ill_typed_wide program.procs program.procs ≡ None → IsWideProgram program
none_ill_typed program h = none_is_typed program.procs program.procs h

pub none_ill_typed_back : (program : WProgram) → IsWideProgram program → ill_typed_wide program.procs program.procs ≡ None
none_ill_typed_back program h = typed_is_none program.procs program.procs h

pub is_first_wide : (program : WProgram) (number : ℕ) → ill_typed_wide program.procs program.procs ≡ Some number → IsFirstIllTypedWide program number
is_first_wide program number h =
    let f = some_is_first program.procs program.procs number h in
    record {
      place = f.place;
      is_number = f.is_number;
      procedure = f.procedure;
      is_there = f.is_there;
      is_ill_typed = f.is_ill_typed;
      before = f.before;
    }
