-- A procedure that is read part by part, behind its head.
use Rattle.std.proofs.Common.{◌≡◌, ◌∙◌, refl, sym, ap, subst, arith, ℕ, ◌+◌, ◌≤◌, true, false, List, [], ◌∷◌, ◌++◌, length, map, Some, None}
use Rattle.std.proofs.lemmas.List.{map-append}
use Rattle.boogie_print.proofs.SpelledLaws.{names_more}
use Rattle.sparse.proofs.MapLaws.{Decides-list_all}
use Rattle.vb_base.specs.Names.{NamesDiffer}
use Rattle.boogie_tree.specs.Program.{BType, Local, Proc}
use Rattle.boogie_tree.specs.Stmt as s
use Rattle.boogie_tree.specs.Stmt.{BStmt, stmts}
use Rattle.boogie_tree.specs.Values.{AreKeys, are_keys}
use Rattle.boogie_tree.specs.Whole.{local_of, locals_of, proc_of, program_of, stmt_of, stmts_of}
use Rattle.boogie_tree.specs.declared.programs.BProgram as program
use Rattle.boogie_tree.specs.declared.programs.Local as declared
use Rattle.boogie_tree.specs.declared.programs.Proc as whole
use Rattle.boogie_tree.specs.declared.stmts.BStmt as stmt
use Rattle.boogie_grammar.specs.Grammar.{local_names}
use Rattle.boogie_meaning.specs.Programs.{HaveKeys, have_keys, types_of}
use Rattle.boogie_meaning.specs.Types.{IsTyped, IsTypedStmt, is_typed_stmt, skip, first}
use Rattle.boogie_meaning.proofs.TypeLaws.{Decides-are_keys, stmt_sound}
use Rattle.boogie_types.specs.Typed.{types_in}
use Rattle.boogie_types.proofs.TypingLaws.{types_are}
use Rattle.boogie_text.specs.Tail.{IsTail, IsLocalsTail, IsBodyTail, BeginsLocal, BeginsStatement, BeginsEnd}
use Rattle.boogie_text.proofs.TailLaws.{body_begins}
use Rattle.tool_procedure.specs.declared.alone.ProcedureResult.{ProcedureResult}
use Rattle.tool_procedure.specs.declared.alone.ProcedureResult.TheVariants as made
use Rattle.tool_procedure.specs.declared.alone.ProcedureTask.TheVariants as task
use Rattle.tool_procedure.specs.Parts.{Begins, IsBody, IsDone, IsMade, IsPassed, IsProcedure, HasBody, with_body}

-- ---- names that differ

no_names : NamesDiffer []
no_names = λ i j d lt within. absurd (omega (arith, within))

-- ---- the locals, as a loop comes to them

pub record IsBegunTo (text rest : List ℕ) (ls : List Local) (names : List (List ℕ)) : Type 0 where
  pub names_are : local_names ls ≡ names
  pub differ : NamesDiffer names
  pub goes_on : (so_far : List Proc) (name : List ℕ) (all : List Proc) → IsLocalsTail so_far name ls rest all → IsLocalsTail so_far name [] text all
  pub not_longer : length rest ≤ length text

pub begun_none : (text : List ℕ) → IsBegunTo text text [] []
begun_none text = record { names_are = refl; differ = no_names; goes_on = λ so_far name all h. h; not_longer = omega arith }

names_with : (ls : List Local) (l : Local) → local_names (ls ++ l ∷ []) ≡ local_names ls ++ l.name ∷ []
names_with [] l = refl
names_with (k ∷ ls) l = ap (λ ns. k.name ∷ ns) (names_with ls l)

pub begun_one : {text rest after : List ℕ} {ls with : List Local} {names more : List (List ℕ)} (l : Local) → IsBegunTo text rest ls names → BeginsLocal names rest l after → with ≡ ls ++ l ∷ [] →
    more ≡ names ++ l.name ∷ [] → IsBegunTo text after with more
begun_one {text} {rest} {after} {ls} {with} {names} {more} l f next is one = subst (λ ks. IsBegunTo text after ks more) (sym is) (record {
  names_are = names_with ls l ∙ ap (λ ns. ns ++ l.name ∷ []) f.names_are ∙ sym one;
  differ = subst NamesDiffer (sym one) (names_more names l.name f.differ next.new);
  goes_on = λ so_far name all h. f.goes_on so_far name all (next.goes_on so_far name ls all f.names_are h);
  not_longer = let a = next.shorter in let b = f.not_longer in omega (arith, a, b);
})

pub begun_all : {text rest : List ℕ} {names : List (List ℕ)} (begun : Proc) → IsBegunTo text rest begun.locals names → HaveKeys (types_of begun) → begun.body ≡ s.skip → Begins begun.name text begun names rest
begun_all {text} {rest} {names} begun f keys none = record {
  is_named = refl;
  names_are = f.names_are;
  names_differ = f.differ;
  keys = keys;
  none_read = none;
  goes_on = λ so_far name all h. f.goes_on so_far name all (body_begins h);
  not_longer = f.not_longer;
}

-- ---- the statements, as a loop comes to them

-- behind these locals the text is these statements, which are well-typed, and the rest
pub record IsGone (ls : List Local) (text rest : List ℕ) (body : List BStmt) : Type 0 where
  pub typed : IsTyped (map (λ (l : Local). l.ty) ls) (stmts body)
  pub goes_on : (so_far : List Proc) (name : List ℕ) (all : List Proc) → IsBodyTail so_far name ls body rest all → IsBodyTail so_far name ls [] text all
  pub not_longer : length rest ≤ length text

pub gone_none : (ls : List Local) (text : List ℕ) → IsGone ls text text []
gone_none ls text = record { typed = skip; goes_on = λ so_far name all h. h; not_longer = omega arith }

typed_with : {us : List BType} (body : List BStmt) (a : BStmt) → IsTyped us (stmts body) → IsTypedStmt us a → IsTyped us (stmts (body ++ a ∷ []))
typed_with [] a h one = first one skip
typed_with (x ∷ body) a (first h rest) one = first h (typed_with body a rest one)

pub gone_one : {ls : List Local} {names : List (List ℕ)} {text rest after : List ℕ} {body : List BStmt} (a : BStmt) → local_names ls ≡ names → IsGone ls text rest body → BeginsStatement names rest a after →
    IsTypedStmt (map (λ (l : Local). l.ty) ls) a → IsGone ls text after (body ++ a ∷ [])
gone_one {ls} {names} {text} {rest} {after} {body} a same g begins typed = record {
  typed = typed_with body a g.typed typed;
  goes_on = λ so_far name all tail. g.goes_on so_far name all (begins.goes_on so_far name ls body all same tail);
  not_longer = let s = begins.shorter in let n = g.not_longer in omega (arith, s, n);
}

pub gone_all : {ls : List Local} {text rest after : List ℕ} {body : List BStmt} → IsGone ls text rest body → BeginsEnd rest after → IsBody ls text body after
gone_all {ls} {text} {rest} {after} {body} g ends = record {
  typed = g.typed;
  goes_on = λ so_far name all tail. g.goes_on so_far name all (ends.goes_on so_far name ls body all tail);
  shorter = let s = ends.shorter in let n = g.not_longer in omega (arith, s, n);
}

-- ---- a whole procedure

module _ {name text : List ℕ} {begun : Proc} {names : List (List ℕ)} {rest : List ℕ} (f : Begins name text begun names rest) where
  is_procedure : {after : List ℕ} {body : List BStmt} → IsBody begun.locals rest body after → IsProcedure name text (with_body begun body) after
  is_procedure {after} {body} b = record {
    is_named = f.is_named;
    typed = record { keys = f.keys; body = b.typed };
    goes_on = λ so_far all h. f.goes_on so_far name all (b.goes_on so_far name all (subst (λ n. IsTail (so_far ++ record { name = n; locals = begun.locals; body = stmts body } ∷ []) after all) f.is_named h));
    shorter = let s = b.shorter in let n = f.not_longer in omega (arith, s, n);
  }

  -- of which nothing is kept
  pub passed_over : {X : Type 0} (P : Proc → X → Type 0) {after : List ℕ} → HasBody begun.locals rest after → IsPassed P false name text None after
  passed_over P h = record { procedure = with_body begun h.0; is = is_procedure h.1; keeps = tt }

  -- of which something is made
  pub made_whole : (P : Proc → ProcedureResult → Type 0) {made : ProcedureResult} {after : List ℕ} → IsDone P begun rest made after → IsPassed P true name text (Some made) after
  made_whole P d = record { procedure = with_body begun d.body; is = is_procedure d.is_body; keeps = d.is_made }

-- ---- what code tells

-- the types that a loop tests
pub stmt_typed : (ls : List declared.Local) (a : BStmt) → is_typed_stmt (types_in ls) a ≡ true → IsTypedStmt (map (λ (l : Local). l.ty) (locals_of ls)) a
stmt_typed ls a h = subst (λ us. IsTypedStmt us a) (types_are ls) (stmt_sound (types_in ls) a h)

pub keys_typed : (ls : List declared.Local) → have_keys (types_in ls) ≡ true → HaveKeys (map (λ (l : Local). l.ty) (locals_of ls))
keys_typed ls h = subst HaveKeys (types_are ls) ((Decides-list_all (λ (u : BType). are_keys u.keys) (λ (u : BType). AreKeys u.keys) (λ u. Decides-are_keys u.keys) (types_in ls)).0 h)

pub locals_with : {more : List declared.Local} (ls : List declared.Local) (l : declared.Local) → more ≡ ls ++ l ∷ [] → locals_of more ≡ locals_of ls ++ local_of l ∷ []
locals_with ls l is = ap locals_of is ∙ map-append local_of ls (l ∷ [])

-- ---- the program of one procedure

stmts_are : (xs : List stmt.BStmt) → stmts_of xs ≡ stmts (map stmt_of xs)
stmts_are [] = refl
stmts_are (a ∷ xs) = ap (s.first (stmt_of a)) (stmts_are xs)

pub kept_done : {text rest : List ℕ} (d : whole.Proc) (body : List stmt.BStmt) (b : program.BProgram) → IsBody (proc_of d).locals text (map stmt_of body) rest →
    program_of b ≡ record { procs = record { name = d.name; locals = locals_of d.locals.items; body = stmts_of body } ∷ [] } → IsDone (IsMade task.Keep) (proc_of d) text (made.Program b) rest
kept_done d body b is only = record {
  body = map stmt_of body;
  is_body = is;
  is_made = only ∙ ap (λ xs. record { procs = record { name = d.name; locals = locals_of d.locals.items; body = xs } ∷ [] }) (stmts_are body);
}
