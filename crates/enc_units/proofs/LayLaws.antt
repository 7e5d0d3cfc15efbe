-- The row of steps of a unit lays out its code: the numbers and the types of its locals, and pieces that form its statements.
use Rattle.std.specs.Bool.{⊤}
use Rattle.std.proofs.Common.{◌≡◌, ◌∙◌, ◌++◌, ℕ, List, [], ◌∷◌, Option, Some, None, slice_get, refl, ap, sym, subst, append_assoc, append-nil}
use Rattle.vb_base.specs.declared.places.Pos.{Pos}
use Rattle.viper_core.specs.Expr as e
use Rattle.viper_core.specs.Program.{Program, Predicate, Method, Body}
use Rattle.viper_core.specs.Stmt as v
use Rattle.viper_core.specs.declared.programs.Unit.{Unit}
use Rattle.viper_core.specs.declared.programs.Unit.TheVariants as unit
use Rattle.boogie_print.specs.Pieces as piece
use Rattle.boogie_print.specs.Pieces.{Piece}
use Rattle.boogie_tree.specs.Expr as t
use Rattle.boogie_tree.specs.Program.{BType}
use Rattle.boogie_tree.specs.Stmt as s
use Rattle.boogie_tree.specs.Stmt.{BStmts}
use Rattle.enc_expr.specs.Code.{Code as Written, Emitting, join, gives, then_emit, puts}
use Rattle.enc_expr.specs.Encoding.{code}
use Rattle.enc_expr.specs.Kinds.{Kinds}
use Rattle.enc_expr.specs.Pieces.{Operand, one, one_real}
use Rattle.enc_expr.proofs.RunLaws.{join_skip}
use Rattle.enc_assert.specs.Encoding.{produce_code}
use Rattle.enc_block.specs.Encoding.{assert_code, branching, after_code, check_code, stmt_code, block_code, loop_code, ending_code, either_code, method_code, with_body, with_method}
use Rattle.enc_units.specs.Forms as f
use Rattle.enc_units.specs.Forms.{Forms}
use Rattle.enc_block.specs.Home.{Home, place}
use Rattle.enc_block.specs.Parts.{head_code, turn_head, turn_end, start_code}
use Rattle.enc_units.specs.Rows.{row_next, row_types, row_pieces}
use Rattle.enc_units.specs.Steps.{RowStep, Code, CodeStep, Start, Plain, Head, Turn, Finish, After, Enter, Leave, Check, Produce, Branch, Begin, Pick, Otherwise, End, stmt_row, block_row, body_row, method_row, produced_row, predicate_row, running_row, unit_row, Bracket, part_code, step_code, unit_step}
use Rattle.enc_locals.specs.Procedure.{vars_of_method, vars_of_predicate, unit_vars}
use Rattle.enc_units.specs.Units as u
use Rattle.enc_units.specs.Units.{with_predicate, running_code, unit_code, kinds_with, home_of}
use Rattle.enc_block.proofs.PartLaws.{loop_is, method_is}
use Rattle.enc_units.proofs.RowLaws.{next-append, types-append, pieces-append}

pub as_formed : {ps qs : List Piece} {xs ys : BStmts} → ps ≡ qs → xs ≡ ys → Forms qs xs → Forms ps ys
as_formed {ps = ps} {qs = qs} {xs = xs} {ys = ys} h k formed = subst (λ (z : BStmts). Forms ps z) k (subst (λ (rs : List Piece). Forms rs xs) (sym h) formed)

-- pieces before statements that are skipped, and behind them
form_before : {ps : List Piece} {xs : BStmts} → Forms ps xs → Forms (piece.Code s.skip ∷ ps) xs
form_before h = f.both (f.code s.skip) h

form_behind : {ps : List Piece} {xs : BStmts} → Forms ps xs → Forms (ps ++ (piece.Code s.skip ∷ [])) xs
form_behind {xs = xs} h = as_formed refl (join_skip xs) (f.both h (f.code s.skip))

-- two blocks with their brackets, where nothing else is written before a bracket
abbrev laid_blocks : List Piece → List Piece → List Piece
laid_blocks ps qs = ps ++ (piece.Code s.skip ∷ piece.Else ∷ (qs ++ (piece.Code s.skip ∷ piece.End ∷ [])))

blocks_laid : (ps qs : List Piece) →
    ps ++ (piece.Code s.skip ∷ piece.Else ∷ (qs ++ (piece.Code s.skip ∷ piece.End ∷ []))) ≡ (ps ++ (piece.Code s.skip ∷ [])) ++ (piece.Else ∷ ((qs ++ (piece.Code s.skip ∷ [])) ++ (piece.End ∷ [])))
blocks_laid ps qs =
    ap (λ (back : List Piece). ps ++ (piece.Code s.skip ∷ piece.Else ∷ back)) (sym (append_assoc qs (piece.Code s.skip ∷ []) (piece.End ∷ [])))
    ∙ sym (append_assoc ps (piece.Code s.skip ∷ []) (piece.Else ∷ ((qs ++ (piece.Code s.skip ∷ [])) ++ (piece.End ∷ []))))

form_branch : {ps qs : List Piece} {xs ys : BStmts} (c : t.BExpr) → Forms ps xs → Forms qs ys →
    Forms (piece.If c ∷ (ps ++ (piece.Code s.skip ∷ piece.Else ∷ (qs ++ (piece.Code s.skip ∷ piece.End ∷ []))))) (one (s.If c xs ys))
form_branch {ps = ps} {qs = qs} c h k = as_formed (ap (λ (back : List Piece). piece.If c ∷ back) (blocks_laid ps qs)) refl (f.branch c (form_behind h) (form_behind k))

form_choice : {ps qs : List Piece} {xs ys : BStmts} → Forms ps xs → Forms qs ys →
    Forms (piece.Either ∷ (ps ++ (piece.Code s.skip ∷ piece.Else ∷ (qs ++ (piece.Code s.skip ∷ piece.End ∷ []))))) (one (s.Either xs ys))
form_choice {ps = ps} {qs = qs} h k = as_formed (ap (λ (back : List Piece). piece.Either ∷ back) (blocks_laid ps qs)) refl (f.choice (form_behind h) (form_behind k))

-- from each number of the first local
pub record Lays (coder : RowStep → Emitting Bracket) (row : List RowStep) (m : Emitting ⊤) : Type 0 where
  pub next : (n : ℕ) → row_next coder row n ≡ (m n).next
  pub types : (n : ℕ) → row_types coder row n ≡ (m n).locals
  pub form : (n : ℕ) → Forms (row_pieces coder row n) (m n).stmts

module _ (p : Program) (x : Unit) (k : Kinds) (h : Home) where
  lays_nothing : Lays (step_code p x k h) [] (gives tt)
  lays_nothing = record { next = λ n. refl; types = λ n. refl; form = λ n. f.nothing }

  -- whole statements
  lays_code : (y : CodeStep) → Lays (step_code p x k h) (Code y ∷ []) (part_code p x k h y)
  lays_code y =
      let m : Emitting ⊤ = part_code p x k h y in
      record {
        next = λ n. refl;
        types = λ n. append-nil ((m n).locals ++ []) ∙ append-nil (m n).locals;
        form = λ n. as_formed refl (join_skip (m n).stmts) (f.code (join (m n).stmts s.skip));
      }

  lays_both : {xs ys : List RowStep} (a b : Emitting ⊤) → Lays (step_code p x k h) xs a → Lays (step_code p x k h) ys b → Lays (step_code p x k h) (xs ++ ys) (then_emit a (λ u. b))
  lays_both {xs = xs} {ys = ys} a b l r =
      let c : RowStep → Emitting Bracket = step_code p x k h in
      record {
        next = λ n. next-append c xs ys n ∙ ap (λ (i : ℕ). row_next c ys i) (l.next n) ∙ r.next (a n).next;
        types = λ n. types-append c xs ys n ∙ ap (λ (front : List BType). front ++ row_types c ys (row_next c xs n)) (l.types n)
            ∙ ap (λ (back : List BType). (a n).locals ++ back) (ap (λ (i : ℕ). row_types c ys i) (l.next n) ∙ r.types (a n).next);
        form = λ n. as_formed (pieces-append c xs ys n ∙ ap (λ (i : ℕ). row_pieces c xs n ++ row_pieces c ys i) (l.next n)) refl (f.both (l.form n) (r.form (a n).next));
      }

  -- two blocks, from behind the bracket that opens the first
  pub record LaysBlocks (row : List RowStep) (a b : Emitting ⊤) : Type 0 where
    pub next : (n : ℕ) → row_next (step_code p x k h) row n ≡ (b (a n).next).next
    pub types : (n : ℕ) → row_types (step_code p x k h) row n ≡ (a n).locals ++ (b (a n).next).locals
    pub one : ℕ → List Piece
    pub two : ℕ → List Piece
    pub pieces : (n : ℕ) → row_pieces (step_code p x k h) row n ≡ laid_blocks (one n) (two n)
    pub first : (n : ℕ) → Forms (one n) (a n).stmts
    pub second : (n : ℕ) → Forms (two n) (b (a n).next).stmts

  lays_blocks : {xs ys : List RowStep} (a b : Emitting ⊤) → Lays (step_code p x k h) xs a → Lays (step_code p x k h) ys b → LaysBlocks (xs ++ (Branch Otherwise ∷ (ys ++ (Branch End ∷ [])))) a b
  lays_blocks {xs = xs} {ys = ys} a b l r =
      let c : RowStep → Emitting Bracket = step_code p x k h in
      record {
        next = λ n. next-append c xs (Branch Otherwise ∷ (ys ++ (Branch End ∷ []))) n ∙ ap (λ (i : ℕ). row_next c (ys ++ (Branch End ∷ [])) i) (l.next n) ∙ next-append c ys (Branch End ∷ []) (a n).next ∙ r.next (a n).next;
        types = λ n. types-append c xs (Branch Otherwise ∷ (ys ++ (Branch End ∷ []))) n
            ∙ ap (λ (front : List BType). front ++ row_types c (ys ++ (Branch End ∷ [])) (row_next c xs n)) (l.types n)
            ∙ ap (λ (i : ℕ). (a n).locals ++ row_types c (ys ++ (Branch End ∷ [])) i) (l.next n)
            ∙ ap (λ (back : List BType). (a n).locals ++ back) (types-append c ys (Branch End ∷ []) (a n).next ∙ append-nil (row_types c ys (a n).next) ∙ r.types (a n).next);
        one = λ n. row_pieces c xs n;
        two = λ n. row_pieces c ys (a n).next;
        pieces = λ n. pieces-append c xs (Branch Otherwise ∷ (ys ++ (Branch End ∷ []))) n
            ∙ ap (λ (i : ℕ). row_pieces c xs n ++ (piece.Code s.skip ∷ piece.Else ∷ row_pieces c (ys ++ (Branch End ∷ [])) i)) (l.next n)
            ∙ ap (λ (back : List Piece). row_pieces c xs n ++ (piece.Code s.skip ∷ piece.Else ∷ back)) (pieces-append c ys (Branch End ∷ []) (a n).next);
        first = λ n. l.form n;
        second = λ n. r.form (a n).next;
      }

  lays_choice : {row : List RowStep} (a b : Emitting ⊤) → LaysBlocks row a b → Lays (step_code p x k h) (Branch Pick ∷ row) (branching s.Either a b)
  lays_choice a b blocks = record {
    next = λ n. blocks.next n;
    types = λ n. blocks.types n;
    form = λ n. as_formed (ap (λ (back : List Piece). piece.Code s.skip ∷ piece.Either ∷ back) (blocks.pieces n)) refl (form_before (form_choice (blocks.first n) (blocks.second n)));
  }

  lays_if : {row : List RowStep} (at : Pos) (c : e.Expr) (a b : Emitting ⊤) → LaysBlocks row a b →
      Lays (step_code p x k h) (Branch (Begin at c) ∷ row) (then_emit (code k (place h at) None c) (λ y. branching (s.If y.expr) a b))
  lays_if {row = row} at c a b blocks = record {
    next = λ n. blocks.next (code k (place h at) None c n).next;
    types = λ n. ap (λ (front : List BType). front ++ row_types (step_code p x k h) row (code k (place h at) None c n).next) (append-nil (code k (place h at) None c n).locals)
        ∙ ap (λ (back : List BType). (code k (place h at) None c n).locals ++ back) (blocks.types (code k (place h at) None c n).next);
    form = λ n.
        let read : Written Operand = code k (place h at) None c n in
        as_formed (ap (λ (ys : BStmts). piece.Code ys ∷ piece.If read.value.expr ∷ row_pieces (step_code p x k h) row read.next) (join_skip read.stmts)
        ∙ ap (λ (back : List Piece). piece.Code read.stmts ∷ piece.If read.value.expr ∷ back) (blocks.pieces read.next)) refl
        (f.both (f.code read.stmts) (form_branch read.value.expr (blocks.first read.next) (blocks.second read.next)));
  }

  lays_loop : {row : List RowStep} (at : Pos) (guard : e.Expr) (invariants : List e.Assertion) (block : v.Stmts) (body : Emitting ⊤) (turn : Pos) (targets : List ℕ) → Lays (step_code p x k h) row body →
      Lays (step_code p x k h) (Code (Head (v.loop at guard invariants block turn targets)) ∷ Branch Pick ∷ Code (Turn (v.loop at guard invariants block turn targets)) ∷
      (row ++ (Code (Finish (v.loop at guard invariants block turn targets)) ∷ Branch Otherwise ∷ Code (After (v.loop at guard invariants block turn targets)) ∷ Branch End ∷ [])))
      (loop_code k h at guard invariants body turn targets)
  lays_loop {row = row} at guard invariants block body turn targets l =
      let w : v.Loop = v.loop at guard invariants block turn targets in
      let around : Emitting ⊤ = then_emit body (λ u. turn_end k h turn invariants) in
      let one_turn : Emitting ⊤ = then_emit (turn_head k h at guard invariants) (λ u. around) in
      let behind : Emitting ⊤ = after_code k h at guard invariants in
      let whole_turn : Lays (step_code p x k h) (Code (Turn w) ∷ (row ++ (Code (Finish w) ∷ []))) one_turn =
      lays_both (turn_head k h at guard invariants) around (lays_code (Turn w)) (lays_both body (turn_end k h turn invariants) l (lays_code (Finish w))) in
      let all : Lays (step_code p x k h) (Code (Head w) ∷ Branch Pick ∷ Code (Turn w) ∷ ((row ++ (Code (Finish w) ∷ [])) ++ (Branch Otherwise ∷ Code (After w) ∷ Branch End ∷ []))) (then_emit (head_code k h at invariants targets) (λ u. branching s.Either one_turn behind)) =
      lays_both (head_code k h at invariants targets) (branching s.Either one_turn behind) (lays_code (Head w))
      (lays_choice one_turn behind (lays_blocks one_turn behind whole_turn (lays_code (After w)))) in
      subst (λ (m : Emitting ⊤). Lays (step_code p x k h) (Code (Head w) ∷ Branch Pick ∷ Code (Turn w) ∷ (row ++ (Code (Finish w) ∷ Branch Otherwise ∷ Code (After w) ∷ Branch End ∷ []))) m) (sym (loop_is k h at guard invariants body turn targets))
      (subst (λ (rest : List RowStep). Lays (step_code p x k h) (Code (Head w) ∷ Branch Pick ∷ Code (Turn w) ∷ rest) (then_emit (head_code k h at invariants targets) (λ u. branching s.Either one_turn behind)))
      (append_assoc row (Code (Finish w) ∷ []) (Branch Otherwise ∷ Code (After w) ∷ Branch End ∷ [])) all)

  mutual
    pub stmt_lays : (y : v.Stmt) → Lays (step_code p x k h) (stmt_row y) (stmt_code p k h y)
    stmt_lays (v.If at c first second) =
        lays_if at c (block_code p k h first) (block_code p k h second) (lays_blocks (block_code p k h first) (block_code p k h second) (block_lays first) (block_lays second))
    stmt_lays (v.While (v.loop at guard invariants body turn targets)) = lays_loop at guard invariants body (block_code p k h body) turn targets (block_lays body)
    stmt_lays y = lays_code (Plain y)

    pub block_lays : (ys : v.Stmts) → Lays (step_code p x k h) (block_row ys) (block_code p k h ys)
    block_lays v.skip = lays_nothing
    block_lays (v.next a rest) = lays_both (stmt_code p k h a) (block_code p k h rest) (stmt_lays a) (block_lays rest)

  -- a method from behind its start
  body_lays : (m : Method) (o : Option Body) → Lays (step_code p x k h) (body_row m o) (either_code p k h m o)
  body_lays m None = lays_code (Check m)
  body_lays m (Some body) =
      let ending : Emitting ⊤ = ending_code p k h m body in
      let whole : Lays (step_code p x k h) (block_row body.stmts ++ (Code (Leave m body.turn) ∷ [])) ending =
      lays_both (block_code p k h body.stmts) (assert_code k h body.turn m.postconditions) (block_lays body.stmts) (lays_code (Leave m body.turn)) in
      subst (λ (rest : List RowStep). Lays (step_code p x k h) (Branch Pick ∷ rest) (branching s.Either ending (check_code k h m)))
      (append_assoc (block_row body.stmts) (Code (Leave m body.turn) ∷ []) (Branch Otherwise ∷ Code (Check m) ∷ Branch End ∷ []))
      (lays_choice ending (check_code k h m) (lays_blocks ending (check_code k h m) whole (lays_code (Check m))))

  given_lays : (m : Method) → Lays (step_code p x k h) (Code (Enter m) ∷ body_row m m.body) (method_code p k h m)
  given_lays m = subst (λ (z : Emitting ⊤). Lays (step_code p x k h) (Code (Enter m) ∷ body_row m m.body) z) (sym (method_is p k h m))
      (lays_both (start_code k h m) (either_code p k h m m.body) (lays_code (Enter m)) (body_lays m m.body))

-- ---- units

module _ (p : Program) (x : Unit) (h : Home) where
  method_lays : (o : Option Method) → Lays (step_code p x (kinds_with p (vars_of_method o)) h) (method_row o) (with_method o (λ m. method_code p (kinds_with p m.vars) h m))
  method_lays None = lays_nothing p x (kinds_with p []) h
  method_lays (Some m) = given_lays p x (kinds_with p m.vars) h m

  produced_lays : (d : Predicate) (o : Option e.Assertion) →
      Lays (step_code p x (kinds_with p d.params) h) (produced_row d o) (with_body o (λ body. produce_code (kinds_with p d.params) (place h d.at) None one_real body))
  produced_lays d None = lays_nothing p x (kinds_with p d.params) h
  produced_lays d (Some body) = lays_code p x (kinds_with p d.params) h (Produce d.at body)

  predicate_lays : (o : Option Predicate) → Lays (step_code p x (kinds_with p (vars_of_predicate o)) h) (predicate_row o)
      (with_predicate o (λ d. with_body d.body (λ body. produce_code (kinds_with p d.params) (place h d.at) None one_real body)))
  predicate_lays None = lays_nothing p x (kinds_with p []) h
  predicate_lays (Some d) = produced_lays d d.body

running_lays : (p : Program) (x : Unit) → Lays (unit_step p x) (running_row p x) (running_code p x)
running_lays p (unit.Method n) = method_lays p (unit.Method n) (home_of p (unit.Method n)) (slice_get p.methods n)
running_lays p (unit.Predicate n) = predicate_lays p (unit.Predicate n) (home_of p (unit.Predicate n)) (slice_get p.predicates n)

pub unit_lays : (p : Program) (x : Unit) → Lays (unit_step p x) (unit_row p x) (unit_code p x)
unit_lays p x =
    let k : Kinds = kinds_with p (unit_vars p x) in
    lays_both p x k (home_of p x) (puts None (u.start_code p x)) (running_code p x) (lays_code p x k (home_of p x) Start) (running_lays p x)
