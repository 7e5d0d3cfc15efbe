-- Pieces that form statements build them, behind those of the block that is open. What the code keeps of open blocks is what the
-- pieces so far build.
use Rattle.std.proofs.Common.{◌≡◌, ◌∙◌, ◌++◌, ℕ, List, [], ◌∷◌, Option, Some, None, length, map, reverse, refl, ap, sym}
use Rattle.std.proofs.lemmas.List.{map-append, reverse-append}
use Rattle.boogie_print.specs.Pieces.{Piece, Else, End}
use Rattle.boogie_tree.specs.Expr as t
use Rattle.boogie_tree.specs.Stmt as s
use Rattle.boogie_tree.specs.Stmt.{BStmts}
use Rattle.boogie_tree.specs.Whole.{stmt_of, stmts_of}
use Rattle.boogie_tree.specs.declared.stmts.BStmt.{BStmt}
use Rattle.enc_expr.specs.Code.{Emitting, join}
use Rattle.enc_expr.specs.Emits.{Emit, Emits}
use Rattle.enc_expr.specs.Pieces.{one}
use Rattle.enc_expr.proofs.BlockLaws.{added}
use Rattle.enc_expr.proofs.RunLaws.{join_skip, join_assoc}
use Rattle.enc_stmt.specs.Built.{Around, Built, if_code, opened, turned, closed, with_piece, with_pieces, condition_of, branch_of, around_of, built_of}
use Rattle.enc_units.specs.Forms as f
use Rattle.enc_units.specs.Forms.{Forms}
use Rattle.enc_units.specs.Rows.{bracket_pieces, row_pieces}
use Rattle.enc_units.specs.Steps.{RowStep, Bracket}
use Rattle.enc_stmt.specs.declared.building.Branch.{Branch}

-- ---- pieces

with_pieces-append : (ps qs : List Piece) (x : Built) → with_pieces (ps ++ qs) x ≡ with_pieces qs (with_pieces ps x)
with_pieces-append [] qs x = refl
with_pieces-append (p ∷ ps) qs x = with_pieces-append ps qs (with_piece p x)

-- statements behind those of the block
abbrev behind : BStmts → Built → Built
behind xs x = record { block = join x.block xs; around = x.around }

-- two blocks, from behind the bracket that opens the first
blocks_built : (c : Option t.BExpr) (ps qs : List Piece) (xs ys : BStmts) (x : Built) → ((y : Built) → with_pieces ps y ≡ behind xs y) → ((y : Built) → with_pieces qs y ≡ behind ys y) →
    with_pieces (ps ++ (Else ∷ (qs ++ (End ∷ [])))) (opened c x) ≡ behind (one (if_code c xs ys)) x
blocks_built c ps qs xs ys x h k =
    let second : Built = turned xs (opened c x).around in
    with_pieces-append ps (Else ∷ (qs ++ (End ∷ []))) (opened c x) ∙ ap (with_pieces (Else ∷ (qs ++ (End ∷ [])))) (h (opened c x))
    ∙ with_pieces-append qs (End ∷ []) second ∙ ap (with_pieces (End ∷ [])) (k second)

pub formed_built : {ps : List Piece} {xs : BStmts} → Forms ps xs → (x : Built) → with_pieces ps x ≡ behind xs x
formed_built f.nothing x = λ i. record { block = sym (join_skip x.block) i; around = x.around }
formed_built (f.code xs) x = refl
formed_built (f.both {ps = ps} {qs = qs} {xs = xs} {ys = ys} h k) x =
    with_pieces-append ps qs x ∙ ap (with_pieces qs) (formed_built h x) ∙ formed_built k (behind xs x) ∙ (λ i. record { block = join_assoc x.block xs ys i; around = x.around })
formed_built (f.branch {ps = ps} {qs = qs} {xs = xs} {ys = ys} c h k) x = blocks_built (Some c) ps qs xs ys x (formed_built h) (formed_built k)
formed_built (f.choice {ps = ps} {qs = qs} {xs = xs} {ys = ys} h k) x = blocks_built None ps qs xs ys x (formed_built h) (formed_built k)

-- by themselves
pub formed_block : {ps : List Piece} {xs : BStmts} → Forms ps xs → (with_pieces ps (built_of [] [])).block ≡ xs
formed_block h = ap (λ (x : Built). x.block) (formed_built h (built_of [] []))

-- ---- open blocks

around_last : (branches rest : List Branch) (branch : Branch) → branches ≡ rest ++ branch ∷ [] → around_of branches ≡ branch_of branch ∷ around_of rest
around_last branches rest branch h =
    ap around_of h ∙ ap (λ (xs : List Around). reverse xs) (map-append branch_of rest (branch ∷ [])) ∙ reverse-append (map branch_of rest) (branch_of branch ∷ [])

-- the first block of one more `if` is open, behind these statements
pub is_opened : (branches now : List Branch) (branch : Branch) (block fresh : List BStmt) → now ≡ branches ++ branch ∷ [] → branch.before.items ≡ block → branch.first.items ≡ [] → fresh ≡ [] →
    built_of now fresh ≡ opened (condition_of branch.condition) (built_of branches block)
is_opened branches now branch block fresh h before first none =
    (λ i. record { block = stmts_of (none i); around = around_last now branches branch h i })
    ∙ (λ i. record { block = s.skip; around = record { condition = condition_of branch.condition; before = stmts_of (before i); first = stmts_of (first i) } ∷ around_of branches })

-- that of the innermost `if` was these statements, and its second one is open
pub is_turned : (branches rest now : List Branch) (old new : Branch) (block fresh : List BStmt) → branches ≡ rest ++ old ∷ [] → now ≡ rest ++ new ∷ [] →
    new.condition ≡ old.condition → new.before ≡ old.before → new.first.items ≡ block → fresh ≡ [] → built_of now fresh ≡ turned (stmts_of block) (around_of branches)
is_turned branches rest now old new block fresh was h condition before first none =
    (λ i. record { block = stmts_of (none i); around = around_last now rest new h i })
    ∙ (λ i. record { block = s.skip; around = record { condition = condition_of (condition i); before = stmts_of ((before i).items); first = stmts_of (first i) } ∷ around_of rest })
    ∙ ap (turned (stmts_of block)) (sym (around_last branches rest old was))

-- and this is how that `if` is closed
pub is_closed : (branches rest : List Branch) (branch : Branch) (block now : List BStmt) (x : BStmt) → branches ≡ rest ++ branch ∷ [] →
    stmt_of x ≡ if_code (condition_of branch.condition) (stmts_of branch.first.items) (stmts_of block) → now ≡ branch.before.items ++ x ∷ [] →
    built_of rest now ≡ closed (stmts_of block) (around_of branches)
is_closed branches rest branch block now x was is h =
    (λ i. record { block = added branch.before.items x h is i; around = around_of rest }) ∙ ap (closed (stmts_of block)) (sym (around_last branches rest branch was))

-- ---- steps

module _ (code : RowStep → Emitting Bracket) where
  -- one step, and then those behind it
  pub step_built : (x : RowStep) (xs : List RowStep) (old mid : Emit) (b : Bracket) (around : List Around) (now : Built) → Emits (code x (length old.locals)) old mid b →
      now ≡ with_pieces (bracket_pieces b) (record { block = mid.stmts; around = around }) →
      with_pieces (row_pieces code (x ∷ xs) (length old.locals)) (record { block = old.stmts; around = around }) ≡ with_pieces (row_pieces code xs (length mid.locals)) now
  step_built x xs old mid b around now h k =
      let here = code x (length old.locals) in
      with_pieces-append (bracket_pieces here.value) (row_pieces code xs here.next) (record { block = join old.stmts here.stmts; around = around })
      ∙ ap (with_pieces (row_pieces code xs here.next))
      ((λ i. with_pieces (bracket_pieces (sym h.value i)) (record { block = sym h.stmts i; around = around })) ∙ sym k)
      ∙ ap (λ (n : ℕ). with_pieces (row_pieces code xs n) now) (sym h.next)
