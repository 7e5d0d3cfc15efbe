-- The views of the variants that hold a `Vec` or an `Option` in a cycle, where code builds or matches them.
use Rattle.std.proofs.Common.{◌≡◌, ◌∙◌, refl, ap, sym, List, [], ◌∷◌, Option, Some, None, map, Vec}
use Rattle.std.specs.declared.boxed.Box.{Box}
use Rattle.std.specs.declared.alloc.Global.{Global}
use Rattle.viper_syntax.specs.Term as t
use Rattle.viper_syntax.specs.Stmt as s
use Rattle.viper_syntax.specs.View.{term_of, held_amount, term_row, terms_of, amount_of, stmt_of, stmt_row, arm_row, held_else, stmts_of, block_of, arm_of, arms_of, else_of}
use Rattle.viper_syntax.specs.declared.terms.Term as term
use Rattle.viper_syntax.specs.declared.terms.Term.TheBlock as tb
use Rattle.viper_syntax.specs.declared.stmts.SStmt as stmt
use Rattle.viper_syntax.specs.declared.stmts.SStmt.TheBlock as sb
use Rattle.viper_syntax.specs.declared.terms.SUnfolding.{SUnfolding}
use Rattle.viper_syntax.specs.declared.stmts.SBlock.{SBlock}
use Rattle.viper_syntax.specs.declared.stmts.SArm.{SArm}

-- terms

term_row-items : {n : _} (k : term.Row_of-Term n) → term_row k ≡ terms_of (term.items-the_row-Term n k)
term_row-items term.end_of-Term = refl
term_row-items (term.more_of-Term a rest) = ap (t.more (term_of a)) (term_row-items rest)

hidden_terms : (v : Vec term.Term Global) → term_row (tb.hidden-the_row-Term-0 v) ≡ terms_of v.items
hidden_terms v = term_row-items (tb.hidden-the_row-Term-0 v) ∙ ap terms_of (term.items_hidden-the_row-Term-0 v)

hidden_amount : (m : Option (Box term.Term Global)) → held_amount (tb.back-Term-Acc-1 m) ≡ amount_of m
hidden_amount None = refl
hidden_amount (Some a) = refl

pub term_of-Inst : (x : _) (v : Vec term.Term Global) (at : _) → term_of (term.Inst x v at) ≡ t.Inst x (terms_of v.items) at
term_of-Inst x v at = ap (λ args. t.Inst x args at) (hidden_terms v)

pub term_of-Acc : (a : Box term.Term Global) (m : _) (at : _) → term_of (term.Acc a m at) ≡ t.Acc (term_of a.value) (amount_of m) at
term_of-Acc a m at = ap (λ n. t.Acc (term_of a.value) n at) (hidden_amount m)

pub term_of-Unfolding :
    (u : Box SUnfolding Global) →
    term_of (term.Unfolding u) ≡
    t.Unfolding u.value.name.name (terms_of u.value.args.items) (amount_of u.value.amount) (term_of u.value.inner.value) u.value.at u.value.name.pos
term_of-Unfolding u =
    let v = u.value in
    ap (λ args. t.Unfolding v.name.name args (held_amount (tb.back-Term-Acc-1 v.amount)) (term_of v.inner.value) v.at v.name.pos) (hidden_terms v.args) ∙
    ap (λ n. t.Unfolding v.name.name (terms_of v.args.items) n (term_of v.inner.value) v.at v.name.pos) (hidden_amount v.amount)

-- the items of a slice or a `Vec` are those of `terms` over the views
pub terms_of-map : (v : List term.Term) → terms_of v ≡ t.terms (map term_of v)
terms_of-map [] = refl
terms_of-map (a ∷ rest) = ap (t.more (term_of a)) (terms_of-map rest)

-- statements

stmt_row-items : {n : _} (k : stmt.Row_of-SStmt n) → stmt_row k ≡ stmts_of (stmt.items-the_row-SStmt n k)
stmt_row-items stmt.end_of-SStmt = refl
stmt_row-items (stmt.more_of-SStmt a rest) = ap (s.more_stmts (stmt_of a)) (stmt_row-items rest)

hidden_stmts : (v : Vec stmt.SStmt Global) → stmt_row (sb.hidden-the_row-SStmt-0 v) ≡ stmts_of v.items
hidden_stmts v = stmt_row-items (sb.hidden-the_row-SStmt-0 v) ∙ ap stmts_of (stmt.items_hidden-the_row-SStmt-0 v)

hidden_else : (b : Option SBlock) → held_else (sb.back-SStmt-If-1 b) ≡ else_of b
hidden_else None = refl
hidden_else (Some b) = ap (λ body. s.else_block (s.block b.at body)) (hidden_stmts b.stmts)

shown_stmts : (shape : _) (k : stmt.Row_of-SStmt _) → stmt_row k ≡ stmts_of (sb.shown-the_row-SStmt-0 shape k).items
shown_stmts shape k = stmt_row-items k ∙ ap stmts_of (sym (stmt.items_shown-the_row-SStmt-0 shape k))

arm_row-items : {n : _} (k : stmt.Row_of-SArm n) → arm_row k ≡ arms_of (stmt.items-the_row-SArm n k)
arm_row-items stmt.end_of-SArm = refl
arm_row-items (stmt.more_of-SArm at a body_at shape body rest) =
    ap (λ b. s.more_arms (s.arm at (term_of a) (s.block body_at b)) (arm_row rest)) (shown_stmts shape body) ∙
    ap (s.more_arms (s.arm at (term_of a) (s.block body_at (stmts_of (sb.shown-the_row-SStmt-0 shape body).items)))) (arm_row-items rest)

hidden_arms : (v : Vec SArm Global) → arm_row (sb.hidden-the_row-SArm-1 v) ≡ arms_of v.items
hidden_arms v = arm_row-items (sb.hidden-the_row-SArm-1 v) ∙ ap arms_of (stmt.items_hidden-the_row-SArm-1 v)

pub stmt_of-If : (v : Vec SArm Global) (other : Option SBlock) → stmt_of (stmt.If v other) ≡ s.If (arms_of v.items) (else_of other)
stmt_of-If v other =
    ap (λ arms. s.If arms (held_else (sb.back-SStmt-If-1 other))) (hidden_arms v) ∙
    ap (s.If (arms_of v.items)) (hidden_else other)

pub stmt_of-While :
    (at : _) (a : _) (is : Vec term.Term Global) (b : SBlock) →
    stmt_of (stmt.While at a is b) ≡ s.While at (term_of a) (map term_of is.items) (block_of b)
stmt_of-While at a is b = ap (λ body. s.While at (term_of a) (map term_of is.items) (s.block b.at body)) (hidden_stmts b.stmts)

pub stmts_of-map : (v : List stmt.SStmt) → stmts_of v ≡ s.stmts (map stmt_of v)
stmts_of-map [] = refl
stmts_of-map (a ∷ rest) = ap (s.more_stmts (stmt_of a)) (stmts_of-map rest)

pub arms_of-map : (v : List SArm) → arms_of v ≡ s.arms (map arm_of v)
arms_of-map [] = refl
arms_of-map (a ∷ rest) = ap (s.more_arms (arm_of a)) (arms_of-map rest)
