-- What calls add, one after the other.
use Rattle.std.proofs.Common.{◌≡◌, ◌∙◌, ℕ, suc, ◌+◌, List, [], ◌∷◌, ◌++◌, length, refl, ap, sym, append_assoc, append-nil, length-append, arith}
use Rattle.boogie_tree.specs.Program.{BType, Local}
use Rattle.boogie_tree.specs.Expr as t
use Rattle.boogie_tree.specs.declared.exprs.BBase.TheVariants as base
use Rattle.boogie_tree.specs.Stmt as s
use Rattle.boogie_tree.specs.Stmt.{BStmts}
use Rattle.boogie_tree.specs.Values.{plain_type}
use Rattle.enc_expr.specs.Code.{Code, Emitting, join, gives, then_emit, declares, declares_all, Guard, guarded, puts, under, guards}
use Rattle.enc_expr.proofs.RunLaws.{join_skip, join_assoc}
use Rattle.enc_expr.specs.Emits.{Emit, temporary, temporaries, Emits}

pub length-temporaries : (n : ℕ) (us : List BType) → length (temporaries n us) ≡ length us
length-temporaries n [] = refl
length-temporaries n (u ∷ us) = ap (λ (k : ℕ). suc k) (length-temporaries (n + 1) us)

pub temporaries-append : (n : ℕ) (us ws : List BType) → temporaries n (us ++ ws) ≡ temporaries n us ++ temporaries (n + length us) ws
temporaries-append n [] ws = ap (λ (k : ℕ). temporaries k ws) (omega arith)
temporaries-append n (u ∷ us) ws = ap (λ (ls : List Local). temporary n u ∷ ls) (temporaries-append (n + 1) us ws ∙ ap (λ (k : ℕ). temporaries (n + 1) us ++ temporaries k ws) (omega arith))

-- nothing is added
pub gives_emits : {X : Type 0} (x : X) (old : Emit) → Emits (gives x (length old.locals)) old old x
gives_emits x old = record { locals = sym (append-nil old.locals); next = refl; stmts = sym (join_skip old.stmts); value = refl }

-- new locals, and statements
abbrev pub with_locals : List BType → Emit → Emit
with_locals us x = record { locals = x.locals ++ temporaries (length x.locals) us; stmts = x.stmts }

abbrev pub with_stmts : BStmts → Emit → Emit
with_stmts xs x = record { locals = x.locals; stmts = join x.stmts xs }

pub declares_emits : (u : BType) (old : Emit) → Emits (declares u (length old.locals)) old (with_locals (u ∷ []) old) (length old.locals)
declares_emits u old = record { locals = refl; next = length-append old.locals (temporaries (length old.locals) (u ∷ [])); stmts = sym (join_skip old.stmts); value = refl }

pub declares_all_emits : (us : List BType) (old : Emit) → Emits (declares_all us (length old.locals)) old (with_locals us old) (length old.locals)
declares_all_emits us old = record {
  locals = refl;
  next = length-append old.locals (temporaries (length old.locals) us) ∙ ap (λ (i : ℕ). length old.locals + i) (length-temporaries (length old.locals) us);
  stmts = sym (join_skip old.stmts);
  value = refl;
}

pub puts_emits : (g : Guard) (xs : BStmts) (old : Emit) → Emits (puts g xs (length old.locals)) old (with_stmts (guarded g xs) old) tt
puts_emits g xs old = record { locals = sym (append-nil old.locals); next = refl; stmts = refl; value = refl }

pub guards_emits : (g : Guard) (x : t.BExpr) (old : Emit) →
    Emits (guards g x (length old.locals)) old (with_stmts (s.first (s.Assign (length old.locals) (under g x)) s.skip) (with_locals (plain_type base.Bool ∷ []) old)) (length old.locals)
guards_emits g x old = record { locals = refl; next = length-append old.locals (temporaries (length old.locals) (plain_type base.Bool ∷ [])); stmts = refl; value = refl }

-- one call and then another, which may name what the first handed on
pub then_emits : {X Y : Type 0} (m : Emitting X) (go : X → Emitting Y) (old mid new : Emit) (x : X) (y : Y) → Emits (m (length old.locals)) old mid x → Emits (go x (length mid.locals)) mid new y →
    Emits (then_emit m go (length old.locals)) old new y
then_emits {X = X} {Y = Y} m go old mid new x y h k = record {
  locals = k.locals ∙ ap (λ (c : Code Y). mid.locals ++ temporaries (length mid.locals) c.locals) same ∙ ap (λ (ls : List Local). ls ++ temporaries (length mid.locals) after.locals) h.locals
      ∙ ap (λ (i : ℕ). old.locals ++ temporaries (length old.locals) before.locals ++ temporaries i after.locals) many
      ∙ append_assoc old.locals (temporaries (length old.locals) before.locals) (temporaries (length old.locals + length before.locals) after.locals)
      ∙ ap (λ (ls : List Local). old.locals ++ ls) (sym (temporaries-append (length old.locals) before.locals after.locals));
  next = k.next ∙ ap (λ (c : Code Y). c.next) same;
  stmts = k.stmts ∙ ap (λ (c : Code Y). join mid.stmts c.stmts) same ∙ ap (λ (xs : BStmts). join xs after.stmts) h.stmts ∙ join_assoc old.stmts before.stmts after.stmts;
  value = k.value ∙ ap (λ (c : Code Y). c.value) same;
}
  where
    before : Code X
    before = m (length old.locals)

    after : Code Y
    after = go (m (length old.locals)).value (m (length old.locals)).next

    same : go x (length mid.locals) ≡ go (m (length old.locals)).value (m (length old.locals)).next
    same = ap (λ (v : X). go v (length mid.locals)) h.value ∙ ap (λ (i : ℕ). go (m (length old.locals)).value i) h.next

    many : length mid.locals ≡ length old.locals + length (m (length old.locals)).locals
    many = ap (λ (ls : List Local). length ls) h.locals ∙ length-append old.locals (temporaries (length old.locals) (m (length old.locals)).locals)
        ∙ ap (λ (i : ℕ). length old.locals + i) (length-temporaries (length old.locals) (m (length old.locals)).locals)
