-- What `read_bexpr` and `tokens_after` answer, from what their parts answer; and that no other answer is right.
use Rattle.std.proofs.Common.{◌≡◌, ◌∙◌, refl, sym, ap, subst, ℕ, ◌+◌, ◌-◌, ◌<◌, ◌≤◌, inl, inr, List, ◌∷◌, [], ◌++◌, Option, Some, None, map, take, drop, get_or, append_assoc, zero, suc, add-one, length, Result, Ok, Err, MatchResult, IfOk, ◌⊎◌, arith}
use Rattle.std.specs.declared.alloc.Global.{Global}
use Rattle.std.specs.declared.vec.Vec.{Vec}
use Rattle.std.specs.Option.{option_map}
use Rattle.std.proofs.lemmas.List.{map-append, take-append-drop, length-map, drop_all, take_all, length-take-le}
use Rattle.std.proofs.Math.Seq.{drop-cons}
use Rattle.vb_base.specs.declared.places.Pos.{Pos}
use Rattle.boogie_tree.specs.Expr as t
use Rattle.boogie_tree.specs.Whole.{expr_of}
use Rattle.boogie_grammar.specs.declared.faults.BoogieFault.{BoogieFault}
use Rattle.boogie_grammar.specs.declared.faults.BoogieFault.TheVariants as fault
use Rattle.boogie_grammar.specs.declared.tokens.Lexeme.{Lexeme}
use Rattle.boogie_grammar.specs.declared.tokens.PlacedLexeme.{PlacedLexeme}
use Rattle.boogie_grammar.specs.Grammar.{ExprScope}
use Rattle.boogie_text.specs.declared.public_tokens.BToken as handed
use Rattle.boogie_text.specs.declared.single_expr.ReadExpr.{ReadExpr}
use Rattle.boogie_text.specs.Answers.{UnlessMemory}
use Rattle.boogie_text.specs.PublicTokens.{AreTokens, IsTokenFault, GivesTokens, GivesTokenFault, stands_for, token_of, shown_token}
use Rattle.boogie_text.specs.Texts.{HasTokens}
use Rattle.boogie_text.specs.ReadExpr.{BeginsExpr, BeginsNone, Finds, IsReadExpr, IsExprFault, no_expr, scope_before, place_in, GivesExpr, GivesExprFault}
use Rattle.boogie_text.specs.ReadSteps.{NoToken, ended, broken, IsFront}
use Rattle.boogie_tree.specs.declared.programs.Local.{Local}
use Rattle.boogie_text.proofs.KnownLaws.{names_of, names_taken, names_dropped, all_behind}
use Rattle.boogie_text.proofs.FaultLaws.{cut_as, one_token_fault, never_tokens as never_placed}
use Rattle.boogie_text.proofs.BeginLaws.{begins_more, none_more, one_begin, one_end}

-- what the first tokens begin with, all of them begin with

pub finds_more : (x : ExprScope) (os ws : List (Option PlacedLexeme)) (o : Option t.BExpr) (n : ℕ) → Finds x os o n → n < length os → Finds x (os ++ ws) o n
finds_more x os ws (Some e) n h lt = begins_more h lt ws
finds_more x os ws None n h lt = none_more h lt ws

pub finds_all : (x : ExprScope) (ts : List handed.BToken) (k : ℕ) (o : Option t.BExpr) (n : ℕ) → Finds x (map token_of (take k ts)) o n → n < length (take k ts) → Finds x (map token_of ts) o n
finds_all x ts k o n h lt =
    let all : map token_of (take k ts) ++ map token_of (drop k ts) ≡ map token_of ts = sym (map-append token_of (take k ts) (drop k ts)) ∙ ap (map token_of) (take-append-drop k ts) in
    subst (λ os. Finds x os o n) all (finds_more x (map token_of (take k ts)) (map token_of (drop k ts)) o n h (omega (arith, lt, length-map (take k ts) token_of)))

-- there is no other answer

abbrev pub ReadsExpr : ExprScope → List handed.BToken → ℕ → Pos → Result ReadExpr BoogieFault → Type 0
ReadsExpr x ts from end res = MatchResult res (λ r. IsReadExpr x ts from (expr_of r.e) r.next) (UnlessMemory (IsExprFault x ts from end))

pub one_read : {x : ExprScope} {ts : List handed.BToken} {from : ℕ} {e f : t.BExpr} {n m : ℕ} → IsReadExpr x ts from e n → IsReadExpr x ts from f m → (e ≡ f) × (n ≡ m)
one_read {from = from} a b = let h = one_begin a.begins b.begins in (h.1, a.end ∙ ap (λ k. from + k) h.0 ∙ sym b.end)

pub never_read : {x : ExprScope} {ts : List handed.BToken} {from : ℕ} {end : Pos} {e : t.BExpr} {n : ℕ} (f : BoogieFault) → IsExprFault x ts from end f → IsReadExpr x ts from e n → ⊥
never_read _ (no_expr h) a = h.none _ _ a.begins

pub one_expr_fault : {x : ExprScope} {ts : List handed.BToken} {from : ℕ} {end : Pos} (f h : BoogieFault) → IsExprFault x ts from end f → IsExprFault x ts from end h → f ≡ h
one_expr_fault {ts = ts} {from = from} {end = end} _ _ (no_expr a) (no_expr b) = ap (λ i. fault.Syntax (place_in (drop from ts) i end)) (one_end a b)

pub gives_expr : (x : ExprScope) (ts : List handed.BToken) (from : ℕ) (end : Pos) (e : t.BExpr) (next : ℕ) (res : Result ReadExpr BoogieFault) → ReadsExpr x ts from end res → IsReadExpr x ts from e next → GivesExpr e next res
gives_expr x ts from end e next (Ok r) read h = one_read read h
gives_expr x ts from end e next (Err fault.Memory) read h = tt
gives_expr x ts from end e next (Err (fault.Prelude at)) fails h = never_read (fault.Prelude at) fails h
gives_expr x ts from end e next (Err (fault.Syntax at)) fails h = never_read (fault.Syntax at) fails h
gives_expr x ts from end e next (Err (fault.Deep at)) fails h = never_read (fault.Deep at) fails h

pub gives_expr_fault : (x : ExprScope) (ts : List handed.BToken) (from : ℕ) (end : Pos) (f : BoogieFault) (res : Result ReadExpr BoogieFault) → ReadsExpr x ts from end res → IsExprFault x ts from end f → GivesExprFault f res
gives_expr_fault x ts from end f (Ok r) read h = never_read f h read
gives_expr_fault x ts from end f (Err fault.Memory) fails h = inr refl
gives_expr_fault x ts from end f (Err (fault.Prelude at)) fails h = inl (one_expr_fault (fault.Prelude at) f fails h)
gives_expr_fault x ts from end f (Err (fault.Syntax at)) fails h = inl (one_expr_fault (fault.Syntax at) f fails h)
gives_expr_fault x ts from end f (Err (fault.Deep at)) fails h = inl (one_expr_fault (fault.Deep at) f fails h)

-- the same of tokens

abbrev pub ReadsTokens : List ℕ → Result (Vec handed.BToken Global) BoogieFault → Type 0
ReadsTokens bytes res = MatchResult res (λ v. AreTokens bytes v.items) (UnlessMemory (IsTokenFault bytes))

pub one_tokens : {bytes : List ℕ} {ts us : List handed.BToken} → AreTokens bytes ts → AreTokens bytes us → ts ≡ us
one_tokens a b = a.shown ∙ ap (map shown_token) (sym (cut_as a.text b.text a.cut b.cut)) ∙ sym b.shown

has_tokens : {bytes : List ℕ} {ts : List handed.BToken} (a : AreTokens bytes ts) → HasTokens bytes a.tokens
has_tokens a = record { rest = a.rest; text = a.text; cut = a.cut; shallow = a.shallow }

never_tokens : {bytes : List ℕ} {ts : List handed.BToken} (f : BoogieFault) → IsTokenFault bytes f → AreTokens bytes ts → ⊥
never_tokens f h a = never_placed f h (has_tokens a)

pub gives_tokens : (bytes : List ℕ) (ts : List handed.BToken) (res : Result (Vec handed.BToken Global) BoogieFault) → ReadsTokens bytes res → AreTokens bytes ts → GivesTokens ts res
gives_tokens bytes ts (Ok v) read h = one_tokens read h
gives_tokens bytes ts (Err fault.Memory) read h = tt
gives_tokens bytes ts (Err (fault.Prelude at)) fails h = never_tokens (fault.Prelude at) fails h
gives_tokens bytes ts (Err (fault.Syntax at)) fails h = never_tokens (fault.Syntax at) fails h
gives_tokens bytes ts (Err (fault.Deep at)) fails h = never_tokens (fault.Deep at) fails h

pub gives_token_fault : (bytes : List ℕ) (f : BoogieFault) (res : Result (Vec handed.BToken Global) BoogieFault) → ReadsTokens bytes res → IsTokenFault bytes f → GivesTokenFault f res
gives_token_fault bytes f (Ok v) read h = never_tokens f h read
gives_token_fault bytes f (Err fault.Memory) fails h = inr refl
gives_token_fault bytes f (Err (fault.Prelude at)) fails h = inl (one_token_fault bytes (fault.Prelude at) f fails h)
gives_token_fault bytes f (Err (fault.Syntax at)) fails h = inl (one_token_fault bytes (fault.Syntax at) f fails h)
gives_token_fault bytes f (Err (fault.Deep at)) fails h = inl (one_token_fault bytes (fault.Deep at) f fails h)

-- the place of a token

pub place_there : (ts : List handed.BToken) (i : ℕ) (k : handed.BToken) (end : Pos) → i < length ts → k ≡ get_or ts i k → k.pos ≡ place_in ts i end
place_there [] i k end lt e = absurd (omega (arith, lt))
place_there (x ∷ ts) zero k end lt e = ap (λ (y : handed.BToken). y.pos) e
place_there (x ∷ ts) (suc i) k end lt e = place_there ts i k end (omega (arith, lt)) e

pub place_past : (ts : List handed.BToken) (i : ℕ) (end : Pos) → length ts ≤ i → end ≡ place_in ts i end
place_past [] i end h = refl
place_past (x ∷ ts) zero end h = absurd (omega (arith, h))
place_past (x ∷ ts) (suc i) end h = place_past ts i end (omega (arith, h))

-- the tokens of the grammar, one by one

dropped_at : (ts : List handed.BToken) (i : ℕ) (k : handed.BToken) → i < length ts → k ≡ get_or ts i k → drop i ts ≡ k ∷ drop (i + 1) ts
dropped_at ts i k lt e = rw add-one (drop-cons ts i k lt ∙ ap (λ x. x ∷ drop (suc i) ts) (sym e))

here_is : (ts : List handed.BToken) (i : ℕ) (k : handed.BToken) (o : Option Lexeme) → i < length ts → k ≡ get_or ts i k → stands_for k.tok ≡ o →
    map token_of (drop i ts) ≡ option_map (λ t. record { tok = t; pos = k.pos }) o ∷ map token_of (drop (i + 1) ts)
here_is ts i k o lt e is = ap (map token_of) (dropped_at ts i k lt e) ∙ ap (λ z. option_map (λ t. record { tok = t; pos = k.pos }) z ∷ map token_of (drop (i + 1) ts)) is

pub front_more : (ts : List handed.BToken) (us : List PlacedLexeme) (i : ℕ) (k : handed.BToken) (t : Lexeme) → map Some us ++ map token_of (drop i ts) ≡ map token_of ts → i < length ts → k ≡ get_or ts i k → stands_for k.tok ≡ Some t →
    map Some (us ++ (record { tok = t; pos = k.pos } ∷ [])) ++ map token_of (drop (i + 1) ts) ≡ map token_of ts
front_more ts us i k t h lt e is =
    ap (λ l. l ++ map token_of (drop (i + 1) ts)) (map-append Some us (record { tok = t; pos = k.pos } ∷ [])) ∙
    append_assoc (map Some us) (Some (record { tok = t; pos = k.pos }) ∷ []) (map token_of (drop (i + 1) ts)) ∙
    ap (λ l. map Some us ++ l) (sym (here_is ts i k (Some t) lt e is)) ∙ h

pub front_stops : (ts : List handed.BToken) (us : List PlacedLexeme) (i : ℕ) (k : handed.BToken) → map Some us ++ map token_of (drop i ts) ≡ map token_of ts → i < length ts → k ≡ get_or ts i k → stands_for k.tok ≡ None →
    IsFront (map token_of ts) us
front_stops ts us i k h lt e is = record { rest = map token_of (drop i ts); whole = sym h; ends = subst NoToken (sym (here_is ts i k None lt e is)) broken }

pub front_ends : (ts : List handed.BToken) (us : List PlacedLexeme) (i : ℕ) → map Some us ++ map token_of (drop i ts) ≡ map token_of ts → length ts ≤ i → IsFront (map token_of ts) us
front_ends ts us i h past = record { rest = map token_of (drop i ts); whole = sym h; ends = subst (λ l. NoToken (map token_of l)) (sym (drop_all i ts past)) ended }

-- what is found of the tokens of the grammar is found of the tokens

pub found_some : (x : ExprScope) (os : List (Option PlacedLexeme)) (us : List PlacedLexeme) (n : ℕ) {e : t.BExpr} → IsFront os us → ((rest : List (Option PlacedLexeme)) → NoToken rest → BeginsExpr x (map Some us ++ rest) n e) → BeginsExpr x os n e
found_some x os us n {e = e} f h = subst (λ l. BeginsExpr x l n e) (sym f.whole) (h f.rest f.ends)

pub found_none : (x : ExprScope) (os : List (Option PlacedLexeme)) (us : List PlacedLexeme) (n : ℕ) → IsFront os us → ((rest : List (Option PlacedLexeme)) → NoToken rest → BeginsNone x (map Some us ++ rest) n) → BeginsNone x os n
found_none x os us n f h = subst (λ l. BeginsNone x l n) (sym f.whole) (h f.rest f.ends)

-- what comes of the parts

pub finds_first : (x : ExprScope) (ts : List handed.BToken) (k : ℕ) (o : Option t.BExpr) (n : ℕ) → Finds x (map token_of (take k ts)) o n → (n < k) ⊎ ((k ≤ n) × (k ≡ length ts)) → k ≤ length ts → Finds x (map token_of ts) o n
finds_first x ts k o n h (inl lt) le = finds_all x ts k o n h (omega (arith, lt, length-take-le k ts le))
finds_first x ts k o n h (inr (_, same)) le = subst (λ us. Finds x (map token_of us) o n) (take_all k ts (omega (arith, same))) h

pub at_scope : {R E : Type 0} (P : ExprScope → R → Type 0) (res : Result R E) (ls : List Local) (known : ℕ) (names others : List (List ℕ)) → names ≡ names_of (take known ls) → others ≡ names_of (take (length ls - known) (drop known ls)) →
    IfOk res (P (record { locals = names; others = others; bound = [] })) → IfOk res (P (scope_before (names_of ls) known))
at_scope P res ls known names others e f h =
    subst (λ ns. IfOk res (P (record { locals = ns; others = drop known (names_of ls); bound = [] }))) (e ∙ names_taken known ls)
    (subst (λ ns. IfOk res (P (record { locals = names; others = ns; bound = [] }))) (f ∙ ap (λ (l : List Local). names_of l) (all_behind known ls) ∙ names_dropped known ls) h)

pub none_at : (x : ExprScope) (ts us : List handed.BToken) (from : ℕ) (end : Pos) (n : ℕ) (at : Pos) → us ≡ drop from ts → at ≡ place_in us n end → BeginsNone x (map token_of us) n → IsExprFault x ts from end (fault.Syntax at)
none_at x ts us from end n at is e h =
    subst (λ p. IsExprFault x ts from end (fault.Syntax p)) (sym (e ∙ ap (λ l. place_in l n end) is)) (no_expr (subst (λ (l : List handed.BToken). BeginsNone x (map token_of l) n) is h))

pub reads_as : (ls ks : List Local) (known : ℕ) (ts us : List handed.BToken) (from : ℕ) (end : Pos) (res : Result ReadExpr BoogieFault) → ls ≡ ks → ts ≡ us →
    ReadsExpr (scope_before (names_of ls) known) ts from end res → ReadsExpr (scope_before (names_of ks) known) us from end res
reads_as ls ks known ts us from end res e f h =
    subst (λ (l : List Local). ReadsExpr (scope_before (names_of l) known) us from end res) e (subst (λ l. ReadsExpr (scope_before (names_of ls) known) l from end res) f h)
