-- A text is read part by part.
use Rattle.std.proofs.Common.{◌≡◌, ◌∙◌, refl, sym, ap, subst, arith, ◌≤◌, Bool, false, ℕ, List, [], ◌∷◌, ◌++◌, append-nil, append_assoc}
use Rattle.std.proofs.lemmas.List.{take_all}
use Rattle.vb_base.specs.Limits.{max_unclosed_brackets}
use Rattle.grammar.specs.Spells.{Derives, given, needed, taken, passed, called}
use Rattle.grammar.proofs.Whole as grammar
use Rattle.boogie_tree.specs.Stmt as s
use Rattle.boogie_tree.specs.Program as p
use Rattle.boogie_tree.specs.Program.{Proc}
use Rattle.boogie_tree.specs.Text.{prelude}
use Rattle.boogie_grammar.specs.declared.tokens.BSign.TheVariants as sign
use Rattle.boogie_grammar.specs.declared.tokens.PlacedLexeme.{PlacedLexeme}
use Rattle.boogie_grammar.specs.declared.tokens.BoogieWord.TheVariants as w
use Rattle.boogie_grammar.specs.Cut.{IsRow}
use Rattle.boogie_grammar.specs.Depth.{unclosed, IsShallow}
use Rattle.boogie_grammar.specs.Grammar as g
use Rattle.boogie_grammar.specs.Grammar.{Symbol, Rule, give, need, when, read, local_names, proc_names, rule, rules}
use Rattle.boogie_grammar.specs.Greedy.{Reads, Starts}
use Rattle.boogie_grammar.specs.Parts.{IsPart}
use Rattle.boogie_grammar.specs.Tests as v
use Rattle.boogie_grammar.specs.Tests.{Kind, Value, Test, the_sign, the_word}
use Rattle.boogie_grammar.specs.Words.{is_among}
use Rattle.boogie_grammar.proofs.Elements.{laws}
use Rattle.boogie_print.specs.Read.{IsRead}
use Rattle.boogie_print.proofs.SpelledLaws.{Gives, keeps, all_keep, tokens_proper}
use Rattle.boogie_text.specs.Tail.{IsTail, IsLocalsTail, IsBodyTail, after_statements, after_locals, heading, declaring, SpellsHead, SpellsLocal, SpellsStatement, BeginsProcedure, BeginsLocal, BeginsStatement, BeginsEnd}

-- a text with no token

none_shallow : IsShallow []
none_shallow n = subst (λ ts. unclosed ts ≤ max_unclosed_brackets) (sym (take_all n [] (omega arith))) (omega arith)

pub ends : {text : List ℕ} → IsRow text [] → (so_far : List Proc) → IsTail so_far text so_far
ends row so_far = record { tokens = []; cut = row; shallow = none_shallow; spells = passed given }

-- the tokens of one part

pub spells_head : {names : List (List ℕ)} {tokens after rest : List PlacedLexeme} {name : List ℕ} → Starts (the_word w.Procedure) tokens tt after →
    Reads v.name (heading names) after name rest → rest ≡ [] → is_among name names ≡ false → SpellsHead names tokens name
spells_head {names} {tokens} {after} {rest} {name} begins reads none new =
    record { after = after; begins = begins; spells = grammar.spelled rules laws (subst (Reads v.name (heading names) after name) none reads); new = new }

pub spells_local : {names : List (List ℕ)} {tokens after rest : List PlacedLexeme} {l : p.Local} → Starts (the_word w.Var) tokens tt after →
    Reads v.locals (declaring names) after (l ∷ []) rest → rest ≡ [] → is_among l.name names ≡ false → SpellsLocal names tokens l
spells_local {names} {tokens} {after} {rest} {l} begins reads none new =
    record { after = after; begins = begins; spells = grammar.spelled rules laws (subst (Reads v.locals (declaring names) after (l ∷ [])) none reads); new = new }

pub spells_statement : {names : List (List ℕ)} {tokens rest : List PlacedLexeme} {a : s.BStmt} → Reads v.stmt (rule (g.Statement names)) tokens a rest → rest ≡ [] →
    SpellsStatement names tokens a
spells_statement {names} {tokens} {rest} {a} reads none = grammar.spelled rules laws (subst (Reads v.stmt (rule (g.Statement names)) tokens a) none reads)

-- a rule, and behind what it spells another one, which rests on that
abbrev followed : {r s : Kind} → Rule r → (Value r → Rule s) → Rule s
followed (give x) f = f x
followed (need c go) f = need c (λ v. followed (go v) f)
followed (when c go other) f = when c (λ v. followed (go v) f) (followed other f)
followed (read a go) f = read a (λ y. followed (go y) f)

starts_on : {b : Bool} {r : Kind} {c : Test b r} {x : Value r} {ts us : List PlacedLexeme} (vs : List PlacedLexeme) → Starts c ts x us → Starts c (ts ++ vs) x (us ++ vs)
starts_on vs h = record { token = h.token; is = ap (λ l. l ++ vs) h.is; passes = h.passes }

derives_on : {r s : Kind} {a : Rule r} (f : Value r → Rule s) {ts us : List PlacedLexeme} {x : Value r} {y : Value s} → Derives rules r a ts x → Derives rules s (f x) us y →
    Derives rules s (followed a f) (ts ++ us) y
derives_on f given h = h
derives_on f {us = us} (needed {c = c} begins d) h = needed (starts_on {c = c} us begins) (derives_on f d h)
derives_on f {us = us} (taken {c = c} begins d) h = taken (starts_on {c = c} us begins) (derives_on f d h)
derives_on f (passed d) h = passed (derives_on f d h)
derives_on {s = s} f {us = us} {y = y} (called {a = a} {go = go} {ts = ts} {us = vs} d e) h =
    subst (λ l. Derives rules s (read a (λ z. followed (go z) f)) l y) (sym (append_assoc ts vs us)) (called d (derives_on f e h))

-- the tokens of a symbol, and those behind
record Called {r s : Kind} (a : Symbol r) (go : Value r → Rule s) (ts : List PlacedLexeme) (x : Value s) : Type 0 where
  front : List PlacedLexeme
  back : List PlacedLexeme
  is : ts ≡ front ++ back
  value : Value r
  first : Derives rules r (rule a) front value
  next : Derives rules s (go value) back x

calls : {r s : Kind} {a : Symbol r} {go : Value r → Rule s} {ts : List PlacedLexeme} {x : Value s} → Derives rules s (read a go) ts x → Called a go ts x
calls (called {ts = ts} {us = us} {y = y} d e) = record { front = ts; back = us; is = refl; value = y; first = d; next = e }

-- at its end a rule asks for nothing more
last_of : {r : Kind} (a : Symbol r) {ts : List PlacedLexeme} {x : Value r} → Derives rules r (rule a) ts x → Derives rules r (read a give) ts x
last_of {r} a {ts} {x} d = subst (λ l. Derives rules r (read a give) l x) (append-nil ts) (called {a = a} {go = give} d given)

-- what a procedure is behind its head
abbrev after_heading : List ℕ → Rule v.proc
after_heading name = read (g.Locals []) (λ locals. read (g.Statements (local_names locals) []) (λ body. give (record { name = name; locals = locals; body = s.stmts body })))

-- the grammar goes on behind a part

rejoined : (hs ls ss back more us : List PlacedLexeme) → us ≡ ls ++ more → more ≡ ss ++ back → (hs ++ (ls ++ (ss ++ []))) ++ back ≡ hs ++ us
rejoined hs ls ss back more us e d = rw (e, d) (simp (append-nil, append_assoc))

behind_head : (so_far all : List Proc) (tokens us : List PlacedLexeme) (name : List ℕ) → SpellsHead (proc_names so_far) tokens name →
    Derives rules v.procs (after_locals so_far name []) us all → Derives rules v.procs (rule (g.Program so_far)) (tokens ++ us) all
behind_head so_far all tokens us name h d =
    let ls = calls d in
    let ss = calls ls.next in
    let proc : Proc = record { name = name; locals = ls.value; body = s.stmts ss.value } in
    let inner : Derives rules v.proc (after_heading name) (ls.front ++ (ss.front ++ [])) proc =
    called {a = g.Locals []} {go = λ locals. read (g.Statements (local_names locals) []) (λ body. give (record { name = name; locals = locals; body = s.stmts body }))} ls.first
    (called {a = g.Statements (local_names ls.value) []} {go = λ body. give (record { name = name; locals = ls.value; body = s.stmts body })} ss.first given) in
    let whole : Derives rules v.proc (rule (g.Procedure (proc_names so_far))) (h.after ++ (ls.front ++ (ss.front ++ []))) proc = derives_on after_heading h.spells inner in
    let same : (h.after ++ (ls.front ++ (ss.front ++ []))) ++ ss.back ≡ h.after ++ us = rejoined h.after ls.front ss.front ss.back ls.back us ls.is ss.is in
    taken {r = v.nothing} {s = v.procs} {go = λ _. read (g.Procedure (proc_names so_far)) (λ q. read (g.Program (so_far ++ q ∷ [])) give)} {other = give so_far} (starts_on {c = the_word w.Procedure} us h.begins)
    (subst (λ l. Derives rules v.procs (read (g.Procedure (proc_names so_far)) (λ q. read (g.Program (so_far ++ q ∷ [])) give)) l all) same (called {a = g.Procedure (proc_names so_far)} {go = λ q. read (g.Program (so_far ++ q ∷ [])) give} whole ss.next))

behind_local : (so_far all : List Proc) (name : List ℕ) (ls : List p.Local) (l : p.Local) (tokens us : List PlacedLexeme) → SpellsLocal (local_names ls) tokens l →
    Derives rules v.procs (after_locals so_far name (ls ++ l ∷ [])) us all → Derives rules v.procs (after_locals so_far name ls) (tokens ++ us) all
behind_local so_far all name ls l tokens us h d =
    let more = calls d in
    let whole : Derives rules v.locals (rule (g.Locals ls)) (tokens ++ more.front) more.value =
    taken {r = v.nothing} {s = v.locals} {go = λ _. followed (declaring (local_names ls)) (λ ms. read (g.Locals (ls ++ ms)) give)} {other = give ls} (starts_on {c = the_word w.Var} more.front h.begins)
    (derives_on (λ ms. read (g.Locals (ls ++ ms)) give) h.spells (last_of (g.Locals (ls ++ l ∷ [])) more.first)) in
    let same : (tokens ++ more.front) ++ more.back ≡ tokens ++ us = append_assoc tokens more.front more.back ∙ ap (λ m. tokens ++ m) (sym more.is) in
    subst (λ m. Derives rules v.procs (after_locals so_far name ls) m all) same (called {a = g.Locals ls} {go = λ locals. after_statements so_far name locals []} whole more.next)

behind_statement : (so_far all : List Proc) (name : List ℕ) (ls : List p.Local) (done : List s.BStmt) (a : s.BStmt) (tokens us : List PlacedLexeme) →
    SpellsStatement (local_names ls) tokens a → Derives rules v.procs (after_statements so_far name ls (done ++ a ∷ [])) us all →
    Derives rules v.procs (after_statements so_far name ls done) (tokens ++ us) all
behind_statement so_far all name ls done a tokens us h d =
    let more = calls d in
    let whole : Derives rules v.stmts (rule (g.Statements (local_names ls) done)) (tokens ++ more.front) more.value =
    passed (called {a = g.Statement (local_names ls)} {go = λ b. read (g.Statements (local_names ls) (done ++ b ∷ [])) give} h (last_of (g.Statements (local_names ls) (done ++ a ∷ [])) more.first)) in
    let same : (tokens ++ more.front) ++ more.back ≡ tokens ++ us = append_assoc tokens more.front more.back ∙ ap (λ m. tokens ++ m) (sym more.is) in
    subst (λ m. Derives rules v.procs (after_statements so_far name ls done) m all) same
    (called {a = g.Statements (local_names ls) done} {go = λ body. read (g.Program (so_far ++ record { name = name; locals = ls; body = s.stmts body } ∷ [])) give} whole more.next)

behind_end : (so_far all : List Proc) (name : List ℕ) (ls : List p.Local) (done : List s.BStmt) (tokens us : List PlacedLexeme) → Starts (the_sign sign.CloseBrace) tokens tt [] →
    Derives rules v.procs (rule (g.Program (so_far ++ record { name = name; locals = ls; body = s.stmts done } ∷ []))) us all →
    Derives rules v.procs (after_statements so_far name ls done) (tokens ++ us) all
behind_end so_far all name ls done tokens us begins d =
    let whole : Derives rules v.stmts (rule (g.Statements (local_names ls) done)) tokens done =
    taken {r = v.nothing} {s = v.stmts} {go = λ _. give done} {other = read (g.Statement (local_names ls)) (λ b. read (g.Statements (local_names ls) (done ++ b ∷ [])) give)} begins given in
    called {a = g.Statements (local_names ls) done} {go = λ body. read (g.Program (so_far ++ record { name = name; locals = ls; body = s.stmts body } ∷ [])) give} whole (last_of (g.Program (so_far ++ record { name = name; locals = ls; body = s.stmts done } ∷ [])) d)

-- a text goes on behind a part

pub begins_procedure : {names : List (List ℕ)} {text rest : List ℕ} {tokens : List PlacedLexeme} {name : List ℕ} → IsPart 0 text tokens 1 rest → SpellsHead names tokens name →
    BeginsProcedure names text name rest
begins_procedure {names} {text} {rest} {tokens} {name} part h = record {
  goes_on = λ so_far all same tail. record {
    tokens = tokens ++ tail.tokens;
    cut = part.row tail.tokens tail.cut;
    shallow = part.shallow tail.tokens tail.shallow;
    spells = behind_head so_far all tokens tail.tokens name (subst (λ ns. SpellsHead ns tokens name) (sym same) h) tail.spells;
  };
  new = h.new;
  shorter = part.shorter;
}

pub begins_local : {names : List (List ℕ)} {text rest : List ℕ} {tokens : List PlacedLexeme} {l : p.Local} → IsPart 1 text tokens 1 rest → SpellsLocal names tokens l →
    BeginsLocal names text l rest
begins_local {names} {text} {rest} {tokens} {l} part h = record {
  goes_on = λ so_far name ls all same tail. record {
    tokens = tokens ++ tail.tokens;
    cut = part.row tail.tokens tail.cut;
    shallow = part.shallow tail.tokens tail.shallow;
    spells = behind_local so_far all name ls l tokens tail.tokens (subst (λ ns. SpellsLocal ns tokens l) (sym same) h) tail.spells;
  };
  new = h.new;
  shorter = part.shorter;
}

pub begins_statement : {names : List (List ℕ)} {text rest : List ℕ} {tokens : List PlacedLexeme} {a : s.BStmt} → IsPart 1 text tokens 1 rest → SpellsStatement names tokens a →
    BeginsStatement names text a rest
begins_statement {names} {text} {rest} {tokens} {a} part h = record {
  goes_on = λ so_far name ls done all same tail. record {
    tokens = tokens ++ tail.tokens;
    cut = part.row tail.tokens tail.cut;
    shallow = part.shallow tail.tokens tail.shallow;
    spells = behind_statement so_far all name ls done a tokens tail.tokens (subst (λ ns. SpellsStatement ns tokens a) (sym same) h) tail.spells;
  };
  fits = keeps (Gives (g.Statement names)) h (all_keep (g.Statement names) tt) (tokens_proper tokens part.are_tokens);
  shorter = part.shorter;
}

pub begins_end : {text rest : List ℕ} {tokens : List PlacedLexeme} → IsPart 1 text tokens 0 rest → Starts (the_sign sign.CloseBrace) tokens tt [] → BeginsEnd text rest
begins_end {text} {rest} {tokens} part begins = record {
  goes_on = λ so_far name ls done all tail. record {
    tokens = tokens ++ tail.tokens;
    cut = part.row tail.tokens tail.cut;
    shallow = part.shallow tail.tokens tail.shallow;
    spells = behind_end so_far all name ls done tokens tail.tokens begins tail.spells;
  };
  shorter = part.shorter;
}

-- behind the last local, the body begins
pub body_begins : {so_far : List Proc} {name : List ℕ} {ls : List p.Local} {text : List ℕ} {all : List Proc} → IsBodyTail so_far name ls [] text all →
    IsLocalsTail so_far name ls text all
body_begins {so_far} {name} {ls} tail = record {
  tokens = tail.tokens;
  cut = tail.cut;
  shallow = tail.shallow;
  spells = called {a = g.Locals ls} {go = λ locals. after_statements so_far name locals []} (passed given) tail.spells;
}

-- the whole text

pub read_whole : (bytes rest : List ℕ) (ps : List Proc) → bytes ≡ prelude ++ rest → IsTail [] rest ps → IsRead bytes (record { procs = ps })
read_whole bytes rest ps is tail = record {
  spelled = record { rest = rest; tokens = tail.tokens; text = is; cut = tail.cut; spells = tail.spells };
  shallow = tail.shallow;
}
