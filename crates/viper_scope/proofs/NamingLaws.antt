-- The declarations of a file, gone through from the front.
use Rattle.std.proofs.Common.{◌≡◌, ◌∙◌, refl, sym, ap, ℕ, suc, ◌+◌, ◌<◌, ◌≤◌, arith, Bool, true, false, not, Option, Some, None, is_some, Result, Ok, Err, OnOk, List, [], ◌∷◌, length, drop, get_or, map}
use Rattle.std.proofs.Math.Numerals.{add-one}
use Rattle.std.proofs.Math.Seq.{drop-cons, drop-length}
use Rattle.std.specs.Option.{option_map}
use Rattle.std.specs.declared.alloc.Global.{Global}
use Rattle.std.specs.declared.vec.Vec.{Vec}
use Rattle.memory.specs.declared.Memory.{Memory}
use Rattle.vb_base.specs.declared.places.Pos.{Pos}
use Rattle.viper_syntax.specs.Decl as d
use Rattle.viper_syntax.specs.View.{decl_of, term_of}
use Rattle.viper_syntax.specs.declared.decls.Decl.{Decl}
use Rattle.viper_syntax.specs.declared.decls.Decl.TheVariants.{Predicate}
use Rattle.viper_syntax.specs.declared.stmts.Formal.{Formal}
use Rattle.viper_syntax.specs.declared.stmts.Named.{Named}
use Rattle.viper_syntax.specs.declared.terms.Term.{Term}
use Rattle.viper_scope.specs.declared.rules.Rule.TheVariants as rule
use Rattle.viper_scope.specs.declared.context.Role.{Role}
use Rattle.viper_scope.specs.Context.{World, find}
use Rattle.viper_scope.specs.Naming.{decl_name, is_new, naming, with_decl}
use Rattle.viper_scope.specs.Outcome.{Found, Broken, obeys}

-- whether a name is new, as a look at the names told
pub newness : (w : World) (decl : Decl) (name : Named) (found : Option Role) (known told : Bool) → name ≡ decl_name (decl_of decl) → found ≡ find w.roles name.name → known ≡ is_some found → known ≡ told → is_new w (decl_of decl) ≡ not told
newness w decl name found known told named looked is was =
    ap (λ n. not (is_some (find w.roles n.name))) (sym named) ∙ ap (λ f. not (is_some f)) (sym looked) ∙ ap not (sym is ∙ was)

nothing : (found : Option Role) → is_some found ≡ false → found ≡ None
nothing (Some role) h = cc
nothing None h = refl

pub unknown : (w : World) (decl : Decl) (name : Named) (found : Option Role) (known : Bool) → name ≡ decl_name (decl_of decl) → found ≡ find w.roles name.name → known ≡ is_some found → known ≡ false → find w.roles (decl_name (decl_of decl)).name ≡ None
unknown w decl name found known named looked is was =
    ap (λ n. find w.roles n.name) (sym named) ∙ sym looked ∙ nothing found (sym is ∙ was)

next_decl : (w : World) (decls : List Decl) (i : ℕ) (decl : Decl) (new : Bool) → i < length decls → decl ≡ get_or decls i decl → is_new w (decl_of decl) ≡ new →
    naming w (map decl_of (drop i decls)) ≡ obeys new (decl_name (decl_of decl)).pos rule.DeclaredTwice (naming (with_decl w (decl_of decl)) (map decl_of (drop (i + 1) decls)))
next_decl w decls i decl new lt is told =
    let here : drop i decls ≡ decl ∷ drop (i + 1) decls = rw add-one (drop-cons decls i decl lt ∙ ap (λ d. d ∷ drop (suc i) decls) (sym is)) in
    ap (λ ds. naming w (map decl_of ds)) here ∙ ap (λ b. obeys b (decl_name (decl_of decl)).pos rule.DeclaredTwice (naming (with_decl w (decl_of decl)) (map decl_of (drop (i + 1) decls)))) told

pub declared : (w after : World) (decls : List Decl) (i : ℕ) (decl : Decl) → i < length decls → decl ≡ get_or decls i decl → is_new w (decl_of decl) ≡ true → after ≡ with_decl w (decl_of decl) →
    naming after (map decl_of (drop (i + 1) decls)) ≡ naming w (map decl_of (drop i decls))
declared w after decls i decl lt is new with_it =
    ap (λ v. naming v (map decl_of (drop (i + 1) decls))) with_it ∙ sym (next_decl w decls i decl true lt is new)

pub second_name : (w : World) (decls : List Decl) (i : ℕ) (decl : Decl) (name : Named) → i < length decls → decl ≡ get_or decls i decl → name ≡ decl_name (decl_of decl) → is_new w (decl_of decl) ≡ false →
    naming w (map decl_of (drop i decls)) ≡ Broken name.pos rule.DeclaredTwice
second_name w decls i decl name lt is named old = next_decl w decls i decl false lt is old ∙ ap (λ n. Broken n.pos rule.DeclaredTwice) (sym named)

pub all_declared : (w : World) (decls : List Decl) (i : ℕ) → length decls ≤ i → i ≤ length decls → naming w (map decl_of (drop i decls)) ≡ Found w
all_declared w decls i above below =
    let end : i ≡ length decls = omega arith in
    let none : drop i decls ≡ [] = rw end (drop-length decls) in
    ap (λ ds. naming w (map decl_of ds)) none

-- a predicate is added wherever it stands
pub predicate_declared : (result : Result (Unit {0}) Memory) (w after : World) (decl : Decl) (at : Pos) (name : Named) (params : Vec Formal Global) (given : List Formal) (body : Option Term) →
    decl ≡ Predicate at name params body → given ≡ params.items →
    OnOk result ((place : Pos) → after ≡ with_decl w (d.Predicate place name given (option_map term_of body))) → OnOk result (after ≡ with_decl w (decl_of decl))
predicate_declared (Ok done) w after decl at name params given body is same h =
    h at ∙ ap (λ ps. with_decl w (d.Predicate at name ps (option_map term_of body))) same ∙ ap (λ x. with_decl w (decl_of x)) (sym is)
predicate_declared (Err e) w after decl at name params given body is same h = h
