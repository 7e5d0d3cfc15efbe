-- What the functions answer that read a program: the greedy reading up to the end of the tokens.
use Rattle.std.specs.Prelude.{List, [], ◌∷◌, ◌++◌, Option, Some, None, Result, Ok, Err, map}
use Rattle.std.specs.Borrow.{Bor}
use Rattle.std.specs.declared.alloc.Global.{Global}
use Rattle.std.specs.declared.vec.Vec.{Vec}
use Rattle.viper_syntax.specs.declared.tokens.Token.{Token}
use Rattle.viper_syntax.specs.declared.decls.Decl.{Decl}
use Rattle.viper_syntax.specs.Decl as d
use Rattle.viper_syntax.specs.View.{decl_of}
use Rattle.grammar.specs.Whole as grammar
use Rattle.viper_grammar.specs.Grammar.{rule, Program, rules}
use Rattle.viper_grammar.specs.Greedy.{Reads, Fails, Goes}
use Rattle.grammar.specs.declared.stop.Stop.{Stop}
use Rattle.grammar.specs.declared.stop.Stop.TheVariants as stop

-- one declaration is read, after any that were read before
abbrev pub DeclaresNone : List Token → Type 0
DeclaresNone ts = (ds : List d.Decl) → Reads _ (rule (Program ds)) ts ds ts

abbrev pub DeclaresOne : List Token → d.Decl → List Token → Type 0
DeclaresOne ts x us = (ds : List d.Decl) → Goes (rule (Program ds)) ts (rule (Program (ds ++ (x ∷ [])))) us

abbrev pub DeclareFails : List Token → Stop Token → Type 0
DeclareFails ts stop.Memory = Unit {0}
DeclareFails ts (stop.Before r) = (ds : List d.Decl) → Fails (rule (Program ds)) ts r.now

abbrev pub DeclaresNext : List Token → Option (Decl × Bor (List Token)) → Type 0
DeclaresNext ts None = DeclaresNone ts
DeclaresNext ts (Some p) = DeclaresOne ts (decl_of p.0) p.1.now

abbrev pub Declares : List Token → Result (Option (Decl × Bor (List Token))) (Stop Token) → Type 0
Declares ts (Ok o) = DeclaresNext ts o
Declares ts (Err e) = DeclareFails ts e

-- just in front of r a program goes wrong
abbrev pub FailsWhole : List Token → List Token → Type 0
FailsWhole ts r = grammar.FailsWhole rules (rule (Program [])) ts r

abbrev pub RefusesWhole : List Token → Stop Token → Type 0
RefusesWhole ts e = grammar.RefusesWhole rules (rule (Program [])) ts e

abbrev pub ReadsWhole : List Token → Result (Vec Decl Global) (Stop Token) → Type 0
ReadsWhole ts (Ok ds) = Reads _ (rule (Program [])) ts (map decl_of ds.items) []
ReadsWhole ts (Err e) = RefusesWhole ts e
