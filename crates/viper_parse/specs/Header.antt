-- How a predicate and a method begin: `name "(" [formals] ")"`, whatever is read behind it.
use Rattle.std.specs.Prelude.{List, Result, Ok, Err}
use Rattle.std.specs.Borrow.{Bor}
use Rattle.std.specs.declared.alloc.Global.{Global}
use Rattle.std.specs.declared.vec.Vec.{Vec}
use Rattle.grammar.specs.declared.stop.Stop.{Stop}
use Rattle.viper_syntax.specs.declared.tokens.Token.{Token}
use Rattle.viper_syntax.specs.declared.tokens.Sign.TheVariants as sign
use Rattle.viper_syntax.specs.declared.stmts.Named.{Named}
use Rattle.viper_syntax.specs.declared.stmts.Formal.{Formal}
use Rattle.viper_grammar.specs.Tests.{Kind, a_name}
use Rattle.viper_grammar.specs.Grammar.{Rule, Formals, need, read, the_sign}
use Rattle.viper_grammar.specs.Greedy.{Goes, Refuses}

abbrev pub header : (s : Kind) → (Named → List Formal → Rule s) → Rule s
header s go = need a_name (λ x. need (the_sign sign.OpenParen) (λ _. read Formals (λ xs. go x xs)))

-- one is read
abbrev pub Heads : List Token → Result ((Named × Vec Formal Global) × Bor (List Token)) (Stop Token) → Type 0
Heads ts (Ok p) = (s : Kind) (go : Named → List Formal → Rule s) → Goes (header s go) ts (go p.0.0 p.0.1.items) p.1.now
Heads ts (Err e) = (s : Kind) (go : Named → List Formal → Rule s) → Refuses (header s go) ts e
