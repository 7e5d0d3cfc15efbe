-- What contracts see of lists and of a body: the plain data of the grammar.
use Rattle.std.specs.Prelude.{List, map, Option}
use Rattle.std.specs.Option.{option_map}
use Rattle.std.specs.declared.alloc.Global.{Global}
use Rattle.std.specs.declared.vec.Vec.{Vec}
use Rattle.viper_syntax.specs.Term as t
use Rattle.viper_syntax.specs.Stmt as s
use Rattle.viper_syntax.specs.Decl as d
use Rattle.viper_syntax.specs.declared.terms.Term.{Term}
use Rattle.viper_syntax.specs.declared.stmts.Named.{Named}
use Rattle.viper_syntax.specs.declared.stmts.Formal.{Formal}
use Rattle.viper_syntax.specs.declared.stmts.SStmt.{SStmt}
use Rattle.viper_syntax.specs.declared.stmts.SBlock.{SBlock}
use Rattle.viper_syntax.specs.declared.decls.SClause.{SClause}
use Rattle.viper_syntax.specs.View.{term_of, stmt_of, block_of, clause_of}

abbrev pub arguments_of : Vec Term Global → List t.Term
arguments_of v = map term_of v.items

abbrev pub names_of : Vec Named Global → List Named
names_of v = v.items

abbrev pub formals_of : Vec Formal Global → List Formal
formals_of v = v.items

abbrev pub stmts_in : Vec SStmt Global → List s.SStmt
stmts_in v = map stmt_of v.items

abbrev pub clauses_of : Vec SClause Global → List d.SClause
clauses_of v = map clause_of v.items

abbrev pub body_of : Option SBlock → Option s.SBlock
body_of b = option_map block_of b
