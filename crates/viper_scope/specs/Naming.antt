-- The names of a file: those of the shared space are gone through from first to last.
use Rattle.std.specs.Prelude.{Bool, not, List, [], ◌∷◌, ◌++◌, length, map, is_some}
use Rattle.viper_syntax.specs.Decl as d
use Rattle.viper_syntax.specs.declared.stmts.Named.{Named}
use Rattle.viper_scope.specs.declared.rules.Rule.TheVariants as rule
use Rattle.viper_scope.specs.declared.context.Role.TheVariants as role
use Rattle.viper_scope.specs.Outcome.{Judged, Found, obeys}
use Rattle.viper_scope.specs.Context.{World, find}
use Rattle.viper_scope.specs.Types.{declared_type}

abbrev pub decl_name : d.Decl → Named
decl_name (d.Field f) = f.name
decl_name (d.Predicate at x params body) = x
decl_name (d.Method m) = m.name

abbrev pub no_world : World
no_world = record { roles = []; fields = []; predicates = []; methods = [] }

-- one more declaration
abbrev pub with_decl : World → d.Decl → World
with_decl w (d.Field f) = record w { roles = w.roles ++ (f.name.name, role.Field (length w.fields)) ∷ []; fields = w.fields ++ declared_type f ∷ [] }
with_decl w (d.Predicate at x params body) = record w {
  roles = w.roles ++ (x.name, role.Predicate (length w.predicates)) ∷ [];
  predicates = w.predicates ++ record { params = map declared_type params; has_body = is_some body } ∷ [];
}
with_decl w (d.Method m) = record w {
  roles = w.roles ++ (m.name.name, role.Method (length w.methods)) ∷ [];
  methods = w.methods ++ record { params = map declared_type m.params; returns = map declared_type m.returns } ∷ [];
}

abbrev pub with_decls : World → List d.Decl → World
with_decls w [] = w
with_decls w (a ∷ rest) = with_decls (with_decl w a) rest

-- whether a declaration's name is none of those before
abbrev pub is_new : World → d.Decl → Bool
is_new w a = not (is_some (find w.roles (decl_name a).name))

-- all names of the shared space are different (rule 2)
abbrev pub naming : World → List d.Decl → Judged World
naming w [] = Found w
naming w (a ∷ rest) = obeys (is_new w a) (decl_name a).pos rule.DeclaredTwice (naming (with_decl w a) rest)
