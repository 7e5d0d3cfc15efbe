-- The limits of files, of programs and of runs: what goes beyond one is refused, or ends a run.
use Rattle.std.specs.Prelude.{ℕ, ◌+◌}

-- the bytes of a file of Viper, and of a run of one
abbrev pub max_viper_bytes : ℕ
max_viper_bytes = 1048576

-- the bytes of a file of Boogie, and of a run of one
abbrev pub max_boogie_bytes : ℕ
max_boogie_bytes = 33554432

-- the `{` of Viper that are unclosed at once
abbrev pub max_unclosed_braces : ℕ
max_unclosed_braces = 128

-- the blocks of Viper that are nested
abbrev pub max_block_depth : ℕ
max_block_depth = 128

-- the tokens of Viper between two dividers
abbrev pub max_group_tokens : ℕ
max_group_tokens = 1024

-- the levels of an expression or assertion of Viper
abbrev pub max_term_depth : ℕ
max_term_depth = 1024

-- what a program of Viper weighs
abbrev pub max_weight : ℕ
max_weight = 100000

-- the weight that is told of each heavier program
abbrev pub too_heavy : ℕ
too_heavy = max_weight + 1

-- the brackets of Boogie that are unclosed at once
abbrev pub max_unclosed_brackets : ℕ
max_unclosed_brackets = 2048

-- the nodes of a content in a run
abbrev pub max_content_nodes : ℕ
max_content_nodes = 4096

-- the methods of a program that is made
abbrev pub max_made_methods : ℕ
max_made_methods = 2000
