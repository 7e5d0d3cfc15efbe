-- Each generated program is typed, within all limits.
use Rattle.std.proofs.Common.{◌++◌, ℕ, ◌≤◌}
use Rattle.vb_base.specs.Limits.{max_made_methods}
use Rattle.viper_types.proofs.ProgramLaws.{found_program}
use Rattle.vb_gen_laws.specs.Made.{IsMade}
use Rattle.vb_gen_laws.proofs.LimitWalk.{program_limits}
use Rattle.vb_gen_laws.proofs.MethodTyped.{program_found}
use Rattle.vb_gen_laws.proofs.Short.{program_short}
use Rattle.vb_gen_laws.proofs.Spelled.{program_spelled}
use Rattle.vb_gen_laws.proofs.TextCut.{program_cut}
use Rattle.vb_gen_laws.proofs.Trees.{placed, field_toks, methods_toks, source_of}
use Rattle.vb_gen_laws.proofs.TypedTrees.{typed_program}
use Rattle.vb_gen_laws.proofs.Weighed.{program_weighs}

pub is_made : (n : ℕ) → n ≤ max_made_methods → IsMade n
is_made n few =
    let cut = program_cut n few (program_short n few) in
    let places = cut.0 in
    record {
      small = program_short n few;
      tokens = placed places (field_toks ++ methods_toks n);
      lexed = record { cut = cut.1; limits = program_limits places n };
      source = source_of places n;
      spelled = program_spelled places n;
      typed = typed_program places n;
      is_typed = found_program (source_of places n) (program_found places n few);
      weighs = program_weighs places n;
    }
