-- Settings of their types make an environment.
use Rattle.std.proofs.Common.{List, [], ◌∷◌, All, map, slice_set}
use Rattle.std.proofs.lemmas.List.Elements.{All-head, All-tail}
use Rattle.boogie_tree.specs.Program.{BType}
use Rattle.boogie_tree.specs.Value.{BValue, BSetting}
use Rattle.boogie_meaning.specs.Programs.{default_value}
use Rattle.boogie_tree.specs.Values.{IsEnvironment}
use Rattle.boogie_meaning.proofs.ValueLaws.{default_typed, stored_typed}
use Rattle.boogie_run.specs.Start.{FitsSetting, with_settings, start_of}

defaults-fit : (ls : List BType) → IsEnvironment ls (map default_value ls)
defaults-fit [] = tt
defaults-fit (u ∷ ls) = (default_typed u.keys u.base, defaults-fit ls)

settings-fit : (ls : List BType) (env : List BValue) (xs : List BSetting) → IsEnvironment ls env → All (FitsSetting ls) xs → IsEnvironment ls (with_settings env xs)
settings-fit ls env [] h g = h
settings-fit ls env (x ∷ xs) h g =
    let f = All-head (FitsSetting ls) x xs g in
    settings-fit ls (slice_set env x.var x.value) xs (stored_typed ls env x.var f.type x.value h f.is_there f.is_of_type) (All-tail (FitsSetting ls) x xs g)

pub start_fits : (ls : List BType) (xs : List BSetting) → All (FitsSetting ls) xs → IsEnvironment ls (start_of ls xs)
start_fits ls xs g = settings-fit ls (map default_value ls) xs (defaults-fit ls) g
