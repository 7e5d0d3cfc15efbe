-- The fault that a stop is.
use Rattle.std.specs.Prelude.{ℕ, zero, suc, List, [], ◌∷◌}
use Rattle.vb_base.specs.declared.places.Pos.{Pos}
use Rattle.viper_syntax.specs.declared.tokens.Token.{Token}
use Rattle.grammar.specs.declared.stop.Stop.{Stop}
use Rattle.grammar.specs.declared.stop.Stop.TheVariants as stop
use Rattle.viper_syntax.specs.declared.faults.ParseFault.{ParseFault}
use Rattle.viper_syntax.specs.declared.faults.ParseFault.TheVariants as fault

-- the place of the token of this number, or the end where the tokens have no such token
abbrev pub place_at : List Token → ℕ → Pos → Pos
place_at [] i end = end
place_at (k ∷ ts) zero end = k.pos
place_at (k ∷ ts) (suc i) end = place_at ts i end

-- the fault that a stop is
abbrev pub fault_of : Stop Token → Pos → ParseFault
fault_of stop.Memory end = fault.Memory
fault_of (stop.Before r) end = fault.Syntax (place_at r.now zero end)
