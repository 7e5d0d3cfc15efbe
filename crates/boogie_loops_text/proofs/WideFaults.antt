-- Bytes are refused in one way at most, and not where they spell a program whose brackets are not too deep.
use Rattle.std.proofs.Common.{◌≡◌, ℕ, List}
use Rattle.vb_base.specs.declared.places.Pos.{Pos}
use Rattle.boogie_grammar.specs.declared.faults.BoogieFault.{BoogieFault}
use Rattle.boogie_grammar.specs.declared.faults.BoogieFault.TheVariants as fault
use Rattle.boogie_grammar.specs.Depth.{IsShallow}
use Rattle.boogie_loops.specs.Wide.{WProgram}
use Rattle.boogie_loops_grammar.specs.Spells.{WideSpells, SpellsWideProgram}
use Rattle.boogie_loops_text.specs.Faults.{IsWideFault}
use Rattle.boogie_print.proofs.AlikeLaws.{one_row}
use Rattle.boogie_text.proofs.FaultLaws.{one_refusal, deep_only}
use Rattle.boogie_loops_text.proofs.WideParsed.{derives_alike}

pub one_fault : (bytes : List ℕ) (f g : BoogieFault) → IsWideFault bytes f → IsWideFault bytes g → f ≡ g
one_fault bytes f g a b = one_refusal SpellsWideProgram f g a b

-- what spells a program is refused for its brackets alone
pub too_deep_only : (bytes : List ℕ) (f : BoogieFault) (b : WProgram) (h : WideSpells bytes b) → IsWideFault bytes f → (at : Pos) × (f ≡ fault.Deep at) × (IsShallow h.tokens → ⊥)
too_deep_only bytes f b h k = deep_only SpellsWideProgram h.text h.cut (λ us row. (b, derives_alike h.spells (one_row h.cut row))) f k

pub not_refused : (bytes : List ℕ) (f : BoogieFault) (b : WProgram) (h : WideSpells bytes b) → IsShallow h.tokens → IsWideFault bytes f → ⊥
not_refused bytes f b h shallow k = (too_deep_only bytes f b h k).2 shallow
