use Rattle.std.proofs.Common.{◌≡◌, ◌∙◌, refl, ℕ, List, [], ◌∷◌}
use Rattle.std.specs.Prelude.{slice_index}
use Rattle.boogie_grammar.specs.Pieces as spec
use Rattle.boogie_grammar.proofs.signs.sign_at.Goals as goal

-- four bytes are enough, and zeros past the end change nothing
four_bytes : (bs : List ℕ) → spec.sign_at (slice_index bs 0 ∷ slice_index bs 1 ∷ slice_index bs 2 ∷ slice_index bs 3 ∷ []) ≡ spec.sign_at bs
four_bytes [] = refl
four_bytes (a ∷ []) = refl
four_bytes (a ∷ b ∷ []) = refl
four_bytes (a ∷ b ∷ c ∷ []) = refl
four_bytes (a ∷ b ∷ c ∷ d ∷ bs) = refl

pub returns : goal.returns
returns c = c.sign_of.ensures ∙ rw (c.byte_at.ensures, c.byte_at-2.ensures, c.byte_at-3.ensures, c.byte_at-4.ensures) (four_bytes c.args.text.now)
