-- Two places with one line and one column are one place.
use Rattle.std.proofs.Common.{◌≡◌, ◌∙◌, ◌≤◌, ◌<◌, ◌^◌, ℕ, subst}
use Rattle.std.proofs.Math.Bridge.{le_prop}
use Rattle.vb_base.specs.declared.places.Pos.{Pos}

abbrev IsInRange : ℕ → Type 0
IsInRange n = (1 ≤ n) × (n < 2 ^ 32)

abbrev place_at : (line col : ℕ) → IsInRange line → IsInRange col → Pos
place_at line col h i = record { line = line; col = col; line_in_range = h; col_in_range = i }

-- what is in range is so in one way
one_range : {n : ℕ} (h k : IsInRange n) → h ≡ k
one_range h k = λ t. (le_prop h.0 k.0 t, le_prop h.1 k.1 t)

same_facts : (line col : ℕ) (h k : IsInRange line) (i j : IsInRange col) → place_at line col h i ≡ place_at line col k j
same_facts line col h k i j = λ t. place_at line col (one_range h k t) (one_range i j t)

pub same_pos : (p q : Pos) → p.line ≡ q.line → p.col ≡ q.col → p ≡ q
same_pos p q same_line same_col =
    let AtLine : ℕ → Type 0 = λ n. (h : IsInRange n) → p ≡ place_at n p.col h p.col_in_range in
    let at_line : AtLine q.line = subst AtLine same_line (λ h. same_facts p.line p.col p.line_in_range h p.col_in_range p.col_in_range) in
    let AtCol : ℕ → Type 0 = λ n. (i : IsInRange n) → p ≡ place_at q.line n q.line_in_range i in
    let at_col : AtCol q.col = subst AtCol same_col (λ i. at_line q.line_in_range ∙ same_facts q.line p.col q.line_in_range q.line_in_range p.col_in_range i) in
    at_col q.col_in_range
