-- What the check of a file answers, once its typing and its weight are known.
use Rattle.std.specs.Result.{IsErrAnd}
use Rattle.std.proofs.lemmas.Result.{err_from_is_err_and}
use Rattle.std.proofs.Common.{◌≡◌, ◌∙◌, ℕ, ◌<◌, ◌≤◌, true, false, Option, Some, None, is_none, List, [], Result, Ok, Err, refl, ap, subst, sym, arith}
use Rattle.vb_base.specs.Limits.{max_weight, too_heavy}
use Rattle.vb_base.specs.declared.places.Pos.{Pos}
use Rattle.viper_core.specs.Budget.{Leaves}
use Rattle.viper_core.specs.Expr.{Assertion}
use Rattle.viper_core.specs.Formed.{IsFormed}
use Rattle.viper_core.specs.Program as p
use Rattle.viper_core.specs.View.{program_of}
use Rattle.viper_core.specs.Weight.{weight, told_weight}
use Rattle.viper_core.specs.declared.programs.Program.{Program}
use Rattle.viper_syntax.specs.Decl.{Decl, SourceProgram}
use Rattle.viper_scope.specs.Rules.{number}
use Rattle.viper_scope.specs.declared.rules.Rule.{Rule}
use Rattle.viper_scope.specs.declared.rules.RuleFault.{RuleFault}
use Rattle.viper_scope.specs.declared.rules.RuleFault.TheVariants as part
use Rattle.viper_types.specs.declared.faults.TypeFault.{TypeFault}
use Rattle.viper_types.specs.declared.faults.TypeFault.TheVariants as fault
use Rattle.viper_scope.specs.Answers.{Refuses}
use Rattle.viper_types.specs.Checked.{Gives, Tells, IsRefused, Overweighs, told}
use Rattle.viper_scope.specs.Context.{World}
use Rattle.viper_types.specs.Copied.{copied_by_decls}
use Rattle.viper_scope.specs.Naming.{naming, no_world}
use Rattle.viper_types.specs.Declaring.{decls_typing, bodies_of, assembled, no_program, program_typing}
use Rattle.viper_syntax.specs.Good.{IsGoodSource}
use Rattle.viper_scope.specs.Outcome.{Judged, Found, Broken, then_typed}
use Rattle.viper_types.specs.Program.{IsProgram}
use Rattle.viper_types.proofs.CopiedProgram.{copied_weighs}
use Rattle.viper_types.proofs.Lean.{Ends, both, same, decls_ends}
use Rattle.viper_types.proofs.FormedProgram.{typed_program_is_formed}
use Rattle.viper_types.proofs.ProgramFinds.{program_finds}
use Rattle.viper_types.proofs.ProgramLaws.{found_program, found_or_broken, broken_is_no_program, one_broken_rule}
use Rattle.viper_types.proofs.Tells.{one_found}

pub light : (q : p.Program) (n : ℕ) → n ≡ told_weight q → n ≤ max_weight → weight q ≤ max_weight
light q n is h = omega (arith, is, h)

heavy : (q : p.Program) (n : ℕ) → n ≡ told_weight q → max_weight < n → max_weight < weight q
heavy q n is h = omega (arith, is, h)

told_heavy : (q : p.Program) (n : ℕ) → n ≡ told_weight q → max_weight < n → n ≡ too_heavy
told_heavy q n is h = omega (arith, is, h)

pub gives_found : (source : SourceProgram) (r : Program) (n : ℕ) → program_typing source ≡ Found (program_of r) → n ≡ told_weight (program_of r) → n ≤ max_weight →
    (q : p.Program) → IsProgram source q → Gives (Ok r) q
gives_found source r n found is h q g =
    let same = one_found found (program_finds g) in
    (same, subst (λ x. weight x ≤ max_weight) same (light (program_of r) n is h))

pub gives_heavy : (source : SourceProgram) (r : p.Program) (n : ℕ) → program_typing source ≡ Found r → n ≡ told_weight r → max_weight < n →
    (q : p.Program) → IsProgram source q → Gives (Err (fault.Weight n)) q
gives_heavy source r n found is h q g =
    let same = one_found found (program_finds g) in
    (told_heavy r n is h, subst (λ x. max_weight < weight x) same (heavy r n is h))

pub gives_refused : (source : SourceProgram) (f : TypeFault) → IsRefused source f → (q : p.Program) → IsProgram source q → Gives (Err f) q
gives_refused source fault.Memory h q g = tt
gives_refused source (fault.Rule at n) h q g = broken_is_no_program h.2 q g
gives_refused source (fault.Weight n) h q g = (h.0, subst (λ r. max_weight < weight r) (one_found (program_finds h.1.1) (program_finds g)) h.1.2)

pub tells_no_found : (source : SourceProgram) (q : p.Program) → program_typing source ≡ Found q → (at : Pos) (r : Rule) → program_typing source ≡ Broken at r → ⊥
tells_no_found source q found at r h = found_or_broken (sym found ∙ h)

pub tells_refused : (source : SourceProgram) (f : TypeFault) → IsRefused source f → (at : Pos) (r : Rule) → program_typing source ≡ Broken at r → Tells (Err f) at r
tells_refused source fault.Memory h at r g = tt
tells_refused source (fault.Rule place n) h at r g = let same = one_broken_rule source h.2 g in (same.0, h.1 ∙ ap number same.1)
tells_refused source (fault.Weight w) h at r g = broken_is_no_program g h.1.0 h.1.1

-- what is true of a fault is true of the answer that tells it
pub at_fault : (P : Result Program TypeFault → Type 0) (f : TypeFault) (result : Result Program TypeFault) → IsErrAnd result (λ g. g ≡ f) → P (Err f) → P result
at_fault P f result err h =
    let y = err_from_is_err_and result err in subst P (sym y.1) (subst (λ g. P (Err g)) (sym y.2) h)

pub refused_heavy : (source : SourceProgram) (r : p.Program) (n : ℕ) → program_typing source ≡ Found r → n ≡ told_weight r → max_weight < n → IsRefused source (fault.Weight n)
refused_heavy source r n found is h = (told_heavy r n is h, (r, found_program source found, heavy r n is h))

pub is_refused : (source : SourceProgram) (f : RuleFault) → Refuses (program_typing source) f → IsRefused source (told f)
is_refused source part.Memory h = tt
is_refused source (part.Broken at r) h = (r, refl, h)

-- the walk that found too much to copy and then told a broken rule
pub overweighs : {X : Type 0} (j : Judged X) (f : RuleFault) → Refuses j f → Overweighs j (told f)
overweighs j part.Memory h = tt
overweighs j (part.Broken at r) h = (r, refl, h)

-- ---- a file that copies too much

-- the walk of a file whose names are different
named_typing : (source : SourceProgram) (w : World) → naming no_world source.decls ≡ Found w →
    program_typing source ≡ then_typed (decls_typing true w (bodies_of w source.decls) source.decls) (λ xs. Found (assembled no_program xs))
named_typing source w i =
    ap (λ j. then_typed j (λ v. then_typed (decls_typing true v (bodies_of v source.decls) source.decls) (λ xs. Found (assembled no_program xs)))) i

ends_broken : {X Y V : Type 0} {R : X → Y → Type 0} {i : Judged X} {j : Judged Y} (go : X → V) (on : Y → V) {at : Pos} {r : Rule} → Ends R i j →
    then_typed j (λ y. Found (on y)) ≡ Broken at r → then_typed i (λ x. Found (go x)) ≡ Broken at r
ends_broken go on (both h) is = absurd (cc)
ends_broken go on same is = is

ends_found : {X Y V : Type 0} {R : X → Y → Type 0} {i : Judged X} {j : Judged Y} (on : Y → V) {z : V} → Ends R i j →
    then_typed j (λ y. Found (on y)) ≡ Found z → (x : X) × (i ≡ Found x)
ends_found on (both {x = x} h) is = (x, refl)
ends_found on same is = absurd (cc)

pub heavy_refused : (source : SourceProgram) (w : World) (f : TypeFault) → naming no_world source.decls ≡ Found w →
    max_weight < copied_by_decls w (bodies_of w source.decls) source.decls →
    Overweighs (then_typed (decls_typing false w [] source.decls) (λ xs. Found (assembled no_program xs))) f →
    IsRefused source f
heavy_refused source w fault.Memory i much h = tt
heavy_refused source w (fault.Rule at n) i much h =
    (h.0, h.1, named_typing source w i ∙ ends_broken (assembled no_program) (assembled no_program) (decls_ends w (bodies_of w source.decls) source.decls) h.2)
heavy_refused source w (fault.Weight n) i much h =
    let found = ends_found (assembled no_program) (decls_ends w (bodies_of w source.decls) source.decls) h.1.1 in
    let q = assembled no_program found.0 in
    let typed = named_typing source w i ∙ ap (λ j. then_typed j (λ xs. Found (assembled no_program xs))) found.1 in
    let over : max_weight < weight q = omega (arith, much, copied_weighs source w found.0 i found.1) in (h.0, (q, found_program source typed, over))

none_left : (left : Option ℕ) (n : ℕ) → is_none left ≡ true → Leaves left max_weight n → max_weight < n
none_left None n i h = h
none_left (Some x) n i h = absurd (cc)

-- the same, as the code has its parts
pub heavy_told : (source : SourceProgram) (w : World) (f : TypeFault) (bodies : List (Option Assertion)) (left : Option ℕ) (named bodied counted walked : List Decl) →
    named ≡ source.decls → bodied ≡ source.decls → counted ≡ source.decls → walked ≡ source.decls →
    naming no_world named ≡ Found w → bodies ≡ bodies_of w bodied → Leaves left max_weight (copied_by_decls w bodies counted) → is_none left ≡ true →
    Overweighs (then_typed (decls_typing false w [] walked) (λ xs. Found (assembled no_program xs))) f →
    IsRefused source f
heavy_told source w f bodies left named bodied counted walked n b k l i are spent none h =
    let same = ap (λ ds. copied_by_decls w bodies ds) k ∙ ap (λ bs. copied_by_decls w bs source.decls) (are ∙ ap (bodies_of w) b) in
    let over = none_left left (copied_by_decls w bodies counted) none spent in
    heavy_refused source w f (ap (naming no_world) (sym n) ∙ i) (subst (λ m. max_weight < m) same over)
    (subst (λ ds. Overweighs (then_typed (decls_typing false w [] ds) (λ xs. Found (assembled no_program xs))) f) l h)

pub formed_found : (source : SourceProgram) (q : p.Program) (n : ℕ) → program_typing source ≡ Found q → n ≡ told_weight q → n ≤ max_weight → IsGoodSource source → IsFormed q
formed_found source q n found is h good = record { typed = typed_program_is_formed good (found_program source found); light = light q n is h }
