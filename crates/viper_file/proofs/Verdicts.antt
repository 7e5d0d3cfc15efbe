-- Bytes are a program, or are refused for one reason.
use Rattle.std.proofs.Common.{◌≡◌, ◌∙◌, ◌⊎◌, inl, inr, ◌<◌, ◌≤◌, ℕ, List, length, Err, refl, sym, ap, subst, arith}
use Rattle.std.proofs.lemmas.Bool.{cases_lt}
use Rattle.vb_base.specs.declared.places.Pos.{Pos}
use Rattle.vb_base.specs.Place.{IsPlaceAfter, IsPlace}
use Rattle.vb_base.proofs.Place.{same_pos}
use Rattle.vb_base.proofs.PlaceLaws.{one_place, some_place_after}
use Rattle.vb_base.specs.Limits.{max_viper_bytes, max_weight, too_heavy}
use Rattle.viper_syntax.specs.declared.tokens.LexFault.{LexFault}
use Rattle.viper_syntax.specs.declared.tokens.LexFault.TheVariants as lex
use Rattle.viper_syntax.specs.declared.tokens.Token.{Token}
use Rattle.viper_syntax.specs.Decl as d
use Rattle.viper_syntax.specs.Lexed.{IsLexed, HasFault}
use Rattle.viper_syntax.specs.Step.{UnlessMemory}
use Rattle.viper_syntax.proofs.AnswerLaws.{some_answer as some_cut}
use Rattle.viper_syntax.proofs.FormLaws.{well_formed}
use Rattle.viper_syntax.proofs.LexLaws.{one_lexed, one_fault, lexed_or_faulty}
use Rattle.viper_parse.specs.Answers.{IsProgram as Spelled, GoesWrong, Gives as GivesTree, Refuses}
use Rattle.viper_grammar.specs.Spells.{Spells}
use Rattle.viper_grammar.specs.Stops.{place_at}
use Rattle.viper_syntax.specs.declared.faults.ParseFault.{ParseFault}
use Rattle.viper_syntax.specs.declared.faults.ParseFault.TheVariants as parse
use Rattle.viper_parse.proofs.GoodLaws.{good}
use Rattle.viper_parse.proofs.Parsed.{one_program as one_spelled, some_answer}
use Rattle.viper_core.specs.Formed.{IsFormed}
use Rattle.viper_core.specs.Program as p
use Rattle.viper_core.specs.Weight.{weight}
use Rattle.viper_types.specs.Checked.{IsRefused}
use Rattle.viper_types.specs.Declaring.{program_typing}
use Rattle.viper_scope.specs.Outcome.{Judged, Found, Broken}
use Rattle.viper_scope.specs.Rules.{number}
use Rattle.viper_scope.specs.declared.rules.Rule.{Rule}
use Rattle.viper_types.specs.Program.{IsProgram}
use Rattle.viper_types.specs.declared.faults.TypeFault.{TypeFault}
use Rattle.viper_types.specs.declared.faults.TypeFault.TheVariants as typed
use Rattle.viper_types.proofs.FormedProgram.{typed_program_is_formed}
use Rattle.viper_types.proofs.ProgramFinds.{one_program_of}
use Rattle.viper_types.proofs.ProgramLaws.{broken_is_no_program, typed_or_broken}
use Rattle.viper_file.specs.Accepted.{IsAccepted, IsTreeRefusal, rule, heavy, IsTokenRefusal, syntax, of_tree, IsTextRefusal, lex as bad_lex, of_tokens, IsRefusal, HasOneAnswer, is_accepted, is_refused}
use Rattle.viper_file.specs.Accepted as accepted
use Rattle.viper_file.specs.Parts.{fault_of_lex, fault_of_parse, fault_of_types}
use Rattle.viper_file.specs.declared.fault.ViperFault.TheVariants as fault
use Rattle.viper_file.specs.declared.fault.ViperRefusal.{ViperRefusal}
use Rattle.viper_file.specs.declared.fault.ViperRefusal.TheVariants as refusal

-- ---- each reason excludes every other

-- the refusal for a broken rule
abbrev for_rule : Judged p.Program → ViperRefusal
for_rule (Found q) = refusal.Size
for_rule (Broken at r) = refusal.Rule at (number r)

not_both : {source : d.SourceProgram} {q r : p.Program} → IsProgram source q → IsProgram source r → max_weight < weight q → weight r ≤ max_weight → ⊥
not_both h i above below = omega (arith, above, below, ap weight (one_program_of h i))

one_tree_refusal : {source : d.SourceProgram} {r q : ViperRefusal} → IsTreeRefusal source r → IsTreeRefusal source q → r ≡ q
one_tree_refusal (rule e) (rule f) = ap for_rule (sym e ∙ f)
one_tree_refusal (rule e) (heavy h above) = absurd (broken_is_no_program e _ h)
one_tree_refusal (heavy h above) (rule e) = absurd (broken_is_no_program e _ h)
one_tree_refusal (heavy h above) (heavy i also) = refl

same_end : {bytes : List ℕ} {a b : Pos} → IsPlaceAfter bytes a → IsPlaceAfter bytes b → a ≡ b
same_end {a = a} {b = b} h i = same_pos a b (h.line ∙ sym i.line) (h.col ∙ sym i.col)

same_place : (ts : List Token) (i j : ℕ) (a b : Pos) → IsPlace Spelled ts i → IsPlace Spelled ts j → a ≡ b → place_at ts i a ≡ place_at ts j b
same_place ts i j a b h k same = ap (λ n. place_at ts n a) (one_place Spelled ts i j h k) ∙ ap (place_at ts j) same

one_token_refusal : {bytes : List ℕ} {tokens : List Token} {r q : ViperRefusal} → IsTokenRefusal bytes tokens r → IsTokenRefusal bytes tokens q → r ≡ q
one_token_refusal {tokens = ts} (syntax {i = i} {end = a} none h after) (syntax {i = j} {end = b} also k last) =
    ap (λ at. refusal.Syntax at) (same_place ts i j a b h k (same_end after last))
one_token_refusal (syntax none h after) (of_tree spelled is) = absurd (none (_, spelled))
one_token_refusal (of_tree spelled is) (syntax none h after) = absurd (none (_, spelled))
one_token_refusal {tokens = ts} {q = q} (of_tree {source = s} spelled is) (of_tree {source = t} also other) =
    one_tree_refusal is (subst (λ x. IsTreeRefusal x q) (one_spelled ts t s also spelled) other)

-- a text is refused for one reason
pub one_text_refusal : {bytes : List ℕ} {r q : ViperRefusal} → IsTextRefusal bytes r → IsTextRefusal bytes q → r ≡ q
one_text_refusal {bytes} (bad_lex {fault = e} is) (bad_lex {fault = f} other) = ap (λ x. refusal.Lex x) (one_fault bytes e f is other)
one_text_refusal {bytes} (bad_lex {fault = e} is) (of_tokens {tokens = ts} lexed other) = absurd (lexed_or_faulty bytes ts e lexed is)
one_text_refusal {bytes} (of_tokens {tokens = ts} lexed is) (bad_lex {fault = e} other) = absurd (lexed_or_faulty bytes ts e lexed other)
one_text_refusal {bytes} {r} {q} (of_tokens {tokens = ts} lexed is) (of_tokens {tokens = us} cut other) =
    one_token_refusal is (subst (λ x. IsTokenRefusal bytes x q) (one_lexed bytes us ts cut lexed) other)

accepted_tree : {source : d.SourceProgram} {q : p.Program} {r : ViperRefusal} → IsProgram source q → weight q ≤ max_weight → IsTreeRefusal source r → ⊥
accepted_tree h below (rule e) = broken_is_no_program e _ h
accepted_tree h below (heavy i above) = not_both i h above below

accepted_tokens : {bytes : List ℕ} {tokens : List Token} {source : d.SourceProgram} {q : p.Program} {r : ViperRefusal} → Spells tokens source → IsProgram source q → weight q ≤ max_weight →
    IsTokenRefusal bytes tokens r → ⊥
accepted_tokens spelled h below (syntax none place after) = none (_, spelled)
accepted_tokens {tokens = ts} {source = s} {r = r} spelled h below (of_tree {source = t} also other) =
    accepted_tree h below (subst (λ x. IsTreeRefusal x r) (one_spelled ts t s also spelled) other)

-- and not refused where it is a program
pub accepted_text : {bytes : List ℕ} {q : p.Program} {r : ViperRefusal} → IsAccepted bytes q → IsTextRefusal bytes r → ⊥
accepted_text {bytes} a (bad_lex {fault = e} is) = lexed_or_faulty bytes a.tokens e a.lexed is
accepted_text {bytes} {r = r} a (of_tokens {tokens = ts} lexed is) =
    accepted_tokens a.spelled a.is_typed a.light (subst (λ x. IsTokenRefusal bytes x r) (one_lexed bytes ts a.tokens lexed a.lexed) is)

-- bytes are one typed program at most
pub one_accepted : {bytes : List ℕ} {q r : p.Program} → IsAccepted bytes q → IsAccepted bytes r → q ≡ r
one_accepted {bytes} {r = r} h i =
    let tokens = one_lexed bytes i.tokens h.tokens i.lexed h.lexed in
    let source = one_spelled h.tokens i.source h.source (subst (λ ts. Spells ts i.source) tokens i.spelled) h.spelled in
    one_program_of h.is_typed (subst (λ s. IsProgram s r) source i.is_typed)

-- which it accepts
unfoldable pub accepts : (bytes : List ℕ) (tokens : List Token) (source : d.SourceProgram) (q : p.Program) → length bytes ≤ max_viper_bytes → IsLexed bytes tokens → Spells tokens source →
    IsProgram source q × (weight q ≤ max_weight) → IsAccepted bytes q
accepts bytes tokens source q small lexed spelled typed =
    record { small = small; tokens = tokens; lexed = lexed; source = source; spelled = spelled; is_typed = typed.0; light = typed.1 }

-- a program that is accepted is formed
pub accepted_formed : {bytes : List ℕ} {q : p.Program} → IsAccepted bytes q → IsFormed q
accepted_formed {bytes} a = record {
  typed = typed_program_is_formed (good (well_formed bytes a.tokens a.small a.lexed) a.spelled) a.is_typed;
  light = a.light;
}

-- ---- what is accepted and refused

pub one_refusal : {bytes : List ℕ} {r q : ViperRefusal} → IsRefusal bytes r → IsRefusal bytes q → r ≡ q
one_refusal (accepted.size above) (accepted.size also) = refl
one_refusal (accepted.size above) (accepted.of_text small is) = absurd (omega (arith, above, small))
one_refusal (accepted.of_text small is) (accepted.size above) = absurd (omega (arith, above, small))
one_refusal (accepted.of_text small is) (accepted.of_text also other) = one_text_refusal is other

pub accepted_not_refused : {bytes : List ℕ} {program : p.Program} {r : ViperRefusal} → IsAccepted bytes program → IsRefusal bytes r → ⊥
accepted_not_refused h (accepted.size above) = omega (arith, above, h.small)
accepted_not_refused h (accepted.of_text small is) = accepted_text h is

-- ---- the refusal of each stage

pub lex_refusal : (bytes : List ℕ) (f : LexFault) (r : ViperRefusal) → UnlessMemory (HasFault bytes) f → fault_of_lex f ≡ fault.Refused r → IsTextRefusal bytes r
lex_refusal bytes (lex.BadByte at) r is is_r = let same : refusal.Lex (lex.BadByte at) ≡ r = cc in subst (IsTextRefusal bytes) same (bad_lex is)
lex_refusal bytes (lex.OpenComment at) r is is_r = let same : refusal.Lex (lex.OpenComment at) ≡ r = cc in subst (IsTextRefusal bytes) same (bad_lex is)
lex_refusal bytes (lex.BigLiteral at) r is is_r = let same : refusal.Lex (lex.BigLiteral at) ≡ r = cc in subst (IsTextRefusal bytes) same (bad_lex is)
lex_refusal bytes (lex.Braces at) r is is_r = let same : refusal.Lex (lex.Braces at) ≡ r = cc in subst (IsTextRefusal bytes) same (bad_lex is)
lex_refusal bytes (lex.LongGroup at) r is is_r = let same : refusal.Lex (lex.LongGroup at) ≡ r = cc in subst (IsTextRefusal bytes) same (bad_lex is)
lex_refusal bytes (lex.Unsupported at) r is is_r = let same : refusal.Lex (lex.Unsupported at) ≡ r = cc in subst (IsTextRefusal bytes) same (bad_lex is)
lex_refusal bytes lex.Memory r is is_r = absurd (cc)

pub parse_refusal : (bytes : List ℕ) (tokens : List Token) (last : Pos) (f : ParseFault) (r : ViperRefusal) → IsLexed bytes tokens → IsPlaceAfter bytes last →
    ((q : d.SourceProgram) → Spells tokens q → GivesTree (Err f) q) → Refuses (Err f) tokens last → fault_of_parse f ≡ fault.Refused r → IsTextRefusal bytes r
parse_refusal bytes tokens last parse.Memory r lexed after only there is_r = absurd (cc)
parse_refusal bytes tokens last (parse.Syntax at) r lexed after only there is_r =
    let same : refusal.Syntax (place_at tokens there.0 last) ≡ r = ap (λ x. refusal.Syntax x) (sym there.2) ∙ cc in
    subst (IsTextRefusal bytes) same (of_tokens lexed (syntax (λ x. only x.0 x.1) there.1 after))

pub type_refusal : (bytes : List ℕ) (tokens : List Token) (source : d.SourceProgram) (f : TypeFault) (r : ViperRefusal) → IsLexed bytes tokens → Spells tokens source →
    IsRefused source f → fault_of_types f ≡ fault.Refused r → IsTextRefusal bytes r
type_refusal bytes tokens source typed.Memory r lexed spelled why is_r = absurd (cc)
type_refusal bytes tokens source (typed.Rule at n) r lexed spelled why is_r =
    let same : refusal.Rule at (number why.0) ≡ r = ap (λ m. refusal.Rule at m) (sym why.1) ∙ cc in
    subst (IsTextRefusal bytes) same (of_tokens lexed (of_tree spelled (rule why.2)))
type_refusal bytes tokens source (typed.Weight n) r lexed spelled why is_r =
    let same : refusal.Weight too_heavy ≡ r = ap (λ x. refusal.Weight x) (sym why.0) ∙ cc in
    let (program, is, above) = why.1 in
    subst (IsTextRefusal bytes) same (of_tokens lexed (of_tree spelled (heavy is above)))

-- ---- each text has an answer

-- Each stage goes on, or refuses.
module _ (bytes : List ℕ) (small : length bytes ≤ max_viper_bytes) where
  abbrev Answered : Type 0
  Answered = ((q : p.Program) × IsAccepted bytes q) ⊎ ((r : ViperRefusal) × IsTextRefusal bytes r)

  of_weight : (tokens : List Token) (source : d.SourceProgram) (q : p.Program) → IsLexed bytes tokens → Spells tokens source → IsProgram source q →
      (max_weight < weight q) ⊎ (weight q ≤ max_weight) → Answered
  of_weight tokens source q lexed spelled is (inl above) = inr (_, of_tokens lexed (of_tree spelled (heavy is above)))
  of_weight tokens source q lexed spelled is (inr light) =
      inl (q, record { small = small; tokens = tokens; lexed = lexed; source = source; spelled = spelled; is_typed = is; light = light })

  of_types : (tokens : List Token) (source : d.SourceProgram) → IsLexed bytes tokens → Spells tokens source →
      ((q : p.Program) × IsProgram source q) ⊎ ((at : Pos) × (r : Rule) × (program_typing source ≡ Broken at r)) → Answered
  of_types tokens source lexed spelled (inl typed) = of_weight tokens source typed.0 lexed spelled typed.1 (cases_lt max_weight (weight typed.0))
  of_types tokens source lexed spelled (inr broken) = inr (_, of_tokens lexed (of_tree spelled (rule broken.2)))

  of_spelling : (tokens : List Token) → IsLexed bytes tokens → Spelled tokens ⊎ GoesWrong tokens → Answered
  of_spelling tokens lexed (inl tree) = of_types tokens tree.0 lexed tree.1 (typed_or_broken tree.0)
  of_spelling tokens lexed (inr wrong) =
      let last = some_place_after bytes (omega (arith, small)) in inr (_, of_tokens lexed (syntax {end = last.0} wrong.none wrong.place last.1))

  of_cut : ((ts : List Token) × IsLexed bytes ts) ⊎ ((f : LexFault) × HasFault bytes f) → Answered
  of_cut (inl cut) = of_spelling cut.0 cut.1 (some_answer cut.0)
  of_cut (inr bad) = inr (_, bad_lex bad.1)

-- a text within the limit is a program, or is refused
pub text_answer : (bytes : List ℕ) → length bytes ≤ max_viper_bytes → ((q : p.Program) × IsAccepted bytes q) ⊎ ((r : ViperRefusal) × IsTextRefusal bytes r)
text_answer bytes small = of_cut bytes small (some_cut bytes small)

accepted_once : {bytes : List ℕ} {program : p.Program} → IsAccepted bytes program → HasOneAnswer bytes
accepted_once h = is_accepted h (λ other i. one_accepted i h) (λ r is. accepted_not_refused h is)

refused_once : {bytes : List ℕ} {r : ViperRefusal} → IsRefusal bytes r → HasOneAnswer bytes
refused_once h = is_refused h (λ other is. one_refusal is h) (λ program accepts. accepted_not_refused accepts h)

of_text : (bytes : List ℕ) → length bytes ≤ max_viper_bytes → ((q : p.Program) × IsAccepted bytes q) ⊎ ((r : ViperRefusal) × IsTextRefusal bytes r) → HasOneAnswer bytes
of_text bytes small (inl typed) = accepted_once typed.1
of_text bytes small (inr refused) = refused_once (accepted.of_text small refused.1)

of_size : (bytes : List ℕ) → (max_viper_bytes < length bytes) ⊎ (length bytes ≤ max_viper_bytes) → HasOneAnswer bytes
of_size bytes (inl above) = refused_once (accepted.size above)
of_size bytes (inr small) = of_text bytes small (text_answer bytes small)

pub one_answer : (bytes : List ℕ) → HasOneAnswer bytes
one_answer bytes = of_size bytes (cases_lt max_viper_bytes (length bytes))
