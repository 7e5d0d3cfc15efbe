-- What readers answer of a text, from what is answered of its tokens; and that no other answer is right.
use Rattle.std.proofs.Common.{◌≡◌, refl, sym, subst, ℕ, inl, inr, List, ◌++◌, Result, Ok, Err, MatchResult}
use Rattle.std.specs.Result.{IsErrAnd}
use Rattle.std.proofs.lemmas.Result.{err_from_is_err_and}
use Rattle.vb_base.specs.declared.places.Pos.{Pos}
use Rattle.vb_base.specs.Place.{IsPlaceAfter}
use Rattle.boogie_tree.specs.Text.{prelude}
use Rattle.boogie_grammar.specs.declared.faults.BoogieFault.{BoogieFault}
use Rattle.boogie_grammar.specs.declared.faults.BoogieFault.TheVariants as fault
use Rattle.boogie_grammar.specs.declared.tokens.PlacedLexeme.{PlacedLexeme}
use Rattle.boogie_grammar.specs.Step.{CutFails}
use Rattle.boogie_text.specs.Answers.{UnlessMemory, Gives, GivesFault}
use Rattle.boogie_text.specs.PublicTokens.{IsTokenFault, no_token}
use Rattle.boogie_text.specs.Texts.{HasTokens, IsRefused, no_program, ReadsTokens}

pub cut_refused : (bytes rest : List ℕ) (f : BoogieFault) → bytes ≡ prelude ++ rest → CutFails prelude rest f → UnlessMemory (IsTokenFault bytes) f
cut_refused bytes rest fault.Memory e h = tt
cut_refused bytes rest (fault.Syntax at) e h = no_token e h
cut_refused bytes rest (fault.Prelude at) e h = absurd h
cut_refused bytes rest (fault.Deep at) e h = absurd h

-- a fault that is handed on

pub same_refusal : {D : Type 0} (Good : D → Type 0) (Bad : BoogieFault → Type 0) (w : BoogieFault) (res : Result D BoogieFault) → IsErrAnd res (λ x. x ≡ w) →
    UnlessMemory Bad w → MatchResult res Good (UnlessMemory Bad)
same_refusal Good Bad w res e h =
    let y = err_from_is_err_and res e in
    subst (λ o. MatchResult o Good (UnlessMemory Bad)) (sym y.1) (subst (λ x. UnlessMemory Bad x) (sym y.2) h)

pub refusal_as : (Bad Worse : BoogieFault → Type 0) (f : BoogieFault) → ((g : BoogieFault) → Bad g → Worse g) → UnlessMemory Bad f → UnlessMemory Worse f
refusal_as Bad Worse fault.Memory as_ h = tt
refusal_as Bad Worse (fault.Prelude at) as_ h = as_ (fault.Prelude at) h
refusal_as Bad Worse (fault.Syntax at) as_ h = as_ (fault.Syntax at) h
refusal_as Bad Worse (fault.Deep at) as_ h = as_ (fault.Deep at) h

-- what is answered of the tokens of a text

pub reads_text : {D : Type 0} {bytes : List ℕ} {ts : List PlacedLexeme} {end : Pos} (Spell : List PlacedLexeme → D → Type 0) (P : List PlacedLexeme → Type 0) (Good : D → Type 0) (Bad : BoogieFault → Type 0) →
    HasTokens bytes ts → IsPlaceAfter bytes end → ((d : D) → Spell ts d → Good d) → ((f : BoogieFault) → IsRefused P bytes f → Bad f) →
    (res : Result D BoogieFault) → ReadsTokens Spell P ts end res → MatchResult res Good (UnlessMemory Bad)
reads_text Spell P Good Bad has last good bad (Ok d) h = good d h
reads_text Spell P Good Bad has last good bad (Err fault.Memory) h = tt
reads_text {bytes = bytes} Spell P Good Bad has last good bad (Err (fault.Syntax at)) h =
    bad (fault.Syntax at) (subst (λ place. IsRefused P bytes (fault.Syntax place)) (sym h.1.2) (no_program has h.0 h.1.1 last))
reads_text Spell P Good Bad has last good bad (Err (fault.Prelude at)) h = absurd h
reads_text Spell P Good Bad has last good bad (Err (fault.Deep at)) h = absurd h

-- there is no other answer

pub gives : {D T : Type 0} (view : D → T) (Good : D → Type 0) (Bad : BoogieFault → Type 0) (x : T) (res : Result D BoogieFault) → MatchResult res Good (UnlessMemory Bad) →
    ((d : D) → Good d → view d ≡ x) → ((f : BoogieFault) → Bad f → (at : Pos) × (f ≡ fault.Deep at)) → Gives view x res
gives view Good Bad x (Ok d) read one deep = one d read
gives view Good Bad x (Err fault.Memory) read one deep = tt
gives view Good Bad x (Err (fault.Prelude at)) fails one deep = let d = (deep (fault.Prelude at) fails).1 in cc
gives view Good Bad x (Err (fault.Syntax at)) fails one deep = let d = (deep (fault.Syntax at) fails).1 in cc
gives view Good Bad x (Err (fault.Deep at)) fails one deep = tt

pub gives_fault : {D : Type 0} (Good : D → Type 0) (Bad : BoogieFault → Type 0) (f : BoogieFault) (res : Result D BoogieFault) → MatchResult res Good (UnlessMemory Bad) →
    ((d : D) → Good d → ⊥) → ((g : BoogieFault) → Bad g → g ≡ f) → GivesFault f res
gives_fault Good Bad f (Ok d) read never one = never d read
gives_fault Good Bad f (Err fault.Memory) fails never one = inr refl
gives_fault Good Bad f (Err (fault.Prelude at)) fails never one = inl (one (fault.Prelude at) fails)
gives_fault Good Bad f (Err (fault.Syntax at)) fails never one = inl (one (fault.Syntax at) fails)
gives_fault Good Bad f (Err (fault.Deep at)) fails never one = inl (one (fault.Deep at) fails)
