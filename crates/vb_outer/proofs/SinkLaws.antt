-- Laws of what is appended in several calls.
use Rattle.std.proofs.Common.{◌≡◌, ℕ, List, [], ◌++◌, take, drop, Option, None, Some, refl, sym, ap, ◌∙◌, append_assoc, take-append-drop}
use Rattle.std.proofs.lemmas.List.{append-nil}
use Rattle.std.specs.Io.KnownBytes.{append_known}
use Rattle.vb_outer.specs.Sink.{Appends, AppendsPrefix}

append_known-nil : (held : Option (List ℕ)) → held ≡ append_known held []
append_known-nil None = refl
append_known-nil (Some bytes) = ap Some (sym (append-nil bytes))

append_known-append : (held : Option (List ℕ)) (first second : List ℕ) → append_known (append_known held first) second ≡ append_known held (first ++ second)
append_known-append None first second = refl
append_known-append (Some bytes) first second = ap Some (append_assoc bytes first second)

-- a sink that is unchanged has nothing appended
pub appends_nothing : (before now : Option (List ℕ)) → now ≡ before → Appends before now []
appends_nothing before now same = same ∙ append_known-nil before

-- one text after another
pub appends_both : (before between now : Option (List ℕ)) (first second : List ℕ) → Appends before between first → Appends between now second → Appends before now (first ++ second)
appends_both before between now first second one two =
    two ∙ ap (λ held. append_known held second) one ∙ append_known-append before first second

-- nothing is the front of each text
pub prefix_none : (before now : Option (List ℕ)) (text : List ℕ) → now ≡ before → AppendsPrefix before now text
prefix_none before now text same = ([], text, refl, appends_nothing before now same)

-- all of a text is a front of it
pub prefix_all : (before now : Option (List ℕ)) (text : List ℕ) → Appends before now text → AppendsPrefix before now text
prefix_all before now text all = (text, [], sym (append-nil text), all)

-- a front of a text is one of each longer text
pub prefix_longer : (before now : Option (List ℕ)) (text more : List ℕ) → AppendsPrefix before now text → AppendsPrefix before now (text ++ more)
prefix_longer before now text more (front, rest, is, appends) =
    (front, rest ++ more, ap (λ (bytes : List ℕ). bytes ++ more) is ∙ append_assoc front rest more, appends)

-- a whole text and then a front of another
pub prefix_after : (before between now : Option (List ℕ)) (first text : List ℕ) → Appends before between first → AppendsPrefix between now text → AppendsPrefix before now (first ++ text)
prefix_after before between now first text one (front, rest, is, appends) =
    (first ++ front, rest, ap (λ (bytes : List ℕ). first ++ bytes) is ∙ sym (append_assoc first front rest), appends_both before between now first front one appends)

-- some first bytes of what was left were appended too
pub written_more : (bytes done rest : List ℕ) (n : ℕ) → bytes ≡ done ++ rest → bytes ≡ (done ++ take n rest) ++ drop n rest
written_more bytes done rest n is =
    is ∙ ap (λ (back : List ℕ). done ++ back) (sym (take-append-drop n rest)) ∙ sym (append_assoc done (take n rest) (drop n rest))
