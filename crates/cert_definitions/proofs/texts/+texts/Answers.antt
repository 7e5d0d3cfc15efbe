use Rattle.std.proofs.Common.{◌≡◌, Bool as Truth, ◌&&◌, Option, None, List, [], slice_get, refl, sym, ap, ◌∙◌, drop, drop_of_length-le}
use Rattle.std.specs.Bool.{beq}
use Rattle.std.specs.declared.alloc.Global.{Global}
use Rattle.std.specs.declared.boxed.Box.{Box}
use Rattle.boogie_tree.specs.declared.exprs.BOp.{BOp}
use Rattle.boogie_tree.specs.declared.exprs.BOp.TheVariants as op
use Rattle.boogie_formula.specs.View.{fexpr_of, fexprs_of}
use Rattle.boogie_formula.specs.declared.formulas.FExpr as expr
use Rattle.cert_terms.specs.Lawful.{terms_of}
use Rattle.cert_terms.specs.declared.table.TermTable.{TermTable}
use Rattle.cert_terms.specs.declared.terms.ClauseLiteral.{ClauseLiteral}
use Rattle.cert_definitions.specs.Texts.{Told, is_text, are_texts, is_turned, bin_text, core, suits, left_of, right_of}
use Rattle.cert_definitions.specs.View.{told_of, keys_of, two_text}
use Rattle.cert_definitions.specs.declared.parts.TwoParts.{TwoParts}
use Rattle.cert_definitions.proofs.LeafLaws.{leaf_is}
use Rattle.cert_definitions.proofs.ReadLaws.{at_is, texts_ended}
use Rattle.cert_definitions.proofs.texts.+texts.Goals as goal

-- what an operator takes does not depend on what names are told to be
suits_same : (table : TermTable) (aliases : List (Option ClauseLiteral)) (keys : Option (List ClauseLiteral)) (o : BOp) (x : ClauseLiteral) → suits (told_of table [] None) o x ≡ suits (told_of table aliases keys) o x
suits_same table aliases keys op.Iff x = refl
suits_same table aliases keys _ x = refl

module _ (table : TermTable) (aliases : List (Option ClauseLiteral)) (keys : Option (List ClauseLiteral)) (e : expr.FExpr) (o : BOp) (x y : Box expr.FExpr Global) (l : ClauseLiteral) (s : Option TwoParts)
    (is : e ≡ expr.Bin o x y)
    (sides : (go : ClauseLiteral → ClauseLiteral → Truth) → two_text s go ≡ (beq l.negated (is_turned o) && bin_text (core o) (slice_get (terms_of table) l.name) (λ p q. suits (told_of table [] None) o p && go (left_of o p q) (right_of o p q)))) where
  abbrev here : Told
  here = told_of table aliases keys

  abbrev both : expr.FExpr → expr.FExpr → ClauseLiteral → ClauseLiteral → Truth
  both a b p q = is_text here (fexpr_of a) p && is_text here (fexpr_of b) q

  bin_read : (a b : expr.FExpr) (r : Truth) → a ≡ x.value → b ≡ y.value → r ≡ two_text s (both a b) → r ≡ is_text here (fexpr_of e) l
  bin_read a b r first second h =
      h ∙ (λ i. two_text s (both (first i) (second i))) ∙ sides (both x.value y.value)
      ∙ (λ i. beq l.negated (is_turned o) && bin_text (core o) (slice_get (terms_of table) l.name) (λ p q. suits_same table aliases keys o p i && both x.value y.value (left_of o p q) (right_of o p q)))
      ∙ sym (ap (λ z. is_text here (fexpr_of z) l) is)

pub are_texts-returns : goal.are_texts-returns
are_texts-returns t c =
    sym (c.loop-e.invariant.same
    ∙ ap (λ es. are_texts (told_of c.args.table.now c.args.aliases.now (keys_of c.args.inside c.args.keys.now)) (fexprs_of es) (drop c.loop-e.count c.args.literals.now)) (drop_of_length-le _ c.loop-e-test.false)
    ∙ texts_ended (told_of c.args.table.now c.args.aliases.now (keys_of c.args.inside c.args.keys.now)) _ _ c.loop-e.invariant.within)

pub is_text-returns-in-At : goal.is_text-returns-in-At
is_text-returns-in-At t c =
    c.at_text.ensures
    ∙ sym (ap (λ e. is_text (told_of c.args.table.now c.args.aliases.now (keys_of c.args.inside c.args.keys.now)) e c.args.literal) (at_is c.in-At.es c.in-At.is c.deref-in-At.ensures.value))

pub is_text-returns-in_default : goal.is_text-returns-in_default
is_text-returns-in_default t c =
    c.leaf_text.ensures
    ∙ leaf_is c.args.table.now c.args.aliases.now (keys_of c.args.inside c.args.keys.now) c.args.literal c.args.e.now (record {
      is_no_Var = c.in_default.not-Var;
      is_no_Neg = c.in_default.not-Neg;
      is_no_Not = c.in_default.not-Not;
      is_no_Bin = c.in_default.not-Bin;
      is_no_If = c.in_default.not-If;
      is_no_ToReal = c.in_default.not-ToReal;
      is_no_SInt = c.in_default.not-SInt;
      is_no_SBool = c.in_default.not-SBool;
      is_no_SRef = c.in_default.not-SRef;
      is_no_SPerm = c.in_default.not-SPerm;
      is_no_Pair = c.in_default.not-Pair;
      is_no_At = c.in_default.not-At;
      is_no_AtBound = c.in_default.not-AtBound;
    })
