-- The text of a formed program is a translation of it.
use Rattle.std.proofs.Common.{◌≡◌, ◌∙◌, ◌≤◌, ◌<◌, ◌^◌, ◌+◌, ◌++◌, ◌↔◌, ℕ, zero, suc, List, [], ◌∷◌, All, map, get_or, length, length-append, Some, slice_get, refl, sym, ap, subst, append_assoc, arith}
use Rattle.std.proofs.lemmas.List.{length-map}
use Rattle.std.proofs.lemmas.List.Elements.{All-map, All-append}
use Rattle.std.specs.Option.{option_map}
use Rattle.std.proofs.lemmas.Option.{slice_get-get_or, slice_get-map, get_or_from_slice_get, same_Some}
use Rattle.enc_expr.proofs.EmitLaws.{length-temporaries}
use Rattle.lemmas.proofs.Lists.{item_there}
use Rattle.vb_base.specs.Limits.{max_block_depth, max_unclosed_brackets}
use Rattle.vb_base.specs.Names.{NamesDiffer}
use Rattle.vb_base.specs.declared.labels.Label.{Label}
use Rattle.viper_core.specs.Formed.{IsFormed}
use Rattle.viper_core.specs.Program.{Program}
use Rattle.viper_core.specs.declared.programs.Unit.{Unit}
use Rattle.viper_meaning.specs.Units.{ViperFails}
use Rattle.boogie_tree.specs.Nested.{proc_depth, procs_depth, stmts_depth}
use Rattle.boogie_tree.specs.Program.{BType, Local, Proc}
use Rattle.boogie_tree.specs.Fits.{FitStmts}
use Rattle.boogie_tree.specs.Values.{AreKeys}
use Rattle.boogie_grammar.specs.Grammar.{local_names, proc_names}
use Rattle.boogie_grammar.specs.Spells.{BSpells}
use Rattle.boogie_print.specs.Printable.{FitsProc, IsPrintable}
use Rattle.boogie_print.proofs.NestedLaws.{shallow}
use Rattle.boogie_print.proofs.Parsed.{one_program}
use Rattle.boogie_print.specs.Short.{ShortProc}
use Rattle.boogie_print.proofs.FreshLaws.{fewer}
use Rattle.boogie_print.proofs.ProgramShown.{program_spelled}
use Rattle.boogie_meaning.specs.Programs as b
use Rattle.boogie_meaning.specs.Programs.{HaveKeys, IsTypedProc, IsTypedProgram, BoogieFails, ProcFails, brun_proc}
use Rattle.boogie_meaning.specs.Run.{Stops, Failed}
use Rattle.boogie_meaning.specs.Types.{IsTyped}
use Rattle.boogie_meaning.proofs.RunTypedLaws.{never_wrong}
use Rattle.moves.specs.Moves.{moves}
use Rattle.enc_expr.specs.Emits.{temporaries}
use Rattle.enc_expr.specs.Front.{front_names, front_types, front_values}
use Rattle.enc_expr.specs.Locals.{types_of_others, first_other, names_from, state_names, old_names, zero_names, fixed_names, fixed_types, named, locals_of_unit}
use Rattle.enc_expr.proofs.FrontLaws.{front}
use Rattle.enc_expr.proofs.PrintedCode.{block_fits}
use Rattle.enc_expr.proofs.ShallowCode.{brackets}
use Rattle.enc_block.proofs.ShallowParts.{top, shallow_parts}
use Rattle.enc_text.proofs.NameLaws.{length_named, fixed_good, locals_fit, locals_differ}
use Rattle.enc_units.specs.Translates.{program_code, text_of, IsProcedureOf, Translates}
use Rattle.enc_locals.specs.Procedure.{front_locals, unit_name}
use Rattle.enc_units.specs.Units.{unit_code, unit_procedure, further_types, started}
use Rattle.enc_units.proofs.ExactLaws.{procedure_types, unit_exact, unit_transfers}
use Rattle.enc_units.proofs.PropertyUnits.{each_unit_has}
use Rattle.enc_units.proofs.SmallUnits.{few_locals}
use Rattle.enc_units.proofs.TextTrees.{block_literals, short_block}
use Rattle.enc_units.proofs.TextUnits.{unit_text_fits}
use Rattle.enc_units.proofs.TypedUnits.{unit_is_typed}
use Rattle.enc_units.proofs.UnitCode.{unit_is}
use Rattle.enc_units.proofs.UnitHomeLaws.{held_on}
use Rattle.enc_units.proofs.UnitNames.{name_free, one_unit}

abbrev has_keys : BType → Type 0
has_keys u = AreKeys u.keys

-- ---- locals of names and types

named_both : (xs ys : List (List ℕ)) (vs ws : List BType) → length vs ≡ length xs → named (xs ++ ys) (vs ++ ws) ≡ named xs vs ++ named ys ws
named_both [] ys [] ws same = refl
named_both [] ys (v ∷ vs) ws same = absurd (omega (arith, same))
named_both (x ∷ xs) ys [] ws same = absurd (omega (arith, same))
named_both (x ∷ xs) ys (v ∷ vs) ws same = ap (λ (ls : List Local). record { name = x; ty = v } ∷ ls) (named_both xs ys vs ws (omega (arith, same)))

-- ---- the procedure of a unit

module _ (p : Program) (formed : IsFormed p) (n : ℕ) (u : Unit) (there : slice_get p.units n ≡ Some u) where
  abbrev ts : List BType
  ts = fixed_types p u

  abbrev us : List BType
  us = further_types p u

  many : length ts + length us ≡ length (locals_of_unit p u us)
  many = omega (
    arith,
    length-append (named (fixed_names p u) ts) (temporaries (length ts) us),
    length_named (fixed_names p u) ts (fixed_good p u formed).as_many,
    length-temporaries (length ts) us,
  )

  few : length (ts ++ us) < 2 ^ 60
  few = omega (arith, length-append ts us, few_locals p formed n u there)

  pub procedure_typed : IsTypedProc (unit_procedure p u)
  procedure_typed =
      let piece = unit_is_typed p formed n u there in
      record {
        keys = subst HaveKeys (sym (procedure_types p formed u)) (All-append has_keys ts us (fixed_good p u formed).keyed piece.keys);
        body = subst (λ ls. IsTyped ls (unit_code p u (length ts)).stmts) (sym (procedure_types p formed u)) piece.stmts;
      }

  pub procedure_fits : FitsProc (unit_procedure p u)
  procedure_fits =
      let piece = unit_is_typed p formed n u there in let low = few in
      record {
        name = name_free p formed u (unit_is p formed n u there);
        locals = locals_fit p u us formed piece.keys (omega (arith, low));
        locals_differ = locals_differ p u us formed (omega (arith, low));
        body = subst (λ (n : ℕ). FitStmts n (unit_code p u (length ts)).stmts) many
            (block_fits ts us (unit_code p u (length ts)).stmts piece.stmts (block_literals (unit_code p u (length ts)).stmts (unit_text_fits p formed n u there (length ts))));
      }

  procedure_short : ShortProc (unit_procedure p u)
  procedure_short = record {
    locals =
        let names = local_names (unit_procedure p u).locals in let same = many in
        omega (arith, same, few_locals p formed n u there, fewer names, length-map (unit_procedure p u).locals (λ (l : Local). l.name));
    body = short_block (unit_code p u (length ts)).stmts (unit_text_fits p formed n u there (length ts));
  }

  -- the code has at most 1,495 brackets open at once, and inside its braces 2,048 may be
  procedure_low : proc_depth (unit_procedure p u) ≤ max_unclosed_brackets
  procedure_low = let low : stmts_depth (unit_code p u (length ts)).stmts ≤ top + (1 + max_block_depth) = (each_unit_has brackets top (omega arith) shallow_parts p formed n u there).stmts (length ts) in omega (arith, low)

-- those behind the first ones
abbrev other_names : Program → Unit → List (List ℕ)
other_names p u = state_names p ++ (old_names p ++ (zero_names p ++ names_from (first_other p u) (types_of_others p u)))

-- the first locals of the procedure of a unit are those that an opening sets
of_unit : (p : Program) → IsFormed p → (u : Unit) → IsProcedureOf p u (unit_procedure p u)
of_unit p formed u =
    let others = named (other_names p u) (held_on p u) in let more = temporaries (length (fixed_types p u)) (further_types p u) in
    record {
      named = refl;
      others = others ++ more;
      front = ap (λ (ls : List Local). ls ++ more) (named_both (front_names p u) (other_names p u) (front_types p u) (held_on p u) (front p u formed).as_many) ∙ append_assoc (front_locals p u) others more;
    }

-- ---- the program

map-map : {X Y Z : Type 0} (g : Y → Z) (f : X → Y) (xs : List X) → map g (map f xs) ≡ map (λ x. g (f x)) xs
map-map g f [] = refl
map-map g f (x ∷ xs) = ap (λ ys. g (f x) ∷ ys) (map-map g f xs)

unmapped : {X Y : Type 0} (f : X → Y) (xs : List X) (i : ℕ) (y : Y) → slice_get (map f xs) i ≡ Some y → (x : X) × (slice_get xs i ≡ Some x) × (y ≡ f x)
unmapped f [] i y there = absurd (cc)
unmapped f (x ∷ xs) zero y there = let same : f x ≡ y = cc in (x, refl, sym same)
unmapped f (x ∷ xs) (suc i) y there = unmapped f xs i y there

get_mapped : {X Y : Type 0} (f : X → Y) (xs : List X) (k : ℕ) (x : X) (d : Y) → slice_get xs k ≡ Some x → get_or (map f xs) k d ≡ f x
get_mapped f xs k x d there = get_or_from_slice_get (map f xs) k (f x) d (slice_get-map f xs k ∙ ap (option_map f) there)

module _ (p : Program) (formed : IsFormed p) where
  -- a procedure is that of a unit
  unit_of : (n : ℕ) (d : Proc) → slice_get (program_code p).procs n ≡ Some d → (u : Unit) × (slice_get p.units n ≡ Some u) × (d ≡ unit_procedure p u)
  unit_of n d there = unmapped (unit_procedure p) p.units n d there

  -- what holds of the procedure of each unit holds of each procedure
  each : (P : Proc → Type 0) → ((n : ℕ) (u : Unit) → slice_get p.units n ≡ Some u → P (unit_procedure p u)) → All P (program_code p).procs
  each P h = All-map P (unit_procedure p) p.units (λ k d within. h k _ (slice_get-get_or p.units k d within))

  -- ---- it can be printed, is well-typed, and has not too many brackets

  names_differ : NamesDiffer (proc_names (program_code p).procs)
  names_differ = subst NamesDiffer (sym (map-map (λ (d : Proc). d.name) (unit_procedure p) p.units)) differ
    where
      differ : NamesDiffer (map (unit_name p) p.units)
      differ i j d below within same =
          let long = length-map p.units (unit_name p) in let second : j < length p.units = omega (arith, within, long) in let first : i < length p.units = omega (arith, below, second) in
          let a = item_there p.units i first in let c = item_there p.units j second in
          let here = one_unit p formed i j a.0 c.0 a.1 c.1 (unit_is p formed i a.0 a.1) (unit_is p formed j c.0 c.1) (sym (get_mapped (unit_name p) p.units i a.0 d a.1) ∙ (same ∙ get_mapped (unit_name p) p.units j c.0 d c.1)) in
          omega (arith, below, here)

  pub printable : IsPrintable (program_code p)
  printable = record { procs = each FitsProc (procedure_fits p formed); procs_differ = names_differ }

  program_typed : IsTypedProgram (program_code p)
  program_typed n d there = let of = unit_of n d there in subst IsTypedProc (sym of.2) (procedure_typed p formed n of.0 of.1)

  spelled : BSpells (text_of p) (program_code p)
  spelled = program_spelled (program_code p) printable (each ShortProc (procedure_short p formed))

  all_low : (us : List Unit) → ((n : ℕ) (u : Unit) → slice_get us n ≡ Some u → proc_depth (unit_procedure p u) ≤ max_unclosed_brackets) → procs_depth (map (unit_procedure p) us) ≤ max_unclosed_brackets
  all_low [] low = omega arith
  all_low (u ∷ us) low = let first = low 0 u refl in let rest = all_low us (λ n w there. low (suc n) w there) in omega (arith, first, rest)

  -- ---- its procedures are those of the units

  is_procedure : (n : ℕ) (u : Unit) (d : Proc) → slice_get p.units n ≡ Some u → slice_get (program_code p).procs n ≡ Some d → IsProcedureOf p u d
  is_procedure n u d there written =
      let of = unit_of n d written in let same : of.0 ≡ u = same_Some _ _ (sym of.1 ∙ there) in
      subst (IsProcedureOf p u) (sym (of.2 ∙ ap (unit_procedure p) same)) (of_unit p formed u)

  -- ---- a procedure fails where its unit does

  fails_alike : (n : ℕ) (d : Proc) → slice_get (program_code p).procs n ≡ Some d → (label : Label) → BoogieFails (program_code p) d.name label ↔ ViperFails p n label
  fails_alike n d written label =
      let of = unit_of n d written in let exact = unit_exact p formed of.0 n of.1 label in
      (λ h. exact.0 (procedure_fails n of.0 d of.1 of.2 label h), λ h. boogie_fails n of.0 d written of.2 label (exact.1 h))
    where
      procedure_fails : (n : ℕ) (u : Unit) (d : Proc) → slice_get p.units n ≡ Some u → d ≡ unit_procedure p u → (label : Label) → BoogieFails (program_code p) d.name label → ProcFails (unit_procedure p u) label
      procedure_fails n u d there is label h =
          let of = unit_of h.number h.procedure h.is_there in
          let named : unit_name p of.0 ≡ unit_name p u = ap (λ (e : Proc). e.name) (sym of.2) ∙ (h.is_named ∙ ap (λ (e : Proc). e.name) is) in
          let number = one_unit p formed h.number n of.0 u of.1 there (unit_is p formed h.number of.0 of.1) (unit_is p formed n u there) named in
          let unit : of.0 ≡ u = same_Some _ _ (sym of.1 ∙ (ap (slice_get p.units) number ∙ there)) in
          subst (λ (e : Proc). ProcFails e label) (of.2 ∙ ap (unit_procedure p) unit) h.fails

      boogie_fails : (n : ℕ) (u : Unit) (d : Proc) → slice_get (program_code p).procs n ≡ Some d → d ≡ unit_procedure p u → (label : Label) → ProcFails (unit_procedure p u) label → BoogieFails (program_code p) d.name label
      boogie_fails n u d written is label h = record {
        number = n;
        procedure = d;
        is_there = written;
        is_named = refl;
        fails = subst (λ (e : Proc). ProcFails e label) (sym is) h;
      }

  -- ---- what is promised

  pub translates : Translates p (text_of p)
  translates = record {
    boogie = program_code p;
    spelled = spelled;
    only = λ other h. one_program (text_of p) other (program_code p) h spelled;
    brackets = shallow spelled.tokens (program_code p) spelled.spells (all_low p.units (procedure_low p formed));
    typed = program_typed;
    never_wrong = never_wrong (program_code p) program_typed;
    as_many = length-map p.units (unit_procedure p);
    procedures = is_procedure;
    exact = fails_alike;
    transfers = λ n d written o choices events left label opens in_bound reduced within is bound.
        let of = unit_of n d written in
        subst (λ (e : Proc). brun_proc bound e (started (b.types_of e) (front_values o)) (moves events) ≡ Stops (Failed label) []) (sym of.2)
        (unit_transfers p formed of.0 n of.1 o choices events left label opens in_bound reduced within is bound);
  }
