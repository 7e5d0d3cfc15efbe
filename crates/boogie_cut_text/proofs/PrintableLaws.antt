-- What is written for a program can be printed where its names are free and differ and its literals can be spelled.
use Rattle.std.proofs.Common.{◌≡◌, ◌≢◌, ◌<◌, ◌^◌, ℕ, suc, Option, Some, None, List, [], ◌∷◌, map, length, length-append, filter, All, slice_get, sym, ap, subst, ◌∙◌, arith}
use Rattle.std.specs.List.{cons_option}
use Rattle.std.specs.Option.{option_map}
use Rattle.std.proofs.lemmas.List.{length-map}
use Rattle.std.proofs.lemmas.List.Elements.{All-nil, All-cons, All-head, All-tail, All-append}
use Rattle.std.proofs.lemmas.List.Kept.{AllPairs-cons}
use Rattle.lemmas.proofs.Lists.{each_there}
use Rattle.vb_base.specs.Names.{NamesDiffer}
use Rattle.boogie_tree.specs.Program.{BType, Local, Proc}
use Rattle.boogie_tree.specs.Fits.{FitStmts}
use Rattle.boogie_tree.specs.Values.{AreKeys}
use Rattle.boogie_meaning.specs.Programs.{types_of, HaveKeys}
use Rattle.boogie_meaning.proofs.FitsLaws.{statements_fit}
use Rattle.boogie_grammar.specs.Grammar.{proc_names}
use Rattle.boogie_print.specs.Printable.{IsFreeName, FitsLocal, FitsProc, IsPrintable}
use Rattle.boogie_loops.specs.Wide as w
use Rattle.boogie_loops.specs.Wide.{WProc, WProgram}
use Rattle.boogie_loops.specs.Conditions.{variable_names, procedure_names, HasNames, BodyLiteralsFit, ProcLiteralsFit}
use Rattle.boogie_loops.specs.Procedures.{wide_types}
use Rattle.boogie_loops.specs.WideTypes.{IsWide, IsWideBody, IsWideProc}
use Rattle.boogie_cut.specs.Cut.{cut, cut_proc, cut_procs, cut_program}
use Rattle.boogie_cut.specs.Fresh.{fresh_locals, is_a}
use Rattle.boogie_cut_text.specs.Printable.{IsPrintableWide, AreFewLocals}
use Rattle.boogie_cut_text.proofs.LiteralLaws.{body_fits}
use Rattle.boogie_cut_text.proofs.NameLaws.{fewer, fresh_fit, all_differ, small_numbers}
use Rattle.boogie_cut.proofs.TypedLaws.{types_of_fresh, block_keys, proc_typed}

locals_fit : (ls : List Local) → All IsFreeName (map (λ (l : Local). l.name) ls) → HaveKeys (map (λ (l : Local). l.ty) ls) → All FitsLocal ls
locals_fit [] h k = All-nil FitsLocal
locals_fit (l ∷ ls) h k = All-cons FitsLocal l ls
    (record { name = All-head IsFreeName l.name (map (λ (x : Local). x.name) ls) h; keys = All-head (λ (u : BType). AreKeys u.keys) l.ty (map (λ (x : Local). x.ty) ls) k })
    (locals_fit ls (All-tail IsFreeName l.name (map (λ (x : Local). x.name) ls) h) (All-tail (λ (u : BType). AreKeys u.keys) l.ty (map (λ (x : Local). x.ty) ls) k))

-- what is said of one procedure
record Fits (ps : List WProc) (d : WProc) : Type 0 where
  typed : IsWideProc ps d
  free : HasNames IsFreeName d
  literals : ProcLiteralsFit d
  differ : NamesDiffer (variable_names d)

module _ (ps : List WProc) (typed : (n : ℕ) (d : WProc) → slice_get ps n ≡ Some d → IsWideProc ps d) (fit : All ProcLiteralsFit ps) where
  proc_fits : (d : WProc) (body : w.WStmts) → Fits ps d → IsWide ps (wide_types d) d.params body → BodyLiteralsFit (Some body) → length (cut_proc ps d body).locals < 2 ^ 64 →
      FitsProc (cut_proc ps d body)
  proc_fits d body h body_typed literals few =
      let p = cut_proc ps d body in
      let a = cut ps (wide_types d) body (length d.locals) in
      let taken = filter is_a (variable_names d) in
      let fresh = fresh_locals taken 0 a.locals in
      let both = length-append d.locals fresh in
      let long : length a.locals ≡ length fresh = sym (ap length (types_of_fresh taken 0 a.locals)) ∙ length-map fresh (λ (l : Local). l.ty) in
      let names = length-map d.locals (λ (l : Local). l.name) in
      let less = fewer (variable_names d) in
      let small = small_numbers (length a.locals) (length taken) (omega (arith, few, both, long)) (omega (arith, few, both, names, less)) in
      let as_many : length (types_of p) ≡ length p.locals = length-map p.locals (λ (l : Local). l.ty) in
      let p_typed = proc_typed ps typed d body h.typed body_typed in
      record {
        name = h.free.name;
        locals = All-append FitsLocal d.locals fresh (locals_fit d.locals h.free.variables h.typed.keys)
            (fresh_fit taken 0 a.locals small (block_keys ps (wide_types d) d.params (length d.locals) body_typed));
        locals_differ = all_differ d.locals a.locals small h.differ;
        body = subst (λ n. FitStmts n p.body) as_many (statements_fit (types_of p) p.body p_typed.body (body_fits ps fit (wide_types d) d body (length d.locals) h.literals literals));
      }

  abbrev Few : Proc → Type 0
  Few p = length p.locals < 2 ^ 64

  procs_fit : (ds : List WProc) → All (Fits ps) ds → All Few (cut_procs ps ds) → All FitsProc (cut_procs ps ds)
  procs_fit [] h few = All-nil FitsProc
  procs_fit (d ∷ ds) h few = at d.body head.typed.body head.literals.body few (λ rest. procs_fit ds (All-tail (Fits ps) d ds h) rest)
    where
      head : Fits ps d
      head = All-head (Fits ps) d ds h

      at : (o : Option w.WStmts) → IsWideBody ps (wide_types d) d.params o → BodyLiteralsFit o → All Few (cons_option (option_map (cut_proc ps d) o) (cut_procs ps ds)) →
          (All Few (cut_procs ps ds) → All FitsProc (cut_procs ps ds)) → All FitsProc (cons_option (option_map (cut_proc ps d) o) (cut_procs ps ds))
      at None body literals less rest = rest less
      at (Some xs) body literals less rest = All-cons FitsProc (cut_proc ps d xs) (cut_procs ps ds)
          (proc_fits d xs head body literals (All-head Few (cut_proc ps d xs) (cut_procs ps ds) less))
          (rest (All-tail Few (cut_proc ps d xs) (cut_procs ps ds) less))

-- ---- the names of procedures

module _ (ps : List WProc) where
  names_kept : (P : List ℕ → Type 0) (ds : List WProc) → All P (procedure_names ds) → All P (proc_names (cut_procs ps ds))
  names_kept P [] h = All-nil P
  names_kept P (d ∷ ds) h = at d.body (names_kept P ds (All-tail P d.name (procedure_names ds) h))
    where
      at : (o : Option w.WStmts) → All P (proc_names (cut_procs ps ds)) → All P (proc_names (cons_option (option_map (cut_proc ps d) o) (cut_procs ps ds)))
      at None rest = rest
      at (Some xs) rest = All-cons P d.name (proc_names (cut_procs ps ds)) (All-head P d.name (procedure_names ds) h) rest

  names_differ : (ds : List WProc) → NamesDiffer (procedure_names ds) → NamesDiffer (proc_names (cut_procs ps ds))
  names_differ [] h = λ i j d below within. absurd (omega (arith, within))
  names_differ (d ∷ ds) h = at d.body (names_differ ds (λ i j x below within. h (suc i) (suc j) x (omega (arith, below)) (omega (arith, within))))
    where
      at : (o : Option w.WStmts) → NamesDiffer (proc_names (cut_procs ps ds)) → NamesDiffer (proc_names (cons_option (option_map (cut_proc ps d) o) (cut_procs ps ds)))
      at None rest = rest
      at (Some xs) rest = AllPairs-cons (λ x y. x ≢ y) d.name (proc_names (cut_procs ps ds))
          (names_kept (λ y. d.name ≢ y) ds (λ k x within. h 0 (suc k) x (omega arith) (omega (arith, within)))) rest

all_fit : (ps ds : List WProc) → All (IsWideProc ps) ds → All (HasNames IsFreeName) ds → All ProcLiteralsFit ds → All (λ d. NamesDiffer (variable_names d)) ds → All (Fits ps) ds
all_fit ps ds typed free literals differ k d within = record { typed = typed k d within; free = free k d within; literals = literals k d within; differ = differ k d within }

pub printable : (program : WProgram) → IsPrintableWide program → AreFewLocals (cut_program program) → IsPrintable (cut_program program)
printable program h few =
    let ps = program.procs in
    record {
      procs = procs_fit ps h.typed h.literals ps (all_fit ps ps (each_there (IsWideProc ps) ps h.typed) h.free h.literals h.apart.variables) few;
      procs_differ = names_differ ps ps h.apart.procedures;
    }
