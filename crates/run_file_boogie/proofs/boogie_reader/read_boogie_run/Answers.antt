use Rattle.std.proofs.Common.{◌∙◌, ap, sym, subst}
use Rattle.vb_base.specs.Names.{NamesDiffer}
use Rattle.boogie_tree.specs.Whole.{proc_of, locals_of}
use Rattle.run_file_boogie.specs.BoogieLines.{known}
use Rattle.run_file_boogie.proofs.BoogieFileLaws.{proc_answered}
use Rattle.run_file_boogie.proofs.boogie_reader.read_boogie_run.Goals as goal

pub local_names-requires : goal.local_names-requires
local_names-requires c = subst (λ ls. NamesDiffer (known (locals_of ls)).names) (sym c.deref.ensures.value) c.requires.names

pub returns : goal.returns
returns c =
    let names = c.in_ok-names.ensures ∙ ap (λ ls. (known (locals_of ls)).names) c.deref.ensures.value in
    let answered =
    proc_answered c.args.bytes.now (proc_of c.args.proc.now) _ c.read_lines.result c.requires.names
    (λ i. record { names = names i; types = (known (locals_of (c.deref-2.ensures.value i))).types })
    c.read_lines.ensures
    in
    record { run = answered.run; fault = answered.fault; only_run = answered.only_run; only_place = answered.only_place }
