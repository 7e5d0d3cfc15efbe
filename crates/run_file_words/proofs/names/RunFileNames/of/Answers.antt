use Rattle.std.proofs.Common.{◌∙◌, []}
use Rattle.std.proofs.lemmas.List.{get_or_read}
use Rattle.run_file_words.proofs.NameTables.{one_more_name}
use Rattle.run_file_words.proofs.names.RunFileNames.of.Goals as goal

pub loop-name-preserved : goal.loop-name-preserved
loop-name-preserved c =
    let is = get_or_read c.args.names.now c.loop-name.name-index c.name-item.result c.loop-name-test.true c.name-item.is [] in
    c.in_ok-add.ensures.ok ∙ one_more_name c.args.names.now c.loop-name.known c.loop-name.name-index c.in_ok-copy.field-0 c.requires c.loop-name-test.true c.loop-name.invariant (c.in_ok-copy.ensures ∙ is)
