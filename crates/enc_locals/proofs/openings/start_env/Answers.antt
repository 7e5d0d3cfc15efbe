use Rattle.enc_locals.proofs.FilledLaws.{heaps_tidy, contents_tidy}
use Rattle.enc_locals.proofs.openings.start_env.Goals as goal

pub front_values-requires-clause-heaps : goal.front_values-requires-clause-heaps
front_values-requires-clause-heaps c = heaps_tidy _ _ c.requires.opens.fits.memo.heap

pub front_values-requires-clause-contents : goal.front_values-requires-clause-contents
front_values-requires-clause-contents c = contents_tidy _ _ c.requires.opens.fits.memo.content
