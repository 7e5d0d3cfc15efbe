use Rattle.search_models.proofs.contents.+content_of.Given as goal

abbrev pub decreases-content_of : goal.decreases-content_of
decreases-content_of l = l.depth
