use Rattle.cert_linear.proofs.constants.+constant.Given as goal

abbrev pub decreases-constant : goal.decreases-constant
decreases-constant l = l.depth
