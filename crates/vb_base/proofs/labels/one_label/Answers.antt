use Rattle.vb_base.proofs.Fronts as fronts
use Rattle.vb_base.proofs.labels.one_label.Goals as goal

pub returns : goal.returns
returns c = λ bytes a b h k. fronts.one_label h k
