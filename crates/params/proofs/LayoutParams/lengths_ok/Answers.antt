use Rattle.params.proofs.LayoutParams.lengths_ok.Goals as goal

pub returns : goal.returns
returns c = cc
