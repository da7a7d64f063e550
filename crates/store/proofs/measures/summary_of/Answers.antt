use Rattle.store.proofs.LineReads.{summary-by}
use Rattle.store.proofs.measures.summary_of.Goals as goal

-- `store::measures::summary_of` meets its contract. Assumes nothing.

pub returns : goal.returns
returns c = summary-by c.args.store.now c.summarize.result c.float_at-unit.result c.float_at-skew.result c.pitch_read-pitch.result c.height_read-height.result c.float_at-unit.ensures c.float_at-skew.ensures c.pitch_read-pitch.ensures c.height_read-height.ensures c.summarize.ensures
