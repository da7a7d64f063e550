use Rattle.memory.proofs.PlaneLaws.{product-fits}
use Rattle.memory.proofs.numbers.area.Goals as goal

pub overflow_mul-result : goal.overflow_mul-result
overflow_mul-result c = record { fits = product-fits c.args.width c.args.height c.ranges.width.fits c.ranges.height.fits }
