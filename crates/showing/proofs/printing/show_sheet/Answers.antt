use mathlib.Core.Path.{refl}
use lib.Ieee.{of_bits, of_int}
use Rattle.showing.proofs.printing.show_sheet.Goals as goal

-- The literals of the code are the sheet's numbers, computed.

pub returns : goal.returns
unfolding of_bits of_int
returns c = refl
