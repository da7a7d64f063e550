use Rattle.listing.proofs.DigitLaws.{length-hex}
use Rattle.listing.proofs.SheetLaws.{refusal-put}
use native.Mathlib.Omega.{arith}
use Rattle.listing.proofs.digits.put_refusal.Goals as goal

pub put_hex-q-requires : goal.put_hex-q-requires
put_hex-q-requires c = let l = length-hex 2 255 in omega (arith, c.put_hex-p.auto.out, c.put_hex-p.ensures.place)

pub bounds-out-q : goal.bounds-out-q
bounds-out-q c = let l = length-hex 2 255 in let m = length-hex 2 c.args.number in omega (arith, c.put_hex-q.auto.out, c.put_hex-q.ensures.place, c.put_hex-p.auto.out, c.put_hex-p.ensures.place)

pub overflow_add-result : goal.overflow_add-result
overflow_add-result c = let l = length-hex 2 255 in let m = length-hex 2 c.args.number in omega (arith, c.put_hex-q.ensures.place, c.put_hex-p.ensures.place)

pub returns : goal.returns
returns c = refusal-put c.args.out.now c.put_hex-p.new.out c.put_hex-q.new.out c.args.number c.put_hex-p.result c.put_hex-q.result c.requires c.put_hex-p.ensures c.put_hex-q.ensures
