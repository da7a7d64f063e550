use native.Mathlib.Omega.{arith}
use Prim.Native.Nat.{◌+◌, ◌*◌}
use lib.Seq.{get_or-take}
use Rattle.labelling.proofs.RunLinkLaws.{none_above, none_left, first-down, sweep-kin, sweep-stop, sweep-end}
use Rattle.labelling.proofs.link.RunTable.parent_of.Goals as goal

pub returns-then-to-first : goal.returns-then-to-first
returns-then-to-first c = none_above c.requires.0 c.if-to-first.true

pub returns-then-end-words : goal.returns-then-end-words
returns-then-end-words c = let u = c.requires.0.under in let lk = c.if-to-first.false in none_left c.requires.0 lk (omega (arith, c.if-end-words.true, c.requires.1, get_or-take (2 * c.args.self.c) c.args.words.now (2 * c.args.first) 0 (omega arith)))

pub near_parent-requires : goal.near_parent-requires
near_parent-requires c = let lk = c.if-to-first.false in (omega (arith, c.requires.0.list.few, c.requires.0.list.room, c.requires.0.under.high, c.requires.0.under.mid), first-down c.requires.0 lk)

pub returns-then-to-next : goal.returns-then-to-next
returns-then-to-next c = let u = c.requires.0.under in let lk = c.if-to-first.false in sweep-end (sweep-kin c.requires.0 lk (omega (arith, c.if-end-words.false, c.requires.1, get_or-take (2 * c.args.self.c) c.args.words.now (2 * c.args.first) 0 (omega arith))) c.near_parent.result c.near_parent.ensures) c.if-to-next.true

pub near_parent-requires-then-end-words-2 : goal.near_parent-requires-then-end-words-2
near_parent-requires-then-end-words-2 c = let lk = c.if-to-first.false in (omega (arith, c.requires.0.list.few, c.requires.0.list.room, c.requires.0.under.high, c.requires.0.under.mid), first-down c.requires.0 lk)

pub returns-then-end-words-2 : goal.returns-then-end-words-2
returns-then-end-words-2 c = let u = c.requires.0.under in let lk = c.if-to-first.false in let ln = c.if-to-next.false in sweep-stop (sweep-kin c.requires.0 lk (omega (arith, c.if-end-words.false, c.requires.1, get_or-take (2 * c.args.self.c) c.args.words.now (2 * c.args.first) 0 (omega arith))) c.near_parent-then-end-words-2.result c.near_parent-then-end-words-2.ensures) (omega arith) (omega (arith, c.if-end-words-2.true, c.requires.1, get_or-take (2 * c.args.self.c) c.args.words.now (2 * (c.args.first + 1)) 0 (omega arith)))
