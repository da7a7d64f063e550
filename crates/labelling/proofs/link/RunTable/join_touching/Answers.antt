use native.Mathlib.Omega.{arith}
use mathlib.Core.Path.{refl, sym, subst}
use mathlib.Core.List.{List}
use lib.ListN.{length, get_or}
use Prim.Native.Nat.{ℕ, ◌+◌, ◌*◌, ◌≤◌, ◌<◌, max}
use Rattle.memory.proofs.PartLaws.{tail-part, tail-put}
use Rattle.union_find.specs.stages.Forests.{Joined}
use Rattle.labelling.proofs.RunLinkLaws.{Sweep, kept_word, sweep-first, sweep-asks, sweep-more, sweep-stop, sweep-end}
use Rattle.labelling.proofs.link.RunTable.join_touching.Goals as goal

pub loop-k-init : goal.loop-k-init
loop-k-init c = sweep-first c.requires.0 c.requires.1 (omega (arith, c.requires.2, c.requires.3)) _ refl

pub returns-then-end-words : goal.returns-then-end-words
returns-then-end-words c = let v = c.loop-k.invariant in let u = c.requires.0.under in let lk = c.loop-k-test.true in sweep-stop v lk (omega (arith, c.if-end-words.true, c.requires.3, kept_word v.asks.list v.kept (2 * c.loop-k.k) (omega arith)))

pub join-member-requires : goal.join-member-requires
join-member-requires c = subst (λ (p : List ℕ). (c.loop-k.k < length p) × (c.loop-k.member < length p) × (c.loop-k.k < 4294967296) × (c.loop-k.member < 4294967296) × ((i : ℕ) → i ≤ max c.loop-k.member c.loop-k.k → get_or p i 0 ≤ i)) (sym (tail-part c.args.self.parents c.loop-k.words)) (sweep-asks c.loop-k.invariant c.loop-k-test.true)

pub loop-k-preserved : goal.loop-k-preserved
loop-k-preserved c = let v = c.loop-k.invariant in let u = c.requires.0.under in let lk = c.loop-k-test.true in
    subst (λ (z : List ℕ). Sweep c.args.self.w c.args.self.c c.args.self.parents c.args.words.now z c.args.first c.args.to c.args.j (c.loop-k.k + 1) c.join-member.result) (sym (tail-put c.args.self.parents c.loop-k.words c.join-member.new.parents))
    (sweep-more v lk (omega (arith, c.if-end-words.false, c.requires.3, kept_word v.asks.list v.kept (2 * c.loop-k.k) (omega arith))) c.join-member.new.parents c.join-member.result
    (subst (λ (p : List ℕ). Joined p c.join-member.new.parents c.loop-k.member c.loop-k.k c.join-member.result) (tail-part c.args.self.parents c.loop-k.words) c.join-member.ensures))

pub returns : goal.returns
returns c = sweep-end c.loop-k.invariant c.loop-k-test.false
