use mathlib.Core.Path.{◌≡◌, subst}
use Prim.Native.Nat.{ℕ}
use native.Mathlib.Omega.{arith}
use lib.ListN.{length}
use Rattle.account.specs.rules.Calls.{world}
use Rattle.scripts.specs.rules.Scripts.{script_of, outputs, memory}
use Rattle.scripts.proofs.PlayLaws.{Going, same-scratch, going-none, going_more, going-all}
use Rattle.scripts.proofs.playing.play.Goals as goal

pub loop-i-init : goal.loop-i-init
loop-i-init c =
    let a = c.args in
    let s = script_of a.script.now a.floats.now a.bytes.now (length a.scratch.now) in
    let m = memory (world a.store.now a.ink.now a.kinds.now) (outputs a.words.now a.gray.now a.integers.now a.numbers.now) in
    going-none s m a.log.now

pub loop-i-preserved : goal.loop-i-preserved
loop-i-preserved c =
    let a = c.args in
    let l = c.loop-i in
    let s = script_of a.script.now a.floats.now a.bytes.now (length a.scratch.now) in
    let m = memory (world a.store.now a.ink.now a.kinds.now) (outputs a.words.now a.gray.now a.integers.now a.numbers.now) in
    going_more s m a.log.now (λ k. c.type_inv.floats k) l.i (memory (world l.store l.ink l.kinds) (outputs l.words l.gray l.integers l.numbers)) l.log l.invariant _ _ _ (same-scratch l.auto.scratch c.nth-r.ensures) (λ j. record { store = l.auto.store j; ink = l.auto.ink j; kinds = l.auto.kinds j }) (omega arith)

pub returns : goal.returns
returns c =
    let a = c.args in
    let l = c.loop-i in
    let s = script_of a.script.now a.floats.now a.bytes.now (length a.scratch.now) in
    let m = memory (world a.store.now a.ink.now a.kinds.now) (outputs a.words.now a.gray.now a.integers.now a.numbers.now) in
    let e : l.i ≡ c.min-n.result = omega arith in
    going-all s m a.log.now c.min-n.result (memory (world l.store l.ink l.kinds) (outputs l.words l.gray l.integers l.numbers)) l.log (length l.scratch) (omega arith) l.auto.scratch
    (subst (λ (r : ℕ). Going s m a.log.now r (memory (world l.store l.ink l.kinds) (outputs l.words l.gray l.integers l.numbers)) l.log) e l.invariant)
