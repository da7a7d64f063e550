use borrow.Author.Rules.{rules}
use Prim.Native.Nat.{◌-◌, ◌*◌}
use mathlib.Core.Path.{◌≡◌, refl}
use native.Mathlib.Omega.{arith}
use Rattle.segmenting.proofs.PutLaws.{part_length}
use Rattle.segmenting.specs.rules.Results.{lines_at, blocks_at}
use Rattle.segmenting.proofs.ResultLaws.{blocks-ask, found-is, columns-ask, groups-left}
use Rattle.segmenting.proofs.groups.write_groups.Goals as goal

pub blocks-found-requires : goal.blocks-found-requires
blocks-found-requires c =
    let a = c.args in let G = c.requires.2 in let J = c.requires.3 in
    let k = part_length (lines_at a.plan.width a.plan.capacity) a.results.now in let e = G.count in let f = G.few in let r = G.room in
    rw (J.lines_is, J.blocks_is) (blocks-ask G, omega arith, omega arith)

pub columns-across-requires : goal.columns-across-requires
columns-across-requires c =
    let a = c.args in let G = c.requires.2 in let J = c.requires.3 in
    let d : blocks_at a.plan.width a.plan.capacity - lines_at a.plan.width a.plan.capacity ≡ 8 * a.plan.capacity = omega arith in let E = rw (J.lines_is, J.blocks_is, d) at c.blocks-found.ensures in
    let r = G.room in let e = G.count in let f = G.few in let k = G.capacity in
    let long = rw J.lines_is at c.results-1.given.1 in
    rw J.lines_is ((a.plan.height, columns-ask G a.sheet a.unit c.blocks-found.new.words c.blocks-found.result E.0 E.1 _ refl long), omega arith, omega arith, search rules, search rules, omega arith)

pub returns : goal.returns
returns c =
    λ ls before G.
    let a = c.args in let J = c.requires.3 in
    let d : blocks_at a.plan.width a.plan.capacity - lines_at a.plan.width a.plan.capacity ≡ 8 * a.plan.capacity = omega arith in let E = rw (J.lines_is, J.blocks_is, d) at c.blocks-found.ensures in
    let long = rw J.lines_is at c.results-1.given.1 in
    let X = rw J.lines_is at c.columns-across.ensures in
    let L = groups-left G a.sheet a.unit c.blocks-found.new.words c.blocks-found.result E.0 E.1 _ refl long c.columns-across.new.results c.columns-across.result X.0 X.1 in
    (found-is G a.sheet a.unit c.blocks-found.new.words c.blocks-found.result E.0 E.1, L.0, L.1)
