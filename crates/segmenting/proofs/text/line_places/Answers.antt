use native.Mathlib.Omega.{arith}
use Prim.Native.Nat.{◌+◌, ◌*◌}
use mathlib.Core.Path.{◌≡◌}
use Rattle.sorting.specs.stages.Scratch.{horizontal_at}
use Rattle.segmenting.proofs.text.line_places.Goals as goal

pub returns : goal.returns
returns c =
    let a = c.args in
    let K = c.requires.1 in
    let next : a.plan.vertical + a.plan.capacity ≡ horizontal_at (a.plan.width * a.plan.height) + 3 * a.plan.capacity = omega arith in
    λ i. record {
      order = K.horizontal_is i;
      smoothed = K.smears_is i;
      glyphs = K.glyphs_is i;
      smears = a.smears;
      sizes = K.sizes_is i;
      kinds = K.kinds_is i;
      count = a.component_count;
      heads = K.horizontal_is i + a.plan.capacity;
      nexts = next i;
      heights = 0;
      values = a.plan.height + 1;
    }
