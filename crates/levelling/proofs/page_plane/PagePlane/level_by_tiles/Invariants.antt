use Prim.Native.Nat.{◌*◌, min}
use Rattle.levelling.specs.stages.Held.{frame_moved}
use Rattle.levelling.proofs.TileLaws.{Tiled}
use Rattle.levelling.proofs.page_plane.PagePlane.level_by_tiles.Given as goal

abbrev pub invariant-loop-tile : goal.invariant-loop-tile
invariant-loop-tile l = Tiled (frame_moved l.self) l.self.fill l.self.page.now l.initial.out l.out (min (l.tile * 1024) l.page_w)
