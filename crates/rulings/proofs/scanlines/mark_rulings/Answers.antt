use native.Mathlib.Omega.{arith}
use mathlib.Core.Path.{◌≡◌, refl, sym, subst, ◌∙◌}
use Prim.Native.Nat.{◌+◌, ◌*◌, ◌-◌, ◌≤◌}
use borrow.Rule.Slice.PartMut.{put_mid}
use lib.ListN.{length, drop, length-drop}
use Rattle.rulings.specs.declared.plane.Sweep.{Sweep}
use Rattle.rulings.specs.stages.Sweeps.{sweep_down, is_ruling, Laid, Marked, Unmarked, UpTo}
use Rattle.rulings.proofs.SweepLaws.{fit-down, fit-across, unmarked-all, marks-cleared, marked-small, rulings-marked, blank-down, blank-across}
use Rattle.rulings.proofs.ColumnLaws.{up-to-all}
use Rattle.rulings.proofs.scanlines.mark_rulings.Goals as goal

pub overflow_add-end : goal.overflow_add-end
overflow_add-end c = let p = c.requires.0 in omega (arith, c.area.ensures, p.plane.room, p.before)

pub offset_bounds-words-marks : goal.offset_bounds-words-marks
offset_bounds-words-marks c = let p = c.requires.0 in omega (arith, c.area.ensures, p.plane.room, p.before)

pub slice_bounds-fill-count : goal.slice_bounds-fill-count
slice_bounds-fill-count c = let p = c.requires.0 in omega (arith, c.area.ensures, p.plane.room, p.before)

pub slice_bounds-fill-start : goal.slice_bounds-fill-start
slice_bounds-fill-start c = let p = c.requires.0 in omega (arith, c.area.ensures, p.plane.room, p.before)

pub slice_bounds-fill-end : goal.slice_bounds-fill-end
slice_bounds-fill-end c = let p = c.requires.0 in omega (arith, c.area.ensures, p.plane.room, p.before)

pub invariant_of-columns : goal.invariant_of-columns
invariant_of-columns c =
    let a = c.args in
    record { laid = subst (λ (g : Sweep). Laid g (length a.ink.now)) (sym c.down.ensures) (fit-down a.width a.height _ _ c.requires.0.plane) }

pub invariant_of-rows : goal.invariant_of-rows
invariant_of-rows c =
    let a = c.args in
    record { laid = subst (λ (g : Sweep). Laid g (length a.ink.now)) (sym c.across.ensures) (fit-across a.width a.height _ _ c.requires.0.plane) }

pub mark_columns-vertical-requires : goal.mark_columns-vertical-requires
mark_columns-vertical-requires c =
    let a = c.args in
    let p = c.requires.0 in
    let f = marks-cleared a.marks c.area.result (a.width * a.height) a.words.now c.fill.new.dst c.area.ensures p.plane.room p.before c.fill.ensures in
    let L = fit-down a.width a.height _ _ p.plane in
    subst (λ (g : Sweep). (g.across ≡ 1) × (UpTo g (length a.ink.now) (drop a.marks (put_mid a.marks (a.marks + c.area.result - a.marks) a.words.now c.fill.new.dst)) 2) × (a.marks ≤ length (put_mid a.marks (a.marks + c.area.result - a.marks) a.words.now c.fill.new.dst))) (sym c.down.ensures) (
      refl,
      up-to-all (sweep_down a.width a.height) (length a.ink.now) 2 _ L (omega (arith, f.room, p.plane.dots)) (λ k l. omega (arith, f.zeros k (omega (arith, p.plane.dots)))),
      omega (arith, f.size, p.before),
    )

pub mark_scanlines-horizontal-requires : goal.mark_scanlines-horizontal-requires
mark_scanlines-horizontal-requires c =
    let a = c.args in
    let p = c.requires.0 in
    let f = marks-cleared a.marks c.area.result (a.width * a.height) a.words.now c.fill.new.dst c.area.ensures p.plane.room p.before c.fill.ensures in
    let L = fit-across a.width a.height _ _ p.plane in
    let A = subst (λ (g : Sweep). Marked g (length a.ink.now) (is_ruling g a.ink.now a.run_min a.thick_max) 2 (drop a.marks (put_mid a.marks (a.marks + c.area.result - a.marks) a.words.now c.fill.new.dst)) (drop a.marks c.mark_columns-vertical.new.words) 0 (g.outer * g.inner)) c.down.ensures c.mark_columns-vertical.ensures.0 in
    subst (λ (g : Sweep). (Unmarked g (length a.ink.now) (drop a.marks c.mark_columns-vertical.new.words) 0) × (a.marks ≤ length c.mark_columns-vertical.new.words)) (sym c.across.ensures) (
      unmarked-all _ (length a.ink.now) (drop a.marks c.mark_columns-vertical.new.words) L (omega (arith, A.size, f.room, p.plane.dots)) (marked-small a.run_min a.thick_max a.width a.height a.ink.now p.plane.wide p.plane.dots _ (drop a.marks c.mark_columns-vertical.new.words) f.zeros A),
      omega (arith, c.words-2-1.given, f.size, p.before),
    )

pub returns : goal.returns
returns c =
    let a = c.args in
    let p = c.requires.0 in
    let f = marks-cleared a.marks c.area.result (a.width * a.height) a.words.now c.fill.new.dst c.area.ensures p.plane.room p.before c.fill.ensures in
    let A = subst (λ (g : Sweep). Marked g (length a.ink.now) (is_ruling g a.ink.now a.run_min a.thick_max) 2 (drop a.marks (put_mid a.marks (a.marks + c.area.result - a.marks) a.words.now c.fill.new.dst)) (drop a.marks c.mark_columns-vertical.new.words) 0 (g.outer * g.inner)) c.down.ensures c.mark_columns-vertical.ensures.0 in
    let B = subst (λ (g : Sweep). Marked g (length a.ink.now) (is_ruling g a.ink.now a.run_min a.thick_max) 1 (drop a.marks c.mark_columns-vertical.new.words) (drop a.marks c.mark_scanlines-horizontal.new.words) 0 (g.outer * g.inner)) c.across.ensures c.mark_scanlines-horizontal.ensures.0 in
    record {
      len = c.words-3-1.given ∙ (c.words-2-1.given ∙ f.size);
      marked = rulings-marked a.run_min a.thick_max a.width a.height a.ink.now p.plane.wide p.plane.dots (drop a.marks a.words.now) _ (drop a.marks c.mark_columns-vertical.new.words) (drop a.marks c.mark_scanlines-horizontal.new.words) (omega (arith, p.plane.room, length-drop a.marks a.words.now)) f.behind f.zeros f.past A B;
      no_horizontal = λ e. blank-across a.run_min a.thick_max a.width a.height a.ink.now p.plane.wide p.plane.dots _ _ B (c.mark_scanlines-horizontal.ensures.1 e);
      no_vertical = λ e. blank-down a.run_min a.thick_max a.width a.height a.ink.now p.plane.wide p.plane.dots _ _ A (c.mark_columns-vertical.ensures.1 e);
    }
