-- What scratch holds stays while other words change, and gives what the functions ask.
use mathlib.Core.Path.{◌≡◌, sym, ap, ◌∙◌}
use mathlib.Core.List.{List, map}
use Prim.Native.Nat.{ℕ, suc, ◌+◌, ◌*◌, ◌≤◌, ◌<◌}
use native.Mathlib.Omega.{arith}
use lib.Ieee.{Float}
use lib.ListN.{get_or, length}
use Rattle.memory.specs.rules.Lists.{table, occurs}
use Rattle.memory.proofs.TableLaws.{table-ext}
use Rattle.labelling.specs.rules.Components.{no_dots}
use Rattle.labelling.specs.stages.Sizes.{HoldsSizes}
use Rattle.labelling.specs.declared.component.Component.{Component}
use Rattle.params.specs.declared.LayoutParams.{LayoutParams}
use Rattle.smoothing.specs.rules.Lines.{LabelledGlyph}
use Rattle.memory.specs.stages.Stored.{Stored}
use Rattle.smoothing.specs.stages.LineWords.{glyphs_of, labels_at, line_smears, ordered_smear, OrderedLines, area_at, own_glyphs, KeptFrom, HoldsGlyphs, HoldsSmears}
use Rattle.memory.proofs.ListLaws.{each_at, map-table}
use Rattle.smoothing.proofs.SmearLaws.{smears-low}
use Rattle.smoothing.proofs.LineLaws.{held-area, held_kept, counts-are, own-count}
use Rattle.smoothing.proofs.LineRecords.{whole}

-- the areas in scratch are those of the components
pub areas-are : (cs : List Component) (s : List ℕ) (sizes : ℕ) → HoldsSizes cs s sizes → table (area_at s sizes) (length cs) ≡ map (λ (c : Component). c.area) cs
areas-are cs s sizes held =
    table-ext (area_at s sizes) (λ k. (get_or cs k no_dots).area) (length cs) (λ k l. held-area cs s sizes held k l)
    ∙ (sym (map-table (λ (c : Component). c.area) (λ k. get_or cs k no_dots) (length cs)) ∙ ap (map (λ (c : Component). c.area)) (whole cs no_dots))

-- glyphs and smoothed components stay while only words before them change
pub glyphs-kept : (cs : List Component) (ks : List ℕ) (labels : ℕ → ℕ) (sizes kinds at : ℕ) (s s' : List ℕ) → at ≤ sizes → at ≤ kinds → sizes + 5 * length cs ≤ length s → KeptFrom at s s'
    → HoldsGlyphs cs ks labels sizes kinds s → HoldsGlyphs cs ks labels sizes kinds s'
glyphs-kept cs ks labels sizes kinds at s s' a b room r h =
    record {
      held = held_kept cs s s' sizes room r.len (λ i l m. r.same i (omega arith)) h.held;
      words = λ k l. r.same (kinds + k) (omega arith) ∙ h.words k l;
      known = h.known;
      labelled = h.labelled;
    }

pub smears-kept : (gs : List LabelledGlyph) (smears : List Component) (smoothed glyphs at : ℕ) (s s' : List ℕ) → at ≤ smoothed → at ≤ glyphs → smoothed + 5 * length smears ≤ length s → KeptFrom at s s'
    → HoldsSmears gs smears smoothed glyphs s → HoldsSmears gs smears smoothed glyphs s'
smears-kept gs smears smoothed glyphs at s s' a b room r h =
    record { held = held_kept smears s s' smoothed room r.len (λ i l m. r.same i (omega arith)) h.held; counts = λ t l. r.same (glyphs + t) (omega arith) ∙ h.counts t l }

-- what `count_glyphs` leaves
pub smears-held : (cs : List Component) (ks : List ℕ) (labels : ℕ → ℕ) (sizes kinds : ℕ) (smears : List Component) (smoothed glyphs : ℕ) (s s' : List ℕ) → HoldsGlyphs cs ks labels sizes kinds s
    → HoldsSizes smears s smoothed → smoothed + 5 * length smears ≤ glyphs → glyphs ≤ length s
    → Stored (λ t. occurs (suc t) (labels_at s kinds (length cs))) glyphs (length smears) s s' → HoldsSmears (glyphs_of cs ks labels) smears smoothed glyphs s'
smears-held cs ks labels sizes kinds smears smoothed glyphs s s' h held before room r =
    record {
      held = held_kept smears s s' smoothed (omega arith) r.within.len (λ i l m. r.within.before i (omega arith)) held;
      counts = λ t l. r.each t l ∙ counts-are cs ks labels sizes kinds s h (suc t) (omega arith);
    }

-- the count of each smoothed component is that of the glyphs with its label
pub smears-counted : (cs : List Component) (ks : List ℕ) (labels : ℕ → ℕ) (sizes kinds smoothed glyphs : ℕ) (smears : List Component) (s : List ℕ) → HoldsGlyphs cs ks labels sizes kinds s
    → HoldsSmears (glyphs_of cs ks labels) smears smoothed glyphs s → (t : ℕ) → t < length smears → get_or s (glyphs + t) 0 ≡ length (own_glyphs s kinds (length cs) (suc t))
smears-counted cs ks labels sizes kinds smoothed glyphs smears s h g t l = g.counts t l ∙ sym (own-count cs ks labels sizes kinds s h (suc t) (omega arith))

-- what `order_lines` leaves: labels of smoothed components
module _ (p : LayoutParams) (unit : Float) (smoothed glyphs smears order r : ℕ) (s s' : List ℕ) (o : OrderedLines (line_smears p unit s smoothed glyphs smears) order s s' r) (i : ℕ) (l : i < r) where
  pub order-labels : (0 < get_or s' (order + i) 0) × (get_or s' (order + i) 0 ≤ smears)
  order-labels =
      let a = o.words.each i l in
      let b = each_at (λ t. t < smears) (line_smears p unit s smoothed glyphs smears) (smears-low p unit s smoothed glyphs smears) i 0 (let d = o.count in omega arith) in
      (omega arith, omega arith)

  pub order-smears : ordered_smear s' order i ≡ get_or (line_smears p unit s smoothed glyphs smears) i 0
  order-smears = let a = o.words.each i l in omega arith
