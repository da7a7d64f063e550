-- What a reading of results gives for the view of a layout is what the account tells by the rules.
use mathlib.Core.Path.{◌≡◌, refl, ap}
use mathlib.Core.List.{List}
use Prim.Native.Nat.{ℕ}
use lib.Dec.{ltb}
use lib.ListN.{length}
use Rattle.memory.specs.rules.Words.{over}
use Rattle.params.specs.declared.LayoutParams.{LayoutParams}
use Rattle.levelling.specs.rules.Planes.{Levelling}
use Rattle.segmenting.specs.rules.Layouts.{layout}
use Rattle.grouping.specs.rules.Readings.{summary_numbers}
use Rattle.grouping.specs.declared.summary.Summary.{Summary}
use Rattle.segmenting.specs.rules.Figures.{figure_words}
use Rattle.judging.specs.rules.Views.{view_of_layout}
use Rattle.listing.proofs.SheetOfPage.{sheet-of-layout}
use Rattle.store.specs.rules.Readings.{filled, ResultReading, short_result, value_result, fill_result}
use Rattle.store.specs.rules.Readings.Output.{words, floats}
use Rattle.store.specs.rules.Readings.Which.{columns, rules, graphics, glyphs, lines, blocks}
use Rattle.store.specs.rules.Readings.ResultReading.{figures, summary, list, twenty_lines, count_dots, dots, listing}
use Rattle.store.proofs.GenuineLaws.{UnitFine}
use Rattle.store.proofs.ReadingLaws.{figures-told, twenty-genuine, summary-genuine}
use Rattle.account.specs.rules.Accounts.{short_of, value_of, fill_of}

module _ (v : Levelling) (p : LayoutParams) (w h : ℕ) (m : List ℕ) where
  pub short-ruled : (q : ResultReading) → short_result q (view_of_layout v.frame v.skew (layout p w h m)) ≡ short_of q v (layout p w h m)
  unfolding view_of_layout
  short-ruled (figures out) = refl
  short-ruled (summary out) = refl
  short-ruled (list columns out) = refl
  short-ruled (list rules out) = refl
  short-ruled (list graphics out) = refl
  short-ruled (list glyphs out) = refl
  short-ruled (list lines out) = refl
  short-ruled (list blocks out) = refl
  short-ruled twenty_lines = refl
  short-ruled (count_dots k r) = refl
  short-ruled (dots k r out) = refl
  short-ruled (listing out) = ap (λ (z : List ℕ). ltb (length out) (length z)) (sheet-of-layout v p w h m)

  pub value-ruled : (q : ResultReading) → value_result q (view_of_layout v.frame v.skew (layout p w h m)) ≡ value_of q v (layout p w h m)
  unfolding view_of_layout figure_words
  value-ruled (figures out) = refl
  value-ruled (summary out) = refl
  value-ruled (list columns out) = refl
  value-ruled (list rules out) = refl
  value-ruled (list graphics out) = refl
  value-ruled (list glyphs out) = refl
  value-ruled (list lines out) = refl
  value-ruled (list blocks out) = refl
  value-ruled twenty_lines = twenty-genuine p w h m v.frame v.skew
  value-ruled (count_dots k r) = refl
  value-ruled (dots k r out) = refl
  value-ruled (listing out) = ap length (sheet-of-layout v p w h m)

  pub fill-ruled : (q : ResultReading) → UnitFine (layout p w h m).unit → fill_result q (view_of_layout v.frame v.skew (layout p w h m)) ≡ fill_of q v (layout p w h m)
  unfolding view_of_layout
  fill-ruled (figures out) U = ap (λ (z : List ℕ). words (over z out)) (figures-told (layout p w h m))
  fill-ruled (summary out) U = ap (λ (z : Summary). floats (filled (summary_numbers z) out)) (summary-genuine p w h m v.frame v.skew U)
  fill-ruled (list columns out) U = refl
  fill-ruled (list rules out) U = refl
  fill-ruled (list graphics out) U = refl
  fill-ruled (list glyphs out) U = refl
  fill-ruled (list lines out) U = refl
  fill-ruled (list blocks out) U = refl
  fill-ruled twenty_lines U = refl
  fill-ruled (count_dots k r) U = refl
  fill-ruled (dots k r out) U = refl
  fill-ruled (listing out) U = ap (λ (z : List ℕ). words (over z out)) (sheet-of-layout v p w h m)
