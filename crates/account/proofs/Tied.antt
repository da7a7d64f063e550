-- The entries' own promises say what `leaves` and `tells` say: `Post` is what the toolchain reads of the `ensures` in the store's sources.
use mathlib.Core.Path.{◌≡◌, refl, ap}
use mathlib.Core.List.{List}
use Prim.Native.Nat.{ℕ}
use lib.ListN.{length}
use contract.Lifetimes.{Lfts}
use borrow.Fn.World.{ArgsD, ResD}
use denote.Triple.Clauses.{AtExit}
use Rattle.store.specs.contracts.level as level
use Rattle.store.proofs.level.Reads as level-reads
use Rattle.store.specs.contracts.clear as clear
use Rattle.store.proofs.clear.Reads as clear_reads
use Rattle.store.specs.contracts.segment as segment
use Rattle.store.proofs.segment.Reads as segment-Reads
use Rattle.store.specs.contracts.level_gray as level-gray
use Rattle.store.proofs.level_gray.Reads as level-gray-reads
use Rattle.store.specs.contracts.rect_to_page as rect-to-page
use Rattle.store.proofs.rect_to_page.Reads as rect-to-page-reads
use Rattle.store.specs.contracts.to_page as to-page
use Rattle.store.proofs.to_page.Reads as to-page-reads
use Rattle.store.specs.contracts.read_frame as read-frame
use Rattle.store.proofs.read_frame.Reads as read-frame-reads
use Rattle.store.specs.contracts.read_figures as read-figures
use Rattle.store.proofs.read_figures.Reads as read-figures-reads
use Rattle.store.specs.contracts.read_columns as read-columns
use Rattle.store.proofs.read_columns.Reads as read-columns-reads
use Rattle.store.specs.contracts.read_rules as read-rules
use Rattle.store.proofs.read_rules.Reads as read-rules-reads
use Rattle.store.specs.contracts.read_graphics as read-graphics
use Rattle.store.proofs.read_graphics.Reads as read-graphics-reads
use Rattle.store.specs.contracts.read_glyphs as read-glyphs
use Rattle.store.proofs.read_glyphs.Reads as read-glyphs-reads
use Rattle.store.specs.contracts.read_lines as read-lines
use Rattle.store.proofs.read_lines.Reads as read-lines-reads
use Rattle.store.specs.contracts.read_blocks as read-blocks
use Rattle.store.proofs.read_blocks.Reads as read-blocks-reads
use Rattle.store.specs.contracts.count_dots as count-dots
use Rattle.store.proofs.count_dots.Reads as count-dots-reads
use Rattle.store.specs.contracts.read_dots as read-dots
use Rattle.store.proofs.read_dots.Reads as read-dots-reads
use Rattle.store.specs.contracts.twenty_line_measure as twenty-line-measure
use Rattle.store.proofs.twenty_line_measure.Reads as twenty-line-measure-reads
use Rattle.store.specs.contracts.read_summary as read-summary
use Rattle.store.proofs.read_summary.Reads as read-summary-reads
use Rattle.store.specs.contracts.write_sheet as write-sheet
use Rattle.store.proofs.write_sheet.Reads as write-sheet-reads
use Rattle.store.specs.rules.Handed.{leaf_handed}
use Rattle.store.specs.rules.Readings.{LevelReading, ResultReading, Which}
use Rattle.store.specs.rules.Readings.Output.{words, integers, none, floats}
use Rattle.memory.specs.rules.Refusals.{answer_number, answer_value}
use Rattle.store.specs.rules.Outcomes.{Left, Told, told}
use Rattle.account.specs.rules.Calls.{Act, World, world, leaves, tells, numbered}

-- a call on these parts was done: what it leaves there, and what it answers
pub record Did (act : Act) (u : World) (r : Told) (u' : World) : Type 0 where
  pub left : u' ≡ leaves act u
  pub said : r ≡ tells act u

pub level-tied : (κs : Lfts 3) (a : ArgsD level.signature κs) (r : ResD level.signature κs) (s : AtExit level.ended κs) (kinds : List ℕ)
    → level-reads.Post κs a r s
    → Did (Act.level (leaf_handed a.0.now a.1.0 a.1.1.0))
    (world a.1.1.1.0.now a.1.1.1.1.0.now kinds) (numbered (answer_number r)) (world s.1.1.1.0.now s.1.1.1.1.0.now kinds)
level-tied κs a r s kinds h = record { left = ap (λ (y : Left). world y.store y.plane kinds) h; said = ap (λ (y : Left). numbered y.number) h }

pub clear-tied : (κs : Lfts 1) (a : ArgsD clear.signature κs) (r : ResD clear.signature κs) (s : AtExit clear.ended κs) (ink kinds : List ℕ)
    → clear_reads.Post κs a r s → Did Act.clear (world a.0.now ink kinds) (numbered (answer_number r)) (world s.0.now ink kinds)
clear-tied κs a r s ink kinds h = record { left = ap (λ (y : Left). world y.store ink kinds) h; said = ap (λ (y : Left). numbered y.number) h }

-- a reading takes the store as `&`: it writes nothing there
pub to-page-tied : (κs : Lfts 2) (a : ArgsD to-page.signature κs) (r : ResD to-page.signature κs) (s : AtExit to-page.ended κs) (ink kinds : List ℕ) → to-page-reads.Post κs a r s
    → Did (Act.read_level (LevelReading.point a.1.0 a.1.1.0 a.1.1.1.0.now)) (world a.0.now ink kinds) (told (answer_number r) 0 (integers s.1.1.1.0.now)) (world a.0.now ink kinds)
to-page-tied κs a r s ink kinds h = record { left = refl; said = h }

-- of scratch the machine knows the length alone
pub segment-tied : (κs : Lfts 4) (a : ArgsD segment.signature κs) (r : ResD segment.signature κs) (s : AtExit segment.ended κs) → segment-Reads.Post κs a r s
    → Did (Act.segment a.0 (length a.1.1.1.1.0.now)) (world a.1.0.now a.1.1.0.now a.1.1.1.0.now) (numbered (answer_number r)) (world s.1.0.now a.1.1.0.now s.1.1.1.0.now)
segment-tied κs a r s h =
    record {
      left = ap (λ (y : Left). world y.store a.1.1.0.now y.plane) h.0;
      said = ap (λ (y : Left). numbered y.number) h.0;
    }

pub level-gray-tied : (κs : Lfts 3) (a : ArgsD level-gray.signature κs) (r : ResD level-gray.signature κs) (s : AtExit level-gray.ended κs) (ink kinds : List ℕ) → level-gray-reads.Post κs a r s
    → Did (Act.read_level (LevelReading.gray a.1.0.now a.1.1.0.now)) (world a.0.now ink kinds) (told (answer_number r) 0 (words s.1.1.0.now)) (world a.0.now ink kinds)
level-gray-tied κs a r s ink kinds h = record { left = refl; said = h }

pub rect-to-page-tied : (κs : Lfts 2) (a : ArgsD rect-to-page.signature κs) (r : ResD rect-to-page.signature κs) (s : AtExit rect-to-page.ended κs) (ink kinds : List ℕ)
    → rect-to-page-reads.Post κs a r s
    → Did (Act.read_level (LevelReading.box a.1.0 a.1.1.0.now)) (world a.0.now ink kinds) (told (answer_number r) 0 (integers s.1.1.0.now)) (world a.0.now ink kinds)
rect-to-page-tied κs a r s ink kinds h = record { left = refl; said = h }

pub read-frame-tied : (κs : Lfts 2) (a : ArgsD read-frame.signature κs) (r : ResD read-frame.signature κs) (s : AtExit read-frame.ended κs) (ink kinds : List ℕ) → read-frame-reads.Post κs a r s
    → Did (Act.read_level (LevelReading.frame_figures a.1.0.now)) (world a.0.now ink kinds) (told (answer_number r) 0 (words s.1.0.now)) (world a.0.now ink kinds)
read-frame-tied κs a r s ink kinds h = record { left = refl; said = h }

-- readings of results
pub read-figures-tied : (κs : Lfts 4) (a : ArgsD read-figures.signature κs) (r : ResD read-figures.signature κs) (s : AtExit read-figures.ended κs) → read-figures-reads.Post κs a r s
    → Did (Act.read_result (ResultReading.figures a.1.1.1.0.now)) (world a.0.now a.1.0.now a.1.1.0.now) (told (answer_number r) 0 (words s.1.1.1.0.now)) (world a.0.now a.1.0.now a.1.1.0.now)
read-figures-tied κs a r s h = record { left = refl; said = h }

pub read-columns-tied : (κs : Lfts 4) (a : ArgsD read-columns.signature κs) (r : ResD read-columns.signature κs) (s : AtExit read-columns.ended κs) → read-columns-reads.Post κs a r s
    → Did (Act.read_result (ResultReading.list Which.columns a.1.1.1.0.now)) (world a.0.now a.1.0.now a.1.1.0.now) (told (answer_number r) (answer_value r) (words s.1.1.1.0.now)) (world a.0.now a.1.0.now a.1.1.0.now)
read-columns-tied κs a r s h = record { left = refl; said = h }

pub read-rules-tied : (κs : Lfts 4) (a : ArgsD read-rules.signature κs) (r : ResD read-rules.signature κs) (s : AtExit read-rules.ended κs) → read-rules-reads.Post κs a r s
    → Did (Act.read_result (ResultReading.list Which.rules a.1.1.1.0.now)) (world a.0.now a.1.0.now a.1.1.0.now) (told (answer_number r) (answer_value r) (words s.1.1.1.0.now)) (world a.0.now a.1.0.now a.1.1.0.now)
read-rules-tied κs a r s h = record { left = refl; said = h }

pub read-graphics-tied : (κs : Lfts 4) (a : ArgsD read-graphics.signature κs) (r : ResD read-graphics.signature κs) (s : AtExit read-graphics.ended κs) → read-graphics-reads.Post κs a r s
    → Did (Act.read_result (ResultReading.list Which.graphics a.1.1.1.0.now)) (world a.0.now a.1.0.now a.1.1.0.now) (told (answer_number r) (answer_value r) (words s.1.1.1.0.now)) (world a.0.now a.1.0.now a.1.1.0.now)
read-graphics-tied κs a r s h = record { left = refl; said = h }

pub read-glyphs-tied : (κs : Lfts 4) (a : ArgsD read-glyphs.signature κs) (r : ResD read-glyphs.signature κs) (s : AtExit read-glyphs.ended κs) → read-glyphs-reads.Post κs a r s
    → Did (Act.read_result (ResultReading.list Which.glyphs a.1.1.1.0.now)) (world a.0.now a.1.0.now a.1.1.0.now) (told (answer_number r) (answer_value r) (words s.1.1.1.0.now)) (world a.0.now a.1.0.now a.1.1.0.now)
read-glyphs-tied κs a r s h = record { left = refl; said = h }

pub read-lines-tied : (κs : Lfts 4) (a : ArgsD read-lines.signature κs) (r : ResD read-lines.signature κs) (s : AtExit read-lines.ended κs) → read-lines-reads.Post κs a r s
    → Did (Act.read_result (ResultReading.list Which.lines a.1.1.1.0.now)) (world a.0.now a.1.0.now a.1.1.0.now) (told (answer_number r) (answer_value r) (words s.1.1.1.0.now)) (world a.0.now a.1.0.now a.1.1.0.now)
read-lines-tied κs a r s h = record { left = refl; said = h }

pub read-blocks-tied : (κs : Lfts 4) (a : ArgsD read-blocks.signature κs) (r : ResD read-blocks.signature κs) (s : AtExit read-blocks.ended κs) → read-blocks-reads.Post κs a r s
    → Did (Act.read_result (ResultReading.list Which.blocks a.1.1.1.0.now)) (world a.0.now a.1.0.now a.1.1.0.now) (told (answer_number r) (answer_value r) (words s.1.1.1.0.now)) (world a.0.now a.1.0.now a.1.1.0.now)
read-blocks-tied κs a r s h = record { left = refl; said = h }

pub count-dots-tied : (κs : Lfts 3) (a : ArgsD count-dots.signature κs) (r : ResD count-dots.signature κs) (s : AtExit count-dots.ended κs) → count-dots-reads.Post κs a r s
    → Did (Act.read_result (ResultReading.count_dots a.1.1.1.0 a.1.1.1.1.0)) (world a.0.now a.1.0.now a.1.1.0.now) (told (answer_number r) (answer_value r) none) (world a.0.now a.1.0.now a.1.1.0.now)
count-dots-tied κs a r s h = record { left = refl; said = h }

pub read-dots-tied : (κs : Lfts 4) (a : ArgsD read-dots.signature κs) (r : ResD read-dots.signature κs) (s : AtExit read-dots.ended κs) → read-dots-reads.Post κs a r s
    → Did (Act.read_result (ResultReading.dots a.1.1.1.0 a.1.1.1.1.0 a.1.1.1.1.1.0.now)) (world a.0.now a.1.0.now a.1.1.0.now) (told (answer_number r) (answer_value r) (words s.1.1.1.1.1.0.now)) (world a.0.now a.1.0.now a.1.1.0.now)
read-dots-tied κs a r s h = record { left = refl; said = h }

pub twenty-line-measure-tied : (κs : Lfts 3) (a : ArgsD twenty-line-measure.signature κs) (r : ResD twenty-line-measure.signature κs) (s : AtExit twenty-line-measure.ended κs) → twenty-line-measure-reads.Post κs a r s
    → Did (Act.read_result (ResultReading.twenty_lines)) (world a.0.now a.1.0.now a.1.1.0.now) (told (answer_number r) (answer_value r) none) (world a.0.now a.1.0.now a.1.1.0.now)
twenty-line-measure-tied κs a r s h = record { left = refl; said = h }

pub read-summary-tied : (κs : Lfts 4) (a : ArgsD read-summary.signature κs) (r : ResD read-summary.signature κs) (s : AtExit read-summary.ended κs) → read-summary-reads.Post κs a r s
    → Did (Act.read_result (ResultReading.summary a.1.1.1.0.now)) (world a.0.now a.1.0.now a.1.1.0.now) (told (answer_number r) 0 (floats s.1.1.1.0.now)) (world a.0.now a.1.0.now a.1.1.0.now)
read-summary-tied κs a r s h = record { left = refl; said = h }

pub write-sheet-tied : (κs : Lfts 4) (a : ArgsD write-sheet.signature κs) (r : ResD write-sheet.signature κs) (s : AtExit write-sheet.ended κs) → write-sheet-reads.Post κs a r s
    → Did (Act.read_result (ResultReading.listing a.1.1.1.0.now)) (world a.0.now a.1.0.now a.1.1.0.now) (told (answer_number r) (answer_value r) (words s.1.1.1.0.now)) (world a.0.now a.1.0.now a.1.1.0.now)
write-sheet-tied κs a r s h = record { left = refl; said = h }
