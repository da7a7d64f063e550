-- The words of the lines once the blocks are set: those of a layout's lines, and their boxes.
use mathlib.Core.Path.{◌≡◌, refl, sym, ap, ◌∙◌}
use mathlib.Core.List.{List, [], ◌∷◌, ◌++◌}
use Prim.Native.Nat.{ℕ, zero, suc, ◌+◌, ◌*◌, ◌<◌}
use native.Mathlib.Omega.{arith}
use lib.ListN.{get_or, length, set}
use Rattle.memory.specs.rules.Lists.{table}
use Rattle.memory.specs.rules.Records.{encoded}
use Rattle.memory.proofs.RecordLaws.{length-encoded, record-at}
use Rattle.memory.proofs.TableLaws.{length-table, get_or-table, table-ext}
use Rattle.smoothing.specs.rules.Lines.{SmoothedLine, TextLine}
use Rattle.segmenting.specs.rules.Layouts.{text_line}
use Rattle.grouping.specs.rules.Blocks.{block_number}
use Rattle.smoothing.specs.rules.LineRecords.{line_record}
use Rattle.smoothing.specs.stages.LineWords.{plain_line}
use Rattle.grouping.specs.rules.HeldLines.{line_box}
use Rattle.grouping.specs.stages.LineBoxes.{line_boxes}
use Rattle.grouping.specs.stages.Numbering.{with_blocks}

last-record : (l : List TextLine) (a : TextLine) (rest : List ℕ) → encoded line_record (l ++ (a ∷ [])) ++ rest ≡ encoded line_record l ++ (line_record a ++ rest)
unfolding encoded
last-record [] a rest = refl
last-record (b ∷ l) a rest = ap (λ (t : List ℕ). line_record b ++ t) (last-record l a rest)

no-records : (g k : ℕ → TextLine) (rest : List ℕ) → encoded line_record (table g 0) ++ rest ≡ encoded line_record (table k 0) ++ rest
unfolding table
no-records g k rest = refl

-- a line with this number for its block
abbrev with_block : TextLine → ℕ → TextLine
with_block t b = record { bbox = t.bbox; glyphs = t.glyphs; ink_area = t.ink_area; glyph_height = t.glyph_height; block = b }

set-behind : (xs ys : List ℕ) (n v : ℕ) → set (xs ++ ys) (length xs + n) v ≡ xs ++ set ys n v
set-behind [] ys n v = ap (λ k. set ys k v) (let e : 0 + n ≡ n = omega arith in e)
set-behind (x ∷ xs) ys n v = ap (λ k. set (x ∷ (xs ++ ys)) k v) (let e : suc (length xs) + n ≡ suc (length xs + n) = omega arith in e) ∙ ap (λ (t : List ℕ). x ∷ t) (set-behind xs ys n v)

encoded-last : (g : ℕ → TextLine) (n : ℕ) (rest : List ℕ) → encoded line_record (table g (suc n)) ++ rest ≡ encoded line_record (table g n) ++ (line_record (g n) ++ rest)
unfolding table
encoded-last g n rest = go (table g n)
  where
    go : (l : List TextLine) → encoded line_record (l ++ (g n ∷ [])) ++ rest ≡ encoded line_record l ++ (line_record (g n) ++ rest)
    go l = last-record l (g n) rest

pub blocks-set : (g : ℕ → TextLine) (f : ℕ → ℕ) (n : ℕ) (rest : List ℕ)
    → with_blocks f n (encoded line_record (table g n) ++ rest) ≡ encoded line_record (table (λ i. with_block (g i) (f i)) n) ++ rest
unfolding with_blocks
blocks-set g f zero rest = none
  where
    none : encoded line_record (table g 0) ++ rest ≡ encoded line_record (table (λ i. with_block (g i) (f i)) 0) ++ rest
    none = no-records g (λ i. with_block (g i) (f i)) rest
blocks-set g f (suc n) rest =
    ap (λ (z : List ℕ). set (with_blocks f n z) (n * 8 + 7) (f n)) (encoded-last g n rest)
    ∙ (ap (λ (z : List ℕ). set z (n * 8 + 7) (f n)) (blocks-set g f n (line_record (g n) ++ rest))
    ∙ (ap (λ k. set (encoded line_record (table (λ i. with_block (g i) (f i)) n) ++ (line_record (g n) ++ rest)) (k + 7) (f n)) (sym long)
    ∙ (set-behind (encoded line_record (table (λ i. with_block (g i) (f i)) n)) (line_record (g n) ++ rest) 7 (f n) ∙ sym (encoded-last (λ i. with_block (g i) (f i)) n rest))))
  where
    long : length (encoded line_record (table (λ i. with_block (g i) (f i)) n)) ≡ n * 8
    long = length-encoded line_record 8 (λ t. refl) (table (λ i. with_block (g i) (f i)) n) ∙ ap (λ k. k * 8) (length-table (λ i. with_block (g i) (f i)) n)

-- with the blocks set they are the lines of a layout
pub text-lines : (ls : List SmoothedLine) (fs : List ℕ) (n : ℕ) → table (λ i. with_block (plain_line ls i) (block_number fs i)) n ≡ table (text_line ls fs) n
unfolding text_line
text-lines ls fs n = table-ext (λ i. with_block (plain_line ls i) (block_number fs i)) (text_line ls fs) n (λ i l. refl)

-- and their boxes are those of the lines
pub record-boxes : (g : ℕ → TextLine) (n : ℕ) (rest : List ℕ) → line_boxes (encoded line_record (table g n) ++ rest) n ≡ table (λ i. (g i).bbox) n
record-boxes g n rest = table-ext (line_box (encoded line_record (table g n) ++ rest)) (λ i. (g i).bbox) n (λ i l. one i l)
  where
    word : (i : ℕ) → i < n → (j : ℕ) → j < 8 → get_or (encoded line_record (table g n) ++ rest) (i * 8 + j) 0 ≡ get_or (line_record (g i)) j 0
    word i l j h =
        record-at line_record 8 (λ t. refl) (table g n) rest i j (g i) (let e = length-table g n in omega arith) h
        ∙ ap (λ (t : TextLine). get_or (line_record t) j 0) (get_or-table g n i (g i) l)

    one : (i : ℕ) → i < n → line_box (encoded line_record (table g n) ++ rest) i ≡ (g i).bbox
    one i l =
        λ k. record {
          x0 = (ap (λ m. get_or (encoded line_record (table g n) ++ rest) m 0) (let e : i * 8 ≡ i * 8 + 0 = omega arith in e) ∙ word i l 0 (omega arith)) k;
          y0 = word i l 1 (omega arith) k;
          x1 = word i l 2 (omega arith) k;
          y1 = word i l 3 (omega arith) k;
        }
