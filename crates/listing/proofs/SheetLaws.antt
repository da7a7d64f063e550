-- The whole sheet in the parts that its writer puts one behind the other.
use mathlib.Core.Path.{◌≡◌, sym, ap, ◌∙◌, subst}
use mathlib.Core.List.{List, ◌++◌, append_assoc}
use Prim.Native.Nat.{ℕ, ◌+◌, ◌*◌, ◌≤◌, ◌<◌}
use native.Mathlib.Nat.{mul-le-mul}
use native.Mathlib.Omega.{arith}
use lib.ListN.{length, set, length-append}
use Rattle.memory.specs.rules.Words.{word_at, over}
use Rattle.listing.specs.rules.Digits.{hex, line_feed, refusal_text}
use Rattle.listing.specs.stages.Puts.{Put}
use Rattle.judging.specs.rules.Views.{ink_dots_at, rule_count, graphic_count, glyph_count, line_count, block_count, column_count}
use Rattle.listing.specs.rules.Sheets.{head_text, head_words, entry_from, word_from, entries_text, sheet_text}
use Rattle.listing.specs.stages.Parts.{three_kinds, lines_to_rules, graphics_to_columns, entry_length, sheet_length}
use Rattle.listing.proofs.TextLaws.{put-more, put-length, three-room-2, three-room-3, three-put}
use Rattle.listing.proofs.EntryLaws.{line-put, length-entry, length-entries}

-- so many entries, of so many bytes each
pub product_small : (a b : ℕ) → a < 4294967296 → b < 256 → a * b < 1099511627776
product_small a b h k = let m : a * b ≤ 4294967295 * 255 = mul-le-mul {n₁ = a} {m₁ = b} {n₂ = 4294967295} {m₂ = 255} (omega arith) (omega arith) in omega arith

pub length_three : (kind : ℕ) (a : List ℕ) (m : ℕ) (b : List ℕ) (n : ℕ) (c : List ℕ) (k : ℕ)
    → length (three_kinds kind a m b n c k) ≡ m * entry_length kind + n * entry_length (kind + 1) + k * entry_length (kind + 2)
length_three kind a m b n c k =
    let x = entries_text kind a m in
    let y = entries_text (kind + 1) b n in
    let z = entries_text (kind + 2) c k in
    length-append (x ++ y) z ∙ (λ i. (length-append x y ∙ (λ j. length-entries kind a m j + length-entries (kind + 1) b n j)) i + length-entries (kind + 2) c k i)

-- the entries of three kinds, with their words and how many they are as they are found
module _ (kind : ℕ) {a b c a' b' c' : List ℕ} {m n k m' n' k' : ℕ} (ea : (a ≡ a') × (m ≡ m')) (eb : (b ≡ b') × (n ≡ n')) (ec : (c ≡ c') × (k ≡ k')) where
  found : three_kinds kind a m b n c k ≡ three_kinds kind a' m' b' n' c' k'
  found = λ i. three_kinds kind (ea.0 i) (ea.1 i) (eb.0 i) (eb.1 i) (ec.0 i) (ec.1 i)

  pub found-room : (out : List ℕ) (at : ℕ) → at + length (three_kinds kind a' m' b' n' c' k') ≤ length out → at + length (three_kinds kind a m b n c k) ≤ length out
  found-room out at h = subst (λ (t : List ℕ). at + length t ≤ length out) (sym found) h

  pub found-put : {out out' : List ℕ} {at r : ℕ} → Put out at (three_kinds kind a m b n c k) r out' → Put out at (three_kinds kind a' m' b' n' c' k') r out'
  found-put {out} {out'} {at} {r} h = subst (λ (t : List ℕ). Put out at t r out') found h

module _ (e w h page_w page_h : ℕ) (figures lines blocks rules graphics glyphs columns : List ℕ) where
  -- the first seven kinds in three parts
  abbrev head : List ℕ
  head = head_text e w h page_w page_h figures

  abbrev first : List ℕ
  first = lines_to_rules figures lines blocks rules

  abbrev second : List ℕ
  second = graphics_to_columns figures graphics glyphs columns

  abbrev dots : List ℕ
  dots = entry_from 7 figures ink_dots_at

  sheet-parts : head ++ first ++ second ++ dots ≡ sheet_text e w h page_w page_h figures lines blocks rules graphics glyphs columns
  unfolding sheet_text
  sheet-parts = simp append_assoc

  lengths : length (head ++ first ++ second) + length dots ≡ sheet_length figures
  lengths =
      let a : length head ≡ 37 = length-entry 0 (word_from (head_words e w h page_w page_h (word_at figures 1) (word_at figures 2)) 0) in
      let b = length_three 1 lines (line_count figures) blocks (block_count figures) rules (rule_count figures) in
      let c = length_three 4 graphics (graphic_count figures) glyphs (glyph_count figures) columns (column_count figures) in
      let d : length dots ≡ 51 = length-entry 7 (word_from figures ink_dots_at) in
      let f = length-append (head ++ first) second in
      let g = length-append head first in
      omega arith

  -- the sheet is as long as its length says
  pub length-sheet : length (sheet_text e w h page_w page_h figures lines blocks rules graphics glyphs columns) ≡ sheet_length figures
  length-sheet = ap length (sym sheet-parts) ∙ (length-append (head ++ first ++ second) dots ∙ lengths)

  module _ (s : List ℕ) (room : sheet_length figures ≤ length s) where
    three : 0 + length (head ++ first ++ second) ≤ length s
    three = let l = lengths in omega arith

    pub first-room : (one : List ℕ) (p : ℕ) → Put s 0 head p one → p + length first ≤ length one
    first-room = three-room-2 s head first second 0 three

    pub second-room : (one two : List ℕ) (p q : ℕ) → Put s 0 head p one → Put one p first q two → q + length second ≤ length two
    second-room = three-room-3 s head first second 0 three

    all : (one two three : List ℕ) (p q r : ℕ) → Put s 0 head p one → Put one p first q two → Put two q second r three → Put s 0 (head ++ first ++ second) r three
    all = three-put s head first second 0 three

    pub dots-room : (one two last : List ℕ) (p q r : ℕ) → Put s 0 head p one → Put one p first q two → Put two q second r last → r + length dots ≤ length last
    dots-room one two last p q r x y z =
        let a = all one two last p q r x y z in
        let l = lengths in
        let n = a.place in
        let k : length last ≡ length s = put-length s last (head ++ first ++ second) 0 r three a in
        omega arith

    pub sheet-put : (one two last out : List ℕ) (p q r t : ℕ) → Put s 0 head p one → Put one p first q two → Put two q second r last → Put last r dots t out
        → (t ≡ sheet_length figures) × (out ≡ over (sheet_text e w h page_w page_h figures lines blocks rules graphics glyphs columns) s)
    sheet-put one two last out p q r t x y z d =
        let l = lengths in
        let g = put-more s last out (head ++ first ++ second) dots 0 r t (omega arith) (all one two last p q r x y z) d in
        (g.place ∙ (let f = length-append (head ++ first ++ second) dots in omega arith), g.bytes ∙ ap (λ v. over v s) sheet-parts)

-- a refusal
pub refusal-put : (s one two : List ℕ) (number p q : ℕ) → 5 ≤ length s → Put s 0 (hex 2 0xFF) p one → Put one p (hex 2 number) q two
    → (q + 1 ≡ 5) × (set two q line_feed ≡ over (refusal_text number) s)
unfolding refusal_text hex
refusal-put s one two number p q room x y =
    let g = line-put s one two (hex 2 0xFF) (hex 2 number) 0 p q room x y in
    (g.place, g.bytes)
