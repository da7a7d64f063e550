-- The printed sheet over the words that a store has for it, whatever they hold: the frame's and the page's sides, the figures, the words of each
-- list. On the words of a page's own segmentation it is the page's sheet (`sheet-of-page` of proofs/SheetOfPage.antt).
use Rattle.std.specs.Prelude.{ℕ, ◌+◌, ◌-◌, ◌*◌, cond, List, [], ◌∷◌, ◌++◌, ltb, get_or, length}
use Rattle.memory.specs.rules.Words.{word_at}
use Rattle.judging.specs.rules.Views.{View, rule_count, graphic_count, glyph_count, line_count, block_count, column_count, ink_dots_at}
use Rattle.listing.specs.rules.Digits.{hex, joined, line_feed}
use Rattle.listing.specs.rules.Pages.{edition, formats}

-- the digits of a word
abbrev pub word_digits : ℕ
word_digits = 8

-- the digits of each word where a number of more than eight digits is two words, the high one first
abbrev pub in_words : List ℕ → List ℕ
in_words [] = []
in_words (n ∷ l) = cond (ltb word_digits n) ((n - word_digits) ∷ word_digits ∷ in_words l) (n ∷ in_words l)

-- the digits of each word of an entry, by kind
abbrev pub word_format : ℕ → List ℕ
word_format kind = in_words (get_or formats kind [])

-- how many words an entry of a kind has
abbrev pub field_count : ℕ → ℕ
field_count kind = length (word_format kind)

-- the digits of its word j
abbrev pub field_digits : ℕ → ℕ → ℕ
field_digits kind j = get_or (word_format kind) j 0

-- its first n words in digits
abbrev pub fields_text : ℕ → (ℕ → ℕ) → ℕ → List ℕ
fields_text kind word n = joined (λ j. hex (field_digits kind j) (word j)) n

-- an entry: two digits of kind, the words, a line feed
unfoldable pub entry_text : ℕ → (ℕ → ℕ) → List ℕ
entry_text kind word = hex 2 kind ++ fields_text kind word (field_count kind) ++ (line_feed ∷ [])

-- the words s from word `from` on
abbrev pub word_from : List ℕ → ℕ → ℕ → ℕ
word_from s from = λ j. word_at s (from + j)

-- the entry whose words stand there
abbrev pub entry_from : ℕ → List ℕ → ℕ → List ℕ
entry_from kind s from = entry_text kind (word_from s from)

-- entry i of those that the words s hold
abbrev pub entry_at : ℕ → List ℕ → ℕ → List ℕ
entry_at kind s i = entry_from kind s (i * field_count kind)

-- n entries of a kind, by their number
unfoldable pub entries_text : ℕ → List ℕ → ℕ → List ℕ
entries_text kind s n = joined (entry_at kind s) n

-- the words of the head, of an edition
abbrev pub head_words : ℕ → ℕ → ℕ → ℕ → ℕ → ℕ → ℕ → List ℕ
head_words e w h page_w page_h low high = e ∷ w ∷ h ∷ page_w ∷ page_h ∷ high ∷ low ∷ []

-- the head; the figures' words 1 and 2 are the unit, low word first
abbrev pub head_text : ℕ → ℕ → ℕ → ℕ → ℕ → List ℕ → List ℕ
head_text e w h page_w page_h figures = entry_from 0 (head_words e w h page_w page_h (word_at figures 1) (word_at figures 2)) 0

-- the whole sheet: kinds in order, entries of a kind by their number
unfoldable pub sheet_text : ℕ → ℕ → ℕ → ℕ → ℕ → List ℕ → List ℕ → List ℕ → List ℕ → List ℕ → List ℕ → List ℕ → List ℕ
sheet_text e w h page_w page_h figures lines blocks rules graphics glyphs columns =
    head_text e w h page_w page_h figures
    ++ entries_text 1 lines (line_count figures)
    ++ entries_text 2 blocks (block_count figures)
    ++ entries_text 3 rules (rule_count figures)
    ++ entries_text 4 graphics (graphic_count figures)
    ++ entries_text 5 glyphs (glyph_count figures)
    ++ entries_text 6 columns (column_count figures)
    ++ entry_from 7 figures ink_dots_at

-- the sheet of what a store says
abbrev pub sheet_held : View → List ℕ
sheet_held v =
    sheet_text edition v.frame.w v.frame.h v.frame.page_w v.frame.page_h v.figures v.lines v.blocks v.rules v.graphics v.glyphs
    v.columns
