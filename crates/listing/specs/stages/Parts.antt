-- The sheet in the parts that are written one behind the other, and how long each is.
use Rattle.std.specs.Prelude.{ℕ, ◌+◌, ◌*◌, List, [], ◌∷◌, ◌++◌}
use Rattle.judging.specs.rules.Header.{part}
use Rattle.judging.specs.rules.Views.{rule_count, graphic_count, glyph_count, line_count, block_count, column_count}
use Rattle.listing.specs.rules.Sheets.{word_format, field_count, fields_text, word_from, entries_text}

-- the words of an entry that stand from word `from` on, in digits
abbrev pub fields_from : ℕ → List ℕ → ℕ → List ℕ
fields_from kind s from = fields_text kind (word_from s from) (field_count kind)

-- the words of the n entries of a kind that stand from word `at` on
abbrev pub entries_at : List ℕ → ℕ → ℕ → ℕ → List ℕ
entries_at s at kind n = part at (n * field_count kind) s

-- all entries of a kind and of the two kinds after it
abbrev pub three_kinds : ℕ → List ℕ → ℕ → List ℕ → ℕ → List ℕ → ℕ → List ℕ
three_kinds kind a m b n c k = entries_text kind a m ++ entries_text (kind + 1) b n ++ entries_text (kind + 2) c k

-- the entries of lines, blocks and rules, as many as the figures say
abbrev pub lines_to_rules : List ℕ → List ℕ → List ℕ → List ℕ → List ℕ
lines_to_rules figures lines blocks rules = three_kinds 1 lines (line_count figures) blocks (block_count figures) rules (rule_count figures)

-- .. and those of graphics, glyphs and columns
abbrev pub graphics_to_columns : List ℕ → List ℕ → List ℕ → List ℕ → List ℕ
graphics_to_columns figures graphics glyphs columns = three_kinds 4 graphics (graphic_count figures) glyphs (glyph_count figures) columns (column_count figures)

-- all digits of a format
abbrev pub all_digits : List ℕ → ℕ
all_digits [] = 0
all_digits (n ∷ l) = n + all_digits l

-- the bytes of one entry of a kind: two digits of kind, its words, a line feed
abbrev pub entry_length : ℕ → ℕ
entry_length kind = 3 + all_digits (word_format kind)

-- the bytes of the whole sheet
abbrev pub sheet_length : List ℕ → ℕ
sheet_length figures =
    entry_length 0
    + line_count figures * entry_length 1
    + block_count figures * entry_length 2
    + rule_count figures * entry_length 3
    + graphic_count figures * entry_length 4
    + glyph_count figures * entry_length 5
    + column_count figures * entry_length 6
    + entry_length 7

-- the bytes of a refusal's line: FF, two digits of number, a line feed
abbrev pub refusal_length : ℕ
refusal_length = 5
