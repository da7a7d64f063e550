-- The show program's input (01, "Leaves to try"; docs/DECISIONS.md, 1 to 3): width and height in 4 digits each, skew and slope as f64 bits in 16
-- each, a line feed; then a line a row, four dots a digit, left highest, zero-padded. Everything else is malformed, and so is a side above 16.
use Rattle.std.specs.Prelude.{ℕ, zero, suc, ◌+◌, ◌-◌, ◌*◌, ◌/◌, ◌%◌, ◌^◌, Bool, cond, ◌&&◌, ◌||◌, List, [], ◌∷◌, ◌++◌, eqb, leb, get_or, length, Option, Some, None}
use Rattle.memory.specs.rules.Lists.{table}
use Rattle.judging.specs.rules.Spoiled.{every}
use Rattle.listing.specs.rules.Digits.{line_feed, hex, joined}
use Rattle.showing.specs.declared.input.Page.{Page}

-- an upper-case hexadecimal digit
unfoldable pub is_digit : ℕ → Bool
is_digit b = (leb 48 b && leb b 57) || (leb 65 b && leb b 70)

-- its value; of any other byte, some number below 16
unfoldable pub digit_value : ℕ → ℕ
digit_value b = cond (leb b 57) (b % 16) ((b - 55) % 16)

-- n digits stand at `at`
abbrev pub digits_at : List ℕ → ℕ → ℕ → Bool
digits_at s at n = every (λ i. is_digit (get_or s (at + i) 0)) n

-- the number in the n digits at `at`
unfoldable pub number_at : List ℕ → ℕ → ℕ → ℕ
number_at s at zero = 0
number_at s at (suc n) = number_at s at n * 16 + digit_value (get_or s (at + n) 0)

-- the longest side
abbrev pub max_shown_side : ℕ
max_shown_side = 16

abbrev pub width_of : List ℕ → ℕ
width_of s = number_at s 0 4

abbrev pub height_of : List ℕ → ℕ
height_of s = number_at s 4 4

abbrev pub skew_of : List ℕ → ℕ
skew_of s = number_at s 8 16

abbrev pub slope_of : List ℕ → ℕ
slope_of s = number_at s 24 16

-- where the first row stands
abbrev pub rows_at : ℕ
rows_at = 41

-- the digits of a row
abbrev pub row_digits : ℕ → ℕ
row_digits w = (w + 3) / 4

-- where row y stands
abbrev pub row_at : ℕ → ℕ → ℕ
row_at w y = rows_at + y * (row_digits w + 1)

-- a row as a number
abbrev pub row_number : List ℕ → ℕ → ℕ → ℕ
row_number s w y = number_at s (row_at w y) (row_digits w)

-- dot x of a row, left highest
abbrev pub row_dot : ℕ → ℕ → ℕ → ℕ
row_dot w row x = row / 2 ^ (4 * row_digits w - 1 - x) % 2

-- a row is digits and a line feed, and pads with zeros
unfoldable pub row_good : List ℕ → ℕ → ℕ → Bool
row_good s w y =
    digits_at s (row_at w y) (row_digits w)
    && eqb (get_or s (row_at w y + row_digits w) 0) line_feed
    && eqb (row_number s w y % 2 ^ (4 * row_digits w - w)) 0

-- line one is 40 digits and a line feed
unfoldable pub head_good : List ℕ → Bool
head_good s = leb rows_at (length s) && digits_at s 0 40 && eqb (get_or s 40 0) line_feed

-- no side is above 16, and there are as many bytes as the sides ask
unfoldable pub sides_good : List ℕ → Bool
sides_good s = leb (width_of s) max_shown_side && leb (height_of s) max_shown_side && eqb (length s) (row_at (width_of s) (height_of s))

-- the input is well made
unfoldable pub well_made : List ℕ → Bool
well_made s = head_good s && sides_good s && every (row_good s (width_of s)) (height_of s)

-- dot i of a page w wide
abbrev pub dot_at : List ℕ → ℕ → ℕ → ℕ
dot_at s w i = row_dot w (row_number s w (i / w)) (i % w)

-- the dots of a page w wide and h high, row by row
unfoldable pub dots_in : List ℕ → ℕ → ℕ → List ℕ
dots_in s w h = table (dot_at s w) (w * h)

-- a page of these sides, this skew and this slope
abbrev pub page_of : ℕ → ℕ → ℕ → ℕ → Page
page_of w h skew slope = record { width = w; height = h; skew = skew; slope = slope }

-- what the input says: width, height, skew and slope, or nothing
unfoldable pub parsed : List ℕ → Option Page
parsed s = cond (well_made s) (Some (page_of (width_of s) (height_of s) (skew_of s) (slope_of s))) None

-- the mask of a page; none where the input is malformed
unfoldable pub mask_of : List ℕ → List ℕ
mask_of s = cond (well_made s) (dots_in s (width_of s) (height_of s)) []

-- n dots from dot `at` on as a number, the first highest
unfoldable pub dots_number : List ℕ → ℕ → ℕ → ℕ
dots_number m at zero = 0
dots_number m at (suc n) = dots_number m at n * 2 + get_or m (at + n) 0

-- row y of a mask w wide as a line
unfoldable pub row_text : ℕ → List ℕ → ℕ → List ℕ
row_text w m y = hex (row_digits w) (dots_number m (y * w) w * 2 ^ (4 * row_digits w - w)) ++ (line_feed ∷ [])

-- the other way: the text of a page (`text-of-parsed` of proofs/InputText.antt: a well made input is the text of what it says)
unfoldable pub page_text : ℕ → ℕ → ℕ → ℕ → List ℕ → List ℕ
page_text w h skew slope m = hex 4 w ++ hex 4 h ++ hex 16 skew ++ hex 16 slope ++ (line_feed ∷ []) ++ joined (row_text w m) h
