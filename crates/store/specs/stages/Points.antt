-- What the code's way with a page point needs: its numbers are signed words of 32 bits.
use Rattle.std.specs.Prelude.{◌≤◌, ℤ, pos, negsuc}

-- from -32,768 to 32,767, as each coordinate of a page point is
abbrev pub Coordinate : ℤ → Type 0
Coordinate (pos n) = n ≤ 32767
Coordinate (negsuc n) = n ≤ 32767
