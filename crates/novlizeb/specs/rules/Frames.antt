-- The size of the frame of a page under a slope, as one number: height times 2^32, and the width; 0 outside 01's limits.
use Rattle.std.specs.Prelude.{cond, ◌&&◌, ℕ, Float}
use Rattle.levelling.specs.rules.Frames.{frame}
use Rattle.judging.specs.rules.Spoiled.{side_ok, slope_ok}
use Rattle.novlizeb.specs.rules.Answers.{word_of}

unfoldable pub frame_size : ℕ → ℕ → Float → ℕ
frame_size w h slope = cond (side_ok w && side_ok h && slope_ok slope) (word_of (frame w h slope).h (frame w h slope).w) 0
