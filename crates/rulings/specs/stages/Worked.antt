-- What is said of the words that rulings are marked in, before and after: the marks start at word `marks`, and the words before are worked in.
use Rattle.std.specs.Prelude.{◌≡◌, Bool, false, List, ℕ, length, take, drop}
use Rattle.rulings.specs.stages.Sweeps.{is_thin, is_ruling, Cached, Marked, Unmarked, Walked, UpTo, Counted, Risen}
use Rattle.rulings.specs.declared.plane.Rulings.{Rulings}

-- v more at the dots of rulings, of those from the c-th up to the d-th, counted scanline by scanline
abbrev pub ruled : Rulings → ℕ → ℕ → ℕ → List ℕ → List ℕ → Type 0
ruled t v c d s s' = Marked t.plane.sweep (length t.plane.ink.now) (is_ruling t.plane.sweep t.plane.ink.now t.run_min t.thick_max) v (drop t.marks s) (drop t.marks s') c d

-- the same at the thin dots
abbrev pub thinned : Rulings → ℕ → ℕ → ℕ → List ℕ → List ℕ → Type 0
thinned t v c d s s' = Marked t.plane.sweep (length t.plane.ink.now) (is_thin t.plane.sweep t.plane.ink.now t.thick_max) v (drop t.marks s) (drop t.marks s') c d

-- of the scanlines from a up to b: 2 more where a dot of a ruling by the first z places was none by the first y
abbrev pub raised : Rulings → ℕ → ℕ → ℕ → ℕ → List ℕ → List ℕ → Type 0
raised t a b y z s s' = Risen t.plane.sweep t.plane.ink.now t.run_min t.thick_max a b y z (drop t.marks s) (drop t.marks s')

-- the walk along scanline o from place x came to r
abbrev pub walked : Rulings → ℕ → ℕ → ℕ → List ℕ → List ℕ → Type 0
walked t o x r s s' = Walked t.plane.sweep t.plane.ink.now t.run_min t.thick_max 1 o x r (drop t.marks s) (drop t.marks s')

-- told false, no mark is other than it was
abbrev pub told : Rulings → Bool → List ℕ → List ℕ → Type 0
told t found s s' = found ≡ false → drop t.marks s' ≡ drop t.marks s

-- the words before the marks are as they were
abbrev pub before_kept : Rulings → List ℕ → List ℕ → Type 0
before_kept t s s' = take t.marks s' ≡ take t.marks s

-- marks of at most v
abbrev pub at_most : Rulings → ℕ → List ℕ → Type 0
at_most t v s = UpTo t.plane.sweep (length t.plane.ink.now) (drop t.marks s) v

-- marks that one more fits to, from the c-th dot on
abbrev pub unmarked : Rulings → ℕ → List ℕ → Type 0
unmarked t c s = Unmarked t.plane.sweep (length t.plane.ink.now) (drop t.marks s) c

-- the counters of the scanlines from a up to b stand at place y
abbrev pub counted : Rulings → ℕ → ℕ → ℕ → List ℕ → Type 0
counted t a b y s = Counted t.plane.sweep t.plane.ink.now a b y s

-- what is kept by place holds from scanline o on
abbrev pub kept : Rulings → ℕ → List ℕ → Type 0
kept t o s = Cached t.plane.sweep t.plane.ink.now t.thick_max o (take t.marks s)
