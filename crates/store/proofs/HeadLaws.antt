-- A header written into words, and into words before others.
use mathlib.Core.Path.{◌≡◌, refl, sym, ap, ◌∙◌}
use mathlib.Core.List.{List, [], ◌∷◌, ◌++◌, append_assoc}
use Prim.Native.Nat.{ℕ, ◌+◌, ◌-◌, ◌≤◌}
use native.Mathlib.Nat.{not-suc-le-zero}
use native.Mathlib.Omega.{arith}
use borrow.Rule.Slice.PartMut.{put_mid}
use lib.ListN.{length, take, drop, set, length-drop, length-set, take-append-drop}
use lib.Seq.{take_at, drop_at, take-append-le, drop-append-le, length-take-le}
use Rattle.memory.specs.rules.Words.{over, put_at}
use Rattle.segmenting.specs.rules.Layouts.{Layout}
use Rattle.segmenting.specs.rules.Results.{results_left}
use Rattle.segmenting.specs.rules.Figures.{figures_of, figure_words}
use Rattle.segmenting.specs.declared.results.Segmentation.{Segmentation}
use Rattle.segmenting.proofs.PutLaws.{part_length, put-part}
use Rattle.judging.specs.rules.Header.{lists_at}
use Rattle.store.specs.rules.Written.{store_segmented}
use Rattle.store.specs.stages.Heads.{head_segmented}
use Rattle.judging.proofs.PartLaws.{length_over, length-put}

-- words put into the first of two lists
pub put-append : (k : ℕ) (v x y : List ℕ) → k + length v ≤ length x → put_at k v (x ++ y) ≡ put_at k v x ++ y
put-append k v x y l =
    let r = drop (length v) (drop k x) in
    (λ i. take-append-le k x y (omega arith) i ++ (v ++ drop (length v) (drop-append-le k x y (omega arith) i)))
    ∙ (ap (λ (z : List ℕ). take k x ++ (v ++ z)) (drop-append-le (length v) (drop k x) y (let d = length-drop k x in omega arith))
    ∙ sym (append_assoc (take k x) (v ++ r) y ∙ ap (λ (z : List ℕ). take k x ++ z) (append_assoc v r y)))

figures-count : (f : Segmentation) → length (figure_words f) ≡ 15
unfolding figure_words
figures-count f = refl

pub head-append : (f : Segmentation) (x y : List ℕ) → 25 ≤ length x → head_segmented f (x ++ y) ≡ head_segmented f x ++ y
unfolding head_segmented
head-append f x y l =
    ap (put_at 10 (figure_words f)) (put-append 0 (2 ∷ []) x y (omega arith))
    ∙ put-append 10 (figure_words f) (over (2 ∷ []) x) y (let e = length_over (2 ∷ []) x (omega arith) in let c = figures-count f in omega arith)

pub head-long : (f : Segmentation) (s : List ℕ) → 25 ≤ length s → length (head_segmented f s) ≡ length s
unfolding head_segmented
head-long f s l =
    let e = length_over (2 ∷ []) s (omega arith) in
    length-put 10 (figure_words f) (over (2 ∷ []) s) (let c = figures-count f in omega arith) ∙ e

segmented-by : (pw w h P : ℕ) (l : Layout) (s : List ℕ)
    → store_segmented pw w h P l s ≡ take (lists_at pw h) (head_segmented (figures_of l) s) ++ results_left w P l (drop (lists_at pw h) (head_segmented (figures_of l) s))
unfolding store_segmented head_segmented
segmented-by pw w h P l s = refl

-- lists first, then the header
pub lists-then-head : (pw w h P : ℕ) (l : Layout) (s : List ℕ) → lists_at pw h ≤ length s
    → head_segmented (figures_of l) (take (lists_at pw h) s ++ results_left w P l (drop (lists_at pw h) s)) ≡ store_segmented pw w h P l s
lists-then-head pw w h P l s r =
    let at = lists_at pw h in
    let f = figures_of l in
    let x = head_segmented f (take at s) in
    let n : length (take at s) ≡ at = length-take-le at s r in
    let m : length x ≡ at = head-long f (take at s) (omega arith) ∙ n in
    let t : head_segmented f s ≡ x ++ drop at s = ap (head_segmented f) (sym (take-append-drop at s)) ∙ head-append f (take at s) (drop at s) (omega arith) in
    head-append f (take at s) (results_left w P l (drop at s)) (omega arith)
    ∙ sym
    (segmented-by pw w h P l s
    ∙ ((λ i. take at (t i) ++ results_left w P l (drop at (t i)))
    ∙ (λ i. take_at x (drop at s) at m i ++ results_left w P l (drop_at x (drop at s) at m i))))

-- ---- the state, then the figures, as they are stored

front-word : (s : List ℕ) (k : ℕ) → 1 ≤ length s → set s 0 k ≡ over (k ∷ []) s
front-word [] k h = absurd (not-suc-le-zero h)
front-word (x ∷ s) k h = refl

pub head-room : (s : List ℕ) → 64 ≤ length s → 15 ≤ length (take (length (set s 0 2) - 10) (drop 10 (set s 0 2)))
head-room s l = let e = part_length 10 (set s 0 2) in let d = length-set s 0 2 in omega arith

pub head-written : (f : Segmentation) (s part : List ℕ) → 64 ≤ length s → part ≡ over (figure_words f) (take (length (set s 0 2) - 10) (drop 10 (set s 0 2)))
    → put_mid 10 (length (set s 0 2) - 10) (set s 0 2) part ≡ head_segmented f s
unfolding head_segmented
head-written f s part l p = put-part 10 (set s 0 2) (figure_words f) part p ∙ ap (put_at 10 (figure_words f)) (front-word s 2 (omega arith))
