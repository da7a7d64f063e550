-- The words that hold a frame's two shears, one behind the other, are its own.
use mathlib.Core.Path.{◌≡◌, sym, ap, ◌∙◌, subst}
use mathlib.Core.List.{List, ◌++◌, append_assoc}
use Prim.Native.Nat.{ℕ, ◌+◌, ◌-◌, ◌*◌, ◌≤◌}
use native.Mathlib.Omega.{arith}
use lib.Ieee.{Float}
use lib.ListN.{length, take, drop}
use lib.Seq.{take_at, drop_at}
use Rattle.memory.specs.rules.Words.{over}
use Rattle.rounding.specs.rules.Drift.{WithinOne}
use Rattle.levelling.specs.rules.Frames.{PageSides, Frame, frame, frame_of}
use Rattle.levelling.specs.stages.Rooms.{PlaneFits}
use Rattle.levelling.proofs.FrameLaws.{length-shears, frame-plane-fits, frame-is-frame_of}

-- the two parts of what lies over the front of a list
pub front : (a b s : List ℕ) (n : ℕ) → length a ≡ n → take n (over (a ++ b) s) ≡ a
front a b s n e = rw append_assoc (take_at a (b ++ drop (length (a ++ b)) s) n e)

pub behind : (a b s : List ℕ) (m n : ℕ) → length a ≡ m → length b ≡ n → take n (drop m (over (a ++ b) s)) ≡ b
behind a b s m n e f =
    let r = drop (length (a ++ b)) s in
    ap (λ (l : List ℕ). take n (drop m l)) (append_assoc a b r) ∙ ap (take n) (drop_at a (b ++ r) m e) ∙ take_at b r n f

-- ---- the parts of the words that hold the shears, as the frame
pub parts_are :
    (w h : ℕ) (slope : Float) (words s : List ℕ) (fw fh : ℕ) → PageSides w h → WithinOne slope → words ≡ over ((frame w h slope).shear ++ (frame w h slope).shear_x) s
    → fw ≡ (frame w h slope).w → fh ≡ (frame w h slope).h
    → frame_of w h (take (w - 0) words) (take (w + fh - w) (drop w words)) fw fh ≡ frame w h slope
parts_are w h slope words s fw fh S O e p q =
    let f = frame w h slope in
    let n = length-shears w h slope S O in
    let a : take (w - 0) words ≡ f.shear = ap (λ (k : ℕ). take k words) (all w) ∙ ap (take w) e ∙ front f.shear f.shear_x s w n.0 in
    let b : take (w + fh - w) (drop w words) ≡ f.shear_x =
    ap (λ (k : ℕ). take k (drop w words)) (rest w fh) ∙ ap (λ (k : List ℕ). take fh (drop w k)) e ∙ behind f.shear f.shear_x s w fh n.0 (n.1 ∙ sym q) in
    ap (λ (k : List ℕ). frame_of w h k (take (w + fh - w) (drop w words)) fw fh) a
    ∙ ap (λ (k : List ℕ). frame_of w h f.shear k fw fh) b
    ∙ ap (λ (k : ℕ). frame_of w h f.shear f.shear_x k fh) p
    ∙ ap (λ (k : ℕ). frame_of w h f.shear f.shear_x f.w k) q
    ∙ sym (frame-is-frame_of w h slope S O)
  where
    all : (w : ℕ) → w - 0 ≡ w
    all w = omega arith

    rest : (w n : ℕ) → w + n - w ≡ n
    rest w n = omega arith

pub parts-fit :
    (w h : ℕ) (slope : Float) (words s page out : List ℕ) (fw fh : ℕ) → PageSides w h → WithinOne slope → words ≡ over ((frame w h slope).shear ++ (frame w h slope).shear_x) s
    → fw ≡ (frame w h slope).w → fh ≡ (frame w h slope).h → length page ≡ w * h → fw * fh ≤ length out
    → PlaneFits (frame_of w h (take (w - 0) words) (take (w + fh - w) (drop w words)) fw fh) page out
parts-fit w h slope words s page out fw fh S O e p q n o =
    let b : (frame w h slope).w * (frame w h slope).h ≤ length out = subst (λ (k : ℕ). (frame w h slope).w * k ≤ length out) q (subst (λ (k : ℕ). k * fh ≤ length out) p o) in
    subst (λ (f : Frame). PlaneFits f page out) (sym (parts_are w h slope words s fw fh S O e p q)) (frame-plane-fits w h slope S O page out n b)
