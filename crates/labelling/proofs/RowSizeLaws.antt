-- Sizes span by span, and row by row.
use mathlib.Core.Path.{◌≡◌, sym, ap, ◌∙◌, subst}
use mathlib.Core.List.{List, ◌++◌}
use Prim.Native.Nat.{ℕ, suc, ◌+◌, ◌-◌, ◌*◌, ◌/◌, ◌%◌, ◌≤◌, ◌<◌, max}
use native.Mathlib.Nat.{div-add-mod', mul_comm, suc-mul, mul-le-mul_right}
use native.Mathlib.Numerals.{add-one}
use native.Mathlib.Decide.{dec_lt}
use native.Mathlib.Omega.{arith}
use borrow.Rule.Slice.PartMut.{put_mid}
use lib.ListN.{get_or, length, take, drop}
use lib.Seq.{get_or-take}
use Rattle.memory.specs.rules.Words.{over}
use Rattle.memory.specs.rules.Limits.{max_mask_dots}
use Rattle.labelling.specs.stages.InkRuns.{start_of, component_number}
use Rattle.labelling.specs.stages.Linking.{first_run}
use Rattle.labelling.specs.stages.Spans.{SpanAhead, SpanOf}
use Rattle.labelling.specs.stages.Sizing.{resized, SpanSizable, sizes, Sizable, SizeSweep, RowSizable, RowSized}
use Rattle.labelling.proofs.SpanLaws.{row-found}
use Rattle.labelling.proofs.SizeSweepLaws.{size_none, size-long, size_room, runs_same, size-list, size-asks, size-more, size-done}

-- A row: the runs from `first` up to k have brought their dots, and run k lies in row y or past it

pub record RowSweep (w c : ℕ) (s s' : List ℕ) (at y first before k count : ℕ) : Type 0 where
  pub sized : (h : ℕ) (s₀ : List ℕ) → SizeSweep w h c at s₀ s first before → SizeSweep w h c at s₀ s' k count
  pub from : k < c → y * w ≤ start_of (take (2 * c) s) k

-- row y of h lies within the limits
row_inside : (w h y : ℕ) → y < h → w * h ≤ max_mask_dots → y * w + w ≤ max_mask_dots
row_inside w h y l d =
    let m : suc y * w ≤ h * w = mul-le-mul_right w l in
    let e : suc y * w ≡ y * w + w = suc-mul y w in
    let q = mul_comm w h in
    omega arith

module _ {w h c : ℕ} {s : List ℕ} {at y first before : ℕ} (R : RowSizable w h c s at y first before) where
  pub row-none : RowSweep w c s s at y first before first before
  row-none = record { sized = λ h₂ s₀ S. S; from = R.from }

  pub row_room : y * w + w ≤ max_mask_dots
  row_room = row_inside w h y R.low R.sweep.asks.dots

  module _ {s₁ : List ℕ} {k count : ℕ} (I : RowSweep w c s s₁ at y first before k count) where
    row-sweep : SizeSweep w h c at R.s₀ s₁ k count
    row-sweep = I.sized h R.s₀ R.sweep

    pub row-long : length s₁ ≡ length s
    row-long = size-long row-sweep ∙ sym (size-long R.sweep)

    -- the runs, their numbers and `at` lie within the words
    pub row_words : (c ≤ max_mask_dots) × (3 * c ≤ length s₁) × (at ≤ length s₁)
    row_words = size_room row-sweep

    runs_here : take (2 * c) s₁ ≡ take (2 * c) s
    runs_here = runs_same row-sweep ∙ sym (runs_same R.sweep)

    pub row_done : (k < c → y * w + w ≤ start_of (take (2 * c) s) k) → RowSized w c s s₁ at y first before k count
    row_done p = record { sized = I.sized; past = p }

    module _ (lk : k < c) (start : ℕ) (es : start ≡ get_or s₁ (2 * k) 0) where
      start-here : start ≡ start_of (take (2 * c) s₁) k
      start-here = es ∙ sym (get_or-take (2 * c) s₁ (2 * k) 0 (omega arith))

      pub row-start : (start ≡ start_of (take (2 * c) s) k) × (y * w ≤ start)
      row-start = let e = start-here ∙ ap (λ z. start_of z k) runs_here in let f = I.from lk in (e, omega arith)

      module _ (below : start < y * w + w) where
        row_is : y ≡ start / w
        row_is = row-found start w y row-start.1 below

        column-is : start - y * w ≡ start % w
        column-is = let m = ap (λ z. z * w) row_is in let d = div-add-mod' start w in omega arith

        pub row-span : SpanAhead w c s₁ (y * w) k
        row-span = record { comps = _; asks = size-list row-sweep; here = lk; row = ap (λ z. z * w) (row_is ∙ ap (λ z. z / w) start-here) }

        module _ (number : ℕ) (en : number ≡ get_or s₁ (2 * c + k) 0) {next last dots : ℕ} (X : (sum : ℕ) × SpanOf w c (take (2 * c) s₁) k next last dots sum) where
          span-is : SpanOf w c (take (2 * c) R.s₀) k next last dots X.0
          span-is = subst (λ z. SpanOf w c z k next last dots X.0) (runs_same row-sweep) X.1

          first-dot : start ≡ start_of (take (2 * c) R.s₀) k
          first-dot = start-here ∙ ap (λ z. start_of z k) (runs_same row-sweep)

          number_is : number ≡ component_number (first_run w c (take (2 * c) R.s₀)) k
          number_is = en ∙ ((size-list row-sweep).numbers k lk ∙ ap (λ z. component_number (first_run w c z) k) (runs_same row-sweep))

          pub row-asks : SpanSizable (take (length s₁ - at) (drop at s₁)) number count (start - y * w) last dots y
          row-asks = size-asks row-sweep lk span-is number (start - y * w) y number_is (column-is ∙ ap (λ z. z % w) first-dot) (row_is ∙ ap (λ z. z / w) first-dot)

          pub row_more : (part : List ℕ) (count₂ : ℕ) → part ≡ resized (take (length s₁ - at) (drop at s₁)) number count (start - y * w) last dots y → count₂ ≡ max count number
              → RowSweep w c s (put_mid at (length s₁ - at) s₁ part) at y first before next count₂
          row_more part count₂ ep ec =
              record {
                sized = λ h₂ s₀ T. more h₂ s₀ (I.sized h₂ s₀ T);
                from = λ q.
                    let a = I.from lk in
                    let b = X.1.some in
                    let e = ap (λ z. start_of z k) runs_here in
                    let e₂ = ap (λ z. start_of z next) runs_here in
                    let o = (size-list row-sweep).list.order.some k lk in
                    let v = (size-list row-sweep).list.order.rising k next b q in
                    omega arith;
              }
            where
              more : (h₂ : ℕ) (s₀ : List ℕ) → SizeSweep w h₂ c at s₀ s₁ k count → SizeSweep w h₂ c at s₀ (put_mid at (length s₁ - at) s₁ part) next count₂
              more h₂ s₀ T =
                  let r = runs_same T in
                  let d : start ≡ start_of (take (2 * c) s₀) k = start-here ∙ ap (λ z. start_of z k) r in
                  size-more T lk (subst (λ z. SpanOf w c z k next last dots X.0) r X.1) number (start - y * w) y
                  (en ∙ ((size-list T).numbers k lk ∙ ap (λ z. component_number (first_run w c z) k) r))
                  (column-is ∙ ap (λ z. z % w) d)
                  (row_is ∙ ap (λ z. z / w) d)
                  part count₂ ep ec

-- A plane: the runs of the rows before y have brought their dots

pub record PlaneSweep (w h c at : ℕ) (s₀ s : List ℕ) (k count y : ℕ) : Type 0 where
  pub sweep : SizeSweep w h c at s₀ s k count
  pub low : y ≤ h
  pub from : k < c → y * w ≤ start_of (take (2 * c) s) k

pub plane-none : {w h c at : ℕ} {s : List ℕ} → Sizable w h c s at → PlaneSweep w h c at s s 0 0 0
plane-none A = record { sweep = size_none A; low = omega arith; from = λ _. omega arith }

module _ {w h c at : ℕ} {s₀ s : List ℕ} {k count y : ℕ} (I : PlaneSweep w h c at s₀ s k count y) where
  pub plane-long : length s ≡ length s₀
  plane-long = size-long I.sweep

  pub plane-row : y < h → RowSizable w h c s at y k count
  plane-row l = record { s₀ = s₀; sweep = I.sweep; low = l; from = I.from }

  pub plane-more : y < h → {s' : List ℕ} {next count' : ℕ} → RowSized w c s s' at y k count next count' → PlaneSweep w h c at s₀ s' next count' (y + 1)
  plane-more l {s'} {next} Q =
      let T = Q.sized h s₀ I.sweep in
      let e : (y + 1) * w ≡ y * w + w = ap (λ z. z * w) (add-one y) ∙ suc-mul y w in
      record {
        sweep = T;
        low = omega arith;
        from = λ q. let p = Q.past q in let r = ap (λ z. start_of z next) (runs_same T ∙ sym (runs_same I.sweep)) in omega arith;
      }

  pub plane-done : h ≤ y → s ≡ take at s₀ ++ over (sizes w c s₀ c) (drop at s₀)
  plane-done g = size-done I.sweep (go (dec_lt k c))
    where
      -- no run is left: it would start past the plane
      go : Dec (k < c) → c ≤ k
      go (no z) = omega arith
      go (yes z) =
          let low = I.low in
          let m : y * w ≡ h * w = ap (λ z. z * w) (let e : y ≡ h = omega arith in e) in
          let q = mul_comm w h in
          let f = I.from z in
          let r = ap (λ z. start_of z k) (runs_same I.sweep) in
          let o = I.sweep.asks.list.order.some k z in
          let i = I.sweep.asks.within k z in
          absurd (omega arith)
