-- Runs of one component that follow one another in a row are absorbed at once.
use mathlib.Core.Path.{◌≡◌, refl, sym, ap, ◌∙◌}
use mathlib.Core.List.{List}
use Prim.Native.Nat.{ℕ, suc, ◌+◌, ◌-◌, ◌*◌, ◌/◌, ◌%◌, ◌≤◌, ◌<◌, min, max}
use native.Mathlib.Nat.{le_refl, add-mul, div-add-mod', div-mul-le_self, suc-mul, div-eq_of_lt-le}
use native.Mathlib.Numerals.{add-one}
use native.Mathlib.Omega.{arith}
use borrow.Author.Tests.{eq-eqb, ne_eqb}
use lib.ListN.{get_or, length, take, drop, length-drop}
use lib.Seq.{get_or-take, get_or-drop}
use Rattle.memory.proofs.PartLaws.{tail-part}
use Rattle.memory.specs.rules.Limits.{max_mask_side, max_mask_dots}
use Rattle.labelling.specs.stages.Absorbing.{column_sum, absorbed_run, absorbed_span}
use Rattle.labelling.specs.stages.InkRuns.{start_of, end_of, component_runs}
use Rattle.labelling.specs.stages.Spans.{number_by_runs, count_to, record_to, SpanAhead, SpanOf}
use Rattle.labelling.specs.stages.Tallying.{Tallyable}
use Rattle.labelling.specs.declared.component.Component.{Component}
use Rattle.labelling.proofs.RecordSweepLaws.{first-low, first-same, count-max, column-small, run-width, run-absorbed}

-- a run more, to the right of a span
span-absorb : (p : Component) (x last dots sum y x' d : ℕ) → x ≤ x' → last ≤ x' + d
    → absorbed_run (absorbed_span p x last dots sum y) x' d y ≡ absorbed_span p x (x' + d) (dots + suc d) (sum + column_sum x' (suc d)) y
span-absorb p x last dots sum y x' d l₁ l₂ =
    let m : (dots + suc d) * y ≡ dots * y + suc d * y = add-mul dots (suc d) y in
    let e₀ : p.area + dots + suc d ≡ p.area + (dots + suc d) = omega arith in
    let e₁ : min (min p.x0 x) x' ≡ min p.x0 x = omega arith in
    let e₂ : min (min p.y0 y) y ≡ min p.y0 y = omega arith in
    let e₃ : max (max p.x1 last) (x' + d) ≡ max p.x1 (x' + d) = omega arith in
    let e₄ : max (max p.y1 y) y ≡ max p.y1 y = omega arith in
    let e₅ : p.sum_x + sum + column_sum x' (suc d) ≡ p.sum_x + (sum + column_sum x' (suc d)) = omega arith in
    let e₆ : p.sum_y + dots * y + suc d * y ≡ p.sum_y + (dots + suc d) * y = omega arith in
    λ i. record { area = e₀ i; x0 = e₁ i; y0 = e₂ i; x1 = e₃ i; y1 = e₄ i; sum_x = e₅ i; sum_y = e₆ i }

-- the row of a dot
pub row-found : (dot w row : ℕ) → row * w ≤ dot → dot < row * w + w → row ≡ dot / w
row-found dot w row l₁ l₂ = let e : (row + 1) * w ≡ row * w + w = ap (λ z. z * w) (add-one row) ∙ suc-mul row w in sym (div-eq_of_lt-le w l₁ (let h : dot < (row + 1) * w = omega arith in h))

-- a run's place in its row, which starts at `base`: d dots after the first
pub record Place (w c : ℕ) (s : List ℕ) (k base start end : ℕ) : Type 0 where
  pub d : ℕ
  pub first-dot : start_of (take (2 * c) s) k ≡ base + start_of (take (2 * c) s) k % w
  pub last-dot : end_of (take (2 * c) s) 0 k ≡ start_of (take (2 * c) s) k + suc d
  pub inside : start_of (take (2 * c) s) k % w + d < w
  pub start_is : start ≡ start_of (take (2 * c) s) k
  pub end_is : end ≡ end_of (take (2 * c) s) 0 k
  pub column : start - base ≡ start_of (take (2 * c) s) k % w
  pub last-is : end - base - 1 ≡ start_of (take (2 * c) s) k % w + d
  pub dots_is : end - start ≡ suc d

-- its columns
pub place-columns : {w c : ℕ} {s : List ℕ} {k base start end : ℕ} → Place w c s k base start end → (start - base ≤ end - base - 1) × (end - base - 1 < w)
place-columns P = let a = P.column in let b = P.last-is in let e = P.inside in (omega arith, omega arith)

-- and its ends
pub place-ends : {w c : ℕ} {s : List ℕ} {k base start end : ℕ} → Place w c s k base start end → (base ≤ start) × (start < end) × (end ≤ base + w)
place-ends P = let a = P.first-dot in let b = P.last-dot in let e = P.inside in let f = P.start_is in let g = P.end_is in (omega arith, omega arith, omega arith)

-- and how many dots it has
pub place-dots : {w c : ℕ} {s : List ℕ} {k base start end : ℕ} → Place w c s k base start end → end - start ≡ suc (end - base - 1 - (start - base))
place-dots P = let a = P.first-dot in let b = P.last-dot in let f = P.start_is in let g = P.end_is in let e = P.inside in omega arith

place-sum : {w c : ℕ} {s : List ℕ} {k base start end : ℕ} (P : Place w c s k base start end) → column_sum (start - base) (suc (end - base - 1 - (start - base))) ≡ column_sum (start_of (take (2 * c) s) k % w) (suc P.d)
place-sum {w} {c} {s} {k} P = (λ i. column_sum (P.column i) (suc (P.last-is i - P.column i))) ∙ ap (λ z. column_sum (start_of (take (2 * c) s) k % w) (suc z)) (back (start_of (take (2 * c) s) k % w) P.d)
  where
    back : (x d : ℕ) → x + d - x ≡ d
    back x d = omega arith

module _ {w c : ℕ} {s comps : List ℕ} (A : Tallyable w c s comps) where
  run-place : (k base start end : ℕ) → k < c → start ≡ get_or s (2 * k) 0 → end ≡ get_or s (2 * k + 1) 0 → base ≡ start_of (take (2 * c) s) k / w * w → Place w c s k base start end
  run-place k base start end l es ee eb =
      let a : start ≡ start_of (take (2 * c) s) k = es ∙ sym (get_or-take (2 * c) s (2 * k) 0 (omega arith)) in
      let b : end ≡ end_of (take (2 * c) s) 0 k = ee ∙ sym (get_or-take (2 * c) s (2 * k + 1) 0 (omega arith)) in
      let m = div-add-mod' (start_of (take (2 * c) s) k) w in
      let o = A.list.order.some k l in
      let r = run-width w c s comps A k l in
      let x : start_of (take (2 * c) s) k ≡ base + start_of (take (2 * c) s) k % w = omega arith in
      let y : end_of (take (2 * c) s) 0 k ≡ start_of (take (2 * c) s) k + suc (end_of (take (2 * c) s) 0 k - start_of (take (2 * c) s) k - 1) = omega arith in
      at (end_of (take (2 * c) s) 0 k - start_of (take (2 * c) s) k - 1) a b x y r
    where
      at : (d : ℕ) → start ≡ start_of (take (2 * c) s) k → end ≡ end_of (take (2 * c) s) 0 k → start_of (take (2 * c) s) k ≡ base + start_of (take (2 * c) s) k % w
          → end_of (take (2 * c) s) 0 k ≡ start_of (take (2 * c) s) k + suc d → start_of (take (2 * c) s) k % w + d < w → Place w c s k base start end
      at d a b x y r = record { d = d; first-dot = x; last-dot = y; inside = r; start_is = a; end_is = b; column = omega arith; last-is = omega arith; dots_is = omega arith }

  own-step : (k : ℕ) {base start end : ℕ} (P : Place w c s k base start end) → k < c → record_to w c (take (2 * c) s) (number_by_runs w c (take (2 * c) s) k) (suc k)
      ≡ absorbed_run (record_to w c (take (2 * c) s) (number_by_runs w c (take (2 * c) s) k) k) (start_of (take (2 * c) s) k % w) P.d (start_of (take (2 * c) s) k / w)
  unfolding component_runs
  own-step k P l =
      let e = P.last-dot in
      rw (eq-eqb (number_by_runs w c (take (2 * c) s) k) (number_by_runs w c (take (2 * c) s) k) refl) (run-absorbed w c s comps A k (record_to w c (take (2 * c) s) (number_by_runs w c (take (2 * c) s) k) k) l)
      ∙ ap (λ z. absorbed_run (record_to w c (take (2 * c) s) (number_by_runs w c (take (2 * c) s) k) k) (start_of (take (2 * c) s) k % w) z (start_of (take (2 * c) s) k / w)) (let h : end_of (take (2 * c) s) 0 k - start_of (take (2 * c) s) k - 1 ≡ P.d = omega arith in h)

  other_step : (k q : ℕ) → (number_by_runs w c (take (2 * c) s) k ≡ q → ⊥) → record_to w c (take (2 * c) s) q (suc k) ≡ record_to w c (take (2 * c) s) q k
  unfolding component_runs
  other_step k q ne = rw (ne_eqb (number_by_runs w c (take (2 * c) s) k) q ne) refl

  count_next : (k : ℕ) → max (count_to w c (take (2 * c) s) k) (number_by_runs w c (take (2 * c) s) k) ≡ count_to w c (take (2 * c) s) (suc k)
  count_next k = count-max _ (first-low w c (take (2 * c) s)) (first-same w c (take (2 * c) s)) k

  -- a first run
  span-one : (first base start end sum : ℕ) → first < c → Place w c s first base start end → base ≡ start_of (take (2 * c) s) first / w * w
      → sum ≡ column_sum (start - base) (suc (end - base - 1 - (start - base))) → SpanOf w c (take (2 * c) s) first (first + 1) (end - base - 1) (end - start) sum
  span-one first base start end sum l P eb es =
      let a = P.first-dot in
      let b = P.last-dot in
      let u = P.inside in
      let n = A.list.narrow in
      let es₂ : sum ≡ column_sum (start_of (take (2 * c) s) first % w) (suc P.d) = es ∙ place-sum P in
      let q = column-small (start_of (take (2 * c) s) first % w) (suc P.d) max_mask_side (omega arith) in
      rw (add-one first, P.last-is, P.dots_is)
      (record {
        some = le_refl (suc first);
        upto = l;
        from = omega arith;
        narrow = u;
        few = omega arith;
        light = omega arith;
        ends = λ j z. ap (end_of (take (2 * c) s) 0) (let y : j ≡ first = omega arith in y) ∙ (let y : end_of (take (2 * c) s) 0 first ≡ start_of (take (2 * c) s) first / w * w + suc (start_of (take (2 * c) s) first % w + P.d) = omega arith in y);
        counted = count_next first;
        own = own-step first P l ∙ ap (λ z. absorbed_span (record_to w c (take (2 * c) s) (number_by_runs w c (take (2 * c) s) first) first) (start_of (take (2 * c) s) first % w) (start_of (take (2 * c) s) first % w + P.d) (suc P.d) z (start_of (take (2 * c) s) first / w)) (sym es₂);
        other = other_step first;
      })

  -- and one more
  module _ {first k last dots sum : ℕ} (S : SpanOf w c (take (2 * c) s) first k last dots sum) (lk : k < c) where
    span-before : start_of (take (2 * c) s) first / w * w + suc last ≤ start_of (take (2 * c) s) k
    span-before =
        let h = S.some in
        let e = S.ends (k - 1) (omega arith) in
        let o = A.list.order.rising (k - 1) k (omega arith) lk in
        omega arith

    -- in the same row
    span-row : (base : ℕ) → base ≡ start_of (take (2 * c) s) first / w * w → get_or s (2 * k) 0 < base + w → start_of (take (2 * c) s) first / w ≡ start_of (take (2 * c) s) k / w
    span-row base eb h =
        let b = span-before in
        let g = get_or-take (2 * c) s (2 * k) 0 (omega arith) in
        row-found (start_of (take (2 * c) s) k) w (start_of (take (2 * c) s) first / w) (omega arith) (omega arith)

    span-number : (label : ℕ) → label ≡ get_or s (2 * c + first) 0 → get_or s (2 * c + k) 0 ≡ label → number_by_runs w c (take (2 * c) s) first ≡ number_by_runs w c (take (2 * c) s) k
    span-number label e₁ e₂ = let h = S.some in sym (A.numbers first (omega arith)) ∙ (sym e₁ ∙ (sym e₂ ∙ A.numbers k lk))

    span_more : (base start end sum' : ℕ) → Place w c s k base start end → base ≡ start_of (take (2 * c) s) first / w * w
        → number_by_runs w c (take (2 * c) s) first ≡ number_by_runs w c (take (2 * c) s) k → start_of (take (2 * c) s) first / w ≡ start_of (take (2 * c) s) k / w
        → sum' ≡ column_sum (start - base) (suc (end - base - 1 - (start - base)))
        → SpanOf w c (take (2 * c) s) first (k + 1) (end - base - 1) (dots + (end - start)) (sum + sum')
    span_more base start end sum' P eb en er es =
        let a = P.first-dot in
        let b = P.last-dot in
        let u = P.inside in
        let n = A.list.narrow in
        let h = S.some in
        let f = S.few in
        let g = S.light in
        let m = S.from in
        let v = span-before in
        let c₁ = S.counted in
        let c₂ = count_next k in
        let nk = ap (λ z. max (count_to w c (take (2 * c) s) k) z) en in
        let es₂ : sum' ≡ column_sum (start_of (take (2 * c) s) k % w) (suc P.d) = es ∙ place-sum P in
        let q = column-small (start_of (take (2 * c) s) k % w) (suc P.d) max_mask_side (omega arith) in
        rw (add-one k, P.last-is, P.dots_is)
        (record {
          some = omega arith;
          upto = lk;
          from = omega arith;
          narrow = u;
          few = omega arith;
          light = omega arith;
          ends = λ j z. ap (end_of (take (2 * c) s) 0) (let y : j ≡ k = omega arith in y) ∙ (let y : end_of (take (2 * c) s) 0 k ≡ start_of (take (2 * c) s) first / w * w + suc (start_of (take (2 * c) s) k % w + P.d) = omega arith in y);
          counted = omega arith;
          own =
              ap (λ z. record_to w c (take (2 * c) s) z (suc k)) en
              ∙ (own-step k P lk
              ∙ ((λ i. absorbed_run (record_to w c (take (2 * c) s) (sym en i) k) (start_of (take (2 * c) s) k % w) P.d (sym er i))
              ∙ (ap (λ z. absorbed_run z (start_of (take (2 * c) s) k % w) P.d (start_of (take (2 * c) s) first / w)) S.own
              ∙ (span-absorb (record_to w c (take (2 * c) s) (number_by_runs w c (take (2 * c) s) first) first) (start_of (take (2 * c) s) first % w) last dots sum (start_of (take (2 * c) s) first / w) (start_of (take (2 * c) s) k % w) P.d (omega arith) (omega arith)
              ∙ ap (λ z. absorbed_span (record_to w c (take (2 * c) s) (number_by_runs w c (take (2 * c) s) first) first) (start_of (take (2 * c) s) first % w) (start_of (take (2 * c) s) k % w + P.d) (dots + suc P.d) (sum + z) (start_of (take (2 * c) s) first / w)) (sym es₂)))));
          other = λ q ne. other_step k q (λ e. ne (en ∙ e)) ∙ S.other q ne;
        })

-- Numbers behind the runs, as a part of the words

pub behind-long : (c : ℕ) (s : List ℕ) → 3 * c ≤ length s → c ≤ length (take (length s - 2 * c) (drop (2 * c) s))
behind-long c s h = rw (tail-part (2 * c) s) (simp length-drop (omega arith))

pub behind-goes : (c : ℕ) (s : List ℕ) (k number limit : ℕ) → (k < c) × (get_or (take (length s - 2 * c) (drop (2 * c) s)) k 0 ≡ number) × (get_or s (2 * k) 0 < limit)
    → (k < c) × (get_or s (2 * c + k) 0 ≡ number) × (get_or s (2 * k) 0 < limit)
behind-goes c s k number limit g = (g.0, sym (get_or-drop (2 * c) s k 0) ∙ (ap (λ z. get_or z k 0) (sym (tail-part (2 * c) s)) ∙ g.1), g.2)

-- The span that starts with run `first`

module _ {w c : ℕ} {s : List ℕ} {base first : ℕ} (P : SpanAhead w c s base first) where
  pub span-room : (c ≤ max_mask_dots) × (3 * c ≤ length s) × (first < c) × (base ≤ max_mask_dots) × (w ≤ max_mask_side)
  span-room =
      let e = P.row in
      let d = div-mul-le_self (start_of (take (2 * c) s) first) w in
      let o = P.asks.list.order.some first P.here in
      let i = P.asks.within first P.here in
      (P.asks.list.few, P.asks.list.room, P.here, omega arith, P.asks.list.narrow)

  module _ (start end : ℕ) (es : start ≡ get_or s (2 * first) 0) (ee : end ≡ get_or s (2 * first + 1) 0) where
    pub first-place : Place w c s first base start end
    first-place = run-place P.asks first base start end P.here es ee P.row

    pub first-span : (sum : ℕ) → sum ≡ column_sum (start - base) (suc (end - base - 1 - (start - base))) → SpanOf w c (take (2 * c) s) first (first + 1) (end - base - 1) (end - start) sum
    first-span sum e = span-one P.asks first base start end sum P.here first-place P.row e

  -- the next, run k, has its label and lies in its row
  module _ {k last dots sum : ℕ} (S : SpanOf w c (take (2 * c) s) first k last dots sum) (label : ℕ) (el : label ≡ get_or s (2 * c + first) 0)
      (G : (k < c) × (get_or s (2 * c + k) 0 ≡ label) × (get_or s (2 * k) 0 < base + w)) (start end : ℕ) (es : start ≡ get_or s (2 * k) 0) (ee : end ≡ get_or s (2 * k + 1) 0) where
    same_row : start_of (take (2 * c) s) first / w ≡ start_of (take (2 * c) s) k / w
    same_row = span-row P.asks S G.0 base P.row G.2

    pub next_place : Place w c s k base start end
    next_place = run-place P.asks k base start end G.0 es ee (P.row ∙ ap (λ z. z * w) same_row)

    pub next-span : (more : ℕ) → more ≡ column_sum (start - base) (suc (end - base - 1 - (start - base))) → SpanOf w c (take (2 * c) s) first (k + 1) (end - base - 1) (dots + (end - start)) (sum + more)
    next-span more e = span_more P.asks S G.0 base start end more next_place P.row (span-number P.asks S G.0 label el G.1) same_row e
