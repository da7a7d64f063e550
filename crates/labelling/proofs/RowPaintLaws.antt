-- Labels painted and components tallied span by span, and row by row.
use mathlib.Core.Path.{◌≡◌, refl, sym, ap, ◌∙◌, subst}
use mathlib.Core.List.{List}
use Prim.Native.Nat.{ℕ, suc, ◌+◌, ◌-◌, ◌*◌, ◌/◌, ◌%◌, ◌≤◌, ◌<◌, max}
use native.Mathlib.Nat.{le_refl, le_trans, div-add-mod', mod-lt, mul_comm, suc-mul, mul-le-mul_right}
use native.Mathlib.Decide.{dec_lt}
use native.Mathlib.Omega.{arith}
use lib.ListN.{get_or, length, take}
use lib.Seq.{get_or-take}
use Rattle.memory.specs.rules.Limits.{max_mask_side, max_mask_dots}
use Rattle.memory.specs.rules.Words.{over}
use Rattle.memory.specs.stages.Stored.{Stored}
use Rattle.labelling.specs.stages.Absorbing.{column_sum}
use Rattle.labelling.specs.stages.InkRuns.{start_of, component_number}
use Rattle.labelling.specs.stages.Linking.{first_run}
use Rattle.labelling.specs.stages.Spans.{SpanOf}
use Rattle.labelling.specs.stages.Tallying.{tallied, SpanTallyable, records, Tallyable, TallySweep}
use Rattle.labelling.specs.stages.Painting.{numbered, RunPainted, Paintable, Painted, PaintSweep, PaintsOn, SpanPaintable, SpanPainted, RowPaintable, RowPainted}
use Rattle.labelling.proofs.PaintLaws.{numbered-turn, numbered-number, numbered-length, paint-none, paint-clear, paint-more, paint-done}
use Rattle.labelling.proofs.RecordSweepLaws.{tally-none, tally-long, tally-asks, tally-more, tally-done}
use Rattle.labelling.proofs.SpanLaws.{row-found, Place, place-ends, span-room, first-place, first-span, next_place, next-span}

-- A span

pub paints-then : {s : List ℕ} {c : ℕ} {l₁ l₂ l₃ : List ℕ} {limit a x b y k z : ℕ} → PaintsOn s c l₁ l₂ limit a x b y → PaintsOn s c l₂ l₃ limit b y k z → PaintsOn s c l₁ l₃ limit a x k z
paints-then I J n l₀ h S = J n l₀ h (I n l₀ h S)

module _ {w c : ℕ} (t numbers : List ℕ) {l : List ℕ} {base first clear : ℕ} (ht : 2 * c ≤ length t) (P : SpanPaintable w c (numbered c t numbers) l base first clear) where
  pub paints-room : (c ≤ max_mask_dots) × (c ≤ length numbers) × (first < c) × (base + w ≤ max_mask_dots) × (w ≤ max_mask_side)
  paints-room = let r = span-room P.ahead in let i = P.inside in let d = P.sweep.asks.dots in (r.0, (let e = numbered-length c t numbers ht in let l = r.1 in omega arith), r.2, omega arith, r.4)

  -- the labels keep their length
  pub paints-long : {l' : List ℕ} {k clear' : ℕ} → PaintsOn (numbered c t numbers) c l l' (base + w) first clear k clear' → length l' ≡ length l
  paints-long I = (I P.n P.l₀ P.inside P.sweep).len ∙ sym P.sweep.len

  row_fits : (base + w ≤ length l) × (base + w ≤ max_mask_dots)
  row_fits = let i = P.inside in let d = P.sweep.asks.dots in let a = P.sweep.asks.labels in let n = P.sweep.len in (omega arith, omega arith)

  -- its first run
  module _ (start end : ℕ) (es : start ≡ get_or t (2 * first) 0) (ee : end ≡ get_or t (2 * first + 1) 0) where
    first-start : start ≡ get_or (numbered c t numbers) (2 * first) 0
    first-start = es ∙ sym (numbered-turn c t numbers ht (2 * first) (let h = P.ahead.here in omega arith))

    first-end : end ≡ get_or (numbered c t numbers) (2 * first + 1) 0
    first-end = ee ∙ sym (numbered-turn c t numbers ht (2 * first + 1) (let h = P.ahead.here in omega arith))

    pub first-here : Place w c (numbered c t numbers) first base start end
    first-here = first-place P.ahead start end first-start first-end

    pub first-sum : (sum : ℕ) → sum ≡ column_sum (start - base) (suc (end - base - 1 - (start - base)))
        → SpanOf w c (take (2 * c) (numbered c t numbers)) first (first + 1) (end - base - 1) (end - start) sum
    first-sum sum e = first-span P.ahead start end first-start first-end sum e

    pub first-asks : (start < end) × (clear ≤ base + w) × (end ≤ base + w) × (base + w ≤ length l) × (base + w ≤ max_mask_dots)
    first-asks = let e = place-ends first-here in (e.1, P.near, e.2, row_fits.0, row_fits.1)

    pub first-painted : (l' : List ℕ) {r : ℕ} → RunPainted l l' clear start end (base + w) (get_or numbers first 0) r → PaintsOn (numbered c t numbers) c l l' (base + w) first clear (first + 1) r
    first-painted l' {r} X n l₀ h S =
        let C = X.cleared in
        paint-more (paint-clear S X.between r C.from (le_trans C.upto h) C.filled) P.ahead.here start end first-start first-end C.reach l'
        (subst (λ (z : ℕ). Stored (λ _. z) start (end - start) X.between l') (sym (numbered-number c t numbers ht first)) X.filled)

  -- and the next, run k
  module _ {k last dots sum : ℕ} (S : SpanOf w c (take (2 * c) (numbered c t numbers)) first k last dots sum) (number : ℕ) (el : number ≡ get_or numbers first 0)
      (G : (k < c) × (get_or numbers k 0 ≡ number) × (get_or t (2 * k) 0 < base + w)) (start end : ℕ) (es : start ≡ get_or t (2 * k) 0) (ee : end ≡ get_or t (2 * k + 1) 0) where
    next_start : start ≡ get_or (numbered c t numbers) (2 * k) 0
    next_start = es ∙ sym (numbered-turn c t numbers ht (2 * k) (let h = G.0 in omega arith))

    next-end : end ≡ get_or (numbered c t numbers) (2 * k + 1) 0
    next-end = ee ∙ sym (numbered-turn c t numbers ht (2 * k + 1) (let h = G.0 in omega arith))

    own-number : number ≡ get_or (numbered c t numbers) (2 * c + first) 0
    own-number = el ∙ sym (numbered-number c t numbers ht first)

    next_one : (k < c) × (get_or (numbered c t numbers) (2 * c + k) 0 ≡ number) × (get_or (numbered c t numbers) (2 * k) 0 < base + w)
    next_one = (G.0, numbered-number c t numbers ht k ∙ G.1, let e = numbered-turn c t numbers ht (2 * k) (let h = G.0 in omega arith) in let g = G.2 in omega arith)

    pub next_here : Place w c (numbered c t numbers) k base start end
    next_here = next_place P.ahead S number own-number next_one start end next_start next-end

    pub next-sum : (more : ℕ) → more ≡ column_sum (start - base) (suc (end - base - 1 - (start - base)))
        → SpanOf w c (take (2 * c) (numbered c t numbers)) first (k + 1) (end - base - 1) (dots + (end - start)) (sum + more)
    next-sum more e = next-span P.ahead S number own-number next_one start end next_start next-end more e

    pub next-asks : {l₁ : List ℕ} {clear₁ : ℕ} → PaintsOn (numbered c t numbers) c l l₁ (base + w) first clear k clear₁ → clear₁ ≤ base + w
        → (start < end) × (clear₁ ≤ base + w) × (end ≤ base + w) × (base + w ≤ length l₁) × (base + w ≤ max_mask_dots)
    next-asks I h = let e = place-ends next_here in let m = paints-long I in let f = row_fits.0 in (e.1, h, e.2, omega arith, row_fits.1)

    pub next-painted : {l' l₁ : List ℕ} {a x clear₁ r : ℕ} → PaintsOn (numbered c t numbers) c l' l₁ (base + w) a x k clear₁
        → (l₂ : List ℕ) → RunPainted l₁ l₂ clear₁ start end (base + w) number r → PaintsOn (numbered c t numbers) c l' l₂ (base + w) a x (k + 1) r
    next-painted {l'} {l₁} {a} {x} {clear₁} {r} I l₂ X n l₀ h T =
        let C = X.cleared in
        paint-more (paint-clear (I n l₀ h T) X.between r C.from (le_trans C.upto h) C.filled) G.0 start end next_start next-end C.reach l₂
        (subst (λ (z : ℕ). Stored (λ _. z) start (end - start) X.between l₂) (sym next_one.1) X.filled)

-- A row: the runs from `first` up to k are painted and tallied, and run k lies in row y or past it

pub record RowSweep (w c : ℕ) (s l l' comps comps' : List ℕ) (y first before clear k count clear' : ℕ) : Type 0 where
  pub painted : PaintsOn s c l l' (y * w + w) first clear k clear'
  pub near : clear' ≤ y * w + w
  pub tallied : (comps₀ : List ℕ) → TallySweep w c s comps₀ comps first before → TallySweep w c s comps₀ comps' k count
  pub from : k < c → y * w ≤ start_of (take (2 * c) s) k

module _ {w c : ℕ} (t numbers : List ℕ) {l comps : List ℕ} {y first before clear : ℕ} (ht : 2 * c ≤ length t) (R : RowPaintable w c (numbered c t numbers) l comps y first before clear) where
  pub row-none : RowSweep w c (numbered c t numbers) l l comps comps y first before clear first before clear
  row-none = record { painted = λ n l₀ h S. S; near = R.near; tallied = λ comps₀ T. T; from = R.from }

  pub row_room : (c ≤ max_mask_dots) × (c ≤ length numbers) × (y * w + w ≤ max_mask_dots)
  row_room = let i = R.inside in let d = R.sweep.asks.dots in (R.tally.asks.list.few, (let e = numbered-length c t numbers ht in let l = R.tally.asks.list.room in omega arith), omega arith)

  module _ {l₁ comps₁ : List ℕ} {k count clear₁ : ℕ} (I : RowSweep w c (numbered c t numbers) l l₁ comps comps₁ y first before clear k count clear₁) where
    row-sweep : PaintSweep (numbered c t numbers) c R.l₀ l₁ R.n k clear₁
    row-sweep = I.painted R.n R.l₀ R.inside R.sweep

    row-tally : TallySweep w c (numbered c t numbers) R.comps₀ comps₁ k count
    row-tally = I.tallied R.comps₀ R.tally

    pub row-long : (length l₁ ≡ length l) × (length comps₁ ≡ length comps)
    row-long = (row-sweep.len ∙ sym R.sweep.len, tally-long row-tally ∙ sym (tally-long R.tally))

    pub row_done : (k < c → y * w + w ≤ get_or t (2 * k) 0) → RowPainted w c (numbered c t numbers) l l₁ comps comps₁ y first before clear k count clear₁
    row_done h =
        record {
          painted = I.painted;
          near = I.near;
          tallied = I.tallied;
          past = λ q. let e = numbered-turn c t numbers ht (2 * k) (omega arith) in let g = get_or-take (2 * c) (numbered c t numbers) (2 * k) 0 (omega arith) in let p = h q in omega arith;
        }

    module _ (lk : k < c) (start : ℕ) (es : start ≡ get_or t (2 * k) 0) where
      pub row-start : (start ≡ start_of (take (2 * c) (numbered c t numbers)) k) × (y * w ≤ start)
      row-start =
          let e = es ∙ (sym (numbered-turn c t numbers ht (2 * k) (omega arith)) ∙ sym (get_or-take (2 * c) (numbered c t numbers) (2 * k) 0 (omega arith))) in
          let f = I.from lk in
          (e, omega arith)

      module _ (h : start < y * w + w) where
        row_is : y ≡ start_of (take (2 * c) (numbered c t numbers)) k / w
        row_is = let e = row-start.0 in let f = I.from lk in row-found (start_of (take (2 * c) (numbered c t numbers)) k) w y f (omega arith)

        column-is : start - y * w ≡ start_of (take (2 * c) (numbered c t numbers)) k % w
        column-is = let e = row-start.0 in let m = ap (λ z. z * w) row_is in let d = div-add-mod' (start_of (take (2 * c) (numbered c t numbers)) k) w in omega arith

        pub row-span : SpanPaintable w c (numbered c t numbers) l₁ (y * w) k clear₁
        row-span =
            record {
              n = R.n;
              l₀ = R.l₀;
              inside = R.inside;
              sweep = row-sweep;
              near = I.near;
              ahead = record { comps = R.comps₀; asks = R.tally.asks; here = lk; row = ap (λ z. z * w) row_is };
            }

        module _ (number : ℕ) (en : number ≡ get_or numbers k 0) {l₂ : List ℕ} {next clear₂ last dots sum : ℕ} (X : SpanPainted w c (numbered c t numbers) l₁ l₂ (y * w + w) k clear₁ next clear₂ last dots sum) where
          number_is : number ≡ component_number (first_run w c (take (2 * c) (numbered c t numbers))) k
          number_is = en ∙ (sym (numbered-number c t numbers ht k) ∙ R.tally.asks.numbers k lk)

          pub row-asks : SpanTallyable comps₁ number count (start - y * w) last dots sum y
          row-asks = tally-asks row-tally lk X.span number (start - y * w) y number_is column-is row_is

          pub row_more : (comps₂ : List ℕ) (count₂ : ℕ) → (comps₂ ≡ tallied comps₁ number count (start - y * w) last dots sum y) × (count₂ ≡ max count number)
              → RowSweep w c (numbered c t numbers) l l₂ comps comps₂ y first before clear next count₂ clear₂
          row_more comps₂ count₂ e =
              record {
                painted = paints-then I.painted X.painted;
                near = X.near;
                tallied = λ comps₀ T. tally-more (I.tallied comps₀ T) lk X.span number (start - y * w) y number_is column-is row_is comps₂ count₂ e.0 e.1;
                from = λ q. let a = I.from lk in let b = X.span.some in let z = R.tally.asks.list.order.some k lk in let v = R.tally.asks.list.order.rising k next b q in omega arith;
              }

-- A plane: the first k runs are painted and tallied, and the labels up to `clear`, before the next run, cleared

pub record PlaneSweep (w c h : ℕ) (s l₀ l comps₀ comps : List ℕ) (k count clear : ℕ) : Type 0 where
  pub sweep : PaintSweep s c l₀ l (w * h) k clear
  pub tally : TallySweep w c s comps₀ comps k count
  pub from : k < c → clear ≤ start_of (take (2 * c) s) k

pub plane-none : {w c h : ℕ} {s l comps : List ℕ} → Paintable s c l (w * h) → Tallyable w c s comps → PlaneSweep w c h s l l comps comps 0 0 0
plane-none P T = record { sweep = paint-none P; tally = tally-none T; from = λ _. omega arith }

module _ {w c h : ℕ} (t numbers : List ℕ) {l₀ l comps₀ comps : List ℕ} {k count clear : ℕ} (ht : 2 * c ≤ length t) (I : PlaneSweep w c h (numbered c t numbers) l₀ l comps₀ comps k count clear) where
  pub plane-long : (length l ≡ length l₀) × (length comps ≡ length comps₀)
  plane-long = (I.sweep.len, tally-long I.tally)

  -- the labels fit
  pub plane-fits : (clear ≤ w * h) × (w * h ≤ max_mask_dots) × (w * h ≤ length l)
  plane-fits = let a = I.sweep.asks.labels in let n = I.sweep.len in (I.sweep.inside, I.sweep.asks.dots, omega arith)

  -- run k lies in row y
  module _ (lk : k < c) (start y : ℕ) (es : start ≡ get_or t (2 * k) 0) (ey : y ≡ start / w) where
    start_is : start ≡ start_of (take (2 * c) (numbered c t numbers)) k
    start_is = es ∙ (sym (numbered-turn c t numbers ht (2 * k) (omega arith)) ∙ sym (get_or-take (2 * c) (numbered c t numbers) (2 * k) 0 (omega arith)))

    here : (y * w ≤ start) × (start < y * w + w) × (y * w + w ≤ w * h)
    here =
        let a = div-add-mod' start w in
        let b = mod-lt start I.tally.asks.list.wide in
        let m : y * w ≡ start / w * w = ap (λ z. z * w) ey in
        let o = I.sweep.asks.order.some k lk in
        let i = I.sweep.asks.within k lk in
        let e = start_is in
        let q = mul_comm w h in
        let ly : y < h = below (omega arith) in
        let r : suc y * w ≤ h * w = mul-le-mul_right w ly in
        let t : suc y * w ≡ y * w + w = suc-mul y w in
        (omega arith, omega arith, omega arith)
      where
        below : y * w < w * h → y < h
        below l = go (dec_lt y h)
          where
            go : Dec (y < h) → y < h
            go (yes z) = z
            go (no z) = let r : h * w ≤ y * w = mul-le-mul_right w (let u : h ≤ y = omega arith in u) in let q = mul_comm w h in absurd (omega arith)

    pub plane-ahead : RowPaintable w c (numbered c t numbers) l comps y k count clear
    plane-ahead =
        record {
          n = w * h;
          l₀ = l₀;
          inside = here.2;
          sweep = I.sweep;
          near = let b = here.1 in let f = I.from lk in let e = start_is in omega arith;
          comps₀ = comps₀;
          tally = I.tally;
          from = λ q. let a = here.0 in let e = start_is in omega arith;
        }

    module _ {l₂ comps₂ : List ℕ} {next count₂ clear₂ : ℕ} (Q : RowPainted w c (numbered c t numbers) l l₂ comps comps₂ y k count clear next count₂ clear₂) where
      pub plane-more : PlaneSweep w c h (numbered c t numbers) l₀ l₂ comps₀ comps₂ next count₂ clear₂
      plane-more = record { sweep = Q.painted (w * h) l₀ here.2 I.sweep; tally = Q.tallied comps₀ I.tally; from = λ q. le_trans Q.near (Q.past q) }

      -- run k is among those painted
      pub plane-on : k < next
      plane-on = go (dec_lt k next)
        where
          go : Dec (k < next) → k < next
          go (yes z) = z
          go (no z) = absurd (behind (dec_lt next k))
            where
              late : y * w + w ≤ start_of (take (2 * c) (numbered c t numbers)) next
              late = Q.past (omega arith)

              behind : Dec (next < k) → ⊥
              behind (yes u) =
                  let o = I.sweep.asks.order.some next (omega arith) in
                  let v = I.sweep.asks.order.rising next k u lk in
                  let p = late in
                  let b = here.1 in
                  let e = start_is in
                  omega arith
              behind (no u) =
                  let z : next ≡ k = omega arith in
                  let p = late in
                  let m = ap (start_of (take (2 * c) (numbered c t numbers))) z in
                  let b = here.1 in
                  let e = start_is in
                  omega arith

  pub plane-done : c ≤ k → (l₁ : List ℕ) → Stored (λ _. 0) clear (w * h - clear) l l₁ → Painted (numbered c t numbers) c l₀ l₁ (w * h) × (comps ≡ over (records w c (numbered c t numbers) c) comps₀)
  plane-done all l₁ X = (paint-done (paint-clear I.sweep l₁ (w * h) I.sweep.inside (le_refl (w * h)) X) all refl, tally-done I.tally all)
