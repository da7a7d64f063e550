-- Runs written and linked row by row: the runs of one row more are known, and those known before stay linked.
use mathlib.Core.Path.{◌≡◌, refl, sym, ap, ◌∙◌, subst}
use mathlib.Core.List.{List, ◌++◌}
use Prim.Native.Nat.{ℕ, suc, ◌+◌, ◌-◌, ◌*◌, ◌/◌, ◌≤◌, ◌<◌}
use native.Mathlib.Nat.{le_refl, not-suc-le-zero, mul_comm, mul_left_comm, mul-mod_left, mul-le-mul_right}
use native.Mathlib.Decide.{dec_lt}
use native.Mathlib.Omega.{arith}
use lib.ListN.{get_or, length, take, drop, length-map, get_or-append}
use lib.Seq.{get_or-take, get_or-append-add, length-take-le}
use Rattle.labelling.specs.stages.InkRuns.{turns, run_count, run_of, start_of, end_of, Runs, touch_runs}
use Rattle.labelling.specs.stages.Extraction.{row_turns, RowExtracted, Extracted}
use Rattle.labelling.specs.stages.Linking.{touching, Linked, RowAhead, RowLinked, LinkRoom, LinkedRuns}
use Rattle.union_find.proofs.FirstLaws.{get_or-mapped}
use Rattle.union_find.proofs.LinkLaws.{seen_wider}
use Rattle.union_find.proofs.ParentLaws.{forest-same}
use Rattle.labelling.proofs.RunLabelLaws.{runs-low, turns-whole, runs-whole}
use Rattle.labelling.proofs.ScanLaws.{turns_fit}
use Rattle.labelling.proofs.ExtractLaws as scans
use Rattle.labelling.proofs.RunLinkLaws as links

-- More runs known

touch-same : (w : ℕ) (S E S' E' : ℕ → ℕ) (a b : ℕ) → S' a ≡ S a → S' b ≡ S b → E' a ≡ E a → E' b ≡ E b → touch_runs w S' E' a b ≡ touch_runs w S E a b
unfolding touch_runs
touch-same w S E S' E' a b p q u v = rw (p, q, u, v) refl

-- the first c runs are as they were, and the parents of those below j
pub linked-more : (w c c' : ℕ) (t t' p p' : List ℕ) (j : ℕ) → c ≤ c' → j ≤ c → ((i : ℕ) → i < 2 * c → get_or t' i 0 ≡ get_or t i 0) → ((i : ℕ) → i < j → get_or p' i 0 ≡ get_or p i 0)
    → Linked w c t p j → Linked w c' t' p' j
linked-more w c c' t t' p p' j l lj same parents L =
    record {
      rep = L.rep;
      seen =
          seen_wider (touching w t) (touching w t') c c' l
          (λ a b h k. touch-same w (start_of t) (end_of t 0) (start_of t') (end_of t' 0) a b (same (2 * a) (omega arith)) (same (2 * b) (omega arith)) (same (2 * a + 1) (omega arith)) (same (2 * b + 1) (omega arith)))
          L.rep j lj L.seen;
      forest = forest-same L.rep p p' j parents L.forest;
    }

-- Row by row

-- the rows before row y are read, and their runs linked; the parents begin at word q
pub record LinkSweep (w h : ℕ) (m s₀ s : List ℕ) (q above here base y : ℕ) : Type 0 where
  pub asks : LinkRoom w h m s₀ q
  pub scan : scans.PlaneScan w h m s₀ s (2 * here) base y
  pub sweep : links.PlaneSweep w here q h s s above here base y

pub link-none : {w h : ℕ} {m s : List ℕ} {q : ℕ} → LinkRoom w h m s q → LinkSweep w h m s s q 0 0 0 0
link-none {w} {h} {m} {s} {q} A =
    record {
      asks = A;
      scan = scans.plane-none A.plane;
      sweep =
          links.plane-none w 0 q h s
          (record {
            wide = A.plane.wide;
            narrow = A.plane.narrow;
            few = omega arith;
            place = omega arith;
            room = let r = A.room in omega arith;
            order = record { some = λ k l. absurd (not-suc-le-zero l); rising = λ j k l l₂. absurd (not-suc-le-zero l₂) };
          })
          A.plane.low
          (λ k l. absurd (not-suc-le-zero l));
    }

-- a row's turns start at its first dot or later
turns-low : (base : ℕ) (row : List ℕ) (i : ℕ) → i < length (row_turns row base) → base ≤ get_or (row_turns row base) i 0
turns-low base row i l =
    let t = turns (length row) row (length row) in
    let n = length-map t (λ i. base + i) in
    let e = get_or-mapped (λ i. base + i) t i 0 0 (omega arith) in
    omega arith

module _ {w h : ℕ} {m s₀ s : List ℕ} {q above here base y : ℕ} (S : LinkSweep w h m s₀ s q above here base y) (l : y < h) where
  module _ (s₁ : List ℕ) (r : ℕ) (X : RowExtracted (take (base + w - base) (drop base m)) base s s₁ (2 * here) r) where
    hw : 0 < w
    hw = S.asks.plane.wide

    read : scans.PlaneScan w h m s₀ s₁ r (base + w) (y + 1)
    read = scans.plane-more S.scan l s₁ r X

    abbrev known : ℕ
    known = r / 2

    -- as many runs as the rows read have
    known_is : (2 * known ≡ r) × (known ≡ run_count w m ((y + 1) * w))
    known_is = let p = read.place in let e = turns-whole w ((y + 1) * w) m hw (mul-mod_left (y + 1) w) in (omega arith, omega arith)

    end_is : base + w ≡ (y + 1) * w
    end_is = read.base-is

    end_low : (y + 1) * w ≤ w * h
    end_low = let c = mul_comm w h in let d : (y + 1) * w ≤ h * w = mul-le-mul_right w (let x : y + 1 ≤ h = omega arith in x) in omega arith

    -- the turns of the rows read take no more words than there are before the parents, and leave one
    turns-before : r < q
    turns-before =
        let p = read.place in
        let f = turns_fit w m hw (y + 1) in
        let g : (y + 1) * ((w + 1) / 2) ≤ h * ((w + 1) / 2) = mul-le-mul_right ((w + 1) / 2) (let x : y + 1 ≤ h = omega arith in x) in
        let e : h * (2 * ((w + 1) / 2)) ≡ 2 * (h * ((w + 1) / 2)) = mul_left_comm h 2 ((w + 1) / 2) in
        let a = S.asks.place in
        omega arith

    known-low : 2 * known ≤ q
    known-low = let k = known_is.0 in let u = turns-before in omega arith

    -- so no parent has changed
    parents-kept : drop q s₁ ≡ drop q s
    parents-kept = scans.rest-further s₁ s (suc r) q turns-before X.rest

    known-few : known ≤ w * h
    known-few = let a = runs-low w m ((y + 1) * w) in let b = known_is.1 in let c = end_low in omega arith

    known_more : here ≤ known
    known_more = let e = X.upto in let k = known_is.0 in omega arith

    -- the turns of the runs now known: those known before, then the row's
    all-turns : take (2 * known) s₁ ≡ take (2 * here) s ++ row_turns (take (base + w - base) (drop base m)) base
    all-turns = ap (λ z. take z s₁) known_is.0 ∙ X.words

    front_long : length (take (2 * here) s) ≡ 2 * here
    front_long = length-take-le (2 * here) s (let p = S.sweep.list.place in let r = S.sweep.list.room in omega arith)

    old-word : (i : ℕ) → i < 2 * here → get_or (take (2 * known) s₁) i 0 ≡ get_or (take (2 * here) s) i 0
    old-word i h = ap (λ z. get_or z i 0) all-turns ∙ get_or-append (take (2 * here) s) _ 0 i (let n = front_long in omega arith)

    new-start : (a : ℕ) → here ≤ a → a < known → base ≤ start_of (take (2 * known) s₁) a
    new-start a h k =
        let row = take (base + w - base) (drop base m) in
        let i = 2 * a - 2 * here in
        let n = front_long in
        let u = X.upto in
        let d = known_is.0 in
        let e = ap (λ z. get_or z (2 * a) 0) all-turns
        ∙ (ap (λ z. get_or (take (2 * here) s ++ row_turns row base) z 0) (let q : 2 * a ≡ length (take (2 * here) s) + i = omega arith in q)
        ∙ get_or-append-add (take (2 * here) s) (row_turns row base) i 0) in
        let g = turns-low base row i (omega arith) in
        omega arith

    all_runs : Runs w m ((y + 1) * w) known (start_of (take (2 * known) s₁)) (end_of (take (2 * known) s₁) 0) (run_of w m)
    all_runs =
        let T = ap (λ z. take z s₁) known_is.0 ∙ read.words in
        subst (λ z. Runs w m ((y + 1) * w) z (start_of (take (2 * known) s₁)) (end_of (take (2 * known) s₁) 0) (run_of w m)) (sym known_is.1)
        (subst (λ t. Runs w m ((y + 1) * w) (run_count w m ((y + 1) * w)) (start_of t) (end_of t 0) (run_of w m)) (sym T) (runs-whole w ((y + 1) * w) m hw (mul-mod_left (y + 1) w)))

    -- the row's runs are known, and not linked yet
    written : links.PlaneSweep w known q h s₁ s₁ above here base y
    written =
        let W = S.sweep in
        let A = S.asks.plane in
        let R = all_runs in
        record {
          list =
              record {
                wide = A.wide;
                narrow = A.narrow;
                few = let b = known-few in let d = A.dots in omega arith;
                place = known-low;
                room = let n = read.len in let b = known-few in let c = S.asks.room in omega arith;
                order = record { some = R.some; rising = R.rising };
              };
          tall = A.low;
          inside = λ k u. let a = R.some k u in let b = R.within k u in let c = end_low in let d = mul_comm w h in omega arith;
          kept = links.kept-none q s₁;
          base-is = W.base-is;
          upto = W.upto;
          low = W.low;
          high = known_more;
          far = λ a u. let o = W.low in let e = old-word (2 * a) (omega arith) in let f = W.far a u in omega arith;
          row_low = λ a u v. let e = old-word (2 * a) (omega arith) in let f = W.row_low a u v in omega arith;
          row-high = λ a u. let e = old-word (2 * a) (omega arith) in let f = W.row-high a u in omega arith;
          rest = new-start;
          linked =
              linked-more w here known (take (2 * here) s) (take (2 * known) s₁) (drop q s) (drop q s₁) here known_more (le_refl here) old-word (λ j k. ap (λ z. get_or z j 0) parents-kept)
              W.linked;
        }

    pub link-asks : RowAhead w known q (base + w) s₁ above here
    link-asks = links.plane-ahead written

    -- all the runs that are known are of the row
    row_ends : (s₂ : List ℕ) (next : ℕ) → RowLinked w known q (base + w) s₁ s₂ here next → next ≡ known
    row_ends s₂ next L = go (dec_lt next known)
      where
        go : Dec (next < known) → next ≡ known
        go (yes d) =
            let p = L.row.past d in
            let e = get_or-take (2 * known) s₁ (2 * next) 0 (omega arith) in
            let a = all_runs.some next d in
            let b = all_runs.within next d in
            let c = end_is in
            absurd (omega arith)
        go (no d) = let u = L.row.upto in omega arith

    pub link-more : (s₂ : List ℕ) (next : ℕ) → RowLinked w known q (base + w) s₁ s₂ here next → LinkSweep w h m s₀ s₂ q here next (base + w) (y + 1)
    link-more s₂ next L =
        let e = row_ends s₂ next L in
        let K = L.linked.kept in
        let W = links.plane-now (links.plane-more written next L.row l s₂ L.linked) in
        record {
          asks = S.asks;
          scan =
              record {
                asks = read.asks;
                len = K.len ∙ read.len;
                upto = read.upto;
                base-is = read.base-is;
                words = ap (λ z. take (2 * z) s₂) e ∙ (links.kept-front K (2 * known) known-low ∙ (ap (λ z. take z s₁) known_is.0 ∙ read.words));
                place = ap (λ z. 2 * z) e ∙ (known_is.0 ∙ read.place);
              };
          sweep = subst (λ z. links.PlaneSweep w z q h s₂ s₂ here next (base + w) (y + 1)) (sym e) W;
        }

pub link-done : {w h : ℕ} {m s₀ s : List ℕ} {q above here base y : ℕ} → LinkSweep w h m s₀ s q above here base y → h ≤ y → LinkedRuns w h m s₀ s q here
link-done {w} {h} {m} {s₀} {s} {q} {above} {here} S l =
    record {
      runs = subst (Extracted w h m s₀ s) (let e : 2 * here / 2 ≡ here = omega arith in e) (scans.plane-done S.scan l);
      place = S.sweep.list.place;
      room = S.sweep.list.room;
      forest = links.plane-forest S.sweep l;
    }
