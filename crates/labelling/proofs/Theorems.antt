-- What the definition `labelling` of specs/Labels says: the theorems that a reader wants (01, part 2).
use mathlib.Core.Path.{◌≡◌, refl, sym, ap, ◌∙◌}
use mathlib.Core.List.{List}
use mathlib.Core.Logic.{◌↔◌}
use mathlib.Core.Bool.{Bool, true, false, cond}
use Prim.Native.Nat.{ℕ, zero, suc, ◌+◌, ◌-◌, ◌*◌, ◌/◌, ◌%◌, ◌≤◌, ◌<◌, min, max}
use native.Mathlib.Nat.{le_refl, le_trans, not-suc-le-zero, mod-le, div-le_self}
use native.Mathlib.Decide.{ℕ_discrete, dec_lt}
use native.Mathlib.Omega.{arith}
use borrow.Author.Tests.{eq-eqb, eqb-true}
use lib.ListN.{get_or, length}
use lib.Dec.{eqb}
use Rattle.memory.specs.rules.Lists.{table, count_if}
use Rattle.memory.proofs.TableLaws.{length-table, get_or-table}
use Rattle.union_find.specs.rules.Chains.{Chain, here, rise, fall, Firsts}
use Rattle.union_find.specs.rules.Classes.{first_of, firsts}
use Rattle.labelling.specs.rules.Components.{no_dots, absorbed}
use Rattle.memory.specs.rules.Masks.{is_ink}
use Rattle.labelling.specs.rules.Labels.{touches, is_first, label_at, component_to, labelling}
use Rattle.labelling.specs.declared.component.Component.{Component}
use Rattle.memory.proofs.PlaceLaws.{count-mono, count_yes, count-reach}
use Rattle.memory.specs.rules.Limits.{max_mask_dots}
use Rattle.labelling.proofs.ExtremeLaws.{Least, Greatest, extreme, min-either, max-either}
use Rattle.union_find.proofs.FirstLaws.{firsts-right, firsts-unique, firsts-chain, along}
use Rattle.labelling.proofs.TouchLaws.{and_both, and_intro, near_of}

-- the sum of f over the numbers below n that pass the test p
unfoldable pub sum_if : (ℕ → Bool) → (ℕ → ℕ) → ℕ → ℕ
sum_if p f zero = 0
sum_if p f (suc n) = sum_if p f n + cond (p n) (f n) 0

-- Labels

chain-ink : (w : ℕ) (m : List ℕ) (n : ℕ) {a b : ℕ} → Chain (touches w m) n a b → is_ink m a ≡ true → is_ink m b ≡ true
chain-ink w m n here e = e
chain-ink w m n (rise {a} {b} l k t c) e = chain-ink w m n c (near_of w m a b t).ink-b
chain-ink w m n (fall {a} {b} l k t c) e = chain-ink w m n c (near_of w m b a t).ink-a

module _ (w h : ℕ) (m : List ℕ) where
  -- the first dot of dot i's component
  abbrev pub first_dot : ℕ → ℕ
  first_dot i = first_of (firsts (touches w m) (w * h)) i

  -- its label, as the labelling has it
  abbrev pub label : ℕ → ℕ
  label i = get_or (labelling w h m).labels i 0

  -- how many components there are
  abbrev pub count : ℕ
  count = length (labelling w h m).components

  right : Firsts (touches w m) (w * h) first_dot
  right = firsts-right (touches w m) (w * h)

  -- the first dots are those of 8-connected chains of ink, and no other choice of first dots is
  pub first-dots : Firsts (touches w m) (w * h) first_dot
  first-dots = right

  pub first-dots-only : (f : ℕ → ℕ) → Firsts (touches w m) (w * h) f → (i : ℕ) → f i ≡ first_dot i
  first-dots-only f F i = firsts-unique f first_dot F right i

  label-at : (i : ℕ) → i < w * h → label i ≡ label_at m (firsts (touches w m) (w * h)) i
  unfolding labelling
  label-at i l = get_or-table (label_at m (firsts (touches w m) (w * h))) (w * h) i 0 l

  pub count_is : count ≡ count_if (is_first m (firsts (touches w m) (w * h))) (w * h)
  unfolding labelling
  count_is = length-table _ (count_if (is_first m (firsts (touches w m) (w * h))) (w * h))

  label-ink : (i : ℕ) → i < w * h → is_ink m i ≡ true → label i ≡ count_if (is_first m (firsts (touches w m) (w * h))) (suc (first_dot i))
  unfolding label_at
  label-ink i l e = label-at i l ∙ rw e refl

  -- a blank dot has label 0
  pub label-blank : (i : ℕ) → i < w * h → is_ink m i ≡ false → label i ≡ 0
  unfolding label_at
  label-blank i l e = label-at i l ∙ rw e refl

  first-is-first : (i : ℕ) → is_ink m i ≡ true → is_first m (firsts (touches w m) (w * h)) (first_dot i) ≡ true
  unfolding is_first
  first-is-first i e = and_intro (chain-ink w m (w * h) (right.sound i) e) (eq-eqb _ _ (sym (along right (right.sound i))))

  -- numbers rise with the first dots
  pub label-order : (a b : ℕ) → a < w * h → b < w * h → is_ink m a ≡ true → is_ink m b ≡ true → first_dot a < first_dot b → label a < label b
  label-order a b la lb ia ib l =
      let p = is_first m (firsts (touches w m) (w * h)) in
      let ea = label-ink a la ia in
      let eb = label-ink b lb ib in
      let u = count-mono p (suc (first_dot a)) (first_dot b) l in
      let o = count_yes p (first_dot b) (first-is-first b ib) in
      omega arith

  -- two ink dots have one label where an 8-connected chain of ink joins them
  pub same-label : (a b : ℕ) → a < w * h → b < w * h → is_ink m a ≡ true → is_ink m b ≡ true → Chain (touches w m) (w * h) a b → label a ≡ label b
  same-label a b la lb ia ib c = label-ink a la ia ∙ (ap (λ z. count_if (is_first m (firsts (touches w m) (w * h))) (suc z)) (along right c) ∙ sym (label-ink b lb ib))

  -- one label means one first dot
  same_first : (a b : ℕ) → a < w * h → b < w * h → is_ink m a ≡ true → is_ink m b ≡ true → label a ≡ label b → first_dot a ≡ first_dot b
  same_first a b la lb ia ib e = go (dec_lt (first_dot a) (first_dot b)) (dec_lt (first_dot b) (first_dot a))
    where
      go : Dec (first_dot a < first_dot b) → Dec (first_dot b < first_dot a) → first_dot a ≡ first_dot b
      go (yes h) d = absurd (let z = label-order a b la lb ia ib h in omega arith)
      go (no h) (yes d) = absurd (let z = label-order b a lb la ib ia d in omega arith)
      go (no h) (no d) = omega arith

  -- and only there
  pub same-component : (a b : ℕ) → a < w * h → b < w * h → is_ink m a ≡ true → is_ink m b ≡ true → label a ≡ label b → Chain (touches w m) (w * h) a b
  same-component a b la lb ia ib e = firsts-chain right a b (same_first a b la lb ia ib e)

  -- an ink dot's label is a number from 1 to the count
  pub label-within : (i : ℕ) → i < w * h → is_ink m i ≡ true → (0 < label i) × (label i ≤ count)
  label-within i l e =
      let p = is_first m (firsts (touches w m) (w * h)) in
      let ei = label-ink i l e in
      let o = count_yes p (first_dot i) (first-is-first i e) in
      let f = right.low i in
      let u = count-mono p (suc (first_dot i)) (w * h) (omega arith) in
      let c = count_is in
      (omega arith, omega arith)

  -- each of these numbers is the label of a component's first dot
  pub label-occurs : (k : ℕ) → k < count → (d : ℕ) × (d < w * h) × (is_ink m d ≡ true) × (first_dot d ≡ d) × (label d ≡ suc k)
  unfolding is_first
  label-occurs k l =
      let r = count-reach (is_first m (firsts (touches w m) (w * h))) (w * h) k (let c = count_is in omega arith) in
      let b = and_both _ _ r.2 in
      let f : first_dot r.0 ≡ r.0 = eqb-true _ _ b.1 in
      (r.0, r.1, b.0, f, label-ink r.0 r.1 b.0 ∙ (ap (λ z. count_if (is_first m (firsts (touches w m) (w * h))) (suc z)) f ∙ r.3))

-- labels say what components are
pub record LabelsOfChains (w h : ℕ) (m : List ℕ) : Type 0 where
  -- two ink dots have one label just where an 8-connected chain of ink joins them
  pub joined : (a b : ℕ) → a < w * h → b < w * h → is_ink m a ≡ true → is_ink m b ≡ true → (label w h m a ≡ label w h m b) ↔ Chain (touches w m) (w * h) a b
  -- the first dot of a component is one of its dots
  pub own : (a : ℕ) → a < w * h → is_ink m a ≡ true → (is_ink m (first_dot w h m a) ≡ true) × (label w h m (first_dot w h m a) ≡ label w h m a)
  -- the least of them in raster order
  pub least : (a b : ℕ) → a < w * h → b < w * h → is_ink m a ≡ true → is_ink m b ≡ true → label w h m a ≡ label w h m b → first_dot w h m a ≤ b

pub labels-are-of-chains : (w h : ℕ) (m : List ℕ) → LabelsOfChains w h m
labels-are-of-chains w h m =
    record {
      joined = λ a b la lb ia ib. (same-component w h m a b la lb ia ib, same-label w h m a b la lb ia ib);
      own = λ a la ia.
          let chain = (first-dots w h m).sound a in
          let ink = chain-ink w m (w * h) chain ia in
          (ink, sym (same-label w h m a (first_dot w h m a) la (let low = (first-dots w h m).low a in omega arith) ia ink chain));
      least = λ a b la lb ia ib e. (let same = same_first w h m a b la lb ia ib e in let low = (first-dots w h m).low b in omega arith);
    }

-- numbers that are given so are the labels, and no others are
pub record Numbers (w h : ℕ) (m : List ℕ) (g : ℕ → ℕ) : Type 0 where
  -- 0 on a blank dot, more on ink
  pub blank : (i : ℕ) → i < w * h → is_ink m i ≡ false → g i ≡ 0
  pub ink : (i : ℕ) → i < w * h → is_ink m i ≡ true → 0 < g i
  -- one number for each component
  pub same : (a b : ℕ) → a < w * h → b < w * h → is_ink m a ≡ true → is_ink m b ≡ true → Chain (touches w m) (w * h) a b → g a ≡ g b
  -- in the order of first dots
  pub order : (a b : ℕ) → a < w * h → b < w * h → is_ink m a ≡ true → is_ink m b ≡ true → first_dot w h m a < first_dot w h m b → g a < g b
  -- and none left out
  pub all : (i k : ℕ) → i < w * h → is_ink m i ≡ true → 0 < k → k ≤ g i → (d : ℕ) × (d < w * h) × (is_ink m d ≡ true) × (g d ≡ k)

pub labels-are-numbers : (w h : ℕ) (m : List ℕ) → Numbers w h m (label w h m)
labels-are-numbers w h m =
    record {
      blank = label-blank w h m;
      ink = λ i l e. (label-within w h m i l e).0;
      same = same-label w h m;
      order = label-order w h m;
      all = λ i k l e z b.
          let r = label-occurs w h m (k - 1) (let q = (label-within w h m i l e).1 in omega arith) in
          (r.0, r.1, r.2, r.4 ∙ (let x : suc (k - 1) ≡ k = omega arith in x));
    }

module _ (w h : ℕ) (m : List ℕ) (g : ℕ → ℕ) (N : Numbers w h m g) where
  -- the test for a first dot
  abbrev p : ℕ → Bool
  p = is_first m (firsts (touches w m) (w * h))

  first-ink : (d : ℕ) → p d ≡ true → (is_ink m d ≡ true) × (first_dot w h m d ≡ d)
  unfolding is_first
  first-ink d e = let b = and_both _ _ e in (b.0, eqb-true _ _ b.1)

  -- the number of a first dot, by those of the first dots before it
  rank_step : (d : ℕ) → d < w * h → p d ≡ true → ((e : ℕ) → e < d → p e ≡ true → g e ≡ count_if p (suc e)) → g d ≡ count_if p (suc d)
  rank_step d l e before = exact (dec_lt (g d) (count_if p d + 1)) (dec_lt (count_if p d + 1) (g d))
    where
      ink-d : is_ink m d ≡ true
      ink-d = (first-ink d e).0

      above : Dec (count_if p d ≡ 0) → count_if p d < g d
      above (yes z) = let q = N.ink d l ink-d in omega arith
      above (no z) =
          let r = count-reach p d (count_if p d - 1) (omega arith) in
          let f = first-ink r.0 r.2 in
          let fd = (first-ink d e).1 in
          let ff = f.1 in
          let lt = r.1 in
          let o = N.order r.0 d (omega arith) l f.0 ink-d (omega arith) in
          let q = before r.0 r.1 r.2 in
          let c = r.3 in
          omega arith

      exact : Dec (g d < count_if p d + 1) → Dec (count_if p d + 1 < g d) → g d ≡ count_if p (suc d)
      exact (yes a) x = absurd (let q = above (ℕ_discrete (count_if p d) 0) in omega arith)
      exact (no a) (yes x) = absurd (gap (N.all d (count_if p d + 1) l ink-d (omega arith) (omega arith)))
        where
          gap : (i : ℕ) × (i < w * h) × (is_ink m i ≡ true) × (g i ≡ count_if p d + 1) → ⊥
          gap r = go (dec_lt first d) (ℕ_discrete first d)
            where
              i : ℕ
              i = r.0

              first : ℕ
              first = first_dot w h m r.0

              low : first_dot w h m r.0 ≤ r.0
              low = (first-dots w h m).low r.0

              is-first : p (first_dot w h m r.0) ≡ true
              is-first = first-is-first w h m r.0 r.2

              same_number : g r.0 ≡ g (first_dot w h m r.0)
              same_number = N.same r.0 (first_dot w h m r.0) r.1 (let a = low in let b = r.1 in omega arith) r.2 (first-ink (first_dot w h m r.0) is-first).0 ((first-dots w h m).sound r.0)

              go : Dec (first < d) → Dec (first ≡ d) → ⊥
              go (yes y) z =
                  let a = before (first_dot w h m r.0) y is-first in
                  let u = count-mono p (suc (first_dot w h m r.0)) d y in
                  let q = r.3 in
                  let n = same_number in
                  omega arith
              go (no y) (yes z) = let q = r.3 in let n = same_number in let c = ap g z in omega arith
              go (no y) (no z) =
                  let fd = (first-ink d e).1 in
                  let o = N.order d r.0 l r.1 ink-d r.2 (omega arith) in
                  let q = r.3 in
                  omega arith
      exact (no a) (no x) = let c = count_yes p d e in omega arith

  rank-of : (t d : ℕ) → d < t → d < w * h → p d ≡ true → g d ≡ count_if p (suc d)
  rank-of zero d l ld e = absurd (not-suc-le-zero l)
  rank-of (suc t) d l ld e = rank_step d ld e (λ x y z. rank-of t x (omega arith) (omega arith) z)

  pub labels-only : (i : ℕ) → i < w * h → g i ≡ label w h m i
  labels-only i l = go (is_ink m i) refl
    where
      go : (t : Bool) → is_ink m i ≡ t → g i ≡ label w h m i
      go false e = N.blank i l e ∙ sym (label-blank w h m i l e)
      go true e =
          let f = first-is-first w h m i e in
          let lo = (first-dots w h m).low i in
          N.same i (first_dot w h m i) l (omega arith) e (first-ink (first_dot w h m i) f).0 ((first-dots w h m).sound i)
          ∙ (rank-of (suc (first_dot w h m i)) (first_dot w h m i) (le_refl _) (omega arith) f ∙ sym (label-ink w h m i l e))

-- Records: of the first t dots those labelled k, whatever the labels

module _ (w : ℕ) (labels : List ℕ) (k : ℕ) where
  abbrev pub labelled : ℕ → Bool
  labelled i = eqb (get_or labels i 0) k

  field : (F : Component → ℕ) (t : ℕ) → F (component_to w labels k (suc t)) ≡ cond (labelled t) (F (absorbed (component_to w labels k t) (t % w) (t / w))) (F (component_to w labels k t))
  unfolding component_to
  field F t = go (eqb (get_or labels t 0) k)
    where
      go : (b : Bool)
          → F (cond b (absorbed (component_to w labels k t) (t % w) (t / w)) (component_to w labels k t)) ≡ cond b (F (absorbed (component_to w labels k t) (t % w) (t / w))) (F (component_to w labels k t))
      go true = refl
      go false = refl

  -- the area is the number of its dots
  pub area_of : (t : ℕ) → (component_to w labels k t).area ≡ count_if labelled t
  unfolding component_to count_if
  area_of zero = refl
  area_of (suc t) = field (λ c. c.area) t ∙ go (labelled t) (area_of t)
    where
      go : (b : Bool) → (component_to w labels k t).area ≡ count_if labelled t → cond b ((component_to w labels k t).area + 1) (component_to w labels k t).area ≡ count_if labelled t + cond b 1 0
      go true e = omega arith
      go false e = omega arith

  -- the sums are the sums of its dots' columns and rows
  sum_of : (F : Component → ℕ) (f : ℕ → ℕ) → F no_dots ≡ 0 → ((c : Component) (t : ℕ) → F (absorbed c (t % w) (t / w)) ≡ F c + f t) → (t : ℕ) → F (component_to w labels k t) ≡ sum_if labelled f t
  unfolding component_to sum_if
  sum_of F f z s zero = z
  sum_of F f z s (suc t) = field F t ∙ go (labelled t) (sum_of F f z s t)
    where
      go : (b : Bool) → F (component_to w labels k t) ≡ sum_if labelled f t → cond b (F (absorbed (component_to w labels k t) (t % w) (t / w))) (F (component_to w labels k t)) ≡ sum_if labelled f t + cond b (f t) 0
      go true e = let q = s (component_to w labels k t) t in omega arith
      go false e = omega arith

  pub sum-x-of : (t : ℕ) → (component_to w labels k t).sum_x ≡ sum_if labelled (λ i. i % w) t
  sum-x-of = sum_of (λ c. c.sum_x) (λ i. i % w) refl (λ c t. refl)

  pub sum-y-of : (t : ℕ) → (component_to w labels k t).sum_y ≡ sum_if labelled (λ i. i / w) t
  sum-y-of = sum_of (λ c. c.sum_y) (λ i. i / w) refl (λ c t. refl)

  -- the box is the least and greatest of its dots' columns and rows
  least-of : (F : Component → ℕ) (f : ℕ → ℕ) → F no_dots ≡ 4294967295 → ((c : Component) (t : ℕ) → F (absorbed c (t % w) (t / w)) ≡ min (F c) (f t)) → (n : ℕ) → ((t : ℕ) → t < n → f t ≤ 4294967295) → Least labelled f n (F (component_to w labels k n))
  unfolding component_to
  least-of F f z s n low =
      extreme (λ a b. a ≤ b) (λ a b c p q. le_trans p q) min (λ a b. omega arith) (λ a b. omega arith) min-either labelled f (λ t. F (component_to w labels k t)) n
      (λ t l. let h = low t l in (let q : min (F no_dots) (f t) ≡ f t = omega arith in q))
      (λ t. field F t ∙ ap (λ v. cond (labelled t) v (F (component_to w labels k t))) (s (component_to w labels k t) t))

  greatest-of : (F : Component → ℕ) (f : ℕ → ℕ) → F no_dots ≡ 0 → ((c : Component) (t : ℕ) → F (absorbed c (t % w) (t / w)) ≡ max (F c) (f t)) → (n : ℕ) → Greatest labelled f n (F (component_to w labels k n))
  unfolding component_to
  greatest-of F f z s n =
      extreme (λ a b. b ≤ a) (λ a b c p q. le_trans q p) max (λ a b. omega arith) (λ a b. omega arith) max-either labelled f (λ t. F (component_to w labels k t)) n
      (λ t l. (let q : max (F no_dots) (f t) ≡ f t = omega arith in q))
      (λ t. field F t ∙ ap (λ v. cond (labelled t) v (F (component_to w labels k t))) (s (component_to w labels k t) t))

record-at : (w h : ℕ) (m : List ℕ) (k : ℕ) → k < count w h m → get_or (labelling w h m).components k no_dots ≡ component_to w (labelling w h m).labels (suc k) (w * h)
unfolding labelling
record-at w h m k l =
    get_or-table (λ q. component_to w (table (label_at m (firsts (touches w m) (w * h))) (w * h)) (suc q) (w * h)) (count_if (is_first m (firsts (touches w m) (w * h))) (w * h)) k no_dots
    (let c = count_is w h m in omega arith)

-- a component's record: its area, box and sums
pub record RecordOf (w n : ℕ) (labels : List ℕ) (k : ℕ) (c : Component) : Type 0 where
  pub area : c.area ≡ count_if (labelled w labels k) n
  pub x0 : Least (labelled w labels k) (λ i. i % w) n c.x0
  pub y0 : Least (labelled w labels k) (λ i. i / w) n c.y0
  pub x1 : Greatest (labelled w labels k) (λ i. i % w) n c.x1
  pub y1 : Greatest (labelled w labels k) (λ i. i / w) n c.y1
  pub sum_x : c.sum_x ≡ sum_if (labelled w labels k) (λ i. i % w) n
  pub sum_y : c.sum_y ≡ sum_if (labelled w labels k) (λ i. i / w) n

-- the record of component k + 1, within 01's limits
pub records-right : (w h : ℕ) (m : List ℕ) → w * h ≤ max_mask_dots → (k : ℕ) → k < count w h m → RecordOf w (w * h) (labelling w h m).labels (suc k) (get_or (labelling w h m).components k no_dots)
records-right w h m lim k l = rw (record-at w h m k l) (of-labels (labelling w h m).labels)
  where
    of-labels : (labels : List ℕ) → RecordOf w (w * h) labels (suc k) (component_to w labels (suc k) (w * h))
    of-labels labels =
        record {
          area = area_of w labels (suc k) (w * h);
          x0 = least-of w labels (suc k) (λ c. c.x0) (λ i. i % w) refl (λ c t. refl) (w * h) (λ t l. let q = mod-le t w in omega arith);
          y0 = least-of w labels (suc k) (λ c. c.y0) (λ i. i / w) refl (λ c t. refl) (w * h) (λ t l. let q = div-le_self t w in omega arith);
          x1 = greatest-of w labels (suc k) (λ c. c.x1) (λ i. i % w) refl (λ c t. refl) (w * h);
          y1 = greatest-of w labels (suc k) (λ c. c.y1) (λ i. i / w) refl (λ c t. refl) (w * h);
          sum_x = sum-x-of w labels (suc k) (w * h);
          sum_y = sum-y-of w labels (suc k) (w * h);
        }
