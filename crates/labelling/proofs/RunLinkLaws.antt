-- Runs linked row by row: which runs need no look, and what each step of the sweep keeps.
use mathlib.Core.Path.{◌≡◌, refl, sym, ap, ◌∙◌, subst}
use mathlib.Core.List.{List, [], ◌++◌}
use mathlib.Core.Bool.{Bool, true, false, ◌&&◌}
use Prim.Native.Nat.{ℕ, zero, suc, ◌+◌, ◌-◌, ◌*◌, ◌/◌, ◌≤◌, ◌<◌, min, max}
use native.Mathlib.Nat.{le_refl, not-suc-le-zero, suc-mul, mul-le-mul_right, div-add-mod', mod-lt, mul-add-div_right, div-eq_of_lt}
use native.Mathlib.Numerals.{add-one}
use native.Mathlib.Decide.{ℕ_discrete, dec_lt}
use native.Mathlib.Omega.{arith}
use borrow.Author.Tests.{le-leb, lt-leb, eq-eqb, ne_eqb}
use lib.ListN.{get_or, length, set, take, drop, length-append, length-drop, length-set}
use lib.Seq.{get_or-take, get_or-drop, take-take, take_at, drop_at, length-take-le, take-set-le, drop-set-add}
use lib.Dec.{eqb, leb}
use Rattle.memory.specs.rules.Limits.{max_mask_side, max_mask_dots}
use Rattle.union_find.specs.rules.Classes.{renamed}
use Rattle.labelling.specs.stages.InkRuns.{start_of, end_of, touch_runs}
use Rattle.union_find.specs.stages.Forests.{Forest, Seen, Joined, Kin, join_f}
use Rattle.labelling.specs.stages.Linking.{touching, Order, RunList, KnownRuns, Kept, Linked, Joining, Linkable, Joinable, Skipped, Parented, LinkedOne, RowLinkable, LinkedTo, RowEnd, RowAhead, RowLinked, AllLinked, first_run}
use Rattle.union_find.proofs.LinkLaws.{seen_none, seen_skip, seen-join, seen_next, seen_all}
use Rattle.labelling.proofs.TouchLaws.{row_same, row-rise}
use Rattle.labelling.proofs.TransferLaws.{named-firsts}
use Rattle.union_find.proofs.ParentLaws.{forest-new, forest-under, forest-fresh}
use Rattle.union_find.proofs.FirstLaws.{join_f-a, join_f-b}

and-off : (x : Bool) → (x && false) ≡ false
and-off true = refl
and-off false = refl

module _ (w c : ℕ) (t : List ℕ) (o : Order c t) where
  pub starts-up : (j k : ℕ) → j ≤ k → k < c → start_of t j ≤ start_of t k
  starts-up j k l lk = go (ℕ_discrete j k)
    where
      go : Dec (j ≡ k) → start_of t j ≤ start_of t k
      go (yes e) = rw e (le_refl (start_of t k))
      go (no ne) = let h = o.some j (omega arith) in let h₂ = o.rising j k (omega arith) lk in omega arith

  pub ends-up : (j k : ℕ) → j ≤ k → k < c → end_of t 0 j ≤ end_of t 0 k
  ends-up j k l lk = go (ℕ_discrete j k)
    where
      go : Dec (j ≡ k) → end_of t 0 j ≤ end_of t 0 k
      go (yes e) = rw e (le_refl (end_of t 0 k))
      go (no ne) = let h = o.rising j k (omega arith) lk in let s = o.some k lk in omega arith

  -- run b ends left of run j's columns, widened: no run up to b touches j or a later one
  pub skip-left : (a b j k : ℕ) → a ≤ b → b < c → j ≤ k → k < c → end_of t 0 b + w < start_of t j → touching w t a k ≡ false
  unfolding touch_runs
  skip-left a b j k l₁ lb l₂ lk h =
      rw (lt-leb (start_of t k) (end_of t 0 a + w) (let s = starts-up j k l₂ lk in let e = ends-up a b l₁ lb in omega arith))
      (and-off (eqb (start_of t a / w + 1) (start_of t k / w) && leb (start_of t a + w) (end_of t 0 k)))

  -- run a starts right of run j's columns, widened: no run from a on touches j
  pub stop-right : (a b j : ℕ) → a ≤ b → b < c → end_of t 0 j < start_of t a + w → touching w t b j ≡ false
  unfolding touch_runs
  stop-right a b j l lb h =
      rw (lt-leb (start_of t b + w) (end_of t 0 j) (let s = starts-up a b l lb in omega arith))
      (off (eqb (start_of t b / w + 1) (start_of t j / w)) (leb (start_of t j) (end_of t 0 b + w)))
    where
      off : (x y : Bool) → (x && false && y) ≡ false
      off true y = refl
      off false y = refl

pub other_row : (w : ℕ) (t : List ℕ) (a j : ℕ) → (start_of t a / w + 1 ≡ start_of t j / w → ⊥) → touching w t a j ≡ false
unfolding touch_runs
other_row w t a j ne = rw (ne_eqb (start_of t a / w + 1) (start_of t j / w) ne) refl

pub touch-sure : (w : ℕ) (t : List ℕ) (a j : ℕ) → start_of t a / w + 1 ≡ start_of t j / w → start_of t a + w ≤ end_of t 0 j → start_of t j ≤ end_of t 0 a + w → touching w t a j ≡ true
unfolding touch_runs
touch-sure w t a j e l₁ l₂ =
    rw (eq-eqb (start_of t a / w + 1) (start_of t j / w) e, le-leb (start_of t a + w) (end_of t 0 j) l₁, le-leb (start_of t j) (end_of t 0 a + w) l₂) refl

-- The words of a run list

pub kept-none : (q : ℕ) (s : List ℕ) → Kept q s s
kept-none q s = record { len = refl; runs = refl }

pub kept_trans : {q : ℕ} {s s' s'' : List ℕ} → Kept q s s' → Kept q s' s'' → Kept q s s''
kept_trans k l = record { len = l.len ∙ k.len; runs = l.runs ∙ k.runs }

-- the words before the parents, as they were
pub kept-front : {q : ℕ} {s s' : List ℕ} → Kept q s s' → (n : ℕ) → n ≤ q → take n s' ≡ take n s
kept-front {q} {s} {s'} k n l = sym (take-take n q s' l) ∙ (ap (take n) k.runs ∙ take-take n q s l)

module _ {w c q : ℕ} {s : List ℕ} (R : KnownRuns w c q s) where
  -- the turns of the known runs, and a word of them
  pub kept-turns : {s' : List ℕ} → Kept q s s' → take (2 * c) s' ≡ take (2 * c) s
  kept-turns k = kept-front k (2 * c) R.place

  pub kept_word : {s' : List ℕ} → Kept q s s' → (i : ℕ) → i < 2 * c → get_or s' i 0 ≡ get_or (take (2 * c) s) i 0
  kept_word {s'} k i l = sym (get_or-take (2 * c) s' i 0 l) ∙ ap (λ z. get_or z i 0) (kept-turns k)

  pub kept-list : {s' : List ℕ} → Kept q s s' → KnownRuns w c q s'
  kept-list k = record { wide = R.wide; narrow = R.narrow; few = R.few; place = R.place; room = let e = k.len in let h = R.room in omega arith; order = subst (Order c) (sym (kept-turns k)) R.order }

  front_length : length (take q s) ≡ q
  front_length = length-take-le q s (let h = R.room in omega arith)

  pub parents-long : (i : ℕ) → i < c → i < length (drop q s)
  parents-long i l = simp length-drop (let h = R.room in omega arith)

  -- other parents
  pub kept-parents : (p : List ℕ) → length p ≡ length (drop q s) → Kept q s (take q s ++ p)
  kept-parents p e =
      record {
        len = length-append (take q s) p ∙ (let a = front_length in let b = length-drop q s in let h = R.room in omega arith);
        runs = take_at (take q s) p q front_length;
      }

  pub new-parents : (p : List ℕ) → drop q (take q s ++ p) ≡ p
  new-parents p = drop_at (take q s) p q front_length

-- all runs of a list are known
pub known-all : {w c : ℕ} {s : List ℕ} → RunList w c s → KnownRuns w c (2 * c) s
known-all R = record { wide = R.wide; narrow = R.narrow; few = R.few; place = le_refl _; room = let h = R.room in omega arith; order = R.order }

-- The sweep over the runs above run j: those below k are passed

pub record Sweep (w c q : ℕ) (s₀ s : List ℕ) (first to j k member : ℕ) : Type 0 where
  pub asks : Joinable w c q s₀ first to j
  pub kept : Kept q s₀ s
  pub from : first < k
  pub upto : k ≤ to
  pub joining : Joining w c (take (2 * c) s₀) (drop q s) j k member

-- a run and its parent are kin, and so are a run and itself

pub kin-parent : (q : ℕ) (s : List ℕ) (k r : ℕ) → r ≡ get_or s (q + k) 0 → get_or s (q + k) 0 ≤ k → Kin (drop q s) k r
kin-parent q s k r e d =
    let h : r ≡ get_or (drop q s) k 0 = e ∙ sym (get_or-drop q s k 0) in
    record { low = omega arith; same = λ f n l F. ap f h ∙ F.same k l }

module _ {w c q first to j : ℕ} {s : List ℕ} (A : Joinable w c q s first to j) where
  -- run j has met those before `first`, none of which it touches
  met-before : Seen (touching w (take (2 * c) s)) c A.linked.rep j first
  met-before =
      let L = A.linked in
      seen_skip (touching w (take (2 * c) s)) c L.rep j 0 first (omega arith) L.seen (λ a l₁ l₂ l₃. A.under.left a j l₂ (le_refl j) A.under.high)

  -- run j touches none from `first` on
  none-touched : ((a : ℕ) → first ≤ a → a < j → touching w (take (2 * c) s) a j ≡ false) → Parented w c q s s j j
  none-touched h =
      let L = A.linked in
      let u₁ = A.under.low in
      let u₂ = A.under.mid in
      record {
        kept = kept-none q s;
        low = le_refl j;
        linked =
            record {
              rep = L.rep;
              seen = seen_next (touching w (take (2 * c) s)) c L.rep j (seen_skip (touching w (take (2 * c) s)) c L.rep j first j (omega arith) met-before (λ a l₁ l₂ l₃. h a l₁ l₂));
              forest = forest-new L.rep (drop q s) j L.forest (L.seen.own refl) (parents-long A.list j A.under.high);
            };
      }

  pub none_above : to ≤ first → Parented w c q s s j j
  none_above h = none-touched (λ a l₁ l₂. A.under.beside a (omega arith) l₂)

  pub none_left : first < to → end_of (take (2 * c) s) 0 j < start_of (take (2 * c) s) first + w → Parented w c q s s j j
  none_left l h = none-touched (λ a l₁ l₂. let u = A.under.high in stop-right w c (take (2 * c) s) A.list.order first a j l₁ (omega arith) h)

  -- run j touches `first`, whose kin are of its class then
  pub sweep-kin : first < to → start_of (take (2 * c) s) first + w ≤ end_of (take (2 * c) s) 0 j → (member : ℕ) → Kin (drop q s) first member → Sweep w c q s s first to j (first + 1) member
  sweep-kin l t member N =
      let L = A.linked in
      let f = L.rep in
      let p = drop q s in
      let u₁ = A.under.mid in
      let below : first < j = omega arith in
      let touch : touching w (take (2 * c) s) first j ≡ true = touch-sure w (take (2 * c) s) first j (A.under.above first (le_refl first) l) t (A.reach l) in
      let d = N.low in
      record {
        asks = A;
        kept = kept-none q s;
        from = omega arith;
        upto = omega arith;
        joining =
            record {
              rep = join_f f first j;
              seen = rw (add-one first) (seen-join (touching w (take (2 * c) s)) c f j first below A.under.high touch met-before);
              forest = forest-fresh f p first j L.seen.low (L.seen.own refl) below L.forest;
              own = ap (renamed (max (f first) (f j)) (min (f first) (f j))) (N.same f j below L.forest) ∙ (join_f-a f first j ∙ sym (join_f-b f first j));
              low = omega arith;
            };
      }

  -- the parent of `first` is no later
  pub first-down : first < to → get_or s (q + first) 0 ≤ first
  first-down l =
      let u = A.under.mid in
      let d = A.linked.forest.down first (omega arith) in
      let e = get_or-drop q s first 0 in
      omega arith

  pub sweep-first : first < to → start_of (take (2 * c) s) first + w ≤ end_of (take (2 * c) s) 0 j → (member : ℕ) → member ≡ get_or s (q + first) 0 → Sweep w c q s s first to j (first + 1) member
  sweep-first l t member em = sweep-kin l t member (kin-parent q s first member em (first-down l))

module _ {w c q first to j : ℕ} {s₀ s : List ℕ} {k member : ℕ} (S : Sweep w c q s₀ s first to j k member) where
  -- what `join` asks
  pub sweep-asks : k < to
      → (k < length (drop q s)) × (member < length (drop q s)) × (k < 4294967296) × (member < 4294967296) × ((i : ℕ) → i ≤ max member k → get_or (drop q s) i 0 ≤ i)
  sweep-asks l =
      let u₁ = S.asks.under.mid in
      let u₂ = S.asks.under.high in
      let h = S.joining.low in
      let f = S.asks.list.few in
      let L = kept-list S.asks.list S.kept in
      (parents-long L k (omega arith), parents-long L member (omega arith), omega arith, omega arith, λ i q. S.joining.forest.down i (omega arith))

  pub sweep-more : k < to → start_of (take (2 * c) s₀) k + w ≤ end_of (take (2 * c) s₀) 0 j → (p : List ℕ) (r : ℕ) → Joined (drop q s) p member k r
      → Sweep w c q s₀ (take q s ++ p) first to j (k + 1) r
  sweep-more l t p r U =
      let A = S.asks in
      let u₁ = A.under.mid in
      let u₂ = A.under.high in
      let fr = S.from in
      let L = kept-list A.list S.kept in
      let t₀ = take (2 * c) s₀ in
      let J = S.joining in
      let e₁ = A.reach (omega arith) in
      let e₂ = ends-up w c t₀ A.list.order first k (omega arith) (omega arith) in
      let touch : touching w t₀ k j ≡ true = touch-sure w t₀ k j (A.under.above k (omega arith) l) t (omega arith) in
      let n : j < length (drop q s) = parents-long L j u₂ in
      let F = U.joined J.rep j j (omega arith) J.low (omega arith) J.seen.low J.seen.idem J.own J.forest in
      record {
        asks = A;
        kept = kept_trans S.kept (kept-parents L p U.len);
        from = omega arith;
        upto = omega arith;
        joining =
            record {
              rep = join_f J.rep k j;
              seen = rw (add-one k) (seen-join (touching w t₀) c J.rep j k (omega arith) u₂ touch J.seen);
              forest = rw (new-parents L p) F.0;
              own = F.1;
              low = F.2;
            };
      }

  -- run j touches none of those left
  sweep-done : ((a : ℕ) → k ≤ a → a < j → touching w (take (2 * c) s₀) a j ≡ false) → Parented w c q s₀ s j member
  sweep-done h =
      let A = S.asks in
      let u₁ = A.under.mid in
      let u₂ = S.upto in
      let J = S.joining in
      let l = J.low in
      record {
        kept = S.kept;
        low = omega arith;
        linked =
            record {
              rep = J.rep;
              seen = seen_next (touching w (take (2 * c) s₀)) c J.rep j (seen_skip (touching w (take (2 * c) s₀)) c J.rep j k j (omega arith) J.seen (λ a l₁ l₂ l₃. h a l₁ l₂));
              forest = forest-under J.rep (drop q s) j member J.forest J.own J.low (parents-long (kept-list A.list S.kept) j A.under.high);
            };
      }

  pub sweep-stop : k < to → end_of (take (2 * c) s₀) 0 j < start_of (take (2 * c) s₀) k + w → Parented w c q s₀ s j member
  sweep-stop l h = sweep-done (λ a l₁ l₂. let u = S.asks.under.high in stop-right w c (take (2 * c) s₀) S.asks.list.order k a j l₁ (omega arith) h)

  pub sweep-end : to ≤ k → Parented w c q s₀ s j member
  sweep-end h = sweep-done (λ a l₁ l₂. S.asks.under.beside a (omega arith) l₂)

-- One run

module _ {w c q i to j : ℕ} {s : List ℕ} (A : Linkable w c q s i to j) where
  -- the words of run j
  one-start : get_or s (2 * j) 0 ≡ start_of (take (2 * c) s) j
  one-start = kept_word A.list (kept-none q s) (2 * j) (let h = A.under.high in omega arith)

  pub one_end : get_or s (2 * j + 1) 0 ≡ end_of (take (2 * c) s) 0 j
  one_end = kept_word A.list (kept-none q s) (2 * j + 1) (let h = A.under.high in omega arith)

  -- a run stands in the row above: run j can be moved up
  pub start-high : i < to → w ≤ get_or s (2 * j) 0
  start-high l =
      let x = start_of (take (2 * c) s) j in
      let u = A.under.above i (le_refl i) l in
      let h : 1 * w ≤ x / w * w = mul-le-mul_right w (let y : 1 ≤ x / w = omega arith in y) in
      let d = div-add-mod' x w in
      let e = one-start in
      omega arith

  pub end-high : i < to → w ≤ get_or s (2 * j + 1) 0
  end-high l = let a = start-high l in let b = one-start in let c = one_end in let d = A.list.order.some j A.under.high in omega arith

  -- the parent of run j is written, and the runs before `first` are passed
  one_written : (first : ℕ) → i ≤ first → first ≤ to → ((a k : ℕ) → a < first → j ≤ k → k < c → touching w (take (2 * c) s) a k ≡ false)
      → (s' : List ℕ) (r : ℕ) → Parented w c q s s' j r → LinkedOne w c q s (set s' (q + j) r) i to j first
  one_written first l l₂ passed s' r P =
      record {
        kept = kept_trans P.kept (record { len = length-set s' (q + j) r; runs = take-set-le q s' (q + j) r (omega arith) });
        from = l;
        upto = l₂;
        left = passed;
        linked = subst (λ p. Linked w c (take (2 * c) s) p (suc j)) (sym (drop-set-add q s' j r)) P.linked;
      }

  -- none of the runs above is left
  pub one-alone : to ≤ i → LinkedOne w c q s (set s (q + j) j) i to j i
  one-alone l =
      let P = none_above (record { list = A.list; under = A.under; reach = λ k. absurd (omega arith); linked = A.linked }) l in
      one_written i (le_refl i) A.under.low A.under.left s j P

module _ {w c q i to j : ℕ} {s : List ℕ} (A : Linkable w c q s i to j) (first start : ℕ) (K : Skipped i to start s first) (e : start + w ≡ get_or s (2 * j) 0) where
  start_is : start + w ≡ start_of (take (2 * c) s) j
  start_is = e ∙ one-start A

  passed : (a k : ℕ) → a < first → j ≤ k → k < c → touching w (take (2 * c) s) a k ≡ false
  passed a k l l₂ l₃ = go (dec_lt a i)
    where
      go : Dec (a < i) → touching w (take (2 * c) s) a k ≡ false
      go (yes d) = A.under.left a k d l₂ l₃
      go (no d) =
          let u = K.upto in
          let v = A.under.mid in
          let h = K.left a (omega arith) l in
          let x = kept_word A.list (kept-none q s) (2 * a + 1) (omega arith) in
          let y = start_is in
          skip-left w c (take (2 * c) s) A.list.order a a j k (le_refl a) (omega arith) l₂ l₃ (omega arith)

  pub one-joinable : Joinable w c q s first to j
  one-joinable =
      record {
        list = A.list;
        under =
            record {
              low = K.upto;
              mid = A.under.mid;
              high = A.under.high;
              left = passed;
              above = λ a l. let h = K.from in A.under.above a (omega arith);
              own = λ l. let h = K.from in A.under.own (omega arith);
              beside = A.under.beside;
            };
        reach = λ l. let u = A.under.mid in let v = A.under.high in let x = K.here l in let y = start_is in let z = kept_word A.list (kept-none q s) (2 * first + 1) (omega arith) in omega arith;
        linked = A.linked;
      }

  pub one-linked : (s' : List ℕ) (r : ℕ) → Parented w c q s s' j r → LinkedOne w c q s (set s' (q + j) r) i to j first
  one-linked = one_written A first K.from K.upto passed

-- One row: the runs below j are linked, and those before i touch none from j on

pub record RowSweep (w c q : ℕ) (s₀ s : List ℕ) (above here next i j : ℕ) : Type 0 where
  pub asks : RowLinkable w c q s₀ above here next
  pub kept : Kept q s₀ s
  pub from : here ≤ j
  pub upto : j ≤ next
  pub low : above ≤ i
  pub high : i ≤ here
  pub left : (a k : ℕ) → a < i → j ≤ k → k < c → touching w (take (2 * c) s₀) a k ≡ false
  pub linked : Linked w c (take (2 * c) s₀) (drop q s) j

pub row-none : {w c q : ℕ} {s : List ℕ} {above here next : ℕ} → RowLinkable w c q s above here next → RowSweep w c q s s above here next above here
row-none {w} {c} {q} {s} {above} {here} {next} A =
    record {
      asks = A;
      kept = kept-none q s;
      from = le_refl here;
      upto = A.rows.mid;
      low = le_refl above;
      high = A.rows.low;
      left = A.rows.far;
      linked = A.linked;
    }

module _ {w c q : ℕ} {s₀ s : List ℕ} {above here next i j : ℕ} (S : RowSweep w c q s₀ s above here next i j) where
  -- the same, of a longer row
  pub row-longer : (further : ℕ) → next ≤ further → RowLinkable w c q s₀ above here further → RowSweep w c q s₀ s above here further i j
  row-longer further l A =
      record {
        asks = A;
        kept = S.kept;
        from = S.from;
        upto = let h = S.upto in omega arith;
        low = S.low;
        high = S.high;
        left = S.left;
        linked = S.linked;
      }

  pub row-linkable : j < next → Linkable w c q s i here j
  row-linkable l =
      let R = S.asks.rows in
      record {
        list = kept-list S.asks.list S.kept;
        under =
            rw (kept-turns S.asks.list S.kept)
            (record {
              low = S.high;
              mid = S.from;
              high = let h = R.high in omega arith;
              left = S.left;
              above = λ a l₁ l₂. let h = S.low in R.rows a j (omega arith) l₂ S.from l;
              own = λ l₁.
                  let t = take (2 * c) s₀ in
                  let h = S.low in
                  let f = S.from in
                  let u = R.high in
                  let e = R.rows i j (omega arith) l₁ f l in
                  let e₂ = R.rows i here (omega arith) l₁ (le_refl here) (omega arith) in
                  let d = row_same w [] S.asks.list.wide (start_of t j) (start_of t here) (let x : start_of t j / w ≡ start_of t here / w = omega arith in x) in
                  let n = mod-lt (start_of t j) S.asks.list.wide in
                  let o = S.asks.list.order.some here (omega arith) in
                  omega arith;
              beside = λ a l₁ l₂. R.beside a j l₁ l₂ l;
            });
        linked = rw (kept-turns S.asks.list S.kept) S.linked;
      }

  pub row_more : j < next → (s' : List ℕ) (r : ℕ) → LinkedOne w c q s s' i here j r → RowSweep w c q s₀ s' above here next r (j + 1)
  row_more l s' r L =
      let h₁ = S.from in
      let h₂ = S.low in
      let h₃ = L.from in
      record {
        asks = S.asks;
        kept = kept_trans S.kept L.kept;
        from = omega arith;
        upto = omega arith;
        low = omega arith;
        high = L.upto;
        left = λ a k l₁ l₂ l₃. subst (λ t. touching w t a k ≡ false) (kept-turns S.asks.list S.kept) (L.left a k l₁ (omega arith) l₃);
        linked = rw (add-one j) (subst (λ t. Linked w c t (drop q s') (suc j)) (kept-turns S.asks.list S.kept) L.linked);
      }

  pub row_done : next ≤ j → LinkedTo w c q s₀ s next
  row_done l = record { kept = S.kept; linked = subst (Linked w c (take (2 * c) s₀) (drop q s)) (let h = S.upto in let e : j ≡ next = omega arith in e) S.linked }

-- A row whose end is not known yet: the runs below j are of it, and linked

pub record RowWalk (w c q limit : ℕ) (s₀ s : List ℕ) (above here i j : ℕ) : Type 0 where
  pub asks : RowAhead w c q limit s₀ above here
  pub upto : j ≤ c
  pub within : (a : ℕ) → here ≤ a → a < j → start_of s₀ a < limit
  pub sweep : RowSweep w c q s₀ s above here j i j

pub walk_none : {w c q limit : ℕ} {s : List ℕ} {above here : ℕ} → RowAhead w c q limit s above here → RowWalk w c q limit s s above here above here
walk_none {w} {c} {q} {limit} {s} {above} {here} A =
    let none : (a : ℕ) → here ≤ a → a < here → start_of s a < limit = λ a l₁ l₂. absurd (omega arith) in
    record { asks = A; upto = A.low; within = none; sweep = row-none (A.rows here (le_refl here) A.low none) }

module _ {w c q limit : ℕ} {s₀ s : List ℕ} {above here i j : ℕ} (S : RowWalk w c q limit s₀ s above here i j) where
  pub walk-room : (2 * c ≤ length s) × (c ≤ max_mask_dots)
  walk-room = let L = kept-list S.sweep.asks.list S.sweep.kept in let r = L.room in let p = L.place in (omega arith, L.few)

  -- the start of run j, as it was
  pub walk_start : j < c → get_or s (2 * j) 0 ≡ start_of s₀ j
  walk_start l = kept_word S.sweep.asks.list S.sweep.kept (2 * j) (omega arith) ∙ get_or-take (2 * c) s₀ (2 * j) 0 (omega arith)

  module _ (l : j < c) (b : start_of s₀ j < limit) where
    within_more : (a : ℕ) → here ≤ a → a < j + 1 → Dec (a ≡ j) → start_of s₀ a < limit
    within_more a l₁ l₂ (yes e) = rw e b
    within_more a l₁ l₂ (no ne) = S.within a l₁ (omega arith)

    longer : RowSweep w c q s₀ s above here (j + 1) i j
    longer = let f = S.sweep.from in row-longer S.sweep (j + 1) (omega arith) (S.asks.rows (j + 1) (omega arith) (omega arith) (λ a l₁ l₂. within_more a l₁ l₂ (ℕ_discrete a j)))

    pub walk-linkable : Linkable w c q s i here j
    walk-linkable = row-linkable longer (omega arith)

    pub walk_more : (s' : List ℕ) (r : ℕ) → LinkedOne w c q s s' i here j r → RowWalk w c q limit s₀ s' above here r (j + 1)
    walk_more s' r L = record { asks = S.asks; upto = omega arith; within = λ a l₁ l₂. within_more a l₁ l₂ (ℕ_discrete a j); sweep = row_more longer (omega arith) s' r L }

  pub walk-done : (j < c → limit ≤ start_of s₀ j) → RowLinked w c q limit s₀ s here j
  walk-done past = record { row = record { from = S.sweep.from; upto = S.upto; inside = S.within; past = past }; linked = row_done S.sweep (le_refl j) }

-- All rows: those before row y are linked, which starts at dot `base`

pub row-at : (w base y s : ℕ) → 0 < w → base ≡ y * w → base ≤ s → s < base + w → s / w ≡ y
row-at w base y s hw e l₁ l₂ =
    let q : s ≡ y * w + (s - base) = omega arith in
    let z : (s - base) / w ≡ 0 = div-eq_of_lt (let h : s - base < w = omega arith in h) in
    ap (λ n. n / w) q ∙ (mul-add-div_right hw y (s - base) ∙ (let x : y + (s - base) / w ≡ y = omega arith in x))

pub row-above : (w base y s : ℕ) → 0 < w → base ≡ y * w → base ≤ s + w → s < base → s / w + 1 ≡ y
row-above w base zero s hw e l₁ l₂ = absurd (let z : zero * w ≡ 0 = omega arith in omega arith)
row-above w base (suc y) s hw e l₁ l₂ =
    let m : suc y * w ≡ y * w + w = suc-mul y w in
    let q : s / w ≡ y = row-at w (y * w) y s hw refl (omega arith) (omega arith) in
    omega arith

row-far : (w base y a j : ℕ) → 0 < w → base ≡ y * w → a + w < base → base ≤ j → a / w + 1 ≡ j / w → ⊥
row-far w base y a j hw e l₁ l₂ q =
    let r : y * w / w ≤ j / w = row-rise w [] hw (y * w) j (omega arith) in
    let r₂ : y * w / w ≡ y = row-at w (y * w) y (y * w) hw refl (le_refl _) (omega arith) in
    let h : y * w ≤ j / w * w = mul-le-mul_right w (let x : y ≤ j / w = omega arith in x) in
    let z : suc (a / w) ≡ j / w = omega arith in
    let m : suc (a / w) * w ≡ a / w * w + w = suc-mul (a / w) w in
    let n : suc (a / w) * w ≡ j / w * w = ap (λ k. k * w) z in
    let d = div-add-mod' a w in
    omega arith

pub record PlaneSweep (w c q h : ℕ) (s₀ s : List ℕ) (above here base y : ℕ) : Type 0 where
  pub list : KnownRuns w c q s₀
  pub tall : h ≤ max_mask_side
  pub inside : (k : ℕ) → k < c → start_of (take (2 * c) s₀) k < h * w
  pub kept : Kept q s₀ s
  pub base-is : base ≡ y * w
  pub upto : y ≤ h
  pub low : above ≤ here
  pub high : here ≤ c
  pub far : (a : ℕ) → a < above → start_of (take (2 * c) s₀) a + w < base
  pub row_low : (a : ℕ) → above ≤ a → a < here → base ≤ start_of (take (2 * c) s₀) a + w
  pub row-high : (a : ℕ) → a < here → start_of (take (2 * c) s₀) a < base
  pub rest : (a : ℕ) → here ≤ a → a < c → base ≤ start_of (take (2 * c) s₀) a
  pub linked : Linked w c (take (2 * c) s₀) (drop q s) here

pub plane-none : (w c q h : ℕ) (s : List ℕ) → KnownRuns w c q s → h ≤ max_mask_side → ((k : ℕ) → k < c → start_of s k < h * w) → PlaneSweep w c q h s s 0 0 0 0
plane-none w c q h s R th ins =
    record {
      list = R;
      tall = th;
      inside = λ k l. let e = get_or-take (2 * c) s (2 * k) 0 (omega arith) in let g = ins k l in omega arith;
      kept = kept-none q s;
      base-is = let z : 0 ≡ 0 * w = omega arith in z;
      upto = omega arith;
      low = le_refl 0;
      high = omega arith;
      far = λ a l. absurd (not-suc-le-zero l);
      row_low = λ a l l₂. absurd (not-suc-le-zero l₂);
      row-high = λ a l. absurd (not-suc-le-zero l);
      rest = λ a l l₂. omega arith;
      linked = record { rep = λ k. k; seen = seen_none (touching w (take (2 * c) s)) c; forest = record { down = λ j l. absurd (not-suc-le-zero l); same = λ j l. absurd (not-suc-le-zero l); root = λ j l. absurd (not-suc-le-zero l) } };
    }

module _ {w c q h : ℕ} {s₀ s : List ℕ} {above here base y : ℕ} (S : PlaneSweep w c q h s₀ s above here base y) where
  hw : 0 < w
  hw = S.list.wide

  start-is-now : (a : ℕ) → a < c → start_of s a ≡ start_of (take (2 * c) s₀) a
  start-is-now a l = kept_word S.list S.kept (2 * a) (omega arith)

  -- the runs up to `next` are of this row
  module _ (next : ℕ) (from : here ≤ next) (upto : next ≤ c) (within : (a : ℕ) → here ≤ a → a < next → start_of s a < base + w) where
    row-of-next : (a : ℕ) → here ≤ a → a < next → start_of (take (2 * c) s₀) a / w ≡ y
    row-of-next a l₁ l₂ =
        let e = start-is-now a (omega arith) in
        let i = within a l₁ l₂ in
        row-at w base y (start_of (take (2 * c) s₀) a) hw S.base-is (S.rest a l₁ (omega arith)) (omega arith)

    plane-linkable : RowLinkable w c q s above here next
    plane-linkable =
        record {
          list = kept-list S.list S.kept;
          rows =
              rw (kept-turns S.list S.kept)
              (record {
                low = S.low;
                mid = from;
                high = upto;
                far = λ a j l₁ l₂ l₃. other_row w (take (2 * c) s₀) a j (row-far w base y _ _ hw S.base-is (S.far a l₁) (S.rest j l₂ l₃));
                rows = λ a j l₁ l₂ l₃ l₄. row-above w base y _ hw S.base-is (S.row_low a l₁ l₂) (S.row-high a l₂) ∙ sym (row-of-next j l₃ l₄);
                beside = λ a j l₁ l₂ l₃.
                    let p = row-of-next a l₁ (omega arith) in
                    let q = row-of-next j (omega arith) l₃ in
                    other_row w (take (2 * c) s₀) a j (λ e. omega arith);
              });
          linked = rw (kept-turns S.list S.kept) S.linked;
        }

  pub plane-ahead : RowAhead w c q (base + w) s above here
  plane-ahead = record { low = S.high; rows = plane-linkable }

  module _ (next : ℕ) (E : RowEnd c here (base + w) s next) where
    pub plane-more : y < h → (s' : List ℕ) → LinkedTo w c q s s' next → PlaneSweep w c q h s₀ s' here next (base + w) (y + 1)
    plane-more l s' L =
        let u = E.upto in
        let f = E.from in
        record {
          list = S.list;
          tall = S.tall;
          inside = S.inside;
          kept = kept_trans S.kept L.kept;
          base-is = let e = S.base-is in let m : suc y * w ≡ y * w + w = suc-mul y w in (let q : base + w ≡ suc y * w = omega arith in q) ∙ ap (λ z. z * w) (sym (add-one y));
          upto = omega arith;
          low = f;
          high = u;
          far = λ a l₁. let q = S.row-high a l₁ in omega arith;
          row_low = λ a l₁ l₂. let q = S.rest a l₁ (omega arith) in omega arith;
          row-high = λ a l₁. high-row a l₁ (dec_lt a here);
          rest = λ a l₁ l₂. let e = start-is-now next (omega arith) in let g = E.past (omega arith) in let q = starts-up w c (take (2 * c) s₀) S.list.order next a l₁ l₂ in omega arith;
          linked = subst (λ t. Linked w c t (drop q s') next) (kept-turns S.list S.kept) L.linked;
        }
      where
        high-row : (a : ℕ) → a < next → Dec (a < here) → start_of (take (2 * c) s₀) a < base + w
        high-row a l₁ (yes q) = let z = S.row-high a q in omega arith
        high-row a l₁ (no q) = let u = E.upto in let e = start-is-now a (omega arith) in let i = E.inside a (omega arith) l₁ in omega arith

  -- the same, from the words as they are now
  pub plane-now : PlaneSweep w c q h s s above here base y
  plane-now =
      let e = kept-turns S.list S.kept in
      record {
        list = kept-list S.list S.kept;
        tall = S.tall;
        inside = rw e S.inside;
        kept = kept-none q s;
        base-is = S.base-is;
        upto = S.upto;
        low = S.low;
        high = S.high;
        far = rw e S.far;
        row_low = rw e S.row_low;
        row-high = rw e S.row-high;
        rest = rw e S.rest;
        linked = rw e S.linked;
      }

  pub plane-forest : h ≤ y → Forest (first_run w c (take (2 * c) s₀)) (drop q s) c
  plane-forest l = forest-firsts (all (dec_lt here c))
    where
      all : Dec (here < c) → Linked w c (take (2 * c) s₀) (drop q s) c
      all (yes d) =
          let a = S.rest here (le_refl here) d in
          let b = S.inside here d in
          let e = S.base-is in
          let u = S.upto in
          let z : h * w ≡ y * w = ap (λ k. k * w) (let x : h ≡ y = omega arith in x) in
          absurd (omega arith)
      all (no d) = subst (Linked w c (take (2 * c) s₀) (drop q s)) (let u = S.high in let x : here ≡ c = omega arith in x) S.linked

      forest-firsts : Linked w c (take (2 * c) s₀) (drop q s) c → Forest (first_run w c (take (2 * c) s₀)) (drop q s) c
      forest-firsts L =
          let r = touching w (take (2 * c) s₀) in
          let e = named-firsts r c L.rep (seen_all r c L.rep L.seen) in
          let F = L.forest in
          record {
            down = F.down;
            same = λ j lj. let d = F.down j lj in sym (e (get_or (drop q s) j 0) (omega arith)) ∙ (F.same j lj ∙ e j lj);
            root = λ j lj q. sym (e j lj) ∙ F.root j lj q;
          }

pub plane-done : {w c h : ℕ} {s₀ s : List ℕ} {above here base y : ℕ} → PlaneSweep w c (2 * c) h s₀ s above here base y → h ≤ y → AllLinked w c s₀ s
plane-done S l = record { kept = S.kept; forest = plane-forest S l }
