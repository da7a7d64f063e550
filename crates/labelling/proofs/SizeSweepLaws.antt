-- The sizes of the first k runs' components, and one span more.
use mathlib.Core.Path.{◌≡◌, refl, sym, ap, ◌∙◌, subst}
use mathlib.Core.List.{List, [], ◌∷◌, ◌++◌, append_assoc}
use mathlib.Core.Bool.{cond}
use Prim.Native.Nat.{ℕ, zero, suc, ◌+◌, ◌-◌, ◌*◌, ◌/◌, ◌%◌, ◌≤◌, ◌<◌, max}
use native.Mathlib.Nat.{le_refl, le_trans, not-suc-le-zero, le_of_suc-le-suc, suc-mul, div-le_self}
use native.Mathlib.Decide.{dec_lt}
use native.Mathlib.Omega.{arith}
use borrow.Author.Tests.{lt-ltb, le-ltb}
use borrow.Rule.Slice.PartMut.{put_mid}
use lib.ListN.{get_or, length, take, drop, take-append-drop, length-append, length-drop, get_or-append}
use lib.Seq.{length-take-le, get_or-take, take-take, take_at, drop_at, drop-drop, drop-append-add}
use lib.Dec.{ltb}
use Rattle.memory.specs.rules.Lists.{table, count_if}
use Rattle.memory.specs.rules.Words.{over}
use Rattle.memory.specs.rules.Records.{encoded}
use Rattle.memory.specs.rules.Limits.{max_mask_dots}
use Rattle.memory.proofs.PartLaws.{tail-part, tail-put}
use Rattle.memory.proofs.TableLaws.{length-table, get_or-table, table-ext}
use Rattle.memory.proofs.RecordLaws.{length-encoded}
use Rattle.labelling.specs.rules.Components.{no_dots}
use Rattle.labelling.specs.stages.Absorbing.{absorbed_span}
use Rattle.labelling.specs.stages.InkRuns.{start_of, end_of, is_root, component_number, component_runs}
use Rattle.labelling.specs.stages.Linking.{first_run}
use Rattle.labelling.specs.stages.Tallying.{Tallyable}
use Rattle.labelling.specs.stages.Sizes.{size_words}
use Rattle.labelling.specs.stages.Sizing.{size_of, held_size, resized, SpanSizable, sizes, Sizable, SizeSweep}
use Rattle.labelling.specs.stages.Spans.{SpanOf}
use Rattle.labelling.specs.declared.component.Component.{Component}
use Rattle.memory.proofs.PlaceLaws.{count-mono, count-step}
use Rattle.labelling.proofs.TallyLaws.{record-put, record-append, table-put}
use Rattle.labelling.proofs.RecordSweepLaws.{first-low, first-same, number-some, count-max, records-none, run-bounded}

-- Records in a list of them, k words each

table-snoc : {A : Type 0} (h : ℕ → A) (n : ℕ) → table h (suc n) ≡ table h n ++ (h n ∷ [])
unfolding table
table-snoc h n = refl

module _ {A : Type 0} (words : A → List ℕ) (k : ℕ) (each : (a : A) → length (words a) ≡ k) where
  -- the words of the record at i
  pub record-part : (l : List A) (rest : List ℕ) (i : ℕ) (d : A) → i < length l → take k (drop (i * k) (encoded words l ++ rest)) ≡ words (get_or l i d)
  unfolding encoded
  record-part [] rest i d h = absurd (not-suc-le-zero h)
  record-part (b ∷ l) rest zero d h =
      let z : 0 * k ≡ 0 = omega arith in
      rw (z, append_assoc (words b) (encoded words l) rest) (take_at (words b) (encoded words l ++ rest) k (each b))
  record-part (b ∷ l) rest (suc i) d h =
      let q : length (words b) ≡ k = each b in
      let e : suc i * k ≡ length (words b) + i * k = (let m = suc-mul i k in omega arith) in
      rw (append_assoc (words b) (encoded words l) rest)
      (ap (λ z. take k (drop z (words b ++ (encoded words l ++ rest)))) e
      ∙ (ap (take k) (drop-append-add (words b) (encoded words l ++ rest) (i * k)) ∙ record-part l rest i d (le_of_suc-le-suc h)))

  -- a record more, or one of them changed
  pub table-record : (g g' : ℕ → A) (C N C' : ℕ) (s : List ℕ) → C' ≡ max C N → C' ≤ C + 1 → 0 < N → N * k ≤ length s → ((q : ℕ) → (N ≡ suc q → ⊥) → g' q ≡ g q)
      → take ((N - 1) * k) (over (encoded words (table g C)) s) ++ (words (g' (N - 1)) ++ drop ((N - 1) * k + k) (over (encoded words (table g C)) s))
      ≡ over (encoded words (table g' C')) s
  table-record g g' C N C' s em st some room other = go (dec_lt C N)
    where
      long : (h : ℕ → A) → length (encoded words (table h C)) ≡ C * k
      long h = length-encoded words k each (table h C) ∙ ap (λ z. z * k) (length-table h C)

      whole : (N - 1) * k + k ≡ N * k
      whole = sym (suc-mul (N - 1) k) ∙ ap (λ z. z * k) (let e : suc (N - 1) ≡ N = omega arith in e)

      go : Dec (C < N)
          → take ((N - 1) * k) (over (encoded words (table g C)) s) ++ (words (g' (N - 1)) ++ drop ((N - 1) * k + k) (over (encoded words (table g C)) s))
          ≡ over (encoded words (table g' C')) s
      go (yes h) =
          let n : N - 1 ≡ C = omega arith in
          let c : suc C ≡ C' = omega arith in
          let t = length-table g C in
          let r : (N - 1) * k + k ≤ length s = rw whole room in
          record-append words k each (table g C) (g' (N - 1)) s (N - 1) (omega arith) r
          ∙ ap (λ l. over (encoded words l) s)
          (ap (λ z. table g C ++ (g' z ∷ [])) n
          ∙ (ap (λ l. l ++ (g' C ∷ [])) (table-ext g g' C (λ q l. sym (other q (λ e. absurd (omega arith))))) ∙ (sym (table-snoc g' C) ∙ ap (table g') c)))
      go (no h) =
          let c : C ≡ C' = omega arith in
          let t = length-table g C in
          let i : N - 1 < length (table g C) = omega arith in
          let rest = drop (length (encoded words (table g C))) s in
          record-put words k each (table g C) (N - 1) (g' (N - 1)) rest i
          ∙ (ap (λ l. encoded words l ++ rest) (sym (table-put g g' C (N - 1) (omega arith) (λ q l ne. other q (λ e. ne (omega arith)))))
          ∙ (ap (λ z. encoded words (table g' C) ++ drop z s) (long g ∙ sym (long g')) ∙ ap (λ z. over (encoded words (table g' z)) s) c))

pub each-five : (c : Component) → length (size_words c) ≡ 5
each-five c = refl

-- One size read and written

pub five-long : (at : ℕ) (s : List ℕ) → at + 5 ≤ length s → length (take (at + 5 - at) (drop at s)) ≡ 5
five-long at s h = let e : at + 5 - at ≡ 5 = omega arith in rw e (length-take-le 5 (drop at s) (simp length-drop (omega arith)))

pub five-part : (at : ℕ) (s : List ℕ) → take (at + 5 - at) (drop at s) ≡ take 5 (drop at s)
five-part at s = ap (λ z. take z (drop at s)) (let e : at + 5 - at ≡ 5 = omega arith in e)

five-put : (at : ℕ) (s v : List ℕ) → put_mid at (at + 5 - at) s v ≡ take at s ++ (v ++ drop (at + 5) s)
five-put at s v = ap (λ z. take at s ++ (v ++ z)) (drop-drop (at + 5 - at) at s ∙ ap (λ z. drop z s) (let e : at + (at + 5 - at) ≡ at + 5 = omega arith in e))

pub span-sized : (s : List ℕ) (number count x last dots y : ℕ) (before : Component) (v : List ℕ)
    → before ≡ held_size s number count → v ≡ size_words (absorbed_span before x last dots 0 y)
    → put_mid ((number - 1) * 5) ((number - 1) * 5 + 5 - (number - 1) * 5) s v ≡ resized s number count x last dots y
span-sized s number count x last dots y before v eb ev =
    five-put ((number - 1) * 5) s v
    ∙ ap (λ z. take ((number - 1) * 5) s ++ (z ++ drop ((number - 1) * 5 + 5) s)) (ev ∙ ap (λ z. size_words (absorbed_span z x last dots 0 y)) eb)

-- a new size
pub size-new : (s : List ℕ) (number count : ℕ) → count < number → no_dots ≡ held_size s number count
unfolding held_size
size-new s number count l = rw (lt-ltb count number l) refl

-- and one that is there
pub size-there : (s : List ℕ) (number count : ℕ) → number ≤ count → size_of (take ((number - 1) * 5 + 5 - (number - 1) * 5) (drop ((number - 1) * 5) s)) ≡ held_size s number count
unfolding held_size
size-there s number count l = rw (le-ltb count number l) (ap size_of (five-part ((number - 1) * 5) s))

-- The sweep

module _ {w h c : ℕ} {s : List ℕ} {at : ℕ} (A : Sizable w h c s at) where
  abbrev spare : List ℕ
  spare = table (λ _. 0) (count_if (is_root (first_run w c (take (2 * c) s))) c * 9)

  -- what the laws of the records ask, with room for them somewhere
  tallyable : Tallyable w c s spare
  tallyable =
      let n = count_if (is_root (first_run w c (take (2 * c) s))) c * 9 in
      record { list = A.list; within = λ k l. le_trans (A.within k l) A.dots; row = A.row; numbers = A.numbers; room = rw (length-table {A = ℕ} (λ _. 0) n) (le_refl n) }

  sizes-long : (k : ℕ) → length (sizes w c s k) ≡ count_if (is_root (first_run w c (take (2 * c) s))) k * 5
  sizes-long k =
      let g : ℕ → Component = λ q. component_runs w (start_of (take (2 * c) s)) (end_of (take (2 * c) s) 0) (first_run w c (take (2 * c) s)) (suc q) k in
      let n = count_if (is_root (first_run w c (take (2 * c) s))) k in
      length-encoded size_words 5 each-five (table g n) ∙ ap (λ z. z * 5) (length-table g n)

pub size_none : {w h c at : ℕ} {s : List ℕ} → Sizable w h c s at → SizeSweep w h c at s s 0 0
unfolding count_if table encoded
size_none {w} {h} {c} {at} {s} A = record { asks = A; upto = omega arith; count_is = refl; words = sym (take-append-drop at s) }

module _ {w h c at : ℕ} {s₀ s : List ℕ} {k count : ℕ} (S : SizeSweep w h c at s₀ s k count) where
  front_long : length (take at s₀) ≡ at
  front_long = length-take-le at s₀ (let r = S.asks.room in omega arith)

  pub size-long : length s ≡ length s₀
  size-long =
      let f = front_long in
      let n = sizes-long S.asks k in
      let u = count-mono (is_root (first_run w c (take (2 * c) s₀))) k c S.upto in
      let r = S.asks.room in
      let d = length-drop at s₀ in
      let d₂ = length-drop (length (sizes w c s₀ k)) (drop at s₀) in
      ap length S.words ∙ (length-append (take at s₀) (over (sizes w c s₀ k) (drop at s₀))
      ∙ (ap (λ z. length (take at s₀) + z) (length-append (sizes w c s₀ k) (drop (length (sizes w c s₀ k)) (drop at s₀)))
      ∙ (let z : length (take at s₀) + (length (sizes w c s₀ k) + length (drop (length (sizes w c s₀ k)) (drop at s₀))) ≡ length s₀ = omega arith in z)))

  -- the runs, their numbers and `at` lie within the words
  pub size_room : (c ≤ max_mask_dots) × (3 * c ≤ length s) × (at ≤ length s)
  size_room = let q = size-long in let r = S.asks.list.room in let z = S.asks.room in (S.asks.list.few, omega arith, omega arith)

  -- the words before `at` are as they were
  pub size-read : (i : ℕ) → i < at → get_or s i 0 ≡ get_or s₀ i 0
  size-read i l =
      let f = front_long in
      ap (λ z. get_or z i 0) S.words
      ∙ (get_or-append (take at s₀) (over (sizes w c s₀ k) (drop at s₀)) 0 i (omega arith) ∙ get_or-take at s₀ i 0 l)

  behind : drop at s ≡ over (sizes w c s₀ k) (drop at s₀)
  behind = ap (drop at) S.words ∙ drop_at (take at s₀) (over (sizes w c s₀ k) (drop at s₀)) at front_long

  ahead : take at s ≡ take at s₀
  ahead = ap (take at) S.words ∙ take_at (take at s₀) (over (sizes w c s₀ k) (drop at s₀)) at front_long

  pub runs_same : take (2 * c) s ≡ take (2 * c) s₀
  runs_same = let b = S.asks.before in sym (take-take (2 * c) at s (omega arith)) ∙ (ap (take (2 * c)) ahead ∙ take-take (2 * c) at s₀ (omega arith))

  -- what the laws of the records ask, of the words as they are now
  pub size-list : Tallyable w c s (spare S.asks)
  size-list =
      let T = tallyable S.asks in
      let r = size_room in
      let b = S.asks.before in
      record {
        list = record { wide = T.list.wide; narrow = T.list.narrow; few = T.list.few; room = r.1; order = rw runs_same T.list.order };
        within = rw runs_same T.within;
        row = rw runs_same T.row;
        numbers = rw runs_same (λ j l. size-read (2 * c + j) (omega arith) ∙ T.numbers j l);
        room = rw runs_same T.room;
      }

  module _ (lk : k < c) where
    abbrev t : List ℕ
    t = take (2 * c) s₀

    abbrev f : ℕ → ℕ
    f = first_run w c (take (2 * c) s₀)

    abbrev N : ℕ
    N = component_number f k

    abbrev C : ℕ
    C = count_if (is_root f) k

    abbrev g : ℕ → Component
    g q = component_runs w (start_of t) (end_of t 0) f (suc q) k

    some_number : 0 < N
    some_number = number-some f (first-low w c t) (first-same w c t) k

    next-count : max C N ≡ count_if (is_root f) (suc k)
    next-count = count-max f (first-low w c t) (first-same w c t) k

    number-room : N * 5 ≤ length (drop at s₀)
    number-room =
        let e = next-count in
        let u = count-mono (is_root f) (suc k) c lk in
        let r = S.asks.room in
        let d = length-drop at s₀ in
        omega arith

    -- the size of run k's component so far
    held-is : held_size (drop at s) N count ≡ size_of (size_words (g (N - 1)))
    unfolding held_size
    held-is = go (dec_lt C N)
      where
        go : Dec (C < N) → cond (ltb count N) no_dots (size_of (take 5 (drop ((N - 1) * 5) (drop at s)))) ≡ size_of (size_words (g (N - 1)))
        go (yes h) =
            let e = S.count_is in
            rw (lt-ltb count N (omega arith))
            (ap (λ z. size_of (size_words z)) (sym (records-none f (first-low w c t) (first-same w c t) w (start_of t) (end_of t 0) (N - 1) k (omega arith))))
        go (no h) =
            let e = S.count_is in
            let p = some_number in
            let n = length-table g C in
            let rest = drop (length (sizes w c s₀ k)) (drop at s₀) in
            rw (le-ltb count N (omega arith))
            (ap (λ z. size_of (take 5 (drop ((N - 1) * 5) z))) behind
            ∙ (ap size_of (record-part size_words 5 each-five (table g C) rest (N - 1) no_dots (omega arith)) ∙ ap (λ z. size_of (size_words z)) (get_or-table g C (N - 1) no_dots (omega arith))))

    held_small : (held_size (drop at s) N count).area ≤ max_mask_dots
    held_small =
        let B = run-bounded w c s₀ (spare S.asks) (tallyable S.asks) (N - 1) k (start_of t k) S.upto (λ j lj. S.asks.list.order.rising j k lj lk) in
        let b = B.area in
        let o = S.asks.list.order.some k lk in
        let i = S.asks.within k lk in
        let u = S.asks.dots in
        let e = ap (λ z. z.area) held-is in
        omega arith

    module _ {next last dots sum : ℕ} (P : SpanOf w c (take (2 * c) s₀) k next last dots sum) (number x y : ℕ) (en : number ≡ N) (ex : x ≡ start_of (take (2 * c) s₀) k % w) (ey : y ≡ start_of (take (2 * c) s₀) k / w) where
      abbrev g' : ℕ → Component
      g' q = component_runs w (start_of t) (end_of t 0) f (suc q) next

      -- with the span absorbed it is the size by the runs up to the next: the sums play no part in it
      absorbed-is : size_words (absorbed_span (held_size (drop at s) N count) x last dots 0 y) ≡ size_words (g' (N - 1))
      absorbed-is =
          let p = some_number in
          let e : N ≡ suc (N - 1) = omega arith in
          (λ i. size_words (absorbed_span (held-is i) (ex i) last dots 0 (ey i)))
          ∙ ap size_words (subst (λ z. absorbed_span (component_runs w (start_of t) (end_of t 0) f z k) (start_of t k % w) last dots sum (start_of t k / w) ≡ component_runs w (start_of t) (end_of t 0) f z next) e (sym P.own))

      few-more : count_if (is_root f) next ≤ C + 1
      few-more = let a = P.counted in let b = next-count in let e = count-step (is_root f) k in omega arith

      pub size-asks : SpanSizable (take (length s - at) (drop at s)) number count x last dots y
      size-asks =
          let p = number-room in
          let q = size-long in
          let d = length-drop at s in
          let d₀ = length-drop at s₀ in
          let z = some_number in
          let i = S.asks.within k lk in
          let u = S.asks.dots in
          let o = S.asks.list.order.some k lk in
          let v = div-le_self (start_of t k) w in
          let n = S.asks.list.narrow in
          let a = P.few in
          let b = P.narrow in
          let m = P.from in
          rw (tail-part at s)
          (record {
            counted = omega arith;
            room = omega arith;
            order = omega arith;
            narrow = omega arith;
            few = omega arith;
            low = omega arith;
            small = rw en held_small;
          })

      pub size-more : (part : List ℕ) (count' : ℕ) → part ≡ resized (take (length s - at) (drop at s)) number count x last dots y → count' ≡ max count number
          → SizeSweep w h c at s₀ (put_mid at (length s - at) s part) next count'
      size-more part count' ep ec =
          record {
            asks = S.asks;
            upto = P.upto;
            count_is = ec ∙ ((λ i. max (S.count_is i) (en i)) ∙ P.counted);
            words =
                tail-put at s part
                ∙ ((λ i. ahead i ++ ep i)
                ∙ (ap (λ z. take at s₀ ++ resized z number count x last dots y) (tail-part at s)
                ∙ (ap (λ z. take at s₀ ++ resized (drop at s) z count x last dots y) en
                ∙ (ap (λ z. take at s₀ ++ (take ((N - 1) * 5) (drop at s) ++ (z ++ drop ((N - 1) * 5 + 5) (drop at s)))) absorbed-is
                ∙ (ap (λ z. take at s₀ ++ (take ((N - 1) * 5) z ++ (size_words (g' (N - 1)) ++ drop ((N - 1) * 5 + 5) z))) behind
                ∙ ap (λ z. take at s₀ ++ z) (table-record size_words 5 each-five g g' C N (count_if (is_root f) next) (drop at s₀) (sym P.counted) few-more some_number number-room (λ q ne. P.other (suc q) ne)))))));
          }

pub size-done : {w h c at : ℕ} {s₀ s : List ℕ} {k count : ℕ} → SizeSweep w h c at s₀ s k count → c ≤ k → s ≡ take at s₀ ++ over (sizes w c s₀ c) (drop at s₀)
size-done {w} {h} {c} {at} {s₀} S l = S.words ∙ ap (λ z. take at s₀ ++ over (sizes w c s₀ z) (drop at s₀)) (let u = S.upto in let e : _ ≡ c = omega arith in e)
