-- The records of the first k runs, and one span more.
use mathlib.Core.Path.{◌≡◌, refl, sym, ap, ◌∙◌, subst}
use mathlib.Core.List.{List, [], ◌∷◌, ◌++◌}
use mathlib.Core.Bool.{cond}
use Prim.Native.Nat.{ℕ, zero, suc, ◌+◌, ◌-◌, ◌*◌, ◌/◌, ◌%◌, ◌≤◌, ◌<◌, max}
use native.Mathlib.Nat.{le_refl, div-le_self, mod-lt, mul-suc, mul-le-mul_left}
use native.Mathlib.Decide.{ℕ_discrete, dec_lt}
use native.Mathlib.Omega.{arith}
use borrow.Author.Tests.{eq-eqb, ne_eqb, lt-ltb, le-ltb}
use lib.ListN.{length, take, drop, length-append, length-drop}
use lib.Dec.{eqb, ltb}
use Rattle.memory.specs.rules.Lists.{table, count_if}
use Rattle.memory.specs.rules.Words.{over}
use Rattle.memory.specs.rules.Records.{encoded}
use Rattle.memory.specs.rules.Limits.{max_mask_dots, max_mask_side}
use Rattle.memory.proofs.TableLaws.{length-table, get_or-table, table-ext}
use Rattle.memory.proofs.RecordLaws.{length-encoded}
use Rattle.labelling.specs.rules.Components.{no_dots}
use Rattle.labelling.specs.stages.Absorbing.{column_sum, absorbed_run, absorbed_span}
use Rattle.labelling.specs.rules.RecordWords.{record_words}
use Rattle.labelling.specs.stages.RecordParts.{record_of}
use Rattle.labelling.specs.stages.InkRuns.{start_of, end_of, is_root, component_number, absorb_dots, component_runs}
use Rattle.labelling.specs.stages.Linking.{touching, first_run}
use Rattle.labelling.specs.stages.Spans.{SpanOf}
use Rattle.labelling.specs.stages.Tallying.{held_record, tallied, Small, SpanTallyable, records, Tallyable, TallySweep}
use Rattle.labelling.specs.declared.component.Component.{Component}
use Rattle.union_find.proofs.FirstLaws.{firsts-right, along}
use Rattle.labelling.proofs.RunLabelLaws.{number-new, names-new, names-old}
use Rattle.memory.proofs.PlaceLaws.{count-mono, count-step}
use Rattle.labelling.proofs.AbsorbLaws.{column-on, absorb-run}
use Rattle.labelling.proofs.TallyLaws.{each-nine, record-put, record-append, table-put, record-read}

-- Numbers

pub first-low : (w c : ℕ) (t : List ℕ) (k : ℕ) → first_run w c t k ≤ k
first-low w c t k = (firsts-right (touching w t) c).low k

pub first-same : (w c : ℕ) (t : List ℕ) (k : ℕ) → first_run w c t (first_run w c t k) ≡ first_run w c t k
first-same w c t k = let F = firsts-right (touching w t) c in sym (along F (F.sound k))

module _ (rep : ℕ → ℕ) (low : (k : ℕ) → rep k ≤ k) (idem : (k : ℕ) → rep (rep k) ≡ rep k) where
  pub number-some : (k : ℕ) → 0 < component_number rep k
  unfolding component_number
  number-some k = let e = names-new rep (rep k) (idem k) in omega arith

  number-upto : (k : ℕ) → component_number rep k ≤ count_if (is_root rep) (suc k)
  unfolding component_number
  number-upto k = count-mono (is_root rep) (suc (rep k)) (suc k) (let h = low k in omega arith)

  -- a run's number is that of a component before it, or the next
  number-old-low : (k : ℕ) → (rep k ≡ k → ⊥) → component_number rep k ≤ count_if (is_root rep) k
  unfolding component_number
  number-old-low k ne = count-mono (is_root rep) (suc (rep k)) k (let h = low k in omega arith)

  pub count-max : (k : ℕ) → max (count_if (is_root rep) k) (component_number rep k) ≡ count_if (is_root rep) (suc k)
  count-max k = go (ℕ_discrete (rep k) k)
    where
      go : Dec (rep k ≡ k) → max (count_if (is_root rep) k) (component_number rep k) ≡ count_if (is_root rep) (suc k)
      go (yes e) = let a = number-new rep k e in let b = names-new rep k e in omega arith
      go (no ne) = let a = number-old-low k ne in let b = names-old rep k ne in omega arith

  -- Records: of a component that no run has yet, none

  pub records-none : (w : ℕ) (start end : ℕ → ℕ) (q k : ℕ) → count_if (is_root rep) k ≤ q → component_runs w start end rep (suc q) k ≡ no_dots
  unfolding component_runs
  records-none w start end q zero l = refl
  records-none w start end q (suc k) l =
      let n = number-upto k in
      let u = count-mono (is_root rep) k (suc k) (omega arith) in
      rw (ne_eqb (component_number rep k) (suc q) (let h : component_number rep k ≡ suc q → ⊥ = λ e. absurd (omega arith) in h))
      (records-none w start end q k (omega arith))

-- Bounds

pub column-small : (x d B : ℕ) → x + d ≤ suc B → column_sum x d ≤ B * d
unfolding column_sum
column-small x zero B l = omega arith
column-small x (suc d) B l = let ih = column-small x d B (omega arith) in let e : B * suc d ≡ B * d + B = mul-suc B d in omega arith

pub record Bounded (c : Component) (x : ℕ) : Type 0 where
  pub area : c.area ≤ x
  pub sum_x : c.sum_x ≤ max_mask_side * x
  pub sum_y : c.sum_y ≤ max_mask_dots * x

bounded-small : {c : Component} {x : ℕ} → Bounded c x → x ≤ max_mask_dots → Small c
bounded-small B l = let a = B.area in let b = B.sum_x in let d = B.sum_y in record { area = omega arith; sum_x = omega arith; sum_y = omega arith }

bounded-run : (p : Component) (x d y a : ℕ) → Bounded p a → x + suc d ≤ max_mask_side → y ≤ max_mask_dots → Bounded (absorbed_run p x d y) (a + suc d)
bounded-run p x d y a B l h =
    let b₀ = B.area in
    let b₁ = B.sum_x in
    let b₂ = B.sum_y in
    let e = column-small x (suc d) max_mask_side (omega arith) in
    let g : suc d * y ≤ suc d * max_mask_dots = mul-le-mul_left (suc d) h in
    record { area = omega arith; sum_x = omega arith; sum_y = omega arith }

bounded-more : {p : Component} {a b : ℕ} → Bounded p a → a ≤ b → Bounded p b
bounded-more B l = let a = B.area in let b = B.sum_x in let d = B.sum_y in record { area = omega arith; sum_x = omega arith; sum_y = omega arith }

module _ (w c : ℕ) (s comps₀ : List ℕ) (A : Tallyable w c s comps₀) where
  abbrev start : ℕ → ℕ
  start = start_of (take (2 * c) s)

  abbrev end : ℕ → ℕ
  end = end_of (take (2 * c) s) 0

  abbrev rep : ℕ → ℕ
  rep = first_run w c (take (2 * c) s)

  abbrev record_to : ℕ → ℕ → Component
  record_to k q = component_runs w start end rep (suc q) k

  run-rows : (k : ℕ) → k < c → (i : ℕ) → start k ≤ i → i < start k + suc (end k - start k - 1) → i / w ≡ start k / w
  run-rows k l i l₁ l₂ = A.row k i l l₁ (let h = A.list.order.some k l in omega arith)

  pub run-width : (k : ℕ) → k < c → start k % w + (end k - start k - 1) < w
  run-width k l =
      let h = A.list.order.some k l in
      let e = column-on w (start k) (end k - start k - 1) A.list.wide (sym (run-rows k l (start k + (end k - start k - 1)) (omega arith) (omega arith))) in
      let m = mod-lt (start k + (end k - start k - 1)) A.list.wide in
      omega arith

  pub run-absorbed : (k : ℕ) (p : Component) → k < c → absorb_dots w (start k) (end k - start k) p ≡ absorbed_run p (start k % w) (end k - start k - 1) (start k / w)
  run-absorbed k p l =
      ap (λ z. absorb_dots w (start k) z p) (let h = A.list.order.some k l in let e : end k - start k ≡ suc (end k - start k - 1) = omega arith in e)
      ∙ absorb-run w (start k) (end k - start k - 1) p A.list.wide (run-rows k l)

  pub run-bounded : (q k x : ℕ) → k ≤ c → ((j : ℕ) → j < k → end j ≤ x) → Bounded (record_to k q) x
  unfolding component_runs
  run-bounded q zero x l h = record { area = omega arith; sum_x = omega arith; sum_y = omega arith }
  run-bounded q (suc k) x l h =
      go (run-bounded q k (start k) (omega arith) (λ j lj. A.list.order.rising j k lj l)) (ℕ_discrete (component_number rep k) (suc q))
    where
      go : Bounded (record_to k q) (start k) → Dec (component_number rep k ≡ suc q)
          → Bounded (cond (eqb (component_number rep k) (suc q)) (absorb_dots w (start k) (end k - start k) (record_to k q)) (record_to k q)) x
      go B (yes e) =
          let o = A.list.order.some k l in
          let n = A.list.narrow in
          let r = run-width k l in
          let i = A.within k l in
          let d = div-le_self (start k) w in
          let z = h k (le_refl (suc k)) in
          rw (eq-eqb (component_number rep k) (suc q) e, run-absorbed k (record_to k q) l)
          (bounded-more (bounded-run (record_to k q) (start k % w) (end k - start k - 1) (start k / w) (start k) B (omega arith) (omega arith)) (omega arith))
      go B (no ne) =
          let o = A.list.order.some k l in
          let z = h k (le_refl (suc k)) in
          rw (ne_eqb (component_number rep k) (suc q) ne) (bounded-more B (omega arith))

  record-small : (q k : ℕ) → k < c → Small (record_to k q)
  record-small q k l =
      bounded-small (run-bounded q k (start k) (omega arith) (λ j lj. A.list.order.rising j k lj l))
      (let o = A.list.order.some k l in let i = A.within k l in omega arith)

pub tally-none : {w c : ℕ} {s comps : List ℕ} → Tallyable w c s comps → TallySweep w c s comps comps 0 0
unfolding count_if table encoded
tally-none A = record { asks = A; upto = omega arith; count_is = refl; words = refl }

table-snoc : (h : ℕ → Component) (n : ℕ) → table h (suc n) ≡ table h n ++ (h n ∷ [])
unfolding table
table-snoc h n = refl

pub tally-long : {w c : ℕ} {s comps₀ comps : List ℕ} {k count : ℕ} → TallySweep w c s comps₀ comps k count → length comps ≡ length comps₀
tally-long {w} {c} {s} {comps₀} {comps} {k} S =
    let g = record_to w c s comps₀ S.asks k in
    let f = first_run w c (take (2 * c) s) in
    let n = length-encoded record_words 9 each-nine (table g (count_if (is_root f) k)) in
    let t = length-table g (count_if (is_root f) k) in
    let u = count-mono (is_root f) k c S.upto in
    let r = S.asks.room in
    ap length S.words ∙ simp (length-append, length-drop) (omega arith)

-- a record more, or one of them changed
records-more : (g g' : ℕ → Component) (C N C' : ℕ) (s : List ℕ) → C' ≡ max C N → C' ≤ C + 1 → 0 < N → N * 9 ≤ length s → ((q : ℕ) → (N ≡ suc q → ⊥) → g' q ≡ g q)
    → take ((N - 1) * 9) (over (encoded record_words (table g C)) s) ++ (record_words (g' (N - 1)) ++ drop ((N - 1) * 9 + 9) (over (encoded record_words (table g C)) s))
    ≡ over (encoded record_words (table g' C')) s
records-more g g' C N C' s em st some room other = go (dec_lt C N)
  where
    long : (h : ℕ → Component) → length (encoded record_words (table h C)) ≡ C * 9
    long h = length-encoded record_words 9 each-nine (table h C) ∙ ap (λ z. z * 9) (length-table h C)

    snoc : (h : ℕ → Component) → table h (suc C) ≡ table h C ++ (h C ∷ [])
    snoc h = table-snoc h C

    go : Dec (C < N)
        → take ((N - 1) * 9) (over (encoded record_words (table g C)) s) ++ (record_words (g' (N - 1)) ++ drop ((N - 1) * 9 + 9) (over (encoded record_words (table g C)) s))
        ≡ over (encoded record_words (table g' C')) s
    go (yes h) =
        let n : N - 1 ≡ C = omega arith in
        let c : suc C ≡ C' = omega arith in
        let t = length-table g C in
        record-append record_words 9 each-nine (table g C) (g' (N - 1)) s (N - 1) (omega arith) (omega arith)
        ∙ ap (λ l. over (encoded record_words l) s)
        (ap (λ z. table g C ++ (g' z ∷ [])) n
        ∙ (ap (λ l. l ++ (g' C ∷ [])) (table-ext g g' C (λ q l. sym (other q (λ e. absurd (omega arith))))) ∙ (sym (snoc g') ∙ ap (table g') c)))
    go (no h) =
        let c : C ≡ C' = omega arith in
        let t = length-table g C in
        let i : N - 1 < length (table g C) = omega arith in
        let rest = drop (length (encoded record_words (table g C))) s in
        record-put record_words 9 each-nine (table g C) (N - 1) (g' (N - 1)) rest i
        ∙ (ap (λ l. encoded record_words l ++ rest) (sym (table-put g g' C (N - 1) (omega arith) (λ q l ne. other q (λ e. ne (omega arith)))))
        ∙ (ap (λ z. encoded record_words (table g' C) ++ drop z s) (long g ∙ sym (long g')) ∙ ap (λ z. over (encoded record_words (table g' z)) s) c))

module _ {w c : ℕ} {s comps₀ comps : List ℕ} {k count : ℕ} (S : TallySweep w c s comps₀ comps k count) (lk : k < c) where
  abbrev A : Tallyable w c s comps₀
  A = S.asks

  abbrev f : ℕ → ℕ
  f = first_run w c (take (2 * c) s)

  abbrev N : ℕ
  N = component_number f k

  abbrev C : ℕ
  C = count_if (is_root f) k

  abbrev g : ℕ → Component
  g = record_to w c s comps₀ A k

  some_number : 0 < N
  some_number = number-some f (first-low w c (take (2 * c) s)) (first-same w c (take (2 * c) s)) k

  next-count : max C N ≡ count_if (is_root f) (suc k)
  next-count = count-max f (first-low w c (take (2 * c) s)) (first-same w c (take (2 * c) s)) k

  number-room : N * 9 ≤ length comps₀
  number-room =
      let e = next-count in
      let u = count-mono (is_root f) (suc k) c lk in
      let r = S.asks.room in
      omega arith

  few-more : {next last dots sum : ℕ} → SpanOf w c (take (2 * c) s) k next last dots sum → count_if (is_root f) next ≤ C + 1
  few-more P = let a = P.counted in let b = next-count in let e = count-step (is_root f) k in omega arith

  -- the record of run k's component so far
  held-is : held_record comps N count ≡ g (N - 1)
  unfolding held_record
  held-is = go (dec_lt C N)
    where
      go : Dec (C < N) → cond (ltb count N) no_dots (record_of (take 9 (drop ((N - 1) * 9) comps))) ≡ g (N - 1)
      go (yes h) =
          let e = S.count_is in
          rw (lt-ltb count N (omega arith))
          (sym (records-none f (first-low w c (take (2 * c) s)) (first-same w c (take (2 * c) s)) w (start_of (take (2 * c) s)) (end_of (take (2 * c) s) 0) (N - 1) k (omega arith)))
      go (no h) =
          let e = S.count_is in
          let p = some_number in
          let t = length-table g C in
          let rest = drop (length (records w c s k)) comps₀ in
          rw (le-ltb count N (omega arith))
          (ap (λ z. record_of (take 9 (drop ((N - 1) * 9) z))) S.words
          ∙ (record-read (table g C) rest (N - 1) no_dots (omega arith) ∙ get_or-table g C (N - 1) no_dots (omega arith)))

  module _ {next last dots sum : ℕ} (P : SpanOf w c (take (2 * c) s) k next last dots sum) (number x y : ℕ) (en : number ≡ N) (ex : x ≡ start_of (take (2 * c) s) k % w) (ey : y ≡ start_of (take (2 * c) s) k / w) where
    pub tally-asks : SpanTallyable comps number count x last dots sum y
    tally-asks =
        let p = number-room in
        let q = tally-long S in
        let i = A.within k lk in
        let o = A.list.order.some k lk in
        let d = div-le_self (start_of (take (2 * c) s) k) w in
        let g = A.list.narrow in
        let a = P.from in
        let b = P.narrow in
        let e = P.few in
        let f = P.light in
        rw en
        (record {
          counted = some_number;
          room = omega arith;
          order = omega arith;
          narrow = omega arith;
          few = omega arith;
          light = omega arith;
          low = omega arith;
          small = rw held-is (record-small w c s comps₀ A (N - 1) k lk);
        })

    -- with the span absorbed it is the record of the runs up to the next
    absorbed-is : absorbed_span (held_record comps N count) x last dots sum y ≡ record_to w c s comps₀ A next (N - 1)
    absorbed-is =
        let p = some_number in
        let e : N ≡ suc (N - 1) = omega arith in
        (λ i. absorbed_span (held-is i) (ex i) last dots sum (ey i)) ∙ subst (λ z. absorbed_span (component_runs w (start_of (take (2 * c) s)) (end_of (take (2 * c) s) 0) f z k) (start_of (take (2 * c) s) k % w) last dots sum (start_of (take (2 * c) s) k / w) ≡ component_runs w (start_of (take (2 * c) s)) (end_of (take (2 * c) s) 0) f z next) e (sym P.own)

    pub tally-more : (comps' : List ℕ) (count' : ℕ) → comps' ≡ tallied comps number count x last dots sum y → count' ≡ max count number → TallySweep w c s comps₀ comps' next count'
    tally-more comps' count' ew ec =
        record {
          asks = A;
          upto = P.upto;
          count_is = ec ∙ ((λ i. max (S.count_is i) (en i)) ∙ P.counted);
          words =
              ew
              ∙ (ap (λ z. tallied comps z count x last dots sum y) en
              ∙ (ap (λ z. take ((N - 1) * 9) comps ++ (record_words z ++ drop ((N - 1) * 9 + 9) comps)) absorbed-is
              ∙ (ap (λ z. take ((N - 1) * 9) z ++ (record_words (record_to w c s comps₀ A next (N - 1)) ++ drop ((N - 1) * 9 + 9) z)) S.words
              ∙ records-more g (record_to w c s comps₀ A next) C N (count_if (is_root f) next) comps₀ (sym P.counted) (few-more P) some_number number-room (λ q ne. P.other (suc q) ne))));
        }

pub tally-done : {w c : ℕ} {s comps₀ comps : List ℕ} {k count : ℕ} → TallySweep w c s comps₀ comps k count → c ≤ k → comps ≡ over (records w c s c) comps₀
tally-done {w} {c} {s} {comps₀} S l = S.words ∙ ap (λ z. over (records w c s z) comps₀) (let u = S.upto in let e : _ ≡ c = omega arith in e)
