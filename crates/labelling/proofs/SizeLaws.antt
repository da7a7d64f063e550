-- The components of a mask in scratch: what its runs, their numbers and the sizes tell, and the stages that put them there.
use mathlib.Core.Path.{◌≡◌, sym, ap, ◌∙◌, subst}
use mathlib.Core.List.{List, [], ◌++◌, append-nil}
use mathlib.Core.Bool.{true}
use Prim.Native.Nat.{ℕ, suc, ◌+◌, ◌-◌, ◌*◌, ◌/◌, ◌≤◌, ◌<◌, min}
use native.Mathlib.Nat.{le_refl, le_trans, mul_comm, mod-lt, div-lt_iff_lt-mul}
use native.Mathlib.Omega.{arith}
use borrow.Author.Tests.{eq-eqb}
use borrow.Rule.Slice.PartMut.{put_mid}
use lib.ListN.{get_or, length, take, drop, length-append, length-drop, get_or-append}
use lib.Seq.{length-take-le, get_or-take, get_or-drop, take-take, take_at, drop_at, drop-drop, take-append-le, drop-append-add, get_or-append-add}
use Rattle.memory.specs.rules.Lists.{table, count_if}
use Rattle.memory.specs.rules.Words.{over}
use Rattle.memory.specs.rules.Records.{encoded}
use Rattle.memory.specs.rules.Limits.{max_mask_dots}
use Rattle.memory.proofs.PartLaws.{tail-part, tail-put}
use Rattle.memory.proofs.TableLaws.{length-table, get_or-table}
use Rattle.memory.proofs.RecordLaws.{length-encoded, record-at}
use Rattle.labelling.specs.rules.Components.{no_dots}
use Rattle.labelling.specs.rules.Labels.{labelling}
use Rattle.labelling.specs.stages.InkRuns.{turns, run_count, run_of, start_of, end_of, Runs, is_root, component_number, run_label, component_runs}
use Rattle.labelling.specs.stages.Linking.{Order, first_run, AllLinked}
use Rattle.labelling.specs.stages.Numbering.{Numbered}
use Rattle.labelling.specs.stages.Sizes.{size_words, HoldsRuns, HoldsNumbers, HoldsSizes, SizesRoom, SizesLeft}
use Rattle.labelling.specs.stages.Sizing.{sizes, Sizable, RunsNumberable, RunsNumbered}
use Rattle.labelling.specs.declared.component.Component.{Component}
use Rattle.memory.proofs.PlaceLaws.{count-mono, count_yes, count_low}
use Rattle.labelling.proofs.Theorems.{label-occurs, labelled, records-right}
use Rattle.labelling.proofs.TouchLaws.{run-of}
use Rattle.labelling.proofs.RunLabelLaws.{turns-even, turns-runs, paint-run}
use Rattle.labelling.proofs.ScanLaws.{turns_fit}
use Rattle.labelling.proofs.RecordSweepLaws.{first-low}
use Rattle.labelling.proofs.StageLaws.{labelling-by-words, half-fits}
use Rattle.labelling.proofs.SizeSweepLaws.{each-five}

-- The runs of a mask in words

module _ {w h : ℕ} {m s : List ℕ} {c : ℕ} (hw : 0 < w) (H : HoldsRuns w h m s c) where
  -- they rise, lie within the mask, each in one row, and each ink dot lies in one of them
  pub held-runs : Runs w m (w * h) c (start_of (take (2 * c) s)) (end_of (take (2 * c) s) 0) (run_of w m)
  held-runs =
      subst (λ z. Runs w m (w * h) z (start_of (take (2 * c) s)) (end_of (take (2 * c) s) 0) (run_of w m)) (sym H.count)
      (subst (λ t. Runs w m (w * h) (run_count w m (w * h)) (start_of t) (end_of t 0) (run_of w m)) (sym H.runs) (turns-runs w h m hw))

  -- and in no other
  pub held-run : (k i : ℕ) → k < c → start_of (take (2 * c) s) k ≤ i → i < end_of (take (2 * c) s) 0 k → run_of w m i ≡ k
  held-run = run-of w m hw (w * h) c (start_of (take (2 * c) s)) (end_of (take (2 * c) s) 0) (run_of w m) held-runs

  pub held-order : Order c (take (2 * c) s)
  held-order = record { some = held-runs.some; rising = held-runs.rising }

  -- at most one for each second dot of a row
  pub held-few : c ≤ h * ((w + 1) / 2)
  held-few =
      let t = turns-even w h m hw in
      let g = turns_fit w m hw h in
      let e = ap (λ z. length (turns w m z)) (mul_comm h w) in
      let n = H.count in
      omega arith

  pub held-dots : c ≤ w * h
  held-dots = le_trans held-few (half-fits w h hw)

  -- start and end of run k as they are read
  pub held_start : (k : ℕ) → k < c → start_of s k ≡ start_of (take (2 * c) s) k
  held_start k l = sym (get_or-take (2 * c) s (2 * k) 0 (omega arith))

  pub held-end : (k : ℕ) → k < c → end_of s 0 k ≡ end_of (take (2 * c) s) 0 k
  held-end k l = sym (get_or-take (2 * c) s (2 * k + 1) 0 (omega arith))

  held-labelling : labelling w h m
      ≡ record {
        labels = table (run_label w m (first_run w c (take (2 * c) s))) (w * h);
        components = table (λ q. component_runs w (start_of (take (2 * c) s)) (end_of (take (2 * c) s) 0) (first_run w c (take (2 * c) s)) (suc q) c) (count_if (is_root (first_run w c (take (2 * c) s))) c);
      }
  held-labelling = labelling-by-words w h m hw (take (2 * c) s) c H.runs H.count

  -- as many components as runs that are the first of theirs
  pub held-count : length (labelling w h m).components ≡ count_if (is_root (first_run w c (take (2 * c) s))) c
  held-count = ap (λ z. length z.components) held-labelling ∙ length-table (λ q. component_runs w (start_of (take (2 * c) s)) (end_of (take (2 * c) s) 0) (first_run w c (take (2 * c) s)) (suc q) c) (count_if (is_root (first_run w c (take (2 * c) s))) c)

  -- the label of a run's dot is the number of its component
  pub held-label : (k i : ℕ) → k < c → start_of (take (2 * c) s) k ≤ i → i < end_of (take (2 * c) s) 0 k → get_or (labelling w h m).labels i 0 ≡ component_number (first_run w c (take (2 * c) s)) k
  held-label k i l a b =
      ap (λ z. get_or z.labels i 0) held-labelling
      ∙ (get_or-table (run_label w m (first_run w c (take (2 * c) s))) (w * h) i 0 (let u = held-runs.within k l in omega arith)
      ∙ paint-run w m hw (w * h) c (start_of (take (2 * c) s)) (end_of (take (2 * c) s) 0) held-runs (first_run w c (take (2 * c) s)) k i l a b)

  held_first : (k : ℕ) → k < c → get_or (labelling w h m).labels (start_of (turns w m (w * h)) k) 0 ≡ component_number (first_run w c (take (2 * c) s)) k
  held_first k l =
      ap (λ z. get_or (labelling w h m).labels (start_of z k) 0) (sym H.runs)
      ∙ held-label k (start_of (take (2 * c) s) k) l (le_refl _) (held-runs.some k l)

-- a run's dots share their label: the number that stands behind the runs
pub run-label : {w h : ℕ} {m s : List ℕ} {c : ℕ} → 0 < w → HoldsNumbers w h m s c → (k i : ℕ) → k < c → start_of s k ≤ i → i < end_of s 0 k
    → get_or (labelling w h m).labels i 0 ≡ get_or s (2 * c + k) 0
run-label hw Q k i l a b =
    let e = held_start hw Q.held k l in
    let f = held-end hw Q.held k l in
    held-label hw Q.held k i l (omega arith) (omega arith) ∙ (sym (held_first hw Q.held k l) ∙ sym (Q.numbers k l))

-- The sizes of components in words

-- the five words of component k + 1
pub record SizeAt (s : List ℕ) (at : ℕ) (c : Component) : Type 0 where
  pub area : get_or s at 0 ≡ c.area
  pub x0 : get_or s (at + 1) 0 ≡ c.x0
  pub y0 : get_or s (at + 2) 0 ≡ c.y0
  pub x1 : get_or s (at + 3) 0 ≡ c.x1
  pub y1 : get_or s (at + 4) 0 ≡ c.y1

pub size-at : (cs : List Component) (s : List ℕ) (at k : ℕ) → HoldsSizes cs s at → k < length cs → SizeAt s (at + 5 * k) (get_or cs k no_dots)
size-at cs s at k H l =
    record {
      area = ap (λ z. get_or s z 0) (let e : at + 5 * k ≡ at + (k * 5 + 0) = omega arith in e) ∙ word 0 (omega arith);
      x0 = ap (λ z. get_or s z 0) (let e : at + 5 * k + 1 ≡ at + (k * 5 + 1) = omega arith in e) ∙ word 1 (omega arith);
      y0 = ap (λ z. get_or s z 0) (let e : at + 5 * k + 2 ≡ at + (k * 5 + 2) = omega arith in e) ∙ word 2 (omega arith);
      x1 = ap (λ z. get_or s z 0) (let e : at + 5 * k + 3 ≡ at + (k * 5 + 3) = omega arith in e) ∙ word 3 (omega arith);
      y1 = ap (λ z. get_or s z 0) (let e : at + 5 * k + 4 ≡ at + (k * 5 + 4) = omega arith in e) ∙ word 4 (omega arith);
    }
  where
    word : (j : ℕ) → j < 5 → get_or s (at + (k * 5 + j)) 0 ≡ get_or (size_words (get_or cs k no_dots)) j 0
    word j b =
        sym (get_or-drop at s (k * 5 + j) 0)
        ∙ (sym (get_or-take (5 * length cs) (drop at s) (k * 5 + j) 0 (omega arith))
        ∙ (ap (λ z. get_or z (k * 5 + j) 0) (H ∙ sym (append-nil (encoded size_words cs))) ∙ record-at size_words 5 each-five cs [] k j no_dots l b))

-- a component lies within the mask and has a dot
pub record Boxed (w h : ℕ) (c : Component) : Type 0 where
  pub wide : c.x0 ≤ c.x1
  pub high : c.y0 ≤ c.y1
  pub right : c.x1 < w
  pub bottom : c.y1 < h
  pub some : 0 < c.area
  pub all : c.area ≤ w * h

pub component-boxed : (w h : ℕ) (m : List ℕ) → 0 < w → w * h ≤ max_mask_dots → (k : ℕ) → k < length (labelling w h m).components → Boxed w h (get_or (labelling w h m).components k no_dots)
component-boxed w h m hw lim k l =
    let D = label-occurs w h m k l in
    let R = records-right w h m lim k l in
    let d = D.0 in
    let p = labelled w (labelling w h m).labels (suc k) in
    let e : p d ≡ true = eq-eqb _ _ D.4 in
    let a₁ = R.x0.bound d D.1 e in
    let a₂ = R.x1.bound d D.1 e in
    let b₁ = R.y0.bound d D.1 e in
    let b₂ = R.y1.bound d D.1 e in
    let t = R.x1.taken d D.1 e in
    let u = R.y1.taken d D.1 e in
    let t₁ = mod-lt t.0 hw in
    let t₂ = t.3 in
    let u₁ : u.0 / w < h = (div-lt_iff_lt-mul hw).1 (let q = u.1 in let z = mul_comm w h in omega arith) in
    let u₂ = u.3 in
    let n = R.area in
    let o = count_yes p d e in
    let v = count-mono p (suc d) (w * h) D.1 in
    let x = count_low p (w * h) in
    record { wide = le_trans a₁ a₂; high = le_trans b₁ b₂; right = omega arith; bottom = omega arith; some = omega arith; all = omega arith }

-- Numbers: runs linked, then numbered

module _ {w h c P : ℕ} {s s₂ : List ℕ} (B : RunsNumberable w h c P s) (K : AllLinked w c s s₂) where
  pub numbers-done : {p : List ℕ} {r : ℕ} → Numbered c P (take (length s₂ - 2 * c) (drop (2 * c) s₂)) p r → RunsNumbered w c P s (put_mid (2 * c) (length s₂ - 2 * c) s₂ p) r
  numbers-done {p} {r} N₀ =
      rw (tail-put (2 * c) s₂ p)
      (record {
        len = length-append (take (2 * c) s₂) p ∙ (let a = front in let b = length-drop (2 * c) s₂ in let e = N.len in let f = K.kept.len in let q = B.list.room in (let z : length (take (2 * c) s₂) + length p ≡ length s = omega arith in z));
        runs = take_at (take (2 * c) s₂) p (2 * c) front ∙ K.kept.runs;
        count = N.count (first_run w c (take (2 * c) s)) (first-low w c (take (2 * c) s)) K.forest;
        numbers = λ u k l.
            ap (λ z. get_or (take (2 * c) s₂ ++ p) (z + k) 0) (sym front)
            ∙ (get_or-append-add (take (2 * c) s₂) p k 0 ∙ N.numbers (first_run w c (take (2 * c) s)) (first-low w c (take (2 * c) s)) K.forest u k l);
      })
    where
      N : Numbered c P (drop (2 * c) s₂) p r
      N = subst (λ z. Numbered c P z p r) (tail-part (2 * c) s₂) N₀

      front : length (take (2 * c) s₂) ≡ 2 * c
      front = length-take-le (2 * c) s₂ (let q = B.list.room in let l = K.kept.len in omega arith)

-- Words put over the front of others leave those past them

over-drop : (v s : List ℕ) (n : ℕ) → length v ≤ n → drop n (over v s) ≡ drop n s
over-drop v s n l =
    let e : n ≡ length v + (n - length v) = omega arith in
    ap (λ z. drop z (over v s)) e
    ∙ (drop-append-add v (drop (length v) s) (n - length v) ∙ (drop-drop (n - length v) (length v) s ∙ ap (λ z. drop z s) (sym e)))

over-get_or : (v s : List ℕ) (i : ℕ) → length v ≤ i → get_or (over v s) i 0 ≡ get_or s i 0
over-get_or v s i l =
    let e : i ≡ length v + (i - length v) = omega arith in
    ap (λ z. get_or (over v s) z 0) e
    ∙ (get_or-append-add v (drop (length v) s) (i - length v) 0 ∙ (get_or-drop (length v) s (i - length v) 0 ∙ ap (λ z. get_or s z 0) (sym e)))

-- The stages: numbers in the first 3c words, then sizes from `at` on

module _ {w h : ℕ} {m s : List ℕ} {c P at : ℕ} (R : SizesRoom w h m s c P at) where
  list-long : length (take (3 * c - 0) s) ≡ 3 * c
  list-long = let b = R.before in let r = R.room in let e = length-take-le (3 * c - 0) s (omega arith) in omega arith

  list-runs : take (2 * c) (take (3 * c - 0) s) ≡ take (2 * c) s
  list-runs = take-take (2 * c) (3 * c - 0) s (omega arith)

  pub sizes-number : RunsNumberable w h c P (take (3 * c - 0) s)
  sizes-number =
      let d = held-dots R.wide R.held in
      let l = list-long in
      let u = R.dots in
      record {
        list = record { wide = R.wide; narrow = R.narrow; few = omega arith; room = omega arith; order = rw list-runs (held-order R.wide R.held) };
        low = R.low;
        inside = λ k b.
            let e = get_or-take (3 * c - 0) s (2 * k) 0 (omega arith) in
            let f = held_start R.wide R.held k b in
            let o = (held-runs R.wide R.held).some k b in
            let i = (held-runs R.wide R.held).within k b in
            let z = mul_comm w h in
            omega arith;
        few = R.few;
      }

  module _ {v : List ℕ} {r : ℕ} (Q₀ : RunsNumbered w c P (take (3 * c - 0) s) v r) where
    abbrev rep : ℕ → ℕ
    rep = first_run w c (take (2 * c) s)

    abbrev s₂ : List ℕ
    s₂ = v ++ drop (3 * c - 0) s

    v-long : length v ≡ 3 * c
    v-long = Q₀.len ∙ list-long

    put-over : s₂ ≡ over v s
    put-over = ap (λ z. v ++ drop z s) (let a = v-long in let e : 3 * c - 0 ≡ length v = omega arith in e)

    put-long : length s₂ ≡ length s
    put-long = length-append v (drop (3 * c - 0) s) ∙ (let a = v-long in let d = length-drop (3 * c - 0) s in let b = R.before in let q = R.room in (let z : length v + length (drop (3 * c - 0) s) ≡ length s = omega arith in z))

    put-runs : take (2 * c) s₂ ≡ take (2 * c) s
    put-runs = take-append-le (2 * c) v (drop (3 * c - 0) s) (let a = v-long in omega arith) ∙ (Q₀.runs ∙ list-runs)

    counted : r ≡ min (count_if (is_root rep) c) (P + 1)
    counted = Q₀.count ∙ ap (λ z. min (count_if (is_root (first_run w c z)) c) (P + 1)) list-runs

    count_is : r ≡ min (length (labelling w h m).components) (P + 1)
    count_is = counted ∙ ap (λ z. min z (P + 1)) (sym (held-count R.wide R.held))

    kept : (i : ℕ) → 3 * c ≤ i → get_or s₂ i 0 ≡ get_or s i 0
    kept i l = ap (λ z. get_or z i 0) put-over ∙ over-get_or v s i (let a = v-long in omega arith)

    past : drop (at + 5 * P) s₂ ≡ drop (at + 5 * P) s
    past = ap (drop (at + 5 * P)) put-over ∙ over-drop v s (at + 5 * P) (let a = v-long in let b = R.before in omega arith)

    pub sizes-many : P < r → SizesLeft w h m s s₂ c P at r
    sizes-many l =
        record { len = put-long; count = count_is; numbered = λ u. absurd (omega arith); sizes = λ u. absurd (omega arith); between = λ i a b. kept i a; beyond = past }

    module _ (fits : r ≤ P) where
      numbers : (k : ℕ) → k < c → get_or s₂ (2 * c + k) 0 ≡ component_number rep k
      numbers k l =
          get_or-append v (drop (3 * c - 0) s) 0 (2 * c + k) (let a = v-long in omega arith)
          ∙ (Q₀.numbers fits k l ∙ ap (λ z. component_number (first_run w c z) k) list-runs)

      few : count_if (is_root rep) c ≤ P
      few = let e = counted in omega arith

      pub sizes-ask : Sizable w h c s₂ at
      sizes-ask =
          let d = held-dots R.wide R.held in
          let u = R.dots in
          let a = put-long in
          let f = few in
          let b = R.before in
          let q = R.room in
          record {
            list = record { wide = R.wide; narrow = R.narrow; few = omega arith; room = omega arith; order = rw put-runs (held-order R.wide R.held) };
            dots = R.dots;
            within = rw put-runs (held-runs R.wide R.held).within;
            row = rw put-runs (held-runs R.wide R.held).row;
            numbers = rw put-runs numbers;
            before = b;
            room = rw put-runs (let z : at + count_if (is_root rep) c * 5 ≤ length s₂ = omega arith in z);
          }

      module _ {s₃ : List ℕ} (e : s₃ ≡ take at s₂ ++ over (sizes w c s₂ c) (drop at s₂)) where
        sizes-are : sizes w c s₂ c ≡ encoded size_words (labelling w h m).components
        sizes-are =
            ap (λ z. encoded size_words (table (λ q. component_runs w (start_of z) (end_of z 0) (first_run w c z) (suc q) c) (count_if (is_root (first_run w c z)) c))) put-runs
            ∙ ap (λ z. encoded size_words z.components) (sym (held-labelling R.wide R.held))

        front_long : length (take at s₂) ≡ at
        front_long = length-take-le at s₂ (let a = put-long in let q = R.room in omega arith)

        behind : drop at s₃ ≡ over (encoded size_words (labelling w h m).components) (drop at s₂)
        behind = ap (drop at) e ∙ (drop_at (take at s₂) (over (sizes w c s₂ c) (drop at s₂)) at front_long ∙ ap (λ z. over z (drop at s₂)) sizes-are)

        ahead : (i : ℕ) → i < at → get_or s₃ i 0 ≡ get_or s₂ i 0
        ahead i l = ap (λ z. get_or z i 0) e ∙ (get_or-append (take at s₂) (over (sizes w c s₂ c) (drop at s₂)) 0 i (let f = front_long in omega arith) ∙ get_or-take at s₂ i 0 l)

        words_long : length (encoded size_words (labelling w h m).components) ≡ 5 * length (labelling w h m).components
        words_long = length-encoded size_words 5 each-five (labelling w h m).components ∙ mul_comm (length (labelling w h m).components) 5

        words-fit : 5 * length (labelling w h m).components ≤ 5 * P
        words-fit = let f = few in let n = held-count R.wide R.held in omega arith

        runs : take (2 * c) s₃ ≡ turns w m (w * h)
        runs =
            ap (take (2 * c)) e
            ∙ (take-append-le (2 * c) (take at s₂) (over (sizes w c s₂ c) (drop at s₂)) (let f = front_long in let b = R.before in omega arith)
            ∙ (take-take (2 * c) at s₂ (let b = R.before in omega arith) ∙ (put-runs ∙ R.held.runs)))

        pub sizes-done : SizesLeft w h m s s₃ c P at r
        sizes-done =
            record {
              len = ap length e ∙ (length-append (take at s₂) (over (sizes w c s₂ c) (drop at s₂)) ∙ whole);
              count = count_is;
              numbered = λ u.
                  record {
                    held = record { count = R.held.count; runs = runs };
                    numbers = λ k l. ahead (2 * c + k) (let b = R.before in omega arith) ∙ (numbers k l ∙ sym (held_first R.wide R.held k l));
                  };
              sizes = λ u. ap (take (5 * length (labelling w h m).components)) behind ∙ take_at (encoded size_words (labelling w h m).components) (drop (length (encoded size_words (labelling w h m).components)) (drop at s₂)) (5 * length (labelling w h m).components) words_long;
              between = λ i a b. ahead i b ∙ kept i a;
              beyond =
                  sym (drop-drop (5 * P) at s₃)
                  ∙ (ap (drop (5 * P)) behind
                  ∙ (over-drop (encoded size_words (labelling w h m).components) (drop at s₂) (5 * P) (let n = words_long in let f = words-fit in omega arith)
                  ∙ (drop-drop (5 * P) at s₂ ∙ past)));
            }
          where
            whole : length (take at s₂) + length (over (sizes w c s₂ c) (drop at s₂)) ≡ length s
            whole =
                rw sizes-are
                (let n = words_long in
                let f = words-fit in
                let g = front_long in
                let a = put-long in
                let q = R.room in
                let d = length-drop at s₂ in
                let x = length-drop (length (encoded size_words (labelling w h m).components)) (drop at s₂) in
                let y = length-append (encoded size_words (labelling w h m).components) (drop (length (encoded size_words (labelling w h m).components)) (drop at s₂)) in
                omega arith)
