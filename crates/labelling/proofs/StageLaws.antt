-- The stages of labelling one after the other: what each leaves is what the next asks, and the last leaves the labelling.
use mathlib.Core.Path.{◌≡◌, refl, sym, ap, ◌∙◌, subst}
use mathlib.Core.List.{List, ◌++◌}
use Prim.Native.Nat.{ℕ, suc, ◌+◌, ◌-◌, ◌*◌, ◌/◌, ◌≤◌, ◌<◌, min}
use native.Mathlib.Nat.{le_trans, mul_comm, mul-pos, mul-le-mul_left, mul_left_comm}
use native.Mathlib.Omega.{arith}
use borrow.Author.Tests.{lt-ltb, le-ltb}
use borrow.Rule.Slice.PartMut.{put_mid}
use lib.ListN.{get_or, length, take, drop, length-append, length-drop}
use lib.Seq.{length-take-le, drop_at, take-take, take-append-le}
use Rattle.memory.specs.rules.Lists.{table, count_if}
use Rattle.memory.specs.rules.Words.{over}
use Rattle.memory.specs.rules.Records.{encoded}
use Rattle.memory.specs.rules.Refusals.{refuse_if}
use Rattle.memory.specs.rules.Limits.{max_mask_dots, max_capacity}
use Rattle.memory.proofs.TableLaws.{length-table}
use Rattle.labelling.specs.rules.Labels.{labelling}
use Rattle.labelling.specs.stages.InkRuns.{turns, run_count, run_of, start_of, end_of, Runs, is_root, component_number, run_label, component_runs}
use Rattle.labelling.specs.stages.Extraction.{Extracted}
use Rattle.labelling.specs.stages.Linking.{touching, first_run, Order, LinkRoom, LinkedRuns}
use Rattle.labelling.specs.stages.Numbering.{Numbered}
use Rattle.labelling.specs.stages.Painting.{numbered, Paintable, Painted}
use Rattle.labelling.specs.rules.RecordWords.{record_words}
use Rattle.labelling.specs.stages.Tallying.{records, Tallyable}
use Rattle.labelling.specs.rules.Answer.{count_told, labels_left, components_left}
use Rattle.labelling.specs.stages.Working.{Workable, worked}
use Rattle.std.specs.Prelude.{Ok, Err}
use Rattle.memory.specs.declared.refusals.Refusal.TheVariants.{TooManyComponents}
use Rattle.labelling.proofs.TransferLaws.{firsts-named}
use Rattle.labelling.proofs.RunLabelLaws.{runs-low, turns-runs, paint-run, paint-gap}
use Rattle.labelling.proofs.RunComponentLaws.{labelling-by-runs}
use Rattle.memory.proofs.PartLaws.{tail-part, tail-put}
use Rattle.labelling.proofs.PaintLaws.{numbered-number, numbered-length, numbered-turns}
use Rattle.labelling.proofs.RecordSweepLaws.{first-low}

-- the labelling by the words that hold its runs
pub labelling-by-words : (w h : ℕ) (m : List ℕ) → 0 < w → (t : List ℕ) (c : ℕ) → t ≡ turns w m (w * h) → c ≡ run_count w m (w * h)
    → labelling w h m
    ≡ record {
      labels = table (run_label w m (first_run w c t)) (w * h);
      components = table (λ q. component_runs w (start_of t) (end_of t 0) (first_run w c t) (suc q) c) (count_if (is_root (first_run w c t)) c);
    }
labelling-by-words w h m hw t c et ec =
    let T = turns w m (w * h) in
    let C = run_count w m (w * h) in
    labelling-by-runs w h m hw (first_run w C T) (firsts-named (touching w T) C)
    ∙ (ap (λ z. record {
      labels = table (run_label w m (first_run w C z)) (w * h);
      components = table (λ q. component_runs w (start_of z) (end_of z 0) (first_run w C z) (suc q) C) (count_if (is_root (first_run w C z)) C);
    }) (sym et)
    ∙ ap (λ z. record {
      labels = table (run_label w m (first_run w z t)) (w * h);
      components = table (λ q. component_runs w (start_of t) (end_of t 0) (first_run w z t) (suc q) z) (count_if (is_root (first_run w z t)) z);
    }) (sym ec))

pub half-fits : (w h : ℕ) → 0 < w → h * ((w + 1) / 2) ≤ w * h
half-fits w h hw = let e = mul_comm w h in let g : h * ((w + 1) / 2) ≤ h * w = mul-le-mul_left h (let q : (w + 1) / 2 ≤ w = omega arith in q) in omega arith

module _ {w h : ℕ} {m : List ℕ} {P : ℕ} {labels comps s₀ : List ℕ} (W : Workable w h m P labels comps s₀) where
  -- the runs of all rows have room before word 3 * (w * h), with a word to spare
  pub stage-extract : LinkRoom w h m s₀ (3 * (w * h))
  stage-extract =
      let some : 0 < w * h = mul-pos W.wide W.high in
      let f = half-fits w h W.wide in
      let e : h * (2 * ((w + 1) / 2)) ≡ 2 * (h * ((w + 1) / 2)) = mul_left_comm h 2 ((w + 1) / 2) in
      let r = W.words_room in
      record {
        plane = record { wide = W.wide; narrow = W.narrow; low = W.low; dots = W.dots; whole = W.whole; room = omega arith };
        place = omega arith;
        room = omega arith;
      }

  module _ {s₁ : List ℕ} {q c : ℕ} (K : LinkedRuns w h m s₀ s₁ q c) where
    E : Extracted w h m s₀ s₁ c
    E = K.runs

    abbrev t : List ℕ
    t = take (2 * c) s₁

    abbrev rep : ℕ → ℕ
    rep = first_run w c (take (2 * c) s₁)

    all_runs : Runs w m (w * h) c (start_of (take (2 * c) s₁)) (end_of (take (2 * c) s₁) 0) (run_of w m)
    all_runs =
        subst (λ z. Runs w m (w * h) z (start_of (take (2 * c) s₁)) (end_of (take (2 * c) s₁) 0) (run_of w m)) (sym E.count)
        (subst (λ t. Runs w m (w * h) (run_count w m (w * h)) (start_of t) (end_of t 0) (run_of w m)) (sym E.runs) (turns-runs w h m W.wide))

    few : c ≤ max_mask_dots
    few = let b = runs-low w m (w * h) in let n = E.count in let d = W.dots in omega arith

    order : Order c (take (2 * c) s₁)
    order = record { some = all_runs.some; rising = all_runs.rising }

    -- the parents lie within the words
    pub stage-room : q ≤ length s₁
    stage-room = let r = K.room in omega arith

    tail-long : c ≤ length (drop q s₁)
    tail-long = simp length-drop (let r = K.room in omega arith)

    pub stage-number : (c ≤ length (take (length s₁ - q) (drop q s₁))) × (P ≤ max_capacity) × ((j : ℕ) → j < c → get_or (take (length s₁ - q) (drop q s₁)) j 0 ≤ j)
    stage-number = rw (tail-part q s₁) (tail-long, W.few, K.forest.down)

    module _ {p : List ℕ} {count : ℕ} (N₀ : Numbered c P (take (length s₁ - q) (drop q s₁)) p count) where
      N : Numbered c P (drop q s₁) p count
      N = subst (λ z. Numbered c P z p count) (tail-part q s₁) N₀

      head-long : length (take q s₁) ≡ q
      head-long = length-take-le q s₁ stage-room

      pub stage-length : length (put_mid q (length s₁ - q) s₁ p) ≡ length s₀
      stage-length =
          let a = head-long in
          let b = length-drop q s₁ in
          let r = stage-room in
          let e = N.len in
          let g = E.len in
          ap length (tail-put q s₁ p) ∙ (length-append (take q s₁) p ∙ (let z : length (take q s₁) + length p ≡ length s₀ = omega arith in z))

      lab : labelling w h m ≡ record { labels = table (run_label w m rep) (w * h); components = table (λ q. component_runs w (start_of t) (end_of t 0) rep (suc q) c) (count_if (is_root rep) c) }
      lab = labelling-by-words w h m W.wide t c E.runs E.count

      lab-count : length (labelling w h m).components ≡ count_if (is_root rep) c
      lab-count = ap (λ z. length z.components) lab ∙ length-table (λ q. component_runs w (start_of t) (end_of t 0) rep (suc q) c) (count_if (is_root rep) c)

      count_is : count ≡ min (length (labelling w h m).components) (P + 1)
      count_is = N.count rep (first-low w c t) K.forest ∙ ap (λ z. min z (P + 1)) (sym lab-count)

      pub stage-many : P < count → worked (Err TooManyComponents) labels comps w h m P labels comps
      unfolding refuse_if count_told labels_left components_left
      stage-many l = let e = count_is in rw (lt-ltb P (length (labelling w h m).components) (omega arith)) (record { number = refl; count = refl; labelled = refl; recorded = refl })

      module _ (fits : count ≤ P) where
        turns-long : 2 * c ≤ length s₁
        turns-long = le_trans K.place stage-room

        -- the numbers seen right behind the runs
        put_is : numbered c (put_mid q (length s₁ - q) s₁ p) (drop q (put_mid q (length s₁ - q) s₁ p)) ≡ numbered c s₁ p
        put_is =
            ap (λ z. numbered c z (drop q z)) (tail-put q s₁ p)
            ∙ (ap (λ z. z ++ drop q (take q s₁ ++ p)) (take-append-le (2 * c) (take q s₁) p (let a = K.place in let e = head-long in omega arith) ∙ take-take (2 * c) q s₁ K.place)
            ∙ ap (λ z. take (2 * c) s₁ ++ z) (drop_at (take q s₁) p q head-long))

        runs-kept : take (2 * c) (numbered c s₁ p) ≡ take (2 * c) s₁
        runs-kept = numbered-turns c s₁ p turns-long

        numbers : (k : ℕ) → k < c → get_or (numbered c s₁ p) (2 * c + k) 0 ≡ component_number rep k
        numbers k l = numbered-number c s₁ p turns-long k ∙ N.numbers rep (first-low w c t) K.forest fits k l

        put-long : 3 * c ≤ length (numbered c s₁ p)
        put-long = let a = numbered-length c s₁ p turns-long in let b = tail-long in let e = N.len in omega arith

        stage-paint : Paintable (numbered c s₁ p) c labels (w * h)
        stage-paint = record { room = put-long; dots = W.dots; labels = W.labels_room; order = rw runs-kept order; within = rw runs-kept all_runs.within }

        counted : count_if (is_root rep) c * 9 ≤ length comps
        counted = let e = count_is in let f = lab-count in let r = W.records_room in omega arith

        stage-tally : Tallyable w c (numbered c s₁ p) comps
        stage-tally =
            record {
              list = record { wide = W.wide; narrow = W.narrow; few = few; room = put-long; order = rw runs-kept order };
              within = rw runs-kept (λ k l. le_trans (all_runs.within k l) W.dots);
              row = rw runs-kept all_runs.row;
              numbers = rw runs-kept numbers;
              room = rw runs-kept counted;
            }

        -- what painting asks
        pub stage-asks : (2 * c ≤ q) × (q ≤ length (put_mid q (length s₁ - q) s₁ p))
            × Paintable (numbered c (put_mid q (length s₁ - q) s₁ p) (drop q (put_mid q (length s₁ - q) s₁ p))) c labels (w * h)
            × Tallyable w c (numbered c (put_mid q (length s₁ - q) s₁ p) (drop q (put_mid q (length s₁ - q) s₁ p))) comps
        stage-asks = (
          K.place,
          let e = stage-length in let g = E.len in let r = stage-room in omega arith,
          subst (λ z. Paintable z c labels (w * h)) (sym put_is) stage-paint,
          subst (λ z. Tallyable w c z comps) (sym put_is) stage-tally,
        )

        painted-is : {labels' : List ℕ} → Painted (numbered c s₁ p) c labels labels' (w * h) → labels' ≡ over (labelling w h m).labels labels
        painted-is X =
            X.painted (run_label w m rep)
            (rw runs-kept (λ k i l a b. paint-run w m W.wide (w * h) c (start_of t) (end_of t 0) all_runs rep k i l a b ∙ sym (numbers k l)))
            (rw runs-kept (paint-gap w m W.wide (w * h) c (start_of t) (end_of t 0) all_runs rep))
            ∙ (ap (λ z. table (run_label w m rep) (w * h) ++ drop z labels) (sym (length-table (run_label w m rep) (w * h))) ∙ ap (λ z. over z.labels labels) (sym lab))

        recorded-is : {comps' : List ℕ} → comps' ≡ over (records w c (numbered c s₁ p) c) comps → comps' ≡ over (encoded record_words (labelling w h m).components) comps
        recorded-is e =
            e ∙ (ap (λ z. over (encoded record_words (table (λ q. component_runs w (start_of z) (end_of z 0) (first_run w c z) (suc q) c) (count_if (is_root (first_run w c z)) c))) comps) runs-kept
            ∙ ap (λ z. over (encoded record_words z.components) comps) (sym lab))

        pub stage-done : {labels' comps' : List ℕ}
            → Painted (numbered c (put_mid q (length s₁ - q) s₁ p) (drop q (put_mid q (length s₁ - q) s₁ p))) c labels labels' (w * h)
            → comps' ≡ over (records w c (numbered c (put_mid q (length s₁ - q) s₁ p) (drop q (put_mid q (length s₁ - q) s₁ p))) c) comps
            → worked (Ok count) labels' comps' w h m P labels comps
        unfolding refuse_if count_told labels_left components_left
        stage-done {labels'} {comps'} X e =
            let q = count_is in
            rw (le-ltb P (length (labelling w h m).components) (omega arith))
            (record {
              number = refl;
              count = let x : count ≡ length (labelling w h m).components = omega arith in x;
              labelled = painted-is (subst (λ z. Painted z c labels labels' (w * h)) put_is X);
              recorded = recorded-is (e ∙ ap (λ z. over (records w c z c) comps) put_is);
            })
