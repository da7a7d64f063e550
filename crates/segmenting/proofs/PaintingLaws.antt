-- The plane of kinds painted run by run: the ink up to a run, then the kind of its component.
use mathlib.Core.Path.{◌≡◌, refl, sym, ap, ◌∙◌, subst}
use mathlib.Core.Bool.{true, false}
use mathlib.Core.List.{List, [], ◌∷◌, ◌++◌}
use Prim.Native.Nat.{ℕ, zero, suc, ◌+◌, ◌-◌, ◌*◌, ◌≤◌, ◌<◌}
use native.Mathlib.Nat.{le_refl}
use native.Mathlib.Numerals.{add-one}
use native.Mathlib.Omega.{arith}
use borrow.Rule.Slice.PartMut.{put_mid, same_len_mid}
use lib.ListN.{get_or, length, take, drop, replicate, length-take, length-drop}
use Rattle.std.proofs.lemmas.List.{length-replicate, replicate_more}
use Rattle.memory.specs.rules.Lists.{table}
use Rattle.memory.specs.rules.Words.{over}
use Rattle.memory.proofs.TableLaws.{table-ext}
use Rattle.memory.proofs.PartLaws.{over-all, part-is-table, part_filled}
use Rattle.memory.specs.rules.Masks.{is_ink}
use Rattle.labelling.specs.rules.Labels.{labelling}
use Rattle.labelling.specs.stages.InkRuns.{start_of, end_of}
use Rattle.labelling.proofs.Theorems.{label-within}
use Rattle.labelling.proofs.RunLabelLaws.{gap-blank}
use Rattle.labelling.proofs.SizeLaws.{held-runs, held_start, held-end, run-label}
use Rattle.segmenting.specs.stages.Held.{held_kind}
use Rattle.segmenting.specs.stages.Painting.{painted_kind, PaintedTo, RunPaintable, RunPainted, Paintable}
use Rattle.grouping.proofs.TableWords.{over-table}

-- The next part is copied from the ink

pub part-long : (t : List ℕ) (a e : ℕ) → a ≤ e → e ≤ length t → length (take (e - a) (drop a t)) ≡ e - a
part-long t a e h k = simp (length-take, length-drop) (omega arith)

module _ (ink l v : List ℕ) (a e : ℕ) (h : a ≤ e) (k : e ≤ length ink) (r : length ink ≤ length l)
    (ev : v ≡ over (take (e - a) (drop a ink)) (take (e - a) (drop a l))) where
  copied : v ≡ take (e - a) (drop a ink)
  copied = ev ∙ over-all (take (e - a) (drop a ink)) (take (e - a) (drop a l)) (part-long ink a e h k ∙ sym (part-long l a e h (omega arith)))

  pub copied-long : length (put_mid a (e - a) l v) ≡ length l
  copied-long = same_len_mid a (e - a) l v (ap length copied ∙ (part-long ink a e h k ∙ sym (part-long l a e h (omega arith))))

  pub copied-to : (f : ℕ → ℕ) (l₀ : List ℕ) → PaintedTo f l₀ l a → ((i : ℕ) → a ≤ i → i < e → f i ≡ get_or ink i 0) → PaintedTo f l₀ (put_mid a (e - a) l v) e
  copied-to f l₀ P q =
      subst (PaintedTo f l₀ (put_mid a (e - a) l v)) (let z : a + (e - a) ≡ e = omega arith in z)
      (part_filled f l₀ l v a (e - a) P
      (copied ∙ (part-is-table ink a (e - a) 0 (omega arith) ∙ table-ext (λ i. get_or ink (a + i) 0) (λ i. f (a + i)) (e - a) (λ i b. sym (q (a + i) (omega arith) (omega arith))))))

-- A run

replicate-table : (n v : ℕ) → replicate n v ≡ table (λ _. v) n
unfolding table
replicate-table zero v = refl
replicate-table (suc n) v = simp add-one at (sym (replicate_more n v)) ∙ ap (λ z. z ++ (v ∷ [])) (replicate-table n v)

module _ {s ink l : List ℕ} {runs kinds k done : ℕ} (R : RunPaintable s runs kinds k done ink l) (start end kind : ℕ)
    (es : start ≡ start_of s k) (ee : end ≡ end_of s 0 k) (ek : kind ≡ held_kind s kinds (get_or s (2 * runs + k) 0 - 1)) where
  -- what the copy and the filling ask
  pub run-asks : (done ≤ start) × (start ≤ end) × (end ≤ length ink) × (length ink ≤ length l)
  run-asks =
      let a = R.behind in
      let b = R.some in
      let d = R.within in
      let e = R.plane in
      (omega arith, omega arith, omega arith, omega arith)

  pub run-painted : (v u : List ℕ) → v ≡ over (take (start - done) (drop done ink)) (take (start - done) (drop done l))
      → u ≡ replicate (length (take (end - start) (drop start (put_mid done (start - done) l v)))) kind
      → RunPainted s runs kinds k done ink l (put_mid start (end - start) (put_mid done (start - done) l v) u) end
  run-painted v u ev eu =
      record {
        len = same_len_mid start (end - start) (put_mid done (start - done) l v) u (ap length eu ∙ length-replicate (length (take (end - start) (drop start (put_mid done (start - done) l v)))) kind) ∙ one-long;
        end = ee;
        painted = λ f l₀ P before on.
            subst (PaintedTo f l₀ (put_mid start (end - start) (put_mid done (start - done) l v) u)) (let a = run-asks in let z : start + (end - start) ≡ end_of s 0 k = omega arith in z)
            (part_filled f l₀ (put_mid done (start - done) l v) u start (end - start)
            (copied-to ink l v done start run-asks.0 (let a = run-asks in omega arith) run-asks.3 ev f l₀ P (λ i g b. before i g (omega arith)))
            (eu
            ∙ (replicate-table (length (take (end - start) (drop start (put_mid done (start - done) l v)))) kind ∙ ap (table (λ _. kind)) on-long ∙ table-ext (λ _. kind) (λ i. f (start + i)) (end - start) (λ i b. ek ∙ sym (on (start + i) (omega arith) (omega arith))))));
      }
    where
      one-long : length (put_mid done (start - done) l v) ≡ length l
      one-long = copied-long ink l v done start run-asks.0 (let a = run-asks in omega arith) run-asks.3 ev

      on-long : length (take (end - start) (drop start (put_mid done (start - done) l v))) ≡ end - start
      on-long = part-long (put_mid done (start - done) l v) start end run-asks.1 (let a = run-asks in let b = one-long in omega arith)

-- The runs, one after the other

-- f has its component's kind on each run
abbrev pub OnRuns : List ℕ → ℕ → ℕ → (ℕ → ℕ) → Type 0
OnRuns s runs kinds f = (k i : ℕ) → k < runs → start_of s k ≤ i → i < end_of s 0 k → f i ≡ held_kind s kinds (get_or s (2 * runs + k) 0 - 1)

-- and the ink before run k, after the run before it
abbrev pub OffRuns : List ℕ → ℕ → List ℕ → (ℕ → ℕ) → Type 0
OffRuns s runs ink f = (k i : ℕ) → k ≤ runs → i < length ink → (k < runs → i < start_of s k) → ((j : ℕ) → suc j ≡ k → end_of s 0 j ≤ i) → f i ≡ get_or ink i 0

-- the first k runs are painted, up to `done`
pub record KindSweep (ink s : List ℕ) (runs kinds : ℕ) (out₀ out : List ℕ) (done k : ℕ) : Type 0 where
  pub len : length out ≡ length out₀
  pub upto : k ≤ runs
  pub inside : done ≤ length ink
  pub last : (j : ℕ) → suc j ≡ k → end_of s 0 j ≡ done
  pub none : k ≡ 0 → done ≡ 0
  pub painted : (f : ℕ → ℕ) → OnRuns s runs kinds f → OffRuns s runs ink f → PaintedTo f out₀ out done

pub kinds-none : (ink s : List ℕ) (runs kinds : ℕ) (out : List ℕ) → KindSweep ink s runs kinds out out 0 0
unfolding table
kinds-none ink s runs kinds out =
    record { len = refl; upto = omega arith; inside = omega arith; last = λ j e. absurd (omega arith); none = λ e. e; painted = λ f on off. refl }

module _ {w h : ℕ} {m ink s : List ℕ} {runs kinds : ℕ} {out₀ : List ℕ} (A : Paintable w h m ink s runs kinds out₀) where
  start-of : (k : ℕ) → k < runs → start_of s k ≡ start_of (take (2 * runs) s) k
  start-of = held_start A.wide A.numbered.held

  end-of : (k : ℕ) → k < runs → end_of s 0 k ≡ end_of (take (2 * runs) s) 0 k
  end-of = held-end A.wide A.numbered.held

  run-some : (k : ℕ) → k < runs → start_of s k < end_of s 0 k
  run-some k l =
      let a = start-of k l in
      let b = end-of k l in
      let c = (held-runs A.wide A.numbered.held).some k l in
      omega arith

  run-within : (k : ℕ) → k < runs → end_of s 0 k ≤ length ink
  run-within k l =
      let b = end-of k l in
      let c = (held-runs A.wide A.numbered.held).within k l in
      let d = A.plane in
      omega arith

  run-after : (j k : ℕ) → suc j ≡ k → k < runs → end_of s 0 j ≤ start_of s k
  run-after j k e l =
      let a = start-of k l in
      let b = end-of j (omega arith) in
      let c = (held-runs A.wide A.numbered.held).rising j k (omega arith) l in
      omega arith

  run-ink : (k i : ℕ) → k < runs → start_of s k ≤ i → i < end_of s 0 k → is_ink m i ≡ true
  run-ink k i l a b =
      let c = start-of k l in
      let d = end-of k l in
      (held-runs A.wide A.numbered.held).ink k i l (omega arith) (omega arith)

  run-number : (k : ℕ) → k < runs → (0 < get_or s (2 * runs + k) 0) × (get_or s (2 * runs + k) 0 ≤ length (labelling w h m).components)
  run-number k l =
      let a = run-some k l in
      let b = run-within k l in
      let e = run-label A.wide A.numbered k (start_of s k) l (le_refl (start_of s k)) a in
      let p = A.plane in
      let g = label-within w h m (start_of s k) (omega arith) (run-ink k (start_of s k) l (le_refl (start_of s k)) a) in
      subst (λ z. (0 < z) × (z ≤ length (labelling w h m).components)) e g

  on-runs : OnRuns s runs kinds (painted_kind m (labelling w h m).labels s kinds ink)
  unfolding painted_kind
  on-runs k i l a b = rw (run-ink k i l a b) (ap (λ z. held_kind s kinds (z - 1)) (run-label A.wide A.numbered k i l a b))

  off-runs : OffRuns s runs ink (painted_kind m (labelling w h m).labels s kinds ink)
  unfolding painted_kind
  off-runs k i l b next last = rw blank
    where
      blank : is_ink m i ≡ false
      blank =
          gap-blank w m A.wide (w * h) runs (start_of (take (2 * runs) s)) (end_of (take (2 * runs) s) 0) (held-runs A.wide A.numbered.held) k i l (let p = A.plane in omega arith)
          (λ u. let n = next u in let e = start-of k u in omega arith)
          (λ j e. let n = last j e in let q = end-of j (omega arith) in omega arith)

  module _ {out : List ℕ} {done k : ℕ} (S : KindSweep ink s runs kinds out₀ out done k) where
    done-before : k < runs → done ≤ start_of s k
    done-before l = go k refl
      where
        go : (n : ℕ) → n ≡ k → done ≤ start_of s k
        go zero e = let z = S.none (sym e) in omega arith
        go (suc j) e = let a = S.last j e in let b = run-after j k e l in omega arith

    pub kinds-ask : k < runs → RunPaintable s runs kinds k done ink out
    kinds-ask l =
        let n = run-number k l in
        record {
          below = l;
          room = A.room;
          behind = done-before l;
          some = let a = run-some k l in omega arith;
          within = run-within k l;
          plane = let a = A.plane in let b = A.out_room in let c = S.len in omega arith;
          number = n.0;
          kind = let a = A.kinds_room in omega arith;
        }

    pub kinds-last : (done ≤ length ink) × (length ink ≤ length out)
    kinds-last = (S.inside, (let a = A.plane in let b = A.out_room in let c = S.len in omega arith))

    pub kinds-more : k < runs → (out' : List ℕ) (r : ℕ) → RunPainted s runs kinds k done ink out out' r → KindSweep ink s runs kinds out₀ out' r (k + 1)
    kinds-more l out' r R =
        record {
          len = R.len ∙ S.len;
          upto = omega arith;
          inside = let a = run-within k l in let b = R.end in omega arith;
          last = λ j e. ap (end_of s 0) (let z : j ≡ k = omega arith in z) ∙ sym R.end;
          none = λ e. absurd (omega arith);
          painted = λ f on off.
              subst (PaintedTo f out₀ out') (sym R.end)
              (R.painted f out₀ (S.painted f on off)
              (λ i g b. off k i S.upto (let a = run-within k l in let c = run-some k l in omega arith) (λ u. b) (λ j e. let a = S.last j e in omega arith))
              (λ i g b. on k i l g b));
        }

    pub kinds-done : runs ≤ k → (v : List ℕ) → v ≡ over (take (length ink - done) (drop done ink)) (take (length ink - done) (drop done out))
        → put_mid done (length ink - done) out v ≡ over (table (painted_kind m (labelling w h m).labels s kinds ink) (w * h)) out₀
    kinds-done b v ev =
        copied-to ink out v done (length ink) S.inside (le_refl (length ink)) kinds-last.1 ev (painted_kind m (labelling w h m).labels s kinds ink) out₀ (S.painted (painted_kind m (labelling w h m).labels s kinds ink) on-runs off-runs)
        (λ i g c. off-runs k i S.upto c (λ u. absurd (omega arith)) (λ j e. let a = S.last j e in omega arith))
        ∙ (ap (λ z. table (painted_kind m (labelling w h m).labels s kinds ink) z ++ drop z out₀) A.plane ∙ over-table (painted_kind m (labelling w h m).labels s kinds ink) (w * h) out₀)

    pub kinds-length : (v : List ℕ) → v ≡ over (take (length ink - done) (drop done ink)) (take (length ink - done) (drop done out)) → length (put_mid done (length ink - done) out v) ≡ length out₀
    kinds-length v ev = copied-long ink out v done (length ink) S.inside (le_refl (length ink)) kinds-last.1 ev ∙ S.len
