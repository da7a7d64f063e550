-- Boxes in lent words: one more box written, the components of a kind one by one, and boxes unpacked.
use mathlib.Core.Path.{◌≡◌, refl, sym, ap, ◌∙◌}
use mathlib.Core.List.{List, [], ◌∷◌, ◌++◌, map, append_assoc}
use Prim.Native.Nat.{ℕ, zero, suc, ◌+◌, ◌-◌, ◌*◌, ◌≤◌, ◌<◌}
use native.Mathlib.Nat.{add-zero}
use native.Mathlib.Numerals.{add-one}
use native.Mathlib.Decide.{ℕ_discrete}
use native.Mathlib.Omega.{arith}
use borrow.Author.Tests.{eq-eqb, ne_eqb}
use borrow.Rule.Slice.PartMut.{put_mid}
use lib.ListN.{get_or, length, take, drop, length-append, length-drop, length-map}
use lib.Seq.{sets}
use lib.Dec.{eqb}
use Rattle.memory.specs.rules.Lists.{table, upto, keep, total}
use Rattle.memory.specs.rules.Words.{over}
use Rattle.memory.specs.rules.Records.{encoded}
use Rattle.memory.proofs.TableLaws.{length-table}
use Rattle.memory.proofs.PartLaws.{tail-part, over-behind}
use Rattle.memory.proofs.RecordLaws.{length-encoded, record-more}
use Rattle.memory.specs.declared.rect.Rect.{Rect}
use Rattle.memory.specs.rules.Rects.{box_words}
use Rattle.sorting.specs.stages.Measures.{size_box, unpacked}
use Rattle.segmenting.specs.stages.Held.{held_kind, of_kind, held_boxes, held_area, unpacked_boxes, held_rules}
use Rattle.memory.proofs.ListLaws.{keep-snoc-yes, keep-snoc-no, upto-suc, map-append, keep-few}
use Rattle.memory.proofs.PlaceLaws.{count-length, count-below}
use Rattle.grouping.proofs.TableWords.{over-length}

pub four-words : (r : Rect) → length (box_words r) ≡ 4
four-words r = refl

pub length-boxes : (l : List Rect) → length (encoded box_words l) ≡ length l * 4
length-boxes l = length-encoded box_words 4 four-words l

-- n boxes are written over the front of what was there
pub record BoxesWritten (l : List Rect) (out₀ out : List ℕ) (n : ℕ) : Type 0 where
  pub count : n ≡ length l
  pub room : n * 4 ≤ length out₀
  pub list : out ≡ over (encoded box_words l) out₀

pub no-box : (out : List ℕ) → BoxesWritten [] out out 0
unfolding encoded
no-box out = record { count = refl; room = omega arith; list = refl }

module _ {l : List Rect} {out₀ out : List ℕ} {n : ℕ} (W : BoxesWritten l out₀ out n) where
  pub written-length : length out ≡ length out₀
  written-length = ap length W.list ∙ over-length (encoded box_words l) out₀ (let a = length-boxes l in let b = W.count in let c = W.room in omega arith)

  pub box-more : (r b : Rect) (out' : List ℕ) → n * 4 + 4 ≤ length out₀ → b ≡ r → out' ≡ sets out (n * 4) (box_words b) → BoxesWritten (l ++ (r ∷ [])) out₀ out' (n + 1)
  box-more r b out' h q e =
      record {
        count = (let a : length (l ++ (r ∷ [])) ≡ length l + 1 = length-append l (r ∷ []) in let c = W.count in omega arith);
        room = omega arith;
        list =
            e
            ∙ ((λ i. sets (W.list i) (n * 4) (box_words (q i)))
            ∙ record-more box_words 4 four-words l r out₀ (n * 4) (let a = length-boxes l in let c = W.count in omega arith) h);
      }

-- One component more: of the kind, or not

total-snoc : (l : List ℕ) (a : ℕ) → total (l ++ (a ∷ [])) ≡ total l + a
unfolding total
total-snoc [] a = omega arith
total-snoc (b ∷ l) a = let e = total-snoc l a in omega arith

module _ (s : List ℕ) (kinds kind : ℕ) where
  of-kind-more : (k : ℕ) → held_kind s kinds k ≡ kind → of_kind s kinds kind (k + 1) ≡ of_kind s kinds kind k ++ (k ∷ [])
  unfolding of_kind
  of-kind-more k e =
      ap (λ j. keep (λ i. eqb (held_kind s kinds i) kind) (upto j)) (add-one k)
      ∙ (ap (keep (λ i. eqb (held_kind s kinds i) kind)) (upto-suc k) ∙ keep-snoc-yes (λ i. eqb (held_kind s kinds i) kind) (upto k) k (eq-eqb (held_kind s kinds k) kind e))

  of-kind-same : (k : ℕ) → (held_kind s kinds k ≡ kind → ⊥) → of_kind s kinds kind (k + 1) ≡ of_kind s kinds kind k
  unfolding of_kind
  of-kind-same k e =
      ap (λ j. keep (λ i. eqb (held_kind s kinds i) kind) (upto j)) (add-one k)
      ∙ (ap (keep (λ i. eqb (held_kind s kinds i) kind)) (upto-suc k) ∙ keep-snoc-no (λ i. eqb (held_kind s kinds i) kind) (upto k) k (ne_eqb (held_kind s kinds k) kind e))

  of-kind-below : (k n : ℕ) → k < n → held_kind s kinds k ≡ kind → length (of_kind s kinds kind k) < length (of_kind s kinds kind n)
  unfolding of_kind
  of-kind-below k n l e =
      let a = count-length (λ i. eqb (held_kind s kinds i) kind) k in
      let b = count-length (λ i. eqb (held_kind s kinds i) kind) n in
      let c = count-below (λ i. eqb (held_kind s kinds i) kind) k n l (eq-eqb (held_kind s kinds k) kind e) in
      omega arith

  module _ (sizes : ℕ) where
    pub boxes-none : (out : List ℕ) → BoxesWritten (held_boxes s sizes kinds kind 0) out out 0
    unfolding held_boxes of_kind upto table keep
    boxes-none out = no-box out

    pub boxes-more : (k : ℕ) → held_kind s kinds k ≡ kind → held_boxes s sizes kinds kind (k + 1) ≡ held_boxes s sizes kinds kind k ++ (size_box s sizes k ∷ [])
    unfolding held_boxes
    boxes-more k e = ap (map (size_box s sizes)) (of-kind-more k e) ∙ map-append (size_box s sizes) (of_kind s kinds kind k) (k ∷ [])

    pub boxes-same : (k : ℕ) → (held_kind s kinds k ≡ kind → ⊥) → held_boxes s sizes kinds kind (k + 1) ≡ held_boxes s sizes kinds kind k
    unfolding held_boxes
    boxes-same k e = ap (map (size_box s sizes)) (of-kind-same k e)

    -- no more boxes than components
    pub boxes-few : (n : ℕ) → length (held_boxes s sizes kinds kind n) ≤ n
    unfolding held_boxes of_kind
    boxes-few n =
        let a = length-map (of_kind s kinds kind n) (size_box s sizes) in
        let b = keep-few (λ k. eqb (held_kind s kinds k) kind) n in
        omega arith

    -- there is room for one that is of the kind
    pub boxes-below : (k n : ℕ) → k < n → held_kind s kinds k ≡ kind → length (held_boxes s sizes kinds kind k) < length (held_boxes s sizes kinds kind n)
    unfolding held_boxes
    boxes-below k n l e =
        let a = length-map (of_kind s kinds kind k) (size_box s sizes) in
        let b = length-map (of_kind s kinds kind n) (size_box s sizes) in
        let c = of-kind-below k n l e in
        omega arith

    pub area-none : 0 ≡ held_area s sizes kinds kind 0
    unfolding held_area of_kind upto table keep total
    area-none = refl

    pub area-more : (k : ℕ) → held_kind s kinds k ≡ kind → held_area s sizes kinds kind k + get_or s (sizes + 5 * k) 0 ≡ held_area s sizes kinds kind (k + 1)
    unfolding held_area
    area-more k e =
        sym
        (ap (λ l. total (map (λ i. get_or s (sizes + 5 * i) 0) l)) (of-kind-more k e)
        ∙ (ap total (map-append (λ i. get_or s (sizes + 5 * i) 0) (of_kind s kinds kind k) (k ∷ []))
        ∙ total-snoc (map (λ i. get_or s (sizes + 5 * i) 0) (of_kind s kinds kind k)) (get_or s (sizes + 5 * k) 0)))

    pub area_same : (k : ℕ) → (held_kind s kinds k ≡ kind → ⊥) → held_area s sizes kinds kind k ≡ held_area s sizes kinds kind (k + 1)
    unfolding held_area
    area_same k e = sym (ap (λ l. total (map (λ i. get_or s (sizes + 5 * i) 0) l)) (of-kind-same k e))

    area-rises : (k : ℕ) → held_area s sizes kinds kind k ≤ held_area s sizes kinds kind (k + 1)
    area-rises k = go (ℕ_discrete (held_kind s kinds k) kind)
      where
        go : Dec (held_kind s kinds k ≡ kind) → held_area s sizes kinds kind k ≤ held_area s sizes kinds kind (k + 1)
        go (yes e) = let a = area-more k e in omega arith
        go (no e) = let a = area_same k e in omega arith

    area-mono : (k d : ℕ) → held_area s sizes kinds kind k ≤ held_area s sizes kinds kind (k + d)
    area-mono k zero = let e = ap (held_area s sizes kinds kind) (add-zero k) in omega arith
    area-mono k (suc d) =
        let a = area-mono k d in
        let b = area-rises (k + d) in
        let e = ap (held_area s sizes kinds kind) (let z : k + d + 1 ≡ k + suc d = omega arith in z) in
        omega arith

    -- no sum on the way is greater than the last
    pub area-fits : (k n : ℕ) → k < n → held_kind s kinds k ≡ kind → held_area s sizes kinds kind k + get_or s (sizes + 5 * k) 0 ≤ held_area s sizes kinds kind n
    area-fits k n l e =
        let a = area-more k e in
        let b = area-mono (k + 1) (n - (k + 1)) in
        let q = ap (held_area s sizes kinds kind) (let z : k + 1 + (n - (k + 1)) ≡ n = omega arith in z) in
        omega arith

-- Boxes unpacked, one more

pub unpacked-none : (s : List ℕ) (from : ℕ) (out : List ℕ) → BoxesWritten (unpacked_boxes s from 0) out out 0
unfolding unpacked_boxes table
unpacked-none s from out = no-box out

pub unpacked-more : (s : List ℕ) (from k : ℕ) → unpacked_boxes s from (k + 1) ≡ unpacked_boxes s from k ++ (unpacked (get_or s (from + 2 * k) 0) (get_or s (from + 2 * k + 1) 0) ∷ [])
unfolding unpacked_boxes table
unpacked-more s from k = ap (table (λ i. unpacked (get_or s (from + 2 * i) 0) (get_or s (from + 2 * i + 1) 0))) (add-one k)

pub length-unpacked : (s : List ℕ) (from n : ℕ) → length (unpacked_boxes s from n) ≡ n
unfolding unpacked_boxes
length-unpacked s from n = length-table (λ k. unpacked (get_or s (from + 2 * k) 0) (get_or s (from + 2 * k + 1) 0)) n

-- Lists one behind the other

encoded-append : (l k : List Rect) → encoded box_words (l ++ k) ≡ encoded box_words l ++ encoded box_words k
unfolding encoded
encoded-append [] k = refl
encoded-append (r ∷ l) k = ap (λ (t : List ℕ). box_words r ++ t) (encoded-append l k) ∙ sym (append_assoc (box_words r) (encoded box_words l) (encoded box_words k))

tail-long : (t : List ℕ) (a : ℕ) → length (take (length t - a) (drop a t)) ≡ length t - a
tail-long t a = ap length (tail-part a t) ∙ length-drop a t

module _ (s : List ℕ) (ha hn va vn sizes kinds n : ℕ) where
  length-rules : length (held_rules s ha hn va vn sizes kinds n) ≡ hn + vn + length (held_boxes s sizes kinds 2 n)
  unfolding held_rules
  length-rules =
      let a = length-append (unpacked_boxes s ha hn ++ unpacked_boxes s va vn) (held_boxes s sizes kinds 2 n) in
      let b = length-append (unpacked_boxes s ha hn) (unpacked_boxes s va vn) in
      let c = length-unpacked s ha hn in
      let d = length-unpacked s va vn in
      omega arith

  -- no more rules than cuts and components
  pub rules-few : length (held_rules s ha hn va vn sizes kinds n) ≤ hn + vn + n
  rules-few = let a = length-rules in let b = boxes-few s kinds 2 sizes n in omega arith

module _ (s : List ℕ) (ha hn va vn sizes kinds n : ℕ) (out : List ℕ) (room : length (held_rules s ha hn va vn sizes kinds n) * 4 ≤ length out) where
  rules-length : length (held_rules s ha hn va vn sizes kinds n) ≡ hn + vn + length (held_boxes s sizes kinds 2 n)
  rules-length = length-rules s ha hn va vn sizes kinds n

  pub rules-room : hn * 4 ≤ length out
  rules-room = let a = rules-length in omega arith

  module _ (one : List ℕ) (e : one ≡ over (encoded box_words (unpacked_boxes s ha hn)) out) where
    one-long : length one ≡ length out
    one-long = ap length e ∙ over-length (encoded box_words (unpacked_boxes s ha hn)) out (let a = length-boxes (unpacked_boxes s ha hn) in let b = length-unpacked s ha hn in let c = rules-room in omega arith)

    -- what the vertical cuts ask
    pub rules-first : (hn * 4 ≤ length one) × (vn * 4 ≤ length (take (length one - hn * 4) (drop (hn * 4) one)))
    rules-first =
        let a = one-long in
        let b = rules-length in
        let c = tail-long one (hn * 4) in
        (omega arith, omega arith)

    module _ (part : List ℕ) (f : part ≡ over (encoded box_words (unpacked_boxes s va vn)) (take (length one - hn * 4) (drop (hn * 4) one))) where
      cuts_are : put_mid (hn * 4) (length one - hn * 4) one part ≡ over (encoded box_words (unpacked_boxes s ha hn) ++ encoded box_words (unpacked_boxes s va vn)) out
      cuts_are =
          over-behind (encoded box_words (unpacked_boxes s ha hn)) (encoded box_words (unpacked_boxes s va vn)) out one part (hn * 4)
          (length-boxes (unpacked_boxes s ha hn) ∙ ap (λ z. z * 4) (length-unpacked s ha hn)) e f

      cuts-words : length (encoded box_words (unpacked_boxes s ha hn) ++ encoded box_words (unpacked_boxes s va vn)) ≡ (hn + vn) * 4
      cuts-words =
          let a = length-append (encoded box_words (unpacked_boxes s ha hn)) (encoded box_words (unpacked_boxes s va vn)) in
          let b = length-boxes (unpacked_boxes s ha hn) in
          let c = length-boxes (unpacked_boxes s va vn) in
          let d = length-unpacked s ha hn in
          let g = length-unpacked s va vn in
          omega arith

      cuts-long : length (put_mid (hn * 4) (length one - hn * 4) one part) ≡ length out
      cuts-long = ap length cuts_are ∙ over-length (encoded box_words (unpacked_boxes s ha hn) ++ encoded box_words (unpacked_boxes s va vn)) out (let a = cuts-words in let b = rules-length in omega arith)

      -- what the rule components ask
      pub rules-second : ((hn + vn) * 4 ≤ length (put_mid (hn * 4) (length one - hn * 4) one part))
          × (length (held_boxes s sizes kinds 2 n) * 4 ≤ length (take (length (put_mid (hn * 4) (length one - hn * 4) one part) - (hn + vn) * 4) (drop ((hn + vn) * 4) (put_mid (hn * 4) (length one - hn * 4) one part))))
      rules-second =
          let a = cuts-long in
          let b = rules-length in
          let c = tail-long (put_mid (hn * 4) (length one - hn * 4) one part) ((hn + vn) * 4) in
          (omega arith, omega arith)

      module _ (last : List ℕ) (r : ℕ) (er : r ≡ length (held_boxes s sizes kinds 2 n))
          (g : last ≡ over (encoded box_words (held_boxes s sizes kinds 2 n)) (take (length (put_mid (hn * 4) (length one - hn * 4) one part) - (hn + vn) * 4) (drop ((hn + vn) * 4) (put_mid (hn * 4) (length one - hn * 4) one part)))) where
        pub rules-count : hn + vn + r ≡ length (held_rules s ha hn va vn sizes kinds n)
        rules-count = let a = rules-length in omega arith

        pub rules-written : put_mid ((hn + vn) * 4) (length (put_mid (hn * 4) (length one - hn * 4) one part) - (hn + vn) * 4) (put_mid (hn * 4) (length one - hn * 4) one part) last
            ≡ over (encoded box_words (held_rules s ha hn va vn sizes kinds n)) out
        unfolding held_rules
        rules-written =
            over-behind (encoded box_words (unpacked_boxes s ha hn) ++ encoded box_words (unpacked_boxes s va vn)) (encoded box_words (held_boxes s sizes kinds 2 n)) out (put_mid (hn * 4) (length one - hn * 4) one part) last ((hn + vn) * 4) cuts-words cuts_are g
            ∙ ap (λ z. over z out)
            (ap (λ (z : List ℕ). z ++ encoded box_words (held_boxes s sizes kinds 2 n)) (sym (encoded-append (unpacked_boxes s ha hn) (unpacked_boxes s va vn))) ∙ sym (encoded-append (unpacked_boxes s ha hn ++ unpacked_boxes s va vn) (held_boxes s sizes kinds 2 n)))

        pub rules-long : length (put_mid ((hn + vn) * 4) (length (put_mid (hn * 4) (length one - hn * 4) one part) - (hn + vn) * 4) (put_mid (hn * 4) (length one - hn * 4) one part) last) ≡ length out
        rules-long = ap length rules-written ∙ over-length (encoded box_words (held_rules s ha hn va vn sizes kinds n)) out (let a = length-boxes (held_rules s ha hn va vn sizes kinds n) in omega arith)
