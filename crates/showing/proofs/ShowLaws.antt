-- Levelling, segmenting and reading the sheet, one after the other on an empty store: what they tell is the text of the leaf. That the calls
-- answer as the rules say is the account's law; here it is put to use on the one list of three calls that the show program makes.
use mathlib.Core.Path.{◌≡◌, refl, sym, ap, ◌∙◌, subst}
use mathlib.Core.Bool.{Bool, cond}
use mathlib.Core.List.{List}
use Prim.Native.Nat.{ℕ, ◌≤◌}
use native.Mathlib.Nat.{le_refl}
use native.Mathlib.Omega.{arith}
use borrow.Author.Tests.{eq-eqb, ne_eqb}
use lib.Dec.{T, eqb, ltb}
use lib.Ieee.{Float, fits, binary64, of_bits}
use lib.IntN.{pos}
use lib.Ieee.Bits.{of_bits-fits}
use lib.Ieee.Fits.{of_int-fits}
use lib.ListN.{length}
use lib.Seq.{take_all}
use Rattle.memory.specs.rules.Words.{word_at, over}
use Rattle.memory.proofs.PartLaws.{over-all}
use Rattle.params.specs.rules.ShowSheets.{show_sheet}
use Rattle.params.specs.declared.LayoutParams.{LayoutParams}
use Rattle.segmenting.specs.rules.Layouts.{layout_refusal}
use Rattle.judging.specs.rules.Leaves.{Leaf, leaf_of, levelling_of, layout_of}
use Rattle.judging.specs.rules.Refusals.{leaf_refusal, level_refusal}
use Rattle.listing.specs.rules.Digits.{refusal_text}
use Rattle.listing.specs.rules.Pages.{page_sheet}
use Rattle.store.specs.rules.Readings.{ResultReading}
use Rattle.store.specs.rules.Readings.Output.{words}
use Rattle.store.specs.rules.Outcomes.{Left, left, level_left, segment_left, Told, told_by, result_told}
use Rattle.store.proofs.HeaderLaws.{Accepted}
use Rattle.store.proofs.ChainLaws.{settled-number}
use Rattle.account.specs.rules.Calls.{Lent, call, World, world, lengths, front, step, leaves, back, Proper}
use Rattle.account.specs.rules.Calls.Act.{level, segment, read_result}
use Rattle.account.specs.rules.Accounts.{Account, next, tell}
use Rattle.account.specs.rules.Accounts.Account.{nothing, levelled, segmented}
use Rattle.account.proofs.Agree.{Agrees, Right, right}
use Rattle.showing.specs.rules.Inputs.{max_shown_side}
use Rattle.showing.specs.rules.Shows.{show_capacity, leaf_number, leaf_text}
use Rattle.showing.specs.stages.Texts.{text_told}
use Rattle.showing.specs.stages.Pages.{page_shown}
use Rattle.showing.specs.stages.Rooms.{ShownRoom, shown_dots, shown_store, shown_scratch}
use Rattle.showing.proofs.LeafLaws.{leaf-passes, leaf-accepted, level-number, segment-number, reading-number}

-- the sheet of a leaf's page
abbrev pub leaf_sheet : Leaf → List ℕ
leaf_sheet a = page_sheet (record { levelled = levelling_of a; layout = layout_of a a.sheet })

-- a refused leaf has the refusal's line, any other its sheet
leaf-refused : (a : Leaf) (n : ℕ) → leaf_number a ≡ n → (n ≡ 0 → ⊥) → refusal_text n ≡ leaf_text a
unfolding leaf_text
leaf-refused a n e z =
    sym (ap (λ k. cond (eqb k 0) (leaf_sheet a) (refusal_text k)) e ∙ ap (λ b. cond b (leaf_sheet a) (refusal_text n)) (ne_eqb n 0 z))

pub leaf-printed : (a : Leaf) → leaf_number a ≡ 0 → leaf_sheet a ≡ leaf_text a
unfolding leaf_text
leaf-printed a e = sym (ap (λ k. cond (eqb k 0) (leaf_sheet a) (refusal_text k)) e)

-- ---- a call on the whole memory

whole-front : (v : World) → front (lengths v) v ≡ v
whole-front v t =
    world (take_all (length v.store) v.store (le_refl (length v.store)) t) (take_all (length v.ink) v.ink (le_refl (length v.ink)) t)
    (take_all (length v.kinds) v.kinds (le_refl (length v.kinds)) t)

whole_back : (u v : World) → length u.store ≡ length v.store → length u.ink ≡ length v.ink → length u.kinds ≡ length v.kinds → back u v ≡ u
whole_back u v s i k t = world (over-all u.store v.store s t) (over-all u.ink v.ink i t) (over-all u.kinds v.kinds k t)

-- ---- the three calls

module _ (a : Leaf) (F : T (fits binary64 a.skew) × T (fits binary64 a.slope)) (narrow : a.w ≤ 16) (low : a.h ≤ 16) (c : a.capacity ≡ 64) (D : T (fits binary64 a.sheet.xheight_fallback_px)) where
  module _ (s i k : List ℕ) (ls : shown_store ≤ length s) (li : shown_dots ≤ length i) (lk : shown_dots ≤ length k) (e : word_at s 0 ≡ 0) where
    abbrev first : World
    first = world s i k

    abbrev all : Lent
    all = lengths first

    -- levelling tells what it is handed
    levels : (level_left a s i).number ≡ leaf_refusal a 0
    unfolding level_left
    levels =
        settled-number (level_refusal a (length s) (length i) (word_at s 0)) s i _ _
        ∙ (ap (level_refusal a (length s) (length i)) e ∙ level-number a F narrow low c (length s) (length i) ls li)

    module _ (n : ℕ) (s₁ i₁ : List ℕ) (e₁ : left n s₁ i₁ ≡ level_left a s i) (ks : length s₁ ≡ length s) (ki : length i₁ ≡ length i) where
      number₁ : n ≡ leaf_refusal a 0
      number₁ = ap (λ (z : Left). z.number) e₁ ∙ levels

      -- it is refused: so is the leaf, with the same number
      pub level-refused : (n ≡ 0 → ⊥) → refusal_text n ≡ leaf_text a
      unfolding leaf_number
      level-refused z =
          leaf-refused a n ((leaf-passes a).stop (λ y. z (number₁ ∙ y)) (layout_refusal a.capacity (layout_of a a.sheet)) ∙ sym number₁) z

      module _ (done : n ≡ 0) where
        handed : leaf_refusal a 0 ≡ 0
        handed = sym number₁ ∙ done

        accepted : Accepted a
        accepted = leaf-accepted a F handed

        abbrev second : World
        second = world s₁ i₁ k

        -- the leaf's number is that of its pieces and lines
        number-left : leaf_number a ≡ layout_refusal a.capacity (layout_of a a.sheet)
        unfolding leaf_number
        number-left = (leaf-passes a).pass handed _

        agrees₁ : Agrees all (levelled a) second
        agrees₁ =
            subst (Agrees all (levelled a)) stepped
            (subst (λ (m : Account). Agrees all m (step first (call all (level a)))) held
            (right all nothing first (call all (level a)) proper (record { store = refl; ink = refl; kinds = refl; kept = e })).agrees)
          where
            proper : Proper all (call all (level a))
            proper = record { store = le_refl (length s); ink = le_refl (length i); kinds = le_refl (length k); doubles = F }

            held : next nothing (call all (level a)) ≡ levelled a
            held =
                ap (λ (b : Bool). cond b (levelled a) nothing)
                (eq-eqb (level_refusal a (length s) (length i) 0) 0 (level-number a F narrow low c (length s) (length i) ls li ∙ handed))

            stepped : step first (call all (level a)) ≡ second
            stepped =
                ap (λ (u : World). back (leaves (level a) u) first) (whole-front first)
                ∙ (ap (λ (z : Left). back (world z.store z.plane k) first) (sym e₁) ∙ whole_back second first ks ki refl)

        -- ---- segmenting
        module _ (x : ℕ) (lx : shown_scratch ≤ x) (m : ℕ) (s₂ k₂ : List ℕ) (e₂ : left m s₂ k₂ ≡ segment_left a.sheet s₁ i₁ k x) (ks₂ : length s₂ ≡ length s₁) (kk : length k₂ ≡ length k) where
          abbrev third : World
          third = world s₂ i₁ k₂

          seconds : Right all (levelled a) second (call all (segment a.sheet x))
          seconds =
              right all (levelled a) second (call all (segment a.sheet x))
              (record { store = le_refl (length s); ink = le_refl (length i); kinds = le_refl (length k); doubles = D }) agrees₁

          lent₁ : front all second ≡ second
          lent₁ t =
              world (take_all (length s) s₁ (omega arith) t) (take_all (length i) i₁ (omega arith) t) (take_all (length k) k (le_refl (length k)) t)

          told₂ : tell (levelled a) all (segment a.sheet x) ≡ layout_refusal a.capacity (layout_of a a.sheet)
          told₂ = segment-number a F narrow low c accepted (length s) (length i) (length k) ls li lk x _ lx

          number₂ : m ≡ leaf_number a
          unfolding told_by
          number₂ =
              ap (λ (z : Left). z.number) e₂
              ∙ (ap (λ (u : World). (segment_left a.sheet u.store u.ink u.kinds x).number) (sym lent₁)
              ∙ (ap (λ (z : Told). z.number) seconds.answers ∙ (told₂ ∙ sym number-left)))

          pub segment-refused : (m ≡ 0 → ⊥) → refusal_text m ≡ leaf_text a
          segment-refused z = leaf-refused a m (sym number₂) z

          module _ (passed : m ≡ 0) where
            zero : leaf_number a ≡ 0
            zero = sym number₂ ∙ passed

            agrees₂ : Agrees all (segmented a a.sheet) third
            agrees₂ =
                subst (Agrees all (segmented a a.sheet)) stepped
                (subst (λ (z : Account). Agrees all z (step second (call all (segment a.sheet x)))) held seconds.agrees)
              where
                held : next (levelled a) (call all (segment a.sheet x)) ≡ segmented a a.sheet
                held = ap (λ (b : Bool). cond b (segmented a a.sheet) (levelled a)) (eq-eqb (tell (levelled a) all (segment a.sheet x)) 0 (told₂ ∙ (sym number-left ∙ zero)))

                stepped : step second (call all (segment a.sheet x)) ≡ third
                stepped =
                    ap (λ (u : World). back (leaves (segment a.sheet x) u) second) lent₁
                    ∙ (ap (λ (z : Left). back (world z.store i₁ z.plane) second) (sym e₂) ∙ whole_back third second ks₂ refl kk)

            -- ---- reading the sheet
            pub sheet-told : (out : List ℕ) → result_told (ResultReading.listing out) s₂ i₁ k₂ ≡ text_told (leaf_text a) out
            unfolding text_told
            sheet-told out =
                ap (λ (u : World). result_told (ResultReading.listing out) u.store u.ink u.kinds) (sym lent₂)
                ∙ ((right all (segmented a a.sheet) third (call all (read_result (ResultReading.listing out))) proper agrees₂).answers
                ∙ (ap (λ n. told_by n (length (leaf_sheet a)) (words (over (leaf_sheet a) out)) (words out))
                (reading-number a F narrow low c accepted (length s) (length i) (length k) ls li lk (ltb (length out) (length (leaf_sheet a))))
                ∙ ap (λ z. text_told z out) (leaf-printed a zero)))
              where
                proper : Proper all (call all (read_result (ResultReading.listing out)))
                proper = record { store = le_refl (length s); ink = le_refl (length i); kinds = le_refl (length k); doubles = tt }

                lent₂ : front all third ≡ third
                lent₂ t = world (take_all (length s) s₂ (omega arith) t) (take_all (length i) i₁ (omega arith) t) (take_all (length k) k₂ (omega arith) t)

-- the sheet's fallback is an f64
fallback : T (fits binary64 show_sheet.xheight_fallback_px)
fallback = of_int-fits binary64 (pos 1)

-- ---- the same for the show program's own page, in the shape in which the code has it

-- levelling and segmenting with the sheet, the floats and the number that the code makes
pub level-page-left : (mask : List ℕ) (w h skew slope : ℕ) (s i : List ℕ) (sheet : LayoutParams) (tilt rise : Float) → sheet ≡ show_sheet → tilt ≡ of_bits binary64 skew → rise ≡ of_bits binary64 slope
    → (o n : ℕ) (s₁ i₁ : List ℕ) → n ≡ o → left o s₁ i₁ ≡ level_left (leaf_of mask w h tilt rise sheet show_capacity) s i → left n s₁ i₁ ≡ level_left (page_shown mask w h skew slope) s i
level-page-left mask w h skew slope s i sheet tilt rise a b c o n s₁ i₁ d e =
    (λ t. left (d t) s₁ i₁) ∙ (e ∙ (λ t. level_left (leaf_of mask w h (b t) (c t) (a t) show_capacity) s i))

pub segment-page-left : (s i k x : List ℕ) (sheet : LayoutParams) → sheet ≡ show_sheet → (o n : ℕ) (s₁ k₁ : List ℕ) → n ≡ o
    → left o s₁ k₁ ≡ segment_left sheet s i k (length x) → left n s₁ k₁ ≡ segment_left show_sheet s i k (length x)
segment-page-left s i k x sheet a o n s₁ k₁ d e = (λ t. left (d t) s₁ k₁) ∙ (e ∙ (λ t. segment_left (a t) s i k (length x)))

module _
    (mask : List ℕ) (w h skew slope : ℕ) (sides : (w ≤ max_shown_side) × (h ≤ max_shown_side)) (s i k x : List ℕ) (R : ShownRoom s i k x)
    (n : ℕ) (s₁ i₁ : List ℕ) (e₁ : left n s₁ i₁ ≡ level_left (page_shown mask w h skew slope) s i) (ks : length s₁ ≡ length s) (ki : length i₁ ≡ length i)
  where
    abbrev page : Leaf
    page = page_shown mask w h skew slope

    doubles : T (fits binary64 page.skew) × T (fits binary64 page.slope)
    doubles = (of_bits-fits binary64 skew, of_bits-fits binary64 slope)

    -- levelling is refused
    pub refused-first : (n ≡ 0 → ⊥) → (out : List ℕ) (t : Told) → t ≡ text_told (refusal_text n) out → t ≡ text_told (leaf_text page) out
    refused-first z out t e =
        e
        ∙ ap (λ y. text_told y out)
        (level-refused page doubles sides.0 sides.1 refl fallback s i k R.words R.ink_dots R.kind_dots R.empty n s₁ i₁ e₁ ks ki z)

    module _
        (done : n ≡ 0) (m : ℕ) (s₂ k₂ : List ℕ) (e₂ : left m s₂ k₂ ≡ segment_left show_sheet s₁ i₁ k (length x)) (ks₂ : length s₂ ≡ length s₁) (kk : length k₂ ≡ length k)
      where
        -- segmenting is refused
        pub refused-second : (m ≡ 0 → ⊥) → (out : List ℕ) (t : Told) → t ≡ text_told (refusal_text m) out → t ≡ text_told (leaf_text page) out
        refused-second z out t e =
            e
            ∙ ap (λ y. text_told y out)
            (segment-refused page doubles sides.0 sides.1 refl fallback s i k R.words R.ink_dots R.kind_dots R.empty n s₁ i₁ e₁ ks ki done (length x) R.room m s₂ k₂ e₂ ks₂ kk z)

        -- neither is
        pub page-told : m ≡ 0 → (out : List ℕ) (t : Told) → t ≡ result_told (ResultReading.listing out) s₂ i₁ k₂ → t ≡ text_told (leaf_text page) out
        page-told z out t e =
            e
            ∙ sheet-told page doubles sides.0 sides.1 refl fallback s i k R.words R.ink_dots R.kind_dots R.empty n s₁ i₁ e₁ ks ki done (length x) R.room m s₂ k₂ e₂ ks₂ kk z out
