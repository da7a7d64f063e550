-- What is printed by what an input says: the refusal 0, or the text of its page.
use mathlib.Core.Path.{◌≡◌, refl, sym, ap, ◌∙◌}
use mathlib.Core.Bool.{Bool, true, false, cond}
use mathlib.Core.List.{List, []}
use Prim.Native.Nat.{ℕ, ◌*◌, ◌^◌, ◌≤◌, ◌<◌}
use native.Mathlib.Omega.{arith}
use lib.ListN.{length, get_or, take, drop}
use lib.Seq.{take_at}
use Rattle.memory.specs.rules.Words.{over}
use Rattle.memory.proofs.TableLaws.{length-table}
use Rattle.listing.specs.rules.Digits.{refusal_text}
use Rattle.store.specs.rules.Outcomes.{Told}
use Rattle.std.specs.Prelude.{Some, None}
use Rattle.showing.specs.declared.input.Page.{Page}
use Rattle.showing.specs.rules.Inputs.{well_made, width_of, height_of, skew_of, slope_of, dot_at, dots_in, page_of, parsed, mask_of, page_text, max_shown_side}
use Rattle.showing.specs.rules.Shows.{leaf_shown, leaf_text, shown, shown_to}
use Rattle.showing.specs.stages.Pages.{page_shown}
use Rattle.showing.specs.stages.Texts.{text_told}
use Rattle.showing.proofs.InputLaws.{made, dots-few}
use Rattle.showing.proofs.PageText.{text-parsed, text-mask}

-- ---- what an input says

pub record Says (s : List ℕ) (w h skew slope : ℕ) : Type 0 where
  pub well : well_made s ≡ true
  pub wide : w ≡ width_of s
  pub high : h ≡ height_of s
  pub skewed : skew ≡ skew_of s
  pub sloped : slope ≡ slope_of s

-- a page is said by a well made input alone
pub says : (s : List ℕ) (p : Page) → parsed s ≡ Some p → Says s p.width p.height p.skew p.slope
unfolding parsed
says s p e = go (well_made s) refl e
  where
    go : (b : Bool) → well_made s ≡ b → cond b (Some (page_of (width_of s) (height_of s) (skew_of s) (slope_of s))) None ≡ Some p → Says s p.width p.height p.skew p.slope
    go true m q =
        let e : p ≡ page_of (width_of s) (height_of s) (skew_of s) (slope_of s) = cc in
        record { well = m; wide = ap (λ z. z.width) e; high = ap (λ z. z.height) e; skewed = ap (λ z. z.skew) e; sloped = ap (λ z. z.slope) e }
    go false m q = let z : ◌≡◌ {A = ℕ} 0 1 = cc in absurd (omega arith)

malformed : (s : List ℕ) → parsed s ≡ None → well_made s ≡ false
unfolding parsed
malformed s e = go (well_made s) e
  where
    go : (b : Bool) → cond b (Some (page_of (width_of s) (height_of s) (skew_of s) (slope_of s))) None ≡ None → b ≡ false
    go true q = let z : ◌≡◌ {A = ℕ} 0 1 = cc in absurd (omega arith)
    go false q = refl

-- ---- what is printed

shown-is : (s out text : List ℕ) → text ≡ shown s → text_told text out ≡ shown_to s out
unfolding text_told shown_to
shown-is s out text e = ap (λ z. text_told z out) e

-- an input that is not well made
pub none-shown : (s out : List ℕ) → parsed s ≡ None → (t : Told) → t ≡ text_told (refusal_text 0) out → t ≡ shown_to s out
none-shown s out e t q = q ∙ shown-is s out (refusal_text 0) text
  where
    text : refusal_text 0 ≡ shown s
    text = unfold shown in sym (ap (λ b. cond b (leaf_text (leaf_shown s)) (refusal_text 0)) (malformed s e))

module _ (s : List ℕ) (w h skew slope : ℕ) (S : Says s w h skew slope) where
  pub sides-small : (w ≤ max_shown_side) × (h ≤ max_shown_side)
  sides-small =
      let m = made s S.well in
      let x = m.narrow in
      let y = m.low in
      let e = S.wide in
      let f = S.high in
      (omega arith, omega arith)

  pub dots-small : w * h ≤ 256
  dots-small = dots-few w h sides-small.0 sides-small.1

  mask-long : length (mask_of s) ≡ w * h
  unfolding mask_of dots_in
  mask-long =
      ap (λ (b : Bool). length (cond b (dots_in s (width_of s) (height_of s)) [])) S.well
      ∙ (length-table (dot_at s (width_of s)) (width_of s * height_of s) ∙ (λ i. sym S.wide i * sym S.high i))

  -- the dots of the page stand in front
  mask-front : (m before : List ℕ) → m ≡ over (mask_of s) before → take (w * h) m ≡ mask_of s
  mask-front m before e = ap (take (w * h)) e ∙ take_at (mask_of s) (drop (length (mask_of s)) before) (w * h) mask-long

  -- a page
  pub page-shown : (m before out : List ℕ) → m ≡ over (mask_of s) before → (t : Told) → t ≡ text_told (leaf_text (page_shown (take (w * h) m) w h skew slope)) out → t ≡ shown_to s out
  page-shown m before out e t q = q ∙ shown-is s out (leaf_text (page_shown (take (w * h) m) w h skew slope)) text
    where
      text : leaf_text (page_shown (take (w * h) m) w h skew slope) ≡ shown s
      text =
          (λ i. leaf_text (page_shown (mask-front m before e i) (S.wide i) (S.high i) (S.skewed i) (S.sloped i)))
          ∙ (unfold shown in sym (ap (λ b. cond b (leaf_text (leaf_shown s)) (refusal_text 0)) S.well))

-- ---- the text of a page

-- the text of any page to 16 × 16 prints what that page does, so each of them can be shown
pub shown-of-page : (w h skew slope : ℕ) (m : List ℕ) → w ≤ max_shown_side → h ≤ max_shown_side → skew < 2 ^ 64 → slope < 2 ^ 64 → ((i : ℕ) → get_or m i 0 ≤ 1) → length m ≡ w * h
    → shown (page_text w h skew slope m) ≡ leaf_text (page_shown m w h skew slope)
unfolding shown
shown-of-page w h skew slope m narrow low skew-fits slope-fits bits size =
    let s = page_text w h skew slope m in
    let S = says s (page_of w h skew slope) (text-parsed w h skew slope m narrow low skew-fits slope-fits bits) in
    let e = text-mask w h skew slope m narrow low skew-fits slope-fits bits size in
    ap (λ b. cond b (leaf_text (leaf_shown s)) (refusal_text 0)) S.well
    ∙ (λ i. leaf_text (page_shown (e i) (sym S.wide i) (sym S.high i) (sym S.skewed i) (sym S.sloped i)))
