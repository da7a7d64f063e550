use mathlib.Core.Path.{◌≡◌, ap, ◌∙◌}
use Prim.Native.Nat.{ℕ, ◌+◌}
use native.Mathlib.Omega.{arith}
use Rattle.memory.specs.rules.Words.{word_at}
use Rattle.scripts.specs.rules.Scripts.{sheet_at, number_at, sheet_from}
use Rattle.scripts.proofs.script.sheet_of.Goals as goal

pub overflow_add-at-14 : goal.overflow_add-at-14
overflow_add-at-14 c = omega (arith, c.word_at-at.type_inv)

pub returns : goal.returns
unfolding sheet_from
returns c =
    let fs = c.args.floats.now in
    let e : c.word_at-at.result ≡ word_at c.args.call.now sheet_at = c.word_at-at.ensures in
    let place : (j : ℕ) → number_at fs (c.word_at-at.result + j) ≡ number_at fs (word_at c.args.call.now sheet_at + j) = λ j. ap (λ (k : ℕ). number_at fs (k + j)) e in
    λ i. record {
      glyph_min_area = c.word_at.ensures i;
      glyph_max_extent_frac = (c.float_at.ensures ∙ ap (number_at fs) e) i;
      xheight_min_area = c.word_at-2.ensures i;
      xheight_fallback_px = (c.float_at-2.ensures ∙ place 1) i;
      rule_min_len_xh = (c.float_at-3.ensures ∙ place 2) i;
      rule_max_thick_xh = (c.float_at-4.ensures ∙ place 3) i;
      rule_run_xh = (c.float_at-5.ensures ∙ place 4) i;
      graphic_min_xh = (c.float_at-6.ensures ∙ place 5) i;
      smear_xh = (c.float_at-7.ensures ∙ place 6) i;
      line_min_glyphs = c.word_at-3.ensures i;
      line_min_height_xh = (c.float_at-8.ensures ∙ place 7) i;
      line_max_height_xh = (c.float_at-9.ensures ∙ place 8) i;
      block_min_overlap = (c.float_at-10.ensures ∙ place 9) i;
      block_gap_margin_lines = (c.float_at-11.ensures ∙ place 10) i;
      block_max_gap_lines = (c.float_at-12.ensures ∙ place 11) i;
      column_gap_xh = (c.float_at-13.ensures ∙ place 12) i;
      column_cover_frac = (c.float_at-14.ensures ∙ place 13) i;
      shear_min_deg = (c.float_at-15.ensures ∙ place 14) i;
    }
