-- The places of the lists of results as the record that the code hands on (01, "Records lie in lent words").
use Rattle.std.specs.Prelude.{◌≡◌, ℕ}
use Rattle.segmenting.specs.rules.Results.{rules_at, graphics_at, glyph_records_at, lines_at, blocks_at}
use Rattle.segmenting.specs.declared.places.ResultPlaces.{ResultPlaces}

-- for a frame w wide and P components
abbrev pub result_places : ℕ → ℕ → ResultPlaces
result_places w P = record { columns = 0; rules = rules_at w; graphics = graphics_at w P; glyphs = glyph_records_at w P; lines = lines_at w P; blocks = blocks_at w P }

-- q is `result_places` of w and P, place by place
pub record Placed (q : ResultPlaces) (w P : ℕ) : Type 0 where
  pub columns_is : q.columns ≡ 0
  pub rules_is : q.rules ≡ rules_at w
  pub graphics_is : q.graphics ≡ graphics_at w P
  pub glyphs_is : q.glyphs ≡ glyph_records_at w P
  pub lines_is : q.lines ≡ lines_at w P
  pub blocks_is : q.blocks ≡ blocks_at w P
