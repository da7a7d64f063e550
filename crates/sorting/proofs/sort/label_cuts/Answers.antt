use native.Mathlib.Omega.{arith}
use mathlib.Core.Path.{◌∙◌}
use Rattle.labelling.specs.declared.marked.Test.TheVariants.{Second}
use Rattle.sorting.proofs.PlanLaws.{frame-kept}
use Rattle.sorting.proofs.SortLaws.{cut_at, still-blank, cuts_first, cuts-second, cuts-done}
use Rattle.sorting.proofs.sort.label_cuts.Goals as goal

pub label_cut-horizontal-requires : goal.label_cut-horizontal-requires
label_cut-horizontal-requires c = (c.requires.0, omega arith, omega arith, c.requires.1, c.requires.3)

pub returns-then-capacity-horizontal : goal.returns-then-capacity-horizontal
returns-then-capacity-horizontal c =
    let Q = c.requires.3 in
    let A = cut_at Q.horizontal_is c.label_cut-horizontal.ensures in
    (A.len, λ run_min thick_max T. cuts_first run_min thick_max c.requires.0 T A (omega arith))

pub label_cut-vertical-requires : goal.label_cut-vertical-requires
label_cut-vertical-requires c =
    let Q = c.requires.3 in
    let A = cut_at Q.horizontal_is c.label_cut-horizontal.ensures in
    (frame-kept c.requires.0 A.len, omega arith, omega arith, λ e. still-blank Second A (c.requires.2 e), c.requires.3)

pub returns-then-capacity-vertical : goal.returns-then-capacity-vertical
returns-then-capacity-vertical c =
    let Q = c.requires.3 in
    let A = cut_at Q.horizontal_is c.label_cut-horizontal.ensures in
    let B = cut_at Q.vertical_is c.label_cut-vertical.ensures in
    (B.len ∙ A.len, λ run_min thick_max T. cuts-second run_min thick_max c.requires.0 T A B (omega arith))

pub returns : goal.returns
returns c =
    let Q = c.requires.3 in
    let A = cut_at Q.horizontal_is c.label_cut-horizontal.ensures in
    let B = cut_at Q.vertical_is c.label_cut-vertical.ensures in
    (B.len ∙ A.len, λ run_min thick_max T. cuts-done run_min thick_max c.requires.0 T A B (omega arith) (omega arith))
