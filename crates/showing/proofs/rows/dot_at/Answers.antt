use Prim.Native.Nat.{◌/◌, ◌%◌}
use Rattle.showing.proofs.InputLaws.{wide_enough, row_inside, row_of, column-of}
use native.Mathlib.Omega.{arith}
use Rattle.showing.proofs.rows.dot_at.Goals as goal

pub nonzero_div-y : goal.nonzero_div-y
nonzero_div-y c = let a = c.args in wide_enough a.w a.h a.i c.requires.1

pub nonzero_rem-x : goal.nonzero_rem-x
nonzero_rem-x c = let a = c.args in wide_enough a.w a.h a.i c.requires.1

pub overflow_mul-y : goal.overflow_mul-y
overflow_mul-y c =
    let a = c.args in
    let p = c.requires in
    let r = row_inside a.w a.h (a.i / a.w) (row_of a.w a.h a.i p.1) in
    omega arith

pub overflow_add-y : goal.overflow_add-y
overflow_add-y c =
    let a = c.args in
    let p = c.requires in
    let r = row_inside a.w a.h (a.i / a.w) (row_of a.w a.h a.i p.1) in
    omega arith

pub number_at-row-requires : goal.number_at-row-requires
number_at-row-requires c =
    let a = c.args in
    let p = c.requires in
    let r = row_inside a.w a.h (a.i / a.w) (row_of a.w a.h a.i p.1) in
    omega arith

pub overflow_sub-n : goal.overflow_sub-n
overflow_sub-n c =
    let a = c.args in
    let p = c.requires in
    let x = column-of a.w a.h a.i p.1 in
    omega arith

pub overflow_sub-n-2 : goal.overflow_sub-n-2
overflow_sub-n-2 c =
    let a = c.args in
    let p = c.requires in
    let x = column-of a.w a.h a.i p.1 in
    omega arith

pub returns : goal.returns
returns c = λ i. c.number_at-row.ensures.0 i / c.power.ensures.0 i % 2
