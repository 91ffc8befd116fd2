use Rattle.std.proofs.Common.{◌+◌, ◌*◌, ◌/◌, ◌^◌, ◌<◌, ◌≤◌, ℕ, arith, subst, sym}
use Rattle.lpm_fw.proofs.Cover.{Covered, fits, covered_none, covered_more, covered_here, size_is}
use Rattle.lpm_fw.specs.Cells.{IsLonger}
use Rattle.lpm_fw.proofs.cells.cover.Goals as goal

pub loop-i-init : goal.loop-i-init
loop-i-init c =
    subst (λ (size : ℕ). Covered c.args.rows.now c.args.k c.args.part c.args.free c.args.cells.now c.args.cells.now (c.args.part / size * size)) (sym (size_is c.args.free c.requires.free))
    (covered_none c.args.rows.now c.args.k c.args.part c.args.free c.args.cells.now c.requires.rows)

pub bounds-cells-i : goal.bounds-cells-i
bounds-cells-i c =
    let least = fits c.args.part c.args.free c.requires.free c.requires.part in
    let before = subst (λ (size : ℕ). c.loop-i.i < c.args.part / size * size + size) (size_is c.args.free c.requires.free) c.loop-i-test.true in
    omega arith

pub bounds-cells-i-in-loop-i : goal.bounds-cells-i-in-loop-i
bounds-cells-i-in-loop-i c =
    let least = fits c.args.part c.args.free c.requires.free c.requires.part in
    let before = subst (λ (size : ℕ). c.loop-i.i < c.args.part / size * size + size) (size_is c.args.free c.requires.free) c.loop-i-test.true in
    omega arith

pub loop-i-preserved : goal.loop-i-preserved
loop-i-preserved c =
    let size = size_is c.args.free c.requires.free in
    let all = fits c.args.part c.args.free c.requires.free c.requires.part in
    let least : c.args.part / 2 ^ c.args.free * 2 ^ c.args.free ≤ c.loop-i.i = subst (λ (size : ℕ). c.args.part / size * size ≤ c.loop-i.i) size c.loop-i.auto.i in
    let before : c.loop-i.i < c.args.part / 2 ^ c.args.free * 2 ^ c.args.free + 2 ^ c.args.free = subst (λ (size : ℕ). c.loop-i.i < c.args.part / size * size + size) size c.loop-i-test.true in
    covered_more c.args.rows.now c.args.k c.args.part c.args.free c.args.cells.now c.loop-i.cells c.loop-i.i c.row_cell.result c.longer.result (omega arith) least before
    (subst (λ best. IsLonger c.args.rows.now best c.args.k c.longer.result) c.row_of.ensures c.longer.ensures.longer) c.longer.ensures.within c.row_cell.ensures.row c.loop-i.invariant

pub returns-clause-here : goal.returns-clause-here
returns-clause-here c i within same =
    let past : c.args.part / 2 ^ c.args.free * 2 ^ c.args.free + 2 ^ c.args.free ≤ c.loop-i.i = subst (λ (size : ℕ). c.args.part / size * size + size ≤ c.loop-i.i) (size_is c.args.free c.requires.free) c.loop-i-test.false in
    covered_here c.args.rows.now c.args.k c.args.part c.args.free c.args.cells.now c.loop-i.cells c.loop-i.i past c.loop-i.invariant i same
