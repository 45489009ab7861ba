-- `levels::collect` meets its contract: with j numbers gone through, all levels but the last are written, and the last is open.
use Prim.Native.Nat.{◌≤◌, ◌<◌, ◌-◌}
use mathlib.Core.Path.{◌≡◌, refl, sym, ap, ap₂, ◌∙◌}
use Rattle.plane.specs.Mesh.{triangle_of}
use Rattle.plane.specs.declared.Triangle.{Triangle}
use Rattle.plane.specs.declared.Bounds.{Bounds}
use Rattle.grid.specs.Boxes.{box_at}
use Rattle.levels.specs.Levels.{opened_by}
use Rattle.levels.specs.Inside.{grown_by}
use native.Mathlib.Omega.{arith}
use borrow.Author.Rules.{rules}
use Rattle.levels.proofs.Gathering.{number_below}
use lib.ListN.{length, get_or, take}
use lib.Seq.{length-take-le, get_or-take, take_all}
use Rattle.levels.proofs.Collecting.{Collecting, collecting_starts, collecting_goes, collecting_ends, collected_none}
use Rattle.levels.proofs.collect.Statement.{statement}
use Rattle.levels.proofs.collect.Tie as tie
use Rattle.levels.proofs.collect.Reads as reads
use Rattle.levels.proofs.collect.Lts as lts

abbrev invariant-loop : tie.invariant-loop-j
invariant-loop mesh boxes n list k level-tolerance levels₀ first g₀ j₀ levels g j =
    Collecting mesh boxes level-tolerance (take k list) levels₀ levels g j × (j ≤ k) × (length levels ≡ length levels₀)

abbrev decreases-loop : tie.decreases-loop-j
decreases-loop mesh boxes n list k level-tolerance levels₀ first g₀ j₀ levels g j = k - j

returns : tie.Need-returns-then-k-eq0 invariant-loop decreases-loop
returns c = collected_none _ _ _ _ _ _ c.if-k-eq0.true

-- the first number of the list, and number j
first_below : (c : tie.After-shared_slice_known-4-1 invariant-loop decreases-loop) → let s = c.before.before.before.before.before.before in
    get_or s.args.list.now 0 0 < s.args.n
first_below c =
    let s = c.before.before.before.before.before.before in
    number_below _ _ 0 _ s.requires.1 (omega (arith, c.before.if-k-eq0.false))

next_below : (c : tie.After-shared_slice_known-in-loop-j-1 invariant-loop decreases-loop)
    → let s = c.before.before.before.before.before.before.before.before.before.before.before.before in
    get_or s.args.list.now c.before.before.loop-j.j 0 < s.args.n
next_below c =
    let s = c.before.before.before.before.before.before.before.before.before.before.before.before in
    number_below _ _ c.before.before.loop-j.j _ s.requires.1 c.before.loop-j-test.true

triangle_at-requires : tie.Need-triangle_at-requires invariant-loop decreases-loop
triangle_at-requires c κs = omega (arith, first_below c, c.before.before.before.before.before.before.requires.0)

box_at-requires : tie.Need-box_at-requires invariant-loop decreases-loop
box_at-requires c κs = omega (arith, first_below c.before, c.before.before.before.before.before.before.before.requires.3)

loop-holds : tie.Need-loop-j-init invariant-loop decreases-loop
loop-holds c =
    let s = c.before.before.before.before.before.before.before.before.before in
    let h : 0 < s.args.k = omega (arith, c.before.before.before.before.if-k-eq0.false) in
    let e = sym (get_or-take s.args.k s.args.list.now 0 0 h) in
    let l = length-take-le s.args.k s.args.list.now s.requires.1.table in (
      collecting_starts _ _ _ _ _ _ (omega arith)
          (c.opened_by.ensures
          ∙ ap₂ opened_by (c.before.before.triangle_at.ensures ∙ ap (triangle_of s.args.mesh.now) e) (c.before.box_at.ensures
          ∙ ap (box_at s.args.boxes.now) e)),
      omega arith,
      refl,
    )

triangle_at-requires-2 : tie.Need-triangle_at-requires-in-loop-j invariant-loop decreases-loop
triangle_at-requires-2 c κs =
    omega (arith, next_below c.before, c.before.before.before.before.before.before.before.before.before.before.before.before.before.requires.0)

box_at-requires-2 : tie.Need-box_at-requires-in-loop-j invariant-loop decreases-loop
box_at-requires-2 c κs = omega (
  arith,
  next_below c.before.before,
  c.before.before.before.before.before.before.before.before.before.before.before.before.before.before.requires.3,
)

grow-requires : tie.Need-grow-g-requires invariant-loop decreases-loop
grow-requires c κs = omega (
  arith,
  c.before.before.before.before.before.loop-j.invariant.0.few,
  c.before.before.before.before.before.before.before.before.before.before.before.before.before.before.before.requires.2,
)

loop-again : tie.Need-loop-j-preserved invariant-loop decreases-loop
loop-again c =
    let s = c.before.before.before.before.before.before.before.before.before.before.before.before.before.before.before.before.before.before in
    let l = c.before.before.before.before.before.before.before.before.loop-j in
    let h = c.before.before.before.before.before.before.before.loop-j-test.true in
    let i = sym (get_or-take s.args.k s.args.list.now l.j 0 h) in
    let r = length-take-le s.args.k s.args.list.now s.requires.1.table in (
      collecting_goes _ _ _ _ _ _ _ l.g _ l.j (omega arith) l.invariant.0
          (c.before.before.grow-g.ensures
          ∙ ap₂ (λ (t : Triangle) (b : Bounds). grown_by s.args.level_tolerance l.levels l.g t b)
          (c.before.before.before.before.triangle_at-in-loop-j.ensures ∙ ap (triangle_of s.args.mesh.now) i) (c.before.before.before.box_at-in-loop-j.ensures
          ∙ ap (box_at s.args.boxes.now) i)),
      omega arith,
      search rules,
    )

close-requires : tie.Need-close-requires invariant-loop decreases-loop
close-requires c κs = omega (
  arith,
  c.before.before.loop-j.invariant.0.few,
  c.before.before.before.before.before.before.before.before.before.before.before.before.requires.2,
  c.before.before.loop-j.invariant.1,
)

same_length : tie.Need-shape_of-levels invariant-loop decreases-loop
same_length c = search rules

returns-2 : tie.Need-returns invariant-loop decreases-loop
returns-2 c =
    let s = c.before.before.before.before.before.before.before.before.before.before.before.before.before.before.before in
    let l = c.before.before.before.before.before.loop-j in
    let r = length-take-le s.args.k s.args.list.now s.requires.1.table in
    let e = collecting_ends _ _ _ _ _ _ _ l.g l.j (take_all l.j (take s.args.k s.args.list.now) (omega arith)) l.invariant.0
    c.before.before.close.ensures.0 in
    (e.0, c.before.before.close.ensures.1 ∙ e.1)

pub collect_spec : {M : Type 1} → statement M
collect_spec =
    tie.close
    (tie.spec invariant-loop decreases-loop returns (λ c. omega (arith, c.before.if-k-eq0.false, c.before.before.before.before.before.before.requires.1.table))
    (λ c. omega (arith, c.shared_slice_known-4-1.given 0))
    triangle_at-requires box_at-requires (λ c κs. tt) loop-holds (λ c. search rules)
    (λ c. omega (arith, c.before.before.before.before.before.before.before.before.before.before.before.before.requires.1.table))
    (λ c. omega (arith, c.shared_slice_known-in-loop-j-1.given c.before.before.loop-j.j))
    triangle_at-requires-2 box_at-requires-2 grow-requires (λ c. omega (
      arith,
      c.before.before.before.before.before.before.before.before.before.before.before.before.before.before.before.before.before.before.requires.2,
    )) (λ c. omega arith) loop-again close-requires same_length returns-2)
