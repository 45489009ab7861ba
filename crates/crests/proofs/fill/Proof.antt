-- `crests::fill` meets its contract: the crests cap the cells in front of the next.
use Prim.Native.Nat.{◌+◌, ◌*◌, ◌-◌, ◌≤◌}
use mathlib.Core.Path.{◌≡◌, refl, sym, ◌∙◌}
use native.Mathlib.Omega.{arith}
use lib.ListN.{length}
use Rattle.crests.proofs.Capping.{Rowed, rowed_none, rowed_more, rowed_next, rowed_all, boxed_is}
use Rattle.crests.proofs.fill.Statement.{statement}
use Rattle.crests.proofs.fill.Tie as tie

abbrev invariant-loop2 : tie.invariant-loop-x
invariant-loop2 starts members boxes crests₀ columns rows y x₀ crests x = Rowed starts members boxes columns y x crests × (length crests ≡ length crests₀)

abbrev decreases-loop2 : tie.decreases-loop-x
decreases-loop2 starts members boxes crests₀ columns rows y x₀ crests x = columns - x

abbrev invariant-loop : tie.invariant-loop-y
invariant-loop starts members boxes crests₀ columns rows y₀ crests y = Rowed starts members boxes columns y 0 crests × (length crests ≡ length crests₀)

abbrev decreases-loop : tie.decreases-loop-y
decreases-loop starts members boxes crests₀ columns rows y₀ crests y = rows - y

loop-holds : tie.Need-loop-y-init invariant-loop2 decreases-loop2 invariant-loop decreases-loop
loop-holds c = (rowed_none _ _ _ _ _ c.before.before.before.before.requires.2, refl)

loop2-holds : tie.Need-loop-x-init invariant-loop2 decreases-loop2 invariant-loop decreases-loop
loop2-holds c = (c.before.loop-y.invariant.0, refl)

cell_fits : (c : tie.In-loop-x invariant-loop2 decreases-loop2 invariant-loop decreases-loop)
    → c.before.before.before.loop-y.y * c.before.before.before.before.before.before.before.before.args.h.columns + c.before.loop-x.x + 1
    ≤ length c.before.before.before.before.before.before.before.before.args.starts.now
cell_fits c =
    let i = (c.before.before.before.before.before.before.before.before.requires.1.stretch c.before.loop-x.x c.before.before.before.loop-y.y
    (omega arith) c.loop-x-test.true (omega arith) c.before.before.loop-y-test.true).inside in
    omega arith

mul-c : tie.Need-overflow_mul-c invariant-loop2 decreases-loop2 invariant-loop decreases-loop
mul-c c = record { fits = omega (arith, cell_fits c, c.before.before.before.before.before.before.before.before) }

add-c : tie.Need-overflow_add-c invariant-loop2 decreases-loop2 invariant-loop decreases-loop
add-c c = record { fits = omega (arith, cell_fits c, c.before.before.before.before.before.before.before.before) }

stretch-requires : tie.Need-stretch-requires invariant-loop2 decreases-loop2 invariant-loop decreases-loop
stretch-requires c κs = c.before.before.before.before.before.before.before.before.requires.1.stretch c.before.loop-x.x
    c.before.before.before.loop-y.y (omega arith) c.loop-x-test.true (omega arith) c.before.before.loop-y-test.true

raise_crest-requires : tie.Need-raise_crest-requires invariant-loop2 decreases-loop2 invariant-loop decreases-loop
raise_crest-requires c κs =
    let s = c.before.before.before.before.before.before.before.before.before.before in (
      boxed_is s.args.h.n s.args.boxes.now _ _ c.before.stretch.ensures s.requires.0 (s.requires.1.below c.before.before.before.loop-x.x
          c.before.before.before.before.before.loop-y.y (omega arith) c.before.before.loop-x-test.true (omega arith)
          c.before.before.before.before.loop-y-test.true),
      c.before.before.before.loop-x.invariant.0.size,
    )

add-x : tie.Need-overflow_step-x invariant-loop2 decreases-loop2 invariant-loop decreases-loop
add-x c = omega (
  arith,
  c.before.before.before.before.before.loop-x-test.true,
  c.before.before.before.before.before.before.before.before.before.before.before.before.before,
)

loop2-less : tie.Need-loop-x-smaller invariant-loop2 decreases-loop2 invariant-loop decreases-loop
loop2-less c = omega (arith, c.before.before.before.before.before.loop-x-test.true)

loop2-again : tie.Need-loop-x-preserved invariant-loop2 decreases-loop2 invariant-loop decreases-loop
loop2-again c =
    let e = c.before.before.raise_crest.ensures in (
      rowed_more _ _ _ _ c.before.before.before.before.before.before.before.before.loop-y.y
          c.before.before.before.before.before.before.loop-x.x _ _ c.before.before.before.before.before.before.loop-x.invariant.0
          e.0 e.1 _ c.before.before.before.before.stretch.ensures e.2,
      e.0
          ∙ sym c.before.before.before.before.before.before.before.before.loop-y.invariant.0.size,
    )

add-y : tie.Need-overflow_step-y invariant-loop2 decreases-loop2 invariant-loop decreases-loop
add-y c = omega (arith, c.before.before.loop-y-test.true, c.before.before.before.before.before.before.before.before)

loop-less : tie.Need-loop-y-smaller invariant-loop2 decreases-loop2 invariant-loop decreases-loop
loop-less c = omega (arith, c.before.before.loop-y-test.true)

loop-again : tie.Need-loop-y-preserved invariant-loop2 decreases-loop2 invariant-loop decreases-loop
loop-again c = (
  rowed_next _ _ _ _ c.before.before.before.loop-y.y c.before.loop-x.x _ (omega (arith, c.loop-x-test.false)) c.before.loop-x.invariant.0,
  c.before.loop-x.invariant.1 ∙ c.before.before.before.loop-y.invariant.1,
)

same_length : tie.Need-shape_of-crests invariant-loop2 decreases-loop2 invariant-loop decreases-loop
same_length c = c.before.loop-y.invariant.1

returns : tie.Need-returns invariant-loop2 decreases-loop2 invariant-loop decreases-loop
returns c = rowed_all _ _ _ _ c.before.loop-y.y _ _ (omega (arith, c.loop-y-test.false)) c.before.loop-y.invariant.0

pub fill_spec : {M : Type 1} → statement M
fill_spec =
    tie.close
    (tie.spec invariant-loop2 decreases-loop2 invariant-loop decreases-loop loop-holds loop2-holds mul-c add-c stretch-requires raise_crest-requires add-x loop2-less loop2-again add-y
    loop-less loop-again same_length returns)
