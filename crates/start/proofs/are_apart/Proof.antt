-- `start::are_apart` meets its contract: the triangles in front of the next are apart. Those left fall.
use Prim.Native.Nat.{◌-◌, ◌≤◌}
use mathlib.Core.Path.{refl}
use native.Mathlib.Omega.{arith}
use borrow.Author.Tests.{not-false}
use Rattle.rules.proofs.Branches.{no}
use Rattle.start.proofs.Scanning.{ApartTo, apart_none, apart_more, apart_all}
use Rattle.start.proofs.are_apart.Statement.{statement}
use Rattle.start.proofs.are_apart.Tie as tie

abbrev invariant-loop : tie.invariant-loop-i
invariant-loop mesh boxes n from low i₀ i = ApartTo mesh boxes from i × (i ≤ n)

abbrev decreases-loop : tie.decreases-loop-i
decreases-loop mesh boxes n from low i₀ i = n - i

is_apart-requires : tie.Need-is_apart-requires invariant-loop decreases-loop
is_apart-requires c κs =
    let s = c.before.before.before.before in
    (omega (arith, s.requires.0, c.loop-i-test.true), omega (arith, s.requires.1, c.loop-i-test.true), refl)

loop-again : tie.Need-loop-i-preserved invariant-loop decreases-loop
loop-again c =
    let l = c.before.before.before.loop-i in
    (apart_more _ _ _ l.i l.invariant.0 (c.before.is_apart.ensures (c.if-not-is_apart.false)), omega (arith, c.before.before.loop-i-test.true))

returns-2 : tie.Need-returns invariant-loop decreases-loop
returns-2 c e = apart_all _ _ _ _ c.before.loop-i.i c.before.before.before.before.requires.1 (omega (arith, c.loop-i-test.false)) c.before.loop-i.invariant.0

pub are_apart_spec : {M : Type 1} → statement M
are_apart_spec =
    tie.close
    (tie.spec invariant-loop decreases-loop (λ c. (apart_none _ _ _, omega arith)) is_apart-requires (λ c e. absurd (no e))
    (λ c. record { fits = omega (arith, c.before.before.loop-i-test.true, c.before.before.before.before.before.before.requires.2) })
    (λ c. omega (arith, c.before.before.loop-i-test.true)) loop-again returns-2)
