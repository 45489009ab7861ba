-- The invariant: w has the places of the search after n steps, and its fences hold the values there.
use Prim.Native.Nat.{◌≤◌, ◌-◌}
use mathlib.Core.Path.{◌≡◌, ap, ◌∙◌}
use native.Mathlib.Omega.{arith}
use Rattle.rules.proofs.Testing.{passed}
use Rattle.golden.specs.Search.{rises, golden_at}
use Rattle.section.specs.Section.{section_at}
use Rattle.section.specs.Inside.{Loosely}
use Rattle.section.proofs.Slides.{begun, again}
use Rattle.section.proofs.slide.slid.Statement.{statement}
use Rattle.section.proofs.slide.slid.Tie as tie

abbrev invariant-loop : tie.invariant-loop-n
invariant-loop s low x y e flat lo hi k w₀ n₀ w n = Loosely (section_at s x y e) (golden_at rises (section_at s x y e) lo hi n) w × (n ≤ 60)

abbrev decreases-loop : tie.decreases-loop-n
decreases-loop s low x y e flat lo hi k w₀ n₀ w n = 60 - n

loop-holds : tie.Need-loop-n-init invariant-loop decreases-loop
loop-holds c = (begun _ _ _ _ _ _ c.before.before.before.requires.2 c.first-w.ensures, c.before.before.before.requires.3)

returns : tie.Need-returns-then-not-goes invariant-loop decreases-loop
returns c =
    let l = c.before.before.before.before.before.loop-n in
    (c.valued.ensures ∙ l.invariant.0.spots, l.invariant.1)

next-requires : tie.Need-next-w-requires invariant-loop decreases-loop
next-requires c κs =
    (c.before.before.before.before.before.before.before.before.requires.0, passed _ _ c.before.goes.ensures c.if-not-goes.false-raw)

loop-again : tie.Need-loop-n-preserved invariant-loop decreases-loop
loop-again c =
    let l = c.before.before.before.before.before.loop-n in
    (again _ _ _ _ _ (c.next-w.ensures _ l.invariant.0), omega arith)

returns-2 : tie.Need-returns invariant-loop decreases-loop
returns-2 c =
    let l = c.before.before.loop-n in
    let e : l.n ≡ 60 = omega arith in
    (c.valued-2.ensures ∙ l.invariant.0.spots ∙ ap (golden_at rises _ _ _) e, omega arith)

pub slid_spec : {M : Type 1} → statement M
slid_spec =
    tie.close
    (tie.spec invariant-loop decreases-loop (λ c κs. tt) (λ c κs. tt) (λ c κs. tt) loop-holds (λ c κs. tt) (λ c κs. tt)
    (λ c κs. c.before.before.before.before.before.before.before.before.requires.1) returns next-requires (λ c. omega arith) (λ c. omega arith) loop-again
    (λ c κs. c.before.before.before.before.before.requires.1) returns-2)
