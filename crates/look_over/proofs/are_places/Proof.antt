use mathlib.Core.Path.{◌≡◌, ap, ◌∙◌}
use Prim.Native.Nat.{◌+◌, ◌-◌, ◌≤◌}
use native.Mathlib.Omega.{arith}
use Rattle.fields.specs.Little.{value}
use Rattle.rules.specs.Every.{every}
use Rattle.rules.proofs.Testing.{every_stops, every_goes, every_ends, failed, passed}
use Rattle.paths.specs.Layout.{count}
use Rattle.paths.specs.Reader.{point_of}
use Rattle.look_over.specs.Verdict.{is_place, are_places}
use Rattle.look_over.proofs.are_places.Statement.{statement}
use Rattle.look_over.proofs.are_places.Tie as tie

abbrev invariant-loop : tie.invariant-loop-p
invariant-loop bytes n p₀ p = (every (λ q. is_place (point_of bytes q)) p (n - p) ≡ are_places bytes (value count bytes)) × (n ≡ value count bytes + 1) × (p ≤ n)

abbrev decreases-loop : tie.decreases-loop-p
decreases-loop bytes n p₀ p = n - p

count-requires : tie.Need-count-requires invariant-loop decreases-loop
count-requires c κs = omega (arith, c.before.requires.whole)

loop-holds : tie.Need-loop-p-init invariant-loop decreases-loop
unfolding are_places
loop-holds c =
    let b = c.before.before.args.bytes.now in
    let q : c.count.result + 1 - 0 ≡ value count b + 1 = omega (arith, c.count.ensures) in
    (ap (every (λ p. is_place (point_of b p)) 0) q, omega (arith, c.count.ensures), omega arith)

point_at-requires : tie.Need-point_at-requires invariant-loop decreases-loop
point_at-requires c κs =
    let s = c.before.before.before.before in
    let l = c.before.loop-p in
    (omega (arith, s.requires.whole, l.invariant.1, c.loop-p-test.true), λ k h. s.requires.finite_all k (omega (arith, l.invariant.1, c.loop-p-test.true)))

returns : tie.Need-returns-then-not-is_place invariant-loop decreases-loop
returns c =
    let l = c.before.before.before.before.loop-p in
    every_stops _ l.p _ _ c.before.before.before.loop-p-test.true
    (failed _ _ (c.before.is_place.ensures ∙ ap is_place c.before.before.point_at.ensures) c.if-not-is_place.true-raw) l.invariant.0

loop-again : tie.Need-loop-p-preserved invariant-loop decreases-loop
loop-again c =
    let l = c.before.before.before.before.loop-p in (
      every_goes _ l.p _ _ c.before.before.before.loop-p-test.true (passed _ _ (c.before.is_place.ensures ∙ ap is_place
          c.before.before.point_at.ensures) c.if-not-is_place.false-raw) l.invariant.0,
      l.invariant.1,
      omega (arith, c.before.before.before.loop-p-test.true),
    )

returns-2 : tie.Need-returns invariant-loop decreases-loop
returns-2 c = every_ends _ c.before.loop-p.p _ _ (omega arith) c.before.loop-p.invariant.0

pub are_places_spec : {M : Type 1} → statement M
are_places_spec = tie.close (tie.spec invariant-loop decreases-loop count-requires (λ c. omega arith) (λ c. omega arith) loop-holds point_at-requires (λ c κs. tt) returns
    (λ c. omega arith) (λ c. omega arith) loop-again returns-2)
