use Prim.Native.Nat.{ℕ, ◌+◌, ◌≤◌, ◌-◌}
use mathlib.Core.Path.{◌≡◌, refl, ◌∙◌, ap}
use native.Mathlib.Numerals.{add-one}
use borrow.Author.Rules.{rules}
use native.Mathlib.Omega.{arith}
use lib.Ieee.{Float}
use Rattle.plane.specs.declared.Triangle.{Triangle}
use Rattle.reach.specs.declared.Chord.{Chord}
use Rattle.reach.specs.declared.Span.{Span}
use Rattle.reach.specs.Reach.{halved_of, span_at}
use Rattle.reach.proofs.bisected.Statement.{statement}
use Rattle.reach.proofs.bisected.Tie as tie

abbrev invariant-loop : tie.invariant-loop-n
invariant-loop t m k s₀ n₀ s n = (s ≡ span_at t m k.r s₀ n) × (n ≤ 60)

abbrev decreases-loop : tie.decreases-loop-n
decreases-loop t m k s₀ n₀ s n = 60 - n

-- one step more
halves : (t : Triangle) (m : Chord) (r : Float) (from s s' : Span) (n : ℕ) → s ≡ span_at t m r from n → s' ≡ halved_of t m r s → s' ≡ span_at t m r from (n + 1)
unfolding span_at
halves t m r from s s' n i e = rw (add-one n) (e ∙ ap (halved_of t m r) i)

loop-holds : tie.Need-loop-n-init invariant-loop decreases-loop
unfolding span_at
loop-holds c = (refl, search rules)

loop-again : tie.Need-loop-n-preserved invariant-loop decreases-loop
loop-again c = (search halves, search rules)

returns : tie.Need-returns invariant-loop decreases-loop
returns c =
    let l = c.before.loop-n in
    let e : l.n ≡ 60 = omega arith in
    rw e at l.invariant.0

pub bisected_spec : {M : Type 1} → statement M
bisected_spec =
    tie.close (tie.spec invariant-loop decreases-loop loop-holds (λ c κs. search rules) (λ c. omega arith) (λ c. omega arith) loop-again returns)
