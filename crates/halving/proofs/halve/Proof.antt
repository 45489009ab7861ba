-- `halving::halve` meets its contract: the pieces that wait, taken from where the search stands, give what the run's pieces give from its start. What falls is
-- the number of turns that the stack takes at most.
use Prim.Native.Nat.{◌+◌, ◌-◌, ◌<◌}
use mathlib.Core.Bool.{Bool}
use mathlib.Core.Path.{◌≡◌, refl, sym, ap, ◌∙◌}
use native.Mathlib.Omega.{arith}
use borrow.Author.Rules.{rules}
use lib.Dec.{lit≤}
use lib.ListN.{length, get_or}
use Rattle.grid.specs.Index.{index_of}
use Rattle.numbers.specs.Reals.{num}
use Rattle.runs.specs.declared.Run.{Run}
use Rattle.runs.proofs.Chaining.{whole}
use Rattle.runs.specs.Inside.{work, taken_by, taken_all}
use Rattle.probe.specs.Probe.{height_under, clear}
use Rattle.probe.specs.Inside.{Marked, splits_of}
use Rattle.halving.proofs.Halving.{stack_of, waiting, weight, Stacked, stack_takes, takes_less, split_fits, split_stacked, stack_splits}
use Rattle.halving.proofs.Halving.{splits_less, some_left, stack_ends, waiting_first, stacked_less, falls, one_more}
use Rattle.halving.proofs.halve.Statement.{statement}
use Rattle.halving.proofs.halve.Tie as tie

abbrev invariant-loop : tie.invariant-loop-top
invariant-loop mesh h starts members boxes crests marks₀ runs₀ a z bx₀ by₀ left₀ ax₀ ay₀ top₀ tally₀ stamp₀ marks runs bx by left ax ay top tally stamp =
    (taken_all (work runs tally) (waiting (clear (height_under (index_of mesh h starts members boxes)) a) a.least z ax ay (stack_of bx by left top)) ≡ taken_all
    (work runs₀ tally₀) (waiting (clear (height_under (index_of mesh h starts members boxes)) a) a.least z ax₀ ay₀ (stack_of bx₀ by₀ left₀ top₀)))
    × Stacked bx by left top
    × Marked h.n stamp marks
    × (length marks ≡ length marks₀)
    × (length runs ≡ length runs₀)

abbrev decreases-loop : tie.decreases-loop-top
decreases-loop mesh h starts members boxes crests marks₀ runs₀ a z bx₀ by₀ left₀ ax₀ ay₀ top₀ tally₀ stamp₀ marks runs bx by left ax ay top tally stamp =
    weight (stack_of bx by left top)

loop-holds : tie.Need-loop-top-init invariant-loop decreases-loop
loop-holds c = (
  refl,
  record { xs = refl; ys = refl; ls = refl; deep = λ i l. let e : i ≡ 0 = omega arith in rw e (lit≤ tt) },
  c.before.before.before.before.before.before.before.before.requires.1,
  refl,
  refl,
)

-- the top of the stack lies in the arrays
inside : (c : tie.In-loop-top-unread invariant-loop decreases-loop) → c.before.loop-top.top - 1 < 33
inside c =
    let l = c.before.loop-top in
    omega (arith, l.invariant.1.deep (l.top - 1) (omega arith))

judge-requires : tie.Need-judge-j-requires invariant-loop decreases-loop
judge-requires c κs = let s = c.before.before.before.before.before.before.before.before.before.before.before in
    (s.requires.0, c.before.before.loop-top.invariant.2, s.requires.2)

-- whether the piece on top is halved
told : (c : tie.After-judge-j invariant-loop decreases-loop) →
    let l = c.before.before.before.loop-top in
    let s = c.before.before.before.before.before.before.before.before.before.before.before.before in
    let r : Run = record { ax = l.ax; ay = l.ay; bx = num l.bx (l.top - 1); by = num l.by (l.top - 1); z = s.args.r.z } in
    splits_of (clear (height_under (index_of s.args.mesh.now s.args.h s.args.starts.now s.args.members.now s.args.boxes.now))
    s.args.a r) s.args.a.least (get_or l.left (l.top - 1) 0) r ≡ c.judge-j.result.split
told c =
    let l = c.before.before.before.loop-top in
    let s = c.before.before.before.before.before.before.before.before.before.before.before.before in
    let r : Run = record { ax = l.ax; ay = l.ay; bx = num l.bx (l.top - 1); by = num l.by (l.top - 1); z = s.args.r.z } in
    ap (λ (b : Bool). splits_of b s.args.a.least (get_or l.left (l.top - 1) 0) r) (sym c.judge-j.ensures.0) ∙ sym c.judge-j.ensures.1

-- a piece that is halved has a halving left, and there is room for its half
module _ (c : tie.After-first_half-half invariant-loop decreases-loop) where
  halved_left : 0 < get_or c.before.before.before.before.before.before.before.loop-top.left
      (c.before.before.before.before.before.before.before.loop-top.top - 1) 0
  halved_left = let l = c.before.before.before.before.before.before.before.loop-top in some_left (clear (height_under (index_of
      c.before.before.before.before.before.before.before.before.before.before.before.before.before.before.before.before.args.mesh.now
      c.before.before.before.before.before.before.before.before.before.before.before.before.before.before.before.before.args.h
      c.before.before.before.before.before.before.before.before.before.before.before.before.before.before.before.before.args.starts.now
      c.before.before.before.before.before.before.before.before.before.before.before.before.before.before.before.before.args.members.now
      c.before.before.before.before.before.before.before.before.before.before.before.before.before.before.before.before.args.boxes.now))
      c.before.before.before.before.before.before.before.before.before.before.before.before.before.before.before.before.args.a)
      c.before.before.before.before.before.before.before.before.before.before.before.before.before.before.before.before.args.a.least
      c.before.before.before.before.before.before.before.before.before.before.before.before.before.before.before.before.args.r.z l.bx
      l.by l.left (l.top - 1) l.ax l.ay l.top (omega arith) l.invariant.1 (told c.before.before.before.before ∙ c.before.if-j.true)

  halved_fits : c.before.before.before.before.before.before.before.loop-top.top < 33
  halved_fits = let l = c.before.before.before.before.before.before.before.loop-top in split_fits (clear (height_under (index_of
      c.before.before.before.before.before.before.before.before.before.before.before.before.before.before.before.before.args.mesh.now
      c.before.before.before.before.before.before.before.before.before.before.before.before.before.before.before.before.args.h
      c.before.before.before.before.before.before.before.before.before.before.before.before.before.before.before.before.args.starts.now
      c.before.before.before.before.before.before.before.before.before.before.before.before.before.before.before.before.args.members.now
      c.before.before.before.before.before.before.before.before.before.before.before.before.before.before.before.before.args.boxes.now))
      c.before.before.before.before.before.before.before.before.before.before.before.before.before.before.before.before.args.a)
      c.before.before.before.before.before.before.before.before.before.before.before.before.before.before.before.before.args.a.least
      c.before.before.before.before.before.before.before.before.before.before.before.before.before.before.before.before.args.r.z l.bx
      l.by l.left (l.top - 1) l.ax l.ay l.top (omega arith) l.invariant.1 (told c.before.before.before.before ∙ c.before.if-j.true)

loop-less : tie.Need-loop-top-smaller-then-j invariant-loop decreases-loop
loop-less c =
    let l = c.before.before.before.before.before.before.before.loop-top in
    rw c.first_half-half.ensures
    (splits_less (clear (height_under (index_of
    c.before.before.before.before.before.before.before.before.before.before.before.before.before.before.before.before.args.mesh.now
    c.before.before.before.before.before.before.before.before.before.before.before.before.before.before.before.before.args.h
    c.before.before.before.before.before.before.before.before.before.before.before.before.before.before.before.before.args.starts.now c.before.before.before.before.before.before.before.before.before.before.before.before.before.before.before.before.args.members.now c.before.before.before.before.before.before.before.before.before.before.before.before.before.before.before.before.args.boxes.now))
    c.before.before.before.before.before.before.before.before.before.before.before.before.before.before.before.before.args.a)
    c.before.before.before.before.before.before.before.before.before.before.before.before.before.before.before.before.args.a.least
    c.before.before.before.before.before.before.before.before.before.before.before.before.before.before.before.before.args.r.z
    l.bx l.by l.left (l.top - 1) l.ax l.ay l.top (omega arith) l.invariant.1 (told c.before.before.before.before
    ∙ c.before.if-j.true))

loop-again : tie.Need-loop-top-preserved-then-j invariant-loop decreases-loop
loop-again c =
    let l = c.before.before.before.before.before.before.before.loop-top in
    let h = told c.before.before.before.before ∙ c.before.if-j.true in (
      rw c.first_half-half.ensures (stack_splits (clear (height_under (index_of
          c.before.before.before.before.before.before.before.before.before.before.before.before.before.before.before.before.args.mesh.now
          c.before.before.before.before.before.before.before.before.before.before.before.before.before.before.before.before.args.h
          c.before.before.before.before.before.before.before.before.before.before.before.before.before.before.before.before.args.starts.now c.before.before.before.before.before.before.before.before.before.before.before.before.before.before.before.before.args.members.now c.before.before.before.before.before.before.before.before.before.before.before.before.before.before.before.before.args.boxes.now))
          c.before.before.before.before.before.before.before.before.before.before.before.before.before.before.before.before.args.a)
          c.before.before.before.before.before.before.before.before.before.before.before.before.before.before.before.before.args.a.least
          c.before.before.before.before.before.before.before.before.before.before.before.before.before.before.before.before.args.r.z
          l.bx l.by l.left (l.top - 1) l.ax l.ay l.top (omega arith) l.invariant.1 h _ _ l.invariant.0),
      rw c.first_half-half.ensures (split_stacked (clear (height_under (index_of
          c.before.before.before.before.before.before.before.before.before.before.before.before.before.before.before.before.args.mesh.now
          c.before.before.before.before.before.before.before.before.before.before.before.before.before.before.before.before.args.h
          c.before.before.before.before.before.before.before.before.before.before.before.before.before.before.before.before.args.starts.now c.before.before.before.before.before.before.before.before.before.before.before.before.before.before.before.before.args.members.now c.before.before.before.before.before.before.before.before.before.before.before.before.before.before.before.before.args.boxes.now))
          c.before.before.before.before.before.before.before.before.before.before.before.before.before.before.before.before.args.a)
          c.before.before.before.before.before.before.before.before.before.before.before.before.before.before.before.before.args.a.least
          c.before.before.before.before.before.before.before.before.before.before.before.before.before.before.before.before.args.r.z
          l.bx l.by l.left (l.top - 1) l.ax l.ay l.top (omega arith) l.invariant.1 h),
      c.before.before.before.before.judge-j.ensures.2,
      search rules,
      l.invariant.4,
    )

loop-less-2 : tie.Need-loop-top-smaller invariant-loop decreases-loop
loop-less-2 c =
    let l = c.before.before.before.before.before.before.before.before.before.before.loop-top in
    let e : l.top ≡ l.top - 1 + 1 = omega arith in
    let h = takes_less (clear (height_under (index_of c.before.before.before.before.before.before.before.before.before.before.before.before.before.before.before.before.before.before.before.args.mesh.now c.before.before.before.before.before.before.before.before.before.before.before.before.before.before.before.before.before.before.before.args.h c.before.before.before.before.before.before.before.before.before.before.before.before.before.before.before.before.before.before.before.args.starts.now c.before.before.before.before.before.before.before.before.before.before.before.before.before.before.before.before.before.before.before.args.members.now
    c.before.before.before.before.before.before.before.before.before.before.before.before.before.before.before.before.before.before.before.args.boxes.now)) c.before.before.before.before.before.before.before.before.before.before.before.before.before.before.before.before.before.before.before.args.a) c.before.before.before.before.before.before.before.before.before.before.before.before.before.before.before.before.before.before.before.args.a.least c.before.before.before.before.before.before.before.before.before.before.before.before.before.before.before.before.before.before.before.args.r.z l.bx l.by l.left (l.top - 1) l.ax l.ay in
    falls l.bx l.by l.left l.top (l.top - 1) e h

loop-again-2 : tie.Need-loop-top-preserved invariant-loop decreases-loop
loop-again-2 c =
    let l = c.before.before.before.before.before.before.before.before.before.before.loop-top in
    let s = c.before.before.before.before.before.before.before.before.before.before.before.before.before.before.before.before.before.before.before in
    let e : l.top ≡ l.top - 1 + 1 = omega (arith, c.before.before.before.before.before.before.before.before.before.loop-top-test.true) in (
      stack_takes (clear (height_under (index_of s.args.mesh.now s.args.h s.args.starts.now s.args.members.now s.args.boxes.now))
          s.args.a) s.args.a.least s.args.r.z l.bx l.by l.left (l.top - 1) l.ax l.ay (work l.runs l.tally) _ _
          (told c.before.before.before.before.before.before.before ∙ c.before.before.before.before.if-j.false)
          (one_more _ _ _ _ _ _ l.top (l.top - 1) _ _ _ _ e l.invariant.0)
          (c.before.before.take-tally.ensures ∙ ap (λ (b : Bool). taken_by l.runs l.tally
          (record { ax = l.ax; ay = l.ay; bx = num l.bx (l.top - 1); by = num l.by (l.top - 1); z = s.args.r.z }) b)
          c.before.before.before.before.before.before.before.judge-j.ensures.0),
      stacked_less _ _ _ l.top (l.top - 1) (omega arith) l.invariant.1,
      c.before.before.before.before.before.before.before.judge-j.ensures.2,
      search rules,
      search rules,
    )

returns : tie.Need-returns invariant-loop decreases-loop
returns c =
    let l = c.before.loop-top in
    let s = c.before.before.before.before.before.before.before.before.before.before in (
      stack_ends _ _ _ _ _ _ l.top _ _ _ _ (omega arith) l.invariant.0
          ∙ ap (taken_all (work s.args.runs.now s.args.s.tally)) (waiting_first (clear (height_under (index_of s.args.mesh.now s.args.h
          s.args.starts.now s.args.members.now s.args.boxes.now)) s.args.a) s.args.a.least s.args.r _ _ _ refl refl refl),
      l.invariant.2,
      whole _ _ 32 s.args.r,
    )

pub halve_spec : {M : Type 1} → statement M
halve_spec =
    tie.close
    (tie.spec invariant-loop decreases-loop (λ c. search rules) (λ c. search rules) (λ c. search rules) loop-holds (λ c. omega arith)
    (λ c. record { fits = omega (arith, inside c) }) (λ c. omega (arith, inside c, c.before.loop-top.invariant.1.xs))
    (λ c. record { fits = omega (arith, inside c) }) (λ c. omega (arith, inside c, c.before.loop-top.invariant.1.ys))
    (λ c. record { fits = omega (arith, inside c) }) (λ c. omega (arith, inside c, c.before.loop-top.invariant.1.ls))
    judge-requires (λ c κs. tt) (λ c. omega (arith, halved_left c))
    (λ c. record { fits = omega (arith, halved_fits c) })
    (λ c. omega (arith, halved_fits c, c.before.before.before.before.before.before.before.loop-top.invariant.1.ls))
    (λ c. record { fits = omega (arith, halved_fits c) })
    (λ c. omega (arith, halved_fits c, c.before.before.before.before.before.before.before.loop-top.invariant.1.xs))
    (λ c. record { fits = omega (arith, halved_fits c) })
    (λ c. omega (arith, halved_fits c, c.before.before.before.before.before.before.before.loop-top.invariant.1.ys))
    (λ c. omega (arith, halved_left c)) (λ c. record { fits = omega (arith, halved_fits c) }) (λ c. omega (arith, halved_fits c))
    (λ c. omega (arith, halved_fits c)) loop-less loop-again (λ c κs. tt) loop-less-2 loop-again-2 (λ c. c.before.loop-top.invariant.3)
    (λ c. c.before.loop-top.invariant.4) returns)
