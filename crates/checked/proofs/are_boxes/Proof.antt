-- `checked::are_boxes` meets its contract. At triangle i the boxes before it are right. What is left of the triangles falls.
use Prim.Native.Nat.{ℕ, ◌-◌, ◌≤◌, ◌<◌}
use mathlib.Core.Path.{◌≡◌, refl, sym, ◌∙◌}
use native.Mathlib.Omega.{arith}
use borrow.Author.Tests.{not-true, not-false}
use Rattle.spans.specs.Mesh.{box_of}
use Rattle.grid.specs.Boxes.{box_at}
use Rattle.checked.proofs.Comparing.{tells_true, tells_false, fails, all_more, boxes_are, boxes_each}
use Rattle.checked.proofs.are_boxes.Statement.{statement}
use Rattle.checked.proofs.are_boxes.Tie as tie

abbrev invariant-loop : tie.invariant-loop-i
invariant-loop mesh n boxes i₀ i = ((k : ℕ) → k < i → box_at boxes k ≡ box_of mesh k) × (i ≤ n)

abbrev decreases-loop : tie.decreases-loop-i
decreases-loop mesh n boxes i₀ i = n - i

box_of-requires : tie.Need-box_of-requires invariant-loop decreases-loop
box_of-requires c κs = let s = c.before.before.before.before.before in (omega (arith, s.requires), s.requires.2)

returns : tie.Need-returns-then-not-same_box invariant-loop decreases-loop
returns c =
    let s = c.before.before.before.before.before.before.before.before in
    let i = c.before.before.before.before.before.loop-i.i in
    let a = c.before.before.before.box_at.ensures in
    let b = c.before.before.box_of.ensures in
    tells_false _ refl
    (λ p. fails _ c.before.same_box.ensures (c.if-not-same_box.true) (a
    ∙ boxes_each s.args.mesh.now s.args.boxes.now s.args.n s.requires.1 p i (omega arith) ∙ sym b))

loop-again : tie.Need-loop-i-preserved invariant-loop decreases-loop
loop-again c =
    let s = c.before.before.before.before.before.before.before.before in
    let l = c.before.before.before.before.before.loop-i in
    let a = c.before.before.before.box_at.ensures in
    let b = c.before.before.box_of.ensures in (
      all_more (λ (k : ℕ). box_at s.args.boxes.now k ≡ box_of s.args.mesh.now k) l.i l.invariant.0 (sym a
          ∙ c.before.same_box.ensures.0 (c.if-not-same_box.false) ∙ b),
      omega arith,
    )

returns-2 : tie.Need-returns invariant-loop decreases-loop
returns-2 c =
    let s = c.before.before.before.before in
    let l = c.before.loop-i in
    tells_true _ refl (boxes_are _ _ _ s.requires.1 (λ i h. l.invariant.0 i (omega arith)))

pub are_boxes_spec : {M : Type 1} → statement M
are_boxes_spec =
    tie.close
    (tie.spec invariant-loop decreases-loop (λ c. (λ k h. absurd (omega arith), omega arith))
    (λ c κs. omega (arith, c.before.before.before.before.requires)) box_of-requires (λ c κs. tt)
    returns (λ c. omega arith) (λ c. omega arith) loop-again returns-2)
