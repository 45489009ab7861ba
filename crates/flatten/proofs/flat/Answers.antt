-- What stands in the table before a turn, and after it, when one section more is copied.
use Rattle.std.proofs.Common.{ℕ, ◌≡◌, ◌<◌, ◌+◌, ◌*◌, take, sym, ap, refl, ◌∙◌, arith, add-one, length}
use mathlib.Core.List.{List, ◌++◌}
use lib.Ieee.{Float}
use native.Mathlib.Nat.{le_antisymm}
use Rattle.section.specs.declared.Section.{Section}
use Rattle.flatten.specs.Flat.{flat_of, held_in, copied_of, four}
use Rattle.flatten.proofs.Flattening.{flat_more, copied_few, copied_there, holds_none}
use Rattle.flatten.proofs.flat.Goals as goal

-- the next section stands in the slice
there : (c : goal.In-loop-i) → (c.loop-i.i < length c.args.sections.now) × (c.loop-i.i < 32)
there c = (
  omega (arith, c.copied-n.ensures, copied_there (length c.args.sections.now)),
  omega (arith, c.copied-n.ensures, copied_few (length c.args.sections.now)),
)

pub loop-i-init : goal.loop-i-init
loop-i-init c = (holds_none _ c.args.sections.now c.empty-t.ensures.none, c.empty-t.ensures.room, c.empty-t.ensures.none, omega arith)

pub at-s-requires : goal.at-s-requires
at-s-requires c = (there c).0

pub push-t-requires : goal.push-t-requires
push-t-requires c = (c.loop-i.invariant.1, omega (arith, copied_few (length c.args.sections.now), c.copied-n.ensures, c.loop-i.invariant, c.loop-i-test.true))

pub loop-i-preserved : goal.loop-i-preserved
loop-i-preserved c =
    let ss = c.args.sections.now in
    let k : c.loop-i.i < length ss = omega (arith, c.copied-n.ensures, copied_there (length ss), c.loop-i-test.true) in (
      rw (add-one c.loop-i.i) (c.push-t.ensures.held ∙ ap (λ (r : List Float). r ++ four c.at-s.result) c.loop-i.invariant.0
          ∙ ap (λ (s : Section). flat_of (take c.loop-i.i ss) ++ four s) c.at-s.ensures ∙ sym (flat_more ss c.loop-i.i k)),
      c.push-t.ensures.room,
      omega (arith, c.push-t.ensures.more, c.loop-i.invariant),
      omega arith,
    )

pub returns : goal.returns
returns c =
    let ss = c.args.sections.now in
    let e : c.loop-i.i ≡ copied_of (length ss) = omega (arith, c.copied-n.ensures, c.loop-i.invariant, c.loop-i-test.false) in (
      omega (arith, copied_few (length ss), c.copied-n.ensures, c.loop-i.invariant),
      c.loop-i.invariant.0 ∙ ap (λ (n : ℕ). flat_of (take n ss)) e,
    )
