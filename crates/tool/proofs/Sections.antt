-- The loops over a tool's sections: one section more.
use Rattle.std.specs.Prelude.{Option}
use mathlib.Core.Bool.{Bool, not}
use mathlib.Core.List.{List}
use mathlib.Core.Path.{◌≡◌, ap, ◌∙◌}
use Prim.Native.Nat.{ℕ, ◌+◌, ◌-◌}
use native.Mathlib.Numerals.{add-one}
use native.Mathlib.Omega.{arith}
use lib.Ieee.{Float}
use Rattle.numbers.specs.Reals.{max_of, min_of}
use Rattle.plane.specs.declared.Triangle.{Triangle}
use Rattle.plane.specs.declared.Bounds.{Bounds}
use Rattle.plane.specs.declared.Contact.{Contact}
use Rattle.reach.specs.declared.Chord.{Chord}
use Rattle.section.specs.declared.Section.{Section}
use Rattle.section.specs.Section.{valid_section, section_contact}
use Rattle.section_gap.specs.Blocks.{section_blocks}
use Rattle.above.specs.Above.{offer_of, so_far}
use Rattle.plane.specs.declared.Best.{Best}
use Rattle.rules.specs.Every.{every}
use Rattle.plane.specs.Contacts.{raised_by}
use Rattle.above.proofs.Beside.{raised_beside}
use Rattle.tool.specs.Tool.{section_of, widest_of, lowest_of, raised_over}

module _ (table : List Float) (i : ℕ) (s : Section) (here : s ≡ section_of table i) where
  pub wider : (v r : Float) → v ≡ widest_of table i → r ≡ max_of v s.r1 → r ≡ widest_of table (i + 1)
  unfolding widest_of
  wider v r e p = rw (add-one i, p, e, here)

  pub lower : (v r : Float) → v ≡ lowest_of table i → r ≡ min_of v s.z0 → r ≡ lowest_of table (i + 1)
  unfolding lowest_of
  lower v r e p = rw (add-one i, p, e, here)

  -- its candidates go on from the best so far
  pub higher : (t : Triangle) (n : ℕ) (x y : Float) (best v r : Best) (k o : Option Contact) → v ≡ raised_over t n x y table best i → o ≡ so_far v.height
      → k ≡ offer_of o (section_contact t x y s)
      → r ≡ raised_by k n v → r ≡ raised_over t n x y table best (i + 1)
  unfolding raised_over
  higher t n x y best v r k o e f p q =
      rw (add-one i, ← here, ← e)
      (q ∙ ap (λ d. raised_by d n v) (p ∙ ap (λ d. offer_of d (section_contact t x y s)) f) ∙ raised_beside (section_contact t x y s) n v)

  pub valid_here : (b : Bool) → b ≡ valid_section s → b ≡ valid_section (section_of table i)
  valid_here b e = e ∙ ap valid_section here

  pub blocks_here : (t : Triangle) (m : Chord) (box : Bounds) (b : Bool) → b ≡ section_blocks t box m s → not b ≡ not (section_blocks t box m (section_of table i))
  blocks_here t m box b e = rw (e, here)

-- before the first section, all are left
pub all_left : (test : ℕ → Bool) (n : ℕ) → every test 0 (n - 0) ≡ every test 0 n
all_left test n = let e : n - 0 ≡ n = omega arith in rw e
