-- Beyond r1, which is not below r0, the section has no surface, and a vertex there no candidate.
use Rattle.std.specs.Prelude.{None, Option}
use mathlib.Core.Bool.{true, false}
use mathlib.Core.Path.{◌≡◌, sym, ◌∙◌}
use Prim.Native.Nat.{ℕ}
use lib.Ieee.{Float, binary64, div, lt, le, eq, of_bits}
use lib.Ieee.Fits.{sub-fits}
use lib.Ieee.Bits.{is_true}
use Rattle.numbers.specs.Reals.{◌⊕◌, ◌⊖◌, ◌⊗◌, ◌⊘◌, f0}
use Rattle.roots.specs.Hypot.{hypot_of}
use Rattle.rules.proofs.Branches.{by_test, no, holds}
use Rattle.plane.specs.declared.Contact.{Contact}
use Rattle.above.specs.Above.{offer_of}
use Rattle.bound.specs.Inside.{Beyond as Outside}
use Rattle.order.proofs.Order.{le_trans}
use Rattle.section.specs.declared.Section.{Section}
use Rattle.section.specs.Section.{profile_of, section_under, section_vertex}
use Rattle.section.specs.Inside.{Clear}

out_of : (s : Section) (d : Float) → le s.r0 s.r1 ≡ true → le d s.r1 ≡ false → profile_of s d ≡ None
unfolding profile_of
out_of s d h e =
    by_test (le d s.r0) (λ l. absurd (no (sym e ∙ is_true _ (le_trans d s.r0 s.r1 (holds _ l) (holds _ h))))) (λ l. rw (l, e))

-- ---- as the code has it
pub clear_far : (s : Section) (far : Float) → le s.r0 s.r1 ≡ true → Outside s.r1 far → Clear s far
clear_far s far h b = record { out = λ p q f g k. out_of s (hypot_of p q) h (b.out p q f g k) }

none_reached : (v : Float) → le (f0 ⊘ f0) v ≡ true → ⊥
unfolding of_bits div le lt eq
none_reached v h = no h

pub clear_none : (s : Section) → Clear s (f0 ⊘ f0)
clear_none s = record { out = λ p q f g h. absurd (none_reached _ h) }

pub none_beyond : (s : Section) (far x y : Float) (n : ℕ) (vx vy vz : Float) (c : Option Contact) → Clear s far
    → le far ((vx ⊖ x) ⊗ (vx ⊖ x) ⊕ (vy ⊖ y) ⊗ (vy ⊖ y)) ≡ true → c ≡ offer_of c (section_vertex s x y n vx vy vz)
unfolding section_vertex section_under offer_of
none_beyond s far x y n vx vy vz c b h = rw (b.out (vx ⊖ x) (vy ⊖ y) (sub-fits binary64 vx x) (sub-fits binary64 vy y) h)
