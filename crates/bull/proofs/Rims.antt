-- Beyond the rim there is no candidate of a vertex.
use Rattle.std.specs.Prelude.{Option}
use mathlib.Core.Bool.{true}
use mathlib.Core.Path.{◌≡◌}
use Prim.Native.Nat.{ℕ}
use lib.Ieee.{Float, binary64, le}
use lib.Ieee.Fits.{sub-fits}
use Rattle.numbers.specs.Reals.{◌⊕◌, ◌⊖◌, ◌⊗◌}
use Rattle.plane.specs.declared.Contact.{Contact}
use Rattle.above.specs.Above.{offer_of}
use Rattle.bound.specs.Inside.{Beyond}
use Rattle.bull.specs.declared.Bull.{Bull}
use Rattle.bull.specs.Bull.{bull_over, bull_vertex}

pub none_beyond : (k : Bull) (far : Float) (n : ℕ) (x y z : Float) (c : Option Contact) → Beyond k.r far
    → le far ((x ⊖ k.x) ⊗ (x ⊖ k.x) ⊕ (y ⊖ k.y) ⊗ (y ⊖ k.y)) ≡ true → c ≡ offer_of c (bull_vertex k n x y z)
unfolding bull_vertex bull_over offer_of
none_beyond k far n x y z c b h = rw (b.out (x ⊖ k.x) (y ⊖ k.y) (sub-fits binary64 x k.x) (sub-fits binary64 y k.y) h)
