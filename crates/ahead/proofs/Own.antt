-- A contact that is above where its candidates began is the triangle's own, wherever they began.
use Rattle.std.specs.Prelude.{Option}
use mathlib.Core.Bool.{true, false}
use mathlib.Core.Path.{◌≡◌, refl, sym, ◌∙◌}
use lib.Dec.{T}
use lib.Ieee.{Float, nan, inf, fin, binary64, div, lt, le, fits, is_nan, of_bits}
use Rattle.numbers.specs.Reals.{f0}
use Rattle.rules.proofs.Branches.{both_true, no}
use Rattle.plane.specs.declared.Triangle.{Triangle}
use Rattle.plane.specs.declared.Contact.{Contact}
use Rattle.plane.specs.Contacts.{exceeds_of}
use Rattle.above.specs.Above.{offer_of, so_far}
use Rattle.above.specs.Inside.{touches_of}
use Rattle.above.proofs.Above.{own}
use Rattle.golden.specs.Upper.{minus_infinity}
use Rattle.tops.specs.Inside.{is_start}
use Rattle.bull.specs.declared.Bull.{Bull}
use Rattle.bull.specs.Bull.{bull_contact_above, bull_contact}
use Rattle.bull.specs.Inside.{base_of}
use Rattle.ahead.specs.Inside.{begins_at}
use Rattle.ahead.proofs.Under.{begun, number}
use Rattle.ahead.proofs.Parted.{apart_same}

-- nothing lies under minus infinity
least_waits : (f : Float) → is_nan f ≡ false → exceeds_of minus_infinity f ≡ false
unfolding of_bits div exceeds_of lt is_nan
least_waits nan n = absurd (no (sym n))
least_waits (inf true) n = refl
least_waits (inf false) n = refl
least_waits (fin s m e) n = refl

pub own_contact : (t : Triangle) (k : Bull) (f : Float) (r : Option Contact) → T (fits binary64 k.rc) → begins_at t k f ≡ true
    → r ≡ offer_of (so_far f) (bull_contact_above t k f) → touches_of r ≡ true → r ≡ bull_contact t k
unfolding begins_at bull_contact
own_contact t k f r fit h e w =
    let p = both_true (is_start f) _ h in
    let q = both_true (le f0 (base_of k)) _ p.1 in
    let b = begun f p.0 in
    let same = apart_same f b k q.0 fit t q.1 minus_infinity (least_waits f (number f b)) in
    own f _ r (e ∙ sym same) w
