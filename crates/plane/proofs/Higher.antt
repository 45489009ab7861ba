-- The order in which heights take each other's place, on all floats: a height that was taken or passed over once is passed over ever after.
use Rattle.std.specs.Prelude.{None, Option, Some}
use mathlib.Core.Bool.{true, false, cond}
use mathlib.Core.Path.{◌≡◌, sym, ◌∙◌}
use lib.Dec.{not_T}
use lib.Ieee.{Float, lt, is_nan}
use lib.Ieee.Bits.{is_true, is_false}
use Rattle.rules.proofs.Branches.{either, by_test, no}
use Rattle.order.proofs.Strict.{lt_goes_on, lt_never_same, lt_number}
use Rattle.plane.specs.declared.Touch.{Touch}
use Rattle.plane.specs.declared.Contact.{Contact}
use Rattle.plane.specs.Contacts.{exceeds_of, take_of, at_height}

never : (x y : Float) → (lt x y ≡ true → ⊥) → lt x y ≡ false
never x y h = is_false (lt x y) (not_T (lt x y) (λ g. h (is_true (lt x y) g)))

-- beside a number the order decides, beside a NaN every number
beside_number : (z b : Float) → is_nan b ≡ false → exceeds_of z b ≡ lt b z
unfolding exceeds_of
beside_number z b n = rw n

beside_nan : (z b : Float) → is_nan b ≡ true → exceeds_of z b ≡ cond (is_nan z) false true
unfolding exceeds_of
beside_nan z b n = rw n

-- a NaN takes no place
nan_waits : (z b : Float) → is_nan z ≡ true → exceeds_of z b ≡ false
unfolding exceeds_of
nan_waits z b n =
    either (λ e. e ≡ false) (is_nan b) (cond (is_nan z) false true) (lt b z)
    (λ _. rw n)
    (λ _. never b z (λ l. no (sym (lt_number b z l) ∙ n)))

-- nor does a height take its own
pub same_waits : (z : Float) → exceeds_of z z ≡ false
unfolding exceeds_of
same_waits z =
    either (λ e. e ≡ false) (is_nan z) (cond (is_nan z) false true) (lt z z)
    (λ n. rw n)
    (λ _. never z z (lt_never_same z))

-- z waits beside b, and w takes b's place: z waits beside w
pub still_waits : (b z w : Float) → exceeds_of z b ≡ false → exceeds_of w b ≡ true → exceeds_of z w ≡ false
still_waits b z w h l =
    by_test (is_nan z)
    (λ m. nan_waits z w m)
    (λ m. by_test (is_nan b)
    (λ n. absurd (no (sym h ∙ (beside_nan z b n ∙ rw m))))
    (λ n. let up = sym (beside_number w b n) ∙ l in
    beside_number z w (lt_number b w up) ∙ never w z (λ g. no (sym h ∙ (beside_number z b n ∙ lt_goes_on b w z up g)))))

-- taking z again would change nothing, whatever it touches
abbrev pub Settled : Option Contact → Float → Type 0
Settled None z = ⊥
Settled (Some m) z = exceeds_of z m.height ≡ false

pub settles : (c : Option Contact) (z : Float) (t : Touch) → Settled (take_of c z t) z
unfolding take_of
settles None z t = same_waits z
settles (Some m) z t = either (λ d. Settled d z) (exceeds_of z m.height) (at_height z t) (at_height m.height m.touch) (λ _. same_waits z) (λ e. e)

pub stays : (c : Option Contact) (z w : Float) (t : Touch) → Settled c z → Settled (take_of c w t) z
unfolding take_of
stays None z w t h = absurd h
stays (Some m) z w t h = either (λ d. Settled d z) (exceeds_of w m.height) (at_height w t) (at_height m.height m.touch) (λ e. still_waits m.height z w h e) (λ _. h)

pub settled : (c : Option Contact) (z : Float) (t : Touch) → Settled c z → take_of c z t ≡ c
unfolding take_of
settled None z t h = absurd h
settled (Some m) z t h = rw h
