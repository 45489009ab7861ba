-- `hypot` meets its contract: where neither is a NaN, the bits without the sign tell the magnitudes (`Sized.antt`).
use Rattle.std.proofs.Common.{◌≡◌, ℕ, ◌-◌, ◌^◌, ◌≤◌, min, max, T, sym, ap, ◌∙◌, subst, arith}
use lib.Bits.{bit_and}
use lib.Ieee.{Float, binary64, to_bits}
use Rattle.numbers.proofs.Patterns.{no_nan}
use Rattle.roots.specs.Inside.{infinite_bits, of_sizes}
use Rattle.rules.proofs.Branches.{nan_taken}
use Rattle.roots.proofs.Sums.{one_nan, first_number, second_number}
use Rattle.roots.proofs.Sized.{Magnitude, magnitude, sizes, most, hypot_nan}
use Rattle.roots.proofs.hypot.Statement.{statement}
use Rattle.roots.proofs.hypot.Tie as tie

abbrev size : Float → ℕ
size x = bit_and (to_bits binary64 x) (2 ^ 63 - 1)

returns : tie.Need-returns-then-z
returns c = let s = c.before.before in
    hypot_nan s.args.x s.args.y _ (one_nan s.args.x s.args.y (nan_taken _ c.before.if-z.true)) c.hypot_of_nan.ensures

first : (c : tie.Else-z) → Magnitude c.before.args.x (size c.before.args.x)
first c = magnitude c.before.args.x (subst T (sym c.before.well_formed.0.1) tt) (first_number c.before.args.x c.before.args.y c.if-z.false)

second : (c : tie.Else-z) → Magnitude c.before.args.y (size c.before.args.y)
second c = magnitude c.before.args.y (subst T (sym c.before.well_formed.1.0.1) tt) (second_number c.before.args.x c.before.args.y c.if-z.false)

of_sizes-requires : tie.Need-of_sizes-requires
of_sizes-requires c κs =
    let e = c.before.before in
    let x = e.before.args.x in
    let y = e.before.args.y in
    let b = both _ _ (size x) (size y) c.before.larger.ensures c.smaller.ensures (most x y (size x) (size y) (first e))
    (most y x (size y) (size x) (second e)) in
    (b.0, b.1, no_nan _ e.if-z.false)
  where
    both : (l s a b : ℕ) → l ≡ max a b → s ≡ min a b → a ≤ infinite_bits → b ≤ infinite_bits → (s ≤ l) × (l ≤ infinite_bits)
    both l s a b e f h k = (omega arith, omega arith)

returns-2 : tie.Need-returns
returns-2 c =
    let e = c.before.before.before in
    let x = e.before.args.x in
    let y = e.before.args.y in
    c.of_sizes.ensures
    ∙ ap (λ (z : ℕ). of_sizes z c.before.smaller.result) c.before.before.larger.ensures
    ∙ ap (λ (z : ℕ). of_sizes (max (size x) (size y)) z) c.before.smaller.ensures
    ∙ sym (sizes x y (size x) (size y) (first e) (second e))

pub hypot_spec : {M : Type 1} → statement M
hypot_spec =
    tie.close
    (tie.spec
    (λ c κs. tt)
    returns
    (λ c. first_number c.before.args.x c.before.args.y c.if-z.false)
    (λ c. second_number c.before.args.x c.before.args.y c.if-z.false)
    (λ c κs. tt)
    (λ c κs. tt)
    of_sizes-requires
    returns-2)
