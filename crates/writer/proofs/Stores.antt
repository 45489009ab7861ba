-- Stores one after the other are one run of stores.
use mathlib.Core.List.{List, [], ◌∷◌, ◌++◌}
use mathlib.Core.Path.{◌≡◌, ap, sym, ◌∙◌}
use Prim.Native.Nat.{ℕ, suc, ◌+◌, ◌*◌, ◌/◌, ◌%◌, ◌^◌}
use native.Mathlib.Omega.{arith}
use lib.ListN.{length, set}
use lib.Seq.{sets}
use Rattle.writer.specs.Writer.{digits}
use Rattle.writer.proofs.Digits.{digits_length, digits_halves}

-- what is stored behind a run lengthens it
pub sets_more : (l : List ℕ) (i : ℕ) (us : List ℕ) (j : ℕ) (vs : List ℕ) → i + length us ≡ j → sets (sets l i us) j vs ≡ sets l i (us ++ vs)
sets_more l i [] j vs e = let p : j ≡ i = omega arith in rw p
sets_more l i (u ∷ us) j vs e = sets_more (set l i u) (suc i) us j vs (omega arith)

-- the two halves of a number, one behind the other
pub halves : (l : List ℕ) (at a b v : ℕ) → sets (sets l at (digits a (v % 2 ^ (8 * a)))) (at + a) (digits b (v / 2 ^ (8 * a))) ≡ sets l at (digits (a + b) v)
halves l at a b v =
    let x = digits a (v % 2 ^ (8 * a)) in
    let y = digits b (v / 2 ^ (8 * a)) in
    sets_more l at x (at + a) y (ap (λ (n : ℕ). at + n) (digits_length a (v % 2 ^ (8 * a)))) ∙ ap (λ (d : List ℕ). sets l at d) (sym (digits_halves a b v))
