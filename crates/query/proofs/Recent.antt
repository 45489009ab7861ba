-- What is remembered of the members that passed.
use mathlib.Core.Bool.{Bool, true, false}
use mathlib.Core.List.{List}
use mathlib.Core.Path.{◌≡◌, sym, ◌∙◌}
use Prim.Native.Nat.{ℕ, ◌≤◌, ◌<◌}
use native.Mathlib.Omega.{arith}
use borrow.Author.Tests.{eqb-true, eqb-false, le-ltb}
use lib.Dec.{eqb}
use lib.Ieee.{Float}
use lib.ListN.{get_or, set, replicate, length-set, length-replicate, get_or-replicate}
use lib.Seq.{get_or-set_same, get_or-set_other}
use Rattle.rules.proofs.Branches.{by_test}
use Rattle.query.specs.Usable.{member_usable}
use Rattle.query.specs.Inside.{Tested}

module _ (test : ℕ → Bool) where
  -- none at the start
  pub none_tested : Tested test (replicate 1024 65535)
  none_tested =
      record {
        size = length-replicate {A = ℕ} 1024 65535;
        each = λ k h below. absurd (omega (arith, get_or-replicate {A = ℕ} 1024 k 65535 0 h));
      }

  -- one more
  pub tested_more : (recent : List ℕ) (k i : ℕ) → k < 1024 → test i ≡ true → Tested test recent → Tested test (set recent k i)
  tested_more recent k i h t r =
      record {
        size = length-set recent k i ∙ r.size;
        each = λ j l below.
            by_test (eqb j k)
            (λ e.
            let q : j ≡ k = eqb-true j k e in
            let g : get_or (set recent k i) j 0 ≡ i = rw q (get_or-set_same recent k i 0 (omega (arith, r.size))) in
            rw g t)
            (λ e.
            let g : get_or (set recent k i) j 0 ≡ get_or recent j 0 = get_or-set_other recent k j i 0 (eqb-false j k e) in
            rw g (r.each j l (rw g at below)));
      }

  -- one that is remembered passed
  pub tested_there : (recent : List ℕ) (k i : ℕ) → k < 1024 → i < 65535 → get_or recent k 0 ≡ i → Tested test recent → true ≡ test i
  tested_there recent k i h l e r = sym (rw e at (r.each k h (rw e l)))

-- a number that is no triangle's does not pass
pub not_below_lem : (mesh boxes : List Float) (n : ℕ) (marks : List ℕ) (stamp i : ℕ) → n ≤ i → false ≡ member_usable mesh boxes n marks stamp i
unfolding member_usable
not_below_lem mesh boxes n marks stamp i h = rw (le-ltb i n h)
