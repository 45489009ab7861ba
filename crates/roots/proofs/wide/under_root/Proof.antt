-- `under_root` meets its contract: by cases of w.
use Rattle.std.proofs.Common.{◌≡◌, ℕ, ◌+◌, ◌*◌, ◌^◌, ◌<◌, arith, lit<}
use Rattle.roots.proofs.wide.under_root.Statement.{statement}
use Rattle.roots.proofs.wide.under_root.Tie as tie

returns : tie.Need-returns-then-w-ne0
returns c = let w = c.before.args.w in (wider w c.before.requires.0, lit< tt, ((λ e. absurd (c.if-w-ne0.true e)), (λ z. eight w)))
  where
    wider : (w : ℕ) → w < 2 ^ 54 → w < 2 ^ 55
    wider w h = omega arith

    eight : (w : ℕ) → w * 2 ^ 55 + 0 ≡ 8 * (w * 2 ^ 52)
    eight w = omega arith

returns-2 : tie.Need-returns
returns-2 c = let r = c.sum.ensures in (r.0, r.1, ((λ e. r.2), (λ z. absurd (none _ c.before.if-w-ne0.false z))))
  where
    none : (w : ℕ) → w ≡ 0 → 0 < w → ⊥
    none w e h = omega arith

pub under_root_spec : {M : Type 1} → statement M
under_root_spec = tie.close (tie.spec returns (λ c κs. (c.before.requires.1, c.before.requires.2, c.before.requires.3)) returns-2)
