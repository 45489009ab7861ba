-- `columns` meets its contract: the sum of the squares is B * 2 ^ 54 and less than 2 ^ 83 more (`Settling.antt`).
use Rattle.std.proofs.Common.{ℕ, ◌+◌, ◌-◌, ◌*◌, ◌^◌, ◌<◌, arith}
use lib.Bits.{bit_and, and_mask}
use Rattle.roots.proofs.Settling.{Columns, columned, columns_settle}
use Rattle.roots.proofs.hypots.columns.Statement.{statement}
use Rattle.roots.proofs.hypots.columns.Tie as tie

parts : (c : tie.Start) → Columns c.args.x c.args.u c.args.f (bit_and c.args.x (2 ^ 27 - 1)) (bit_and c.args.u (2 ^ 27 - 1))
parts c = columned c.args.x c.args.u c.args.f _ _ (and_mask c.args.x 27) (and_mask c.args.u 27) c.requires.0 c.requires.1 c.requires.2

settled-requires : tie.Need-settled-requires
settled-requires c κs =
    let p = parts c in
    (omega (arith, p.xx, p.uu), omega (arith, p.xy, p.uv), omega (arith, p.yy, p.vv, p.uf), c.requires.3, c.requires.4)

returns : tie.Need-returns
returns c = let p = parts c.before in columns_settle _ _ _ c.settled.result p.sum (few _ _ p.vf p.ff) c.settled.ensures
  where
    few : (v f : ℕ) → v < 2 ^ 54 → f < 2 ^ 54 → v * 2 ^ 28 + f < 2 ^ 83
    few v f a b = omega arith

pub columns_spec : {M : Type 1} → statement M
columns_spec =
    tie.close
    (tie.spec
    (λ c. omega (arith, (parts c).xx))
    (λ c. omega (arith, (parts c).uu))
    (λ c. omega (arith, (parts c).xx, (parts c).uu))
    (λ c. omega (arith, (parts c).xy))
    (λ c. omega (arith, (parts c).uv))
    (λ c. omega (arith, (parts c).xy, (parts c).uv))
    (λ c. omega (arith, (parts c).yy))
    (λ c. omega (arith, (parts c).vv))
    (λ c. omega (arith, (parts c).yy, (parts c).vv))
    (λ c. omega (arith, (parts c).uf))
    (λ c. omega (arith, (parts c).uf))
    (λ c. omega (arith, (parts c).yy, (parts c).vv, (parts c).uf))
    settled-requires
    returns)
