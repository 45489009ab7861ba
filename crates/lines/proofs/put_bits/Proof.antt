use native.Mathlib.Omega.{arith}
use borrow.Author.Rules.{rules}
use Prim.Native.Nat.{ℕ}
use mathlib.Core.Path.{ap}
use Rattle.lines.specs.Lines.{spelled, hex_bits}
use Rattle.lines.proofs.Texts.{◌then◌, as_well, reach}
use Rattle.lines.proofs.put_bits.Statement.{statement}
use Rattle.lines.proofs.put_bits.Tie as tie

put-requires : tie.Need-put-requires
put-requires c κs = omega (arith, reach 16 16 16 _ c.before.before.before.spell-p.ensures)

returns : tie.Need-returns
unfolding hex_bits
returns c =
    let v = c.before.before.put.ensures in
    let w = c.before.before.before.before.before.before.spell-p.ensures in
    let e = c.before.before.before.before.before.before.before.bits.ensures in
    (as_well (ap (λ (n : ℕ). spelled 16 16 16 n) e) w then v, omega (arith, v.ends, reach 16 16 16 _ w))

pub put_bits_spec : {M : Type 1} → statement M
put_bits_spec = tie.close (tie.spec (λ c κs. tt) (λ c κs. search rules) put-requires (λ c. search rules) returns)
