use native.Mathlib.Omega.{arith}
use borrow.Author.Rules.{rules}
use Rattle.sheet.specs.Sheet.{listed, sections_of}
use Rattle.sheet.proofs.Lists.{sections_length, placed_then}
use Rattle.sheet.proofs.put_all.Statement.{statement}
use Rattle.sheet.proofs.put_all.Tie as tie

put-requires : tie.Need-put-i-requires
put-requires c κs = let a = c.before.before.before.args in omega (arith, sections_length a.b a.holders.now)

put-requires-2 : tie.Need-put-j-requires
put-requires-2 c κs = let a = c.before.before.before.before.before.before.before.args in omega (arith, sections_length a.b a.holders.now)

put-requires-3 : tie.Need-put-k-requires
put-requires-3 c κs = let a = c.before.before.before.before.before.before.before.before.before.before.before.args in
    omega (arith, sections_length a.b a.holders.now)

put_holders-requires : tie.Need-put_holders-requires
put_holders-requires c κs = let a =
    c.before.before.before.before.before.before.before.before.before.before.before.before.before.before.before.args in
    omega (arith, sections_length a.b a.holders.now)

returns : tie.Need-returns
unfolding sections_of
returns c =
    let a = c.before.before.before.before.before.before.before.before.before.before.before.before.before.before.before.before.before.before.args in
    let h = c.before.before in
    let k = h.before.before.before.before in
    let j = k.before.before.before.before in
    let i = j.before.before.before.before in
    let n = sections_length a.b a.holders.now in (
      omega (arith, n),
      placed_then (listed a.b.end) 0 _ (omega (arith, n)) _ _ _ _ i.put-i.ensures.0 i.put-i.ensures.1
          (placed_then (listed a.b.cut) _ _ (omega (arith, n)) _ _ _ _ j.put-j.ensures.0 j.put-j.ensures.1
          (placed_then (listed a.b.neck) _ _ (omega (arith, n)) _ _ _ _ k.put-k.ensures.0 k.put-k.ensures.1 h.put_holders.ensures.1)),
    )

pub put_all_spec : {M : Type 1} → statement M
put_all_spec = tie.close (tie.spec put-requires put-requires-2 put-requires-3 put_holders-requires (λ c. search rules) returns)
