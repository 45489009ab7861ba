-- `spans::whole` meets its contract.
use Rattle.std.proofs.Common.{arith}
use Rattle.spans.proofs.Nearby.{whole_fits, whole_past, whole_same}
use Rattle.spans.proofs.whole.Statement.{statement}
use Rattle.spans.proofs.whole.Tie as tie

float_to_int-k : tie.Need-float_to_int-k
float_to_int-k c = let s = c.before in whole_fits s.args.x s.requires.0 s.requires.1

sub-result : tie.Need-overflow_sub-result
sub-result c = let s = c.before.before in omega (arith, whole_past s.args.x s.requires.0 s.requires.1 c.if-x-n.true)

cast-result : tie.Need-overflow_cast-result
cast-result c = let s = c.before.before in omega (arith, whole_past s.args.x s.requires.0 s.requires.1 c.if-x-n.true)

returns : tie.Need-returns-then-x-n
returns c = let s = c.before.before in omega (arith, whole_past s.args.x s.requires.0 s.requires.1 c.if-x-n.true)

cast-result-2 : tie.Need-overflow_cast-result-2
cast-result-2 c = let s = c.before.before in omega (arith, whole_same s.args.x s.requires.0 s.requires.1 c.if-x-n.false)

returns-2 : tie.Need-returns
returns-2 c = let s = c.before.before in whole_same s.args.x s.requires.0 s.requires.1 c.if-x-n.false

pub whole_spec : {M : Type 1} → statement M
whole_spec = tie.close (tie.spec float_to_int-k sub-result cast-result returns cast-result-2 returns-2)
