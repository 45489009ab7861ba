-- `flatten::copied` meets its contract.
use native.Mathlib.Omega.{arith}
use borrow.Author.Tests.{le-leb, lt-leb}
use Rattle.flatten.specs.Flat.{copied_of}
use Rattle.flatten.proofs.copied.Statement.{statement}
use Rattle.flatten.proofs.copied.Tie as tie

returns : tie.Need-returns-then-n-le32
unfolding copied_of
returns c = rw (le-leb c.before.args.n 32 (omega arith))

returns-2 : tie.Need-returns
unfolding copied_of
returns-2 c = rw (lt-leb c.before.args.n 32 (omega arith))

pub copied_spec : {M : Type 1} → statement M
copied_spec = tie.close (tie.spec returns returns-2)
