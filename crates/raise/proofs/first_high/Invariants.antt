-- What is left of the raised mesh is searched as the whole is.
use Rattle.std.proofs.Common.{◌≡◌, drop}
use Rattle.spans.specs.Mesh.{first_bad}
use Rattle.spans.proofs.Searching.{bad_from}
use Rattle.raise.specs.Raise.{lifted, lifted_from}
use Rattle.raise.proofs.first_high.Given as goal

abbrev pub invariant-loop-k : goal.invariant-loop-k
invariant-loop-k l = bad_from l.k (lifted_from l.amount l.k (drop l.k l.mesh)) ≡ first_bad (lifted l.amount l.mesh)
