-- The kind bytes before move t are known: what the search finds from t on is what it finds from the first move on.
use mathlib.Core.Path.{◌≡◌}
use Prim.Native.Nat.{◌+◌, ◌-◌, ◌*◌, ◌≤◌}
use native.Mathlib.Nat.{sub-zero}
use native.Mathlib.Omega.{arith}
use borrow.Author.Rules.{rules}
use Rattle.fields.proofs.Bytes.{value_byte}
use Rattle.paths.specs.Reader.{unknown_among}
use Rattle.paths.proofs.Unknown.{unknown_stops, unknown_goes, unknown_ends}
use Rattle.paths.proofs.unknown_among.Statement.{statement}
use Rattle.paths.proofs.unknown_among.Tie as tie

abbrev invariant-loop : tie.invariant-loop-t
invariant-loop bytes n t₀ t = (unknown_among bytes t (n - t) ≡ unknown_among bytes 0 n) × (t ≤ n)

abbrev decreases-loop : tie.decreases-loop-t
decreases-loop bytes n t₀ t = n - t

loop-holds : tie.Need-loop-t-init invariant-loop decreases-loop
loop-holds c = (rw sub-zero, search rules)

returns : tie.Need-returns-then-bytes-t-gt1 invariant-loop decreases-loop
returns c =
    let d = c.before.before in
    let e = value_byte d.before.before.args.bytes.now (34 + 25 * d.before.loop-t.t) (omega arith) in
    unknown_stops _ _ d.before.loop-t.t _ d.before.loop-t.invariant.0 d.loop-t-test.true (rw e c.if-bytes-t-gt1.true)

loop-again : tie.Need-loop-t-preserved invariant-loop decreases-loop
loop-again c =
    let d = c.before.before in
    let e = value_byte d.before.before.args.bytes.now (34 + 25 * d.before.loop-t.t) (omega arith) in
    (unknown_goes _ _ d.before.loop-t.t _ d.before.loop-t.invariant.0 d.loop-t-test.true (rw e (omega (arith, c.if-bytes-t-gt1.false))), omega arith)

returns-2 : tie.Need-returns invariant-loop decreases-loop
returns-2 c = unknown_ends _ _ c.before.loop-t.t _ c.before.loop-t.invariant.0 (omega arith)

pub unknown_among_spec : {M : Type 1} → statement M
unknown_among_spec = tie.close (tie.spec invariant-loop decreases-loop loop-holds (λ c. omega arith) (λ c. omega arith) (λ c. omega arith) returns (λ c. omega arith)
    (λ c. omega arith) loop-again returns-2)
