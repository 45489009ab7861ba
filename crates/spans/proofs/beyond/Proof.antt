-- `spans::beyond` meets its contract.
use Rattle.std.proofs.Common.{◌≡◌, false, ap, ◌∙◌}
use mathlib.Core.Path.{subst⁻¹}
use lib.Ieee.{Float, is_nan, neg}
use Rattle.numbers.specs.Reals.{max_of}
use Rattle.spans.proofs.Plain.{larger_not_nan, beyond_is}
use Rattle.spans.proofs.beyond.Statement.{statement}
use Rattle.spans.proofs.beyond.Tie as tie

higher-requires-2 : tie.Need-higher-requires-2
higher-requires-2 c κs =
    let s = c.before in
    subst⁻¹ (λ (v : Float). is_nan v ≡ false) c.higher.ensures (larger_not_nan _ _ s.requires.0 s.requires.1).1

returns : tie.Need-returns
returns c =
    let s = c.before.before in
    c.higher-2.ensures ∙ ap (λ (v : Float). max_of v (neg s.args.x)) c.before.higher.ensures ∙ beyond_is _ _ s.requires.0 s.requires.1

pub beyond_spec : {M : Type 1} → statement M
beyond_spec = tie.close (tie.spec (λ c κs. (larger_not_nan _ _ c.requires.0 c.requires.1).0) higher-requires-2 returns)
