use mathlib.Core.Path.{◌≡◌, sym, subst}
use Rattle.capsule.specs.Region.{contact_of, Among}
use Rattle.capsule.specs.Candidates.{candidates, highest_in}
use Rattle.capsule.proofs.Answers.{highest_among}
use Rattle.capsule.proofs.found_in.Statement.{statement}
use Rattle.capsule.proofs.found_in.Tie as tie

same : (c : tie.After-found_from) → let a = c.before.args in contact_of c.found_from.result ≡ highest_in a.k a.t
unfolding contact_of highest_in
same c = c.found_from.ensures

returns : tie.Need-returns
returns c =
    (same c, subst (λ d. Among c.before.args.k (candidates c.before.args.k c.before.args.t) d) (sym (same c)) (highest_among _ _))

pub found_in_spec : {M : Type 1} → statement M
found_in_spec = tie.close (tie.spec (λ c κs. tt) returns)
