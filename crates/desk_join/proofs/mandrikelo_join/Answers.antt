use Rattle.std.proofs.Common.{ℕ, ◌≡◌, sym, ap, subst, ◌∙◌, Result, Ok, Err, [], ◌∷◌}
use Rattle.std.specs.Result.{result_unwrap_or}
use Rattle.refusals.specs.declared.Refusal.{Refusal}
use Rattle.refusals.specs.Numbers.{code_of}
use Rattle.join.specs.Join.{Joined, told, outcome}
use Rattle.join.specs.Law.{HandedOn}
use Rattle.desk_join.specs.Joins.{joined_from, join_left_by}
use Rattle.desk_join.proofs.mandrikelo_join.Goals as goal

-- what C is answered tells what the library answered
as_told : (a : Result ℕ Refusal) (k n : ℕ) → k ≡ code_of a → n ≡ result_unwrap_or a 0 → joined_from k (n ∷ []) ≡ told a
unfolding told code_of
as_told (Ok m) k n p q = rw (p, q)
as_told (Err r) k n p q = rw (p, q)

pub returns : goal.returns
unfolding join_left_by
returns c =
    let q = c.join-joined.ensures in
    let e = as_told _ _ _ c.code_of-refusal.ensures c.unwrap_or-n.ensures in
    record {
      count_after = ap (λ (a : Joined). join_left_by (outcome a c.join-joined.new.runs)) e ∙ ap join_left_by q.runs_after;
      handed_on = subst (λ (a : Joined). HandedOn c.args.runs.now (outcome a c.join-joined.new.runs)) (sym e) q.handed_on;
      whenever_joined = q.whenever_joined;
    }
