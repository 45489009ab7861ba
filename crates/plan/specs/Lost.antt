-- Document 02, request 10: what an accepted plan says of the pieces that its sampled stretches were halved to. Single samples stay outside.
use Rattle.std.specs.Prelude.{true, List, [], ◌≡◌, Float, replicate}
use Rattle.std.specs.Float.Ieee.{le}
use Rattle.numbers.specs.Reals.{◌⊕◌, f0}
use Rattle.grid.specs.Index.{Index}
use Rattle.ask.specs.Ask.{Answer}
use Rattle.height.specs.Sweep.{sweep}
use Rattle.height.specs.Height.{max_height_of}
use Rattle.fives.specs.Groups.{Each}
use Rattle.runs.specs.declared.Run.{Run}
use Rattle.runs.specs.Runs.{joined_of}
use Rattle.runs.specs.Pieces.{Piece, kept_of, dropped_by}
use Rattle.runs.specs.Chains.{first_of, last_of, Chained, EachKept, LieIn, MadeOf}
use Rattle.rows.specs.declared.Axis.{Axis}
use Rattle.parameters.specs.declared.Parameters.{Parameters}
use Rattle.probe.specs.Probe.{height_under}
use Rattle.row_runs.specs.Sampled.{levels_sampled, halves_of, halves_of_all}
use Rattle.plan.specs.Plan.{Planned, levels_under, found_on}

module _ (ix : Index) where
  -- A swept-disk question of its own: along a run, with the radius of the index, wiped marks and stamp 0.
  unfoldable pub asked_again : Run → Answer
  asked_again q = (max_height_of ix (replicate ix.header.n 0) 0 (sweep q.ax q.ay q.bx q.by ix.header.r)).answer

  -- A run under which the part nowhere stands above its z + tolerance: the disk's height there says so, and so does `max_height`, which takes the question.
  pub record Safe (tolerance : Float) (q : Run) : Type 0 where
    pub height : le (height_under ix q) (q.z ⊕ tolerance) ≡ true
    pub again : ((asked_again q).refusal ≡ 0) × (le (asked_again q).height (q.z ⊕ tolerance) ≡ true)

  module _ (p : Parameters) (axis : Axis) where
    -- The sampled stretches of the plan, in the order walked.
    unfoldable pub stretches_on : List Run
    stretches_on = (levels_sampled (height_under ix) p axis ix.header.r (record { rows = 0; stretches = [] }) (levels_under ix p)).stretches

    -- Its pieces, kept and dropped, in the order made.
    abbrev pub pieces_on : List Piece
    pieces_on = (found_on ix p axis (levels_under ix p)).pieces

    -- The pieces that a stretch is halved to.
    abbrev pub halves_on : Run → List Piece
    halves_on s = halves_of (height_under ix) p ix.header.r s

    -- Nothing is lost between the halves, in a plan that answers a:
    --   pieces   the pieces are those of the sampled stretches, one stretch after the other;
    --   chained  those of a stretch begin at its first point, end at its last, and each begins at the very point where the one before it ended;
    --   kept     each kept one is safe, asked again;
    --   dropped  the dropped length is the sum of the dropped ones' lengths, from +0.0, in that order;
    --   joined   every kept one lies in one run of the answer;
    --   runs     so each run of the answer is made of kept ones that touch, and each of these is safe, asked again.
    pub record NothingLost (a : Planned) : Type 0 where
      pub pieces : pieces_on ≡ halves_of_all (height_under ix) p ix.header.r stretches_on
      pub chained : (s : Run) → Chained (first_of s) (halves_on s) (last_of s)
      pub kept : EachKept (Safe p.tolerance) pieces_on
      pub dropped : a.dropped ≡ dropped_by f0 pieces_on
      pub joined : LieIn (kept_of pieces_on) (joined_of (kept_of pieces_on))
      pub runs : Each (MadeOf (Safe p.tolerance)) (joined_of (kept_of pieces_on))
