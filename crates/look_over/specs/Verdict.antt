-- Document 02, request 12: what `look_over` answers, and the marks that it leaves.
use Rattle.std.specs.Prelude.{Bool, cond, ◌&&◌, List, ◌≡◌, ℕ, ◌+◌, ◌<◌, eqb, Float, length, replicate, Result, Ok, Err}
use Rattle.std.specs.Float.Ieee.{le}
use Rattle.numbers.specs.Reals.{finest, coarsest}
use Rattle.fields.specs.Little.{value}
use Rattle.grid.specs.Boxes.{is_boxed}
use Rattle.grid.specs.Index.{Index}
use Rattle.rules.specs.Ladder.{demand}
use Rattle.query.specs.Asked.{is_marked}
use Rattle.rules.specs.Every.{every}
use Rattle.query.specs.Usable.{usable_whole}
use Rattle.chords.specs.Chords.{is_end}
use Rattle.tool.specs.Tool.{is_tool}
use Rattle.runs.specs.declared.Run.{Run}
use Rattle.runs.specs.Chains.{EachKept}
use Rattle.rows.specs.declared.Axis.{Axis}
use Rattle.parameters.specs.declared.Parameters.{Parameters}
use Rattle.plan.specs.Plan.{plan_of}
use Rattle.plan.specs.Lost.{pieces_on}
use Rattle.paths.specs.declared.Kind.TheVariants.{Cut}
use Rattle.paths.specs.declared.Point.{Point}
use Rattle.paths.specs.declared.Move.{Move}
use Rattle.paths.specs.Layout.{count}
use Rattle.paths.specs.Reader.{point_of, move_of, moves_of}
use Rattle.paths.specs.Reader as reader
use Rattle.look_over.specs.declared.Fault.{Fault}
use Rattle.look_over.specs.declared.Fault.TheVariants.{Sound, BlockedRapid, ChangedZ, TooDeep}
use Rattle.look_over.specs.declared.Verdict.{Verdict}
use Rattle.look_over.specs.declared.Verdict.TheVariants.{Unsaid, Passes, Fails}
use Rattle.refusals.specs.declared.Refusal.{Refusal}
use Rattle.refusals.specs.Numbers.{number_of}
use Rattle.look_over.specs.Look.{fault_of, verdict_from}

-- ---- what is refused

-- 2: every point has magnitude at most 3e6, and the tolerance is from 1e-7 to 0.01.
unfoldable pub is_place : Point → Bool
is_place p = is_end p.x p.y p.z

unfoldable pub are_places : List ℕ → ℕ → Bool
are_places bytes n = every (λ p. is_place (point_of bytes p)) 0 (n + 1)

unfoldable pub is_tolerance : Float → Bool
is_tolerance t = le finest t && le t coarsest

-- 8 and 7: the sections; the index, every cell and every triangle and no mark
unfoldable pub refusal_of_tool : Index → List Float → ℕ
refusal_of_tool ix table =
    demand (is_tool table) 8
    (demand (usable_whole ix) 7
    0)

-- 1, 23 and 2, then those
unfoldable pub refusal_of_numbers : List ℕ → Index → List ℕ → List Float → Float → ℕ
refusal_of_numbers bytes ix marks table tolerance =
    demand (is_marked ix.mesh marks) 1
    (demand (is_boxed ix.mesh ix.boxes) 23
    (demand (is_tolerance tolerance) 2
    (demand (are_places bytes (value count bytes)) 2
    (refusal_of_tool ix table))))

-- The file's refusals first, then those; 0 for a list that is looked over.
unfoldable pub refusal_of : List ℕ → Index → List ℕ → List Float → Float → ℕ
refusal_of bytes ix marks table tolerance =
    let k = reader.refusal_of bytes in
    cond (eqb k 0) (refusal_of_numbers bytes ix marks table tolerance) k

-- ---- what is answered

-- The answer: a refusal or 0, and the verdict.
pub record Looked : Type 0 where
  pub refusal : ℕ
  pub verdict : Verdict

-- How an answer is told: a refusal by its number, with no verdict.
abbrev pub told : Result Verdict Refusal → Looked
told (Ok v) = record { refusal = 0; verdict = v }
told (Err e) = record { refusal = number_of e; verdict = Unsaid }

-- What is left: the answer, and the marks.
pub record Outcome : Type 0 where
  pub answer : Looked
  pub marks : List ℕ

abbrev pub ended : Looked → List ℕ → Outcome
ended a m = record { answer = a; marks = m }

-- The verdict over all moves of a list.
abbrev pub verdict_of : List ℕ → Index → List Float → Float → Verdict
verdict_of bytes ix table tolerance = verdict_from (fault_of ix table tolerance) 0 (moves_of bytes)

-- Refused, nothing is said and the marks are untouched; else the marks are wiped.
unfoldable pub look_over_of : List ℕ → Index → List ℕ → List Float → Float → Outcome
look_over_of bytes ix marks table tolerance =
    let k = refusal_of bytes ix marks table tolerance in
    cond (eqb k 0)
    (ended (record { refusal = 0; verdict = verdict_of bytes ix table tolerance }) (replicate (length marks) 0))
    (ended (record { refusal = k; verdict = Unsaid }) marks)

-- ---- the numbers of a verdict: 0 none, 1 passes, 2 does not; the first bad move; 1 blocked rapid, 2 changed z, 3 cut too deep

unfoldable pub verdict_number : Verdict → ℕ
verdict_number Unsaid = 0
verdict_number Passes = 1
verdict_number (Fails t f) = 2

unfoldable pub bad_number : Verdict → ℕ
bad_number Unsaid = 0
bad_number Passes = 0
bad_number (Fails t f) = t

unfoldable pub fault_number : Fault → ℕ
fault_number Sound = 0
fault_number BlockedRapid = 1
fault_number ChangedZ = 2
fault_number TooDeep = 3

unfoldable pub reason_number : Verdict → ℕ
reason_number Unsaid = 0
reason_number Passes = 0
reason_number (Fails t f) = fault_number f

-- ---- what an accepted list's verdict v promises

-- move t is sound
abbrev pub SoundAt : List ℕ → Index → List Float → Float → ℕ → Type 0
SoundAt bytes ix table tolerance t = fault_of ix table tolerance (move_of bytes t) ≡ Sound

-- move t is the first bad one, with the fault f: it is a move of the list, it has that fault, and every move before it is sound
pub record FirstBad (bytes : List ℕ) (ix : Index) (table : List Float) (tolerance : Float) (t : ℕ) (f : Fault) : Type 0 where
  pub one : t < value count bytes
  pub fault : fault_of ix table tolerance (move_of bytes t) ≡ f
  pub bad : f ≡ Sound → ⊥
  pub first : (s : ℕ) → s < t → SoundAt bytes ix table tolerance s

--   all    "the path passes exactly when all its moves do";
--   first  "otherwise the first bad one is named with its reason".
pub record Judged (bytes : List ℕ) (ix : Index) (table : List Float) (tolerance : Float) (v : Verdict) : Type 0 where
  pub all : (v ≡ Passes → (t : ℕ) → t < value count bytes → SoundAt bytes ix table tolerance t)
      × (((t : ℕ) → t < value count bytes → SoundAt bytes ix table tolerance t) → v ≡ Passes)
  pub first : (t : ℕ) (f : Fault) → v ≡ Fails t f → FirstBad bytes ix table tolerance t f

-- ---- the plan's own cuts

-- a piece of a run as a cut
abbrev pub cut_of : Run → Move
cut_of q =
    record {
      kind = Cut;
      start = record { x = q.ax; y = q.ay; z = q.z };
      end = record { x = q.bx; y = q.by; z = q.z };
    }

-- A cut that the plan makes is not bad here: each kept piece of an accepted plan over this index, with this tolerance, is sound as a move, whatever the
-- stock to leave.
abbrev pub OwnCutsPass : Index → List Float → Float → Type 0
OwnCutsPass ix table tolerance =
    (marks : List ℕ) (levels runs : List Float) (p : Parameters) (axis : Axis)
    → (plan_of ix marks levels runs p axis).answer.refusal ≡ 0
    → p.tolerance ≡ tolerance
    → EachKept (λ q. fault_of ix table tolerance (cut_of q) ≡ Sound) (pieces_on ix p axis)
