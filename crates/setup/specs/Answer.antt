-- Document 02, request 11: refusals 1, 2 and 7 of the set-up height question, its answer, and the marks that it leaves.
use Rattle.std.specs.Prelude.{Bool, ◌&&◌, cond, List, ℕ, ◌+◌, ◌*◌, eqb, leb, ltb, ℤ, length, get_or, Result, Ok, Err}
use Rattle.walk.specs.Walk.{Walk, block, looked, walked, next_stamp, ready_marks}
use Rattle.rules.specs.Ladder.{demand}
use Rattle.query.specs.declared.Patch.{Patch}
use Rattle.rules.specs.Every.{every}
use Rattle.rules.specs.Limits.{most}
use Rattle.query.specs.Usable.{cells_usable}
use Rattle.ask.specs.Ask.{begun, Outcome, ended}
use Rattle.micro.specs.Micro.{is_coordinate, number_at}
use Rattle.um.specs.declared.Header.{Header}
use Rattle.um.specs.Build.{in_ranges, nought}
use Rattle.um.specs.Index.{Index}
use Rattle.setup.specs.declared.Best.{Best}
use Rattle.setup.specs.declared.Answer.{Answer as Found}
use Rattle.refusals.specs.declared.Refusal.{Refusal}
use Rattle.refusals.specs.Numbers.{number_of}
use Rattle.setup.specs.declared.Question.{Question}
use Rattle.setup.specs.declared.Reach.{Reach}
use Rattle.setup.specs.Question.{is_question, reach_of, step_of, from_floor, patch_of}

-- 1: the mesh is nine numbers for each mark, of which there are at most 65,536.
unfoldable pub is_marked : List ℤ → List ℕ → Bool
is_marked mesh marks = leb (length marks) most && eqb (length mesh) (length marks * 9)

-- 7, the header: in its ranges, its n the mesh's, and starts has cells + 1 entries.
unfoldable pub head_usable : List ℤ → Header → List ℕ → Bool
head_usable mesh h starts = in_ranges h && (eqb (length mesh) (h.n * 9) && leb (h.rows * h.columns + 1) (length starts))

-- 7, a member of the question's cells: below n, no coordinate that 4 would refuse, and a mark not above the handed stamp.
unfoldable pub triangle_usable : List ℤ → ℕ → Bool
triangle_usable mesh i = every (λ k. is_coordinate (number_at mesh k)) (9 * i) 9

unfoldable pub member_usable : List ℤ → ℕ → List ℕ → ℕ → ℕ → Bool
member_usable mesh n marks stamp i = ltb i n && (triangle_usable mesh i && leb (get_or marks i 0) stamp)

-- 7, of the question's cells.
unfoldable pub tables_usable : Index → List ℕ → ℕ → Reach → Bool
tables_usable ix marks stamp w =
    cells_usable (member_usable ix.mesh ix.header.n marks stamp) ix.starts ix.members ix.header.columns (patch_of ix.header w)

unfoldable pub refusal_of_tables : Index → List ℕ → ℕ → Reach → ℕ
refusal_of_tables ix marks stamp w = demand (tables_usable ix marks stamp w) 7 0

-- 1, 2 and 7 in this order, each where its test does not hold.
unfoldable pub refusal_of : Index → List ℕ → ℕ → Question → ℕ
refusal_of ix marks stamp q =
    demand (is_marked ix.mesh marks) 1
    (demand (is_question q) 2
    (demand (head_usable ix.mesh ix.header ix.starts) 7
    (refusal_of_tables ix marks stamp (reach_of q))))

-- ---- the walk

-- The numbers that stand in the cells p of an index.
abbrev pub within : Index → Patch → List ℕ
within ix p = block ix.starts ix.members ix.header.columns p.x0 p.x1 p.y0 p.y1

-- The list of triangle numbers that a question with the cells p looks at.
unfoldable pub looked_in : Index → List ℕ → ℕ → Patch → List ℕ
looked_in ix marks stamp p = looked (next_stamp stamp) (ready_marks marks stamp) (within ix p)

-- The walk of a question: it begins at the header's floor, with the next stamp.
unfoldable pub setup_walk : Index → List ℕ → ℕ → Question → Walk Best
setup_walk ix marks stamp q =
    walked (next_stamp stamp) (step_of ix.mesh (reach_of q)) (begun marks stamp (from_floor ix.header.floor)) (within ix (patch_of ix.header (reach_of q)))

-- The answer as document 01 numbers it: its refusal or 0, the height, how many triangles were looked at, the stamp, and how many boxes meet.
pub record Answer : Type 0 where
  pub refusal : ℕ
  pub height : ℕ
  pub count : ℕ
  pub stamp : ℕ
  pub met : ℕ

-- Refused by k: zero height, zero counts, the stamp as handed.
abbrev pub refused_by : ℕ → ℕ → Answer
refused_by k stamp = record { refusal = k; height = nought; count = 0; stamp = stamp; met = 0 }

-- Accepted: the height and the boxes met that the walk w found, how many triangles it looked at, and its stamp.
abbrev pub answered_by : Walk Best → ℕ → Answer
answered_by w stamp = record { refusal = 0; height = w.value.height; count = w.count; stamp = stamp; met = w.value.met }

-- How an answer is told.
unfoldable pub told : Result Found Refusal → ℕ → Answer
told (Ok a) stamp = record { refusal = 0; height = a.height; count = a.count; stamp = a.stamp; met = a.met }
told (Err e) stamp = refused_by (number_of e) stamp

-- The question. A refusal leaves the marks untouched.
unfoldable pub setup_height_of : Index → List ℕ → ℕ → Question → Outcome Answer
setup_height_of ix marks stamp q =
    let k = refusal_of ix marks stamp q in
    let w = setup_walk ix marks stamp q in
    cond (eqb k 0) (ended (answered_by w (next_stamp stamp)) w.marks) (ended (refused_by k stamp) marks)
