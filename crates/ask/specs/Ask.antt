-- Document 01, "Questions" and "Refusal numbers": what every question shares: its refusals in their order, its answer, and the marks that it leaves.
use Rattle.std.specs.Prelude.{Bool, true, cond, ◌&&◌, List, ℕ, eqb, Float, Result, Ok, Err}
use Rattle.std.specs.Float.Ieee.{le}
use Rattle.numbers.specs.Reals.{f0}
use Rattle.plane.specs.declared.Best.{Best}
use Rattle.walk.specs.Walk.{Walk, next_stamp, ready_marks, walked, chased}
use Rattle.grid.specs.Boxes.{is_boxed}
use Rattle.grid.specs.Index.{Index}
use Rattle.rules.specs.Ladder.{demand}
use Rattle.query.specs.declared.Patch.{Patch}
use Rattle.query.specs.Asked.{is_marked}
use Rattle.query.specs.Usable.{usable}
use Rattle.query.specs.Looked.{within}
use Rattle.refusals.specs.declared.Refusal.{Refusal}
use Rattle.refusals.specs.Numbers.{number_of}
use Rattle.ask.specs.declared.Answer as found
use Rattle.ask.specs.declared.Ruling as judged

-- A corner radius from 0 to r: no for a NaN.
unfoldable pub is_corner : Float → Float → Bool
is_corner r rc = le f0 rc && le rc r

-- 1, 23, 2, 8 and 7 in this order, each where its test does not hold; 0 where the question with the cells p is accepted. `numbers` and `tool` say whether its
-- numbers and its tool are in their ranges.
unfoldable pub refusal_of : Bool → Bool → Index → List ℕ → ℕ → Patch → ℕ
refusal_of numbers tool ix marks stamp p =
    demand (is_marked ix.mesh marks) 1
    (demand (is_boxed ix.mesh ix.boxes) 23
    (demand numbers 2
    (demand tool 8
    (demand (usable ix marks stamp p) 7
    0))))

-- The floor, which no triangle has raised.
abbrev pub at_floor : Float → Best
at_floor z = record { height = z; triangle = 0; kind = 0; which = 0 }

-- Where a walk begins: with the next stamp's marks, no triangle looked at, and v.
abbrev pub begun : {A : Type 0} → List ℕ → ℕ → A → Walk A
begun marks stamp v = record { marks = ready_marks marks stamp; count = 0; value = v }

-- ---- a height question

-- A height question's answer, as document 01 has it: its refusal or 0, the height, how many triangles were looked at, and the stamp; then the triangle that
-- last raised the height and what of it is touched, its kind and which of three, all 0 for the floor.
pub record Answer : Type 0 where
  pub refusal : ℕ
  pub height : Float
  pub count : ℕ
  pub stamp : ℕ
  pub triangle : ℕ
  pub kind : ℕ
  pub which : ℕ

-- What it leaves: its answer, and the marks.
pub record Outcome (A : Type 0) : Type 0 where
  pub answer : A
  pub marks : List ℕ

abbrev pub ended : {A : Type 0} → A → List ℕ → Outcome A
ended a m = record { answer = a; marks = m }

-- Refused by k: zero height, zero count, the stamp as handed; nothing is named.
abbrev pub refused_by : ℕ → ℕ → Answer
refused_by k stamp = record { refusal = k; height = f0; count = 0; stamp = stamp; triangle = 0; kind = 0; which = 0 }

-- What a question answers as document 01 has it; a refusal tells the stamp as handed.
abbrev pub answer_told : Result found.Answer Refusal → ℕ → Answer
answer_told (Ok a) stamp =
    record { refusal = 0; height = a.height; count = a.count; stamp = a.stamp; triangle = a.triangle; kind = a.kind; which = a.which }
answer_told (Err r) stamp = refused_by (number_of r) stamp

-- Accepted: the height that the walk w found, how many triangles it looked at, its stamp, and the triangle and the touch that last raised the height.
abbrev pub answered_by : Walk Best → ℕ → Answer
answered_by w stamp =
    let b = w.value in
    record { refusal = 0; height = b.height; count = w.count; stamp = stamp; triangle = b.triangle; kind = b.kind; which = b.which }

-- What an answer tells: the height, the triangle that last raised it, and what of it is touched.
abbrev pub told_by : Answer → Best
told_by a = record { height = a.height; triangle = a.triangle; kind = a.kind; which = a.which }

-- A question that is refused by k, or else walks to w. A refusal leaves the marks untouched.
unfoldable pub answer_of : ℕ → List ℕ → ℕ → Walk Best → Outcome Answer
answer_of k marks stamp w =
    cond (eqb k 0) (ended (answered_by w (next_stamp stamp)) w.marks) (ended (refused_by k stamp) marks)

-- The question with the cells p, whose step takes the best so far and the next triangle. Its walk begins at the floor.
unfoldable pub asked_height : Bool → Bool → (Best → ℕ → Best) → Index → List ℕ → ℕ → Patch → Outcome Answer
asked_height numbers tool step ix marks stamp p =
    answer_of (refusal_of numbers tool ix marks stamp p) marks stamp
    (walked (next_stamp stamp) step (begun marks stamp (at_floor ix.header.floor)) (within ix p))

-- ---- a chord question

-- A chord question's verdict: none where it is refused.
pub data Finding : Type 0 where
  Neither : Finding
  Clear : Finding
  Blocked : Finding

-- A chord question's answer, as document 01 has it: its refusal or 0, the verdict, how many triangles were looked at, and the stamp.
pub record Ruling : Type 0 where
  pub refusal : ℕ
  pub finding : Finding
  pub count : ℕ
  pub stamp : ℕ

-- The verdict of a question that is not refused.
abbrev pub finding_of : Bool → Finding
finding_of clear = cond clear Clear Blocked

-- The numbers of a verdict: 0 none, 1 clear, 2 blocked.
unfoldable pub finding_number : Finding → ℕ
finding_number Neither = 0
finding_number Clear = 1
finding_number Blocked = 2

-- Refused by k: no verdict, zero count, the stamp as handed.
abbrev pub refused_chord : ℕ → ℕ → Ruling
refused_chord k stamp = record { refusal = k; finding = Neither; count = 0; stamp = stamp }

-- The verdict of a question that is not refused, and what a question answers, as document 01 has them; a refusal tells the stamp as handed.
abbrev pub ruled : judged.Ruling → Ruling
ruled r = record { refusal = 0; finding = finding_of r.clear; count = r.count; stamp = r.stamp }

abbrev pub ruling_told : Result judged.Ruling Refusal → ℕ → Ruling
ruling_told (Ok r) stamp = ruled r
ruling_told (Err r) stamp = refused_chord (number_of r) stamp

-- Blocked before any walk: count 0, the stamp as handed.
abbrev pub blocked_early : ℕ → Ruling
blocked_early stamp = record { refusal = 0; finding = Blocked; count = 0; stamp = stamp }

-- The verdict of the walk w.
abbrev pub ruled_by : Walk Bool → ℕ → Ruling
ruled_by w stamp = record { refusal = 0; finding = cond w.value Clear Blocked; count = w.count; stamp = stamp }

-- A chord that is refused by k, or else blocked before any walk, or else walks to w. Only a walk changes the marks.
unfoldable pub ruling_of : ℕ → Bool → List ℕ → ℕ → Walk Bool → Outcome Ruling
ruling_of k early marks stamp w =
    cond (eqb k 0)
    (cond early (ended (blocked_early stamp) marks) (ended (ruled_by w (next_stamp stamp)) w.marks))
    (ended (refused_chord k stamp) marks)

-- The question with the cells p, which a triangle may block: `early` says whether it is blocked before any walk.
unfoldable pub asked_chord : Bool → Bool → Bool → (ℕ → Bool) → Index → List ℕ → ℕ → Patch → Outcome Ruling
asked_chord numbers tool early blocks ix marks stamp p =
    ruling_of (refusal_of numbers tool ix marks stamp p) early marks stamp
    (chased (next_stamp stamp) blocks (begun marks stamp true) (within ix p))
