-- Document 01, "The job file": what the listing program prints for a job, as a function of the job's bytes.
use Rattle.std.specs.Prelude.{cond, List, [], ◌++◌, ◌≡◌, ℕ, zero, suc, ◌+◌, ◌*◌, eqb, Float, take, replicate}
use Rattle.numbers.specs.Reals.{f0, num}
use Rattle.job.specs.Reader.{read_of}
use Rattle.grid.specs.Index.{Index, index_of}
use Rattle.grid.specs.Build.{build_of}
use Rattle.ask.specs.Ask.{Answer}
use Rattle.ask.specs.Ask.{Outcome}
use Rattle.height.specs.Sweep.{sweep}
use Rattle.height.specs.Height.{max_height_of}
use Rattle.lines.specs.Lines.{head_line, answer_line, refused_line}

-- ---- the rooms: 256 triangles, 256 questions, 513 starts, 16,384 members

abbrev pub mesh_room : ℕ
mesh_room = 2304

abbrev pub question_room : ℕ
question_room = 1280

abbrev pub start_room : ℕ
start_room = 513

abbrev pub member_room : ℕ
member_room = 16384

-- The longest job that has room has 28,702 bytes. Of a longer input one byte more is enough: what follows changes nothing.
abbrev pub input_room : ℕ
input_room = 28703

-- ---- the questions

-- question i, five numbers of the table qs: px, py, qx, qy, r
unfoldable pub asked_of : Index → List ℕ → ℕ → List Float → ℕ → Outcome Answer
asked_of ix marks stamp qs i =
    max_height_of ix marks stamp
    (sweep (num qs (5 * i)) (num qs (5 * i + 1)) (num qs (5 * i + 2)) (num qs (5 * i + 3)) (num qs (5 * i + 4)))

-- the lines of c questions from question i on: marks and stamp carry on from question to question
unfoldable pub answers_of : Index → List Float → List ℕ → ℕ → ℕ → ℕ → List ℕ
answers_of ix qs marks stamp i zero = []
answers_of ix qs marks stamp i (suc c) =
    let o = asked_of ix marks stamp qs i in
    answer_line i o.answer.refusal o.answer.height o.answer.count
    ++ answers_of ix qs o.marks o.answer.stamp (i + 1) c

-- ---- the listing

-- a job that was read: n triangles, m questions; marks and stamp begin at 0
unfoldable pub listed_of : List Float → List Float → List Float → Float → Float → ℕ → ℕ → List ℕ
listed_of mesh qs boxes floor radius n m =
    let b = build_of mesh floor radius (replicate start_room 0) (replicate member_room 0) boxes in
    cond (eqb b.built.refusal 0)
    (head_line n m b.built.header.columns b.built.header.rows
    ++ answers_of (index_of mesh b.built.header b.starts b.members b.boxes) qs (replicate n 0) 0 0 m)
    (refused_line b.built.refusal)

-- a job refused by reader or builder prints its refusal only
unfoldable pub listing_of : List ℕ → List ℕ
listing_of bytes =
    let o = read_of bytes (replicate mesh_room f0) (replicate question_room f0) in
    cond (eqb o.answer.refusal 0)
    (listed_of (take (9 * o.answer.n) o.mesh) (take (5 * o.answer.m) o.questions) (replicate (5 * o.answer.n) f0)
    o.answer.floor o.answer.radius o.answer.n o.answer.m)
    (refused_line o.answer.refusal)

-- an input that begins with these bytes, of which there are no more than enough, has their listing
abbrev pub Enough : List ℕ → Type 0
Enough bytes = (input : List ℕ) → take input_room input ≡ bytes → listing_of input ≡ listing_of bytes
