-- Document 02, request 12: another planner's moves. The test of one move, over the questions' own definitions, and the first bad move of a list.
use Rattle.std.specs.Prelude.{Bool, true, false, cond, List, [], ◌∷◌, ℕ, ◌+◌, eqb, Float, replicate}
use Rattle.std.specs.Float.{binary64}
use Rattle.std.specs.Float.Ieee.{to_bits, le}
use Rattle.numbers.specs.Reals.{◌⊕◌, f0}
use Rattle.grid.specs.Index.{Index}
use Rattle.reach.specs.declared.Chord.{Chord}
use Rattle.ask.specs.Ask.{Finding}
use Rattle.ask.specs.Ask.{Neither, Clear, Blocked}
use Rattle.height.specs.Sweep.{Sweep, sweep}
use Rattle.height.specs.Height.{max_height_of}
use Rattle.chords.specs.Chords.{sections_chord_of}
use Rattle.paths.specs.declared.Kind.{Kind}
use Rattle.paths.specs.declared.Kind.TheVariants.{Rapid, Cut}
use Rattle.paths.specs.declared.Move.{Move}
use Rattle.look_over.specs.declared.Fault.{Fault}
use Rattle.look_over.specs.declared.Fault.TheVariants.{Sound, BlockedRapid, ChangedZ, TooDeep}
use Rattle.look_over.specs.declared.Verdict.{Verdict}
use Rattle.look_over.specs.declared.Verdict.TheVariants.{Passes, Fails}

-- ---- one move

-- A rapid as a chord, with lift 0.
abbrev pub chord_of : Move → Chord
chord_of m =
    record { ax = m.start.x; ay = m.start.y; az = m.start.z; bx = m.end.x; by = m.end.y; bz = m.end.z; lift = f0 }

-- A cut seen from above: a disk of radius r moved along it.
abbrev pub sweep_of : Float → Move → Sweep
sweep_of r m = sweep m.start.x m.start.y m.end.x m.end.y r

-- the verdict of a chord question as yes or no
unfoldable pub is_clear : Finding → Bool
is_clear Neither = false
is_clear Clear = true
is_clear Blocked = false

-- "A cut must keep its z bit for bit": 0.0 and -0.0 differ.
unfoldable pub keeps_z : Move → Bool
keeps_z m = eqb (to_bits binary64 m.start.z) (to_bits binary64 m.end.z)

module _ (ix : Index) where
  -- Each question is asked by itself, with wiped marks and stamp 0.
  abbrev wiped : List ℕ
  wiped = replicate ix.header.n 0

  -- "Every rapid must be clear by the section chord rule with lift 0": what `sections_chord_clear` finds, the tool's sections in a table.
  unfoldable pub rapid_clear : List Float → Move → Bool
  rapid_clear table m = is_clear (sections_chord_of ix wiped 0 (chord_of m) table).answer.finding

  -- "its swept-disk height at the header's radius must be at most z + tolerance": what `max_height` answers.
  unfoldable pub cut_clear : Float → Move → Bool
  cut_clear tolerance m = le (max_height_of ix wiped 0 (sweep_of ix.header.r m)).answer.height (m.start.z ⊕ tolerance)

  -- What is wrong with a rapid, and with a cut: "changed z, or cut too deep, the earlier if both".
  unfoldable pub fault_of_rapid : List Float → Move → Fault
  fault_of_rapid table m = cond (rapid_clear table m) Sound BlockedRapid

  unfoldable pub fault_of_cut : Float → Move → Fault
  fault_of_cut tolerance m = cond (keeps_z m) (cond (cut_clear tolerance m) Sound TooDeep) ChangedZ

  -- The test of one move.
  unfoldable pub fault_by : List Float → Float → Move → Kind → Fault
  fault_by table tolerance m Rapid = fault_of_rapid table m
  fault_by table tolerance m Cut = fault_of_cut tolerance m

  abbrev pub fault_of : List Float → Float → Move → Fault
  fault_of table tolerance m = fault_by table tolerance m m.kind

-- ---- a list of moves, with any test of one

-- A move that is sound lets the next ones be looked at; else it is move t that is bad, with its reason.
unfoldable pub unless_bad : ℕ → Fault → Verdict → Verdict
unless_bad t Sound next = next
unless_bad t BlockedRapid next = Fails t BlockedRapid
unless_bad t ChangedZ next = Fails t ChangedZ
unless_bad t TooDeep next = Fails t TooDeep

-- "The path passes exactly when all its moves do; otherwise the first bad one is named with its reason." The first of these moves is move t.
unfoldable pub verdict_from : (Move → Fault) → ℕ → List Move → Verdict
verdict_from fault t [] = Passes
verdict_from fault t (m ∷ ms) = unless_bad t (fault m) (verdict_from fault (t + 1) ms)
