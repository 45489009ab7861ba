-- The moves before t are sound: the verdict over those from t on is the verdict over all of them.
use mathlib.Core.Path.{◌≡◌, refl, ap, sym, subst, ◌∙◌}
use Prim.Native.Nat.{ℕ, ◌-◌, ◌≤◌, ◌<◌}
use native.Mathlib.Omega.{arith}
use borrow.Author.Tests.{not-true, not-false}
use lib.ListN.{length}
use Rattle.fields.specs.Little.{value}
use Rattle.grid.specs.Index.{index_of}
use Rattle.tool.specs.Tool.{sections_in, widest_of, lowest_of}
use Rattle.probe.specs.Inside.{Marked}
use Rattle.paths.specs.Layout.{count}
use Rattle.paths.specs.Reader.{moves_from}
use Rattle.look_over.specs.Look.{fault_of, verdict_from}
use Rattle.look_over.specs.Verdict.{verdict_of}
use Rattle.look_over.specs.Inside.{Placed}
use Rattle.look_over.proofs.Listing.{bad_stops, sound_goes, all_ends}
use Rattle.look_over.proofs.Looking.{move_placed}
use Rattle.look_over.proofs.first_bad.Statement.{statement}
use Rattle.look_over.proofs.first_bad.Tie as tie

abbrev invariant-loop : tie.invariant-loop-t
invariant-loop bytes mesh h starts members boxes marks₀ table tolerance n reach low stamp₀ t₀ marks stamp t =
    (verdict_from (fault_of (index_of mesh h starts members boxes) table tolerance) t (moves_from bytes t (n - t))
    ≡ verdict_of bytes (index_of mesh h starts members boxes) table tolerance)
    × (n ≡ value count bytes)
    × (t ≤ n)
    × (reach ≡ widest_of table (sections_in table))
    × (low ≡ lowest_of table (sections_in table))
    × Marked h.n stamp marks
    × (length marks ≡ length marks₀)

abbrev decreases-loop : tie.decreases-loop-t
decreases-loop bytes mesh h starts members boxes marks₀ table tolerance n reach low stamp₀ t₀ marks stamp t = n - t

count-requires : tie.Need-count-n-requires invariant-loop decreases-loop
count-requires c κs = omega (arith, c.before.before.before.before.before.before.before.requires.0.sound.whole)

loop-holds : tie.Need-loop-t-init invariant-loop decreases-loop
loop-holds c =
    let s = c.before.before.before.before.before.before.before.before.before.before in
    let b = s.args.bytes.now in
    let e = c.before.before.count-n.ensures in
    let q : c.before.before.count-n.result - 0 ≡ value count b = omega (arith, e) in (
      ap (λ (k : ℕ). verdict_from (fault_of (index_of s.args.mesh.now s.args.h s.args.starts.now s.args.members.now s.args.boxes.now)
          s.args.table.now s.args.tolerance) 0 (moves_from b 0 k)) q,
      e,
      omega arith,
      c.before.widest-reach.ensures,
      c.lowest-low.ensures,
      s.requires.2,
      refl,
    )

move_at-requires : tie.Need-move_at-m-requires invariant-loop decreases-loop
move_at-requires c κs =
    let s = c.before.before.before.before.before.before.before.before.before.before.before.before in
    let l = c.before.loop-t in (
      omega (arith, s.requires.0.sound.whole, l.invariant.1, c.loop-t-test.true),
      λ k h. s.requires.0.sound.finite_all k (omega (arith, l.invariant.1, c.loop-t-test.true)),
    )

try_move-requires : tie.Need-try_move-a-requires invariant-loop decreases-loop
try_move-requires c κs =
    let s = c.before.before.before.before.before.before.before.before.before.before.before.before.before.before in
    let l = c.before.before.before.loop-t in
    let t : l.t < value count s.args.bytes.now = omega (arith, l.invariant.1, c.before.before.loop-t-test.true) in
    ((s.requires.1, l.invariant.5, subst Placed (sym c.before.move_at-m.ensures) (move_placed _ s.requires.0 _ t)), (l.invariant.3, l.invariant.4))

returns : tie.Need-returns-then-not-is_sound invariant-loop decreases-loop
returns c =
    let s = c.before.before.before.before.before.before.before.before.before.before.before.before.before.before.before.before.before.before.before in
    let l = c.before.before.before.before.before.before.before.before.loop-t in
    let t = c.before.before.before.before.try_move-a in
    let f = t.ensures.0 ∙ ap (fault_of (index_of s.args.mesh.now s.args.h s.args.starts.now s.args.members.now s.args.boxes.now)
    s.args.table.now s.args.tolerance) c.before.before.before.before.before.before.move_at-m.ensures in (
      bad_stops _ _ _ l.t _ l.invariant.0 _ c.before.before.before.before.before.before.before.loop-t-test.true f (sym c.before.is_sound.ensures
          ∙ c.if-not-is_sound.true),
      t.ensures.1.size ∙ sym s.requires.2.size,
    )

loop-again : tie.Need-loop-t-preserved invariant-loop decreases-loop
loop-again c =
    let s = c.before.before.before.before.before.before.before.before.before.before.before.before.before.before.before.before.before.before.before in
    let l = c.before.before.before.before.before.before.before.before.loop-t in
    let t = c.before.before.before.before.try_move-a in
    let f = t.ensures.0 ∙ ap (fault_of (index_of s.args.mesh.now s.args.h s.args.starts.now s.args.members.now s.args.boxes.now)
    s.args.table.now s.args.tolerance) c.before.before.before.before.before.before.move_at-m.ensures in (
      sound_goes _ _ _ l.t _ l.invariant.0 _ c.before.before.before.before.before.before.before.loop-t-test.true f
          (sym c.before.is_sound.ensures ∙ c.if-not-is_sound.false),
      l.invariant.1,
      omega (arith, c.before.before.before.before.before.before.before.loop-t-test.true),
      l.invariant.3,
      l.invariant.4,
      t.ensures.1,
      t.ensures.1.size ∙ sym s.requires.2.size,
    )

returns-2 : tie.Need-returns invariant-loop decreases-loop
returns-2 c =
    let l = c.before.loop-t in
    (all_ends _ _ _ l.t _ l.invariant.0 (omega arith), l.invariant.6)

same_length : tie.Need-shape_of-marks-then-not-is_sound invariant-loop decreases-loop
same_length c = c.before.before.before.before.try_move-a.ensures.1.size ∙ sym c.before.before.before.before.before.before.before.before.before.before.before.before.before.before.before.before.before.before.before.requires.2.size

same_length-2 : tie.Need-shape_of-marks invariant-loop decreases-loop
same_length-2 c = c.before.loop-t.invariant.6

pub first_bad_spec : {M : Type 1} → statement M
first_bad_spec = tie.close (tie.spec invariant-loop decreases-loop count-requires (λ c κs. tt) (λ c κs. tt) loop-holds (λ c. omega arith) move_at-requires try_move-requires
    (λ c κs. tt) same_length returns (λ c. omega arith) (λ c. omega arith) loop-again same_length-2 returns-2)
