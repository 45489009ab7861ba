-- The test of one move: from what its walk found to its fault.
use mathlib.Core.Bool.{Bool, true, false, not, cond, ◌&&◌}
use mathlib.Core.List.{List}
use mathlib.Core.Path.{◌≡◌, refl, ap, sym, ◌∙◌}
use Prim.Native.Nat.{ℕ}
use lib.Dec.{T}
use lib.Ieee.{Float, nan, inf, fin, of_bits, le, is_nan}
use lib.ListN.{replicate}
use Rattle.numbers.specs.Reals.{◌⊕◌, f0, abs_of}
use Rattle.rules.proofs.Branches.{both_true, taken, left, no}
use Rattle.plane.specs.Ranges.{is_coordinate, is_point}
use Rattle.plane.specs.declared.Best.{Best}
use Rattle.walk.specs.Walk.{Walk, next_stamp}
use Rattle.grid.specs.Index.{Index}
use Rattle.query.specs.declared.Patch.{Patch}
use Rattle.query.specs.Patch.{patch_of}
use Rattle.query.proofs.Patches.{patch_inside}
use Rattle.ask.specs.declared.Ruling as judged
use Rattle.ask.specs.Ask.{Finding, finding_of, Ruling, ruled, Outcome, ended}
use Rattle.height.specs.Sweep.{sweep_walk}
use Rattle.height.specs.Height.{are_points, max_height_of}
use Rattle.tool.specs.Tool.{sections_in, is_tool, widest_of, lowest_of}
use Rattle.chords.specs.Chords.{is_end, is_chord, blocked_at_once, tool_blocks_at, sections_chord_of}
use Rattle.chords.specs.Inside.{ruled_chord}
use Rattle.runs.specs.declared.Run.{Run}
use Rattle.probe.specs.Inside.{Marked}
use Rattle.probe.proofs.Asking.{swept_value, swept_marks, marked_is}
use Rattle.plan.specs.Lost.{asked_again}
use Rattle.plan.proofs.Losing.{again_is}
use Rattle.paths.specs.declared.Move.{Move}
use Rattle.look_over.specs.declared.Fault.{Fault}
use Rattle.look_over.specs.declared.Fault.TheVariants.{Sound, BlockedRapid, ChangedZ, TooDeep}
use Rattle.look_over.specs.Look.{chord_of, sweep_of, is_clear, keeps_z, rapid_clear, cut_clear, fault_of_rapid, fault_of_cut}
use Rattle.look_over.specs.Verdict.{is_place}
use Rattle.look_over.specs.Inside.{Indexed, Answerable, Placed}
use Rattle.look_over.proofs.Asking.{asked_ruled, ruled_same, ruled_marks}

-- a point's number is no NaN
pub point_no_nan : (x : Float) → is_point x ≡ true → T (not (is_nan x))
unfolding is_point abs_of le is_nan
point_no_nan nan e = absurd (no e)
point_no_nan (inf s) e = tt
point_no_nan (fin s m k) e = tt

-- ---- a rapid

zero_lift : is_coordinate f0 ≡ true
unfolding is_coordinate abs_of le of_bits
zero_lift = refl

module _ (m : Move) (i : Placed m) where
  pub chord_fits : is_chord (chord_of m) ≡ true
  unfolding is_chord is_place
  chord_fits = rw (i.start, i.end, zero_lift)

  pub ends_fit : are_points m.start.x m.start.y m.end.x m.end.y ≡ true
  unfolding are_points is_place is_end
  ends_fit =
      let a = both_true (is_point m.start.x) (is_point m.start.y && is_point m.start.z) i.start in
      let b = both_true (is_point m.end.x) (is_point m.end.y && is_point m.end.z) i.end in
      rw (a.0, (both_true (is_point m.start.y) (is_point m.start.z) a.1).0, b.0) (both_true (is_point m.end.y) (is_point m.end.z) b.1).0

  -- both heights are points' numbers
  pub heights_fit : (is_point m.start.z ≡ true) × (is_point m.end.z ≡ true)
  unfolding is_place is_end
  heights_fit =
      let a = both_true (is_point m.start.x) (is_point m.start.y && is_point m.start.z) i.start in
      let b = both_true (is_point m.end.x) (is_point m.end.y && is_point m.end.z) i.end in
      ((both_true (is_point m.start.y) (is_point m.start.z) a.1).1, (both_true (is_point m.end.y) (is_point m.end.z) b.1).1)

module _ (ix : Index) (stamp : ℕ) (marks : List ℕ) (k : Marked ix.header.n stamp marks) (m : Move) (i : Placed m) where
  module _ (table : List Float) (q : Answerable ix table) (reach low : Float) (er : reach ≡ widest_of table (sections_in table)) (el : low
      ≡ lowest_of table (sections_in table)) (p : Patch) (ep : p ≡ patch_of ix.header m.start.x m.start.y m.end.x m.end.y reach) where
    abbrev early : Bool
    early = blocked_at_once ix.header.floor (chord_of m)

    abbrev blocks : ℕ → Bool
    blocks = tool_blocks_at ix.mesh ix.boxes (chord_of m) low table

    -- what the ruling found is what the question finds
    found : (ruled_chord early blocks ix marks stamp p).answer.finding ≡ (sections_chord_of ix (replicate ix.header.n 0) 0 (chord_of m) table).answer.finding
    unfolding sections_chord_of
    found =
        let cells = patch_of ix.header m.start.x m.start.y m.end.x m.end.y (widest_of table (sections_in table)) in
        let e : p ≡ cells = ep ∙ ap (patch_of ix.header m.start.x m.start.y m.end.x m.end.y) er in
        let z = asked_ruled ix q.indexed (is_chord (chord_of m)) (is_tool table) early (tool_blocks_at ix.mesh ix.boxes (chord_of m)
        (lowest_of table (sections_in table)) table) cells (chord_fits m i) q.tool (patch_inside ix.header _ _ _ _ _) in
        ruled_same blocks ix stamp marks k p early
        ∙ ap (λ (x : Patch). (ruled_chord early blocks ix (replicate ix.header.n 0) 0 x).answer.finding) e
        ∙ ap (λ (x : Float). (ruled_chord early (tool_blocks_at ix.mesh ix.boxes (chord_of m) x table) ix
        (replicate ix.header.n 0) 0 cells).answer.finding) el
        ∙ sym (ap (λ (o : Outcome Ruling). o.answer.finding) z)

    -- the verdict of a ruling says whether it is clear
    clear_is : (b : Bool) → b ≡ is_clear (finding_of b)
    unfolding is_clear
    clear_is true = refl
    clear_is false = refl

    pub rapid_told : (r : judged.Ruling) (marks' : List ℕ) (f : Fault) → ended (ruled r) marks' ≡ ruled_chord early blocks ix marks stamp p
        → f ≡ cond r.clear Sound BlockedRapid → (f ≡ fault_of_rapid ix table m) × Marked ix.header.n r.stamp marks'
    unfolding fault_of_rapid rapid_clear
    rapid_told r marks' f e d = (
      d ∙ ap (λ (b : Bool). cond b Sound BlockedRapid) (clear_is r.clear) ∙ ap (λ (x : Finding). cond (is_clear x) Sound BlockedRapid) (ap (λ (o : Outcome Ruling). o.answer.finding) e ∙ found),
      marked_is _ _ _ _ _ (ap (λ (o : Outcome Ruling). o.answer.stamp) e) (ap (λ (o : Outcome Ruling). o.marks) e)
          (ruled_marks blocks ix stamp marks k p early),
    )

  -- ---- a cut
  module _ (x : Indexed ix) (tolerance : Float) where
    abbrev run : Run
    run = record { ax = m.start.x; ay = m.start.y; bx = m.end.x; by = m.end.y; z = m.start.z }

    pub z_changed : (b : Bool) → b ≡ keeps_z m → b ≡ false → ChangedZ ≡ fault_of_cut ix tolerance m
    unfolding fault_of_cut
    z_changed b e p = left _ _ _ _ (sym e ∙ p) refl

    pub cut_told : (b : Bool) (w : Walk Best) (s : ℕ) (f : Fault) → b ≡ keeps_z m → b ≡ true → w ≡ sweep_walk ix marks stamp (sweep_of ix.header.r m)
        → s ≡ next_stamp stamp → f ≡ cond (le w.value.height (m.start.z ⊕ tolerance)) Sound TooDeep
        → (f ≡ fault_of_cut ix tolerance m) × Marked ix.header.n s w.marks
    unfolding fault_of_cut cut_clear asked_again
    cut_told b w s f e p g n d =
        let h : w.value.height ≡ (max_height_of ix (replicate ix.header.n 0) 0 (sweep_of ix.header.r m)).answer.height =
        ap (λ (y : Walk Best). y.value.height) g ∙ swept_value ix stamp marks k run ∙ sym (again_is ix x.whole x.boxed run (ends_fit m i)).1 in (
          taken _ _ _ _ (sym e ∙ p) (d ∙ ap (λ (y : Float). cond (le y (m.start.z ⊕ tolerance)) Sound TooDeep) h),
          marked_is _ _ _ _ _ n (ap (λ (y : Walk Best). y.marks) g) (swept_marks ix stamp marks k run),
        )
