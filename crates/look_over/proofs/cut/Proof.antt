use borrow.Author.Rules.{rules}
use borrow.Author.Tests.{not-true, not-false}
use Rattle.grid.specs.Index.{index_of}
use Rattle.query.specs.Patch.{patch_of}
use Rattle.query.proofs.Patches.{patch_inside}
use Rattle.look_over.specs.Look.{keeps_z}
use Rattle.look_over.proofs.Asking.{walk_ready}
use Rattle.look_over.proofs.Trying.{heights_fit, z_changed, cut_told}
use Rattle.look_over.proofs.cut.Statement.{statement}
use Rattle.look_over.proofs.cut.Tie as tie

same_bits-requires : tie.Need-same_bits-requires
same_bits-requires c κs = heights_fit _ c.before.before.before.before.before.before.before.requires.2

returns : tie.Need-returns-then-not-same_bits
unfolding keeps_z
returns c =
    let s = c.before.before.before.before.before.before.before.before.before in (
      z_changed (index_of s.args.mesh.now s.args.h s.args.starts.now s.args.members.now s.args.boxes.now) s.args.stamp
          s.args.marks.now s.requires.1 s.args.m s.requires.2 s.requires.0 s.args.tolerance _ c.before.same_bits.ensures
          (c.if-not-same_bits.true),
      s.requires.1,
    )

swept_height-requires : tie.Need-swept_height-s-requires
swept_height-requires c κs =
    let s = c.before.before.before.before.before.before.before.before.before.before in
    let a = s.args.m.start in
    let b = s.args.m.end in
    walk_ready (index_of s.args.mesh.now s.args.h s.args.starts.now s.args.members.now s.args.boxes.now) s.requires.0 _ _ s.requires.1
    (patch_of s.args.h a.x a.y b.x b.y s.args.h.r) (patch_inside s.args.h a.x a.y b.x b.y s.args.h.r)

returns-2 : tie.Need-returns
unfolding keeps_z
returns-2 c =
    let s = c.before.before.before.before.before.before.before.before.before.before.before.before.before.before.before.before in
    let e = c.before.before.before.before.before.swept_height-s.ensures in
    cut_told (index_of s.args.mesh.now s.args.h s.args.starts.now s.args.members.now s.args.boxes.now) s.args.stamp
    s.args.marks.now s.requires.1 s.args.m s.requires.2 s.requires.0 s.args.tolerance
    _ _ _ _ c.before.before.before.before.before.before.before.before.same_bits.ensures
    (c.before.before.before.before.before.before.before.if-not-same_bits.false) e.0 e.1 c.depth.ensures

pub cut_spec : {M : Type 1} → statement M
cut_spec = tie.close (tie.spec same_bits-requires returns swept_height-requires (λ c κs. tt) (λ c. search rules) returns-2)
