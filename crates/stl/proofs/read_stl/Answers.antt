use mathlib.Core.Path.{◌≡◌, refl}
use native.Mathlib.Omega.{arith}
use Rattle.std.proofs.Common.{rules, Err}
use Rattle.refusals.specs.Numbers.{code_of}
use Rattle.stl.specs.Reader.{told, ended}
use Rattle.stl.proofs.Reading.{exactly, refused_told, accepted_is, filled_is, count_within, ready}
use Rattle.stl.proofs.Copies.{never_taken}
use Rattle.stl.proofs.Ignored.{only_vertices}
use Rattle.stl.proofs.read_stl.Goals as goal

pub returns-in_err-refusal-clause-mesh_after : goal.returns-in_err-refusal-clause-mesh_after
returns-in_err-refusal-clause-mesh_after c =
    let e : c.from_residual.result ≡ Err c.in_err-refusal.field-0.0 = search rules in
    rw e (refused_told _ _ _ _ c.in_err-refusal.ensures.number c.in_err-refusal.ensures.whole)

pub returns-in_err-refusal-clause-sound_exactly : goal.returns-in_err-refusal-clause-sound_exactly
returns-in_err-refusal-clause-sound_exactly c = exactly _ _ (ended (told c.from_residual.result) _) (returns-in_err-refusal-clause-mesh_after c)

pub returns-in_err-refusal-clause-never_taken_for_apart : goal.returns-in_err-refusal-clause-never_taken_for_apart
returns-in_err-refusal-clause-never_taken_for_apart c = never_taken _ _ (ended (told c.from_residual.result) _) (returns-in_err-refusal-clause-mesh_after c)

pub returns-in_err-refusal-clause-only_vertices : goal.returns-in_err-refusal-clause-only_vertices
returns-in_err-refusal-clause-only_vertices c = only_vertices _ _ (ended (told c.from_residual.result) _) (returns-in_err-refusal-clause-mesh_after c)

pub u32_at-n-requires : goal.u32_at-n-requires
unfolding code_of
u32_at-n-requires c = count_within _ c.args.mesh.now _ c.in_ok-refusal.ensures.number refl

pub fill-requires-clause-n_in_bounds : goal.fill-requires-clause-n_in_bounds
unfolding code_of
fill-requires-clause-n_in_bounds c = (ready _ c.args.mesh.now _ c.in_ok-refusal.ensures.number refl _ c.u32_at-n.ensures).0

pub fill-requires-clause-by_index : goal.fill-requires-clause-by_index
unfolding code_of
fill-requires-clause-by_index c = (ready _ c.args.mesh.now _ c.in_ok-refusal.ensures.number refl _ c.u32_at-n.ensures).1

pub returns-clause-mesh_after : goal.returns-clause-mesh_after
unfolding code_of
returns-clause-mesh_after c =
    accepted_is _ _ _ c.in_ok-refusal.ensures.number refl _ _ c.u32_at-n.ensures (filled_is _ _ _ _ c.fill.ensures)

pub returns-clause-sound_exactly : goal.returns-clause-sound_exactly
returns-clause-sound_exactly c = exactly _ _ _ (returns-clause-mesh_after c)

pub returns-clause-never_taken_for_apart : goal.returns-clause-never_taken_for_apart
returns-clause-never_taken_for_apart c = never_taken _ _ _ (returns-clause-mesh_after c)

pub returns-clause-only_vertices : goal.returns-clause-only_vertices
returns-clause-only_vertices c = only_vertices _ _ _ (returns-clause-mesh_after c)
