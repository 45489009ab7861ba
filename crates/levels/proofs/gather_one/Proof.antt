use Rattle.levels.specs.Inside.{gathered_one}
use mathlib.Core.Path.{◌≡◌, refl, sym, ap, ◌∙◌}
use Rattle.rules.proofs.Branches.{taken, left}
use Rattle.plane.specs.Mesh.{triangle_of}
use Rattle.plane.specs.declared.Triangle.{Triangle}
use Rattle.levels.specs.Flats.{is_flat}
use borrow.Author.Rules.{rules}
use Rattle.levels.proofs.gather_one.Statement.{statement}
use Rattle.levels.proofs.gather_one.Tie as tie
use Rattle.levels.proofs.gather_one.Reads as reads
use Rattle.levels.proofs.gather_one.Lts as lts
use Rattle.levels.proofs.flat.Reads as flat-reads
use Rattle.plane.proofs.triangle_at.Reads as triangle-at-reads

triangle_at-requires : tie.Need-triangle_at-requires
triangle_at-requires c κs = search rules

flat-requires : tie.Need-flat-requires
flat-requires c κs = search rules

cast-list : tie.Need-overflow_cast-list
cast-list c = search rules

mul-list : tie.Need-offset_bounds-list-k
mul-list c = search rules

slice_write-list : tie.Need-bounds-list-k
slice_write-list c = search rules

add-result : tie.Need-overflow_add-result
add-result c = search rules

same_length : tie.Need-shape_of-list-then-flat
same_length c = search rules

tested : (c : tie.After-flat) →
    let a = c.before.before.before.before.args in
    is_flat (triangle_of a.mesh.now a.i) a.tolerance a.least ≡ c.flat.result
tested c =
    let a = c.before.before.before.before.args in
    ap (λ (t : Triangle). is_flat t a.tolerance a.least) (sym c.before.triangle_at.ensures) ∙ sym c.flat.ensures

returns : tie.Need-returns-then-flat
unfolding gathered_one
returns c = taken _ _ _ _ (tested c.before ∙ c.if-flat.true) refl

returns-2 : tie.Need-returns
unfolding gathered_one
returns-2 c = left _ _ _ _ (tested c.before ∙ c.if-flat.false) refl

pub gather_one_spec : {M : Type 1} → statement M
gather_one_spec =
    tie.close
    (tie.spec
    triangle_at-requires
    flat-requires
    cast-list
    mul-list
    slice_write-list
    add-result
    same_length
    returns
    returns-2)
