-- Both sides compute to the same lists.
use mathlib.Core.Path.{refl}
use lib.Ieee.{of_bits, to_bits, round, sub, div, lt, le, is_nan, to_unsigned, of_int}
use Rattle.roots.specs.Root.{root_of, root_of_units, nearest_root, whole_root}
use Rattle.numbers.specs.Rounding.{round_down_of}
use Rattle.numbers.specs.Reals.{max_of, min_of, abs_of}
use Rattle.plane.specs.Mesh.{triangle_of, lowest, highest, bounds_of}
use Rattle.rules.specs.Every.{is_from}
use Rattle.cells.specs.Cover.{covers, members_of, listed, start_of}
use Rattle.spans.specs.Axis.{span_of, size_of, cell_at, cells_along, stretch_of}
use Rattle.plane.specs.Ranges.{is_coordinate, is_radius}
use Rattle.spans.specs.Mesh.{first_bad as firstBadIn, box_of, widened, extent_of}
use Rattle.rules.specs.Ladder.{refuse, demand}
use Rattle.grid.specs.Grid.{grid_of, cells_of, total_of}
use Rattle.grid.specs.Boxes.{is_boxed}
use Rattle.grid.specs.Build.{is_nowhere, refusal_of_numbers as refusalOfCoordinates, refusal_of_mesh, refusal_of_grid}
use Rattle.grid.specs.Build.{refusal_of_members, refused_by, accepted_with, unless, filled_of, gridded, build_of}
use Rattle.walk.specs.Walk.{next_stamp, ready_marks}
use Rattle.fields.specs.Little.{value, little}
use Rattle.fields.specs.Rows.{finite, first_bad, somewhere}
use Rattle.fields.specs.Room.{too_many}
use Rattle.fields.specs.Length.{whole_in, length_rule, refuse_length}
use Rattle.job.specs.Head.{refusal_of_head, refusal_of_counts, refusal_of_length, told_in}
use Rattle.job.specs.Reader.{read_of, accepted_of, refusal_of, refusal_of_numbers, number_of}
use Rattle.claims.specs.Examples.{worked, bytes_in, numbers_in}
use Rattle.claims.proofs.proved_examples.Statement.{statement}
use Rattle.claims.proofs.proved_examples.Tie as tie

returns : tie.Need-returns
unfolding worked bytes_in numbers_in read_of accepted_of refusal_of refusal_of_head refusal_of_counts refusal_of_length refusal_of_numbers refuse refuse_length length_rule
    whole_in told_in too_many somewhere first_bad finite number_of value little root_of root_of_units nearest_root whole_root round_down_of next_stamp ready_marks
    of_bits to_bits round sub div lt le is_nan to_unsigned of_int max_of min_of abs_of triangle_of lowest highest bounds_of is_from covers members_of listed start_of
    span_of size_of cell_at cells_along stretch_of is_coordinate is_radius firstBadIn box_of widened extent_of demand grid_of cells_of total_of is_nowhere
    refusalOfCoordinates refusal_of_mesh is_boxed refusal_of_grid refusal_of_members refused_by accepted_with unless filled_of gridded build_of
returns c = (refl, refl)

pub proved_examples_spec : {M : Type 1} → statement M
proved_examples_spec = tie.close (tie.spec returns)
