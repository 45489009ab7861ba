use mathlib.Core.Path.{refl}
use Rattle.fields.proofs.Finite.{finite_bits}
use Rattle.single.specs.Single.{value_of}
use Rattle.single.proofs.Value.{number, kept}
use Rattle.single.proofs.widened.Goals as goal

pub float_from_bits-result : goal.float_from_bits-result
unfolding value_of
float_from_bits-result c = finite_bits _ _ c.requires

pub float_to_float-result : goal.float_to_float-result
float_to_float-result c = kept _ c.requires

pub returns-clause-value : goal.returns-clause-value
unfolding value_of
returns-clause-value c = refl

pub returns-clause-number_of : goal.returns-clause-number_of
unfolding value_of
returns-clause-number_of c = number _ _ refl c.requires
