use mathlib.Core.Path.{◌∙◌, ap}
use Rattle.micro.proofs.Signed.{again}
use Rattle.micro.specs.Micro.{whole_of}
use Rattle.job_um.specs.Reader.{number_of}
use Rattle.job_um.proofs.number_at.Goals as goal

pub returns : goal.returns
unfolding number_of
returns c = again _ c.whole.type_inv ∙ c.whole.ensures ∙ ap whole_of c.u32_at.ensures
