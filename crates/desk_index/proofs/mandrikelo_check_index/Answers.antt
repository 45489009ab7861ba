-- `mandrikelo_check_index` answers the number of the library's refusal.
use Rattle.std.proofs.Common.{rules, ◌≡◌, ℕ}
use mathlib.Core.Path.{subst, subst⁻¹}
use Rattle.refusals.specs.Numbers.{code_of}
use Rattle.grid.specs.declared.Header.{Header}
use Rattle.grid.specs.Index.{index_of}
use Rattle.checked.specs.Check.{CheckPromise}
use Rattle.handed.specs.Handed.{index_from}
use Rattle.desk_index.proofs.mandrikelo_check_index.Goals as goal

pub returns : goal.returns
returns c =
    let e : c.code_of.result ≡ code_of c.check_index.result = search rules in
    subst⁻¹ (λ (k : ℕ). CheckPromise (index_from c.args.mesh.now c.args.measures.now c.args.sizes.now c.args.starts.now c.args.members.now c.args.boxes.now) k) e
    (subst (λ (h : Header). CheckPromise (index_of c.args.mesh.now h c.args.starts.now c.args.members.now c.args.boxes.now) (code_of c.check_index.result))
    c.header_from.ensures c.check_index.ensures)
