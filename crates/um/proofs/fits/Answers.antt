use Rattle.std.proofs.Common.{rules, ◌≡◌, ℕ, ap₂, ◌∙◌, is_ok}
use Rattle.grid.specs.Build.{refusal_of_grid}
use Rattle.um.specs.Grid.{fits}
use Rattle.um.proofs.Accepting.{passes_as}
use Rattle.um.proofs.fits.Goals as goal

pub returns : goal.returns
unfolding fits
returns c =
    let p : c.is_ok.result ≡ is_ok c.refusal_of_grid.result = search rules in
    p ∙ passes_as c.refusal_of_grid.result _ (c.refusal_of_grid.ensures.code ∙ ap₂ (λ (x y : ℕ). refusal_of_grid x y c.args.lent)
    c.cells_along-columns.ensures c.cells_along-rows.ensures)
