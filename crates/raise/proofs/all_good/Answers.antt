use Rattle.std.proofs.Common.{rules, ◌≡◌, ap, ◌∙◌, is_none}
use Rattle.grid.specs.Build.{is_nowhere}
use Rattle.raise.proofs.Lifting.{none_is}
use Rattle.raise.proofs.all_good.Goals as goal

pub returns : goal.returns
returns c =
    let p : c.is_none.result ≡ is_none c.first_bad.result = search rules in
    p ∙ none_is c.first_bad.result ∙ ap is_nowhere c.first_bad.ensures
