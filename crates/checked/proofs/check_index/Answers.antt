-- `checked::check_index` meets its contract.
use Rattle.std.proofs.Common.{rules, ◌≡◌, refl, sym, ◌∙◌}
use Rattle.refusals.specs.Numbers.{number_of, code_of}
use Rattle.refusals.proofs.Named.{not_zero}
use Rattle.checked.proofs.Rebuilding.{promise_told, promise_is, promise_not}
use Rattle.checked.proofs.check_index.Goals as goal

pub returns-in-Err : goal.returns-in-Err
unfolding code_of
returns-in-Err c = promise_told _ _ c.in-Err.ensures.code _ c.told.ensures (not_zero c.in-Err.r)

pub is_index-requires : goal.is_index-requires
unfolding code_of
is_index-requires c = sym c.in-Ok.ensures.code

pub returns-then-is_index : goal.returns-then-is_index
unfolding code_of
returns-then-is_index c = promise_is _ _ c.in-Ok.ensures.code refl _ c.is_index.ensures c.if-is_index.true

pub returns-else-is_index : goal.returns-else-is_index
unfolding code_of number_of
returns-else-is_index c = promise_not _ _ c.in-Ok.ensures.code refl _ c.is_index.ensures c.if-is_index.false
