use Rattle.std.proofs.Common.{sym, ◌∙◌, arith}
use Rattle.rules.proofs.Branches.{bool_called}
use Rattle.refusals.specs.Numbers.{code_of, number_of}
use Rattle.sheet.proofs.Lists.{sections_length}
use Rattle.sheet.proofs.Sheets.{too_many, invalid, no_room, good_list, body_bad, holders_bad, all_good}
use Rattle.sheet.proofs.refusal_of_list.Goals as goal

pub returns-then-n-gt32 : goal.returns-then-n-gt32
unfolding code_of number_of
returns-then-n-gt32 c = too_many _ _ _ (c.count-n.ensures ∙ sym (sections_length _ _)) (omega arith)

pub returns-then-not-valid_body : goal.returns-then-not-valid_body
unfolding code_of number_of
returns-then-not-valid_body c =
    invalid _ _ _ (c.count-n.ensures ∙ sym (sections_length _ _)) (omega arith) (body_bad _ _ (bool_called _ _ _ c.valid_body.ensures c.if-not-valid_body.true))

pub returns-then-not-valid_holders : goal.returns-then-not-valid_holders
unfolding code_of number_of
returns-then-not-valid_holders c =
    invalid _ _ _ (c.count-n.ensures ∙ sym (sections_length _ _)) (omega arith)
    (holders_bad _ _ (bool_called _ _ _ c.valid_body.ensures c.if-not-valid_body.false) (bool_called _ _ _ c.valid_holders.ensures c.if-not-valid_holders.true))

pub returns-then-n-room : goal.returns-then-n-room
unfolding code_of number_of
returns-then-n-room c =
    no_room _ _ _ (c.count-n.ensures ∙ sym (sections_length _ _)) (omega arith)
    (all_good _ _ (bool_called _ _ _ c.valid_body.ensures c.if-not-valid_body.false) (bool_called _ _ _ c.valid_holders.ensures c.if-not-valid_holders.false))
    (omega arith)

pub returns : goal.returns
unfolding code_of
returns c =
    good_list _ _ _ (c.count-n.ensures ∙ sym (sections_length _ _)) (omega arith)
    (all_good _ _ (bool_called _ _ _ c.valid_body.ensures c.if-not-valid_body.false) (bool_called _ _ _ c.valid_holders.ensures c.if-not-valid_holders.false))
    (omega arith)
