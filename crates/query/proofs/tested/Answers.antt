-- `query::tested` meets its contract: what is remembered passed, and what passes may be remembered.
use Rattle.std.proofs.Common.{sym}
use Rattle.query.proofs.Recent.{not_below_lem, tested_there, tested_more}
use Rattle.query.proofs.Gathering.{adds_known, adds_new}
use Rattle.query.proofs.tested.Goals as goal

pub returns-then-i-n : goal.returns-then-i-n
returns-then-i-n c = (not_below_lem _ _ _ _ _ _ c.if-i-n.true, tt)

pub returns-then-i-lt65535 : goal.returns-then-i-lt65535
returns-then-i-lt65535 c =
    let k = c.place_of-k.ensures in
    let t = c.requires.5 in
    let f = c.if-i-lt65535.true in
    let e = c.if-recent-k.true in
    (tested_there _ _ _ _ k f e t, (t, adds_known _ _ _ _ _ _ k c.if-i-n.false f e))

pub returns-then-member_usable : goal.returns-then-member_usable
returns-then-member_usable c =
    let k = c.place_of-k.ensures in
    let t = c.requires.5 in
    let p = c.put.ensures in
    let e = c.if-member_usable.ensures in
    (e, (tested_more _ _ _ _ k (sym e) t, adds_new _ _ _ _ _ _ k c.if-i-n.false _ _ t.size p.0 p.1))
