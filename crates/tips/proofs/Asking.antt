-- A question with what its code found out: the cells, and whether the numbers and the tool are in their ranges.
use mathlib.Core.Bool.{Bool}
use mathlib.Core.List.{List}
use mathlib.Core.Path.{◌≡◌, ap, ◌∙◌}
use Prim.Native.Nat.{ℕ}
use lib.Ieee.{Float}
use Rattle.bull.specs.declared.Bull.{Bull}
use Rattle.grid.specs.Index.{Index}
use Rattle.query.specs.declared.Patch.{Patch}
use Rattle.query.specs.Patch.{patch_of}
use Rattle.ask.specs.Ask.{Answer}
use Rattle.ask.specs.Ask.{is_corner, ended, asked_height}
use Rattle.ask.proofs.Demands.{height_demand, height_told}
use Rattle.tool.specs.Tool.{sections_in, is_tool, widest_of, lowest_of}
use Rattle.tips.specs.Contact.{bull_step, is_stand, max_bull_of, BullPromise, tool_step, is_place, max_sections_of, SectionsPromise}

module _ (ix : Index) (marks : List ℕ) (stamp : ℕ) (a : Answer) (m : List ℕ) where
  -- what is promised follows from the answer
  pub tool_promise : (x y : Float) (table : List Float) → ended a m ≡ max_sections_of ix marks stamp x y table → SectionsPromise ix marks stamp x y table a
  unfolding max_sections_of
  tool_promise x y table = height_demand _ _ ix marks stamp x y x y _ m _ a

  -- the answer, and what is promised beside it
  module _ (p : Patch) (numbers tool : Bool) where
    pub bull_answers : (k : Bull) → p ≡ patch_of ix.header k.x k.y k.x k.y k.r → numbers ≡ is_stand k.x k.y k.r
        → tool ≡ is_corner k.r k.rc → ended a m ≡ asked_height numbers tool (bull_step ix.mesh ix.boxes k) ix marks stamp p
        → (ended a m ≡ max_bull_of ix marks stamp k) × BullPromise ix marks stamp k a
    unfolding max_bull_of
    bull_answers k = height_told _ _ ix marks stamp k.x k.y k.x k.y k.r m _ a p numbers tool

    pub tool_answers : (x y reach low : Float) (table : List Float) → reach ≡ widest_of table (sections_in table)
        → low ≡ lowest_of table (sections_in table) → p ≡ patch_of ix.header x y x y reach → numbers ≡ is_place x y → tool ≡ is_tool table
        → ended a m ≡ asked_height numbers tool (tool_step ix.mesh ix.boxes (record { x = x; y = y; low = low }) table) ix marks stamp p
        → (ended a m ≡ max_sections_of ix marks stamp x y table) × SectionsPromise ix marks stamp x y table a
    unfolding max_sections_of
    tool_answers x y reach low table r l e f g i =
        height_told _ _ ix marks stamp x y x y _ m _ a p numbers tool (e ∙ ap (patch_of ix.header x y x y) r) f g (rw l at i)
