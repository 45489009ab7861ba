-- What the question promises over the index built from its mesh.
use mathlib.Core.Bool.{Bool, true}
use mathlib.Core.List.{List}
use mathlib.Core.Path.{◌≡◌, refl, ap, sym, ◌∙◌}
use Prim.Native.Nat.{ℕ, ◌+◌, ◌*◌, ◌≤◌, ◌<◌}
use native.Mathlib.Omega.{arith}
use borrow.Author.Tests.{eqb-true, eq-eqb, le-leb, lt-ltb}
use lib.Dec.{eqb}
use lib.ListN.{length, get_or}
use Rattle.rules.proofs.Branches.{by_test}
use Rattle.rules.specs.Every.{times}
use Rattle.cells.proofs.Reading.{member_of}
use Rattle.walk.specs.Walk.{Walk, cell, walked, next_stamp}
use Rattle.rules.proofs.Ladder.{demand_next}
use Rattle.query.specs.declared.Patch.{Patch}
use Rattle.query.specs.Looked.{EachOnce}
use Rattle.rules.proofs.Testing.{every_all}
use Rattle.query.proofs.Stretches.{usable_each, cell_stands, cells_pass}
use Rattle.query.proofs.Looks.{each_once, once_shared}
use Rattle.ask.specs.Ask.{Outcome, ended}
use Rattle.micro.specs.Micro.{is_coordinate, number_at}
use Rattle.um.specs.Index.{Index, covers_of, BuiltFrom, SoundIndex}
use Rattle.um.proofs.Indexing.{index_sound}
use Rattle.setup.specs.declared.Best.{Best}
use Rattle.setup.specs.declared.Question.{Question}
use Rattle.setup.specs.Question.{reach_of, plain_walk, patch_of}
use Rattle.setup.specs.Answer.{Answer, is_marked, head_usable, triangle_usable, member_usable, tables_usable, refusal_of_tables}
use Rattle.setup.specs.Answer.{refusal_of, within, looked_in, setup_walk, refused_by, answered_by, setup_height_of}
use Rattle.setup.specs.Demand.{Shares, GoodQuestion, Plain, SetupPromise}
use Rattle.setup.proofs.Reaching.{patch_inside}
use Rattle.setup.proofs.Heads.{in-ranges-is}
use Rattle.setup.proofs.Answering.{member_is, Passed, passed}
use Rattle.setup.proofs.Meeting.{meeting}
use Rattle.setup.proofs.Plainly.{plainly}

module _ (ix : Index) (marks : List ℕ) (stamp : ℕ) (q : Question) where
  abbrev cells : Patch
  cells = patch_of ix.header (reach_of q)

  -- ---- a good question is accepted
  module _ (d : SoundIndex ix) (g : GoodQuestion ix marks stamp q) where
    sound_marked : is_marked ix.mesh marks ≡ true
    unfolding is_marked
    sound_marked = rw (
      le-leb (length marks) 65536 (omega (arith, g.marked, (in-ranges-is ix.header d.ranges).few)),
      eq-eqb (length ix.mesh) (length marks * 9) (omega (arith, g.marked, d.nine)),
    )

    sound_head : head_usable ix.mesh ix.header ix.starts ≡ true
    unfolding head_usable
    sound_head = rw (d.ranges, eq-eqb _ _ d.nine, le-leb _ _ d.room)

    sound_triangle : (i : ℕ) → i < ix.header.n → triangle_usable ix.mesh i ≡ true
    unfolding triangle_usable
    sound_triangle i l = every_all (λ k. is_coordinate (number_at ix.mesh k)) (9 * i) 9 (λ k a b. d.numbers k (omega (arith, d.nine)))

    member_passes : (i : ℕ) → i < ix.header.n → member_usable ix.mesh ix.header.n marks stamp i ≡ true
    unfolding member_usable
    member_passes i l = rw (lt-ltb i ix.header.n l, sound_triangle i l, le-leb (get_or marks i 0) stamp (g.low i (omega (arith, g.marked))))

    sound_tables : tables_usable ix marks stamp (reach_of q) ≡ true
    unfolding tables_usable
    sound_tables =
        let i = patch_inside ix.header (reach_of q) in
        let test : ℕ → Bool = member_usable ix.mesh ix.header.n marks stamp in
        cells_pass test ix.starts ix.members ix.header.columns cells ix.header.rows
        (λ c h.
        cell_stands test ix.starts ix.members c (d.rise c h) (d.within c h)
        (λ k l. member_passes _ (rw (d.cell c h) (member_of (covers_of ix) c ix.header.n k (rw (d.cell c h) at l)).0)))
        i.0 i.1

    accepted : 0 ≡ refusal_of ix marks stamp q
    unfolding refusal_of refusal_of_tables
    accepted =
        demand_next _ 1 _ 0 sound_marked
        (demand_next _ 2 _ 0 g.numbers_in_range
        (demand_next _ 7 _ 0 sound_head
        (demand_next _ 7 _ 0 sound_tables refl)))

  -- ---- an accepted one looks at each triangle that shares a cell with it once
  module _ (d : SoundIndex ix) (b : Passed ix marks stamp q) where
    abbrev list : List ℕ
    list = looked_in ix marks stamp cells

    member : (x y k : ℕ) → cells.x0 ≤ x → x < cells.x1 → cells.y0 ≤ y → y < cells.y1
        → k < length (cell ix.starts ix.members (y * ix.header.columns + x))
        → (get_or (cell ix.starts ix.members (y * ix.header.columns + x)) k 0 < ix.header.n)
        × (get_or marks (get_or (cell ix.starts ix.members (y * ix.header.columns + x)) k 0) 0 ≤ stamp)
    unfolding tables_usable
    member x y k a c e f l =
        member_is ix.mesh ix.header.n marks stamp _
        (usable_each (member_usable ix.mesh ix.header.n marks stamp) ix.starts ix.members ix.header.columns cells b.tables x y k a c e f l)

    as_many : ix.header.n ≤ length marks
    as_many = omega (arith, d.nine, b.nine)

    looks : EachOnce (Shares ix cells) list
    unfolding looked_in
    looks =
        let i = patch_inside ix.header (reach_of q) in
        each_once (covers_of ix) ix.header.n ix.header.columns ix.header.rows ix.starts ix.members marks stamp cells
        d.cell member as_many i.0 i.1

    shared : (i : ℕ) → 0 < times i list → Shares ix cells i
    unfolding looked_in
    shared =
        let i = patch_inside ix.header (reach_of q) in
        once_shared (covers_of ix) ix.header.n ix.header.columns ix.header.rows ix.starts ix.members marks stamp cells
        d.cell member as_many i.0 i.1

    walk_plain : (setup_walk ix marks stamp q).value ≡ plain_walk ix.mesh (reach_of q) ix.header.floor ix.header.n
    unfolding setup_walk walked looked_in
    walk_plain =
        plainly ix.mesh (reach_of q) ix.header.floor ix.header.n _
        (λ i t. (shared i (unfold looked_in in t)).triangle)
        (λ i h t. unfold looked_in in looks.each i (meeting ix d q i h t))

    walk_count : (setup_walk ix marks stamp q).count ≡ length list
    unfolding setup_walk walked looked_in
    walk_count = omega arith

  -- ---- the answer
  module _ (a : Answer) (m : List ℕ) (e : ended a m ≡ setup_height_of ix marks stamp q) where
    abbrev found : Walk Best
    found = setup_walk ix marks stamp q

    refusal_is : a.refusal ≡ refusal_of ix marks stamp q
    unfolding setup_height_of
    refusal_is =
        by_test (eqb (refusal_of ix marks stamp q) 0)
        (λ t. let f : ended a m ≡ ended (answered_by found (next_stamp stamp)) found.marks = rw t at e in
        ap (λ (o : Outcome Answer). o.answer.refusal) f ∙ sym (eqb-true _ _ t))
        (λ t. let f : ended a m ≡ ended (refused_by (refusal_of ix marks stamp q) stamp) marks = rw t at e in ap (λ (o : Outcome Answer). o.answer.refusal) f)

    walked_is : a.refusal ≡ 0 → ended a m ≡ ended (answered_by found (next_stamp stamp)) found.marks
    unfolding setup_height_of
    walked_is z = rw (eq-eqb (refusal_of ix marks stamp q) 0 (sym refusal_is ∙ z)) at e

    plain_of : BuiltFrom ix → a.refusal ≡ 0 → Plain ix marks stamp q a
    plain_of b z =
        let d = index_sound ix b in
        let p = passed ix marks stamp q (sym refusal_is ∙ z) in
        let w = walked_is z in
        record {
          looks = looks d p;
          count = ap (λ (o : Outcome Answer). o.answer.count) w ∙ walk_count d p;
          plain = ap (λ (o : Outcome Answer). record { height = o.answer.height; met = o.answer.met }) w ∙ walk_plain d p;
        }

    pub setup_promise : SetupPromise ix marks stamp q a
    setup_promise = record { accepted = λ b g. refusal_is ∙ sym (accepted (index_sound ix b) g); walked = plain_of }
