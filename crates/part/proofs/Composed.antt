-- Read, build and ask, put together.
use mathlib.Core.List.{List}
use mathlib.Core.Path.{◌≡◌, refl, ap, sym, subst, ◌∙◌}
use Prim.Native.Nat.{ℕ, ◌*◌, ◌/◌, ◌≤◌}
use native.Mathlib.Omega.{arith}
use borrow.Author.Tests.{eq-eqb, ne_eqb}
use lib.Ieee.{Float}
use lib.ListN.{length, take, drop, length-append}
use lib.Seq.{take_at}
use Rattle.rules.proofs.Branches.{taken, left as passed-by}
use Rattle.fields.specs.Little.{value}
use Rattle.fields.proofs.Rows.{row_length}
use Rattle.grid.specs.Build as build
use Rattle.grid.specs.Build.{Built, build_of, outcome}
use Rattle.grid.specs.Index.{index_of, BuildPromise}
use Rattle.ask.specs.Ask.{Answer}
use Rattle.ask.specs.Ask as ask
use Rattle.ask.specs.Ask.{refused_by}
use Rattle.height.specs.Sweep.{Sweep}
use Rattle.height.specs.Height.{max_height_of}
use Rattle.height.specs.Demand.{DiskPromise}
use Rattle.stl.specs.Layout.{count}
use Rattle.stl.specs.Reader as reader
use Rattle.stl.specs.Reader.{number_of, refusal_of, accepted_of, read_of}
use Rattle.stl.proofs.Reading.{refusal_is}
use Rattle.part.specs.Part.{mesh_of, Asked, asked, asked_after, mesh_height_of, left, left_after, part_height_of, MeetsDemand3}

-- ---- an accepted file
module _ (bytes : List ℕ) (mesh : List Float) (o : reader.Outcome) (e : o ≡ read_of bytes mesh) (z : o.answer.refusal ≡ 0) where
  accepted : o ≡ accepted_of bytes (value count bytes) mesh
  unfolding read_of
  accepted =
      let k : refusal_of bytes (length mesh / 9) ≡ 0 = sym (refusal_is bytes mesh) ∙ sym (ap (λ (u : reader.Outcome). u.answer.refusal) e) ∙ z in
      e ∙ sym (taken _ _ _ _ (eq-eqb _ 0 k) refl)

  -- what was read has room
  pub fits : 9 * o.answer.n ≤ length o.mesh
  unfolding accepted_of
  fits = rw accepted (omega (arith, length-append (mesh_of bytes) (drop (9 * value count bytes) mesh), row_length (number_of bytes) 0 (9 * value count bytes)))

  -- what was read is the file's mesh
  mesh_is : take (9 * o.answer.n) o.mesh ≡ mesh_of bytes
  unfolding accepted_of
  mesh_is = rw accepted (take_at (mesh_of bytes) _ _ (row_length (number_of bytes) 0 _))

module _ (floor r : Float) (starts members : List ℕ) (boxes : List Float) (marks : List ℕ) (stamp : ℕ) (s : Sweep) where
  -- ---- a mesh
  module _ (mesh : List Float) (b : Built) (ss es : List ℕ) (xs : List Float) (e : outcome b ss es xs ≡ build_of mesh floor r starts members boxes) where
    after : (x : Asked) → x ≡ asked_after (outcome b ss es xs) mesh marks stamp s → x ≡ mesh_height_of mesh floor r starts members boxes marks stamp s
    unfolding mesh_height_of
    after x p = p ∙ ap (λ (o : build.Outcome). asked_after o mesh marks stamp s) e

    pub mesh_refused : (a : Answer) → (b.refusal ≡ 0 → ⊥) → a ≡ refused_by b.refusal stamp
        → (asked a ss es xs marks ≡ mesh_height_of mesh floor r starts members boxes marks stamp s)
        × (a.refusal ≡ 0 → MeetsDemand3 mesh ss es xs marks stamp s a)
    unfolding asked_after
    mesh_refused a h p = (
      after _ (passed-by _ _ _ _ (ne_eqb b.refusal 0 h) (ap (λ (x : Answer). asked x ss es xs marks) p)),
      λ z. absurd (h (sym (ap (λ (x : Answer). x.refusal) p) ∙ z)),
    )

    pub mesh_asked : (a : Answer) (ks : List ℕ) → b.refusal ≡ 0 → BuildPromise (index_of mesh b.header ss es xs) b.refusal
        → ask.ended a ks ≡ max_height_of (index_of mesh b.header ss es xs) marks stamp s → DiskPromise (index_of mesh b.header ss es xs) marks stamp s a
        → (asked a ss es xs ks ≡ mesh_height_of mesh floor r starts members boxes marks stamp s) × (a.refusal ≡ 0 → MeetsDemand3 mesh ss es xs marks stamp s a)
    unfolding asked_after
    mesh_asked a ks z p q d = (
      after _ (taken _ _ _ _ (eq-eqb b.refusal 0 z) (ap (λ (o : ask.Outcome Answer). asked o.answer ss es xs o.marks) q)),
      λ k. record { header = b.header; built = p.built z; demand3 = d.demand3 (p.built z) k },
    )

  -- ---- a file
  module _ (bytes : List ℕ) (mesh : List Float) (o : reader.Outcome) (e : o ≡ read_of bytes mesh) where
    part_is : (x : Asked) → left o.mesh x ≡ left_after o floor r starts members boxes marks stamp s
        → left o.mesh x ≡ part_height_of bytes mesh floor r starts members boxes marks stamp s
    unfolding part_height_of
    part_is x p = p ∙ ap (λ (u : reader.Outcome). left_after u floor r starts members boxes marks stamp s) e

    pub part_refused : (ss es : List ℕ) (xs : List Float) (a : Answer) → (o.answer.refusal ≡ 0 → ⊥) → a ≡ refused_by o.answer.refusal stamp
        → (left o.mesh (asked a starts members boxes marks) ≡ part_height_of bytes mesh floor r starts members boxes marks stamp s)
        × (a.refusal ≡ 0 → MeetsDemand3 (mesh_of bytes) ss es xs marks stamp s a)
    unfolding left_after
    part_refused ss es xs a h p = (
      part_is _ (ap (λ (x : Asked). left o.mesh x)
          (passed-by _ _ _ _ (ne_eqb o.answer.refusal 0 h) (ap (λ (x : Answer). asked x starts members boxes marks) p))),
      λ z. absurd (h (sym (ap (λ (x : Answer). x.refusal) p) ∙ z)),
    )

    module _ (z : o.answer.refusal ≡ 0) where
      pub part_asked : (x : Asked) → x ≡ mesh_height_of (take (9 * o.answer.n) o.mesh) floor r starts members boxes marks stamp s
          → (x.answer.refusal ≡ 0 → MeetsDemand3 (take (9 * o.answer.n) o.mesh) x.starts x.members x.boxes marks stamp s x.answer)
          → (left o.mesh x ≡ part_height_of bytes mesh floor r starts members boxes marks stamp s)
          × (x.answer.refusal ≡ 0 → MeetsDemand3 (mesh_of bytes) x.starts x.members x.boxes marks stamp s x.answer)
      unfolding left_after
      part_asked x p d = (
        part_is x (ap (λ (y : Asked). left o.mesh y) (taken _ _ _ _ (eq-eqb o.answer.refusal 0 z) p)),
        λ k. subst (λ (m : List Float). MeetsDemand3 m x.starts x.members x.boxes marks stamp s x.answer) (mesh_is bytes mesh o e z) (d k),
      )
