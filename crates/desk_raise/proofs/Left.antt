-- What raising leaves in C's arrays, refused and accepted.
use mathlib.Core.List.{List, [], ◌∷◌}
use mathlib.Core.Path.{◌≡◌, refl, sym, ap, ◌∙◌}
use Prim.Native.Nat.{ℕ}
use borrow.Author.Tests.{eq-eqb, ne_eqb, eqb-false}
use lib.Dec.{eqb}
use lib.Ieee.{Float}
use Rattle.numbers.specs.Reals.{f0}
use Rattle.rules.proofs.Branches.{taken, left as passed-by, by_test}
use Rattle.grid.specs.declared.Header.{Header}
use Rattle.std.specs.Prelude.{Result, Ok, Err, ◌/◌, ◌%◌}
use Rattle.refusals.specs.declared.Refusal.{Refusal}
use Rattle.refusals.specs.Numbers.{number_of, told_of}
use Rattle.refusals.proofs.Named.{not_zero}
use Rattle.grid.specs.Build.{Built, told, told_with, refused_by, accepted_with}
use Rattle.raise.specs.Raise.{lifted, topped_of, raised_header, refusal_of, Raised, left, raise_of, RaisePromise}
use Rattle.handed.specs.Handed.{measures_of, sizes_of, header_from}
use Rattle.desk_raise.specs.Raising.{built_from, RaisedLeft, raised_left, raised_left_by}

abbrev zeros : Raised → RaisedLeft
zeros o =
    raised_left o.answer.refusal o.mesh o.boxes (f0 ∷ f0 ∷ f0 ∷ f0 ∷ f0 ∷ f0 ∷ []) (0 ∷ 0 ∷ 0 ∷ []) (o.answer.triangle ∷ o.answer.number ∷ [])

abbrev header : Raised → RaisedLeft
header o =
    raised_left o.answer.refusal o.mesh o.boxes (measures_of o.answer.header) (sizes_of o.answer.header)
    (o.answer.triangle ∷ o.answer.number ∷ [])

refused_left : (o : Raised) → (o.answer.refusal ≡ 0 → ⊥) → zeros o ≡ raised_left_by o
unfolding raised_left_by
refused_left o some = passed-by (eqb o.answer.refusal 0) (zeros o) (header o) (zeros o) (ne_eqb _ 0 some) refl

accepted_left : (o : Raised) → o.answer.refusal ≡ 0 → header o ≡ raised_left_by o
unfolding raised_left_by
accepted_left o none = taken (eqb o.answer.refusal 0) (header o) (header o) (zeros o) (eq-eqb _ 0 none) refl

module _ (mesh boxes : List Float) (a : Float) (h g : Header) (q : h ≡ g) (b : Built) (m x : List Float) (e : left b m x ≡ raise_of mesh boxes h a)
    (p : RaisePromise mesh boxes h m x b) where
  same : left b m x ≡ raise_of mesh boxes g a
  same = e ∙ ap (λ (u : Header). raise_of mesh boxes u a) q

  abbrev refusal : ℕ
  refusal = refusal_of mesh boxes g a

  -- an answer without a refusal has the raised header
  header_is : (o : Raised) → o ≡ raise_of mesh boxes g a → o.answer.refusal ≡ 0 → o.answer.header ≡ raised_header (lifted a mesh) g
  unfolding raise_of refused_by accepted_with
  header_is o f z =
      by_test (eqb refusal 0)
      (λ t. let u : o ≡ left (accepted_with (raised_header (lifted a mesh) g)) (lifted a mesh) (topped_of (lifted a mesh) boxes g.n) = rw t at f in
      ap (λ (w : Raised). w.answer.header) u)
      (λ t. let u : o ≡ left (refused_by refusal (told_with refusal (lifted a mesh))) mesh boxes = rw t at f in
      absurd (eqb-false refusal 0 t (sym (ap (λ (w : Raised). w.answer.refusal) u) ∙ z)))

  pub refused_door : (b.refusal ≡ 0 → ⊥) → (fs : List Float) (ns : List ℕ)
      → (zeros (left b m x) ≡ raised_left_by (raise_of mesh boxes g a))
      × RaisePromise mesh boxes g m x (built_from b.refusal fs ns (b.triangle ∷ b.number ∷ []))
  refused_door some fs ns =
      (refused_left (left b m x) some ∙ ap raised_left_by same, record { afresh = λ s t u z. absurd (some z); still = λ s t u z. absurd (some z) })

  pub accepted_door : b.refusal ≡ 0 → (s0 s1 s2 : ℕ) → s0 ≡ g.n → s1 ≡ g.columns → s2 ≡ g.rows
      → (raised_left b.refusal m x (measures_of b.header) (s0 ∷ s1 ∷ s2 ∷ []) (b.triangle ∷ b.number ∷ []) ≡ raised_left_by (raise_of mesh boxes g a))
      × RaisePromise mesh boxes g m x (built_from b.refusal (measures_of b.header) (s0 ∷ s1 ∷ s2 ∷ []) (b.triangle ∷ b.number ∷ []))
  unfolding raised_header header_from
  accepted_door none s0 s1 s2 u0 u1 u2 =
      let i = header_is (left b m x) same none in
      let n0 : s0 ≡ b.header.n = u0 ∙ sym (ap (λ (w : Header). w.n) i) in
      let n1 : s1 ≡ b.header.columns = u1 ∙ sym (ap (λ (w : Header). w.columns) i) in
      let n2 : s2 ≡ b.header.rows = u2 ∙ sym (ap (λ (w : Header). w.rows) i) in
      let p' : RaisePromise mesh boxes g m x b = rw (sym q) p in
      (rw (n0, n1, n2) (accepted_left (left b m x) none ∙ ap raised_left_by same), rw (n0, n1, n2) p')

-- the same, by the library's answer
module _ (mesh boxes : List Float) (a : Float) (h g : Header) (q : h ≡ g) (m x : List Float) where
  pub err_door : (e : Refusal) → left (told (Err e)) m x ≡ raise_of mesh boxes h a → RaisePromise mesh boxes h m x (told (Err e))
      → (k t : ℕ) → k ≡ number_of e → t ≡ told_of e
      → (raised_left k m x (f0 ∷ f0 ∷ f0 ∷ f0 ∷ f0 ∷ f0 ∷ []) (0 ∷ 0 ∷ 0 ∷ []) (t / 9 ∷ t % 9 ∷ []) ≡ raised_left_by (raise_of mesh boxes g a))
      × RaisePromise mesh boxes g m x (built_from k (f0 ∷ f0 ∷ f0 ∷ f0 ∷ f0 ∷ f0 ∷ []) (0 ∷ 0 ∷ 0 ∷ []) (t / 9 ∷ t % 9 ∷ []))
  unfolding told refused_by
  err_door e l p k t u v = rw (u, v) (refused_door mesh boxes a h g q (told (Err e)) m x l p (not_zero e) _ _)

  pub ok_door : (b : Header) → left (told (Ok b)) m x ≡ raise_of mesh boxes h a → RaisePromise mesh boxes h m x (told (Ok b))
      → (s0 s1 s2 : ℕ) → s0 ≡ g.n → s1 ≡ g.columns → s2 ≡ g.rows
      → (raised_left 0 m x (measures_of b) (s0 ∷ s1 ∷ s2 ∷ []) (0 ∷ 0 ∷ []) ≡ raised_left_by (raise_of mesh boxes g a))
      × RaisePromise mesh boxes g m x (built_from 0 (measures_of b) (s0 ∷ s1 ∷ s2 ∷ []) (0 ∷ 0 ∷ []))
  unfolding told accepted_with
  ok_door b l p = accepted_door mesh boxes a h g q (told (Ok b)) m x l p refl
