-- Laws of a listing that is told line by line.
use mathlib.Core.List.{List, [], ◌∷◌, ◌++◌, append_assoc, append-nil}
use mathlib.Core.Path.{◌≡◌, refl, ap, sym, ◌∙◌}
use Prim.Native.Nat.{ℕ, zero, suc, ◌+◌, ◌-◌, ◌*◌, ◌≤◌, ◌<◌}
use native.Mathlib.Omega.{arith}
use borrow.Author.Tests.{eq-eqb, ne_eqb}
use lib.Dec.{lit<}
use lib.Ieee.{Float}
use lib.ListN.{take, replicate}
use Rattle.numbers.specs.Reals.{f0}
use Rattle.rules.proofs.Branches.{taken, left}
use Rattle.job.specs.Reader.{Read}
use Rattle.job.specs.Reader as job
use Rattle.job.proofs.Long.{read_cut}
use Rattle.std.specs.Prelude.{Ok, Err}
use Rattle.refusals.specs.declared.Refusal.{Refusal}
use Rattle.refusals.specs.Numbers.{number_of as code}
use Rattle.grid.specs.declared.Header.{Header}
use Rattle.refusals.proofs.Named.{not_zero}
use Rattle.grid.specs.Build.{Built, told, refused_by, accepted_with, outcome, build_of}
use Rattle.grid.specs.Index.{Index, index_of}
use Rattle.ask.specs.Ask.{Answer}
use Rattle.ask.specs.Ask.{ended}
use Rattle.lines.specs.Lines.{head_line, answer_line, refused_line}
use Rattle.lines.specs.Inside.{Wrote}
use Rattle.lines.proofs.Texts.{nothing, ◌then◌, as_well}
use Rattle.listing.specs.Listing.{mesh_room, question_room, start_room, member_room, asked_of, answers_of, listed_of, listing_of, input_room, Enough}

-- Behind `at` a text is written, and with `rest` it is the whole.
pub record Told (o p : List ℕ) (at end : ℕ) (whole rest : List ℕ) : Type 0 where
  pub text : List ℕ
  pub wrote : Wrote o p at end text
  pub same : text ++ rest ≡ whole

pub told_start : (o : List ℕ) (at : ℕ) (whole : List ℕ) → Told o o at at whole whole
told_start o at whole = record { text = []; wrote = nothing o at; same = refl }

pub told_more : {o p q : List ℕ} {at end end' : ℕ} {whole rest line rest' : List ℕ} → Told o p at end whole rest → rest ≡ line ++ rest'
    → Wrote p q end end' line → Told o q at end' whole rest'
told_more {o} {p} {q} {at} {end} {end'} {whole} {rest} {line} {rest'} t e w =
    record { text = t.text ++ line; wrote = t.wrote then w; same = append_assoc t.text line rest' ∙ rw (← e) t.same }

pub told_ends : {o p : List ℕ} {at end : ℕ} {whole rest : List ℕ} → Told o p at end whole rest → rest ≡ [] → Wrote o p at end whole
told_ends t e = as_well (sym (append-nil t.text) ∙ rw (← e) t.same) t.wrote

module _ (ix : Index) (qs : List Float) (marks : List ℕ) (stamp m i : ℕ) where
  pub answers_more : (a : Answer) (marks' : List ℕ) → i < m → ended a marks' ≡ asked_of ix marks stamp qs i
      → answers_of ix qs marks stamp i (m - i) ≡ answer_line i a.refusal a.height a.count ++ answers_of ix qs marks' a.stamp (i + 1) (m - (i + 1))
  unfolding answers_of
  answers_more a marks' l e =
      let s : m - i ≡ suc (m - (i + 1)) = omega arith in
      rw (s, ← e)

  pub answers_end : m ≤ i → answers_of ix qs marks stamp i (m - i) ≡ []
  unfolding answers_of
  answers_end l = let s : m - i ≡ 0 = omega arith in rw s

pub take_replicate : {A : Type 0} (v : A) (n k : ℕ) → n ≤ k → take n (replicate k v) ≡ replicate n v
take_replicate v zero k h = refl
take_replicate v (suc n) zero h = absurd (omega arith)
take_replicate v (suc n) (suc k) h = ap (λ (l : List _). v ∷ l) (take_replicate v n k (omega arith))

-- ---- the listing of a job that was read, refused by the builder and not
module _ (mesh qs boxes₀ : List Float) (floor radius : Float) (n m : ℕ) (b : Built) (starts members : List ℕ) (boxes : List Float)
    (e : outcome b starts members boxes ≡ build_of mesh floor radius (replicate start_room 0) (replicate member_room 0) boxes₀) where
  pub built_not : (b.refusal ≡ 0 → ⊥) → refused_line b.refusal ≡ listed_of mesh qs boxes₀ floor radius n m
  unfolding listed_of
  built_not h = rw (← e) (left _ _ _ _ (ne_eqb b.refusal 0 h) refl)

  built_is : b.refusal ≡ 0 → head_line n m b.header.columns b.header.rows ++ answers_of (index_of mesh b.header starts members boxes) qs
      (replicate n 0) 0 0 m ≡ listed_of mesh qs boxes₀ floor radius n m
  unfolding listed_of
  built_is z = rw (← e) (taken _ _ _ _ (eq-eqb b.refusal 0 z) refl)

  pub built_told : (k : ℕ) (o p q : List ℕ) (at r : ℕ) → n ≤ k → b.refusal ≡ 0 → Wrote o p 0 at (head_line n m b.header.columns b.header.rows)
      → Wrote p q at r (answers_of (index_of mesh b.header starts members boxes) qs (take n (replicate k 0)) 0 0 m)
      → Wrote o q 0 r (listed_of mesh qs boxes₀ floor radius n m)
  built_told k o p q at r h z w v = as_well (built_is z) (w then (rw (take_replicate {A = ℕ} 0 n k h) at v))

-- the same, by the builder's answer
module _ (mesh qs boxes₀ : List Float) (floor radius : Float) (n m : ℕ) (starts members : List ℕ) (boxes : List Float) where
  pub built_err : (e : Refusal) → outcome (told (Err e)) starts members boxes ≡ build_of mesh floor radius (replicate start_room 0) (replicate member_room 0) boxes₀
      → (k : ℕ) → k ≡ code e → refused_line k ≡ listed_of mesh qs boxes₀ floor radius n m
  unfolding told refused_by
  built_err e l k u = rw u (built_not mesh qs boxes₀ floor radius n m (told (Err e)) starts members boxes l (not_zero e))

  pub built_ok : (h : Header) → outcome (told (Ok h)) starts members boxes ≡ build_of mesh floor radius (replicate start_room 0) (replicate member_room 0) boxes₀
      → (k : ℕ) (o p q : List ℕ) (at r : ℕ) → n ≤ k → Wrote o p 0 at (head_line n m h.columns h.rows)
      → Wrote p q at r (answers_of (index_of mesh h starts members boxes) qs (take n (replicate k 0)) 0 0 m)
      → Wrote o q 0 r (listed_of mesh qs boxes₀ floor radius n m)
  unfolding told accepted_with
  built_ok h l k o p q at r a w v = built_told mesh qs boxes₀ floor radius n m (told (Ok h)) starts members boxes l k o p q at r a refl w v

-- ---- the listing of a job, refused by the reader and not
module _ (bytes : List ℕ) (a : Read) (mesh qs : List Float)
    (e : job.ended a mesh qs ≡ job.read_of bytes (replicate mesh_room f0) (replicate question_room f0)) where
  pub read_not : (a.refusal ≡ 0 → ⊥) → refused_line a.refusal ≡ listing_of bytes
  unfolding listing_of
  read_not h = rw (← e) (left _ _ _ _ (ne_eqb a.refusal 0 h) refl)

  pub read_is : (k : ℕ) → 5 * a.n ≤ k → a.refusal ≡ 0
      → listed_of (take (9 * a.n) mesh) (take (5 * a.m) qs) (take (5 * a.n) (replicate k f0)) a.floor a.radius a.n a.m ≡ listing_of bytes
  unfolding listing_of
  read_is k h z = rw (take_replicate f0 (5 * a.n) k h, ← e) (taken _ _ _ _ (eq-eqb a.refusal 0 z) refl)

pub enough : (bytes : List ℕ) → Enough bytes
unfolding listing_of
enough bytes input p = rw (← read_cut input (replicate mesh_room f0) (replicate question_room f0) input_room (lit< tt), p)
