-- What the walks of a cutter hand each other.
use mathlib.Core.Bool.{true}
use mathlib.Core.List.{List}
use mathlib.Core.Path.{◌≡◌, ap, sym, ◌∙◌, subst}
use Rattle.std.specs.Prelude.{⊤}
use Prim.Native.Nat.{ℕ, ◌*◌}
use native.Mathlib.Omega.{arith}
use lib.Dec.{T}
use lib.Ieee.{Float, binary64, le, fits}
use lib.ListN.{length}
use Rattle.numbers.specs.Reals.{f0}
use Rattle.rules.proofs.Branches.{both_true, holds}
use Rattle.order.proofs.Extremes.{not_above}
use Rattle.tops.specs.Inside.{is_start}
use Rattle.bull.specs.declared.Bull.{Bull}
use Rattle.bull.specs.Inside.{base_of}
use Rattle.ahead.proofs.Under.{begun, number, not_exceeds}
use Rattle.plane.specs.declared.Best.{Best}
use Rattle.walk.specs.declared.Seen.{Seen}
use Rattle.walk.specs.Walk.{fold}
use Rattle.walk.specs.Inside.{seen, look, Room, Walkable, Tabled, FitsAll}
use Rattle.walk.proofs.Marks.{all_tabled}
use Rattle.walk.proofs.Rings.{unmarked_length}
use Rattle.query.specs.declared.Patch.{Patch}
use Rattle.ask.specs.Ask.{at_floor}
use Rattle.tips.specs.Contact.{bull_step}
use Rattle.tips.specs.Inside.{from_step, may_begin, Fresh, Besides, Tables}
use Rattle.tips.proofs.Again.{walked_again}
use Rattle.tips.proofs.Lifting.{found_from}

-- ---- what `visit` asks for
module _ (mesh boxes : List Float) (starts members : List ℕ) (columns : ℕ) (p : Patch) (m : List ℕ) (t : Tables mesh boxes starts members columns p m) where
  pub visits : (stamp : ℕ) (s : Seen Best) (b : Best) → s ≡ record { count = 0; best = b }
      → Walkable starts members (length m) columns p.x0 p.x1 p.y0 p.y1 × Room stamp (seen m s)
      × FitsAll (Tabled mesh boxes) (length m) × ⊤
  visits stamp s b e =
      let c : s.count ≡ 0 = ap (λ (u : Seen Best). u.count) e in
      (t.cells, omega (arith, c, unmarked_length stamp m, t.few), all_tabled _ _ _ t.nine t.five, tt)

  pub tables_again : (m' : List ℕ) → length m' ≡ length m → Tables mesh boxes starts members columns p m'
  tables_again m' e =
      record {
        nine = rw e t.nine;
        five = rw e t.five;
        few = rw e t.few;
        cells = subst (λ (n : ℕ). Walkable starts members n columns p.x0 p.x1 p.y0 p.y1) (sym e) t.cells;
      }

-- ---- a walk after one under another stamp
pub walks_again : (stamp other : ℕ) → (other ≡ stamp → ⊥) → (ms m : List ℕ) → Fresh stamp m ms → (step : Best → ℕ → Best) (s₀ : Seen Best) (m₂ : List ℕ)
    → Besides ms m m₂ → (m₃ : List ℕ) (s₁ : Seen Best) → seen m₃ s₁ ≡ fold (look other step) (seen m₂ s₀) ms → (next : Best → ℕ → Best) (s₂ : Seen Best) (v : Best)
    → s₂ ≡ record { count = 0; best = v } → (m₄ : List ℕ) (r : Seen Best) → seen m₄ r ≡ fold (look stamp next) (seen m₃ s₂) ms
    → seen m₄ r ≡ fold (look stamp next) (seen m (record { count = 0; best = v })) ms
walks_again stamp other apart ms m fresh step s₀ m₂ b m₃ s₁ e next s₂ v q m₄ r g =
    walked_again stamp other apart ms m fresh step (seen m₂ s₀) b m₃ s₁ e next v (seen m₄ r) (g ∙ ap (λ (s : Seen Best). fold (look stamp next) (seen m₃ s) ms) q)

-- ---- a walk that begins above the floor and is raised
pub raised_from : (k : Bull) (floor from : Float) → may_begin k floor from ≡ true → T (fits binary64 k.rc)
    → (mesh boxes : List Float) (stamp : ℕ) (ms m m' : List ℕ) (s r : Seen Best) → s ≡ record { count = 0; best = at_floor from }
    → (r.best.kind ≡ 0 → ⊥) → seen m' r ≡ fold (look stamp (from_step mesh boxes (record { nose = k; limit = from }))) (seen m s) ms
    → seen m' r ≡ fold (look stamp (bull_step mesh boxes k)) (seen m (record { count = 0; best = at_floor floor })) ms
unfolding may_begin
raised_from k floor from h fit mesh boxes stamp ms m m' s r q n e =
    let a = both_true (is_start from) _ h in
    let b = both_true (le floor from) (le f0 (base_of k)) a.1 in
    let g = begun from a.0 in
    found_from from g k b.1 fit mesh boxes stamp ms m m' r floor (not_exceeds from floor (number from g) (not_above floor from (holds _ b.0))) n
    (e ∙ ap (λ (u : Seen Best). fold (look stamp (from_step mesh boxes (record { nose = k; limit = from }))) (seen m u) ms) q)
