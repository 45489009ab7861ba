-- Laws of the first bad move, for any test of one: a search that goes on, stops or ends, and what its verdict says of the moves.
use mathlib.Core.Bool.{true, false}
use mathlib.Core.List.{List}
use mathlib.Core.Path.{◌≡◌, refl, ap, sym, ◌∙◌}
use Prim.Native.Nat.{ℕ, zero, suc, ◌+◌, ◌-◌, ◌≤◌, ◌<◌}
use native.Mathlib.Nat.{add-zero}
use native.Mathlib.Omega.{arith}
use borrow.Author.Tests.{ltb-true, ltb-false}
use lib.Dec.{ltb}
use Rattle.rules.proofs.Branches.{by_test, no}
use Rattle.paths.specs.declared.Move.{Move}
use Rattle.paths.specs.Reader.{move_of, moves_from}
use Rattle.look_over.specs.declared.Fault.{Fault}
use Rattle.look_over.specs.declared.Fault.TheVariants.{Sound, BlockedRapid, ChangedZ, TooDeep}
use Rattle.look_over.specs.declared.Verdict.{Verdict}
use Rattle.look_over.specs.declared.Verdict.TheVariants.{Unsaid, Passes, Fails}
use Rattle.look_over.specs.Look.{unless_bad, verdict_from}
use Rattle.look_over.specs.Verdict.{verdict_number, bad_number}
use Rattle.look_over.specs.Inside.{is_sound}

pub sound_is : (f : Fault) → is_sound f ≡ true → f ≡ Sound
unfolding is_sound
sound_is Sound e = refl
sound_is BlockedRapid e = absurd (no e)
sound_is ChangedZ e = absurd (no e)
sound_is TooDeep e = absurd (no e)

bad_said : (t : ℕ) (f : Fault) (next : Verdict) → is_sound f ≡ false → unless_bad t f next ≡ Fails t f
unfolding is_sound unless_bad
bad_said t Sound next e = absurd (no (sym e))
bad_said t BlockedRapid next e = refl
bad_said t ChangedZ next e = refl
bad_said t TooDeep next e = refl

never_both : (t : ℕ) (f : Fault) → Fails t f ≡ Passes → ⊥
unfolding verdict_number
never_both t f e = omega (arith, ap verdict_number e)

reason : Verdict → Fault
reason Unsaid = Sound
reason Passes = Sound
reason (Fails t f) = f

same_bad : (t s : ℕ) (f g : Fault) → Fails t f ≡ Fails s g → (t ≡ s) × (f ≡ g)
unfolding bad_number reason
same_bad t s f g e = (ap bad_number e, ap reason e)

module _ (fault : Move → Fault) (bytes : List ℕ) where
  -- ---- the search, at move t of n
  module _ (n t : ℕ) (v : Verdict) (e : verdict_from fault t (moves_from bytes t (n - t)) ≡ v) where
    pub bad_stops : (f : Fault) → t < n → f ≡ fault (move_of bytes t) → is_sound f ≡ false → Fails t f ≡ v
    unfolding verdict_from moves_from
    bad_stops f h p b =
        let s : n - t ≡ suc (n - (t + 1)) = omega arith in
        sym (bad_said t f _ b) ∙ (rw (← p) at (rw s at e))

    pub sound_goes : (f : Fault) → t < n → f ≡ fault (move_of bytes t) → is_sound f ≡ true → verdict_from fault (t + 1) (moves_from bytes (t + 1) (n - (t + 1))) ≡ v
    unfolding verdict_from moves_from unless_bad
    sound_goes f h p b =
        let s : n - t ≡ suc (n - (t + 1)) = omega arith in
        rw (sym p ∙ sound_is f b) at (rw s at e)

    pub all_ends : n ≤ t → Passes ≡ v
    unfolding verdict_from moves_from
    all_ends h =
        let s : n - t ≡ 0 = omega arith in
        rw s at e

  -- ---- what a verdict over c moves from move t on says
  abbrev over : ℕ → ℕ → Verdict
  over t c = verdict_from fault t (moves_from bytes t c)

  -- one move more
  step : (P : Verdict → Type 0) (t c : ℕ) → (fault (move_of bytes t) ≡ Sound → P (over (t + 1) c))
      → ((f : Fault) → fault (move_of bytes t) ≡ f → (f ≡ Sound → ⊥) → P (Fails t f)) → P (over t (suc c))
  unfolding verdict_from moves_from unless_bad is_sound
  step P t c good bad = by (fault (move_of bytes t)) refl
    where
      by : (f : Fault) → fault (move_of bytes t) ≡ f → P (unless_bad t f (over (t + 1) c))
      by Sound e = good e
      by BlockedRapid e = bad BlockedRapid e (λ (z : BlockedRapid ≡ Sound). no (ap is_sound z))
      by ChangedZ e = bad ChangedZ e (λ (z : ChangedZ ≡ Sound). no (ap is_sound z))
      by TooDeep e = bad TooDeep e (λ (z : TooDeep ≡ Sound). no (ap is_sound z))

  pub passes_all_lem : (c t : ℕ) → over t c ≡ Passes → (i : ℕ) → i < c → fault (move_of bytes (t + i)) ≡ Sound
  passes_all_lem zero t e i h = absurd (omega arith)
  passes_all_lem (suc c) t e i h =
      step (λ (v : Verdict). v ≡ Passes → fault (move_of bytes (t + i)) ≡ Sound) t c
      (λ s d. here s (passes_all_lem c (t + 1) d) i h)
      (λ f p b d. absurd (never_both t f d))
      e
    where
      here : fault (move_of bytes t) ≡ Sound → ((j : ℕ) → j < c → fault (move_of bytes (t + 1 + j)) ≡ Sound) → (j : ℕ) → j < suc c
          → fault (move_of bytes (t + j)) ≡ Sound
      here s more zero l = rw add-zero s
      here s more (suc j) l = let q : t + suc j ≡ t + 1 + j = omega arith in rw q (more j (omega arith))

  pub all_passes : (c t : ℕ) → ((i : ℕ) → i < c → fault (move_of bytes (t + i)) ≡ Sound) → over t c ≡ Passes
  unfolding verdict_from moves_from
  all_passes zero t g = refl
  all_passes (suc c) t g =
      step (λ (v : Verdict). v ≡ Passes) t c
      (λ s. all_passes c (t + 1) (λ i h. let q : t + suc i ≡ t + 1 + i = omega arith in rw q at (g (suc i) (omega arith))))
      (λ f p b. absurd (b (sym p ∙ (rw add-zero at (g 0 (omega arith))))))

  pub record First (t c s : ℕ) (f : Fault) : Type 0 where
    pub from : t ≤ s
    pub below : s < t + c
    pub has : fault (move_of bytes s) ≡ f
    pub bad : f ≡ Sound → ⊥
    pub before : (i : ℕ) → t ≤ i → i < s → fault (move_of bytes i) ≡ Sound

  pub fails_first : (c t s : ℕ) (f : Fault) → over t c ≡ Fails s f → First t c s f
  unfolding verdict_from moves_from
  fails_first zero t s f e = absurd (never_both s f (sym e))
  fails_first (suc c) t s f e =
      step (λ (v : Verdict). v ≡ Fails s f → First t (suc c) s f) t c
      (λ g q.
      let r = fails_first c (t + 1) s f q in
      record {
        from = omega (arith, r.from);
        below = omega (arith, r.below);
        has = r.has;
        bad = r.bad;
        before = λ i h l. earlier r.before g i h l;
      })
      (λ d p b q.
      let k = same_bad t s d f q in
      record {
        from = omega (arith, k.0);
        below = omega (arith, k.0);
        has = rw (← k.0, ← k.1) p;
        bad = rw (← k.1) b;
        before = λ i h l. absurd (omega (arith, k.0));
      })
      e
    where
      earlier : ((i : ℕ) → t + 1 ≤ i → i < s → fault (move_of bytes i) ≡ Sound) → fault (move_of bytes t) ≡ Sound → (i : ℕ) → t ≤ i → i < s
          → fault (move_of bytes i) ≡ Sound
      earlier more here i h l =
          by_test (ltb t i)
          (λ (q : ltb t i ≡ true). more i (omega (arith, ltb-true t i q)) l)
          (λ (q : ltb t i ≡ false). let z : i ≡ t = omega (arith, ltb-false t i q) in rw z here)
