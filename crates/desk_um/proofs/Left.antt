-- What the library leaves, laid out for C, and read off C's arrays again.
use mathlib.Core.Bool.{Bool, true, ◌&&◌}
use mathlib.Core.List.{List, [], ◌∷◌}
use mathlib.Core.Path.{◌≡◌, refl, sym, ap, ◌∙◌, subst}
use Prim.Native.Nat.{ℕ, ◌*◌, ◌^◌, ◌≤◌, ◌<◌}
use native.Mathlib.Omega.{arith}
use borrow.Author.Tests.{eq-eqb, ne_eqb, eqb-true, leb-true, leb-false}
use lib.Dec.{eqb, leb}
use lib.IntN.{ℤ, pos}
use lib.Pow.{pow_mono}
use Rattle.rules.proofs.Branches.{taken, left, by_test, both_true, no}
use Rattle.fields.specs.Rows.{somewhere}
use Rattle.std.specs.Prelude.{Option, None, Some, Ok, Err, ◌/◌, ◌%◌}
use Rattle.refusals.specs.declared.Refusal.{Refusal}
use Rattle.refusals.specs.Numbers.{number_of as code, told_of}
use Rattle.refusals.proofs.Named.{not_zero}
use Rattle.rules.specs.Every.{is_from}
use Rattle.ask.specs.Ask.{ended}
use Rattle.micro.specs.Micro.{counted, number_of, is_coordinate, is_radius, first_where}
use Rattle.job_um.specs.Reader as reader
use Rattle.job_um.specs.Reader.{Read}
use Rattle.um.specs.declared.Header.{Header}
use Rattle.um.specs.Build.{is_power, in_ranges, Outcome, outcome, told, refused_by, accepted_with, build_of}
use Rattle.um.proofs.Places.{found}
use Rattle.um.proofs.Extents.{coordinate_is}
use Rattle.setup.proofs.Reaching.{radius_is}
use Rattle.setup.proofs.Heads.{from_is}
use Rattle.um.specs.Index.{Index, index_of, BuildPromise}
use Rattle.setup.specs.declared.Question.{Question}
use Rattle.setup.specs.declared.Answer.{Answer as Found}
use Rattle.setup.specs.Answer as answer
use Rattle.setup.specs.Answer.{Answer, setup_height_of}
use Rattle.setup.specs.Demand.{SetupPromise}
use Rattle.desk_um.specs.Doors.{job_left, job_left_by, BuiltLeft, built_left, measures_of, sizes_of, built_left_by}
use Rattle.desk_um.specs.Doors.{header_from, index_from, question_from, height_left, height_left_by, answer_from}

pub counted_number : (k : ℕ) → k < 4294967296 → counted (number_of k) ≡ k
unfolding counted number_of
counted_number k h =
    by_test (leb 2147483648 k)
    (λ t. let l = leb-true 2147483648 k t in rw t (omega arith))
    (λ t. let l = leb-false 2147483648 k t in rw t (omega arith))

pub job_left_lem : (a : Read) (ms qs : List ℤ) (f r : ℤ) → f ≡ a.floor → r ≡ a.radius
    → job_left a.refusal ms qs (f ∷ r ∷ []) (a.n ∷ a.m ∷ []) ≡ job_left_by (reader.ended a ms qs)
unfolding job_left_by
job_left_lem a ms qs f r p q = rw (p, q) refl

pub question_is : (px py qx qy r : ℤ) (a b c d e : ℕ) → a ≡ counted px → b ≡ counted py → c ≡ counted qx → d ≡ counted qy → e ≡ counted r
    → record { px = a; py = b; qx = c; qy = d; r = e } ≡ question_from px py qx qy r
question_is px py qx qy r a b c d e f g h i j = rw (f, g, h, i, j) refl

-- ---- the builder
abbrev left_with : Outcome → List ℤ → List ℕ → BuiltLeft
left_with o fs ns = built_left o.built.refusal o.starts o.members fs ns (o.built.triangle ∷ o.built.number ∷ [])

abbrev zeros : Outcome → BuiltLeft
zeros o = left_with o (pos 0 ∷ pos 0 ∷ pos 0 ∷ pos 0 ∷ []) (0 ∷ 0 ∷ 0 ∷ 0 ∷ [])

abbrev header : Outcome → BuiltLeft
header o = left_with o (measures_of o.built.header) (sizes_of o.built.header)

module _ (mesh : List ℤ) (s m : List ℕ) (F R f r : ℕ) (p : f ≡ F) (q : r ≡ R) (o : Outcome) (e : o ≡ build_of mesh f r s m) where
  built_is : o ≡ build_of mesh F R s m
  built_is = e ∙ (rw (p, q) refl)

  pub refused_left : (o.built.refusal ≡ 0 → ⊥) → zeros o ≡ built_left_by (build_of mesh F R s m)
  unfolding built_left_by
  refused_left some = left (eqb o.built.refusal 0) (zeros o) (header o) (zeros o) (ne_eqb _ 0 some) refl ∙ ap built_left_by built_is

  pub accepted_left : o.built.refusal ≡ 0 → (x y f r : ℤ) → x ≡ number_of o.built.header.x → y ≡ number_of o.built.header.y
      → f ≡ number_of o.built.header.floor → r ≡ number_of o.built.header.r
      → left_with o (x ∷ y ∷ f ∷ r ∷ []) (sizes_of o.built.header) ≡ built_left_by (build_of mesh F R s m)
  unfolding built_left_by
  accepted_left none x y f r a b c d =
      (rw (a, b, c, d) (taken (eqb o.built.refusal 0) (header o) (header o) (zeros o) (eq-eqb _ 0 none) refl)) ∙ ap built_left_by built_is

-- ---- the question
module _ (mesh : List ℤ) (starts members marks m : List ℕ) (stamp : ℕ) (a : Answer) where
  abbrev Tells : Header → Question → Type 0
  Tells h q = (ended a m ≡ setup_height_of (index_of mesh h starts members) marks stamp q) × SetupPromise (index_of mesh h starts members) marks stamp q a

  pub setup_told : (h H : Header) (q Q : Question) → h ≡ H → q ≡ Q → Tells h q → a.height < 4294967296 → (z : ℤ) → z ≡ number_of a.height
      → (height_left a.refusal m (z ∷ []) (a.count ∷ a.stamp ∷ a.met ∷ []) ≡ height_left_by (setup_height_of (index_of mesh H starts members) marks stamp Q))
      × SetupPromise (index_of mesh H starts members) marks stamp Q (answer_from a.refusal (z ∷ []) (a.count ∷ a.stamp ∷ a.met ∷ []))
  unfolding height_left_by
  setup_told h H q Q p k t l z e =
      let u = subst (λ (y : Question). Tells H y) k (subst (λ (x : Header). Tells x q) p t) in
      let n : counted z ≡ a.height = ap counted e ∙ counted_number a.height l in
      ((rw e refl) ∙ ap height_left_by u.0, rw n u.1)

pub question_again : (px py qx qy r : ℤ) (a b c d e : ℤ) → a ≡ px → b ≡ py → c ≡ qx → d ≡ qy → e ≡ r → question_from a b c d e ≡ question_from px py qx qy r
question_again px py qx qy r a b c d e f g h i j = rw (f, g, h, i, j) refl

-- ---- a header in its ranges fits the arrays of C
pub record Narrow (h : Header) : Type 0 where
  pub n : h.n < 4294967296
  pub x : h.x < 4294967296
  pub y : h.y < 4294967296
  pub floor : h.floor < 4294967296
  pub r : h.r < 4294967296
  pub columns : h.columns < 4294967296
  pub rows : h.rows < 4294967296
  pub cell : h.cell < 4294967296

power_at : (cell : ℕ) (p : Option ℕ) → first_where (λ k. eqb (2 ^ k) cell) 0 32 ≡ p → somewhere p ≡ true → cell < 4294967296
unfolding somewhere
power_at cell None q e = absurd (no e)
power_at cell (Some k) q e =
    let f = found (λ k. eqb (2 ^ k) cell) 0 32 k q in
    let z = eqb-true (2 ^ k) cell f.passes in
    let m : 2 ^ k ≤ 2 ^ 31 = pow_mono {i = k} {j = 31} (omega (arith, f.past)) in
    omega (arith, z, m)

power_small : (cell : ℕ) → is_power cell ≡ true → cell < 4294967296
unfolding is_power
power_small cell e = power_at cell _ refl e

pub narrow : (h : Header) → in_ranges h ≡ true → Narrow h
unfolding in_ranges
narrow h e =
    let p : Bool = is_power h.cell in
    let l : Bool = is_from 1 1048576 (h.rows * h.columns) && p in
    let k : Bool = is_from 1 65536 h.rows && l in
    let j : Bool = is_from 1 65536 h.columns && k in
    let i : Bool = is_radius h.r && j in
    let a = both_true (is_from 1 65536 h.n) (is_coordinate h.x && (is_coordinate h.y && (is_coordinate h.floor && i))) e in
    let b = both_true (is_coordinate h.x) (is_coordinate h.y && (is_coordinate h.floor && i)) a.1 in
    let c = both_true (is_coordinate h.y) (is_coordinate h.floor && i) b.1 in
    let d = both_true (is_coordinate h.floor) i c.1 in
    let m = both_true (is_radius h.r) j d.1 in
    let o = both_true (is_from 1 65536 h.columns) k m.1 in
    let u = both_true (is_from 1 65536 h.rows) l o.1 in
    let v = both_true (is_from 1 1048576 (h.rows * h.columns)) p u.1 in
    record {
      n = omega (arith, (from_is 1 65536 h.n a.0).1);
      x = omega (arith, (coordinate_is h.x b.0).1);
      y = omega (arith, (coordinate_is h.y c.0).1);
      floor = omega (arith, (coordinate_is h.floor d.0).1);
      r = omega (arith, (radius_is h.r m.0).1);
      columns = omega (arith, (from_is 1 65536 h.columns o.0).1);
      rows = omega (arith, (from_is 1 65536 h.rows u.0).1);
      cell = power_small h.cell v.1;
    }

pub promise_left : (mesh : List ℤ) (s m : List ℕ) (k : ℕ) (h : Header) (x y f r : ℤ) → x ≡ number_of h.x → y ≡ number_of h.y → f ≡ number_of h.floor
    → r ≡ number_of h.r → Narrow h
    → BuildPromise (index_of mesh h s m) k → BuildPromise (index_from mesh (x ∷ y ∷ f ∷ r ∷ []) (sizes_of h) s m) k
unfolding header_from
promise_left mesh s m k h x y f r a b c d w p =
    rw (
      ap counted a ∙ counted_number h.x w.x,
      ap counted b ∙ counted_number h.y w.y,
      ap counted c
          ∙ counted_number h.floor w.floor,
      ap counted d ∙ counted_number h.r w.r,
    ) p

-- ---- the builder's answer, by its name
module _ (mesh : List ℤ) (F R f r : ℕ) (p : f ≡ F) (q : r ≡ R) (s m s' m' : List ℕ) where
  pub err_left : (e : Refusal) → outcome (told (Err e)) s' m' ≡ build_of mesh f r s m → (k t : ℕ) → k ≡ code e → t ≡ told_of e
      → built_left k s' m' (pos 0 ∷ pos 0 ∷ pos 0 ∷ pos 0 ∷ []) (0 ∷ 0 ∷ 0 ∷ 0 ∷ []) (t / 9 ∷ t % 9 ∷ []) ≡ built_left_by (build_of mesh F R s m)
  unfolding told refused_by
  err_left e l k t u v = rw (u, v) (refused_left mesh s m F R f r p q (outcome (told (Err e)) s' m') l (not_zero e))

  pub ok_left : (h : Header) → outcome (told (Ok h)) s' m' ≡ build_of mesh f r s m → (x y f' r' : ℤ) → x ≡ number_of h.x → y ≡ number_of h.y
      → f' ≡ number_of h.floor → r' ≡ number_of h.r
      → built_left 0 s' m' (x ∷ y ∷ f' ∷ r' ∷ []) (sizes_of h) (0 ∷ 0 ∷ []) ≡ built_left_by (build_of mesh F R s m)
  unfolding told accepted_with
  ok_left h l = accepted_left mesh s m F R f r p q (outcome (told (Ok h)) s' m') l refl

pub err_promise : (ix : Index) (e : Refusal) (k : ℕ) → k ≡ code e → BuildPromise ix k
err_promise ix e k u = record { sound = λ z. absurd (not_zero e (sym u ∙ z)); built = λ z. absurd (not_zero e (sym u ∙ z)) }

module _ (mesh : List ℤ) (h : Header) (s m : List ℕ) (b : BuildPromise (index_of mesh (told (Ok h)).header s m) (told (Ok h)).refusal) where
  -- a header without a refusal fits the arrays of C
  pub fitting : Narrow h
  unfolding told accepted_with
  fitting = narrow h (b.sound refl).ranges

  pub ok_promise : (x y f r : ℤ) → x ≡ number_of h.x → y ≡ number_of h.y → f ≡ number_of h.floor → r ≡ number_of h.r
      → BuildPromise (index_from mesh (x ∷ y ∷ f ∷ r ∷ []) (sizes_of h) s m) 0
  unfolding told accepted_with
  ok_promise x y f r a c d e = promise_left mesh s m 0 h x y f r a c d e fitting b

-- ---- the question's answer, by its name
module _ (mesh : List ℤ) (starts members marks m : List ℕ) (stamp : ℕ) (h H : Header) (q Q : Question) (p : h ≡ H) (k : q ≡ Q) where
  pub ok_told : (a : Found) → Tells mesh starts members marks m stamp (answer.told (Ok a) stamp) h q → (answer.told (Ok a) stamp).height < 4294967296
      → (z : ℤ) → z ≡ number_of a.height
      → (height_left 0 m (z ∷ []) (a.count ∷ a.stamp ∷ a.met ∷ []) ≡ height_left_by (setup_height_of (index_of mesh H starts members) marks stamp Q))
      × SetupPromise (index_of mesh H starts members) marks stamp Q (answer_from 0 (z ∷ []) (a.count ∷ a.stamp ∷ a.met ∷ []))
  unfolding answer.told
  ok_told a t l z e = setup_told mesh starts members marks m stamp (answer.told (Ok a) stamp) h H q Q p k t l z e

  pub err_told : (e : Refusal) → Tells mesh starts members marks m stamp (answer.told (Err e) stamp) h q → (n : ℕ) → n ≡ code e
      → (height_left n m (pos 0 ∷ []) (0 ∷ stamp ∷ 0 ∷ []) ≡ height_left_by (setup_height_of (index_of mesh H starts members) marks stamp Q))
      × SetupPromise (index_of mesh H starts members) marks stamp Q (answer_from n (pos 0 ∷ []) (0 ∷ stamp ∷ 0 ∷ []))
  unfolding answer.told number_of
  err_told e t n u = rw u (setup_told mesh starts members marks m stamp (answer.told (Err e) stamp) h H q Q p k t (omega arith) (pos 0) refl)
