-- What a C function leaves behind: its answer, the lent tables, and the fixed arrays with the rest of the library's answer.
use Rattle.std.specs.Prelude.{cond, List, [], ◌∷◌, ◌≡◌, ℕ, eqb, Float, get_or}
use Rattle.numbers.specs.Reals.{f0, num}
use Rattle.grid.specs.Build.{Outcome}
use Rattle.handed.specs.Handed.{measures_of, sizes_of}
use Rattle.ask.specs.Ask.{Answer}
use Rattle.ask.specs.Ask as asked

-- An index built: the refusal, the three tables, measures and sizes, and which number was bad; a refusal leaves zeros in measures and sizes, and any outcome
-- but 4 leaves zeros in the last.
pub record BuiltLeft : Type 0 where
  pub refusal : ℕ
  pub starts : List ℕ
  pub members : List ℕ
  pub boxes : List Float
  pub measures : List Float
  pub sizes : List ℕ
  pub bad : List ℕ

abbrev pub built_left : ℕ → List ℕ → List ℕ → List Float → List Float → List ℕ → List ℕ → BuiltLeft
built_left k s m x fs ns bs = record { refusal = k; starts = s; members = m; boxes = x; measures = fs; sizes = ns; bad = bs }

unfoldable pub built_left_by : Outcome → BuiltLeft
built_left_by o =
    let k = o.built.refusal in
    let h = o.built.header in
    let bad = o.built.triangle ∷ o.built.number ∷ [] in
    cond (eqb k 0)
    (built_left k o.starts o.members o.boxes (measures_of h) (sizes_of h) bad)
    (built_left k o.starts o.members o.boxes (f0 ∷ f0 ∷ f0 ∷ f0 ∷ f0 ∷ f0 ∷ []) (0 ∷ 0 ∷ 0 ∷ []) bad)

-- A height asked: the refusal, the marks, the height, the count and the stamp afterwards; the triangle that last raised the height and what of it is touched.
pub record HeightLeft : Type 0 where
  pub refusal : ℕ
  pub marks : List ℕ
  pub height : List Float
  pub counts : List ℕ
  pub touched : List ℕ

abbrev pub height_left : ℕ → List ℕ → List Float → List ℕ → List ℕ → HeightLeft
height_left k ms hs ns ts = record { refusal = k; marks = ms; height = hs; counts = ns; touched = ts }

unfoldable pub height_left_by : asked.Outcome Answer → HeightLeft
height_left_by o =
    let a = o.answer in
    height_left a.refusal o.marks (a.height ∷ []) (a.count ∷ a.stamp ∷ []) (a.triangle ∷ a.kind ∷ a.which ∷ [])

-- The height's answer that C reads off its arrays.
abbrev pub answer_from : ℕ → List Float → List ℕ → List ℕ → Answer
answer_from k fs ns ts =
    record {
      refusal = k;
      height = num fs 0;
      count = get_or ns 0 0;
      stamp = get_or ns 1 0;
      triangle = get_or ts 0 0;
      kind = get_or ts 1 0;
      which = get_or ts 2 0;
    }

-- What C's arrays hold where the answer a was laid into them, and the refusal beside them.
abbrev pub Laid : ℕ → List Float → List ℕ → List ℕ → Answer → Type 0
Laid k fs ns ts a =
    (k ≡ a.refusal) × (fs ≡ (a.height ∷ [])) × (ns ≡ (a.count ∷ a.stamp ∷ [])) × (ts ≡ (a.triangle ∷ a.kind ∷ a.which ∷ []))
