-- What each step of the builder asks of the tables and leaves in them, told for every entry.
use Rattle.std.specs.Prelude.{Bool, true, ◌&&◌, List, ◌⊎◌, ◌≡◌, ℕ, zero, suc, ◌+◌, ◌^◌, ◌≤◌, ◌<◌, leb, ltb, length, get_or}
use Rattle.cells.specs.declared.Cells.{Cells}
use Rattle.cells.specs.Cover.{Cover, members_of, start_of}
use Rattle.rules.specs.Every.{weight}

-- A triangle's cells end inside the columns, and row times columns fits the machine.
pub record Fitting (columns : ℕ) (b : Cells) : Type 0 where
  pub right : b.right < columns
  pub wide : columns ≤ 65536
  pub tall : b.top < 65536

-- ---- a set of cells
abbrev pub Set : Type 0
Set = ℕ → Bool

-- The cells a, a + 1 and so on, before e.
unfoldable pub between : ℕ → ℕ → Set
between a e c = leb a c && ltb c e

-- ---- counting

-- Every cell of the set has an entry that can grow by one.
abbrev pub Countable : Set → List ℕ → Type 0
Countable on s = (c : ℕ) → on c ≡ true → (c < length s) × (get_or s c 0 + 1 < 2 ^ 32)

-- Every cell of the set has one more, every other as many as before.
pub record Counted (on : Set) (s s' : List ℕ) : Type 0 where
  pub size : length s' ≡ length s
  pub each : (c : ℕ) → get_or s' c 0 ≡ get_or s c 0 + weight (on c)

-- The first k entries are 0, the others untouched.
pub record Cleared (k : ℕ) (s s' : List ℕ) : Type 0 where
  pub size : length s' ≡ length s
  pub zeros : (c : ℕ) → c < k → get_or s' c 0 ≡ 0
  pub rest : (c : ℕ) → k ≤ c → get_or s' c 0 ≡ get_or s c 0

-- Every covered cell has an entry, and it is 0.
pub record Room (on : Cover) (n : ℕ) (s : List ℕ) : Type 0 where
  pub inside : (i c : ℕ) → i < n → on i c ≡ true → c < length s
  pub small : (i c : ℕ) → i < n → on i c ≡ true → get_or s c 0 ≡ 0

-- Every entry has grown by the number of its cell's members.
pub record CountedAll (on : Cover) (n : ℕ) (s s' : List ℕ) : Type 0 where
  pub size : length s' ≡ length s
  pub each : (c : ℕ) → get_or s' c 0 ≡ get_or s c 0 + length (members_of on n c)

-- ---- running sums

-- The sum of f 0, f 1 and so on, k terms.
unfoldable pub sums : (ℕ → ℕ) → ℕ → ℕ
sums f zero = 0
sums f (suc k) = sums f k + f k

-- Entry c of a table.
abbrev pub entry : List ℕ → ℕ → ℕ
entry s c = get_or s c 0

-- Entry c, of the first k, is now the sum of entries 0 to c.
pub record Summed (k : ℕ) (s s' : List ℕ) : Type 0 where
  pub size : length s' ≡ length s
  pub each : (c : ℕ) → c < k → get_or s' c 0 ≡ sums (entry s) (c + 1)
  pub rest : (c : ℕ) → k ≤ c → get_or s' c 0 ≡ get_or s c 0

-- ---- placing

-- Every cell of the set has a start above 0, and one less is a place among the members.
pub record Open (on : Set) (s m : List ℕ) : Type 0 where
  pub inside : (c : ℕ) → on c ≡ true → c < length s
  pub some : (c : ℕ) → on c ≡ true → 0 < get_or s c 0
  pub room : (c : ℕ) → on c ≡ true → get_or s c 0 ≤ length m

-- Triangle i stands in every cell of the set: the start is one less, i stands where it now points, and no other entry is touched.
pub record Placed (on : Set) (i : ℕ) (s m s' m' : List ℕ) : Type 0 where
  pub cells : length s' ≡ length s
  pub size : length m' ≡ length m
  pub each : (c : ℕ) → get_or s' c 0 + weight (on c) ≡ get_or s c 0
  pub put : (c : ℕ) → on c ≡ true → get_or m' (get_or s' c 0) 0 ≡ i
  pub either : (p : ℕ) → (get_or m' p 0 ≡ i) ⊎ (get_or m' p 0 ≡ get_or m p 0)
  pub rest : (p : ℕ) → ((c : ℕ) → on c ≡ true → get_or s' c 0 ≡ p → ⊥) → get_or m' p 0 ≡ get_or m p 0

-- Before the placing: each of the `cells` starts points behind its cell, covered cells are among them, and all members have room.
pub record Ready (on : Cover) (n cells : ℕ) (s m : List ℕ) : Type 0 where
  pub inside : (i c : ℕ) → i < n → on i c ≡ true → c < cells
  pub table : cells ≤ length s
  pub room : start_of on n cells ≤ length m
  pub each : (c : ℕ) → c < cells → get_or s c 0 ≡ start_of on n (c + 1)

-- Half way: of n triangles those from j on stand in their cells, and each start points behind the members below j, where the next one goes.
-- Entries behind the cells and behind all members are untouched.
pub record Filled (on : Cover) (n cells j : ℕ) (s₀ m₀ s m : List ℕ) : Type 0 where
  pub cells' : length s ≡ length s₀
  pub size : length m ≡ length m₀
  pub each : (c : ℕ) → c < cells → get_or s c 0 ≡ start_of on n c + length (members_of on j c)
  pub past : (c : ℕ) → cells ≤ c → get_or s c 0 ≡ get_or s₀ c 0
  pub put : (c k : ℕ) → c < cells → length (members_of on j c) ≤ k → k < length (members_of on n c) → get_or m (start_of on n c + k) 0 ≡ get_or (members_of on n c) k 0
  pub rest : (p : ℕ) → start_of on n cells ≤ p → get_or m p 0 ≡ get_or m₀ p 0

-- What the tables must have room for: the cells and one start more, and all members.
pub record Fits (on : Cover) (n cells : ℕ) (s m : List ℕ) : Type 0 where
  pub inside : (i c : ℕ) → i < n → on i c ≡ true → c < cells
  pub table : cells + 1 ≤ length s
  pub room : start_of on n cells ≤ length m
  pub small : start_of on n cells < 2 ^ 32
