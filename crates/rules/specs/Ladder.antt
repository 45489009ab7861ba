-- Document 01, "Refusal numbers": tests in an order, of which the first that fails gives its number; 0 is no refusal.
use Rattle.std.specs.Prelude.{Bool, cond, ℕ}

-- Refusal k where b holds, else the next.
unfoldable pub refuse : Bool → ℕ → ℕ → ℕ
refuse b k next = cond b k next

-- Refusal k where b does not hold, else the next.
unfoldable pub demand : Bool → ℕ → ℕ → ℕ
demand b k next = cond b next k
