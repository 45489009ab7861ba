-- Document 02, request 11: whole micrometres. Coordinates, radii and heights are i32; what is worked out from them is worked out in whole numbers.
use Rattle.std.specs.Prelude.{Bool, cond, List, ℕ, zero, suc, ◌+◌, ◌-◌, ◌*◌, min, max, ltb, leb, ℤ, pos, negsuc, get_or, Option, None, Some}
use Rattle.rules.specs.Every.{is_from}
use Rattle.micro.specs.declared.Box.{Box}

-- ---- numbers

-- What the bits of an i32 stand for: from 2 ^ 31 on they are 2 ^ 32 too many (negsuc a is -(a + 1)).
unfoldable pub whole_of : ℕ → ℤ
whole_of u = cond (ltb u 2147483648) (pos u) (negsuc (4294967295 - u))

-- A number counted from -2147483648, the least i32: order and differences stay what they are, and none is below 0.
unfoldable pub counted : ℤ → ℕ
counted (pos a) = a + 2147483648
counted (negsuc a) = 2147483647 - a

-- The number that was counted so.
unfoldable pub number_of : ℕ → ℤ
number_of k = cond (leb 2147483648 k) (pos (k - 2147483648)) (negsuc (2147483647 - k))

-- 2, 4 and 7: a coordinate has magnitude at most 1,000,000,000; a radius is from 0 to 1,000,000,000. Both counted.
unfoldable pub is_coordinate : ℕ → Bool
is_coordinate k = is_from 1147483648 3147483648 k

unfoldable pub is_radius : ℕ → Bool
is_radius k = is_from 2147483648 3147483648 k

-- ---- triangles

-- Number k of a mesh, counted.
unfoldable pub number_at : List ℤ → ℕ → ℕ
number_at mesh k = counted (get_or mesh k (pos 0))

-- The least and the most of a triangle's three numbers on one axis, which stand at k, k + 3 and k + 6.
unfoldable pub low_at : List ℤ → ℕ → ℕ
low_at mesh k = min (min (number_at mesh k) (number_at mesh (k + 3))) (number_at mesh (k + 6))

unfoldable pub high_at : List ℤ → ℕ → ℕ
high_at mesh k = max (max (number_at mesh k) (number_at mesh (k + 3))) (number_at mesh (k + 6))

-- The box and the top of triangle i, folded from its corners.
unfoldable pub box_of : List ℤ → ℕ → Box
box_of mesh i =
    record {
      low_x = low_at mesh (9 * i);
      low_y = low_at mesh (9 * i + 1);
      high_x = high_at mesh (9 * i);
      high_y = high_at mesh (9 * i + 1);
      top = high_at mesh (9 * i + 2);
    }

-- ---- the first of c numbers from k on that passes a test
unfoldable pub first_where : (ℕ → Bool) → ℕ → ℕ → Option ℕ
first_where test k zero = None
first_where test k (suc c) = cond (test k) (Some k) (first_where test (k + 1) c)
